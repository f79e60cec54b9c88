-- What a `Tokens` shows, and what it keeps ready.
use Rattle.std.specs.Prelude.{◌≡◌, ℕ, ◌+◌, ◌≤◌, ◌<◌, ◌^◌, false, if◌then◌else◌, List, [], ◌∷◌, ◌++◌, length, slice_index, Option, Some, None, Result, Ok, Err, IsAscii}
use Rattle.std.specs.Borrow.{Bor}
use Rattle.std.specs.BTreeMap.{BTreeMap, get_by}
use Rattle.std.specs.Str.{bytes_eq}
use Rattle.std.specs.Cmp.Lexicographic.{slice_cmp}
use Rattle.std.specs.Ordering.{nat_cmp}
use Rattle.mpd_model.specs.declared.limits.TheConstants.{CELLS_MAX, HANDLES_MAX, STATEMENTS_MAX}
use Rattle.mpd_model.specs.declared.read_fault.FaultCode.TheVariants.{Memory}
use Rattle.mpd_model.specs.declared.read_fault.ReadFault.{ReadFault}
use Rattle.mpd_model.specs.declared.slot.Slot.{Slot}
use Rattle.mpd_model.specs.script.Declaration.{Declared, variables_in, handles_in}
use Rattle.mpd_model.specs.grammar.Input.{Input, slot_in}
use Rattle.mpd_model.specs.grammar.Tokens.{front, tokens_at, is_gap}
use Rattle.mpd_model.specs.declared.token.Token.{Token}
use Rattle.mpd_model.specs.declared.token.Token.TheVariants.{End}
use Rattle.mpd_script.specs.declared.cursor.Tokens.TheInside.{Inside}

-- the token at the front of a text, or the end
abbrev pub first : List ℕ → Token × ℕ
first [] = (End, 0)
first (b ∷ z) = front (b ∷ z)

abbrev pub input_of : Inside → Input
input_of t = record {
  tokens = tokens_at t.place t.line t.ahead.now;
  end = t.place + length t.ahead.now;
  version = t.version;
  decls = t.decls.items;
  lines = t.lines.items;
  budget = t.budget;
}

-- what a name stands for in a map
abbrev pub found_in : BTreeMap (Bor (List ℕ)) Slot → List ℕ → Option Slot
found_in m name = get_by (λ k. slice_cmp nat_cmp name k.now) m

abbrev pub or_else : Option Slot → Option Slot → Option Slot
or_else (Some s) o = Some s
or_else None o = o

-- the name stands for this, if it stood for nothing, and every other for what it did
abbrev pub IsPutNew : List ℕ → Slot → BTreeMap (Bor (List ℕ)) Slot → BTreeMap (Bor (List ℕ)) Slot → Type 0
IsPutNew name slot m n = (w : List ℕ) → found_in n w ≡ or_else (found_in m w) (if bytes_eq name w then Some slot else None)

-- one declaration more, or memory was refused
abbrev pub DeclaredBy : Input → Declared → Result (Unit {0}) ReadFault → Input → Type 0
DeclaredBy old d (Ok done) new = new ≡ record old { decls = old.decls ++ d ∷ [] }
DeclaredBy old d (Err f) new = (f.code ≡ Memory) × (f.place ≡ 0)

pub record IsReady (t : Inside) : Type 0 where
  pub token : (t.token, t.len) ≡ first t.ahead.now
  pub within : t.len ≤ length t.ahead.now
  pub moves : 0 < length t.ahead.now → 0 < t.len
  pub stops : 0 < length t.ahead.now → is_gap (slice_index t.ahead.now 0) ≡ false
  pub ascii : IsAscii t.ahead.now
  pub end : t.place + length t.ahead.now < 2 ^ 32
  pub line : t.line ≤ t.place + 1
  pub budget : t.budget ≤ 64
  pub variables : t.variables ≡ variables_in t.decls.items
  pub handles : t.handles ≡ handles_in t.decls.items
  pub slots : (name : List ℕ) → found_in t.slots name ≡ slot_in t.decls.items name
  pub few_variables : t.variables ≤ CELLS_MAX
  pub few_handles : t.handles ≤ HANDLES_MAX
  pub few_lines : length t.lines.items ≤ STATEMENTS_MAX
