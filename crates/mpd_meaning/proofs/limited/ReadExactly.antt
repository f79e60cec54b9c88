-- What is read as a script is written so within the limits, and the other way round.
use Rattle.std.proofs.Common.{◌≡◌, ◌↔◌, ℕ, suc, ◌+◌, ◌≤◌, Bool, true, false, cond, nat_lt, List, [], ◌∷◌, length, Ok, refl, ap, subst, ◌∙◌, arith}
use Rattle.std.proofs.lemmas.Bool.Decides.{nat_tests}
use Rattle.std.proofs.lemmas.List.Elements.{All-from_recursion, recursion_from_All}
use Rattle.std.specs.List.{prefix_len, AllByRecursion}
use Rattle.mpd_model.specs.grammar.Grammar.{header, stmt, stmts, body, block, closes, max_blocks, max_text, is_text, read_of, reading}
use Rattle.mpd_model.specs.grammar.Grammar as grammar
use Rattle.mpd_model.specs.grammar.Input.{Input, start_of}
use Rattle.mpd_model.specs.grammar.Printable.{ReadScriptsArePrintable}
use Rattle.mpd_model.specs.script.Program.{Program, IsBlockOf, IsLegal}
use Rattle.mpd_model.specs.grammar.ReaderLaws.{StatementsAreOfVersion, WrittenScriptsAreRead}
use Rattle.mpd_model.specs.grammar.Tokens.{Spot, tokens}
use Rattle.mpd_model.specs.script.Tree.{Tree, block_of, statements_in}
use Rattle.mpd_laws.proofs.cutting.Ends.{NoEnd, tokens_real}
use Rattle.mpd_laws.proofs.sound.Sound.{bind_ok, ok_parts}
use Rattle.mpd_laws.proofs.sound.SoundScript.{Header, header_ok, lines_counted, CheapScript, script_is, body_closed, nothing_left, read_ok, refused}
use Rattle.mpd_laws.proofs.sound.SoundStatements.{IsFew, statements_sound}
use Rattle.mpd_meaning.specs.ReadingLaws.{IsWrittenWithin}
use Rattle.mpd_meaning.proofs.limited.Limits.{HeaderWithin, header_within}

-- ---- a script

-- what is read of a script, but for its blocks
record IsRead (ss : List Spot) (p : Program) : Type 0 where
  written : CheapScript ss p
  legal : IsLegal p

legal_is : (n : ℕ) (i x y : Input) (ts : List Tree) → Header n i x → HeaderWithin n x → IsBlockOf x.version (block_of ts) → y.version ≡ x.version → y.decls ≡ x.decls → IsFew y
    → length y.lines ≡ statements_in (block_of ts) → IsLegal (record { version = y.version; ranks = n; decls = y.decls; body = ts; lines = y.lines })
legal_is n i x y ts head h inside kept same few lines =
    rw (kept, same) (record {
      some_version = head.some_version;
      version = head.known;
      body = inside;
      some_rank = h.low;
      ranks = h.high;
      variables = h.cells.variables;
      handles = h.cells.handles;
      statements = omega (arith, few, lines);
      lines = lines;
    })

script_read : StatementsAreOfVersion → (i : Input) (y : Program × Input) → NoEnd i.tokens → i.decls ≡ [] → i.lines ≡ [] → grammar.script i ≡ Ok y → IsRead i.tokens y.0
unfolding grammar.script
script_read versions i y real d l h =
    let a = bind_ok (header i) _ y h in
    let b = bind_ok (body (block max_blocks) false a.0.1) _ y a.2 in
    let o = ok_parts (record { version = b.0.1.version; ranks = a.0.0; decls = b.0.1.decls; body = b.0.0; lines = b.0.1.lines }, b.0.1) y b.2 in
    let head = header_ok i a.0 a.1 in
    let within = header_within i a.0 (rw d (record { variables = omega arith; handles = omega arith })) a.1 in
    let tail = statements_sound max_blocks false a.0.1 b.0.1 b.0.0 b.1 in
    let closed = body_closed (block max_blocks) false a.0.1 b.0.1 b.0.0 b.1 in
    let none_yet : IsFew a.0.1 = omega (arith, ap length (head.lines ∙ l)) in
    let inside = versions max_blocks false a.0.1 b.0.1 b.0.0 head.some_version b.1 in
    let counted = lines_counted i a.0.1 b.0.1 a.0.0 b.0.0 max_blocks false l a.1 b.1 in
    subst (IsRead i.tokens) o.0
    (record {
      written = script_is i a.0.1 b.0.1 a.0.0 b.0.0 d l head tail (nothing_left i a.0.1 b.0.1 a.0.0 b.0.0 real head tail closed);
      legal = legal_is a.0.0 i a.0.1 b.0.1 b.0.0 head within inside tail.version tail.decls (tail.few none_yet) counted;
    })

-- ---- the whole text

-- all bytes are of the text exactly where the first that is not would stand behind them
one_more : (t : ℕ → Bool) (b : ℕ) (z : List ℕ) (c : Bool) → t b ≡ c → (length z ≤ prefix_len t z → AllByRecursion (λ b. t b ≡ true) z) → suc (length z) ≤ cond c (1 + prefix_len t z) 0
    → AllByRecursion (λ b. t b ≡ true) (b ∷ z)
one_more t b z true e more le = (e, more (omega (arith, le)))
one_more t b z false e more le = absurd (omega (arith, le))

all_text : (t : ℕ → Bool) (z : List ℕ) → length z ≤ prefix_len t z → AllByRecursion (λ b. t b ≡ true) z
all_text t [] h = tt
all_text t (b ∷ z) h = one_more t b z (t b) refl (all_text t z) h

pub text_all : (t : ℕ → Bool) (z : List ℕ) → AllByRecursion (λ b. t b ≡ true) z → prefix_len t z ≡ length z
text_all t [] h = refl
text_all t (b ∷ z) h = ap (λ (c : Bool). cond c (1 + prefix_len t z) 0) h.0 ∙ omega (arith, text_all t z h.1)

record IsReadText (text : List ℕ) (p : Program) : Type 0 where
  read : IsRead (tokens text) p
  short : length text ≤ max_text
  bytes : length text ≤ prefix_len is_text text

text_read : StatementsAreOfVersion → (text : List ℕ) (p : Program) → reading text ≡ Ok p → IsReadText text p
unfolding reading
text_read versions text p h =
    let a = refused (nat_lt max_text (length text)) _ _ p h in
    let b = refused (nat_lt (prefix_len is_text text) (length text)) _ _ p a.1 in
    let c = read_ok (grammar.script (start_of text)) p b.1 in
    record {
      read = script_read versions (start_of text) (p, c.0) (tokens_real 0 0 1 text) refl refl c.1;
      short = let x = a.0 in grind (arith, nat_tests);
      bytes = let x = b.0 in grind (arith, nat_tests);
    }

within : StatementsAreOfVersion → ReadScriptsArePrintable → (text : List ℕ) (p : Program) → reading text ≡ Ok p → IsWrittenWithin text p
within versions printable text p h =
    let r = text_read versions text p h in
    record {
      written = r.read.written.0;
      short = r.short;
      bytes = All-from_recursion (λ b. is_text b ≡ true) text (all_text is_text text r.bytes);
      legal = r.read.legal;
      blocks = (printable text p h r.read.legal).blocks;
      brackets = r.read.written.1;
    }

pub read_exactly : StatementsAreOfVersion → ReadScriptsArePrintable → WrittenScriptsAreRead → (text : List ℕ) (p : Program) → (reading text ≡ Ok p) ↔ IsWrittenWithin text p
read_exactly versions printable complete text p = (
  within versions printable text p,
  λ w. complete text p w.written w.short (text_all is_text text (recursion_from_All (λ b. is_text b ≡ true) text w.bytes)) w.legal w.blocks w.brackets,
)
