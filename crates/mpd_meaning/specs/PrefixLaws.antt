-- What stands before a fault.
use Rattle.std.specs.Prelude.{◌≡◌, ℕ, Bool, true, false, ◌||◌, if◌then◌else◌, nat_lt, List, [], ◌∷◌, ◌++◌, Result, Err, codes, refl}
use Rattle.std.specs.Result.{is_ok}
use Rattle.mpd_model.specs.declared.place.DeclKind.{DeclKind}
use Rattle.mpd_model.specs.declared.place.DeclKind.TheVariants.{Variable, Handle}
use Rattle.mpd_model.specs.declared.read_fault.FaultCode.TheVariants.{UnknownName, Expected}
use Rattle.mpd_model.specs.declared.read_fault.ReadFault.{ReadFault}
use Rattle.mpd_model.specs.declared.token.Symbol.TheVariants as m
use Rattle.mpd_model.specs.declared.token.Token.{Token}
use Rattle.mpd_model.specs.declared.token.Token.TheVariants.{Is}
use Rattle.mpd_model.specs.grammar.Faults.{fault}
use Rattle.mpd_model.specs.grammar.Grammar.{reading, script, header, version, ranks, decls, decls_from, decl, declarator, single, array_size, body, stmts, stmt, block, if_statement, otherwise, while_statement, target, statement_place, source, status, assignment, expr, level, chain, atom, place_inside, bracket, rounds, unary}
use Rattle.mpd_model.specs.grammar.Input.{count, spend, seek, slot_in, fresh, add, expect, after, sees, same_symbol, advanced, place, spelling, token, refusal}
use Rattle.mpd_model.specs.script.Program.{Program}
use Rattle.mpd_model.specs.grammar.Tokens.{Spot, tokens, tokens_after, front, sign, word, number}
use Rattle.mpd_model.specs.grammar.Written.{WrittenScript}
use Rattle.mpd_meaning.specs.FaultLaws.{IsText, IsLimit}

-- Some tokens after these make of them a script that the grammar writes, however large.
pub record CanBeCompleted (before : List Spot) : Type 0 where
  pub more : List Spot
  pub program : Program
  pub written : WrittenScript (before ++ more) program

-- the words after which a statement names a variable or a handle
abbrev pub names : DeclKind → Token → Bool
names Variable (Is m.Recv) = true
names Variable (Is m.Irecv) = true
names Variable (Is m.Waitany) = true
names Handle (Is m.Isend) = true
names Handle (Is m.Issend) = true
names Handle (Is m.Irecv) = true
names Handle (Is m.Wait) = true
names Handle (Is m.Waitany) = true
names _ _ = false

-- the word that declares them
abbrev pub announces : DeclKind → Token → Bool
announces Variable (Is m.Var) = true
announces Handle (Is m.Req) = true
announces _ _ = false

abbrev pub some_names : DeclKind → List Spot → Bool
some_names kind [] = false
some_names kind (s ∷ ss) = names kind s.token || some_names kind ss

abbrev pub some_declares : DeclKind → List Spot → Bool
some_declares kind [] = false
some_declares kind (s ∷ ss) = announces kind s.token || some_declares kind ss

-- Where a word stands among the tokens after which a variable or a handle is named, some are declared among them.
abbrev pub HasWhatItNames : List Spot → Type 0
HasWhatItNames ss = (kind : DeclKind) → some_names kind ss ≡ true → some_declares kind ss ≡ true

-- the tokens that stand before a place
abbrev pub before : ℕ → List Spot → List Spot
before p [] = []
before p (s ∷ ss) = if nat_lt s.place p then s ∷ before p ss else before p ss

-- Where no variable is declared nothing can follow `recv`, yet the fault is at the name after it.
abbrev nothing_declared : List ℕ
nothing_declared = codes "mpd 1; ranks 2; recv x;"

abbrev shown : List ℕ → ℕ → Result Program ReadFault × (Bool × Bool)
shown text p = (reading text, (some_names Variable (before p (tokens text)), some_declares Variable (before p (tokens text))))

pub row_nothing_declared : shown nothing_declared 21 ≡ (Err (fault UnknownName 21), (true, false))
unfolding reading script header version ranks decls decls_from decl declarator single array_size body stmts stmt block if_statement otherwise while_statement target statement_place source status assignment expr level chain atom place_inside bracket rounds unary count spend seek slot_in fresh add expect after sees same_symbol advanced place spelling token refusal tokens_after front sign word number
row_nothing_declared = refl

-- Where one is, what stands before the fault goes on with its name.
pub row_declared : shown (codes "mpd 1; ranks 2; var x; recv 7") 28 ≡ (Err (fault Expected 28), (true, true))
unfolding reading script header version ranks decls decls_from decl declarator single array_size body stmts stmt block if_statement otherwise while_statement target statement_place source status assignment expr level chain atom place_inside bracket rounds unary count spend seek slot_in fresh add expect after sees same_symbol advanced place spelling token refusal tokens_after front sign word number
row_declared = refl

pub row_completed : is_ok (reading (codes "mpd 1; ranks 2; var x; recv x from 0 tag 0;")) ≡ true
unfolding reading script header version ranks decls decls_from decl declarator single array_size body stmts stmt block if_statement otherwise while_statement target statement_place source status assignment expr level chain atom place_inside bracket rounds unary count spend seek slot_in fresh add expect after sees same_symbol advanced place spelling token refusal tokens_after front sign word number
row_completed = refl

-- What stands before a fault, of whatever kind, isn't wrong yet, where it has what it names.
abbrev pub WhatStandsBeforeAFaultCanBeCompleted : Type 0
WhatStandsBeforeAFaultCanBeCompleted =
    (text : List ℕ) (f : ReadFault) → IsText text → reading text ≡ Err f → HasWhatItNames (before f.place (tokens text)) → CanBeCompleted (before f.place (tokens text))

-- Tokens that can be completed have what they name. So no more could be said: where they haven't, nothing completes them.
abbrev pub OnlyWhatIsDeclaredIsNamed : Type 0
OnlyWhatIsDeclaredIsNamed = (first : List Spot) → CanBeCompleted first → HasWhatItNames first

-- Some script that the grammar writes begins with these tokens, and none with these and the next.
pub record IsFirstWrong (first : List Spot) (next : Spot) : Type 0 where
  pub right : CanBeCompleted first
  pub wrong : CanBeCompleted (first ++ next ∷ []) → ⊥

-- So a fault of no limit is at the first token that can't be right.
abbrev pub AFaultIsAtTheFirstWrongToken : Type 0
AFaultIsAtTheFirstWrongToken =
    (text : List ℕ) (first behind : List Spot) (next : Spot) (f : ReadFault) → IsText text → tokens text ≡ first ++ next ∷ behind
    → reading text ≡ Err f → f.place ≡ next.place → (IsLimit f.code → ⊥) → HasWhatItNames first → IsFirstWrong first next
