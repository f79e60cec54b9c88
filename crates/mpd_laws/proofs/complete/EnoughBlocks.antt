-- A number of blocks that is enough may as well be larger.
use Rattle.std.proofs.Common.{◌≡◌, ℕ, zero, suc, ◌+◌, Bool, true, false, cond, List, [], ◌∷◌, length, ◌++◌, Ok, Err, refl, arith, inl, inr}
use Rattle.std.proofs.lemmas.Bool.{cases_Bool}
use Rattle.mpd_model.specs.declared.token.Symbol.TheVariants as m
use Rattle.mpd_model.specs.declared.token.Token.{Token}
use Rattle.mpd_model.specs.declared.token.Token.TheVariants.{Is}
use Rattle.mpd_model.specs.grammar.Grammar.{expression, begin_statement, closes, otherwise, if_statement, while_statement, stmt_by, stmt, stmts, body, block}
use Rattle.mpd_model.specs.grammar.Input.{Input, Outcome, Parser, and_then, token, expect, sees, after, pure}
use Rattle.mpd_model.specs.grammar.ReaderLaws.{IsNotTooDeep}
use Rattle.mpd_model.specs.script.Tree.{Tree}

-- where the first isn't too deep, the second does the same
abbrev Same : {A : Type 0} → Parser A → Parser A → Type 0
Same p q = (i : Input) → IsNotTooDeep (p i) → q i ≡ p i

bind_same : {A B : Type 0} (o u : Outcome A) (f g : A → Parser B) → (IsNotTooDeep o → u ≡ o)
    → ((x : A × Input) → IsNotTooDeep (f x.0 x.1) → g x.0 x.1 ≡ f x.0 x.1) → IsNotTooDeep (and_then o f) → and_then u g ≡ and_then o f
bind_same (Ok x) u f g a b h = rw (a tt) (b x h)
bind_same (Err c) u f g a b h = rw (a h) refl

otherwise_case : (p q : Parser (List Tree)) → Same p q → (found : Bool) (i : Input) → IsNotTooDeep (cond found p (pure []) i) → cond found q (pure []) i ≡ cond found p (pure []) i
otherwise_case p q a true i h = a i h
otherwise_case p q a false i h = refl

otherwise_same : (p q : Parser (List Tree)) → Same p q → Same (otherwise p) (otherwise q)
unfolding otherwise
otherwise_same p q a i h = otherwise_case p q a (sees m.Else i) (after m.Else i) h

if_statement_same : (p q : Parser (List Tree)) → Same p q → Same (if_statement p) (if_statement q)
unfolding if_statement
if_statement_same p q a i h =
    bind_same (expression i) (expression i) _ _ (λ d. refl) (λ x c.
    bind_same (p x.1) (q x.1) _ _ (a x.1) (λ y c'.
    bind_same (otherwise p y.1) (otherwise q y.1) _ _ (otherwise_same p q a y.1) (λ z c''. refl) c') c) h

while_statement_same : (p q : Parser (List Tree)) → Same p q → Same (while_statement p) (while_statement q)
unfolding while_statement
while_statement_same p q a i h =
    bind_same (expression i) (expression i) _ _ (λ d. refl) (λ x c.
    bind_same (p x.1) (q x.1) _ _ (a x.1) (λ y c'. refl) c) h

stmt_case : (p q : Parser (List Tree)) → Same p q → (tk : Token) → Same (stmt_by p tk) (stmt_by q tk)
stmt_case p q a (Is m.If) i h = bind_same (begin_statement i) (begin_statement i) _ _ (λ d. refl) (λ x c. if_statement_same p q a x.1 c) h
stmt_case p q a (Is m.While) i h = bind_same (begin_statement i) (begin_statement i) _ _ (λ d. refl) (λ x c. while_statement_same p q a x.1 c) h
stmt_case p q a _ i h = refl

stmt_same : (p q : Parser (List Tree)) → Same p q → Same (stmt p) (stmt q)
unfolding stmt
stmt_same p q a i h = stmt_case p q a (token i) i h

stmts_same : (p q : Parser (List Tree)) → Same p q → (inside : Bool) (n : ℕ) (found : List Tree) → Same (stmts p inside n found) (stmts q inside n found)
unfolding stmts
stmts_same p q a inside zero found i h = refl
stmts_same p q a inside (suc n) found i h =
    elim (cases_Bool (closes inside (token i))) [
      | inl is ↦ rw is refl
      | inr other ↦
          let h' = rw other at h in
          rw other (bind_same (stmt p i) (stmt q i) _ _ (stmt_same p q a i) (λ x c. stmts_same p q a inside n (found ++ x.0 ∷ []) x.1 c) h')
    ]

body_same : (p q : Parser (List Tree)) → Same p q → (inside : Bool) → Same (body p inside) (body q inside)
unfolding body
body_same p q a inside i h = stmts_same p q a inside (length i.tokens + 1) [] i h

none_case : (e : ℕ) (i : Input) → IsNotTooDeep (block zero i) → block (suc e) i ≡ block zero i
unfolding block expect
none_case e i h =
    elim (cases_Bool (sees m.BraceOpen i)) [
      | inl is ↦ let deep = rw is at h in absurd (deep refl)
      | inr other ↦ rw other refl
    ]

block_same : (e n more : ℕ) → more ≡ n + e → Same (block n) (block more)
unfolding block
block_same e zero zero is i h = refl
block_same e zero (suc more) is i h = none_case more i h
block_same e (suc n) more is i h =
    let one : more ≡ suc (n + e) = omega arith in
    rw one (bind_same (expect m.BraceOpen i) (expect m.BraceOpen i) _ _ (λ d. refl) (λ x c.
    bind_same (body (block n) true x.1) (body (block (n + e)) true x.1) _ _ (body_same (block n) (block (n + e)) (block_same e n (n + e) refl) true x.1) (λ y c'. refl) c) h)

pub body_more : (depth more : ℕ) (inside : Bool) (i : Input) → IsNotTooDeep (body (block depth) inside i) → body (block (depth + more)) inside i ≡ body (block depth) inside i
body_more depth more inside i h = body_same (block depth) (block (depth + more)) (block_same more depth (depth + more) refl) inside i h
