-- What is written as an expression is read, or refused by a limit.
use Rattle.std.proofs.Common.{◌≡◌, ◌≢◌, ◌⊎◌, ℕ, suc, ◌+◌, ◌-◌, ◌<◌, List, [], ◌∷◌, ◌++◌, length, Bool, true, false, nat_lt, Ok, Err, inl, inr, refl, ap, sym, ◌∙◌, arith}
use Rattle.mpd_model.specs.declared.limits.TheConstants.{NESTING_MAX, STATEMENTS_MAX}
use Rattle.mpd_model.specs.declared.read_fault.FaultCode.{FaultCode}
use Rattle.mpd_model.specs.declared.read_fault.FaultCode.TheVariants.{TooDeep}
use Rattle.mpd_model.specs.grammar.Costs.{cost, Stops, at, on, Gives}
use Rattle.mpd_model.specs.grammar.Grammar.{expr, expression, begin_statement}
use Rattle.mpd_model.specs.grammar.Input.{Input, Outcome, Parser, and_then, advanced, count}
use Rattle.mpd_model.specs.grammar.ReaderLaws.{IsNotTooDeep, with_more, leaving_more}
use Rattle.mpd_model.specs.script.Term.{Term}
use Rattle.mpd_model.specs.grammar.Tokens.{Spot}
use Rattle.mpd_model.specs.grammar.Written.{WrittenTerm}
use Rattle.mpd_laws.proofs.complete.Complete.{expr_complete}
use Rattle.mpd_laws.proofs.complete.Enough.{expr_more}
use Rattle.mpd_meaning.specs.FaultLaws.{IsLimit, IsRefusedByALimit}
use Rattle.mpd_laws.proofs.sound.Sound.{ok_of, ok_parts}

-- ---- one after another

-- read, with these tokens left and these lines noted; or refused by a limit
abbrev pub GivesOrLimited : {A : Type 0} → Outcome A → A → List Spot → List ℕ → Input → Type 0
GivesOrLimited o a rest ls i = Gives o a rest ls i ⊎ IsRefusedByALimit o

pub limited_bind : {A B : Type 0} (o : Outcome A) (f : A → Parser B) → IsRefusedByALimit o → IsRefusedByALimit (and_then o f)
limited_bind (Ok p) f h = absurd h
limited_bind (Err e) f h = h

-- where the first part is read or refused, and the rest goes on behind it
pub then_limited : {A B : Type 0} (o : Outcome A) (f : A → Parser B) (a : A) (c : B) (us rest : List Spot) (ls ms : List ℕ) (i : Input) → GivesOrLimited o a us ls i
    → ((b : ℕ) → GivesOrLimited (f a (on us ls b i)) c rest ms i) → GivesOrLimited (and_then o f) c rest ms i
then_limited o f a c us rest ls ms i (inl g) next = rw g.is (next g.left)
then_limited o f a c us rest ls ms i (inr l) next = inr (limited_bind o f l)

-- where the first part is read for certain
pub step_limited : {A B : Type 0} (o : Outcome A) (f : A → Parser B) (x : A × Input) (c : B) (rest : List Spot) (ms : List ℕ) (i : Input) → o ≡ Ok x
    → GivesOrLimited (f x.0 x.1) c rest ms i → GivesOrLimited (and_then o f) c rest ms i
step_limited o f x c rest ms i e h = rw e h

pub same_limited : {A : Type 0} (o p : Outcome A) (a : A) (rest : List Spot) (ls : List ℕ) (i : Input) → o ≡ p → GivesOrLimited p a rest ls i → GivesOrLimited o a rest ls i
same_limited o p a rest ls i e h = rw e h

pub given : {A : Type 0} (a : A) (rest : List Spot) (ls : List ℕ) (b : ℕ) (i : Input) → GivesOrLimited (ok_of (a, on rest ls b i)) a rest ls i
given a rest ls b i = inl (record { left = b; is = refl })

-- ---- a statement begins

begun : (few : Bool) (ls : List ℕ) (k : Spot) (rest : List Spot) (b : ℕ) (i : Input) → nat_lt (length ls) STATEMENTS_MAX ≡ few
    → GivesOrLimited (begin_statement (on (k ∷ rest) ls b i)) tt rest (ls ++ k.line ∷ []) i
unfolding count advanced
begun true ls k rest b i e = rw e (inl (record { left = b; is = refl }))
begun false ls k rest b i e = rw e (inr tt)

pub begin_statement_limited : (k : Spot) (rest : List Spot) (ls : List ℕ) (b : ℕ) (i : Input) → GivesOrLimited (begin_statement (on (k ∷ rest) ls b i)) tt rest (ls ++ k.line ∷ []) i
begin_statement_limited k rest ls b i = begun (nat_lt (length ls) STATEMENTS_MAX) ls k rest b i refl

-- ---- expressions

limit_or_not_deep : (c : FaultCode) → IsLimit c ⊎ (c ≢ TooDeep)
limit_or_not_deep TooDeep = inl tt
limit_or_not_deep c = inr (λ e. absurd (cc))

-- read with some budget left, or refused by a limit
abbrev ExprLimited : Outcome Term → Term → List Spot → Input → Type 0
ExprLimited o t rest i = ((left : ℕ) × (o ≡ Ok (t, at rest left i))) ⊎ IsRefusedByALimit o

-- Where no fault of depth comes, the same comes with a larger budget; with one that is enough, the whole is read.
expr_case : (o : Outcome Term) (n b : ℕ) (t : Term) (rest : List Spot) (i : Input) → (IsNotTooDeep o → ok_of (t, at rest b i) ≡ leaving_more n o) → ExprLimited o t rest i
expr_case (Ok p) n b t rest i h =
    let e = ok_parts (t, at rest b i) (p.0, with_more n p.1) (h tt) in
    let back : at rest p.1.budget i ≡ p.1 = ap (λ (x : Input). at x.tokens p.1.budget x) e.1 in
    inl (p.1.budget, (λ j. Ok (sym e.0 j, sym back j)))
expr_case (Err f) n b t rest i h =
    elim (limit_or_not_deep f.code) [
      | inl limit ↦ inr limit
      | inr other ↦ absurd (let e = h other in cc)
    ]

expr_limited : (depth k : ℕ) (ss rest : List Spot) (t : Term) (i : Input) → WrittenTerm i.decls k ss t → i.tokens ≡ ss ++ rest → Stops k rest → i.budget < depth → ExprLimited (expr depth k i) t rest i
expr_limited depth k ss rest t i w e s less =
    let whole = expr_complete (depth + cost ss) k ss rest t (with_more (cost ss) i) w e s (omega arith) (omega arith) in
    expr_case (expr depth k i) (cost ss) (i.budget + cost ss - cost ss) t rest i (λ h. sym whole ∙ expr_more depth k (cost ss) i h)

expression_case : (o : Outcome Term) (rest : List Spot) (t : Term) (ls : List ℕ) (b : ℕ) (i : Input) → ExprLimited o t rest (on rest ls b i) → GivesOrLimited o t rest ls i
expression_case o rest t ls b i (inl x) = inl (record { left = x.0; is = x.1 })
expression_case o rest t ls b i (inr l) = inr l

pub expression_limited : (e rest : List Spot) (t : Term) (ls : List ℕ) (b : ℕ) (i : Input) → WrittenTerm i.decls 5 e t → Stops 5 rest → GivesOrLimited (expression (on (e ++ rest) ls b i)) t rest ls i
expression_limited e rest t ls b i w s =
    expression_case (expression (on (e ++ rest) ls b i)) rest t ls NESTING_MAX i (expr_limited (suc NESTING_MAX) 5 e rest t (on (e ++ rest) ls NESTING_MAX i) w refl s (omega arith))
