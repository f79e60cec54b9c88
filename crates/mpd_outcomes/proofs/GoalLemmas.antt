-- Where a search stops for an end.
use Rattle.std.proofs.Common.{◌≡◌, ℕ, ◌-◌, Bool, true, false, cond, ◌||◌, not, Option, Some, None, List, [], ◌∷◌, ◌++◌, length, take, drop, inl, inr, refl, sym, ap, subst, ◌∙◌, arith}
use Rattle.std.specs.List.{list_any, filter}
use Rattle.std.specs.Prelude.{Result, Ok, Err, IfOk, OnOk}
use Rattle.std.proofs.lemmas.Bool.{or_parts, or_from}
use Rattle.std.proofs.lemmas.List.{length-append, take-append-drop}
use Rattle.std.proofs.lemmas.List.Folds.{list_any-append}
use Rattle.std.proofs.Math.Seq.{take-append_seam}
use Rattle.mpd_policy.specs.declared.ending.Ending.{Ending}
use Rattle.mpd_explore.specs.declared.report.SearchLeaf.{SearchLeaf}
use Rattle.mpd_outcomes.specs.declared.report.Goal.{Goal}
use Rattle.mpd_outcomes.specs.declared.report.StateLimits.{StateLimits}
use Rattle.mpd_model.specs.runs.Trail.{Standing}
use Rattle.mpd_outcomes.specs.declared.search.Front.{Front}
use Rattle.mpd_explore.specs.Ends.{same_end, firsts, has_end}
use Rattle.mpd_outcomes.specs.Front.{Search, ways_with, Turned, come_now, Grows}
use Rattle.mpd_outcomes.specs.Goals.{meets, meets_any, ends_at, StopsAt, StopsFor}
use Rattle.mpd_explore.proofs.FirstLemmas.{ending_same}

-- ---- how ways grow

-- by the end of a run
pub grown : (old new ls more : List SearchLeaf) (cs : List ℕ) (e : Ending) → new ≡ ways_with old cs e → more ≡ ls ++ record { choices = cs; ending = e } ∷ [] → Grows old new ls more
grown old new ls more cs e is last = subst (λ (ws : List SearchLeaf). Grows old ws ls more) (sym is) (by (has_end old e))
  where
    by : (b : Bool) → Grows old (cond b old (old ++ record { choices = cs; ending = e } ∷ [])) ls more
    by true = inl refl
    by false = inr (record { choices = cs; ending = e }, refl, last)

-- behind it
pub grown_then : (old mid new ls more all : List SearchLeaf) → Grows old mid ls more → new ≡ mid → all ≡ more → Grows old new ls all
grown_then old mid new ls more all h same last = subst (λ (ws : List SearchLeaf). Grows old ws ls all) (sym same) (subst (Grows old mid ls) (sym last) h)

-- two facts of what is answered
pub if_both : {T E : Type 0} {P : Type 0} {Q R : T → Type 0} (r : Result T E) → ((x : T) → P → Q x → R x) → OnOk r P → IfOk r Q → IfOk r R
if_both (Ok x) f p q = f x p q
if_both (Err e) f p q = tt

-- ---- where none meets the goal

parts : (g : Option Goal) (n : ℕ) (ls : List SearchLeaf) → list_any (meets_any g) ls ≡ (list_any (meets_any g) (take n ls) || list_any (meets_any g) (drop n ls))
parts g n ls = ap (list_any (meets_any g)) (sym (take-append-drop n ls)) ∙ list_any-append (meets_any g) (take n ls) (drop n ls)

pub unmet_stops : (g : Option Goal) (ls : List SearchLeaf) → list_any (meets_any g) ls ≡ false → StopsAt g ls
unmet_stops g ls unmet = (or_parts (list_any (meets_any g) (take (length ls - 1) ls)) (ends_at g ls) (sym (parts g (length ls - 1) ls) ∙ unmet)).0

-- with one more
one_stops : (g : Option Goal) (old : List SearchLeaf) (l : SearchLeaf) → list_any (meets_any g) old ≡ false → StopsAt g (old ++ l ∷ [])
one_stops g old l unmet =
    let many = length-append old (l ∷ []) in
    let before : length (old ++ l ∷ []) - 1 ≡ length old = omega (arith, many) in
    ap (λ (n : ℕ). list_any (meets_any g) (take n (old ++ l ∷ []))) before ∙ ap (list_any (meets_any g)) (take-append_seam old (l ∷ [])) ∙ unmet

pub grown_stops : (g : Option Goal) (old new ls more : List SearchLeaf) → list_any (meets_any g) old ≡ false → Grows old new ls more → StopsAt g new
grown_stops g old new ls more unmet (inl same) = subst (StopsAt g) (sym same) (unmet_stops g old unmet)
grown_stops g old new ls more unmet (inr (l, is, last)) = subst (StopsAt g) (sym is) (one_stops g old l unmet)

-- ---- the same of all leaves that were come to

same_meets : (g : Option Goal) (l m : SearchLeaf) → same_end l m ≡ true → meets_any g m ≡ meets_any g l
same_meets None l m same = refl
same_meets (Some g) l m same = ap (meets g) (sym (ending_same l.ending m.ending same))

unfiltered : (g : Option Goal) (l : SearchLeaf) (ls : List SearchLeaf) → meets_any g l ≡ false → list_any (meets_any g) (filter (λ m. not (same_end l m)) ls) ≡ false → list_any (meets_any g) ls ≡ false
unfiltered g l [] unmet h = refl
unfiltered g l (m ∷ ls) unmet h = one (same_end l m) refl h (unfiltered g l ls unmet)
  where
    rest : List SearchLeaf
    rest = filter (λ x. not (same_end l x)) ls

    one : (b : Bool) → same_end l m ≡ b → list_any (meets_any g) (cond (not b) (m ∷ rest) rest) ≡ false → (list_any (meets_any g) rest ≡ false → list_any (meets_any g) ls ≡ false) → (meets_any g m || list_any (meets_any g) ls) ≡ false
    one true is k more = or_from (meets_any g m) (list_any (meets_any g) ls) (same_meets g l m is ∙ unmet) (more k)
    one false is k more = let two = or_parts (meets_any g m) (list_any (meets_any g) rest) k in or_from (meets_any g m) (list_any (meets_any g) ls) two.0 (more two.1)

-- where no first one meets the goal, none does
pub firsts_unmet : (g : Option Goal) (ls : List SearchLeaf) → list_any (meets_any g) (firsts ls) ≡ false → list_any (meets_any g) ls ≡ false
firsts_unmet g [] h = refl
firsts_unmet g (l ∷ ls) h =
    let two = or_parts (meets_any g l) (list_any (meets_any g) (filter (λ m. not (same_end l m)) (firsts ls))) h in
    or_from (meets_any g l) (list_any (meets_any g) ls) two.0 (firsts_unmet g ls (unfiltered g l (firsts ls) two.0 two.1))

-- of the leaves that were come to behind a turn none but the last one meets the goal
pub come_stops : (g : Option Goal) (old new ls more : List SearchLeaf) → list_any (meets_any g) old ≡ false → old ≡ firsts ls → new ≡ firsts more → Grows old new ls more → StopsAt g more
come_stops g old new ls more unmet are new_are (inl same) = unmet_stops g more (firsts_unmet g more (ap (list_any (meets_any g)) (sym new_are ∙ same) ∙ unmet))
come_stops g old new ls more unmet are new_are (inr (l, is, last)) = subst (StopsAt g) (sym last) (one_stops g ls l (firsts_unmet g ls (ap (list_any (meets_any g)) (sym are) ∙ unmet)))

-- the ways are the first ones of what was come to
pub ways_now : (s : Search) (b : Bool) (f : Front) (d : Standing) → Turned s b f d → f.ways.items ≡ firsts (come_now s b f d)
ways_now s true f d h = h.ways_are
ways_now s false f d h = h.ways_are

pub still_unmet : (g : Option Goal) (ls : List SearchLeaf) → StopsAt g ls → ends_at g ls ≡ false → list_any (meets_any g) ls ≡ false
still_unmet g ls before last = parts g (length ls - 1) ls ∙ or_from (list_any (meets_any g) (take (length ls - 1) ls)) (ends_at g ls) before last

-- ---- why a search stops, told of what was found

pub told_limit : (limits : StateLimits) (more told_more : Bool) (visited told_visited : ℕ) (ls told : List SearchLeaf) → told_more ≡ more → told_visited ≡ visited → told ≡ ls → StopsFor limits more visited ls → StopsFor limits told_more told_visited told
told_limit limits more told_more visited told_visited ls told a b c h = subst (λ (m : Bool). StopsFor limits m told_visited told) (sym a) (subst (λ (v : ℕ). StopsFor limits more v told) (sym b) (subst (StopsFor limits more visited) (sym c) h))
