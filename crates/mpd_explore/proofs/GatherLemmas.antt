-- One leaf more is gathered, and what is gathered in the end is what is to be listed.
use Rattle.std.proofs.Common.{◌≡◌, ℕ, ◌<◌, ◌≤◌, ◌+◌, ◌-◌, ◌&&◌, if◌then◌else◌, Bool, true, false, true≢false, List, [], ◌∷◌, ◌++◌, length, take, map, Option, Some, None, IsTrue, refl, sym, ap, subst, ◌∙◌, arith, append_assoc, append-nil}
use Rattle.std.proofs.lemmas.List.{length-append, length-map, take_all}
use Rattle.std.proofs.Math.Seq.{take-append_seam}
use Rattle.mpd_model.specs.declared.step.Step.{Step}
use Rattle.mpd_model.specs.declared.decision.Decision.{Decision}
use Rattle.mpd_model.specs.steps.World.{World}
use Rattle.mpd_model.specs.runs.Decisions.{CanFollow}
use Rattle.mpd_model.specs.runs.Trail.{Standing, done_steps}
use Rattle.mpd_explore.specs.declared.report.SearchLeaf.{SearchLeaf}
use Rattle.mpd_explore.specs.declared.report.SearchLimits.{SearchLimits}
use Rattle.mpd_explore.specs.declared.report.Witnesses.{Witnesses}
use Rattle.mpd_explore.specs.declared.report.Witnesses.TheVariants.{OfNone, OfDeadlocks, OfAll}
use Rattle.mpd_explore.specs.declared.search.Open.{Open}
use Rattle.mpd_policy.specs.Walk.{Run, prefixed, here}
use Rattle.mpd_explore.specs.Search.{Search, picked, runs_from, come, after, At, Advanced}
use Rattle.mpd_explore.specs.Report.{shown, is_bad, any_bad, up_to_bad, ended_by, listed}
use Rattle.mpd_explore.specs.Witness.{witness_by}
use Rattle.mpd_explore.specs.WitnessTexts.{behind_number, witness_text, witness_texts}
use Rattle.mpd_explore.specs.Asked.{are_asked, asked_text}
use Rattle.mpd_explore.specs.Gathered.{run_text, run_texts, Gathered, Lists, IsMore, FoundLeaf}
use Rattle.mpd_explore.proofs.RunLemmas.{prefixed_here}
use Rattle.mpd_explore.proofs.AwakeLemmas.{awake_some}
use Rattle.mpd_explore.proofs.ListedLemmas.{both_true, not_both, bad_last, good_last, up_last, up_none, up_taken, ended_same, none_out, some_out}

map_joins : {A B : Type 0} (f : A → B) (xs ys : List A) → map f (xs ++ ys) ≡ map f xs ++ map f ys
map_joins f [] ys = refl
map_joins f (x ∷ xs) ys = ap (λ zs. f x ∷ zs) (map_joins f xs ys)

-- ---- one more

texts_last : (asked : Witnesses) (found : List Run) (r : Run) → run_texts asked (found ++ r ∷ []) ≡ run_texts asked found ++ (if are_asked asked then run_text asked r ∷ [] else [])
texts_last OfNone found r = refl
texts_last OfDeadlocks found r = map_joins (run_text OfDeadlocks) found (r ∷ [])
texts_last OfAll found r = map_joins (run_text OfAll) found (r ∷ [])

-- none is gathered
pub gathered_none : (asked : Witnesses) (all rest : List Run) (leaves : List SearchLeaf) (texts : List (List ℕ)) → rest ≡ all → leaves ≡ [] → texts ≡ [] → Gathered asked all rest leaves texts
gathered_none OfAll all rest leaves texts same none empty = record { found = []; joined = same; leaves_are = none; texts_are = empty }
gathered_none OfDeadlocks all rest leaves texts same none empty = record { found = []; joined = same; leaves_are = none; texts_are = empty }
gathered_none OfNone all rest leaves texts same none empty = record { found = []; joined = same; leaves_are = none; texts_are = empty }

gathered_run : (asked : Witnesses) (all before rest : List Run) (old leaves : List SearchLeaf) (texts now : List (List ℕ)) (r : Run) → Gathered asked all before old texts → before ≡ r ∷ rest → leaves ≡ old ++ shown r ∷ []
    → now ≡ texts ++ (if are_asked asked then run_text asked r ∷ [] else []) → Gathered asked all rest leaves now
gathered_run asked all before rest old leaves texts now r g split pushed added =
    record {
      found = g.found ++ r ∷ [];
      joined = append_assoc g.found (r ∷ []) rest ∙ ap (λ rs. g.found ++ rs) (sym split) ∙ g.joined;
      leaves_are = pushed ∙ ap (λ ls. ls ++ shown r ∷ []) g.leaves_are ∙ sym (map_joins shown g.found (r ∷ []));
      texts_are = added ∙ ap (λ ts. ts ++ (if are_asked asked then run_text asked r ∷ [] else [])) g.texts_are ∙ sym (texts_last asked g.found r);
    }

-- the leaf at which the debugger stands, with what is after it
pub gathered_leaf : (asked : Witnesses) (s : Search) (gs : List Open) (m : Standing) (x : SearchLeaf) (all before rest : List Run) (old leaves : List SearchLeaf) (texts now : List (List ℕ))
    → Gathered asked all before old texts → before ≡ prefixed (picked gs) (done_steps m.trail) (here x.ending) ∷ after s gs m → x.choices ≡ picked gs → leaves ≡ old ++ x ∷ []
    → now ≡ texts ++ (if are_asked asked then asked_text asked x.ending (behind_number (witness_by (done_steps m.trail) x.ending)) ∷ [] else []) → after s gs m ≡ rest → Gathered asked all rest leaves now
gathered_leaf asked s gs m x all before rest old leaves texts now g found chosen pushed added left =
    let r : Run = record { choices = x.choices; steps = done_steps m.trail; ending = x.ending } in
    let same : prefixed (picked gs) (done_steps m.trail) (here x.ending) ≡ r = prefixed_here (picked gs) (done_steps m.trail) x.ending ∙ ap (λ cs. record { choices = cs; steps = done_steps m.trail; ending = x.ending }) (sym chosen) in
    let split : before ≡ r ∷ rest = found ∙ ap (λ (q : Run). q ∷ after s gs m) same ∙ ap (λ rs. r ∷ rs) left in
    gathered_run asked all before rest old leaves texts now r g split pushed added

-- the next candidate was taken
pub goes_on : (s mine : Search) (gs hs : List Open) (there : List Step) (d e : Standing) (more : Bool) → mine ≡ s → more ≡ true → Advanced mine gs d more hs there e → At s hs e × (after s gs d ≡ come s hs there e)
goes_on s mine gs hs there d e more own is advanced = let h : Advanced s gs d true hs there e = rw (own, is) at advanced in (h.0, h.1)

-- none is left
pub goes_nowhere : (s mine : Search) (gs hs : List Open) (there : List Step) (d e : Standing) (more : Bool) → mine ≡ s → more ≡ false → Advanced mine gs d more hs there e → after s gs d ≡ []
goes_nowhere s mine gs hs there d e more own is advanced = let h : Advanced s gs d false hs there e = rw (own, is) at advanced in h

-- where nothing is asleep, there is a run to come
pub is_some : (s : Search) (fs : List Open) (asleep : List Step) (d : Standing) → ((v : World) → CanFollow v (s.decides v)) → ((u : World) (a : Step) → s.keeps u a [] ≡ []) → asleep ≡ [] → IsMore true (come s fs asleep d)
is_some s fs asleep d law none clear =
    let n : ℕ = s.limit - length (done_steps d.trail) in
    omega (
      arith,
      length-append (map (prefixed (picked fs) (done_steps d.trail)) (runs_from s n asleep d.world)) (after s fs d),
      length-map (runs_from s n asleep d.world) (prefixed (picked fs) (done_steps d.trail)),
      ap (λ (xs : List Step). length (runs_from s n xs d.world)) clear,
      awake_some s.decides s.same s.keeps s.sleeps n d.world law none,
    )

-- none of those that are gathered is bad, if that ends a list
pub still_good : (u last : Bool) (old leaves : List SearchLeaf) (x : SearchLeaf) → leaves ≡ old ++ x ∷ [] → last ≡ (u && is_bad x.ending) → last ≡ false → (u ≡ true → any_bad old ≡ false) → u ≡ true → any_bad leaves ≡ false
still_good u last old leaves x pushed is off good until = ap any_bad pushed ∙ good_last old x (good until) (not_both u (is_bad x.ending) (sym is ∙ off) until)

pub one_longer : (old leaves : List SearchLeaf) (x : SearchLeaf) (n : ℕ) → leaves ≡ old ++ x ∷ [] → length old ≡ n → length leaves ≡ n + 1
one_longer old leaves x n pushed long = omega (arith, ap length pushed, length-append old (x ∷ []), long)

-- ---- what is listed in the end

told_is : (asked : Witnesses) (all rest : List Run) (leaves : List SearchLeaf) (texts : List (List ℕ)) → Gathered asked all rest leaves texts → map shown all ≡ leaves ++ map shown rest
told_is asked all rest leaves texts g = ap (map shown) (sym g.joined) ∙ map_joins shown g.found rest ∙ ap (λ ls. ls ++ map shown rest) (sym g.leaves_are)

texts_is : (asked : Witnesses) (all rest : List Run) (leaves : List SearchLeaf) (texts : List (List ℕ)) → Gathered asked all rest leaves texts → texts ≡ run_texts asked (take (length leaves) all)
texts_is asked all rest leaves texts g =
    let long : length leaves ≡ length g.found = ap length g.leaves_are ∙ length-map g.found shown in
    let front : take (length leaves) all ≡ g.found = ap (λ n. take n all) long ∙ ap (take (length g.found)) (sym g.joined) ∙ take-append_seam g.found rest in
    g.texts_are ∙ ap (run_texts asked) (sym front)

-- all are gathered
pub lists_all : (l : SearchLimits) (all rest : List Run) (old leaves : List SearchLeaf) (x : SearchLeaf) (texts : List (List ℕ)) → Gathered l.witnesses all rest leaves texts → rest ≡ [] → leaves ≡ old ++ x ∷ [] → (l.until_bad ≡ true → any_bad old ≡ false) → length leaves ≤ l.runs → Lists l all leaves texts false
lists_all l all rest old leaves x texts g none pushed good few =
    let whole : map shown all ≡ leaves = told_is l.witnesses all rest leaves texts g ∙ ap (λ (rs : List Run). leaves ++ map shown rs) none ∙ append-nil leaves in
    let last : map shown all ≡ old ++ x ∷ [] = whole ∙ pushed in
    let taken : take l.runs (map shown all) ≡ map shown all = take_all l.runs (map shown all) (omega (arith, ap length whole)) in
    let is : listed l (map shown all) ≡ map shown all = ap (ended_by l.until_bad) taken ∙ ended_same l.until_bad (map shown all) (λ h. ap up_to_bad last ∙ up_last old x (good h) ∙ sym last) in
    record {
      leaves_are = sym whole ∙ sym is;
      more_is = sym (none_out l (map shown all) (omega (arith, ap length is)) (omega (arith, ap length whole)));
      texts_are = texts_is l.witnesses all rest leaves texts g;
    }

-- the last that is gathered ends the list
pub lists_bad : (l : SearchLimits) (all rest : List Run) (old leaves : List SearchLeaf) (x : SearchLeaf) (texts : List (List ℕ)) (last : Bool) → Gathered l.witnesses all rest leaves texts → 0 < length rest → leaves ≡ old ++ x ∷ [] → (l.until_bad ≡ true → any_bad old ≡ false) → length leaves ≤ l.runs
    → last ≡ (l.until_bad && is_bad x.ending) → last ≡ true → Lists l all leaves texts true
lists_bad l all rest old leaves x texts last g some pushed good few is_last on =
    let both = both_true l.until_bad (is_bad x.ending) (sym is_last ∙ on) in
    let told : map shown all ≡ leaves ++ map shown rest = told_is l.witnesses all rest leaves texts g in
    let bad : any_bad leaves ≡ true = ap any_bad pushed ∙ bad_last old x both.1 in
    let up : up_to_bad leaves ≡ leaves = ap up_to_bad pushed ∙ up_last old x (good both.0) ∙ sym pushed in
    let is : listed l (map shown all) ≡ leaves = ap (λ b. ended_by b (take l.runs (map shown all))) both.0 ∙ ap (λ ls. up_to_bad (take l.runs ls)) told ∙ up_taken leaves (map shown rest) l.runs bad few ∙ up in
    let more : length leaves < length (map shown all) = omega (arith, ap length told, length-append leaves (map shown rest), length-map rest shown) in
    record {
      leaves_are = sym is;
      more_is = sym (some_out l (map shown all) (omega (arith, ap length is)) (λ h. absurd (true≢false (sym both.0 ∙ h))));
      texts_are = texts_is l.witnesses all rest leaves texts g;
    }

-- as many are gathered as are asked for
pub lists_full : (l : SearchLimits) (all rest : List Run) (leaves : List SearchLeaf) (texts : List (List ℕ)) → Gathered l.witnesses all rest leaves texts → 0 < length rest → length leaves ≡ l.runs → (l.until_bad ≡ true → any_bad leaves ≡ false) → Lists l all leaves texts true
lists_full l all rest leaves texts g some long good =
    let told : map shown all ≡ leaves ++ map shown rest = told_is l.witnesses all rest leaves texts g in
    let taken : take l.runs (map shown all) ≡ leaves = ap (λ n. take n (map shown all)) (sym long) ∙ ap (take (length leaves)) told ∙ take-append_seam leaves (map shown rest) in
    let is : listed l (map shown all) ≡ leaves = ap (ended_by l.until_bad) taken ∙ ended_same l.until_bad leaves (λ h. up_none leaves (good h)) in
    let more : length leaves < length (map shown all) = omega (arith, ap length told, length-append leaves (map shown rest), length-map rest shown) in
    record {
      leaves_are = sym is;
      more_is = sym (some_out l (map shown all) (omega (arith, ap length is)) (λ h. omega (arith, long)));
      texts_are = texts_is l.witnesses all rest leaves texts g;
    }

-- ---- the texts of leaves

pub texts_join : (decide : World → Decision) (asked : Witnesses) (path : List Step) (n : ℕ) (w : World) (xs ys : List SearchLeaf) → witness_texts decide asked path n w (xs ++ ys) ≡ witness_texts decide asked path n w xs ++ witness_texts decide asked path n w ys
texts_join decide OfNone path n w xs ys = refl
texts_join decide OfDeadlocks path n w xs ys = map_joins (witness_text decide OfDeadlocks path n w) xs ys
texts_join decide OfAll path n w xs ys = map_joins (witness_text decide OfAll path n w) xs ys

-- all are gathered, and none of them ends the list
pub lists_none : (l : SearchLimits) (all rest : List Run) (leaves : List SearchLeaf) (texts : List (List ℕ)) → Gathered l.witnesses all rest leaves texts → rest ≡ [] → (l.until_bad ≡ true → any_bad leaves ≡ false) → length leaves ≤ l.runs → Lists l all leaves texts false
lists_none l all rest leaves texts g none good few =
    let whole : map shown all ≡ leaves = told_is l.witnesses all rest leaves texts g ∙ ap (λ (rs : List Run). leaves ++ map shown rs) none ∙ append-nil leaves in
    let taken : take l.runs (map shown all) ≡ map shown all = take_all l.runs (map shown all) (omega (arith, ap length whole, few)) in
    let is : listed l (map shown all) ≡ map shown all = ap (ended_by l.until_bad) taken ∙ ended_same l.until_bad (map shown all) (λ h. ap up_to_bad whole ∙ up_none leaves (good h) ∙ sym whole) in
    record {
      leaves_are = sym whole ∙ sym is;
      more_is = sym (none_out l (map shown all) (omega (arith, ap length is)) (omega (arith, ap length whole, few)));
      texts_are = texts_is l.witnesses all rest leaves texts g;
    }

-- the last that is gathered ends the list, and it was asked whether there are others
pub lists_last : (l : SearchLimits) (all rest : List Run) (old leaves : List SearchLeaf) (x : SearchLeaf) (texts : List (List ℕ)) (last more : Bool) → Gathered l.witnesses all rest leaves texts → IsMore more rest → leaves ≡ old ++ x ∷ [] → (l.until_bad ≡ true → any_bad old ≡ false) → length leaves ≤ l.runs
    → last ≡ (l.until_bad && is_bad x.ending) → last ≡ true → Lists l all leaves texts more
lists_last l all rest old leaves x texts last true g more pushed good few is on = lists_bad l all rest old leaves x texts last g more pushed good few is on
lists_last l all rest old leaves x texts last false g more pushed good few is on = lists_all l all rest old leaves x texts g more pushed good few

-- as many are gathered as are asked for, and it was asked whether there are others
pub lists_asked : (l : SearchLimits) (all rest : List Run) (leaves : List SearchLeaf) (texts : List (List ℕ)) (more : Bool) → Gathered l.witnesses all rest leaves texts → IsMore more rest → length leaves ≡ l.runs → (l.until_bad ≡ true → any_bad leaves ≡ false) → Lists l all leaves texts more
lists_asked l all rest leaves texts true g more long good = lists_full l all rest leaves texts g more long good
lists_asked l all rest leaves texts false g more long good = lists_none l all rest leaves texts g more good (omega (arith, long))

-- ---- what was found, where the first world is told by the debugger

pub leaf_found : (s mine : Search) (fs gs : List Open) (asleep : List Step) (d m : Standing) (o : Option SearchLeaf) (x : SearchLeaf) → mine ≡ s → o ≡ Some x → FoundLeaf mine fs asleep d o gs m
    → At s gs m × (come s fs asleep d ≡ prefixed (picked gs) (done_steps m.trail) (here x.ending) ∷ after s gs m) × (x.choices ≡ picked gs)
leaf_found s mine fs gs asleep d m o x own is found =
    let h : FoundLeaf s fs asleep d (Some x) gs m = rw (own, is) at found in
    (h.0.0, h.0.1, h.1)

pub no_leaf : (s mine : Search) (fs gs : List Open) (asleep : List Step) (d m : Standing) (o : Option SearchLeaf) → mine ≡ s → o ≡ None → FoundLeaf mine fs asleep d o gs m → come s fs asleep d ≡ []
no_leaf s mine fs gs asleep d m o own is found = let h : FoundLeaf s fs asleep d None gs m = rw (own, is) at found in h

pub more_of : (s mine : Search) (fs : List Open) (asleep : List Step) (d : Standing) (more : Bool) → mine ≡ s → IsMore more (come mine fs asleep d) → IsMore more (come s fs asleep d)
more_of s mine fs asleep d more own h = subst (λ (u : Search). IsMore more (come u fs asleep d)) own h

-- nothing is asked for
pub lists_nothing : (l : SearchLimits) (all : List Run) (leaves : List SearchLeaf) (texts : List (List ℕ)) (more : Bool) → l.runs ≡ 0 → 0 < length all → leaves ≡ [] → texts ≡ [] → IsTrue more → Lists l all leaves texts more
lists_nothing l all leaves texts true none some empty blank on = lists_full l all all leaves texts (gathered_none l.witnesses all all leaves texts refl empty blank) some (ap length empty ∙ sym none) (λ h. ap any_bad empty)
lists_nothing l all leaves texts false none some empty blank on = cc
