-- Calls and ranks, where they are and where they aren't; and the ends of runs.
use Rattle.std.proofs.Common.{◌≡◌, ℕ, zero, suc, ◌<◌, ◌≤◌, min, Bool, false, ◌&&◌, List, [], ◌∷◌, ◌++◌, length, take, drop, Option, Some, None, slice_get, refl, sym, ap, ◌∙◌, arith, append-nil}
use Rattle.std.specs.Option.{option_map, option_and_then}
use Rattle.std.specs.List.{flat_map}
use Rattle.std.proofs.lemmas.Option.{slice_get_past}
use Rattle.mpd_model.specs.declared.call.Activity.TheVariants.{Blocked}
use Rattle.mpd_model.specs.declared.call.Mode.{Mode}
use Rattle.mpd_model.specs.declared.call.WaitanyCall.{WaitanyCall}
use Rattle.mpd_model.specs.declared.step.CallId.{CallId}
use Rattle.mpd_model.specs.declared.step.Step.{Step}
use Rattle.mpd_model.specs.declared.outcome.Outcome.{Outcome}
use Rattle.mpd_model.specs.declared.outcome.Outcome.TheVariants.{Done, Leftovers, Deadlock, Trap}
use Rattle.mpd_model.specs.script.Program.{Program}
use Rattle.mpd_model.specs.steps.World.{RankWorld, World, start}
use Rattle.mpd_model.specs.steps.Next.{next, fold, waits}
use Rattle.mpd_policy.specs.declared.ending.Ending.{Ending}
use Rattle.mpd_policy.specs.declared.ending.Ending.TheVariants.{Ended, Cut}
use Rattle.mpd_explain.specs.Requests.{call_of, request_handles}
use Rattle.mpd_explain.specs.declared.ends.End.TheVariants as the_end
use Rattle.mpd_explain.specs.Ends.{has_more, tells_of}
use Rattle.mpd_explain.specs.Explanations.{bare_end, end_at, end_after}

-- ---- a rank that isn't there

pub no_handles : (a : WaitanyCall) (w : World) (p : ℕ) (calls : List CallId) → length w.ranks ≤ p → calls ≡ calls ++ flat_map (call_of p) (request_handles a (slice_get w.ranks p))
no_handles a w p calls h = sym (ap (λ hs. calls ++ flat_map (call_of p) hs) (ap (request_handles a) (slice_get_past w.ranks p h)) ∙ append-nil calls)

-- ---- a barrier

pub at_barrier : (o : Option RankWorld) (b : Bool) → option_map (λ (r : RankWorld). r.activity) o ≡ Some Blocked → b ≡ (waits o && b)
at_barrier None b e = cc
at_barrier (Some r) b e = cc

-- ---- handles

-- so many of a list, or all where there are fewer
take_few : (n k : ℕ) (xs : List (Option ℕ)) → k ≤ n → (k < n → length xs ≤ k) → take k xs ≡ take n xs
take_few zero zero xs few all = refl
take_few zero (suc k) xs few all = absurd (omega (arith, few))
take_few (suc n) zero [] few all = refl
take_few (suc n) zero (x ∷ xs) few all = absurd (omega (arith, all (omega arith)))
take_few (suc n) (suc k) [] few all = refl
take_few (suc n) (suc k) (x ∷ xs) few all = ap (λ ys. x ∷ ys) (take_few n k xs (omega (arith, few)) (λ h. omega (arith, all (omega (arith, h)))))

drop_few : (n k : ℕ) (xs : List (Option ℕ)) → k ≤ n → (k < n → length xs ≤ k) → drop k xs ≡ drop n xs
drop_few zero zero xs few all = refl
drop_few zero (suc k) xs few all = absurd (omega (arith, few))
drop_few (suc n) zero [] few all = refl
drop_few (suc n) zero (x ∷ xs) few all = absurd (omega (arith, all (omega arith)))
drop_few (suc n) (suc k) [] few all = refl
drop_few (suc n) (suc k) (x ∷ xs) few all = drop_few n k xs (omega (arith, few)) (λ h. omega (arith, all (omega (arith, h))))

pub taken_within : (n : ℕ) (xs : List (Option ℕ)) → take (min n (length xs)) xs ≡ take n xs
taken_within n xs = take_few n (min n (length xs)) xs (omega arith) (λ h. omega (arith, h))

pub dropped_within : (n : ℕ) (xs : List (Option ℕ)) → drop (min n (length xs)) xs ≡ drop n xs
dropped_within n xs = drop_few n (min n (length xs)) xs (omega arith) (λ h. omega (arith, h))

-- ---- the end of a run

fold_by : (o : Option World) (xs ys : List Step) → ((v : World) → fold v (xs ++ ys) ≡ option_and_then (λ u. fold u ys) (fold v xs)) → option_and_then (λ v. fold v (xs ++ ys)) o ≡ option_and_then (λ v. fold v ys) (option_and_then (λ v. fold v xs) o)
fold_by None xs ys each = refl
fold_by (Some v) xs ys each = each v

fold_append : (w : World) (xs ys : List Step) → fold w (xs ++ ys) ≡ option_and_then (λ v. fold v ys) (fold w xs)
fold_append w [] ys = refl
fold_append w (a ∷ xs) ys = fold_by (next w a) xs ys (λ v. fold_append v xs ys)

-- behind the steps that lead to a state, those from there lead to the same end
pub end_behind : (s : Program) (mode : Mode) (before steps : List Step) (w : World) (e : Ending) → fold (start s mode) before ≡ Some w → end_at s (fold w steps) e ≡ end_after s mode (before ++ steps) e
end_behind s mode before steps w e leads = ap (λ o. end_at s o e) (sym (fold_append (start s mode) before steps ∙ ap (option_and_then (λ v. fold v steps)) leads))

-- an end that there is no more to is the same wherever the steps lead
bare_by : (s : Program) (o : Option World) (e : Ending) → tells_of e ≡ false → bare_end e ≡ end_at s o e
bare_by s None e h = refl
bare_by s (Some w) Cut h = refl
bare_by s (Some w) (Ended Done) h = refl
bare_by s (Some w) (Ended (Leftovers calls)) h = cc
bare_by s (Some w) (Ended (Deadlock blocked)) h = cc
bare_by s (Some w) (Ended (Trap ranks)) h = cc

pub cut_is_bare : (s : Program) (o : Option World) (e : Ending) → tells_of e ≡ false → e ≡ Cut → the_end.Cut ≡ end_at s o e
cut_is_bare s o e h is = ap bare_end (sym is) ∙ bare_by s o e h

done_by : (o : Outcome) → has_more o ≡ false → the_end.Done ≡ bare_end (Ended o)
done_by Done h = refl
done_by (Leftovers calls) h = cc
done_by (Deadlock blocked) h = cc
done_by (Trap ranks) h = cc

pub done_is_bare : (s : Program) (w : Option World) (e : Ending) (o : Outcome) → tells_of e ≡ false → e ≡ Ended o → the_end.Done ≡ end_at s w e
done_is_bare s w e o h is = done_by o (ap tells_of (sym is) ∙ h) ∙ ap bare_end (sym is) ∙ bare_by s w e h

pub ruleset telling = (no_handles, at_barrier)

pub ruleset handling = (taken_within, dropped_within)
