-- What a decision of the wide walk is, and what can be done with it.
use Rattle.std.proofs.Common.{◌≡◌, ◌<◌, Bool, true, false, cond, ◌||◌, not, Option, Some, None, IsSome, List, [], ◌∷◌, ◌++◌, length, refl, sym, ap, subst, ◌∙◌, arith}
use Rattle.std.specs.List.{filter, list_any}
use Rattle.mpd_model.specs.declared.step.Step.{Step}
use Rattle.mpd_model.specs.declared.outcome.Outcome.{Outcome}
use Rattle.mpd_model.specs.declared.decision.Decision.{Decision}
use Rattle.mpd_model.specs.declared.decision.Decision.TheVariants.{Forced, Choice, Leaf}
use Rattle.mpd_model.specs.steps.World.{World, Board, is_limited}
use Rattle.mpd_model.specs.steps.Next.{next, enabled}
use Rattle.mpd_model.specs.steps.Why.{first_in}
use Rattle.mpd_model.specs.steps.Outcomes.{ending}
use Rattle.mpd_model.specs.runs.Decisions.{first_enabled, chosen_from, CanFollow}
use Rattle.mpd_match.specs.Matches.{matches_on}
use Rattle.mpd_core.proofs.EnabledLemmas.{locals, releases, wakes, any_wakes, enabled_parts}
use Rattle.mpd_policy.specs.Entries.{entries_of}
use Rattle.mpd_policy.specs.Wide.{is_quiet, wide_decided, wide_decision}
use Rattle.mpd_policy.proofs.StepKinds.{chosen_some, chosen_none, local_steps}
use Rattle.mpd_policy.proofs.QuietLemmas.{quiet_locals, local_kind, all_kinds, local_same}
use Rattle.mpd_policy.proofs.Followed.{AllOf, all_at, all_kept, all_enabled, first_holds, ended_where}

-- ---- the decision

forced_here : (w : World) (o : Option Step) (a : Step) → o ≡ first_enabled w (is_quiet w) → o ≡ Some a → wide_decision w ≡ Forced a
unfolding wide_decision
forced_here w o a is some = ap (wide_decided w) (sym is ∙ some)

chosen_here : (w : World) (o : Option Step) (steps : List Step) → o ≡ first_enabled w (is_quiet w) → o ≡ None → steps ≡ enabled w → wide_decision w ≡ chosen_from w steps
unfolding wide_decision
chosen_here w o steps is none listed = ap (wide_decided w) (sym is ∙ none) ∙ ap (chosen_from w) (sym listed)

pub forced_is : (w : World) (o : Option Step) (a : Step) → o ≡ first_enabled w (is_quiet w) → o ≡ Some a → Forced a ≡ wide_decision w
forced_is w o a is some = sym (forced_here w o a is some)

pub choice_is : (w : World) (o : Option Step) (steps : List Step) → o ≡ first_enabled w (is_quiet w) → o ≡ None → steps ≡ enabled w → 0 < length steps → Choice steps ≡ wide_decision w
choice_is w o steps is none listed some = sym (chosen_here w o steps is none listed ∙ chosen_some w steps some)

pub leaf_is : (w : World) (o : Option Step) (steps : List Step) (out : Outcome) → o ≡ first_enabled w (is_quiet w) → o ≡ None → steps ≡ enabled w → length steps ≡ 0 → out ≡ ending w → Leaf out ≡ wide_decision w
leaf_is w o steps out is none listed short ends = ap Leaf ends ∙ sym (chosen_here w o steps is none listed ∙ chosen_none w steps short)

pub choice_entries : (w : World) (o : Option Step) → o ≡ first_enabled w (is_quiet w) → o ≡ None → 0 < length (enabled w) → 0 < entries_of (wide_decision w)
choice_entries w o is none some = subst (λ (d : Decision). 0 < entries_of d) (choice_is w o (enabled w) is none refl some) some

pub leaf_entries : (w : World) (o : Option Step) (steps : List Step) → o ≡ first_enabled w (is_quiet w) → o ≡ None → steps ≡ enabled w → length steps ≡ 0 → 0 < entries_of (Leaf (ending w)) → 0 < entries_of (wide_decision w)
leaf_entries w o steps is none listed short some = subst (λ (d : Decision). 0 < entries_of d) (leaf_is w o steps (ending w) is none listed short refl) some

-- ---- what can be done with it

chosen_followed : (w : World) (steps : List Step) → enabled w ≡ steps → CanFollow w (chosen_from w steps)
chosen_followed w [] e = (e, ended_where w e)
chosen_followed w (a ∷ steps) e = (omega arith, λ k d lt. all_at (λ x. IsSome (next w x)) (a ∷ steps) k d (subst (AllOf (λ x. IsSome (next w x))) e (all_enabled w)) lt)

decided_followed : (w : World) (o : Option Step) → first_enabled w (is_quiet w) ≡ o → CanFollow w (wide_decided w o)
decided_followed w (Some a) e = first_holds (λ x. IsSome (next w x)) (filter (is_quiet w) (enabled w)) a (all_kept (λ x. IsSome (next w x)) (is_quiet w) (enabled w) (all_enabled w)) e
decided_followed w None e = chosen_followed w (enabled w) refl

pub wide_followed : (w : World) → CanFollow w (wide_decision w)
unfolding wide_decision
wide_followed w = decided_followed w (first_enabled w (is_quiet w)) refl

-- where no step is enabled
pub wide_leaf : (w : World) → enabled w ≡ [] → wide_decision w ≡ Leaf (ending w)
unfolding wide_decision
wide_leaf w e = ap (wide_decided w) (ap (λ (xs : List Step). first_in (filter (is_quiet w) xs)) e) ∙ ap (chosen_from w) e

pub ruleset deciding = (forced_is, choice_is, choice_entries, leaf_entries)

-- ---- what is enabled where no step is quiet

none_first : (xs : List Step) → first_in xs ≡ None → xs ≡ []
none_first [] e = refl
none_first (a ∷ xs) e = absurd (cc)

front_none : (xs ys : List Step) → xs ++ ys ≡ [] → xs ≡ []
front_none [] ys e = refl
front_none (a ∷ xs) ys e = absurd (cc)

back_none : (xs ys : List Step) → xs ++ ys ≡ [] → ys ≡ []
back_none [] ys e = e
back_none (a ∷ xs) ys e = absurd (cc)

-- where buffers never run out, only steps of waitanys and matches
left_enabled : (w : World) → is_limited w.board.mode ≡ false → first_enabled w (is_quiet w) ≡ None → enabled w ≡ any_wakes w ++ matches_on w.board
left_enabled w ample none =
    let matches : List Step = filter (is_quiet w) (matches_on w.board) in
    let all : quiet_locals w ++ (releases w ++ (wakes w ++ matches)) ≡ [] = sym (all_kinds w) ∙ none_first (filter (is_quiet w) (enabled w)) none in
    let behind : releases w ++ (wakes w ++ matches) ≡ [] = back_none (quiet_locals w) (releases w ++ (wakes w ++ matches)) all in
    let no_local : locals w ≡ [] =
    sym (local_steps w) ∙ (λ i. filter (λ a. sym (local_same w ample a) i) (enabled w)) ∙ local_kind w ∙ front_none (quiet_locals w) (releases w ++ (wakes w ++ matches)) all in
    let no_release : releases w ≡ [] = front_none (releases w) (wakes w ++ matches) behind in
    let no_wake : wakes w ≡ [] = front_none (wakes w) matches (back_none (releases w) (wakes w ++ matches) behind) in
    enabled_parts w ∙ (λ i. no_local i ++ (no_release i ++ (no_wake i ++ (any_wakes w ++ matches_on w.board))))

pub choices_are : (w : World) (b c : Board) (limited : Bool) (anys steps : List Step) → b ≡ w.board → limited ≡ is_limited b.mode → limited ≡ false → first_enabled w (is_quiet w) ≡ None → anys ≡ any_wakes w
    → c ≡ w.board → steps ≡ anys ++ matches_on c → steps ≡ enabled w
choices_are w b c limited anys steps board is none quiet any same listed =
    listed ∙ (λ i. any i ++ matches_on (same i)) ∙ sym (left_enabled w (ap (λ (d : Board). is_limited d.mode) (sym board) ∙ sym is ∙ none) quiet)

-- ---- what sleeps on

-- all that a step doesn't conflict with
kept_also : (b : Bool) (a : Step) (xs ys : List Step) → b ≡ false → xs ≡ ys → a ∷ xs ≡ cond (not b) (a ∷ ys) ys
kept_also true a xs ys e same = absurd (cc)
kept_also false a xs ys e same = ap (λ zs. a ∷ zs) same

none_of_either : (b c : Bool) → (b || c) ≡ false → (b ≡ false) × (c ≡ false)
none_of_either true c e = absurd (cc)
none_of_either false c e = (refl, e)

pub all_sleep : (t : Step → Bool) (xs : List Step) → list_any t xs ≡ false → xs ≡ filter (λ a. not (t a)) xs
all_sleep t [] e = refl
all_sleep t (a ∷ xs) e =
    let neither = none_of_either (t a) (list_any t xs) e in
    kept_also (t a) a xs (filter (λ a. not (t a)) xs) neither.0 (all_sleep t xs neither.1)
