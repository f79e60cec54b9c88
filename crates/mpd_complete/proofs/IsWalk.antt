-- Where a script has no waitany, and buffers never run out, the wide walk is the walk.
use Rattle.std.proofs.Common.{◌≡◌, ℕ, zero, suc, Bool, true, false, cond, List, [], ◌∷◌, ◌++◌, map, Option, Some, None, is_some, is_none, inl, inr, refl, sym, ap, ◌∙◌}
use Rattle.std.specs.List.{filter}
use Rattle.mpd_model.specs.declared.call.CallKind.{CallKind}
use Rattle.mpd_model.specs.declared.call.CallKind.TheVariants.{Recv}
use Rattle.mpd_model.specs.declared.call.Mode.{Mode}
use Rattle.mpd_model.specs.declared.step.Step.{Step}
use Rattle.mpd_model.specs.declared.step.Step.TheVariants.{Local, Match, Wake, WakeAny, Release}
use Rattle.mpd_model.specs.declared.decision.Decision.{Decision}
use Rattle.mpd_model.specs.declared.decision.Decision.TheVariants.{Forced, Choice, Leaf}
use Rattle.mpd_model.specs.script.Program.{Program}
use Rattle.mpd_model.specs.steps.World.{World, start, kind_at, receives}
use Rattle.mpd_model.specs.steps.Next.{next, fold, enabled}
use Rattle.mpd_model.specs.runs.Decisions.{any_rank, names_source, takes_any, is_open_match, first_enabled, open_matches, is_of, any_choices, or_those, choices, chosen_from, decided, decision}
use Rattle.mpd_policy.specs.Wide.{is_quiet, wide_decided, wide_decision}
use Rattle.mpd_policy.proofs.QuietLemmas.{local_same, named_same, quiet_first}
use Rattle.mpd_policy.specs.Walk.{stepped, chosen, runs_of, branches, followed, stopped, walk, wide_walk}
use Rattle.mpd_laws.proofs.ordered.Eligible.{agrees, fitting_recv}
use Rattle.mpd_meaning.proofs.listed.Members.{In, in_filter}
use Rattle.mpd_complete.specs.CompleteLaws.{HasNoWaitany, KeepsBuffers}
use Rattle.mpd_complete.proofs.Steps.{match_step}
use Rattle.mpd_complete.proofs.Invariants.{stays_ample, fold_ample}
use Rattle.mpd_complete.proofs.Views.{world_of, from_enabled, none_first, NoAny}
use Rattle.mpd_complete.proofs.Calm.{Calm, stays_calm, fold_calm, start_calm, calm_none}

-- ---- what is chosen among

all_pass : (t : Step → Bool) (xs : List Step) → ((a : Step) → In xs a → t a ≡ true) → filter t xs ≡ xs
all_pass t [] h = refl
all_pass t (x ∷ xs) h = ap (λ (b : Bool). cond b (x ∷ filter t xs) (filter t xs)) (h x (inl refl)) ∙ ap (λ (ys : List Step). x ∷ ys) (all_pass t xs (λ a j. h a (inr j)))

none_pass : (t : Step → Bool) (xs : List Step) → ((a : Step) → In xs a → t a ≡ false) → filter t xs ≡ []
none_pass t [] h = refl
none_pass t (x ∷ xs) h = ap (λ (b : Bool). cond b (x ∷ filter t xs) (filter t xs)) (h x (inl refl)) ∙ none_pass t xs (λ a j. h a (inr j))

none_there : (o : Option ℕ) → (is_some o ≡ true → ⊥) → is_none o ≡ true
none_there None h = refl
none_there (Some x) h = absurd (h refl)

open_by : (k : Option CallKind) → receives k ≡ true → (names_source k ≡ true → ⊥) → takes_any k ≡ true
open_by (Some (Recv r)) e h = none_there r.from h
open_by k e h = absurd (cc)

-- a step that isn't quiet, nor one of a waitany
pub open_one : (w : World) → KeepsBuffers w.board.mode → (a : Step) → is_some (next w a) ≡ true → (is_quiet w a ≡ true → ⊥) → any_rank a ≡ None → is_open_match w.board a ≡ true
open_one w ample (Local p) on loud none = absurd (loud (local_same w ample (Local p)))
open_one w ample Release on loud none = absurd (loud refl)
open_one w ample (Wake p) on loud none = absurd (loud refl)
open_one w ample (WakeAny p i) on loud none = absurd (let some : Some p ≡ None = none in cc)
open_one w ample (Match s t) on loud none =
    let after = world_of (next w (Match s t)) on in
    let e = (match_step w s t after.0 after.1).0 in
    open_by (kind_at w.board t) (fitting_recv (kind_at w.board s) (kind_at w.board t) s.rank t.rank (agrees w.board s t e).fit).0 (λ named. loud (sym (named_same w ample s t) ∙ named))

of_none : (o : Option ℕ) (a : Step) → any_rank a ≡ None → is_of o a ≡ false
of_none None a e = refl
of_none (Some p) (WakeAny q i) e = absurd (let some : Some q ≡ None = e in cc)
of_none (Some p) a e = refl

choices_are : (w : World) → KeepsBuffers w.board.mode → NoAny w → first_enabled w (is_quiet w) ≡ None → enabled w ≡ choices w
choices_are w ample calm none =
    let no : (a : Step) → In (enabled w) a → any_rank a ≡ None = λ a h. calm a (from_enabled w a h) in
    let any : any_choices w ≡ [] = none_pass (is_of _) (enabled w) (λ a h. of_none _ a (no a h)) in
    sym (all_pass (is_open_match w.board) (enabled w)
    (λ a h. open_one w ample a (from_enabled w a h) (λ quiet. none_first (filter (is_quiet w) (enabled w)) a none (in_filter (is_quiet w) (enabled w) a quiet h)) (no a h)))
    ∙ ap (λ (steps : List Step). or_those steps (open_matches w)) (sym any)

-- ---- decisions, and walks

decided_is : (w : World) → KeepsBuffers w.board.mode → NoAny w → (o : Option Step) → first_enabled w (is_quiet w) ≡ o → wide_decided w o ≡ decided w o
decided_is w ample calm (Some a) e = refl
decided_is w ample calm None e = ap (chosen_from w) (choices_are w ample calm e)

pub decision_is : (w : World) → KeepsBuffers w.board.mode → NoAny w → wide_decision w ≡ decision w
unfolding wide_decision decision
decision_is w ample calm = decided_is w ample calm (first_enabled w (is_quiet w)) refl ∙ ap (decided w) (quiet_first w ample)

-- a world of a script without a waitany, in such a mode
pub record Plain (w : World) : Type 0 where
  pub calm : Calm w
  pub ample : KeepsBuffers w.board.mode

pub stays_plain : (w : World) (a : Step) (v : World) → next w a ≡ Some v → Plain w → Plain v
stays_plain w a v e h = record { calm = stays_calm w a v e h.calm; ample = stays_ample w a v e h.ample }

pub plain_decision : (w : World) → Plain w → wide_decision w ≡ decision w
plain_decision w h = decision_is w h.ample (calm_none w h.calm)

abbrev AllWalks : ℕ → Type 0
AllWalks n = (u : World) → Plain u → wide_walk n u ≡ walk n u

walk_after : (n : ℕ) → AllWalks n → (u : World) → Plain u → (a : Step) (o : Option World) → next u a ≡ o → runs_of (wide_walk n) o ≡ runs_of (walk n) o
walk_after n ih u h a None e = refl
walk_after n ih u h a (Some x) e = ih x (stays_plain u a x e h)

walk_branches : (n : ℕ) → AllWalks n → (u : World) → Plain u → (i : ℕ) (candidates : List Step) → branches (wide_walk n) u i candidates ≡ branches (walk n) u i candidates
walk_branches n ih u h i [] = refl
walk_branches n ih u h i (a ∷ more) = λ j. map (chosen i a) (walk_after n ih u h a (next u a) refl j) ++ walk_branches n ih u h (suc i) more j

walk_more : (n : ℕ) → AllWalks n → (u : World) → Plain u → (d : Decision) → followed (wide_walk n) (wide_walk n) u d ≡ followed (walk n) (walk n) u d
walk_more n ih u h (Forced a) = ap (map (stepped a)) (walk_after n ih u h a (next u a) refl)
walk_more n ih u h (Choice candidates) = walk_branches n ih u h 0 candidates
walk_more n ih u h (Leaf o) = refl

all_walks : (n : ℕ) → AllWalks n
unfolding wide_walk walk
all_walks zero u h = ap stopped (plain_decision u h)
all_walks (suc n) u h = ap (followed (wide_walk n) (wide_walk n) u) (plain_decision u h) ∙ walk_more n (all_walks n) u h (decision u)

pub fold_plain : (s : Program) → HasNoWaitany s → (mode : Mode) → KeepsBuffers mode → (before : List Step) (u : World) → fold (start s mode) before ≡ Some u → Plain u
fold_plain s none mode ample before u e = record { calm = fold_calm before (start s mode) u e (start_calm s none mode); ample = fold_ample before (start s mode) u e ample }

pub are_walks : (s : Program) → HasNoWaitany s → (mode : Mode) → KeepsBuffers mode → (before : List Step) (u : World) → fold (start s mode) before ≡ Some u → (fuel : ℕ) → wide_walk fuel u ≡ walk fuel u
are_walks s none mode ample before u e fuel = all_walks fuel u (fold_plain s none mode ample before u e)
