-- What a wide decision says of all steps that are enabled.
use Rattle.std.proofs.Common.{◌≡◌, true, Option, Some, None, is_some, List, [], ◌∷◌, inl, refl, sym, subst}
use Rattle.std.specs.List.{filter}
use Rattle.mpd_model.specs.declared.step.Step.{Step}
use Rattle.mpd_model.specs.declared.outcome.Outcome.{Outcome}
use Rattle.mpd_model.specs.declared.decision.Decision.{Decision}
use Rattle.mpd_model.specs.declared.decision.Decision.TheVariants.{Forced, Choice, Leaf}
use Rattle.mpd_model.specs.steps.World.{World}
use Rattle.mpd_model.specs.steps.Next.{next, is_enabled, steps_of, enabled}
use Rattle.mpd_model.specs.steps.Why.{first_in}
use Rattle.mpd_model.specs.steps.Outcomes.{ending}
use Rattle.mpd_model.specs.runs.Decisions.{any_rank, first_enabled, chosen_from}
use Rattle.mpd_policy.specs.Wide.{is_quiet, wide_decided, wide_decision}
use Rattle.mpd_meaning.proofs.listed.Members.{In, in_filter, filter_from}
use Rattle.mpd_meaning.proofs.listed.Listed.{listed}
use Rattle.mpd_complete.proofs.Invariants.{Sound}

pub world_of : {A : Type 0} (o : Option A) → is_some o ≡ true → (x : A) × (o ≡ Some x)
world_of None e = absurd (cc)
world_of (Some x) e = (x, refl)

first_member : {A : Type 0} (xs : List A) (x : A) → first_in xs ≡ Some x → In xs x
first_member [] x e = absurd (cc)
first_member (y ∷ ys) x e = let is : y ≡ x = cc in inl is

-- ---- what is enabled is listed

pub in_enabled : (w : World) → Sound w → (a : Step) → is_some (next w a) ≡ true → In (enabled w) a
in_enabled w h a e = in_filter (is_enabled w) (steps_of w) a e (listed w h.has a e)

pub from_enabled : (w : World) (a : Step) → In (enabled w) a → is_some (next w a) ≡ true
from_enabled w a h = (filter_from (is_enabled w) (steps_of w) a h).1

-- ---- the views

-- no step is enabled
abbrev pub Stuck : World → Type 0
Stuck w = (a : Step) → is_some (next w a) ≡ true → ⊥

-- no step of a waitany is enabled
abbrev pub NoAny : World → Type 0
NoAny w = (a : Step) → is_some (next w a) ≡ true → any_rank a ≡ None

pub record ForcedView (w : World) (a : Step) : Type 0 where
  pub world : World
  pub leads : next w a ≡ Some world
  pub quiet : is_quiet w a ≡ true

-- the candidates are all steps that are enabled, there is one, and none is quiet
pub record ChoiceView (w : World) (candidates : List Step) : Type 0 where
  pub one : Step
  pub leads : is_some (next w one) ≡ true
  pub each : (a : Step) → In candidates a → is_some (next w a) ≡ true
  pub listed : (a : Step) → is_some (next w a) ≡ true → In candidates a
  pub loud : (a : Step) → is_some (next w a) ≡ true → is_quiet w a ≡ true → ⊥

pub record LeafView (w : World) (o : Outcome) : Type 0 where
  pub stuck : Stuck w
  pub is : o ≡ ending w

abbrev pub View : World → Decision → Type 0
View w (Forced a) = ForcedView w a
View w (Choice candidates) = ChoiceView w candidates
View w (Leaf o) = LeafView w o

pub none_first : {A : Type 0} (xs : List A) (x : A) → first_in xs ≡ None → In xs x → ⊥
none_first [] x e h = h
none_first (y ∷ ys) x e h = absurd (cc)

choice_view : (w : World) → Sound w → first_enabled w (is_quiet w) ≡ None → (on : List Step) → enabled w ≡ on → View w (chosen_from w on)
choice_view w h none [] e = record { stuck = λ a k. subst (λ (xs : List Step). In xs a) e (in_enabled w h a k); is = refl }
choice_view w h none (a ∷ more) e =
    let each : (b : Step) → In (a ∷ more) b → is_some (next w b) ≡ true = λ b i. from_enabled w b (subst (λ (xs : List Step). In xs b) (sym e) i) in
    record {
      one = a;
      leads = each a (inl refl);
      each = each;
      listed = λ b k. subst (λ (xs : List Step). In xs b) e (in_enabled w h b k);
      loud = λ b k quiet. none_first (filter (is_quiet w) (enabled w)) b none (in_filter (is_quiet w) (enabled w) b quiet (in_enabled w h b k));
    }

view_by : (w : World) → Sound w → (o : Option Step) → first_enabled w (is_quiet w) ≡ o → View w (wide_decided w o)
view_by w h (Some a) e =
    let found = filter_from (is_quiet w) (enabled w) a (first_member (filter (is_quiet w) (enabled w)) a e) in
    let after = world_of (next w a) (from_enabled w a found.0) in
    record { world = after.0; leads = after.1; quiet = found.1 }
view_by w h None e = choice_view w h e (enabled w) refl

pub view : (w : World) → Sound w → View w (wide_decision w)
unfolding wide_decision
view w h = view_by w h (first_enabled w (is_quiet w)) refl
