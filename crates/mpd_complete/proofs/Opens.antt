-- A step that the decisions force is no match of a receive of any source, and where no waitany can go on all candidates of a choice are.
use Rattle.std.proofs.Common.{◌≡◌, ◌⊎◌, ℕ, Bool, true, false, Option, Some, None, is_some, List, [], ◌∷◌, inl, inr, refl, ap}
use Rattle.std.specs.List.{filter}
use Rattle.mpd_model.specs.declared.step.Step.{Step}
use Rattle.mpd_model.specs.declared.step.Step.TheVariants.{Local, Match, Wake, Release}
use Rattle.mpd_model.specs.declared.decision.Decision.{Decision}
use Rattle.mpd_model.specs.declared.decision.Decision.TheVariants.{Forced, Choice, Leaf}
use Rattle.mpd_model.specs.steps.World.{World, Board, kind_at}
use Rattle.mpd_model.specs.steps.Next.{next, enabled}
use Rattle.mpd_model.specs.runs.Decisions.{is_local, is_release, is_wake, any_rank, same_rank, is_of, is_named_match, is_open_match, first_enabled, forced_step, open_matches, or_those, choices, chosen_from, decided, decision}
use Rattle.mpd_laws.proofs.ordered.Eligible.{clash}
use Rattle.mpd_meaning.proofs.listed.Members.{In, filter_from}
use Rattle.mpd_policy.proofs.Followed.{first_holds, all_pass, either}
use Rattle.mpd_complete.proofs.Diamond.{source_named}
use Rattle.mpd_complete.proofs.Views.{from_enabled, NoAny}

abbrev pub OpensOnly : World → Decision → Type 0
OpensOnly w (Forced a) = is_open_match w.board a ≡ false
OpensOnly w (Choice candidates) = (a : Step) → In candidates a → (is_some (next w a) ≡ true) × (NoAny w → is_open_match w.board a ≡ true)
OpensOnly w (Leaf o) = Unit {0}

-- ---- a forced step

local_closed : (b : Board) (a : Step) → is_local a ≡ true → is_open_match b a ≡ false
local_closed b (Local p) e = refl
local_closed b a e = absurd (cc)

release_closed : (b : Board) (a : Step) → is_release a ≡ true → is_open_match b a ≡ false
release_closed b Release e = refl
release_closed b a e = absurd (cc)

wake_closed : (b : Board) (a : Step) → is_wake a ≡ true → is_open_match b a ≡ false
wake_closed b (Wake p) e = refl
wake_closed b a e = absurd (cc)

named_closed : (b : Board) (a : Step) → is_named_match b a ≡ true → is_open_match b a ≡ false
named_closed b (Match s r) e = source_named (kind_at b r) e
named_closed b a e = absurd (cc)

forced_closed : (w : World) (a : Step) → forced_step w ≡ Some a → is_open_match w.board a ≡ false
forced_closed w a =
    either P (first_enabled w is_local) _ a (λ e. local_closed w.board a (passes is_local e))
    (either P (first_enabled w is_release) _ a (λ e. release_closed w.board a (passes is_release e))
    (either P (first_enabled w is_wake) _ a (λ e. wake_closed w.board a (passes is_wake e)) (λ e. named_closed w.board a (passes (is_named_match w.board) e))))
  where
    P : Type 0
    P = is_open_match w.board a ≡ false

    passes : (test : Step → Bool) → first_enabled w test ≡ Some a → test a ≡ true
    passes test e = first_holds (λ b. test b ≡ true) (filter test (enabled w)) a (all_pass test (enabled w)) e

-- ---- a choice

in_those : (xs ys : List Step) (a : Step) → In (or_those xs ys) a → In xs a ⊎ In ys a
in_those [] ys a h = inr h
in_those (x ∷ xs) ys a h = inl h

of_some : (o : Option ℕ) (a : Step) → is_of o a ≡ true → any_rank a ≡ None → ⊥
of_some None a e none = cc
of_some (Some p) a e none = clash e (ap (same_rank p) none)

chosen_opens : (w : World) (a : Step) → In (choices w) a → (is_some (next w a) ≡ true) × (NoAny w → is_open_match w.board a ≡ true)
chosen_opens w a h =
    elim (in_those (filter (is_of _) (enabled w)) (open_matches w) a h) [
      | inl of ↦
          let k = filter_from (is_of _) (enabled w) a of in
          let on = from_enabled w a k.0 in
          (on, λ none. absurd (of_some _ a k.1 (none a on)))
      | inr opened ↦ let k = filter_from (is_open_match w.board) (enabled w) a opened in (from_enabled w a k.0, λ none. k.1)
    ]

from_choices : (w : World) (steps : List Step) → ((a : Step) → In steps a → (is_some (next w a) ≡ true) × (NoAny w → is_open_match w.board a ≡ true)) → OpensOnly w (chosen_from w steps)
from_choices w [] each = tt
from_choices w (a ∷ steps) each = each

by_forced : (w : World) (o : Option Step) → forced_step w ≡ o → OpensOnly w (decided w o)
by_forced w (Some a) e = forced_closed w a e
by_forced w None e = from_choices w (choices w) (chosen_opens w)

pub opens_only : (w : World) → OpensOnly w (decision w)
unfolding decision
opens_only w = by_forced w (forced_step w) refl
