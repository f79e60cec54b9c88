-- Whether two places are one, and whether two reasons to wait are.
use Rattle.std.specs.Prelude.{◌==◌, ◌&&◌, Bool, true, false, List, [], ◌∷◌, Option, Some, None}
use Rattle.mpd_model.specs.declared.step.CallId.{CallId}
use Rattle.mpd_model.specs.declared.call.Trap.{Trap}
use Rattle.mpd_model.specs.declared.call.Trap.TheVariants.{Overflow, ZeroDivisor, BadRank, BadTag, BadIndex, Assertion}
use Rattle.mpd_model.specs.steps.World.{id_eq}
use Rattle.mpd_page.specs.declared.places.Doing.{Doing}
use Rattle.mpd_page.specs.declared.places.Doing.TheVariants as doing_is
use Rattle.mpd_page.specs.declared.places.RankPlace.{RankPlace}
use Rattle.mpd_page.specs.declared.reasons.Prospect.{Prospect}
use Rattle.mpd_page.specs.declared.reasons.Prospect.TheVariants.{Complete, Fits}
use Rattle.mpd_page.specs.declared.reasons.Awaited.{Awaited}
use Rattle.mpd_page.specs.declared.reasons.Reason.{Reason}
use Rattle.mpd_page.specs.declared.reasons.Reason.TheVariants.{NoWait, AtBarrier, For}

abbrev pub same_trap : Trap → Trap → Bool
same_trap Overflow Overflow = true
same_trap ZeroDivisor ZeroDivisor = true
same_trap BadRank BadRank = true
same_trap BadTag BadTag = true
same_trap BadIndex BadIndex = true
same_trap Assertion Assertion = true
same_trap t u = false

abbrev pub same_doing : Doing → Doing → Bool
same_doing doing_is.Runs doing_is.Runs = true
same_doing doing_is.Blocked doing_is.Blocked = true
same_doing (doing_is.Trapped t) (doing_is.Trapped u) = same_trap t u
same_doing doing_is.Ended doing_is.Ended = true
same_doing a b = false

abbrev pub same_place : RankPlace → RankPlace → Bool
same_place a b = a.line == b.line && same_doing a.doing b.doing

-- item by item
abbrev pub same_all : {A : Type 0} → (A → A → Bool) → List A → List A → Bool
same_all same [] [] = true
same_all same [] (y ∷ ys) = false
same_all same (x ∷ xs) [] = false
same_all same (x ∷ xs) (y ∷ ys) = same x y && same_all same xs ys

abbrev pub same_holder : Option CallId → Option CallId → Bool
same_holder None None = true
same_holder None (Some d) = false
same_holder (Some c) None = false
same_holder (Some c) (Some d) = id_eq c d

abbrev pub same_partner : CallId × Option CallId → CallId × Option CallId → Bool
same_partner a b = id_eq a.0 b.0 && same_holder a.1 b.1

abbrev pub same_prospect : Prospect → Prospect → Bool
same_prospect Complete Complete = true
same_prospect (Fits xs) (Fits ys) = same_all same_partner xs ys
same_prospect a b = false

abbrev pub same_awaited : Awaited → Awaited → Bool
same_awaited a b = id_eq a.call b.call && same_prospect a.prospect b.prospect

abbrev pub same_reason : Reason → Reason → Bool
same_reason NoWait NoWait = true
same_reason (AtBarrier xs) (AtBarrier ys) = same_all (λ p q. p == q) xs ys
same_reason (For xs) (For ys) = same_all same_awaited xs ys
same_reason a b = false
