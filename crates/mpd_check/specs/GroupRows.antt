-- Worked rows of leaves that are grouped.
use Rattle.std.specs.Prelude.{◌≡◌, ℕ, List, [], ◌∷◌, refl}
use Rattle.mpd_model.specs.declared.call.Trap.TheVariants.{Assertion}
use Rattle.mpd_model.specs.declared.outcome.Outcome.TheVariants as o
use Rattle.mpd_model.specs.steps.World.{call_id}
use Rattle.mpd_model.specs.steps.Outcomes.{issued_by}
use Rattle.mpd_policy.specs.declared.ending.Ending.{Ending}
use Rattle.mpd_policy.specs.declared.ending.Ending.TheVariants.{Ended, Cut}
use Rattle.mpd_explore.specs.declared.report.SearchLeaf.{SearchLeaf}
use Rattle.mpd_check.specs.declared.groups.Group.{Group}
use Rattle.mpd_check.specs.Grouped.{shown_of, groups_of}
use Rattle.std.specs.Prelude.{true}

abbrev a_leaf : ℕ → Ending → SearchLeaf
a_leaf choice e = record { choices = choice ∷ []; ending = e }

abbrev stuck_at : ℕ → Ending
stuck_at s = Ended (o.Deadlock (issued_by s (call_id 0 1) ∷ []))

abbrev group : ℕ → ℕ → Group
group first count = record { first = first; count = count }

-- two leaves end as the first does
abbrev four : List SearchLeaf
four = a_leaf 0 (Ended o.Done) ∷ a_leaf 1 (stuck_at 3) ∷ a_leaf 2 (Ended o.Done) ∷ a_leaf 3 Cut ∷ []

pub row_groups : groups_of true four ≡ group 0 2 ∷ group 1 1 ∷ group 3 1 ∷ []
row_groups = refl

pub row_shown : shown_of true four ≡ a_leaf 0 (Ended o.Done) ∷ a_leaf 1 (stuck_at 3) ∷ a_leaf 3 Cut ∷ []
row_shown = refl

-- the same call blocks at another line, the same rank traps so at another line, the same message is left over of another: each is an end of its own
abbrev failing : ℕ → Ending
failing s = Ended (o.Trap (record { rank = 0; trap = Assertion; statement = s } ∷ []))

abbrev unread_by : ℕ → Ending
unread_by s = Ended (o.Leftovers (issued_by s (call_id 0 1) ∷ []))

abbrev elsewhere : List SearchLeaf
elsewhere = a_leaf 0 (stuck_at 3) ∷ a_leaf 1 (stuck_at 4) ∷ a_leaf 2 (failing 1) ∷ a_leaf 3 (failing 2) ∷ a_leaf 4 (unread_by 1) ∷ a_leaf 5 (unread_by 2) ∷ a_leaf 6 (stuck_at 4) ∷ a_leaf 7 (failing 1) ∷ []

pub row_elsewhere : groups_of true elsewhere ≡ group 0 1 ∷ group 1 2 ∷ group 2 2 ∷ group 3 1 ∷ group 4 1 ∷ group 5 1 ∷ []
row_elsewhere = refl
