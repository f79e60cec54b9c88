-- Worked rows of what pages are made of.
use Rattle.std.specs.Prelude.{◌≡◌, ℕ, pos, negsuc, true, false, Bool, List, [], ◌∷◌, map, Option, Some, None, codes, refl}
use Rattle.mpd_model.specs.declared.call.Trap.TheVariants.{BadTag, Assertion}
use Rattle.mpd_model.specs.declared.step.CallId.{CallId}
use Rattle.mpd_model.specs.declared.step.Step.{Step}
use Rattle.mpd_model.specs.declared.step.Step.TheVariants.{Local, Match, Wake, Release}
use Rattle.mpd_model.specs.steps.World.{call_id}
use Rattle.mpd_names.specs.declared.place.Stands.TheVariants as at
use Rattle.mpd_page.specs.declared.places.Doing.TheVariants as doing_is
use Rattle.mpd_page.specs.declared.reasons.Prospect.TheVariants.{Complete, Fits}
use Rattle.mpd_page.specs.declared.reasons.Awaited.{Awaited}
use Rattle.mpd_page.specs.declared.reasons.Reason.TheVariants.{NoWait, AtBarrier, For}
use Rattle.mpd_page.specs.Markup.{harmless}
use Rattle.mpd_page.specs.Places.{place_of, on_line, nowhere}
use Rattle.mpd_page.specs.Same.{same_place, same_reason}
use Rattle.mpd_page.specs.Applied.{set_last, of_rank}
use Rattle.mpd_page.specs.Changes.{place_if, value_by, handle_by, values_behind}
use Rattle.mpd_page.specs.Nodes.{lead}
use Rattle.mpd_page.specs.Trees.{branch, child, run_end, runs_tree}

-- ---- how the data is written

-- the end of an element, and what begins a comment
pub row_harmless : map harmless (codes "a</script>" ∷ codes "<!--" ∷ codes "x > 1 & y" ∷ [] ∷ []) ≡ codes "a\\u003c/script>" ∷ codes "\\u003c!--" ∷ codes "x > 1 & y" ∷ [] ∷ []
row_harmless = refl

-- ---- where ranks stand

pub row_places : map place_of (None ∷ Some at.Ended ∷ Some (at.At 8) ∷ Some (at.Trapped 11 Assertion) ∷ []) ≡ nowhere ∷ on_line 0 doing_is.Ended ∷ on_line 8 doing_is.Runs ∷ on_line 11 (doing_is.Trapped Assertion) ∷ []
row_places = refl

-- the same; another line; another doing; another trap
pub row_same_places : map {B = Bool} (same_place (on_line 8 (doing_is.Trapped BadTag))) (on_line 8 (doing_is.Trapped BadTag) ∷ on_line 9 (doing_is.Trapped BadTag) ∷ on_line 8 doing_is.Blocked ∷ on_line 8 (doing_is.Trapped Assertion) ∷ [])
    ≡ true ∷ false ∷ false ∷ false ∷ []
row_same_places = refl

-- ---- why a rank waits

abbrev pub held : Option ℕ → Option CallId
held None = None
held (Some j) = Some (call_id 0 j)

-- call i of rank 0, and the first calls of ranks that it fits, each held back by a call of rank 0, or by none
abbrev pub one_of : ℕ → List (ℕ × Option ℕ) → Awaited
one_of i partners = record { call = call_id 0 i; prospect = Fits (map (λ (q : ℕ × Option ℕ). (call_id q.0 0, held q.1)) partners) }

-- that it doesn't wait, that ranks are absent, that a call is complete, and what it fits, held back or not
pub row_same_reasons : map {B = Bool} (same_reason (For (one_of 1 ((1, Some 0) ∷ []) ∷ [])))
    (NoWait ∷ AtBarrier [] ∷ For [] ∷ For (record { call = call_id 0 1; prospect = Complete } ∷ []) ∷ For (one_of 1 ((1, None) ∷ []) ∷ []) ∷ For (one_of 2 ((1, Some 0) ∷ []) ∷ []) ∷ For (one_of 1 ((1, Some 0) ∷ []) ∷ []) ∷ [])
    ≡ false ∷ false ∷ false ∷ false ∷ false ∷ false ∷ true ∷ []
row_same_reasons = refl

pub row_same_absent : map {B = Bool} (same_reason (AtBarrier (1 ∷ 3 ∷ []))) (AtBarrier (1 ∷ 3 ∷ []) ∷ AtBarrier (1 ∷ []) ∷ AtBarrier (1 ∷ 2 ∷ []) ∷ NoWait ∷ []) ≡ true ∷ false ∷ false ∷ false ∷ []
row_same_absent = refl

-- ---- changes

-- the same place, and another
pub row_others : place_if 1 (on_line 8 doing_is.Runs) (on_line 8 doing_is.Runs) ∷ place_if 1 (on_line 8 doing_is.Runs) (on_line 9 doing_is.Blocked) ∷ place_if 0 nowhere (on_line 0 doing_is.Ended) ∷ []
    ≡ [] ∷ (record { rank = 1; place = on_line 9 doing_is.Blocked } ∷ []) ∷ (record { rank = 0; place = on_line 0 doing_is.Ended } ∷ []) ∷ []
row_others = refl

-- the same value, others, and a cell that isn't there
pub row_values : value_by 0 2 (Some (pos 5)) (Some (pos 5)) ∷ value_by 0 2 (Some (pos 0)) (Some (negsuc 0)) ∷ value_by 3 1 (Some (negsuc 4)) (Some (pos 17)) ∷ value_by 0 2 None (Some (pos 5)) ∷ []
    ≡ [] ∷ (record { rank = 0; cell = 2; value = negsuc 0 } ∷ []) ∷ (record { rank = 3; cell = 1; value = pos 17 } ∷ []) ∷ [] ∷ []
row_values = refl

pub row_handles : handle_by 0 1 (Some None) (Some None) ∷ handle_by 0 1 (Some None) (Some (Some 3)) ∷ handle_by 0 1 (Some (Some 3)) (Some None) ∷ handle_by 0 1 (Some (Some 3)) (Some (Some 3)) ∷ handle_by 0 1 (Some (Some 3)) (Some (Some 4)) ∷ []
    ≡ [] ∷ (record { rank = 0; handle = 1; call = Some 3 } ∷ []) ∷ (record { rank = 0; handle = 1; call = None } ∷ []) ∷ [] ∷ (record { rank = 0; handle = 1; call = Some 4 } ∷ []) ∷ []
row_handles = refl

-- the values after none, one, all and more
pub row_printed : map {B = List ℕ} (λ n. values_behind {A = ℕ} n (7 ∷ 8 ∷ [])) (0 ∷ 1 ∷ 2 ∷ 3 ∷ []) ≡ (7 ∷ 8 ∷ []) ∷ (8 ∷ []) ∷ [] ∷ [] ∷ []
row_printed = refl

-- what entries tell of ranks 0, 1 and 2
pub row_of_rank : map {B = List ℕ} (λ p. of_rank {E = ℕ × ℕ} {A = ℕ} (λ e. e.0) (λ e. e.1) p ((0, 7) ∷ (1, 8) ∷ (0, 9) ∷ [])) (0 ∷ 1 ∷ 2 ∷ []) ≡ (7 ∷ 9 ∷ []) ∷ (8 ∷ []) ∷ [] ∷ []
row_of_rank = refl

pub row_last : map {B = ℕ} (set_last {A = ℕ} 5) ([] ∷ (6 ∷ []) ∷ (6 ∷ 7 ∷ []) ∷ []) ≡ 5 ∷ 6 ∷ 7 ∷ []
row_last = refl

-- ---- states

-- a step that is no candidate, and the second of two
pub row_leads : lead 4 (Local 2) [] ∷ lead 1 (Match (call_id 2 0) (call_id 0 0)) (Match (call_id 1 0) (call_id 0 0) ∷ Match (call_id 2 0) (call_id 0 0) ∷ []) ∷ []
    ≡ record { from = 4; step = Local 2; number = None } ∷ record { from = 1; step = Match (call_id 2 0) (call_id 0 0); number = Some 1 } ∷ []
row_leads = refl

-- ---- the tree

-- the states of two runs that begin with the same step: the second leaves after it
pub row_tree : runs_tree [] ((Local 0 ∷ Local 1 ∷ []) ∷ (Local 0 ∷ Wake 1 ∷ Release ∷ []) ∷ []) ≡ branch 0 (Local 0) ∷ branch 1 (Local 1) ∷ branch 1 (Wake 1) ∷ branch 3 Release ∷ []
row_tree = refl

-- a run that is there already adds nothing, and ends where it did
pub row_same_run : runs_tree [] ((Local 0 ∷ Local 1 ∷ []) ∷ (Local 0 ∷ Local 1 ∷ []) ∷ []) ≡ branch 0 (Local 0) ∷ branch 1 (Local 1) ∷ []
row_same_run = refl

pub row_same_end : run_end (branch 0 (Local 0) ∷ branch 1 (Local 1) ∷ []) 0 (Local 0 ∷ Local 1 ∷ []) ≡ 2
row_same_end = refl

-- a step leads to another state from another one
pub row_children : map {B = Option ℕ} (λ (q : ℕ × Step). child (branch 0 (Local 0) ∷ branch 1 (Local 0) ∷ branch 0 (Local 1) ∷ []) q.0 q.1) ((0, Local 0) ∷ (1, Local 0) ∷ (0, Local 1) ∷ (1, Local 1) ∷ (2, Local 0) ∷ [])
    ≡ Some 1 ∷ Some 2 ∷ Some 3 ∷ None ∷ None ∷ []
row_children = refl
