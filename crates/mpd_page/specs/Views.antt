-- What a page shows of a state, and what changes make of it (docs/PAGES.md, "States").
use Rattle.std.specs.Prelude.{ℕ, ℤ, ◌==◌, ◌+◌, pos, if◌then◌else◌, List, [], ◌∷◌, ◌++◌, map, replicate, slice_get, Option, Some, None}
use Rattle.mpd_model.specs.declared.step.Step.{Step}
use Rattle.mpd_model.specs.script.Declaration.{variables_in, handles_in}
use Rattle.mpd_model.specs.script.Program.{Program}
use Rattle.mpd_model.specs.steps.Next.{next}
use Rattle.mpd_model.specs.steps.World.{World, calls_of, rank_numbers}
use Rattle.mpd_page.specs.declared.places.RankPlace.{RankPlace}
use Rattle.mpd_page.specs.declared.reasons.Reason.{Reason}
use Rattle.mpd_page.specs.declared.reasons.Reason.TheVariants.{NoWait}
use Rattle.mpd_page.specs.declared.changes.PlaceChange.{PlaceChange}
use Rattle.mpd_page.specs.declared.changes.CellChange.{CellChange}
use Rattle.mpd_page.specs.declared.changes.HandleChange.{HandleChange}
use Rattle.mpd_page.specs.declared.changes.Printed.{Printed}
use Rattle.mpd_page.specs.declared.changes.ShownCall.{ShownCall}
use Rattle.mpd_page.specs.declared.changes.NewCall.{NewCall}
use Rattle.mpd_page.specs.declared.changes.ReasonChange.{ReasonChange}
use Rattle.mpd_page.specs.declared.changes.NodeChange.{NodeChange}
use Rattle.mpd_page.specs.Places.{place, nowhere}
use Rattle.mpd_page.specs.Reasons.{reason}
use Rattle.mpd_page.specs.Applied.{set_last, set_cells, with_one, of_rank}
use Rattle.mpd_page.specs.Changes.{vars_of, handles_of, out_of, call_view, node_change}

-- ---- views

-- what is shown of a rank
pub record RankView : Type 0 where
  pub place : RankPlace
  pub vars : List ℤ
  pub handles : List (Option ℕ)
  pub out : List ℤ
  pub calls : List ShownCall
  pub reason : Reason

abbrev pub rank_view : Program → World → ℕ → RankView
rank_view s w p = record {
  place = place s w p;
  vars = vars_of (slice_get w.ranks p);
  handles = handles_of (slice_get w.ranks p);
  out = out_of (slice_get w.ranks p);
  calls = map (call_view s) (calls_of w.board p);
  reason = reason w p;
}

-- what is shown of a state
abbrev pub view_of : Program → World → List RankView
view_of s w = map (rank_view s w) (rank_numbers w.board)

-- what is shown before the start: each rank at line 0, each cell 0, and nothing else
abbrev pub blank : Program → ℕ → RankView
blank s p = record {
  place = nowhere;
  vars = replicate (variables_in s.decls) (pos 0);
  handles = replicate (handles_in s.decls) None;
  out = [];
  calls = [];
  reason = NoWait;
}

abbrev pub blank_view : Program → World → List RankView
blank_view s w = map (blank s) (rank_numbers w.board)

-- ---- changes that are applied

-- the call that a rank has issued
abbrev pub call_of : ℕ → Option NewCall → Option ShownCall
call_of p None = None
call_of p (Some c) = if c.rank == p then Some c.call else None

abbrev pub places_of : ℕ → NodeChange → List RankPlace
places_of p c = of_rank (λ (e : PlaceChange). e.rank) (λ e. e.place) p c.places

abbrev pub cells_of : ℕ → NodeChange → List (ℕ × ℤ)
cells_of p c = of_rank (λ (e : CellChange). e.rank) (λ e. (e.cell, e.value)) p c.cells

abbrev pub requests_of : ℕ → NodeChange → List (ℕ × Option ℕ)
requests_of p c = of_rank (λ (e : HandleChange). e.rank) (λ e. (e.handle, e.call)) p c.handles

abbrev pub printed_of : ℕ → NodeChange → List ℤ
printed_of p c = of_rank (λ (e : Printed). e.rank) (λ e. e.value) p c.printed

abbrev pub reasons_of : ℕ → NodeChange → List Reason
reasons_of p c = of_rank (λ (e : ReasonChange). e.rank) (λ e. e.reason) p c.reasons

-- what the changes make of what was shown of rank p
abbrev pub applied : NodeChange → ℕ → RankView → RankView
applied c p r = record {
  place = set_last r.place (places_of p c);
  vars = set_cells r.vars (cells_of p c);
  handles = set_cells r.handles (requests_of p c);
  out = r.out ++ printed_of p c;
  calls = with_one r.calls (call_of p c.call);
  reason = set_last r.reason (reasons_of p c);
}

abbrev pub applied_from : NodeChange → ℕ → List RankView → List RankView
applied_from c p [] = []
applied_from c p (r ∷ rs) = applied c p r ∷ applied_from c (p + 1) rs

-- what they make of what was shown of all ranks
abbrev pub applied_all : NodeChange → List RankView → List RankView
applied_all c rs = applied_from c 0 rs

-- ---- along a run

abbrev pub on_to : (World → List RankView) → List RankView → Option World → List RankView
on_to further views None = views
on_to further views (Some w) = further w

-- the changes of steps, applied one after another
abbrev pub applied_along : Program → World → List RankView → List Step → List RankView
applied_along s w views [] = views
applied_along s w views (a ∷ steps) = on_to (λ v. applied_along s v (applied_all (node_change s w v a) views) steps) views (next w a)
