-- What workers are given, and what they bring.
use Rattle.std.specs.Prelude.{◌≡◌, true, false, List, [], ◌∷◌, length}
use Rattle.std.specs.declared.alloc.Global.{Global}
use Rattle.atomic_blocks.specs.Lent.{RowsId}
use Rattle.crossbeam_deque.specs.Handles.{view, IsPassOf}
use Rattle.mpd_model.specs.runs.Trail.{Standing}
use Rattle.mpd_trail.specs.DebuggerViews.{standing_of}
use Rattle.mpd_explore.specs.declared.report.SearchLimits.{SearchLimits}
use Rattle.mpd_explore.specs.declared.splitter.Piece.{Piece}
use Rattle.mpd_pool.specs.declared.work.Brought.{Brought}
use Rattle.mpd_pool.specs.declared.work.Job.{Job}
use Rattle.mpd_pool.specs.declared.work.Batch.{Batch}
use Rattle.mpd_pool.specs.Numbers.{hand}
use Rattle.mpd_pool.specs.Parts.{AtNumber, CanExplore}

-- each report is that of the piece that it names
abbrev pub AllRight : Standing → SearchLimits → List Piece → List Brought → Type 0
AllRight d l ps [] = Unit {0}
AllRight d l ps (b ∷ bs) = AtNumber d l ps b.piece b.report × AllRight d l ps bs

-- a worker has a pass of the deque with the numbers of these pieces, and a debugger that can explore them
abbrev pub CanStart : RowsId × Global → SearchLimits → List Piece → Job → Type 0
CanStart deque l ps j = IsPassOf deque j.pass × (view j.pass ≡ hand false true (length ps)) × CanExplore (standing_of j.debugger) l ps

-- and the debugger stands so
abbrev pub IsJob : RowsId × Global → Standing → SearchLimits → List Piece → Job → Type 0
IsJob deque d l ps j = CanStart deque l ps j × (standing_of j.debugger ≡ d)

-- a worker has brought the reports of the pieces that it names, and gives the pass back
abbrev pub IsBatch : RowsId × Global → Standing → SearchLimits → List Piece → Batch → Type 0
IsBatch deque d l ps b = IsPassOf deque b.pass × (view b.pass ≡ hand false true (length ps)) × AllRight d l ps b.brought.items
