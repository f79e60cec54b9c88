-- What threads may hand to one another.
use denote.Param.Send.{IsSend, IsSync, sendable}
use denote.Ref.{NamedLft}
use Rattle.std.proofs.Crossing.{crosses}
use Rattle.atomic_blocks.proofs.rows.shared.Seat.TheSendSync as seat
use Rattle.mpd_counter.specs.contracts.counter.Counter as Counter
use Rattle.mpd_queue.specs.contracts.snapshot.Shown as Shown
use Rattle.mpd_queue.specs.contracts.lists.Lists as Lists
use Rattle.mpd_match.specs.contracts.side.Side as Side
use Rattle.mpd_match.specs.contracts.board.Board as Board
use Rattle.mpd_rank.specs.contracts.rank.RankState as RankState
use Rattle.mpd_core.specs.contracts.state.Core as Core
use Rattle.mpd_trail.specs.contracts.debugger.Debugger as Debugger
use Rattle.mpd_model.specs.contracts.expr.Expr as Expr
use Rattle.mpd_model.proofs.expr.Expr.TheLaws.TheKnot as expr_knot
use Rattle.mpd_model.specs.contracts.place.Decl as Decl
use Rattle.mpd_code.specs.contracts.node.Node as Node
use Rattle.mpd_code.specs.contracts.code.Code as Code
use Rattle.mpd_pool.specs.contracts.work.Job as Job

pub counter_send : IsSend Counter.the_row
counter_send = search (sendable, crosses) depth 100 fits 20000

pub shown_send : IsSend Shown.the_row
shown_send = search (sendable, crosses) depth 100 fits 20000

pub lists_send : IsSend Lists.the_row
lists_send = search (shown_send, sendable, crosses) depth 100 fits 20000

pub side_send : IsSend Side.the_row
side_send = search (lists_send, counter_send, sendable, crosses) depth 100 fits 20000

pub board_send : IsSend Board.the_row
board_send = search (side_send, counter_send, sendable, crosses) depth 100 fits 20000

pub rank_send : IsSend RankState.the_row
rank_send = search (counter_send, sendable, crosses) depth 100 fits 20000

pub expr_sync : IsSync Expr.the_row
expr_sync = search (expr_knot.crosses, sendable, crosses) depth 100 fits 50000

pub node_sync : IsSync Node.the_row
node_sync = search (expr_sync, sendable, crosses) depth 100 fits 50000

pub decl_sync : IsSync Decl.the_row
decl_sync = search (sendable, crosses) depth 100 fits 50000

pub code_sync : IsSync Code.the_row
code_sync = search (node_sync, decl_sync, sendable, crosses) depth 100 fits 50000

pub core_send : (κ : NamedLft) → IsSend (Core.the_row κ)
core_send κ = search (board_send, rank_send, code_sync, sendable, crosses) depth 100 fits 20000

pub debugger_send : (κ : NamedLft) → IsSend (Debugger.the_row κ)
debugger_send κ = search (core_send, sendable, crosses) depth 100 fits 20000

pub job_send : (κ : NamedLft) → IsSend (Job.the_row κ)
job_send κ = search (debugger_send, seat.the_send, sendable, crosses) depth 100 fits 20000
