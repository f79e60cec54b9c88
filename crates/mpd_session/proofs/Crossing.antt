-- What threads may hand to one another.
use denote.Param.Send.{IsSend, IsSync, sendable}
use denote.Param.SendFields.{declared_send, variants_send}
use denote.Struct.Record as made
use denote.RattleType.{RattleType}
use denote.Ref.{NamedLft}
use Rattle.std.proofs.Crossing.{crosses}
use Rattle.std.proofs.sync.ledger.Book.TheSendSync as calls
use Rattle.std.specs.declared.sync.ledger.Ledger as ledger
use Rattle.mpd_session.specs.declared.opening.Opening as opening
use Rattle.mpd_counter.specs.contracts.counter.Counter as Counter
use Rattle.mpd_queue.specs.contracts.snapshot.Shown as Shown
use Rattle.mpd_queue.specs.contracts.lists.Lists as Lists
use Rattle.mpd_match.specs.contracts.side.Side as Side
use Rattle.mpd_match.specs.contracts.board.Board as Board
use Rattle.mpd_rank.specs.contracts.rank.RankState as RankState
use Rattle.mpd_core.specs.contracts.state.Core as Core
use Rattle.mpd_trail.specs.contracts.debugger.Debugger as Debugger
use Rattle.mpd_policy.specs.contracts.breaks.Breaks as Breaks
use Rattle.mpd_model.specs.contracts.expr.Expr as Expr
use Rattle.mpd_model.proofs.expr.Expr.TheLaws.TheKnot as expr_knot
use Rattle.mpd_model.specs.contracts.place.Decl as Decl
use Rattle.mpd_model.specs.contracts.step.Step as Step
use Rattle.mpd_model.specs.contracts.breakpoint.Stop as Stop
use Rattle.mpd_code.specs.contracts.node.Node as Node
use Rattle.mpd_code.specs.contracts.code.Code as Code
use Rattle.mpd_names.specs.contracts.place.PlacedCall as PlacedCall
use Rattle.mpd_names.specs.contracts.place.Stands as Stands
use Rattle.mpd_names.specs.contracts.holding.HoldingList as CellList
use Rattle.mpd_explain.specs.contracts.near_miss.Wish as Wish
use Rattle.mpd_explain.specs.contracts.ends.WishList as WishList
use Rattle.mpd_explain.specs.contracts.ends.AbsenceList as AbsenceList
use Rattle.mpd_explain.specs.contracts.ends.AwaitedRankList as AwaitedRankList
use Rattle.mpd_explain.specs.contracts.ends.Wait as Wait
use Rattle.mpd_explain.specs.contracts.ends.WaitList as WaitList
use Rattle.mpd_explain.specs.contracts.ends.CycleList as CycleList
use Rattle.mpd_explain.specs.contracts.ends.PlacedList as PlacedList
use Rattle.mpd_explain.specs.contracts.ends.TrapPlace as TrapPlace
use Rattle.mpd_explain.specs.contracts.ends.TrapPlaceList as TrapPlaceList
use Rattle.mpd_explain.specs.contracts.ends.End as End
use Rattle.mpd_explain.specs.contracts.lost.LossList as LossList
use Rattle.mpd_explain.specs.contracts.steps.Completed as Completed
use Rattle.mpd_explain.specs.contracts.steps.PlacedStep as PlacedStep
use Rattle.mpd_explain.specs.contracts.steps.PlacedStepList as PlacedStepList
use Rattle.mpd_session.specs.contracts.request.Request as Request
use Rattle.mpd_session.specs.contracts.reply.TextList as TextList
use Rattle.mpd_session.specs.contracts.reply.HoldingList as HoldingList
use Rattle.mpd_session.specs.contracts.reply.HandleList as HandleList
use Rattle.mpd_session.specs.contracts.reply.IntegerList as IntegerList
use Rattle.mpd_session.specs.contracts.reply.NumberList as NumberList
use Rattle.mpd_session.specs.contracts.reply.PartnerList as PartnerList
use Rattle.mpd_session.specs.contracts.reply.DeclList as DeclList
use Rattle.mpd_session.specs.contracts.reply.Explained as Explained
use Rattle.mpd_session.specs.contracts.reply.Answer as Answer
use Rattle.mpd_session.specs.contracts.reply.Reply as Reply
use Rattle.mpd_session.specs.contracts.history.Entry as Entry
use Rattle.mpd_session.specs.contracts.session.Session as Session
use Rattle.mpd_session.specs.contracts.book.Book as Book
use Rattle.mpd_session.specs.contracts.shared.Shared as Shared
use Rattle.mpd_session.specs.contracts.seat.Locked as Locked

pub counter_send : IsSend Counter.the_row
counter_send = search (sendable, crosses) depth 100 fits 20000

pub shown_send : IsSend Shown.the_row
shown_send = search (sendable, crosses) depth 100 fits 20000

pub lists_send : IsSend Lists.the_row
lists_send = search (shown_send, sendable, crosses) depth 100 fits 20000

pub side_send : IsSend Side.the_row
side_send = search (lists_send, counter_send, sendable, crosses) depth 100 fits 20000

pub board_send : IsSend Board.the_row
board_send = search (side_send, counter_send, sendable, crosses) depth 100 fits 20000

pub rank_send : IsSend RankState.the_row
rank_send = search (counter_send, sendable, crosses) depth 100 fits 20000

pub expr_sync : IsSync Expr.the_row
expr_sync = search (expr_knot.crosses, sendable, crosses) depth 100 fits 50000

pub node_sync : IsSync Node.the_row
node_sync = search (expr_sync, sendable, crosses) depth 100 fits 50000

pub decl_sync : IsSync Decl.the_row
decl_sync = search (sendable, crosses) depth 100 fits 50000

pub code_sync : IsSync Code.the_row
code_sync = search (node_sync, decl_sync, sendable, crosses) depth 100 fits 50000

pub core_send : (κ : NamedLft) → IsSend (Core.the_row κ)
core_send κ = search (board_send, rank_send, code_sync, sendable, crosses) depth 100 fits 20000

pub debugger_send : (κ : NamedLft) → IsSend (Debugger.the_row κ)
debugger_send κ = search (core_send, sendable, crosses) depth 100 fits 20000

pub breaks_send : IsSend Breaks.the_row
breaks_send = search (sendable, crosses) depth 100 fits 20000

pub session_send : (κ : NamedLft) → IsSend (Session.the_row κ)
session_send κ = search (debugger_send, breaks_send, sendable, crosses) depth 100 fits 20000

-- what an entry has, piece by piece: a reply has too many kinds for one search, which looks into the answer of each; by `variants_send` the fact about answers serves
request_send : IsSend Request.the_row
request_send = search (sendable, crosses) depth 100 fits 20000

texts_send : IsSend TextList.the_row
texts_send = search (sendable, crosses) depth 100 fits 20000

holdings_send : IsSend HoldingList.the_row
holdings_send = search (sendable, crosses) depth 100 fits 20000

handles_send : IsSend HandleList.the_row
handles_send = search (sendable, crosses) depth 100 fits 20000

integers_send : IsSend IntegerList.the_row
integers_send = search (sendable, crosses) depth 100 fits 20000

numbers_send : IsSend NumberList.the_row
numbers_send = search (sendable, crosses) depth 100 fits 20000

partners_send : IsSend PartnerList.the_row
partners_send = search (sendable, crosses) depth 100 fits 20000

step_send : IsSend Step.the_row
step_send = search (sendable, crosses) depth 100 fits 20000

stop_send : IsSend Stop.the_row
stop_send = search (sendable, crosses) depth 100 fits 20000

-- what is known of an end and of steps
call_send : IsSend PlacedCall.the_row
call_send = search (sendable, crosses) depth 100 fits 20000

stands_send : IsSend Stands.the_row
stands_send = search (call_send, sendable, crosses) depth 100 fits 20000

cells_send : IsSend CellList.the_row
cells_send = search (sendable, crosses) depth 100 fits 20000

wish_send : IsSend Wish.the_row
wish_send = search (call_send, sendable, crosses) depth 100 fits 20000

wishes_send : IsSend WishList.the_row
wishes_send = search (wish_send, sendable, crosses) depth 100 fits 20000

absences_send : IsSend AbsenceList.the_row
absences_send = search (stands_send, sendable, crosses) depth 100 fits 20000

awaited_send : IsSend AwaitedRankList.the_row
awaited_send = search (sendable, crosses) depth 100 fits 20000

wait_send : IsSend Wait.the_row
wait_send = declared_send (made.declared Wait.struct Wait.the_propositions) (search (wish_send, wishes_send, absences_send, awaited_send, sendable, crosses) depth 100 fits 50000)

waits_send : IsSend WaitList.the_row
waits_send = search (wait_send, sendable, crosses) depth 100 fits 20000

cycles_send : IsSend CycleList.the_row
cycles_send = search (sendable, crosses) depth 100 fits 20000

calls_send : IsSend PlacedList.the_row
calls_send = search (call_send, sendable, crosses) depth 100 fits 20000

trap_send : IsSend TrapPlace.the_row
trap_send = declared_send (made.declared TrapPlace.struct TrapPlace.the_propositions) (search (cells_send, sendable, crosses) depth 100 fits 50000)

traps_send : IsSend TrapPlaceList.the_row
traps_send = search (trap_send, sendable, crosses) depth 100 fits 20000

end_send : IsSend End.the_row
end_send = variants_send End.enum (search (waits_send, cycles_send, calls_send, traps_send, sendable, crosses) depth 100 fits 50000)

losses_send : IsSend LossList.the_row
losses_send = search (call_send, sendable, crosses) depth 100 fits 20000

completed_send : IsSend Completed.the_row
completed_send = search (call_send, sendable, crosses) depth 100 fits 20000

placed_step_send : IsSend PlacedStep.the_row
placed_step_send = variants_send PlacedStep.enum (search (call_send, completed_send, sendable, crosses) depth 100 fits 50000)

steps_send : IsSend PlacedStepList.the_row
steps_send = search (placed_step_send, sendable, crosses) depth 100 fits 20000

decls_send : IsSend DeclList.the_row
decls_send = search (sendable, crosses) depth 100 fits 20000

explained_send : IsSend Explained.the_row
explained_send = declared_send (made.declared Explained.struct Explained.the_propositions) (search (end_send, losses_send, decls_send, sendable, crosses) depth 100 fits 50000)

answer_send : IsSend Answer.the_row
answer_send = search (texts_send, holdings_send, handles_send, integers_send, numbers_send, partners_send, step_send, stop_send, steps_send, decls_send, explained_send, sendable, crosses) depth 100 fits 50000

reply_send : IsSend Reply.the_row
reply_send = variants_send Reply.enum (search (answer_send, sendable, crosses) depth 100 fits 50000)

pub entry_send : IsSend Entry.the_row
entry_send = declared_send (made.declared Entry.struct Entry.the_propositions) (search (request_send, reply_send, sendable, crosses) depth 100 fits 50000)

pub book_send : (κ : NamedLft) → IsSend (Book.the_row κ)
book_send κ = search (entry_send, session_send, sendable, crosses) depth 100 fits 20000

module _ (κ : NamedLft) (L : RattleType) (o : opening.Ghosts L.Denot) (l : ledger.Ghosts L.Denot) where
  pub locked_send : IsSend (Locked.the_row κ L o l)
  locked_send = search (book_send, calls.the_send, sendable, crosses) depth 100 fits 50000

  pub shared_sync : IsSync (Shared.the_row κ L o l)
  shared_sync = search (locked_send, code_sync, sendable, crosses) depth 100 fits 50000
