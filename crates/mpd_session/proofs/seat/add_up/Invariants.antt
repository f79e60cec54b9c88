use Rattle.std.proofs.Common.{◌≡◌, ◌+◌, vec_len}
use Rattle.mpd_session.specs.Audit.{receipts_in}
use Rattle.mpd_session.specs.Receipts.{seated}
use Rattle.mpd_session.proofs.seat.add_up.Given as goal

abbrev pub invariant-loop-seat : goal.invariant-loop-seat
invariant-loop-seat g l =
    (l.all.parts + vec_len l.seats ≡ vec_len l.fn.seats) × (l.all.amount + receipts_in seated l.seats.items ≡ receipts_in seated l.fn.seats.items)

abbrev pub decreases-loop-seat : goal.decreases-loop-seat
decreases-loop-seat g l = vec_len l.seats
