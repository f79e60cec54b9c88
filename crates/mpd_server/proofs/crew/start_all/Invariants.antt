use Rattle.std.proofs.Common.{◌≡◌, ◌+◌, ◌≤◌, length, vec_len, vec_capacity}
use Rattle.mpd_server.proofs.crew.start_all.Given as goal

abbrev pub invariant-loop-seat : goal.invariant-loop-seat
invariant-loop-seat g l = (vec_len l.running + l.unserved ≡ length l.yielded) × (vec_len l.fn.places.seats ≤ vec_capacity l.running)
