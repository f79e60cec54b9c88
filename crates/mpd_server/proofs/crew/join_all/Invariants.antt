use Rattle.std.proofs.Common.{◌≡◌, ◌≤◌, length, vec_len, vec_capacity}
use Rattle.mpd_server.proofs.crew.join_all.Given as goal

abbrev pub invariant-loop-client : goal.invariant-loop-client
invariant-loop-client g l = (vec_len l.left ≡ length l.yielded) × (vec_len l.fn.begun.running ≤ vec_capacity l.left)
