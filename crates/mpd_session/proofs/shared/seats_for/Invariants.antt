use Rattle.std.proofs.Common.{◌≡◌, ◌+◌, ◌≤◌, vec_len, vec_capacity}
use Rattle.mpd_session.specs.Receipts.{empty_seats}
use Rattle.mpd_session.proofs.shared.seats_for.Given as goal

abbrev pub invariant-loop-client : goal.invariant-loop-client
invariant-loop-client g l =
    (l.rest.parts + l.client ≡ l.clients) × (l.rest.amount ≡ 0) × (vec_len l.seats ≡ l.client) × (l.clients ≤ vec_capacity l.seats)
    × (l.seats.items ≡ empty_seats l.client)
