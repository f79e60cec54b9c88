use Rattle.std.proofs.Common.{◌≡◌, map, take, string_bytes}
use Rattle.mpd_session.proofs.same.same_texts.Given as goal

abbrev pub invariant-loop-number : goal.invariant-loop-number
invariant-loop-number l = map string_bytes (take l.number l.one) ≡ map string_bytes (take l.number l.other)
