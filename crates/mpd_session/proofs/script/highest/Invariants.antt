use Rattle.std.proofs.Common.{◌≡◌, drop}
use Rattle.mpd_session.specs.Looks.{highest}
use Rattle.mpd_session.proofs.script.highest.Given as goal

abbrev pub invariant-loop-number : goal.invariant-loop-number
invariant-loop-number l = highest l.most (drop l.number-index l.numbers) ≡ highest 0 l.numbers
