use Rattle.std.proofs.Common.{◌≡◌, take}
use Rattle.mpd_page.proofs.same.same_partners.Given as goal

abbrev pub invariant-loop-number : goal.invariant-loop-number
invariant-loop-number l = take l.number l.one ≡ take l.number l.other
