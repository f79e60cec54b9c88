use Rattle.std.proofs.Common.{rules, ◌≡◌, length, arith}
use Rattle.mpd_match.specs.Views.{SideView}
use Rattle.mpd_match.proofs.AtSide.{marks_told, all_copied}
use Rattle.mpd_match.proofs.sides.copy_sides.Goals as goal

pub returns-clause-marks : goal.returns-clause-marks
returns-clause-marks c = λ id.
    let counted : c.len-count.result ≡ length c.args.sides.now.items = search rules in
    marks_told c.loop-rank.copied.items c.args.sides.now.items id
    (all_copied (λ (u : SideView). u.marks) c.loop-rank.copied.items c.args.sides.now.items c.loop-rank.rank (omega (arith, counted, c.loop-rank-test.false)) c.loop-rank.invariant.marks)
