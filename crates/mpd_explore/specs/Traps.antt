-- Whether a witness tells of a trapped rank as it is.
use Rattle.std.specs.Prelude.{Bool, true, false, ◌==◌, ◌&&◌}
use Rattle.mpd_model.specs.declared.call.Trap.{Trap}
use Rattle.mpd_model.specs.declared.call.Trap.TheVariants.{Overflow, ZeroDivisor, BadRank, BadTag, BadIndex, Assertion}
use Rattle.mpd_model.specs.declared.outcome.TrappedRank.{TrappedRank}
use Rattle.mpd_explore.specs.declared.report.RankTrap.{RankTrap}

abbrev pub trap_eq : Trap → Trap → Bool
trap_eq Overflow Overflow = true
trap_eq ZeroDivisor ZeroDivisor = true
trap_eq BadRank BadRank = true
trap_eq BadTag BadTag = true
trap_eq BadIndex BadIndex = true
trap_eq Assertion Assertion = true
trap_eq t u = false

abbrev pub is_told : TrappedRank → RankTrap → Bool
is_told a b = (a.rank == b.rank) && trap_eq a.trap b.trap
