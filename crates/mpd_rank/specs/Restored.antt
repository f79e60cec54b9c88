-- A rank before what it did last, by its record.
use Rattle.mpd_model.specs.script.Program.{Program}
use Rattle.mpd_model.specs.steps.World.{RankWorld}
use Rattle.mpd_rank.specs.declared.change.RankRecord.{RankRecord}
use Rattle.mpd_rank.specs.declared.change.RankRecord.TheVariants.{Local, Woke, Released}
use Rattle.mpd_rank.specs.Undone.{undone_rank, unwoken, blocked_again}

abbrev pub restored : Program → RankWorld → RankRecord → RankWorld
restored s r (Local done) = undone_rank s r done
restored s r (Woke was) = unwoken r was
restored s r Released = blocked_again r
