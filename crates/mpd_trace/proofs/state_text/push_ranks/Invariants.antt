use Rattle.std.proofs.Common.{◌≡◌, ◌-◌, ◌++◌, string_bytes}
use Rattle.std.specs.List.{flat_map}
use Rattle.mpd_model.specs.steps.World.{rank_numbers}
use Rattle.mpd_model.specs.texts.Texts.{rank_lines}
use Rattle.mpd_trace.proofs.RangeTexts.{texts_from}
use Rattle.mpd_trace.proofs.state_text.push_ranks.Given as goal

abbrev pub invariant-loop-rank : goal.invariant-loop-rank
invariant-loop-rank l = string_bytes l.out ++ texts_from (rank_lines l.core.program l.core.world) l.rank (l.count - l.rank) ≡ string_bytes l.fn.out ++ flat_map (rank_lines l.core.program l.core.world) (rank_numbers l.core.world.board)
