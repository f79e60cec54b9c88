use Rattle.std.proofs.Common.{◌≡◌, ◌-◌, ◌++◌}
use Rattle.std.specs.List.{flat_map, range_with_len}
use Rattle.mpd_model.specs.steps.World.{call_numbers}
use Rattle.mpd_outcomes.specs.Keys.{free_words}
use Rattle.mpd_outcomes.proofs.key.push_all_free.Given as goal

abbrev pub invariant-loop-index : goal.invariant-loop-index
invariant-loop-index l = l.words.items ++ flat_map (free_words l.board.board l.rank) (range_with_len l.index (l.count - l.index)) ≡ l.fn.words.items ++ flat_map (free_words l.board.board l.rank) (call_numbers l.board.board l.rank)
