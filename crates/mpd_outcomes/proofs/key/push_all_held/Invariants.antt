use Rattle.std.proofs.Common.{◌≡◌, ◌++◌, drop}
use Rattle.std.specs.List.{flat_map}
use Rattle.mpd_outcomes.specs.Keys.{held_words}
use Rattle.mpd_outcomes.proofs.key.push_all_held.Given as goal

abbrev pub invariant-loop-handle : goal.invariant-loop-handle
invariant-loop-handle l = l.words.items ++ flat_map (held_words l.board.board l.rank) (drop l.handle-index l.handles) ≡ l.fn.words.items ++ flat_map (held_words l.board.board l.rank) l.handles
