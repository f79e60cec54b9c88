use Rattle.std.proofs.Common.{◌≡◌, ℕ, ◌<◌, ◌-◌, ◌++◌}
use Rattle.std.specs.List.{flat_map, range_with_len}
use Rattle.mpd_outcomes.specs.Words.{sized}
use Rattle.mpd_outcomes.specs.Keys.{part_at, key_words, IsPlaced}
use Rattle.mpd_outcomes.proofs.key.push_ranks.Given as goal

abbrev pub invariant-loop-rank : goal.invariant-loop-rank
invariant-loop-rank l = record {
  words : l.key.items ++ flat_map (λ p. sized (part_at l.core.world p)) (range_with_len l.rank (l.count - l.rank)) ≡ key_words l.core.world;
  placed : (p : ℕ) → p < l.rank → IsPlaced l.core.program l.core.world p;
}
