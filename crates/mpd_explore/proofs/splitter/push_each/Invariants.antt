use Rattle.std.proofs.Common.{◌≤◌, ◌++◌, ◌∷◌, [], map, length}
use Rattle.std.specs.List.{range_with_len}
use Rattle.mpd_explore.specs.declared.splitter.TheConstants.{PIECES_MAX}
use Rattle.mpd_explore.specs.Along.{Adds}
use Rattle.mpd_explore.proofs.splitter.push_each.Given as goal

abbrev pub invariant-loop-choice : goal.invariant-loop-choice
invariant-loop-choice l = record {
  adds : Adds l.fn.made.items (map (λ c. l.choices ++ c ∷ []) (range_with_len 0 l.choice)) l.made.items;
  few : length l.made.items ≤ PIECES_MAX;
}
