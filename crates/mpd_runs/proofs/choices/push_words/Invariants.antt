use Rattle.std.proofs.Common.{◌≡◌, length}
use Rattle.mpd_runs.specs.Choices.{cut_at_spaces, read_on}
use Rattle.mpd_runs.proofs.choices.push_words.Given as goal

abbrev pub invariant-loop-word : goal.invariant-loop-word
invariant-loop-word l = read_on l.fn.items.items (cut_at_spaces l.text) ≡ read_on l.items.items (cut_at_spaces l.rest)

abbrev pub decreases-loop-word : goal.decreases-loop-word
decreases-loop-word l = length l.rest
