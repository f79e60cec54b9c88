use Rattle.std.proofs.Common.{◌≡◌, length, map}
use Rattle.mpd_vocabulary.specs.Topics.{topic_in}
use Rattle.mpd_vocabulary.proofs.topic.topic_in.Given as goal

abbrev pub invariant-loop-names : goal.invariant-loop-names
invariant-loop-names l = topic_in (map (λ k. (k.0.now, k.1)) l.names) l.word ≡ topic_in (map (λ k. (k.0.now, k.1)) l.initial.names) l.word

abbrev pub decreases-loop-names : goal.decreases-loop-names
decreases-loop-names l = length l.names
