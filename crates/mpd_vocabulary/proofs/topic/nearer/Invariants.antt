use Rattle.std.proofs.Common.{◌≡◌, [], length, map}
use denote.Shadow.{shadow}
use denote.Text.{Utf8}
use Rattle.mpd_vocabulary.specs.Topics.{nearer}
use Rattle.mpd_vocabulary.proofs.topic.nearer.Given as goal

abbrev pub invariant-loop-names : goal.invariant-loop-names
invariant-loop-names l = record {
  best : nearer l.word (map (λ k. (k.0.now, k.1)) l.names) l.most l.best ≡ nearer l.word (map (λ k. (k.0.now, k.1)) l.initial.names) 1 [];
  is_text : shadow (Utf8 l.best);
}

abbrev pub decreases-loop-names : goal.decreases-loop-names
decreases-loop-names l = length l.names
