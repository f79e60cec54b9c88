use Rattle.std.proofs.Common.{◌≡◌, ◌++◌, map, drop}
use Rattle.mpd_trace.specs.Allowed.{kinds_told}
use Rattle.mpd_trace.proofs.allowed_tokens.told_of.Given as goal

abbrev pub invariant-loop-name : goal.invariant-loop-name
invariant-loop-name l = map (λ t. t.now) l.kinds.items ++ kinds_told l.front (map (λ k. (k.0.now, k.1.now)) (drop l.name-index l.table)) ≡ kinds_told l.front (map (λ k. (k.0.now, k.1.now)) l.table)
