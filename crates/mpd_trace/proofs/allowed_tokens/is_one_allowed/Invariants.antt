use Rattle.std.proofs.Common.{◌≡◌, map, drop}
use Rattle.mpd_trace.specs.Allowed.{allows_one}
use Rattle.mpd_trace.proofs.allowed_tokens.is_one_allowed.Given as goal

abbrev pub invariant-loop-token : goal.invariant-loop-token
invariant-loop-token l = allows_one l.front (map (λ t. t.now) l.tokens) ≡ allows_one l.front (map (λ t. t.now) (drop l.token-index l.tokens))
