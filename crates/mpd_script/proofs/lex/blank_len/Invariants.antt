use Rattle.std.proofs.Common.{◌≡◌, ℕ, ◌+◌, ◌-◌, ◌≤◌, length, drop}
use Rattle.mpd_model.specs.grammar.Tokens.{tokens_at}
use Rattle.mpd_script.proofs.lex.blank_len.Given as goal

abbrev pub invariant-loop-at : goal.invariant-loop-at
invariant-loop-at l = ((place line : ℕ) → tokens_at place line l.z ≡ tokens_at (place + l.at) (line + l.fed) (drop l.at l.z)) × (l.at ≤ length l.z) × (l.fed ≤ l.at)

abbrev pub decreases-loop-at : goal.decreases-loop-at
decreases-loop-at l = length l.z - l.at
