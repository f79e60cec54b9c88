use Rattle.std.proofs.Common.{◌≡◌, ◌-◌, ◌++◌, map, string_bytes}
use Rattle.std.specs.List.{flat_map, range_with_len}
use Rattle.mpd_model.specs.declared.limits.TheConstants.{BREAKS_MAX}
use Rattle.mpd_model.specs.runs.Breakpoints.{break_at}
use Rattle.mpd_session.specs.Effects.{place_texts}
use Rattle.mpd_session.proofs.breaks.list.Given as goal

abbrev pub invariant-loop-number : goal.invariant-loop-number
invariant-loop-number l = map string_bytes l.items.items ++ flat_map (λ n. place_texts n (break_at l.breaks n)) (range_with_len l.number (BREAKS_MAX - l.number)) ≡ flat_map (λ n. place_texts n (break_at l.breaks n)) (range_with_len 0 BREAKS_MAX)
