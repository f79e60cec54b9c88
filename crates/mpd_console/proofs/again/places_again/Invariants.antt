use Rattle.std.proofs.Common.{◌≡◌, ◌-◌, [], ◌∷◌, ◌++◌}
use Rattle.std.specs.List.{flat_map, range_with_len}
use Rattle.mpd_model.specs.declared.limits.TheConstants.{BREAKS_MAX}
use Rattle.mpd_model.specs.runs.Breakpoints.{break_at}
use Rattle.mpd_console.specs.Again.{place_again, places_again}
use Rattle.mpd_console.proofs.again.places_again.Given as goal

abbrev pub invariant-loop-number : goal.invariant-loop-number
invariant-loop-number l =
    l.places.items ++ flat_map (λ n. place_again l.old.program.decls l.new.program (break_at l.breaks n) ∷ []) (range_with_len l.number (BREAKS_MAX - l.number)) ≡ places_again l.old.program.decls l.new.program l.breaks
