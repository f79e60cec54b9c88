-- What options of `check` mean together.
use Rattle.std.specs.Prelude.{Bool, ◌||◌, is_some}
use Rattle.mpd_options.specs.declared.options.CheckOptions.{CheckOptions}

-- whether `--witness` has traps beside deadlocks: where that is asked for, and wherever more is
-- told of leaves, or other runs are tried, than in a plain report. Modes, pieces and `--complete`
-- don't turn it on
abbrev pub wants_traps : CheckOptions → Bool
wants_traps c =
    c.traps || c.explain || c.ends || c.until_bad || c.group || c.outcomes || is_some c.sample
