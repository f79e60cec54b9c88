-- The ranges of the numbers that a command line gives.
use Rattle.std.specs.Prelude.{◌≤◌, ⊤, IfSome, ℕ}
use Rattle.mpd_options.specs.declared.options.CheckOptions.{CheckOptions}
use Rattle.mpd_options.specs.declared.options.Options.{Options}
use Rattle.mpd_options.specs.declared.options.ToolOptions.{ToolOptions}
use Rattle.mpd_options.specs.declared.options.ToolOptions.TheVariants as tool

abbrev pub IsFrom : ℕ → ℕ → ℕ → Type 0
IsFrom least most n = (least ≤ n) × (n ≤ most)

-- each number of a look for deadlocks
abbrev pub AreInRange : CheckOptions → Type 0
AreInRange o =
    IsFrom 1 65536 o.runs × IsFrom 1 1000000 o.fuel × (o.split ≤ 8) × (o.workers ≤ 1000)
    × IfSome o.piece (λ n. n ≤ 1023) × IfSome o.modes (λ n. n ≤ 1000)
    × IfSome o.states (IsFrom 1 16000000) × IfSome o.sample (IsFrom 1 65536)
    × IfSome o.seed (λ n. n ≤ 18446744073709551615)

-- each number that a command is given
abbrev pub IsToolInRange : ToolOptions → Type 0
IsToolInRange (tool.Diagnose _ _ modes _ _ _) = IfSome modes (λ n. n ≤ 1000)
IsToolInRange (tool.Debug _ _ _ _ _ _ width _ height) = IsFrom 20 1000 width × IsFrom 10 1000 height
IsToolInRange (tool.Serve _ _ port clients _) = IsFrom 1 65535 port × IsFrom 1 16 clients
IsToolInRange (tool.Check _ _ options) = AreInRange options
IsToolInRange (tool.Verify _ _ _ leaf) = IfSome leaf (λ n. n ≤ 67108863)
IsToolInRange (tool.Words _ _ _ fuel _) = IsFrom 1 1000000 fuel
IsToolInRange (tool.Picture _ _ _ _ _ fuel _ _ _) = IsFrom 1 1000000 fuel
IsToolInRange (tool.Page p) =
    IfSome p.runs (IsFrom 1 1000) × IsFrom 1 1000000 p.fuel × IsFrom 1 16000000 p.states
IsToolInRange _ = ⊤

-- and how many ranks there are
abbrev pub IsLineInRange : Options → Type 0
IsLineInRange line = IsToolInRange line.asked × IfSome line.ranks (IsFrom 1 16)
