use Rattle.std.proofs.Common.{◌≡◌, ◌++◌, drop, map}
use Rattle.mpd_explain.specs.Whys.{partner_of}
use Rattle.mpd_explain.proofs.why.partners_of.Given as goal

abbrev pub invariant-loop-partner : goal.invariant-loop-partner
invariant-loop-partner l = l.items.items ++ map (partner_of l.core.program l.core.world.board) (drop l.partner-index l.partners) ≡ map (partner_of l.core.program l.core.world.board) l.partners
