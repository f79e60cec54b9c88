use Rattle.std.proofs.Common.{◌≡◌, map, take, string_bytes}
use Rattle.mpd_session.specs.Effects.{partner_text}
use Rattle.mpd_session.proofs.looks.partner_texts.Given as goal

abbrev pub invariant-loop-partner : goal.invariant-loop-partner
invariant-loop-partner l = map string_bytes l.items.items ≡ map partner_text (take l.partner-index l.partners)
