use Rattle.std.proofs.Common.{◌≡◌, ◌^◌, ◌<◌, drop}
use Rattle.mpd_model.specs.grammar.Tokens.{decimal_after}
use Rattle.mpd_script.proofs.lex.number.Given as goal

abbrev pub invariant-digits : goal.invariant-digits
invariant-digits l = (l.value < 2 ^ 63) × (decimal_after l.value (drop l.byte-index l.digits) ≡ decimal_after 0 l.digits)
