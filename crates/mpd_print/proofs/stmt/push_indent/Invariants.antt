use Rattle.std.proofs.Common.{◌≡◌, ◌-◌, ◌++◌, string_bytes}
use Rattle.mpd_model.specs.grammar.Canonical.{indent}
use Rattle.mpd_print.proofs.stmt.push_indent.Given as goal

abbrev pub invariant-loop : goal.invariant-loop
invariant-loop l = string_bytes l.out ++ indent (l.depth - l.counter) ≡ string_bytes l.fn.out ++ indent l.depth
