use Rattle.std.proofs.Common.{◌≡◌, ◌++◌, drop, string_bytes}
use Rattle.std.specs.List.{flat_map}
use Rattle.mpd_model.specs.grammar.Canonical.{decl_text}
use Rattle.mpd_print.proofs.script.push_decls.Given as goal

abbrev pub invariant-loop-decl : goal.invariant-loop-decl
invariant-loop-decl l = string_bytes l.out ++ flat_map decl_text (drop l.decl-index l.decls) ≡ string_bytes l.fn.out ++ flat_map decl_text l.decls
