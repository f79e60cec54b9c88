-- Rows of a script that stands before a line of three hyphens: each was worked out by hand, and holds by computing.
use Rattle.std.specs.Prelude.{◌≡◌, [], Ok, Err, codes, refl}
use Rattle.mpd_model.specs.declared.read_fault.FaultCode.TheVariants as f
use Rattle.mpd_model.specs.grammar.Faults.{fault}
use Rattle.mpd_model.specs.grammar.Grammar.{reading, script, header, version, ranks, decls, decls_from, decl, declarator, single, array_size, body, stmts, stmt, block, if_statement, otherwise, while_statement, target, statement_place, source, status, assignment, expr, level, chain, atom, place_inside, bracket, rounds, unary}
use Rattle.mpd_model.specs.grammar.Input.{count, spend, seek, slot_in, fresh, add, expect, after, sees, same_symbol, advanced, place, spelling, token, refusal}
use Rattle.mpd_model.specs.grammar.Tokens.{tokens_after, front, sign, word, number}
use Rattle.mpd_model.specs.texts.Lines.{divided}

pub rv_z_place20 : reading (divided (codes "mpd 1;ranks 1;print\n---\nlocal 0\n")).0 ≡ Err (fault f.Expected 20)
unfolding reading script header version ranks decls decls_from decl declarator single array_size body stmts stmt block if_statement otherwise while_statement target statement_place source status assignment expr level chain atom place_inside bracket rounds unary count spend seek slot_in fresh add expect after sees same_symbol advanced place spelling token refusal tokens_after front sign word number
rv_z_place20 = refl

pub rv_z_place21 : reading (divided (codes "mpd 1;ranks 1;print\r\n---\r\nlocal 0\n")).0 ≡ Err (fault f.Expected 21)
unfolding reading script header version ranks decls decls_from decl declarator single array_size body stmts stmt block if_statement otherwise while_statement target statement_place source status assignment expr level chain atom place_inside bracket rounds unary count spend seek slot_in fresh add expect after sees same_symbol advanced place spelling token refusal tokens_after front sign word number
rv_z_place21 = refl

pub rv_z_place0 : reading (divided (codes "---\nlocal 0\n")).0 ≡ Err (fault f.Expected 0)
unfolding reading script header version ranks decls decls_from decl declarator single array_size body stmts stmt block if_statement otherwise while_statement target statement_place source status assignment expr level chain atom place_inside bracket rounds unary count spend seek slot_in fresh add expect after sees same_symbol advanced place spelling token refusal tokens_after front sign word number
rv_z_place0 = refl

pub rv_z_hyphens : reading (divided (codes "mpd 1;ranks 1;\n --- \n")).0 ≡ Err (fault f.Expected 16)
unfolding reading script header version ranks decls decls_from decl declarator single array_size body stmts stmt block if_statement otherwise while_statement target statement_place source status assignment expr level chain atom place_inside bracket rounds unary count spend seek slot_in fresh add expect after sees same_symbol advanced place spelling token refusal tokens_after front sign word number
rv_z_hyphens = refl

pub rv_z_comment : reading (divided (codes "mpd 1;ranks 1;#\n#---\n---")).0 ≡ Ok (record { version = 1; ranks = 1; decls = []; body = []; lines = [] })
unfolding reading script header version ranks decls decls_from decl declarator single array_size body stmts stmt block if_statement otherwise while_statement target statement_place source status assignment expr level chain atom place_inside bracket rounds unary count spend seek slot_in fresh add expect after sees same_symbol advanced place spelling token refusal tokens_after front sign word number
rv_z_comment = refl

pub rv_z_last : reading (divided (codes "mpd 1;ranks 1;\n---\r")).0 ≡ Err (fault f.Expected 15)
unfolding reading script header version ranks decls decls_from decl declarator single array_size body stmts stmt block if_statement otherwise while_statement target statement_place source status assignment expr level chain atom place_inside bracket rounds unary count spend seek slot_in fresh add expect after sees same_symbol advanced place spelling token refusal tokens_after front sign word number
rv_z_last = refl
