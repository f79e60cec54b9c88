-- More worked rows, of an independent reading of the definitions: each was worked out by hand from the rules alone.
use Rattle.std.specs.Prelude.{◌≡◌, ℕ, ℤ, pos, negsuc, true, false, map, slice_get, List, [], ◌∷◌, ◌++◌, Option, Some, None, Ok, Err, codes, replicate, flat_map, refl}
use Rattle.std.specs.Option.{option_map}
use Rattle.std.specs.Fmt.{digits}
use Rattle.mpd_model.specs.declared.expr.BinaryOp.TheVariants.{Equal, NotEqual}
use Rattle.mpd_model.specs.declared.place.DeclKind.TheVariants.{Variable}
use Rattle.mpd_model.specs.declared.place.Place.{Place}
use Rattle.mpd_model.specs.declared.read_fault.FaultCode.TheVariants as f
use Rattle.mpd_model.specs.declared.step.Step.{Step}
use Rattle.mpd_model.specs.declared.step.Step.TheVariants.{Local, Match, Wake, Release}
use Rattle.mpd_model.specs.declared.call.Call.{Call}
use Rattle.mpd_model.specs.declared.call.CallKind.TheVariants.{Send, Recv}
use Rattle.mpd_model.specs.declared.call.Mode.{Mode}
use Rattle.mpd_model.specs.declared.call.Mode.TheVariants.{Rendezvous, Buffered}
use Rattle.mpd_model.specs.declared.call.Trap.TheVariants.{BadRank, BadTag}
use Rattle.mpd_model.specs.declared.call.Activity.{Activity}
use Rattle.mpd_model.specs.declared.call.Activity.TheVariants.{Running, Blocked, Trapped}
use Rattle.mpd_model.specs.declared.call.MatchSet.TheVariants.{Pair, Woke, Barrier}
use Rattle.mpd_model.specs.declared.outcome.Outcome.TheVariants as o
use Rattle.mpd_model.specs.script.Declaration.{Declared}
use Rattle.mpd_model.specs.grammar.Faults.{fault}
use Rattle.mpd_model.specs.grammar.Grammar.{reading, script, header, version, ranks, decls, decls_from, decl, declarator, single, array_size, body, stmts, stmt, block, if_statement, otherwise, while_statement, target, statement_place, source, status, assignment, expr, level, chain, atom, place_inside, bracket, rounds, unary}
use Rattle.mpd_model.specs.grammar.Input.{start_of, count, spend, seek, slot_in, fresh, add, expect, after, sees, same_symbol, advanced, place, spelling, token, refusal}
use Rattle.mpd_model.specs.script.Term.{Term, lit, own_rank, size, cell, op2, Target}
use Rattle.mpd_model.specs.grammar.Tokens.{tokens_after, front, sign, word, number}
use Rattle.mpd_model.specs.script.Tree.{Tree, branch, no_more, then_more}
use Rattle.mpd_model.specs.script.Program.{Program}
use Rattle.mpd_model.specs.steps.World.{RankWorld, World, call_id, start, calls_of, eligible, is_free, buffer}
use Rattle.mpd_model.specs.steps.Next.{next, fold, enabled}
use Rattle.mpd_model.specs.steps.Outcomes.{issued_by, outcome}
use Rattle.mpd_model.specs.runs.Trail.{Trail, Standing, opening, applied, first_standing, world_of}
use Rattle.mpd_model.specs.texts.Lines.{lines_of, ended_lines, divided}
use Rattle.mpd_model.specs.texts.Texts.{rank_text, show_text}
use Rattle.mpd_model.specs.texts.Answers.{line_answer}
use Rattle.mpd_rows.specs.worlds.Statements.{print, send, recv, check}

abbrev variable_named : List ℕ → Declared
variable_named name = record { kind = Variable; name = name; size = None }

abbrev at : ℕ → Place
at n = record { declaration = n; first = n; cells = 1 }

abbrev into : Place → Target
into p = record { place = p; index = None }

abbrev n : ℕ → Term
n k = lit (pos k)

pub rv_e1 : reading (codes "mpd") ≡ Err (fault f.Expected 3)
unfolding reading script header version ranks decls decls_from decl declarator single array_size body stmts stmt block if_statement otherwise while_statement target statement_place source status assignment expr level chain atom place_inside bracket rounds unary count spend seek slot_in fresh add expect after sees same_symbol advanced place spelling token refusal tokens_after front sign word number
rv_e1 = refl

pub rv_e2 : reading (codes "mpd 1") ≡ Err (fault f.Expected 5)
unfolding reading script header version ranks decls decls_from decl declarator single array_size body stmts stmt block if_statement otherwise while_statement target statement_place source status assignment expr level chain atom place_inside bracket rounds unary count spend seek slot_in fresh add expect after sees same_symbol advanced place spelling token refusal tokens_after front sign word number
rv_e2 = refl

pub rv_e3 : reading (codes "mpd x;") ≡ Err (fault f.Expected 4)
unfolding reading script header version ranks decls decls_from decl declarator single array_size body stmts stmt block if_statement otherwise while_statement target statement_place source status assignment expr level chain atom place_inside bracket rounds unary count spend seek slot_in fresh add expect after sees same_symbol advanced place spelling token refusal tokens_after front sign word number
rv_e3 = refl

pub rv_e4 : reading (codes "mpd 0;") ≡ Err (fault f.NotInVersion 4)
unfolding reading script header version ranks decls decls_from decl declarator single array_size body stmts stmt block if_statement otherwise while_statement target statement_place source status assignment expr level chain atom place_inside bracket rounds unary count spend seek slot_in fresh add expect after sees same_symbol advanced place spelling token refusal tokens_after front sign word number
rv_e4 = refl

pub rv_e5 : reading (codes "mpd 1;ranks;") ≡ Err (fault f.Expected 11)
unfolding reading script header version ranks decls decls_from decl declarator single array_size body stmts stmt block if_statement otherwise while_statement target statement_place source status assignment expr level chain atom place_inside bracket rounds unary count spend seek slot_in fresh add expect after sees same_symbol advanced place spelling token refusal tokens_after front sign word number
rv_e5 = refl

pub rv_e6 : reading (codes "mpd 1;ranks 99999999999999999999;") ≡ Err (fault f.BadToken 12)
unfolding reading script header version ranks decls decls_from decl declarator single array_size body stmts stmt block if_statement otherwise while_statement target statement_place source status assignment expr level chain atom place_inside bracket rounds unary count spend seek slot_in fresh add expect after sees same_symbol advanced place spelling token refusal tokens_after front sign word number
rv_e6 = refl

pub rv_e7 : reading (codes "mpd 1;ranks x;") ≡ Err (fault f.Expected 12)
unfolding reading script header version ranks decls decls_from decl declarator single array_size body stmts stmt block if_statement otherwise while_statement target statement_place source status assignment expr level chain atom place_inside bracket rounds unary count spend seek slot_in fresh add expect after sees same_symbol advanced place spelling token refusal tokens_after front sign word number
rv_e7 = refl

pub rv_e8 : reading (codes "mpd 1;ranks 1;var x;print y;print $;") ≡ Err (fault f.UnknownName 26)
unfolding reading script header version ranks decls decls_from decl declarator single array_size body stmts stmt block if_statement otherwise while_statement target statement_place source status assignment expr level chain atom place_inside bracket rounds unary count spend seek slot_in fresh add expect after sees same_symbol advanced place spelling token refusal tokens_after front sign word number
rv_e8 = refl

pub rv_e9 : reading (codes "mpd 1;ranks 1;print y") ≡ Err (fault f.UnknownName 20)
unfolding reading script header version ranks decls decls_from decl declarator single array_size body stmts stmt block if_statement otherwise while_statement target statement_place source status assignment expr level chain atom place_inside bracket rounds unary count spend seek slot_in fresh add expect after sees same_symbol advanced place spelling token refusal tokens_after front sign word number
rv_e9 = refl

pub rv_e10 : reading (codes "mpd 1;ranks 1;var x") ≡ Err (fault f.Expected 19)
unfolding reading script header version ranks decls decls_from decl declarator single array_size body stmts stmt block if_statement otherwise while_statement target statement_place source status assignment expr level chain atom place_inside bracket rounds unary count spend seek slot_in fresh add expect after sees same_symbol advanced place spelling token refusal tokens_after front sign word number
rv_e10 = refl

pub rv_e11 : reading (codes "mpd 1;ranks 1;var x y;") ≡ Err (fault f.Expected 20)
unfolding reading script header version ranks decls decls_from decl declarator single array_size body stmts stmt block if_statement otherwise while_statement target statement_place source status assignment expr level chain atom place_inside bracket rounds unary count spend seek slot_in fresh add expect after sees same_symbol advanced place spelling token refusal tokens_after front sign word number
rv_e11 = refl

pub rv_e12 : reading (codes "mpd 1;ranks 1;var 1x;") ≡ Err (fault f.Expected 18)
unfolding reading script header version ranks decls decls_from decl declarator single array_size body stmts stmt block if_statement otherwise while_statement target statement_place source status assignment expr level chain atom place_inside bracket rounds unary count spend seek slot_in fresh add expect after sees same_symbol advanced place spelling token refusal tokens_after front sign word number
rv_e12 = refl

pub rv_e13 : reading (codes "mpd 1;ranks 1;var x$;") ≡ Err (fault f.BadToken 19)
unfolding reading script header version ranks decls decls_from decl declarator single array_size body stmts stmt block if_statement otherwise while_statement target statement_place source status assignment expr level chain atom place_inside bracket rounds unary count spend seek slot_in fresh add expect after sees same_symbol advanced place spelling token refusal tokens_after front sign word number
rv_e13 = refl

pub rv_e14 : reading (codes "mpd 1;ranks 1;var x;var y;var x") ≡ Err (fault f.Twice 30)
unfolding reading script header version ranks decls decls_from decl declarator single array_size body stmts stmt block if_statement otherwise while_statement target statement_place source status assignment expr level chain atom place_inside bracket rounds unary count spend seek slot_in fresh add expect after sees same_symbol advanced place spelling token refusal tokens_after front sign word number
rv_e14 = refl

pub rv_e15 : reading (codes "mpd 1;ranks 1;var x;recv y from 0 tag 0;") ≡ Err (fault f.UnknownName 25)
unfolding reading script header version ranks decls decls_from decl declarator single array_size body stmts stmt block if_statement otherwise while_statement target statement_place source status assignment expr level chain atom place_inside bracket rounds unary count spend seek slot_in fresh add expect after sees same_symbol advanced place spelling token refusal tokens_after front sign word number
rv_e15 = refl

pub rv_e16 : reading (codes "mpd 1;ranks 1;var x;recv 5 from 0 tag 0;") ≡ Err (fault f.Expected 25)
unfolding reading script header version ranks decls decls_from decl declarator single array_size body stmts stmt block if_statement otherwise while_statement target statement_place source status assignment expr level chain atom place_inside bracket rounds unary count spend seek slot_in fresh add expect after sees same_symbol advanced place spelling token refusal tokens_after front sign word number
rv_e16 = refl

pub rv_e17 : reading (codes "mpd 1;ranks 1;var x;recv x[0] from 0 tag 0;") ≡ Err (fault f.Expected 26)
unfolding reading script header version ranks decls decls_from decl declarator single array_size body stmts stmt block if_statement otherwise while_statement target statement_place source status assignment expr level chain atom place_inside bracket rounds unary count spend seek slot_in fresh add expect after sees same_symbol advanced place spelling token refusal tokens_after front sign word number
rv_e17 = refl

pub rv_e20 : reading (codes "mpd 1;ranks 1;send 1 to 0;") ≡ Err (fault f.Expected 25)
unfolding reading script header version ranks decls decls_from decl declarator single array_size body stmts stmt block if_statement otherwise while_statement target statement_place source status assignment expr level chain atom place_inside bracket rounds unary count spend seek slot_in fresh add expect after sees same_symbol advanced place spelling token refusal tokens_after front sign word number
rv_e20 = refl

pub rv_e21 : reading (codes "mpd 1;ranks 1;ssend 1 to 0;") ≡ Err (fault f.Expected 26)
unfolding reading script header version ranks decls decls_from decl declarator single array_size body stmts stmt block if_statement otherwise while_statement target statement_place source status assignment expr level chain atom place_inside bracket rounds unary count spend seek slot_in fresh add expect after sees same_symbol advanced place spelling token refusal tokens_after front sign word number
rv_e21 = refl

pub rv_e22 : reading (codes "mpd 1;ranks 1;if 1 { print 1;") ≡ Err (fault f.Expected 29)
unfolding reading script header version ranks decls decls_from decl declarator single array_size body stmts stmt block if_statement otherwise while_statement target statement_place source status assignment expr level chain atom place_inside bracket rounds unary count spend seek slot_in fresh add expect after sees same_symbol advanced place spelling token refusal tokens_after front sign word number
rv_e22 = refl

pub rv_e23 : reading (codes "mpd 1;ranks 1;if 1 {} else if 1 {}") ≡ Err (fault f.Expected 27)
unfolding reading script header version ranks decls decls_from decl declarator single array_size body stmts stmt block if_statement otherwise while_statement target statement_place source status assignment expr level chain atom place_inside bracket rounds unary count spend seek slot_in fresh add expect after sees same_symbol advanced place spelling token refusal tokens_after front sign word number
rv_e23 = refl

pub rv_e24 : reading (codes "mpd 1;ranks 1;if 1 print 1;") ≡ Err (fault f.Expected 19)
unfolding reading script header version ranks decls decls_from decl declarator single array_size body stmts stmt block if_statement otherwise while_statement target statement_place source status assignment expr level chain atom place_inside bracket rounds unary count spend seek slot_in fresh add expect after sees same_symbol advanced place spelling token refusal tokens_after front sign word number
rv_e24 = refl

pub rv_e25 : reading (codes "mpd 1;ranks 1;if 1 {} else {} else {}") ≡ Err (fault f.Expected 30)
unfolding reading script header version ranks decls decls_from decl declarator single array_size body stmts stmt block if_statement otherwise while_statement target statement_place source status assignment expr level chain atom place_inside bracket rounds unary count spend seek slot_in fresh add expect after sees same_symbol advanced place spelling token refusal tokens_after front sign word number
rv_e25 = refl

pub rv_e26 : reading (codes "mpd 1;ranks 1;print 1 print 2;") ≡ Err (fault f.Expected 22)
unfolding reading script header version ranks decls decls_from decl declarator single array_size body stmts stmt block if_statement otherwise while_statement target statement_place source status assignment expr level chain atom place_inside bracket rounds unary count spend seek slot_in fresh add expect after sees same_symbol advanced place spelling token refusal tokens_after front sign word number
rv_e26 = refl

pub rv_e27 : reading (codes "mpd 1;ranks 1;print ();") ≡ Err (fault f.Expected 21)
unfolding reading script header version ranks decls decls_from decl declarator single array_size body stmts stmt block if_statement otherwise while_statement target statement_place source status assignment expr level chain atom place_inside bracket rounds unary count spend seek slot_in fresh add expect after sees same_symbol advanced place spelling token refusal tokens_after front sign word number
rv_e27 = refl

pub rv_e28 : reading (codes "mpd 1;ranks 1;print (1;") ≡ Err (fault f.Expected 22)
unfolding reading script header version ranks decls decls_from decl declarator single array_size body stmts stmt block if_statement otherwise while_statement target statement_place source status assignment expr level chain atom place_inside bracket rounds unary count spend seek slot_in fresh add expect after sees same_symbol advanced place spelling token refusal tokens_after front sign word number
rv_e28 = refl

pub rv_e29 : reading (codes "mpd 1;ranks 1;print 1 = 2;") ≡ Err (fault f.Expected 22)
unfolding reading script header version ranks decls decls_from decl declarator single array_size body stmts stmt block if_statement otherwise while_statement target statement_place source status assignment expr level chain atom place_inside bracket rounds unary count spend seek slot_in fresh add expect after sees same_symbol advanced place spelling token refusal tokens_after front sign word number
rv_e29 = refl

pub rv_e30 : reading (codes "mpd 1;ranks 1;print 1 === 2;") ≡ Err (fault f.Expected 24)
unfolding reading script header version ranks decls decls_from decl declarator single array_size body stmts stmt block if_statement otherwise while_statement target statement_place source status assignment expr level chain atom place_inside bracket rounds unary count spend seek slot_in fresh add expect after sees same_symbol advanced place spelling token refusal tokens_after front sign word number
rv_e30 = refl

pub rv_e31 : reading (codes "mpd 1;ranks 1;print 1<==2;") ≡ Err (fault f.Expected 23)
unfolding reading script header version ranks decls decls_from decl declarator single array_size body stmts stmt block if_statement otherwise while_statement target statement_place source status assignment expr level chain atom place_inside bracket rounds unary count spend seek slot_in fresh add expect after sees same_symbol advanced place spelling token refusal tokens_after front sign word number
rv_e31 = refl

pub rv_e32 : reading (codes "mpd 1;ranks 1;print 1 &&& 2;") ≡ Err (fault f.BadToken 24)
unfolding reading script header version ranks decls decls_from decl declarator single array_size body stmts stmt block if_statement otherwise while_statement target statement_place source status assignment expr level chain atom place_inside bracket rounds unary count spend seek slot_in fresh add expect after sees same_symbol advanced place spelling token refusal tokens_after front sign word number
rv_e32 = refl

pub rv_e33 : reading (codes "mpd 1;ranks 1;print 1 | 2;") ≡ Err (fault f.BadToken 22)
unfolding reading script header version ranks decls decls_from decl declarator single array_size body stmts stmt block if_statement otherwise while_statement target statement_place source status assignment expr level chain atom place_inside bracket rounds unary count spend seek slot_in fresh add expect after sees same_symbol advanced place spelling token refusal tokens_after front sign word number
rv_e33 = refl

pub rv_e34 : reading (codes "mpd 1;ranks 1;print 1 == & 2;") ≡ Err (fault f.BadToken 25)
unfolding reading script header version ranks decls decls_from decl declarator single array_size body stmts stmt block if_statement otherwise while_statement target statement_place source status assignment expr level chain atom place_inside bracket rounds unary count spend seek slot_in fresh add expect after sees same_symbol advanced place spelling token refusal tokens_after front sign word number
rv_e34 = refl

pub rv_e37 : reading (codes "mpd 1;ranks 1;print 9223372036854775808") ≡ Err (fault f.BadToken 20)
unfolding reading script header version ranks decls decls_from decl declarator single array_size body stmts stmt block if_statement otherwise while_statement target statement_place source status assignment expr level chain atom place_inside bracket rounds unary count spend seek slot_in fresh add expect after sees same_symbol advanced place spelling token refusal tokens_after front sign word number
rv_e37 = refl

pub rv_e38 : reading (codes "mpd 1;ranks 1;print " ++ replicate 64 40 ++ codes "&") ≡ Err (fault f.BadToken 84)
unfolding reading script header version ranks decls decls_from decl declarator single array_size body stmts stmt block if_statement otherwise while_statement target statement_place source status assignment expr level chain atom place_inside bracket rounds unary count spend seek slot_in fresh add expect after sees same_symbol advanced place spelling token refusal tokens_after front sign word number
rv_e38 = refl

pub rv_e39 : reading (codes "mpd 1;ranks 1;print (1)==(1)==1;") ≡ Err (fault f.Expected 28)
unfolding reading script header version ranks decls decls_from decl declarator single array_size body stmts stmt block if_statement otherwise while_statement target statement_place source status assignment expr level chain atom place_inside bracket rounds unary count spend seek slot_in fresh add expect after sees same_symbol advanced place spelling token refusal tokens_after front sign word number
rv_e39 = refl

pub rv_e42 : reading (codes "mpd 1;ranks 1;print (1)==" ++ replicate 63 40) ≡ Err (fault f.TooDeep 87)
unfolding reading script header version ranks decls decls_from decl declarator single array_size body stmts stmt block if_statement otherwise while_statement target statement_place source status assignment expr level chain atom place_inside bracket rounds unary count spend seek slot_in fresh add expect after sees same_symbol advanced place spelling token refusal tokens_after front sign word number
rv_e42 = refl

pub rv_e44b : reading (codes "mpd 1;ranks 1;" ++ flat_map {X = ℕ} (λ _. codes "if 1 {") (replicate 63 0) ++ codes "if 1 {} else {if 1 {") ≡ Err (fault f.TooDeep 411)
unfolding reading script header version ranks decls decls_from decl declarator single array_size body stmts stmt block if_statement otherwise while_statement target statement_place source status assignment expr level chain atom place_inside bracket rounds unary count spend seek slot_in fresh add expect after sees same_symbol advanced place spelling token refusal tokens_after front sign word number
rv_e44b = refl

pub rv_e45 : reading (codes "mpd 1;ranks 1;" ++ flat_map {X = ℕ} (λ _. codes "if 1 {") (replicate 64 0) ++ codes "if 1 $") ≡ Err (fault f.BadToken 403)
unfolding reading script header version ranks decls decls_from decl declarator single array_size body stmts stmt block if_statement otherwise while_statement target statement_place source status assignment expr level chain atom place_inside bracket rounds unary count spend seek slot_in fresh add expect after sees same_symbol advanced place spelling token refusal tokens_after front sign word number
rv_e45 = refl

pub rv_e45b : reading (codes "mpd 1;ranks 1;" ++ flat_map {X = ℕ} (λ _. codes "if 1 {") (replicate 64 0) ++ codes "if 1 ;") ≡ Err (fault f.Expected 403)
unfolding reading script header version ranks decls decls_from decl declarator single array_size body stmts stmt block if_statement otherwise while_statement target statement_place source status assignment expr level chain atom place_inside bracket rounds unary count spend seek slot_in fresh add expect after sees same_symbol advanced place spelling token refusal tokens_after front sign word number
rv_e45b = refl

pub rv_e46 : reading (codes "mpd 1;ranks 1;" ++ 127 ∷ []) ≡ Err (fault f.NotText 14)
unfolding reading script header version ranks decls decls_from decl declarator single array_size body stmts stmt block if_statement otherwise while_statement target statement_place source status assignment expr level chain atom place_inside bracket rounds unary count spend seek slot_in fresh add expect after sees same_symbol advanced place spelling token refusal tokens_after front sign word number
rv_e46 = refl

pub rv_e46b : reading (codes "xyz" ++ 0 ∷ []) ≡ Err (fault f.NotText 3)
unfolding reading script header version ranks decls decls_from decl declarator single array_size body stmts stmt block if_statement otherwise while_statement target statement_place source status assignment expr level chain atom place_inside bracket rounds unary count spend seek slot_in fresh add expect after sees same_symbol advanced place spelling token refusal tokens_after front sign word number
rv_e46b = refl

pub rv_e46c : reading (codes "mpd 1;" ++ 11 ∷ []) ≡ Err (fault f.NotText 6)
unfolding reading script header version ranks decls decls_from decl declarator single array_size body stmts stmt block if_statement otherwise while_statement target statement_place source status assignment expr level chain atom place_inside bracket rounds unary count spend seek slot_in fresh add expect after sees same_symbol advanced place spelling token refusal tokens_after front sign word number
rv_e46c = refl

pub rv_e47 : reading (replicate 65537 32) ≡ Err (fault f.TooLong 65536)
unfolding reading script header version ranks decls decls_from decl declarator single array_size body stmts stmt block if_statement otherwise while_statement target statement_place source status assignment expr level chain atom place_inside bracket rounds unary count spend seek slot_in fresh add expect after sees same_symbol advanced place spelling token refusal tokens_after front sign word number
rv_e47 = refl

pub rv_e51 : reading (codes "mpd 1;ranks 1;if1 {}") ≡ Err (fault f.UnknownName 14)
unfolding reading script header version ranks decls decls_from decl declarator single array_size body stmts stmt block if_statement otherwise while_statement target statement_place source status assignment expr level chain atom place_inside bracket rounds unary count spend seek slot_in fresh add expect after sees same_symbol advanced place spelling token refusal tokens_after front sign word number
rv_e51 = refl

pub rv_e51b : reading (codes "mpd 1;ranks 1;printx;") ≡ Err (fault f.UnknownName 14)
unfolding reading script header version ranks decls decls_from decl declarator single array_size body stmts stmt block if_statement otherwise while_statement target statement_place source status assignment expr level chain atom place_inside bracket rounds unary count spend seek slot_in fresh add expect after sees same_symbol advanced place spelling token refusal tokens_after front sign word number
rv_e51b = refl

pub rv_e51c : reading (codes "mpd 1;ranks 1;print rank1;") ≡ Err (fault f.UnknownName 20)
unfolding reading script header version ranks decls decls_from decl declarator single array_size body stmts stmt block if_statement otherwise while_statement target statement_place source status assignment expr level chain atom place_inside bracket rounds unary count spend seek slot_in fresh add expect after sees same_symbol advanced place spelling token refusal tokens_after front sign word number
rv_e51c = refl

pub rv_e52 : reading (codes "mpd 1;ranks 1;var waitany;") ≡ Err (fault f.Expected 18)
unfolding reading script header version ranks decls decls_from decl declarator single array_size body stmts stmt block if_statement otherwise while_statement target statement_place source status assignment expr level chain atom place_inside bracket rounds unary count spend seek slot_in fresh add expect after sees same_symbol advanced place spelling token refusal tokens_after front sign word number
rv_e52 = refl

pub rv_e53 : reading (codes "mpd 1;ranks 1;print 1;var x;") ≡ Err (fault f.Expected 22)
unfolding reading script header version ranks decls decls_from decl declarator single array_size body stmts stmt block if_statement otherwise while_statement target statement_place source status assignment expr level chain atom place_inside bracket rounds unary count spend seek slot_in fresh add expect after sees same_symbol advanced place spelling token refusal tokens_after front sign word number
rv_e53 = refl

pub rv_e54 : reading (codes "MPD 1;") ≡ Err (fault f.Expected 0)
unfolding reading script header version ranks decls decls_from decl declarator single array_size body stmts stmt block if_statement otherwise while_statement target statement_place source status assignment expr level chain atom place_inside bracket rounds unary count spend seek slot_in fresh add expect after sees same_symbol advanced place spelling token refusal tokens_after front sign word number
rv_e54 = refl

pub rv_e56 : reading (codes "mpd 1;ranks 1;waitany x;") ≡ Err (fault f.NotInVersion 14)
unfolding reading script header version ranks decls decls_from decl declarator single array_size body stmts stmt block if_statement otherwise while_statement target statement_place source status assignment expr level chain atom place_inside bracket rounds unary count spend seek slot_in fresh add expect after sees same_symbol advanced place spelling token refusal tokens_after front sign word number
rv_e56 = refl

pub rv_e56b : reading (codes "mpd 1;ranks 1;if 1 { waitany") ≡ Err (fault f.NotInVersion 21)
unfolding reading script header version ranks decls decls_from decl declarator single array_size body stmts stmt block if_statement otherwise while_statement target statement_place source status assignment expr level chain atom place_inside bracket rounds unary count spend seek slot_in fresh add expect after sees same_symbol advanced place spelling token refusal tokens_after front sign word number
rv_e56b = refl

pub rv_e57 : reading (codes "mpd 1;ranks 1;if 1 {} waitany") ≡ Err (fault f.NotInVersion 22)
unfolding reading script header version ranks decls decls_from decl declarator single array_size body stmts stmt block if_statement otherwise while_statement target statement_place source status assignment expr level chain atom place_inside bracket rounds unary count spend seek slot_in fresh add expect after sees same_symbol advanced place spelling token refusal tokens_after front sign word number
rv_e57 = refl

pub rv_e59 : reading (codes "mpd 1;ranks 1;var x;print x==;") ≡ Err (fault f.Expected 29)
unfolding reading script header version ranks decls decls_from decl declarator single array_size body stmts stmt block if_statement otherwise while_statement target statement_place source status assignment expr level chain atom place_inside bracket rounds unary count spend seek slot_in fresh add expect after sees same_symbol advanced place spelling token refusal tokens_after front sign word number
rv_e59 = refl

pub rv_e60 : reading (codes "mpd 1;ranks 1;barrier 1;") ≡ Err (fault f.Expected 22)
unfolding reading script header version ranks decls decls_from decl declarator single array_size body stmts stmt block if_statement otherwise while_statement target statement_place source status assignment expr level chain atom place_inside bracket rounds unary count spend seek slot_in fresh add expect after sees same_symbol advanced place spelling token refusal tokens_after front sign word number
rv_e60 = refl

pub rv_e61 : reading (codes "mpd 1;ranks 1;print 1;;") ≡ Err (fault f.Expected 22)
unfolding reading script header version ranks decls decls_from decl declarator single array_size body stmts stmt block if_statement otherwise while_statement target statement_place source status assignment expr level chain atom place_inside bracket rounds unary count spend seek slot_in fresh add expect after sees same_symbol advanced place spelling token refusal tokens_after front sign word number
rv_e61 = refl

pub rv_e62 : reading (codes "mpd 1;ranks 1") ≡ Err (fault f.Expected 13)
unfolding reading script header version ranks decls decls_from decl declarator single array_size body stmts stmt block if_statement otherwise while_statement target statement_place source status assignment expr level chain atom place_inside bracket rounds unary count spend seek slot_in fresh add expect after sees same_symbol advanced place spelling token refusal tokens_after front sign word number
rv_e62 = refl

pub rv_e63 : reading (codes "mpd 1;ranks 017;") ≡ Err (fault f.BadRanks 12)
unfolding reading script header version ranks decls decls_from decl declarator single array_size body stmts stmt block if_statement otherwise while_statement target statement_place source status assignment expr level chain atom place_inside bracket rounds unary count spend seek slot_in fresh add expect after sees same_symbol advanced place spelling token refusal tokens_after front sign word number
rv_e63 = refl

pub rv_e64 : reading (codes "# only a comment") ≡ Err (fault f.Expected 16)
unfolding reading script header version ranks decls decls_from decl declarator single array_size body stmts stmt block if_statement otherwise while_statement target statement_place source status assignment expr level chain atom place_inside bracket rounds unary count spend seek slot_in fresh add expect after sees same_symbol advanced place spelling token refusal tokens_after front sign word number
rv_e64 = refl

pub rv_e65 : reading (codes "mpd 1;ranks 1;print 1 !;") ≡ Err (fault f.Expected 22)
unfolding reading script header version ranks decls decls_from decl declarator single array_size body stmts stmt block if_statement otherwise while_statement target statement_place source status assignment expr level chain atom place_inside bracket rounds unary count spend seek slot_in fresh add expect after sees same_symbol advanced place spelling token refusal tokens_after front sign word number
rv_e65 = refl

pub rv_e66 : reading (codes "mpd 1;ranks 1;assert 1;") ≡ Ok (record { version = 1; ranks = 1; decls = []; body = check (lit (pos 1)) ∷ []; lines = 1 ∷ [] })
unfolding reading script header version ranks decls decls_from decl declarator single array_size body stmts stmt block if_statement otherwise while_statement target statement_place source status assignment expr level chain atom place_inside bracket rounds unary count spend seek slot_in fresh add expect after sees same_symbol advanced place spelling token refusal tokens_after front sign word number
rv_e66 = refl

pub rv_e67 : reading (codes "mpd 1;ranks 1;print x[0];") ≡ Err (fault f.UnknownName 20)
unfolding reading script header version ranks decls decls_from decl declarator single array_size body stmts stmt block if_statement otherwise while_statement target statement_place source status assignment expr level chain atom place_inside bracket rounds unary count spend seek slot_in fresh add expect after sees same_symbol advanced place spelling token refusal tokens_after front sign word number
rv_e67 = refl

pub rv_e68 : reading (codes "mpd 1;ranks 1;var x;print x[0];") ≡ Err (fault f.Expected 27)
unfolding reading script header version ranks decls decls_from decl declarator single array_size body stmts stmt block if_statement otherwise while_statement target statement_place source status assignment expr level chain atom place_inside bracket rounds unary count spend seek slot_in fresh add expect after sees same_symbol advanced place spelling token refusal tokens_after front sign word number
rv_e68 = refl

pub rv_e69 : reading (codes "mpd 1;ranks 1;var x;isend x 1 to 0 tag 0;") ≡ Err (fault f.UnknownName 26)
unfolding reading script header version ranks decls decls_from decl declarator single array_size body stmts stmt block if_statement otherwise while_statement target statement_place source status assignment expr level chain atom place_inside bracket rounds unary count spend seek slot_in fresh add expect after sees same_symbol advanced place spelling token refusal tokens_after front sign word number
rv_e69 = refl

pub rv_e70 : reading (codes "mpd 1 ranks 1;") ≡ Err (fault f.Expected 6)
unfolding reading script header version ranks decls decls_from decl declarator single array_size body stmts stmt block if_statement otherwise while_statement target statement_place source status assignment expr level chain atom place_inside bracket rounds unary count spend seek slot_in fresh add expect after sees same_symbol advanced place spelling token refusal tokens_after front sign word number
rv_e70 = refl

pub rv_e71 : reading (codes "mpd 1;ranks 1;var else;") ≡ Err (fault f.Expected 18)
unfolding reading script header version ranks decls decls_from decl declarator single array_size body stmts stmt block if_statement otherwise while_statement target statement_place source status assignment expr level chain atom place_inside bracket rounds unary count spend seek slot_in fresh add expect after sees same_symbol advanced place spelling token refusal tokens_after front sign word number
rv_e71 = refl

pub rv_e72 : reading (codes "mpd 1;ranks 1;print \"x\";") ≡ Err (fault f.BadToken 20)
unfolding reading script header version ranks decls decls_from decl declarator single array_size body stmts stmt block if_statement otherwise while_statement target statement_place source status assignment expr level chain atom place_inside bracket rounds unary count spend seek slot_in fresh add expect after sees same_symbol advanced place spelling token refusal tokens_after front sign word number
rv_e72 = refl

pub rv_e73 : reading (codes "mpd 1;ranks 1;print 1 ~ 2;") ≡ Err (fault f.BadToken 22)
unfolding reading script header version ranks decls decls_from decl declarator single array_size body stmts stmt block if_statement otherwise while_statement target statement_place source status assignment expr level chain atom place_inside bracket rounds unary count spend seek slot_in fresh add expect after sees same_symbol advanced place spelling token refusal tokens_after front sign word number
rv_e73 = refl

pub rv_e74 : reading (codes "mpd -1;") ≡ Err (fault f.Expected 4)
unfolding reading script header version ranks decls decls_from decl declarator single array_size body stmts stmt block if_statement otherwise while_statement target statement_place source status assignment expr level chain atom place_inside bracket rounds unary count spend seek slot_in fresh add expect after sees same_symbol advanced place spelling token refusal tokens_after front sign word number
rv_e74 = refl

pub rv_e75 : reading (codes "mpd 3$") ≡ Err (fault f.NotInVersion 4)
unfolding reading script header version ranks decls decls_from decl declarator single array_size body stmts stmt block if_statement otherwise while_statement target statement_place source status assignment expr level chain atom place_inside bracket rounds unary count spend seek slot_in fresh add expect after sees same_symbol advanced place spelling token refusal tokens_after front sign word number
rv_e75 = refl

pub rv_e76 : reading (codes "mpd 1;ranks 17$") ≡ Err (fault f.BadRanks 12)
unfolding reading script header version ranks decls decls_from decl declarator single array_size body stmts stmt block if_statement otherwise while_statement target statement_place source status assignment expr level chain atom place_inside bracket rounds unary count spend seek slot_in fresh add expect after sees same_symbol advanced place spelling token refusal tokens_after front sign word number
rv_e76 = refl

pub rv_o35 : reading (codes "mpd 1;ranks 1;print 9223372036854775807;") ≡ Ok (record { version = 1; ranks = 1; decls = []; body = print (lit (pos 9223372036854775807)) ∷ []; lines = 1 ∷ [] })
unfolding reading script header version ranks decls decls_from decl declarator single array_size body stmts stmt block if_statement otherwise while_statement target statement_place source status assignment expr level chain atom place_inside bracket rounds unary count spend seek slot_in fresh add expect after sees same_symbol advanced place spelling token refusal tokens_after front sign word number
rv_o35 = refl

pub rv_o36 : reading (codes "mpd 1;ranks 1;print 0000000000000000000000000000001;") ≡ Ok (record { version = 1; ranks = 1; decls = []; body = print (lit (pos 1)) ∷ []; lines = 1 ∷ [] })
unfolding reading script header version ranks decls decls_from decl declarator single array_size body stmts stmt block if_statement otherwise while_statement target statement_place source status assignment expr level chain atom place_inside bracket rounds unary count spend seek slot_in fresh add expect after sees same_symbol advanced place spelling token refusal tokens_after front sign word number
rv_o36 = refl

pub rv_o40 : reading (codes "mpd 1;ranks 1;print (1==2)!=3;") ≡ Ok (record { version = 1; ranks = 1; decls = []; body = print (op2 NotEqual (op2 Equal (lit (pos 1)) (lit (pos 2))) (lit (pos 3))) ∷ []; lines = 1 ∷ [] })
unfolding reading script header version ranks decls decls_from decl declarator single array_size body stmts stmt block if_statement otherwise while_statement target statement_place source status assignment expr level chain atom place_inside bracket rounds unary count spend seek slot_in fresh add expect after sees same_symbol advanced place spelling token refusal tokens_after front sign word number
rv_o40 = refl

pub rv_o41 : reading (codes "mpd 1;ranks 1;print 1==(2!=3);") ≡ Ok (record { version = 1; ranks = 1; decls = []; body = print (op2 Equal (lit (pos 1)) (op2 NotEqual (lit (pos 2)) (lit (pos 3)))) ∷ []; lines = 1 ∷ [] })
unfolding reading script header version ranks decls decls_from decl declarator single array_size body stmts stmt block if_statement otherwise while_statement target statement_place source status assignment expr level chain atom place_inside bracket rounds unary count spend seek slot_in fresh add expect after sees same_symbol advanced place spelling token refusal tokens_after front sign word number
rv_o41 = refl

pub rv_o42 : reading (codes "mpd 1;ranks 1;print " ++ replicate 63 40 ++ codes "1==1" ++ replicate 63 41 ++ codes ";") ≡ Ok (record { version = 1; ranks = 1; decls = []; body = print (op2 Equal (lit (pos 1)) (lit (pos 1))) ∷ []; lines = 1 ∷ [] })
unfolding reading script header version ranks decls decls_from decl declarator single array_size body stmts stmt block if_statement otherwise while_statement target statement_place source status assignment expr level chain atom place_inside bracket rounds unary count spend seek slot_in fresh add expect after sees same_symbol advanced place spelling token refusal tokens_after front sign word number
rv_o42 = refl

pub rv_o43 : reading (codes "mpd 1;ranks 1;send " ++ replicate 64 40 ++ codes "1" ++ replicate 64 41 ++ codes " to " ++ replicate 64 40 ++ codes "0" ++ replicate 64 41 ++ codes " tag 0;") ≡ Ok (record { version = 1; ranks = 1; decls = []; body = send (lit (pos 1)) (lit (pos 0)) (lit (pos 0)) ∷ []; lines = 1 ∷ [] })
unfolding reading script header version ranks decls decls_from decl declarator single array_size body stmts stmt block if_statement otherwise while_statement target statement_place source status assignment expr level chain atom place_inside bracket rounds unary count spend seek slot_in fresh add expect after sees same_symbol advanced place spelling token refusal tokens_after front sign word number
rv_o43 = refl

pub rv_o49 : reading (codes "mpd 1;ranks 1;print 1 # ;\n;") ≡ Ok (record { version = 1; ranks = 1; decls = []; body = print (lit (pos 1)) ∷ []; lines = 1 ∷ [] })
unfolding reading script header version ranks decls decls_from decl declarator single array_size body stmts stmt block if_statement otherwise while_statement target statement_place source status assignment expr level chain atom place_inside bracket rounds unary count spend seek slot_in fresh add expect after sees same_symbol advanced place spelling token refusal tokens_after front sign word number
rv_o49 = refl

pub rv_o49b : reading (codes "mpd 1;ranks 1;print 1;#x") ≡ Ok (record { version = 1; ranks = 1; decls = []; body = print (lit (pos 1)) ∷ []; lines = 1 ∷ [] })
unfolding reading script header version ranks decls decls_from decl declarator single array_size body stmts stmt block if_statement otherwise while_statement target statement_place source status assignment expr level chain atom place_inside bracket rounds unary count spend seek slot_in fresh add expect after sees same_symbol advanced place spelling token refusal tokens_after front sign word number
rv_o49b = refl

pub rv_o50 : reading (codes "mpd 1;\rranks 1;\nprint 1;") ≡ Ok (record { version = 1; ranks = 1; decls = []; body = print (lit (pos 1)) ∷ []; lines = 2 ∷ [] })
unfolding reading script header version ranks decls decls_from decl declarator single array_size body stmts stmt block if_statement otherwise while_statement target statement_place source status assignment expr level chain atom place_inside bracket rounds unary count spend seek slot_in fresh add expect after sees same_symbol advanced place spelling token refusal tokens_after front sign word number
rv_o50 = refl

pub rv_o55 : reading (codes "mpd 1;ranks 1;var _;var __1;print __1;") ≡ Ok (record { version = 1; ranks = 1; decls = variable_named (codes "_") ∷ variable_named (codes "__1") ∷ []; body = print (cell (at 1)) ∷ []; lines = 1 ∷ [] })
unfolding reading script header version ranks decls decls_from decl declarator single array_size body stmts stmt block if_statement otherwise while_statement target statement_place source status assignment expr level chain atom place_inside bracket rounds unary count spend seek slot_in fresh add expect after sees same_symbol advanced place spelling token refusal tokens_after front sign word number
rv_o55 = refl

pub rv_o57 : reading (codes "mpd 1;ranks 16;var x;if size{}else{}if 1{if 0{print x;}\nprint 2;}else{\nprint 3;}print 4;") ≡ Ok (record { version = 1; ranks = 16; decls = variable_named (codes "x") ∷ []; body = branch size no_more no_more ∷ branch (lit (pos 1)) (then_more (branch (lit (pos 0)) (then_more (print (cell (at 0))) no_more) no_more) (then_more (print (lit (pos 2))) no_more)) (then_more (print (lit (pos 3))) no_more) ∷ print (lit (pos 4)) ∷ []; lines = 1 ∷ 1 ∷ 1 ∷ 1 ∷ 2 ∷ 3 ∷ 3 ∷ [] })
unfolding reading script header version ranks decls decls_from decl declarator single array_size body stmts stmt block if_statement otherwise while_statement target statement_place source status assignment expr level chain atom place_inside bracket rounds unary count spend seek slot_in fresh add expect after sees same_symbol advanced place spelling token refusal tokens_after front sign word number
rv_o57 = refl

pub rv_o58 : reading (codes "\n#\n\nmpd 1;ranks 1;print\n1;print rank!=rank;") ≡ Ok (record { version = 1; ranks = 1; decls = []; body = print (lit (pos 1)) ∷ print (op2 NotEqual own_rank own_rank) ∷ []; lines = 4 ∷ 5 ∷ [] })
unfolding reading script header version ranks decls decls_from decl declarator single array_size body stmts stmt block if_statement otherwise while_statement target statement_place source status assignment expr level chain atom place_inside bracket rounds unary count spend seek slot_in fresh add expect after sees same_symbol advanced place spelling token refusal tokens_after front sign word number
rv_o58 = refl

pub rv_o59 : reading (codes "mpd 1;ranks 1;") ≡ Ok (record { version = 1; ranks = 1; decls = []; body = []; lines = [] })
unfolding reading script header version ranks decls decls_from decl declarator single array_size body stmts stmt block if_statement otherwise while_statement target statement_place source status assignment expr level chain atom place_inside bracket rounds unary count spend seek slot_in fresh add expect after sees same_symbol advanced place spelling token refusal tokens_after front sign word number
rv_o59 = refl

pub rv_m0 : stmt (block 64) (record (start_of (codes "print 1;")) { lines = replicate 4096 1 }) ≡ Err (fault f.TooMany 0)
unfolding reading script header version ranks decls decls_from decl declarator single array_size body stmts stmt block if_statement otherwise while_statement target statement_place source status assignment expr level chain atom place_inside bracket rounds unary count spend seek slot_in fresh add expect after sees same_symbol advanced place spelling token refusal tokens_after front sign word number
rv_m0 = refl

pub rv_m1 : stmt (block 64) (record (start_of (codes "waitany")) { lines = replicate 4096 1 }) ≡ Err (fault f.TooMany 0)
unfolding reading script header version ranks decls decls_from decl declarator single array_size body stmts stmt block if_statement otherwise while_statement target statement_place source status assignment expr level chain atom place_inside bracket rounds unary count spend seek slot_in fresh add expect after sees same_symbol advanced place spelling token refusal tokens_after front sign word number
rv_m1 = refl

pub rv_m2 : stmt (block 64) (record (start_of (codes ";")) { lines = replicate 4096 1 }) ≡ Err (fault f.Expected 0)
unfolding reading script header version ranks decls decls_from decl declarator single array_size body stmts stmt block if_statement otherwise while_statement target statement_place source status assignment expr level chain atom place_inside bracket rounds unary count spend seek slot_in fresh add expect after sees same_symbol advanced place spelling token refusal tokens_after front sign word number
rv_m2 = refl

pub rv_m3 : stmt (block 64) (record (start_of (codes "while 1 {}")) { lines = replicate 4096 1 }) ≡ Err (fault f.TooMany 0)
unfolding reading script header version ranks decls decls_from decl declarator single array_size body stmts stmt block if_statement otherwise while_statement target statement_place source status assignment expr level chain atom place_inside bracket rounds unary count spend seek slot_in fresh add expect after sees same_symbol advanced place spelling token refusal tokens_after front sign word number
rv_m3 = refl

pub rv_m4 : stmt (block 64) (record (start_of (codes "$")) { lines = replicate 4096 1 }) ≡ Err (fault f.BadToken 0)
unfolding reading script header version ranks decls decls_from decl declarator single array_size body stmts stmt block if_statement otherwise while_statement target statement_place source status assignment expr level chain atom place_inside bracket rounds unary count spend seek slot_in fresh add expect after sees same_symbol advanced place spelling token refusal tokens_after front sign word number
rv_m4 = refl

pub rv_m5 : stmt (block 64) (record (start_of (codes "x")) { lines = replicate 4096 1 }) ≡ Err (fault f.UnknownName 0)
unfolding reading script header version ranks decls decls_from decl declarator single array_size body stmts stmt block if_statement otherwise while_statement target statement_place source status assignment expr level chain atom place_inside bracket rounds unary count spend seek slot_in fresh add expect after sees same_symbol advanced place spelling token refusal tokens_after front sign word number
rv_m5 = refl

pub rv_m6 : stmt (block 64) (record (start_of (codes "if 1 {")) { lines = replicate 4096 1 }) ≡ Err (fault f.TooMany 0)
unfolding reading script header version ranks decls decls_from decl declarator single array_size body stmts stmt block if_statement otherwise while_statement target statement_place source status assignment expr level chain atom place_inside bracket rounds unary count spend seek slot_in fresh add expect after sees same_symbol advanced place spelling token refusal tokens_after front sign word number
rv_m6 = refl

pub rv_m7 : stmt (block 64) (record (start_of (codes "")) { lines = replicate 4096 1 }) ≡ Err (fault f.Expected 0)
unfolding reading script header version ranks decls decls_from decl declarator single array_size body stmts stmt block if_statement otherwise while_statement target statement_place source status assignment expr level chain atom place_inside bracket rounds unary count spend seek slot_in fresh add expect after sees same_symbol advanced place spelling token refusal tokens_after front sign word number
rv_m7 = refl

pub rv_m9 : stmt (block 64) (record (start_of (codes "if 1 {print 1;}")) { lines = replicate 4095 1 }) ≡ Err (fault f.TooMany 6)
unfolding reading script header version ranks decls decls_from decl declarator single array_size body stmts stmt block if_statement otherwise while_statement target statement_place source status assignment expr level chain atom place_inside bracket rounds unary count spend seek slot_in fresh add expect after sees same_symbol advanced place spelling token refusal tokens_after front sign word number
rv_m9 = refl

pub rv_d0 : decl Variable (record (start_of (codes "y;")) { decls = record { kind = Variable; name = codes "x"; size = Some 1024 } ∷ [] }) ≡ Err (fault f.TooMany 0)
unfolding reading script header version ranks decls decls_from decl declarator single array_size body stmts stmt block if_statement otherwise while_statement target statement_place source status assignment expr level chain atom place_inside bracket rounds unary count spend seek slot_in fresh add expect after sees same_symbol advanced place spelling token refusal tokens_after front sign word number
rv_d0 = refl

pub rv_d1 : decl Variable (record (start_of (codes "y")) { decls = record { kind = Variable; name = codes "x"; size = Some 1024 } ∷ [] }) ≡ Err (fault f.TooMany 0)
unfolding reading script header version ranks decls decls_from decl declarator single array_size body stmts stmt block if_statement otherwise while_statement target statement_place source status assignment expr level chain atom place_inside bracket rounds unary count spend seek slot_in fresh add expect after sees same_symbol advanced place spelling token refusal tokens_after front sign word number
rv_d1 = refl

pub rv_d2 : decl Variable (record (start_of (codes "y$")) { decls = record { kind = Variable; name = codes "x"; size = Some 1024 } ∷ [] }) ≡ Err (fault f.TooMany 0)
unfolding reading script header version ranks decls decls_from decl declarator single array_size body stmts stmt block if_statement otherwise while_statement target statement_place source status assignment expr level chain atom place_inside bracket rounds unary count spend seek slot_in fresh add expect after sees same_symbol advanced place spelling token refusal tokens_after front sign word number
rv_d2 = refl

pub rv_d3 : decl Variable (record (start_of (codes "y[1];")) { decls = record { kind = Variable; name = codes "x"; size = Some 1024 } ∷ [] }) ≡ Err (fault f.TooMany 2)
unfolding reading script header version ranks decls decls_from decl declarator single array_size body stmts stmt block if_statement otherwise while_statement target statement_place source status assignment expr level chain atom place_inside bracket rounds unary count spend seek slot_in fresh add expect after sees same_symbol advanced place spelling token refusal tokens_after front sign word number
rv_d3 = refl

pub rv_d4 : decl Variable (record (start_of (codes "x;")) { decls = record { kind = Variable; name = codes "x"; size = Some 1024 } ∷ [] }) ≡ Err (fault f.Twice 0)
unfolding reading script header version ranks decls decls_from decl declarator single array_size body stmts stmt block if_statement otherwise while_statement target statement_place source status assignment expr level chain atom place_inside bracket rounds unary count spend seek slot_in fresh add expect after sees same_symbol advanced place spelling token refusal tokens_after front sign word number
rv_d4 = refl

pub rv_d5 : decl Variable (record (start_of (codes "1")) { decls = record { kind = Variable; name = codes "x"; size = Some 1024 } ∷ [] }) ≡ Err (fault f.Expected 0)
unfolding reading script header version ranks decls decls_from decl declarator single array_size body stmts stmt block if_statement otherwise while_statement target statement_place source status assignment expr level chain atom place_inside bracket rounds unary count spend seek slot_in fresh add expect after sees same_symbol advanced place spelling token refusal tokens_after front sign word number
rv_d5 = refl

pub rv_d8 : decl Variable (record (start_of (codes "y$")) { decls = record { kind = Variable; name = codes "x"; size = Some 1023 } ∷ [] }) ≡ Err (fault f.BadToken 1)
unfolding reading script header version ranks decls decls_from decl declarator single array_size body stmts stmt block if_statement otherwise while_statement target statement_place source status assignment expr level chain atom place_inside bracket rounds unary count spend seek slot_in fresh add expect after sees same_symbol advanced place spelling token refusal tokens_after front sign word number
rv_d8 = refl

abbrev nested_ifs : ℕ → ℕ → Program
nested_ifs a ranks = record {
  version = 1;
  ranks = ranks;
  decls = [];
  lines = 11 ∷ 12 ∷ 13 ∷ 14 ∷ 15 ∷ 16 ∷ 17 ∷ [];
  body = branch (op2 Equal own_rank (n 0)) (then_more (branch (n a) (then_more (print (n 1)) no_more) (then_more (print (n 2)) no_more)) (then_more (print (n 3)) no_more)) (then_more (print (n 4)) no_more) ∷ print (n 5) ∷ [];
}

abbrev left_of : Option World → Option (List (List ℕ))
left_of w = option_map (λ w. map {B = List ℕ} (λ r. map {B = ℕ} (λ t. t.0) r.rest) w.ranks) w

abbrev go : Program → Mode → List Step → Option World
go s m steps = fold (start s m) steps

pub rv_w1 : left_of (go (nested_ifs 2 2) Rendezvous (Local 0 ∷ Local 0 ∷ Local 1 ∷ [])) ≡ Some ((2 ∷ 4 ∷ 6 ∷ []) ∷ (5 ∷ 6 ∷ []) ∷ [])
rv_w1 = refl

pub rv_w2 : left_of (go (nested_ifs 0 2) Rendezvous (Local 0 ∷ Local 0 ∷ [])) ≡ Some ((3 ∷ 4 ∷ 6 ∷ []) ∷ (0 ∷ 6 ∷ []) ∷ [])
rv_w2 = refl

pub rv_w3 : option_map (λ w. map {B = List ℕ} (rank_text (nested_ifs 0 2) w) (0 ∷ 1 ∷ [])) (go (nested_ifs 0 2) Rendezvous (Local 0 ∷ Local 0 ∷ Local 1 ∷ [])) ≡ Some (codes "at 14" ∷ codes "at 16" ∷ [])
unfolding digits
rv_w3 = refl

pub rv_w4 : option_map (λ w. map {B = List ℤ} (λ r. r.out) w.ranks) (go (nested_ifs 2 2) Rendezvous (Local 0 ∷ Local 0 ∷ Local 0 ∷ Local 0 ∷ Local 0 ∷ Local 1 ∷ Local 1 ∷ Local 1 ∷ [])) ≡ Some ((pos 1 ∷ pos 3 ∷ pos 5 ∷ []) ∷ (pos 4 ∷ pos 5 ∷ []) ∷ [])
rv_w4 = refl

abbrev prog : ℕ → List Tree → Program
prog ranks body = record { version = 1; ranks = ranks; decls = variable_named (codes "x") ∷ variable_named (codes "y") ∷ []; body = body; lines = replicate 20 1 }

abbrev y : Place
y = at 1

abbrev seen : Option World → Option (List (List ℤ × (List ℤ × Activity)))
seen w = option_map (λ w. map {B = List ℤ × (List ℤ × Activity)} (λ r. (r.vars, (r.out, r.activity))) w.ranks) w

-- rank 0 sends 10 tag 1, 20 tag 2, 30 tag 1 to rank 1, which receives tag 2 from 0, tag 1, tag 1
abbrev three : Program
three = prog 2 (branch (op2 Equal own_rank (n 0))
    (then_more (send (n 10) (n 1) (n 1)) (then_more (send (n 20) (n 1) (n 2)) (then_more (send (n 30) (n 1) (n 1)) no_more)))
    (then_more (recv (into y) (n 0) (n 2)) (then_more (recv (into (at 0)) (n 0) (n 1)) (then_more (recv (into (at 0)) (n 0) (n 1)) (then_more (print (cell y)) no_more)))) ∷ [])

abbrev sent_all : List Step
sent_all = Local 0 ∷ Local 0 ∷ Wake 0 ∷ Local 0 ∷ Wake 0 ∷ Local 0 ∷ Wake 0 ∷ Local 1 ∷ Local 1 ∷ []

abbrev m_ : ℕ → ℕ → Step
m_ i j = Match (call_id 0 i) (call_id 1 j)

pub rv_w5 : option_map enabled (go three Buffered sent_all) ≡ Some (m_ 1 0 ∷ [])
rv_w5 = refl

pub rv_w6 : seen (go three Buffered (sent_all ++ m_ 1 0 ∷ Wake 1 ∷ Local 1 ∷ [])) ≡ Some ((pos 0 ∷ pos 0 ∷ [], ([], Running)) ∷ (pos 0 ∷ pos 20 ∷ [], ([], Blocked)) ∷ [])
rv_w6 = refl

pub rv_w7 : go three Buffered (sent_all ++ m_ 1 0 ∷ Wake 1 ∷ Local 1 ∷ m_ 2 1 ∷ []) ≡ None
rv_w7 = refl

pub rv_w8 : seen (go three Buffered (sent_all ++ m_ 1 0 ∷ Wake 1 ∷ Local 1 ∷ m_ 0 1 ∷ Wake 1 ∷ Local 1 ∷ m_ 2 2 ∷ Wake 1 ∷ Local 1 ∷ [])) ≡ Some ((pos 0 ∷ pos 0 ∷ [], ([], Running)) ∷ (pos 30 ∷ pos 20 ∷ [], (pos 20 ∷ [], Running)) ∷ [])
rv_w8 = refl

pub rv_w9 : option_map outcome (go three Buffered (sent_all ++ m_ 1 0 ∷ [])) ≡ Some None
rv_w9 = refl

pub rv_w10 : option_map outcome (go three Rendezvous (Local 0 ∷ Local 0 ∷ Local 1 ∷ Local 1 ∷ [])) ≡ Some (Some (o.Deadlock (issued_by 1 (call_id 0 0) ∷ issued_by 4 (call_id 1 0) ∷ [])))
rv_w10 = refl

pub rv_w11 : option_map (λ w. map {B = ℕ} (λ c. c.statement) (calls_of w.board 1)) (go three Rendezvous (Local 1 ∷ Local 1 ∷ [])) ≡ Some (4 ∷ [])
rv_w11 = refl

abbrev pairing : Program
pairing = prog 2 (branch (op2 Equal own_rank (n 0)) (then_more (send (n 7) (n 1) (n 0)) no_more) (then_more (recv (into y) (n 0) (n 0)) (then_more (print (cell y)) no_more)) ∷ [])

pub rv_w12 : option_map enabled (go pairing Rendezvous (Local 1 ∷ Local 1 ∷ Local 0 ∷ Local 0 ∷ m_ 0 0 ∷ [])) ≡ Some (Wake 0 ∷ Wake 1 ∷ [])
rv_w12 = refl

pub rv_w13 : seen (go pairing Rendezvous (Local 1 ∷ Local 1 ∷ Local 0 ∷ Local 0 ∷ m_ 0 0 ∷ Wake 1 ∷ Local 1 ∷ [])) ≡ Some ((pos 0 ∷ pos 0 ∷ [], ([], Blocked)) ∷ (pos 0 ∷ pos 7 ∷ [], (pos 7 ∷ [], Running)) ∷ [])
rv_w13 = refl

pub rv_w14 : go pairing Rendezvous (Local 1 ∷ Local 1 ∷ Local 0 ∷ Local 0 ∷ m_ 0 0 ∷ Wake 1 ∷ Wake 1 ∷ []) ≡ None
rv_w14 = refl

pub rv_w15 : go pairing Rendezvous (Local 1 ∷ Local 1 ∷ Local 0 ∷ Local 0 ∷ Match (call_id 1 0) (call_id 0 0) ∷ []) ≡ None
rv_w15 = refl

pub rv_w16 : go pairing Rendezvous (Local 1 ∷ Local 1 ∷ Local 0 ∷ Local 0 ∷ Match (call_id 0 1) (call_id 1 0) ∷ []) ≡ None
rv_w16 = refl

pub rv_w17 : go pairing Rendezvous (Local 1 ∷ Local 1 ∷ Local 0 ∷ Local 0 ∷ m_ 0 0 ∷ m_ 0 0 ∷ []) ≡ None
rv_w17 = refl

pub rv_w18 : option_map enabled (go pairing Rendezvous (Local 0 ∷ Local 0 ∷ Local 1 ∷ [])) ≡ Some (Local 1 ∷ [])
rv_w18 = refl

pub rv_w19 : option_map enabled (go pairing Buffered (Local 0 ∷ Local 0 ∷ Local 1 ∷ Local 1 ∷ [])) ≡ Some (Wake 0 ∷ m_ 0 0 ∷ [])
rv_w19 = refl

pub rv_t1 : seen (go (prog 2 (recv (into y) (n 2) (n 40000) ∷ [])) Rendezvous (Local 0 ∷ [])) ≡ Some ((pos 0 ∷ pos 0 ∷ [], ([], Trapped BadRank)) ∷ (pos 0 ∷ pos 0 ∷ [], ([], Running)) ∷ [])
rv_t1 = refl

pub rv_t2 : seen (go (prog 2 (recv (into y) (n 1) (n 32768) ∷ [])) Rendezvous (Local 0 ∷ [])) ≡ Some ((pos 0 ∷ pos 0 ∷ [], ([], Trapped BadTag)) ∷ (pos 0 ∷ pos 0 ∷ [], ([], Running)) ∷ [])
rv_t2 = refl

pub rv_t3 : seen (go (prog 2 (recv (into y) (n 1) (n 32767) ∷ [])) Rendezvous (Local 0 ∷ [])) ≡ Some ((pos 0 ∷ pos 0 ∷ [], ([], Blocked)) ∷ (pos 0 ∷ pos 0 ∷ [], ([], Running)) ∷ [])
rv_t3 = refl

pub rv_t4 : seen (go (prog 2 (send (n 1) (lit (negsuc 0)) (n 0) ∷ [])) Rendezvous (Local 0 ∷ [])) ≡ Some ((pos 0 ∷ pos 0 ∷ [], ([], Trapped BadRank)) ∷ (pos 0 ∷ pos 0 ∷ [], ([], Running)) ∷ [])
rv_t4 = refl

pub rv_t5 : seen (go (prog 2 (send (n 1) (n 1) (lit (negsuc 0)) ∷ [])) Rendezvous (Local 0 ∷ [])) ≡ Some ((pos 0 ∷ pos 0 ∷ [], ([], Trapped BadTag)) ∷ (pos 0 ∷ pos 0 ∷ [], ([], Running)) ∷ [])
rv_t5 = refl

pub rv_t6 : seen (go (prog 2 (send (n 1) size (n 0) ∷ [])) Rendezvous (Local 0 ∷ [])) ≡ Some ((pos 0 ∷ pos 0 ∷ [], ([], Trapped BadRank)) ∷ (pos 0 ∷ pos 0 ∷ [], ([], Running)) ∷ [])
rv_t6 = refl

pub rv_t7 : option_map outcome (go (prog 2 (branch own_rank (then_more (recv (into y) (n 0) (n 0)) no_more) (then_more (recv (into y) (n 2) (n 0)) no_more) ∷ [])) Rendezvous (Local 0 ∷ Local 0 ∷ Local 1 ∷ Local 1 ∷ [])) ≡ Some (Some (o.Trap (record { rank = 0; statement = 2; trap = BadRank } ∷ [])))
rv_t7 = refl

pub rv_t8 : option_map outcome (go (prog 2 (branch own_rank (then_more (recv (into y) (n 0) (n 0)) no_more) no_more ∷ [])) Rendezvous (Local 0 ∷ Local 1 ∷ Local 1 ∷ [])) ≡ Some (Some (o.Deadlock (issued_by 1 (call_id 1 0) ∷ [])))
rv_t8 = refl

pub rv_t9 : left_of (go (prog 1 (branch (n 1) (then_more (send (n 1) (n 1) (n 0)) (then_more (print (n 1)) no_more)) no_more ∷ print (n 2) ∷ [])) Rendezvous (Local 0 ∷ Local 0 ∷ [])) ≡ Some ((1 ∷ 2 ∷ 3 ∷ []) ∷ [])
rv_t9 = refl

pub rv_v1 : option_map (λ w. map {B = List ℤ} (λ r. r.out) w.ranks) (go (prog 3 (print (op2 Equal (op2 NotEqual own_rank (n 2)) (n 1)) ∷ [])) Rendezvous (Local 0 ∷ Local 2 ∷ [])) ≡ Some ((pos 1 ∷ []) ∷ [] ∷ (pos 0 ∷ []) ∷ [])
rv_v1 = refl

pub rv_v2 : left_of (go (prog 1 (branch (lit (negsuc 4)) (then_more (print (n 1)) no_more) no_more ∷ [])) Rendezvous (Local 0 ∷ [])) ≡ Some ((1 ∷ []) ∷ [])
rv_v2 = refl

abbrev sent : ℕ → ℕ → Call
sent to tag = record { statement = 0; kind = Send (record { to = to; tag = tag; value = negsuc 4; synchronous = false; blocks = true; buffered = false }) }

abbrev awaited : ℕ → ℕ → Call
awaited from tag = record { statement = 0; kind = Recv (record { from = Some from; tag = Some tag; cell = 0; status = None; blocks = true }) }

abbrev rank_that : Activity → RankWorld
rank_that activity = record { rest = []; vars = negsuc 0 ∷ pos 12 ∷ []; handles = None ∷ Some 3 ∷ []; out = []; activity = activity }

abbrev hand : World
hand = record {
  ranks = rank_that Running ∷ rank_that Blocked ∷ rank_that (Trapped BadTag) ∷ [];
  board = record {
    mode = Rendezvous;
    calls = (sent 2 1 ∷ sent 1 1 ∷ sent 2 1 ∷ awaited 2 9 ∷ []) ∷ (awaited 2 1 ∷ awaited 0 1 ∷ awaited 0 1 ∷ []) ∷ (sent 0 9 ∷ []) ∷ [];
    sets = Pair (call_id 2 0) (call_id 0 3) ∷ Barrier ∷ Woke (call_id 2 0) ∷ [];
  };
}

pub rv_h1 : show_text (prog 3 []) hand 3 5 ≡ codes "depth 3 of 5\nrank 0 ended\nvars -1 12\nhandles - 3\nout\ncall 0.0 send to 2 tag 1 value -5 free\ncall 0.1 send to 1 tag 1 value -5 free\ncall 0.2 send to 2 tag 1 value -5 free\ncall 0.3 recv from 2 tag 9 with 2.0 value -5\nrank 1 blocked 2\nvars -1 12\nhandles - 3\nout\ncall 1.0 recv from 2 tag 1 free\ncall 1.1 recv from 0 tag 1 free\ncall 1.2 recv from 0 tag 1 free\nrank 2 trapped bad-tag\nvars -1 12\nhandles - 3\nout\ncall 2.0 send to 0 tag 9 value -5 with 0.3\npending 0 to 1: 1\npending 0 to 2: 0 2\nposted 1: 0 1 2\nset pair 2.0 0.3\nset barrier\nset woke 2.0\nend\n"
unfolding digits
rv_h1 = refl

pub rv_h2 : enabled hand ≡ Match (call_id 0 1) (call_id 1 1) ∷ []
rv_h2 = refl

pub rv_h3 : eligible hand.board (call_id 0 1) (call_id 1 2) ≡ false
rv_h3 = refl

pub rv_h4 : eligible hand.board (call_id 0 1) (call_id 1 0) ≡ false
rv_h4 = refl

pub rv_h5 : is_free hand.board (call_id 2 0) ≡ false
rv_h5 = refl

pub rv_h6 : buffer hand.board (call_id 0 3) ≡ Some (record { value = negsuc 4; source = 2; tag = 9 })
rv_h6 = refl

pub rv_h7 : option_map (λ w. eligible w.board (call_id 0 1) (call_id 1 2)) (next hand (Match (call_id 0 1) (call_id 1 1))) ≡ Some false
rv_h7 = refl

abbrev standing_at : Trail → Option World → Standing
standing_at t None = first_standing t.program t.mode
standing_at t (Some w) = record { trail = t; world = w }

abbrev told : Trail → List (List ℕ) → List ℕ
told t [] = []
told t (l ∷ ls) = (line_answer (standing_at t (world_of t)) l).0 ++ told (line_answer (standing_at t (world_of t)) l).1 ls

abbrev trace : Program → List ℕ → List ℕ
trace s z = told (opening s Rendezvous) (lines_of z)

abbrev s1 : Program
s1 = record {
  version = 1;
  ranks = 2;
  decls = variable_named (codes "x") ∷ [];
  lines = 4 ∷ 4 ∷ 4 ∷ 4 ∷ [];
  body = branch (op2 Equal own_rank (n 0)) (then_more (send (n 7) (n 1) (n 0)) no_more) (then_more (recv (into (at 0)) (n 0) (n 0)) (then_more (print (cell (at 0))) no_more)) ∷ [];
}

pub rv_a1 : trace s1 (codes "local 0\nlocal 0\r\nlocal 1\n\nlocal 1\n \nmatch 0.0 1.0\nwake 0\nwake 1\nlocal 1\nback\nback\nback\nback\nback\nback\nback\nback\nback\nshow") ≡ codes "ok 1\nok 2\nok 3\nok 4\nok 5\nok 6\nok 7\nok 8\nok 7\nok 6\nok 5\nok 4\nok 3\nok 2\nok 1\nok 0\nrefused at-start\ndepth 0 of 8\nrank 0 at 4\nvars 0\nhandles\nout\nrank 1 at 4\nvars 0\nhandles\nout\nend\n"
unfolding digits
rv_a1 = refl

-- a step that drops what was undone leaves nothing to take again
pub rv_redo1 : trace s1 (codes "local 0\nlocal 0\nback\nback\nlocal 1\nredo\n") ≡ codes "ok 1\nok 2\nok 1\nok 0\nok 1\nrefused no-redo\n"
unfolding digits
rv_redo1 = refl

-- the step that stood next keeps it
pub rv_redo2 : trace s1 (codes "local 0\nlocal 0\nback\nback\nlocal 0\nredo\ngoto 3\ngoto 0\ngoto 0\nredo\ngoto 2\nredo\nredo\n") ≡ codes "ok 1\nok 2\nok 1\nok 0\nok 1\nok 2\nrefused not-before\nok 0\nok 0\nok 1\nrefused not-before\nok 2\nrefused no-redo\n"
unfolding digits
rv_redo2 = refl

pub rv_a2 : trace s1 (codes "local 0\nlocal 0\nback\nback\nlocal 0\nmatch 0.0 1.0\nrelease\nlocal 9\nredo\nback\nlocal 1\nback\nback\r") ≡ codes "ok 1\nok 2\nok 1\nok 0\nok 1\nrefused not-enabled\nrefused not-enabled\nrefused not-enabled\nok 2\nok 1\nok 2\nok 1\nrefused bad-word\n"
unfolding digits
rv_a2 = refl

pub rv_a3 : (opening s1 Rendezvous) ≡ (line_answer (first_standing s1 Rendezvous) (replicate 4096 32)).1
rv_a3 = refl

pub rv_a4 : (line_answer (first_standing s1 Rendezvous) (replicate 4096 32)).0 ≡ []
rv_a4 = refl

pub rv_a5 : (line_answer (first_standing s1 Rendezvous) (codes "back" ++ replicate 4092 32)).0 ≡ codes "refused at-start\n"
rv_a5 = refl

pub rv_a6 : told (opening s1 Rendezvous) (lines_of (codes "back" ++ replicate 4092 32 ++ 13 ∷ 10 ∷ codes "back" ++ replicate 4092 32 ++ 13 ∷ [])) ≡ codes "refused at-start\nrefused bad-word\n"
rv_a6 = refl

pub rv_a7 : told (opening s1 Rendezvous) (lines_of (codes "back" ++ replicate 4092 32 ++ 13 ∷ 13 ∷ 10 ∷ [])) ≡ codes "refused bad-word\n"
rv_a7 = refl

pub rv_a8 : map {B = List ℕ} (λ z. (line_answer (first_standing s1 Rendezvous) z).0) (codes "local 1234567890" ∷ codes "local 999999999" ∷ codes "match 0.0 0.0" ∷ codes "match 00.000 1.0" ∷ codes "wake 00" ∷ codes "local 0 " ∷ codes "local\t0" ∷ codes "goto 1" ∷ codes "wakeany 0 0" ∷ codes "local 000000000" ∷ codes "release\t" ∷ []) ≡ codes "refused bad-word\n" ∷ codes "refused not-enabled\n" ∷ codes "refused not-enabled\n" ∷ codes "refused not-enabled\n" ∷ codes "refused not-enabled\n" ∷ codes "ok 1\n" ∷ codes "ok 1\n" ∷ codes "refused not-before\n" ∷ codes "refused not-enabled\n" ∷ codes "ok 1\n" ∷ codes "refused not-enabled\n" ∷ []
unfolding digits
rv_a8 = refl

pub rv_l1 : divided (codes "---\r\r\nback") ≡ (codes "---\r\r\nback", [])
rv_l1 = refl

pub rv_l2 : divided (codes "\n---\n") ≡ (codes "\n", [])
rv_l2 = refl

pub rv_l3 : divided (codes "--\n---") ≡ (codes "--\n", [])
rv_l3 = refl

pub rv_l4 : divided (codes "a---\nb") ≡ (codes "a---\nb", [])
rv_l4 = refl

pub rv_l5 : divided (codes "a\r\n---\r\n---\nb") ≡ (codes "a\r\n", codes "---\nb")
rv_l5 = refl

pub rv_l6 : lines_of (codes "\r\n\r") ≡ [] ∷ codes "\r" ∷ []
rv_l6 = refl

pub rv_l7 : ended_lines (codes "a\r\nb\r") ≡ codes "a" ∷ []
rv_l7 = refl

pub rv_l8 : divided (codes "---\n\nback\r\n") ≡ ([], codes "\nback\r\n")
rv_l8 = refl

pub rv_l9 : divided (codes "a\n---\rb\n---") ≡ (codes "a\n---\rb\n", [])
rv_l9 = refl

pub rv_l10 : divided [] ≡ ([], [])
rv_l10 = refl

pub rv_l11 : lines_of (codes "a\rb\n") ≡ codes "a\rb" ∷ []
rv_l11 = refl

pub rv_x_end65536 : reading (replicate 65536 32) ≡ Err (fault f.Expected 65536)
unfolding reading script header version ranks decls decls_from decl declarator single array_size body stmts stmt block if_statement otherwise while_statement target statement_place source status assignment expr level chain atom place_inside bracket rounds unary count spend seek slot_in fresh add expect after sees same_symbol advanced place spelling token refusal tokens_after front sign word number
rv_x_end65536 = refl

pub rv_x_comment : reading (35 ∷ replicate 65535 97) ≡ Err (fault f.Expected 65536)
unfolding reading script header version ranks decls decls_from decl declarator single array_size body stmts stmt block if_statement otherwise while_statement target statement_place source status assignment expr level chain atom place_inside bracket rounds unary count spend seek slot_in fresh add expect after sees same_symbol advanced place spelling token refusal tokens_after front sign word number
rv_x_comment = refl

pub rv_x_long0 : reading (replicate 65537 0) ≡ Err (fault f.TooLong 65536)
unfolding reading script header version ranks decls decls_from decl declarator single array_size body stmts stmt block if_statement otherwise while_statement target statement_place source status assignment expr level chain atom place_inside bracket rounds unary count spend seek slot_in fresh add expect after sees same_symbol advanced place spelling token refusal tokens_after front sign word number
rv_x_long0 = refl

abbrev send_ : ℕ → Call
send_ to = record { statement = 0; kind = Send (record { to = to; tag = 1; value = pos 3; synchronous = false; blocks = true; buffered = false }) }

abbrev rank_of : List Tree → Activity → RankWorld
rank_of rest activity = record { rest = map {B = ℕ × Tree} (λ t. (9, t)) rest; vars = pos 0 ∷ []; handles = []; out = []; activity = activity }

-- rank 0: to 2, from 1; rank 1: to 2, to 0; rank 2: from 1, from 0; rank 3 can step; rank 4 is woken
abbrev crowd : World
crowd = record {
  ranks = rank_of [] Running ∷ rank_of [] Blocked ∷ rank_of [] Blocked
      ∷ rank_of (print (n 1) ∷ []) Running ∷ rank_of [] Blocked ∷ rank_of (print (n 1) ∷ []) (Trapped BadRank) ∷ [];
  board = record {
    mode = Rendezvous;
    calls = (send_ 2 ∷ awaited 1 1 ∷ []) ∷ (send_ 2 ∷ send_ 0 ∷ []) ∷ (awaited 1 1 ∷ awaited 0 1 ∷ []) ∷ [] ∷ (send_ 4 ∷ awaited 4 1 ∷ []) ∷ [] ∷ [];
    sets = Pair (call_id 4 0) (call_id 4 1) ∷ [];
  };
}

pub rv_x_order : enabled crowd ≡ Local 3 ∷ Wake 4 ∷ Match (call_id 1 1) (call_id 0 1) ∷ Match (call_id 1 0) (call_id 2 0) ∷ Match (call_id 0 0) (call_id 2 1) ∷ []
rv_x_order = refl

pub rv_x_none : outcome crowd ≡ None
rv_x_none = refl

pub rv_x_woke : option_map (λ w. slice_get w.ranks 4) (next crowd (Wake 4)) ≡ Some (Some (record { rest = []; vars = pos 3 ∷ []; handles = []; out = []; activity = Running }))
rv_x_woke = refl

pub rv_x_woke_calls : option_map (λ w. calls_of w.board 4) (next crowd (Wake 4)) ≡ Some (send_ 4 ∷ awaited 4 1 ∷ [])
rv_x_woke_calls = refl

pub rv_x_woke_set : option_map (λ w. w.board.sets) (next crowd (Wake 4)) ≡ Some (Pair (call_id 4 0) (call_id 4 1) ∷ Woke (call_id 4 1) ∷ [])
rv_x_woke_set = refl

abbrev trail_at : ℕ → Trail
trail_at depth = record { program = s1; mode = Rendezvous; steps = Local 0 ∷ Local 1 ∷ Local 0 ∷ []; depth = depth }

pub rv_x_t1 : applied (trail_at 1) (Local 1) ≡ trail_at 2
rv_x_t1 = refl

pub rv_x_t2 : applied (trail_at 1) (Local 0) ≡ record { program = s1; mode = Rendezvous; steps = Local 0 ∷ Local 0 ∷ []; depth = 2 }
rv_x_t2 = refl

pub rv_x_t3 : (applied (trail_at 3) Release).steps ≡ Local 0 ∷ Local 1 ∷ Local 0 ∷ Release ∷ []
rv_x_t3 = refl

pub rv_x_t4 : (applied (record (trail_at 0) { steps = Match (call_id 0 1) (call_id 1 0) ∷ Wake 0 ∷ [] }) (Match (call_id 0 1) (call_id 1 1))).steps ≡ Match (call_id 0 1) (call_id 1 1) ∷ []
rv_x_t4 = refl

pub rv_x_full : (line_answer (record { trail = record { program = s1; mode = Rendezvous; steps = []; depth = 1000000 }; world = start s1 Rendezvous }) (codes "wake 0")).0 ≡ codes "refused not-enabled\n"
rv_x_full = refl

pub rv_x_last : (line_answer (record { trail = record { program = s1; mode = Rendezvous; steps = []; depth = 999999 }; world = start s1 Rendezvous }) (codes "local 1")).0 ≡ codes "ok 1000000\n"
unfolding digits
rv_x_last = refl

pub rv_x_s1 : trace s1 (codes "local 0\nlocal 0\nlocal 1\nback\nlocal 1\nback\nback\nlocal 1\nshow") ≡ codes "ok 1\nok 2\nok 3\nok 2\nok 3\nok 2\nok 1\nok 2\ndepth 2 of 2\nrank 0 at 4\nvars 0\nhandles\nout\nrank 1 at 4\nvars 0\nhandles\nout\nend\n"
unfolding digits
rv_x_s1 = refl

pub rv_n_done : option_map enabled (go pairing Rendezvous (Local 0 ∷ [])) ≡ Some (Local 0 ∷ Local 1 ∷ [])
rv_n_done = refl

-- a receive that is paired and a rank that has ended: no outcome while a wake is enabled
pub rv_n_wake : option_map outcome (go pairing Rendezvous (Local 1 ∷ Local 1 ∷ Local 0 ∷ Local 0 ∷ m_ 0 0 ∷ Wake 0 ∷ [])) ≡ Some None
rv_n_wake = refl

-- the receive that was written first keeps its cell and number; sets in the order formed
pub rv_n_sets : option_map (λ w. w.board.sets) (go pairing Rendezvous (Local 1 ∷ Local 1 ∷ Local 0 ∷ Local 0 ∷ m_ 0 0 ∷ Wake 1 ∷ Wake 0 ∷ [])) ≡ Some (Pair (call_id 0 0) (call_id 1 0) ∷ Woke (call_id 1 0) ∷ Woke (call_id 0 0) ∷ [])
rv_n_sets = refl
