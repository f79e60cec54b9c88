-- Worked rows of modes: standard sends that are buffered, and synchronous ones, which never are. What is wanted was worked out by hand.
use Rattle.std.specs.Prelude.{◌≡◌, ℕ, pos, Bool, true, false, map, List, [], ◌∷◌, ◌++◌, Option, Some, None, codes, refl}
use Rattle.std.specs.Option.{option_map}
use Rattle.std.specs.Fmt.{digits}
use Rattle.mpd_model.specs.declared.expr.BinaryOp.TheVariants.{Add, Subtract}
use Rattle.mpd_model.specs.declared.place.Place.{Place}
use Rattle.mpd_model.specs.declared.step.Step.{Step}
use Rattle.mpd_model.specs.declared.step.Step.TheVariants.{Local, Match}
use Rattle.mpd_model.specs.declared.call.Call.{Call}
use Rattle.mpd_model.specs.declared.call.CallKind.TheVariants.{Send}
use Rattle.mpd_model.specs.declared.call.Mode.{Mode}
use Rattle.mpd_model.specs.declared.call.Mode.TheVariants.{Rendezvous, Buffered}
use Rattle.mpd_model.specs.declared.call.MatchSet.{MatchSet}
use Rattle.mpd_model.specs.declared.call.MatchSet.TheVariants.{Pair}
use Rattle.mpd_model.specs.declared.call.Trap.TheVariants.{ZeroDivisor, BadRank, BadTag, BadIndex}
use Rattle.mpd_model.specs.script.Declaration.{Declared}
use Rattle.mpd_model.specs.script.Tree.{no_more, then_more}
use Rattle.mpd_model.specs.script.Program.{Program}
use Rattle.mpd_model.specs.script.Term.{Term, own_rank, cell, element, op2}
use Rattle.mpd_model.specs.runs.Trail.{opening}
use Rattle.mpd_model.specs.texts.Lines.{lines_of}
use Rattle.mpd_model.specs.steps.World.{Board, start_board, call_id, complete, start}
use Rattle.mpd_model.specs.steps.Next.{entered, enabled, fold}
use Rattle.mpd_rows.specs.worlds.Statements.{send, ssend, recv, isend, issend, wait}
use Rattle.mpd_rows.specs.calls.RequestRows.{n, m, over_zero, whole, part, x, a, h, g, none, Traps, found, wanted, does, issues, blocks, variable, request, script, two_parts, told, trace}

-- ---- one rank: what is issued, and what traps

pub row_ssend : does (ssend (op2 Add (cell x) (element a (n 2))) (n 1) (n 32767)) ≡ blocks (Send (record { to = 1; tag = 32767; value = pos 31; synchronous = true; blocks = true; buffered = false }))
row_ssend = refl

pub row_issend : does (issend (part g (cell x)) (n 2) (n 0) (n 3)) ≡ issues (None ∷ Some 0 ∷ Some 1 ∷ []) (Send (record { to = 0; tag = 3; value = pos 2; synchronous = true; blocks = false; buffered = false }))
row_issend = refl

-- a handle that has a request loses it
pub row_issend_over : does (issend (part g (n 0)) (n 2) (n 1) (n 0)) ≡ issues (None ∷ Some 1 ∷ None ∷ []) (Send (record { to = 1; tag = 0; value = pos 2; synchronous = true; blocks = false; buffered = false }))
row_issend_over = refl

-- the index of the handle, the value, the destination, the tag, each checked as it is evaluated
abbrev traps : Traps
traps =
    (ssend over_zero (n 9) (m 1), ZeroDivisor) ∷ (ssend (n 1) (n 2) over_zero, BadRank) ∷ (ssend (n 1) (m 1) (n 0), BadRank) ∷ (ssend (n 1) over_zero (m 1), ZeroDivisor) ∷ (ssend (n 1) (n 1) (n 32768), BadTag)
    ∷ (ssend (element a (n 3)) (n 9) (n 0), BadIndex) ∷ (issend (part g (n 2)) over_zero (n 9) (m 1), BadIndex) ∷ (issend (part none (n 0)) (n 1) (n 1) (n 0), BadIndex)
    ∷ (issend (part g over_zero) (element a (n 3)) (n 9) (m 1), ZeroDivisor) ∷ (issend (whole h) over_zero (n 9) (m 1), ZeroDivisor) ∷ (issend (whole h) (n 1) (n 2) over_zero, BadRank) ∷ (issend (whole h) (n 1) (n 1) (m 1), BadTag) ∷ []

pub row_traps : found traps ≡ wanted traps
row_traps = refl

-- ---- what is complete as it is issued, and what once it is paired

abbrev sends : Bool → Bool → Call
sends synchronous waited = record { statement = 0; kind = Send (record { to = 0; tag = 0; value = pos 1; synchronous = synchronous; blocks = waited; buffered = false }) }

-- a `send`, an `isend`, an `ssend` and an `issend`
abbrev four_sends : Mode → List MatchSet → Board
four_sends mode sets = record { mode = mode; calls = map (entered (start_board 1 mode) 0) (sends false true ∷ sends false false ∷ sends true true ∷ sends true false ∷ []) ∷ []; sets = sets }

abbrev are_complete : Board → List Bool
are_complete b = map {B = Bool} (λ i. complete b (call_id 0 i)) (0 ∷ 1 ∷ 2 ∷ 3 ∷ [])

pub row_rendezvous : are_complete (four_sends Rendezvous []) ≡ false ∷ false ∷ false ∷ false ∷ []
row_rendezvous = refl

pub row_buffered : are_complete (four_sends Buffered []) ≡ true ∷ true ∷ false ∷ false ∷ []
row_buffered = refl

pub row_paired : are_complete (four_sends Buffered (Pair (call_id 0 2) (call_id 0 7) ∷ Pair (call_id 0 3) (call_id 0 8) ∷ [])) ≡ true ∷ true ∷ true ∷ true ∷ []
row_paired = refl

-- ---- scripts, line by line

abbrev buffered : Program → List ℕ → List ℕ
buffered s z = told (opening s Buffered) (lines_of z)

abbrev one_x : List Declared
one_x = variable (codes "x") ∷ []

-- two ranks that send to each other before they receive: `send rank to 1 - rank tag 5; recv x from 1 - rank tag 5;`
abbrev the_other : Term
the_other = op2 Subtract (n 1) own_rank

abbrev head_to_head : Program
head_to_head = script 2 one_x (send own_rank the_other (n 5) ∷ recv (whole x) the_other (n 5) ∷ [])

pub row_head_to_head : trace head_to_head (codes "local 0\nlocal 1\nwake 0\nshow\n")
    ≡ codes "ok 1\nok 2\nrefused not-enabled\n"
    ++ codes "depth 2 of 2\nrank 0 blocked 0\nvars 0\nhandles\nout\ncall 0.0 send to 1 tag 5 value 0 free\nrank 1 blocked 0\nvars 0\nhandles\nout\ncall 1.0 send to 0 tag 5 value 1 free\npending 0 to 1: 0\npending 1 to 0: 0\noutcome deadlock 0.0 1.0\nend\n"
unfolding digits
row_head_to_head = refl

-- a buffered send goes on unpaired, and matches later
pub row_head_to_head_buffered : buffered head_to_head (codes "local 0\nlocal 1\nwake 0\nwake 1\nlocal 0\nlocal 1\nmatch 0.0 1.1\nmatch 1.0 0.1\nwake 0\nwake 1\nshow\n")
    ≡ codes "ok 1\nok 2\nok 3\nok 4\nok 5\nok 6\nok 7\nok 8\nok 9\nok 10\n"
    ++ codes "depth 10 of 10\nrank 0 ended\nvars 1\nhandles\nout\ncall 0.0 send to 1 tag 5 value 0 with 1.1\ncall 0.1 recv from 1 tag 5 with 1.0 value 1\nrank 1 ended\nvars 0\nhandles\nout\ncall 1.0 send to 0 tag 5 value 1 with 0.1\ncall 1.1 recv from 0 tag 5 with 0.0 value 0\n"
    ++ codes "set woke 0.0\nset woke 1.0\nset pair 0.0 1.1\nset pair 1.0 0.1\nset woke 0.1\nset woke 1.1\noutcome done\nend\n"
unfolding digits
row_head_to_head_buffered = refl

-- the same with synchronous sends: buffers are of no help
pub row_head_to_head_synchronous : buffered (script 2 one_x (ssend own_rank the_other (n 5) ∷ recv (whole x) the_other (n 5) ∷ [])) (codes "local 0\nlocal 1\nenabled\nshow\n")
    ≡ codes "ok 1\nok 2\nenabled\n"
    ++ codes "depth 2 of 2\nrank 0 blocked 0\nvars 0\nhandles\nout\ncall 0.0 ssend to 1 tag 5 value 0 free\nrank 1 blocked 0\nvars 0\nhandles\nout\ncall 1.0 ssend to 0 tag 5 value 1 free\npending 0 to 1: 0\npending 1 to 0: 0\noutcome deadlock 0.0 1.0\nend\n"
unfolding digits
row_head_to_head_synchronous = refl

-- a message that nobody receives
pub row_unreceived : trace (script 1 [] (send (n 1) (n 0) (n 0) ∷ [])) (codes "local 0\nwake 0\nshow\n")
    ≡ codes "ok 1\nrefused not-enabled\ndepth 1 of 1\nrank 0 blocked 0\nvars\nhandles\nout\ncall 0.0 send to 0 tag 0 value 1 free\npending 0 to 0: 0\noutcome deadlock 0.0\nend\n"
unfolding digits
row_unreceived = refl

pub row_unreceived_buffered : buffered (script 1 [] (send (n 1) (n 0) (n 0) ∷ [])) (codes "local 0\nwake 0\nshow\n")
    ≡ codes "ok 1\nok 2\ndepth 2 of 2\nrank 0 ended\nvars\nhandles\nout\ncall 0.0 send to 0 tag 0 value 1 free\npending 0 to 0: 0\nset woke 0.0\noutcome leftovers 0.0\nend\n"
unfolding digits
row_unreceived_buffered = refl

pub row_unreceived_synchronous : buffered (script 1 [] (ssend (n 1) (n 0) (n 0) ∷ [])) (codes "local 0\nwake 0\nshow\n")
    ≡ codes "ok 1\nrefused not-enabled\ndepth 1 of 1\nrank 0 blocked 0\nvars\nhandles\nout\ncall 0.0 ssend to 0 tag 0 value 1 free\npending 0 to 0: 0\noutcome deadlock 0.0\nend\n"
unfolding digits
row_unreceived_synchronous = refl

-- ---- a synchronous send to wait for: complete once it is paired, in either mode

abbrev r : Place
r = record { declaration = 1; first = 0; cells = 1 }

-- if rank == 0 { issend r 7 to 1 tag 0; wait r; } else { recv x from 0 tag 0; }
abbrev promising : Program
promising = script 2 (variable (codes "x") ∷ request (codes "r") None ∷ [])
    (two_parts
    (then_more (issend (whole r) (n 7) (n 1) (n 0)) (then_more (wait (whole r)) no_more))
    (then_more (recv (whole x) (n 0) (n 0)) no_more))

abbrev waiting_words : List ℕ
waiting_words = codes "local 0\nlocal 0\nlocal 0\nwake 0\nlocal 1\nlocal 1\nmatch 0.0 1.0\nwake 0\nwake 1\nshow\n"

abbrev waiting_answers : List ℕ
waiting_answers =
    codes "ok 1\nok 2\nok 3\nrefused not-enabled\nok 4\nok 5\nok 6\nok 7\nok 8\n"
    ++ codes "depth 8 of 8\nrank 0 ended\nvars 0\nhandles -\nout\ncall 0.0 issend to 1 tag 0 value 7 with 1.0\ncall 0.1 wait 0\nrank 1 ended\nvars 7\nhandles -\nout\ncall 1.0 recv from 0 tag 0 with 0.0 value 7\nset pair 0.0 1.0\nset woke 0.1\nset woke 1.0\noutcome done\nend\n"

pub row_promising : trace promising waiting_words ≡ waiting_answers
unfolding digits
row_promising = refl

pub row_promising_buffered : buffered promising waiting_words ≡ waiting_answers
unfolding digits
row_promising_buffered = refl

-- ---- sends of all kinds are of one order: an earlier one of the same envelope is matched first

-- if rank == 0 { isend r 1 to 1 tag 0; ssend 2 to 1 tag 0; } else { recv x from 0 tag 0; }
abbrev behind_another : Program
behind_another = script 2 (variable (codes "x") ∷ request (codes "r") None ∷ [])
    (two_parts
    (then_more (isend (whole r) (n 1) (n 1) (n 0)) (then_more (ssend (n 2) (n 1) (n 0)) no_more))
    (then_more (recv (whole x) (n 0) (n 0)) no_more))

pub row_behind_another : map {B = Option (List Step)} (λ mode. option_map enabled (fold (start behind_another mode) (Local 0 ∷ Local 0 ∷ Local 0 ∷ Local 1 ∷ Local 1 ∷ []))) (Rendezvous ∷ Buffered ∷ [])
    ≡ Some (Match (call_id 0 0) (call_id 1 0) ∷ []) ∷ Some (Match (call_id 0 0) (call_id 1 0) ∷ []) ∷ []
row_behind_another = refl
