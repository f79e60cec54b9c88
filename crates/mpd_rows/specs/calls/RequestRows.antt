-- Worked rows of requests: what `isend`, `irecv` and `wait` make of a rank, and scripts of them line by line. What is wanted was worked out by hand.
use Rattle.std.specs.Prelude.{◌≡◌, ℕ, ℤ, pos, Bool, true, false, map, List, [], ◌∷◌, ◌++◌, Option, Some, None, codes, refl}
use Rattle.std.specs.Option.{option_map}
use Rattle.std.specs.Fmt.{digits}
use Rattle.mpd_model.specs.declared.expr.BinaryOp.TheVariants.{Equal, Add, Subtract, Divide}
use Rattle.mpd_model.specs.declared.expr.UnaryOp.TheVariants.{Negate}
use Rattle.mpd_model.specs.declared.place.DeclKind.TheVariants.{Variable, Handle}
use Rattle.mpd_model.specs.declared.place.Place.{Place}
use Rattle.mpd_model.specs.declared.step.Step.{Step}
use Rattle.mpd_model.specs.declared.step.Step.TheVariants.{Local, Match, Wake}
use Rattle.mpd_model.specs.declared.call.Call.{Call}
use Rattle.mpd_model.specs.declared.call.CallKind.{CallKind}
use Rattle.mpd_model.specs.declared.call.CallKind.TheVariants.{Send, Recv, Wait}
use Rattle.mpd_model.specs.declared.call.Mode.TheVariants.{Rendezvous, Buffered}
use Rattle.mpd_model.specs.declared.call.Trap.{Trap}
use Rattle.mpd_model.specs.declared.call.Trap.TheVariants.{Overflow, ZeroDivisor, BadRank, BadTag, BadIndex}
use Rattle.mpd_model.specs.declared.call.Activity.TheVariants.{Running, Blocked, Trapped}
use Rattle.mpd_model.specs.declared.outcome.Outcome.TheVariants as o
use Rattle.mpd_model.specs.script.Declaration.{Declared}
use Rattle.mpd_model.specs.script.Term.{Term, lit, own_rank, size, cell, element, op1, op2, Target}
use Rattle.mpd_model.specs.script.Tree.{Tree, branch, no_more, then_more, Block}
use Rattle.mpd_model.specs.script.Program.{Program}
use Rattle.mpd_model.specs.steps.World.{RankWorld, World, call_id, start, pending, posted, is_free, complete}
use Rattle.mpd_model.specs.steps.Next.{next, fold, enabled}
use Rattle.mpd_model.specs.steps.Outcomes.{issued_by, outcome}
use Rattle.mpd_model.specs.runs.Trail.{Trail, Standing, opening, applied, taken_back, first_standing, world_of}
use Rattle.mpd_model.specs.texts.Lines.{lines_of}
use Rattle.mpd_model.specs.texts.Answers.{line_answer}
use Rattle.mpd_rows.specs.worlds.Statements.{print, send, recv, isend, irecv, wait}

abbrev pub n : ℕ → Term
n k = lit (pos k)

abbrev pub m : ℕ → Term
m k = op1 Negate (lit (pos k))

abbrev pub over_zero : Term
over_zero = op2 Divide (n 1) (n 0)

abbrev too_large : Term
too_large = op2 Add (n 9223372036854775807) (n 1)

abbrev pub whole : Place → Target
whole p = record { place = p; index = None }

abbrev pub part : Place → Term → Target
part p e = record { place = p; index = Some e }

-- ---- one rank of two, before statement 5 and with statement 20 after it

-- `var x; var a[3]; req h; req g[2]; req none[0];`
abbrev pub x : Place
x = record { declaration = 0; first = 0; cells = 1 }

abbrev pub a : Place
a = record { declaration = 1; first = 1; cells = 3 }

abbrev pub h : Place
h = record { declaration = 2; first = 0; cells = 1 }

abbrev pub g : Place
g = record { declaration = 3; first = 1; cells = 2 }

abbrev pub none : Place
none = record { declaration = 4; first = 3; cells = 0 }

abbrev earlier : Call
earlier = record { statement = 3; kind = Send (record { to = 1; tag = 0; value = pos 8; synchronous = false; blocks = false; buffered = false }) }

-- x is 1, a is 10 20 30; h has no request, g[0] has that of call 0, and g[1] has none
abbrev pub rank_at : List (ℕ × Tree) → RankWorld
rank_at ts = record {
  rest = ts;
  vars = pos 1 ∷ pos 10 ∷ pos 20 ∷ pos 30 ∷ [];
  handles = None ∷ Some 0 ∷ None ∷ [];
  out = pos 9 ∷ [];
  activity = Running;
}

abbrev pub behind : List (ℕ × Tree)
behind = (20, print (n 1)) ∷ []

-- It is rank 0 of these, and has issued one call; rank 1 has issued two, and no step of rank 0 changes anything of it.
abbrev with_calls : RankWorld → List Call → World
with_calls r calls = record { ranks = r ∷ rank_at [] ∷ []; board = record { mode = Rendezvous; calls = calls ∷ (earlier ∷ earlier ∷ []) ∷ []; sets = [] } }

abbrev pub does : Tree → Option World
does t = next (with_calls (rank_at ((5, t) ∷ behind)) (earlier ∷ [])) (Local 0)

-- a trap changes what the rank is doing, and nothing else
abbrev pub Traps : Type 0
Traps = List (Tree × Trap)

abbrev pub found : Traps → List (Option World)
found table = map {B = Option World} (λ r. does r.0) table

abbrev pub wanted : Traps → List (Option World)
wanted table = map {B = Option World} (λ r. Some (with_calls (record (rank_at ((5, r.0) ∷ behind)) { activity = Trapped r.1 }) (earlier ∷ []))) table

-- the index of the handle comes first, then the value, the destination, which is checked before the tag is evaluated
abbrev sends : Traps
sends =
    (isend (part g (n 2)) over_zero (n 9) (m 1), BadIndex) ∷ (isend (part g (m 1)) over_zero (n 9) (m 1), BadIndex) ∷ (isend (part g over_zero) too_large (n 9) (m 1), ZeroDivisor)
    ∷ (isend (part none (n 0)) (n 1) (n 1) (n 0), BadIndex) ∷ (isend (part g (element a (n 0))) over_zero (n 1) (n 0), BadIndex) ∷ (isend (part g (element a (n 3))) over_zero (n 1) (n 0), BadIndex)
    ∷ (isend (part g (n 1)) over_zero (n 9) (m 1), ZeroDivisor) ∷ (isend (whole h) too_large over_zero over_zero, Overflow) ∷ (isend (whole h) (element a (n 3)) (n 9) (m 1), BadIndex)
    ∷ (isend (whole h) (n 1) over_zero (n 99999), ZeroDivisor) ∷ (isend (whole h) (n 1) (n 9) over_zero, BadRank) ∷ (isend (whole h) (n 1) (n 2) (n 32768), BadRank) ∷ (isend (whole h) (n 1) (m 1) (n 0), BadRank)
    ∷ (isend (whole h) (n 1) (n 1) over_zero, ZeroDivisor) ∷ (isend (whole h) (n 1) (n 1) (n 32768), BadTag) ∷ (isend (whole h) (n 1) (n 0) (m 1), BadTag) ∷ []

pub row_sends : found sends ≡ wanted sends
row_sends = refl

-- the index of the handle comes first, then that of the target, the source, which is checked before the tag is evaluated
abbrev receives : Traps
receives =
    (irecv (part g (n 2)) (part a over_zero) over_zero (m 1), BadIndex) ∷ (irecv (part g over_zero) (part a (n 3)) (n 9) (m 1), ZeroDivisor) ∷ (irecv (part none (n 0)) (part a over_zero) (n 9) (m 1), BadIndex)
    ∷ (irecv (part g (n 0)) (part a (n 3)) over_zero (m 1), BadIndex) ∷ (irecv (whole h) (part a over_zero) (n 9) (m 1), ZeroDivisor) ∷ (irecv (whole h) (part a too_large) over_zero (m 1), Overflow)
    ∷ (irecv (whole h) (part a (n 2)) (n 9) over_zero, BadRank) ∷ (irecv (whole h) (whole x) over_zero (n 99999), ZeroDivisor) ∷ (irecv (whole h) (whole x) (m 1) (m 1), BadRank)
    ∷ (irecv (whole h) (whole x) (n 1) over_zero, ZeroDivisor) ∷ (irecv (whole h) (whole x) (n 1) (n 32768), BadTag) ∷ (irecv (whole h) (whole x) (n 0) (m 1), BadTag) ∷ []

pub row_receives : found receives ≡ wanted receives
row_receives = refl

-- a wait evaluates the index of its handle, and nothing else
abbrev waits : Traps
waits = (wait (part g (n 2)), BadIndex) ∷ (wait (part g (m 1)), BadIndex) ∷ (wait (part g over_zero), ZeroDivisor) ∷ (wait (part g too_large), Overflow) ∷ (wait (part none (n 0)), BadIndex) ∷ []

pub row_waits : found waits ≡ wanted waits
row_waits = refl

-- the call is appended to those of the rank
abbrev issued : RankWorld → CallKind → Option World
issued r kind = Some (with_calls r (earlier ∷ record { statement = 5; kind = kind } ∷ []))

-- its number stands in the handle, and the rank goes on
abbrev pub issues : List (Option ℕ) → CallKind → Option World
issues handles kind = issued (record (rank_at behind) { handles = handles }) kind

-- no handle changes, and the rank is blocked
abbrev pub blocks : CallKind → Option World
blocks kind = issued (record (rank_at behind) { activity = Blocked }) kind

-- what is sent is the value at the issue
pub row_isend : does (isend (whole h) (op2 Add (cell x) (element a (n 2))) (n 1) (n 32767)) ≡ issues (Some 1 ∷ Some 0 ∷ None ∷ []) (Send (record { to = 1; tag = 32767; value = pos 31; synchronous = false; blocks = false; buffered = false }))
row_isend = refl

-- a handle that has a request loses it: the call stays
pub row_isend_over : does (isend (part g (n 0)) (n 2) (n 0) (n 0)) ≡ issues (None ∷ Some 1 ∷ None ∷ []) (Send (record { to = 0; tag = 0; value = pos 2; synchronous = false; blocks = false; buffered = false }))
row_isend_over = refl

pub row_isend_at : does (isend (part g (cell x)) (n 2) (n 0) (n 0)) ≡ issues (None ∷ Some 0 ∷ Some 1 ∷ []) (Send (record { to = 0; tag = 0; value = pos 2; synchronous = false; blocks = false; buffered = false }))
row_isend_at = refl

-- the cell of a receive is fixed as it is issued: the third of `a` is cell 3
pub row_irecv : does (irecv (part g (n 1)) (part a (op2 Add (cell x) (n 1))) (op2 Subtract size (n 1)) (n 3)) ≡ issues (None ∷ Some 0 ∷ Some 1 ∷ []) (Recv (record { from = Some 1; tag = Some 3; cell = 3; status = None; blocks = false }))
row_irecv = refl

pub row_irecv_over : does (irecv (part g (n 0)) (whole x) own_rank (n 0)) ≡ issues (None ∷ Some 1 ∷ None ∷ []) (Recv (record { from = Some 0; tag = Some 0; cell = 0; status = None; blocks = false }))
row_irecv_over = refl

-- a wait is for the call whose number its handle has then, if any; the handle still has it
pub row_wait : does (wait (part g (n 0))) ≡ blocks (Wait (record { handle = 1; target = Some 0 }))
row_wait = refl

pub row_wait_for_nothing : does (wait (whole h)) ≡ blocks (Wait (record { handle = 0; target = None }))
row_wait_for_nothing = refl

pub row_wait_at : does (wait (part g (cell x))) ≡ blocks (Wait (record { handle = 2; target = None }))
row_wait_at = refl

-- blocking calls put nothing in a handle
pub row_send : does (send (n 2) (n 1) (n 0)) ≡ blocks (Send (record { to = 1; tag = 0; value = pos 2; synchronous = false; blocks = true; buffered = false }))
row_send = refl

pub row_recv : does (recv (whole x) (n 1) (n 0)) ≡ blocks (Recv (record { from = Some 1; tag = Some 0; cell = 0; status = None; blocks = true }))
row_recv = refl

-- ---- scripts, line by line

abbrev pub variable : List ℕ → Declared
variable name = record { kind = Variable; name = name; size = None }

abbrev pub request : List ℕ → Option ℕ → Declared
request name handles = record { kind = Handle; name = name; size = handles }

-- all statements stand on line 2
abbrev pub script : ℕ → List Declared → List Tree → Program
script ranks decls body = record { version = 1; ranks = ranks; decls = decls; body = body; lines = 2 ∷ 2 ∷ 2 ∷ 2 ∷ 2 ∷ 2 ∷ 2 ∷ [] }

-- what rank 0 runs, and what the others run
abbrev pub two_parts : Block → Block → List Tree
two_parts first second = branch (op2 Equal own_rank (n 0)) first second ∷ []

abbrev standing_at : Trail → Option World → Standing
standing_at t None = first_standing t.program t.mode
standing_at t (Some w) = record { trail = t; world = w }

abbrev pub told : Trail → List (List ℕ) → List ℕ
told t [] = []
told t (l ∷ ls) = (line_answer (standing_at t (world_of t)) l).0 ++ told (line_answer (standing_at t (world_of t)) l).1 ls

abbrev pub trace : Program → List ℕ → List ℕ
trace s z = told (opening s Rendezvous) (lines_of z)

abbrev pub after : Program → List Step → Option World
after s steps = fold (start s Rendezvous) steps

-- of each rank its variables and handles
abbrev pub Cells : Type 0
Cells = Option (List (List ℤ × List (Option ℕ)))

abbrev pub cells : Option World → Cells
cells w = option_map (λ v. map {B = List ℤ × List (Option ℕ)} (λ r. (r.vars, r.handles)) v.ranks) w

-- a place declared after others of its kind
abbrev y : Place
y = record { declaration = 1; first = 1; cells = 1 }

-- ---- three sends, of which a receive takes the second: the queue keeps its order, and has it again when the match is undone

abbrev r_of_three : Place
r_of_three = record { declaration = 1; first = 0; cells = 3 }

abbrev passing : Program
passing = script 2 (variable (codes "x") ∷ request (codes "r") (Some 3) ∷ [])
    (two_parts
    (then_more (isend (part r_of_three (n 0)) (n 10) (n 1) (n 1)) (then_more (isend (part r_of_three (n 1)) (n 20) (n 1) (n 2)) (then_more (isend (part r_of_three (n 2)) (n 30) (n 1) (n 1)) no_more)))
    (then_more (recv (whole x) (n 0) (n 2)) no_more))

pub row_passing : trace passing (codes "local 0\nlocal 0\nlocal 0\nlocal 0\nlocal 1\nlocal 1\nmatch 0.1 1.0\nshow\nback\nshow\n")
    ≡ codes "ok 1\nok 2\nok 3\nok 4\nok 5\nok 6\nok 7\n"
    ++ codes "depth 7 of 7\nrank 0 ended\nvars 0\nhandles 0 1 2\nout\ncall 0.0 isend to 1 tag 1 value 10 free\ncall 0.1 isend to 1 tag 2 value 20 with 1.0\ncall 0.2 isend to 1 tag 1 value 30 free\nrank 1 blocked 0\nvars 0\nhandles - - -\nout\ncall 1.0 recv from 0 tag 2 with 0.1 value 20\npending 0 to 1: 0 2\nset pair 0.1 1.0\nend\n"
    ++ codes "ok 6\ndepth 6 of 7\nrank 0 ended\nvars 0\nhandles 0 1 2\nout\ncall 0.0 isend to 1 tag 1 value 10 free\ncall 0.1 isend to 1 tag 2 value 20 free\ncall 0.2 isend to 1 tag 1 value 30 free\nrank 1 blocked 0\nvars 0\nhandles - - -\nout\ncall 1.0 recv from 0 tag 2 free\npending 0 to 1: 0 1 2\nposted 1: 0\nend\n"
unfolding digits
row_passing = refl

-- ---- a second send on one handle: the first request is lost, and its message arrives nonetheless

abbrev r_behind_two : Place
r_behind_two = record { declaration = 2; first = 0; cells = 1 }

abbrev losing : Program
losing = script 2 (variable (codes "x") ∷ variable (codes "y") ∷ request (codes "r") None ∷ [])
    (two_parts
    (then_more (isend (whole r_behind_two) (n 1) (n 1) (n 0)) (then_more (isend (whole r_behind_two) (n 2) (n 1) (n 0)) (then_more (wait (whole r_behind_two)) no_more)))
    (then_more (recv (whole x) (n 0) (n 0)) (then_more (recv (whole y) (n 0) (n 0)) no_more)))

abbrev second_isend : List ℕ
second_isend = codes "depth 3 of 3\nrank 0 at 2\nvars 0 0\nhandles 1\nout\ncall 0.0 isend to 1 tag 0 value 1 free\ncall 0.1 isend to 1 tag 0 value 2 free\nrank 1 at 2\nvars 0 0\nhandles -\nout\npending 0 to 1: 0 1\nend\n"

pub row_losing_back : trace losing (codes "local 0\nlocal 0\nlocal 0\nshow\nback\nshow\nlocal 0\nshow\n")
    ≡ codes "ok 1\nok 2\nok 3\n" ++ second_isend
    ++ codes "ok 2\ndepth 2 of 3\nrank 0 at 2\nvars 0 0\nhandles 0\nout\ncall 0.0 isend to 1 tag 0 value 1 free\nrank 1 at 2\nvars 0 0\nhandles -\nout\npending 0 to 1: 0\nend\n"
    ++ codes "ok 3\n" ++ second_isend
unfolding digits
row_losing_back = refl

pub row_losing : trace losing (codes "local 0\nlocal 0\nlocal 0\nlocal 0\nlocal 1\nlocal 1\nmatch 0.0 1.0\nwake 1\nlocal 1\nmatch 0.1 1.1\nwake 0\nwake 1\nshow\n")
    ≡ codes "ok 1\nok 2\nok 3\nok 4\nok 5\nok 6\nok 7\nok 8\nok 9\nok 10\nok 11\nok 12\n"
    ++ codes "depth 12 of 12\nrank 0 ended\nvars 0 0\nhandles -\nout\ncall 0.0 isend to 1 tag 0 value 1 with 1.0\ncall 0.1 isend to 1 tag 0 value 2 with 1.1\ncall 0.2 wait 1\nrank 1 ended\nvars 1 2\nhandles -\nout\ncall 1.0 recv from 0 tag 0 with 0.0 value 1\ncall 1.1 recv from 0 tag 0 with 0.1 value 2\nset pair 0.0 1.0\nset woke 1.0\nset pair 0.1 1.1\nset woke 0.2\nset woke 1.1\noutcome done\nend\n"
unfolding digits
row_losing = refl

-- an isend that is taken back and taken again has its handle again
pub row_losing_again : trace losing (codes "local 0\nlocal 0\nlocal 0\nback\nredo\nlocal 0\nlocal 1\nlocal 1\nmatch 0.0 1.0\nwake 1\nlocal 1\nmatch 0.1 1.1\nwake 0\nwake 1\ngoto 2\nredo\nredo\nredo\nredo\nredo\nredo\nredo\nredo\nredo\nredo\nshow\n")
    ≡ codes "ok 1\nok 2\nok 3\nok 2\nok 3\nok 4\nok 5\nok 6\nok 7\nok 8\nok 9\nok 10\nok 11\nok 12\nok 2\nok 3\nok 4\nok 5\nok 6\nok 7\nok 8\nok 9\nok 10\nok 11\nok 12\n"
    ++ codes "depth 12 of 12\nrank 0 ended\nvars 0 0\nhandles -\nout\ncall 0.0 isend to 1 tag 0 value 1 with 1.0\ncall 0.1 isend to 1 tag 0 value 2 with 1.1\ncall 0.2 wait 1\nrank 1 ended\nvars 1 2\nhandles -\nout\ncall 1.0 recv from 0 tag 0 with 0.0 value 1\ncall 1.1 recv from 0 tag 0 with 0.1 value 2\nset pair 0.0 1.0\nset woke 1.0\nset pair 0.1 1.1\nset woke 0.2\nset woke 1.1\noutcome done\nend\n"
unfolding digits
row_losing_again = refl

-- of the steps not undone the handle has the first call, of one more the second: what was overwritten stands there again
abbrev handles_of : Option World → Option (List (List (Option ℕ)))
handles_of w = option_map (λ v. map {B = List (Option ℕ)} (λ r. r.handles) v.ranks) w

abbrev both_sent : Trail
both_sent = applied (applied (applied (opening losing Rendezvous) (Local 0)) (Local 0)) (Local 0)

pub row_second_handle : handles_of (world_of both_sent) ≡ Some ((Some 1 ∷ []) ∷ (None ∷ []) ∷ [])
row_second_handle = refl

pub row_first_handle : handles_of (world_of (taken_back both_sent)) ≡ Some ((Some 0 ∷ []) ∷ (None ∷ []) ∷ [])
row_first_handle = refl

pub row_taken_back : world_of (taken_back both_sent) ≡ after losing (Local 0 ∷ Local 0 ∷ [])
row_taken_back = refl

pub row_no_handle : handles_of (world_of (taken_back (taken_back both_sent))) ≡ Some ((None ∷ []) ∷ (None ∷ []) ∷ [])
row_no_handle = refl

-- the wait is for the second send alone: it isn't complete by the first match
pub row_second_awaited : map {B = Option World} (λ steps. after losing (Local 0 ∷ Local 0 ∷ Local 0 ∷ Local 0 ∷ Local 1 ∷ Local 1 ∷ Match (call_id 0 0) (call_id 1 0) ∷ steps)) ((Wake 0 ∷ []) ∷ (Match (call_id 0 1) (call_id 1 0) ∷ []) ∷ []) ≡ None ∷ None ∷ []
row_second_awaited = refl

-- ---- two receives in the other order of tags

abbrev r_behind_both : Place
r_behind_both = record { declaration = 2; first = 0; cells = 2 }

abbrev crossing : Program
crossing = script 2 (variable (codes "x") ∷ variable (codes "y") ∷ request (codes "r") (Some 2) ∷ [])
    (two_parts
    (then_more (isend (part r_behind_both (n 0)) (n 1) (n 1) (n 1)) (then_more (isend (part r_behind_both (n 1)) (n 2) (n 1) (n 2)) no_more))
    (then_more (recv (whole x) (n 0) (n 2)) (then_more (recv (whole y) (n 0) (n 1)) no_more)))

pub row_crossing : trace crossing (codes "local 0\nlocal 0\nlocal 0\nlocal 1\nlocal 1\nmatch 0.0 1.0\nmatch 0.1 1.0\nwake 1\nlocal 1\nmatch 0.0 1.1\nwake 1\nshow\n")
    ≡ codes "ok 1\nok 2\nok 3\nok 4\nok 5\nrefused not-enabled\nok 6\nok 7\nok 8\nok 9\nok 10\n"
    ++ codes "depth 10 of 10\nrank 0 ended\nvars 0 0\nhandles 0 1\nout\ncall 0.0 isend to 1 tag 1 value 1 with 1.1\ncall 0.1 isend to 1 tag 2 value 2 with 1.0\nrank 1 ended\nvars 2 1\nhandles - -\nout\ncall 1.0 recv from 0 tag 2 with 0.1 value 2\ncall 1.1 recv from 0 tag 1 with 0.0 value 1\nset pair 0.1 1.0\nset woke 1.0\nset pair 0.0 1.1\nset woke 1.1\noutcome done\nend\n"
unfolding digits
row_crossing = refl

-- ---- a wait for a handle without a request is complete at once

abbrev r : Place
r = record { declaration = 1; first = 0; cells = 1 }

abbrev one_handle : List Declared
one_handle = variable (codes "x") ∷ request (codes "r") None ∷ []

abbrev waiting : Program
waiting = script 1 one_handle (wait (whole r) ∷ [])

pub row_waiting : trace waiting (codes "local 0\nshow\nwake 0\nshow\nback\nback\nshow\n")
    ≡ codes "ok 1\ndepth 1 of 1\nrank 0 blocked 0\nvars 0\nhandles -\nout\ncall 0.0 wait none\nend\n"
    ++ codes "ok 2\ndepth 2 of 2\nrank 0 ended\nvars 0\nhandles -\nout\ncall 0.0 wait none\nset woke 0.0\noutcome done\nend\n"
    ++ codes "ok 1\nok 0\ndepth 0 of 2\nrank 0 at 2\nvars 0\nhandles -\nout\nend\n"
unfolding digits
row_waiting = refl

-- the handle of a wait is null after its wake, so a second wait is for nothing
abbrev waiting_twice : Program
waiting_twice = script 1 one_handle (isend (whole r) (n 4) (n 0) (n 0) ∷ recv (whole x) (n 0) (n 0) ∷ wait (whole r) ∷ wait (whole r) ∷ [])

pub row_waiting_twice : trace waiting_twice (codes "local 0\nlocal 0\nmatch 0.0 0.1\nwake 0\nlocal 0\nshow\nwake 0\nlocal 0\nwake 0\nshow\n")
    ≡ codes "ok 1\nok 2\nok 3\nok 4\nok 5\n"
    ++ codes "depth 5 of 5\nrank 0 blocked 2\nvars 4\nhandles 0\nout\ncall 0.0 isend to 0 tag 0 value 4 with 0.1\ncall 0.1 recv from 0 tag 0 with 0.0 value 4\ncall 0.2 wait 0\nset pair 0.0 0.1\nset woke 0.1\nend\n"
    ++ codes "ok 6\nok 7\nok 8\n"
    ++ codes "depth 8 of 8\nrank 0 ended\nvars 4\nhandles -\nout\ncall 0.0 isend to 0 tag 0 value 4 with 0.1\ncall 0.1 recv from 0 tag 0 with 0.0 value 4\ncall 0.2 wait 0\ncall 0.3 wait none\nset pair 0.0 0.1\nset woke 0.1\nset woke 0.2\nset woke 0.3\noutcome done\nend\n"
unfolding digits
row_waiting_twice = refl

-- ---- what a receive brought is written as its wait is woken, not at the match

abbrev fetching : Program
fetching = script 2 one_handle
    (two_parts
    (then_more (irecv (whole r) (whole x) (n 1) (n 3)) (then_more (wait (whole r)) (then_more (print (cell x)) no_more)))
    (then_more (send (n 7) (n 0) (n 3)) no_more))

pub row_fetching : trace fetching (codes "local 0\nlocal 0\nlocal 0\nwake 0\nlocal 1\nlocal 1\nmatch 1.0 0.0\nshow\nwake 0\nlocal 0\nwake 1\nshow\n")
    ≡ codes "ok 1\nok 2\nok 3\nrefused not-enabled\nok 4\nok 5\nok 6\n"
    ++ codes "depth 6 of 6\nrank 0 blocked 1\nvars 0\nhandles 0\nout\ncall 0.0 irecv from 1 tag 3 with 1.0 value 7\ncall 0.1 wait 0\nrank 1 blocked 0\nvars 0\nhandles -\nout\ncall 1.0 send to 0 tag 3 value 7 with 0.0\nset pair 1.0 0.0\nend\n"
    ++ codes "ok 7\nok 8\nok 9\n"
    ++ codes "depth 9 of 9\nrank 0 ended\nvars 7\nhandles -\nout 7\ncall 0.0 irecv from 1 tag 3 with 1.0 value 7\ncall 0.1 wait 0\nrank 1 ended\nvars 0\nhandles -\nout\ncall 1.0 send to 0 tag 3 value 7 with 0.0\nset pair 1.0 0.0\nset woke 0.1\nset woke 1.0\noutcome done\nend\n"
unfolding digits
row_fetching = refl

-- without a wait it is never written
pub row_never_written : cells (after (script 1 one_handle (irecv (whole r) (whole x) (n 0) (n 0) ∷ send (n 7) (n 0) (n 0) ∷ [])) (Local 0 ∷ Local 0 ∷ Match (call_id 0 1) (call_id 0 0) ∷ Wake 0 ∷ [])) ≡ Some ((pos 0 ∷ [], Some 0 ∷ []) ∷ [])
row_never_written = refl

-- ---- a request that is lost: its call stays free, or is paired

abbrev forgetting : Program
forgetting = script 1 one_handle (isend (whole r) (n 1) (n 0) (n 0) ∷ irecv (whole r) (whole x) (n 0) (n 1) ∷ [])

pub row_forgetting : trace forgetting (codes "local 0\nlocal 0\nmatch 0.0 0.1\nshow\n")
    ≡ codes "ok 1\nok 2\nrefused not-enabled\ndepth 2 of 2\nrank 0 ended\nvars 0\nhandles 1\nout\ncall 0.0 isend to 0 tag 0 value 1 free\ncall 0.1 irecv from 0 tag 1 free\npending 0 to 0: 0\nposted 0: 1\noutcome leftovers 0.0 0.1\nend\n"
unfolding digits
row_forgetting = refl

-- a rank that sends to itself, on one handle for both ends
abbrev to_itself : Program
to_itself = script 1 one_handle (isend (whole r) (n 1) (n 0) (n 0) ∷ irecv (whole r) (whole x) (n 0) (n 0) ∷ wait (whole r) ∷ [])

pub row_to_itself : trace to_itself (codes "local 0\nlocal 0\nlocal 0\nshow\nwake 0\nmatch 0.0 0.1\nwake 0\nshow\n")
    ≡ codes "ok 1\nok 2\nok 3\n"
    ++ codes "depth 3 of 3\nrank 0 blocked 2\nvars 0\nhandles 1\nout\ncall 0.0 isend to 0 tag 0 value 1 free\ncall 0.1 irecv from 0 tag 0 free\ncall 0.2 wait 1\npending 0 to 0: 0\nposted 0: 1\nend\n"
    ++ codes "refused not-enabled\nok 4\nok 5\n"
    ++ codes "depth 5 of 5\nrank 0 ended\nvars 1\nhandles -\nout\ncall 0.0 isend to 0 tag 0 value 1 with 0.1\ncall 0.1 irecv from 0 tag 0 with 0.0 value 1\ncall 0.2 wait 1\nset pair 0.0 0.1\nset woke 0.2\noutcome done\nend\n"
unfolding digits
row_to_itself = refl

-- ---- a wait that is never complete; where sends are buffered it is complete unpaired

abbrev stuck : Program
stuck = script 1 one_handle (isend (whole r) (n 1) (n 0) (n 0) ∷ wait (whole r) ∷ [])

pub row_stuck : trace stuck (codes "local 0\nlocal 0\nwake 0\nshow\n")
    ≡ codes "ok 1\nok 2\nrefused not-enabled\ndepth 2 of 2\nrank 0 blocked 1\nvars 0\nhandles 0\nout\ncall 0.0 isend to 0 tag 0 value 1 free\ncall 0.1 wait 0\npending 0 to 0: 0\noutcome deadlock 0.1\nend\n"
unfolding digits
row_stuck = refl

pub row_buffered : option_map outcome (fold (start stuck Buffered) (Local 0 ∷ Local 0 ∷ Wake 0 ∷ [])) ≡ Some (Some (o.Leftovers (issued_by 0 (call_id 0 0) ∷ [])))
row_buffered = refl

pub row_buffered_cells : cells (fold (start stuck Buffered) (Local 0 ∷ Local 0 ∷ Wake 0 ∷ [])) ≡ Some ((pos 0 ∷ [], None ∷ []) ∷ [])
row_buffered_cells = refl

-- a receive is never buffered
pub row_receive_not_buffered : fold (start (script 1 one_handle (irecv (whole r) (whole x) (n 0) (n 0) ∷ wait (whole r) ∷ [])) Buffered) (Local 0 ∷ Local 0 ∷ Wake 0 ∷ []) ≡ None
row_receive_not_buffered = refl

-- ---- two receives into one cell: what is woken last is what stands there

abbrev r_of_four : Place
r_of_four = record { declaration = 1; first = 0; cells = 4 }

abbrev on : ℕ → Target
on k = part r_of_four (n k)

abbrev one_cell : Program
one_cell = script 1 (variable (codes "x") ∷ request (codes "r") (Some 4) ∷ [])
    (irecv (on 0) (whole x) (n 0) (n 1) ∷ irecv (on 1) (whole x) (n 0) (n 2) ∷ isend (on 2) (n 5) (n 0) (n 1) ∷ isend (on 3) (n 6) (n 0) (n 2) ∷ wait (on 1) ∷ wait (on 0) ∷ [])

abbrev one_cell_matched : List Step
one_cell_matched = Local 0 ∷ Local 0 ∷ Local 0 ∷ Local 0 ∷ Match (call_id 0 2) (call_id 0 0) ∷ Match (call_id 0 3) (call_id 0 1) ∷ Local 0 ∷ []

pub row_one_cell : map {B = Cells} (λ steps. cells (after one_cell (one_cell_matched ++ steps))) ([] ∷ (Wake 0 ∷ []) ∷ (Wake 0 ∷ Local 0 ∷ Wake 0 ∷ []) ∷ [])
    ≡ Some ((pos 0 ∷ [], Some 0 ∷ Some 1 ∷ Some 2 ∷ Some 3 ∷ []) ∷ []) ∷ Some ((pos 6 ∷ [], Some 0 ∷ None ∷ Some 2 ∷ Some 3 ∷ []) ∷ []) ∷ Some ((pos 5 ∷ [], None ∷ None ∷ Some 2 ∷ Some 3 ∷ []) ∷ []) ∷ []
row_one_cell = refl

-- ---- messages of one tag between requests don't overtake, on either side; a wait takes part in no match

abbrev queueing : Program
queueing = script 1 (variable (codes "x") ∷ request (codes "r") (Some 4) ∷ [])
    (irecv (on 0) (whole x) (n 0) (n 0) ∷ irecv (on 1) (whole x) (n 0) (n 0) ∷ isend (on 2) (n 5) (n 0) (n 0) ∷ isend (on 3) (n 6) (n 0) (n 0) ∷ wait (on 3) ∷ [])

abbrev queued : Option World
queued = after queueing (Local 0 ∷ Local 0 ∷ Local 0 ∷ Local 0 ∷ Local 0 ∷ [])

pub row_queued : option_map enabled queued ≡ Some (Match (call_id 0 2) (call_id 0 0) ∷ [])
row_queued = refl

pub row_queues : option_map {U = List ℕ × List ℕ} (λ w. (pending w.board 0 0, posted w.board 0)) queued ≡ Some (2 ∷ 3 ∷ [], 0 ∷ 1 ∷ [])
row_queues = refl

pub row_wait_not_free : option_map {U = Bool × Bool} (λ w. (is_free w.board (call_id 0 3), is_free w.board (call_id 0 4))) queued ≡ Some (true, false)
row_wait_not_free = refl

-- with the last send paired its wait is complete, and no other is looked at
pub row_completed : option_map (λ w. complete w.board (call_id 0 4)) (after queueing (Local 0 ∷ Local 0 ∷ Local 0 ∷ Local 0 ∷ Local 0 ∷ Match (call_id 0 2) (call_id 0 0) ∷ [])) ≡ Some false
row_completed = refl

pub row_completed_then : option_map enabled (after queueing (Local 0 ∷ Local 0 ∷ Local 0 ∷ Local 0 ∷ Local 0 ∷ Match (call_id 0 2) (call_id 0 0) ∷ Match (call_id 0 3) (call_id 0 1) ∷ [])) ≡ Some (Wake 0 ∷ [])
row_completed_then = refl
