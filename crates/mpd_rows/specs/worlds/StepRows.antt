-- Worked rows of local steps: what each statement makes of a rank, in which order its parts are evaluated, and what a trap leaves as it was.
use Rattle.std.specs.Prelude.{◌≡◌, ℕ, ℤ, pos, negsuc, true, false, map, replicate, List, [], ◌∷◌, ◌++◌, Option, Some, None, codes, refl}
use Rattle.std.specs.Option.{option_map}
use Rattle.std.specs.Fmt.{digits}
use Rattle.mpd_model.specs.declared.expr.BinaryOp.TheVariants.{Equal, Less, Add, Subtract, Multiply, Divide}
use Rattle.mpd_model.specs.declared.expr.UnaryOp.TheVariants.{Negate, Not}
use Rattle.mpd_model.specs.declared.place.DeclKind.TheVariants.{Variable}
use Rattle.mpd_model.specs.declared.place.Place.{Place}
use Rattle.mpd_model.specs.declared.step.Step.{Step}
use Rattle.mpd_model.specs.declared.step.Step.TheVariants.{Local, Match, Wake}
use Rattle.mpd_model.specs.declared.call.Call.{Call}
use Rattle.mpd_model.specs.declared.call.CallKind.{CallKind}
use Rattle.mpd_model.specs.declared.call.CallKind.TheVariants.{Send, Recv}
use Rattle.mpd_model.specs.declared.call.Mode.TheVariants.{Rendezvous}
use Rattle.mpd_model.specs.declared.call.Trap.{Trap}
use Rattle.mpd_model.specs.declared.call.Trap.TheVariants.{Overflow, ZeroDivisor, BadRank, BadTag, BadIndex, Assertion}
use Rattle.mpd_model.specs.declared.call.Activity.{Activity}
use Rattle.mpd_model.specs.declared.call.Activity.TheVariants.{Running, Blocked, Trapped}
use Rattle.mpd_model.specs.script.Declaration.{Declared}
use Rattle.mpd_model.specs.script.Term.{Term, lit, own_rank, size, cell, element, op1, op2, Target}
use Rattle.mpd_model.specs.script.Tree.{Tree, branch, repeat, no_more, then_more}
use Rattle.mpd_model.specs.script.Program.{Program}
use Rattle.mpd_model.specs.steps.World.{RankWorld, World, call_id, start}
use Rattle.mpd_model.specs.steps.Next.{next, fold, enabled}
use Rattle.mpd_model.specs.steps.Outcomes.{outcome}
use Rattle.mpd_model.specs.runs.Trail.{Trail, Standing, opening, first_standing, world_of}
use Rattle.mpd_model.specs.texts.Lines.{lines_of}
use Rattle.mpd_model.specs.texts.Texts.{rank_text, outcome_line}
use Rattle.mpd_model.specs.texts.Answers.{line_answer}
use Rattle.mpd_rows.specs.worlds.Statements.{print, send, recv, assign, check}

-- `var x; var a[3]; var none[0];`
abbrev x : Place
x = record { declaration = 0; first = 0; cells = 1 }

abbrev a : Place
a = record { declaration = 1; first = 1; cells = 3 }

abbrev none : Place
none = record { declaration = 2; first = 4; cells = 0 }

abbrev whole : Place → Target
whole p = record { place = p; index = None }

abbrev part : Place → Term → Target
part p e = record { place = p; index = Some e }

abbrev n : ℕ → Term
n k = lit (pos k)

abbrev m : ℕ → Term
m k = op1 Negate (lit (pos k))

abbrev over_zero : Term
over_zero = op2 Divide (n 1) (n 0)

abbrev too_large : Term
too_large = op2 Add (n 9223372036854775807) (n 1)

-- ---- one rank of two, before statement 5 and with statement 20 after it: x is 1, a is 10 20 30

abbrev earlier : Call
earlier = record { statement = 3; kind = Send (record { to = 1; tag = 0; value = pos 8; synchronous = false; blocks = true; buffered = false }) }

abbrev rank_at : List (ℕ × Tree) → RankWorld
rank_at ts = record { rest = ts; vars = pos 1 ∷ pos 10 ∷ pos 20 ∷ pos 30 ∷ []; handles = None ∷ []; out = pos 9 ∷ []; activity = Running }

abbrev behind : List (ℕ × Tree)
behind = (20, print (n 1)) ∷ []

-- It is rank 0 of these, and has issued one call; rank 1 has issued two, and no step of rank 0 changes anything of it.
abbrev with_calls : RankWorld → List Call → World
with_calls r calls = record { ranks = r ∷ rank_at [] ∷ []; board = record { mode = Rendezvous; calls = calls ∷ (earlier ∷ earlier ∷ []) ∷ []; sets = [] } }

abbrev does : Tree → Option World
does t = next (with_calls (rank_at ((5, t) ∷ behind)) (earlier ∷ [])) (Local 0)

-- what is left where no call was issued, and where one was
abbrev leaves : RankWorld → Option World
leaves r = Some (with_calls r (earlier ∷ []))

abbrev issues : RankWorld → CallKind → Option World
issues r kind = Some (with_calls r (earlier ∷ record { statement = 5; kind = kind } ∷ []))

-- a trap changes what the rank is doing, and nothing else: the statement is still the first that is left
abbrev Traps : Type 0
Traps = List (Tree × Trap)

abbrev found : Traps → List (Option World)
found table = map {B = Option World} (λ r. does r.0) table

abbrev wanted : Traps → List (Option World)
wanted table = map {B = Option World} (λ r. leaves (record (rank_at ((5, r.0) ∷ behind)) { activity = Trapped r.1 })) table

-- the value comes first, then the destination, which is checked before the tag is evaluated
abbrev sends : Traps
sends =
    (send over_zero (n 9) (m 1), ZeroDivisor) ∷ (send too_large over_zero over_zero, Overflow) ∷ (send (element a (n 3)) (n 9) (m 1), BadIndex)
    ∷ (send (n 1) over_zero (n 99999), ZeroDivisor) ∷ (send (n 1) (n 9) over_zero, BadRank) ∷ (send (n 1) (n 9) (n 99999), BadRank)
    ∷ (send (n 1) (n 2) (n 0), BadRank) ∷ (send (n 1) size (n 0), BadRank) ∷ (send (n 1) (m 1) (n 0), BadRank)
    ∷ (send (n 1) (element a (n 3)) (m 1), BadIndex) ∷ (send (n 1) (element a (n 0)) over_zero, BadRank)
    ∷ (send (n 1) (n 1) over_zero, ZeroDivisor) ∷ (send (n 1) (n 0) (n 32768), BadTag) ∷ (send (n 1) (n 0) (m 1), BadTag) ∷ (send (n 1) (n 0) (element a (m 1)), BadIndex) ∷ []

pub row_sends : found sends ≡ wanted sends
row_sends = refl

-- the index of the target comes first, then the source, which is checked before the tag is evaluated
abbrev receives : Traps
receives =
    (recv (part a (n 3)) (n 9) (m 1), BadIndex) ∷ (recv (part a (m 1)) over_zero over_zero, BadIndex) ∷ (recv (part a over_zero) (n 9) (m 1), ZeroDivisor)
    ∷ (recv (part none (n 0)) (n 9) (m 1), BadIndex) ∷ (recv (part a (element a (n 0))) over_zero (n 0), BadIndex)
    ∷ (recv (part a (n 2)) (element a (n 5)) over_zero, BadIndex) ∷ (recv (part a (n 2)) (element a (n 0)) over_zero, BadRank)
    ∷ (recv (whole x) over_zero (n 99999), ZeroDivisor) ∷ (recv (whole x) (n 9) over_zero, BadRank) ∷ (recv (whole x) (n 2) (n 99999), BadRank) ∷ (recv (whole x) (m 1) (n 0), BadRank)
    ∷ (recv (whole x) (n 0) over_zero, ZeroDivisor) ∷ (recv (whole x) (n 1) (n 32768), BadTag) ∷ (recv (whole x) (n 1) (m 1), BadTag) ∷ (recv (whole x) (n 1) (element a (n 3)), BadIndex) ∷ []

pub row_receives : found receives ≡ wanted receives
row_receives = refl

-- the index comes before the expression
abbrev assignments : Traps
assignments =
    (assign (part a (n 3)) over_zero, BadIndex) ∷ (assign (part a over_zero) too_large, ZeroDivisor) ∷ (assign (part a too_large) over_zero, Overflow)
    ∷ (assign (part a (n 0)) over_zero, ZeroDivisor) ∷ (assign (part a (m 1)) (n 1), BadIndex) ∷ (assign (part a (element a (n 0))) (n 1), BadIndex)
    ∷ (assign (part a (n 0)) (element a (n 3)), BadIndex) ∷ (assign (part none (n 0)) (n 1), BadIndex) ∷ (assign (whole x) too_large, Overflow) ∷ (assign (whole x) over_zero, ZeroDivisor) ∷ []

pub row_assignments : found assignments ≡ wanted assignments
row_assignments = refl

-- an `if` or a `while` whose condition traps is not entered
abbrev conditions : Traps
conditions =
    (branch over_zero (then_more (print (n 1)) no_more) (then_more (print (n 2)) no_more), ZeroDivisor) ∷ (branch (element a (n 3)) no_more no_more, BadIndex) ∷ (branch too_large no_more no_more, Overflow)
    ∷ (repeat over_zero (then_more (print (n 1)) no_more), ZeroDivisor) ∷ (repeat (element a (n 3)) no_more, BadIndex) ∷ (repeat too_large no_more, Overflow) ∷ []

pub row_conditions : found conditions ≡ wanted conditions
row_conditions = refl

-- an `assert` of zero traps, but a trap of its expression comes before that
abbrev assertions : Traps
assertions =
    (check (n 0), Assertion) ∷ (check (m 0), Assertion) ∷ (check (op2 Equal (n 1) (n 2)), Assertion) ∷ (check (op1 Not (n 7)), Assertion) ∷ (check (op2 Subtract (cell x) (n 1)), Assertion)
    ∷ (check over_zero, ZeroDivisor) ∷ (check (element a (n 3)), BadIndex) ∷ (check too_large, Overflow)
    ∷ (print over_zero, ZeroDivisor) ∷ (print (element a (m 1)), BadIndex) ∷ (print too_large, Overflow) ∷ []

pub row_assertions : found assertions ≡ wanted assertions
row_assertions = refl

-- ---- statements that don't trap

-- what is sent is the value at the issue
pub row_sent : does (send (op2 Add (cell x) (element a (n 2))) (n 1) (n 32767))
    ≡ issues (record (rank_at behind) { activity = Blocked }) (Send (record { to = 1; tag = 32767; value = pos 31; synchronous = false; blocks = true; buffered = false }))
row_sent = refl

pub row_sent_smallest : does (send (op2 Subtract (m 9223372036854775807) (n 1)) own_rank (m 0))
    ≡ issues (record (rank_at behind) { activity = Blocked }) (Send (record { to = 0; tag = 0; value = negsuc 9223372036854775807; synchronous = false; blocks = true; buffered = false }))
row_sent_smallest = refl

-- the cell of a receive is fixed as it is issued: the third of `a` is cell 3
pub row_posted_at : does (recv (part a (op2 Add (cell x) (n 1))) (op2 Subtract size (n 1)) (n 0))
    ≡ issues (record (rank_at behind) { activity = Blocked }) (Recv (record { from = Some 1; tag = Some 0; cell = 3; status = None; blocks = true }))
row_posted_at = refl

pub row_posted_whole : does (recv (whole x) (n 0) (n 32767)) ≡ issues (record (rank_at behind) { activity = Blocked }) (Recv (record { from = Some 0; tag = Some 32767; cell = 0; status = None; blocks = true }))
row_posted_whole = refl

-- an assignment changes one cell
abbrev writes : List (Tree × List ℤ)
writes =
    (assign (whole x) (op2 Add (cell x) (n 1)), pos 2 ∷ pos 10 ∷ pos 20 ∷ pos 30 ∷ []) ∷ (assign (whole x) (m 5), negsuc 4 ∷ pos 10 ∷ pos 20 ∷ pos 30 ∷ [])
    ∷ (assign (part a (n 0)) (n 0), pos 1 ∷ pos 0 ∷ pos 20 ∷ pos 30 ∷ []) ∷ (assign (part a (n 2)) (op2 Add (cell x) (n 1)), pos 1 ∷ pos 10 ∷ pos 20 ∷ pos 2 ∷ [])
    ∷ (assign (part a (cell x)) (op2 Multiply (element a (cell x)) (n 2)), pos 1 ∷ pos 10 ∷ pos 40 ∷ pos 30 ∷ [])
    ∷ (assign (part a (op2 Divide (element a (n 0)) (n 5))) (op2 Subtract (cell x) (n 2)), pos 1 ∷ pos 10 ∷ pos 20 ∷ negsuc 0 ∷ [])
    ∷ (assign (whole x) (cell x), pos 1 ∷ pos 10 ∷ pos 20 ∷ pos 30 ∷ []) ∷ []

pub row_writes : map {B = Option World} (λ r. does r.0) writes ≡ map {B = Option World} (λ r. leaves (record (rank_at behind) { vars = r.1 })) writes
row_writes = refl

pub row_held : map {B = Option World} does (check (n 1) ∷ check (m 3) ∷ check (op2 Less (n 1) (n 2)) ∷ []) ≡ replicate 3 (leaves (rank_at behind))
row_held = refl

pub row_printed : does (print (element a (cell x))) ≡ leaves (record (rank_at behind) { out = pos 9 ∷ pos 20 ∷ [] })
row_printed = refl

-- `while 1 { print 1; } x = 1;` in the first block, statements 6 to 8, and `assert 1;` in the second, statement 9
abbrev inner : Tree
inner = repeat (n 1) (then_more (print (n 1)) no_more)

abbrev two_ways : Term → Tree
two_ways c = branch c (then_more inner (then_more (assign (whole x) (n 1)) no_more)) (then_more (check (n 1)) no_more)

pub row_first_way : does (two_ways (m 1)) ≡ leaves (rank_at ((6, inner) ∷ (8, assign (whole x) (n 1)) ∷ behind))
row_first_way = refl

pub row_second_way : does (two_ways (m 0)) ≡ leaves (rank_at ((9, check (n 1)) ∷ behind))
row_second_way = refl

-- a `while` puts its body before itself, unless its condition is zero
abbrev loop : Term → Tree
loop c = repeat c (then_more inner (then_more (print (n 2)) no_more))

pub row_around : does (loop (cell x)) ≡ leaves (rank_at ((6, inner) ∷ (8, print (n 2)) ∷ (5, loop (cell x)) ∷ behind))
row_around = refl

pub row_around_negative : does (loop (m 3)) ≡ leaves (rank_at ((6, inner) ∷ (8, print (n 2)) ∷ (5, loop (m 3)) ∷ behind))
row_around_negative = refl

pub row_not_around : does (loop (op2 Subtract (cell x) (n 1))) ≡ leaves (rank_at behind)
row_not_around = refl

pub row_around_nothing : does (repeat (n 1) no_more) ≡ leaves (rank_at ((5, repeat (n 1) no_more) ∷ behind))
row_around_nothing = refl

pub row_never : does (repeat (n 0) no_more) ≡ leaves (rank_at behind)
row_never = refl

-- ---- scripts, step by step

abbrev declared : List ℕ → Option ℕ → Declared
declared name cells = record { kind = Variable; name = name; size = cells }

-- variables `x` and `a[3]`; statement k stands on line k + 2
abbrev script : ℕ → List Tree → Program
script ranks body = record {
  version = 1;
  ranks = ranks;
  decls = declared (codes "x") None ∷ declared (codes "a") (Some 3) ∷ [];
  body = body;
  lines = 2 ∷ 3 ∷ 4 ∷ 5 ∷ 6 ∷ 7 ∷ 8 ∷ [];
}

abbrev after : Program → List Step → Option World
after s steps = fold (start s Rendezvous) steps

-- the numbers of what is left of rank 0, its variables, its output and what it is doing
abbrev seen : Option World → Option (List (List ℕ × (List ℤ × (List ℤ × Activity))))
seen w = option_map (λ w. map {B = List ℕ × (List ℤ × (List ℤ × Activity))} (λ r. (map {B = ℕ} (λ t. t.0) r.rest, (r.vars, (r.out, r.activity)))) w.ranks) w

-- `while i < 2 { i = i + 1; }` on line 2
abbrev counting : Program
counting = record {
  version = 1;
  ranks = 1;
  decls = declared (codes "i") None ∷ [];
  body = repeat (op2 Less (cell x) (n 2)) (then_more (assign (whole x) (op2 Add (cell x) (n 1))) no_more) ∷ [];
  lines = 2 ∷ 2 ∷ [];
}

abbrev counted : List (Option (List (List ℕ × (List ℤ × (List ℤ × Activity)))))
counted =
    Some ((0 ∷ [], (pos 0 ∷ [], ([], Running))) ∷ []) ∷ Some ((1 ∷ 0 ∷ [], (pos 0 ∷ [], ([], Running))) ∷ []) ∷ Some ((0 ∷ [], (pos 1 ∷ [], ([], Running))) ∷ [])
    ∷ Some ((1 ∷ 0 ∷ [], (pos 1 ∷ [], ([], Running))) ∷ []) ∷ Some ((0 ∷ [], (pos 2 ∷ [], ([], Running))) ∷ []) ∷ Some (([], (pos 2 ∷ [], ([], Running))) ∷ []) ∷ None ∷ []

pub row_counting : map {B = Option (List (List ℕ × (List ℤ × (List ℤ × Activity))))} (λ k. seen (after counting (replicate k (Local 0)))) (0 ∷ 1 ∷ 2 ∷ 3 ∷ 4 ∷ 5 ∷ 6 ∷ []) ≡ counted
row_counting = refl

abbrev standing_at : Trail → Option World → Standing
standing_at t None = first_standing t.program t.mode
standing_at t (Some w) = record { trail = t; world = w }

abbrev told : Trail → List (List ℕ) → List ℕ
told t [] = []
told t (l ∷ ls) = (line_answer (standing_at t (world_of t)) l).0 ++ told (line_answer (standing_at t (world_of t)) l).1 ls

abbrev trace : Program → List ℕ → List ℕ
trace s z = told (opening s Rendezvous) (lines_of z)

pub row_counting_trace : trace counting (codes "local 0\nlocal 0\nlocal 0\nlocal 0\nlocal 0\nlocal 0\nshow\nback\nback\nshow\n")
    ≡ codes "ok 1\nok 2\nok 3\nok 4\nok 5\nrefused not-enabled\ndepth 5 of 5\nrank 0 ended\nvars 2\nhandles\nout\noutcome done\nend\nok 4\nok 3\ndepth 3 of 5\nrank 0 at 2\nvars 1\nhandles\nout\nend\n"
unfolding digits
row_counting_trace = refl

-- `x = 9223372036854775807;` on line 2 and `x = x + 1;` on line 3
abbrev overflowing : Program
overflowing = record counting { body = assign (whole x) (n 9223372036854775807) ∷ assign (whole x) (op2 Add (cell x) (n 1)) ∷ []; lines = 2 ∷ 3 ∷ [] }

pub row_overflowing_trace : trace overflowing (codes "local 0\nlocal 0\nlocal 0\nshow\nback\nshow\n")
    ≡ codes "ok 1\nok 2\nrefused not-enabled\ndepth 2 of 2\nrank 0 trapped overflow\nvars 9223372036854775807\nhandles\nout\noutcome trap 0 overflow\nend\nok 1\ndepth 1 of 2\nrank 0 at 3\nvars 9223372036854775807\nhandles\nout\nend\n"
unfolding digits
row_overflowing_trace = refl

-- a trap inside two blocks: `while 1 { if 1 { a[3] = 1; } print 5; } print 6;`
abbrev trapped_inside : Program
trapped_inside = script 1 (repeat (n 1) (then_more (branch (n 1) (then_more (assign (part a (n 3)) (n 1)) no_more) no_more) (then_more (print (n 5)) no_more)) ∷ print (n 6) ∷ [])

pub row_trapped_inside : seen (after trapped_inside (replicate 3 (Local 0))) ≡ Some ((2 ∷ 3 ∷ 0 ∷ 4 ∷ [], (pos 0 ∷ pos 0 ∷ pos 0 ∷ pos 0 ∷ [], ([], Trapped BadIndex))) ∷ [])
row_trapped_inside = refl

pub row_trapped_for_good : after trapped_inside (replicate 4 (Local 0)) ≡ None
row_trapped_for_good = refl

pub row_trapped_enabled : option_map enabled (after trapped_inside (replicate 3 (Local 0))) ≡ Some []
row_trapped_enabled = refl

-- before the step that traps the rank stands at the line of that statement
pub row_before_trap : map {B = Option (List ℕ)} (λ k. option_map (λ w. rank_text trapped_inside w 0) (after trapped_inside (replicate k (Local 0)))) (0 ∷ 1 ∷ 2 ∷ 3 ∷ [])
    ≡ Some (codes "at 2") ∷ Some (codes "at 3") ∷ Some (codes "at 4") ∷ Some (codes "trapped bad-index") ∷ []
unfolding digits
row_before_trap = refl

-- two loops: `while x < 2 { a[0] = 0; while a[0] < 2 { a[0] = a[0] + 1; } x = x + 1; } print x * 10 + a[0];` takes 3 + 2 * 7 steps to its end, and one to print
abbrev first_of_a : Term
first_of_a = element a (n 0)

abbrev two_loops : Program
two_loops = script 1
    (repeat (op2 Less (cell x) (n 2)) (then_more (assign (part a (n 0)) (n 0)) (then_more (repeat (op2 Less first_of_a (n 2)) (then_more (assign (part a (n 0)) (op2 Add first_of_a (n 1))) no_more))
    (then_more (assign (whole x) (op2 Add (cell x) (n 1))) no_more))) ∷ print (op2 Add (op2 Multiply (cell x) (n 10)) first_of_a) ∷ [])

pub row_two_loops_inside : seen (after two_loops (replicate 3 (Local 0))) ≡ Some ((3 ∷ 2 ∷ 4 ∷ 0 ∷ 5 ∷ [], (pos 0 ∷ pos 0 ∷ pos 0 ∷ pos 0 ∷ [], ([], Running))) ∷ [])
row_two_loops_inside = refl

pub row_two_loops_left : seen (after two_loops (replicate 17 (Local 0))) ≡ Some ((5 ∷ [], (pos 2 ∷ pos 2 ∷ pos 0 ∷ pos 0 ∷ [], ([], Running))) ∷ [])
row_two_loops_left = refl

pub row_two_loops_end : seen (after two_loops (replicate 18 (Local 0))) ≡ Some (([], (pos 2 ∷ pos 2 ∷ pos 0 ∷ pos 0 ∷ [], (pos 22 ∷ [], Running))) ∷ [])
row_two_loops_end = refl

-- `while x < 3 { a[x] = x * x; x = x + 1; } print a[x];` fills the array, and then asks for one too many
abbrev filling : Program
filling = script 1
    (repeat (op2 Less (cell x) (n 3)) (then_more (assign (part a (cell x)) (op2 Multiply (cell x) (cell x))) (then_more (assign (whole x) (op2 Add (cell x) (n 1))) no_more)) ∷ print (element a (cell x)) ∷ [])

pub row_filling : seen (after filling (replicate 11 (Local 0))) ≡ Some ((3 ∷ [], (pos 3 ∷ pos 0 ∷ pos 1 ∷ pos 4 ∷ [], ([], Trapped BadIndex))) ∷ [])
row_filling = refl

-- a loop that is never entered, and one that never ends
pub row_skipped : seen (after (script 1 (repeat (n 0) (then_more (print (n 1)) no_more) ∷ print (n 2) ∷ [])) (replicate 2 (Local 0))) ≡ Some (([], (pos 0 ∷ pos 0 ∷ pos 0 ∷ pos 0 ∷ [], (pos 2 ∷ [], Running))) ∷ [])
row_skipped = refl

pub row_endless : after (script 1 (repeat (n 1) no_more ∷ [])) (replicate 50 (Local 0)) ≡ Some (start (script 1 (repeat (n 1) no_more ∷ [])) Rendezvous)
row_endless = refl

-- a trap of one rank stops no other: `if rank { assert 0; } else { print a[3]; }`
abbrev both_trapped : Program
both_trapped = script 2 (branch own_rank (then_more (check (n 0)) no_more) (then_more (print (element a (n 3))) no_more) ∷ [])

pub row_one_trapped : option_map outcome (after both_trapped (Local 0 ∷ Local 0 ∷ [])) ≡ Some None
row_one_trapped = refl

pub row_both_trapped : option_map (λ w. outcome_line (outcome w)) (after both_trapped (Local 0 ∷ Local 0 ∷ Local 1 ∷ Local 1 ∷ [])) ≡ Some (codes "outcome trap 0 bad-index 1 assert\n")
unfolding digits
row_both_trapped = refl

-- a message goes to a cell of an array: `if rank == 0 { send 7 to 1 tag 0; } else { x = 2; recv a[x] from 0 tag 0; x = a[2] * 2; }`
abbrev to_a_cell : Program
to_a_cell = script 2
    (branch (op2 Equal own_rank (n 0)) (then_more (send (n 7) (n 1) (n 0)) no_more)
    (then_more (assign (whole x) (n 2)) (then_more (recv (part a (cell x)) (n 0) (n 0)) (then_more (assign (whole x) (op2 Multiply (element a (n 2)) (n 2))) no_more))) ∷ [])

abbrev to_a_cell_steps : List Step
to_a_cell_steps = Local 0 ∷ Local 0 ∷ Local 1 ∷ Local 1 ∷ Local 1 ∷ Match (call_id 0 0) (call_id 1 0) ∷ Wake 0 ∷ Wake 1 ∷ []

pub row_to_a_cell : seen (after to_a_cell to_a_cell_steps) ≡ Some (([], (pos 0 ∷ pos 0 ∷ pos 0 ∷ pos 0 ∷ [], ([], Running))) ∷ (4 ∷ [], (pos 2 ∷ pos 0 ∷ pos 0 ∷ pos 7 ∷ [], ([], Running))) ∷ [])
row_to_a_cell = refl

pub row_from_a_cell : seen (after to_a_cell (to_a_cell_steps ++ Local 1 ∷ [])) ≡ Some (([], (pos 0 ∷ pos 0 ∷ pos 0 ∷ pos 0 ∷ [], ([], Running))) ∷ ([], (pos 14 ∷ pos 0 ∷ pos 0 ∷ pos 7 ∷ [], ([], Running))) ∷ [])
row_from_a_cell = refl
