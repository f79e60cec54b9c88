-- Worked rows of wildcards: receives from any source and of any tag, and the status that tells what they got. What is wanted was worked out by hand.
use Rattle.std.specs.Prelude.{◌≡◌, ℕ, pos, true, false, map, List, [], ◌∷◌, ◌++◌, Option, Some, None, codes, refl}
use Rattle.std.specs.Option.{option_map}
use Rattle.std.specs.Fmt.{digits}
use Rattle.mpd_model.specs.declared.expr.BinaryOp.TheVariants.{Add, Multiply}
use Rattle.mpd_model.specs.declared.place.Place.{Place}
use Rattle.mpd_model.specs.declared.step.Step.{Step}
use Rattle.mpd_model.specs.declared.step.Step.TheVariants.{Local, Match, Wake}
use Rattle.mpd_model.specs.declared.call.CallKind.TheVariants.{Recv}
use Rattle.mpd_model.specs.declared.call.Trap.TheVariants.{BadRank, BadTag, BadIndex, ZeroDivisor}
use Rattle.mpd_model.specs.script.Declaration.{Declared}
use Rattle.mpd_model.specs.script.Term.{Term, own_rank, cell, op2, Target}
use Rattle.mpd_model.specs.script.Tree.{no_more, then_more}
use Rattle.mpd_model.specs.script.Program.{Program}
use Rattle.mpd_model.specs.steps.World.{call_id}
use Rattle.mpd_model.specs.steps.Next.{enabled}
use Rattle.mpd_rows.specs.worlds.Statements.{send, isend, assign, wait, recv_any, irecv_any}
use Rattle.mpd_rows.specs.calls.RequestRows.{n, m, over_zero, whole, part, x, a, h, g, none, Traps, found, wanted, does, issues, blocks, variable, request, script, two_parts, trace, after, Cells, cells}

-- ---- one receive: what is issued, and what traps

-- no source and no tag is evaluated where it is any, and the cells of a status are fixed with that of the value
pub row_any : does (recv_any (whole x) None None None) ≡ blocks (Recv (record { from = None; tag = None; cell = 0; status = None; blocks = true }))
row_any = refl

pub row_any_source : does (recv_any (whole x) None (Some (n 32767)) None) ≡ blocks (Recv (record { from = None; tag = Some 32767; cell = 0; status = None; blocks = true }))
row_any_source = refl

pub row_any_tag : does (recv_any (whole x) (Some (n 1)) None None) ≡ blocks (Recv (record { from = Some 1; tag = None; cell = 0; status = None; blocks = true }))
row_any_tag = refl

-- x is 1 and the array begins at cell 1: the source goes to its second cell, the tag to its third
pub row_status : does (recv_any (whole x) None (Some (n 3)) (Some (part a (cell x), part a (op2 Add (cell x) (n 1)))))
    ≡ blocks (Recv (record { from = None; tag = Some 3; cell = 0; status = Some (record { source = 2; tag = 3 }); blocks = true }))
row_status = refl

pub row_irecv_status : does (irecv_any (part g (n 1)) (part a (n 0)) None None (Some (whole x, part a (n 0))))
    ≡ issues (None ∷ Some 0 ∷ Some 1 ∷ []) (Recv (record { from = None; tag = None; cell = 1; status = Some (record { source = 0; tag = 1 }); blocks = false }))
row_irecv_status = refl

abbrev at_bad : Target
at_bad = part a (n 3)

abbrev at_fault : Target
at_fault = part a over_zero

-- the indexes of a status come last, the source's first
abbrev traps : Traps
traps =
    (recv_any at_bad None None (Some (at_fault, at_fault)), BadIndex) ∷ (recv_any (whole x) (Some (n 2)) None (Some (at_fault, at_fault)), BadRank)
    ∷ (recv_any (whole x) (Some (m 1)) (Some over_zero) None, BadRank) ∷ (recv_any (whole x) None (Some (n 32768)) (Some (at_fault, at_fault)), BadTag)
    ∷ (recv_any (whole x) None (Some over_zero) (Some (at_bad, at_bad)), ZeroDivisor) ∷ (recv_any (whole x) None None (Some (at_bad, at_fault)), BadIndex)
    ∷ (recv_any (whole x) None None (Some (at_fault, at_bad)), ZeroDivisor) ∷ (recv_any (whole x) None None (Some (whole x, at_bad)), BadIndex)
    ∷ (recv_any (whole x) None None (Some (part a (m 1), whole x)), BadIndex) ∷ (irecv_any (part g (n 2)) at_fault None None (Some (at_fault, at_fault)), BadIndex)
    ∷ (irecv_any (whole h) (whole x) (Some (n 1)) None (Some (whole x, at_fault)), ZeroDivisor) ∷ (irecv_any (part none (n 0)) (whole x) None None None, BadIndex) ∷ []

pub row_traps : found traps ≡ wanted traps
row_traps = refl

-- ---- a race: two sends of which a receive takes either, with another end each

abbrev y : Place
y = record { declaration = 1; first = 1; cells = 1 }

abbrev two : List Declared
two = variable (codes "x") ∷ variable (codes "y") ∷ []

-- if rank == 0 { recv x from any tag any; recv y from 1 tag any; } else { send rank * 10 to 0 tag rank; }
abbrev racing : Program
racing = script 3 two
    (two_parts
    (then_more (recv_any (whole x) None None None) (then_more (recv_any (whole y) (Some (n 1)) None None) no_more))
    (then_more (send (op2 Multiply own_rank (n 10)) (n 0) own_rank) no_more))

abbrev all_posted : List ℕ
all_posted = codes "local 0\nlocal 0\nlocal 1\nlocal 1\nlocal 2\nlocal 2\nenabled\n"

abbrev both_enabled : List ℕ
both_enabled = codes "ok 1\nok 2\nok 3\nok 4\nok 5\nok 6\nenabled match 1.0 0.0, match 2.0 0.0\n"

pub row_race_done : trace racing (all_posted ++ codes "match 2.0 0.0\nenabled\nwake 0\nlocal 0\nenabled\nmatch 1.0 0.1\nwake 0\nwake 1\nwake 2\nenabled\nshow\n")
    ≡ both_enabled ++ codes "ok 7\nenabled wake 0, wake 2\nok 8\nok 9\nenabled wake 2, match 1.0 0.1\nok 10\nok 11\nok 12\nok 13\nenabled\n"
    ++ codes "depth 13 of 13\nrank 0 ended\nvars 20 10\nhandles\nout\ncall 0.0 recv from any tag any with 2.0 value 20\ncall 0.1 recv from 1 tag any with 1.0 value 10\nrank 1 ended\nvars 0 0\nhandles\nout\ncall 1.0 send to 0 tag 1 value 10 with 0.1\nrank 2 ended\nvars 0 0\nhandles\nout\ncall 2.0 send to 0 tag 2 value 20 with 0.0\nset pair 2.0 0.0\nset woke 0.0\nset pair 1.0 0.1\nset woke 0.1\nset woke 1.0\nset woke 2.0\noutcome done\nend\n"
unfolding digits
row_race_done = refl

-- one step back the other match is enabled still, and leads to a deadlock
pub row_race_stuck : trace racing (all_posted ++ codes "match 2.0 0.0\nback\nenabled\nmatch 1.0 0.0\nwake 0\nlocal 0\nwake 1\nenabled\nshow\n")
    ≡ both_enabled ++ codes "ok 7\nok 6\nenabled match 1.0 0.0, match 2.0 0.0\nok 7\nok 8\nok 9\nok 10\nenabled\n"
    ++ codes "depth 10 of 10\nrank 0 blocked 1\nvars 10 0\nhandles\nout\ncall 0.0 recv from any tag any with 1.0 value 10\ncall 0.1 recv from 1 tag any free\nrank 1 ended\nvars 0 0\nhandles\nout\ncall 1.0 send to 0 tag 1 value 10 with 0.0\nrank 2 blocked 0\nvars 0 0\nhandles\nout\ncall 2.0 send to 0 tag 2 value 20 free\npending 2 to 0: 0\nposted 0: 1\nset pair 1.0 0.0\nset woke 0.0\nset woke 1.0\noutcome deadlock 0.1 2.0\nend\n"
unfolding digits
row_race_stuck = refl

-- the steps of ranks come before their wakes, and these before the matches
pub row_order : option_map enabled (after racing (Local 0 ∷ Local 0 ∷ Local 2 ∷ Local 2 ∷ Match (call_id 2 0) (call_id 0 0) ∷ [])) ≡ Some (Local 1 ∷ Wake 0 ∷ Wake 2 ∷ [])
row_order = refl

-- a word after `enabled` makes it none
pub row_enabled_alone : trace racing (codes "enabled\nenabled 0\n enabled\t\nEnabled\n") ≡ codes "enabled local 0, local 1, local 2\nrefused bad-word\nenabled local 0, local 1, local 2\nrefused bad-word\n"
unfolding digits
row_enabled_alone = refl

-- ---- what a status writes: the value, then the source, then the tag, also where they share a cell

-- if rank == 0 { x = 4; y = 5; recv .. from any tag any status .. ..; } else { send 6 to 0 tag 8; }
abbrev telling : Target → Target → Target → Program
telling into source tag = script 2 two
    (two_parts
    (then_more (assign (whole x) (n 4)) (then_more (assign (whole y) (n 5)) (then_more (recv_any into None None (Some (source, tag))) no_more)))
    (then_more (send (n 6) (n 0) (n 8)) no_more))

abbrev before_telling : List Step
before_telling = Local 0 ∷ Local 0 ∷ Local 0 ∷ Local 0 ∷ Local 1 ∷ Local 1 ∷ Match (call_id 1 0) (call_id 0 0) ∷ []

-- the two variables of rank 0
abbrev two_cells : ℕ → ℕ → Cells
two_cells first second = Some ((pos first ∷ pos second ∷ [], []) ∷ (pos 0 ∷ pos 0 ∷ [], []) ∷ [])

abbrev shared : List ((Target × Target × Target) × (ℕ × ℕ))
shared =
    ((whole x, whole x, whole x), (8, 5)) ∷ ((whole x, whole x, whole y), (1, 8)) ∷ ((whole x, whole y, whole x), (8, 1)) ∷ ((whole x, whole y, whole y), (6, 8))
    ∷ ((whole y, whole x, whole y), (1, 8)) ∷ ((whole y, whole y, whole x), (8, 1)) ∷ []

pub row_shared : map {B = Cells} (λ r. cells (after (telling r.0.0 r.0.1 r.0.2) (before_telling ++ Wake 0 ∷ []))) shared ≡ map {B = Cells} (λ r. two_cells r.1.0 r.1.1) shared
row_shared = refl

-- nothing is written before the wake
pub row_not_told : cells (after (telling (whole x) (whole x) (whole y)) before_telling) ≡ two_cells 4 5
row_not_told = refl

-- and what was written is taken back whole
pub row_told_back : trace (telling (whole x) (whole x) (whole y)) (codes "local 0\nlocal 0\nlocal 0\nlocal 0\nlocal 1\nlocal 1\nmatch 1.0 0.0\nwake 0\nback\nshow\n")
    ≡ codes "ok 1\nok 2\nok 3\nok 4\nok 5\nok 6\nok 7\nok 8\nok 7\n"
    ++ codes "depth 7 of 8\nrank 0 blocked 0\nvars 4 5\nhandles\nout\ncall 0.0 recv from any tag any with 1.0 value 6\nrank 1 blocked 0\nvars 0 0\nhandles\nout\ncall 1.0 send to 0 tag 8 value 6 with 0.0\nset pair 1.0 0.0\nend\n"
unfolding digits
row_told_back = refl

-- the cells are fixed at the issue: i is 1 there, and gets the value before the status is written
abbrev three_cells : Place
three_cells = record { declaration = 1; first = 1; cells = 3 }

abbrev request_behind : Place
request_behind = record { declaration = 2; first = 0; cells = 1 }

-- `var i; var a[3]; req r;`, and rank 0: i = 1; irecv r i from any tag any status a[i] a[i + 1]; i = 2; wait r;
abbrev fixing : Program
fixing = script 2 (variable (codes "i") ∷ record (variable (codes "a")) { size = Some 3 } ∷ request (codes "r") None ∷ [])
    (two_parts
    (then_more (assign (whole x) (n 1)) (then_more (irecv_any (whole request_behind) (whole x) None None (Some (part three_cells (cell x), part three_cells (op2 Add (cell x) (n 1))))) (then_more (assign (whole x) (n 2)) (then_more (wait (whole request_behind)) no_more))))
    (then_more (send (n 6) (n 0) (n 8)) no_more))

pub row_fixed : cells (after fixing (Local 0 ∷ Local 0 ∷ Local 0 ∷ Local 0 ∷ Local 0 ∷ Local 1 ∷ Local 1 ∷ Match (call_id 1 0) (call_id 0 0) ∷ Wake 0 ∷ []))
    ≡ Some ((pos 6 ∷ pos 0 ∷ pos 1 ∷ pos 8 ∷ [], None ∷ []) ∷ (pos 0 ∷ pos 0 ∷ pos 0 ∷ pos 0 ∷ [], None ∷ []) ∷ [])
row_fixed = refl

-- ---- messages don't overtake, wildcards or not

-- a source and a tag, where they are given
abbrev Wanted : Type 0
Wanted = Option ℕ × Option ℕ

abbrev given : Option ℕ → Option Term
given number = option_map n number

abbrev r_of_two : Place
r_of_two = record { declaration = 2; first = 0; cells = 2 }

abbrev on : ℕ → Target
on k = part r_of_two (n k)

abbrev two_requests : List Declared
two_requests = variable (codes "x") ∷ variable (codes "y") ∷ request (codes "r") (Some 2) ∷ []

-- rank 0 posts two receives, and rank 1 sends a message of some tag
abbrev posting : Wanted → Wanted → ℕ → Program
posting first second tag = script 2 two_requests
    (two_parts
    (then_more (irecv_any (on 0) (whole x) (given first.0) (given first.1) None) (then_more (irecv_any (on 1) (whole y) (given second.0) (given second.1) None) no_more))
    (then_more (send (n 5) (n 0) (n tag)) no_more))

abbrev matches : List Step → Option (List Step)
matches steps = Some steps

abbrev to_first : List Step
to_first = Match (call_id 1 0) (call_id 0 0) ∷ []

abbrev to_second : List Step
to_second = Match (call_id 1 0) (call_id 0 1) ∷ []

-- an earlier receive that would take the message holds the later one back, and one that wouldn't doesn't
abbrev held : List ((Wanted × Wanted × ℕ) × List Step)
held =
    (((None, None), (Some 1, None), 3), to_first) ∷ (((None, Some 2), (Some 1, None), 2), to_first) ∷ (((None, Some 2), (Some 1, None), 3), to_second) ∷ (((Some 0, None), (None, None), 3), to_second)
    ∷ (((Some 1, Some 3), (None, None), 3), to_first) ∷ (((Some 1, Some 3), (None, None), 4), to_second) ∷ (((Some 0, None), (Some 1, Some 4), 3), []) ∷ []

pub row_held : map {B = Option (List Step)} (λ r. option_map enabled (after (posting r.0.0 r.0.1 r.0.2) (Local 0 ∷ Local 0 ∷ Local 0 ∷ Local 1 ∷ Local 1 ∷ []))) held ≡ map {B = Option (List Step)} (λ r. matches r.1) held
row_held = refl

-- what held it back is gone once it is paired: the next message is for the later receive
abbrev posting_twice : Program
posting_twice = script 2 two_requests
    (two_parts
    (then_more (irecv_any (on 0) (whole x) None None None) (then_more (irecv_any (on 1) (whole y) (Some (n 1)) None None) no_more))
    (then_more (isend (on 0) (n 5) (n 0) (n 0)) (then_more (isend (on 1) (n 6) (n 0) (n 1)) no_more)))

abbrev all_issued : List Step
all_issued = Local 0 ∷ Local 0 ∷ Local 0 ∷ Local 1 ∷ Local 1 ∷ Local 1 ∷ []

pub row_then_the_later : map {B = Option (List Step)} (λ steps. option_map enabled (after posting_twice (all_issued ++ steps))) ([] ∷ to_first ∷ (to_first ++ Match (call_id 1 1) (call_id 0 1) ∷ []) ∷ [])
    ≡ Some to_first ∷ Some (Match (call_id 1 1) (call_id 0 1) ∷ []) ∷ Some [] ∷ []
row_then_the_later = refl

-- rank 1 sends two messages, of tags 1 and 2: a receive of any tag takes the earlier
abbrev taking_one : Wanted → Program
taking_one wanted_of = script 2 two_requests
    (two_parts
    (then_more (recv_any (whole x) (given wanted_of.0) (given wanted_of.1) None) no_more)
    (then_more (isend (on 0) (n 5) (n 0) (n 1)) (then_more (isend (on 1) (n 6) (n 0) (n 2)) no_more)))

abbrev taken : List (Wanted × List Step)
taken =
    ((None, None), to_first) ∷ ((Some 1, None), to_first) ∷ ((None, Some 2), Match (call_id 1 1) (call_id 0 0) ∷ []) ∷ ((None, Some 1), to_first) ∷ ((Some 0, None), []) ∷ ((None, Some 3), []) ∷ []

pub row_taken : map {B = Option (List Step)} (λ r. option_map enabled (after (taking_one r.0) (Local 0 ∷ Local 0 ∷ Local 1 ∷ Local 1 ∷ Local 1 ∷ []))) taken ≡ map {B = Option (List Step)} (λ r. matches r.1) taken
row_taken = refl
