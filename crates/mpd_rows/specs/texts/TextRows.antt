-- Worked rows of printed texts and of words, by computing.
use Rattle.std.specs.Prelude.{◌≡◌, ℕ, pos, true, false, map, replicate, length, List, [], ◌∷◌, Option, Some, None, codes, refl}
use Rattle.std.specs.Option.{option_map}
use Rattle.std.specs.Fmt.{digits}
use Rattle.mpd_model.specs.declared.expr.BinaryOp.TheVariants.{Equal}
use Rattle.mpd_model.specs.declared.place.DeclKind.TheVariants.{Variable}
use Rattle.mpd_model.specs.declared.place.Place.{Place}
use Rattle.mpd_model.specs.declared.step.Step.{Step}
use Rattle.mpd_model.specs.declared.step.Step.TheVariants.{Local, Match, Wake, Release}
use Rattle.mpd_model.specs.declared.call.Mode.TheVariants.{Rendezvous}
use Rattle.mpd_model.specs.script.Term.{Term, lit, own_rank, cell, op2, Target}
use Rattle.mpd_model.specs.script.Tree.{branch, no_more, then_more}
use Rattle.mpd_model.specs.script.Program.{Program}
use Rattle.mpd_model.specs.steps.World.{World, call_id, start}
use Rattle.mpd_model.specs.steps.Next.{fold}
use Rattle.mpd_model.specs.steps.Outcomes.{outcome}
use Rattle.mpd_model.specs.declared.words.TraceWord.{TraceWord}
use Rattle.mpd_model.specs.declared.words.TraceWord.TheVariants as trace_word
use Rattle.mpd_model.specs.runs.Trail.{Standing, first_standing, applied}
use Rattle.mpd_model.specs.texts.Texts.{outcome_line, show_text, step_text}
use Rattle.mpd_model.specs.texts.Words.{has_word, step_of, trace_word_of}
use Rattle.mpd_model.specs.texts.Answers.{line_answer}
use Rattle.mpd_rows.specs.worlds.Statements.{print, send, recv}

abbrev x : Place
x = record { declaration = 0; first = 0; cells = 1 }

abbrev into : Place → Target
into p = record { place = p; index = None }

abbrev n : ℕ → Term
n k = lit (pos k)

-- rank 0 sends 7 to rank 1, which prints it; all on line 4
abbrev one_message : Program
one_message = record {
  version = 1;
  ranks = 2;
  decls = record { kind = Variable; name = codes "x"; size = None } ∷ [];
  body = branch (op2 Equal own_rank (n 0)) (then_more (send (n 7) (n 1) (n 0)) no_more) (then_more (recv (into x) (n 0) (n 0)) (then_more (print (cell x)) no_more)) ∷ [];
  lines = 4 ∷ 4 ∷ 4 ∷ 4 ∷ [];
}

abbrev after : List Step → Option World
after steps = fold (start one_message Rendezvous) steps

abbrev all_steps : List Step
all_steps = Local 0 ∷ Local 0 ∷ Local 1 ∷ Local 1 ∷ Match (call_id 0 0) (call_id 1 0) ∷ Wake 0 ∷ Wake 1 ∷ Local 1 ∷ []

pub row_show_end : option_map (λ w. show_text one_message w 8 8) (after all_steps) ≡ Some (codes "depth 8 of 8\nrank 0 ended\nvars 0\nhandles\nout\ncall 0.0 send to 1 tag 0 value 7 with 1.0\nrank 1 ended\nvars 7\nhandles\nout 7\ncall 1.0 recv from 0 tag 0 with 0.0 value 7\nset pair 0.0 1.0\nset woke 0.0\nset woke 1.0\noutcome done\nend\n")
unfolding digits
row_show_end = refl

pub row_show_start : show_text one_message (start one_message Rendezvous) 0 8 ≡ codes "depth 0 of 8\nrank 0 at 4\nvars 0\nhandles\nout\nrank 1 at 4\nvars 0\nhandles\nout\nend\n"
unfolding digits
row_show_start = refl

-- a free send and a free receive
pub row_show_pending : option_map (λ w. show_text one_message w 2 2) (after (Local 0 ∷ Local 0 ∷ [])) ≡ Some (codes "depth 2 of 2\nrank 0 blocked 0\nvars 0\nhandles\nout\ncall 0.0 send to 1 tag 0 value 7 free\nrank 1 at 4\nvars 0\nhandles\nout\npending 0 to 1: 0\nend\n")
unfolding digits
row_show_pending = refl

pub row_show_posted : option_map (λ w. show_text one_message w 4 4) (after (Local 0 ∷ Local 0 ∷ Local 1 ∷ Local 1 ∷ [])) ≡ Some (codes "depth 4 of 4\nrank 0 blocked 0\nvars 0\nhandles\nout\ncall 0.0 send to 1 tag 0 value 7 free\nrank 1 blocked 0\nvars 0\nhandles\nout\ncall 1.0 recv from 0 tag 0 free\npending 0 to 1: 0\nposted 1: 0\nend\n")
unfolding digits
row_show_posted = refl

-- ---- what a free-standing outcome and a call print

abbrev bad_destination : Program
bad_destination = record one_message { body = send (n 1) (n 2) (n 0) ∷ []; lines = 3 ∷ [] }

pub row_trap_outcome : option_map (λ w. outcome_line (outcome w)) (fold (start bad_destination Rendezvous) (Local 0 ∷ Local 1 ∷ [])) ≡ Some (codes "outcome trap 0 bad-rank 1 bad-rank\n")
unfolding digits
row_trap_outcome = refl

-- ---- steps as words

pub row_local : step_of (codes "local 0") ≡ Some (Local 0)
row_local = refl

pub row_match : step_of (codes "  match  0.0\t1.0 ") ≡ Some (Match (call_id 0 0) (call_id 1 0))
row_match = refl

pub row_release : step_of (codes "release") ≡ Some Release
row_release = refl

pub row_nine_digits : step_of (codes "wake 000000001") ≡ Some (Wake 1)
row_nine_digits = refl

pub row_ten_digits : step_of (codes "wake 0000000001") ≡ None
row_ten_digits = refl

pub row_largest : step_of (codes "match 999999999.0 1.010") ≡ Some (Match (call_id 999999999 0) (call_id 1 10))
row_largest = refl

abbrev bad_steps : List (List ℕ)
bad_steps =
    [] ∷ codes "local" ∷ codes "local 1 2" ∷ codes "match 0.0" ∷ codes "match 0 1" ∷ codes "match .0 1.0" ∷ codes "match 0. 1.0" ∷ codes "match 0.0.0 1.0"
    ∷ codes "match 0.0 1.0 2.0" ∷ codes "release 1" ∷ codes "Local 0" ∷ codes "local -1" ∷ codes "local 0\r" ∷ codes "local 0x" ∷ codes "wake" ∷ codes "back" ∷ codes "locals 0" ∷ []

pub row_bad_steps : map {B = Option Step} step_of bad_steps ≡ replicate (length bad_steps) None
row_bad_steps = refl

-- ---- commands, and lines without a word

pub row_commands : trace_word_of (codes "back ") ≡ Some trace_word.Back
row_commands = refl

pub row_show : trace_word_of (codes "\tshow") ≡ Some trace_word.Show
row_show = refl

pub row_list : trace_word_of (codes " enabled\t") ≡ Some trace_word.Enabled
row_list = refl

pub row_redo : trace_word_of (codes "redo\t") ≡ Some trace_word.Redo
row_redo = refl

pub row_goto : trace_word_of (codes " goto  012") ≡ Some (trace_word.Goto 12)
row_goto = refl

pub row_step : trace_word_of (codes "wake 1") ≡ Some (trace_word.Step (Wake 1))
row_step = refl

pub row_bad_commands : map {B = Option TraceWord} trace_word_of (codes "back 1" ∷ codes "show 0" ∷ codes "redo 1" ∷ codes "goto" ∷ codes "goto 1 2" ∷ codes "goto -1" ∷ codes "goto 1234567890" ∷ codes "goto 0.0" ∷ codes "enabled 0" ∷ codes "enable" ∷ codes "---" ∷ []) ≡ replicate 11 None
row_bad_commands = refl

pub row_blank : has_word (codes " \t ") ≡ false
row_blank = refl

pub row_return : has_word (codes "\r") ≡ true
row_return = refl

-- ---- answers: row by row, each line where the one before has led

abbrev begun : Standing
begun = first_standing one_message Rendezvous

pub row_first_answer : line_answer begun (codes "local 0") ≡ (codes "ok 1\n", applied begun.trail (Local 0))
unfolding digits
row_first_answer = refl

pub row_not_enabled : line_answer begun (codes "wake 0") ≡ (codes "refused not-enabled\n", begun.trail)
row_not_enabled = refl

pub row_at_start : line_answer begun (codes "back") ≡ (codes "refused at-start\n", begun.trail)
row_at_start = refl

pub row_bad_word : line_answer begun (codes "run 5") ≡ (codes "refused bad-word\n", begun.trail)
row_bad_word = refl

pub row_skipped : line_answer begun (codes "  ") ≡ ([], begun.trail)
row_skipped = refl

pub row_too_long : line_answer begun (replicate 4097 32) ≡ (codes "refused bad-word\n", begun.trail)
row_too_long = refl

pub row_full : line_answer (record begun { trail = record { program = one_message; mode = Rendezvous; steps = []; depth = 1000000 } }) (codes "local 0")
    ≡ (codes "refused full\n", record { program = one_message; mode = Rendezvous; steps = []; depth = 1000000 })
row_full = refl

-- the text of a step is read as that step
pub row_text_local : step_of (step_text (Local 15)) ≡ Some (Local 15)
unfolding digits
row_text_local = refl

pub row_text_match : step_of (step_text (Match (call_id 0 10) (call_id 1 2))) ≡ Some (Match (call_id 0 10) (call_id 1 2))
unfolding digits
row_text_match = refl

pub row_text_wake : step_text (Wake 3) ≡ codes "wake 3"
unfolding digits
row_text_wake = refl

pub row_text_release : step_of (step_text Release) ≡ Some Release
row_text_release = refl
