-- Steps as a text, a trace word on each line (docs/PICTURES.md, "Which run").
use Rattle.std.specs.Prelude.{ℕ, suc, List, [], ◌∷◌, ◌++◌, Option, Some, None, Result, Ok, Err}
use Rattle.mpd_model.specs.declared.step.Step.{Step}
use Rattle.mpd_model.specs.declared.words.TraceWord.{TraceWord}
use Rattle.mpd_model.specs.declared.words.TraceWord.TheVariants as trace_word
use Rattle.mpd_model.specs.texts.Words.{trace_word_of}

-- a line that is no step is none
abbrev pub step_by : Option TraceWord → Option Step
step_by (Some (trace_word.Step a)) = Some a
step_by c = None

abbrev pub line_step : List ℕ → Option Step
line_step l = step_by (trace_word_of l)

abbrev pub behind : List Step → Result (List Step) ℕ → Result (List Step) ℕ
behind steps (Ok more) = Ok (steps ++ more)
behind steps (Err number) = Err number

abbrev pub with_step : ℕ → Option Step → Result (List Step) ℕ → Result (List Step) ℕ
with_step number None more = Err number
with_step number (Some a) more = behind (a ∷ []) more

-- the steps that lines are, of which the first has this number; or the number of the first line that is none
abbrev pub steps_in : ℕ → List (List ℕ) → Result (List Step) ℕ
steps_in number [] = Ok []
steps_in number (l ∷ ls) = with_step number (line_step l) (steps_in (suc number) ls)
