-- What a line of trace words is answered, and where the debugger stands after it.
use Rattle.std.specs.Prelude.{◌≡◌, ℕ, ◌+◌, ◌-◌, ◌<◌, Bool, true, false, ◌==◌, nat_lt, IsSome, ⊤, ◌⊎◌, if◌then◌else◌, List, [], ◌++◌, length, Option, Some, None, codes}
use Rattle.std.specs.Fmt.{decimal}
use Rattle.mpd_model.specs.declared.limits.TheConstants.{LINE_MAX, STEPS_MAX}
use Rattle.mpd_model.specs.declared.step.Step.{Step}
use Rattle.mpd_model.specs.declared.words.TraceWord.{TraceWord}
use Rattle.mpd_model.specs.declared.words.TraceWord.TheVariants as trace_word
use Rattle.mpd_model.specs.steps.World.{World}
use Rattle.mpd_model.specs.steps.Next.{next, enabled}
use Rattle.mpd_model.specs.runs.Trail.{Trail, Standing, IsReached, applied, taken_back, redone, gone_back}
use Rattle.mpd_model.specs.texts.Texts.{line, steps_text, show_text}
use Rattle.mpd_model.specs.texts.Words.{has_word, trace_word_of}

-- the longest line, without its line feed and a carriage return before it
abbrev pub max_line : ℕ
max_line = LINE_MAX

-- how many steps may stand
abbrev pub max_depth : ℕ
max_depth = STEPS_MAX

-- ---- texts of answers

abbrev pub ok_text : ℕ → List ℕ
ok_text depth = line (codes "ok " ++ decimal depth)

-- a refusal, by its name
abbrev pub refused_text : List ℕ → List ℕ
refused_text name = line (codes "refused " ++ name)

abbrev pub refused_not_enabled : List ℕ
refused_not_enabled = refused_text (codes "not-enabled")

abbrev pub refused_full : List ℕ
refused_full = refused_text (codes "full")

abbrev pub refused_at_start : List ℕ
refused_at_start = refused_text (codes "at-start")

abbrev pub refused_no_redo : List ℕ
refused_no_redo = refused_text (codes "no-redo")

abbrev pub refused_not_before : List ℕ
refused_not_before = refused_text (codes "not-before")

abbrev pub refused_bad_word : List ℕ
refused_bad_word = refused_text (codes "bad-word")

abbrev pub refused_memory : List ℕ
refused_memory = refused_text (codes "memory")

-- the enabled steps, in their order; the word alone where there is none
abbrev pub enabled_text : World → List ℕ
enabled_text w = line (codes "enabled" ++ steps_text (enabled w))

-- ---- the answer to a line, and the trail after it

abbrev pub step_answer : Trail → Step → Option World → List ℕ × Trail
step_answer t a None = (refused_not_enabled, t)
step_answer t a (Some v) = if nat_lt t.depth max_depth then (ok_text (t.depth + 1), applied t a) else (refused_full, t)

abbrev pub back_answer : Trail → List ℕ × Trail
back_answer t = if t.depth == 0 then (refused_at_start, t) else (ok_text (t.depth - 1), taken_back t)

-- what is undone is taken again, where there is some
abbrev pub redo_answer : Trail → List ℕ × Trail
redo_answer t = if t.depth == length t.steps then (refused_no_redo, t) else (ok_text (t.depth + 1), redone t)

-- steps are taken back until so many are left, where there are so many
abbrev pub goto_answer : Trail → ℕ → List ℕ × Trail
goto_answer t depth = if nat_lt t.depth depth then (refused_not_before, t) else (ok_text depth, gone_back t depth)

abbrev pub trace_word_answer : Standing → Option TraceWord → List ℕ × Trail
trace_word_answer s None = (refused_bad_word, s.trail)
trace_word_answer s (Some (trace_word.Step a)) = step_answer s.trail a (next s.world a)
trace_word_answer s (Some trace_word.Back) = back_answer s.trail
trace_word_answer s (Some trace_word.Redo) = redo_answer s.trail
trace_word_answer s (Some (trace_word.Goto depth)) = goto_answer s.trail depth
trace_word_answer s (Some trace_word.Enabled) = (enabled_text s.world, s.trail)
trace_word_answer s (Some trace_word.Show) = (show_text s.trail.program s.world s.trail.depth (length s.trail.steps), s.trail)

abbrev pub is_too_long : List ℕ → Bool
is_too_long z = nat_lt max_line (length z)

-- A line that is too long is refused, also where it has no word; else a line without a word is skipped.
abbrev pub line_answer : Standing → List ℕ → List ℕ × Trail
line_answer s z =
    if is_too_long z then (refused_bad_word, s.trail)
    else (if has_word z then trace_word_answer s (trace_word_of z) else ([], s.trail))

-- Where the debugger stands at s, the line z is answered by this text, and leaves it at t.
pub record LineAnswer (s : Standing) (z text : List ℕ) (t : Standing) : Type 0 where
  pub told : text ≡ (line_answer s z).0
  pub trail : t.trail ≡ (line_answer s z).1
  pub reached : IsReached t

-- Only a step that is taken, or taken again, a list of steps that has one, and the text of the state may want memory: no step that
-- isn't enabled or is one too many, no step back, and nothing that is no command.
abbrev pub MayWantMemory : Standing → Option TraceWord → Type 0
MayWantMemory s None = ⊥
MayWantMemory s (Some (trace_word.Step a)) = IsSome (next s.world a) × (s.trail.depth < max_depth)
MayWantMemory s (Some trace_word.Back) = ⊥
MayWantMemory s (Some trace_word.Redo) = s.trail.depth < length s.trail.steps
MayWantMemory s (Some (trace_word.Goto depth)) = ⊥
MayWantMemory s (Some trace_word.Enabled) = 0 < length (enabled s.world)
MayWantMemory s (Some trace_word.Show) = ⊤

-- Where memory is refused, the line is answered so, and nothing has changed.
pub record MemoryAnswer (s : Standing) (z text : List ℕ) (t : Standing) : Type 0 where
  pub short : is_too_long z ≡ false
  pub word : has_word z ≡ true
  pub wants : MayWantMemory s (trace_word_of z)
  pub told : text ≡ refused_memory
  pub trail : t.trail ≡ s.trail
  pub world : t.world ≡ s.world

abbrev pub AnswerOrMemory : Standing → List ℕ → List ℕ → Standing → Type 0
AnswerOrMemory s z text t = LineAnswer s z text t ⊎ MemoryAnswer s z text t
