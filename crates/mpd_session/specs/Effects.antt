-- What each command comes to: a refusal, an answer that changes nothing, or one that changes something, with what is changed.
use Rattle.std.specs.Prelude.{ℕ, ◌+◌, ◌-◌, Bool, true, false, ◌&&◌, nat_le, nat_lt, if◌then◌else◌, List, [], ◌∷◌, ◌++◌, map, length, take, slice_get, slice_set, Option, Some, None, option_map, is_some, codes}
use Rattle.std.specs.Fmt.{decimal}
use Rattle.std.specs.List.{flat_map, range_with_len}
use Rattle.mpd_model.specs.declared.limits.TheConstants.{STEPS_MAX, RUNS_MAX, BREAKS_MAX}
use Rattle.mpd_model.specs.declared.step.CallId.{CallId}
use Rattle.mpd_model.specs.declared.step.Step.{Step}
use Rattle.mpd_model.specs.declared.decision.Decision.{Decision}
use Rattle.mpd_model.specs.declared.decision.Decision.TheVariants.{Forced, Choice, Leaf}
use Rattle.mpd_model.specs.declared.breakpoint.Condition.{Condition}
use Rattle.mpd_model.specs.declared.breakpoint.Breakpoint.{Breakpoint}
use Rattle.mpd_model.specs.declared.breakpoint.Breakpoint.TheVariants as on
use Rattle.mpd_model.specs.declared.breakpoint.Stop.{Stop}
use Rattle.mpd_model.specs.steps.World.{RankWorld, World, call_id, rank_numbers, call_numbers, call_at}
use Rattle.mpd_model.specs.steps.Next.{next, enabled}
use Rattle.mpd_model.specs.steps.Outcomes.{outcome}
use Rattle.mpd_model.specs.steps.Why.{why}
use Rattle.mpd_model.specs.runs.Trail.{Trail, applied, gone_back}
use Rattle.mpd_model.specs.runs.Breakpoints.{break_at, cell_at, lowest_free}
use Rattle.mpd_model.specs.runs.Running.{Ran, ran, stop_of, all_applied, ran_back}
use Rattle.mpd_model.specs.texts.Texts.{id_text, step_text, rank_text, set_text, call_text, outcome_text, meant_text, compared_text}
use Rattle.mpd_policy.specs.Last.{last_hit}
use Rattle.mpd_policy.specs.Single.{ran_on}
use Rattle.mpd_explore.specs.declared.report.SearchLeaf.{SearchLeaf as RunLeaf}
use Rattle.mpd_policy.specs.Walk.{walk}
use Rattle.mpd_explore.specs.Report.{shown}
use Rattle.mpd_explore.specs.ReportText.{leaf_text}
use Rattle.mpd_session.specs.declared.reply.Answer.{Answer}
use Rattle.mpd_session.specs.declared.reply.Answer.TheVariants as answer
use Rattle.mpd_session.specs.declared.reply.Refusal.TheVariants.{NotEnabled, Full, AtStart, NoRedo, NotBefore, NeedsChoice, NoSuchBreak, BreaksFull, BadNumber}
use Rattle.mpd_session.specs.declared.limits.TheConstants.{LINES_MAX}
use Rattle.mpd_session.specs.declared.effect.Effect.{Effect}
use Rattle.mpd_session.specs.declared.effect.Effect.TheVariants.{Refused, Told, Changed}

abbrev pub is_within : ℕ → ℕ → ℕ → Bool
is_within low high n = nat_le low n && nat_le n high

-- ---- commands that lead to another trail

abbrev pub OnTrail : Type 0
OnTrail = Effect × Trail

-- a step, which the relation of steps leads on from here, or doesn't; what is answered is told by the depth after it
abbrev pub applied_effect : (ℕ → Answer) → Trail → Step → Option World → OnTrail
applied_effect f t a None = (Refused NotEnabled, t)
applied_effect f t a (Some v) = if nat_lt t.depth STEPS_MAX then (Changed (f (t.depth + 1)), applied t a) else (Refused Full, t)

abbrev pub step_effect : Trail → World → Step → OnTrail
step_effect t w a = applied_effect answer.Depth t a (next w a)

abbrev pub taken_effect : Trail → World → Step → OnTrail
taken_effect t w a = applied_effect (λ d. answer.Stepped d a) t a (next w a)

abbrev pub picked_effect : Trail → World → Option Step → OnTrail
picked_effect t w None = (Refused BadNumber, t)
picked_effect t w (Some a) = taken_effect t w a

-- A choice is looked at only where there is one to make.
abbrev pub next_effect : Trail → World → Option ℕ → Decision → OnTrail
next_effect t w choice (Leaf o) = (Refused NotEnabled, t)
next_effect t w choice (Forced a) = taken_effect t w a
next_effect t w None (Choice steps) = (Refused (NeedsChoice (length steps)), t)
next_effect t w (Some i) (Choice steps) = picked_effect t w (slice_get steps i)

abbrev pub ran_effect : Trail → Ran → OnTrail
ran_effect t r = (Changed (answer.Ran (t.depth + length r.steps) (stop_of r)), all_applied t r.steps)

-- a run of at most so many steps
abbrev pub going_effect : Trail → ℕ → Ran → OnTrail
going_effect t max r = if is_within 1 STEPS_MAX max then ran_effect t r else (Refused BadNumber, t)

abbrev pub run_effect : Trail → List (Option Breakpoint) → World → ℕ → OnTrail
run_effect t places w max = going_effect t max (ran t.program places max t.depth w)

abbrev pub run_on_effect : Trail → List (Option Breakpoint) → World → ℕ → OnTrail
run_on_effect t places w max = going_effect t max (ran_on t.program places max t.depth w)

abbrev pub run_back_by : Trail → Stop → OnTrail
run_back_by t stop = (Changed (answer.Ran (t.depth - stop.steps) stop), gone_back t (t.depth - stop.steps))

abbrev pub run_back_effect : Trail → List (Option Breakpoint) → OnTrail
run_back_effect t places = run_back_by t (ran_back places t t.depth)

-- so many steps are not undone then
abbrev pub at_depth : Trail → ℕ → OnTrail
at_depth t n = (Changed (answer.Depth n), record t { depth = n })

abbrev pub back_effect : Trail → ℕ → OnTrail
back_effect t n =
    if is_within 1 STEPS_MAX n
    then (if nat_lt t.depth n then (Refused AtStart, t) else at_depth t (t.depth - n))
    else (Refused BadNumber, t)

abbrev pub redo_effect : Trail → ℕ → OnTrail
redo_effect t n =
    if is_within 1 STEPS_MAX n
    then (if nat_lt (length t.steps - t.depth) n then (Refused NoRedo, t) else at_depth t (t.depth + n))
    else (Refused BadNumber, t)

abbrev pub goto_effect : Trail → ℕ → OnTrail
goto_effect t n = if nat_lt t.depth n then (Refused NotBefore, t) else at_depth t n

-- ---- commands that lead to other breakpoints

abbrev pub OnBreaks : Type 0
OnBreaks = Effect × List (Option Breakpoint)

abbrev pub has_handle : Option RankWorld → ℕ → Bool
has_handle None h = false
has_handle (Some r) h = nat_lt h (length r.handles)

-- the rank that is meant, where one is
abbrev pub has_meant : World → Option ℕ → Bool
has_meant w None = true
has_meant w (Some p) = nat_lt p (length w.ranks)

abbrev pub first_meant : Option ℕ → ℕ
first_meant None = 0
first_meant (Some p) = p

-- the cell that a condition names, where there is one: of rank 0 if no rank is meant, since all ranks have the same cells
abbrev pub has_compared : World → Option ℕ → Option Condition → Bool
has_compared w of None = true
has_compared w of (Some c) = is_some (cell_at w (first_meant of) c.cell)

-- The lines of a script are 1 to LINES_MAX.
abbrev pub is_there : World → Breakpoint → Bool
is_there w (on.Line n of when) = is_within 1 LINES_MAX n && (has_meant w of && has_compared w of when)
is_there w (on.Change p c) = is_some (cell_at w p c)
is_there w (on.Handle p h) = has_handle (slice_get w.ranks p) h
is_there w (on.Match n of) = is_within 1 LINES_MAX n && has_meant w of
is_there w (on.Rank p) = nat_lt p (length w.ranks)

abbrev pub added_effect : List (Option Breakpoint) → Breakpoint → Option ℕ → OnBreaks
added_effect places b None = (Refused BreaksFull, places)
added_effect places b (Some n) = (Changed (answer.Added n), slice_set places n (Some b))

abbrev pub break_effect : List (Option Breakpoint) → World → Breakpoint → OnBreaks
break_effect places w b = if is_there w b then added_effect places b (lowest_free places) else (Refused BadNumber, places)

abbrev pub unbreak_effect : List (Option Breakpoint) → ℕ → OnBreaks
unbreak_effect places n = if is_some (break_at places n) then (Changed answer.Removed, slice_set places n None) else (Refused NoSuchBreak, places)

-- ---- commands that change nothing

abbrev pub enabled_effect : World → Effect
enabled_effect w = Told (answer.Enabled (map step_text (enabled w)))

abbrev pub state_effect : Trail → World → Effect
state_effect t w =
    Told (answer.State t.depth (map (rank_text t.program w) (rank_numbers w.board)) (map set_text w.board.sets) (length t.steps - t.depth) (option_map outcome_text (outcome w)))

abbrev pub vars_of : Option RankWorld → Effect
vars_of None = Refused BadNumber
vars_of (Some r) = Told (answer.Vars r.vars r.handles r.out)

abbrev pub vars_effect : World → ℕ → Effect
vars_effect w p = vars_of (slice_get w.ranks p)

abbrev pub calls_effect : World → ℕ → Effect
calls_effect w p = if nat_lt p (length w.board.calls) then Told (answer.Calls (map (λ i. call_text w.board (call_id p i)) (call_numbers w.board p))) else Refused BadNumber

-- a partner, and the call that holds the match of the two back, if one does
abbrev pub held_text : Option CallId → List ℕ
held_text None = codes " eligible"
held_text (Some d) = codes " held by " ++ id_text d

abbrev pub partner_text : CallId × Option CallId → List ℕ
partner_text q = id_text q.0 ++ held_text q.1

abbrev pub why_effect : World → CallId → Effect
why_effect w c = if is_some (call_at w.board c) then Told (answer.Partners (map partner_text (why w.board c))) else Refused BadNumber

-- what must hold, with its cell by number
abbrev pub when_text : Option Condition → List ℕ
when_text None = []
when_text (Some c) = codes " if " ++ decimal c.cell ++ compared_text c.comparison c.value

abbrev pub line_text : ℕ → Option ℕ → Option Condition → List ℕ
line_text n of when = codes " line " ++ decimal n ++ meant_text of ++ when_text when

abbrev pub match_text : ℕ → Option ℕ → List ℕ
match_text n of = codes " match " ++ decimal n ++ meant_text of

abbrev pub break_text : Breakpoint → List ℕ
break_text (on.Line n of when) = line_text n of when
break_text (on.Change p c) = codes " change " ++ decimal p ++ 32 ∷ decimal c
break_text (on.Handle p h) = codes " handle " ++ decimal p ++ 32 ∷ decimal h
break_text (on.Match n of) = match_text n of
break_text (on.Rank p) = codes " rank " ++ decimal p

abbrev pub place_texts : ℕ → Option Breakpoint → List (List ℕ)
place_texts n None = []
place_texts n (Some b) = (decimal n ++ break_text b) ∷ []

abbrev pub breaks_effect : List (Option Breakpoint) → Effect
breaks_effect places = Told (answer.Breaks (flat_map (λ n. place_texts n (break_at places n)) (range_with_len 0 BREAKS_MAX)))

-- the lowest breakpoint that the last step hits
abbrev pub hit_effect : List (Option Breakpoint) → Trail → Effect
hit_effect places t = Told (answer.Hit (last_hit places t))

abbrev pub leaves_effect : ℕ → List RunLeaf → Effect
leaves_effect runs leaves = Told (answer.Explored (map leaf_text (take runs leaves)) (nat_lt runs (length leaves)))

abbrev pub explore_effect : Trail → World → ℕ → ℕ → Effect
explore_effect t w runs fuel =
    if is_within 1 RUNS_MAX runs && is_within 1 (STEPS_MAX - t.depth) fuel then leaves_effect runs (map shown (walk fuel w)) else Refused BadNumber
