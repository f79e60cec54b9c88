-- What a request leaves as it was, and how a history goes on.
use Rattle.std.proofs.Common.{◌≡◌, ℕ, Bool, true, false, cond, List, [], ◌∷◌, ◌++◌, ◌&&◌, Option, Some, None, refl, ap, sym, subst, ◌∙◌, nat_lt, nat_le, ◌+◌, ◌-◌, slice_get, slice_set, is_some, length}
use Rattle.std.specs.Prelude.{⊤}
use Rattle.mpd_model.specs.declared.limits.TheConstants.{STEPS_MAX, RUNS_MAX}
use Rattle.mpd_model.specs.declared.call.Mode.{Mode}
use Rattle.mpd_model.specs.declared.step.Step.{Step}
use Rattle.mpd_model.specs.declared.decision.Decision.{Decision}
use Rattle.mpd_model.specs.declared.decision.Decision.TheVariants.{Forced, Choice, Leaf}
use Rattle.mpd_model.specs.declared.breakpoint.Breakpoint.{Breakpoint}
use Rattle.mpd_model.specs.script.Program.{Program}
use Rattle.mpd_model.specs.steps.World.{RankWorld, World, call_at}
use Rattle.mpd_model.specs.steps.Next.{next}
use Rattle.mpd_model.specs.runs.Decisions.{decision}
use Rattle.mpd_model.specs.runs.Trail.{Trail, applied, world_of}
use Rattle.mpd_model.specs.runs.Breakpoints.{lowest_free, break_at}
use Rattle.mpd_model.specs.runs.Running.{Ran, ran, all_applied}
use Rattle.mpd_policy.specs.Single.{ran_on}
use Rattle.mpd_session.specs.declared.request.Command.{Command}
use Rattle.mpd_session.specs.declared.request.Command.TheVariants as command
use Rattle.mpd_session.specs.declared.request.Look.{Look}
use Rattle.mpd_session.specs.declared.request.Look.TheVariants as look
use Rattle.mpd_session.specs.declared.request.Request.{Request}
use Rattle.mpd_session.specs.declared.reply.Answer.{Answer}
use Rattle.mpd_session.specs.declared.reply.Answer.TheVariants as answer
use Rattle.mpd_session.specs.declared.reply.Reply.{Reply}
use Rattle.mpd_session.specs.declared.reply.Reply.TheVariants as reply
use Rattle.mpd_session.specs.declared.reply.Refusal.{Refusal}
use Rattle.mpd_session.specs.declared.reply.Refusal.TheVariants.{Stale, Full, BadNumber, AtStart, NoRedo, NotBefore, NoSuchBreak}
use Rattle.mpd_session.specs.Copies.{holds_list, lists_in}
use Rattle.mpd_session.specs.declared.effect.Effect.{Effect}
use Rattle.mpd_session.specs.declared.effect.Effect.TheVariants.{Refused, Told, Changed}
use Rattle.mpd_session.specs.declared.history.Entry.{Entry}
use Rattle.mpd_session.specs.Effects.{OnTrail, OnBreaks, is_within, is_there, applied_effect, step_effect, picked_effect, next_effect, ran_effect, going_effect, run_effect, run_on_effect, at_depth, back_effect, redo_effect, goto_effect, added_effect, break_effect, unbreak_effect, vars_of, vars_effect, calls_effect, why_effect, explore_effect}
use Rattle.mpd_session.specs.Looks.{decision_effect, look_effect}
use Rattle.mpd_session.specs.Held.{Held, opened}
use Rattle.mpd_session.specs.Respond.{Carried, carried, respond, respond_at, reply_to, version_then, finished, is_current}
use Rattle.mpd_session.specs.History.{Leads, IsReplay}

-- ---- what changes nothing, and what changes something and has no list

abbrev Fits : {X : Type 0} → X → Effect → X → Type 0
Fits x (Refused r) y = y ≡ x
Fits x (Told a) y = y ≡ x
Fits x (Changed a) y = lists_in a ≡ false

abbrev Fit : {X : Type 0} → X → Effect × X → Type 0
Fit x q = Fits x q.0 q.1

either : {X : Type 0} (x : X) (b : Bool) (p q : Effect × X) → Fit x p → Fit x q → Fit x (cond b p q)
either x true p q hp hq = hp
either x false p q hp hq = hq

applied_fits : (f : ℕ → Answer) (t : Trail) (a : Step) (o : Option World) → ((d : ℕ) → lists_in (f d) ≡ false) → Fit t (applied_effect f t a o)
applied_fits f t a None plain = refl
applied_fits f t a (Some v) plain = either t (nat_lt t.depth STEPS_MAX) (Changed (f (t.depth + 1)), applied t a) (Refused Full, t) (plain (t.depth + 1)) refl

taken_fits : (t : Trail) (w : World) (a : Step) (o : Option World) → Fit t (applied_effect (λ d. answer.Stepped d a) t a o)
taken_fits t w a o = applied_fits (λ d. answer.Stepped d a) t a o (λ d. refl)

picked_fits : (t : Trail) (w : World) (o : Option Step) → Fit t (picked_effect t w o)
picked_fits t w None = refl
picked_fits t w (Some a) = taken_fits t w a (next w a)

next_fits : (t : Trail) (w : World) (choice : Option ℕ) (d : Decision) → Fit t (next_effect t w choice d)
next_fits t w choice (Leaf o) = refl
next_fits t w choice (Forced a) = taken_fits t w a (next w a)
next_fits t w None (Choice steps) = refl
next_fits t w (Some i) (Choice steps) = picked_fits t w (slice_get steps i)

going_fits : (t : Trail) (max : ℕ) (r : Ran) → Fit t (going_effect t max r)
going_fits t max r = either t (is_within 1 STEPS_MAX max) (ran_effect t r) (Refused BadNumber, t) refl refl

depth_fits : (t : Trail) (n m : ℕ) (b : Bool) (r : Refusal) → Fit t (cond b (Refused r, t) (at_depth t m))
depth_fits t n m b r = either t b (Refused r, t) (at_depth t m) refl refl

back_fits : (t : Trail) (n : ℕ) → Fit t (back_effect t n)
back_fits t n =
    either t (is_within 1 STEPS_MAX n) (cond (nat_lt t.depth n) (Refused AtStart, t) (at_depth t (t.depth - n))) (Refused BadNumber, t)
    (depth_fits t n (t.depth - n) (nat_lt t.depth n) AtStart) refl

redo_fits : (t : Trail) (n : ℕ) → Fit t (redo_effect t n)
redo_fits t n =
    either t (is_within 1 STEPS_MAX n) (cond (nat_lt (length t.steps - t.depth) n) (Refused NoRedo, t) (at_depth t (t.depth + n))) (Refused BadNumber, t)
    (depth_fits t n (t.depth + n) (nat_lt (length t.steps - t.depth) n) NoRedo) refl

goto_fits : (t : Trail) (n : ℕ) → Fit t (goto_effect t n)
goto_fits t n = depth_fits t n n (nat_lt t.depth n) NotBefore

added_fits : (places : List (Option Breakpoint)) (b : Breakpoint) (o : Option ℕ) → Fit places (added_effect places b o)
added_fits places b None = refl
added_fits places b (Some n) = refl

break_fits : (places : List (Option Breakpoint)) (w : World) (b : Breakpoint) → Fit places (break_effect places w b)
break_fits places w b = either places (is_there w b) (added_effect places b (lowest_free places)) (Refused BadNumber, places) (added_fits places b (lowest_free places)) refl

unbreak_fits : (places : List (Option Breakpoint)) (n : ℕ) → Fit places (unbreak_effect places n)
unbreak_fits places n = either places (is_some (break_at places n)) (Changed answer.Removed, slice_set places n None) (Refused NoSuchBreak, places) refl refl

-- what only looks

abbrev Looks : Effect → Type 0
Looks (Refused r) = ⊤
Looks (Told a) = ⊤
Looks (Changed a) = ⊥

looks_by : (b : Bool) (e f : Effect) → Looks e → Looks f → Looks (cond b e f)
looks_by true e f h k = h
looks_by false e f h k = k

vars_look : (o : Option RankWorld) → Looks (vars_of o)
vars_look None = tt
vars_look (Some r) = tt

decision_looks : (s : Program) (w : World) (d : Decision) → Looks (decision_effect s w d)
decision_looks s w (Forced a) = tt
decision_looks s w (Choice steps) = tt
decision_looks s w (Leaf o) = tt

looks_only : (t : Trail) (w : World) (l : Look) → Looks (look_effect t w l)
looks_only t w look.Script = tt
looks_only t w look.Where = tt
looks_only t w look.All = tt
looks_only t w look.Decision = decision_looks t.program w (decision w)
looks_only t w (look.Steps from count) = looks_by (is_within 1 STEPS_MAX count && nat_le from (length t.steps)) _ _ tt tt
looks_only t w (look.Lines p) = looks_by (nat_lt p (length w.board.calls)) _ _ tt tt
looks_only t w look.Explain = tt

look_fits : {X : Type 0} (x : X) (e : Effect) → Looks e → Fits x e x
look_fits x (Refused r) h = refl
look_fits x (Told a) h = refl
look_fits x (Changed a) h = absurd h

-- ---- all commands

abbrev Both : Type 0
Both = Trail × List (Option Breakpoint)

on_trail_fits : (t u : Trail) (places : List (Option Breakpoint)) (e : Effect) → Fits t e u → Fits {X = Both} (t, places) e (u, places)
on_trail_fits t u places (Refused r) h = ap (λ (x : Trail). (x, places)) h
on_trail_fits t u places (Told a) h = ap (λ (x : Trail). (x, places)) h
on_trail_fits t u places (Changed a) h = h

on_breaks_fits : (t : Trail) (places set : List (Option Breakpoint)) (e : Effect) → Fits places e set → Fits {X = Both} (t, places) e (t, set)
on_breaks_fits t places set (Refused r) h = ap (λ (x : List (Option Breakpoint)). (t, x)) h
on_breaks_fits t places set (Told a) h = ap (λ (x : List (Option Breakpoint)). (t, x)) h
on_breaks_fits t places set (Changed a) h = h

carried_fits : (t : Trail) (places : List (Option Breakpoint)) (w : World) (c : Command) → Fits {X = Both} (t, places) (carried t places w c).0 (carried t places w c).1
carried_fits t places w (command.Step a) = let q : OnTrail = step_effect t w a in on_trail_fits t q.1 places q.0 (applied_fits answer.Depth t a (next w a) (λ d. refl))
carried_fits t places w (command.Next choice) = let q : OnTrail = next_effect t w choice (decision w) in on_trail_fits t q.1 places q.0 (next_fits t w choice (decision w))
carried_fits t places w (command.Run max) = let q : OnTrail = run_effect t places w max in on_trail_fits t q.1 places q.0 (going_fits t max (ran t.program places max t.depth w))
carried_fits t places w (command.RunOn max) = let q : OnTrail = run_on_effect t places w max in on_trail_fits t q.1 places q.0 (going_fits t max (ran_on t.program places max t.depth w))
carried_fits t places w (command.Back n) = let q : OnTrail = back_effect t n in on_trail_fits t q.1 places q.0 (back_fits t n)
carried_fits t places w (command.Redo n) = let q : OnTrail = redo_effect t n in on_trail_fits t q.1 places q.0 (redo_fits t n)
carried_fits t places w (command.Goto n) = let q : OnTrail = goto_effect t n in on_trail_fits t q.1 places q.0 (goto_fits t n)
carried_fits t places w command.RunBack = refl
carried_fits t places w command.Enabled = refl
carried_fits t places w command.State = refl
carried_fits t places w (command.Vars p) = look_fits {X = Both} (t, places) (vars_effect w p) (vars_look (slice_get w.ranks p))
carried_fits t places w (command.Calls p) = look_fits {X = Both} (t, places) (calls_effect w p) (looks_by (nat_lt p (length w.board.calls)) _ _ tt tt)
carried_fits t places w (command.Why c) = look_fits {X = Both} (t, places) (why_effect w c) (looks_by (is_some (call_at w.board c)) _ _ tt tt)
carried_fits t places w (command.Break b) = let q : OnBreaks = break_effect places w b in on_breaks_fits t places q.1 q.0 (break_fits places w b)
carried_fits t places w (command.Unbreak n) = let q : OnBreaks = unbreak_effect places n in on_breaks_fits t places q.1 q.0 (unbreak_fits places n)
carried_fits t places w command.Breaks = refl
carried_fits t places w command.Hit = refl
carried_fits t places w (command.Explore runs fuel) = look_fits {X = Both} (t, places) (explore_effect t w runs fuel) (looks_by (is_within 1 RUNS_MAX runs && is_within 1 (STEPS_MAX - t.depth) fuel) _ _ tt tt)
carried_fits t places w (command.Look l) = look_fits {X = Both} (t, places) (look_effect t w l) (looks_only t w l)

-- ---- a request

finish_stays : (s : Held) (e : Effect) (y : Trail × List (Option Breakpoint)) → Fits {X = Both} (s.trail, s.breaks) e y → holds_list (reply_to s.version e) ≡ true → record { trail = y.0; breaks = y.1; version = version_then s.version e } ≡ s
finish_stays s (Refused r) y h list = absurd cc
finish_stays s (Told a) y h list = ap (λ (x : Trail × List (Option Breakpoint)). record { trail = x.0; breaks = x.1; version = s.version }) h
finish_stays s (Changed a) y h list = absurd (cc)

stays_by : (b : Bool) (s : Held) (p q : Reply × Held) → (holds_list p.0 ≡ true → p.1 ≡ s) → (holds_list q.0 ≡ true → q.1 ≡ s) → holds_list (cond b p q).0 ≡ true → (cond b p q).1 ≡ s
stays_by true s p q hp hq = hp
stays_by false s p q hp hq = hq

stays_at : (s : Held) (o : Option World) (q : Request) → holds_list (respond_at s o q).0 ≡ true → (respond_at s o q).1 ≡ s
stays_at s None q = λ list. refl
stays_at s (Some w) q =
    let c : Carried = carried s.trail s.breaks w q.command in
    stays_by (is_current s.version q.at) s (finished s.version c) (reply.Refused (Stale s.version), s) (finish_stays s c.0 c.1 (carried_fits s.trail s.breaks w q.command)) (λ list. refl)

-- a reply with a list changes nothing
pub list_stays : (s : Held) (q : Request) → holds_list (respond s q).0 ≡ true → (respond s q).1 ≡ s
unfolding respond
list_stays s q = stays_at s (world_of s.trail) q

-- ---- the script

abbrev Keeps : Trail → Trail → Type 0
Keeps t u = (u.program ≡ t.program) × (u.mode ≡ t.mode)

keeps_by : {E : Type 0} (t : Trail) (b : Bool) (p q : E × Trail) → Keeps t p.1 → Keeps t q.1 → Keeps t (cond b p q).1
keeps_by t true p q hp hq = hp
keeps_by t false p q hp hq = hq

applied_keeps : (f : ℕ → Answer) (t : Trail) (a : Step) (o : Option World) → Keeps t (applied_effect f t a o).1
applied_keeps f t a None = (refl, refl)
applied_keeps f t a (Some v) = keeps_by t (nat_lt t.depth STEPS_MAX) (Changed (f (t.depth + 1)), applied t a) (Refused Full, t) (refl, refl) (refl, refl)

picked_keeps : (t : Trail) (w : World) (o : Option Step) → Keeps t (picked_effect t w o).1
picked_keeps t w None = (refl, refl)
picked_keeps t w (Some a) = applied_keeps (λ d. answer.Stepped d a) t a (next w a)

next_keeps : (t : Trail) (w : World) (choice : Option ℕ) (d : Decision) → Keeps t (next_effect t w choice d).1
next_keeps t w choice (Leaf o) = (refl, refl)
next_keeps t w choice (Forced a) = applied_keeps (λ d. answer.Stepped d a) t a (next w a)
next_keeps t w None (Choice steps) = (refl, refl)
next_keeps t w (Some i) (Choice steps) = picked_keeps t w (slice_get steps i)

all_keep : (t : Trail) (steps : List Step) → Keeps t (all_applied t steps)
all_keep t [] = (refl, refl)
all_keep t (a ∷ steps) = all_keep (applied t a) steps

going_keeps : (t : Trail) (max : ℕ) (r : Ran) → Keeps t (going_effect t max r).1
going_keeps t max r = keeps_by t (is_within 1 STEPS_MAX max) (ran_effect t r) (Refused BadNumber, t) (all_keep t r.steps) (refl, refl)

depth_keeps : (t : Trail) (m : ℕ) (b : Bool) (r : Refusal) → Keeps t (cond b (Refused r, t) (at_depth t m)).1
depth_keeps t m b r = keeps_by t b (Refused r, t) (at_depth t m) (refl, refl) (refl, refl)

carried_keeps : (t : Trail) (places : List (Option Breakpoint)) (w : World) (c : Command) → Keeps t (carried t places w c).1.0
carried_keeps t places w (command.Step a) = applied_keeps answer.Depth t a (next w a)
carried_keeps t places w (command.Next choice) = next_keeps t w choice (decision w)
carried_keeps t places w (command.Run max) = going_keeps t max (ran t.program places max t.depth w)
carried_keeps t places w (command.RunOn max) = going_keeps t max (ran_on t.program places max t.depth w)
carried_keeps t places w (command.Back n) =
    keeps_by t (is_within 1 STEPS_MAX n) (cond (nat_lt t.depth n) (Refused AtStart, t) (at_depth t (t.depth - n))) (Refused BadNumber, t) (depth_keeps t (t.depth - n) (nat_lt t.depth n) AtStart) (refl, refl)
carried_keeps t places w (command.Redo n) =
    keeps_by t (is_within 1 STEPS_MAX n) (cond (nat_lt (length t.steps - t.depth) n) (Refused NoRedo, t) (at_depth t (t.depth + n))) (Refused BadNumber, t)
    (depth_keeps t (t.depth + n) (nat_lt (length t.steps - t.depth) n) NoRedo) (refl, refl)
carried_keeps t places w (command.Goto n) = depth_keeps t n (nat_lt t.depth n) NotBefore
carried_keeps t places w command.RunBack = (refl, refl)
carried_keeps t places w command.Enabled = (refl, refl)
carried_keeps t places w command.State = (refl, refl)
carried_keeps t places w (command.Vars p) = (refl, refl)
carried_keeps t places w (command.Calls p) = (refl, refl)
carried_keeps t places w (command.Why c) = (refl, refl)
carried_keeps t places w (command.Break b) = (refl, refl)
carried_keeps t places w (command.Unbreak n) = (refl, refl)
carried_keeps t places w command.Breaks = (refl, refl)
carried_keeps t places w command.Hit = (refl, refl)
carried_keeps t places w (command.Explore runs fuel) = (refl, refl)
carried_keeps t places w (command.Look l) = (refl, refl)

script_by : (b : Bool) (s : Held) (p q : Reply × Held) → Keeps s.trail p.1.trail → Keeps s.trail q.1.trail → Keeps s.trail (cond b p q).1.trail
script_by true s p q hp hq = hp
script_by false s p q hp hq = hq

script_at : (s : Held) (o : Option World) (q : Request) → Keeps s.trail (respond_at s o q).1.trail
script_at s None q = (refl, refl)
script_at s (Some w) q =
    let c : Carried = carried s.trail s.breaks w q.command in
    script_by (is_current s.version q.at) s (finished s.version c) (reply.Refused (Stale s.version), s) (carried_keeps s.trail s.breaks w q.command) (refl, refl)

-- a session stays on its script
pub script_stays : (s : Held) (q : Request) → Keeps s.trail (respond s q).1.trail
unfolding respond
script_stays s q = script_at s (world_of s.trail) q

-- ---- histories

leads_on : (s t : Held) (history : List Entry) (e : Entry) → Leads s history t → e.reply ≡ (respond t e.request).0 → Leads s (history ++ e ∷ []) (respond t e.request).1
leads_on s t [] e l told = let same : s ≡ t = l in (told ∙ ap (λ (x : Held). (respond x e.request).0) (sym same), ap (λ (x : Held). (respond x e.request).1) same)
leads_on s t (x ∷ history) e l told = (l.0, leads_on (respond s x.request).1 t history e l.1 told)

pub replay_on : (history : List Entry) (t u : Held) (e : Entry) → IsReplay history t → e.reply ≡ (respond t e.request).0 → u ≡ (respond t e.request).1 → IsReplay (history ++ e ∷ []) u
replay_on history t u e h told is =
    let v : Held = (respond t e.request).1 in
    let k : Keeps t.trail v.trail = script_stays t e.request in
    let l : Leads (opened t.trail.program t.trail.mode) (history ++ e ∷ []) v = leads_on (opened t.trail.program t.trail.mode) t history e h told in
    let m : Leads (opened v.trail.program t.trail.mode) (history ++ e ∷ []) v = subst (λ (p : Program). Leads (opened p t.trail.mode) (history ++ e ∷ []) v) (sym k.0) l in
    let n : IsReplay (history ++ e ∷ []) v = subst (λ (x : Mode). Leads (opened v.trail.program x) (history ++ e ∷ []) v) (sym k.1) m in
    subst (IsReplay (history ++ e ∷ [])) (sym is) n

pub opening_replay : (s : Held) → s ≡ opened s.trail.program s.trail.mode → IsReplay [] s
opening_replay s e = sym e

pub ruleset taking = (list_stays, replay_on)
