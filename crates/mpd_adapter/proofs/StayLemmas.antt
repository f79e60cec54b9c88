-- Breakpoints of other kinds than `line` stay where they are, whatever an editor sets.
use Rattle.std.proofs.Common.{◌≡◌, ◌≢◌, ℕ, Bool, true, false, if◌then◌else◌, List, [], ◌∷◌, is_some, is_none, slice_set, Option, Some, None, refl, ap, sym, ◌∙◌, subst}
use Rattle.std.proofs.lemmas.List.{get_or-set_other}
use Rattle.std.specs.List.{range_with_len}
use Rattle.mpd_model.specs.declared.limits.TheConstants.{BREAKS_MAX}
use Rattle.mpd_model.specs.declared.breakpoint.Breakpoint.{Breakpoint}
use Rattle.mpd_model.specs.steps.World.{World}
use Rattle.mpd_model.specs.runs.Trail.{world_of}
use Rattle.mpd_model.specs.runs.Breakpoints.{break_at, lowest_free}
use Rattle.mpd_match.proofs.Firsts.{first_passes}
use Rattle.mpd_session.specs.Held.{Held}
use Rattle.mpd_session.specs.Effects.{OnBreaks, is_there, added_effect}
use Rattle.mpd_session.specs.Respond.{respond, respond_at}
use Rattle.mpd_session.specs.declared.request.Command.TheVariants as command
use Rattle.mpd_session.specs.declared.effect.Effect.TheVariants.{Refused, Changed}
use Rattle.mpd_session.specs.declared.reply.Answer.TheVariants as answer
use Rattle.mpd_session.specs.declared.reply.Refusal.TheVariants as refused
use Rattle.mpd_console.specs.Says.{Console, asking}
use Rattle.mpd_dap.specs.declared.ask.Message.{Message}
use Rattle.mpd_dap.specs.declared.ask.Wanted.{Wanted}
use Rattle.mpd_adapter.specs.declared.marks.Plan.{Plan}
use Rattle.mpd_adapter.specs.declared.marks.Plan.TheVariants.{Fails, Sets}
use Rattle.mpd_adapter.specs.declared.task.Task.TheVariants.{Marks}
use Rattle.mpd_adapter.specs.Laws.{KeepsOthers, KeepsRest}
use Rattle.mpd_adapter.specs.Marks.{asked, is_of_line, without, without_all, without_lines, stop_at, held_after, held_after_all, plans_of, marked}
use Rattle.mpd_adapter.specs.Says.{Adapter, Spoken, is_own, wanted_of, marked_by}

stays : (s : Held) → KeepsRest s s
stays s = (refl, λ n b h o. h)

stays_on : (s t u : Held) → KeepsRest s t → KeepsRest t u → KeepsRest s u
stays_on s t u (trail, others) (more, rest) = (more ∙ trail, λ n b h o. rest n b (others n b h o) o)

-- ---- one is removed

not_there : (places : List (Option Breakpoint)) (k n : ℕ) (b : Breakpoint) → is_of_line (break_at places k) ≡ true → break_at places n ≡ Some b → is_of_line (Some b) ≡ false → n ≢ k
not_there places k n b line h other same =
    let e : true ≡ false = sym line ∙ ap (λ i. is_of_line (break_at places i)) (sym same) ∙ ap is_of_line h ∙ other in cc

abbrev removal : List (Option Breakpoint) → ℕ → Bool → OnBreaks
removal places k there = if there then (Changed answer.Removed, slice_set places k None) else (Refused refused.NoSuchBreak, places)

removed_by : (places : List (Option Breakpoint)) (k : ℕ) (there : Bool) → is_of_line (break_at places k) ≡ true → KeepsOthers places (removal places k there).1
removed_by places k true line = λ n b h o. get_or-set_other places k n None None (not_there places k n b line h o) ∙ h
removed_by places k false line = λ n b h o. h

unbreak_at : (s : Held) (k : ℕ) (o : Option World) → is_of_line (break_at s.breaks k) ≡ true → KeepsRest s (respond_at s o (asking (command.Unbreak k))).1
unbreak_at s k None line = stays s
unbreak_at s k (Some w) line = (refl, removed_by s.breaks k (is_some (break_at s.breaks k)) line)

unbroken : (s : Held) (k : ℕ) → is_of_line (break_at s.breaks k) ≡ true → KeepsRest s (asked s (command.Unbreak k))
unfolding respond
unbroken s k line = unbreak_at s k (world_of s.trail) line

without_by : (s : Held) (k : ℕ) (b : Bool) → is_of_line (break_at s.breaks k) ≡ b → KeepsRest s (if b then asked s (command.Unbreak k) else s)
without_by s k true line = unbroken s k line
without_by s k false line = stays s

without_stays : (s : Held) (numbers : List ℕ) → KeepsRest s (without_all s numbers)
without_stays s [] = stays s
without_stays s (k ∷ numbers) = stays_on s (without s k) (without_all (without s k) numbers) (without_by s k (is_of_line (break_at s.breaks k)) refl) (without_stays (without s k) numbers)

-- ---- one is set

not_free : (places : List (Option Breakpoint)) (k n : ℕ) (b : Breakpoint) → is_none (break_at places k) ≡ true → break_at places n ≡ Some b → n ≢ k
not_free places k n b free h same = let e : true ≡ false = sym free ∙ ap (λ i. is_none (break_at places i)) (sym same) ∙ ap is_none h in cc

added_at : (places : List (Option Breakpoint)) (c : Breakpoint) (o : Option ℕ) → lowest_free places ≡ o → KeepsOthers places (added_effect places c o).1
added_at places c None e = λ n b h other. h
added_at places c (Some k) e = λ n b h other. get_or-set_other places k n (Some c) None (not_free places k n b (first_passes (λ i. is_none (break_at places i)) _ k e) h) ∙ h

abbrev addition : List (Option Breakpoint) → Breakpoint → Bool → OnBreaks
addition places c there = if there then added_effect places c (lowest_free places) else (Refused refused.BadNumber, places)

added_by : (places : List (Option Breakpoint)) (c : Breakpoint) (there : Bool) → KeepsOthers places (addition places c there).1
added_by places c true = added_at places c (lowest_free places) refl
added_by places c false = λ n b h other. h

break_stays_at : (s : Held) (c : Breakpoint) (o : Option World) → KeepsRest s (respond_at s o (asking (command.Break c))).1
break_stays_at s c None = stays s
break_stays_at s c (Some w) = (refl, added_by s.breaks c (is_there w c))

set_stays : (s : Held) (p : Plan) → KeepsRest s (held_after s p)
unfolding respond
set_stays s (Fails given why) = stays s
set_stays s (Sets given n w) = break_stays_at s (stop_at n w) (world_of s.trail)

all_stay : (s : Held) (plans : List Plan) → KeepsRest s (held_after_all s plans)
all_stay s [] = stays s
all_stay s (p ∷ plans) = stays_on s (held_after s p) (held_after_all (held_after s p) plans) (set_stays s p) (all_stay (held_after s p) plans)

-- ---- all of a message

marked_stays : (own : Bool) (s : Held) (ws : List Wanted) → KeepsRest s (marked own s ws)
marked_stays false s ws = stays s
marked_stays true s ws = stays_on s (without_lines s) (marked true s ws) (without_stays s (range_with_len 0 BREAKS_MAX)) (all_stay (without_lines s) (plans_of s ws))

pub others_stay : (d : Adapter) (m : Message) (said : List ℕ) (e : Console) → Spoken d Marks m said e → KeepsRest d.console.session e.session
others_stay d m said e (none, same) =
    let is : marked_by d m ≡ e.session = sym (ap (λ (x : Console). x.session) same) in
    subst (λ t. KeepsRest d.console.session t) is (marked_stays (is_own d.path m.ask) d.console.session (wanted_of m.ask))
