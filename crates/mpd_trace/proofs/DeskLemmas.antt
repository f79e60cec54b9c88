-- What a line gets, by the reply to its command.
use Rattle.std.proofs.Common.{◌≡◌, ℕ, ◌+◌, ◌-◌, ◌<◌, ◌≤◌, Bool, if◌then◌else◌, true, false, List, [], ◌∷◌, ◌++◌, length, codes, Option, Some, None, IsSome, refl, ap, sym, ◌∙◌, arith, inl, inr, append-nil, nat_lt, ◌==◌}
use Rattle.std.proofs.lemmas.Bool.Decides.{nat_tests}
use Rattle.std.proofs.lemmas.Bool.{le-ltb}
use Rattle.mpd_model.specs.declared.step.Step.{Step}
use Rattle.mpd_model.specs.declared.words.TraceWord.TheVariants as trace_word
use Rattle.mpd_model.specs.steps.World.{World}
use Rattle.mpd_model.specs.steps.Next.{next, enabled}
use Rattle.mpd_model.specs.runs.Trail.{Trail, Standing, IsReached, applied, taken_back, redone, gone_back}
use Rattle.mpd_model.specs.texts.Words.{has_word, trace_word_of}
use Rattle.mpd_model.specs.texts.Texts.{line, steps_text, show_text}
use Rattle.mpd_model.specs.texts.Answers.{AnswerOrMemory, is_too_long, max_depth, ok_text, refused_bad_word, refused_memory, refused_full, refused_at_start, refused_no_redo, refused_not_before, refused_not_enabled, step_answer, back_answer, redo_answer, goto_answer}
use Rattle.mpd_trail.specs.Run.{Carried}
use Rattle.mpd_trail.specs.declared.run.TrailCommand.TheVariants.{Apply, Undo, Redo, UndoTo}
use Rattle.mpd_trail.specs.declared.run.Reply.TheVariants.{Done, NotEnabled, Full, AtStart, NoRedo, NotBefore, Memory}
use Rattle.mpd_trace.specs.Replies.{TraceWordAnswer, TraceWordMemory, Replies}

-- ---- steps

by_next : (t : Trail) (a : Step) (o p : Option World) → o ≡ p → step_answer t a o ≡ step_answer t a p
by_next t a o p e = ap (λ x. step_answer t a x) e

below : (n : ℕ) → n < 1000000 → nat_lt n max_depth ≡ true
below n lt = grind (arith, nat_tests)

not_below : (n : ℕ) → n ≡ 1000000 → nat_lt n max_depth ≡ false
not_below n e = grind (arith, nat_tests)

abbrev Said : Type 0
Said = List ℕ × Trail

taken : (t : Trail) (a : Step) (w : World) → t.depth < 1000000 → step_answer t a (Some w) ≡ (let p : Said = (ok_text (t.depth + 1), applied t a) in p)
taken t a w lt = rw (below t.depth lt) refl

full : (t : Trail) (a : Step) (o : Option World) → IsSome o → t.depth ≡ 1000000 → step_answer t a o ≡ (let p : Said = (refused_full, t) in p)
full t a None some e = absurd (let h : false ≡ true = some in cc)
full t a (Some w) some e = rw (not_below t.depth e) refl

pub step_done : (s t : Standing) (a : Step) (before after : List ℕ) (depth : ℕ) → Carried s (Apply a) Done t → IsReached t → depth ≡ t.trail.depth → after ≡ before ++ ok_text depth
    → Replies before after s (Some (trace_word.Step a)) t
step_done s t a before after depth c reached is said =
    let whole = by_next s.trail a (next s.world a) (Some t.world) c.0 ∙ taken s.trail a t.world c.2 in
    let deep : depth ≡ s.trail.depth + 1 = is ∙ ap (λ (x : Trail). x.depth) c.1 in (
      ok_text depth,
      said,
      inl (record { told = ap ok_text deep ∙ ap (λ (x : Said). x.0) (sym whole); trail = c.1 ∙ ap (λ (x : Said). x.1) (sym whole); reached = reached }),
    )

pub step_not_enabled : (s t : Standing) (a : Step) (before after : List ℕ) → Carried s (Apply a) NotEnabled t → IsReached t → after ≡ before ++ refused_not_enabled → Replies before after s (Some (trace_word.Step a)) t
step_not_enabled s t a before after c reached said =
    let whole = by_next s.trail a (next s.world a) None c.0 in (
      refused_not_enabled,
      said,
      inl (record { told = ap (λ (x : Said). x.0) (sym whole); trail = c.1.trail ∙ ap (λ (x : Said). x.1) (sym whole); reached = reached }),
    )

pub step_full : (s t : Standing) (a : Step) (before after : List ℕ) → Carried s (Apply a) Full t → IsReached t → after ≡ before ++ refused_full → Replies before after s (Some (trace_word.Step a)) t
step_full s t a before after c reached said =
    let whole = full s.trail a (next s.world a) c.0 c.1 in (
      refused_full,
      said,
      inl (record { told = ap (λ (x : Said). x.0) (sym whole); trail = c.2.trail ∙ ap (λ (x : Said). x.1) (sym whole); reached = reached }),
    )

pub step_memory : (s t : Standing) (a : Step) (before after : List ℕ) → Carried s (Apply a) Memory t → after ≡ before ++ refused_memory → Replies before after s (Some (trace_word.Step a)) t
step_memory s t a before after c said = (refused_memory, said, inr (record { wants = (c.0, c.1); told = refl; trail = c.2.trail; world = c.2.world }))

-- ---- steps back

some_depth : (n : ℕ) → 0 < n → (n == 0) ≡ false
some_depth n lt = grind (arith, nat_tests)

no_depth : (n : ℕ) → n ≡ 0 → (n == 0) ≡ true
no_depth n e = grind (arith, nat_tests)

back_by : (t : Trail) (b : Bool) → (t.depth == 0) ≡ b → back_answer t ≡ (let p : Said = if b then (refused_at_start, t) else (ok_text (t.depth - 1), taken_back t) in p)
back_by t b e = ap (λ (v : Bool). let p : Said = if v then (refused_at_start, t) else (ok_text (t.depth - 1), taken_back t) in p) e

pub back_done : (s t : Standing) (before after : List ℕ) (depth : ℕ) → Carried s Undo Done t → IsReached t → depth ≡ t.trail.depth → after ≡ before ++ ok_text depth → Replies before after s (Some trace_word.Back) t
back_done s t before after depth c reached is said =
    let whole = back_by s.trail false (some_depth s.trail.depth c.0) in
    let deep : depth ≡ s.trail.depth - 1 = is ∙ ap (λ (x : Trail). x.depth) c.1 in (
      ok_text depth,
      said,
      inl (record { told = ap ok_text deep ∙ ap (λ (x : Said). x.0) (sym whole); trail = c.1 ∙ ap (λ (x : Said). x.1) (sym whole); reached = reached }),
    )

pub back_at_start : (s t : Standing) (before after : List ℕ) → Carried s Undo AtStart t → IsReached t → after ≡ before ++ refused_at_start → Replies before after s (Some trace_word.Back) t
back_at_start s t before after c reached said =
    let whole = back_by s.trail true (no_depth s.trail.depth c.0) in (
      refused_at_start,
      said,
      inl (record { told = ap (λ (x : Said). x.0) (sym whole); trail = c.1.trail ∙ ap (λ (x : Said). x.1) (sym whole); reached = reached }),
    )

-- ---- steps taken again

some_undone : (n m : ℕ) → n < m → (n == m) ≡ false
some_undone n m lt = grind (arith, nat_tests)

none_undone : (n m : ℕ) → n ≡ m → (n == m) ≡ true
none_undone n m e = grind (arith, nat_tests)

redo_by : (t : Trail) (b : Bool) → (t.depth == length t.steps) ≡ b → redo_answer t ≡ (let p : Said = if b then (refused_no_redo, t) else (ok_text (t.depth + 1), redone t) in p)
redo_by t b e = ap (λ (v : Bool). let p : Said = if v then (refused_no_redo, t) else (ok_text (t.depth + 1), redone t) in p) e

pub redo_done : (s t : Standing) (before after : List ℕ) (depth : ℕ) → Carried s Redo Done t → IsReached t → depth ≡ t.trail.depth → after ≡ before ++ ok_text depth → Replies before after s (Some trace_word.Redo) t
redo_done s t before after depth c reached is said =
    let whole = redo_by s.trail false (some_undone s.trail.depth (length s.trail.steps) c.0) in
    let deep : depth ≡ s.trail.depth + 1 = is ∙ ap (λ (x : Trail). x.depth) c.1 in (
      ok_text depth,
      said,
      inl (record { told = ap ok_text deep ∙ ap (λ (x : Said). x.0) (sym whole); trail = c.1 ∙ ap (λ (x : Said). x.1) (sym whole); reached = reached }),
    )

pub redo_none : (s t : Standing) (before after : List ℕ) → Carried s Redo NoRedo t → IsReached t → after ≡ before ++ refused_no_redo → Replies before after s (Some trace_word.Redo) t
redo_none s t before after c reached said =
    let whole = redo_by s.trail true (none_undone s.trail.depth (length s.trail.steps) c.0) in (
      refused_no_redo,
      said,
      inl (record { told = ap (λ (x : Said). x.0) (sym whole); trail = c.1.trail ∙ ap (λ (x : Said). x.1) (sym whole); reached = reached }),
    )

pub redo_memory : (s t : Standing) (before after : List ℕ) → Carried s Redo Memory t → after ≡ before ++ refused_memory → Replies before after s (Some trace_word.Redo) t
redo_memory s t before after c said = (refused_memory, said, inr (record { wants = c.0; told = refl; trail = c.1.trail; world = c.1.world }))

-- ---- a depth to go back to

is_before : (n m : ℕ) → m ≤ n → nat_lt n m ≡ false
is_before n m le = grind (arith, nat_tests)

is_behind : (n m : ℕ) → n < m → nat_lt n m ≡ true
is_behind n m lt = grind (arith, nat_tests)

goto_by : (t : Trail) (depth : ℕ) (b : Bool) → nat_lt t.depth depth ≡ b → goto_answer t depth ≡ (let p : Said = if b then (refused_not_before, t) else (ok_text depth, gone_back t depth) in p)
goto_by t depth b e = ap (λ (v : Bool). let p : Said = if v then (refused_not_before, t) else (ok_text depth, gone_back t depth) in p) e

pub goto_done : (s t : Standing) (depth : ℕ) (before after : List ℕ) → Carried s (UndoTo depth) Done t → IsReached t → after ≡ before ++ ok_text depth → Replies before after s (Some (trace_word.Goto depth)) t
goto_done s t depth before after c reached said =
    let whole = goto_by s.trail depth false (is_before s.trail.depth depth c.0) in (
      ok_text depth,
      said,
      inl (record { told = ap (λ (x : Said). x.0) (sym whole); trail = c.1 ∙ ap (λ (x : Said). x.1) (sym whole); reached = reached }),
    )

pub goto_none : (s t : Standing) (depth : ℕ) (before after : List ℕ) → Carried s (UndoTo depth) NotBefore t → IsReached t → after ≡ before ++ refused_not_before → Replies before after s (Some (trace_word.Goto depth)) t
goto_none s t depth before after c reached said =
    let whole = goto_by s.trail depth true (is_behind s.trail.depth depth c.0) in (
      refused_not_before,
      said,
      inl (record { told = ap (λ (x : Said). x.0) (sym whole); trail = c.1.trail ∙ ap (λ (x : Said). x.1) (sym whole); reached = reached }),
    )

-- ---- texts, and what is no command

pub show_done : (s : Standing) (before after text : List ℕ) → IsReached s → text ≡ show_text s.trail.program s.world s.trail.depth (length s.trail.steps) → after ≡ before ++ text
    → Replies before after s (Some trace_word.Show) s
show_done s before after text reached is said = (text, said, inl (record { told = is; trail = refl; reached = reached }))

pub show_memory : (s : Standing) (before after : List ℕ) → after ≡ before ++ refused_memory → Replies before after s (Some trace_word.Show) s
show_memory s before after said = (refused_memory, said, inr (record { wants = tt; told = refl; trail = refl; world = refl }))

-- the text of the enabled steps, also where there is none
pub enabled_done : (s : Standing) (steps : List Step) (before after text : List ℕ) → IsReached s → steps ≡ enabled s.world → text ≡ line (codes "enabled" ++ steps_text steps) → after ≡ before ++ text
    → Replies before after s (Some trace_word.Enabled) s
enabled_done s steps before after text reached all is said =
    (text, said, inl (record { told = is ∙ ap (λ (xs : List Step). line (codes "enabled" ++ steps_text xs)) all; trail = refl; reached = reached }))

pub enabled_none : (s : Standing) (steps : List Step) (before after : List ℕ) → IsReached s → steps ≡ enabled s.world → length steps ≡ 0 → after ≡ before ++ line (codes "enabled")
    → Replies before after s (Some trace_word.Enabled) s
enabled_none s [] before after reached all none said = enabled_done s [] before after (line (codes "enabled")) reached all refl said
enabled_none s (a ∷ steps) before after reached all none said = absurd (omega (arith, none))

-- memory is wanted only where some step is enabled
pub enabled_memory : (s : Standing) (before after : List ℕ) → 0 < length (enabled s.world) → after ≡ before ++ refused_memory → Replies before after s (Some trace_word.Enabled) s
enabled_memory s before after some said = (refused_memory, said, inr (record { wants = some; told = refl; trail = refl; world = refl }))

pub no_command : (s : Standing) (before after : List ℕ) → IsReached s → after ≡ before ++ refused_bad_word → Replies before after s None s
no_command s before after reached said = (refused_bad_word, said, inl (record { told = refl; trail = refl; reached = reached }))

pub ruleset replying = (step_done, step_not_enabled, step_full, step_memory, back_done, back_at_start, redo_done, redo_none, redo_memory, goto_done, goto_none, show_done, show_memory, enabled_done, enabled_none, enabled_memory, no_command)

-- ---- lines

short : (z : List ℕ) → length z ≤ 4096 → is_too_long z ≡ false
short z h = le-ltb 4096 (length z) h

abbrev Adds : List ℕ → List ℕ → Standing → List ℕ → Standing → Type 0
Adds before after s z t = (text : List ℕ) × (after ≡ before ++ text) × AnswerOrMemory s z text t

-- a line without a word is skipped
pub skipped : (s t : Standing) (z before after : List ℕ) → IsReached s → length z ≤ 4096 → has_word z ≡ false → after ≡ before → t ≡ s → Adds before after s z t
skipped s t z before after h few none said same = (
  [],
  said ∙ sym (append-nil before),
  inl (record {
    told = rw (short z few, none) refl;
    trail = rw (short z few, none) (ap (λ (u : Standing). u.trail) same);
    reached = rw same h;
  }),
)

by_command : (s t : Standing) (z text : List ℕ) → length z ≤ 4096 → has_word z ≡ true → TraceWordAnswer s (trace_word_of z) text t → AnswerOrMemory s z text t
by_command s t z text few some told = inl (record {
  told = rw (short z few, some) told.told;
  trail = rw (short z few, some) told.trail;
  reached = told.reached;
})

by_memory : (s t : Standing) (z text : List ℕ) → length z ≤ 4096 → has_word z ≡ true → TraceWordMemory s (trace_word_of z) text t → AnswerOrMemory s z text t
by_memory s t z text few some told = inr (record { short = short z few; word = some; wants = told.wants; told = told.told; trail = told.trail; world = told.world })

-- a line with a word is answered by its command
pub carried_out : (s t : Standing) (z before after : List ℕ) → length z ≤ 4096 → has_word z ≡ true → Replies before after s (trace_word_of z) t → Adds before after s z t
carried_out s t z before after few some (text, said, inl told) = (text, said, by_command s t z text few some told)
carried_out s t z before after few some (text, said, inr told) = (text, said, by_memory s t z text few some told)

pub ruleset answering = (skipped, carried_out)

-- a line that is too long is refused, whatever it is
pub long_line : (s : Standing) (before after : List ℕ) → IsReached s → after ≡ before ++ refused_bad_word
    → (text : List ℕ) × (after ≡ before ++ text) × ((z : List ℕ) → 4096 < length z → AnswerOrMemory s z text s)
long_line s before after h said = (
  refused_bad_word,
  said,
  λ z many. let long : is_too_long z ≡ true = grind (arith, nat_tests) in inl (record { told = rw long refl; trail = rw long refl; reached = h }),
)

pub ruleset refusing = (long_line)
