-- What a message is answered, put together from what is written of its parts.
use Rattle.std.proofs.Common.{◌≡◌, ℕ, suc, nat_eq, drop, arith, ◌&&◌, ◌<◌, ◌≤◌, ◌-◌, ◌+◌, ◌==◌, Bool, true, false, not, map, take, length, if◌then◌else◌, List, [], ◌∷◌, ◌++◌, Result, Ok, Err, OnErr, Option, Some, None, refl, ap, sym, ◌∙◌, subst, inl, inr, append-nil}
use Rattle.std.specs.List.{flat_map, ends_with}
use Rattle.std.specs.Cmp.Lexicographic.{pointwise}
use Rattle.std.proofs.lemmas.Bool.{eq-eqb, eqb-true}
use Rattle.serde_json.specs.Data.{Data}
use Rattle.mpd_frames.specs.Frame.{frame_text}
use Rattle.mpd_model.specs.steps.World.{World}
use Rattle.mpd_model.specs.steps.Next.{enabled}
use Rattle.mpd_model.specs.texts.Texts.{step_text}
use Rattle.mpd_model.specs.runs.Trail.{IsReached, world_of}
use Rattle.mpd_core.proofs.RangeLemmas.{refused_with}
use Rattle.mpd_trail.specs.DebuggerViews.{DebuggerView, standing_of}
use Rattle.mpd_session.specs.Held.{Held}
use Rattle.mpd_session.specs.Respond.{respond, respond_at}
use Rattle.mpd_session.specs.declared.request.Command.TheVariants as command
use Rattle.mpd_session.specs.declared.reply.Reply.{Reply}
use Rattle.mpd_session.specs.declared.reply.Reply.TheVariants as reply
use Rattle.mpd_session.specs.declared.reply.Answer.{Answer as SessionAnswer}
use Rattle.mpd_session.specs.declared.reply.Answer.TheVariants as answer
use Rattle.mpd_session.specs.declared.reply.Refusal.{Refusal as SessionRefusal}
use Rattle.mpd_vocabulary.specs.declared.word.Word.{Word}
use Rattle.mpd_console.specs.Says.{Console, WordSays, ConsoleSays, asking}
use Rattle.mpd_dap.specs.declared.ask.Message.{Message}
use Rattle.mpd_dap.specs.declared.ask.Wanted.{Wanted}
use Rattle.mpd_dap.specs.declared.listed.Mark.{Mark}
use Rattle.mpd_dap.specs.declared.name.Event.TheVariants as event
use Rattle.mpd_dap.specs.declared.name.Refusal.{Refusal}
use Rattle.mpd_dap.specs.declared.name.Refusal.TheVariants as refusal
use Rattle.mpd_dap.specs.declared.body.Json.{Json}
use Rattle.serde_json.specs.View.{view}
use Rattle.mpd_dap.specs.Bodies.{nothing_data, marks_data}
use Rattle.mpd_dap.specs.Messages.{message_in}
use Rattle.mpd_dap.specs.Told.{memory_text}
use Rattle.mpd_adapter.specs.declared.moves.After.{After}
use Rattle.mpd_adapter.specs.declared.moves.After.TheVariants as behind
use Rattle.mpd_adapter.specs.declared.moves.Move.{Move}
use Rattle.mpd_adapter.specs.declared.task.Look.{Look}
use Rattle.mpd_adapter.specs.declared.task.Task.{Task}
use Rattle.mpd_adapter.specs.declared.task.Task.TheVariants.{Refused, Looks, Launches, Begins, Ends, Marks, Moves, Types, Values}
use Rattle.mpd_adapter.specs.Numbers.{one_more}
use Rattle.mpd_adapter.specs.Moves.{after, word_in}
use Rattle.mpd_adapter.specs.Halts.{stopped_in}
use Rattle.mpd_adapter.specs.Marks.{marks_in, marked}
use Rattle.mpd_adapter.specs.Looks.{IsBodyIn, shown}
use Rattle.mpd_adapter.specs.declared.worth.RankWorth.{RankWorth}
use Rattle.mpd_adapter.specs.Worths.{IsWorth}
use Rattle.mpd_adapter.specs.Answers.{Heard, IsSheet, frames_of, number_after}
use Rattle.mpd_adapter.specs.Says.{Adapter, task_in, stands_for, WordsSay, move_body, said_body, looked, Looked, Shows, announced, begun_in, begun_answer, all_started, moved_answer, marked_answer, answer_of, wanted_of, is_own, marked_by, marks_by, path_or, path_then, over_then, memory_frames, next_number, Spoken, valued, Valued, worths_for, expression_of, has_changed, evaluated_body, evaluated_answer, without_feed, ends_in_feed, Wrote, Told, Kept, Unheard, Heeds, SaysBy, Says}

-- ---- sheets, by what their bodies are

pub moved_sheet : (n k : ℕ) (m : Message) (asked : Move) (a : After) (said z : List ℕ) (s : Held) (body told stands : Data) → body ≡ move_body asked → told ≡ said_body said → a ≡ after asked → stands ≡ stopped_in a s
    → IsSheet n (frames_of n m (Ok (body, (event.Output, told) ∷ ((event.Stopped, stands) ∷ [])))) z k → IsSheet n (frames_of n m (moved_answer asked said s)) z k
moved_sheet n k m asked a said z s body told stands b t at is sheet =
    let P : Data → Data → Data → Type 0 = λ x y v. IsSheet n (frames_of n m (Ok (x, (event.Output, y) ∷ ((event.Stopped, v) ∷ [])))) z k in
    subst (λ x. P x (said_body said) (stopped_in (after asked) s)) b
    (subst (λ y. P body y (stopped_in (after asked) s)) t
    (subst (λ v. P body told v) (is ∙ ap (λ x. stopped_in x s) at) sheet))

pub looked_some : (n k : ℕ) (m : Message) (s : Held) (path z : List ℕ) (l : Look) (j : Json) → IsBodyIn s path l (shown (Some j)) → IsSheet n (frames_of n m (Ok (view j.value, []))) z k → Looked n m s path l z k
looked_some n k m s path z l j is sheet = (Some (view j.value), is, sheet)

pub looked_none : (n k : ℕ) (m : Message) (s : Held) (path z : List ℕ) (l : Look) → IsBodyIn s path l (shown None) → IsSheet n (frames_of n m (Err refusal.NotEnded)) z k → Looked n m s path l z k
looked_none n k m s path z l is sheet = (None, is, sheet)

pub ruleset looking = (looked_some, looked_none)

pub valued_some : (n k : ℕ) (m : Message) (list : List RankWorth) (z : List ℕ) (j : Json) → IsWorth list (shown (Some j)) → IsSheet n (frames_of n m (Ok (view j.value, []))) z k → Valued n m list z k
valued_some n k m list z j is sheet = (Some (view j.value), is, sheet)

pub valued_none : (n k : ℕ) (m : Message) (list : List RankWorth) (z : List ℕ) → IsWorth list (shown None) → IsSheet n (frames_of n m (Err refusal.NoValue)) z k → Valued n m list z k
valued_none n k m list z is sheet = (None, is, sheet)

pub ruleset valuing = (valued_some, valued_none)

pub begun_sheet : (n k ranks : ℕ) (m : Message) (s : Held) (z : List ℕ) (body stands : Data) → body ≡ nothing_data → ranks ≡ s.trail.program.ranks → stands ≡ stopped_in behind.Jump s
    → IsSheet n (frames_of n m (Ok (body, all_started ranks ++ (event.Stopped, stands) ∷ []))) z k → IsSheet n (frames_of n m (begun_answer s)) z k
begun_sheet n k ranks m s z body stands b r is sheet =
    let P : Data → ℕ → Data → Type 0 = λ x y v. IsSheet n (frames_of n m (Ok (x, all_started y ++ (event.Stopped, v) ∷ []))) z k in
    subst (λ x. P x s.trail.program.ranks (stopped_in behind.Jump s)) b
    (subst (λ y. P body y (stopped_in behind.Jump s)) r
    (subst (λ v. P body ranks v) is sheet))

-- ---- breakpoints

pub kept_unsaid : (d : Adapter) (t : Task) (m : Message) (e : Console) → e ≡ d.console → Kept d t m e
kept_unsaid d t m e same = inl same

pub marked_sheet : (n k : ℕ) (m : Message) (list : List Mark) (z : List ℕ) (body : Data) → body ≡ marks_data list → IsSheet n (frames_of n m (Ok (body, []))) z k → IsSheet n (frames_of n m (marked_answer list)) z k
marked_sheet n k m list z body is sheet = subst (λ x. IsSheet n (frames_of n m (Ok (x, []))) z k) is sheet

pub wrote_marked : (d : Adapter) (e : Console) (m : Message) (list lent : List Mark) (z : List ℕ) (n k : ℕ) → e ≡ record d.console { session = marked_by d m } → list ≡ marks_by d m → lent ≡ list → n ≡ d.number → IsSheet n (frames_of n m (marked_answer lent)) z k
    → Wrote d Marks m e z k
wrote_marked d e m list lent z n k same is l first sheet = (
  [],
  None,
  (refl, same),
  refl,
  subst (λ x. IsSheet d.number (frames_of d.number m (marked_answer x)) z k) (l ∙ is) (subst (λ f. IsSheet f (frames_of f m (marked_answer lent)) z k) first sheet),
)

pub kept_marked : (d : Adapter) (e : Console) (m : Message) → e ≡ record d.console { session = marked_by d m } → Kept d Marks m e
kept_marked d e m same = inr ([], (refl, same))

pub marks_for : (d : Adapter) (m : Message) (own : Bool) (ws : List Wanted) (list : List Mark) → own ≡ is_own d.path m.ask → ws ≡ wanted_of m.ask → list ≡ marks_in own d.console.session ws → list ≡ marks_by d m
marks_for d m own ws list o w is = is ∙ ap (λ b. marks_in b d.console.session ws) o ∙ ap (marks_in (is_own d.path m.ask) d.console.session) w

pub held_for : (d : Adapter) (m : Message) (own : Bool) (ws : List Wanted) (e : Console) → own ≡ is_own d.path m.ask → ws ≡ wanted_of m.ask → e ≡ record d.console { session = marked own d.console.session ws } → e ≡ record d.console { session = marked_by d m }
held_for d m own ws e o w is =
    is ∙ ap (λ b. record d.console { session = marked b d.console.session ws }) o ∙ ap (λ y. record d.console { session = marked (is_own d.path m.ask) d.console.session y }) w

pub ruleset marking = (wrote_marked, kept_marked, marks_for, held_for, kept_unsaid)

-- ---- words

pub said : (d e : Console) (x : Word) → WordSays d x e → WordsSay d (x ∷ []) e
said d e x told = (e, told, refl)

pub ruleset saying = (said)

-- ---- moves

-- ---- lines

-- the answer to a line, in a text that was empty
pub typed : (d e : Console) (z before after : List ℕ) → before ≡ [] → (text : List ℕ) × (after ≡ before ++ text) × ConsoleSays d z text e → ConsoleSays d z after e
typed d e z before after none (text, h, told) = subst (λ y. ConsoleSays d z y e) (sym (h ∙ ap (λ b. b ++ text) none)) told

pub typed_long : (d e : Console) (z before after : List ℕ) → 4096 < length z → before ≡ [] → (text : List ℕ) × (after ≡ before ++ text) × ((line : List ℕ) → 4096 < length line → ConsoleSays d line text e) → ConsoleSays d z after e
typed_long d e z before after long none (text, h, told) = subst (λ y. ConsoleSays d z y e) (sym (h ∙ ap (λ b. b ++ text) none)) (told z long)

pub ruleset typing = (typed, typed_long)

-- a look of the session
asked_at : (s : Held) (w : World) → world_of s.trail ≡ Some w → respond s (asking command.Enabled) ≡ (reply.Done s.version (answer.Enabled (map step_text (enabled w))), s)
unfolding respond
asked_at s w e = ap (λ o. respond_at s o (asking command.Enabled)) e

reached_at : (s : Held) (d : DebuggerView) → IsReached (standing_of d) → d.trail ≡ s.trail → world_of s.trail ≡ Some d.world
reached_at s d r e = ap world_of (sym e) ∙ r.world

pub version_told : (s : Held) (d : DebuggerView) (v : ℕ) (a : SessionAnswer) → IsReached (standing_of d) → d.trail ≡ s.trail → reply.Done v a ≡ (respond s (asking command.Enabled)).0 → v ≡ s.version
version_told s d v a r e is = let h : reply.Done v a ≡ reply.Done s.version (answer.Enabled (map step_text (enabled d.world))) = is ∙ ap (λ (q : Reply × Held). q.0) (asked_at s d.world (reached_at s d r e)) in cc

pub never_refused : (s : Held) (d : DebuggerView) (why : SessionRefusal) → IsReached (standing_of d) → d.trail ≡ s.trail → reply.Refused why ≡ (respond s (asking command.Enabled)).0 → 0 ≡ s.version
never_refused s d why r e is = let h : reply.Refused why ≡ reply.Done s.version (answer.Enabled (map step_text (enabled d.world))) = is ∙ ap (λ (q : Reply × Held). q.0) (asked_at s d.world (reached_at s d r e)) in cc

pub unchanged_by : (s : Held) (d : DebuggerView) → IsReached (standing_of d) → d.trail ≡ s.trail → (respond s (asking command.Enabled)).1 ≡ s
unchanged_by s d r e = ap (λ (q : Reply × Held). q.1) (asked_at s d.world (reached_at s d r e))

pub ruleset versions = (version_told, never_refused, unchanged_by)

-- ---- a last line feed

feed_by : (z : List ℕ) (b : Bool) → ends_in_feed z ≡ b → without_feed z ≡ (if b then take (length z - 1) z else z)
feed_by z b e = ap (λ c. if c then take (length z - 1) z else z) e

-- whichever of the two stands first
one_test : (a b : ℕ) (t u : Bool) → (a == b) ≡ t → nat_eq b a ≡ u → t ≡ u
one_test a b true true e h = refl
one_test a b false false e h = refl
one_test a b true false e h = sym (eq-eqb b a (sym (eqb-true a b e))) ∙ h
one_test a b false true e h = sym e ∙ eq-eqb a b (sym (eqb-true b a h))

-- the last one alone
alone : (b : ℕ) (t : Bool) → nat_eq 10 b ≡ t → t ≡ pointwise nat_eq (10 ∷ []) (b ∷ [])
alone b true h = sym (ap (λ x. x && true) h)
alone b false h = sym (ap (λ x. x && true) h)

-- it is what the last byte is tested for
feed_last : (z : List ℕ) → ends_in_feed z ≡ ends_with nat_eq z (10 ∷ [])
feed_last [] = refl
feed_last (b ∷ []) = one_test b 10 (b == 10) (nat_eq 10 b) refl refl ∙ alone b (nat_eq 10 b) refl
feed_last (b ∷ (c ∷ z)) =
    let less : suc (suc (length z)) - 1 ≡ suc (length z) = omega arith in
    let k : suc (length z) - 1 ≡ length z = omega arith in
    feed_last (c ∷ z) ∙ ap (λ n. pointwise nat_eq (10 ∷ []) (drop n (c ∷ z))) k ∙ sym (ap (λ n. pointwise nat_eq (10 ∷ []) (drop n (b ∷ (c ∷ z)))) less)

pub fed : (z w : List ℕ) → true ≡ ends_with nat_eq z (10 ∷ []) → w ≡ take (length z - 1) z → w ≡ without_feed z
fed z w e is = is ∙ sym (feed_by z true (feed_last z ∙ sym e))

pub unfed : (z : List ℕ) → false ≡ ends_with nat_eq z (10 ∷ []) → z ≡ without_feed z
unfed z e = sym (feed_by z false (feed_last z ∙ sym e))

pub ruleset feeding = (fed, unfed)

-- ---- an expression

pub evaluated_same : (n k : ℕ) (m : Message) (said z : List ℕ) (s : Held) (b : Bool) (body : Data) → b ≡ false → body ≡ evaluated_body said → IsSheet n (frames_of n m (Ok (body, []))) z k → IsSheet n (frames_of n m (evaluated_answer b said s)) z k
evaluated_same n k m said z s b body is t sheet = subst (λ c. IsSheet n (frames_of n m (evaluated_answer c said s)) z k) (sym is) (subst (λ x. IsSheet n (frames_of n m (Ok (x, []))) z k) t sheet)

pub evaluated_moved : (n k : ℕ) (m : Message) (said z : List ℕ) (s : Held) (b : Bool) (body stands : Data) → b ≡ true → body ≡ evaluated_body said → stands ≡ stopped_in behind.Jump s → IsSheet n (frames_of n m (Ok (body, (event.Stopped, stands) ∷ []))) z k
    → IsSheet n (frames_of n m (evaluated_answer b said s)) z k
evaluated_moved n k m said z s b body stands is t at sheet =
    let P : Data → Data → Type 0 = λ x y. IsSheet n (frames_of n m (Ok (x, (event.Stopped, y) ∷ []))) z k in
    subst (λ c. IsSheet n (frames_of n m (evaluated_answer c said s)) z k) (sym is) (subst (λ x. P x (stopped_in behind.Jump s)) t (subst (λ y. P body y) at sheet))

pub ruleset evaluating = (evaluated_same, evaluated_moved)

pub talked : (d : Adapter) (e : Console) (m : Message) (line text z : List ℕ) (n k v w : ℕ) (b : Bool) (s : Held) → line ≡ expression_of m.ask → ConsoleSays d.console line text e → v ≡ d.console.session.version → w ≡ e.session.version
    → b ≡ not (w == v) → n ≡ d.number → s ≡ e.session → IsSheet n (frames_of n m (evaluated_answer b text s)) z k → Wrote d Types m e z k
talked d e m line text z n k v w b s is says old new differs first at sheet =
    let c : b ≡ has_changed d.console.session e.session = differs ∙ ap (λ x. not (x == v)) new ∙ ap (λ x. not (e.session.version == x)) old in (
      text,
      None,
      subst (λ y. ConsoleSays d.console y text e) is says,
      refl,
      subst (λ t. IsSheet d.number (frames_of d.number m (evaluated_answer (has_changed d.console.session e.session) text t)) z k) at
          (subst (λ x. IsSheet d.number (frames_of d.number m (evaluated_answer x text s)) z k) c (subst (λ f. IsSheet f (frames_of f m (evaluated_answer b text s)) z k) first sheet)),
    )

pub kept_talked : (d : Adapter) (e : Console) (m : Message) (line text : List ℕ) → line ≡ expression_of m.ask → ConsoleSays d.console line text e → Kept d Types m e
kept_talked d e m line text is says = inr (text, subst (λ y. ConsoleSays d.console y text e) is says)

-- whatever is refused after the line was typed, between two looks that change nothing
pub kept_typed : {A E : Type 0} (r : Result A E) (d b c e : Adapter) (m : Message) (line text : List ℕ) → b ≡ d → line ≡ expression_of m.ask → ConsoleSays b.console line text c.console → e ≡ c
    → OnErr r (Kept d Types m e.console)
kept_typed r d b c e m line text before is says after =
    refused_with r
    (subst (λ (x : Adapter). Kept d Types m x.console) (sym after) (kept_talked d c.console m line text is (subst (λ (x : Adapter). ConsoleSays x.console line text c.console) before says)))

pub ruleset talking = (talked, kept_talked, kept_unsaid)

-- ---- what is done of moves

pub went : (d : Adapter) (e : Console) (asked : Move) (m : Message) (x : Word) (text z : List ℕ) (n k : ℕ) (s : Held) → x ≡ word_in d.console.session asked → WordsSay d.console (x ∷ []) e → n ≡ d.number → s ≡ e.session
    → IsSheet n (frames_of n m (moved_answer asked text s)) z k → Wrote d (Moves asked) m e z k
went d e asked m x text z n k s is words first at sheet = (
  text,
  None,
  subst (λ y. WordsSay d.console (y ∷ []) e) is words,
  refl,
  subst (λ t. IsSheet d.number (frames_of d.number m (moved_answer asked text t)) z k) at (subst (λ f. IsSheet f (frames_of f m (moved_answer asked text s)) z k) first sheet),
)

pub kept_before : (d : Adapter) (t : Task) (m : Message) (e : Console) → e ≡ d.console → Kept d t m e
kept_before d t m e same = inl same

pub kept_behind : (d : Adapter) (e : Console) (asked : Move) (m : Message) (x : Word) (text : List ℕ) → x ≡ word_in d.console.session asked → WordsSay d.console (x ∷ []) e → Kept d (Moves asked) m e
kept_behind d e asked m x text is words = inr (text, subst (λ y. WordsSay d.console (y ∷ []) e) is words)

pub ruleset moving = (went, kept_before, kept_behind)

-- ---- what stands for no word

wrote_so : (d : Adapter) (t : Task) (m : Message) (e : Console) (z : List ℕ) (n k : ℕ) → Spoken d t m [] e → Shows d t m None → n ≡ d.number → IsSheet n (frames_of n m (answer_of d t m [] None e)) z k → Wrote d t m e z k
wrote_so d t m e z n k none nothing first sheet = ([], None, none, nothing, subst (λ f. IsSheet f (frames_of f m (answer_of d t m [] None e)) z k) first sheet)

pub wrote_refused : (d : Adapter) (r : Refusal) (m : Message) (e : Console) (z : List ℕ) (n k : ℕ) → e ≡ d.console → n ≡ d.number → IsSheet n (frames_of n m (Err r)) z k → Wrote d (Refused r) m e z k
wrote_refused d r m e z n k same first sheet = wrote_so d (Refused r) m e z n k same refl first sheet

pub wrote_looked : (d : Adapter) (l : Look) (m : Message) (e : Console) (path z : List ℕ) (n k : ℕ) (s : Held) → e ≡ d.console → n ≡ d.number → path ≡ path_or d.path → s ≡ d.console.session → Looked n m s path l z k → Wrote d (Looks l) m e z k
wrote_looked d l m e path z n k s same first given at (body, is, sheet) = (
  [],
  body,
  same,
  subst (λ y. IsBodyIn d.console.session y l body) given (subst (λ t. IsBodyIn t path l body) at is),
  subst (λ f. IsSheet f (frames_of f m (looked body)) z k) first sheet,
)

pub wrote_valued : (d : Adapter) (p : Option ℕ) (m : Message) (e : Console) (z : List ℕ) (n k : ℕ) → e ≡ d.console → n ≡ d.number → Valued n m (worths_for d m.ask p) z k → Wrote d (Values p) m e z k
wrote_valued d p m e z n k same first (body, is, sheet) = ([], body, same, is, subst (λ f. IsSheet f (frames_of f m (valued body)) z k) first sheet)

pub wrote_launched : (d : Adapter) (m : Message) (e : Console) (z : List ℕ) (n k : ℕ) → e ≡ d.console → n ≡ d.number → IsSheet n (frames_of n m (announced event.Initialized)) z k → Wrote d Launches m e z k
wrote_launched d m e z n k same first sheet = wrote_so d Launches m e z n k same refl first sheet

pub wrote_begun : (d : Adapter) (m : Message) (e : Console) (z : List ℕ) (n k : ℕ) (s : Held) → e ≡ d.console → n ≡ d.number → s ≡ d.console.session → IsSheet n (frames_of n m (begun_answer s)) z k → Wrote d Begins m e z k
wrote_begun d m e z n k s same first at sheet = wrote_so d Begins m e z n k same refl first (subst (λ t. IsSheet n (frames_of n m (begun_answer t)) z k) at sheet)

pub wrote_ended : (d : Adapter) (m : Message) (e : Console) (z : List ℕ) (n k : ℕ) → e ≡ d.console → n ≡ d.number → IsSheet n (frames_of n m (announced event.Terminated)) z k → Wrote d Ends m e z k
wrote_ended d m e z n k same first sheet = wrote_so d Ends m e z n k same refl first sheet

pub ruleset writing = (wrote_refused, wrote_looked, wrote_valued, wrote_launched, wrote_begun, wrote_ended, kept_before)

-- ---- what is handed over

-- what is so of the desk as it was before its words, if only its console is another
abbrev pub OnlyConsole : Adapter → Adapter → Type 0
OnlyConsole d c = c ≡ record d { console = c.console }

pub handed : (d c e : Adapter) (t : Task) (m : Message) (z before after : List ℕ) (k : ℕ) → OnlyConsole d c → Wrote d t m c.console z k → after ≡ before ++ z
    → e ≡ record c { number = k; path = path_then c.path t m.ask; is_over = over_then c.is_over t } → (told : List (List ℕ)) × (after ≡ before ++ flat_map frame_text told) × Heeds d t m told e
handed d c e t m z before after k only (text, body, words, shows, sheet) h is =
    let frames : List (List ℕ) = frames_of d.number m (answer_of d t m text body c.console) in
    let con : e.console ≡ c.console = ap (λ (x : Adapter). x.console) is in (
      frames,
      h ∙ ap (λ y. before ++ y) sheet.text_is,
      inl (
        text,
        body,
        subst (λ x. Spoken d t m text x) (sym con) words,
        shows,
        ap (λ x. frames_of d.number m (answer_of d t m text body x)) (sym con),
        ap (λ (x : Adapter). x.number) is ∙ sheet.number_is,
        ap (λ (x : Adapter). x.path) is ∙ ap (λ (x : Adapter). path_then x.path t m.ask) only,
        ap (λ (x : Adapter). x.is_over) is ∙ ap (λ (x : Adapter). over_then x.is_over t) only,
      ),
    )

kept_of : (d : Adapter) (t : Task) (m : Message) (e : Console) (z : List ℕ) (k : ℕ) → Wrote d t m e z k → Kept d t m e
kept_of d t m e z k (text, body, words, shows, sheet) = inr (text, words)

-- memory was refused, whatever the console has done
pub unheard : (d c e : Adapter) (t : Task) (m : Message) (before after : List ℕ) → OnlyConsole d c → Kept d t m c.console → after ≡ before ++ flat_map frame_text (memory_frames c) → e ≡ record c { number = next_number c }
    → (told : List (List ℕ)) × (after ≡ before ++ flat_map frame_text told) × Heeds d t m told e
unheard d c e t m before after only kept h is =
    let con : e.console ≡ c.console = ap (λ (x : Adapter). x.console) is in (
      memory_frames d,
      h ∙ ap (λ (x : Adapter). before ++ flat_map frame_text (memory_frames x)) only,
      inr ((refl, is ∙ ap (λ (x : Adapter). record x { console = c.console; number = next_number x }) only ∙ ap (λ x. record d { console = x; number = next_number d }) (sym con)), subst (λ x. Kept d t m x) (sym con) kept),
    )

pub unheard_behind : (d c e : Adapter) (t : Task) (m : Message) (z before after : List ℕ) (k : ℕ) → OnlyConsole d c → Wrote d t m c.console z k → after ≡ before ++ flat_map frame_text (memory_frames c) → e ≡ record c { number = next_number c }
    → (told : List (List ℕ)) × (after ≡ before ++ flat_map frame_text told) × Heeds d t m told e
unheard_behind d c e t m z before after k only wrote h is = unheard d c e t m before after only (kept_of d t m c.console z k wrote) h is

pub ruleset handing = (handed, unheard_behind)

-- what is so of a task that is known by another name
pub heard_as : (d e : Adapter) (t u : Task) (m : Message) (before after : List ℕ) → t ≡ u → (told : List (List ℕ)) × (after ≡ before ++ flat_map frame_text told) × Heeds d t m told e
    → (told : List (List ℕ)) × (after ≡ before ++ flat_map frame_text told) × Heeds d u m told e
heard_as d e t u m before after is (told, h, heeds) = (told, h, subst (λ x. Heeds d x m told e) is heeds)

pub ruleset heeding = (unheard, handed)

-- ---- bodies

pub passed_over : (d e : Adapter) (body before after : List ℕ) → None ≡ message_in body → after ≡ before → e ≡ d → (told : List (List ℕ)) × (after ≡ before ++ flat_map frame_text told) × Says d body told e
passed_over d e body before after is h same = ([], h ∙ sym (append-nil before), subst (λ x. SaysBy d x [] e) is (inl (refl, same)))

pub heard : (d e : Adapter) (body before after : List ℕ) (m : Message) → Some m ≡ message_in body → (told : List (List ℕ)) × (after ≡ before ++ flat_map frame_text told) × Heeds d (task_in d m) m told e
    → (told : List (List ℕ)) × (after ≡ before ++ flat_map frame_text told) × Says d body told e
heard d e body before after m is (told, h, heeds) = (told, h, subst (λ x. SaysBy d x told e) is heeds)

unread_by : (d e : Adapter) (o : Option Message) → Unheard d (memory_frames d) e → e.console ≡ d.console → SaysBy d o (memory_frames d) e
unread_by d e None u same = inr (u, same)
unread_by d e (Some m) u same = inr (u, inl same)

pub unread : (d e : Adapter) (body before after : List ℕ) → after ≡ before ++ flat_map frame_text (memory_frames d) → e ≡ record d { number = next_number d } → (told : List (List ℕ)) × (after ≡ before ++ flat_map frame_text told) × Says d body told e
unread d e body before after h is =
    let con : e.console ≡ d.console = ap (λ (x : Adapter). x.console) is in
    (memory_frames d, h, unread_by d e (message_in body) (refl, is ∙ ap (λ x. record d { console = x; number = next_number d }) (sym con)) con)

pub ruleset answering = (passed_over, heard, unread)
