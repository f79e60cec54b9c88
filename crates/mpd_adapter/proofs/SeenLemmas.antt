-- What is seen of the world of a session, by the debugger that it has.
use Rattle.std.proofs.Common.{◌≡◌, ℕ, List, Option, None, ap, sym, ◌∙◌, subst}
use Rattle.serde_json.specs.Data.{Data}
use Rattle.mpd_model.specs.steps.World.{World}
use Rattle.mpd_model.specs.runs.Trail.{Trail, IsReached, world_of}
use Rattle.mpd_model.specs.runs.Decisions.{decision}
use Rattle.mpd_trail.specs.DebuggerViews.{DebuggerView, standing_of}
use Rattle.mpd_session.specs.Held.{Held}
use Rattle.mpd_vocabulary.specs.declared.word.Word.{Word}
use Rattle.mpd_dap.specs.declared.body.Json.{Json}
use Rattle.mpd_dap.specs.Bodies.{stopped_data}
use Rattle.mpd_adapter.specs.declared.task.Look.{Look}
use Rattle.mpd_adapter.specs.declared.moves.After.{After}
use Rattle.mpd_adapter.specs.declared.halt.Halt.{Halt}
use Rattle.mpd_adapter.specs.declared.moves.Move.{Move}
use Rattle.mpd_adapter.specs.Seen.{seen}
use Rattle.mpd_adapter.specs.Looks.{IsBodyAt, IsBodyIn, shown}
use Rattle.mpd_adapter.specs.Halts.{reason, description, halt_rank, halt_at, halt_in, stopped_by, stopped_in}
use Rattle.mpd_adapter.specs.Moves.{word_for, word_in}
use Rattle.mpd_adapter.specs.Numbers.{one_more}
use Rattle.mpd_adapter.specs.declared.halt.Halt.TheVariants as halt
use Rattle.mpd_vocabulary.specs.declared.word.Word.TheVariants as word
use Rattle.mpd_dap.specs.declared.name.Reason.{Reason}

pub seen_at : {A : Type 0} (other : A) (tell : Trail → World → A) (s : Held) (d : DebuggerView) → IsReached (standing_of d) → d.trail ≡ s.trail → tell d.trail d.world ≡ seen other (tell s.trail) (world_of s.trail)
seen_at other tell s d r e = ap (λ t. tell t d.world) e ∙ sym (ap (seen other (tell s.trail)) (ap world_of (sym e) ∙ r.world))

pub body_seen : (s : Held) (d : DebuggerView) (path : List ℕ) (l : Look) (body : Option Json) → IsReached (standing_of d) → d.trail ≡ s.trail → IsBodyAt d.trail.program d.world path l (shown body) → IsBodyIn s path l (shown body)
body_seen s d path l body r e is = (d.world, ap world_of (sym e) ∙ r.world, subst (λ (t : Trail). IsBodyAt t.program d.world path l (shown body)) e is)

pub halt_seen : (s : Held) (d : DebuggerView) (a : After) (h : Halt) → IsReached (standing_of d) → d.trail ≡ s.trail → h ≡ halt_at a d.trail (decision d.world) → h ≡ halt_in a s
halt_seen s d a h r e is = is ∙ seen_at halt.Jumped (λ t w. halt_at a t (decision w)) s d r e

pub word_seen : (s : Held) (d : DebuggerView) (m : Move) (x : Word) → IsReached (standing_of d) → d.trail ≡ s.trail → x ≡ word_for s d.world m → x ≡ word_in s m
word_seen s d m x r e is = is ∙ seen_at (word.Next None) (λ t w. word_for s w m) s d r e

-- the event, by the trail of the debugger that the session has
pub stopped_seen : (s : Held) (d : DebuggerView) (a : After) (h : Halt) (why : Reason) (told lent : List ℕ) (thread : ℕ) (body : Data) → d.trail ≡ s.trail → h ≡ halt_in a s → told ≡ description d.trail.depth h → lent ≡ told → why ≡ reason h
    → thread ≡ one_more (halt_rank h) → body ≡ stopped_data why lent thread → body ≡ stopped_in a s
stopped_seen s d a h why told lent thread body e at tells l named numbered is =
    is ∙ ap (λ x. stopped_data x lent thread) named ∙ ap (λ z. stopped_data (reason h) z thread) (l ∙ tells ∙ ap (λ (t : Trail). description t.depth h) e) ∙ ap (λ n. stopped_data (reason h) (description s.trail.depth h) n) numbered
    ∙ ap (stopped_by s) at
