use Rattle.std.proofs.Common.{ℕ, List, ◌++◌, ◌∙◌, refl, ap, map, string_bytes, Option}
use Rattle.mpd_model.specs.declared.breakpoint.Breakpoint.{Breakpoint}
use Rattle.mpd_model.specs.runs.Breakpoints.{break_at}
use Rattle.mpd_core.proofs.RangeLemmas.{given_more}
use Rattle.mpd_session.specs.declared.reply.Answer.TheVariants as answer
use Rattle.mpd_session.specs.declared.effect.Effect.TheVariants.{Told}
use Rattle.mpd_session.specs.Effects.{place_texts}
use Rattle.mpd_session.proofs.LookLemmas.{joined_all}
use Rattle.mpd_session.proofs.breaks.list.Goals as goal

pub loop-number-init : goal.loop-number-init
loop-number-init c = rw c.new-items.ensures.items refl

pub loop-number-preserved : goal.loop-number-preserved
loop-number-preserved c =
    given_more (λ n. place_texts n (break_at c.args.breaks.now n)) c.loop-number.number 64 (map string_bytes c.loop-number.items.items) _ _ c.loop-number-test.true c.loop-number.invariant
    (c.in_ok-push_place.ensures ∙ ap (λ (o : Option Breakpoint). map string_bytes c.loop-number.items.items ++ place_texts c.loop-number.number o) c.breakpoint.ensures)

pub returns : goal.returns
returns c =
    ap (λ (texts : List (List ℕ)). Told (answer.Breaks texts))
    (joined_all (λ n. place_texts n (break_at c.args.breaks.now n)) c.loop-number.number 64 (map string_bytes c.loop-number.items.items) _ c.loop-number-test.false c.loop-number.invariant)
