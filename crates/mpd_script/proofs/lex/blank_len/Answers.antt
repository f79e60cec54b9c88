use Rattle.std.proofs.Common.{◌+◌, ◌∙◌, rules, arith, length-drop, add-zero, refl}
use Rattle.std.proofs.lemmas.List.{take_rest}
use Rattle.mpd_script.proofs.Places.{tokens_feed, tokens_space, tokens_comment}
use Rattle.mpd_script.proofs.lex.blank_len.Goals as goal

pub loop-at-init : goal.loop-at-init
loop-at-init c = (λ place line. rw (add-zero, add-zero) refl, omega arith, omega arith)

pub loop-at-preserved-in-10 : goal.loop-at-preserved-in-10
loop-at-preserved-in-10 c = (
  λ place line. c.loop-at.invariant.0 place line ∙ tokens_feed place line c.args.z.now c.loop-at.at c.loop-at.fed c.loop-at-test.true (search rules),
  omega arith,
  omega arith,
)

pub loop-at-preserved-in-32 : goal.loop-at-preserved-in-32
loop-at-preserved-in-32 c = (
  λ place line. c.loop-at.invariant.0 place line ∙ tokens_space place line c.args.z.now c.loop-at.at c.loop-at.fed c.loop-at-test.true (search rules) (search rules),
  omega arith,
  omega arith,
)

pub loop-at-preserved : goal.loop-at-preserved
loop-at-preserved c =
    let at = c.loop-at.at in
    let len = rw take_rest at c.run_len.ensures.value in (
      λ place line. c.loop-at.invariant.0 place line ∙ tokens_comment place (line + c.loop-at.fed) c.args.z.now at c.run_len.result c.loop-at-test.true (search rules) len,
      omega (arith, length-drop (at + 1) c.args.z.now, c.run_len.ensures.within),
      omega arith,
    )
