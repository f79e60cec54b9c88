use Rattle.std.proofs.Common.{refl}
use Rattle.mpd_witness.proofs.TextLemmas.{step_there, no_step}
use Rattle.mpd_witness.proofs.witness_text.step_of.Goals as goal

pub returns-in-Some-Step : goal.returns-in-Some-Step
returns-in-Some-Step c = step_there c.args.text.now _ _ _ c.in-Some-Step.is c.in-Some-Step.field-0-is c.trace_word_of.ensures

pub returns-in-Some-Back : goal.returns-in-Some-Back
returns-in-Some-Back c = no_step c.args.text.now _ _ _ c.in-Some-Back.is c.in-Some-Back.field-0-is refl c.trace_word_of.ensures

pub returns-in-Some-Redo : goal.returns-in-Some-Redo
returns-in-Some-Redo c = no_step c.args.text.now _ _ _ c.in-Some-Redo.is c.in-Some-Redo.field-0-is refl c.trace_word_of.ensures

pub returns-in-Some-Goto : goal.returns-in-Some-Goto
returns-in-Some-Goto c = no_step c.args.text.now _ _ _ c.in-Some-Goto.is c.in-Some-Goto.field-0-is refl c.trace_word_of.ensures

pub returns-in-Some-Enabled : goal.returns-in-Some-Enabled
returns-in-Some-Enabled c = no_step c.args.text.now _ _ _ c.in-Some-Enabled.is c.in-Some-Enabled.field-0-is refl c.trace_word_of.ensures

pub returns-in-Some-Show : goal.returns-in-Some-Show
returns-in-Some-Show c = no_step c.args.text.now _ _ _ c.in-Some-Show.is c.in-Some-Show.field-0-is refl c.trace_word_of.ensures
