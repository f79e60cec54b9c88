use Rattle.std.proofs.Common.{◌≡◌, ◌<◌, ◌+◌, ℕ, [], ◌∷◌, ◌++◌, length, ap, ◌∙◌, rules}
use Rattle.mpd_model.specs.declared.limits.TheConstants.{STEPS_MAX}
use Rattle.mpd_model.specs.declared.step.Step.TheVariants.{Local}
use Rattle.mpd_model.specs.steps.World.{start}
use Rattle.mpd_model.specs.runs.Trail.{noted}
use Rattle.mpd_core.specs.Steps.{other_step}
use Rattle.mpd_trail.specs.Kept.{Keeps}
use Rattle.mpd_trail.proofs.KeptLemmas.{is_local, is_other, keeps_local, keeps_apart, keeping}
use Rattle.mpd_trail.proofs.debugger.Debugger.apply.Goals as goal

pub invariant_of-self-in-Local : goal.invariant_of-self-in-Local
invariant_of-self-in-Local c =
    let s = c.self.inside in
    let a = c.args.step in
    let p = c.in-Local.rank in
    let u = c.in_ok-done-in-Local.done in
    let n : ℕ = length s.locals.items + length s.others.items in
    let room : n < STEPS_MAX = search rules in
    let pushed : c.push_reserved.new.self.items ≡ s.locals.items ++ u ∷ [] = search rules in
    let apart : c.keep_next.new.others.items ≡ s.others.items = search rules in
    let there : c.note.new.steps.items ≡ noted s.steps.items n a = search rules in
    let kept : c.note.new.steps.items ≡ noted s.steps.items n (Local p) = there ∙ ap (noted s.steps.items n) (is_local c.of.result a p c.of.ensures c.in-Local.is) in
    rw (pushed, apart, kept, c.in_ok-done-in-Local.ensures.stepped.program)
    (keeps_local s.core.program (start s.core.program s.mode) s.locals.items s.others.items s.steps.items s.core.world c.step_local.new.self.world u p c.self.invariant room c.in_ok-done-in-Local.ensures.stepped.ok
    c.in_ok-done-in-Local.ensures.stepped.back c.in_ok-done-in-Local.ensures.stepped.can c.in_ok-done-in-Local.ensures.stepped.recorded)

pub returns-in_ok-done-in-Local-clause-taken : goal.returns-in_ok-done-in-Local-clause-taken
returns-in_ok-done-in-Local-clause-taken c =
    let s = c.self.inside in
    let a = c.args.step in
    let p = c.in-Local.rank in
    let u = c.in_ok-done-in-Local.done in
    let n : ℕ = length s.locals.items + length s.others.items in
    let room : n < STEPS_MAX = search rules in
    let pushed : c.push_reserved.new.self.items ≡ s.locals.items ++ u ∷ [] = search rules in
    let apart : c.keep_next.new.others.items ≡ s.others.items = search rules in
    let there : c.note.new.steps.items ≡ noted s.steps.items n a = search rules in
    let kept : c.note.new.steps.items ≡ noted s.steps.items n (Local p) = there ∙ ap (noted s.steps.items n) (is_local c.of.result a p c.of.ensures c.in-Local.is) in
    let after : Keeps c.step_local.new.self.program (start c.step_local.new.self.program s.mode) c.push_reserved.new.self.items c.keep_next.new.others.items c.note.new.steps.items c.step_local.new.self.world =
    rw (pushed, apart, kept, c.in_ok-done-in-Local.ensures.stepped.program)
    (keeps_local s.core.program (start s.core.program s.mode) s.locals.items s.others.items s.steps.items s.core.world c.step_local.new.self.world u p c.self.invariant room c.in_ok-done-in-Local.ensures.stepped.ok
    c.in_ok-done-in-Local.ensures.stepped.back c.in_ok-done-in-Local.ensures.stepped.can c.in_ok-done-in-Local.ensures.stepped.recorded) in
    search (rules, keeping, after)

pub invariant_of-self-in-Other : goal.invariant_of-self-in-Other
invariant_of-self-in-Other c =
    let s = c.self.inside in
    let a = c.args.step in
    let o = c.in-Other.other in
    let u = c.in_ok-done-in-Other.done in
    let n : ℕ = length s.locals.items + length s.others.items in
    let room : n < STEPS_MAX = search rules in
    let own : c.keep_next.new.locals.items ≡ s.locals.items = search rules in
    let pushed : c.push_reserved-in-Other.new.self.items ≡ s.others.items ++ u ∷ [] = search rules in
    let there : c.note-in-Other.new.steps.items ≡ noted s.steps.items n a = search rules in
    let kept : c.note-in-Other.new.steps.items ≡ noted s.steps.items n (other_step o) = there ∙ ap (noted s.steps.items n) (is_other c.of.result a o c.of.ensures c.in-Other.is) in
    rw (own, pushed, kept, c.in_ok-done-in-Other.ensures.stepped.program)
    (keeps_apart s.core.program (start s.core.program s.mode) s.locals.items s.others.items s.steps.items s.core.world c.step_other.new.self.world u o c.self.invariant room c.in_ok-done-in-Other.ensures.stepped.ok
    c.in_ok-done-in-Other.ensures.stepped.back c.in_ok-done-in-Other.ensures.stepped.can c.in_ok-done-in-Other.ensures.stepped.recorded)

pub returns-in_ok-done-in-Other-clause-taken : goal.returns-in_ok-done-in-Other-clause-taken
returns-in_ok-done-in-Other-clause-taken c =
    let s = c.self.inside in
    let a = c.args.step in
    let o = c.in-Other.other in
    let u = c.in_ok-done-in-Other.done in
    let n : ℕ = length s.locals.items + length s.others.items in
    let room : n < STEPS_MAX = search rules in
    let own : c.keep_next.new.locals.items ≡ s.locals.items = search rules in
    let pushed : c.push_reserved-in-Other.new.self.items ≡ s.others.items ++ u ∷ [] = search rules in
    let there : c.note-in-Other.new.steps.items ≡ noted s.steps.items n a = search rules in
    let kept : c.note-in-Other.new.steps.items ≡ noted s.steps.items n (other_step o) = there ∙ ap (noted s.steps.items n) (is_other c.of.result a o c.of.ensures c.in-Other.is) in
    let after : Keeps c.step_other.new.self.program (start c.step_other.new.self.program s.mode) c.keep_next.new.locals.items c.push_reserved-in-Other.new.self.items c.note-in-Other.new.steps.items c.step_other.new.self.world =
    rw (own, pushed, kept, c.in_ok-done-in-Other.ensures.stepped.program)
    (keeps_apart s.core.program (start s.core.program s.mode) s.locals.items s.others.items s.steps.items s.core.world c.step_other.new.self.world u o c.self.invariant room c.in_ok-done-in-Other.ensures.stepped.ok
    c.in_ok-done-in-Other.ensures.stepped.back c.in_ok-done-in-Other.ensures.stepped.can c.in_ok-done-in-Other.ensures.stepped.recorded) in
    search (rules, keeping, after)
