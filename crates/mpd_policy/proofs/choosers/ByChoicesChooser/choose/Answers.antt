use Rattle.std.proofs.Common.{rules, ◌≡◌, ◌<◌, ◌∷◌, List, length, get_or, refl, ap, ◌∙◌, arith}
use Rattle.std.proofs.lemmas.Option.{slice_get_read}
use Rattle.mpd_model.specs.declared.step.Step.{Step}
use Rattle.mpd_policy.proofs.choosers.ByChoicesChooser.choose.Goals as goal

pub returns : goal.returns
returns c =
    let a : Step = c.index-step.result.now in
    let long : length c.candidates.inside.items.items ≡ length c.args.candidates = ap length c.candidates.view_is in
    let inside : c.in-Some.choice.now < length c.candidates.inside.items.items = search rules in
    let within : c.in-Some.choice.now < length c.args.candidates = omega arith in
    let held : a ≡ get_or c.args.candidates c.in-Some.choice.now a = c.index-step.ensures ∙ ap (λ (xs : List Step). get_or xs c.in-Some.choice.now a) c.candidates.view_is in
    let split : c.args.self.now.left.now ≡ c.in-Some.choice.now ∷ c.in-Some.rest.now = search rules in
    record { chose = (c.in-Some.choice.now, slice_get_read c.args.candidates (length c.args.candidates) c.in-Some.choice.now a refl within held, split) }
