use Rattle.std.proofs.Common.{take, drop, ap, ◌∙◌}
use Rattle.std.proofs.lemmas.List.{take_min, drop_min}
use Rattle.mpd_names.proofs.holding.own.Goals as goal

pub returns-clause-value : goal.returns-clause-value
returns-clause-value g c =
    let behind = c.split_at.result.1.now in
    c.split_at-2.ensures.front ∙ ap (λ n. take n behind) c.min-2.ensures ∙ take_min c.args.named.cells behind
    ∙ ap (take c.args.named.cells) (c.split_at.ensures.back ∙ ap (λ n. drop n c.args.all.now) c.min.ensures ∙ drop_min c.args.named.first c.args.all.now)
