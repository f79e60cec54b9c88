use Rattle.std.proofs.Common.{rules, ap, ◌∙◌, ◌≡◌, length, min, take}
use Rattle.std.proofs.lemmas.List.{take_min}
use Rattle.mpd_trace.proofs.excerpts.front_shown.Goals as goal

pub returns : goal.returns
returns c =
    let least : c.min.result ≡ min 72 (length c.args.rest.now) = search rules in
    c.split_at.ensures.front ∙ ap (λ n. take n c.args.rest.now) least ∙ take_min 72 c.args.rest.now
