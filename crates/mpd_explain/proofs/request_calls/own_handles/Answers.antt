use Rattle.std.proofs.Common.{take, drop, ap, ◌∙◌}
use Rattle.mpd_explain.proofs.TellLemmas.{taken_within, dropped_within}
use Rattle.mpd_explain.proofs.request_calls.own_handles.Goals as goal

pub returns : goal.returns
returns c =
    let behind = c.split_at.result.1.now in
    c.split_at-2.ensures.front ∙ ap (λ n. take n behind) c.min-2.ensures ∙ taken_within c.args.wait.count behind
    ∙ ap (take c.args.wait.count) (c.split_at.ensures.back ∙ ap (λ n. drop n c.args.handles.now) c.min.ensures ∙ dropped_within c.args.wait.first c.args.handles.now)
