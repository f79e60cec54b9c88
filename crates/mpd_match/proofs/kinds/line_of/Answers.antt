use Rattle.std.proofs.Common.{rules, ◌≤◌, ◌+◌, Some, ap}
use Rattle.mpd_model.specs.declared.call.CallKind.{CallKind}
use Rattle.mpd_match.specs.Lines.{line_of}
use Rattle.mpd_match.proofs.kinds.line_of.Goals as goal

pub overflow_add-result : goal.overflow_add-result
overflow_add-result c =
    let few : c.in-Send.send.to + 1 ≤ 16 = c.requires (c.in-Send.send.to + 1) (ap (λ (k : CallKind). line_of (Some k)) c.in-Send.is) in
    search rules
