use Rattle.std.proofs.Common.{sym, ◌∙◌}
use Rattle.mpd_trace.proofs.DividedLaws.{takes_byte, takes_feed, takes_divider}
use Rattle.mpd_trace.proofs.divider.Divider.take.Goals as goal

pub returns-then-byte-ne10-clause-brings : goal.returns-then-byte-ne10-clause-brings
returns-then-byte-ne10-clause-brings c =
    takes_byte c.self.inside.script.items c.self.inside.line.items c.self.inside.is_settled c.args.self.now c.add.new.self c.args.byte c.measured.result
    (sym c.self.view_is) c.self.invariant.0 c.self.invariant.1 c.if-byte-ne10.true c.add.ensures.byte c.measured.ensures

pub returns-then-ends_script-clause-brings : goal.returns-then-ends_script-clause-brings
returns-then-ends_script-clause-brings c = (
  (λ z. takes_divider c.self.inside.script.items c.self.inside.line.items c.self.inside.is_settled c.args.self.now c.args.byte z
      (sym c.self.view_is) c.self.invariant.0 c.if-byte-ne10.false (sym c.ends_script.ensures ∙ c.if-ends_script.true)),
  c.requires,
)

pub returns-clause-brings : goal.returns-clause-brings
returns-clause-brings c =
    takes_feed c.self.inside.script.items c.self.inside.line.items c.self.inside.is_settled c.args.self.now c.end_line.new.self c.args.byte c.measured-2.result
    (sym c.self.view_is) c.self.invariant.0 c.self.invariant.1 c.if-byte-ne10.false (sym c.ends_script.ensures ∙ c.if-ends_script.false) c.end_line.ensures.line c.measured-2.ensures
