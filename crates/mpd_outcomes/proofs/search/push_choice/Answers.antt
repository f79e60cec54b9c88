use Rattle.std.proofs.Common.{refl, ap, ◌∙◌, add-one}
use Rattle.mpd_outcomes.specs.declared.sums.Sums.{Sums}
use Rattle.mpd_outcomes.proofs.search.push_choice.Goals as goal

pub returns : goal.returns
returns c =
    let new = c.replace-outer.ensures.after in
    record {
      stack = (_, c.in_ok-push.ensures.items, λ j. record { depth = c.args.depth; candidates = c.args.candidates; index = 0; key = c.args.key; outer = c.replace-outer.ensures.value j });
      counts = ap (λ (s : Sums). s.tally.counts.items) new ∙ c.none.ensures.counts;
      total = ap (λ (s : Sums). s.tally.total) new ∙ c.none.ensures.total;
      deepest = ap (λ (s : Sums). s.deepest) new ∙ add-one c.args.depth;
      ways_are = refl;
      table = refl;
    }
