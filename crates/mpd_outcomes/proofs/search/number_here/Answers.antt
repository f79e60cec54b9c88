use Rattle.std.proofs.Common.{◌≡◌, true, List, [], ◌∷◌, ◌++◌, length, slice_get, sym, ap, ◌∙◌}
use Rattle.mpd_explore.specs.declared.report.SearchLeaf.{SearchLeaf}
use Rattle.mpd_explore.specs.Ends.{has_end}
use Rattle.mpd_outcomes.specs.Front.{picked, open_in}
use Rattle.mpd_explore.proofs.FirstLemmas.{ending_each}
use Rattle.mpd_outcomes.proofs.TellLemmas.{any_at, last_at}
use Rattle.mpd_outcomes.proofs.MoveLemmas.{known_ways}
use Rattle.mpd_outcomes.proofs.search.number_here.Goals as goal

pub returns-in-Some-clause-ways : goal.returns-in-Some-clause-ways
returns-in-Some-clause-ways c =
    let w = c.in-Some.ensures.found in
    let known : has_end c.args.front.now.ways.items c.args.ending ≡ true =
    ap (λ (ls : List SearchLeaf). has_end ls c.args.ending) (sym c.deref.ensures.value) ∙ any_at c.deref.result.now c.args.ending c.in-Some.number w.0 w.1 w.2
    in
    known_ways c.args.front.now.ways.items (picked (open_in c.args.front.now)) c.args.ending known

pub returns-clause-way : goal.returns-clause-way
returns-clause-way c = (
  record { choices = c.in-Ok.choices; ending = c.args.ending },
  ap (λ (ls : List SearchLeaf). slice_get ls c.len-number.result) c.in_ok-push.ensures.items
      ∙ ap (slice_get (c.args.front.now.ways.items ++ record { choices = c.in-Ok.choices; ending = c.args.ending } ∷ [])) (c.len-number.ensures ∙ sym c.deref.ensures.len ∙ ap (λ (ls : List SearchLeaf). length ls) c.deref.ensures.value)
      ∙ last_at c.args.front.now.ways.items (record { choices = c.in-Ok.choices; ending = c.args.ending }),
  ending_each c.args.ending,
)
