use Rattle.std.proofs.Common.{rules, map, string_bytes}
use Rattle.mpd_wire.proofs.FeedLemmas.{line_more, lines_end}
use Rattle.mpd_wire.proofs.words.feed_lines.Goals as goal

pub loop-line-preserved : goal.loop-line-preserved
loop-line-preserved c = record {
  gathered = line_more c.loop-line.rest.now c.in-Some.line c.in-Some.behind (map string_bytes c.loop-line.items.items) (map string_bytes c.push_line.new.lines.items) _ c.loop-line.invariant.gathered c.in-Some.ensures.cases c.in_ok-push_line.ensures;
  is_text = search rules;
}

pub returns : goal.returns
returns c = lines_end c.loop-line.rest.now (map string_bytes c.loop-line.items.items) _ c.loop-line.invariant.gathered c.in_default.ensures.cases
