use Rattle.std.proofs.Common.{◌≡◌, length, false, ap, ◌∙◌}
use Rattle.mpd_model.specs.script.Tree.{block_of, statements_in}
use Rattle.mpd_laws.proofs.sound.SoundScript.{lines_counted, script_reads}
use Rattle.mpd_script.proofs.script.script.Goals as goal

pub invariant_of-result : goal.invariant_of-result
invariant_of-result c =
    let body = c.in_ok-body.body.items in
    let within = c.in_ok-ranks.ensures.within in
    let kept = c.finish-decls.ensures in
    let counted = lines_counted c.args.tokens c.header.new.tokens c.body.new.tokens c.in_ok-ranks.ranks body 64 false c.requires.lines c.in_ok-ranks.ensures.value c.in_ok-body.ensures in
    let lines : length c.finish-decls.result.1.items ≡ statements_in (block_of body) = ap length kept.lines ∙ counted in
    let read = script_reads c.args.tokens c.header.new.tokens c.body.new.tokens c.in_ok-ranks.ranks body c.version-version.result c.finish-decls.result.0.items c.finish-decls.result.1.items
    c.in_ok-ranks.ensures.value c.in_ok-body.ensures c.version-version.ensures kept.decls kept.lines in
    let known = c.requires.of_version _ read in
    c.requires.printable _ read (record {
      some_version = known.0;
      version = known.1;
      body = known.2;
      some_rank = within.0;
      ranks = within.1;
      variables = kept.variables;
      handles = kept.handles;
      statements = rw (← lines) kept.few_lines;
      lines = lines;
    })
