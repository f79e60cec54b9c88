use Rattle.mpd_model.specs.declared.limits.TheConstants.{CELLS_MAX, HANDLES_MAX}
use Rattle.mpd_script.proofs.AskedLemmas.{variables_first, handles_first, next_declared}
use Rattle.mpd_script.proofs.asked.tokens_with.Goals as goal

pub declare-requires-clause-variables : goal.declare-requires-clause-variables
declare-requires-clause-variables c =
    let d = c.decl-item.result in
    variables_first CELLS_MAX c.loop-decl.tokens.decls _ c.args.decls.now d
    (next_declared c.loop-decl.tokens.decls c.args.decls.now c.loop-decl.decl-index d c.loop-decl-test.true c.decl-item.is c.loop-decl.invariant.1) c.requires.variables

pub declare-requires-clause-handles : goal.declare-requires-clause-handles
declare-requires-clause-handles c =
    let d = c.decl-item.result in
    handles_first HANDLES_MAX c.loop-decl.tokens.decls _ c.args.decls.now d
    (next_declared c.loop-decl.tokens.decls c.args.decls.now c.loop-decl.decl-index d c.loop-decl-test.true c.decl-item.is c.loop-decl.invariant.1) c.requires.handles
