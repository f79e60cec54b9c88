use Rattle.std.proofs.Common.{◌≡◌, take, ap, ◌∙◌, arith}
use Rattle.mpd_model.specs.script.Declaration.{Declared, cells_of}
use Rattle.mpd_names.specs.Cells as counted
use Rattle.mpd_names.proofs.CellLemmas.{cells_or_one, few_at}
use Rattle.mpd_names.proofs.cells.whole_in.Goals as goal

pub returns-clause-small : goal.returns-clause-small
returns-clause-small c =
    let kind : c.decl.inside.kind ≡ c.args.decl.now.kind = ap (λ (d : Declared). d.kind) c.decl.view_is in
    let size : cells_of c.decl.inside.size ≡ cells_of c.args.decl.now.size = ap (λ (d : Declared). cells_of d.size) c.decl.view_is in
    let first : c.cells_in.result ≡ counted.cells_in c.decl.inside.kind (take c.args.number c.args.decls.now) = c.cells_in.ensures ∙ ap (counted.cells_in c.decl.inside.kind) c.split_at.ensures.front in
    omega (arith, few_at c.args.decls.now c.args.number c.args.decl.now c.decl.inside.kind c.requires.there kind c.requires.variables c.requires.handles, first, size, c.unwrap_or.ensures, cells_or_one c.decl.inside.size)
