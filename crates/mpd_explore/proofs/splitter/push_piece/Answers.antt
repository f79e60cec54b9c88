use Rattle.std.proofs.Common.{rules, ◌≡◌, ◌++◌, ◌∷◌, [], List, length, ap, ◌∙◌}
use Rattle.mpd_explore.specs.declared.splitter.Piece.{Piece}
use Rattle.mpd_explore.proofs.PieceLemmas.{adds_one}
use Rattle.mpd_explore.proofs.splitter.push_piece.Goals as goal

pub returns-clause-ok : goal.returns-clause-ok
returns-clause-ok c =
    let long : c.len-number.result ≡ length c.args.made.now.items = search rules in
    adds_one c.args.made.now.items c.push_reserved.new.self.items c.args.choices
    (c.push_reserved.ensures.items ∙ ap (λ (ps : List Piece). ps ++ record { number = c.len-number.result; choices = c.args.choices } ∷ []) c.in_ok-reserve.ensures.items ∙ ap (λ n. c.args.made.now.items ++ record { number = n; choices = c.args.choices } ∷ []) long)
