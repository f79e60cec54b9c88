use Rattle.std.proofs.Common.{◌≡◌, ◌++◌, ◌∙◌, List, OnOk, subst}
use Rattle.std.specs.Prelude.{ℤ}
use Rattle.mpd_outcomes.specs.Words.{sized}
use Rattle.mpd_outcomes.proofs.PushLemmas.{part_is}
use Rattle.mpd_outcomes.proofs.key.push_rank.Goals as goal

pub returns-clause-words : goal.returns-clause-words
returns-clause-words c =
    subst (λ (ws : List ℤ). OnOk c.push_sized.result (c.push_sized.new.words.items ≡ c.args.key.now.items ++ sized ws))
    (c.deref.ensures.value
    ∙ part_is c.args.core.now.world c.args.core.now.program c.code.result.now.program c.board.result.now.board c.args.rank c.rank.result.now.rank c.rank.result.now c.write_part.new.part.items
    c.board.ensures c.rank.ensures.number c.code.ensures c.rank.ensures.world c.in_ok-write_part.ensures.words)
    c.push_sized.ensures
