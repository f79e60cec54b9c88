use Rattle.mpd_model.specs.texts.Words.{words}
use Rattle.mpd_vocabulary.proofs.PieceLemmas.{is_none, next_there}
use Rattle.mpd_vocabulary.proofs.condition.next_piece.Goals as goal

pub returns-then-is_empty : goal.returns-then-is_empty
returns-then-is_empty c =
    next_there c.args.left.now c.args.rest.now c.in_ok-word.word.now c.split_at.result.0.now c.split_at.result.1.now (words c.in_ok-word.behind.now) c.piece_len.result
    (is_none c.args.left.now c.is_empty.result c.is_empty.ensures c.if-is_empty.true) c.in_ok-word.ensures c.piece_len.ensures.value c.split_at.ensures.front c.split_at.ensures.back
