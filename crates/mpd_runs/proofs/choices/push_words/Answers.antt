use Rattle.mpd_runs.specs.Choices.{cut_at_spaces, read_on}
use Rattle.mpd_runs.proofs.ChoiceLemmas.{last_ok}
use Rattle.mpd_runs.proofs.choices.push_words.Goals as goal

pub returns-clause-read : goal.returns-clause-read
returns-clause-read c =
    last_ok c.push_word-2.result (read_on c.args.items.now.items (cut_at_spaces c.args.text.now)) c.loop-word.items.items c.push_word-2.new.items.items c.loop-word.rest.now c.loop-word.invariant c.in_default.ensures.parts c.push_word-2.ensures.read
