-- What words look at that change nothing.
use Rattle.std.specs.Prelude.{ℕ, nat_lt, if◌then◌else◌, length, Option, Some, None, is_some}
use Rattle.mpd_model.specs.declared.step.CallId.{CallId}
use Rattle.mpd_model.specs.steps.World.{World, call_at}
use Rattle.mpd_model.specs.runs.Trail.{Trail}
use Rattle.mpd_vocabulary.specs.declared.word.Word.{Word}
use Rattle.mpd_vocabulary.specs.declared.word.Word.TheVariants as word
use Rattle.mpd_console.specs.declared.told.Sight.{Sight}
use Rattle.mpd_console.specs.declared.told.Sight.TheVariants as sight
use Rattle.mpd_console.specs.Onward.{finish_rank}

-- of a rank, where there is such a rank, or of all
abbrev pub in_ranks : World → Option ℕ → Sight → Sight
in_ranks w None seen = seen
in_ranks w (Some p) seen = if nat_lt p (length w.ranks) then seen else sight.NoRank

abbrev pub call_sight : World → CallId → Sight
call_sight w c = if is_some (call_at w.board c) then sight.WhyCall c else sight.NoCall

-- of `finish`, where it doesn't go on: the rank waits for no call, or none is named and the last step is of none
abbrev pub unfinished : World → Option ℕ → Sight
unfinished w None = sight.NoLast
unfinished w (Some p) = in_ranks w (Some p) (sight.Why (Some p))

abbrev pub sight_of : Trail → World → Word → Sight
sight_of t w word.Breaks = sight.Breaks
sight_of t w (word.List rank) = in_ranks w rank (sight.Script rank)
sight_of t w (word.Print n rank) = in_ranks w rank (sight.Named n rank)
sight_of t w (word.Vars rank) = in_ranks w rank (sight.Held rank)
sight_of t w word.Ranks = sight.Ranks
sight_of t w (word.Calls rank) = in_ranks w rank (sight.Calls rank)
sight_of t w word.Queues = sight.Queues
sight_of t w (word.WhyCall c) = call_sight w c
sight_of t w (word.WhyRank rank) = in_ranks w rank (sight.Why rank)
sight_of t w (word.Finish p) = unfinished w (finish_rank t p)
sight_of t w (word.Until n) = sight.NoStatement n
sight_of t w (word.UntilRank p) = sight.NoRank
sight_of t w (word.BackRank p) = sight.NoRank
sight_of t w (word.History n) = sight.History n
sight_of t w word.Picture = sight.Picture
sight_of t w (word.Check n) = sight.Runs n
sight_of t w word.Words = sight.Words
sight_of t w word.Enabled = sight.Enabled
sight_of t w word.Show = sight.Whole
sight_of t w (word.Help topic) = sight.Help topic
sight_of t w word.Quit = sight.End
sight_of t w other = sight.Nothing
