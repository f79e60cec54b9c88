-- What the steps of a word brought: what ranks print by them, and the requests that are lost by them (docs/CONSOLE.md, "Answers").
use Rattle.std.specs.Prelude.{ℕ, ℤ, Bool, true, false, nat_lt, if◌then◌else◌, List, [], ◌∷◌, length, map, drop, get_or, slice_get, Option, Some, None}
use Rattle.std.specs.List.{flat_map}
use Rattle.mpd_model.specs.steps.World.{RankWorld, World, rank_numbers}
use Rattle.mpd_model.specs.runs.Trail.{Trail}
use Rattle.mpd_vocabulary.specs.declared.word.Word.{Word}
use Rattle.mpd_vocabulary.specs.declared.word.Word.TheVariants as word
use Rattle.mpd_explain.specs.Lost.{lost_calls}
use Rattle.mpd_console.specs.declared.news.Known.{Known}
use Rattle.mpd_console.specs.declared.told.News.{News}
use Rattle.mpd_console.specs.declared.told.Printed.{Printed}

-- ---- what is known of a session before a word

abbrev pub printed_count : Option RankWorld → ℕ
printed_count None = 0
printed_count (Some r) = length r.out

abbrev pub printed_counts : World → List ℕ
printed_counts w = flat_map (λ p. printed_count (slice_get w.ranks p) ∷ []) (rank_numbers w.board)

abbrev pub known_of : Trail → World → ℕ → Known
known_of t w gone = record { depth = t.depth; printed = printed_counts w; lost = lost_calls w; gone = gone }

-- Words that go back bring no news, so nothing but the depth has to be known for them, and no memory is asked for.
abbrev pub goes_back : Word → Bool
goes_back (word.Back n) = true
goes_back (word.BackRank p) = true
goes_back word.RunBack = true
goes_back word.UndoChoice = true
goes_back other = false

abbrev pub depth_alone : Trail → Known
depth_alone t = record { depth = t.depth; printed = []; lost = []; gone = 0 }

abbrev pub known_for : Trail → World → Word → ℕ → Known
known_for t w x gone = if goes_back x then depth_alone t else known_of t w gone

-- ---- what ranks have printed since

abbrev pub printed_value : ℕ → ℤ → Printed
printed_value p v = record { rank = p; value = v }

-- the values after the first so many; a rank that isn't there has printed none
abbrev pub printed_of : ℕ → ℕ → Option RankWorld → List Printed
printed_of p count None = []
printed_of p count (Some r) = map (printed_value p) (drop count r.out)

abbrev pub printed_since : List ℕ → World → List Printed
printed_since counts w = flat_map (λ p. printed_of p (get_or counts p 0) (slice_get w.ranks p)) (rank_numbers w.board)

-- ---- all of it, where more steps are taken than before

abbrev pub news_of : Known → World → News
news_of k w = record { gone = k.gone; printed = printed_since k.printed w; lost_before = k.lost; lost = lost_calls w }

abbrev pub news_by : Known → Trail → World → Option News
news_by k t w = if nat_lt k.depth t.depth then Some (news_of k w) else None
