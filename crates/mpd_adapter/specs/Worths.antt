-- What an expression comes to, as an editor shows it (docs/ADAPTER.md, "Expressions").
use Rattle.std.specs.Prelude.{◌≡◌, ℕ, ◌==◌, Bool, true, if◌then◌else◌, List, [], ◌∷◌, slice_get, Option, Some, None}
use Rattle.std.specs.List.{flat_map}
use Rattle.serde_json.specs.Data.{Data}
use Rattle.mpd_model.specs.steps.World.{World, rank_numbers}
use Rattle.mpd_model.specs.runs.Trail.{world_of}
use Rattle.mpd_model.specs.texts.Words.{words}
use Rattle.mpd_names.specs.declared.name.Named.{Named}
use Rattle.mpd_names.specs.Held.{held_at}
use Rattle.mpd_session.specs.Held.{Held}
use Rattle.mpd_vocabulary.specs.Reading.{named_in}
use Rattle.mpd_console.specs.declared.values.RankValue.{RankValue}
use Rattle.mpd_console.specs.declared.values.Valued.{Valued}
use Rattle.mpd_console.specs.declared.values.Valued.TheVariants as valued
use Rattle.mpd_console.specs.Says.{valued_in}
use Rattle.mpd_dap.specs.Bodies.{evaluated_data}
use Rattle.mpd_adapter.specs.declared.worth.RankWorth.{RankWorth}
use Rattle.mpd_adapter.specs.declared.worth.Worth.TheVariants.{Holds, Comes}
use Rattle.mpd_adapter.specs.Seen.{seen}

-- of all ranks, or of one
abbrev pub is_meant : Option ℕ → ℕ → Bool
is_meant None q = true
is_meant (Some p) q = p == q

-- ---- a name: what ranks hold in its cells

abbrev pub held_worth : World → Named → Option ℕ → ℕ → List RankWorth
held_worth w n meant p = if is_meant meant p then record { rank = p; worth = Holds (held_at n (slice_get w.ranks p)) } ∷ [] else []

abbrev pub held_worths : World → Named → Option ℕ → List RankWorth
held_worths w n meant = flat_map (held_worth w n meant) (rank_numbers w.board)

abbrev pub named_worths : Held → Named → Option ℕ → List RankWorth
named_worths s n meant = seen [] (λ w. held_worths w n meant) (world_of s.trail)

-- ---- an expression: its values, as the console tells them

abbrev pub value_worth : Option ℕ → RankValue → List RankWorth
value_worth meant v = if is_meant meant v.rank then record { rank = v.rank; worth = Comes v.value } ∷ [] else []

abbrev pub valued_worths : Option ℕ → Valued → List RankWorth
valued_worths meant (valued.Values e values) = flat_map (value_worth meant) values
valued_worths meant other = []

-- ---- either

abbrev pub worths_by : Held → List ℕ → Option ℕ → Option Named → List RankWorth
worths_by s z meant (Some n) = named_worths s n meant
worths_by s z meant None = valued_worths meant (valued_in s z)

-- What a text comes to: a name is what ranks hold there, and anything else is read as an expression. It is nothing if it is none, or none of the ranks
-- that are meant.
abbrev pub worths_in : Held → List ℕ → Option ℕ → List RankWorth
worths_in s z meant = worths_by s z meant (named_in s.trail.program.decls (words z))

-- the body that tells it, in any words; none if it is nothing
abbrev pub IsWorth : List RankWorth → Option Data → Type 0
IsWorth [] body = body ≡ None
IsWorth (x ∷ xs) None = ⊥
IsWorth (x ∷ xs) (Some body) = (text : List ℕ) × (body ≡ evaluated_data text)
