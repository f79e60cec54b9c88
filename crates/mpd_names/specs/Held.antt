-- What ranks hold in declarations.
use Rattle.std.specs.Prelude.{ℕ, ℤ, Bool, true, if◌then◌else◌, List, [], ◌∷◌, length, take, drop, slice_get, Option, Some, None}
use Rattle.std.specs.List.{flat_map, range_with_len}
use Rattle.mpd_model.specs.declared.place.DeclKind.{DeclKind}
use Rattle.mpd_model.specs.declared.place.DeclKind.TheVariants.{Variable, Handle}
use Rattle.mpd_model.specs.script.Declaration.{Declared}
use Rattle.mpd_model.specs.script.Program.{Program}
use Rattle.mpd_model.specs.steps.World.{RankWorld}
use Rattle.mpd_names.specs.declared.holding.Held.{Held}
use Rattle.mpd_names.specs.declared.holding.Held.TheVariants.{Values, Calls}
use Rattle.mpd_names.specs.declared.holding.Holding.{Holding}
use Rattle.mpd_names.specs.declared.name.Named.{Named}
use Rattle.mpd_names.specs.Cells.{whole}

-- what is meant of all cells of a kind
abbrev pub own : {A : Type 0} → Named → List A → List A
own n xs = take n.cells (drop n.first xs)

abbrev pub values : List ℤ → Held
values vs = Values vs

abbrev pub calls : List (Option ℕ) → Held
calls hs = Calls hs

abbrev pub held_by : Named → RankWorld → DeclKind → Held
held_by n r Variable = Values (own n r.vars)
held_by n r Handle = Calls (own n r.handles)

-- what a rank holds in the cells that a name means; a rank that isn't there holds nothing
abbrev pub held_at : Named → Option RankWorld → Held
held_at n None = Values []
held_at n (Some r) = held_by n r n.kind

-- and in all cells of the declaration of number i
abbrev pub holding_of : Program → Option RankWorld → ℕ → Declared → Holding
holding_of s r i d = record { declaration = i; held = held_at (whole s.decls i d) r }

abbrev pub holding_by : Program → Option RankWorld → ℕ → Option Declared → List Holding
holding_by s r i None = []
holding_by s r i (Some d) = holding_of s r i d ∷ []

-- that, where the declaration is chosen
abbrev pub holding_if : Program → Option RankWorld → Bool → ℕ → List Holding
holding_if s r chosen i = if chosen then holding_by s r i (slice_get s.decls i) else []

-- those of all declarations that are chosen
abbrev pub holdings_if : Program → Option RankWorld → (ℕ → Bool) → List Holding
holdings_if s r is_chosen = flat_map (λ i. holding_if s r (is_chosen i) i) (range_with_len 0 (length s.decls))

-- and those of all
abbrev pub holdings_of : Program → Option RankWorld → List Holding
holdings_of s None = []
holdings_of s (Some r) = holdings_if s (Some r) (λ d. true)
