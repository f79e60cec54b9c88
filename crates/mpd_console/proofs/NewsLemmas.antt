-- What ranks have printed since; ranks that aren't there print nothing.
use Rattle.std.proofs.Common.{◌≡◌, ℕ, ℤ, ◌≤◌, List, ◌++◌, length, drop, map, slice_get, sym, ap, ◌∙◌, append-nil}
use Rattle.std.proofs.lemmas.List.{drop_all}
use Rattle.std.proofs.lemmas.Option.{slice_get_past}
use Rattle.mpd_model.specs.steps.World.{World}
use Rattle.mpd_console.specs.declared.told.Printed.{Printed}
use Rattle.mpd_console.specs.News.{printed_count, printed_of, printed_value}

pub uncounted : (p : ℕ) (w : World) → length w.ranks ≤ p → 0 ≡ printed_count (slice_get w.ranks p)
uncounted p w h = sym (ap printed_count (slice_get_past w.ranks p h))

pub unprinted : (p count : ℕ) (w : World) (before : List Printed) → length w.ranks ≤ p → before ≡ before ++ printed_of p count (slice_get w.ranks p)
unprinted p count w before h = sym (ap (λ o. before ++ printed_of p count o) (slice_get_past w.ranks p h) ∙ append-nil before)

-- there are no values behind so many
pub none_behind : (p count : ℕ) (values : List ℤ) (before : List Printed) → length values ≤ count → before ≡ before ++ map (printed_value p) (drop count values)
none_behind p count values before h = sym (ap (λ xs. before ++ map (printed_value p) xs) (drop_all count values h) ∙ append-nil before)

-- all are added
pub all_behind : (p i : ℕ) (values : List ℤ) (before total : List Printed) → length values ≤ i → before ++ map (printed_value p) (drop i values) ≡ total → before ≡ total
all_behind p i values before total h is = none_behind p i values before h ∙ is

pub ruleset behind = (none_behind, all_behind)

pub ruleset absent = (uncounted)

pub ruleset silent = (unprinted)
