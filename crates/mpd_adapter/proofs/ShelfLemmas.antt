-- What a rank holds, by its state.
use Rattle.std.proofs.Common.{◌≡◌, ℕ, ℤ, ◌≤◌, List, [], length, Option, Some, slice_get, sym, ap, ◌∙◌}
use Rattle.std.proofs.lemmas.Option.{slice_get_past}
use Rattle.mpd_model.specs.script.Declaration.{Declared}
use Rattle.mpd_model.specs.script.Program.{Program}
use Rattle.mpd_model.specs.steps.World.{World, RankWorld}
use Rattle.mpd_dap.specs.declared.listed.Variable.{Variable as Entry}
use Rattle.mpd_adapter.specs.declared.numbers.Scope.{Scope}
use Rattle.mpd_adapter.specs.declared.numbers.Scope.TheVariants.{Variables, Requests, Calls, Printed}
use Rattle.mpd_adapter.specs.Shelves.{all_variables, all_requests, all_calls, all_printed, held_by, held_at}

pub variables_held : (s : Program) (w : World) (p : ℕ) (r : RankWorld) (ds : List Declared) (values : List ℤ) (list : List Entry) → slice_get w.ranks p ≡ Some r → ds ≡ s.decls → values ≡ r.vars → list ≡ all_variables ds values → list ≡ held_by s w p Variables (slice_get w.ranks p)
variables_held s w p r ds values list e d v is = is ∙ ap (λ x. all_variables x values) d ∙ ap (all_variables s.decls) v ∙ sym (ap (held_by s w p Variables) e)

pub requests_held : (s : Program) (w : World) (p : ℕ) (r : RankWorld) (ds : List Declared) (handles : List (Option ℕ)) (list : List Entry) → slice_get w.ranks p ≡ Some r → ds ≡ s.decls → handles ≡ r.handles → list ≡ all_requests ds p handles → list ≡ held_by s w p Requests (slice_get w.ranks p)
requests_held s w p r ds handles list e d v is = is ∙ ap (λ x. all_requests x p handles) d ∙ ap (all_requests s.decls p) v ∙ sym (ap (held_by s w p Requests) e)

pub calls_held : (s : Program) (w : World) (p : ℕ) (r : RankWorld) (list : List Entry) → slice_get w.ranks p ≡ Some r → list ≡ all_calls w.board p → list ≡ held_by s w p Calls (slice_get w.ranks p)
calls_held s w p r list e is = is ∙ sym (ap (held_by s w p Calls) e)

pub printed_held : (s : Program) (w : World) (p : ℕ) (r : RankWorld) (values : List ℤ) (list : List Entry) → slice_get w.ranks p ≡ Some r → values ≡ r.out → list ≡ all_printed values → list ≡ held_by s w p Printed (slice_get w.ranks p)
printed_held s w p r values list e v is = is ∙ ap all_printed v ∙ sym (ap (held_by s w p Printed) e)

pub none_held : (s : Program) (w : World) (p : ℕ) (scope : Scope) (list : List Entry) → length w.ranks ≤ p → list ≡ [] → list ≡ held_at s w p scope
none_held s w p scope list h is = is ∙ sym (ap (held_by s w p scope) (slice_get_past w.ranks p h))

pub ruleset holding = (variables_held, requests_held, calls_held, printed_held, none_held)
