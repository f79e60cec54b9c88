-- A short run shows few glyphs.
use Rattle.std.proofs.Common.{◌≡◌, ◌≤◌, ◌*◌, ℕ, suc, Bool, true, false, cond, if◌then◌else◌, List, [], ◌∷◌, ◌++◌, length, Option, Some, None, slice_get, refl, subst, arith}
use Rattle.std.specs.List.{flat_map}
use Rattle.std.specs.Option.{option_map}
use Rattle.std.proofs.lemmas.Bool.Decides.{nat_tests}
use Rattle.std.proofs.lemmas.List.{length-append, length-set, length-replicate}
use Rattle.std.proofs.lemmas.List.FromFn.{length-range_with_len}
use Rattle.mpd_model.specs.declared.call.Call.{Call}
use Rattle.mpd_model.specs.declared.call.MatchSet.TheVariants.{Pair}
use Rattle.mpd_model.specs.declared.call.Mode.{Mode}
use Rattle.mpd_model.specs.declared.step.Step.{Step}
use Rattle.mpd_model.specs.declared.step.Step.TheVariants.{Local, Match, Wake, WakeAny, Release}
use Rattle.mpd_model.specs.script.Program.{Program}
use Rattle.mpd_model.specs.steps.World.{World, Board, start, eligible, rank_numbers}
use Rattle.mpd_model.specs.steps.Next.{Ran, local_at, stepped, with_issued, can_wake, woken, can_wake_any, woken_any, can_release, released, with_set, next}
use Rattle.mpd_picture.specs.Glyphs.{issues, before_step, deed_of, noted, step_glyphs, went_on, led, row_behind, glyphs_behind, glyphs_of}
use Rattle.mpd_complete.specs.Drawn.{DrawnRunsAreFew}

-- ---- no step takes a rank its list of calls

abbrev calls_in : World → ℕ
calls_in w = length w.board.calls

if_chosen : (b : Bool) (x v : World) (n : ℕ) → calls_in x ≡ n → cond b (Some x) None ≡ Some v → calls_in v ≡ n
if_chosen true x v n h e = let same : x ≡ v = cc in subst (λ u. calls_in u ≡ n) same h
if_chosen false x v n h e = cc

issued_calls : (b : Board) (p : ℕ) (o : Option Call) → length (with_issued b p o).calls ≡ length b.calls
issued_calls b p None = refl
issued_calls b p (Some c) = length-set b.calls p _

if_ran : (w : World) (p : ℕ) (o : Option Ran) (v : World) → option_map (stepped w p) o ≡ Some v → calls_in v ≡ calls_in w
if_ran w p None v e = cc
if_ran w p (Some ran) v e = let same : stepped w p ran ≡ v = cc in subst (λ u. calls_in u ≡ calls_in w) same (issued_calls w.board p ran.call)

next_calls : (w : World) (a : Step) (v : World) → next w a ≡ Some v → calls_in v ≡ calls_in w
next_calls w (Local p) v e = if_ran w p (local_at w p) v e
next_calls w (Match s r) v e = if_chosen (eligible w.board s r) (record w { board = with_set w.board (Pair s r) }) v _ refl e
next_calls w (Wake p) v e = if_chosen (can_wake w p) (woken w p) v _ refl e
next_calls w (WakeAny p i) v e = if_chosen (can_wake_any w p i) (woken_any w p i) v _ refl e
next_calls w Release v e = if_chosen (can_release w) (released w) v _ refl e

-- ---- what a step shows

each_one : {A : Type 0} (f : ℕ → List A) (xs : List ℕ) → ((x : ℕ) → length (f x) ≡ 1) → length (flat_map f xs) ≡ length xs
each_one f [] h = refl
each_one f (x ∷ xs) h = let one = h x in let rest = each_one f xs h in let both = length-append (f x) (flat_map f xs) in omega (arith, one, rest, both)

if_issued : {A : Type 0} (b : Bool) (g : A) (others : List A) → length others ≤ 17 → length (if b then g ∷ [] else others) ≤ 17
if_issued true g others h = omega arith
if_issued false g others h = h

noted_few : (lines : List ℕ) (w v : World) (a : Step) (row p : ℕ) → length (noted (before_step lines w a).line row p (deed_of (before_step lines w a).printed (slice_get v.ranks p))) ≤ 17
noted_few lines w v a row p =
    elim (deed_of (before_step lines w a).printed (slice_get v.ranks p)) as (λ o. length (noted (before_step lines w a).line row p o) ≤ 17) [
      | None ↦ omega arith
      | Some d ↦ omega arith
    ]

step_few : (lines : List ℕ) (w v : World) (row : ℕ) (a : Step) → calls_in v ≤ 16 → length (step_glyphs (before_step lines w a) v row a) ≤ 17
step_few lines w v row (Local p) h = if_issued (issues (before_step lines w (Local p)).calls v.board p) _ _ (noted_few lines w v (Local p) row p)
step_few lines w v row (Match s r) h = omega arith
step_few lines w v row (Wake p) h = omega arith
step_few lines w v row (WakeAny p i) h = omega arith
step_few lines w v row Release h =
    let all = each_one (went_on v.board row) (rank_numbers v.board) (λ p. refl) in
    let ranks = length-range_with_len 0 (length v.board.calls) in
    omega (arith, h, all, ranks)

-- ---- what a run shows

shown_few : (lines : List ℕ) (w : World) (row : ℕ) (steps : List Step) → calls_in w ≤ 16 → length (glyphs_behind lines w row steps) ≤ 17 * length steps
shown_few lines w row [] h = omega arith
shown_few lines w row (a ∷ steps) h =
    elim (next w a) as (λ o. next w a ≡ o → length (led (λ v. step_glyphs (before_step lines w a) v row a ++ glyphs_behind lines v (row_behind (before_step lines w a) v row a) steps) o) ≤ 17 * suc (length steps)) [
      | None ↦ λ e. omega arith
      | Some v ↦ λ e.
          let same = next_calls w a v e in
          let step = step_few lines w v row a (omega (arith, same, h)) in
          let rest = shown_few lines v (row_behind (before_step lines w a) v row a) steps (omega (arith, same, h)) in
          let both = length-append (step_glyphs (before_step lines w a) v row a) (glyphs_behind lines v (row_behind (before_step lines w a) v row a) steps) in
          omega (arith, step, rest, both)
    ] refl

pub drawn_few : DrawnRunsAreFew
drawn_few s mode steps ranks drawn =
    let calls = length-replicate {A = List Call} s.ranks [] in
    let shown = shown_few s.lines (start s mode) 0 steps (omega (arith, calls, ranks)) in
    grind (arith, nat_tests)
