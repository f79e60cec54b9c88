-- What hits breakpoints, told apart.
use Rattle.std.proofs.Common.{◌≡◌, ℕ, ℤ, ◌+◌, ◌-◌, ◌<◌, ◌≤◌, Bool, true, false, ◌||◌, ◌&&◌, ◌==◌, not, Option, Some, None, IfSome, List, length, get_or, slice_get, slice_index_or, inl, inr, refl, sym, ap, ◌∙◌, arith}
use Rattle.std.proofs.lemmas.Option.{slice_get_past}
use Rattle.std.proofs.lemmas.Bool.Decides.{eqb_tells}
use Rattle.std.proofs.lemmas.Cmp.{int_eq_equiv}
use Rattle.std.specs.Option.{option_map}
use Rattle.mpd_model.specs.declared.breakpoint.Breakpoint.{Breakpoint}
use Rattle.mpd_model.specs.declared.breakpoint.Breakpoint.TheVariants.{Line, Change, Handle, Match, Rank}
use Rattle.mpd_model.specs.declared.call.Activity.{Activity}
use Rattle.mpd_model.specs.declared.call.Activity.TheVariants.{Running, Blocked, Trapped}
use Rattle.mpd_model.specs.declared.step.Step.{Step}
use Rattle.mpd_model.specs.declared.step.CallId.{CallId}
use Rattle.mpd_model.specs.declared.call.Call.{Call}
use Rattle.mpd_model.specs.script.Program.{Program}
use Rattle.mpd_model.specs.steps.World.{World, RankWorld, Board, call_at}
use Rattle.mpd_model.specs.steps.Outcomes.{first_number}
use Rattle.mpd_model.specs.runs.Breakpoints.{is_number, on_line, is_running, comes_at, held_at, cell_at, same_value, call_held, handle_at, same_number, issued_on, line_hits, match_hits, rank_hits, hit_by, break_at, lowest_hit}
use Rattle.mpd_match.proofs.Matches.{any_from, any_on, any_now}
use Rattle.mpd_rank.specs.Views.{RankView, rank_of}
use Rattle.mpd_policy.specs.declared.hits.Watched.{Watched}
use Rattle.mpd_policy.specs.declared.hits.Watched.TheVariants as seen
use Rattle.mpd_policy.specs.Places.{of_value, of_call, told_by, watched_by, watched_at, same_watched, changed_by, lowest_told, lowest_changed, lower}
use Rattle.mpd_policy.proofs.NumberLemmas.{both_lowest}

-- ---- statements and lines

pub no_statement : (s : Program) (line : ℕ) (o : Option ℕ) → o ≡ None → false ≡ on_line s line o
no_statement s line o none = sym (ap (on_line s line) none)

pub no_line : (s : Program) (lines : List ℕ) (line n : ℕ) (o own : Option ℕ) → o ≡ Some n → lines ≡ s.lines → own ≡ slice_get lines n → own ≡ None → false ≡ on_line s line o
no_line s lines line n o own some same is none =
    let at : slice_get s.lines n ≡ None = ap (λ (xs : List ℕ). slice_get xs n) (sym same) ∙ sym is ∙ none in
    sym (ap (on_line s line) some ∙ ap (λ (p : Option ℕ). is_number p line) at)

pub some_line : (s : Program) (lines : List ℕ) (line n k : ℕ) (o own : Option ℕ) → o ≡ Some n → lines ≡ s.lines → own ≡ slice_get lines n → own ≡ Some k → (k == line) ≡ on_line s line o
some_line s lines line n k o own some same is found =
    let at : slice_get s.lines n ≡ Some k = ap (λ (xs : List ℕ). slice_get xs n) (sym same) ∙ sym is ∙ found in
    sym (ap (on_line s line) some ∙ ap (λ (p : Option ℕ). is_number p line) at)

pub ruleset on_lines = (no_statement, no_line, some_line)

-- ---- a rank that comes to a line

pub no_rank : (s : Program) (line p : ℕ) (ranks : List RankWorld) → length ranks ≤ p → false ≡ comes_at s line (slice_get ranks p)
no_rank s line p ranks past = sym (ap (comes_at s line) (slice_get_past ranks p past))

comes_runs : (s : Program) (line : ℕ) (o : Option RankWorld) (next : Option ℕ) (found : Bool) → option_map (λ (r : RankWorld). r.activity) o ≡ Some Running → IfSome o (λ r. next ≡ first_number r.rest) → found ≡ on_line s line next → found ≡ comes_at s line o
comes_runs s line None next found runs is e = absurd (cc)
comes_runs s line (Some r) next found runs is e =
    let at : r.activity ≡ Running = cc in
    e ∙ ap (on_line s line) is ∙ sym (ap (λ (a : Activity). is_running a && on_line s line (first_number r.rest)) at)

pub rank_runs : (s : Program) (line p : ℕ) (ranks : List RankWorld) (does : Option Activity) (next : Option ℕ) (found : Bool) → does ≡ option_map (λ (r : RankWorld). r.activity) (slice_get ranks p) → does ≡ Some Running
    → IfSome (slice_get ranks p) (λ r. next ≡ first_number r.rest) → found ≡ on_line s line next → found ≡ comes_at s line (slice_get ranks p)
rank_runs s line p ranks does next found is runs at e = comes_runs s line (slice_get ranks p) next found (sym is ∙ runs) at e

abbrev pub runs_by : Option Activity → Bool
runs_by None = false
runs_by (Some a) = is_running a

comes_not : (s : Program) (line : ℕ) (o : Option RankWorld) → runs_by (option_map (λ (r : RankWorld). r.activity) o) ≡ false → false ≡ comes_at s line o
comes_not s line None e = refl
comes_not s line (Some r) e = sym (ap (λ (b : Bool). b && on_line s line (first_number r.rest)) e)

not_running : (does : Option Activity) → (does ≡ Some Running → ⊥) → runs_by does ≡ false
not_running None no_run = refl
not_running (Some a) no_run = of a no_run
  where
    of : (a : Activity) → (Some a ≡ Some Running → ⊥) → is_running a ≡ false
    of Running no_run = absurd (no_run refl)
    of Blocked no_run = refl
    of (Trapped t) no_run = refl

pub rank_stands : (s : Program) (line p : ℕ) (ranks : List RankWorld) (does : Option Activity) → does ≡ option_map (λ (r : RankWorld). r.activity) (slice_get ranks p) → (does ≡ Some Running → ⊥) → false ≡ comes_at s line (slice_get ranks p)
rank_stands s line p ranks does is stands = comes_not s line (slice_get ranks p) (sym (ap runs_by is) ∙ not_running does stands)

pub ruleset coming = (no_rank, rank_runs, rank_stands)

-- one rank after another
pub rank_on : (t : ℕ → Bool) (i n : ℕ) (total : Bool) → i < n → any_from t i (n - i) ≡ total → t i ≡ false → any_from t (i + 1) (n - (i + 1)) ≡ total
rank_on t i n total lt e misses = any_on t i n total lt e misses

pub rank_now : (t : ℕ → Bool) (i n : ℕ) (total : Bool) → i < n → any_from t i (n - i) ≡ total → t i ≡ true → total ≡ true
rank_now t i n total lt e hits = any_now t i n total lt e hits

pub rank_begins : (t : ℕ → Bool) (n m : ℕ) → n ≡ m → any_from t 0 (n - 0) ≡ any_from t 0 m
rank_begins t n m e = let k : n - 0 ≡ m = omega (arith, e) in ap (any_from t 0) k

pub ruleset some_rank = (rank_on, rank_now, rank_begins)

-- ---- a call that was issued on a line

pub no_call : (s : Program) (line : ℕ) (b b' : Board) (id : CallId) (o : Option Call) → b' ≡ b → o ≡ call_at b' id → o ≡ None → false ≡ issued_on s line b id
no_call s line b b' id o e is none =
    let at : call_at b id ≡ None = ap (λ (b : Board). call_at b id) (sym e) ∙ sym is ∙ none in
    sym (ap (λ (c : Option Call). on_line s line (option_map (λ (call : Call). call.statement) c)) at)

pub some_call : (s : Program) (line : ℕ) (b b' : Board) (id : CallId) (o : Option Call) (c : Call) (found : Bool) → b' ≡ b → o ≡ call_at b' id → o ≡ Some c → found ≡ on_line s line (Some c.statement) → found ≡ issued_on s line b id
some_call s line b b' id o c found e is some f =
    let at : call_at b id ≡ Some c = ap (λ (b : Board). call_at b id) (sym e) ∙ sym is ∙ some in
    f ∙ sym (ap (λ (c : Option Call). on_line s line (option_map (λ (call : Call). call.statement) c)) at)

pub ruleset issuing = (no_call, some_call)

-- ---- a cell

pub no_holder : (ranks : List RankWorld) (p c : ℕ) → length ranks ≤ p → None ≡ held_at (slice_get ranks p) c
no_holder ranks p c past = sym (ap (λ (o : Option RankWorld). held_at o c) (slice_get_past ranks p past))

pub holder : (s : Program) (v : RankView) (vars : List ℤ) (ranks : List RankWorld) (p c : ℕ) (o : Option ℤ) → slice_get ranks p ≡ Some (rank_of s v) → vars ≡ v.vars → o ≡ slice_get vars c → o ≡ held_at (slice_get ranks p) c
holder s v vars ranks p c o at same is = is ∙ ap (λ (xs : List ℤ). slice_get xs c) same ∙ sym (ap (λ (o : Option RankWorld). held_at o c) at)

pub ruleset holding = (no_holder, holder)

-- ---- a handle

pub no_caller : (ranks : List RankWorld) (p h : ℕ) → length ranks ≤ p → None ≡ call_held (slice_get ranks p) h
no_caller ranks p h past = sym (ap (λ (o : Option RankWorld). call_held o h) (slice_get_past ranks p past))

pub caller : (s : Program) (v : RankView) (ranks : List RankWorld) (p h : ℕ) (o : Option ℕ) → slice_get ranks p ≡ Some (rank_of s v) → o ≡ slice_index_or v.handles h None → o ≡ call_held (slice_get ranks p) h
caller s v ranks p h o at is = is ∙ sym (ap (λ (o : Option RankWorld). call_held o h) at)

pub ruleset calling = (no_caller, caller)

-- ---- a hit is told by the state behind the step, or by a cell or a handle that changed

or_no : (b : Bool) → b ≡ (b || false)
or_no true = refl
or_no false = refl

value_same : (x y : Option ℤ) → same_value x y ≡ same_watched (of_value x) (of_value y)
value_same None None = refl
value_same None (Some y) = refl
value_same (Some x) None = refl
value_same (Some x) (Some y) = refl

call_same : (x y : Option ℕ) → same_number x y ≡ same_watched (of_call x) (of_call y)
call_same None None = refl
call_same None (Some n) = refl
call_same (Some m) None = refl
call_same (Some m) (Some n) = refl

hit_split : (s : Program) (place : Option Breakpoint) (old : World) (a : Step) (new : World) → hit_by s place old a new ≡ (told_by s place a new || changed_by (watched_at old place) place new)
hit_split s (Some (Line line of when)) old a new = or_no (line_hits s line of when a new)
hit_split s (Some (Change p c)) old a new = ap not (value_same (cell_at old p c) (cell_at new p c))
hit_split s (Some (Handle p h)) old a new = ap not (call_same (handle_at old p h) (handle_at new p h))
hit_split s (Some (Match line of)) old a new = or_no (match_hits s line of a new)
hit_split s (Some (Rank p)) old a new = or_no (rank_hits p a new)
hit_split s None old a new = refl

number_turned : (m n : ℕ) → (m == n) ≡ (n == m)
number_turned m n =
    elim (eqb_tells m n) [
      | inl t ↦ elim (eqb_tells n m) [ inl u ↦ t.0 ∙ sym u.0 | inr u ↦ absurd (u.1 (sym t.1)) ]
      | inr t ↦ elim (eqb_tells n m) [ inl u ↦ absurd (t.1 (sym u.1)) | inr u ↦ t.0 ∙ sym u.0 ]
    ]

same_turned : (x y : Watched) → same_watched x y ≡ same_watched y x
same_turned seen.Nothing seen.Nothing = refl
same_turned seen.Nothing (seen.Value y) = refl
same_turned seen.Nothing (seen.Call n) = refl
same_turned (seen.Value x) seen.Nothing = refl
same_turned (seen.Value x) (seen.Value y) = int_eq_equiv.symm x y
same_turned (seen.Value x) (seen.Call n) = refl
same_turned (seen.Call m) seen.Nothing = refl
same_turned (seen.Call m) (seen.Value y) = refl
same_turned (seen.Call m) (seen.Call n) = number_turned m n

-- what was watched before a step
pub hit_forward : (s : Program) (places : List (Option Breakpoint)) (values : List Watched) (old : World) (a : Step) (new : World) → ((n : ℕ) → get_or values n seen.Nothing ≡ watched_at old (break_at places n))
    → lowest_hit s places old a new ≡ lower (lowest_told s places a new) (lowest_changed places values new)
hit_forward s places values old a new held =
    both_lowest (λ n. told_by s (break_at places n) a new) (λ n. changed_by (get_or values n seen.Nothing) (break_at places n) new) (λ n. hit_by s (break_at places n) old a new)
    (λ n. hit_split s (break_at places n) old a new ∙ ap (λ (v : Watched). told_by s (break_at places n) a new || changed_by v (break_at places n) new) (sym (held n))) 0 (length places)

changed_turned : (place : Option Breakpoint) (old new : World) → changed_by (watched_at old place) place new ≡ changed_by (watched_at new place) place old
changed_turned None old new = refl
changed_turned (Some b) old new = ap not (same_turned (watched_by old b) (watched_by new b))

-- what was watched behind it
pub hit_backward : (s : Program) (places : List (Option Breakpoint)) (values : List Watched) (old : World) (a : Step) (new : World) → ((n : ℕ) → get_or values n seen.Nothing ≡ watched_at new (break_at places n))
    → lowest_hit s places old a new ≡ lower (lowest_told s places a new) (lowest_changed places values old)
hit_backward s places values old a new held =
    both_lowest (λ n. told_by s (break_at places n) a new) (λ n. changed_by (get_or values n seen.Nothing) (break_at places n) old) (λ n. hit_by s (break_at places n) old a new)
    (λ n. hit_split s (break_at places n) old a new
    ∙ ap (λ (b : Bool). told_by s (break_at places n) a new || b) (changed_turned (break_at places n) old new)
    ∙ ap (λ (v : Watched). told_by s (break_at places n) a new || changed_by v (break_at places n) old) (sym (held n))) 0 (length places)
