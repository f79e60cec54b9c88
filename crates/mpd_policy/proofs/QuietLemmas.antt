-- The first quiet step, by the kinds of steps: where buffers never run out it is the step that nobody has to choose.
use Rattle.std.proofs.Common.{◌≡◌, ℕ, ◌-◌, ◌<◌, ◌≤◌, Bool, true, false, cond, ◌&&◌, not, Option, Some, None, is_some, List, [], ◌∷◌, ◌++◌, refl, sym, ap, subst, ◌∙◌, map, length, append-nil, arith}
use Rattle.std.proofs.Math.Bool.{and-true}
use Rattle.std.proofs.lemmas.List.Elements.{filter-append}
use Rattle.std.specs.List.{filter, flat_map, range_with_len}
use Rattle.std.specs.Option.{option_to_list}
use Rattle.mpd_model.specs.declared.step.CallId.{CallId}
use Rattle.mpd_model.specs.declared.step.Step.{Step}
use Rattle.mpd_model.specs.declared.step.Step.TheVariants.{Local, Match, Wake, Release}
use Rattle.mpd_model.specs.declared.call.CallKind.{CallKind}
use Rattle.mpd_model.specs.declared.call.Mode.{Mode}
use Rattle.mpd_model.specs.declared.call.Mode.TheVariants.{Slots}
use Rattle.mpd_model.specs.steps.World.{World, Board, call_id, kind_at, call_numbers, rank_numbers, is_buffered, is_limited, is_posted, posted, slots_used}
use Rattle.mpd_model.specs.steps.Next.{local_at, is_enabled, enabled}
use Rattle.mpd_model.specs.steps.Why.{first_in, or_else}
use Rattle.mpd_model.specs.runs.Decisions.{names_source, is_local, is_release, is_wake, is_named_match, first_enabled, forced_step}
use Rattle.mpd_queue.specs.InOrder.{places_in, next_of}
use Rattle.mpd_match.specs.Matches.{matches_from, matches_with, matches_at, matches_on}
use Rattle.mpd_match.proofs.Listed.{candidates}
use Rattle.mpd_match.proofs.Matches.{posted_tells}
use Rattle.mpd_match.proofs.Picked.{first_joined, picked_joined, posted_picks}
use Rattle.mpd_core.proofs.EnabledLemmas.{releases, wakes}
use Rattle.mpd_policy.specs.Wide.{is_full, issues_standard, frees_slot, is_quiet, is_quiet_local}
use Rattle.mpd_policy.proofs.StepKinds.{first_from, of_parts, all_mapped, none_mapped, none_joined, no_match, one_passes, one_fails, wake_numbers, no_any, release_steps, wake_steps, named_steps, some_else, none_else}

-- ---- numbers that pass two tests

kept_both : (t : ℕ → Bool) (u : Step → Bool) (f : ℕ → Step) (xs : List ℕ) → filter u (map f (filter t xs)) ≡ map f (filter (λ p. t p && u (f p)) xs)
kept_both t u f [] = refl
kept_both t u f (x ∷ xs) = by_tests (t x) (u (f x)) refl (kept_both t u f xs)
  where
    both : List ℕ
    both = filter (λ p. t p && u (f p)) xs

    by_tests : (b c : Bool) → u (f x) ≡ c → filter u (map f (filter t xs)) ≡ map f both → filter u (map f (cond b (x ∷ filter t xs) (filter t xs))) ≡ map f (cond (b && c) (x ∷ both) both)
    by_tests true true e more = ap (λ (d : Bool). cond d (f x ∷ filter u (map f (filter t xs))) (filter u (map f (filter t xs)))) e ∙ ap (λ (ys : List Step). f x ∷ ys) more
    by_tests true false e more = ap (λ (d : Bool). cond d (f x ∷ filter u (map f (filter t xs))) (filter u (map f (filter t xs)))) e ∙ more
    by_tests false c e more = more

-- the ranks that have a quiet local step
abbrev pub quiet_number : World → ℕ → Bool
quiet_number w p = is_enabled w (Local p) && is_quiet w (Local p)

abbrev pub quiet_locals : World → List Step
quiet_locals w = map Local (filter (quiet_number w) (rank_numbers w.board))

-- ---- two tests that tell the same of all matches

mapped_same : {A : Type 0} (t u : Step → Bool) (g : A → Step) → ((x : A) → t (g x) ≡ u (g x)) → (xs : List A) → filter t (map g xs) ≡ filter u (map g xs)
mapped_same t u g each [] = refl
mapped_same t u g each (x ∷ xs) = λ i. cond (each x i) (g x ∷ mapped_same t u g each xs i) (mapped_same t u g each xs i)

joined_same : {A : Type 0} (t u : Step → Bool) (f : A → List Step) → ((x : A) → filter t (f x) ≡ filter u (f x)) → (xs : List A) → filter t (flat_map f xs) ≡ filter u (flat_map f xs)
joined_same t u f each [] = refl
joined_same t u f each (x ∷ xs) = filter-append t (f x) (flat_map f xs) ∙ (λ i. each x i ++ joined_same t u f each xs i) ∙ sym (filter-append u (f x) (flat_map f xs))

matches_same : (t u : Step → Bool) → ((s r : CallId) → t (Match s r) ≡ u (Match s r)) → (b : Board) → filter t (matches_on b) ≡ filter u (matches_on b)
matches_same t u each b =
    joined_same t u (matches_at b) (λ q.
    joined_same t u (λ j. matches_with b (call_id q j)) (λ j.
    joined_same t u (matches_from b (call_id q j)) (λ p.
    mapped_same t u (λ i. Match (call_id p i) (call_id q j)) (λ i. each (call_id p i) (call_id q j)) (candidates b p (call_id q j))) (rank_numbers b)) (call_numbers b q)) (rank_numbers b)

-- ---- the first quiet step, by kinds

pub local_kind : (w : World) → filter (is_quiet_local w) (enabled w) ≡ quiet_locals w
local_kind w =
    of_parts (is_quiet_local w) w (quiet_locals w) [] [] [] []
    (kept_both (λ p. is_enabled w (Local p)) (is_quiet_local w) Local (rank_numbers w.board))
    (one_fails (is_quiet_local w) (is_enabled w Release) Release refl)
    (none_mapped (is_quiet_local w) Wake (λ p. refl) (wake_numbers w))
    (no_any (is_quiet_local w) (λ p i. refl) w)
    (no_match (is_quiet_local w) (λ s r. refl) w.board)
    ∙ append-nil (quiet_locals w)

pub all_kinds : (w : World) → filter (is_quiet w) (enabled w) ≡ quiet_locals w ++ (releases w ++ (wakes w ++ filter (is_quiet w) (matches_on w.board)))
all_kinds w =
    of_parts (is_quiet w) w (quiet_locals w) (releases w) (wakes w) [] (filter (is_quiet w) (matches_on w.board))
    (kept_both (λ p. is_enabled w (Local p)) (is_quiet w) Local (rank_numbers w.board))
    (one_passes (is_quiet w) (is_enabled w Release) Release refl)
    (all_mapped (is_quiet w) Wake (λ p. refl) (wake_numbers w))
    (no_any (is_quiet w) (λ p i. refl) w)
    refl

-- what comes behind the local steps, and behind the release
abbrev quiet_wake : World → Option Step
quiet_wake w = or_else (first_enabled w is_wake) (first_in (filter (is_quiet w) (matches_on w.board)))

abbrev quiet_release : World → Option Step
quiet_release w = or_else (first_enabled w is_release) (quiet_wake w)

quiet_is : (w : World) → first_enabled w (is_quiet w) ≡ or_else (first_enabled w (is_quiet_local w)) (quiet_release w)
quiet_is w =
    let matches : List Step = filter (is_quiet w) (matches_on w.board) in
    ap first_in (all_kinds w)
    ∙ first_joined (quiet_locals w) (releases w ++ (wakes w ++ matches))
    ∙ ap (or_else (first_in (quiet_locals w))) (first_joined (releases w) (wakes w ++ matches) ∙ ap (or_else (first_in (releases w))) (first_joined (wakes w) matches))
    ∙ (λ i. or_else (first_in (sym (local_kind w) i)) (or_else (first_in (sym (release_steps w) i)) (or_else (first_in (sym (wake_steps w) i)) (first_in matches))))

pub local_is : (w : World) (o : Option Step) → o ≡ first_enabled w (is_quiet_local w) → is_some o ≡ true → o ≡ first_enabled w (is_quiet w)
local_is w o is some = some_else o (quiet_release w) some ∙ ap (λ (x : Option Step). or_else x (quiet_release w)) is ∙ sym (quiet_is w)

no_local : (w : World) (o : Option Step) → o ≡ first_enabled w (is_quiet_local w) → is_some o ≡ false → quiet_release w ≡ first_enabled w (is_quiet w)
no_local w o is none = none_else o (quiet_release w) none ∙ ap (λ (x : Option Step). or_else x (quiet_release w)) is ∙ sym (quiet_is w)

pub release_is : (w : World) (o p : Option Step) → o ≡ first_enabled w (is_quiet_local w) → is_some o ≡ false → p ≡ first_enabled w is_release → is_some p ≡ true → p ≡ first_enabled w (is_quiet w)
release_is w o p is none at some = some_else p (quiet_wake w) some ∙ ap (λ (x : Option Step). or_else x (quiet_wake w)) at ∙ no_local w o is none

no_release : (w : World) (o p : Option Step) → o ≡ first_enabled w (is_quiet_local w) → is_some o ≡ false → p ≡ first_enabled w is_release → is_some p ≡ false → quiet_wake w ≡ first_enabled w (is_quiet w)
no_release w o p is none at gone = none_else p (quiet_wake w) gone ∙ ap (λ (x : Option Step). or_else x (quiet_wake w)) at ∙ no_local w o is none

pub wake_is : (w : World) (o p q : Option Step) → o ≡ first_enabled w (is_quiet_local w) → is_some o ≡ false → p ≡ first_enabled w is_release → is_some p ≡ false → q ≡ first_enabled w is_wake → is_some q ≡ true
    → q ≡ first_enabled w (is_quiet w)
wake_is w o p q is none at gone up some =
    some_else q (first_in (filter (is_quiet w) (matches_on w.board))) some
    ∙ ap (λ (x : Option Step). or_else x (first_in (filter (is_quiet w) (matches_on w.board)))) up
    ∙ no_release w o p is none at gone

pub match_is : (w : World) (o p q m : Option Step) → o ≡ first_enabled w (is_quiet_local w) → is_some o ≡ false → p ≡ first_enabled w is_release → is_some p ≡ false → q ≡ first_enabled w is_wake → is_some q ≡ false
    → m ≡ first_in (filter (is_quiet w) (matches_on w.board)) → m ≡ first_enabled w (is_quiet w)
match_is w o p q m is none at gone up down found =
    found
    ∙ none_else q (first_in (filter (is_quiet w) (matches_on w.board))) down
    ∙ ap (λ (x : Option Step). or_else x (first_in (filter (is_quiet w) (matches_on w.board)))) up
    ∙ no_release w o p is none at gone

pub ruleset by_kinds = (local_is, release_is, wake_is, match_is)

-- ---- where buffers never run out

pub never_full : (mode : Mode) (held : ℕ) → is_limited mode ≡ false → is_full mode held ≡ false
never_full (Slots count) held e = absurd (cc)
never_full mode held e = refl

pub local_same : (w : World) → is_limited w.board.mode ≡ false → (a : Step) → is_quiet_local w a ≡ is_local a
local_same w ample (Local p) = ap (λ (b : Bool). not (b && issues_standard (local_at w p))) (never_full w.board.mode (slots_used w.board p) ample)
local_same w ample a = refl

pub named_same : (w : World) → is_limited w.board.mode ≡ false → (s r : CallId) → is_named_match w.board (Match s r) ≡ is_quiet w (Match s r)
named_same w ample s r =
    sym (ap (λ (t : Bool). names_source (kind_at w.board r) && not (t && is_buffered (kind_at w.board s))) ample ∙ and-true (names_source (kind_at w.board r)))

named_quiet : (w : World) → is_limited w.board.mode ≡ false → first_enabled w (is_named_match w.board) ≡ first_in (filter (is_quiet w) (matches_on w.board))
named_quiet w ample = ap first_in (named_steps w ∙ matches_same (is_named_match w.board) (is_quiet w) (named_same w ample) w.board)

-- the first quiet step is the one that nobody has to choose
pub quiet_first : (w : World) → is_limited w.board.mode ≡ false → first_enabled w (is_quiet w) ≡ forced_step w
quiet_first w ample =
    quiet_is w
    ∙ (λ i. or_else (first_in (filter (λ a. local_same w ample a i) (enabled w))) (or_else (first_enabled w is_release) (or_else (first_enabled w is_wake) (sym (named_quiet w ample) i))))

pub where_ample : (w : World) (b : Board) (limited : Bool) (o : Option Step) → b ≡ w.board → limited ≡ is_limited b.mode → limited ≡ false → o ≡ forced_step w → o ≡ first_enabled w (is_quiet w)
where_ample w b limited o board is none e = e ∙ sym (quiet_first w (ap (λ (c : Board). is_limited c.mode) (sym board) ∙ sym is ∙ none))

-- ---- the quiet matches of a receive

abbrev pub quiet_from : World → CallId → ℕ → List Step
quiet_from w r p = filter (is_quiet w) (matches_from w.board r p)

abbrev pub quiet_with : World → CallId → List Step
quiet_with w r = filter (is_quiet w) (matches_with w.board r)

abbrev pub quiet_at : World → ℕ → List Step
quiet_at w q = filter (is_quiet w) (matches_at w.board q)

found_are : (w : World) (b : Board) (p : ℕ) (r : CallId) (found : Option ℕ) → b ≡ w.board → candidates b p r ≡ option_to_list found → quiet_from w r p ≡ filter (is_quiet w) (map (λ i. Match (call_id p i) r) (option_to_list found))
found_are w b p r found board listed = ap (λ (is : List ℕ). filter (is_quiet w) (map (λ i. Match (call_id p i) r) is)) (subst (λ (c : Board). candidates c p r ≡ option_to_list found) board listed)

pub from_none : (w : World) (b : Board) (p : ℕ) (r : CallId) (found : Option ℕ) → b ≡ w.board → candidates b p r ≡ option_to_list found → found ≡ None → None ≡ first_in (quiet_from w r p)
from_none w b p r found board listed none =
    sym (ap first_in (found_are w b p r found board listed) ∙ ap (λ (o : Option ℕ). first_in (filter (is_quiet w) (map (λ i. Match (call_id p i) r) (option_to_list o)))) none)

one_is : (w : World) (b : Board) (p i : ℕ) (r : CallId) (found : Option ℕ) (is : Bool) → b ≡ w.board → candidates b p r ≡ option_to_list found → found ≡ Some i → is ≡ is_quiet w (Match (call_id p i) r)
    → first_in (cond is (Match (call_id p i) r ∷ []) []) ≡ first_in (quiet_from w r p)
one_is w b p i r found is board listed some e =
    sym (ap first_in (found_are w b p r found board listed)
    ∙ ap (λ (o : Option ℕ). first_in (filter (is_quiet w) (map (λ i. Match (call_id p i) r) (option_to_list o)))) some
    ∙ ap (λ (c : Bool). first_in (cond c (Match (call_id p i) r ∷ []) [])) (sym e))

pub from_quiet : (w : World) (b : Board) (p i : ℕ) (r : CallId) (found : Option ℕ) (is : Bool) → b ≡ w.board → candidates b p r ≡ option_to_list found → found ≡ Some i → is ≡ is_quiet w (Match (call_id p i) r) → is ≡ true
    → Some (Match (call_id p i) r) ≡ first_in (quiet_from w r p)
from_quiet w b p i r found is board listed some e hits = sym (ap (λ (c : Bool). first_in (cond c (Match (call_id p i) r ∷ []) [])) hits) ∙ one_is w b p i r found is board listed some e

pub from_other : (w : World) (b : Board) (p i : ℕ) (r : CallId) (found : Option ℕ) (is : Bool) → b ≡ w.board → candidates b p r ≡ option_to_list found → found ≡ Some i → is ≡ is_quiet w (Match (call_id p i) r) → is ≡ false
    → None ≡ first_in (quiet_from w r p)
from_other w b p i r found is board listed some e misses = sym (ap (λ (c : Bool). first_in (cond c (Match (call_id p i) r ∷ []) [])) misses) ∙ one_is w b p i r found is board listed some e

pub ruleset from_one = (from_none, from_quiet, from_other)

-- of a receive of any source none is
pub of_any : (w : World) (b : Board) (r : CallId) (k : Option CallKind) (named : Bool) → b ≡ w.board → k ≡ kind_at b r → named ≡ names_source k → named ≡ false → None ≡ first_in (quiet_with w r)
of_any w b r k named board kind is other =
    let any : names_source (kind_at w.board r) ≡ false = ap (λ (c : Board). names_source (kind_at c r)) (sym board) ∙ ap names_source (sym kind) ∙ sym is ∙ other in
    sym (ap first_in (none_joined (is_quiet w) (matches_from w.board r) (λ p.
    none_mapped (is_quiet w) (λ i. Match (call_id p i) r) (λ i. ap (λ (c : Bool). c && not (frees_slot w.board (call_id p i))) any) (candidates w.board p r)) (rank_numbers w.board)))

-- ---- those of all senders, of all receives, and of all receivers

pub with_all : (w : World) (r : CallId) → flat_map (quiet_from w r) (rank_numbers w.board) ≡ quiet_with w r
with_all w r = sym (picked_joined (is_quiet w) (matches_from w.board r) (rank_numbers w.board))

pub at_all : (w : World) (q : ℕ) → flat_map (λ j. quiet_with w (call_id q j)) (posted w.board q) ≡ quiet_at w q
at_all w q = posted_picks (λ b. is_quiet w) w.board q ∙ sym (picked_joined (is_quiet w) (λ j. matches_with w.board (call_id q j)) (call_numbers w.board q))

pub on_all : (w : World) → flat_map (quiet_at w) (rank_numbers w.board) ≡ filter (is_quiet w) (matches_on w.board)
on_all w = sym (picked_joined (is_quiet w) (matches_at w.board) (rank_numbers w.board))

-- where the walk has come to the end, none is found
pub none_left : (f : ℕ → List Step) (i n : ℕ) (total : Option Step) → n ≤ i → first_in (flat_map f (range_with_len i (n - i))) ≡ total → None ≡ total
none_left f i n total le e = let k : 0 ≡ n - i = omega (arith, le) in ap (λ (m : ℕ). first_in (flat_map f (range_with_len i m))) k ∙ e

-- ---- the quiet local step of the lowest rank that has one

pub local_begins : (w : World) (n : ℕ) → n ≡ length w.board.calls → first_from (quiet_number w) Local 0 (n - 0) ≡ first_enabled w (is_quiet_local w)
local_begins w n e = let k : n - 0 ≡ length w.board.calls = omega (arith, e) in ap (first_from (quiet_number w) Local 0) k ∙ ap first_in (sym (local_kind w))

-- the next along the line of free receives
pub next_is : (w : World) (b : Board) (q i : ℕ) (o : Option ℕ) → b ≡ w.board → 0 < places_in (posted w.board q) i → (is_posted b q i ≡ true → o ≡ next_of (posted b q) i) → o ≡ next_of (posted w.board q) i
next_is w b q i o board stands next = subst (λ (c : Board). is_posted c q i ≡ true → o ≡ next_of (posted c q) i) board next (posted_tells w.board q i stands)
