-- The list of steps has every step that leads to a world, and `outcome` asks every step.
use Rattle.std.proofs.Common.{◌≡◌, ◌↔◌, ℕ, ◌+◌, ◌<◌, nat_lt, Bool, true, false, cond, ◌||◌, List, [], ◌∷◌, ◌++◌, length, map, slice_get, Option, Some, None, is_some, is_none, option_and_then, inl, inr, refl, sym, ap, ◌∙◌, arith}
use Rattle.mpd_laws.proofs.ordered.Eligible.{clash}
use Rattle.std.specs.Prelude.{IsSome}
use Rattle.std.specs.Option.{option_map}
use Rattle.std.specs.List.{list_any, range_with_len, Contains}
use Rattle.std.proofs.lemmas.Bool.{ltb-true, and_parts}
use Rattle.std.proofs.lemmas.Option.{slice_get_within}
use Rattle.mpd_model.specs.declared.step.CallId.{CallId}
use Rattle.mpd_model.specs.declared.step.Step.{Step}
use Rattle.mpd_model.specs.declared.step.Step.TheVariants.{Local, Match, Wake, WakeAny, Release}
use Rattle.mpd_model.specs.declared.call.Call.{Call}
use Rattle.mpd_model.specs.declared.call.CallKind.{CallKind}
use Rattle.mpd_model.specs.declared.call.CallKind.TheVariants.{Waitany}
use Rattle.mpd_model.specs.declared.call.MatchSet.TheVariants.{Pair}
use Rattle.mpd_model.specs.declared.outcome.Outcome.{Outcome}
use Rattle.mpd_model.specs.steps.World.{World, Board, RankWorld, call_id, calls_of, listed_calls, kind_of, kind_at, rank_numbers, call_numbers, is_message_kind, partner, is_free, eligible, complete, last_call}
use Rattle.mpd_model.specs.steps.Next.{local, local_at, stepped, waits, can_wake, woken, with_set, next, is_enabled, requests_of, request_handle, held_in, any_call, is_complete_some, can_wake_any, woken_any, any_wakes_of, any_wakes_in, matches_with, matches_of, matches_in, steps_of, enabled}
use Rattle.mpd_model.specs.steps.Outcomes.{ending, outcome}
use Rattle.mpd_meaning.specs.StepLaws.{HasCalls, IsEndedSo}
use Rattle.mpd_meaning.proofs.listed.Members.{In, in_contains, contains_in, in_left, in_right, in_map, in_flat, in_range, in_filter, filter_from}

-- ---- tests

pub if_some : {A : Type 0} (b : Bool) (x : A) → is_some (cond b (Some x) None) ≡ true → b ≡ true
if_some true x e = refl
if_some false x e = cc

mapped_some : {A B : Type 0} (f : A → B) (o : Option A) → is_some (option_map f o) ≡ true → is_some o ≡ true
mapped_some f None e = cc
mapped_some f (Some x) e = refl

joined_some : {A B : Type 0} (f : A → Option B) (o : Option A) → is_some (option_and_then f o) ≡ true → is_some o ≡ true
joined_some f None e = cc
joined_some f (Some x) e = refl

-- ---- what is there has a number within the list

some_within : {A : Type 0} (xs : List A) (i : ℕ) → is_some (slice_get xs i) ≡ true → i < length xs
some_within xs i e = known (slice_get xs i) refl e
  where
    known : (o : Option _) → slice_get xs i ≡ o → is_some o ≡ true → i < length xs
    known None is e = absurd (cc)
    known (Some x) is e = slice_get_within xs i x is

kind_some : (o : Option Call) → is_message_kind (kind_of o) ≡ true → is_some o ≡ true
kind_some None e = cc
kind_some (Some c) e = refl

-- a rank with a call has a list of calls
has_list : (o : Option (List Call)) (i : ℕ) → is_some (slice_get (listed_calls o) i) ≡ true → is_some o ≡ true
has_list None i e = absurd (cc)
has_list (Some calls) i e = refl

record IsIssued (b : Board) (c : CallId) : Type 0 where
  rank : In (rank_numbers b) c.rank
  index : In (call_numbers b c.rank) c.index

issued : (b : Board) (c : CallId) → is_free b c ≡ true → IsIssued b c
issued b c e =
    let known : is_some (slice_get (calls_of b c.rank) c.index) ≡ true = kind_some (slice_get (calls_of b c.rank) c.index) (and_parts (is_message_kind (kind_at b c)) (is_none (partner b.sets c)) e).0 in
    let within = some_within (calls_of b c.rank) c.index known in
    let rank = some_within b.calls c.rank (has_list (slice_get b.calls c.rank) c.index known) in
    record { rank = in_range 0 (length b.calls) c.rank (omega arith) (omega (arith, rank)); index = in_range 0 (length (calls_of b c.rank)) c.index (omega arith) (omega (arith, within)) }

rank_listed : (w : World) → HasCalls w → (p : ℕ) → is_some (slice_get w.ranks p) ≡ true → In (rank_numbers w.board) p
rank_listed w h p e = let within = some_within w.ranks p e in in_range 0 (length w.board.calls) p (omega arith) (omega (arith, h, within))

waits_some : (o : Option RankWorld) → waits o ≡ true → is_some o ≡ true
waits_some None e = cc
waits_some (Some r) e = refl

-- ---- every step that leads to a world is listed

match_listed : (b : Board) (s r : CallId) → IsIssued b s → IsIssued b r → In (matches_in b) (Match s r)
match_listed b s r hs hr =
    in_flat (matches_of b) (rank_numbers b) r.rank (Match s r) hr.rank
    (in_flat (λ j. matches_with b (call_id r.rank j)) (call_numbers b r.rank) r.index (Match s r) hr.index
    (in_flat (λ p. map (λ i. Match (call_id p i) r) (call_numbers b p)) (rank_numbers b) s.rank (Match s r) hs.rank
    (in_map (λ i. Match (call_id s.rank i) r) (call_numbers b s.rank) s.index hs.index)))

-- a request that is there has an index below their number
has_index : (b : Board) (p i : ℕ) (k : Option CallKind) (r : Option RankWorld) → is_complete_some b (held_in p r (request_handle k i)) ≡ true → i < requests_of k
has_index b p i (Some (Waitany a)) r e = ltb-true i a.count (below r (nat_lt i a.count) e)
  where
    below : (r : Option RankWorld) (c : Bool) → is_complete_some b (held_in p r (cond c (Some (a.first + i)) None)) ≡ true → c ≡ true
    below r true e = refl
    below (Some r) false e = absurd (cc)
    below None false e = absurd (cc)
has_index b p i k (Some r) e = absurd (cc)
has_index b p i k None e = absurd (cc)

pub listed : (w : World) → HasCalls w → (a : Step) → is_some (next w a) ≡ true → In (steps_of w) a
listed w h (Local p) e =
    let ranks = rank_numbers w.board in
    in_left (map Local ranks) (Release ∷ (map Wake ranks ++ (any_wakes_in w.board ++ matches_in w.board))) (Local p)
    (in_map Local ranks p (rank_listed w h p (joined_some (local p (length w.ranks) (length (calls_of w.board p))) (slice_get w.ranks p) (mapped_some (stepped w p) (local_at w p) e))))
listed w h Release e =
    let ranks = rank_numbers w.board in
    in_right (map Local ranks) (Release ∷ (map Wake ranks ++ (any_wakes_in w.board ++ matches_in w.board))) Release (inl refl)
listed w h (Wake p) e =
    let ranks = rank_numbers w.board in
    let ready = and_parts (waits (slice_get w.ranks p)) (complete w.board (last_call w.board p)) (if_some (can_wake w p) (woken w p) e) in
    in_right (map Local ranks) (Release ∷ (map Wake ranks ++ (any_wakes_in w.board ++ matches_in w.board))) (Wake p)
    (inr (in_left (map Wake ranks) (any_wakes_in w.board ++ matches_in w.board) (Wake p) (in_map Wake ranks p (rank_listed w h p (waits_some (slice_get w.ranks p) ready.0)))))
listed w h (WakeAny p i) e =
    let ranks = rank_numbers w.board in
    let last = kind_at w.board (last_call w.board p) in
    let ready = and_parts (waits (slice_get w.ranks p)) (is_complete_some w.board (any_call w p i)) (if_some (can_wake_any w p i) (woken_any w p i) e) in
    let within = has_index w.board p i last (slice_get w.ranks p) ready.1 in
    in_right (map Local ranks) (Release ∷ (map Wake ranks ++ (any_wakes_in w.board ++ matches_in w.board))) (WakeAny p i)
    (inr (in_right (map Wake ranks) (any_wakes_in w.board ++ matches_in w.board) (WakeAny p i)
    (in_left (any_wakes_in w.board) (matches_in w.board) (WakeAny p i)
    (in_flat (any_wakes_of w.board) ranks p (WakeAny p i) (rank_listed w h p (waits_some (slice_get w.ranks p) ready.0))
    (in_map (WakeAny p) (range_with_len 0 (requests_of last)) i (in_range 0 (requests_of last) i (omega arith) (omega (arith, within))))))))
listed w h (Match s r) e =
    let ranks = rank_numbers w.board in
    let one = and_parts (is_free w.board s) _ (if_some (eligible w.board s r) (record w { board = with_set w.board (Pair s r) }) e) in
    let two = and_parts (is_free w.board r) _ one.1 in
    in_right (map Local ranks) (Release ∷ (map Wake ranks ++ (any_wakes_in w.board ++ matches_in w.board))) (Match s r)
    (inr (in_right (map Wake ranks) (any_wakes_in w.board ++ matches_in w.board) (Match s r)
    (in_right (any_wakes_in w.board) (matches_in w.board) (Match s r) (match_listed w.board s r (issued w.board s one.0) (issued w.board r two.0)))))

pub listed_exactly : (w : World) → HasCalls w → (a : Step) → Contains (enabled w) a ↔ IsSome (next w a)
listed_exactly w h a = (
  λ c. (filter_from (is_enabled w) (steps_of w) a (in_contains (enabled w) a c)).1,
  λ e. contains_in (enabled w) a (in_filter (is_enabled w) (steps_of w) a e (listed w h a e)),
)

-- ---- outcomes

not_some : {A : Type 0} (o : Option A) → o ≡ None → is_some o ≡ false
not_some o e = ap is_some e

-- a test that some member passes, and one that none does
pub any_in : {A : Type 0} (t : A → Bool) (xs : List A) (x : A) → In xs x → t x ≡ true → list_any t xs ≡ true
any_in t [] x h e = absurd h
any_in t (y ∷ ys) x (inl same) e = ap (λ (b : Bool). b || list_any t ys) (ap t same ∙ e)
any_in t (y ∷ ys) x (inr h) e = or_true (t y) (list_any t ys) (any_in t ys x h e)
  where
    or_true : (a b : Bool) → b ≡ true → (a || b) ≡ true
    or_true true b e = refl
    or_true false b e = e

here_or_later : {A : Type 0} (b : Bool) (t : A → Bool) (y : A) (ys : List A) → (list_any t ys ≡ true → (x : A) × (t x ≡ true)) → t y ≡ b → (b || list_any t ys) ≡ true → (x : A) × (t x ≡ true)
here_or_later true t y ys more is e = (y, is)
here_or_later false t y ys more is e = more e

any_from : {A : Type 0} (t : A → Bool) (xs : List A) → list_any t xs ≡ true → (x : A) × (t x ≡ true)
any_from t [] e = absurd (cc)
any_from t (y ∷ ys) e = here_or_later (t y) t y ys (λ f. any_from t ys f) refl e

no_world : (o : Option World) → (is_some o ≡ true → ⊥) → o ≡ None
no_world None h = refl
no_world (Some v) h = absurd (h refl)

-- the outcome by whether some step is enabled
outcome_by : Bool → World → Option Outcome
outcome_by true w = None
outcome_by false w = Some (ending w)

outcome_is : (w : World) (b : Bool) → list_any (is_enabled w) (steps_of w) ≡ b → outcome w ≡ outcome_by b w
unfolding outcome_by
outcome_is w true e = ap (λ (b : Bool). cond (cond b false true) (Some (ending w)) None) e
outcome_is w false e = ap (λ (b : Bool). cond (cond b false true) (Some (ending w)) None) e

pub ended_so : (w : World) → HasCalls w → IsEndedSo w
unfolding outcome_by
ended_so w h = by_test (list_any (is_enabled w) (steps_of w)) refl
  where
    by_test : (b : Bool) → list_any (is_enabled w) (steps_of w) ≡ b → IsEndedSo w
    by_test true e =
        let some = any_from (is_enabled w) (steps_of w) e in
        let is : outcome w ≡ None = outcome_is w true e in
        record {
          ended = (λ o. absurd (let clash : None ≡ Some (ending w) = sym is ∙ o in cc), λ all. absurd (clash some.1 (not_some (next w some.0) (all some.0))));
          goes_on = (λ o. some, λ s. is);
        }
    by_test false e =
        let is : outcome w ≡ Some (ending w) = outcome_is w false e in
        let none : (a : Step) → is_some (next w a) ≡ true → ⊥ = λ a f. clash (any_in (is_enabled w) (steps_of w) a (listed w h a f) f) e in
        record {
          ended = (λ o a. no_world (next w a) (none a), λ all. is);
          goes_on = (λ o. absurd (let clash : Some (ending w) ≡ None = sym is ∙ o in cc), λ s. absurd (none s.0 s.1));
        }
