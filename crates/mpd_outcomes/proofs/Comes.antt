-- In worlds that are alike the same steps are enabled, the same comes next, and they end alike.
use Rattle.std.proofs.Common.{◌≡◌, ℕ, zero, suc, Bool, true, false, cond, ◌&&◌, not, nat_lt, Option, Some, None, is_some, option_and_then, List, [], ◌∷◌, ◌++◌, map, slice_get, inl, refl, sym, ap, ◌∙◌}
use Rattle.std.specs.Prelude.{slice_index_or}
use Rattle.std.proofs.lemmas.Bool.{and_parts}
use Rattle.std.specs.Option.{option_map}
use Rattle.std.specs.List.{filter, flat_map, list_all, range_with_len}
use Rattle.mpd_laws.proofs.ordered.Splits.{mapped_from}
use Rattle.mpd_model.specs.declared.step.CallId.{CallId}
use Rattle.mpd_model.specs.declared.step.Step.{Step}
use Rattle.mpd_model.specs.declared.step.Step.TheVariants.{Local, Match, Wake, WakeAny, Release}
use Rattle.mpd_model.specs.declared.call.Call.{Call}
use Rattle.mpd_model.specs.declared.call.CallKind.{CallKind}
use Rattle.mpd_model.specs.declared.call.CallKind.TheVariants.{Send, Recv}
use Rattle.mpd_model.specs.declared.decision.Decision.TheVariants.{Leaf}
use Rattle.mpd_model.specs.declared.outcome.Outcome.{Outcome}
use Rattle.mpd_model.specs.declared.outcome.Outcome.TheVariants.{Deadlock}
use Rattle.mpd_model.specs.declared.outcome.IssuedCall.{IssuedCall}
use Rattle.mpd_model.specs.declared.outcome.TrappedRank.{TrappedRank}
use Rattle.mpd_model.specs.steps.World.{World, RankWorld, call_id, kind_at, rank_numbers, call_numbers, is_message_kind, is_free, is_limited, is_buffered, eligible, awaited_by, has_own_step, is_barrier, complete_by, complete, last_call, Board}
use Rattle.mpd_model.specs.steps.Next.{Ran, local_at, stepped, waits, can_wake, woken, requests_of, request_handle, held_in, any_handle, any_call, is_complete_some, can_wake_any, woken_any, is_at_barrier, can_release, released, is_enabled, any_wakes_of, any_wakes_in, matches_in, steps_of, enabled}
use Rattle.mpd_model.specs.steps.Outcomes.{statement_of, issued_by, issued_call, has_ended, free_of, free_calls, traps_at, traps_in, blocked_at, blocked_calls, ended_with, ending_by, ending}
use Rattle.mpd_model.specs.steps.Why.{first_in, or_else}
use Rattle.mpd_policy.specs.Wide.{is_full, issues_standard, lacks_slot, is_quiet, wide_decided, wide_decision}
use Rattle.mpd_model.specs.runs.Decisions.{is_local, is_release, is_wake, any_rank, names_source, takes_any, is_named_match, is_open_match, first_enabled, forced_step, is_of, or_those, choices, chosen_from, decided, decision}
use Rattle.mpd_outcomes.specs.Future.{quieted, open_call, seen, last_statement}
use Rattle.mpd_outcomes.proofs.Alike.{IsHeld, Alike, Tidy}
use Rattle.mpd_outcomes.proofs.Quiet.{quiet}
use Rattle.mpd_outcomes.proofs.Asked.{open_kind, free_is, open_is, opened_is, filter_same, kind_told, done_told, asks_alike, asks, numbers, ranks_numbered, eligible_alike, slots_alike, last_alike, waits_alike, local_alike, last_seen, can_wake_alike}

-- ---- lists

pub filter_joined : {A : Type 0} (t : A → Bool) (xs ys : List A) → filter t (xs ++ ys) ≡ filter t xs ++ filter t ys
filter_joined t [] ys = refl
filter_joined {A = A} t (x ∷ xs) ys = one (t x) (filter_joined t xs ys)
  where
    one : (b : Bool) → filter t (xs ++ ys) ≡ filter t xs ++ filter t ys → cond b (x ∷ filter t (xs ++ ys)) (filter t (xs ++ ys)) ≡ cond b (x ∷ filter t xs) (filter t xs) ++ filter t ys
    one true e = ap (λ (l : List A). x ∷ l) e
    one false e = e

filter_flat : {A B : Type 0} (t : B → Bool) (f : A → List B) (xs : List A) → filter t (flat_map f xs) ≡ flat_map (λ x. filter t (f x)) xs
filter_flat t f [] = refl
filter_flat t f (x ∷ xs) = filter_joined t (f x) (flat_map f xs) ∙ ap (λ l. filter t (f x) ++ l) (filter_flat t f xs)

none_pass : {A B : Type 0} (t : B → Bool) (f : A → B) (xs : List A) → ((x : A) → t (f x) ≡ false) → filter t (map f xs) ≡ []
none_pass t f [] h = refl
none_pass t f (x ∷ xs) h = (λ j. cond (h x j) (f x ∷ filter t (map f xs)) (filter t (map f xs))) ∙ none_pass t f xs h

-- ---- options

some_cond : {A : Type 0} (b : Bool) (x : A) → is_some (cond b (Some x) None) ≡ b
some_cond true x = refl
some_cond false x = refl

some_map : {A B : Type 0} (f : A → B) (o : Option A) → is_some (option_map f o) ≡ is_some o
some_map f None = refl
some_map f (Some x) = refl

message_awaits_itself : (c : CallId) (k : Option CallKind) → is_message_kind k ≡ true → awaited_by c k ≡ Some c
message_awaits_itself c (Some (Send s)) e = refl
message_awaits_itself c (Some (Recv r)) e = refl
message_awaits_itself c k e = absurd (cc)

held_rank : (p : ℕ) (r : Option RankWorld) (h : Option ℕ) (c : CallId) → held_in p r h ≡ Some c → c.rank ≡ p
held_rank p (Some r) (Some h) c e = let m = mapped_from (call_id p) (slice_index_or r.handles h None) c e in sym (ap (λ (x : CallId). x.rank) m.2)
held_rank p r h c e = absurd (cc)

held_quiet : (b : Board) (p : ℕ) (r : Option RankWorld) (h : Option ℕ) → held_in p (option_map (quieted b p) r) h ≡ held_in p r h
held_quiet b p None h = refl
held_quiet b p (Some r) None = refl
held_quiet b p (Some r) (Some h) = refl

traps_quiet : (b : Board) (p : ℕ) (o : Option RankWorld) → traps_at p (option_map (quieted b p) o) ≡ traps_at p o
traps_quiet b p None = refl
traps_quiet b p (Some r) = refl

abbrev last_if : CallId → ℕ → Bool → List IssuedCall
last_if c number b = cond b (issued_by number c ∷ []) []

blocked_by_last : (x : World) (p : ℕ) (o : Option RankWorld) → last_if (last_call x.board p) (last_statement x.board p) (waits o) ≡ blocked_at x p o
blocked_by_last x p None = refl
blocked_by_last x p (Some r) = refl

ended_quiet : (b : Board) (p : ℕ) (o : Option RankWorld) → option_map has_ended (option_map (quieted b p) o) ≡ option_map has_ended o
ended_quiet b p None = refl
ended_quiet b p (Some r) = refl

-- what is made of those that pass a test is asked of no other
map_passed : {A : Type 0} (t : ℕ → Bool) (f g : ℕ → A) (xs : List ℕ) → ((i : ℕ) → t i ≡ true → f i ≡ g i) → map f (filter t xs) ≡ map g (filter t xs)
map_passed t f g [] h = refl
map_passed {A = A} t f g (x ∷ xs) h = one (t x) refl (map_passed t f g xs h)
  where
    one : (b : Bool) → t x ≡ b → map f (filter t xs) ≡ map g (filter t xs) → map f (cond b (x ∷ filter t xs) (filter t xs)) ≡ map g (cond b (x ∷ filter t xs) (filter t xs))
    one true e more = λ j. h x e j ∷ more j
    one false e more = more

-- a free call as its end tells it, read off what is open
abbrev open_issued : Option Call → CallId → IssuedCall
open_issued o c = issued_by (statement_of o) c

free_opened : (b : Board) (p : ℕ) → free_of b p ≡ map (λ i. open_issued (open_call b (call_id p i)) (call_id p i)) (filter (λ i. is_some (open_kind b (call_id p i))) (call_numbers b p))
free_opened b p =
    map_passed (λ i. is_free b (call_id p i)) (λ i. issued_call b (call_id p i)) (λ i. open_issued (open_call b (call_id p i)) (call_id p i)) (call_numbers b p)
    (λ i e. ap (λ (o : Option Call). open_issued o (call_id p i)) (sym (opened_is b (call_id p i) e)))
    ∙ (λ j. map (λ i. open_issued (open_call b (call_id p i)) (call_id p i)) (filter (λ i. free_is b (call_id p i) j) (call_numbers b p)))

all_mapped : {A : Type 0} (t : A → Bool) (xs : List A) → list_all (λ b. b) (map t xs) ≡ list_all t xs
all_mapped t [] = refl
all_mapped t (x ∷ xs) = ap (λ (b : Bool). t x && b) (all_mapped t xs)

pub read_map : {A B : Type 0} (f : A → B) (xs : List A) (p : ℕ) → slice_get (map f xs) p ≡ option_map f (slice_get xs p)
read_map f [] p = refl
read_map f (x ∷ xs) zero = refl
read_map f (x ∷ xs) (suc p) = read_map f xs p

pub listed_same : {A : Type 0} (xs ys : List A) → ((p : ℕ) → slice_get xs p ≡ slice_get ys p) → xs ≡ ys
listed_same [] [] h = refl
listed_same [] (y ∷ ys) h = let e : None ≡ Some y = h 0 in absurd (cc)
listed_same (x ∷ xs) [] h = let e : Some x ≡ None = h 0 in absurd (cc)
listed_same (x ∷ xs) (y ∷ ys) h = let first : Some x ≡ Some y = h 0 in let e : x ≡ y = cc in λ i. e i ∷ listed_same xs ys (λ p. h (suc p)) i

module _ (w v : World) (h : Alike w v) (tidy_w : Tidy w) (tidy_v : Tidy v) where
  -- ---- a waitany's requests

  abbrev kind_same : {A : Type 0} (f : Option CallKind → A) → Type 0
  kind_same f = (p : ℕ) → waits (slice_get w.ranks p) ≡ true → f (kind_at w.board (last_call w.board p)) ≡ f (kind_at v.board (last_call v.board p))

  pub handle_alike : (i : ℕ) → kind_same (λ k. request_handle k i)
  handle_alike i p e = kind_told (λ k. request_handle k i) (λ s. refl) (λ r. refl) w.board v.board (last_call w.board p) (last_call v.board p) (last_seen w v h p e)

  pub held_alike : (p : ℕ) (n : Option ℕ) → held_in p (slice_get w.ranks p) n ≡ held_in p (slice_get v.ranks p) n
  held_alike p n = sym (held_quiet w.board p (slice_get w.ranks p) n) ∙ ap (λ (r : Option RankWorld). held_in p r n) (h.ranks p) ∙ held_quiet v.board p (slice_get v.ranks p) n

  pub any_call_alike : (p i : ℕ) → waits (slice_get w.ranks p) ≡ true → any_call w p i ≡ any_call v p i
  any_call_alike p i e = held_alike p (any_handle w p i) ∙ ap (held_in p (slice_get v.ranks p)) (handle_alike i p e)

  -- a call that is held
  pub is_held : (x : World) (p : ℕ) (n : Option ℕ) (c : CallId) → held_in p (slice_get x.ranks p) n ≡ Some c → IsHeld x c
  is_held x p (Some n) c e =
      let at : c.rank ≡ p = held_rank p (slice_get x.ranks p) (Some n) c e in
      (n, ap (λ (q : ℕ). held_in q (slice_get x.ranks q) (Some n)) at ∙ e)
  is_held x p None c e = absurd (nothing_held (slice_get x.ranks p) e)
    where
      nothing_held : (r : Option RankWorld) → held_in p r None ≡ Some c → ⊥
      nothing_held None f = cc
      nothing_held (Some r) f = cc

  held_complete : (c : CallId) → IsHeld w c → IsHeld v c → complete w.board c ≡ complete v.board c
  held_complete c hw hv =
      let told : seen w.board c ≡ seen v.board c = h.due c (inl hw) in
      (λ j. not (kind_told has_own_step (λ s. refl) (λ r. refl) w.board v.board c c told j) && complete_by w.board (message_awaits_itself c (kind_at w.board c) (tidy_w.held c hw) j))
      ∙ (λ j. not (has_own_step (kind_at v.board c)) && done_told w.board v.board c told j)
      ∙ (λ j. not (has_own_step (kind_at v.board c)) && complete_by v.board (sym (message_awaits_itself c (kind_at v.board c) (tidy_v.held c hv)) j))

  some_complete : (o : Option CallId) → ((c : CallId) → o ≡ Some c → IsHeld w c) → ((c : CallId) → o ≡ Some c → IsHeld v c) → is_complete_some w.board o ≡ is_complete_some v.board o
  some_complete None kw kv = refl
  some_complete (Some c) kw kv = held_complete c (kw c refl) (kv c refl)

  any_complete : (p i : ℕ) → waits (slice_get w.ranks p) ≡ true → is_complete_some w.board (any_call w p i) ≡ is_complete_some v.board (any_call v p i)
  any_complete p i e =
      some_complete (any_call w p i) (λ c is. is_held w p (any_handle w p i) c is) (λ c is. is_held v p (any_handle v p i) c (sym (any_call_alike p i e) ∙ is))
      ∙ ap (is_complete_some v.board) (any_call_alike p i e)

  pub can_wake_any_alike : (p i : ℕ) → can_wake_any w p i ≡ can_wake_any v p i
  can_wake_any_alike p i = both (waits (slice_get w.ranks p)) refl
    where
      both : (b : Bool) → waits (slice_get w.ranks p) ≡ b → can_wake_any w p i ≡ can_wake_any v p i
      both true e = λ j. waits_alike w v h p j && any_complete p i e j
      both false e = (λ j. e j && is_complete_some w.board (any_call w p i)) ∙ (λ j. sym (sym (waits_alike w v h p) ∙ e) j && is_complete_some v.board (any_call v p i))

  -- ---- a release

  at_barrier_alike : (p : ℕ) → is_at_barrier w p ≡ is_at_barrier v p
  at_barrier_alike p = both (waits (slice_get w.ranks p)) refl
    where
      both : (b : Bool) → waits (slice_get w.ranks p) ≡ b → is_at_barrier w p ≡ is_at_barrier v p
      both true e = λ j. waits_alike w v h p j && kind_told is_barrier (λ s. refl) (λ r. refl) w.board v.board (last_call w.board p) (last_call v.board p) (last_seen w v h p e) j
      both false e = (λ j. e j && is_barrier (kind_at w.board (last_call w.board p))) ∙ (λ j. sym (sym (waits_alike w v h p) ∙ e) j && is_barrier (kind_at v.board (last_call v.board p)))

  pub can_release_alike : can_release w ≡ can_release v
  can_release_alike = λ j. nat_lt 0 (h.size j) && list_all (λ p. at_barrier_alike p j) (range_with_len 0 (h.size j))

  -- ---- what is enabled

  pub enabled_alike : (a : Step) → is_enabled w a ≡ is_enabled v a
  enabled_alike (Local p) =
      some_map (stepped w p) (local_at w p) ∙ sym (some_map quiet (local_at w p)) ∙ ap (λ (o : Option Ran). is_some o) (local_alike w v h p) ∙ some_map quiet (local_at v p) ∙ sym (some_map (stepped v p) (local_at v p))
  enabled_alike (Match s r) = some_cond (eligible w.board s r) _ ∙ eligible_alike w v h s r ∙ sym (some_cond (eligible v.board s r) _)
  enabled_alike (Wake p) = some_cond (can_wake w p) (woken w p) ∙ can_wake_alike w v h p ∙ sym (some_cond (can_wake v p) (woken v p))
  enabled_alike (WakeAny p i) = some_cond (can_wake_any w p i) (woken_any w p i) ∙ can_wake_any_alike p i ∙ sym (some_cond (can_wake_any v p i) (woken_any v p i))
  enabled_alike Release = some_cond (can_release w) (released w) ∙ can_release_alike ∙ sym (some_cond (can_release v) (released v))

  tests : is_enabled w ≡ is_enabled v
  tests = λ j a. enabled_alike a j

  no_any_wake : (x : World) (p i : ℕ) → waits (slice_get x.ranks p) ≡ false → is_enabled x (WakeAny p i) ≡ false
  no_any_wake x p i e = some_cond (can_wake_any x p i) (woken_any x p i) ∙ (λ j. e j && is_complete_some x.board (any_call x p i))

  any_wakes_alike : (p : ℕ) → filter (is_enabled w) (any_wakes_of w.board p) ≡ filter (is_enabled v) (any_wakes_of v.board p)
  any_wakes_alike p = both (waits (slice_get w.ranks p)) refl
    where
      both : (b : Bool) → waits (slice_get w.ranks p) ≡ b → filter (is_enabled w) (any_wakes_of w.board p) ≡ filter (is_enabled v) (any_wakes_of v.board p)
      both true e = λ j. filter (tests j) (map (WakeAny p) (range_with_len 0 (kind_told requests_of (λ s. refl) (λ r. refl) w.board v.board (last_call w.board p) (last_call v.board p) (last_seen w v h p e) j)))
      both false e =
          none_pass (is_enabled w) (WakeAny p) (range_with_len 0 (requests_of (kind_at w.board (last_call w.board p)))) (λ i. no_any_wake w p i e)
          ∙ sym (none_pass (is_enabled v) (WakeAny p) (range_with_len 0 (requests_of (kind_at v.board (last_call v.board p)))) (λ i. no_any_wake v p i (sym (waits_alike w v h p) ∙ e)))

  any_in_alike : filter (is_enabled w) (any_wakes_in w.board) ≡ filter (is_enabled v) (any_wakes_in v.board)
  any_in_alike =
      filter_flat (is_enabled w) (any_wakes_of w.board) (rank_numbers w.board)
      ∙ (λ j. flat_map (λ p. any_wakes_alike p j) (ranks_numbered w v h j))
      ∙ sym (filter_flat (is_enabled v) (any_wakes_of v.board) (rank_numbers v.board))

  matches_alike : matches_in w.board ≡ matches_in v.board
  matches_alike = λ j. flat_map (λ q. flat_map (λ k. flat_map (λ p. map (λ i. Match (call_id p i) (call_id q k)) (numbers w v h j p)) (ranks_numbered w v h j)) (numbers w v h j q)) (ranks_numbered w v h j)

  abbrev front_steps : World → List Step
  front_steps x = map Local (rank_numbers x.board) ++ (Release ∷ map Wake (rank_numbers x.board))

  in_parts : (x : World) → enabled x ≡ filter (is_enabled x) (map Local (rank_numbers x.board)) ++ (filter (is_enabled x) (Release ∷ map Wake (rank_numbers x.board)) ++ (filter (is_enabled x) (any_wakes_in x.board) ++ filter (is_enabled x) (matches_in x.board)))
  in_parts x =
      filter_joined (is_enabled x) (map Local (rank_numbers x.board)) ((Release ∷ map Wake (rank_numbers x.board)) ++ (any_wakes_in x.board ++ matches_in x.board))
      ∙ ap (λ l. filter (is_enabled x) (map Local (rank_numbers x.board)) ++ l) (filter_joined (is_enabled x) (Release ∷ map Wake (rank_numbers x.board)) (any_wakes_in x.board ++ matches_in x.board))
      ∙ ap (λ l. filter (is_enabled x) (map Local (rank_numbers x.board)) ++ (filter (is_enabled x) (Release ∷ map Wake (rank_numbers x.board)) ++ l)) (filter_joined (is_enabled x) (any_wakes_in x.board) (matches_in x.board))

  pub all_enabled_alike : enabled w ≡ enabled v
  all_enabled_alike =
      in_parts w
      ∙ (λ j. filter (tests j) (map Local (ranks_numbered w v h j)) ++ (filter (tests j) (Release ∷ map Wake (ranks_numbered w v h j)) ++ (any_in_alike j ++ filter (tests j) (matches_alike j))))
      ∙ sym (in_parts v)

  -- ---- what comes next

  recv_kind_alike : (s r : CallId) → is_enabled w (Match s r) ≡ true → kind_at w.board r ≡ kind_at v.board r
  recv_kind_alike s r e =
      let ew : eligible w.board s r ≡ true = sym (some_cond (eligible w.board s r) _) ∙ e in
      let fw : is_free w.board r ≡ true = (and_parts (is_free w.board r) _ (and_parts (is_free w.board s) _ ew).1).0 in
      let fv : is_free v.board r ≡ true = free_is v.board r ∙ sym (ap (λ (o : Option CallKind). is_some o) (asks_alike w v h r)) ∙ sym (free_is w.board r) ∙ fw in
      sym (open_is w.board r fw) ∙ asks_alike w v h r ∙ open_is v.board r fv

  named_alike : (a : Step) → is_enabled w a ≡ true → is_named_match w.board a ≡ is_named_match v.board a
  named_alike (Match s r) e = ap names_source (recv_kind_alike s r e)
  named_alike a e = refl

  open_alike : (a : Step) → is_enabled w a ≡ true → is_open_match w.board a ≡ is_open_match v.board a
  open_alike (Match s r) e = ap takes_any (recv_kind_alike s r e)
  open_alike a e = refl

  forced_alike : forced_step w ≡ forced_step v
  forced_alike =
      (λ j. or_else (first_in (filter is_local (all_enabled_alike j))) (or_else (first_in (filter is_release (all_enabled_alike j))) (or_else (first_in (filter is_wake (all_enabled_alike j)))
      (first_in (named_filter j)))))
    where
      named_filter : filter (is_named_match w.board) (enabled w) ≡ filter (is_named_match v.board) (enabled v)
      named_filter = filter_same (is_named_match w.board) (is_named_match v.board) (is_enabled w) (steps_of w) named_alike ∙ ap (filter (is_named_match v.board)) all_enabled_alike

  choices_alike : choices w ≡ choices v
  choices_alike = λ j. or_those (filter (is_of (option_and_then any_rank (first_in (filter (λ a. is_some (any_rank a)) (all_enabled_alike j))))) (all_enabled_alike j)) (open_filter j)
    where
      open_filter : filter (is_open_match w.board) (enabled w) ≡ filter (is_open_match v.board) (enabled v)
      open_filter = filter_same (is_open_match w.board) (is_open_match v.board) (is_enabled w) (steps_of w) open_alike ∙ ap (filter (is_open_match v.board)) all_enabled_alike

  -- ---- how it ends

  free_calls_alike : free_calls w.board ≡ free_calls v.board
  free_calls_alike =
      (λ j. flat_map (λ p. free_opened w.board p j) (rank_numbers w.board))
      ∙ (λ j. flat_map (λ p. map (λ i. open_issued (h.opens (call_id p i) j) (call_id p i)) (filter (λ i. is_some (asks w v h j (call_id p i))) (numbers w v h j p))) (ranks_numbered w v h j))
      ∙ (λ j. flat_map (λ p. sym (free_opened v.board p) j) (rank_numbers v.board))

  traps_alike : traps_in w ≡ traps_in v
  traps_alike =
      (λ j. flat_map (λ p. sym (traps_quiet w.board p (slice_get w.ranks p)) j) (rank_numbers w.board))
      ∙ (λ j. flat_map (λ p. traps_at p (h.ranks p j)) (ranks_numbered w v h j))
      ∙ (λ j. flat_map (λ p. traps_quiet v.board p (slice_get v.ranks p) j) (rank_numbers v.board))

  last_if_alike : (p : ℕ) → last_if (last_call w.board p) (last_statement w.board p) (waits (slice_get w.ranks p)) ≡ last_if (last_call v.board p) (last_statement v.board p) (waits (slice_get v.ranks p))
  last_if_alike p = both (waits (slice_get w.ranks p)) refl
    where
      both : (b : Bool) → waits (slice_get w.ranks p) ≡ b → last_if (last_call w.board p) (last_statement w.board p) (waits (slice_get w.ranks p)) ≡ last_if (last_call v.board p) (last_statement v.board p) (waits (slice_get v.ranks p))
      both true e = λ j. last_if (last_alike w v h p j) (h.stands p e j) (waits_alike w v h p j)
      both false e =
          (λ j. last_if (last_call w.board p) (last_statement w.board p) (e j))
          ∙ (λ j. last_if (last_call v.board p) (last_statement v.board p) (sym (sym (waits_alike w v h p) ∙ e) j))

  blocked_alike : blocked_calls w ≡ blocked_calls v
  blocked_alike =
      (λ j. flat_map (λ p. sym (blocked_by_last w p (slice_get w.ranks p)) j) (rank_numbers w.board))
      ∙ (λ j. flat_map (λ p. last_if_alike p j) (ranks_numbered w v h j))
      ∙ (λ j. flat_map (λ p. blocked_by_last v p (slice_get v.ranks p) j) (rank_numbers v.board))

  ended_at : (p : ℕ) → slice_get (map has_ended w.ranks) p ≡ slice_get (map has_ended v.ranks) p
  ended_at p =
      read_map has_ended w.ranks p
      ∙ sym (ended_quiet w.board p (slice_get w.ranks p))
      ∙ ap (option_map has_ended) (h.ranks p)
      ∙ ended_quiet v.board p (slice_get v.ranks p)
      ∙ sym (read_map has_ended v.ranks p)

  ended_alike : list_all has_ended w.ranks ≡ list_all has_ended v.ranks
  ended_alike = sym (all_mapped has_ended w.ranks) ∙ ap (list_all (λ b. b)) (listed_same (map has_ended w.ranks) (map has_ended v.ranks) ended_at) ∙ all_mapped has_ended v.ranks

  ending_by_alike : (traps : List TrappedRank) → ending_by w traps ≡ ending_by v traps
  ending_by_alike [] = λ j. cond (ended_alike j) (ended_with (free_calls_alike j)) (Deadlock (blocked_alike j))
  ending_by_alike (t ∷ ts) = refl

  pub ending_alike : ending w ≡ ending v
  ending_alike = ending_by_alike (traps_in w) ∙ ap (ending_by v) traps_alike

  chosen_alike : (steps : List Step) → chosen_from w steps ≡ chosen_from v steps
  chosen_alike [] = ap (λ (o : Outcome). Leaf o) ending_alike
  chosen_alike (a ∷ steps) = refl

  decided_alike : (o : Option Step) → decided w o ≡ decided v o
  decided_alike (Some a) = refl
  decided_alike None = chosen_alike (choices w) ∙ ap (chosen_from v) choices_alike

  pub decision_alike : decision w ≡ decision v
  unfolding decision
  decision_alike = decided_alike (forced_step w) ∙ ap (decided v) forced_alike

  -- ---- what comes next along the wide walk

  standard_told : (o : Option Ran) → issues_standard (option_map quiet o) ≡ issues_standard o
  standard_told None = refl
  standard_told (Some done) = refl

  lacks_alike : (p : ℕ) → lacks_slot w p ≡ lacks_slot v p
  lacks_alike p = λ j. is_full (h.mode j) (slots_alike w v h p j) && (sym (standard_told (local_at w p)) ∙ ap issues_standard (local_alike w v h p) ∙ standard_told (local_at v p)) j

  send_kind_alike : (s r : CallId) → is_enabled w (Match s r) ≡ true → kind_at w.board s ≡ kind_at v.board s
  send_kind_alike s r e =
      let ew : eligible w.board s r ≡ true = sym (some_cond (eligible w.board s r) _) ∙ e in
      let fw : is_free w.board s ≡ true = (and_parts (is_free w.board s) _ ew).0 in
      let fv : is_free v.board s ≡ true = free_is v.board s ∙ sym (ap (λ (o : Option CallKind). is_some o) (asks_alike w v h s)) ∙ sym (free_is w.board s) ∙ fw in
      sym (open_is w.board s fw) ∙ asks_alike w v h s ∙ open_is v.board s fv

  quiet_alike : (a : Step) → is_enabled w a ≡ true → is_quiet w a ≡ is_quiet v a
  quiet_alike (Local p) e = λ j. not (lacks_alike p j)
  quiet_alike (Match s r) e = λ j. names_source (recv_kind_alike s r e j) && not (is_limited (h.mode j) && is_buffered (send_kind_alike s r e j))
  quiet_alike (WakeAny p i) e = refl
  quiet_alike (Wake p) e = refl
  quiet_alike Release e = refl

  first_alike : first_enabled w (is_quiet w) ≡ first_enabled v (is_quiet v)
  first_alike = ap first_in (filter_same (is_quiet w) (is_quiet v) (is_enabled w) (steps_of w) quiet_alike ∙ ap (filter (is_quiet v)) all_enabled_alike)

  wide_decided_alike : (o : Option Step) → wide_decided w o ≡ wide_decided v o
  wide_decided_alike (Some a) = refl
  wide_decided_alike None = chosen_alike (enabled w) ∙ ap (chosen_from v) all_enabled_alike

  pub wide_decision_alike : wide_decision w ≡ wide_decision v
  unfolding wide_decision
  wide_decision_alike = wide_decided_alike (first_enabled w (is_quiet w)) ∙ ap (wide_decided v) first_alike
