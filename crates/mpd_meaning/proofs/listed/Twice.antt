-- No step is listed twice.
use Rattle.std.proofs.Common.{◌≡◌, ◌≢◌, ℕ, ◌<◌, List, ◌∷◌, ◌++◌, length, map, inl, inr, refl, sym, ap, ◌∙◌, arith}
use Rattle.std.specs.List.{AllPairs, range_with_len}
use Rattle.mpd_model.specs.declared.step.CallId.{CallId}
use Rattle.mpd_model.specs.declared.step.Step.{Step}
use Rattle.mpd_model.specs.declared.step.Step.TheVariants.{Local, Match, Wake, WakeAny, Release}
use Rattle.mpd_model.specs.steps.World.{World, Board, call_id, calls_of, kind_at, last_call, rank_numbers, call_numbers}
use Rattle.mpd_model.specs.steps.Next.{is_enabled, requests_of, any_wakes_of, any_wakes_in, matches_with, matches_of, matches_in, steps_of, enabled}
use Rattle.mpd_meaning.proofs.listed.Members.{In, in_either, map_from, flat_from, Once, once_pairs, once_filter, once_map, once_joined, once_flat, once_range}

-- what tells one step from another: its kind, and its numbers
abbrev kind : Step → ℕ
kind (Local p) = 0
kind Release = 1
kind (Wake p) = 2
kind (Match s r) = 3
kind (WakeAny p i) = 4

abbrev rank_of : Step → ℕ
rank_of (Local p) = p
rank_of (Wake p) = p
rank_of (Match s r) = s.rank
rank_of (WakeAny p i) = p
rank_of a = 0

abbrev send_of : Step → ℕ
send_of (Match s r) = s.index
send_of (WakeAny p i) = i
send_of a = 0

abbrev receiver_of : Step → ℕ
receiver_of (Match s r) = r.rank
receiver_of a = 0

abbrev receive_of : Step → ℕ
receive_of (Match s r) = r.index
receive_of a = 0

-- a match that is listed for a receive
record IsWith (r : CallId) (a : Step) : Type 0 where
  is_match : kind a ≡ 3
  rank : receiver_of a ≡ r.rank
  index : receive_of a ≡ r.index

with_receive : (b : Board) (r : CallId) (a : Step) → In (matches_with b r) a → IsWith r a
with_receive b r a h =
    let x = flat_from (λ p. map (λ i. Match (call_id p i) r) (call_numbers b p)) (rank_numbers b) a h in
    let y = map_from (λ i. Match (call_id x.0 i) r) (call_numbers b x.0) a x.2 in
    record { is_match = ap kind (sym y.2); rank = ap receiver_of (sym y.2); index = ap receive_of (sym y.2) }

with_once : (b : Board) (r : CallId) → Once (matches_with b r)
with_once b r =
    once_flat (λ p. map (λ i. Match (call_id p i) r) (call_numbers b p)) rank_of (rank_numbers b)
    (λ p. once_map (λ i. Match (call_id p i) r) (call_numbers b p) (λ i j e. ap send_of e) (once_range 0 (length (calls_of b p))))
    (λ p a h. let x = map_from (λ i. Match (call_id p i) r) (call_numbers b p) a h in ap rank_of (sym x.2))
    (once_range 0 (length b.calls))

of_receiver : (b : Board) (q : ℕ) (a : Step) → In (matches_of b q) a → (receiver_of a ≡ q) × (kind a ≡ 3)
of_receiver b q a h =
    let x = flat_from (λ j. matches_with b (call_id q j)) (call_numbers b q) a h in
    let y = with_receive b (call_id q x.0) a x.2 in
    (y.rank, y.is_match)

of_once : (b : Board) (q : ℕ) → Once (matches_of b q)
of_once b q =
    once_flat (λ j. matches_with b (call_id q j)) receive_of (call_numbers b q) (λ j. with_once b (call_id q j))
    (λ j a h. (with_receive b (call_id q j) a h).index) (once_range 0 (length (calls_of b q)))

matches_once : (b : Board) → Once (matches_in b)
matches_once b = once_flat (matches_of b) receiver_of (rank_numbers b) (of_once b) (λ q a h. (of_receiver b q a h).0) (once_range 0 (length b.calls))

matches_are : (b : Board) (a : Step) → In (matches_in b) a → kind a ≡ 3
matches_are b a h = let x = flat_from (matches_of b) (rank_numbers b) a h in (of_receiver b x.0 a x.2).1

mapped_are : (f : ℕ → Step) (k : ℕ) → ((p : ℕ) → kind (f p) ≡ k) → (ps : List ℕ) (a : Step) → In (map f ps) a → kind a ≡ k
mapped_are f k each ps a h = let x = map_from f ps a h in ap kind (sym x.2) ∙ each x.0

any_once : (b : Board) → Once (any_wakes_in b)
any_once b =
    once_flat (any_wakes_of b) rank_of (rank_numbers b) (λ p. once_map (WakeAny p) (requests b p) (λ i j e. ap send_of e) (once_range 0 (requests_of (kind_at b (last_call b p)))))
    (λ p a h. let x = map_from (WakeAny p) (requests b p) a h in ap rank_of (sym x.2)) (once_range 0 (length b.calls))
  where
    requests : Board → ℕ → List ℕ
    requests b p = range_with_len 0 (requests_of (kind_at b (last_call b p)))

any_are : (b : Board) (a : Step) → In (any_wakes_in b) a → kind a ≡ 4
any_are b a h =
    let x = flat_from (any_wakes_of b) (rank_numbers b) a h in
    let y = map_from (WakeAny x.0) (range_with_len 0 (requests_of (kind_at b (last_call b x.0)))) a x.2 in
    ap kind (sym y.2)

-- what stands behind the wakes
rest_above : (b : Board) (a : Step) → In (any_wakes_in b ++ matches_in b) a → 2 < kind a
rest_above b a h =
    elim (in_either (any_wakes_in b) (matches_in b) a h) [
      | inl x ↦ let four = any_are b a x in omega (arith, four)
      | inr y ↦ let three = matches_are b a y in omega (arith, three)
    ]

-- what stands behind the release
wakes_above : (b : Board) (a : Step) → In (map Wake (rank_numbers b) ++ (any_wakes_in b ++ matches_in b)) a → 1 < kind a
wakes_above b a h =
    elim (in_either (map Wake (rank_numbers b)) (any_wakes_in b ++ matches_in b) a h) [
      | inl x ↦ let two = mapped_are Wake 2 (λ p. refl) (rank_numbers b) a x in omega (arith, two)
      | inr y ↦ let more = rest_above b a y in omega (arith, more)
    ]

release_above : (b : Board) (a : Step) → In (Release ∷ (map Wake (rank_numbers b) ++ (any_wakes_in b ++ matches_in b))) a → 0 < kind a
release_above b a (inl same) = let one = ap kind same in omega (arith, one)
release_above b a (inr h) = let more = wakes_above b a h in omega (arith, more)

steps_once : (w : World) → Once (steps_of w)
steps_once w =
    let b : Board = w.board in
    let ranks = rank_numbers b in
    let each : Once ranks = once_range 0 (length b.calls) in
    let wakes = map Wake ranks in
    let rest = any_wakes_in b ++ matches_in b in
    once_joined (map Local ranks) (Release ∷ (wakes ++ rest)) (once_map Local ranks (λ p q e. ap rank_of e) each) (
      λ h. let more = wakes_above b Release h in absurd (omega (arith, more)),
      once_joined wakes rest (once_map Wake ranks (λ p q e. ap rank_of e) each)
          (once_joined (any_wakes_in b) (matches_in b) (any_once b) (matches_once b) (λ a x y. let four = any_are b a x in let three = matches_are b a y in omega (arith, four, three)))
          (λ a x y. let two = mapped_are Wake 2 (λ p. refl) ranks a x in let more = rest_above b a y in omega (arith, two, more)),
    )
    (λ a x y. let local = mapped_are Local 0 (λ p. refl) ranks a x in let more = release_above b a y in omega (arith, local, more))

pub listed_once : (w : World) → AllPairs (λ a b. a ≢ b) (enabled w)
listed_once w = once_pairs (enabled w) (once_filter (is_enabled w) (steps_of w) (steps_once w))
