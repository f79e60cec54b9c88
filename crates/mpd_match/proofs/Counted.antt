-- The slots that ranks hold, as a board changes.
use Rattle.std.proofs.Common.{◌≡◌, ℕ, zero, suc, ◌+◌, ◌-◌, ◌<◌, ◌≤◌, Bool, true, false, cond, eq-eqb, Option, Some, None, List, [], ◌∷◌, ◌++◌, refl, sym, ap, subst, ◌∙◌, length, set, take, slice_get, slice_set, replicate, append-nil, option_to_list, arith}
use Rattle.std.proofs.lemmas.List.{length-replicate, length-set, set-set}
use Rattle.std.specs.List.{filter, range_with_len}
use Rattle.mpd_model.specs.declared.step.CallId.{CallId}
use Rattle.mpd_model.specs.declared.call.Call.{Call}
use Rattle.mpd_model.specs.declared.call.CallKind.{CallKind}
use Rattle.mpd_model.specs.declared.call.CallKind.TheVariants.{Send, Recv}
use Rattle.mpd_model.specs.declared.call.Mode.{Mode}
use Rattle.mpd_model.specs.declared.call.MatchSet.{MatchSet}
use Rattle.mpd_model.specs.declared.call.MatchSet.TheVariants.{Pair, Woke}
use Rattle.mpd_model.specs.declared.call.MatchSet.TheVariants as set_kind
use Rattle.mpd_model.specs.steps.World.{Board, call_id, listed_calls, calls_of, kind_of, kind_at, partner, eligible, fits, is_buffered, holds_slot, last_call, slots_used}
use Rattle.mpd_model.specs.steps.Next.{with_call, with_set}
use Rattle.mpd_laws.proofs.buffered.Slots.{is_pair, slots_within, slots_with_call, slots_with_lone, slots_with_fitting, slots_with_match}
use Rattle.mpd_match.specs.Views.{SideView, calls_in, board_in}
use Rattle.mpd_match.specs.Changes.{issue_writes, unissue_writes, without_last_call, is_lone, last_set}
use Rattle.mpd_match.specs.Slots.{slots_of, held_in, at_rank, Counted}
use Rattle.mpd_match.proofs.Boards.{listed_here, listed_back, last_is}

at_own : (p n : ℕ) → at_rank p n p ≡ n
at_own p n = ap (λ (b : Bool). cond b n 0) (eq-eqb p p refl)

-- a call holds one slot at most
pub one_slot : (kind : Option CallKind) → slots_of kind ≤ 1
one_slot kind = by_mark (is_buffered kind)
  where
    by_mark : (b : Bool) → cond b 1 0 ≤ 1
    by_mark true = omega arith
    by_mark false = omega arith

-- so few writes, where a call has at most one slot
pub issue_few : (kind other : Option CallKind) → issue_writes kind + slots_of other ≤ 7
issue_few kind other = let one = one_slot other in let most = most_issued kind in omega (arith, one, most)
  where
    most_issued : (k : Option CallKind) → issue_writes k ≤ 6
    most_issued (Some (Send s)) = omega arith
    most_issued (Some (Recv r)) = omega arith
    most_issued (Some k) = omega arith
    most_issued None = omega arith

pub unissue_few : (kind : Option CallKind) → unissue_writes kind + slots_of kind ≤ 5
unissue_few kind = let one = one_slot kind in let most = most_unissued kind in omega (arith, one, most)
  where
    most_unissued : (k : Option CallKind) → unissue_writes k ≤ 4
    most_unissued (Some (Send s)) = omega arith
    most_unissued (Some (Recv r)) = omega arith
    most_unissued (Some k) = omega arith
    most_unissued None = omega arith

-- ---- a call more

pub counted_issue : (mode : Mode) (sides new : List SideView) (sets : List MatchSet) (slots more : List ℕ) (p : ℕ) (call : Call) → p < length (calls_in sides)
    → calls_in new ≡ slice_set (calls_in sides) p (listed_calls (slice_get (calls_in sides) p) ++ call ∷ []) → partner sets (call_id p (length (listed_calls (slice_get (calls_in sides) p)))) ≡ None
    → length more ≡ length slots → ((q : ℕ) → held_in more q ≡ held_in slots q + at_rank p (slots_of (Some call.kind)) q)
    → Counted (board_in mode sides sets) slots → Counted (board_in mode new sets) more
counted_issue mode sides new sets slots more p call lt ec free el held h =
    let b : Board = board_in mode sides sets in
    let is : board_in mode new sets ≡ with_call b p call = ap (λ (zs : List (List Call)). record { mode = mode; calls = zs; sets = sets }) ec in
    record {
      ranks = el ∙ h.ranks ∙ sym (ap length ec ∙ length-set (calls_in sides) p (listed_calls (slice_get (calls_in sides) p) ++ call ∷ []));
      held = λ q.
          held q
          ∙ ap (λ (n : ℕ). n + at_rank p (slots_of (Some call.kind)) q) (h.held q)
          ∙ sym (slots_with_call b p call q lt free)
          ∙ sym (ap (λ (x : Board). slots_used x q) is);
    }

-- ---- a call less

split_last : (xs : List Call) → 0 < length xs → (c : Call) × (xs ≡ take (length xs - 1) xs ++ c ∷ []) × (slice_get xs (length xs - 1) ≡ Some c)
split_last [] some = absurd (omega arith)
split_last (c ∷ []) some = (c, refl, refl)
split_last (c ∷ d ∷ xs) some =
    let rest = split_last (d ∷ xs) (omega arith) in
    let at : length (c ∷ d ∷ xs) - 1 ≡ suc (length (d ∷ xs) - 1) = omega arith in (
      rest.0,
      ap (λ (zs : List Call). c ∷ zs) rest.1 ∙ sym (ap (λ (k : ℕ). take k (c ∷ d ∷ xs) ++ rest.0 ∷ []) at),
      ap (slice_get (c ∷ d ∷ xs)) at ∙ rest.2,
    )

take_less : (xs : List Call) (n : ℕ) → n ≤ length xs → length (take n xs) ≡ n
take_less [] zero le = refl
take_less [] (suc n) le = absurd (omega arith)
take_less (x ∷ xs) zero le = refl
take_less (x ∷ xs) (suc n) le = ap suc (take_less xs n (omega arith))

-- what the last call held
pub slots_without_call : (b : Board) (p q : ℕ) → p < length b.calls → 0 < length (calls_of b p) → partner b.sets (last_call b p) ≡ None
    → slots_used b q ≡ slots_used (without_last_call b p) q + at_rank p (slots_of (kind_at b (last_call b p))) q
slots_without_call b p q lt some free =
    let xs : List Call = calls_of b p in
    let less : List Call = take (length xs - 1) xs in
    let parts = split_last xs some in
    let c : Call = parts.0 in
    let before : Board = without_last_call b p in
    let own : calls_of before p ≡ less = listed_here b.calls p less lt in
    let back : (with_call before p c).calls ≡ b.calls = ap (λ (zs : List Call). set (set b.calls p less) p (zs ++ c ∷ [])) own
    ∙ set-set b.calls p less (less ++ c ∷ [])
    ∙ ap (set b.calls p) (sym parts.1)
    ∙ listed_back b.calls p in
    let is : with_call before p c ≡ b = ap (λ (zs : List (List Call)). record { mode = b.mode; calls = zs; sets = b.sets }) back in
    let many : length (calls_of before p) ≡ length xs - 1 = ap length own ∙ take_less xs (length xs - 1) (omega arith) in
    let none : partner b.sets (call_id p (length (calls_of before p))) ≡ None = ap (λ (k : ℕ). partner b.sets (call_id p k)) many ∙ free in
    let within : p < length before.calls = omega (arith, lt, length-set b.calls p less) in
    sym (ap (λ (x : Board). slots_used x q) is)
    ∙ slots_with_call before p c q within none
    ∙ ap (λ (k : Option CallKind). slots_used before q + at_rank p (slots_of k) q) (sym (ap kind_of parts.2))

pub counted_unissue : (mode : Mode) (sides new : List SideView) (sets : List MatchSet) (slots less : List ℕ) (p : ℕ) (kind : Option CallKind) → p < length (calls_in sides)
    → 0 < length (calls_of (board_in mode sides sets) p) → partner sets (last_call (board_in mode sides sets) p) ≡ None
    → calls_in new ≡ slice_set (calls_in sides) p (take (length (listed_calls (slice_get (calls_in sides) p)) - 1) (listed_calls (slice_get (calls_in sides) p)))
    → kind ≡ kind_at (board_in mode sides sets) (last_call (board_in mode sides sets) p)
    → length less ≡ length slots → ((q : ℕ) → held_in slots q ≡ held_in less q + at_rank p (slots_of kind) q)
    → Counted (board_in mode sides sets) slots → Counted (board_in mode new sets) less
counted_unissue mode sides new sets slots less p kind lt some free ec ek el held h =
    let b : Board = board_in mode sides sets in
    let is : board_in mode new sets ≡ without_last_call b p = ap (λ (zs : List (List Call)). record { mode = mode; calls = zs; sets = sets }) ec in
    record {
      ranks = el ∙ h.ranks ∙ sym (ap length ec ∙ length-set (calls_in sides) p (take (length (calls_of b p) - 1) (calls_of b p)));
      held = λ q.
          let before = h.held q in
          let after = held q in
          let all = slots_without_call b p q lt some free in
          let same = ap (λ (k : Option CallKind). at_rank p (slots_of k) q) ek in
          let left : held_in less q ≡ slots_used (without_last_call b p) q = omega (arith, before, after, all, same) in
          left ∙ sym (ap (λ (x : Board). slots_used x q) is);
    }

-- the last call of a rank holds no more slots than its rank
pub last_held : (mode : Mode) (sides : List SideView) (sets : List MatchSet) (slots : List ℕ) (p : ℕ) (kind : Option CallKind) → p < length (calls_in sides)
    → 0 < length (calls_of (board_in mode sides sets) p) → partner sets (last_call (board_in mode sides sets) p) ≡ None
    → kind ≡ kind_at (board_in mode sides sets) (last_call (board_in mode sides sets) p) → Counted (board_in mode sides sets) slots → slots_of kind ≤ held_in slots p
last_held mode sides sets slots p kind lt some free ek h =
    let b : Board = board_in mode sides sets in
    let before = h.held p in
    let all = slots_without_call b p p lt some free in
    let own = at_own p (slots_of (kind_at b (last_call b p))) in
    let same = ap slots_of ek in
    omega (arith, before, all, own, same)

-- ---- a match set more that is no pair, and one less

no_pair : (m : MatchSet) → is_lone (Some m) ≡ true → is_pair m ≡ false
no_pair (Pair s r) e = absurd (cc)
no_pair (Woke c) e = refl
no_pair set_kind.Barrier e = refl

pub counted_lone : (mode : Mode) (sides : List SideView) (sets more : List MatchSet) (slots : List ℕ) (m : MatchSet) → is_lone (Some m) ≡ true → more ≡ sets ++ m ∷ []
    → Counted (board_in mode sides sets) slots → Counted (board_in mode sides more) slots
counted_lone mode sides sets more slots m lone e h =
    subst (λ (zs : List MatchSet). Counted (board_in mode sides zs) slots) (sym e) (record {
      ranks = h.ranks;
      held = λ q. h.held q ∙ sym (slots_with_lone (board_in mode sides sets) m q (no_pair m lone));
    })

pub counted_dropped : (mode : Mode) (sides : List SideView) (sets before : List MatchSet) (slots : List ℕ) (taken : Option MatchSet) → sets ≡ before ++ option_to_list taken
    → is_lone (last_set (board_in mode sides sets)) ≡ true → Counted (board_in mode sides sets) slots → Counted (board_in mode sides before) slots
counted_dropped mode sides sets before slots None e lone h = subst (λ (zs : List MatchSet). Counted (board_in mode sides zs) slots) (e ∙ append-nil before) h
counted_dropped mode sides sets before slots (Some m) e lone h =
    let alone : is_lone (Some m) ≡ true = sym (ap is_lone (last_is mode sides sets before m e)) ∙ lone in
    let h2 : Counted (board_in mode sides (before ++ m ∷ [])) slots = subst (λ (zs : List MatchSet). Counted (board_in mode sides zs) slots) e h in
    record { ranks = h2.ranks; held = λ q. h2.held q ∙ slots_with_lone (board_in mode sides before) m q (no_pair m alone) }

-- ---- a pair more, and one less

pub counted_pair : (mode : Mode) (sides new : List SideView) (sets more : List MatchSet) (slots less : List ℕ) (s r : CallId) (kind : Option CallKind) → more ≡ sets ++ Pair s r ∷ []
    → eligible (board_in mode sides sets) s r ≡ true → calls_in new ≡ calls_in sides → kind ≡ kind_at (board_in mode sides sets) s
    → length less ≡ length slots → ((q : ℕ) → held_in slots q ≡ held_in less q + at_rank s.rank (slots_of kind) q)
    → Counted (board_in mode sides sets) slots → Counted (board_in mode new more) less
counted_pair mode sides new sets more slots less s r kind e able ec ek el held h =
    let b : Board = board_in mode sides sets in
    let is : board_in mode new more ≡ with_set b (Pair s r) = λ i. record { mode = mode; calls = ec i; sets = e i } in
    record {
      ranks = el ∙ h.ranks ∙ sym (ap length ec);
      held = λ q.
          let before = h.held q in
          let after = held q in
          let all = slots_with_match b s r q able in
          let same = ap (λ (k : Option CallKind). at_rank s.rank (slots_of k) q) ek in
          let left : held_in less q ≡ slots_used (with_set b (Pair s r)) q = omega (arith, before, after, all, same) in
          left ∙ sym (ap (λ (x : Board). slots_used x q) is);
    }

-- the send of a pair holds no more slots than its rank
pub paired_held : (mode : Mode) (sides : List SideView) (sets : List MatchSet) (slots : List ℕ) (s r : CallId) (kind : Option CallKind) → eligible (board_in mode sides sets) s r ≡ true
    → kind ≡ kind_at (board_in mode sides sets) s → Counted (board_in mode sides sets) slots → slots_of kind ≤ held_in slots s.rank
paired_held mode sides sets slots s r kind able ek h =
    let b : Board = board_in mode sides sets in
    let before = h.held s.rank in
    let all = slots_with_match b s r s.rank able in
    let own = at_own s.rank (slots_of (kind_at b s)) in
    let same = ap slots_of ek in
    omega (arith, before, all, own, same)

pub counted_unpair : (mode : Mode) (sides new : List SideView) (sets : List MatchSet) (slots more : List ℕ) (s r : CallId) (kind : Option CallKind) → partner sets s ≡ None → fits (board_in mode sides sets) s r ≡ true
    → calls_in new ≡ calls_in sides → kind ≡ kind_at (board_in mode sides sets) s
    → length more ≡ length slots → ((q : ℕ) → held_in more q ≡ held_in slots q + at_rank s.rank (slots_of kind) q)
    → Counted (board_in mode sides (sets ++ Pair s r ∷ [])) slots → Counted (board_in mode new sets) more
counted_unpair mode sides new sets slots more s r kind free fit ec ek el held h =
    let b : Board = board_in mode sides sets in
    let is : board_in mode new sets ≡ b = ap (λ (zs : List (List Call)). record { mode = mode; calls = zs; sets = sets }) ec in
    record {
      ranks = el ∙ h.ranks ∙ sym (ap length ec);
      held = λ q.
          let before = h.held q in
          let after = held q in
          let all = slots_with_fitting b s r q free fit in
          let same = ap (λ (k : Option CallKind). at_rank s.rank (slots_of k) q) ek in
          let left : held_in more q ≡ slots_used b q = omega (arith, before, after, all, same) in
          left ∙ sym (ap (λ (x : Board). slots_used x q) is);
    }

-- where a pair is taken back, its rank holds no more slots behind that than it has calls
pub unpaired_few : (mode : Mode) (sides : List SideView) (sets : List MatchSet) (slots : List ℕ) (s r : CallId) (kind : Option CallKind) → partner sets s ≡ None → fits (board_in mode sides sets) s r ≡ true
    → kind ≡ kind_at (board_in mode sides sets) s → Counted (board_in mode sides (sets ++ Pair s r ∷ [])) slots
    → held_in slots s.rank + slots_of kind ≤ length (calls_of (board_in mode sides sets) s.rank)
unpaired_few mode sides sets slots s r kind free fit ek h =
    let b : Board = board_in mode sides sets in
    let before = h.held s.rank in
    let all = slots_with_fitting b s r s.rank free fit in
    let own = at_own s.rank (slots_of (kind_at b s)) in
    let same = ap slots_of ek in
    let within = slots_within b s.rank in
    omega (arith, before, all, own, same, within)

-- ---- no call yet

none_held : (n q : ℕ) → held_in (replicate n 0) q ≡ 0
none_held zero q = refl
none_held (suc n) zero = refl
none_held (suc n) (suc q) = none_held n q

no_calls : (n q : ℕ) → listed_calls (slice_get (replicate n []) q) ≡ []
no_calls zero q = refl
no_calls (suc n) zero = refl
no_calls (suc n) (suc q) = no_calls n q

pub counted_new : (mode : Mode) (sides : List SideView) (sets : List MatchSet) (slots : List ℕ) (n : ℕ) → calls_in sides ≡ replicate n [] → slots ≡ replicate n 0 → Counted (board_in mode sides sets) slots
counted_new mode sides sets slots n ec es = record {
  ranks = ap length es ∙ length-replicate n 0 ∙ sym (ap length ec ∙ length-replicate n []);
  held = λ q.
      ap (λ (xs : List ℕ). held_in xs q) es
      ∙ none_held n q
      ∙ sym (ap (λ (calls : List Call). count_in (board_in mode sides sets) q calls) (ap (λ (zs : List (List Call)). listed_calls (slice_get zs q)) ec ∙ no_calls n q));
}
  where
    count_in : Board → ℕ → List Call → ℕ
    count_in b q calls = length (filter (λ i. holds_slot b (call_id q i)) (range_with_len 0 (length calls)))
