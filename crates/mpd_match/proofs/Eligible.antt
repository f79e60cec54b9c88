-- Earlier calls of a line, and the calls that are in the way of a pair.
use Rattle.std.proofs.Common.{◌≡◌, ℕ, ◌+◌, ◌≤◌, Bool, true, false, cond, ◌&&◌, ◌||◌, not, nat_lt, Option, Some, List, [], ◌∷◌, refl, sym, ap, ◌∙◌, length, arith}
use Rattle.std.specs.List.{list_any}
use Rattle.mpd_model.specs.declared.step.CallId.{CallId}
use Rattle.mpd_model.specs.declared.call.Mode.{Mode}
use Rattle.mpd_model.specs.declared.call.CallKind.{CallKind}
use Rattle.mpd_model.specs.declared.call.CallKind.TheVariants.{Send, Recv}
use Rattle.mpd_model.specs.declared.call.SendCall.{SendCall}
use Rattle.mpd_model.specs.declared.call.MatchSet.{MatchSet}
use Rattle.mpd_model.specs.steps.World.{Board, call_id, kind_at, is_free, fits, fitting, pending, posted, eligible}
use Rattle.mpd_match.specs.Views.{SideView, side_at, board_in}
use Rattle.mpd_match.specs.Lines.{line_of, kind_in, kind_on, mark_in, waiting, fitting_either, passed, has_earlier}
use Rattle.mpd_match.specs.Looks.{send_looks, recv_looks, has_earlier_send, eligible_looks}
use Rattle.mpd_match.specs.Held.{Meets}
use Rattle.mpd_match.proofs.Walks.{passed_few}
use Rattle.mpd_match.proofs.Partners.{fitting_lines}
use Rattle.mpd_match.proofs.Boards.{kind_is, pending_on, posted_on}

any_same : (t u : ℕ → Bool) (xs : List ℕ) → ((i : ℕ) → t i ≡ u i) → list_any t xs ≡ list_any u xs
any_same t u [] e = refl
any_same t u (x ∷ xs) e = ap (λ (b : Bool). b || list_any t xs) (e x) ∙ ap (λ (b : Bool). u x || b) (any_same t u xs e)

passed_same : (t u : ℕ → Bool) (index : ℕ) (xs : List ℕ) → ((i : ℕ) → t i ≡ u i) → passed t index xs ≡ passed u index xs
passed_same t u index [] e = refl
passed_same t u index (x ∷ xs) e =
    ap (λ (b : Bool). cond (nat_lt x index && not b) (1 + passed t index xs) 0) (e x)
    ∙ ap (λ (n : ℕ). cond (nat_lt x index && not (u x)) (1 + n) 0) (passed_same t u index xs e)

or_false : (b : Bool) → (b || false) ≡ b
or_false true = refl
or_false false = refl

-- two calls that fit are a send and a receive

either_send : (other one : Option CallKind) (p q : ℕ) → fitting other one p q ≡ true → (any : Option CallKind) → fitting_either any one p q ≡ fitting any one p q
either_send (Some (Send s)) (Some (Recv r)) p q e any = or_false (fitting any (Some (Recv r)) p q)
either_send other one p q e any = absurd (cc)

no_send_fits : (any : Option CallKind) (s : SendCall) (p q : ℕ) → fitting any (Some (Send s)) p q ≡ false
no_send_fits (Some (Send t)) s p q = refl
no_send_fits any s p q = refl

either_recv : (one other : Option CallKind) (p q : ℕ) → fitting one other p q ≡ true → (any : Option CallKind) → fitting_either any one p q ≡ fitting one any p q
either_recv (Some (Send s)) other p q e any = ap (λ (b : Bool). b || fitting (Some (Send s)) any p q) (no_send_fits any s p q)
either_recv one other p q e any = absurd (cc)

pub lines_of_fitting : (mode : Mode) (sides : List SideView) (sets : List MatchSet) (s r : CallId) → fits (board_in mode sides sets) s r ≡ true
    → (line_of (kind_on sides s) ≡ Some (r.rank + 1)) × (line_of (kind_on sides r) ≡ Some 0)
lines_of_fitting mode sides sets s r fit =
    let b : Board = board_in mode sides sets in
    let lines = fitting_lines (kind_at b s) (kind_at b r) s.rank r.rank fit in
    (ap line_of (kind_is mode sides sets s) ∙ lines.0, ap line_of (kind_is mode sides sets r) ∙ lines.1)

module _ (mode : Mode) (sides : List SideView) (sets : List MatchSet) (s r : CallId) (h : Meets (board_in mode sides sets) sides) (fit : fits (board_in mode sides sets) s r ≡ true) where
  send_test : (v : SideView) → side_at sides s.rank ≡ v → (i : ℕ) → fitting_either (kind_in v.calls i) (kind_at (board_in mode sides sets) r) s.rank r.rank ≡ fits (board_in mode sides sets) (call_id s.rank i) r
  send_test v side i =
      either_send (kind_at (board_in mode sides sets) s) (kind_at (board_in mode sides sets) r) s.rank r.rank fit (kind_in v.calls i)
      ∙ ap (λ (u : SideView). fitting (kind_in u.calls i) (kind_at (board_in mode sides sets) r) s.rank r.rank) (sym side)
      ∙ ap (λ (k : Option CallKind). fitting k (kind_at (board_in mode sides sets) r) s.rank r.rank) (kind_is mode sides sets (call_id s.rank i))

  recv_test : (v : SideView) → side_at sides r.rank ≡ v → (i : ℕ) → fitting_either (kind_in v.calls i) (kind_at (board_in mode sides sets) s) s.rank r.rank ≡ fits (board_in mode sides sets) s (call_id r.rank i)
  recv_test v side i =
      either_recv (kind_at (board_in mode sides sets) s) (kind_at (board_in mode sides sets) r) s.rank r.rank fit (kind_in v.calls i)
      ∙ ap (λ (u : SideView). fitting (kind_at (board_in mode sides sets) s) (kind_in u.calls i) s.rank r.rank) (sym side)
      ∙ ap (λ (k : Option CallKind). fitting (kind_at (board_in mode sides sets) s) k s.rank r.rank) (kind_is mode sides sets (call_id r.rank i))

  send_queue : (v : SideView) → side_at sides s.rank ≡ v → waiting v.calls (mark_in v.marks) (r.rank + 1) ≡ pending (board_in mode sides sets) s.rank r.rank
  send_queue v side = ap (λ (u : SideView). waiting u.calls (mark_in u.marks) (r.rank + 1)) (sym side) ∙ pending_on mode sides sets s.rank r.rank h

  recv_queue : (v : SideView) → side_at sides r.rank ≡ v → waiting v.calls (mark_in v.marks) 0 ≡ posted (board_in mode sides sets) r.rank
  recv_queue v side = ap (λ (u : SideView). waiting u.calls (mark_in u.marks) 0) (sym side) ∙ posted_on mode sides sets r.rank h

  pub earlier_send : (v : SideView) → side_at sides s.rank ≡ v → has_earlier v.calls (mark_in v.marks) (r.rank + 1) s.index (kind_at (board_in mode sides sets) r) s.rank r.rank ≡ has_earlier_send (board_in mode sides sets) s r
  earlier_send v side =
      any_same (λ i. nat_lt i s.index && fitting_either (kind_in v.calls i) (kind_at (board_in mode sides sets) r) s.rank r.rank) (λ i. nat_lt i s.index && fits (board_in mode sides sets) (call_id s.rank i) r) (waiting v.calls (mark_in v.marks) (r.rank + 1))
      (λ i. ap (λ (b : Bool). nat_lt i s.index && b) (send_test v side i))
      ∙ ap (list_any (λ i. nat_lt i s.index && fits (board_in mode sides sets) (call_id s.rank i) r)) (send_queue v side)

  pub earlier_recv : (v : SideView) → side_at sides r.rank ≡ v → has_earlier v.calls (mark_in v.marks) 0 r.index (kind_at (board_in mode sides sets) s) s.rank r.rank
      ≡ list_any (λ i. nat_lt i r.index && fits (board_in mode sides sets) s (call_id r.rank i)) (posted (board_in mode sides sets) r.rank)
  earlier_recv v side =
      any_same (λ i. nat_lt i r.index && fitting_either (kind_in v.calls i) (kind_at (board_in mode sides sets) s) s.rank r.rank) (λ i. nat_lt i r.index && fits (board_in mode sides sets) s (call_id r.rank i)) (waiting v.calls (mark_in v.marks) 0)
      (λ i. ap (λ (b : Bool). nat_lt i r.index && b) (recv_test v side i))
      ∙ ap (list_any (λ i. nat_lt i r.index && fits (board_in mode sides sets) s (call_id r.rank i))) (recv_queue v side)

  pub send_passed : (v : SideView) → side_at sides s.rank ≡ v → 1 + passed (λ i. fitting_either (kind_in v.calls i) (kind_at (board_in mode sides sets) r) s.rank r.rank) s.index (waiting v.calls (mark_in v.marks) (r.rank + 1)) ≡ send_looks (board_in mode sides sets) s r
  send_passed v side =
      ap (λ (n : ℕ). 1 + n)
      (passed_same (λ i. fitting_either (kind_in v.calls i) (kind_at (board_in mode sides sets) r) s.rank r.rank) (λ i. fits (board_in mode sides sets) (call_id s.rank i) r) s.index (waiting v.calls (mark_in v.marks) (r.rank + 1)) (send_test v side)
      ∙ ap (passed (λ i. fits (board_in mode sides sets) (call_id s.rank i) r) s.index) (send_queue v side))

  pub recv_passed : (v : SideView) → side_at sides r.rank ≡ v → 1 + passed (λ i. fitting_either (kind_in v.calls i) (kind_at (board_in mode sides sets) s) s.rank r.rank) r.index (waiting v.calls (mark_in v.marks) 0) ≡ recv_looks (board_in mode sides sets) s r
  recv_passed v side =
      ap (λ (n : ℕ). 1 + n)
      (passed_same (λ i. fitting_either (kind_in v.calls i) (kind_at (board_in mode sides sets) s) s.rank r.rank) (λ i. fits (board_in mode sides sets) s (call_id r.rank i)) r.index (waiting v.calls (mark_in v.marks) 0) (recv_test v side)
      ∙ ap (passed (λ i. fits (board_in mode sides sets) s (call_id r.rank i)) r.index) (recv_queue v side))

-- ---- the parts of the answer

pub few_send_looks : (b : Board) (s r : CallId) → send_looks b s r ≤ 1 + length (pending b s.rank r.rank)
few_send_looks b s r = omega (arith, passed_few (λ i. fits b (call_id s.rank i) r) s.index (pending b s.rank r.rank))

pub few_recv_looks : (b : Board) (s r : CallId) → recv_looks b s r ≤ 1 + length (posted b r.rank)
few_recv_looks b s r = omega (arith, passed_few (λ i. fits b s (call_id r.rank i)) r.index (posted b r.rank))

candidates : (b : Board) (s r : CallId) → fits b s r ≡ true → is_free b s ≡ true → is_free b r ≡ true → (fits b s r && (is_free b s && is_free b r)) ≡ true
candidates b s r f fs fr = ap (λ (t : Bool). t && (is_free b s && is_free b r)) f ∙ ap (λ (t : Bool). t && is_free b r) fs ∙ fr

pub looks_blocked : (b : Board) (s r : CallId) → fits b s r ≡ true → is_free b s ≡ true → is_free b r ≡ true → has_earlier_send b s r ≡ true → eligible_looks b s r ≡ send_looks b s r
looks_blocked b s r f fs fr blocked =
    ap (λ (t : Bool). cond t (send_looks b s r + cond (has_earlier_send b s r) 0 (recv_looks b s r)) 0) (candidates b s r f fs fr)
    ∙ ap (λ (t : Bool). send_looks b s r + cond t 0 (recv_looks b s r)) blocked
    ∙ omega arith

pub looks_both : (b : Board) (s r : CallId) → fits b s r ≡ true → is_free b s ≡ true → is_free b r ≡ true → has_earlier_send b s r ≡ false → eligible_looks b s r ≡ send_looks b s r + recv_looks b s r
looks_both b s r f fs fr clear =
    ap (λ (t : Bool). cond t (send_looks b s r + cond (has_earlier_send b s r) 0 (recv_looks b s r)) 0) (candidates b s r f fs fr)
    ∙ ap (λ (t : Bool). send_looks b s r + cond t 0 (recv_looks b s r)) clear

pub eligible_is : (b : Board) (s r : CallId) → fits b s r ≡ true → is_free b s ≡ true → is_free b r ≡ true
    → eligible b s r ≡ (not (has_earlier_send b s r) && not (list_any (λ i. nat_lt i r.index && fits b s (call_id r.rank i)) (posted b r.rank)))
eligible_is b s r f fs fr =
    let rest : Bool = not (has_earlier_send b s r) && not (list_any (λ i. nat_lt i r.index && fits b s (call_id r.rank i)) (posted b r.rank)) in
    ap (λ (t : Bool). t && (is_free b r && (fits b s r && rest))) fs
    ∙ ap (λ (t : Bool). t && (fits b s r && rest)) fr
    ∙ ap (λ (t : Bool). t && rest) f
