-- What a report writes of a deadlock or a trap is read as what its witness leads to.
use Rattle.std.proofs.Common.{◌≡◌, ℕ, zero, suc, ◌^◌, ◌<◌, Bool, true, false, true≢false, if◌then◌else◌, List, [], ◌∷◌, ◌++◌, length, map, Option, Some, None, Ok, refl, ap, sym, subst, ◌∙◌, arith, append_assoc, append-nil}
use Rattle.std.specs.Prelude.{option_map, bytes_eq, codes}
use Rattle.std.specs.Char.{is_ascii_digit}
use Rattle.std.specs.Fmt.{decimal}
use Rattle.std.specs.List.{flat_map, AllByRecursion}
use Rattle.std.proofs.lemmas.List.{length-map}
use Rattle.std.proofs.lemmas.Slice.Eq.{bytes_eq-Decides}
use Rattle.mpd_model.specs.declared.call.Trap.{Trap}
use Rattle.mpd_model.specs.declared.call.Trap.TheVariants.{Overflow, ZeroDivisor, BadRank, BadTag, BadIndex, Assertion}
use Rattle.mpd_model.specs.declared.outcome.IssuedCall.{IssuedCall}
use Rattle.mpd_model.specs.declared.outcome.TrappedRank.{TrappedRank}
use Rattle.mpd_model.specs.declared.outcome.Outcome.TheVariants as o
use Rattle.mpd_model.specs.declared.step.CallId.{CallId}
use Rattle.mpd_model.specs.declared.step.Step.{Step}
use Rattle.mpd_model.specs.steps.Outcomes.{ids_of}
use Rattle.mpd_model.specs.texts.Words.{number_of, call_of}
use Rattle.mpd_model.specs.texts.Texts.{id_text, spaced, line, trap_name, trapped_text}
use Rattle.mpd_policy.specs.declared.ending.Ending.{Ending}
use Rattle.mpd_policy.specs.declared.ending.Ending.TheVariants.{Ended, Cut}
use Rattle.mpd_explore.specs.declared.report.RankTrap.{RankTrap}
use Rattle.mpd_explore.specs.declared.report.WitnessEnd.{WitnessEnd}
use Rattle.mpd_explore.specs.declared.report.WitnessEnd.TheVariants as end_is
use Rattle.mpd_explore.specs.declared.report.EndWitness.{EndWitness}
use Rattle.mpd_explore.specs.Witness.{rank_trap, end_of}
use Rattle.mpd_explore.specs.ReportText.{choices_text, ending_text}
use Rattle.mpd_witness.specs.WitnessText.{parts_at, put_first, each_read, trap_of, rank_trap_with, rank_trap_of, pairs_read, behind_word, some_of, end_with, end_read, steps_of, line_of, with_steps, with_end, witness_in, witness_of}
use Rattle.mpd_witness.specs.WitnessLaws.{IsShortCall, IsShortEnd, IsShortEnding, IsShort}
use Rattle.mpd_witness.proofs.ClearTexts.{is_clear, clear_join, parts_next, parts_last, parts_listed, line_clear, decimal_clear, number_read}
use Rattle.mpd_witness.proofs.RoundTrip.{IsNoLine, feed_apart, return_apart, wide, call_clear, each_so, listed_clear, call_read, all_read, second_text, second_read_back, second_clear}

abbrev pub Fits : ℕ → Type 0
Fits n = n < 2 ^ 64

-- what a line has in front of how the run ends
abbrev pub front : ℕ → List ℕ → List ℕ
front n choices = codes "leaf " ++ decimal n ++ codes " [" ++ choices_text choices ++ codes "] "

abbrev pub first_text : ℕ → List ℕ → Ending → List ℕ
first_text n choices e = front n choices ++ ending_text e

-- ---- no line has a line feed or a carriage return

pub record IsNoEnd (c : ℕ) : Type 0 where
  pub line : IsNoLine c
  pub finishes : is_clear c (codes "done") ≡ true
  pub leaves : is_clear c (codes "leftovers") ≡ true
  pub traps : is_clear c (codes "trap") ≡ true
  pub cuts : is_clear c (codes "cut") ≡ true
  pub names : (t : Trap) → is_clear c (trap_name t) ≡ true

feed_name : (t : Trap) → is_clear 10 (trap_name t) ≡ true
feed_name Overflow = refl
feed_name ZeroDivisor = refl
feed_name BadRank = refl
feed_name BadTag = refl
feed_name BadIndex = refl
feed_name Assertion = refl

return_name : (t : Trap) → is_clear 13 (trap_name t) ≡ true
return_name Overflow = refl
return_name ZeroDivisor = refl
return_name BadRank = refl
return_name BadTag = refl
return_name BadIndex = refl
return_name Assertion = refl

pub feed_end : IsNoEnd 10
feed_end = record { line = feed_apart; finishes = refl; leaves = refl; traps = refl; cuts = refl; names = feed_name }

pub return_end : IsNoEnd 13
return_end = record { line = return_apart; finishes = refl; leaves = refl; traps = refl; cuts = refl; names = return_name }

calls_clear : (c : ℕ) → IsNoEnd c → (calls : List CallId) → AllByRecursion IsShortCall calls → is_clear c (spaced id_text calls) ≡ true
calls_clear c k calls h =
    listed_clear c (λ x. 32 ∷ id_text x) calls
    (each_so IsShortCall (λ x. is_clear c (32 ∷ id_text x) ≡ true) (λ x s. clear_join c (32 ∷ []) (id_text x) k.line.apart.blank (call_clear c k.line.apart.digit k.line.apart.dot x s)) calls h)

abbrev IsShortRank : TrappedRank → Type 0
IsShortRank t = t.rank < 1000000000

trapped_clear : (c : ℕ) → IsNoEnd c → (t : TrappedRank) → IsShortRank t → is_clear c (32 ∷ trapped_text t) ≡ true
trapped_clear c k t h =
    clear_join c (32 ∷ []) (trapped_text t) k.line.apart.blank
    (clear_join c (decimal t.rank) (32 ∷ trap_name t.trap) (decimal_clear c t.rank k.line.apart.digit (wide t.rank h)) (clear_join c (32 ∷ []) (trap_name t.trap) k.line.apart.blank (k.names t.trap)))

pub ending_clear : (c : ℕ) → IsNoEnd c → (e : Ending) → IsShortEnding e → is_clear c (ending_text e) ≡ true
ending_clear c k Cut h = k.cuts
ending_clear c k (Ended o.Done) h = k.finishes
ending_clear c k (Ended (o.Leftovers calls)) h = clear_join c (codes "leftovers") (spaced id_text (ids_of calls)) k.leaves (calls_clear c k (ids_of calls) h)
ending_clear c k (Ended (o.Deadlock calls)) h = clear_join c (codes "deadlock") (spaced id_text (ids_of calls)) k.line.stuck (calls_clear c k (ids_of calls) h)
ending_clear c k (Ended (o.Trap ranks)) h =
    clear_join c (codes "trap") (spaced trapped_text ranks) k.traps
    (listed_clear c (λ t. 32 ∷ trapped_text t) ranks (each_so IsShortRank (λ t. is_clear c (32 ∷ trapped_text t) ≡ true) (trapped_clear c k) ranks h))

pub choices_clear : (c : ℕ) → IsNoLine c → (cs : List ℕ) → AllByRecursion Fits cs → is_clear c (choices_text cs) ≡ true
choices_clear c k [] h = refl
choices_clear c k (d ∷ ds) h =
    clear_join c (decimal d) (flat_map (λ x. 32 ∷ decimal x) ds) (decimal_clear c d k.apart.digit h.0)
    (listed_clear c (λ x. 32 ∷ decimal x) ds (each_so Fits (λ x. is_clear c (32 ∷ decimal x) ≡ true) (λ x f. clear_join c (32 ∷ []) (decimal x) k.apart.blank (decimal_clear c x k.apart.digit f)) ds h.1))

first_clear : (c n : ℕ) → IsNoEnd c → (cs : List ℕ) (e : Ending) → Fits n → AllByRecursion Fits cs → IsShortEnding e → is_clear c (first_text n cs e) ≡ true
first_clear c n k cs e f g h =
    let a = clear_join c (codes "leaf ") (decimal n) k.line.leaf (decimal_clear c n k.line.apart.digit f) in
    let b = clear_join c (codes "leaf " ++ decimal n) (codes " [") a k.line.opens in
    let d = clear_join c (codes "leaf " ++ decimal n ++ codes " [") (choices_text cs) b (choices_clear c k.line cs g) in
    let j = clear_join c (codes "leaf " ++ decimal n ++ codes " [" ++ choices_text cs) (codes "] ") d k.line.closes in
    clear_join c (front n cs) (ending_text e) j (ending_clear c k e h)

-- ---- a word is looked for

-- a byte of the word, which what stands in front of how the run ends hasn't
record IsOfWord (c : ℕ) (word : List ℕ) : Type 0 where
  has : is_clear c word ≡ false
  digit : is_ascii_digit c ≡ false
  leaf : is_clear c (codes "leaf") ≡ true
  opens : is_clear c (91 ∷ []) ≡ true
  closes : is_clear c (93 ∷ []) ≡ true

of_deadlock : IsOfWord 100 (codes "deadlock")
of_deadlock = record { has = refl; digit = refl; leaf = refl; opens = refl; closes = refl }

of_trap : IsOfWord 116 (codes "trap")
of_trap = record { has = refl; digit = refl; leaf = refl; opens = refl; closes = refl }

-- the parts of the line, grouped to the right
regrouped : (a b c d e z : List ℕ) → a ++ b ++ c ++ d ++ e ++ z ≡ a ++ (b ++ (c ++ (d ++ (e ++ z))))
regrouped a b c d e z = simp append_assoc

module _ (c : ℕ) (word : List ℕ) (k : IsOfWord c word) where
  no_word : (a : List ℕ) → is_clear c a ≡ true → bytes_eq a word ≡ false
  no_word a e =
      elim (bytes_eq a word) as (λ v. bytes_eq a word ≡ v → v ≡ false) [
        | true ↦ λ h. absurd (let same : a ≡ word = (bytes_eq-Decides a word).0 h in let t : is_clear c word ≡ true = ap (is_clear c) (sym same) ∙ e in true≢false (sym t ∙ k.has))
        | false ↦ λ h. refl
      ] refl

  past : (a : List ℕ) (ps : List (List ℕ)) → is_clear c a ≡ true → behind_word word (a ∷ ps) ≡ behind_word word ps
  past a ps e = ap (λ (v : Bool). if v then Some ps else behind_word word ps) (no_word a e)

  skipped : (a z : List ℕ) → is_clear 32 a ≡ true → is_clear c a ≡ true → behind_word word (parts_at 32 (a ++ 32 ∷ z)) ≡ behind_word word (parts_at 32 z)
  skipped a z e h = ap (behind_word word) (parts_next 32 a z e) ∙ past a (parts_at 32 z) h

  choices_skipped : (a : List ℕ) (cs : List ℕ) (z : List ℕ) → is_clear 32 a ≡ true → is_clear c a ≡ true → AllByRecursion Fits cs
      → behind_word word (parts_at 32 (a ++ (flat_map (λ d. 32 ∷ decimal d) cs ++ 93 ∷ 32 ∷ z))) ≡ behind_word word (parts_at 32 z)
  choices_skipped a [] z e h f =
      ap (λ t. behind_word word (parts_at 32 t)) (sym (append_assoc a (93 ∷ []) (32 ∷ z))) ∙ skipped (a ++ 93 ∷ []) z (clear_join 32 a (93 ∷ []) e refl) (clear_join c a (93 ∷ []) h k.closes)
  choices_skipped a (d ∷ ds) z e h f =
      ap (λ t. behind_word word (parts_at 32 (a ++ 32 ∷ t))) (append_assoc (decimal d) (flat_map (λ x. 32 ∷ decimal x) ds) (93 ∷ 32 ∷ z))
      ∙ skipped a (decimal d ++ (flat_map (λ x. 32 ∷ decimal x) ds ++ 93 ∷ 32 ∷ z)) e h
      ∙ choices_skipped (decimal d) ds z (decimal_clear 32 d refl f.0) (decimal_clear c d k.digit f.0) f.1

  bracket_skipped : (cs z : List ℕ) → AllByRecursion Fits cs → behind_word word (parts_at 32 ((91 ∷ []) ++ (choices_text cs ++ 93 ∷ 32 ∷ z))) ≡ behind_word word (parts_at 32 z)
  bracket_skipped [] z f = skipped (91 ∷ 93 ∷ []) z refl (clear_join c (91 ∷ []) (93 ∷ []) k.opens k.closes)
  bracket_skipped (d ∷ cs) z f =
      ap (λ t. behind_word word (parts_at 32 (91 ∷ t))) (append_assoc (decimal d) (flat_map (λ x. 32 ∷ decimal x) cs) (93 ∷ 32 ∷ z))
      ∙ choices_skipped (91 ∷ decimal d) cs z (clear_join 32 (91 ∷ []) (decimal d) refl (decimal_clear 32 d refl f.0)) (clear_join c (91 ∷ []) (decimal d) k.opens (decimal_clear c d k.digit f.0)) f.1

  front_skipped : (n : ℕ) (cs z : List ℕ) → Fits n → AllByRecursion Fits cs → behind_word word (parts_at 32 (front n cs ++ z)) ≡ behind_word word (parts_at 32 z)
  front_skipped n cs z f g =
      ap (λ t. behind_word word (parts_at 32 t)) (regrouped (codes "leaf ") (decimal n) (codes " [") (choices_text cs) (codes "] ") z)
      ∙ skipped (codes "leaf") (decimal n ++ 32 ∷ ((91 ∷ []) ++ (choices_text cs ++ 93 ∷ 32 ∷ z))) refl k.leaf
      ∙ skipped (decimal n) ((91 ∷ []) ++ (choices_text cs ++ 93 ∷ 32 ∷ z)) (decimal_clear 32 n refl f) (decimal_clear c n k.digit f)
      ∙ bracket_skipped cs z g

-- ---- a deadlock

calls_behind : (n : ℕ) (cs : List ℕ) (calls : List IssuedCall) → Fits n → AllByRecursion Fits cs → AllByRecursion IsShortCall (ids_of calls)
    → behind_word (codes "deadlock") (parts_at 32 (first_text n cs (Ended (o.Deadlock calls)))) ≡ Some (map id_text (ids_of calls))
calls_behind n cs calls f k h =
    front_skipped 100 (codes "deadlock") of_deadlock n cs (codes "deadlock" ++ spaced id_text (ids_of calls)) f k
    ∙ ap (behind_word (codes "deadlock")) (parts_listed 32 id_text (codes "deadlock") (ids_of calls) refl (each_so IsShortCall (λ c. is_clear 32 (id_text c) ≡ true) (call_clear 32 refl refl) (ids_of calls) h))

some_calls : (calls : List CallId) → AllByRecursion IsShortCall calls → 0 < length calls → some_of (each_read call_of) (map id_text calls) ≡ Some calls
some_calls [] h l = absurd (omega arith)
some_calls (c ∷ calls) h l = all_read call_of id_text IsShortCall call_read (c ∷ calls) h

deadlock_read_back : (n : ℕ) (cs : List ℕ) (calls : List IssuedCall) → Fits n → AllByRecursion Fits cs → AllByRecursion IsShortCall (ids_of calls) → 0 < length (ids_of calls)
    → end_read (first_text n cs (Ended (o.Deadlock calls))) ≡ Some (end_is.Deadlock (ids_of calls))
deadlock_read_back n cs calls f k h l =
    ap (λ q. end_with q (behind_word (codes "trap") (parts_at 32 (first_text n cs (Ended (o.Deadlock calls)))))) (calls_behind n cs calls f k h)
    ∙ ap (option_map end_is.Deadlock) (some_calls (ids_of calls) h l)

-- ---- a trap

abbrev trap_pieces : List TrappedRank → List (List ℕ)
trap_pieces [] = []
trap_pieces (t ∷ ts) = decimal t.rank ∷ trap_name t.trap ∷ trap_pieces ts

name_clear : (t : Trap) → is_clear 32 (trap_name t) ≡ true
name_clear Overflow = refl
name_clear ZeroDivisor = refl
name_clear BadRank = refl
name_clear BadTag = refl
name_clear BadIndex = refl
name_clear Assertion = refl

traps_listed : (a : List ℕ) (ts : List TrappedRank) → is_clear 32 a ≡ true → AllByRecursion IsShortRank ts → parts_at 32 (a ++ spaced trapped_text ts) ≡ a ∷ trap_pieces ts
traps_listed a [] e h = ap (parts_at 32) (append-nil a) ∙ parts_last 32 a e
traps_listed a (t ∷ ts) e h =
    parts_next 32 a (trapped_text t ++ spaced trapped_text ts) e
    ∙ ap (λ z. a ∷ parts_at 32 z) (append_assoc (decimal t.rank) (32 ∷ trap_name t.trap) (spaced trapped_text ts))
    ∙ ap (λ ps. a ∷ ps) (parts_next 32 (decimal t.rank) (trap_name t.trap ++ spaced trapped_text ts) (decimal_clear 32 t.rank refl (wide t.rank h.0)))
    ∙ ap (λ ps. a ∷ decimal t.rank ∷ ps) (traps_listed (trap_name t.trap) ts (name_clear t.trap) h.1)

-- no name of a trap is the word of a deadlock
past_name : (t : Trap) (ps : List (List ℕ)) → behind_word (codes "deadlock") (trap_name t ∷ ps) ≡ behind_word (codes "deadlock") ps
past_name Overflow ps = refl
past_name ZeroDivisor ps = refl
past_name BadRank ps = refl
past_name BadTag ps = refl
past_name BadIndex ps = refl
past_name Assertion ps = refl

no_deadlock : (ts : List TrappedRank) → AllByRecursion IsShortRank ts → behind_word (codes "deadlock") (trap_pieces ts) ≡ None
no_deadlock [] h = refl
no_deadlock (t ∷ ts) h =
    past 100 (codes "deadlock") of_deadlock (decimal t.rank) (trap_name t.trap ∷ trap_pieces ts) (decimal_clear 100 t.rank refl (wide t.rank h.0)) ∙ past_name t.trap (trap_pieces ts) ∙ no_deadlock ts h.1

none_behind : (n : ℕ) (cs : List ℕ) (ts : List TrappedRank) → Fits n → AllByRecursion Fits cs → AllByRecursion IsShortRank ts → behind_word (codes "deadlock") (parts_at 32 (first_text n cs (Ended (o.Trap ts)))) ≡ None
none_behind n cs ts f k h =
    front_skipped 100 (codes "deadlock") of_deadlock n cs (codes "trap" ++ spaced trapped_text ts) f k ∙ ap (behind_word (codes "deadlock")) (traps_listed (codes "trap") ts refl h) ∙ no_deadlock ts h

traps_behind : (n : ℕ) (cs : List ℕ) (ts : List TrappedRank) → Fits n → AllByRecursion Fits cs → AllByRecursion IsShortRank ts → behind_word (codes "trap") (parts_at 32 (first_text n cs (Ended (o.Trap ts)))) ≡ Some (trap_pieces ts)
traps_behind n cs ts f k h = front_skipped 116 (codes "trap") of_trap n cs (codes "trap" ++ spaced trapped_text ts) f k ∙ ap (behind_word (codes "trap")) (traps_listed (codes "trap") ts refl h)

-- its name is read as the trap
name_read : (t : Trap) → trap_of (trap_name t) ≡ Some t
name_read Overflow = refl
name_read ZeroDivisor = refl
name_read BadRank = refl
name_read BadTag = refl
name_read BadIndex = refl
name_read Assertion = refl

all_traps : (ts : List TrappedRank) → AllByRecursion IsShortRank ts → pairs_read rank_trap_of (trap_pieces ts) ≡ Some (map rank_trap ts)
all_traps [] h = refl
all_traps (t ∷ ts) h =
    ap (λ (p : Option ℕ). put_first (rank_trap_with p (trap_of (trap_name t.trap))) (pairs_read rank_trap_of (trap_pieces ts))) (number_read t.rank h.0)
    ∙ ap (λ (q : Option Trap). put_first (rank_trap_with (Some t.rank) q) (pairs_read rank_trap_of (trap_pieces ts))) (name_read t.trap)
    ∙ ap (put_first (Some (rank_trap t))) (all_traps ts h.1)

some_traps : (ts : List TrappedRank) → AllByRecursion IsShortRank ts → 0 < length ts → some_of (pairs_read rank_trap_of) (trap_pieces ts) ≡ Some (map rank_trap ts)
some_traps [] h l = absurd (omega arith)
some_traps (t ∷ ts) h l = all_traps (t ∷ ts) h

trap_read_back : (n : ℕ) (cs : List ℕ) (ts : List TrappedRank) → Fits n → AllByRecursion Fits cs → AllByRecursion IsShortRank ts → 0 < length ts → end_read (first_text n cs (Ended (o.Trap ts))) ≡ Some (end_is.Trap (map rank_trap ts))
trap_read_back n cs ts f k h l =
    ap (λ q. end_with q (behind_word (codes "trap") (parts_at 32 (first_text n cs (Ended (o.Trap ts)))))) (none_behind n cs ts f k h)
    ∙ ap (end_with None) (traps_behind n cs ts f k h) ∙ ap (option_map end_is.Trap) (some_traps ts h l)

-- ---- what the first line leads to

ranks_short : (ts : List TrappedRank) → AllByRecursion (λ (t : RankTrap). t.rank < 1000000000) (map rank_trap ts) → AllByRecursion IsShortRank ts
ranks_short [] h = tt
ranks_short (t ∷ ts) h = (h.0, ranks_short ts h.1)

same_end : (x y : WitnessEnd) → Some x ≡ Some y → x ≡ y
same_end x y e = cc

-- where the end has short numbers, the run's has
pub ending_short : (e : Ending) (end : WitnessEnd) → end_of e ≡ Some end → IsShortEnd end → IsShortEnding e
ending_short Cut end is h = tt
ending_short (Ended o.Done) end is h = tt
ending_short (Ended (o.Leftovers calls)) end is h = absurd (let z : ⊥ = cc in z)
ending_short (Ended (o.Deadlock calls)) end is h = let k : IsShortEnd (end_is.Deadlock (ids_of calls)) = subst IsShortEnd (sym (same_end (end_is.Deadlock (ids_of calls)) end is)) h in k.0
ending_short (Ended (o.Trap ts)) end is h = let k : IsShortEnd (end_is.Trap (map rank_trap ts)) = subst IsShortEnd (sym (same_end (end_is.Trap (map rank_trap ts)) end is)) h in ranks_short ts k.0

pub first_read_back : (n : ℕ) (cs : List ℕ) (e : Ending) (end : WitnessEnd) → Fits n → AllByRecursion Fits cs → end_of e ≡ Some end → IsShortEnd end → end_read (first_text n cs e) ≡ Some end
first_read_back n cs Cut end f g is h = absurd (let z : ⊥ = cc in z)
first_read_back n cs (Ended o.Done) end f g is h = absurd (let z : ⊥ = cc in z)
first_read_back n cs (Ended (o.Leftovers calls)) end f g is h = absurd (let z : ⊥ = cc in z)
first_read_back n cs (Ended (o.Deadlock calls)) end f g is h =
    let k : IsShortEnd (end_is.Deadlock (ids_of calls)) = subst IsShortEnd (sym (same_end (end_is.Deadlock (ids_of calls)) end is)) h in
    deadlock_read_back n cs calls f g k.0 k.1 ∙ is
first_read_back n cs (Ended (o.Trap ts)) end f g is h =
    let k : IsShortEnd (end_is.Trap (map rank_trap ts)) = subst IsShortEnd (sym (same_end (end_is.Trap (map rank_trap ts)) end is)) h in
    trap_read_back n cs ts f g (ranks_short ts k.0) (omega (arith, k.1, length-map ts rank_trap)) ∙ is

-- ---- both lines

two_lines : (a b : List ℕ) → is_clear 10 a ≡ true → is_clear 10 b ≡ true → parts_at 10 (line a ++ line b) ≡ a ∷ b ∷ [] ∷ []
two_lines a b e h =
    ap (parts_at 10) (append_assoc a (10 ∷ []) (line b)) ∙ parts_next 10 a (line b) e ∙ ap (λ ps. a ∷ ps) (parts_next 10 b [] h)

lines_read : (a b : List ℕ) (end : WitnessEnd) (steps : List Step) → line_of a ≡ a → line_of b ≡ b → end_read a ≡ Some end → steps_of b ≡ Some steps
    → witness_in (a ∷ b ∷ [] ∷ []) ≡ Ok (record { steps = steps; end = end })
lines_read a b end steps p q e h =
    ap (λ x. with_end (end_read x) (b ∷ [] ∷ [])) p ∙ ap (λ x. with_end x (b ∷ [] ∷ [])) e
    ∙ ap (λ x. with_steps end (steps_of x) true) q ∙ ap (λ (x : Option (List Step)). with_steps end x true) h

pub written_is_read : (n m : ℕ) (cs : List ℕ) (e : Ending) (x : EndWitness) → Fits n → Fits m → AllByRecursion Fits cs → end_of e ≡ Some x.end → IsShort x → witness_of (line (first_text n cs e) ++ line (second_text m x.steps)) ≡ Ok x
written_is_read n m cs e x f g k is h =
    let a : List ℕ = first_text n cs e in
    let b : List ℕ = second_text m x.steps in
    let short : IsShortEnding e = ending_short e x.end is h.end in
    let a10 : is_clear 10 a ≡ true = first_clear 10 n feed_end cs e f k short in
    let b10 : is_clear 10 b ≡ true = second_clear 10 m feed_apart x.steps g h.steps in
    ap witness_in (two_lines a b a10 b10)
    ∙ lines_read a b x.end x.steps (line_clear a a10 (first_clear 13 n return_end cs e f k short)) (line_clear b b10 (second_clear 13 m return_apart x.steps g h.steps))
    (first_read_back n cs e x.end f k is h.end) (second_read_back m x.steps g h.steps h.some_step)
