-- What a split has of the pieces so far.
use Rattle.std.proofs.Common.{◌≡◌, ℕ, zero, suc, ◌<◌, ◌≤◌, ◌+◌, ◌-◌, Bool, true, false, not, List, [], ◌∷◌, ◌++◌, length, take, map, get_or, Err, IsErrOf, refl, sym, ap, subst, ◌∙◌, arith, add-one, append-nil, Option}
use Rattle.std.specs.List.{AllByRecursion, flat_map, range_with_len}
use Rattle.std.proofs.lemmas.List.{length-map, take_more, take_all}
use Rattle.std.proofs.lemmas.List.Folds.{flat_map-map, length-flat_map-take}
use Rattle.std.proofs.lemmas.List.FromFn.{map-range_with_len_more, length-range_with_len}
use Rattle.std.proofs.lemmas.Grind.{flat_map-append}
use Rattle.mpd_model.specs.declared.step.Step.{Step}
use Rattle.mpd_model.specs.declared.decision.Decision.{Decision}
use Rattle.mpd_model.specs.steps.World.{World}
use Rattle.mpd_model.specs.runs.Decisions.{CanFollow}
use Rattle.mpd_model.specs.runs.Trail.{Standing}
use Rattle.mpd_explore.specs.declared.splitter.Piece.{Piece}
use Rattle.mpd_explore.specs.Sleeping.{Rules}
use Rattle.mpd_explore.specs.Pieces.{pieces, numbered, Reaches}
use Rattle.mpd_explore.specs.Along.{Going, counted, longer, Adds, all_longer, choices_of}
use Rattle.mpd_explore.proofs.AlongLemmas.{longer_none}
use Rattle.mpd_explore.proofs.PieceLemmas.{counted_some, adds_then, adds_same, all_longer_are, all_the_same, never_fewer, numbered_choices, pieces_reached}

-- ---- to the next choice

-- what comes after so many steps is what was ahead
pub ahead_is : (decide : World → Decision) (limit n : ℕ) (w v : World) (depth : ℕ) → pieces decide 1 n w ≡ pieces decide 1 (limit - depth) v → depth < limit → pieces decide 1 n w ≡ pieces decide 1 (suc (limit - suc depth)) v
ahead_is decide limit n w v depth same room = same ∙ ap (λ m. pieces decide 1 m v) (omega arith)

pub longer_behind : (r : Rules) (s t : Option (List Step)) (fuel n m : ℕ) (choices : List ℕ) (d e : Standing) (h : Going r fuel choices s d [] t e) → h.rest ≡ n → pieces r.decides 1 n e.world ≡ counted m → longer r.decides fuel choices d.world ≡ map (λ cs. choices ++ cs) (counted m)
longer_behind r s t fuel n m choices d e h left is =
    let made : h.taken ≡ choices = sym (append-nil h.taken) ∙ h.joined in
    ap (λ cs. longer r.decides fuel cs d.world) (sym h.joined) ∙ h.along.lists []
    ∙ ap (λ cs. map (λ x. cs ++ x) (longer r.decides h.rest [] e.world)) made
    ∙ ap (map (λ x. choices ++ x)) (longer_none r.decides h.rest e.world ∙ ap (λ q. pieces r.decides 1 q e.world) left ∙ is)

-- ---- one piece for each candidate

pub each_more : (old mid new : List Piece) (choices own : List ℕ) (i : ℕ) → Adds old (map (λ c. choices ++ c ∷ []) (range_with_len 0 i)) mid → own ≡ choices ++ i ∷ [] → Adds mid (own ∷ []) new → Adds old (map (λ c. choices ++ c ∷ []) (range_with_len 0 (i + 1))) new
each_more old mid new choices own i a is b =
    adds_same old new (map (λ c. choices ++ c ∷ []) (range_with_len 0 i) ++ own ∷ []) (map (λ c. choices ++ c ∷ []) (range_with_len 0 (i + 1)))
    (ap (λ cs. map (λ c. choices ++ c ∷ []) (range_with_len 0 i) ++ cs ∷ []) is ∙ sym (map-range_with_len_more (λ c. choices ++ c ∷ []) 0 i i (omega arith)))
    (adds_then old mid new (map (λ c. choices ++ c ∷ []) (range_with_len 0 i)) (own ∷ []) a b)

pub each_many : (old mid : List Piece) (choices : List ℕ) (i : ℕ) → Adds old (map (λ c. choices ++ c ∷ []) (range_with_len 0 i)) mid → length mid ≡ length old + i
each_many old mid choices i a = a.count ∙ ap (λ n. length old + n) (length-map (range_with_len 0 i) (λ c. choices ++ c ∷ []) ∙ length-range_with_len 0 i)

map_both : (choices : List ℕ) (xs : List ℕ) → map (λ cs. choices ++ cs) (map (λ c. c ∷ []) xs) ≡ map (λ c. choices ++ c ∷ []) xs
map_both choices [] = refl
map_both choices (x ∷ xs) = ap (λ ys. (choices ++ x ∷ []) ∷ ys) (map_both choices xs)

pub longer_each : (old new : List Piece) (choices : List ℕ) (m : ℕ) → 0 < m → Adds old (map (λ c. choices ++ c ∷ []) (range_with_len 0 m)) new → Adds old (map (λ cs. choices ++ cs) (counted m)) new
longer_each old new choices m some a =
    adds_same old new (map (λ c. choices ++ c ∷ []) (range_with_len 0 m)) (map (λ cs. choices ++ cs) (counted m)) (sym (ap (map (λ cs. choices ++ cs)) (counted_some m some) ∙ map_both choices (range_with_len 0 m))) a

pub counted_long : (m : ℕ) → 0 < m → length (counted m) ≡ m
counted_long m some = ap length (counted_some m some) ∙ length-map (range_with_len 0 m) (λ c. c ∷ []) ∙ length-range_with_len 0 m

pub longer_own : (old new : List Piece) (choices own : List ℕ) (m : ℕ) → m ≡ 0 → own ≡ choices → Adds old (own ∷ []) new → Adds old (map (λ cs. choices ++ cs) (counted m)) new
longer_own old new choices own m none is a =
    adds_same old new (own ∷ []) (map (λ cs. choices ++ cs) (counted m)) (ap (λ cs. cs ∷ []) (is ∙ sym (append-nil choices)) ∙ sym (ap (λ q. map (λ cs. choices ++ cs) (counted q)) none)) a

pub counted_none : (m : ℕ) → m ≡ 0 → length (counted m) ≡ 1
counted_none m none = ap (λ q. length (counted q)) none

-- ---- all of some pieces

pub take_next : (ps : List Piece) (i : ℕ) (p : Piece) → i < length ps → p ≡ get_or ps i p → take (i + 1) ps ≡ take i ps ++ p ∷ []
take_next ps i p within read = take_more ps i p within ∙ ap (λ q. take i ps ++ q ∷ []) (sym read)

choices_join : (ps qs : List Piece) → choices_of (ps ++ qs) ≡ choices_of ps ++ choices_of qs
choices_join [] qs = refl
choices_join (p ∷ ps) qs = ap (λ xs. p.choices ∷ xs) (choices_join ps qs)

all_at : (P : List ℕ → Type 0) (ps : List Piece) (i : ℕ) (p : Piece) → i < length ps → AllByRecursion P (choices_of ps) → P (get_or ps i p).choices
all_at P [] i p within h = absurd (omega (arith, within))
all_at P (q ∷ ps) zero p within h = h.0
all_at P (q ∷ ps) (suc i) p within h = all_at P ps i p (omega (arith, within)) h.1

module _ (decide : World → Decision) where
  longer_next : (fuel : ℕ) (w : World) (ps : List Piece) (i : ℕ) (p : Piece) → i < length ps → p ≡ get_or ps i p → all_longer decide fuel w (take (i + 1) ps) ≡ all_longer decide fuel w (take i ps) ++ longer decide fuel p.choices w
  longer_next fuel w ps i p within read =
      ap (all_longer decide fuel w) (take_next ps i p within read)
      ∙ flat_map-append (λ (q : Piece). longer decide fuel q.choices w) (take i ps) (p ∷ [])
      ∙ ap (λ xs. all_longer decide fuel w (take i ps) ++ xs) (append-nil (longer decide fuel p.choices w))

  pub grown_more : (fuel : ℕ) (w : World) (ps : List Piece) (i : ℕ) (p : Piece) (cs : List ℕ) (mid new : List Piece) → i < length ps → p ≡ get_or ps i p → cs ≡ p.choices → Adds [] (all_longer decide fuel w (take i ps)) mid → Adds mid (longer decide fuel cs w) new → Adds [] (all_longer decide fuel w (take (i + 1) ps)) new
  grown_more fuel w ps i p cs mid new within read is a b =
      adds_same [] new (all_longer decide fuel w (take i ps) ++ longer decide fuel cs w) (all_longer decide fuel w (take (i + 1) ps))
      (ap (λ x. all_longer decide fuel w (take i ps) ++ longer decide fuel x w) is ∙ sym (longer_next fuel w ps i p within read))
      (adds_then [] mid new (all_longer decide fuel w (take i ps)) (longer decide fuel cs w) a b)

  pub grown_many : (fuel : ℕ) (w : World) (ps : List Piece) (i : ℕ) (p : Piece) (cs : List ℕ) (mid : List Piece) (most : ℕ) → i < length ps → p ≡ get_or ps i p → cs ≡ p.choices → Adds [] (all_longer decide fuel w (take i ps)) mid → most < length mid + length (longer decide fuel cs w) → most < length (all_longer decide fuel w ps)
  grown_many fuel w ps i p cs mid most within read is a h =
      let here : length (longer decide fuel (get_or ps i p).choices w) ≡ length (longer decide fuel cs w) = ap (λ (q : Piece). length (longer decide fuel q.choices w)) (sym read) ∙ ap (λ x. length (longer decide fuel x w)) (sym is) in
      omega (arith, length-flat_map-take (λ (q : Piece). longer decide fuel q.choices w) ps i p within, here, a.count, h)

  pub still_more : (fuel : ℕ) (w : World) (ps : List Piece) (i : ℕ) (p : Piece) (cs : List ℕ) → i < length ps → p ≡ get_or ps i p → cs ≡ p.choices → longer decide fuel cs w ≡ cs ∷ [] → all_longer decide fuel w (take i ps) ≡ choices_of (take i ps) → all_longer decide fuel w (take (i + 1) ps) ≡ choices_of (take (i + 1) ps)
  still_more fuel w ps i p cs within read is own same =
      longer_next fuel w ps i p within read
      ∙ ap (λ x. all_longer decide fuel w (take i ps) ++ longer decide fuel x w) (sym is)
      ∙ ap (λ xs. all_longer decide fuel w (take i ps) ++ xs) (own ∙ ap (λ x. x ∷ []) is)
      ∙ ap (λ xs. xs ++ p.choices ∷ []) same
      ∙ sym (ap choices_of (take_next ps i p within read) ∙ choices_join (take i ps) (p ∷ []))

  -- what a piece becomes where no choice is to be made
  pub longer_same : (fuel m : ℕ) (w : World) (choices : List ℕ) → longer decide fuel choices w ≡ map (λ cs. choices ++ cs) (counted m) → m ≡ 0 → longer decide fuel choices w ≡ choices ∷ []
  longer_same fuel m w choices is none = is ∙ ap (λ q. map (λ cs. choices ++ cs) (counted q)) none ∙ ap (λ cs. cs ∷ []) (append-nil choices)

  pub longer_many : (fuel m : ℕ) (w : World) (choices : List ℕ) → longer decide fuel choices w ≡ map (λ cs. choices ++ cs) (counted m) → length (longer decide fuel choices w) ≡ length (counted m)
  longer_many fuel m w choices is = ap length is ∙ length-map (counted m) (λ cs. choices ++ cs)

  pub longer_adds : (fuel m : ℕ) (w : World) (choices : List ℕ) (old new : List Piece) → longer decide fuel choices w ≡ map (λ cs. choices ++ cs) (counted m) → Adds old (map (λ cs. choices ++ cs) (counted m)) new → Adds old (longer decide fuel choices w) new
  longer_adds fuel m w choices old new is a = adds_same old new (map (λ cs. choices ++ cs) (counted m)) (longer decide fuel choices w) (sym is) a

  pub reached_at : (fuel : ℕ) (w v : World) (ps : List Piece) (i : ℕ) (p : Piece) (cs : List ℕ) → i < length ps → p ≡ get_or ps i p → cs ≡ p.choices → v ≡ w → AllByRecursion (λ x. Reaches decide fuel x w) (choices_of ps) → Reaches decide fuel cs v
  reached_at fuel w v ps i p cs within read is same h =
      rw same (subst (λ x. Reaches decide fuel x w) (sym (is ∙ ap (λ (q : Piece). q.choices) read)) (all_at (λ x. Reaches decide fuel x w) ps i p within h))

  pub grown_all : (fuel : ℕ) (w : World) (ps new : List Piece) (i : ℕ) → length ps ≤ i → Adds [] (all_longer decide fuel w (take i ps)) new → new ≡ numbered 0 (all_longer decide fuel w ps)
  grown_all fuel w ps new i h a = a.numbers [] refl ∙ ap (λ qs. numbered 0 (all_longer decide fuel w qs)) (take_all i ps h)

  pub still_all : (fuel : ℕ) (w : World) (ps : List Piece) (i : ℕ) → length ps ≤ i → all_longer decide fuel w (take i ps) ≡ choices_of (take i ps) → all_longer decide fuel w ps ≡ choices_of ps
  still_all fuel w ps i h same = ap (all_longer decide fuel w) (sym (take_all i ps h)) ∙ same ∙ ap choices_of (take_all i ps h)

  -- ---- level by level

  longer_of : (fuel : ℕ) (w : World) (ps : List Piece) → all_longer decide fuel w ps ≡ flat_map (λ cs. longer decide fuel cs w) (choices_of ps)
  longer_of fuel w ps = sym (flat_map-map (λ cs. longer decide fuel cs w) (λ (p : Piece). p.choices) ps)

  pub choices_are : (fuel k : ℕ) (w : World) (ps : List Piece) → ps ≡ numbered 0 (pieces decide k fuel w) → choices_of ps ≡ pieces decide k fuel w
  choices_are fuel k w ps is = ap choices_of is ∙ numbered_choices 0 (pieces decide k fuel w)

  pub level_reached : (fuel k : ℕ) (w : World) (ps : List Piece) → ps ≡ numbered 0 (pieces decide k fuel w) → AllByRecursion (λ cs. Reaches decide fuel cs w) (choices_of ps)
  level_reached fuel k w ps is = rw (choices_are fuel k w ps is) (pieces_reached decide k fuel w)

  longer_level : (fuel k : ℕ) (w : World) (ps : List Piece) → ps ≡ numbered 0 (pieces decide k fuel w) → all_longer decide fuel w ps ≡ pieces decide (suc k) fuel w
  longer_level fuel k w ps is = longer_of fuel w ps ∙ ap (flat_map (λ cs. longer decide fuel cs w)) (choices_are fuel k w ps is) ∙ all_longer_are decide fuel k w

  pub next_level : (fuel k : ℕ) (w : World) (ps qs : List Piece) → ps ≡ numbered 0 (pieces decide k fuel w) → qs ≡ numbered 0 (all_longer decide fuel w ps) → qs ≡ numbered 0 (pieces decide (k + 1) fuel w)
  next_level fuel k w ps qs is grown = grown ∙ ap (numbered 0) (longer_level fuel k w ps is ∙ ap (λ q. pieces decide q fuel w) (sym (add-one k)))

  pub last_level : (fuel k m : ℕ) (w : World) (ps qs : List Piece) → ps ≡ numbered 0 (pieces decide k fuel w) → qs ≡ numbered 0 (all_longer decide fuel w ps) → all_longer decide fuel w ps ≡ choices_of ps → k ≤ m → qs ≡ numbered 0 (pieces decide m fuel w)
  last_level fuel k m w ps qs is grown still h =
      let same : pieces decide (suc k) fuel w ≡ pieces decide k fuel w = sym (longer_level fuel k w ps is) ∙ still ∙ choices_are fuel k w ps is in
      grown ∙ ap (numbered 0) (longer_level fuel k w ps is ∙ same ∙ sym (all_the_same decide fuel k m w h same))

  pub too_many : (fuel k m most : ℕ) (w : World) (ps : List Piece) → ((v : World) → CanFollow v (decide v)) → ps ≡ numbered 0 (pieces decide k fuel w) → k < m → most < length (all_longer decide fuel w ps) → most < length (pieces decide m fuel w)
  too_many fuel k m most w ps law is h many = omega (arith, many, ap length (longer_level fuel k w ps is), never_fewer decide fuel (suc k) m w law (omega (arith, h)))

pub not_many : (most : ℕ) (xs : List (List ℕ)) (ps : List Piece) → ps ≡ numbered 0 xs → length ps ≤ most → length xs ≤ most
not_many most xs ps is few = omega (arith, few, ap length is, ap length (numbered_choices 0 xs), length-map (numbered 0 xs) (λ (p : Piece). p.choices))

-- ---- a fault that is passed on

pub same_fault : {A B E : Type 0} (fault e : E) → IsErrOf {T = A} (Err fault) e → IsErrOf {T = B} (Err fault) e
same_fault fault e h = let is : fault ≡ e = cc in ap Err is

pub is_still : (b : Bool) → not b ≡ true → b ≡ false
is_still true h = cc
is_still false h = refl
