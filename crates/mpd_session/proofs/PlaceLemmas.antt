-- Whether a rank can go on, and what it holds.
use Rattle.std.proofs.Common.{◌≡◌, ℕ, suc, Bool, true, false, not, ◌||◌, cond, List, [], ◌∷◌, ◌++◌, length, map, take, Some, slice_get, refl, sym, ap, ◌∙◌, ◌<◌, ◌+◌, ◌==◌, inl, inr, arith}
use Rattle.std.specs.List.{filter, list_any}
use Rattle.std.proofs.lemmas.Bool.Decides.{nat_tests}
use Rattle.std.proofs.lemmas.List.{map_more}
use Rattle.std.proofs.lemmas.Option.{get_or_from_slice_get, slice_get_cases}
use Rattle.mpd_model.specs.declared.step.Step.{Step}
use Rattle.mpd_model.specs.declared.step.Step.TheVariants.{Local, Wake}
use Rattle.mpd_model.specs.steps.World.{RankWorld, World}
use Rattle.mpd_model.specs.steps.Next.{is_enabled, any_wakes_of}
use Rattle.mpd_session.specs.declared.reply.Holding.{Holding}
use Rattle.mpd_session.specs.Looks.{can_go_on, holding_of}

-- ---- whether a rank can go on

pub local_goes : (w : World) (p : ℕ) → is_enabled w (Local p) ≡ true → true ≡ can_go_on w p
local_goes w p h = rw h refl

pub wake_goes : (w : World) (p : ℕ) → is_enabled w (Local p) ≡ false → is_enabled w (Wake p) ≡ true → true ≡ can_go_on w p
wake_goes w p h k = rw (h, k) refl

some_left : (n : ℕ) → (suc n == 0) ≡ false
some_left n = grind (arith, nat_tests)

passes_by : {A : Type 0} (b : Bool) (x : A) (ys : List A) (c : Bool) → not (length ys == 0) ≡ c → not (length (cond b (x ∷ ys) ys) == 0) ≡ (b || c)
passes_by true x ys c h = ap not (some_left (length ys))
passes_by false x ys c h = h

-- some element passes where the filter leaves one
passes : {A : Type 0} (t : A → Bool) (xs : List A) → not (length (filter t xs) == 0) ≡ list_any t xs
passes t [] = refl
passes t (x ∷ xs) = passes_by (t x) x (filter t xs) (list_any t xs) (passes t xs)

pub any_goes : (w : World) (p : ℕ) (old now : List Step) (empty : Bool) → is_enabled w (Local p) ≡ false → is_enabled w (Wake p) ≡ false → old ≡ [] → now ≡ old ++ filter (is_enabled w) (any_wakes_of w.board p) → empty ≡ (length now == 0)
    → not empty ≡ can_go_on w p
any_goes w p old now empty h k none all is =
    let u : now ≡ filter (is_enabled w) (any_wakes_of w.board p) = all ∙ ap (λ (xs : List Step). xs ++ filter (is_enabled w) (any_wakes_of w.board p)) none in
    ap not (is ∙ ap (λ (xs : List Step). length xs == 0) u) ∙ passes (is_enabled w) (any_wakes_of w.board p) ∙ sym (rw (h, k) refl)

pub ruleset going = (local_goes, wake_goes)

-- ---- what ranks hold

one_more : (ranks : List RankWorld) (i : ℕ) (so_far now : List Holding) (h : Holding) (r : RankWorld) → i < length ranks → so_far ≡ map holding_of (take i ranks) → slice_get ranks i ≡ Some r → h ≡ holding_of r → now ≡ so_far ++ h ∷ []
    → now ≡ map holding_of (take (i + 1) ranks)
one_more ranks i so_far now h r within all at is more =
    more ∙ ap (λ (xs : List Holding). xs ++ h ∷ []) all ∙ ap (λ x. map holding_of (take i ranks) ++ x ∷ []) (is ∙ sym (ap holding_of (get_or_from_slice_get ranks i r r at)))
    ∙ sym (map_more holding_of ranks i r within)

pub held_more : (ranks : List RankWorld) (i : ℕ) (so_far now : List Holding) (h : Holding) → i < length ranks → so_far ≡ map holding_of (take i ranks) → ((r : RankWorld) → slice_get ranks i ≡ Some r → h ≡ holding_of r) → now ≡ so_far ++ h ∷ []
    → now ≡ map holding_of (take (i + 1) ranks)
held_more ranks i so_far now h within all is more =
    elim (slice_get_cases ranks i).1 [ inl t ↦ one_more ranks i so_far now h t.0 within all t.2 (is t.0 t.2) more | inr t ↦ absurd (omega (arith, within, t.0)) ]
