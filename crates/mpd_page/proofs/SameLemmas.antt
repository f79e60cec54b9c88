-- Two places are one exactly where the definition says so, and so are two reasons to wait.
use Rattle.std.proofs.Common.{◌≡◌, Bool, true, false, ◌&&◌, ◌==◌, List, [], ◌∷◌, Option, Some, None, refl, ap, subst, ◌∙◌, eq-eqb}
use Rattle.std.proofs.lemmas.Bool.{eqb-true}
use Rattle.std.specs.Bool.{Decides, one_answer}
use Rattle.mpd_model.specs.declared.step.CallId.{CallId}
use Rattle.mpd_model.specs.declared.call.Trap.{Trap}
use Rattle.mpd_model.specs.declared.call.Trap.TheVariants.{Overflow, ZeroDivisor, BadRank, BadTag, BadIndex, Assertion}
use Rattle.mpd_model.specs.steps.World.{id_eq}
use Rattle.mpd_page.specs.declared.places.Doing.{Doing}
use Rattle.mpd_page.specs.declared.places.Doing.TheVariants as d
use Rattle.mpd_page.specs.declared.places.RankPlace.{RankPlace}
use Rattle.mpd_page.specs.declared.reasons.Prospect.{Prospect}
use Rattle.mpd_page.specs.declared.reasons.Prospect.TheVariants.{Complete, Fits}
use Rattle.mpd_page.specs.declared.reasons.Awaited.{Awaited}
use Rattle.mpd_page.specs.declared.reasons.Reason.{Reason}
use Rattle.mpd_page.specs.declared.reasons.Reason.TheVariants.{NoWait, AtBarrier, For}
use Rattle.mpd_page.specs.Same.{same_trap, same_doing, same_place, same_all, same_holder, same_partner, same_prospect, same_awaited, same_reason}

both : (a b : Bool) → a && b ≡ true → (a ≡ true) × (b ≡ true)
both true b e = (refl, e)
both false b e = cc

two : (a b : Bool) → a ≡ true → b ≡ true → a && b ≡ true
two a b h k = ap (λ x. x && b) h ∙ k

-- a test by which what passes is one, and what is one passes
decided : {A : Type 0} (same : A → A → Bool) → ((x y : A) → same x y ≡ true → x ≡ y) → ((x : A) → same x x ≡ true) → (x y : A) → Decides (same x y) (x ≡ y)
decided same is again x y = (is x y, λ e. subst (λ z. same x z ≡ true) e (again x))

-- ---- places

trap_is : (t u : Trap) → same_trap t u ≡ true → t ≡ u
trap_is Overflow Overflow e = refl
trap_is ZeroDivisor ZeroDivisor e = refl
trap_is BadRank BadRank e = refl
trap_is BadTag BadTag e = refl
trap_is BadIndex BadIndex e = refl
trap_is Assertion Assertion e = refl
trap_is Overflow u e = cc
trap_is ZeroDivisor u e = cc
trap_is BadRank u e = cc
trap_is BadTag u e = cc
trap_is BadIndex u e = cc
trap_is Assertion u e = cc

trap_again : (t : Trap) → same_trap t t ≡ true
trap_again Overflow = refl
trap_again ZeroDivisor = refl
trap_again BadRank = refl
trap_again BadTag = refl
trap_again BadIndex = refl
trap_again Assertion = refl

doing_is : (a b : Doing) → same_doing a b ≡ true → a ≡ b
doing_is d.Runs d.Runs e = refl
doing_is d.Blocked d.Blocked e = refl
doing_is (d.Trapped t) (d.Trapped u) e = ap d.Trapped (trap_is t u e)
doing_is d.Ended d.Ended e = refl
doing_is d.Runs b e = cc
doing_is d.Blocked b e = cc
doing_is (d.Trapped t) b e = cc
doing_is d.Ended b e = cc

doing_again : (a : Doing) → same_doing a a ≡ true
doing_again d.Runs = refl
doing_again d.Blocked = refl
doing_again (d.Trapped t) = trap_again t
doing_again d.Ended = refl

pub place_is : (a b : RankPlace) → same_place a b ≡ true → a ≡ b
place_is a b e =
    let h : (a.line == b.line ≡ true) × (same_doing a.doing b.doing ≡ true) = both (a.line == b.line) (same_doing a.doing b.doing) e in
    λ i. record { line = eqb-true a.line b.line h.0 i; doing = doing_is a.doing b.doing h.1 i }

place_again : (a : RankPlace) → same_place a a ≡ true
place_again a = two (a.line == a.line) (same_doing a.doing a.doing) (eq-eqb a.line a.line refl) (doing_again a.doing)

pub places_told : (r : Bool) (a b : RankPlace) → Decides r (a ≡ b) → r ≡ same_place a b
places_told r a b h = one_answer r (same_place a b) h (decided same_place place_is place_again a b)

-- ---- lists

all_is : {A : Type 0} (same : A → A → Bool) → ((x y : A) → same x y ≡ true → x ≡ y) → (xs ys : List A) → same_all same xs ys ≡ true → xs ≡ ys
all_is same is [] [] e = refl
all_is same is [] (y ∷ ys) e = absurd (cc)
all_is same is (x ∷ xs) [] e = absurd (cc)
all_is same is (x ∷ xs) (y ∷ ys) e =
    let h : (same x y ≡ true) × (same_all same xs ys ≡ true) = both (same x y) (same_all same xs ys) e in
    ap (λ z. z ∷ xs) (is x y h.0) ∙ ap (λ zs. y ∷ zs) (all_is same is xs ys h.1)

all_again : {A : Type 0} (same : A → A → Bool) → ((x : A) → same x x ≡ true) → (xs : List A) → same_all same xs xs ≡ true
all_again same again [] = refl
all_again same again (x ∷ xs) = two (same x x) (same_all same xs xs) (again x) (all_again same again xs)

-- ---- reasons

id_is : (a b : CallId) → id_eq a b ≡ true → a ≡ b
id_is a b e =
    let h : (a.rank == b.rank ≡ true) × (a.index == b.index ≡ true) = both (a.rank == b.rank) (a.index == b.index) e in
    λ i. record { rank = eqb-true a.rank b.rank h.0 i; index = eqb-true a.index b.index h.1 i }

id_again : (a : CallId) → id_eq a a ≡ true
id_again a = two (a.rank == a.rank) (a.index == a.index) (eq-eqb a.rank a.rank refl) (eq-eqb a.index a.index refl)

holder_is : (a b : Option CallId) → same_holder a b ≡ true → a ≡ b
holder_is None None e = refl
holder_is None (Some b) e = absurd (cc)
holder_is (Some a) None e = absurd (cc)
holder_is (Some a) (Some b) e = ap Some (id_is a b e)

holder_again : (a : Option CallId) → same_holder a a ≡ true
holder_again None = refl
holder_again (Some a) = id_again a

partner_is : (a b : CallId × Option CallId) → same_partner a b ≡ true → a ≡ b
partner_is a b e =
    let h : (id_eq a.0 b.0 ≡ true) × (same_holder a.1 b.1 ≡ true) = both (id_eq a.0 b.0) (same_holder a.1 b.1) e in
    λ i. (id_is a.0 b.0 h.0 i, holder_is a.1 b.1 h.1 i)

partner_again : (a : CallId × Option CallId) → same_partner a a ≡ true
partner_again a = two (id_eq a.0 a.0) (same_holder a.1 a.1) (id_again a.0) (holder_again a.1)

prospect_is : (a b : Prospect) → same_prospect a b ≡ true → a ≡ b
prospect_is Complete Complete e = refl
prospect_is (Fits xs) (Fits ys) e = ap Fits (all_is same_partner partner_is xs ys e)
prospect_is Complete (Fits ys) e = absurd (cc)
prospect_is (Fits xs) Complete e = absurd (cc)

prospect_again : (a : Prospect) → same_prospect a a ≡ true
prospect_again Complete = refl
prospect_again (Fits xs) = all_again same_partner partner_again xs

awaited_is : (a b : Awaited) → same_awaited a b ≡ true → a ≡ b
awaited_is a b e =
    let h : (id_eq a.call b.call ≡ true) × (same_prospect a.prospect b.prospect ≡ true) = both (id_eq a.call b.call) (same_prospect a.prospect b.prospect) e in
    λ i. record { call = id_is a.call b.call h.0 i; prospect = prospect_is a.prospect b.prospect h.1 i }

awaited_again : (a : Awaited) → same_awaited a a ≡ true
awaited_again a = two (id_eq a.call a.call) (same_prospect a.prospect a.prospect) (id_again a.call) (prospect_again a.prospect)

pub reason_is : (a b : Reason) → same_reason a b ≡ true → a ≡ b
reason_is NoWait NoWait e = refl
reason_is (AtBarrier xs) (AtBarrier ys) e = ap AtBarrier (all_is (λ p q. p == q) eqb-true xs ys e)
reason_is (For xs) (For ys) e = ap For (all_is same_awaited awaited_is xs ys e)
reason_is NoWait b e = cc
reason_is (AtBarrier xs) b e = cc
reason_is (For xs) b e = cc

reason_again : (a : Reason) → same_reason a a ≡ true
reason_again NoWait = refl
reason_again (AtBarrier xs) = all_again (λ p q. p == q) (λ p. eq-eqb p p refl) xs
reason_again (For xs) = all_again same_awaited awaited_again xs

pub reasons_told : (r : Bool) (a b : Reason) → Decides r (a ≡ b) → r ≡ same_reason a b
reasons_told r a b h = one_answer r (same_reason a b) h (decided same_reason reason_is reason_again a b)

pub ruleset telling = (places_told, reasons_told)
