-- The steps that a report writes of a witness are read as these, and so are calls.
use Rattle.std.proofs.Common.{◌≡◌, ℕ, ◌^◌, ◌<◌, Bool, true, false, List, [], ◌∷◌, ◌++◌, length, length-append, map, Option, Some, refl, ap, sym, ◌∙◌, arith, append_assoc}
use Rattle.std.specs.Prelude.{option_map, codes}
use Rattle.std.specs.Char.{is_ascii_digit}
use Rattle.std.specs.Fmt.{decimal}
use Rattle.std.specs.List.{flat_map, AllByRecursion}
use Rattle.mpd_model.specs.declared.step.CallId.{CallId}
use Rattle.mpd_model.specs.declared.step.Step.{Step}
use Rattle.mpd_model.specs.declared.step.Step.TheVariants.{Local, Match, Wake, WakeAny, Release}
use Rattle.mpd_model.specs.texts.Words.{number_of, both_of, call_with, call_of, step_in, step_of, pair_of}
use Rattle.mpd_model.specs.texts.Texts.{id_text, step_text, steps_text}
use Rattle.mpd_witness.specs.WitnessText.{parts_at, put_first, each_read, behind_cut, steps_of}
use Rattle.mpd_witness.specs.WitnessLaws.{IsShortCall, IsShortStep}
use Rattle.mpd_witness.proofs.ClearTexts.{is_clear, clear_join, parts_listed, cut_next, words_next, words_last, decimal_clear, decimal_some, number_read}
use Rattle.mpd_witness.proofs.TextLemmas.{call_is}

-- ---- bytes that aren't in calls, steps and lines

pub record IsApart (c : ℕ) : Type 0 where
  pub digit : is_ascii_digit c ≡ false
  pub dot : is_clear c (46 ∷ []) ≡ true
  pub blank : is_clear c (32 ∷ []) ≡ true
  pub runs : is_clear c (codes "local ") ≡ true
  pub pairs : is_clear c (codes "match ") ≡ true
  pub wakes : is_clear c (codes "wake ") ≡ true
  pub chooses : is_clear c (codes "wakeany ") ≡ true
  pub frees : is_clear c (codes "release") ≡ true

pub record IsNoLine (c : ℕ) : Type 0 where
  pub apart : IsApart c
  pub comma : is_clear c (44 ∷ []) ≡ true
  pub colon : is_clear c (58 ∷ []) ≡ true
  pub leaf : is_clear c (codes "leaf ") ≡ true
  pub opens : is_clear c (codes " [") ≡ true
  pub closes : is_clear c (codes "] ") ≡ true
  pub stuck : is_clear c (codes "deadlock") ≡ true
  pub shows : is_clear c (codes "witness ") ≡ true

comma_apart : IsApart 44
comma_apart = record { digit = refl; dot = refl; blank = refl; runs = refl; pairs = refl; wakes = refl; chooses = refl; frees = refl }

pub feed_apart : IsNoLine 10
feed_apart = record {
  apart = record { digit = refl; dot = refl; blank = refl; runs = refl; pairs = refl; wakes = refl; chooses = refl; frees = refl };
  comma = refl;
  colon = refl;
  leaf = refl;
  opens = refl;
  closes = refl;
  stuck = refl;
  shows = refl;
}

pub return_apart : IsNoLine 13
return_apart = record {
  apart = record { digit = refl; dot = refl; blank = refl; runs = refl; pairs = refl; wakes = refl; chooses = refl; frees = refl };
  comma = refl;
  colon = refl;
  leaf = refl;
  opens = refl;
  closes = refl;
  stuck = refl;
  shows = refl;
}

pub wide : (n : ℕ) → n < 1000000000 → n < 2 ^ 64
wide n h = omega arith

pub call_clear : (c : ℕ) → is_ascii_digit c ≡ false → is_clear c (46 ∷ []) ≡ true → (d : CallId) → IsShortCall d → is_clear c (id_text d) ≡ true
call_clear c e p d h =
    clear_join c (decimal d.rank) (46 ∷ decimal d.index) (decimal_clear c d.rank e (wide d.rank h.0)) (clear_join c (46 ∷ []) (decimal d.index) p (decimal_clear c d.index e (wide d.index h.1)))

step_clear : (c : ℕ) → IsApart c → (a : Step) → IsShortStep a → is_clear c (step_text a) ≡ true
step_clear c k (Local p) h = clear_join c (codes "local ") (decimal p) k.runs (decimal_clear c p k.digit (wide p h))
step_clear c k (Match s r) h =
    clear_join c (codes "match " ++ id_text s) (32 ∷ id_text r) (clear_join c (codes "match ") (id_text s) k.pairs (call_clear c k.digit k.dot s h.0))
    (clear_join c (32 ∷ []) (id_text r) k.blank (call_clear c k.digit k.dot r h.1))
step_clear c k (Wake p) h = clear_join c (codes "wake ") (decimal p) k.wakes (decimal_clear c p k.digit (wide p h))
step_clear c k (WakeAny p i) h =
    clear_join c (codes "wakeany " ++ decimal p) (32 ∷ decimal i) (clear_join c (codes "wakeany ") (decimal p) k.chooses (decimal_clear c p k.digit (wide p h.0)))
    (clear_join c (32 ∷ []) (decimal i) k.blank (decimal_clear c i k.digit (wide i h.1)))
step_clear c k Release h = k.frees

pub each_so : {A : Type 0} (P Q : A → Type 0) → ((x : A) → P x → Q x) → (xs : List A) → AllByRecursion P xs → AllByRecursion Q xs
each_so P Q f [] h = tt
each_so P Q f (x ∷ xs) h = (f x h.0, each_so P Q f xs h.1)

pub listed_clear : {A : Type 0} (c : ℕ) (f : A → List ℕ) (xs : List A) → AllByRecursion (λ x. is_clear c (f x) ≡ true) xs → is_clear c (flat_map f xs) ≡ true
listed_clear c f [] h = refl
listed_clear c f (x ∷ xs) h = clear_join c (f x) (flat_map f xs) h.0 (listed_clear c f xs h.1)

-- ---- a call and a step are read

pub call_read : (c : CallId) → IsShortCall c → call_of (id_text c) ≡ Some c
call_read c h =
    call_is (id_text c) (decimal c.rank) (decimal c.index) (cut_next 46 (decimal c.rank) (decimal c.index) (decimal_clear 46 c.rank refl (wide c.rank h.0)))
    ∙ ap (λ o. call_with o (number_of (decimal c.index))) (number_read c.rank h.0) ∙ ap (call_with (Some c.rank)) (number_read c.index h.1)

some_call : (c : CallId) → IsShortCall c → 0 < length (id_text c)
some_call c h = let d : 0 < length (decimal c.rank) = decimal_some c.rank (wide c.rank h.0) in omega (arith, length-append (decimal c.rank) (46 ∷ decimal c.index), d)

step_read : (a : Step) → IsShortStep a → step_of (step_text a) ≡ Some a
step_read (Local p) h =
    ap step_in (words_next (codes "local") (decimal p) (omega arith) refl refl
    ∙ ap (λ ws. codes "local" ∷ ws) (words_last (decimal p) (decimal_some p (wide p h)) (decimal_clear 32 p refl (wide p h)) (decimal_clear 9 p refl (wide p h))))
    ∙ ap (option_map Local) (number_read p h)
step_read (Match s r) h =
    ap (λ t. step_of t) (append_assoc (codes "match ") (id_text s) (32 ∷ id_text r))
    ∙ ap step_in (words_next (codes "match") (id_text s ++ 32 ∷ id_text r) (omega arith) refl refl
    ∙ ap (λ ws. codes "match" ∷ ws) (words_next (id_text s) (id_text r) (some_call s h.0) (call_clear 32 refl refl s h.0) (call_clear 9 refl refl s h.0)
    ∙ ap (λ ws. id_text s ∷ ws) (words_last (id_text r) (some_call r h.1) (call_clear 32 refl refl r h.1) (call_clear 9 refl refl r h.1))))
    ∙ ap (λ o. option_map (λ q. Match q.0 q.1) (pair_of o (call_of (id_text r)))) (call_read s h.0)
    ∙ ap (λ o. option_map (λ q. Match q.0 q.1) (pair_of (Some s) o)) (call_read r h.1)
step_read (Wake p) h =
    ap step_in (words_next (codes "wake") (decimal p) (omega arith) refl refl
    ∙ ap (λ ws. codes "wake" ∷ ws) (words_last (decimal p) (decimal_some p (wide p h)) (decimal_clear 32 p refl (wide p h)) (decimal_clear 9 p refl (wide p h))))
    ∙ ap (option_map Wake) (number_read p h)
step_read (WakeAny p i) h =
    ap (λ t. step_of t) (append_assoc (codes "wakeany ") (decimal p) (32 ∷ decimal i))
    ∙ ap step_in (words_next (codes "wakeany") (decimal p ++ 32 ∷ decimal i) (omega arith) refl refl
    ∙ ap (λ ws. codes "wakeany" ∷ ws) (words_next (decimal p) (decimal i) (decimal_some p (wide p h.0)) (decimal_clear 32 p refl (wide p h.0)) (decimal_clear 9 p refl (wide p h.0))
    ∙ ap (λ ws. decimal p ∷ ws) (words_last (decimal i) (decimal_some i (wide i h.1)) (decimal_clear 32 i refl (wide i h.1)) (decimal_clear 9 i refl (wide i h.1)))))
    ∙ ap (λ o. option_map (λ q. WakeAny q.0 q.1) (both_of o (number_of (decimal i)))) (number_read p h.0)
    ∙ ap (λ o. option_map (λ q. WakeAny q.0 q.1) (both_of (Some p) o)) (number_read i h.1)
step_read Release h = refl

pub all_read : {A : Type 0} (read : List ℕ → Option A) (f : A → List ℕ) (P : A → Type 0) → ((x : A) → P x → read (f x) ≡ Some x) → (xs : List A) → AllByRecursion P xs → each_read read (map f xs) ≡ Some xs
all_read read f P r [] h = refl
all_read {A} read f P r (x ∷ xs) h = ap (λ (o : Option A). put_first o (each_read read (map f xs))) (r x h.0) ∙ ap (put_first (Some x)) (all_read read f P r xs h.1)

-- ---- the second line

abbrev pub second_text : ℕ → List Step → List ℕ
second_text m steps = codes "witness " ++ decimal m ++ 58 ∷ steps_text steps

abbrev behind_space : Step → List ℕ
behind_space a = 32 ∷ step_text a

space_clear : (c : ℕ) → IsApart c → (a : Step) → IsShortStep a → is_clear c (behind_space a) ≡ true
space_clear c k a h = clear_join c (32 ∷ []) (step_text a) k.blank (step_clear c k a h)

steps_read : (a : Step) (steps : List Step) → IsShortStep a → AllByRecursion IsShortStep steps → each_read step_of (parts_at 44 (steps_text (a ∷ steps))) ≡ Some (a ∷ steps)
steps_read a steps h k =
    ap (each_read step_of) (parts_listed 44 behind_space (behind_space a) steps (space_clear 44 comma_apart a h)
    (each_so IsShortStep (λ b. is_clear 44 (behind_space b) ≡ true) (space_clear 44 comma_apart) steps k))
    ∙ all_read step_of behind_space IsShortStep step_read (a ∷ steps) (h, k)

pub second_read_back : (m : ℕ) (steps : List Step) → m < 2 ^ 64 → AllByRecursion IsShortStep steps → 0 < length steps → steps_of (second_text m steps) ≡ Some steps
second_read_back m [] big h some = absurd (omega arith)
second_read_back m (a ∷ steps) big h some =
    ap (λ o. each_read step_of (parts_at 44 (behind_cut (second_text m (a ∷ steps)) o)))
    (cut_next 58 (codes "witness " ++ decimal m) (steps_text (a ∷ steps)) (clear_join 58 (codes "witness ") (decimal m) refl (decimal_clear 58 m refl big)))
    ∙ steps_read a steps h.0 h.1

steps_clear : (c : ℕ) → IsNoLine c → (steps : List Step) → AllByRecursion IsShortStep steps → is_clear c (steps_text steps) ≡ true
steps_clear c k [] h = refl
steps_clear c k (a ∷ steps) h =
    clear_join c (behind_space a) (flat_map (λ b. 44 ∷ 32 ∷ step_text b) steps) (space_clear c k.apart a h.0)
    (listed_clear c (λ b. 44 ∷ 32 ∷ step_text b) steps
    (each_so IsShortStep (λ b. is_clear c (44 ∷ 32 ∷ step_text b) ≡ true) (λ b s. clear_join c (44 ∷ []) (behind_space b) k.comma (space_clear c k.apart b s)) steps h.1))

pub second_clear : (c m : ℕ) → IsNoLine c → (steps : List Step) → m < 2 ^ 64 → AllByRecursion IsShortStep steps → is_clear c (second_text m steps) ≡ true
second_clear c m k steps big h =
    clear_join c (codes "witness " ++ decimal m) (58 ∷ steps_text steps) (clear_join c (codes "witness ") (decimal m) k.shows (decimal_clear c m k.apart.digit big))
    (clear_join c (58 ∷ []) (steps_text steps) k.colon (steps_clear c k steps h))
