-- Words, cut off one by one.
use Rattle.std.proofs.Common.{◌≡◌, ℕ, zero, suc, ◌<◌, ◌≤◌, ◌≢◌, Bool, true, false, not, List, [], ◌∷◌, length, take, drop, if◌then◌else◌, Option, Some, None, refl, ap, sym, ◌∙◌, arith}
use Rattle.std.specs.Prelude.{filter, option_map}
use Rattle.mpd_model.specs.texts.Words.{is_blank, is_no_blank, is_dot, stop_len, with_byte, put_before, pieces, has_some, words, cut_at_dot, number_of, call_with, call_of}

-- ---- the first piece

abbrev behind : List (List ℕ) → List (List ℕ)
behind [] = []
behind (p ∷ ps) = ps

with_first : (b : ℕ) (p : List ℕ) (x : List (List ℕ)) → x ≡ p ∷ behind x → with_byte b x ≡ (b ∷ p) ∷ behind (with_byte b x)
with_first b p [] e = absurd (let h : ⊥ = cc in h)
with_first b p (q ∷ qs) e = cc

pieces_first : (z : List ℕ) → pieces z ≡ take (stop_len is_blank z) z ∷ behind (pieces z)
pieces_first [] = refl
pieces_first (b ∷ z) =
    elim (is_blank b) as (λ v. put_before v b (pieces z) ≡ take (if v then 0 else suc (stop_len is_blank z)) (b ∷ z) ∷ behind (put_before v b (pieces z)))
    [ true ↦ refl | false ↦ with_first b (take (stop_len is_blank z) z) (pieces z) (pieces_first z) ]

with_behind : (b : ℕ) (p : List ℕ) (x : List (List ℕ)) → x ≡ p ∷ behind x → behind (with_byte b x) ≡ behind x
with_behind b p [] e = absurd (let h : ⊥ = cc in h)
with_behind b p (q ∷ qs) e = refl

words_behind_at : (v : Bool) (b : ℕ) (z : List ℕ) → is_blank b ≡ v → filter (has_some {A = ℕ}) (behind (pieces z)) ≡ words (drop (stop_len is_blank z) z)
    → filter (has_some {A = ℕ}) (behind (put_before v b (pieces z))) ≡ words (drop (if v then 0 else suc (stop_len is_blank z)) (b ∷ z))
words_behind_at true b z e h = rw e refl
words_behind_at false b z e h = rw (with_behind b _ (pieces z) (pieces_first z)) h

words_behind : (z : List ℕ) → filter (has_some {A = ℕ}) (behind (pieces z)) ≡ words (drop (stop_len is_blank z) z)
words_behind [] = refl
words_behind (b ∷ z) = words_behind_at (is_blank b) b z refl (words_behind z)

with_words : (b : ℕ) (p : List ℕ) (x : List (List ℕ)) → x ≡ p ∷ behind x → filter (has_some {A = ℕ}) (with_byte b x) ≡ (b ∷ p) ∷ filter (has_some {A = ℕ}) (behind x)
with_words b p [] e = absurd (let h : ⊥ = cc in h)
with_words b p (q ∷ qs) e = cc

word_first_at : (v : Bool) (b : ℕ) (z : List ℕ) → is_blank b ≡ v → 0 < (if v then 0 else suc (stop_len is_blank z))
    → words (b ∷ z) ≡ take (if v then 0 else suc (stop_len is_blank z)) (b ∷ z) ∷ words (drop (if v then 0 else suc (stop_len is_blank z)) (b ∷ z))
word_first_at true b z e h = absurd (omega arith)
word_first_at false b z e h = rw e (with_words b (take (stop_len is_blank z) z) (pieces z) (pieces_first z) ∙ ap (λ ws. (b ∷ take (stop_len is_blank z) z) ∷ ws) (words_behind z))

-- a text that doesn't begin with a blank begins with its first word
pub word_first : (z : List ℕ) → 0 < stop_len is_blank z → words z ≡ take (stop_len is_blank z) z ∷ words (drop (stop_len is_blank z) z)
word_first [] h = absurd (omega arith)
word_first (b ∷ z) h = word_first_at (is_blank b) b z refl h

-- ---- blanks in front

words_unblanked_at : (v : Bool) (b : ℕ) (z : List ℕ) → is_blank b ≡ v → words (drop (stop_len is_no_blank z) z) ≡ words z
    → words (drop (if not v then 0 else suc (stop_len is_no_blank z)) (b ∷ z)) ≡ words (b ∷ z)
words_unblanked_at true b z e h = rw e h
words_unblanked_at false b z e h = refl

pub words_unblanked : (z : List ℕ) → words (drop (stop_len is_no_blank z) z) ≡ words z
words_unblanked [] = refl
words_unblanked (b ∷ z) = words_unblanked_at (is_blank b) b z refl (words_unblanked z)

unblanked_at : (v : Bool) (b : ℕ) (z : List ℕ) → is_blank b ≡ v → (0 < length (drop (stop_len is_no_blank z) z) → 0 < stop_len is_blank (drop (stop_len is_no_blank z) z))
    → 0 < length (drop (if not v then 0 else suc (stop_len is_no_blank z)) (b ∷ z))
    → 0 < stop_len is_blank (drop (if not v then 0 else suc (stop_len is_no_blank z)) (b ∷ z))
unblanked_at true b z e h l = h l
unblanked_at false b z e h l = rw e (omega arith)

-- what is left behind blanks is nothing, or begins with a word
pub unblanked : (z : List ℕ) → 0 < length (drop (stop_len is_no_blank z) z) → 0 < stop_len is_blank (drop (stop_len is_no_blank z) z)
unblanked [] h = h
unblanked (b ∷ z) h = unblanked_at (is_blank b) b z refl (unblanked z) h

-- where no word is left
pub no_word : (z start : List ℕ) → start ≡ drop (stop_len is_no_blank z) z → length start ≡ 0 → words z ≡ []
no_word z [] e l = sym (words_unblanked z) ∙ ap words (sym e)
no_word z (b ∷ start) e l = absurd (omega arith)

-- how the next word is cut off
pub next_word_is : (z start front rest : List ℕ) (n : ℕ) → start ≡ drop (stop_len is_no_blank z) z → length start ≢ 0 → n ≡ stop_len is_blank start → front ≡ take n start → rest ≡ drop n start
    → words z ≡ front ∷ words rest
next_word_is z start front rest n s l e f r =
    let h : 0 < length (drop (stop_len is_no_blank z) z) = omega (arith, ap length s) in
    let k : 0 < stop_len is_blank start = rw s (unblanked z h) in
    let u : words z ≡ words start = sym (words_unblanked z) ∙ ap words (sym s) in
    u ∙ rw (f, r, e) (word_first start k)

-- ---- the dot

abbrev cut : List ℕ → Option (List ℕ × List ℕ) → Bool → ℕ → Option (List ℕ × List ℕ)
cut z rest true b = Some ([], z)
cut z rest false b = option_map (λ q. (b ∷ q.0, q.1)) rest

cut_is : (v : Bool) (b : ℕ) (z : List ℕ) → is_dot b ≡ v → cut_at_dot (b ∷ z) ≡ cut z (cut_at_dot z) v b
cut_is true b z e = rw e refl
cut_is false b z e = rw e refl

dot_found_at : (v : Bool) (b : ℕ) (z : List ℕ) → is_dot b ≡ v → (stop_len is_dot z < length z → cut_at_dot z ≡ Some (take (stop_len is_dot z) z, drop (suc (stop_len is_dot z)) z))
    → (if v then 0 else suc (stop_len is_dot z)) < length (b ∷ z)
    → cut_at_dot (b ∷ z) ≡ Some (take (if v then 0 else suc (stop_len is_dot z)) (b ∷ z), drop (suc (if v then 0 else suc (stop_len is_dot z))) (b ∷ z))
dot_found_at true b z e h l = cut_is true b z e
dot_found_at false b z e h l = cut_is false b z e ∙ rw (h (omega arith)) refl

pub dot_found : (z : List ℕ) → stop_len is_dot z < length z → cut_at_dot z ≡ Some (take (stop_len is_dot z) z, drop (suc (stop_len is_dot z)) z)
dot_found [] h = absurd (omega arith)
dot_found (b ∷ z) h = dot_found_at (is_dot b) b z refl (dot_found z) h

dot_missing_at : (v : Bool) (b : ℕ) (z : List ℕ) → is_dot b ≡ v → (length z ≤ stop_len is_dot z → cut_at_dot z ≡ None)
    → length (b ∷ z) ≤ (if v then 0 else suc (stop_len is_dot z)) → cut_at_dot (b ∷ z) ≡ None
dot_missing_at true b z e h l = absurd (omega arith)
dot_missing_at false b z e h l = cut_is false b z e ∙ rw (h (omega arith)) refl

pub dot_missing : (z : List ℕ) → length z ≤ stop_len is_dot z → cut_at_dot z ≡ None
dot_missing [] h = refl
dot_missing (b ∷ z) h = dot_missing_at (is_dot b) b z refl (dot_missing z) h

pub no_call : (z : List ℕ) (n : ℕ) → n ≡ stop_len is_dot z → n ≡ length z → call_of z ≡ None
no_call z n e l = rw (dot_missing z (omega arith)) refl

drop_one : (n : ℕ) (z : List ℕ) → drop 1 (drop n z) ≡ drop (suc n) z
drop_one zero z = refl
drop_one (suc n) [] = refl
drop_one (suc n) (b ∷ z) = drop_one n z

pub call_is : (z rank behind index : List ℕ) (n : ℕ) → n ≡ stop_len is_dot z → n < length z → rank ≡ take n z → behind ≡ drop n z → index ≡ drop 1 behind
    → call_of z ≡ call_with (number_of rank) (number_of index)
call_is z rank behind index n e l r b i =
    rw (dot_found z (omega arith)) rw (sym e) rw (sym r) rw (sym (drop_one n z)) rw (sym b) rw (sym i) refl

pub ruleset cutting = (no_word, next_word_is, no_call, call_is)
