-- A text that is cut at its spaces, and the choices that its words are.
use Rattle.std.proofs.Common.{◌≡◌, ℕ, zero, suc, ◌<◌, Bool, true, false, ◌==◌, if◌then◌else◌, List, [], ◌∷◌, ◌++◌, length, take, drop, Option, Some, None, Result, Ok, Err, OnOk, refl, ap, sym, ◌∙◌, arith, append_assoc, append-nil}
use Rattle.std.specs.Prelude.{option_map}
use Rattle.std.specs.List.{onto_first}
use Rattle.mpd_model.specs.texts.Words.{stop_len, number_of}
use Rattle.mpd_runs.specs.declared.fault.ChoicesFault.{ChoicesFault}
use Rattle.mpd_runs.specs.Choices.{cut_at_spaces, words_in, put_first, numbers_of, read_on, choices_of}

abbrev until : List ℕ → ℕ
until z = stop_len (λ b. b == 32) z

abbrev split_by : Bool → ℕ → List ℕ → List (List ℕ)
split_by v b z = if v then [] ∷ cut_at_spaces z else onto_first b (cut_at_spaces z)

abbrev until_by : Bool → List ℕ → ℕ
until_by v z = if v then 0 else suc (until z)

-- ---- a cut

found_at : (v : Bool) (b d : ℕ) (z behind : List ℕ) → (drop (until z) z ≡ d ∷ behind → cut_at_spaces z ≡ take (until z) z ∷ cut_at_spaces behind)
    → drop (until_by v z) (b ∷ z) ≡ d ∷ behind → split_by v b z ≡ take (until_by v z) (b ∷ z) ∷ cut_at_spaces behind
found_at true b d z behind h k = let s : z ≡ behind = cc in ap (λ t. [] ∷ cut_at_spaces t) s
found_at false b d z behind h k = ap (onto_first b) (h k)

found : (d : ℕ) (z behind : List ℕ) → drop (until z) z ≡ d ∷ behind → cut_at_spaces z ≡ take (until z) z ∷ cut_at_spaces behind
found d [] behind k = absurd (let h : ⊥ = cc in h)
found d (b ∷ z) behind k = found_at (b == 32) b d z behind (found d z behind) k

missing_at : (v : Bool) (b : ℕ) (z : List ℕ) → (drop (until z) z ≡ [] → cut_at_spaces z ≡ z ∷ []) → drop (until_by v z) (b ∷ z) ≡ [] → split_by v b z ≡ (b ∷ z) ∷ []
missing_at true b z h k = absurd (let x : ⊥ = cc in x)
missing_at false b z h k = ap (onto_first b) (h k)

missing : (z : List ℕ) → drop (until z) z ≡ [] → cut_at_spaces z ≡ z ∷ []
missing [] k = refl
missing (b ∷ z) k = missing_at (b == 32) b z (missing z) k

nothing : (z : List ℕ) → length z ≡ 0 → z ≡ []
nothing [] e = refl
nothing (b ∷ z) e = absurd (omega arith)

pub no_cut : (n : ℕ) (z from : List ℕ) → n ≡ until z → from ≡ drop n z → length from ≡ 0 → cut_at_spaces z ≡ z ∷ []
no_cut n z from e f g = missing z (ap (λ k. drop k z) (sym e) ∙ sym f ∙ nothing from g)

pub one_cut : (n d : ℕ) (z before from behind : List ℕ) → n ≡ until z → before ≡ take n z → from ≡ drop n z → from ≡ d ∷ behind → cut_at_spaces z ≡ before ∷ cut_at_spaces behind
one_cut n d z before from behind e b f g =
    found d z behind (ap (λ k. drop k z) (sym e) ∙ sym f ∙ g) ∙ ap (λ t. t ∷ cut_at_spaces behind) (ap (λ k. take k z) (sym e) ∙ sym b)

drop_few : (n d : ℕ) (z behind : List ℕ) → drop n z ≡ d ∷ behind → length behind < length z
drop_few zero d [] behind k = absurd (let h : ⊥ = cc in h)
drop_few (suc n) d [] behind k = absurd (let h : ⊥ = cc in h)
drop_few zero d (b ∷ z) behind k = let s : z ≡ behind = cc in omega (arith, ap length s)
drop_few (suc n) d (b ∷ z) behind k = omega (arith, drop_few n d z behind k)

pub one_shorter : (n d : ℕ) (z from behind : List ℕ) → from ≡ drop n z → from ≡ d ∷ behind → length behind < length z
one_shorter n d z from behind f g = drop_few n d z behind (sym f ∙ g)

pub ruleset cutting = (no_cut, one_cut, one_shorter)

-- ---- a word

pub empty_word : (so_far now word : List ℕ) (parts : List (List ℕ)) → length word ≡ 0 → now ≡ so_far → read_on so_far (word ∷ parts) ≡ read_on now parts
empty_word so_far now [] parts e s = ap (λ cs. read_on cs parts) (sym s)
empty_word so_far now (b ∷ word) parts e s = absurd (omega (arith, e))

pub no_word : (so_far word : List ℕ) (parts : List (List ℕ)) → (length word ≡ 0 → ⊥) → None ≡ number_of word → read_on so_far (word ∷ parts) ≡ None
no_word so_far [] parts s e = absurd (s refl)
no_word so_far (b ∷ word) parts s e = ap (λ o. option_map (λ cs. so_far ++ cs) (put_first o (numbers_of (words_in parts)))) (sym e)

with_first : (so_far : List ℕ) (c : ℕ) (o : Option (List ℕ)) → option_map (λ cs. so_far ++ cs) (put_first (Some c) o) ≡ option_map (λ cs. (so_far ++ c ∷ []) ++ cs) o
with_first so_far c None = refl
with_first so_far c (Some cs) = ap Some (sym (append_assoc so_far (c ∷ []) cs))

pub one_word : (so_far now word : List ℕ) (c : ℕ) (parts : List (List ℕ)) → (length word ≡ 0 → ⊥) → Some c ≡ number_of word → now ≡ so_far ++ c ∷ [] → read_on so_far (word ∷ parts) ≡ read_on now parts
one_word so_far now [] c parts s e p = absurd (s refl)
one_word so_far now (b ∷ word) c parts s e p =
    ap (λ o. option_map (λ cs. so_far ++ cs) (put_first o (numbers_of (words_in parts)))) (sym e) ∙ with_first so_far c (numbers_of (words_in parts)) ∙ ap (λ xs. read_on xs parts) (sym p)

pub ruleset adding = (empty_word, no_word, one_word)

-- ---- all of them

pub word_more : (all : Option (List ℕ)) (so_far now rest word behind : List ℕ) → all ≡ read_on so_far (cut_at_spaces rest) → cut_at_spaces rest ≡ word ∷ cut_at_spaces behind
    → ((parts : List (List ℕ)) → read_on so_far (word ∷ parts) ≡ read_on now parts) → all ≡ read_on now (cut_at_spaces behind)
word_more all so_far now rest word behind a c h = a ∙ ap (read_on so_far) c ∙ h (cut_at_spaces behind)

pub word_wrong : (all : Option (List ℕ)) (so_far rest word behind : List ℕ) → all ≡ read_on so_far (cut_at_spaces rest) → cut_at_spaces rest ≡ word ∷ cut_at_spaces behind
    → ((parts : List (List ℕ)) → read_on so_far (word ∷ parts) ≡ None) → all ≡ None
word_wrong all so_far rest word behind a c h = a ∙ ap (read_on so_far) c ∙ h (cut_at_spaces behind)

pub last_word : (all : Option (List ℕ)) (so_far now rest : List ℕ) → all ≡ read_on so_far (cut_at_spaces rest) → cut_at_spaces rest ≡ rest ∷ []
    → ((parts : List (List ℕ)) → read_on so_far (rest ∷ parts) ≡ read_on now parts) → all ≡ read_on now []
last_word all so_far now rest a c h = a ∙ ap (read_on so_far) c ∙ h []

pub last_wrong : (all : Option (List ℕ)) (so_far rest : List ℕ) → all ≡ read_on so_far (cut_at_spaces rest) → cut_at_spaces rest ≡ rest ∷ [] → ((parts : List (List ℕ)) → read_on so_far (rest ∷ parts) ≡ None) → all ≡ None
last_wrong all so_far rest a c h = a ∙ ap (read_on so_far) c ∙ h []

-- the answer to the last word is that of all
pub last_ok : (r : Result (Unit {0}) ChoicesFault) (all : Option (List ℕ)) (so_far now rest : List ℕ) → all ≡ read_on so_far (cut_at_spaces rest) → cut_at_spaces rest ≡ rest ∷ []
    → OnOk r ((parts : List (List ℕ)) → read_on so_far (rest ∷ parts) ≡ read_on now parts) → OnOk r (all ≡ read_on now [])
last_ok (Ok u) all so_far now rest a c h = last_word all so_far now rest a c h
last_ok (Err fault) all so_far now rest a c h = tt

pub ruleset reading = (word_more, word_wrong, last_word, last_wrong)

-- ---- the answer

behind_none : (o : Option (List ℕ)) → option_map (λ cs. [] ++ cs) o ≡ o
behind_none None = refl
behind_none (Some cs) = refl

from_none : (z none : List ℕ) → none ≡ [] → choices_of z ≡ read_on none (cut_at_spaces z)
from_none z none e = sym (behind_none (choices_of z)) ∙ ap (λ xs. read_on xs (cut_at_spaces z)) (sym e)

pub all_read : (z none items : List ℕ) → none ≡ [] → read_on none (cut_at_spaces z) ≡ read_on items [] → choices_of z ≡ Some items
all_read z none items e h = from_none z none e ∙ h ∙ ap Some (append-nil items)

pub none_read : (z none : List ℕ) → none ≡ [] → read_on none (cut_at_spaces z) ≡ None → choices_of z ≡ None
none_read z none e h = from_none z none e ∙ h

pub ruleset answering = (all_read, none_read)
