-- What a source of lines gives, put together from its parts.
use Rattle.std.proofs.Common.{◌≡◌, ℕ, ◌+◌, ◌≤◌, List, [], ◌∷◌, ◌++◌, length, take, drop, true, ap, sym, ◌∙◌}
use Rattle.std.proofs.lemmas.List.{take-append-drop, drop-drop, take_all, append_assoc}
use Rattle.mpd_console.specs.Quitting.{is_none}

-- what is left after the first bytes is what stands after them
pub put_front : (n s : ℕ) (all front : List ℕ) → front ≡ take n (drop s all) → drop s all ≡ front ++ drop (s + n) all
put_front n s all front is = sym (take-append-drop n (drop s all)) ∙ ap (λ x. x ++ drop n (drop s all)) (sym is) ∙ ap (λ y. front ++ y) (drop-drop n s all)

-- all that there is, if there is room for it
pub all_of : (n : ℕ) (xs : List ℕ) → length xs ≤ n → xs ≡ take n xs
all_of n xs few = sym (take_all n xs few)

pub from_file : (words held words' held' given : List ℕ) → words ≡ given ++ words' → held' ≡ held → words ++ held ≡ given ++ (words' ++ held')
from_file words held words' held' given is same = ap (λ w. w ++ held) is ∙ append_assoc given words' held ∙ ap (λ h. given ++ (words' ++ h)) (sym same)

from_held_by : (words held held' given : List ℕ) → is_none words ≡ true → held ≡ given ++ held' → words ++ held ≡ given ++ (words ++ held')
from_held_by [] held held' given none is = is
from_held_by (b ∷ z) held held' given none is = absurd (cc)

pub from_held : (words held words' held' given : List ℕ) → is_none words ≡ true → words' ≡ words → held ≡ given ++ held' → words ++ held ≡ given ++ (words' ++ held')
from_held words held words' held' given none same is = from_held_by words held held' given none is ∙ ap (λ w. given ++ (w ++ held')) (sym same)

pub ruleset giving = (put_front, all_of, from_file, from_held)
