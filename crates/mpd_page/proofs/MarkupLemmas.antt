-- What is written between the two parts of the template has no `<`.
use Rattle.std.proofs.Common.{◌≡◌, ℕ, Bool, true, false, ◌&&◌, ◌==◌, not, List, [], ◌∷◌, ◌++◌, cond, refl, ap, ◌∙◌, codes}
use Rattle.std.proofs.lemmas.List.Folds.{list_all-append}
use Rattle.mpd_page.specs.Markup.{no_less, harmless_byte, harmless}
use Rattle.mpd_page.specs.PageLaws.{NoMarkup}

both : (xs ys : List ℕ) → no_less xs ≡ true → no_less ys ≡ true → no_less (xs ++ ys) ≡ true
both xs ys h k = list_all-append (λ b. not (b == 60)) xs ys ∙ ap (λ b. b && no_less ys) h ∙ k

one_byte : (t : Bool) (b : ℕ) → (b == 60) ≡ t → no_less (cond t (codes "\\u003c") (b ∷ [])) ≡ true
one_byte true b e = refl
one_byte false b e = ap (λ t. not t && true) e

all_bytes : (text : List ℕ) → no_less (harmless text) ≡ true
all_bytes [] = refl
all_bytes (b ∷ text) = both (harmless_byte b) (harmless text) (one_byte (b == 60) b refl) (all_bytes text)

pub no_markup : NoMarkup
no_markup = all_bytes
