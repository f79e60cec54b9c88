-- Of some leaves those that end as none before them does, one by one; and what holds of all leaves holds of these.
use Rattle.std.proofs.Common.{◌≡◌, ℕ, ◌<◌, ◌+◌, Bool, true, false, cond, ◌&&◌, List, [], ◌∷◌, ◌++◌, length, take, get_or, append-nil, refl, sym, ap, ◌∙◌}
use Rattle.std.specs.Prelude.{if◌then◌else◌}
use Rattle.std.specs.List.{filter, AllByRecursion}
use Rattle.std.proofs.lemmas.List.{take_more}
use Rattle.mpd_explore.specs.declared.report.SearchLeaf.{SearchLeaf}
use Rattle.mpd_explore.specs.Ends.{firsts, has_end}
use Rattle.mpd_explore.proofs.FirstLemmas.{firsts_ends, firsts_known, firsts_new}

-- with one leaf more, which is kept unless one ends as it does
pub first_more : (leaves : List SearchLeaf) (n : ℕ) (l : SearchLeaf) (found now : List SearchLeaf) → n < length leaves → l ≡ get_or leaves n l → found ≡ firsts (take n leaves) → now ≡ found ++ (if has_end found l.ending then [] else l ∷ []) → now ≡ firsts (take (n + 1) leaves)
first_more leaves n l found now within read is more =
    more
    ∙ ap (λ (fs : List SearchLeaf). fs ++ (if has_end fs l.ending then [] else l ∷ [])) is
    ∙ ap (λ (b : Bool). firsts front ++ (if b then [] else l ∷ [])) (firsts_ends front l.ending)
    ∙ one (has_end front l.ending) refl
    ∙ ap firsts (sym (take_more leaves n l within ∙ ap (λ (m : SearchLeaf). front ++ m ∷ []) (sym read)))
  where
    front : List SearchLeaf
    front = take n leaves

    one : (b : Bool) → has_end front l.ending ≡ b → firsts front ++ (if b then [] else l ∷ []) ≡ firsts (front ++ l ∷ [])
    one true e = append-nil (firsts front) ∙ sym (firsts_known front (l ∷ []) (λ j. e j && true))
    one false e = sym (firsts_new front l e)

each_filtered : (P : SearchLeaf → Type 0) (q : SearchLeaf → Bool) (ls : List SearchLeaf) → AllByRecursion P ls → AllByRecursion P (filter q ls)
each_filtered P q [] h = tt
each_filtered P q (l ∷ ls) h = one (q l) (each_filtered P q ls h.1)
  where
    one : (b : Bool) → AllByRecursion P (filter q ls) → AllByRecursion P (cond b (l ∷ filter q ls) (filter q ls))
    one true more = (h.0, more)
    one false more = more

pub each_first : (P : SearchLeaf → Type 0) (ls : List SearchLeaf) → AllByRecursion P ls → AllByRecursion P (firsts ls)
each_first P [] h = tt
each_first P (l ∷ ls) h = (h.0, each_filtered P _ (firsts ls) (each_first P ls h.1))
