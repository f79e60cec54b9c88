-- Lines cut from the front, piece by piece, are the lines cut from the back.
use Rattle.std.proofs.Common.{◌≡◌, ℕ, Bool, true, false, ◌==◌, if◌then◌else◌, List, [], ◌∷◌, ◌++◌, map, filter, refl, ap, sym, ◌∙◌, append_assoc, append-nil}
use Rattle.mpd_model.specs.texts.Lines.{raw_lines, bare, lines_of, ended_lines, ends_with_feed}
use Rattle.mpd_laws.proofs.cutting.LineCuts.{is_part, ending_line, part_snoc, raw_part, raw_feed, bare_last, ends_feed, ended_none}
use Rattle.mpd_lines.specs.Forward.{ended_from, part_from, last_line, lines_from}

pub part_append : (p x y : List ℕ) → part_from p (x ++ y) ≡ part_from (part_from p x) y
part_append p [] y = refl
part_append p (b ∷ x) y = elim (b == 10) as (λ v. (if v then part_from [] (x ++ y) else part_from (p ++ b ∷ []) (x ++ y)) ≡ part_from (if v then part_from [] x else part_from (p ++ b ∷ []) x) y)
    [ true ↦ part_append [] x y | false ↦ part_append (p ++ b ∷ []) x y ]

pub ended_append : (p x y : List ℕ) → ended_from p (x ++ y) ≡ ended_from p x ++ ended_from (part_from p x) y
ended_append p [] y = refl
ended_append p (b ∷ x) y = elim (b == 10) as (λ v. (if v then bare (p ++ b ∷ []) ∷ ended_from [] (x ++ y) else ended_from (p ++ b ∷ []) (x ++ y))
    ≡ (if v then bare (p ++ b ∷ []) ∷ ended_from [] x else ended_from (p ++ b ∷ []) x) ++ ended_from (if v then part_from [] x else part_from (p ++ b ∷ []) x) y)
    [ true ↦ ap (λ ls. bare (p ++ b ∷ []) ∷ ls) (ended_append [] x y) | false ↦ ended_append (p ++ b ∷ []) x y ]

same_last : (p : List ℕ) → ending_line p ≡ last_line p
same_last [] = refl
same_last (b ∷ l) = refl

-- the lines cut from the back are those cut from the front
pub lines_forward : (p z : List ℕ) → is_part p ≡ true → lines_of (p ++ z) ≡ lines_from p z
lines_forward p [] e = ap lines_of (append-nil p) ∙ ap (λ x. map bare x) (raw_part p e) ∙ bare_last p e ∙ same_last p
lines_forward p (b ∷ z) e =
    elim (b == 10) as (λ v. (b == 10) ≡ v → lines_of (p ++ b ∷ z)
    ≡ (if v then bare (p ++ b ∷ []) ∷ ended_from [] z else ended_from (p ++ b ∷ []) z) ++ last_line (if v then part_from [] z else part_from (p ++ b ∷ []) z)) [
      | true ↦ λ f. ap (λ x. map bare x) (raw_feed p z b f e) ∙ ap (λ x. bare (p ++ b ∷ []) ∷ x) (lines_forward [] z refl)
      | false ↦ λ f. ap lines_of (sym (append_assoc p (b ∷ []) z)) ∙ lines_forward (p ++ b ∷ []) z (part_snoc p b e f)
    ] refl

pub ended_forward : (p z : List ℕ) → is_part p ≡ true → ended_lines (p ++ z) ≡ ended_from p z
ended_forward p [] e = ap ended_lines (append-nil p) ∙ ap (λ x. map bare (filter ends_with_feed x)) (raw_part p e) ∙ ended_none p e
ended_forward p (b ∷ z) e =
    elim (b == 10) as (λ v. (b == 10) ≡ v → ended_lines (p ++ b ∷ z) ≡ (if v then bare (p ++ b ∷ []) ∷ ended_from [] z else ended_from (p ++ b ∷ []) z)) [
      | true ↦ λ f. ap (λ x. map bare (filter ends_with_feed x)) (raw_feed p z b f e)
          ∙ ap (λ (v : Bool). map bare (if v then (p ++ b ∷ []) ∷ filter ends_with_feed (raw_lines z) else filter ends_with_feed (raw_lines z))) (ends_feed p b f)
          ∙ ap (λ x. bare (p ++ b ∷ []) ∷ x) (ended_forward [] z refl)
      | false ↦ λ f. ap ended_lines (sym (append_assoc p (b ∷ []) z)) ∙ ended_forward (p ++ b ∷ []) z (part_snoc p b e f)
    ] refl

-- the same of a text from its beginning
pub all_lines : (z : List ℕ) → lines_from [] z ≡ lines_of z
all_lines z = sym (lines_forward [] z refl)

pub whole_lines : (z : List ℕ) → ended_from [] z ≡ ended_lines z
whole_lines z = sym (ended_forward [] z refl)
