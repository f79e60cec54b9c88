-- Rows by logical time, mark by mark.
use Rattle.std.proofs.Common.{◌≡◌, ℕ, zero, suc, ◌+◌, ◌<◌, max, List, [], ◌∷◌, ◌++◌, length, drop, get_or, sym, ap, ◌∙◌, append_assoc}
use Rattle.std.proofs.Math.Nat.{max-zero, zero-max, suc-max-suc}
use Rattle.std.proofs.lemmas.List.{drop_more}
use Rattle.mpd_model.specs.declared.step.Step.{Step}
use Rattle.mpd_model.specs.script.Program.{Program}
use Rattle.mpd_model.specs.steps.World.{World}
use Rattle.mpd_picture.specs.declared.glyph.Glyph.{Glyph}
use Rattle.mpd_picture.specs.declared.glyph.Mark.{Mark}
use Rattle.mpd_picture.specs.declared.shape.Shape.{Shape}
use Rattle.mpd_picture.specs.Shapes.{candidate_shapes, candidates_from}
use Rattle.mpd_picture.specs.Marks.{mark_after, marks_from}

pub max_joined : (a b c : ℕ) → max (max a b) c ≡ max a (max b c)
max_joined zero b c = ap (λ k. max k c) (zero-max b) ∙ sym (zero-max (max b c))
max_joined (suc a) zero c = ap (λ k. max k c) (max-zero (suc a)) ∙ ap (max (suc a)) (sym (zero-max c))
max_joined (suc a) (suc b) zero = max-zero (max (suc a) (suc b)) ∙ ap (max (suc a)) (sym (max-zero (suc b)))
max_joined (suc a) (suc b) (suc c) =
    ap (λ k. max k (suc c)) (suc-max-suc a b) ∙ suc-max-suc (max a b) c ∙ ap suc (max_joined a b c) ∙ sym (suc-max-suc a (max b c))
    ∙ ap (max (suc a)) (sym (suc-max-suc b c))

-- the mark of one glyph more
pub marks_more : (glyphs : List Glyph) (i : ℕ) (d : Glyph) (so_far now total : List Mark) → i < length glyphs
    → marks_from so_far (drop i glyphs) ≡ total → now ≡ so_far ++ mark_after so_far (get_or glyphs i d) ∷ [] → marks_from now (drop (i + 1) glyphs) ≡ total
marks_more glyphs i d so_far now total within h e = ap (λ xs. marks_from xs (drop (i + 1) glyphs)) e ∙ ap (marks_from so_far) (sym (drop_more glyphs i d within)) ∙ h

-- one candidate more
pub candidates_more : (s : Program) (w : World) (marks : List Mark) (steps : List Step) (i : ℕ) (d : Step) (number : ℕ) (so_far now total : List Shape) → i < length steps
    → so_far ++ candidates_from s w marks number (drop i steps) ≡ total → now ≡ so_far ++ candidate_shapes s w marks number (get_or steps i d)
    → now ++ candidates_from s w marks (number + 1) (drop (i + 1) steps) ≡ total
candidates_more s w marks steps i d number so_far now total within h e =
    let rest : List Shape = candidates_from s w marks (number + 1) (drop (i + 1) steps) in
    ap (λ xs. xs ++ rest) e ∙ append_assoc so_far (candidate_shapes s w marks number (get_or steps i d)) rest
    ∙ ap (λ xs. so_far ++ candidates_from s w marks number xs) (sym (drop_more steps i d within)) ∙ h
