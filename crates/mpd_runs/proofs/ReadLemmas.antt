-- The lines of a text as steps, one line at a time.
use Rattle.std.proofs.Common.{◌≡◌, ℕ, suc, ◌+◌, List, [], ◌∷◌, ◌++◌, Option, Some, None, Result, Ok, Err, map, refl, sym, ap, ◌∙◌, arith, append_assoc, append-nil}
use Rattle.mpd_model.specs.declared.step.Step.{Step}
use Rattle.mpd_model.specs.texts.Lines.{raw_lines, lines_of, bare}
use Rattle.mpd_runs.specs.Read.{behind, with_step, line_step, steps_in}

behind_two : (xs ys : List Step) (r : Result (List Step) ℕ) → behind (xs ++ ys) r ≡ behind xs (behind ys r)
behind_two xs ys (Ok more) = ap Ok (append_assoc xs ys more)
behind_two xs ys (Err number) = refl

split : (above : ℕ) (rest raw after : List ℕ) → raw_lines rest ≡ raw ∷ raw_lines after → steps_in (above + 1) (lines_of rest) ≡ with_step (above + 1) (line_step (bare raw)) (steps_in (above + 1 + 1) (lines_of after))
split above rest raw after cut =
    let up : suc (above + 1) ≡ above + 1 + 1 = omega arith in
    ap (λ ls. steps_in (above + 1) (map bare ls)) cut ∙ ap (λ k. with_step (above + 1) (line_step (bare raw)) (steps_in k (lines_of after))) up

-- a line more is a step
pub read_more : (above : ℕ) (rest raw after text : List ℕ) (a : Step) (o : Option Step) (so_far now : List Step) (total : Result (List Step) ℕ) → raw_lines rest ≡ raw ∷ raw_lines after → text ≡ bare raw
    → o ≡ line_step text → o ≡ Some a → now ≡ so_far ++ a ∷ [] → behind so_far (steps_in (above + 1) (lines_of rest)) ≡ total → behind now (steps_in (above + 1 + 1) (lines_of after)) ≡ total
read_more above rest raw after text a o so_far now total cut is step some more e =
    let others : Result (List Step) ℕ = steps_in (above + 1 + 1) (lines_of after) in
    let here : line_step (bare raw) ≡ Some a = ap line_step (sym is) ∙ sym step ∙ some in
    let all : steps_in (above + 1) (lines_of rest) ≡ behind (a ∷ []) others = split above rest raw after cut ∙ ap (λ p. with_step (above + 1) p others) here in
    ap (λ xs. behind xs others) more ∙ behind_two so_far (a ∷ []) others ∙ ap (behind so_far) (sym all) ∙ e

-- a line is none
pub read_wrong : (above : ℕ) (rest raw after text : List ℕ) (o : Option Step) (so_far : List Step) (total : Result (List Step) ℕ) → raw_lines rest ≡ raw ∷ raw_lines after → text ≡ bare raw
    → o ≡ line_step text → o ≡ None → behind so_far (steps_in (above + 1) (lines_of rest)) ≡ total → total ≡ Err (above + 1)
read_wrong above rest raw after text o so_far total cut is step none e =
    let others : Result (List Step) ℕ = steps_in (above + 1 + 1) (lines_of after) in
    let here : line_step (bare raw) ≡ None = ap line_step (sym is) ∙ sym step ∙ none in
    let all : steps_in (above + 1) (lines_of rest) ≡ Err (above + 1) = split above rest raw after cut ∙ ap (λ p. with_step (above + 1) p others) here in
    sym e ∙ ap (behind so_far) all

-- no line is left
pub read_done : (above : ℕ) (rest : List ℕ) (so_far : List Step) (total : Result (List Step) ℕ) → raw_lines rest ≡ [] → behind so_far (steps_in (above + 1) (lines_of rest)) ≡ total → total ≡ Ok so_far
read_done above rest so_far total cut e = sym e ∙ ap (λ ls. behind so_far (steps_in (above + 1) (map bare ls))) cut ∙ ap Ok (append-nil so_far)

pub nothing_read : (r : Result (List Step) ℕ) → behind [] r ≡ r
nothing_read (Ok more) = refl
nothing_read (Err number) = refl

pub ruleset reading = (read_more, read_wrong, read_done, nothing_read)
