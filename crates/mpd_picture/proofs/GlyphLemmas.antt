-- What steps show, on the way back to where they led.
use Rattle.std.proofs.Common.{◌≡◌, ℕ, ◌<◌, ◌+◌, List, ◌∷◌, ◌++◌, length, drop, get_or, slice_get, Some, sym, ap, ◌∙◌, arith, append_assoc}
use Rattle.std.proofs.lemmas.List.{drop_more, take_all, length-take-le}
use Rattle.std.proofs.lemmas.Option.{slice_get_within, slice_get-get_or, get_or_from_slice_get}
use Rattle.mpd_model.specs.declared.step.Step.{Step}
use Rattle.mpd_model.specs.declared.step.Step.TheVariants.{Release}
use Rattle.mpd_model.specs.steps.World.{World, start}
use Rattle.mpd_model.specs.steps.Next.{next}
use Rattle.mpd_model.specs.runs.Trail.{Trail, IsReached, done_steps, world_of, gone_back, forgotten}
use Rattle.mpd_picture.specs.declared.glyph.Glyph.{Glyph}
use Rattle.mpd_picture.specs.Glyphs.{before_step, step_glyphs, row_behind, led, glyphs_behind, glyphs_of}

abbrev shown : List ℕ → World → World → ℕ → Step → List Glyph
shown lines w v row a = step_glyphs (before_step lines w a) v row a

abbrev below : List ℕ → World → World → ℕ → Step → ℕ
below lines w v row a = row_behind (before_step lines w a) v row a

glyphs_next : (lines : List ℕ) (steps : List Step) (place row : ℕ) (w v : World) (a : Step) → slice_get steps place ≡ Some a → next w a ≡ Some v
    → glyphs_behind lines w row (drop place steps) ≡ shown lines w v row a ++ glyphs_behind lines v (below lines w v row a) (drop (place + 1) steps)
glyphs_next lines steps place row w v a at leads =
    let rest : List Step = drop (place + 1) steps in
    let split : drop place steps ≡ a ∷ rest = drop_more steps place a (slice_get_within steps place a at) ∙ ap (λ b. b ∷ rest) (get_or_from_slice_get steps place a a at) in
    ap (glyphs_behind lines w row) split ∙ ap (led (λ u. shown lines w u row a ++ glyphs_behind lines u (below lines w u row a) rest)) leads

-- one step more has shown what it does
pub glyphs_more : (lines : List ℕ) (steps : List Step) (place row behind : ℕ) (t : Trail) (w v : World) (so_far now total : List Glyph) → place < length steps → t.steps ≡ steps → t.depth ≡ place
    → t.program.lines ≡ lines → so_far ++ glyphs_behind lines w row (drop place steps) ≡ total
    → ((a : Step) → slice_get t.steps t.depth ≡ Some a → now ≡ so_far ++ shown t.program.lines w v row a)
    → ((a : Step) → slice_get t.steps t.depth ≡ Some a → behind ≡ below t.program.lines w v row a)
    → ((a : Step) → slice_get t.steps t.depth ≡ Some a → next w a ≡ Some v)
    → now ++ glyphs_behind lines v behind (drop (place + 1) steps) ≡ total
glyphs_more lines steps place row behind t w v so_far now total within list depth same e glyphs rows leads =
    let a : Step = get_or steps place Release in
    let at : slice_get steps place ≡ Some a = slice_get-get_or steps place Release within in
    let there : slice_get t.steps t.depth ≡ Some a = ap (λ xs. slice_get xs t.depth) list ∙ ap (slice_get steps) depth ∙ at in
    let rest : List Glyph = glyphs_behind lines v (below lines w v row a) (drop (place + 1) steps) in
    ap (λ k. now ++ glyphs_behind lines v k (drop (place + 1) steps)) (rows a there ∙ ap (λ ls. below ls w v row a) same)
    ∙ ap (λ xs. xs ++ rest) (glyphs a there ∙ ap (λ ls. so_far ++ shown ls w v row a) same) ∙ append_assoc so_far (shown lines w v row a) rest
    ∙ ap (λ xs. so_far ++ xs) (sym (glyphs_next lines steps place row w v a at (leads a there))) ∙ e

-- a copy has no undone step
pub clean_copy : (t u : Trail) (w : World) → IsReached (record { trail = t; world = w }) → u ≡ forgotten t → length u.steps ≡ u.depth
clean_copy t u w h e = ap (λ (x : Trail). length x.steps) e ∙ length-take-le t.depth t.steps h.within ∙ sym (ap (λ (x : Trail). x.depth) e)

inside : (w v : World) → Some w ≡ Some v → w ≡ v
inside w v h = cc

-- Where a trail without undone steps is gone back to its start, all its steps are ahead.
pub again : (t u : Trail) (w : World) → length t.steps ≡ t.depth → u ≡ gone_back t 0 → IsReached (record { trail = u; world = w }) → glyphs_behind u.program.lines w 0 u.steps ≡ glyphs_of t.program t.mode (done_steps t)
again t u w clean e reached =
    let first : w ≡ start t.program t.mode = sym (inside (start t.program t.mode) w (ap world_of (sym e) ∙ reached.world)) in
    let whole : done_steps t ≡ t.steps = take_all t.depth t.steps (omega (arith, clean)) in
    ap (λ (x : Trail). glyphs_behind x.program.lines w 0 x.steps) e ∙ ap (λ (x : World). glyphs_behind t.program.lines x 0 t.steps) first ∙ sym (ap (glyphs_of t.program t.mode) whole)

pub back_there : (t u : Trail) → u ≡ gone_back t 0 → u.depth ≡ 0
back_there t u e = ap (λ (x : Trail). x.depth) e

pub ruleset going_back = (clean_copy, again, back_there)
