-- Steps that are listed on the way back to where they led.
use Rattle.std.proofs.Common.{◌≡◌, ℕ, ◌<◌, ◌+◌, List, [], ◌∷◌, ◌++◌, length, take, drop, get_or, slice_get, Some, sym, ap, ◌∙◌, arith, append_assoc}
use Rattle.std.proofs.lemmas.List.{drop_more, take_all, length-take-le}
use Rattle.std.proofs.lemmas.Option.{slice_get_within, slice_get-get_or, get_or_from_slice_get}
use Rattle.mpd_model.specs.declared.step.Step.{Step}
use Rattle.mpd_model.specs.declared.step.Step.TheVariants.{Release}
use Rattle.mpd_model.specs.script.Program.{Program}
use Rattle.mpd_model.specs.steps.World.{World, start}
use Rattle.mpd_model.specs.steps.Next.{next, fold}
use Rattle.mpd_model.specs.runs.Trail.{Trail, IsReached, done_steps, world_of, gone_back, forgotten}
use Rattle.mpd_explain.specs.declared.steps.PlacedStep.{PlacedStep}
use Rattle.mpd_explain.specs.Steps.{placed_step_of}
use Rattle.mpd_explain.specs.Past.{steps_from, past_steps, past_behind}

past_next : (s : Program) (steps : List Step) (place : ℕ) (w v : World) (a : Step) → slice_get steps place ≡ Some a → next w a ≡ Some v
    → past_steps s w (drop place steps) ≡ placed_step_of s w a ∷ past_steps s v (drop (place + 1) steps)
past_next s steps place w v a at leads =
    let rest : List Step = drop (place + 1) steps in
    let split : drop place steps ≡ a ∷ rest = drop_more steps place a (slice_get_within steps place a at) ∙ ap (λ b. b ∷ rest) (get_or_from_slice_get steps place a a at) in
    ap (past_steps s w) split ∙ ap (λ o. placed_step_of s w a ∷ steps_from (λ u. past_steps s u rest) o) leads

-- one step more is listed, and was taken
pub undone_more : (s : Program) (steps : List Step) (place : ℕ) (t : Trail) (w v : World) (so_far now total : List PlacedStep) → place < length steps → t.program ≡ s → t.steps ≡ steps → t.depth ≡ place
    → so_far ++ past_steps s w (drop place steps) ≡ total
    → ((a : Step) → slice_get t.steps t.depth ≡ Some a → now ≡ so_far ++ placed_step_of t.program w a ∷ [])
    → ((a : Step) → slice_get t.steps t.depth ≡ Some a → next w a ≡ Some v)
    → now ++ past_steps s v (drop (place + 1) steps) ≡ total
undone_more s steps place t w v so_far now total within program list depth e listed leads =
    let a : Step = get_or steps place Release in
    let at : slice_get steps place ≡ Some a = slice_get-get_or steps place Release within in
    let there : slice_get t.steps t.depth ≡ Some a = ap (λ xs. slice_get xs t.depth) list ∙ ap (slice_get steps) depth ∙ at in
    let rest : List PlacedStep = past_steps s v (drop (place + 1) steps) in
    let more : now ≡ so_far ++ placed_step_of s w a ∷ [] = listed a there ∙ ap (λ q. so_far ++ placed_step_of q w a ∷ []) program in
    ap (λ xs. xs ++ rest) more ∙ append_assoc so_far (placed_step_of s w a ∷ []) rest ∙ ap (λ xs. so_far ++ xs) (sym (past_next s steps place w v a at (leads a there))) ∙ e

-- a copy has no undone step
pub clean_copy : (t u : Trail) (w : World) → IsReached (record { trail = t; world = w }) → u ≡ forgotten t → length u.steps ≡ u.depth
clean_copy t u w h e = ap (λ (x : Trail). length x.steps) e ∙ length-take-le t.depth t.steps h.within ∙ sym (ap (λ (x : Trail). x.depth) e)

behind_by : (t : Trail) (w : World) (first : ℕ) → length t.steps ≡ t.depth → fold (start t.program t.mode) (take first t.steps) ≡ Some w
    → past_steps t.program w (drop first t.steps) ≡ past_behind t.program t.mode (done_steps t) first
behind_by t w first clean leads =
    let whole : done_steps t ≡ t.steps = take_all t.depth t.steps (omega (arith, clean)) in
    sym (ap (λ xs. past_behind t.program t.mode xs first) whole ∙ ap (steps_from (λ v. past_steps t.program v (drop first t.steps))) leads)

-- Where a trail without undone steps is gone back to, the steps behind are listed.
pub behind : (t u : Trail) (w : World) (first : ℕ) → length t.steps ≡ t.depth → u ≡ gone_back t first → IsReached (record { trail = u; world = w })
    → past_steps u.program w (drop u.depth u.steps) ≡ past_behind t.program t.mode (done_steps t) first
behind t u w first clean e reached =
    ap (λ (x : Trail). past_steps x.program w (drop x.depth x.steps)) e ∙ behind_by t w first clean (ap world_of (sym e) ∙ reached.world)

pub ruleset going_back = (clean_copy, behind)
