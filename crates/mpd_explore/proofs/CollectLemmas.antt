-- All that is to come is the walk; and a debugger is left as found.
use Rattle.std.proofs.Common.{◌≡◌, ℕ, zero, suc, ◌<◌, ◌≤◌, ◌+◌, ◌-◌, List, [], ◌∷◌, ◌++◌, length, take, map, reverse, get_or, Some, refl, sym, ap, ◌∙◌, arith, append-nil}
use Rattle.std.proofs.lemmas.List.{take_more, take_all, reverse-append}
use Rattle.mpd_model.specs.declared.step.Step.{Step}
use Rattle.mpd_model.specs.steps.World.{World}
use Rattle.mpd_model.specs.runs.Trail.{Trail, Standing, IsReached, done_steps, world_of, gone_back, forgotten}
use Rattle.mpd_explore.specs.declared.search.Open.{Open}
use Rattle.mpd_policy.specs.Walk.{Run, prefixed}
use Rattle.mpd_explore.specs.Search.{Search, picked, runs_from, come}
use Rattle.mpd_explore.specs.Report.{shown}

-- the candidates of one more open choice
pub picked_more : (stack : List Open) (i : ℕ) (x : Open) (so_far now : List ℕ) → i < length stack → x ≡ get_or stack i x → so_far ≡ picked (reverse (take i stack)) → now ≡ so_far ++ x.index ∷ [] → now ≡ picked (reverse (take (i + 1) stack))
picked_more stack i x so_far now within read told pushed =
    let more : take (i + 1) stack ≡ take i stack ++ x ∷ [] = take_more stack i x within ∙ ap (λ y. take i stack ++ y ∷ []) (sym read) in
    pushed ∙ ap (λ xs. xs ++ x.index ∷ []) told ∙ ap picked (sym (ap reverse more ∙ reverse-append (take i stack) (x ∷ [])))

-- ---- all that is to come is the walk

none_prefixed : (path : List Step) (rs : List Run) → map shown (map (prefixed [] path) rs) ≡ map shown rs
none_prefixed path [] = refl
none_prefixed path (r ∷ rs) = ap (λ ls. shown r ∷ ls) (none_prefixed path rs)

pub come_is : (s : Search) (asleep : List Step) (d : Standing) (n : ℕ) → s.limit - length (done_steps d.trail) ≡ n → come s [] asleep d ≡ map (prefixed [] (done_steps d.trail)) (runs_from s n asleep d.world)
come_is s asleep d n left =
    append-nil (map (prefixed [] (done_steps d.trail)) (runs_from s (s.limit - length (done_steps d.trail)) asleep d.world)) ∙ ap (λ m. map (prefixed [] (done_steps d.trail)) (runs_from s m asleep d.world)) left

pub come_shown : (s : Search) (asleep : List Step) (d : Standing) (n : ℕ) → s.limit - length (done_steps d.trail) ≡ n → map shown (come s [] asleep d) ≡ map shown (runs_from s n asleep d.world)
come_shown s asleep d n left = ap (map shown) (come_is s asleep d n left) ∙ none_prefixed (done_steps d.trail) (runs_from s n asleep d.world)

-- ---- as found

take_lower : (m n : ℕ) (xs : List Step) → m ≤ n → take m (take n xs) ≡ take m xs
take_lower zero n xs h = refl
take_lower (suc m) zero xs h = absurd (omega arith)
take_lower (suc m) (suc n) [] h = refl
take_lower (suc m) (suc n) (x ∷ xs) h = ap (λ ys. x ∷ ys) (take_lower m n xs (omega arith))

pub as_found : (d m e : Trail) → length d.steps ≡ d.depth → d.depth ≤ m.depth → m.program ≡ d.program → m.mode ≡ d.mode → take d.depth (done_steps m) ≡ take d.depth (done_steps d) → e ≡ forgotten (gone_back m d.depth) → e ≡ d
as_found d m e clean deep program mode below is =
    let whole : take d.depth (done_steps d) ≡ d.steps = take_lower d.depth d.depth d.steps (omega arith) ∙ take_all d.depth d.steps (omega (arith, clean)) in
    let same : take d.depth m.steps ≡ d.steps = sym (take_lower d.depth m.depth m.steps deep) ∙ below ∙ whole in
    is ∙ λ i. record { program = program i; mode = mode i; steps = same i; depth = d.depth }

some_is : (v w : World) → Some v ≡ Some w → v ≡ w
some_is v w e = cc

pub world_found : (d e : Standing) → IsReached d → IsReached e → e.trail ≡ d.trail → e.world ≡ d.world
world_found d e x y same = some_is e.world d.world (sym y.world ∙ ap world_of same ∙ x.world)
