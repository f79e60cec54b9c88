-- The end of a run, where no step is undone.
use Rattle.std.proofs.Common.{◌≡◌, ℕ, List, [], ◌∷◌, ◌++◌, length, refl, sym, ap, ◌∙◌, subst}
use Rattle.std.proofs.lemmas.List.{length-take-le}
use Rattle.mpd_model.specs.steps.World.{World}
use Rattle.mpd_model.specs.runs.Trail.{Trail, IsReached, forgotten, done_steps}
use Rattle.mpd_page.specs.declared.ends.RunEnd.{RunEnd}
use Rattle.mpd_page.specs.declared.ends.PageEnd.{PageEnd}
use Rattle.mpd_page.specs.Ends.{IsEndIn, EndAdded}

-- no step is kept that is undone
pub clean : (t u : Trail) (w : World) → IsReached (record { trail = t; world = w }) → u ≡ forgotten t → length u.steps ≡ u.depth
clean t u w h e = ap (λ (x : Trail). length x.steps) e ∙ length-take-le t.depth t.steps h.within ∙ sym (ap (λ (x : Trail). x.depth) e)

-- the end of the run that was taken
pub ended : (most : ℕ) (t u : Trail) (w v : World) (n : ℕ) (e : RunEnd) (old new : List PageEnd) → IsReached (record { trail = t; world = w }) → u ≡ forgotten t → v ≡ w → IsEndIn most u.program u.mode v u.steps e
    → new ≡ old ++ record { node = n; end = e } ∷ [] → EndAdded most t.program t.mode n (done_steps t) old new
ended most t u w v n e old new r gone same is added =
    let here : IsEndIn most u.program u.mode w u.steps e = subst (λ x. IsEndIn most u.program u.mode x u.steps e) same is in
    record {
      one = record { node = n; end = e };
      is = record {
        node = refl;
        world = w;
        leads = r.world;
        is = subst (λ (x : Trail). IsEndIn most x.program x.mode w x.steps e) gone here;
      };
      added = added;
    }

pub ruleset ending = (clean, length-take-le, ended)
