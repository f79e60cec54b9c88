-- A run has no more steps than its fuel. What comes next in a state is told by a function.
use Rattle.std.proofs.Common.{◌≡◌, ℕ, zero, suc, ◌≤◌, List, [], ◌∷◌, length, slice_get, Option, Some, None, refl, ap, sym, ◌∙◌, arith}
use Rattle.std.specs.Option.{option_map}
use Rattle.mpd_model.specs.declared.step.Step.{Step}
use Rattle.mpd_model.specs.declared.decision.Decision.{Decision}
use Rattle.mpd_model.specs.declared.decision.Decision.TheVariants.{Forced, Choice, Leaf}
use Rattle.mpd_model.specs.steps.World.{World}
use Rattle.mpd_model.specs.steps.Next.{next}
use Rattle.mpd_policy.specs.Walk.{Run, run_by, run_from, run_taken, run_followed, run_stopped, stepped, chosen}

few_mapped : (n : ℕ) (f : Run → Run) (o : Option Run) (r : Run) → ((q : Run) → length (f q).steps ≡ suc (length q.steps)) → ((q : Run) → o ≡ Some q → length q.steps ≤ n) → option_map f o ≡ Some r → length r.steps ≤ suc n
few_mapped n f None r more h e = absurd cc
few_mapped n f (Some q) r more h e =
    let is : f q ≡ r = cc in
    let k : length r.steps ≡ suc (length q.steps) = ap (λ (x : Run). length x.steps) (sym is) ∙ more q in
    let u : length q.steps ≤ n = h q refl in
    omega arith

few_from : (n : ℕ) (run : World → Option Run) (o : Option World) (r : Run) → ((w : World) (q : Run) → run w ≡ Some q → length q.steps ≤ n) → run_from run o ≡ Some r → length r.steps ≤ n
few_from n run None r h e = absurd cc
few_from n run (Some w) r h e = h w r e

few_taken : (n : ℕ) (run : World → Option Run) (w : World) (c : ℕ) (o : Option Step) (r : Run) → ((w : World) (q : Run) → run w ≡ Some q → length q.steps ≤ n) → run_taken run w c o ≡ Some r → length r.steps ≤ suc n
few_taken n run w c None r h e = absurd cc
few_taken n run w c (Some a) r h e = few_mapped n (chosen c a) (run_from run (next w a)) r (λ q. refl) (λ q k. few_from n run (next w a) q h k) e

few_followed : (n : ℕ) (run : List ℕ → World → Option Run) (w : World) (cs : List ℕ) (d : Decision) (r : Run) → ((cs : List ℕ) (w : World) (q : Run) → run cs w ≡ Some q → length q.steps ≤ n) → run_followed run w cs d ≡ Some r → length r.steps ≤ suc n
few_followed n run w cs (Forced a) r h e = few_mapped n (stepped a) (run_from (run cs) (next w a)) r (λ q. refl) (λ q k. few_from n (run cs) (next w a) q (h cs) k) e
few_followed n run w [] (Choice candidates) r h e = absurd cc
few_followed n run w (c ∷ cs) (Choice candidates) r h e = few_taken n (run cs) w c (slice_get candidates c) r (h cs) e
few_followed n run w [] (Leaf o) r h e = let k : length r.steps ≡ 0 = cc in omega arith
few_followed n run w (c ∷ cs) (Leaf o) r h e = absurd cc

few_stopped : (cs : List ℕ) (d : Decision) (r : Run) → run_stopped cs d ≡ Some r → length r.steps ≤ 0
few_stopped [] (Forced a) r e = let k : length r.steps ≡ 0 = cc in omega arith
few_stopped [] (Choice candidates) r e = let k : length r.steps ≡ 0 = cc in omega arith
few_stopped [] (Leaf o) r e = let k : length r.steps ≡ 0 = cc in omega arith
few_stopped (c ∷ cs) d r e = absurd cc

pub few_steps : (decide : World → Decision) (n : ℕ) (cs : List ℕ) (w : World) (r : Run) → run_by decide n cs w ≡ Some r → length r.steps ≤ n
unfolding run_by
few_steps decide zero cs w r e = few_stopped cs (decide w) r e
few_steps decide (suc n) cs w r e = few_followed n (run_by decide n) w cs (decide w) r (few_steps decide n) e
