-- One step of each recursion on a number, at a number that the code counts down.
use Rattle.std.proofs.Common.{◌≡◌, ℕ, suc, ◌+◌, ◌-◌, ◌<◌, ◌≤◌, Ok, refl, arith}
use Rattle.mpd_model.specs.script.Term.{Term}
use Rattle.mpd_model.specs.declared.read_fault.FaultCode.TheVariants.{TooDeep}
use Rattle.mpd_model.specs.grammar.Input.{Parser, Input, and_then, token, fail}
use Rattle.mpd_model.specs.grammar.Grammar.{chain, chain_by, operator_at, turns, level, atom, expr}

chain_none : (p : Parser Term) (k n : ℕ) (left : Term) (i : Input) → n ≡ 0 → chain p k n left i ≡ Ok (left, i)
unfolding chain
chain_none p k n left i e = rw e refl

chain_some : (p : Parser Term) (k n m : ℕ) (left : Term) (i : Input) → n ≡ suc m → chain p k n left i ≡ chain_by (chain p k m) p left (operator_at k (token i)) i
unfolding chain
chain_some p k n m left i e = rw e refl

pub chain_more : (p : Parser Term) (k n at : ℕ) (left : Term) (i : Input) → at < n → chain p k (n - at) left i ≡ chain_by (chain p k (n - (at + 1))) p left (operator_at k (token i)) i
chain_more p k n at left i h = chain_some p k (n - at) (n - (at + 1)) left i (omega arith)

pub chain_done : (p : Parser Term) (k n at : ℕ) (left : Term) (i : Input) → n ≤ at → chain p k (n - at) left i ≡ Ok (left, i)
chain_done p k n at left i h = chain_none p k (n - at) left i (omega arith)

pub level_none : (p : ℕ → Parser Term) (k : ℕ) (i : Input) → k ≡ 0 → level p k i ≡ atom p i
unfolding level
level_none p k i e = rw e refl

level_some : (p : ℕ → Parser Term) (k m : ℕ) (i : Input) → k ≡ suc m → level p k i ≡ and_then (level p m i) (λ left j. chain (level p m) k (turns k j) left j)
unfolding level
level_some p k m i e = rw e refl

pub level_more : (p : ℕ → Parser Term) (k : ℕ) (i : Input) → 0 < k → level p k i ≡ and_then (level p (k - 1) i) (λ left j. chain (level p (k - 1)) k (turns k j) left j)
level_more p k i h = level_some p k (k - 1) i (omega arith)

pub expr_none : (n k : ℕ) (i : Input) → n ≡ 0 → expr n k i ≡ fail TooDeep i
unfolding expr
expr_none n k i e = rw e refl

expr_some : (n m k : ℕ) (i : Input) → n ≡ suc m → expr n k i ≡ level (expr m) k i
unfolding expr
expr_some n m k i e = rw e refl

pub expr_more : (n k : ℕ) (i : Input) → 0 < n → expr n k i ≡ level (expr (n - 1)) k i
expr_more n k i h = expr_some n (n - 1) k i (omega arith)

pub ruleset turning = (chain_more, chain_done)

pub ruleset levels = (level_none, level_more)

pub ruleset depths = (expr_none, expr_more)
