-- One step of each recursion of statements and declarations.
use Rattle.std.proofs.Common.{◌≡◌, ℕ, suc, ◌+◌, ◌-◌, ◌<◌, ◌≤◌, Err, refl, arith, List, [], ◌∷◌, ◌++◌, Bool, true, if◌then◌else◌}
use Rattle.mpd_model.specs.script.Tree.{Tree}
use Rattle.mpd_model.specs.declared.read_fault.FaultCode.TheVariants.{TooDeep}
use Rattle.mpd_model.specs.declared.token.Symbol.TheVariants as m
use Rattle.mpd_model.specs.grammar.Input.{Parser, Input, token, sees, fail, refuse, refusal, ◌>>=◌, ◌>>◌, pure, expect}
use Rattle.mpd_model.specs.grammar.Grammar.{stmt, stmts, body, closes, block, declares, decls_by, decls_from}
use Rattle.mpd_laws.proofs.complete.Turns.{body_turns, decls_turns}

stmts_none : (b : Parser (List Tree)) (inside : Bool) (n : ℕ) (found : List Tree) (i : Input) → n ≡ 0 → stmts b inside n found i ≡ Err (refusal i)
unfolding stmts
stmts_none b inside n found i e = rw e refl

stmts_some : (b : Parser (List Tree)) (inside : Bool) (n k : ℕ) (found : List Tree) (i : Input) → n ≡ suc k
    → stmts b inside n found i ≡ (if closes inside (token i) then pure found else (do s ← stmt b; stmts b inside k (found ++ s ∷ []))) i
unfolding stmts
stmts_some b inside n k found i e = rw e refl

pub stmts_more : (b : Parser (List Tree)) (inside : Bool) (n at : ℕ) (found : List Tree) (i : Input) → at < n
    → stmts b inside (n - at) found i ≡ (if closes inside (token i) then pure found else (do s ← stmt b; stmts b inside (n - (at + 1)) (found ++ s ∷ []))) i
stmts_more b inside n at found i h = stmts_some b inside (n - at) (n - (at + 1)) found i (omega arith)

pub stmts_done : (b : Parser (List Tree)) (inside : Bool) (n at : ℕ) (found : List Tree) (i : Input) → n ≤ at → stmts b inside (n - at) found i ≡ Err (refusal i)
stmts_done b inside n at found i h = stmts_none b inside (n - at) found i (omega arith)

pub block_none : (n : ℕ) (i : Input) → n ≡ 0 → block n i ≡ (if sees m.BraceOpen i then fail TooDeep i else refuse i)
unfolding block
block_none n i e = rw e refl

block_some : (n k : ℕ) (i : Input) → n ≡ suc k → block n i ≡ (do expect m.BraceOpen; found ← body (block k) true; expect m.BraceClose; pure found) i
unfolding block
block_some n k i e = rw e refl

pub block_more : (n : ℕ) (i : Input) → 0 < n → block n i ≡ (do expect m.BraceOpen; found ← body (block (n - 1)) true; expect m.BraceClose; pure found) i
block_more n i h = block_some n (n - 1) i (omega arith)

decls_none : (n : ℕ) (i : Input) → n ≡ 0 → decls_from n i ≡ Err (refusal i)
unfolding decls_from
decls_none n i e = rw e refl

decls_some : (n k : ℕ) (i : Input) → n ≡ suc k → decls_from n i ≡ decls_by (decls_from k) (declares (token i)) i
unfolding decls_from
decls_some n k i e = rw e refl

pub decls_more : (n at : ℕ) (i : Input) → at < n → decls_from (n - at) i ≡ decls_by (decls_from (n - (at + 1))) (declares (token i)) i
decls_more n at i h = decls_some (n - at) (n - (at + 1)) i (omega arith)

pub decls_done : (n at : ℕ) (i : Input) → n ≤ at → decls_from (n - at) i ≡ Err (refusal i)
decls_done n at i h = decls_none (n - at) i (omega arith)

pub ruleset turning = (stmts_more, stmts_done, body_turns)

pub ruleset depths = (block_none, block_more)

pub ruleset declarations = (decls_more, decls_done, decls_turns)
