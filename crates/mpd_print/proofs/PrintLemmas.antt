-- What the loops that print go on with.
use Rattle.std.proofs.Common.{◌≡◌, ℕ, zero, suc, ◌+◌, ◌-◌, ◌<◌, ◌≤◌, List, [], ◌∷◌, ◌++◌, length, get_or, append_assoc, refl, ap, sym, ◌∙◌, arith}
use Rattle.std.specs.Prelude.{codes}
use Rattle.mpd_model.specs.script.Tree.{Tree, block_of, statements, statements_in}
use Rattle.mpd_model.specs.grammar.Canonical.{indent, else_text}

-- no statement of a block has more statements than the block
pub statements_at : (ts : List Tree) (i : ℕ) (d : Tree) → i < length ts → statements (get_or ts i d) ≤ statements_in (block_of ts)
statements_at [] i d h = absurd (omega arith)
statements_at (t ∷ ts) zero d h = omega arith
statements_at (t ∷ ts) (suc i) d h = omega (arith, statements_at ts i d (omega arith))

indent_some : (n : ℕ) → 0 < n → indent n ≡ codes "  " ++ indent (n - 1)
indent_some zero h = absurd (omega arith)
indent_some (suc n) h = let e : suc n - 1 ≡ n = omega arith in rw e refl

-- one indentation more
pub indent_more : (n k : ℕ) → k < n → indent (n - k) ≡ codes "  " ++ indent (n - (k + 1))
indent_more n k h = let e : n - (k + 1) ≡ n - k - 1 = omega arith in rw e (indent_some (n - k) (omega arith))

-- a block with a statement is printed
pub else_some : (ts : List Tree) (n : ℕ) (inside : List ℕ) → 0 < length ts → else_text (block_of ts) n inside ≡ codes " else {\n" ++ inside ++ indent n ++ codes "}"
else_some [] n inside h = absurd (omega arith)
else_some (t ∷ ts) n inside h = refl

pub indent_step : (old new first : List ℕ) (n k : ℕ) → k < n → new ≡ old ++ codes "  " → old ++ indent (n - k) ≡ first ++ indent n → new ++ indent (n - (k + 1)) ≡ first ++ indent n
indent_step old new first n k h e invariant = rw e (append_assoc old (codes "  ") (indent (n - (k + 1))) ∙ ap (λ t. old ++ t) (sym (indent_more n k h)) ∙ invariant)

pub else_step : (ts : List Tree) (n : ℕ) (inside old mid new : List ℕ) → 0 < length ts → mid ≡ old ++ codes " else {\n" → new ≡ mid ++ (inside ++ indent n ++ codes "}") → new ≡ old ++ else_text (block_of ts) n inside
else_step ts n inside old mid new h e f = f ∙ rw (e, else_some ts n inside h) (simp (append_assoc))
