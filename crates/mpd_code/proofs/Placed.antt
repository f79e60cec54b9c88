-- What the nodes are that were added for a statement and for a block.
use Rattle.std.proofs.Common.{◌≡◌, ℕ, ◌+◌, List, [], ◌∷◌, ◌++◌, length, reverse, refl, sym, ap, ◌∙◌, arith, length-append, append_assoc}
use Rattle.std.proofs.lemmas.List.{reverse-append}
use Rattle.mpd_model.specs.script.Term.{Term}
use Rattle.mpd_model.specs.script.Tree.{Tree, simple, branch, repeat, Block, no_more, then_more, block_of, statements, statements_in}
use Rattle.mpd_code.specs.declared.node.Node.{Node}
use Rattle.mpd_code.specs.declared.node.Action.TheVariants.{Branch, Repeat}
use Rattle.mpd_code.specs.Lowered.{entry, lowered, lowered_one}
use Rattle.mpd_code.proofs.Entries.{entry_reversed}

-- each statement has one node
mutual
  pub length-lowered : (n : ℕ) (b : Block) (next : ℕ) → length (lowered n b next) ≡ statements_in b
  length-lowered n no_more next = refl
  length-lowered n (then_more t b) next =
      omega (arith, length-append (lowered_one n t (entry (n + statements t) b next)) (lowered (n + statements t) b next), length-lowered_one n t (entry (n + statements t) b next), length-lowered (n + statements t) b next)

  pub length-lowered_one : (n : ℕ) (t : Tree) (next : ℕ) → length (lowered_one n t next) ≡ statements t
  length-lowered_one n (simple s) next = refl
  length-lowered_one n (branch c a b) next =
      omega (arith, length-append (lowered (n + 1) a next) (lowered (n + 1 + statements_in a) b next), length-lowered (n + 1) a next, length-lowered (n + 1 + statements_in a) b next)
  length-lowered_one n (repeat c a) next = omega (arith, length-lowered (n + 1) a n)

-- an `if`: its node, then those of its blocks
pub placed_branch : (xs ys zs ws : List Node) (c : Term) (a b : Block) (next first second : ℕ)
    → first ≡ entry (length xs + 1) a next → second ≡ entry (length xs + 1 + statements_in a) b next
    → ys ≡ xs ++ record { action = Branch c first second; next = next } ∷ []
    → zs ≡ ys ++ lowered (length ys) a next → ws ≡ zs ++ lowered (length zs) b next
    → ws ≡ xs ++ lowered_one (length xs) (branch c a b) next
placed_branch xs ys zs ws c a b next first second e1 e2 ey ez ew =
    let my : length ys ≡ length xs + 1 = ap length ey ∙ length-append xs _ in
    let mz : length zs ≡ length xs + 1 + statements_in a = omega (arith, ap length ez, length-append ys (lowered (length ys) a next), length-lowered (length ys) a next) in
    let fz : zs ≡ ys ++ lowered (length xs + 1) a next = ez ∙ ap (λ n. ys ++ lowered n a next) my in
    let fw : ws ≡ zs ++ lowered (length xs + 1 + statements_in a) b next = ew ∙ ap (λ n. zs ++ lowered n b next) mz in
    rw (fw, fz, ey, e1, e2) (simp append_assoc)

-- how many nodes stand once the first block of an `if` was added
pub length_placed : (xs ys zs : List Node) (a : Block) (x : Node) (next : ℕ) → ys ≡ xs ++ x ∷ [] → zs ≡ ys ++ lowered (length ys) a next → length zs ≡ length xs + 1 + statements_in a
length_placed xs ys zs a x next ey ez =
    omega (arith, ap length ey, length-append xs (x ∷ []), ap length ez, length-append ys (lowered (length ys) a next), length-lowered (length ys) a next)

-- a `while`: its node, then those of its body, which the `while` follows
pub placed_repeat : (xs ys zs : List Node) (c : Term) (a : Block) (next body : ℕ)
    → body ≡ entry (length xs + 1) a (length xs)
    → ys ≡ xs ++ record { action = Repeat c body; next = next } ∷ []
    → zs ≡ ys ++ lowered (length ys) a (length xs)
    → zs ≡ xs ++ lowered_one (length xs) (repeat c a) next
placed_repeat xs ys zs c a next body e1 ey ez =
    let my : length ys ≡ length xs + 1 = ap length ey ∙ length-append xs _ in
    let fz : zs ≡ ys ++ lowered (length xs + 1) a (length xs) = ez ∙ ap (λ n. ys ++ lowered n a (length xs)) my in
    rw (fz, ey, e1) (simp append_assoc)

pub length_more : (xs ys : List Node) (t : Tree) (follows : ℕ) → ys ≡ xs ++ lowered_one (length xs) t follows → length ys ≡ length xs + statements t
length_more xs ys t follows ey = omega (arith, ap length ey, length-append xs (lowered_one (length xs) t follows), length-lowered_one (length xs) t follows)

-- the next statement of a block, whose rest stands in the other order
pub placed_more : (xs ys : List Node) (ts us : List Tree) (t : Tree) (next follows : ℕ)
    → ts ≡ us ++ t ∷ [] → follows ≡ entry (length xs + statements t) (block_of us) next
    → ys ≡ xs ++ lowered_one (length xs) t follows
    → ys ++ lowered (length ys) (block_of (reverse us)) next ≡ xs ++ lowered (length xs) (block_of (reverse ts)) next
placed_more xs ys ts us t next follows e f ey =
    let turned : reverse ts ≡ t ∷ reverse us = ap reverse e ∙ reverse-append us (t ∷ []) in
    let my : length ys ≡ length xs + statements t = length_more xs ys t follows ey in
    let g : follows ≡ entry (length xs + statements t) (block_of (reverse us)) next = f ∙ sym (entry_reversed (length xs + statements t) next us) in
    let fy : ys ≡ xs ++ lowered_one (length xs) t (entry (length xs + statements t) (block_of (reverse us)) next) = ey ∙ ap (λ m. xs ++ lowered_one (length xs) t m) g in
    let joined : ys ++ lowered (length ys) (block_of (reverse us)) next ≡ xs ++ (lowered_one (length xs) t (entry (length xs + statements t) (block_of (reverse us)) next) ++ lowered (length xs + statements t) (block_of (reverse us)) next) =
    ap (λ n. ys ++ lowered n (block_of (reverse us)) next) my
    ∙ ap (λ l. l ++ lowered (length xs + statements t) (block_of (reverse us)) next) fy
    ∙ append_assoc xs (lowered_one (length xs) t (entry (length xs + statements t) (block_of (reverse us)) next)) (lowered (length xs + statements t) (block_of (reverse us)) next) in
    joined ∙ ap (λ l. xs ++ lowered (length xs) (block_of l) next) (sym turned)

-- the statements that are left are fewer by the next one's
pub counted_more : (ts us : List Tree) (t : Tree) → ts ≡ us ++ t ∷ [] → statements_in (block_of (reverse ts)) ≡ statements t + statements_in (block_of (reverse us))
counted_more ts us t e =
    let turned : reverse ts ≡ t ∷ reverse us = ap reverse e ∙ reverse-append us (t ∷ []) in
    ap (λ l. statements_in (block_of l)) turned

pub ruleset placing = (placed_branch, placed_repeat, length-lowered)
