-- Each node of a lowered program stands for what is left to run at its number.
use Rattle.std.proofs.Common.{◌≡◌, ℕ, zero, suc, ◌<◌, ◌≤◌, ◌+◌, List, [], ◌∷◌, ◌++◌, length, get_or, refl, sym, subst, ap, ◌∙◌, arith, length-append, append_assoc, append-nil}
use Rattle.std.proofs.lemmas.List.{get_or-append-add, get_or_past}
use Rattle.mpd_model.specs.script.Tree.{Tree, simple, branch, repeat, Block, no_more, then_more, block_of, trees, trees_of_block, statements, statements_in, numbered}
use Rattle.mpd_model.specs.script.Program.{Program}
use Rattle.mpd_code.specs.declared.node.Node.{Node}
use Rattle.mpd_code.specs.Left.{lefts, lefts_of, left_at}
use Rattle.mpd_code.specs.Stands.{Stands}
use Rattle.mpd_code.specs.Lowered.{entry, lowered, lowered_one}
use Rattle.mpd_code.proofs.Placed.{length-lowered, length-lowered_one}

-- ---- what is left from a number on

-- from n on these are left
abbrev Agrees : (ℕ → List (ℕ × Tree)) → ℕ → List (List (ℕ × Tree)) → Type 0
Agrees at n [] = Unit {0}
Agrees at n (l ∷ ls) = (at n ≡ l) × Agrees at (n + 1) ls

agrees_first : (at : ℕ → List (ℕ × Tree)) (n : ℕ) (xs ys : List (List (ℕ × Tree))) → Agrees at n (xs ++ ys) → Agrees at n xs
agrees_first at n [] ys h = tt
agrees_first at n (x ∷ xs) ys h = (h.0, agrees_first at (n + 1) xs ys h.1)

agrees_second : (at : ℕ → List (ℕ × Tree)) (n m : ℕ) (xs ys : List (List (ℕ × Tree))) → n + length xs ≡ m → Agrees at n (xs ++ ys) → Agrees at m ys
agrees_second at n m [] ys e h =
    let same : n ≡ m = omega arith in
    subst (λ k. Agrees at k ys) same h
agrees_second at n m (x ∷ xs) ys e h = agrees_second at (n + 1) m xs ys (omega arith) h.1

agrees_from : (at : ℕ → List (ℕ × Tree)) (all before ls : List (List (ℕ × Tree))) (n : ℕ) → n ≡ length before → all ≡ before ++ ls → ((i : ℕ) → at i ≡ get_or all i []) → Agrees at n ls
agrees_from at all before [] n e f h = tt
agrees_from at all before (l ∷ ls) n e f h =
    let here : get_or all n [] ≡ l = ap (λ k. get_or all k []) (omega arith) ∙ ap (λ xs. get_or xs (length before + 0) []) f ∙ get_or-append-add before (l ∷ ls) 0 [] in
    (h n ∙ here, agrees_from at all (before ++ l ∷ []) ls (n + 1) (omega (arith, length-append before (l ∷ []))) (f ∙ sym (append_assoc before (l ∷ []) ls)) h)

-- ---- how much is told

mutual
  length-lefts : (n : ℕ) (b : Block) (behind : List (ℕ × Tree)) → length (lefts n b behind) ≡ statements_in b
  length-lefts n no_more behind = refl
  length-lefts n (then_more t b) behind =
      omega (arith, length-append (lefts_of n t (numbered (n + statements t) (trees b) ++ behind)) (lefts (n + statements t) b behind), length-lefts_of n t (numbered (n + statements t) (trees b) ++ behind), length-lefts (n + statements t) b behind)

  length-lefts_of : (n : ℕ) (t : Tree) (behind : List (ℕ × Tree)) → length (lefts_of n t behind) ≡ statements t
  length-lefts_of n (simple s) behind = refl
  length-lefts_of n (branch c a b) behind =
      omega (arith, length-append (lefts (n + 1) a behind) (lefts (n + 1 + statements_in a) b behind), length-lefts (n + 1) a behind, length-lefts (n + 1 + statements_in a) b behind)
  length-lefts_of n (repeat c a) behind = omega (arith, length-lefts (n + 1) a ((n, repeat c a) ∷ behind))

-- ---- where a block begins, all of it is left

left_first : (at : ℕ → List (ℕ × Tree)) (n : ℕ) (t : Tree) (behind : List (ℕ × Tree)) → Agrees at n (lefts_of n t behind) → at n ≡ (n, t) ∷ behind
left_first at n (simple s) behind h = h.0
left_first at n (branch c a b) behind h = h.0
left_first at n (repeat c a) behind h = h.0

entered : (at : ℕ → List (ℕ × Tree)) (n : ℕ) (b : Block) (behind : List (ℕ × Tree)) (next : ℕ) → at next ≡ behind → Agrees at n (lefts n b behind) → at (entry n b next) ≡ numbered n (trees b) ++ behind
entered at n no_more behind next e h = e
entered at n (then_more t b) behind next e h =
    left_first at n t (numbered (n + statements t) (trees b) ++ behind)
    (agrees_first at n (lefts_of n t (numbered (n + statements t) (trees b) ++ behind)) (lefts (n + statements t) b behind) h)

-- ---- nodes from a number on

abbrev AllStand : (ℕ → List (ℕ × Tree)) → ℕ → List Node → Type 0
AllStand at n [] = Unit {0}
AllStand at n (x ∷ xs) = Stands at n x × AllStand at (n + 1) xs

all_stand-append : (at : ℕ → List (ℕ × Tree)) (n m : ℕ) (xs ys : List Node) → n + length xs ≡ m → AllStand at n xs → AllStand at m ys → AllStand at n (xs ++ ys)
all_stand-append at n m [] ys e h k =
    let same : m ≡ n = omega arith in
    subst (λ i. AllStand at i ys) same k
all_stand-append at n m (x ∷ xs) ys e h k = (h.0, all_stand-append at (n + 1) m xs ys (omega arith) h.1 k)

stands_at : (at : ℕ → List (ℕ × Tree)) (n i j : ℕ) (xs : List Node) (x : Node) → AllStand at n xs → j ≡ n + i → i < length xs → x ≡ get_or xs i x → Stands at j x
stands_at at n i j [] x all e h read = absurd (omega arith)
stands_at at n zero j (y ∷ ys) x all e h read =
    let same : n ≡ j = omega arith in
    subst (λ k. Stands at k x) same (subst (λ z. Stands at n z) (sym read) all.0)
stands_at at n (suc i) j (y ∷ ys) x all e h read = stands_at at (n + 1) i j ys x all.1 (omega arith) (omega arith) read

-- ---- a lowered block stands for what is left in it

mutual
  all_stand : (at : ℕ → List (ℕ × Tree)) (n : ℕ) (b : Block) (behind : List (ℕ × Tree)) (next : ℕ) → at next ≡ behind → Agrees at n (lefts n b behind) → AllStand at n (lowered n b next)
  all_stand at n no_more behind next e h = tt
  all_stand at n (then_more t b) behind next e h =
      let tail : List (ℕ × Tree) = numbered (n + statements t) (trees b) ++ behind in
      let more : Agrees at (n + statements t) (lefts (n + statements t) b behind) = agrees_second at n (n + statements t) (lefts_of n t tail) (lefts (n + statements t) b behind) (omega (arith, length-lefts_of n t tail)) h in
      let first : AllStand at n (lowered_one n t (entry (n + statements t) b next)) =
      one_stands at n t tail (entry (n + statements t) b next) (entered at (n + statements t) b behind next e more) (agrees_first at n (lefts_of n t tail) (lefts (n + statements t) b behind) h) in
      all_stand-append at n (n + statements t) (lowered_one n t (entry (n + statements t) b next)) (lowered (n + statements t) b next) (omega (arith, length-lowered_one n t (entry (n + statements t) b next))) first (all_stand at (n + statements t) b behind next e more)

  one_stands : (at : ℕ → List (ℕ × Tree)) (n : ℕ) (t : Tree) (behind : List (ℕ × Tree)) (next : ℕ) → at next ≡ behind → Agrees at n (lefts_of n t behind) → AllStand at n (lowered_one n t next)
  one_stands at n (simple s) behind next e h = (record { statement = simple s; left = h.0 ∙ ap (λ l. (n, simple s) ∷ l) (sym e); does = refl }, tt)
  one_stands at n (branch c a b) behind next e h =
      let first : Agrees at (n + 1) (lefts (n + 1) a behind) = agrees_first at (n + 1) (lefts (n + 1) a behind) (lefts (n + 1 + statements_in a) b behind) h.1 in
      let second : Agrees at (n + 1 + statements_in a) (lefts (n + 1 + statements_in a) b behind) = agrees_second at (n + 1) (n + 1 + statements_in a) (lefts (n + 1) a behind) (lefts (n + 1 + statements_in a) b behind) (omega (arith, length-lefts (n + 1) a behind)) h.1 in (
        record {
          statement = branch c a b;
          left = h.0 ∙ ap (λ l. (n, branch c a b) ∷ l) (sym e);
          does = (
            a,
            (
              b,
              (
                refl,
                (
                  entered at (n + 1) a behind next e first ∙ ap (λ l. numbered (n + 1) (trees a) ++ l) (sym e),
                  entered at (n + 1 + statements_in a) b behind next e second ∙ ap (λ l. numbered (n + 1 + statements_in a) (trees b) ++ l) (sym e),
                ),
              ),
            ),
          );
        },
        all_stand-append at (n + 1) (n + 1 + statements_in a) (lowered (n + 1) a next) (lowered (n + 1 + statements_in a) b next) (omega (arith, length-lowered (n + 1) a next))
            (all_stand at (n + 1) a behind next e first) (all_stand at (n + 1 + statements_in a) b behind next e second),
      )
  one_stands at n (repeat c a) behind next e h = (
    record {
      statement = repeat c a;
      left = h.0 ∙ ap (λ l. (n, repeat c a) ∷ l) (sym e);
      does = (a, (refl, entered at (n + 1) a ((n, repeat c a) ∷ behind) n h.0 h.1 ∙ ap (λ l. numbered (n + 1) (trees a) ++ (n, repeat c a) ∷ l) (sym e)));
    },
    all_stand at (n + 1) a ((n, repeat c a) ∷ behind) n h.0 h.1,
  )

-- ---- a program

pub ended : (p : Program) (i : ℕ) → statements_in (block_of p.body) ≤ i → left_at p i ≡ []
ended p i h = get_or_past (lefts 0 (block_of p.body) []) i [] (omega (arith, length-lefts 0 (block_of p.body) []))

whole : (p : Program) → Agrees (left_at p) 0 (lefts 0 (block_of p.body) [])
whole p = agrees_from (left_at p) (lefts 0 (block_of p.body) []) [] (lefts 0 (block_of p.body) []) 0 refl refl (λ i. refl)

-- the node of a number stands for what is left there
pub node_stands : (p : Program) (nodes : List Node) (i : ℕ) (x : Node) → nodes ≡ lowered 0 (block_of p.body) (statements_in (block_of p.body)) → i < length nodes → x ≡ get_or nodes i x → Stands (left_at p) i x
node_stands p nodes i x e h read =
    let all : AllStand (left_at p) 0 (lowered 0 (block_of p.body) (statements_in (block_of p.body))) =
    all_stand (left_at p) 0 (block_of p.body) [] (statements_in (block_of p.body)) (ended p (statements_in (block_of p.body)) (omega arith)) (whole p) in
    stands_at (left_at p) 0 i i nodes x (subst (λ ns. AllStand (left_at p) 0 ns) (sym e) all) (omega arith) h read

-- where there is no node, nothing is left
pub none_left : (p : Program) (nodes : List Node) (i : ℕ) → nodes ≡ lowered 0 (block_of p.body) (statements_in (block_of p.body)) → length nodes ≤ i → left_at p i ≡ []
none_left p nodes i e h = ended p i (omega (arith, ap length e, length-lowered 0 (block_of p.body) (statements_in (block_of p.body))))

pub node_count : (p : Program) (nodes : List Node) → nodes ≡ lowered 0 (block_of p.body) (statements_in (block_of p.body)) → length nodes ≡ statements_in (block_of p.body)
node_count p nodes e = ap length e ∙ length-lowered 0 (block_of p.body) (statements_in (block_of p.body))

head_left : (n : ℕ) (t : Tree) (behind : List (ℕ × Tree)) (more : List (List (ℕ × Tree))) → get_or (lefts_of n t behind ++ more) 0 [] ≡ (n, t) ∷ behind
head_left n (simple s) behind more = refl
head_left n (branch c a b) behind more = refl
head_left n (repeat c a) behind more = refl

whole_left : (ts : List Tree) → get_or (lefts 0 (block_of ts) []) 0 [] ≡ numbered 0 ts
whole_left [] = refl
whole_left (t ∷ ts) =
    head_left 0 t (numbered (0 + statements t) (trees (block_of ts)) ++ []) (lefts (0 + statements t) (block_of ts) [])
    ∙ ap (λ l. (0, t) ∷ l) (append-nil (numbered (0 + statements t) (trees (block_of ts))) ∙ ap (numbered (0 + statements t)) (trees_of_block ts))

-- at 0 the whole body is left
pub start_left : (p : Program) → left_at p 0 ≡ numbered 0 p.body
start_left p = whole_left p.body

pub ruleset at_node = (node_stands, none_left, ended, node_count, start_left)
