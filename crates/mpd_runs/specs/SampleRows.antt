-- Worked rows of samples.
use Rattle.std.specs.Prelude.{◌≡◌, ℕ, pos, true, false, map, get_or, length, List, [], ◌∷◌, Some, None, codes, refl}
use Rattle.std.specs.declared.cmp.Ordering.{Ordering}
use Rattle.std.specs.declared.cmp.Ordering.TheVariants.{Less, Equal, Greater}
use Rattle.rand_core.specs.Pcg32Seed.{pcg32_seed}
use Rattle.rand_core.specs.Steps.{stream_of, word_bytes, u32_at}
use Rattle.rand_core.specs.Stream.{Stream, next_u32}
use Rattle.rand.specs.Uniform.{canon, usize_single}
use Rattle.mpd_model.specs.declared.place.DeclKind.TheVariants.{Variable}
use Rattle.mpd_model.specs.declared.expr.BinaryOp.TheVariants.{Equal as equal, Less as less, Remainder}
use Rattle.mpd_model.specs.declared.call.Mode.TheVariants.{Rendezvous, Slots}
use Rattle.mpd_model.specs.declared.stmt.Simple.TheVariants as st
use Rattle.mpd_model.specs.script.Term.{Term, lit, own_rank, op2, Target}
use Rattle.mpd_model.specs.script.Tree.{simple, branch, no_more, then_more}
use Rattle.mpd_model.specs.script.Program.{Program}
use Rattle.mpd_model.specs.steps.World.{start}
use Rattle.mpd_policy.specs.Wide.{wide_decision}
use Rattle.mpd_policy.specs.Walk.{Run, wide_walk, run_by}
use Rattle.mpd_runs.specs.Order.{order}
use Rattle.mpd_runs.specs.Drawn.{seeded, drawn, draws, sampled}

abbrev n : ℕ → Term
n k = lit (pos k)

abbrev x : Target
x = record { place = record { declaration = 0; first = 0; cells = 1 }; index = None }

-- if rank < 2 { recv x from any tag any; } else { send rank to rank % 2 tag 0; }
abbrev races : Program
races = record {
  version = 1;
  ranks = 6;
  decls = record { kind = Variable; name = codes "x"; size = None } ∷ [];
  body = branch (op2 less own_rank (n 2)) (then_more (simple (st.Recv (record { into = x; from = None; tag = None; status = None }))) no_more) (then_more (simple (st.Send (record { value = own_rank; to = op2 Remainder own_rank (n 2); tag = n 0 }))) no_more) ∷ [];
  lines = 2 ∷ 2 ∷ 2 ∷ [];
}

-- recv x from any tag any;
abbrev stuck : Program
stuck = record {
  version = 1;
  ranks = 1;
  decls = record { kind = Variable; name = codes "x"; size = None } ∷ [];
  body = simple (st.Recv (record { into = x; from = None; tag = None; status = None })) ∷ [];
  lines = 2 ∷ [];
}

-- if rank == 0 { send 1 to 1 tag 0; send 1 to 1 tag 1; } else { recv x from 0 tag 0; }
abbrev two_sends : Program
two_sends = record {
  version = 1;
  ranks = 2;
  decls = record { kind = Variable; name = codes "x"; size = None } ∷ [];
  body = branch (op2 equal own_rank (n 0))
      (then_more (simple (st.Send (record { value = n 1; to = n 1; tag = n 0 }))) (then_more (simple (st.Send (record { value = n 1; to = n 1; tag = n 1 }))) no_more))
      (then_more (simple (st.Recv (record { into = x; from = Some (n 0); tag = Some (n 0); status = None }))) no_more)
      ∷ [];
  lines = 2 ∷ 2 ∷ 2 ∷ 2 ∷ [];
}

-- a stream of these words of 32 bits
abbrev words : List ℕ → Stream
words ws = record { u32_after = λ cs. get_or ws (length cs) 0; u64_after = λ cs. 0; bytes_after = λ cs k. [] }

-- a half of 2^32
abbrev half : ℕ
half = 2147483648

-- the order of choices
pub row_order : map {B = Ordering} (λ (p : List ℕ × List ℕ). order p.0 p.1) (([], []) ∷ ([], 0 ∷ []) ∷ (0 ∷ 1 ∷ [], 0 ∷ 2 ∷ []) ∷ (1 ∷ [], 0 ∷ 9 ∷ []) ∷ (2 ∷ 1 ∷ [], 2 ∷ 1 ∷ []) ∷ (10 ∷ [], 9 ∷ []) ∷ [])
    ≡ Equal ∷ Less ∷ Less ∷ Greater ∷ Equal ∷ Greater ∷ []
row_order = refl

-- A word is read as a part of 2^32, and that part of the candidates is passed: of four, a quarter of the words for each.
pub row_candidates : map {B = ℕ} (λ w. (usize_single 0 4 (words (w ∷ []))).0) (0 ∷ 1073741823 ∷ 1073741824 ∷ 2147483648 ∷ 3221225472 ∷ []) ≡ 0 ∷ 0 ∷ 1 ∷ 2 ∷ 3 ∷ []
unfolding canon next_u32
row_candidates = refl

-- The first choice has four candidates, and the second one two: a half of 2^32 is number 2 of four and number 1 of two.
pub row_drawn : (drawn 30 (start races Rendezvous) (words (half ∷ half ∷ []))).0 ≡ 2 ∷ 1 ∷ []
unfolding drawn wide_decision canon next_u32
row_drawn = refl

-- a second run goes on with the words that the first one left
pub row_draws : draws false 30 3 (start races Rendezvous) (words (half ∷ half ∷ 0 ∷ 0 ∷ half ∷ half ∷ [])) ≡ (2 ∷ 1 ∷ []) ∷ (0 ∷ 0 ∷ []) ∷ (2 ∷ 1 ∷ []) ∷ []
unfolding drawn draws wide_decision canon next_u32 run_by
row_draws = refl

-- With one slot, which the first send holds until it is matched, a local step is no more forced than that match: it is drawn which comes first.
-- Behind the second send the match is the only candidate.
pub row_wide : map {B = List ℕ} (λ w. (drawn 9 (start two_sends (Slots 1)) (words (w ∷ []))).0) (0 ∷ half ∷ []) ≡ (0 ∷ 0 ∷ []) ∷ (1 ∷ []) ∷ []
unfolding drawn wide_decision canon next_u32
row_wide = refl

-- of these three one was drawn twice: it is listed once, and after the one that comes before it
pub row_sampled : map {B = List ℕ} (λ (r : Run). r.choices) (sampled ((2 ∷ 1 ∷ []) ∷ (0 ∷ 0 ∷ []) ∷ (2 ∷ 1 ∷ []) ∷ []) 30 (start races Rendezvous)) ≡ (0 ∷ 0 ∷ []) ∷ (2 ∷ 1 ∷ []) ∷ []
unfolding wide_walk wide_decision
row_sampled = refl

-- a receive that nothing is sent to: where the drawing ends with a deadlock, one run is drawn, else all
pub row_until : map {B = ℕ} (λ b. length (draws b 9 3 (start stuck Rendezvous) (words []))) (true ∷ false ∷ []) ≡ 1 ∷ 3 ∷ []
unfolding drawn draws wide_decision canon next_u32 run_by
row_until = refl

-- the first three of four candidates by the generator that 0 seeds, whose first words are 3571629139, 733964795 and 217637425
abbrev three : Stream → List ℕ
three s =
    let one = usize_single 0 4 s in
    let two = usize_single 0 4 one.1 in
    one.0 ∷ two.0 ∷ (usize_single 0 4 two.1).0 ∷ []

pub row_seeded : three (seeded 0) ≡ 3 ∷ 0 ∷ 0 ∷ []
unfolding canon next_u32 stream_of pcg32_seed word_bytes u32_at
row_seeded = refl
