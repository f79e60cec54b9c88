-- What statements read, and what ranks hold in that, one declaration at a time.
use Rattle.std.proofs.Common.{◌≡◌, ℕ, zero, suc, Bool, true, false, ◌||◌, List, [], ◌∷◌, ◌++◌, Option, Some, None, refl, sym, ap, ◌∙◌, append-nil, arith, length, ◌<◌, ◌≤◌, get_or, slice_get}
use Rattle.std.specs.List.{flat_map, range_with_len}
use Rattle.std.proofs.lemmas.Option.{slice_get_past, slice_get_read}
use Rattle.mpd_model.specs.script.Declaration.{Declared}
use Rattle.mpd_model.specs.script.Term.{Term}
use Rattle.mpd_model.specs.script.Parts.{source_part}
use Rattle.mpd_model.specs.script.Tree.{Tree}
use Rattle.mpd_model.specs.script.Program.{Program}
use Rattle.mpd_model.specs.steps.World.{RankWorld, World}
use Rattle.mpd_model.specs.steps.Outcomes.{first_number}
use Rattle.mpd_code.specs.Stands.{Does, Stands}
use Rattle.mpd_code.specs.declared.node.Node.{Node}
use Rattle.mpd_code.specs.declared.node.Action.{Action}
use Rattle.mpd_code.specs.declared.node.Action.TheVariants.{Simple, Branch, Repeat}
use Rattle.mpd_names.specs.declared.holding.Holding.{Holding}
use Rattle.mpd_names.specs.Held.{holding_of, holding_by, holding_if, holdings_if, holdings_of}
use Rattle.mpd_names.specs.Reads.{index_reads, part_reads, statement_reads, action_reads, reads_in, reads_of}

-- ---- one test or another

or_none : (a : Bool) → a || false ≡ a
or_none true = refl
or_none false = refl

-- a source or a tag, which may be any
pub source_reads : (d : ℕ) (o : Option Term) → part_reads d (source_part o) ≡ index_reads d o
source_reads d None = refl
source_reads d (Some e) = refl

-- ---- a declaration that is there

pub none_declared : (s : Program) (r : Option RankWorld) (i : ℕ) (ds : List Declared) (old : List Holding) → ds ≡ s.decls → length ds ≤ i → old ≡ old ++ holding_by s r i (slice_get s.decls i)
none_declared s r i ds old same past = sym (ap (λ (xs : List Declared). old ++ holding_by s r i (slice_get xs i)) (sym same) ∙ ap (λ o. old ++ holding_by s r i o) (slice_get_past ds i past) ∙ append-nil old)

pub there : (s : Program) (i : ℕ) (ds : List Declared) (d : Declared) → ds ≡ s.decls → i < length ds → d ≡ get_or ds i d → slice_get s.decls i ≡ Some d
there s i ds d same within is = ap (λ (xs : List Declared). slice_get xs i) (sym same) ∙ slice_get_read ds (length ds) i d refl within is

pub one_declared : (s : Program) (r : Option RankWorld) (i : ℕ) (ds : List Declared) (d : Declared) (old now : List Holding) → ds ≡ s.decls → i < length ds → d ≡ get_or ds i d → now ≡ old ++ holding_of s r i d ∷ [] → now ≡ old ++ holding_by s r i (slice_get s.decls i)
one_declared s r i ds d old now same within is more = more ∙ ap (λ q. old ++ holding_by s r i q) (sym (there s i ds d same within is))

pub ruleset declaring = (none_declared, there, one_declared)

-- ---- the statement that a node does

pub does_read : (at : ℕ → List (ℕ × Tree)) (n : ℕ) (tail : List (ℕ × Tree)) (a : Action) (t : Tree) (d : ℕ) → Does at n tail a t → action_reads d a ≡ statement_reads d t
does_read at n tail (Simple s) t d h = sym (ap (statement_reads d) h)
does_read at n tail (Branch c first second) t d h = sym (ap (statement_reads d) h.1.1.0)
does_read at n tail (Repeat c body) t d h = sym (ap (statement_reads d) h.1.0)

held_same : (s : Program) (r : Option RankWorld) (f g : ℕ → Bool) → ((d : ℕ) → f d ≡ g d) → (is : List ℕ) → flat_map (λ i. holding_if s r (f i) i) is ≡ flat_map (λ i. holding_if s r (g i) i) is
held_same s r f g h [] = refl
held_same s r f g h (i ∷ is) = ap (λ b. holding_if s r b i ++ flat_map (λ k. holding_if s r (f k) k) is) (h i) ∙ ap (λ ts. holding_if s r (g i) i ++ ts) (held_same s r f g h is)

all_same : (s : Program) (r : Option RankWorld) (f g : ℕ → Bool) → ((d : ℕ) → f d ≡ g d) → holdings_if s r f ≡ holdings_if s r g
all_same s r f g h = held_same s r f g h (range_with_len 0 (length s.decls))

-- a rank that isn't there, or has nothing left
pub no_rank_reads : (s : Program) (w : World) (p : ℕ) (old : List Holding) → length w.ranks ≤ p → old ≡ old ++ reads_of s (slice_get w.ranks p)
no_rank_reads s w p old h = sym (ap (λ o. old ++ reads_of s o) (slice_get_past w.ranks p h) ∙ append-nil old)

nothing_left : (s : Program) (old : List Holding) (r : RankWorld) → r.rest ≡ [] → old ≡ old ++ reads_of s (Some r)
nothing_left s old r h = sym (ap (λ (rest : List (ℕ × Tree)). old ++ reads_in s (Some r) rest) h ∙ append-nil old)

none_first : (rest : List (ℕ × Tree)) → None ≡ first_number rest → rest ≡ []
none_first [] h = refl
none_first (t ∷ ts) h = cc

pub no_statement_reads : (s : Program) (old : List Holding) (o : Option RankWorld) (r : RankWorld) (number : Option ℕ) → o ≡ Some r → number ≡ first_number r.rest → number ≡ None → old ≡ old ++ reads_of s o
no_statement_reads s old o r number is first none = nothing_left s old r (none_first r.rest (sym none ∙ first)) ∙ sym (ap (λ q. old ++ reads_of s q) is)

pub no_node_reads : (s : Program) (old : List Holding) (o : Option RankWorld) (r : RankWorld) → o ≡ Some r → r.rest ≡ [] → old ≡ old ++ reads_of s o
no_node_reads s old o r is none = nothing_left s old r none ∙ sym (ap (λ q. old ++ reads_of s q) is)

pub node_reads : (s : Program) (o : Option RankWorld) (r : RankWorld) (at : ℕ → List (ℕ × Tree)) (n : ℕ) (node : Node) → o ≡ Some r → r.rest ≡ at n → Stands at n node
    → holdings_if s o (λ d. action_reads d node.action) ≡ reads_of s o
node_reads s o r at n node is rest h =
    ap (λ q. holdings_if s q (λ d. action_reads d node.action)) is
    ∙ all_same s (Some r) (λ d. action_reads d node.action) (λ d. statement_reads d h.statement) (λ d. does_read at n (at node.next) node.action h.statement d h.does)
    ∙ sym (ap (λ (left : List (ℕ × Tree)). reads_in s (Some r) left) (rest ∙ h.left))
    ∙ sym (ap (reads_of s) is)

pub ruleset standing = (no_rank_reads, no_statement_reads, no_node_reads, node_reads)

-- what a rank holds that isn't there
pub no_rank_holds : (s : Program) (w : World) (p : ℕ) → length w.ranks ≤ p → [] ≡ holdings_of s (slice_get w.ranks p)
no_rank_holds s w p h = sym (ap (holdings_of s) (slice_get_past w.ranks p h))

pub rank_holds : (s : Program) (rs : List RankWorld) (p : ℕ) → p < length rs → holdings_if s (slice_get rs p) (λ d. true) ≡ holdings_of s (slice_get rs p)
rank_holds s [] p h = absurd (omega (arith, h))
rank_holds s (r ∷ rs) zero h = refl
rank_holds s (r ∷ rs) (suc p) h = rank_holds s rs p (omega (arith, h))

pub ruleset absent = (no_rank_holds, rank_holds)
