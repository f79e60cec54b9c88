-- Ends of runs that are the same, and which leaves end as none before them does.
use Rattle.std.specs.Prelude.{ℕ, Bool, true, false, not, ◌&&◌, ◌==◌, if◌then◌else◌, suc, List, [], ◌∷◌, length}
use Rattle.std.specs.List.{filter, list_any}
use Rattle.std.specs.Cmp.Lexicographic.{pointwise}
use Rattle.mpd_model.specs.declared.outcome.Outcome.{Outcome}
use Rattle.mpd_model.specs.declared.outcome.Outcome.TheVariants as outcome_is
use Rattle.mpd_model.specs.declared.outcome.IssuedCall.{IssuedCall}
use Rattle.mpd_model.specs.declared.outcome.TrappedRank.{TrappedRank}
use Rattle.mpd_model.specs.steps.World.{id_eq}
use Rattle.mpd_policy.specs.declared.ending.Ending.{Ending}
use Rattle.mpd_policy.specs.declared.ending.Ending.TheVariants.{Ended, Cut}
use Rattle.mpd_explore.specs.declared.report.SearchLeaf.{SearchLeaf}
use Rattle.mpd_explore.specs.Traps.{trap_eq}

-- ---- ends that are the same

abbrev pub trapped_eq : TrappedRank → TrappedRank → Bool
trapped_eq a b = (a.rank == b.rank) && ((a.statement == b.statement) && trap_eq a.trap b.trap)

-- the same call, which the same statement issued
abbrev pub issued_eq : IssuedCall → IssuedCall → Bool
issued_eq c d = (c.statement == d.statement) && id_eq c.id d.id

abbrev pub outcome_eq : Outcome → Outcome → Bool
outcome_eq outcome_is.Done outcome_is.Done = true
outcome_eq (outcome_is.Leftovers cs) (outcome_is.Leftovers ds) = pointwise issued_eq cs ds
outcome_eq (outcome_is.Deadlock cs) (outcome_is.Deadlock ds) = pointwise issued_eq cs ds
outcome_eq (outcome_is.Trap ts) (outcome_is.Trap us) = pointwise trapped_eq ts us
outcome_eq o k = false

abbrev pub ending_eq : Ending → Ending → Bool
ending_eq Cut Cut = true
ending_eq (Ended o) (Ended k) = outcome_eq o k
ending_eq e f = false

-- ---- leaves that end in the same way

abbrev pub same_end : SearchLeaf → SearchLeaf → Bool
same_end l m = ending_eq l.ending m.ending

-- those that end as no leaf before them does
abbrev pub firsts : List SearchLeaf → List SearchLeaf
firsts [] = []
firsts (l ∷ ls) = l ∷ filter (λ m. not (same_end l m)) (firsts ls)

-- how many end as a leaf does
abbrev pub times : List SearchLeaf → SearchLeaf → ℕ
times ls l = length (filter (same_end l) ls)

-- whether one of some leaves ends so
abbrev pub has_end : List SearchLeaf → Ending → Bool
has_end ls e = list_any (λ l. ending_eq l.ending e) ls

-- how many stand before the first that ends as a leaf does
abbrev pub before : List SearchLeaf → SearchLeaf → ℕ
before [] l = 0
before (m ∷ ls) l = if same_end m l then 0 else suc (before ls l)
