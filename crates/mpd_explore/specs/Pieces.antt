-- The walk cut into pieces by the first choices of its runs. What comes next in a state is told by a function, and what falls asleep along the
-- way by rules (`Sleeping.antt` of `mpd_explore`).
use Rattle.std.specs.Prelude.{ℕ, zero, suc, nat_lt, Bool, if◌then◌else◌, List, [], ◌∷◌, ◌++◌, length, map, flat_map, slice_get, Option, Some, None}
use Rattle.std.specs.List.{list_any}
use Rattle.mpd_model.specs.declared.step.Step.{Step}
use Rattle.mpd_model.specs.declared.decision.Decision.{Decision}
use Rattle.mpd_model.specs.declared.decision.Decision.TheVariants.{Forced, Choice, Leaf}
use Rattle.mpd_model.specs.steps.World.{World}
use Rattle.mpd_model.specs.steps.Next.{next}
use Rattle.mpd_explore.specs.declared.report.SearchLeaf as leaf
use Rattle.mpd_explore.specs.declared.report.SearchLimits.{SearchLimits}
use Rattle.mpd_policy.specs.Walk.{Run, stepped, chosen, runs_of}
use Rattle.mpd_explore.specs.Sleeping.{put_off, awake_runs, Rules, rules_by, decides_by, walk_with, walk_of}
use Rattle.mpd_explore.specs.Report.{shown, ended_by, listed, left_out}
use Rattle.mpd_explore.specs.declared.splitter.Piece.{Piece}

-- ---- pieces

-- lists of choices with a choice in front of each
abbrev pub led_by : ℕ → List (List ℕ) → List (List ℕ)
led_by i lists = map (λ cs. i ∷ cs) lists

-- the pieces by each of some candidates, of which the first is number i
abbrev pub branched : (World → List (List ℕ)) → World → ℕ → List Step → List (List ℕ)
branched more w i [] = []
branched more w i (a ∷ candidates) = led_by i (runs_of more (next w a)) ++ branched more w (suc i) candidates

-- the pieces after a decision, where fuel is left and a choice is still to be made
abbrev pub cut_by : (World → List (List ℕ)) → (World → List (List ℕ)) → World → Decision → List (List ℕ)
cut_by forced picked w (Forced a) = runs_of forced (next w a)
cut_by forced picked w (Choice candidates) = branched picked w 0 candidates
cut_by forced picked w (Leaf o) = [] ∷ []

-- The choices of the runs from a state with so much fuel, each stopped right after its k-th choice, or at its leaf where that comes
-- sooner, in order.
unfoldable pub pieces : (World → Decision) → ℕ → ℕ → World → List (List ℕ)
pieces decide zero n w = [] ∷ []
pieces decide (suc k) zero w = [] ∷ []
pieces decide (suc k) (suc n) w = cut_by (pieces decide (suc k) n) (pieces decide k n) w (decide w)

-- numbered in order, the first with number i
abbrev pub numbered : ℕ → List (List ℕ) → List Piece
numbered i [] = []
numbered i (cs ∷ more) = record { number = i; choices = cs } ∷ numbered (suc i) more

-- ---- the runs of a piece

-- these rules
abbrev pub rules_of : (World → Decision) → (Step → Step → Bool) → (World → Step → List Step → List Step) → Bool → Rules
rules_of decides same keeps sleeps = record { decides = decides; same = same; keeps = keeps; sleeps = sleeps }

-- the runs by a candidate of a choice, where there is one of that number, and it is awake
abbrev pub runs_by : Rules → (List Step → World → List Run) → List Step → World → List Step → ℕ → Option Step → List Run
runs_by r runs asleep w candidates c None = []
runs_by r runs asleep w candidates c (Some a) =
    map (chosen c a) (awake_runs (list_any (r.same a) (put_off r.sleeps c candidates asleep)) (runs (r.keeps w a (put_off r.sleeps c candidates asleep))) (next w a))

-- the runs after a decision that begin with a choice and those after it
abbrev pub beginning : Rules → (List ℕ → List Step → World → List Run) → List Step → World → ℕ → List ℕ → Decision → List Run
beginning r runs asleep w c cs (Forced a) = map (stepped a) (runs_of (runs (c ∷ cs) (r.keeps w a asleep)) (next w a))
beginning r runs asleep w c cs (Choice candidates) = runs_by r (runs cs) asleep w candidates c (slice_get candidates c)
beginning r runs asleep w c cs (Leaf o) = []

-- The runs of the walk by these rules that begin with these choices, while some steps are asleep.
unfoldable pub walk_from : Rules → ℕ → List ℕ → List Step → World → List Run
walk_from r n [] asleep w = walk_with r n asleep w
walk_from r zero (c ∷ cs) asleep w = []
walk_from r (suc n) (c ∷ cs) asleep w = beginning r (walk_from r n) asleep w c cs (r.decides w)

-- the same of the walk that is asked for
abbrev pub walk_at : SearchLimits → List ℕ → World → List Run
walk_at l cs w = walk_from (rules_by l.ends) l.fuel cs [] w

-- ---- whether some run begins so

abbrev pub InState : (World → Type 0) → Option World → Type 0
InState P None = ⊥
InState P (Some w) = P w

abbrev pub ByCandidate : (World → Type 0) → World → Option Step → Type 0
ByCandidate P w None = ⊥
ByCandidate P w (Some a) = InState P (next w a)

abbrev pub BeginsSo : (List ℕ → World → Type 0) → World → ℕ → List ℕ → Decision → Type 0
BeginsSo reaches w c cs (Forced a) = InState (reaches (c ∷ cs)) (next w a)
BeginsSo reaches w c cs (Choice candidates) = ByCandidate (reaches cs) w (slice_get candidates c)
BeginsSo reaches w c cs (Leaf o) = ⊥

-- some run from a state with so much fuel begins with these choices
unfoldable pub Reaches : (World → Decision) → ℕ → List ℕ → World → Type 0
Reaches decide n [] w = Unit {0}
Reaches decide zero (c ∷ cs) w = ⊥
Reaches decide (suc n) (c ∷ cs) w = BeginsSo (Reaches decide n) w c cs (decide w)

-- ---- a report by its parts

-- what a report has of the runs that begin with these choices
abbrev pub part : SearchLimits → List ℕ → World → List leaf.SearchLeaf
part l cs w = listed l (map shown (walk_at l cs w))

-- whether there are others of these
abbrev pub part_left : SearchLimits → List ℕ → World → Bool
part_left l cs w = left_out l (map shown (walk_at l cs w))

-- a leaf of what comes after some choices, told from where these begin
abbrev pub behind : List ℕ → leaf.SearchLeaf → leaf.SearchLeaf
behind choices l = record { choices = choices ++ l.choices; ending = l.ending }

-- the parts of all pieces, joined in order, and where a list ends with the first bad leaf that up to it
abbrev pub split_report : ℕ → SearchLimits → World → List leaf.SearchLeaf
split_report k l w = ended_by l.until_bad (flat_map (λ cs. part l cs w) (pieces (decides_by l.ends) k l.fuel w))

-- whether some piece has more; where a list ends with the first bad leaf, whether the walk has
abbrev pub split_more : ℕ → SearchLimits → World → Bool
split_more k l w =
    if l.until_bad then nat_lt (length (split_report k l w)) (length (walk_of l w)) else list_any (λ cs. nat_lt l.runs (length (walk_at l cs w))) (pieces (decides_by l.ends) k l.fuel w)
