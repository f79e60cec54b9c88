-- What is told of a state that nothing changes (docs/ADAPTER.md, "Looks").
use Rattle.std.specs.Prelude.{◌≡◌, ℕ, ◌+◌, ◌-◌, ◌*◌, nat_lt, if◌then◌else◌, List, map, slice_get, Option, Some, None, option_map, codes}
use Rattle.serde_json.specs.Data.{Data}
use Rattle.serde_json.specs.View.{view}
use Rattle.mpd_model.specs.declared.limits.TheConstants.{RANKS_MAX}
use Rattle.mpd_model.specs.script.Program.{Program}
use Rattle.mpd_model.specs.steps.World.{World, rank_numbers}
use Rattle.mpd_model.specs.declared.step.Step.{Step}
use Rattle.mpd_model.specs.declared.decision.Decision.{Decision}
use Rattle.mpd_model.specs.declared.decision.Decision.TheVariants.{Forced, Choice, Leaf}
use Rattle.mpd_model.specs.declared.outcome.Outcome.{Outcome}
use Rattle.mpd_model.specs.declared.outcome.Outcome.TheVariants.{Done, Leftovers, Deadlock, Trap}
use Rattle.mpd_model.specs.runs.Trail.{world_of}
use Rattle.mpd_model.specs.runs.Decisions.{decision}
use Rattle.mpd_names.specs.Stand.{stand, stands_of}
use Rattle.mpd_explain.specs.declared.steps.PlacedStep.{PlacedStep}
use Rattle.mpd_explain.specs.Steps.{placed_step_of}
use Rattle.mpd_session.specs.Held.{Held}
use Rattle.mpd_dap.specs.declared.listed.Thread.{Thread}
use Rattle.mpd_dap.specs.declared.listed.Target.{Target}
use Rattle.mpd_dap.specs.declared.body.Json.{Json}
use Rattle.mpd_dap.specs.Bodies.{nothing_data, capabilities_data, threads_data, standing_data, ended_data, scopes_data, variables_data, targets_data, exception_data}
use Rattle.mpd_adapter.specs.declared.rank.RankDoing.{RankDoing}
use Rattle.mpd_adapter.specs.declared.looks.Candidate.{Candidate}
use Rattle.mpd_adapter.specs.declared.task.Look.{Look}
use Rattle.mpd_adapter.specs.declared.task.Look.TheVariants as look
use Rattle.mpd_adapter.specs.Numbers.{one_more}
use Rattle.mpd_adapter.specs.declared.numbers.Shelf.{Shelf}
use Rattle.mpd_adapter.specs.Moves.{own_among, open_among}
use Rattle.mpd_adapter.specs.Shelves.{held_at}

-- ---- ranks

-- a rank and what it is doing
abbrev pub rank_doing : Program → World → ℕ → RankDoing
rank_doing s w p = record { rank = p; stands = stands_of s w p }

abbrev pub doings_of : Program → World → List RankDoing
doings_of s w = map (rank_doing s w) (rank_numbers w.board)

-- rank P is the thread P + 1
abbrev pub doing_id : RankDoing → ℕ
doing_id d = one_more d.rank

abbrev pub thread_id : Thread → ℕ
thread_id t = t.id

-- all ranks as threads, with any names
abbrev pub IsThreads : Program → World → Data → Type 0
IsThreads s w body = (list : List Thread) × (map thread_id list ≡ map doing_id (doings_of s w)) × (body ≡ threads_data list)

-- ---- frames

-- by the line where the rank stands, if it stands at one
abbrev pub stack_by : ℕ → List ℕ → List ℕ → Option ℕ → Data
stack_by p name path None = ended_data (one_more p) name
stack_by p name path (Some line) = standing_data (one_more p) line name path

-- the frame of a rank, with any name
abbrev pub IsStack : Program → World → List ℕ → ℕ → Data → Type 0
IsStack s w path p body = (name : List ℕ) × (body ≡ stack_by p name path (stand s w p))

-- rank P has the references 4 P + 1 to 4 P + 4
abbrev pub first_reference : ℕ → ℕ
first_reference p = if nat_lt p RANKS_MAX then 4 * p + 1 else 0

-- ---- what ranks hold

abbrev pub variables_body : Program → World → Shelf → Data
variables_body s w shelf = variables_data (held_at s w shelf.rank shelf.scope)

-- ---- candidates

abbrev pub placed_if : Program → World → Option Step → Option PlacedStep
placed_if s w None = None
placed_if s w (Some a) = Some (placed_step_of s w a)

-- one of some candidates, by its number from 1
abbrev pub candidate_at : Program → World → List Step → ℕ → Candidate
candidate_at s w steps n = record { number = n; step = placed_if s w (slice_get steps (n - 1)) }

-- those of them in which the rank takes part
abbrev pub candidates_among : Program → World → ℕ → List Step → List Candidate
candidates_among s w p steps = map (candidate_at s w steps) (own_among p steps)

abbrev pub candidates_of : Program → World → ℕ → List Candidate
candidates_of s w p = candidates_among s w p (open_among (decision w))

abbrev pub candidate_number : Candidate → ℕ
candidate_number c = c.number

abbrev pub target_id : Target → ℕ
target_id t = t.id

-- these as targets, with any labels
abbrev pub IsTargets : Program → World → ℕ → Data → Type 0
IsTargets s w p body = (list : List Target) × (map target_id list ≡ map candidate_number (candidates_of s w p)) × (body ≡ targets_data list)

-- ---- how the run has ended

abbrev pub end_name : Outcome → List ℕ
end_name Done = codes "done"
end_name (Leftovers calls) = codes "leftovers"
end_name (Deadlock calls) = codes "deadlock"
end_name (Trap traps) = codes "trap"

-- with any description
abbrev pub IsEnd : Outcome → Data → Type 0
IsEnd o body = (told : List ℕ) × (body ≡ exception_data (end_name o) told)

-- none if it hasn't
abbrev pub IsException : Decision → Option Data → Type 0
IsException (Leaf o) None = ⊥
IsException (Leaf o) (Some body) = IsEnd o body
IsException (Forced a) shown = shown ≡ None
IsException (Choice steps) shown = shown ≡ None

-- ---- all looks

abbrev pub IsPlain : Program → World → List ℕ → Look → Data → Type 0
IsPlain s w path look.Capabilities body = body ≡ capabilities_data
IsPlain s w path look.Nothing body = body ≡ nothing_data
IsPlain s w path look.Threads body = IsThreads s w body
IsPlain s w path (look.Stack p) body = IsStack s w path p body
IsPlain s w path (look.Scopes p) body = body ≡ scopes_data (first_reference p)
IsPlain s w path (look.Variables shelf) body = body ≡ variables_body s w shelf
IsPlain s w path (look.Targets p) body = IsTargets s w p body
IsPlain s w path look.Exception body = body ≡ nothing_data

-- a look has a body but where it is asked how the run has ended, and it hasn't
abbrev pub IsPlainOf : Program → World → List ℕ → Look → Option Data → Type 0
IsPlainOf s w path l None = ⊥
IsPlainOf s w path l (Some body) = IsPlain s w path l body

abbrev pub IsBodyAt : Program → World → List ℕ → Look → Option Data → Type 0
IsBodyAt s w path look.Exception shown = IsException (decision w) shown
IsBodyAt s w path l shown = IsPlainOf s w path l shown

-- what is shown of a session by a look
abbrev pub IsBodyIn : Held → List ℕ → Look → Option Data → Type 0
IsBodyIn s path l shown = (w : World) × (world_of s.trail ≡ Some w) × IsBodyAt s.trail.program w path l shown

-- a body that was made, or none
abbrev pub shown : Option Json → Option Data
shown o = option_map (λ (j : Json). view j.value) o
