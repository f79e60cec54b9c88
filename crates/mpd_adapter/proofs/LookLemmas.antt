-- What looks show, whatever the words.
use Rattle.std.proofs.Common.{◌≡◌, ℕ, List, map, Option, ap, sym, ◌∙◌}
use Rattle.serde_json.specs.Data.{Data}
use Rattle.mpd_model.specs.declared.outcome.Outcome.{Outcome}
use Rattle.mpd_model.specs.script.Program.{Program}
use Rattle.mpd_model.specs.steps.World.{World}
use Rattle.mpd_names.specs.Stand.{stand}
use Rattle.mpd_dap.specs.declared.listed.Thread.{Thread}
use Rattle.mpd_dap.specs.declared.listed.Target.{Target}
use Rattle.mpd_dap.specs.Bodies.{threads_data, targets_data, exception_data}
use Rattle.mpd_adapter.specs.declared.rank.RankDoing.{RankDoing}
use Rattle.mpd_adapter.specs.declared.looks.Candidate.{Candidate}
use Rattle.mpd_adapter.specs.Looks.{doings_of, doing_id, thread_id, IsThreads, stack_by, IsStack, candidates_of, candidate_number, target_id, IsTargets, end_name, IsEnd}

pub threads_so : (s : Program) (w : World) (doings : List RankDoing) (list : List Thread) (body : Data) → doings ≡ doings_of s w → map thread_id list ≡ map doing_id doings → body ≡ threads_data list → IsThreads s w body
threads_so s w doings list body are ids is = (list, ids ∙ ap (map doing_id) are, is)

pub stack_so : (s : Program) (w : World) (path name : List ℕ) (p : ℕ) (line : Option ℕ) (body : Data) → line ≡ stand s w p → body ≡ stack_by p name path line → IsStack s w path p body
stack_so s w path name p line body at is = (name, is ∙ ap (stack_by p name path) at)

pub targets_so : (s : Program) (w : World) (p : ℕ) (candidates : List Candidate) (list : List Target) (body : Data) → candidates ≡ candidates_of s w p → map target_id list ≡ map candidate_number candidates → body ≡ targets_data list → IsTargets s w p body
targets_so s w p candidates list body are ids is = (list, ids ∙ ap (map candidate_number) are, is)

pub end_so : (o : Outcome) (name told : List ℕ) (body : Data) → name ≡ end_name o → body ≡ exception_data name told → IsEnd o body
end_so o name told body named is = (told, is ∙ ap (λ x. exception_data x told) named)
