-- A run of a desk that stands at the start of a script.
use Rattle.std.proofs.Common.{◌≡◌, ℕ, true, List, Result, subst}
use Rattle.mpd_model.specs.devices.Seen.{SourceSeen, SinkSeen}
use Rattle.mpd_model.specs.texts.Answers.{AnswerOrMemory}
use Rattle.mpd_model.specs.runs.Trail.{Standing}
use Rattle.mpd_lines.specs.Served.{Served}
use Rattle.mpd_lines.specs.Telling.{waiting_below}
use Rattle.mpd_lines.specs.declared.engine.EngineFault.{EngineFault}

pub served_from : (d b e : Standing) (before : List ℕ) (turns : ℕ) (s t : SourceSeen) (v w : SinkSeen) (r : Result (Unit {0}) EngineFault)
    → b ≡ d → Served AnswerOrMemory (waiting_below true) b before turns s t v w e r → Served AnswerOrMemory (waiting_below true) d before turns s t v w e r
served_from d b e before turns s t v w r is h = let P : Standing → Type 0 = λ x. Served AnswerOrMemory (waiting_below true) x before turns s t v w e r in subst P is h
