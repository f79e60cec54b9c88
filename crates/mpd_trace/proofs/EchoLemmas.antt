-- Lines that are shown before their answers.
use Rattle.std.proofs.Common.{◌≡◌, ◌∙◌, List, ℕ, [], codes, true, Result, subst}
use Rattle.mpd_lines.specs.Echo.{Echoes}
use Rattle.mpd_model.specs.devices.Seen.{SourceSeen, SinkSeen}
use Rattle.mpd_lines.specs.Served.{Served}
use Rattle.mpd_lines.specs.Telling.{waiting_below}
use Rattle.mpd_lines.specs.declared.engine.EngineFault.{EngineFault}
use Rattle.mpd_lines.proofs.EchoLaws.{echo_said, long_echo_said}
use Rattle.mpd_model.specs.declared.limits.TheConstants.{READS_MAX}
use Rattle.mpd_model.specs.runs.Trail.{Standing}
use Rattle.mpd_model.specs.texts.Answers.{AnswerOrMemory}

pub ruleset echoing = (echo_said, long_echo_said)

-- a run of a desk that shows the lines of one that stands at the start of a script
pub echoed_from : (d b c e : Standing) (s t : SourceSeen) (v w : SinkSeen) (r : Result (Unit {0}) EngineFault) → b ≡ d → c ≡ b
    → Served (Echoes (codes "> ") AnswerOrMemory) (waiting_below true) c [] READS_MAX s t v w e r → Served (Echoes (codes "> ") AnswerOrMemory) (waiting_below true) d [] READS_MAX s t v w e r
echoed_from d b c e s t v w r is same h = let P : Standing → Type 0 = λ x. Served (Echoes (codes "> ") AnswerOrMemory) (waiting_below true) x [] READS_MAX s t v w e r in subst P (same ∙ is) h
