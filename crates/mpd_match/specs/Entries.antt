-- One entry of why a call waits.
use Rattle.std.specs.Prelude.{cond, Option, List, [], ◌∷◌}
use Rattle.mpd_model.specs.declared.step.CallId.{CallId}
use Rattle.mpd_model.specs.steps.World.{Board, fits}
use Rattle.mpd_model.specs.steps.Why.{holder}

-- the partner, and what holds back the match of the send and the receive; nothing where these don't fit
abbrev pub partner_entry : Board → CallId → CallId → CallId → List (CallId × Option CallId)
partner_entry b partner s r = cond (fits b s r) ((partner, holder b s r) ∷ []) []
