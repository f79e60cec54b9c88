use Rattle.std.proofs.Common.{ℕ, List, ◌++◌, ◌∷◌, length, string_bytes}
use Rattle.std.specs.Prelude.{codes}
use Rattle.std.specs.Fmt.{decimal}
use Rattle.mpd_model.specs.steps.World.{posted}
use Rattle.mpd_model.specs.texts.Texts.{spaced}
use Rattle.mpd_match.proofs.Walks.{rest}
use Rattle.mpd_trace.proofs.WalkTexts.{Writing}
use Rattle.mpd_trace.proofs.state_text.push_posted.Given as goal

abbrev pub invariant-walk : goal.invariant-walk
invariant-walk l =
    let xs : List ℕ = posted l.board.board l.rank in
    Writing xs (string_bytes l.fn.out ++ ((codes "posted " ++ decimal l.rank) ++ 58 ∷ spaced decimal xs)) (string_bytes l.out) l.here

abbrev pub decreases-walk : goal.decreases-walk
decreases-walk l = length (rest l.here (posted l.board.board l.rank))
