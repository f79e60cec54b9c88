-- The verdict of a check.
use Rattle.std.proofs.Common.{◌≡◌, Bool, true, false, ◌&&◌, not, sym, ap, ◌∙◌}
use Rattle.std.specs.Prelude.{if◌then◌else◌}
use Rattle.std.specs.Bool.{Decides, one_answer}
use Rattle.mpd_lines.specs.declared.verdict.Verdict.TheVariants.{Good, Bad, NotWhole}
use Rattle.mpd_check.specs.declared.counts.Tally.{Tally}
use Rattle.mpd_check.specs.Tally.{is_bad, verdict_of}

pub verdict_bad : (complete all : Bool) (t : Tally) → is_bad t ≡ true → Bad ≡ verdict_of complete all t
verdict_bad complete all t e = sym (ap (λ (b : Bool). if b then Bad else (if complete && not all then NotWhole else Good)) e)

-- the test that was made tells what any other of the same tells
pub verdict_told : {P : Type 0} (complete all told tested : Bool) (t : Tally) → is_bad t ≡ false → Decides all P → Decides told P → tested ≡ (complete && not told)
    → (if tested then NotWhole else Good) ≡ verdict_of complete all t
verdict_told complete all told tested t e a b is =
    ap (λ (x : Bool). if x then NotWhole else Good) (is ∙ ap (λ (x : Bool). complete && not x) (one_answer told all b a))
    ∙ sym (ap (λ (x : Bool). if x then Bad else (if complete && not all then NotWhole else Good)) e)

pub ruleset telling = (verdict_bad, verdict_told, one_answer)
