-- Worked rows of what is told of witnesses, by which of them are asked for, and of what a witness of a deadlock is refused for. What is wanted
-- was worked out by hand.
use Rattle.std.specs.Prelude.{◌≡◌, ℕ, Bool, true, false, map, List, [], ◌∷◌, ◌++◌, Some, None, codes, refl}
use Rattle.std.specs.Fmt.{digits}
use Rattle.mpd_model.specs.declared.call.Mode.TheVariants.{Rendezvous}
use Rattle.mpd_model.specs.declared.call.Trap.TheVariants.{Overflow}
use Rattle.mpd_model.specs.declared.decision.Decision.{Decision}
use Rattle.mpd_model.specs.declared.decision.Decision.TheVariants as decision_is
use Rattle.mpd_model.specs.declared.outcome.IssuedCall.{IssuedCall}
use Rattle.mpd_model.specs.declared.outcome.Outcome.TheVariants as o
use Rattle.mpd_model.specs.declared.step.Step.TheVariants.{Local, Wake}
use Rattle.mpd_model.specs.script.Program.{Program}
use Rattle.mpd_model.specs.steps.World.{World, call_id, start}
use Rattle.mpd_model.specs.steps.Outcomes.{issued_by}
use Rattle.mpd_model.specs.texts.Texts.{line}
use Rattle.mpd_explore.specs.declared.report.SearchLeaf.{SearchLeaf}
use Rattle.mpd_explore.specs.declared.report.WitnessEnd.TheVariants as end_is
use Rattle.mpd_explore.specs.declared.report.Witnesses.{Witnesses}
use Rattle.mpd_explore.specs.declared.report.Witnesses.TheVariants.{OfNone, OfDeadlocks, OfAll}
use Rattle.mpd_explore.specs.declared.verifier.WitnessFault.TheVariants.{NotStuck}
use Rattle.mpd_policy.specs.declared.ending.Ending.{Ending}
use Rattle.mpd_policy.specs.declared.ending.Ending.TheVariants.{Ended, Cut}
use Rattle.mpd_policy.specs.Walk.{run_by}
use Rattle.mpd_explore.specs.Asked.{are_asked, asks}
use Rattle.mpd_explore.specs.Witness.{FaultAtEnd}
use Rattle.mpd_explore.specs.WitnessTexts.{witness_texts}
use Rattle.mpd_explore.specs.ReportText.{report_text}

abbrev blocked : List IssuedCall
blocked = issued_by 3 (call_id 0 2) ∷ []

-- each way in which a run ends
abbrev endings : List Ending
endings = Ended o.Done ∷ Ended (o.Leftovers blocked) ∷ Ended (o.Deadlock blocked) ∷ Ended (o.Trap (record { rank = 1; statement = 4; trap = Overflow } ∷ [])) ∷ Cut ∷ []

-- and what is asked for of each
pub row_asked : map are_asked (OfNone ∷ OfDeadlocks ∷ OfAll ∷ []) ≡ false ∷ true ∷ true ∷ []
row_asked = refl

pub row_asks : map {B = List Bool} (λ (asked : Witnesses). map (asks asked) endings) (OfNone ∷ OfDeadlocks ∷ OfAll ∷ [])
    ≡ (false ∷ false ∷ false ∷ false ∷ false ∷ []) ∷ (false ∷ false ∷ true ∷ false ∷ false ∷ []) ∷ (true ∷ true ∷ true ∷ true ∷ true ∷ []) ∷ []
row_asks = refl

-- Leaves with no choice, after `local 0` and `wake 1`, at a state from which nothing more is taken.
abbrev nothing : Program
nothing = record { version = 1; ranks = 2; decls = []; body = []; lines = [] }

abbrev still : World → Decision
still w = decision_is.Choice []

abbrev leaf_of : Ending → SearchLeaf
leaf_of e = record { choices = []; ending = e }

abbrev texts : Witnesses → List (List ℕ)
texts asked = witness_texts still asked (Local 0 ∷ Wake 1 ∷ []) 0 (start nothing Rendezvous) (map leaf_of endings)

-- with deadlocks alone a trap has the empty text, as any other leaf
pub row_texts : map texts (OfNone ∷ OfDeadlocks ∷ OfAll ∷ [])
    ≡ [] ∷ ([] ∷ [] ∷ line (codes ": local 0, wake 1") ∷ [] ∷ [] ∷ []) ∷ ([] ∷ [] ∷ line (codes ": local 0, wake 1") ∷ line (codes ": local 0, wake 1") ∷ [] ∷ []) ∷ []
unfolding digits run_by
row_texts = refl

abbrev told : Witnesses → List ℕ
told asked = report_text still asked (Local 0 ∷ Wake 1 ∷ []) 0 (start nothing Rendezvous) (map leaf_of endings) false

pub row_plain : told OfNone ≡ codes "leaf 0 [] done\nleaf 1 [] leftovers 0.2\nleaf 2 [] deadlock 0.2\nleaf 3 [] trap 1 overflow\nleaf 4 [] cut\nleaves 5 more no\n"
unfolding digits
row_plain = refl

pub row_deadlocks : told OfDeadlocks ≡ codes "leaf 0 [] done\nleaf 1 [] leftovers 0.2\nleaf 2 [] deadlock 0.2\nwitness 2: local 0, wake 1\nleaf 3 [] trap 1 overflow\nleaf 4 [] cut\nleaves 5 more no\n"
unfolding digits run_by
row_deadlocks = refl

pub row_all : told OfAll ≡ codes "leaf 0 [] done\nleaf 1 [] leftovers 0.2\nleaf 2 [] deadlock 0.2\nwitness 2: local 0, wake 1\nleaf 3 [] trap 1 overflow\nwitness 3: local 0, wake 1\nleaf 4 [] cut\nleaves 5 more no\n"
unfolding digits run_by
row_all = refl

-- a run with a trap is no witness of a deadlock: not stuck
pub row_trap : FaultAtEnd (Some (end_is.Trap (record { rank = 1; trap = Overflow } ∷ []))) (end_is.Deadlock (call_id 0 2 ∷ [])) NotStuck ≡ (NotStuck ≡ NotStuck)
row_trap = refl
