-- The reports of pieces, each in the place of its number, and joined in order.
use Rattle.std.specs.Prelude.{◌≡◌, ◌≤◌, ℕ, zero, suc, ◌+◌, Bool, true, false, List, [], ◌∷◌, length, take, map, string_bytes, Option, Some, None}
use Rattle.std.specs.List.{AllByRecursion}
use Rattle.mpd_model.specs.declared.limits.TheConstants.{STEPS_MAX}
use Rattle.mpd_model.specs.runs.Trail.{Standing, done_steps}
use Rattle.mpd_explore.specs.declared.report.SearchLimits.{SearchLimits}
use Rattle.mpd_explore.specs.declared.report.SearchLeaf as leaf
use Rattle.mpd_explore.specs.declared.report.SearchReport.{SearchReport}
use Rattle.mpd_explore.specs.Report.{any_bad}
use Rattle.mpd_explore.specs.Sleeping.{decides_by}
use Rattle.mpd_explore.specs.Witness.{HasWitness}
use Rattle.mpd_explore.specs.WitnessTexts.{witness_texts}
use Rattle.mpd_explore.specs.declared.splitter.Piece.{Piece}
use Rattle.mpd_explore.specs.Pieces.{Reaches, part, part_left}
use Rattle.mpd_explore.specs.Along.{choices_of, parts, has_more, report_of, more_of}

-- ---- what is asked of a debugger

-- no undone step is kept, and the fuel fits
abbrev pub CanBegin : Standing → SearchLimits → Type 0
CanBegin d l = (length d.trail.steps ≡ d.trail.depth) × (d.trail.depth + l.fuel ≤ STEPS_MAX)

-- and some run begins with the choices of each piece
abbrev pub CanExplore : Standing → SearchLimits → List Piece → Type 0
CanExplore d l ps = CanBegin d l × AllByRecursion (λ cs. Reaches (decides_by l.ends) l.fuel cs d.world) (choices_of ps)

-- ---- one piece

-- each leaf has a witness, from where the debugger stands
abbrev pub HaveWitnesses : Standing → SearchLimits → List leaf.SearchLeaf → Type 0
HaveWitnesses d l ls = AllByRecursion (HasWitness (decides_by l.ends) d.trail.program d.trail.mode (done_steps d.trail) l.fuel d.world) ls

-- and these are their texts, where they are asked for
abbrev pub HaveTexts : Standing → SearchLimits → List leaf.SearchLeaf → List (List ℕ) → Type 0
HaveTexts d l ls texts = texts ≡ witness_texts (decides_by l.ends) l.witnesses (done_steps d.trail) l.fuel d.world ls

-- the report of the runs that begin with these choices
abbrev pub IsPart : Standing → SearchLimits → List ℕ → SearchReport → Type 0
IsPart d l cs r =
    (r.leaves.items ≡ part l cs d.world) × (r.more ≡ part_left l cs d.world) × HaveWitnesses d l r.leaves.items × HaveTexts d l r.leaves.items (map string_bytes r.witnesses.items)

-- there is a piece of this number, and this is its report
abbrev pub AtNumber : Standing → SearchLimits → List Piece → ℕ → SearchReport → Type 0
AtNumber d l [] number r = ⊥
AtNumber d l (p ∷ ps) zero r = IsPart d l p.choices r
AtNumber d l (p ∷ ps) (suc number) r = AtNumber d l ps number r

-- there is a place for each piece, and where it is filled, its report is in it
abbrev pub Filled : Standing → SearchLimits → List Piece → List (Option SearchReport) → Type 0
Filled d l [] [] = Unit {0}
Filled d l [] (slot ∷ slots) = ⊥
Filled d l (p ∷ ps) [] = ⊥
Filled d l (p ∷ ps) (None ∷ slots) = Filled d l ps slots
Filled d l (p ∷ ps) (Some r ∷ slots) = IsPart d l p.choices r × Filled d l ps slots

-- no place is filled
abbrev pub AllNone : List (Option SearchReport) → Type 0
AllNone [] = Unit {0}
AllNone (None ∷ slots) = AllNone slots
AllNone (Some r ∷ slots) = ⊥

-- ---- pieces joined

-- the leaves of all these pieces, in order, and whether one of them has more; where a list ends with the first bad leaf, none of them
-- has one
pub record AreJoined (d : Standing) (l : SearchLimits) (ps : List Piece) (ls : List leaf.SearchLeaf) (more : Bool) (texts : List (List ℕ)) : Type 0 where
  pub leaves : ls ≡ parts l d.world ps
  pub more_is : more ≡ has_more l d.world ps
  pub witnesses : HaveWitnesses d l ls
  pub texts_are : HaveTexts d l ls texts
  pub good : l.until_bad ≡ true → any_bad ls ≡ false

abbrev pub IsJoined : Standing → SearchLimits → List Piece → SearchReport → Type 0
IsJoined d l ps r = AreJoined d l ps r.leaves.items r.more (map string_bytes r.witnesses.items)

-- what is listed of all these pieces, and whether there are others
pub record AreListed (d : Standing) (l : SearchLimits) (ps : List Piece) (ls : List leaf.SearchLeaf) (more : Bool) (texts : List (List ℕ)) : Type 0 where
  pub leaves : ls ≡ report_of l d.world ps
  pub more_is : more ≡ more_of l d.world ps
  pub witnesses : HaveWitnesses d l ls
  pub texts_are : HaveTexts d l ls texts

abbrev pub IsReport : Standing → SearchLimits → List Piece → SearchReport → Type 0
IsReport d l ps r = AreListed d l ps r.leaves.items r.more (map string_bytes r.witnesses.items)

-- The report of the first pieces is joined, and goes on; or the report of all ends with it.
abbrev pub Added : Standing → SearchLimits → List Piece → ℕ → Bool → SearchReport → Type 0
Added d l ps n false r = IsJoined d l (take n ps) r
Added d l ps n true r = IsReport d l ps r
