-- The reports of pieces joined in order, and the report of all.
use Rattle.std.proofs.Common.{◌≡◌, ℕ, zero, suc, ◌+◌, ◌<◌, ◌≤◌, Bool, true, false, ◌||◌, ◌&&◌, List, [], ◌∷◌, ◌++◌, length, take, drop, map, string_bytes, get_or, refl, sym, subst, ap, arith, ◌∙◌}
use Rattle.std.specs.List.{AllByRecursion}
use Rattle.mpd_model.specs.runs.Trail.{Standing, done_steps}
use Rattle.mpd_explore.specs.declared.report.SearchLimits.{SearchLimits}
use Rattle.mpd_explore.specs.declared.report.SearchLeaf as leaf
use Rattle.mpd_explore.specs.declared.report.SearchReport.{SearchReport}
use Rattle.mpd_explore.specs.Report.{any_bad}
use Rattle.mpd_explore.specs.Sleeping.{decides_by}
use Rattle.mpd_explore.specs.Witness.{HasWitness}
use Rattle.mpd_explore.specs.WitnessTexts.{witness_texts}
use Rattle.mpd_explore.specs.declared.splitter.Piece.{Piece}
use Rattle.mpd_explore.specs.Pieces.{pieces, numbered, part, split_report, split_more}
use Rattle.mpd_explore.specs.Along.{parts, has_more, have_run}
use Rattle.mpd_explore.proofs.SplitLemmas.{level_reached}
use Rattle.mpd_explore.proofs.ReportLemmas.{parts_next, more_next, texts_next, texts_begun, good_next, all_parts, all_more, ends_parts, ends_more, parts_are, more_is}
use Rattle.mpd_pool.specs.Parts.{IsPart, AtNumber, CanBegin, CanExplore, HaveWitnesses, HaveTexts, AreJoined, IsJoined, AreListed, IsReport, Added}
use Rattle.mpd_pool.proofs.Places.{part_of}

all_join : {A : Type 0} (P : A → Type 0) (xs ys : List A) → AllByRecursion P xs → AllByRecursion P ys → AllByRecursion P (xs ++ ys)
all_join P [] ys h k = k
all_join P (x ∷ xs) ys h k = (h.0, all_join P xs ys h.1 k)

none : Piece
none = record { number = 0; choices = [] }

read_at : (ps : List Piece) (i : ℕ) (p q : Piece) → i < length ps → get_or ps i p ≡ get_or ps i q
read_at [] i p q within = absurd (omega (arith, within))
read_at (x ∷ ps) zero p q within = refl
read_at (x ∷ ps) (suc i) p q within = read_at ps i p q (omega (arith, within))

-- ---- one piece more

-- what the report of a piece makes of the reports before it
record Grown (d : Standing) (l : SearchLimits) (ps : List Piece) (n : ℕ) (cs : List ℕ) (old ls : List leaf.SearchLeaf) (last more : Bool) (texts : List (List ℕ)) : Type 0 where
  leaves : ls ≡ parts l d.world (take n ps)
  added : ls ≡ old ++ part l cs d.world
  more_is : more ≡ has_more l d.world (take n ps)
  is_last : last ≡ (l.until_bad && any_bad (part l cs d.world))
  witnesses : HaveWitnesses d l ls
  texts_are : HaveTexts d l ls texts

grown : (d : Standing) (l : SearchLimits) (ps : List Piece) (i : ℕ) (old new r : SearchReport) (before now own : List (List ℕ)) (last : Bool) → i < length ps → AtNumber d l ps i r → AreJoined d l (take i ps) old.leaves.items old.more before → own ≡ witness_texts (decides_by l.ends) l.witnesses (done_steps d.trail) l.fuel d.world r.leaves.items
    → new.leaves.items ≡ old.leaves.items ++ r.leaves.items → new.more ≡ (old.more || r.more) → now ≡ before ++ own → last ≡ (l.until_bad && any_bad r.leaves.items)
    → Grown d l ps (i + 1) (get_or ps i none).choices old.leaves.items new.leaves.items last new.more now
grown d l ps i old new r before now own last within at h texts_of leaves more texts is =
    let p : Piece = get_or ps i none in
    let read : p ≡ get_or ps i p = read_at ps i none p within in
    let here : IsPart d l p.choices r = part_of d l ps i none r within at in
    let added : new.leaves.items ≡ old.leaves.items ++ part l p.choices d.world = leaves ∙ ap (λ ls. old.leaves.items ++ ls) here.0 in
    record {
      leaves = parts_next l d.world ps i p old.leaves.items new.leaves.items within read h.leaves added;
      added = added;
      more_is = more_next l d.world ps i p old.more new.more within read h.more_is (more ∙ ap (λ b. old.more || b) here.1);
      is_last = is ∙ ap (λ ls. l.until_bad && any_bad ls) here.0;
      witnesses = subst (λ (ls : List leaf.SearchLeaf). HaveWitnesses d l ls) (sym leaves) (all_join (HasWitness (decides_by l.ends) d.trail.program d.trail.mode (done_steps d.trail) l.fuel d.world) old.leaves.items r.leaves.items h.witnesses here.2);
      texts_are = texts_next (decides_by l.ends) l.witnesses (done_steps d.trail) l.fuel d.world old.leaves.items r.leaves.items new.leaves.items before now leaves h.texts_are (texts ∙ ap (λ ts. before ++ ts) texts_of);
    }

-- it goes on
pub joined_on : (d : Standing) (l : SearchLimits) (ps : List Piece) (i : ℕ) (old new r : SearchReport) (before now own : List (List ℕ)) (last : Bool) → i < length ps → AtNumber d l ps i r → AreJoined d l (take i ps) old.leaves.items old.more before → own ≡ witness_texts (decides_by l.ends) l.witnesses (done_steps d.trail) l.fuel d.world r.leaves.items
    → new.leaves.items ≡ old.leaves.items ++ r.leaves.items → new.more ≡ (old.more || r.more) → now ≡ before ++ own → last ≡ (l.until_bad && any_bad r.leaves.items) → last ≡ false
    → AreJoined d l (take (i + 1) ps) new.leaves.items new.more now
joined_on d l ps i old new r before now own last within at h texts_of leaves more texts is off =
    let g : Grown d l ps (i + 1) (get_or ps i none).choices old.leaves.items new.leaves.items last new.more now = grown d l ps i old new r before now own last within at h texts_of leaves more texts is in
    record {
      leaves = g.leaves;
      more_is = g.more_is;
      witnesses = g.witnesses;
      texts_are = g.texts_are;
      good = good_next l.until_bad last old.leaves.items (part l (get_or ps i none).choices d.world) new.leaves.items g.added g.is_last off h.good;
    }

-- it ends
pub joined_last : (d : Standing) (l : SearchLimits) (ps : List Piece) (i : ℕ) (old new r : SearchReport) (before now own : List (List ℕ)) (last left all : Bool) → i < length ps → AtNumber d l ps i r → AreJoined d l (take i ps) old.leaves.items old.more before
    → own ≡ witness_texts (decides_by l.ends) l.witnesses (done_steps d.trail) l.fuel d.world r.leaves.items → new.leaves.items ≡ old.leaves.items ++ r.leaves.items → new.more ≡ (old.more || r.more) → now ≡ before ++ own → last ≡ (l.until_bad && any_bad r.leaves.items) → last ≡ true
    → left ≡ have_run l d.world (drop (i + 1) ps) → all ≡ (new.more || left) → AreListed d l ps new.leaves.items all now
joined_last d l ps i old new r before now own last left all within at h texts_of leaves more texts is on some behind =
    let cs : List ℕ = (get_or ps i none).choices in
    let g : Grown d l ps (i + 1) cs old.leaves.items new.leaves.items last new.more now = grown d l ps i old new r before now own last within at h texts_of leaves more texts is in
    record {
      leaves = ends_parts l d.world ps (i + 1) cs old.leaves.items new.leaves.items last g.leaves g.added h.good g.is_last on;
      more_is = ends_more l d.world ps (i + 1) cs old.leaves.items new.leaves.items last new.more left all g.leaves g.added h.good g.is_last on g.more_is some behind;
      witnesses = g.witnesses;
      texts_are = g.texts_are;
    }

-- the texts of the report of a piece
pub texts_at : (d : Standing) (l : SearchLimits) (ps : List Piece) (i : ℕ) (r : SearchReport) → i < length ps → AtNumber d l ps i r → map string_bytes r.witnesses.items ≡ witness_texts (decides_by l.ends) l.witnesses (done_steps d.trail) l.fuel d.world r.leaves.items
texts_at d l ps i r within at = (part_of d l ps i none r within at).3

-- ---- no piece, and all

pub joined_none : (d : Standing) (l : SearchLimits) (ls : List leaf.SearchLeaf) (more : Bool) (texts : List (List ℕ)) → ls ≡ [] → more ≡ false → texts ≡ [] → AreJoined d l [] ls more texts
joined_none d l ls more texts none_is off empty =
    record {
      leaves = none_is;
      more_is = off;
      witnesses = subst (λ (xs : List leaf.SearchLeaf). HaveWitnesses d l xs) (sym none_is) tt;
      texts_are = texts_begun (decides_by l.ends) l.witnesses (done_steps d.trail) l.fuel d.world ls texts none_is empty;
      good = λ h. ap any_bad none_is;
    }

pub joined_all : (d : Standing) (l : SearchLimits) (ps : List Piece) (i : ℕ) (r : SearchReport) → length ps ≤ i → IsJoined d l (take i ps) r → IsReport d l ps r
joined_all d l ps i r long h =
    record {
      leaves = all_parts l d.world ps i r.leaves.items long h.leaves h.good;
      more_is = all_more l d.world ps i r.leaves.items r.more long h.leaves h.good h.more_is;
      witnesses = h.witnesses;
      texts_are = h.texts_are;
    }

-- ---- of a debugger that stands so

pub joined_same : (d e : Standing) (l : SearchLimits) (ps : List Piece) (r : SearchReport) → d ≡ e → IsJoined e l ps r → IsJoined d l ps r
joined_same d e l ps r same h = subst (λ (x : Standing). IsJoined x l ps r) (sym same) h

pub report_same : (d e : Standing) (l : SearchLimits) (ps : List Piece) (r : SearchReport) → d ≡ e → IsReport e l ps r → IsReport d l ps r
report_same d e l ps r same h = subst (λ (x : Standing). IsReport x l ps r) (sym same) h

pub added_on : (d e : Standing) (l : SearchLimits) (ps : List Piece) (n : ℕ) (last : Bool) (r : SearchReport) → d ≡ e → last ≡ false → Added e l ps n last r → IsJoined d l (take n ps) r
added_on d e l ps n last r same off h = let k : Added e l ps n false r = rw off at h in joined_same d e l (take n ps) r same k

pub added_last : (d e : Standing) (l : SearchLimits) (ps : List Piece) (n : ℕ) (last : Bool) (r : SearchReport) → d ≡ e → last ≡ true → Added e l ps n last r → IsReport d l ps r
added_last d e l ps n last r same on h = let k : Added e l ps n true r = rw on at h in report_same d e l ps r same k

-- ---- all pieces of a plan

pub leaves_are : (d : Standing) (l : SearchLimits) (k : ℕ) (ps : List Piece) (r : SearchReport) → ps ≡ numbered 0 (pieces (decides_by l.ends) k l.fuel d.world) → IsReport d l ps r → r.leaves.items ≡ split_report k l d.world
leaves_are d l k ps r is h = h.leaves ∙ parts_are k l d.world ps is

pub others_are : (d : Standing) (l : SearchLimits) (k : ℕ) (ps : List Piece) (r : SearchReport) → ps ≡ numbered 0 (pieces (decides_by l.ends) k l.fuel d.world) → IsReport d l ps r → r.more ≡ split_more k l d.world
others_are d l k ps r is h = h.more_is ∙ more_is k l d.world ps is

pub can_explore : (d e : Standing) (l : SearchLimits) (k : ℕ) (ps : List Piece) → CanBegin d l → e ≡ d → ps ≡ numbered 0 (pieces (decides_by l.ends) k l.fuel d.world) → CanExplore e l ps
can_explore d e l k ps can same is = subst (λ (x : Standing). CanExplore x l ps) (sym same) (can, level_reached (decides_by l.ends) l.fuel k d.world ps is)

-- the same of one that was left as found
pub can_same : (d e : Standing) (l : SearchLimits) (ps : List Piece) → e ≡ d → CanExplore d l ps → CanExplore e l ps
can_same d e l ps same can = subst (λ (x : Standing). CanExplore x l ps) (sym same) can

pub standing_same : (d e : Standing) → e.trail ≡ d.trail → e.world ≡ d.world → e ≡ d
standing_same d e trail world = λ i. record { trail = trail i; world = world i }
