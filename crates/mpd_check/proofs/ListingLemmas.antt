-- What is listed is what is answered; with nothing beside its leaves its text is that of a report.
use Rattle.std.proofs.Common.{◌≡◌, ◌<◌, ℕ, Bool, List, [], length, map, Option, Some, slice_get, Result, Ok, Err, string_bytes, refl, subst, ap, ap₂, ◌∙◌}
use Rattle.mpd_model.specs.declared.call.Mode.{Mode}
use Rattle.mpd_model.specs.declared.decision.Decision.{Decision}
use Rattle.mpd_model.specs.script.Program.{Program}
use Rattle.mpd_model.specs.devices.Seen.{SinkSeen}
use Rattle.mpd_explore.specs.declared.report.SearchLimits.{SearchLimits}
use Rattle.mpd_explore.specs.declared.report.Witnesses.{Witnesses}
use Rattle.mpd_explore.specs.declared.splitter.TheConstants.{PIECES_MAX}
use Rattle.mpd_model.specs.steps.World.{World, start}
use Rattle.mpd_model.specs.runs.Trail.{Standing, first_standing}
use Rattle.mpd_policy.specs.Wide.{wide_decision}
use Rattle.mpd_explore.specs.declared.report.SearchLeaf.{SearchLeaf}
use Rattle.mpd_explore.specs.Sleeping.{decides_by}
use Rattle.mpd_explore.specs.ReportText.{report_text}
use Rattle.mpd_explore.specs.Printed.{told_text}
use Rattle.mpd_explore.specs.WitnessTexts.{witness_texts}
use Rattle.mpd_explore.proofs.PrintLemmas.{told_reports}
use Rattle.mpd_explore.specs.Pieces.{part, part_left, split_report, split_more}
use Rattle.mpd_pool.specs.declared.pool.SearchPlan.{SearchPlan}
use Rattle.mpd_pool.specs.declared.pool.PoolFault.{PoolFault}
use Rattle.mpd_pool.specs.declared.pool.PoolFault.TheVariants as pool
use Rattle.mpd_lines.specs.declared.engine.EngineFault.TheVariants.{ReadFailed, WriteFailed, TooManyTurns, Memory}
use Rattle.mpd_check.specs.declared.counts.Tally.{Tally}
use Rattle.mpd_check.specs.declared.fault.CheckFault.{CheckFault}
use Rattle.mpd_check.specs.declared.fault.CheckFault.TheVariants.{BadWorkers, TooManyPieces, NoSuchPiece, Engine}
use Rattle.mpd_check.specs.declared.listing.Listing.{Listing}
use Rattle.mpd_check.specs.declared.listing.Telling.{Telling}
use Rattle.mpd_check.specs.Refused.{refused_by}
use Rattle.mpd_check.specs.Grouped.{shown_of}
use Rattle.mpd_check.specs.Checked.{pieces_of, leaves_of, more_of, leaves_at, more_at, text_of, IsCrew, Put}
use Rattle.mpd_check.specs.Listing.{IsListing, IsListed, IsPartListed, IsPlain, IsTextOf, PutListing, ListingAnswered, PartWritten, SampleAnswered, plain_part, sample_text, sample_leaves, sample_more}

-- ---- where a debugger stands, and what it listed

pub listing_moved : (decide : World → Decision) (t : Telling) (l : SearchLimits) (d e : Standing) (leaves others : List SearchLeaf) (more rest : Bool) (v : Listing) → d ≡ e → leaves ≡ others → more ≡ rest → IsListing decide t l d leaves more v → IsListing decide t l e others rest v
listing_moved decide t l d e leaves others more rest v stands same left h =
    subst (λ (b : Bool). IsListing decide t l e others b v) left (subst (λ (ls : List SearchLeaf). IsListing decide t l e ls more v) same (subst (λ (s : Standing). IsListing decide t l s leaves more v) stands h))

-- whether a report has the texts of witnesses changes nothing of what it lists
module _ (s : Program) (mode : Mode) (plan : SearchPlan) (l : SearchLimits) (b : Witnesses) (w : World) (same : l ≡ record plan.limits { witnesses = b }) (at : w ≡ start s mode) where
  pub leaves_same : (leaves : List SearchLeaf) → leaves ≡ split_report plan.split l w → leaves ≡ leaves_of s mode plan
  leaves_same leaves is = is ∙ ap₂ (λ (m : SearchLimits) (v : World). split_report plan.split m v) same at

  pub more_same : (more : Bool) → more ≡ split_more plan.split l w → more ≡ more_of s mode plan
  more_same more is = is ∙ ap₂ (λ (m : SearchLimits) (v : World). split_more plan.split m v) same at

  pub part_same : (choices : List ℕ) (leaves : List SearchLeaf) → leaves ≡ part l choices w → leaves ≡ leaves_at s mode plan choices
  part_same choices leaves is = is ∙ ap₂ (λ (m : SearchLimits) (v : World). part m choices v) same at

  pub left_same : (choices : List ℕ) (more : Bool) → more ≡ part_left l choices w → more ≡ more_at s mode plan choices
  left_same choices more is = is ∙ ap₂ (λ (m : SearchLimits) (v : World). part_left m choices v) same at

-- ---- nothing beside the leaves

plain_told : (decide : World → Decision) (t : Telling) (s : Program) (mode : Mode) (l : SearchLimits) (leaves : List SearchLeaf) (more : Bool) (v : Listing) (text : List ℕ) → IsListing decide t l (first_standing s mode) leaves more v → IsTextOf t v text → IsPlain t
    → text ≡ report_text decide l.witnesses [] l.fuel (start s mode) leaves more
plain_told decide t s mode l leaves more v text h tells plain =
    let alone : shown_of t.group leaves ≡ leaves = ap (λ (b : Bool). shown_of b leaves) plain.1 in
    let want : List (List ℕ) = witness_texts decide l.witnesses [] l.fuel (start s mode) leaves in
    let items : v.shown.leaves.items ≡ leaves = h.shown_is.leaves_are ∙ alone in
    let texts : map string_bytes v.shown.witnesses.items ≡ want = h.shown_is.witnesses ∙ ap (witness_texts decide l.witnesses [] l.fuel (start s mode)) alone in
    tells plain
    ∙ (λ i. told_text (texts i) (items i) (h.shown_is.more_is i))
    ∙ told_reports decide {A = Unit {0}} {E = Unit {0}} (Ok tt) (λ (u : Unit {0}). told_text want leaves more) l.witnesses [] l.fuel (start s mode) want leaves more refl refl

-- ---- a whole report

pub refused_listed : (t : Telling) (s : Program) (mode : Mode) (plan : SearchPlan) (workers : ℕ) (f : PoolFault) → IsCrew workers → (f ≡ pool.BadWorkers → ⊥) → (f ≡ pool.TooManyPieces → PIECES_MAX < length (pieces_of s mode plan)) → IsListed t s mode plan workers (Err (refused_by f))
refused_listed t s mode plan workers pool.BadWorkers crew some many = absurd (some refl)
refused_listed t s mode plan workers pool.TooManyPieces crew some many = (crew, many refl)
refused_listed t s mode plan workers pool.Memory crew some many = crew

pub listing_answered : (t : Telling) (s : Program) (mode : Mode) (plan : SearchPlan) (workers : ℕ) (old new : SinkSeen) (v : Listing) (r : Result Tally CheckFault) → IsListed t s mode plan workers (Ok v) → PutListing t v old new r → ListingAnswered t s mode plan workers old new r
listing_answered t s mode plan workers old new v (Ok tally) h p =
    (p.0, plain_told (decides_by plan.limits.ends) t s mode plan.limits (leaves_of s mode plan) (more_of s mode plan) v p.0 h.0 p.1, (p.2, p.3 ∙ h.0.tally_is, h.1, h.2))
listing_answered t s mode plan workers old new v (Err (Engine WriteFailed)) h p =
    (p.0, plain_told (decides_by plan.limits.ends) t s mode plan.limits (leaves_of s mode plan) (more_of s mode plan) v p.0 h.0 p.1, (p.2, h.1, h.2))
listing_answered t s mode plan workers old new v (Err (Engine Memory)) h p = (text_of s mode plan (leaves_of s mode plan) (more_of s mode plan), λ plain. refl, (p, h.1))
listing_answered t s mode plan workers old new v (Err (Engine ReadFailed)) h p = absurd p
listing_answered t s mode plan workers old new v (Err (Engine TooManyTurns)) h p = absurd p
listing_answered t s mode plan workers old new v (Err BadWorkers) h p = absurd p
listing_answered t s mode plan workers old new v (Err TooManyPieces) h p = absurd p
listing_answered t s mode plan workers old new v (Err (NoSuchPiece n m)) h p = absurd p

pub unlisted_answered : (t : Telling) (s : Program) (mode : Mode) (plan : SearchPlan) (workers : ℕ) (old new : SinkSeen) (f : CheckFault) → new ≡ old → IsListed t s mode plan workers (Err f) → ListingAnswered t s mode plan workers old new (Err f)
unlisted_answered t s mode plan workers old new (Engine Memory) same h = (text_of s mode plan (leaves_of s mode plan) (more_of s mode plan), λ plain. refl, (same, h))
unlisted_answered t s mode plan workers old new BadWorkers same h = (text_of s mode plan (leaves_of s mode plan) (more_of s mode plan), λ plain. refl, (same, h))
unlisted_answered t s mode plan workers old new TooManyPieces same h = (text_of s mode plan (leaves_of s mode plan) (more_of s mode plan), λ plain. refl, (same, h.0, h.1))
unlisted_answered t s mode plan workers old new (Engine WriteFailed) same h = absurd h
unlisted_answered t s mode plan workers old new (Engine ReadFailed) same h = absurd h
unlisted_answered t s mode plan workers old new (Engine TooManyTurns) same h = absurd h
unlisted_answered t s mode plan workers old new (NoSuchPiece n m) same h = absurd h

-- ---- one piece

one_piece : (xs ys : List ℕ) (o : Option (List ℕ)) → o ≡ Some xs → o ≡ Some ys → xs ≡ ys
one_piece xs ys o e f = cc

part_plain : (t : Telling) (s : Program) (mode : Mode) (plan : SearchPlan) (number : ℕ) (v : Listing) (text : List ℕ) → IsPartListed t s mode plan number (Ok v) → IsTextOf t v text → IsPlain t → (choices : List ℕ) → slice_get (pieces_of s mode plan) number ≡ Some choices → text ≡ plain_part s mode plan choices
part_plain t s mode plan number v text h tells plain choices at =
    plain_told (decides_by plan.limits.ends) t s mode plan.limits (leaves_at s mode plan h.0) (more_at s mode plan h.0) v text h.3 tells plain ∙ ap (plain_part s mode plan) (one_piece h.0 choices (slice_get (pieces_of s mode plan) number) h.1 at)

pub part_written : (t : Telling) (s : Program) (mode : Mode) (plan : SearchPlan) (number : ℕ) (old new : SinkSeen) (v : Listing) (r : Result Tally CheckFault) → IsPartListed t s mode plan number (Ok v) → PutListing t v old new r → PartWritten t s mode plan number old new r
part_written t s mode plan number old new v (Ok tally) h p = (λ choices. p.0, part_plain t s mode plan number v p.0 h p.1, (h.0, h.1, h.2, p.2, p.3 ∙ h.3.tally_is))
part_written t s mode plan number old new v (Err (Engine WriteFailed)) h p = (λ choices. p.0, part_plain t s mode plan number v p.0 h p.1, (h.0, h.1, h.2, p.2))
part_written t s mode plan number old new v (Err (Engine Memory)) h p = (plain_part s mode plan, λ plain choices at. refl, p)
part_written t s mode plan number old new v (Err (Engine ReadFailed)) h p = absurd p
part_written t s mode plan number old new v (Err (Engine TooManyTurns)) h p = absurd p
part_written t s mode plan number old new v (Err BadWorkers) h p = absurd p
part_written t s mode plan number old new v (Err TooManyPieces) h p = absurd p
part_written t s mode plan number old new v (Err (NoSuchPiece n m)) h p = absurd p

pub unlisted_written : (t : Telling) (s : Program) (mode : Mode) (plan : SearchPlan) (number : ℕ) (old new : SinkSeen) (f : CheckFault) → new ≡ old → IsPartListed t s mode plan number (Err f) → PartWritten t s mode plan number old new (Err f)
unlisted_written t s mode plan number old new (Engine Memory) same h = (plain_part s mode plan, λ plain choices at. refl, same)
unlisted_written t s mode plan number old new TooManyPieces same h = (plain_part s mode plan, λ plain choices at. refl, (same, h))
unlisted_written t s mode plan number old new (NoSuchPiece n m) same h = (plain_part s mode plan, λ plain choices at. refl, (same, h.0, h.1, h.2, h.3))
unlisted_written t s mode plan number old new (Engine WriteFailed) same h = absurd h
unlisted_written t s mode plan number old new (Engine ReadFailed) same h = absurd h
unlisted_written t s mode plan number old new (Engine TooManyTurns) same h = absurd h
unlisted_written t s mode plan number old new BadWorkers same h = absurd h

-- ---- a sample

pub sample_answered : (t : Telling) (s : Program) (mode : Mode) (seed : ℕ) (l : SearchLimits) (old new : SinkSeen) (v : Listing) (r : Result Tally CheckFault) → IsListing wide_decision t l (first_standing s mode) (sample_leaves s mode seed l) (sample_more s mode seed l) v → PutListing t v old new r → SampleAnswered t s mode seed l old new r
sample_answered t s mode seed l old new v (Ok tally) h p = (p.0, plain_told wide_decision t s mode l (sample_leaves s mode seed l) (sample_more s mode seed l) v p.0 h p.1, (p.2, p.3 ∙ h.tally_is))
sample_answered t s mode seed l old new v (Err (Engine WriteFailed)) h p = (p.0, plain_told wide_decision t s mode l (sample_leaves s mode seed l) (sample_more s mode seed l) v p.0 h p.1, p.2)
sample_answered t s mode seed l old new v (Err (Engine Memory)) h p = (sample_text s mode seed l, λ plain. refl, p)
sample_answered t s mode seed l old new v (Err (Engine ReadFailed)) h p = absurd p
sample_answered t s mode seed l old new v (Err (Engine TooManyTurns)) h p = absurd p
sample_answered t s mode seed l old new v (Err BadWorkers) h p = absurd p
sample_answered t s mode seed l old new v (Err TooManyPieces) h p = absurd p
sample_answered t s mode seed l old new v (Err (NoSuchPiece n m)) h p = absurd p

-- ---- what is written of a listing

pub put_listed : (t : Telling) (v : Listing) (old new : SinkSeen) (text : List ℕ) (told : Tally) (r : Result Tally CheckFault) → IsTextOf t v text → told ≡ v.tally → Put text told old new r → PutListing t v old new r
put_listed t v old new text told (Ok tally) tells is h = (text, tells, h.0, h.1 ∙ is)
put_listed t v old new text told (Err (Engine WriteFailed)) tells is h = (text, tells, h)
put_listed t v old new text told (Err (Engine ReadFailed)) tells is h = absurd h
put_listed t v old new text told (Err (Engine TooManyTurns)) tells is h = absurd h
put_listed t v old new text told (Err (Engine Memory)) tells is h = absurd h
put_listed t v old new text told (Err BadWorkers) tells is h = absurd h
put_listed t v old new text told (Err TooManyPieces) tells is h = absurd h
put_listed t v old new text told (Err (NoSuchPiece n m)) tells is h = absurd h
