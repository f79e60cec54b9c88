-- What is told of a check is what is answered.
use Rattle.std.proofs.Common.{◌≡◌, ◌<◌, ◌≤◌, ℕ, List, length, Some, slice_get, get_or, Result, Ok, Err, refl, sym, ap, subst, ◌∙◌}
use Rattle.std.specs.Option.{option_map}
use Rattle.std.proofs.lemmas.List.{length-map}
use Rattle.std.proofs.lemmas.Option.{slice_get-map, slice_get_read}
use Rattle.mpd_model.specs.declared.call.Mode.{Mode}
use Rattle.mpd_model.specs.script.Program.{Program}
use Rattle.mpd_model.specs.steps.World.{start}
use Rattle.mpd_model.specs.runs.Trail.{Standing, first_standing}
use Rattle.mpd_model.specs.devices.Seen.{SinkSeen}
use Rattle.mpd_lines.specs.declared.engine.EngineFault.TheVariants.{ReadFailed, WriteFailed, TooManyTurns, Memory}
use Rattle.mpd_explore.specs.Sleeping.{decides_by}
use Rattle.mpd_explore.specs.declared.splitter.TheConstants.{PIECES_MAX}
use Rattle.mpd_explore.specs.declared.splitter.Piece.{Piece}
use Rattle.mpd_explore.specs.declared.splitter.SplitFault.{SplitFault}
use Rattle.mpd_explore.specs.declared.splitter.SplitFault.TheVariants as split
use Rattle.mpd_explore.specs.Pieces.{numbered, Reaches}
use Rattle.mpd_explore.specs.Along.{choices_of}
use Rattle.mpd_explore.proofs.PieceLemmas.{numbered_choices}
use Rattle.mpd_explore.proofs.SplitLemmas.{reached_at, level_reached}
use Rattle.mpd_pool.specs.declared.pool.SearchPlan.{SearchPlan}
use Rattle.mpd_pool.specs.declared.pool.PoolFault.{PoolFault}
use Rattle.mpd_pool.specs.declared.pool.PoolFault.TheVariants as pool
use Rattle.mpd_check.specs.declared.fault.CheckFault.{CheckFault}
use Rattle.mpd_check.specs.declared.fault.CheckFault.TheVariants.{BadWorkers, TooManyPieces, NoSuchPiece, Engine}
use Rattle.mpd_check.specs.declared.counts.Tally.{Tally}
use Rattle.mpd_check.specs.Tally.{tally_of}
use Rattle.mpd_check.specs.declared.listing.Listing.{Listing}
use Rattle.mpd_check.specs.declared.listing.Telling.{Telling}
use Rattle.mpd_check.specs.Listing.{IsListing, IsPartListed}
use Rattle.mpd_check.specs.Refused.{refused_by, split_refused}
use Rattle.mpd_check.specs.Checked.{pieces_of, leaves_of, more_of, leaves_at, more_at, count_text, IsCrew, AreFew, Put, PutCount, AnsweredBy, Counted, IsTallied}

-- ---- a report of all pieces

pub put_answered : (want : List ℕ) (s : Program) (mode : Mode) (plan : SearchPlan) (workers : ℕ) (old new : SinkSeen) (text : List ℕ) (told : Tally) (r : Result Tally CheckFault) → text ≡ want
    → told ≡ tally_of (leaves_of s mode plan) (more_of s mode plan) → IsCrew workers → AreFew s mode plan → Put text told old new r → AnsweredBy want s mode plan workers old new r
put_answered want s mode plan workers old new text told (Ok t) is tells crew few h = (rw is at h.0, h.1 ∙ tells, crew, few)
put_answered want s mode plan workers old new text told (Err (Engine WriteFailed)) is tells crew few h = (rw is at h, crew, few)
put_answered want s mode plan workers old new text told (Err (Engine ReadFailed)) is tells crew few h = h
put_answered want s mode plan workers old new text told (Err (Engine TooManyTurns)) is tells crew few h = h
put_answered want s mode plan workers old new text told (Err (Engine Memory)) is tells crew few h = absurd h
put_answered want s mode plan workers old new text told (Err BadWorkers) is tells crew few h = absurd h
put_answered want s mode plan workers old new text told (Err TooManyPieces) is tells crew few h = absurd h
put_answered want s mode plan workers old new text told (Err (NoSuchPiece n m)) is tells crew few h = h

pub refused_answered : (want : List ℕ) (s : Program) (mode : Mode) (plan : SearchPlan) (workers : ℕ) (old new : SinkSeen) (f : PoolFault) → new ≡ old → IsCrew workers → (f ≡ pool.BadWorkers → ⊥)
    → (f ≡ pool.TooManyPieces → PIECES_MAX < length (pieces_of s mode plan)) → AnsweredBy want s mode plan workers old new (Err (refused_by f))
refused_answered want s mode plan workers old new pool.BadWorkers same crew some many = absurd (some refl)
refused_answered want s mode plan workers old new pool.TooManyPieces same crew some many = (same, crew, many refl)
refused_answered want s mode plan workers old new pool.Memory same crew some many = (same, crew)

-- ---- one piece

-- the piece of a number, and how many there are
pub count_is : (xs : List (List ℕ)) (ps : List Piece) → ps ≡ numbered 0 xs → length ps ≡ length xs
count_is xs ps is = sym (length-map ps (λ (p : Piece). p.choices)) ∙ ap (λ (qs : List Piece). length (choices_of qs)) is ∙ ap length (numbered_choices 0 xs)

piece_at : (xs : List (List ℕ)) (ps : List Piece) (i : ℕ) (p : Piece) → ps ≡ numbered 0 xs → i < length ps → p ≡ get_or ps i p → slice_get xs i ≡ Some p.choices
piece_at xs ps i p is within read =
    ap (λ (ys : List (List ℕ)). slice_get ys i) (sym (ap choices_of is ∙ numbered_choices 0 xs)) ∙ slice_get-map (λ (q : Piece). q.choices) ps i ∙ ap (option_map (λ (q : Piece). q.choices)) (slice_get_read ps (length ps) i p refl within read)

pub piece_listed : (t : Telling) (s : Program) (mode : Mode) (plan : SearchPlan) (ps : List Piece) (number : ℕ) (p : Piece) (v : Listing) → ps ≡ numbered 0 (pieces_of s mode plan) → number < length ps → p ≡ get_or ps number p → AreFew s mode plan
    → IsListing (decides_by plan.limits.ends) t plan.limits (first_standing s mode) (leaves_at s mode plan p.choices) (more_at s mode plan p.choices) v → IsPartListed t s mode plan number (Ok v)
piece_listed t s mode plan ps number p v is within read few listed = (p.choices, piece_at (pieces_of s mode plan) ps number p is within read, few, listed)

pub none_listed : (t : Telling) (s : Program) (mode : Mode) (plan : SearchPlan) (ps : List Piece) (number : ℕ) → ps ≡ numbered 0 (pieces_of s mode plan) → length ps ≤ number → AreFew s mode plan → IsPartListed t s mode plan number (Err (NoSuchPiece number (length ps)))
none_listed t s mode plan ps number is past few = (refl, count_is (pieces_of s mode plan) ps is, past, few)

pub reached_number : (s : Program) (mode : Mode) (plan : SearchPlan) (ps : List Piece) (number : ℕ) (p : Piece) (d : Standing) → d ≡ first_standing s mode → ps ≡ numbered 0 (pieces_of s mode plan) → number < length ps → p ≡ get_or ps number p → Reaches (decides_by plan.limits.ends) plan.limits.fuel p.choices d.world
reached_number s mode plan ps number p d is pieces within read =
    reached_at (decides_by plan.limits.ends) plan.limits.fuel (start s mode) d.world ps number p p.choices within read refl (ap (λ (x : Standing). x.world) is) (level_reached (decides_by plan.limits.ends) plan.limits.fuel plan.split (start s mode) ps pieces)

pub same_start : (t : Telling) (s : Program) (mode : Mode) (plan : SearchPlan) (number : ℕ) (d : Standing) (r : Result Listing CheckFault) → d ≡ first_standing s mode → IsPartListed t d.trail.program d.trail.mode plan number r → IsPartListed t s mode plan number r
same_start t s mode plan number d r is h = subst (λ (x : Standing). IsPartListed t x.trail.program x.trail.mode plan number r) is h

pub none_begun : (t : Telling) (s : Program) (mode : Mode) (plan : SearchPlan) (number : ℕ) (f : SplitFault) → (f ≡ split.TooManyPieces → PIECES_MAX < length (pieces_of s mode plan)) → IsPartListed t s mode plan number (Err (split_refused f))
none_begun t s mode plan number split.TooManyPieces many = many refl
none_begun t s mode plan number split.Memory many = tt

-- ---- how many pieces there are

pub put_counted : (s : Program) (mode : Mode) (plan : SearchPlan) (old new : SinkSeen) (text : List ℕ) (count : ℕ) (ps : List Piece) (r : Result Unit CheckFault) → text ≡ count_text count → count ≡ length ps → ps ≡ numbered 0 (pieces_of s mode plan) → AreFew s mode plan → PutCount text old new r
    → Counted s mode plan old new r
put_counted s mode plan old new text count ps (Ok u) is many pieces few h = (rw (is ∙ ap count_text (many ∙ count_is (pieces_of s mode plan) ps pieces)) at h, few)
put_counted s mode plan old new text count ps (Err (Engine WriteFailed)) is many pieces few h = (rw (is ∙ ap count_text (many ∙ count_is (pieces_of s mode plan) ps pieces)) at h, few)
put_counted s mode plan old new text count ps (Err (Engine ReadFailed)) is many pieces few h = h
put_counted s mode plan old new text count ps (Err (Engine TooManyTurns)) is many pieces few h = h
put_counted s mode plan old new text count ps (Err (Engine Memory)) is many pieces few h = absurd h
put_counted s mode plan old new text count ps (Err BadWorkers) is many pieces few h = h
put_counted s mode plan old new text count ps (Err TooManyPieces) is many pieces few h = absurd h
put_counted s mode plan old new text count ps (Err (NoSuchPiece n m)) is many pieces few h = h

-- ---- a mode

pub refused_tallied : (s : Program) (mode : Mode) (plan : SearchPlan) (workers : ℕ) (f : PoolFault) → IsCrew workers → (f ≡ pool.BadWorkers → ⊥) → (f ≡ pool.TooManyPieces → PIECES_MAX < length (pieces_of s mode plan)) → IsTallied s mode plan workers (Err (refused_by f))
refused_tallied s mode plan workers pool.BadWorkers crew some many = absurd (some refl)
refused_tallied s mode plan workers pool.TooManyPieces crew some many = (crew, many refl)
refused_tallied s mode plan workers pool.Memory crew some many = crew

pub untold : (want : List ℕ) (s : Program) (mode : Mode) (plan : SearchPlan) (workers : ℕ) (old new : SinkSeen) (f : CheckFault) → new ≡ old → IsTallied s mode plan workers (Err f) → AnsweredBy want s mode plan workers old new (Err f)
untold want s mode plan workers old new (Engine Memory) same h = (same, h)
untold want s mode plan workers old new BadWorkers same h = (same, h)
untold want s mode plan workers old new TooManyPieces same h = (same, h.0, h.1)
untold want s mode plan workers old new (Engine WriteFailed) same h = absurd h
untold want s mode plan workers old new (Engine ReadFailed) same h = absurd h
untold want s mode plan workers old new (Engine TooManyTurns) same h = absurd h
untold want s mode plan workers old new (NoSuchPiece n m) same h = absurd h
