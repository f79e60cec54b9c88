-- Which call of a rank completes before another one, and what a run shows of it (MPI 4.0, sections 3.5, 3.7.4 and 6.3).
use Rattle.std.specs.Prelude.{◌≡◌, ℕ, Bool, true, false, ◌&&◌, ◌||◌, ◌==◌, nat_lt, List, ◌∷◌, ◌++◌, take, count_by, Option, Some, None, is_some}
use Rattle.mpd_model.specs.declared.step.CallId.{CallId}
use Rattle.mpd_model.specs.declared.call.Call.{Call}
use Rattle.mpd_model.specs.declared.call.CallKind.{CallKind}
use Rattle.mpd_model.specs.declared.call.CallKind.TheVariants.{Send, Recv, Wait}
use Rattle.mpd_model.specs.declared.call.SendCall.{SendCall}
use Rattle.mpd_model.specs.declared.call.RecvCall.{RecvCall}
use Rattle.mpd_model.specs.declared.call.MatchSet.{MatchSet}
use Rattle.mpd_model.specs.declared.call.MatchSet.TheVariants.{Pair, Woke}
use Rattle.mpd_model.specs.declared.call.MatchSet.TheVariants as set
use Rattle.mpd_model.specs.steps.World.{Board, id_eq, calls_of, kind_at, partner, is_done, is_barrier}
use Rattle.mpd_model.specs.steps.Next.{blocks}

-- ---- the four cases

-- a send to the same rank, with the same tag
abbrev pub same_envelope_as : SendCall → Option CallKind → Bool
same_envelope_as a (Some (Send b)) = (a.to == b.to) && (a.tag == b.tag)
same_envelope_as a other = false

-- what a source or a tag takes, the other takes too
abbrev pub covers_number : Option ℕ → Option ℕ → Bool
covers_number None other = true
covers_number (Some m) None = false
covers_number (Some m) (Some n) = m == n

-- a receive whose messages the other one takes too
abbrev pub is_covered_by : RecvCall → Option CallKind → Bool
is_covered_by a (Some (Recv b)) = covers_number a.from b.from && covers_number a.tag b.tag
is_covered_by a other = false

-- two sends of the same envelope, or two receives of which the first takes whatever the second does
abbrev pub matches_first : Option CallKind → Option CallKind → Bool
matches_first (Some (Send a)) other = same_envelope_as a other
matches_first (Some (Recv a)) other = is_covered_by a other
matches_first one other = false

abbrev pub is_number : Option ℕ → ℕ → Bool
is_number None i = false
is_number (Some j) i = j == i

-- a wait for the call of that number
abbrev pub waits_for : Option CallKind → ℕ → Bool
waits_for (Some (Wait t)) i = is_number t.target i
waits_for kind i = false

-- a call that its rank waits for
abbrev pub blocks_rank : Option CallKind → Bool
blocks_rank (Some kind) = blocks kind
blocks_rank None = false

-- Of two calls of one rank, of which x was issued earlier: both are sends of the same destination and tag; or both are receives, and
-- x takes every message that y takes; or y is a wait for x; or the rank waits for x.
abbrev pub before : Board → CallId → CallId → Bool
before b x y =
    (x.rank == y.rank) && (nat_lt x.index y.index && (is_some (kind_at b y)
    && (matches_first (kind_at b x) (kind_at b y) || (waits_for (kind_at b y) x.index || blocks_rank (kind_at b x)))))

-- ---- what that orders, in the list of match sets

abbrev pub is_release : MatchSet → Bool
is_release (Pair s r) = false
is_release (Woke c) = false
is_release set.Barrier = true

-- how many times all ranks left a barrier
abbrev pub releases : List MatchSet → ℕ
releases sets = count_by is_release sets

-- how many of some calls are barriers
abbrev pub barriers : List Call → ℕ
barriers calls = count_by (λ c. is_barrier (Some c.kind)) calls

abbrev pub barriers_before : Board → CallId → ℕ
barriers_before b c = barriers (take c.index (calls_of b c.rank))

-- A release is of one barrier of each rank: after n others it is of that before which the rank had issued n barriers.
abbrev pub is_released_by : Board → ℕ → CallId → Bool
is_released_by b n c = is_barrier (kind_at b c) && (barriers_before b c == n)

-- a match set, with those in front of it, that names a call: it is of the call's pair, of its wake, or of its release
abbrev pub names : Board → List MatchSet → MatchSet → CallId → Bool
names b front (Pair s r) c = id_eq s c || id_eq r c
names b front (Woke d) c = id_eq d c
names b front set.Barrier c = is_released_by b (releases front) c

-- a match set, with those in front of it, by which the rank of a call went on from it
abbrev pub is_exit : Board → List MatchSet → MatchSet → CallId → Bool
is_exit b front (Pair s r) c = false
is_exit b front (Woke d) c = id_eq d c
is_exit b front set.Barrier c = is_released_by b (releases front) c

-- match sets among which is the one by which the rank of a call went on from it
pub record WentOn (b : Board) (sets : List MatchSet) (x : CallId) : Type 0 where
  pub front : List MatchSet
  pub by : MatchSet
  pub behind : List MatchSet
  pub cut : sets ≡ front ++ (by ∷ behind)
  pub exit : is_exit b front by x ≡ true

-- where a pair names y, an earlier one names x
abbrev pub PairedAfter : Board → CallId → CallId → Type 0
PairedAfter b x y = (front behind : List MatchSet) (s r : CallId) → b.sets ≡ front ++ (Pair s r ∷ behind) → names b front (Pair s r) y ≡ true → is_some (partner front x) ≡ true

-- where the rank went on from y, x was done: it was paired earlier, or buffered as it was issued
abbrev pub DoneBefore : Board → CallId → CallId → Type 0
DoneBefore b x y = (front behind : List MatchSet) → b.sets ≡ front ++ (Woke y ∷ behind) → is_done (record b { sets = front }) x ≡ true

-- each match set that names y stands after the one by which the rank went on from x
abbrev pub WentOnBefore : Board → CallId → CallId → Type 0
WentOnBefore b x y = (front behind : List MatchSet) (m : MatchSet) → b.sets ≡ front ++ (m ∷ behind) → names b front m y ≡ true → WentOn b front x

pub record Ordered (b : Board) (x y : CallId) : Type 0 where
  pub matched : matches_first (kind_at b x) (kind_at b y) ≡ true → PairedAfter b x y
  pub waited : waits_for (kind_at b y) x.index ≡ true → DoneBefore b x y
  pub went_on : blocks_rank (kind_at b x) ≡ true → WentOnBefore b x y
