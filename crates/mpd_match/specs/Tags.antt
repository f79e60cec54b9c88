-- Tags of free sends, marked in places that senders share.
use Rattle.std.specs.Prelude.{◌≡◌, ℕ, ◌+◌, ◌*◌, ◌/◌, ◌%◌, ◌^◌, ◌==◌, Bool, true, false, not, List, length, slice_index, slice_set, bit_or, Option, Some, None}
use Rattle.std.specs.Int.{bit_at}
use Rattle.mpd_model.specs.declared.call.CallKind.{CallKind}
use Rattle.mpd_model.specs.declared.call.CallKind.TheVariants.{Send, Recv, Wait, Waitany, Barrier}
use Rattle.mpd_model.specs.steps.World.{Board, call_id, kind_at, is_pending}

-- the place of a tag of a sender
abbrev pub tag_place : ℕ → ℕ → ℕ
tag_place p t = (t % 32768 + p % 16 * 2176) % 32768

-- the word that a place has a bit of, of so many words
abbrev pub word_of : ℕ → ℕ → ℕ
word_of words n = n / 64 % words

-- a place more is marked
abbrev pub marked : List ℕ → ℕ → List ℕ
marked marks n = slice_set marks (word_of (length marks) n) (bit_or (slice_index marks (word_of (length marks) n)) (2 ^ (n % 64)))

-- the tag of a send
abbrev pub sent_tag : Option CallKind → ℕ
sent_tag (Some (Send s)) = s.tag
sent_tag (Some (Recv r)) = 0
sent_tag (Some (Wait t)) = 0
sent_tag (Some (Waitany a)) = 0
sent_tag (Some Barrier) = 0
sent_tag None = 0

abbrev pub is_marked : List ℕ → ℕ → Bool
is_marked marks n = bit_at (slice_index marks (word_of (length marks) n)) (n % 64) == 1

-- whether the place of what a receive names is not marked
abbrev pub is_unseen_by : Option ℕ → Option ℕ → List ℕ → Bool
is_unseen_by (Some p) (Some t) marks = not (is_marked marks (tag_place p t))
is_unseen_by (Some p) None marks = false
is_unseen_by None t marks = false

abbrev pub is_unseen : Option CallKind → List ℕ → Bool
is_unseen (Some (Recv r)) marks = is_unseen_by r.from r.tag marks
is_unseen (Some (Send s)) marks = false
is_unseen (Some (Wait t)) marks = false
is_unseen (Some (Waitany a)) marks = false
is_unseen (Some Barrier) marks = false
is_unseen None marks = false

-- the tag of each free send to a receiver is marked
abbrev pub Covers : Board → ℕ → List ℕ → Type 0
Covers b q marks = (p i : ℕ) → is_pending b p q i ≡ true → is_marked marks (tag_place p (sent_tag (kind_at b (call_id p i)))) ≡ true
