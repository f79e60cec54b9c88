-- The tags of all sends, and the numbers of the message that a receive gets.
use Rattle.std.proofs.Common.{◌≡◌, ◌<◌, ◌≤◌, ◌-◌, ℕ, zero, suc, Bool, List, [], ◌∷◌, ◌++◌, length, take, replicate, Option, Some, None, IfSome, refl, sym, ap, ◌∙◌, subst, arith, slice_get, slice_set, option_and_then}
use Rattle.std.specs.List.{range_with_len}
use Rattle.mpd_model.specs.declared.limits.TheConstants.{RANKS_MAX}
use Rattle.mpd_model.specs.declared.call.Call.{Call}
use Rattle.mpd_model.specs.declared.call.CallKind.{CallKind}
use Rattle.mpd_model.specs.declared.call.CallKind.TheVariants.{Send}
use Rattle.mpd_model.specs.declared.call.Message.{Message}
use Rattle.mpd_model.specs.declared.call.Mode.{Mode}
use Rattle.mpd_model.specs.declared.step.CallId.{CallId}
use Rattle.mpd_model.specs.script.Program.{Program}
use Rattle.mpd_model.specs.steps.World.{Board, calls_of, listed_calls, kind_of, kind_at, message_of, buffer, partner, start_board}
use Rattle.mpd_model.specs.steps.Next.{HasReceiver, has_buffer, buffered_by, entered, with_issued}
use Rattle.mpd_match.specs.Changes.{without_last_call}
use Rattle.mpd_rank.specs.Plans.{HasTag}
use Rattle.mpd_rank.specs.Views.{RankView}
use Rattle.mpd_core.specs.Views.{numbers_in, Holds, HasTags, IsMessage}
use Rattle.mpd_core.proofs.RankLemmas.{count_is}

-- the kind of a call of a list, and of one of several lists
abbrev kind_in : List Call → ℕ → Option CallKind
kind_in calls i = kind_of (slice_get calls i)

abbrev kind_on : List (List Call) → ℕ → ℕ → Option CallKind
kind_on all p i = kind_in (listed_calls (slice_get all p)) i

-- ---- a call more

tag_more : (calls : List Call) (k : Call) (i : ℕ) → HasTag (Some k.kind) → HasTag (kind_in calls i) → HasTag (kind_in (calls ++ k ∷ []) i)
tag_more [] k zero new old = new
tag_more [] k (suc i) new old = tt
tag_more (c ∷ calls) k zero new old = old
tag_more (c ∷ calls) k (suc i) new old = tag_more calls k i new old

-- one of the lists is another
tag_set : (all : List (List Call)) (q : ℕ) (new : List Call) (p i : ℕ) → HasTag (kind_in new i) → HasTag (kind_on all p i) → HasTag (kind_on (slice_set all q new) p i)
tag_set [] q new p i h old = old
tag_set (calls ∷ all) zero new zero i h old = h
tag_set (calls ∷ all) zero new (suc p) i h old = old
tag_set (calls ∷ all) (suc q) new zero i h old = old
tag_set (calls ∷ all) (suc q) new (suc p) i h old = tag_set all q new p i h old

-- a buffer doesn't change a tag
tag_entered : (room : Bool) (k : CallKind) → HasTag (Some k) → HasTag (Some (buffered_by room k))
tag_entered room (Send s) h = h
tag_entered room k h = tt

pub tags_issued : (b c : Board) (p : ℕ) (o : Option Call) → c ≡ with_issued b p o → IfSome o (λ k. HasReceiver (length b.calls) k.kind × HasTag (Some k.kind)) → HasTags b → HasTags c
tags_issued b c p None e h tags = subst HasTags (sym e) tags
tags_issued b c p (Some k) e h tags =
    let c : Call = entered b p k in
    subst HasTags (sym e) (λ d. tag_set b.calls p (calls_of b p ++ c ∷ []) d.rank d.index (tag_more (calls_of b p) c d.index (tag_entered (has_buffer b p) k.kind h.1) (tags (record { rank = p; index = d.index }))) (tags d))

-- ---- a call less

tag_less : (n : ℕ) (calls : List Call) (i : ℕ) → HasTag (kind_in calls i) → HasTag (kind_in (take n calls) i)
tag_less zero calls i old = tt
tag_less (suc n) [] i old = tt
tag_less (suc n) (c ∷ calls) zero old = old
tag_less (suc n) (c ∷ calls) (suc i) old = tag_less n calls i old

tags_less : (b : Board) (p : ℕ) → HasTags b → HasTags (without_last_call b p)
tags_less b p tags =
    λ d. tag_set b.calls p (take (length (calls_of b p) - 1) (calls_of b p)) d.rank d.index (tag_less (length (calls_of b p) - 1) (calls_of b p) d.index (tags (record { rank = p; index = d.index }))) (tags d)

pub tags_unissued : (b c : Board) (p : ℕ) → c ≡ without_last_call b p → HasTags b → HasTags c
tags_unissued b c p e tags = subst HasTags (sym e) (tags_less b p tags)

-- ---- the same calls, or none

pub tags_same : (b c : Board) → HasTags b → c.calls ≡ b.calls → HasTags c
tags_same b c tags e = λ d. subst (λ all. HasTag (kind_on all d.rank d.index)) (sym e) (tags d)

tag_none : (n p i : ℕ) → HasTag (kind_on (replicate n []) p i)
tag_none zero p i = tt
tag_none (suc n) zero i = tt
tag_none (suc n) (suc p) i = tag_none n p i

tags_start : (n : ℕ) (mode : Mode) (b : Board) → b ≡ start_board n mode → HasTags b
tags_start n mode b e = subst HasTags (sym e) (λ d. tag_none n d.rank d.index)

-- ---- what a receive gets

rank_there : (all : List (List Call)) (p i : ℕ) (k : CallKind) → kind_on all p i ≡ Some k → p < length all
rank_there [] p i k e = absurd (cc)
rank_there (calls ∷ all) zero i k e = omega arith
rank_there (calls ∷ all) (suc p) i k e = omega (arith, rank_there all p i k e)

message_by : (d : CallId) (o : Option CallKind) → HasTag o → ((k : CallKind) → o ≡ Some k → d.rank < RANKS_MAX) → IfSome (message_of d o) IsMessage
message_by d (Some (Send s)) h there = (there (Send s) refl, h)
message_by d o h there = tt

got_by : (b : Board) (o : Option CallId) → HasTags b → length b.calls < suc RANKS_MAX → IfSome (option_and_then (λ d. message_of d (kind_at b d)) o) IsMessage
got_by b None tags few = tt
got_by b (Some d) tags few = message_by d (kind_at b d) (tags d) (λ k e. omega (arith, few, rank_there b.calls d.rank d.index k e))

pub got : (s : Program) (vs : List RankView) (b : Board) (r : CallId) → Holds s vs b → IfSome (buffer b r) IsMessage
got s vs b r held = got_by b (partner b.sets r) held.tags (omega (arith, held.few, held.calls, count_is s vs held.numbers))

pub got_of : (s : Program) (vs : List RankView) (b : Board) (r : CallId) (o : Option Message) → Holds s vs b → o ≡ buffer b r → IfSome o IsMessage
got_of s vs b r o held e = subst (λ (m : Option Message). IfSome m IsMessage) (sym e) (got s vs b r held)

pub held_calls : (s : Program) (vs : List RankView) (b c : Board) → Holds s vs b → c.calls ≡ b.calls → Holds s vs c
held_calls s vs b c held e = record { few = held.few; numbers = held.numbers; calls = ap length e ∙ held.calls; tags = tags_same b c held.tags e }

no_calls : (n : ℕ) (mode : Mode) → length (start_board n mode).calls ≡ n
no_calls zero mode = refl
no_calls (suc n) mode = ap suc (no_calls n mode)

pub held_start : (s : Program) (vs : List RankView) (b : Board) (n : ℕ) (mode : Mode) → numbers_in vs ≡ range_with_len 0 n → n ≡ s.ranks → n ≤ RANKS_MAX → b ≡ start_board n mode → Holds s vs b
held_start s vs b n mode numbered size small e =
    let numbers : numbers_in vs ≡ range_with_len 0 s.ranks = numbered ∙ ap (λ (k : ℕ). range_with_len 0 k) size in
    record {
      few = omega (arith, count_is s vs numbers, size, small);
      numbers = numbers;
      calls = ap (λ (d : Board). length d.calls) e ∙ no_calls n mode ∙ size;
      tags = tags_start n mode b e;
    }

pub ruleset tagging = (tags_issued, tags_unissued, tags_same, got_of, held_calls)
