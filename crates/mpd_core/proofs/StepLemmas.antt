-- The local step of one rank over a board.
use Rattle.std.proofs.Common.{◌≡◌, ℕ, Bool, true, false, is_some, ℤ, ◌≤◌, ◌+◌, ◌*◌, List, [], ◌∷◌, ◌++◌, Option, Some, None, Result, Ok, Err, OnOk, OnErr, IfSome, length, refl, sym, ap, ◌∙◌, arith}
use Rattle.std.specs.Option.{option_map}
use Rattle.std.proofs.lemmas.List.{length-set}
use Rattle.mpd_model.specs.declared.call.Activity.{Activity}
use Rattle.mpd_model.specs.declared.call.Activity.TheVariants.{Running, Blocked, Trapped}
use Rattle.mpd_model.specs.declared.call.Call.{Call}
use Rattle.mpd_model.specs.script.Program.{Program}
use Rattle.mpd_model.specs.script.Term.{Env}
use Rattle.mpd_model.specs.script.Tree.{Tree}
use Rattle.mpd_model.specs.steps.World.{RankWorld, Board, calls_of}
use Rattle.mpd_model.specs.steps.Next.{HasReceiver, local, with_call, with_issued}
use Rattle.mpd_match.specs.Changes.{without_last_call}
use Rattle.mpd_rank.specs.declared.plan.LocalPlan.{LocalPlan}
use Rattle.mpd_rank.specs.declared.plan.Alone.{Alone as Own}
use Rattle.mpd_rank.specs.declared.plan.Alone.TheVariants as own
use Rattle.mpd_rank.specs.declared.plan.LocalPlan.TheVariants.{Alone, Issue}
use Rattle.mpd_rank.specs.Plans.{plan_call, plan_ran, planned, HasTag, HasPlannedReceiver}
use Rattle.mpd_rank.specs.Records.{record_by, local_record, alone_change, plan_change, plan_record}
use Rattle.mpd_rank.specs.declared.change.LocalChange.{LocalChange}
use Rattle.mpd_rank.specs.declared.change.LocalChange.TheVariants as change
use Rattle.mpd_rank.specs.Undone.{LocalDone, entry_at, assigned_change, IsOwn}
use Rattle.mpd_rank.specs.Views.{RankView, rank_of}
use Rattle.mpd_core.specs.OneRank.{ran_on, local_on, CanUnissueIf}
use Rattle.mpd_core.specs.Undone.{unissued, CanUnissue}
use Rattle.mpd_core.proofs.RangeLemmas.{on_ok}

-- a call that is planned has a receiver
pub has_receiver : (n number : ℕ) (plan : LocalPlan) (o : Option Call) → HasPlannedReceiver n plan → o ≡ plan_call number plan → IfSome o (λ c. HasReceiver n c.kind × HasTag (Some c.kind))
has_receiver n number plan o h e = rw e (by_plan n number plan h)
  where
    by_plan : (n number : ℕ) (plan : LocalPlan) → HasPlannedReceiver n plan → IfSome (plan_call number plan) (λ c. HasReceiver n c.kind × HasTag (Some c.kind))
    by_plan n number (Alone plan) h = tt
    by_plan n number (Issue a next) h = h

can_assigned : (b : Board) (p : ℕ) (o : Option (ℕ × ℤ)) → CanUnissue b p (assigned_change o)
can_assigned b p None = tt
can_assigned b p (Some w) = tt

back_assigned : (b : Board) (p : ℕ) (o : Option (ℕ × ℤ)) → unissued b p (assigned_change o) ≡ b
back_assigned b p None = refl
back_assigned b p (Some w) = refl

-- what issues no call does nothing to the board
can_alone : (b : Board) (p : ℕ) (vars : List ℤ) (plan : Own) → CanUnissue b p (alone_change vars plan)
can_alone b p vars (own.Move next) = tt
can_alone b p vars (own.Print v next) = tt
can_alone b p vars (own.Assign cell v next) = can_assigned b p (entry_at vars cell)
can_alone b p vars (own.Trap t) = tt

back_alone : (b : Board) (p : ℕ) (vars : List ℤ) (plan : Own) → unissued b p (alone_change vars plan) ≡ b
back_alone b p vars (own.Move next) = refl
back_alone b p vars (own.Print v next) = refl
back_alone b p vars (own.Assign cell v next) = back_assigned b p (entry_at vars cell)
back_alone b p vars (own.Trap t) = refl

-- what a plan issued can be taken back
can_by : (b : Board) (p number : ℕ) (vars : List ℤ) (handles : List (Option ℕ)) (plan : LocalPlan) → CanUnissueIf b p (plan_call number plan) → CanUnissue b p (plan_change vars handles plan)
can_by b p number vars handles (Alone plan) h = can_alone b p vars plan
can_by b p number vars handles (Issue a next) h = h

pub can_take_back : (b : Board) (p number : ℕ) (v : RankView) (plan : LocalPlan) (o : Option Call) (done : LocalDone) → o ≡ plan_call number plan → done ≡ plan_record v plan → CanUnissueIf b p o → CanUnissue b p done.change
can_take_back b p number v plan o done e made h = rw made (can_by b p number v.vars v.handles plan (rw (sym e) h))

-- and the board is the one before
back_by : (b c : Board) (p number : ℕ) (vars : List ℤ) (handles : List (Option ℕ)) (plan : LocalPlan) → c ≡ with_issued b p (plan_call number plan) → IfSome (plan_call number plan) (λ _. without_last_call c p ≡ b) → unissued c p (plan_change vars handles plan) ≡ b
back_by b c p number vars handles (Alone plan) e h = back_alone c p vars plan ∙ e
back_by b c p number vars handles (Issue a next) e h = h

pub taken_back : (b c : Board) (p number : ℕ) (v : RankView) (plan : LocalPlan) (o : Option Call) (done : LocalDone) → o ≡ plan_call number plan → done ≡ plan_record v plan → c ≡ with_issued b p o → IfSome o (λ _. without_last_call c p ≡ b) → unissued c p done.change ≡ b
taken_back b c p number v plan o done e made with h = rw made (back_by b c p number v.vars v.handles plan (with ∙ ap (with_issued b p) e) (rw (sym e) h))

-- a rank that has a step runs
running_by : (env : Env) (a : Activity) (rest : List (ℕ × Tree)) (done : LocalDone) → record_by env a rest ≡ Some done → a ≡ Running
running_by env Running rest done e = refl
running_by env Blocked rest done e = cc
running_by env (Trapped t) rest done e = cc

pub runs : (p n : ℕ) (r : RankWorld) (done : LocalDone) → local_record p n r ≡ Some done → r.activity ≡ Running
runs p n r done e = running_by _ r.activity r.rest done e

-- where nothing is issued, no number matters
planned_by : (s : Program) (r : RankWorld) (count n node : ℕ) (plan : LocalPlan) → IfSome (plan_call node plan) (λ _. count ≡ n) → planned s r count plan ≡ planned s r n plan
planned_by s r count n node (Alone plan) e = refl
planned_by s r count n node (Issue a next) e = ap (λ k. planned s r k (Issue a next)) e

-- the step of the rank, and what it issued
pub local_ran : (s : Program) (b c : Board) (v w : RankView) (node count : ℕ) (plan : LocalPlan) (o : Option Call)
    → ((k : ℕ) → local v.rank s.ranks k (rank_of s v) ≡ Some (plan_ran s (rank_of s v) k node plan))
    → IfSome o (λ _. count ≡ length (calls_of b v.rank)) → o ≡ plan_call node plan → c ≡ with_issued b v.rank o → rank_of s w ≡ planned s (rank_of s v) count plan
    → local_on s b v ≡ Some (rank_of s w, c)
local_ran s b c v w node count plan o step e call with after =
    let numbered : planned s (rank_of s v) count plan ≡ planned s (rank_of s v) (length (calls_of b v.rank)) plan =
    planned_by s (rank_of s v) count (length (calls_of b v.rank)) node plan (rw (sym call) e) in
    ap (option_map (ran_on b v.rank)) (step (length (calls_of b v.rank)))
    ∙ (λ i. Some ((sym numbered ∙ sym after) i, (ap (with_issued b v.rank) (sym call) ∙ sym with) i))

pub local_stays : (s : Program) (b : Board) (v : RankView) → local v.rank s.ranks (length (calls_of b v.rank)) (rank_of s v) ≡ None → local_on s b v ≡ None
local_stays s b v none = ap (option_map (ran_on b v.rank)) none

-- a call more is of no rank more
pub length-calls : (b : Board) (p : ℕ) (c : Call) → length (with_call b p c).calls ≡ length b.calls
length-calls b p c = length-set b.calls p (calls_of b p ++ c ∷ [])

-- a step of so many writes, or of at least two
pub match_rises : {A E : Type 0} (result : Result A E) (old new : ℕ) → OnOk result (new ≡ old + 7) → OnOk result (old + 1 ≤ new)
match_rises result old new = on_ok result (λ h. omega (arith, h))

pub match_few : {A E : Type 0} (result : Result A E) (old new : ℕ) → OnOk result (new ≡ old + 7) → OnErr result (new ≡ old) → new ≤ old + 16
match_few (Ok x) old new done refused = omega (arith, done)
match_few (Err e) old new done refused = omega (arith, refused)

pub wake_rises : {A E : Type 0} (result : Result A E) (old new : ℕ) → OnOk result (old + 2 ≤ new) → OnOk result (old + 1 ≤ new)
wake_rises result old new = on_ok result (λ h. omega (arith, h))

pub release_rises : {A E : Type 0} (result : Result A E) (old ranks new : ℕ) → OnOk result (new ≡ old + ranks + 1) → OnOk result (old + 1 ≤ new)
release_rises result old ranks new = on_ok result (λ h. omega (arith, h))

pub release_few : {A E : Type 0} (result : Result A E) (old ranks new : ℕ) → OnOk result (new ≡ old + ranks + 1) → OnErr result (new ≡ old) → new ≤ old + (16 + 2 * ranks)
release_few (Ok x) old ranks new done refused = omega (arith, done)
release_few (Err e) old ranks new done refused = omega (arith, refused)

pub ruleset writing = (match_rises, match_few, wake_rises, release_rises, release_few)

pub ruleset issuing = (length-calls)

pub ruleset stepping = (has_receiver, can_take_back, taken_back, runs, local_ran, local_stays)

-- ---- a step that issues no call

pub own_can : (b : Board) (p : ℕ) (c : LocalChange) → IsOwn c → CanUnissue b p c
own_can b p change.Moved h = tt
own_can b p (change.Assigned cell was) h = tt
own_can b p change.Printed h = tt
own_can b p (change.Issued handle) h = absurd h
own_can b p change.Trapped h = tt

pub own_back : (b : Board) (p : ℕ) (c : LocalChange) → IsOwn c → unissued b p c ≡ b
own_back b p change.Moved h = refl
own_back b p (change.Assigned cell was) h = refl
own_back b p change.Printed h = refl
own_back b p (change.Issued handle) h = absurd h
own_back b p change.Trapped h = refl

-- the room that is kept changes no step
pub local_on-kept : (s : Program) (b : Board) (v u : RankView) → u ≡ record v { room = u.room } → local_on s b v ≡ local_on s b u
local_on-kept s b v u same = sym (ap (local_on s b) same)

-- what a rank with this room does alone
pub own_ran : (s : Program) (b : Board) (v u w : RankView) → u ≡ record v { room = u.room } → ((count : ℕ) → local u.rank s.ranks count (rank_of s u) ≡ Some (record { rank = rank_of s w; call = None })) → local_on s b v ≡ Some (rank_of s w, b)
own_ran s b v u w same step = local_on-kept s b v u same ∙ ap (option_map (ran_on b u.rank)) (step (length (calls_of b u.rank)))

none_by : {A : Type 0} (o : Option A) → false ≡ is_some o → o ≡ None
none_by None e = refl
none_by (Some x) e = cc

-- a rank that can take no step takes none, and one that can takes one
pub cannot : (s : Program) (b : Board) (v : RankView) (can : Bool) → ((rank size count : ℕ) → can ≡ is_some (local rank size count (rank_of s v))) → can ≡ false → local_on s b v ≡ None
cannot s b v can is fails = local_stays s b v (none_by _ (sym fails ∙ is v.rank s.ranks (length (calls_of b v.rank))))

mapped_none : {A B : Type 0} (f : A → B) (o : Option A) → option_map f o ≡ None → o ≡ None
mapped_none f None e = refl
mapped_none f (Some x) e = cc

pub can_some : (s : Program) (b : Board) (v : RankView) (can : Bool) → ((rank size count : ℕ) → can ≡ is_some (local rank size count (rank_of s v))) → can ≡ true → local_on s b v ≡ None → ⊥
can_some s b v can is holds none =
    let left : local v.rank s.ranks (length (calls_of b v.rank)) (rank_of s v) ≡ None = mapped_none (ran_on b v.rank) _ none in
    let e : true ≡ is_some (local v.rank s.ranks (length (calls_of b v.rank)) (rank_of s v)) = sym holds ∙ is v.rank s.ranks (length (calls_of b v.rank)) in
    let f : true ≡ false = e ∙ ap is_some left in
    cc

pub ruleset alone = (own_can, own_back, own_ran, cannot, can_some, local_on-kept)
