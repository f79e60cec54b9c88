-- What a word does with a session, put together from what is told of its parts.
use Rattle.std.proofs.Common.{◌≡◌, ℕ, List, take, Option, Some, None, refl, ap, sym, ◌∙◌, subst}
use Rattle.std.specs.Prelude.{option_and_then, option_map, IfSome}
use Rattle.mpd_model.specs.declared.breakpoint.Breakpoint.{Breakpoint}
use Rattle.mpd_model.specs.steps.World.{World}
use Rattle.mpd_model.specs.script.Program.{Program}
use Rattle.mpd_model.specs.runs.Trail.{Trail, IsReached, IsRun, done_steps, world_of}
use Rattle.mpd_trail.specs.DebuggerViews.{DebuggerView, standing_of}
use Rattle.mpd_session.specs.declared.request.Command.{Command}
use Rattle.mpd_session.specs.declared.request.Command.TheVariants as command
use Rattle.mpd_session.specs.declared.reply.Answer.{Answer}
use Rattle.mpd_session.specs.declared.reply.Refusal.{Refusal}
use Rattle.mpd_session.specs.declared.reply.Reply.{Reply}
use Rattle.mpd_session.specs.declared.reply.Reply.TheVariants as reply
use Rattle.mpd_session.specs.Held.{Held}
use Rattle.mpd_session.specs.Respond.{respond, laid}
use Rattle.mpd_vocabulary.specs.declared.word.Word.{Word}
use Rattle.mpd_runs.specs.declared.counts.WayCounts.{WayCounts}
use Rattle.mpd_runs.specs.declared.search.Search.{Search}
use Rattle.mpd_runs.specs.declared.search.Scope.{Scope}
use Rattle.mpd_runs.specs.declared.search.Sought.{Sought}
use Rattle.mpd_runs.specs.declared.search.Sought.TheVariants.{Found, Nothing}
use Rattle.mpd_runs.specs.declared.search.WholeRun.{WholeRun}
use Rattle.mpd_runs.specs.declared.way.Way.{Way}
use Rattle.mpd_runs.specs.Runs.{fuel_at}
use Rattle.mpd_runs.specs.Seek.{found_run, numbered_run, counts_in, LiesAhead, FoundLies, IsSought, IsSearch, TooMany}
use Rattle.mpd_runs.specs.LastChoice.{last_choice}
use Rattle.mpd_console.specs.declared.along.Along.{Along}
use Rattle.mpd_console.specs.declared.lead.Lead.{Lead}
use Rattle.mpd_console.specs.declared.moves.Doing.{Doing}
use Rattle.mpd_console.specs.declared.moves.Doing.TheVariants.{Asks, Goes, Undoes, Seeks, Follows, Blames, Looks}
use Rattle.mpd_console.specs.declared.told.Carried.{Carried}
use Rattle.mpd_console.specs.declared.told.Carried.TheVariants as carried
use Rattle.mpd_console.specs.declared.told.Moved.{Moved}
use Rattle.mpd_console.specs.declared.told.Went.TheVariants as went
use Rattle.mpd_console.specs.declared.told.Sight.{Sight}
use Rattle.mpd_console.specs.declared.told.Told.{Told}
use Rattle.mpd_console.specs.declared.told.Told.TheVariants as told
use Rattle.mpd_console.specs.declared.values.Valued.{Valued}
use Rattle.mpd_console.specs.Moves.{asks_next, doing_of, lead_of}
use Rattle.mpd_console.specs.Carried.{refused_by, done_by, moved}
use Rattle.mpd_console.specs.Looks.{sight_of}
use Rattle.mpd_console.specs.Values.{valued_of}
use Rattle.mpd_console.specs.Says.{lead_at, lead_in, carried_at, carried_in, carried_of, asking, along_at, along_in, AlongBy, CarriedBy, UndoneBy, LaidBy, found_from, numbered_from, AreCounts, FoundAs, IsFoundFrom, SoughtBy, SoughtFrom, FollowedBy, BlamedBy, sight_at, sight_in, DoneBy, doing_at, doing_in, Does, valued_at, valued_in}

-- ---- what is so of the world of a trail

world_at : (s : Held) (d : DebuggerView) → IsReached (standing_of d) → d.trail ≡ s.trail → world_of s.trail ≡ Some d.world
world_at s d r e = ap world_of (sym e) ∙ r.world

pub led : (s : Held) (d : DebuggerView) (x : Word) (l : Lead) → IsReached (standing_of d) → d.trail ≡ s.trail → l ≡ lead_of d.trail d.world x → l ≡ lead_in s x
led s d x l r e h = h ∙ ap (λ t. lead_of t d.world x) e ∙ sym (ap (lead_at s.trail x) (world_at s d r e))

pub done_at : (s : Held) (d : DebuggerView) (places : List (Option Breakpoint)) (x : Word) (z : Doing) → IsReached (standing_of d) → d.trail ≡ s.trail → places ≡ s.breaks → z ≡ doing_of d.trail d.world places x → z ≡ doing_in s x
done_at s d places x z r e pl h =
    h ∙ ap (λ t. doing_of t d.world places x) e ∙ ap (λ y. doing_of s.trail d.world y x) pl ∙ sym (ap (doing_at s.trail s.breaks x) (world_at s d r e))

pub seen_at : (s : Held) (d : DebuggerView) (x : Word) (z : Sight) → IsReached (standing_of d) → d.trail ≡ s.trail → z ≡ sight_of d.trail d.world x → z ≡ sight_in s x
seen_at s d x z r e h = h ∙ ap (λ t. sight_of t d.world x) e ∙ sym (ap (sight_at s.trail x) (world_at s d r e))

pub ruleset leading = (led, done_at)

pub ruleset doing = (done_at, led)

pub ruleset looking = (seen_at, led)

-- ---- what a request came to

pub carried_refused : (s : Held) (d : DebuggerView) (l : Lead) (q : Reply) (r : Refusal) (c : Carried) → IsReached (standing_of d) → d.trail ≡ s.trail → q ≡ reply.Refused r → c ≡ refused_by (asks_next d.world l.word) l.word r → c ≡ carried_in s l q
carried_refused s d l q r c reached e is h = h ∙ sym (ap (carried_at s l (reply.Refused r)) (world_at s d reached e)) ∙ ap (λ y. carried_in s l y) (sym is)

pub carried_done : (s : Held) (d : DebuggerView) (places : List (Option Breakpoint)) (l : Lead) (q : Reply) (v : ℕ) (a : Answer) (c : Carried) → IsReached (standing_of d) → d.trail ≡ s.trail → places ≡ s.breaks → q ≡ reply.Done v a
    → c ≡ done_by d.trail d.world places l a → c ≡ carried_in s l q
carried_done s d places l q v a c reached e pl is h =
    h ∙ ap (λ t. done_by t d.world places l a) e ∙ ap (λ z. done_by s.trail d.world z l a) pl ∙ sym (ap (carried_at s l (reply.Done v a)) (world_at s d reached e)) ∙ ap (λ y. carried_in s l y) (sym is)

pub carried_along : (s : Held) (d : DebuggerView) (l : Lead) (a : Along) (m : Moved) (c : Carried) → IsReached (standing_of d) → d.trail ≡ s.trail → m ≡ moved d.trail d.world l (went.On a.steps) d.trail.depth a.stopped → c ≡ carried.Moved m → c ≡ along_in s l a
carried_along s d l a m c reached e is h =
    h ∙ ap carried.Moved (is ∙ ap (λ (t : Trail). moved t d.world l (went.On a.steps) t.depth a.stopped) e) ∙ sym (ap (along_at s l a) (world_at s d reached e))

pub ruleset carrying = (carried_refused, carried_done, carried_along)

pub reached : (s t u : Held) (x : Word) (c : Command) (l : Lead) (r : Reply) (k : Carried) → l ≡ lead_in s x → r ≡ (respond s (asking c)).0 → u ≡ t → k ≡ carried_in t l r → k ≡ carried_of s x c u
reached s t u x c l r k is said same h = h ∙ ap (λ y. carried_in t y r) is ∙ ap (carried_in t (lead_in s x)) said ∙ ap (λ y. carried_in y (lead_in s x) (respond s (asking c)).0) (sym same)

pub ruleset reaching = (reached, led)

pub asked_by : (s t : Held) (x : Word) (c : Command) (o : Option Carried) (p : Option Told) → t ≡ (respond s (asking c)).1 → IfSome o (λ k. k ≡ carried_of s x c t) → p ≡ option_map told.Carried o → CarriedBy s x c p t
asked_by s t x c None p e h is = (e, subst (λ y. IfSome y (λ k. k ≡ told.Carried (carried_of s x c t))) (sym is) tt)
asked_by s t x c (Some k) p e h is = (e, subst (λ y. IfSome y (λ k. k ≡ told.Carried (carried_of s x c t))) (sym is) (ap told.Carried h))

pub ruleset asked = (asked_by, led)

-- ---- along steps ahead

pub went_along : (s t u : Held) (x : Word) (a : Along) (l : Lead) (k : Carried) (o : Option Told) → l ≡ lead_in s x → t ≡ (respond s (asking (command.Redo a.steps))).1 → u ≡ t → k ≡ along_in t l a → o ≡ Some (told.Carried k) → AlongBy s x a o u
went_along s t u x a l k o is said same h e =
    (same ∙ said, subst (λ y. IfSome y (λ q. q ≡ told.Carried (along_in u (lead_in s x) a))) (sym e) (ap told.Carried (h ∙ ap (λ y. along_in t y a) is ∙ ap (λ y. along_in y (lead_in s x) a) (sym same))))

pub went_untold : (s t : Held) (x : Word) (a : Along) (o : Option Told) → t ≡ (respond s (asking (command.Redo a.steps))).1 → o ≡ None → AlongBy s x a o t
went_untold s t x a o said e = (said, subst (λ y. IfSome y (λ q. q ≡ told.Carried (along_in t (lead_in s x) a))) (sym e) tt)

pub ruleset along = (went_along, went_untold, led)

-- ---- runs that lie ahead

pub lies_begins : (t : Trail) (r : WholeRun) → LiesAhead t r → take t.depth r.steps ≡ done_steps t
lies_begins t r h = h.begins

pub lies_runs : (t : Trail) (r : WholeRun) → LiesAhead t r → IsRun t.program t.mode r.steps
lies_runs t r h = h.run

pub ruleset laying = (lies_begins, lies_runs)

found_at : (k : Scope) (s : Held) (d : DebuggerView) (x : Way) → IsReached (standing_of d) → d.trail ≡ s.trail → found_from k s x ≡ found_run k x d.trail d.world
found_at k s d x r e = ap (λ (w : Option World). option_and_then (λ v. found_run k x s.trail v) w) (world_at s d r e) ∙ sym (ap (λ t. found_run k x t d.world) e)

pub numbered_at : (s : Held) (d : DebuggerView) (n : ℕ) (o : Option WholeRun) → IsReached (standing_of d) → d.trail ≡ s.trail → o ≡ numbered_run n d.trail d.world → o ≡ numbered_from s n
numbered_at s d n o r e h = h ∙ ap (λ t. numbered_run n t d.world) e ∙ sym (ap (λ (w : Option World). option_and_then (λ v. numbered_run n s.trail v) w) (world_at s d r e))

counted_at : (k : Scope) (s : Held) (d : DebuggerView) (counts : WayCounts) → IsReached (standing_of d) → d.trail ≡ s.trail → counts ≡ counts_in k (fuel_at d.trail.depth) d.world → AreCounts k s counts
counted_at k s d counts r e h =
    subst (λ o. IfSome o (λ w. counts ≡ counts_in k (fuel_at s.trail.depth) w)) (sym (world_at s d r e)) (h ∙ ap (λ (t : Trail). counts_in k (fuel_at t.depth) d.world) e)

is_found : (k : Scope) (s : Held) (d : DebuggerView) (x : Way) (q : Sought) → IsReached (standing_of d) → d.trail ≡ s.trail → IsSought k x d.trail d.world q → FoundAs k s x q
is_found k s d x (Found run) r e h = found_at k s d x r e ∙ h
is_found k s d x (Nothing counts) r e h = (found_at k s d x r e ∙ h.0, counted_at k s d counts r e h.1)

pub sought_at : (s : Held) (d : DebuggerView) (x : Way) (q : Search) → IsReached (standing_of d) → d.trail ≡ s.trail → IsSearch x d.trail d.world q → IsFoundFrom q.scope s x q.sought
sought_at s d x q r e h = (
  λ listed. subst (λ o. IfSome o (TooMany x (fuel_at s.trail.depth))) (sym (world_at s d r e)) (subst (λ t. TooMany x (fuel_at t.depth) d.world) e (h.1 listed).1),
  is_found q.scope s d x q.sought r e h.0,
)

pub found_lies_at : (s : Held) (d : DebuggerView) (q : Sought) → d.trail ≡ s.trail → FoundLies d.trail q → FoundLies s.trail q
found_lies_at s d q e h = subst (λ t. FoundLies t q) e h

pub lies_at : (s : Held) (d : DebuggerView) (o : Option WholeRun) → d.trail ≡ s.trail → IfSome o (LiesAhead d.trail) → IfSome o (LiesAhead s.trail)
lies_at s d o e h = subst (λ t. IfSome o (LiesAhead t)) e h

pub ruleset seeking = (sought_at, found_lies_at, numbered_at, lies_at)

pub found_lies : (s : Held) (q : Sought) (r : WholeRun) → q ≡ Found r → FoundLies s.trail q → LiesAhead s.trail r
found_lies s q r is h = subst (FoundLies s.trail) is h

pub run_sought : (k : Scope) (s t : Held) (x : Way) (q : Sought) (r : WholeRun) (z : Told) → IsFoundFrom k s x q → q ≡ Found r → LaidBy s None r (Some z) t → SoughtFrom s x (Some z) t
run_sought k s t x q r z found is laid =
    let at : found_from k s x ≡ Some r = subst (FoundAs k s x) is found.1 in
    (k, found.0, subst (λ o. SoughtBy k s x o (Some z) t) (sym at) laid)

pub none_sought : (k : Scope) (s t : Held) (x : Way) (q : Sought) (counts : WayCounts) → IsFoundFrom k s x q → q ≡ Nothing counts → t ≡ s → SoughtFrom s x (Some (told.NoneEnds x k counts)) t
none_sought k s t x q counts found is e =
    let at : FoundAs k s x (Nothing counts) = subst (FoundAs k s x) is found.1 in
    (k, found.0, subst (λ o. SoughtBy k s x o (Some (told.NoneEnds x k counts)) t) (sym at.0) (e, (counts, at.1, refl)))

pub ruleset sought = (found_lies, run_sought, none_sought)

pub run_followed : (s t : Held) (n : ℕ) (r : WholeRun) (z : Told) → Some r ≡ numbered_from s n → LaidBy s (Some n) r (Some z) t → FollowedBy s n (numbered_from s n) (Some z) t
run_followed s t n r z is laid = subst (λ o. FollowedBy s n o (Some z) t) is laid

pub none_followed : (s t : Held) (n : ℕ) → None ≡ numbered_from s n → t ≡ s → FollowedBy s n (numbered_from s n) (Some told.NoRun) t
none_followed s t n is e = subst (λ o. FollowedBy s n o (Some told.NoRun) t) is (e, refl)

pub ruleset followed = (run_followed, none_followed)

-- ---- the last choice

pub choice_in : (s : Held) (t : Trail) (o : Option ℕ) → t ≡ s.trail → o ≡ last_choice t → o ≡ last_choice s.trail
choice_in s t o e h = h ∙ ap last_choice e

pub ruleset undoing = (choice_in, led)

pub choice_undone : (s t : Held) (x : Word) (n : ℕ) (o : Option Told) → Some n ≡ last_choice s.trail → CarriedBy s x (command.Goto n) o t → UndoneBy s x (last_choice s.trail) o t
choice_undone s t x n o is carried = subst (λ y. UndoneBy s x y o t) is carried

pub none_undone : (s t : Held) (x : Word) (o : Option Told) → None ≡ last_choice s.trail → t ≡ s → o ≡ Some told.NoChoice → UndoneBy s x (last_choice s.trail) o t
none_undone s t x o is e h = subst (λ y. UndoneBy s x y o t) is (e, h)

pub ruleset undone = (choice_undone, none_undone)

-- ---- words

pub does_ask : (s t : Held) (x : Word) (c : Command) (o : Option Told) → Asks c ≡ doing_in s x → CarriedBy s x c o t → Does s x o t
does_ask s t x c o is h = subst (λ d. DoneBy s x d o t) is h

pub does_go : (s t : Held) (x : Word) (a : Along) (o : Option Told) → Goes a ≡ doing_in s x → AlongBy s x a o t → Does s x o t
does_go s t x a o is h = subst (λ d. DoneBy s x d o t) is h

pub does_undo : (s t : Held) (x : Word) (o : Option Told) → Undoes ≡ doing_in s x → UndoneBy s x (last_choice s.trail) o t → Does s x o t
does_undo s t x o is h = subst (λ d. DoneBy s x d o t) is h

pub does_seek : (s t : Held) (x : Word) (way : Way) (z : Told) (o : Option Told) → Seeks way ≡ doing_in s x → o ≡ Some z → SoughtFrom s way (Some z) t → Does s x o t
does_seek s t x way z o is e h = subst (λ d. DoneBy s x d o t) is (subst (λ y. SoughtFrom s way y t) (sym e) h)

pub does_follow : (s t : Held) (x : Word) (n : ℕ) (z : Told) (o : Option Told) → Follows n ≡ doing_in s x → o ≡ Some z → FollowedBy s n (numbered_from s n) (Some z) t → Does s x o t
does_follow s t x n z o is e h = subst (λ d. DoneBy s x d o t) is (subst (λ y. FollowedBy s n (numbered_from s n) y t) (sym e) h)

pub does_blame : (s t : Held) (x : Word) (o : Option Told) → Blames ≡ doing_in s x → BlamedBy s o t → Does s x o t
does_blame s t x o is h = subst (λ d. DoneBy s x d o t) is h

pub does_look : (s t : Held) (x : Word) (z : Sight) (o : Option Told) → Looks ≡ doing_in s x → t ≡ s → z ≡ sight_in s x → o ≡ Some (told.Looks z) → Does s x o t
does_look s t x z o is e seen h = subst (λ d. DoneBy s x d o t) is (e, h ∙ ap (λ y. Some (told.Looks y)) seen)

pub ruleset performing = (does_ask, does_go, does_undo, does_seek, does_follow, does_blame, does_look)

-- ---- expressions

pub valued : (s : Held) (d : DebuggerView) (p : Program) (w : World) (z : List ℕ) (v : Valued) → IsReached (standing_of d) → d.trail ≡ s.trail → p ≡ d.trail.program → w ≡ d.world → v ≡ valued_of p w z → v ≡ valued_in s z
valued s d p w z v r e pr at h =
    h ∙ ap (λ q. valued_of q w z) pr ∙ ap (λ y. valued_of d.trail.program y z) at ∙ ap (λ (t : Trail). valued_of t.program d.world z) e ∙ sym (ap (valued_at s.trail z) (world_at s d r e))

pub ruleset valuing = (valued, led)
