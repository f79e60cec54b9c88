-- The parts of some pieces, joined, and what a report is that ends with the first bad leaf.
use Rattle.std.proofs.Common.{◌≡◌, ℕ, zero, suc, ◌<◌, ◌≤◌, ◌+◌, nat_lt, Bool, true, false, ◌||◌, ◌&&◌, if◌then◌else◌, List, [], ◌∷◌, ◌++◌, length, take, drop, map, get_or, slice_get, Option, Some, None, refl, sym, ap, ◌∙◌, arith, append-nil}
use Rattle.std.specs.List.{AllByRecursion, flat_map, list_any}
use Rattle.std.proofs.lemmas.Bool.Decides.{nat_tests}
use Rattle.std.proofs.lemmas.List.{length-append, length-map, length-drop, take_all}
use Rattle.std.proofs.lemmas.List.Folds.{flat_map-map, list_any-append}
use Rattle.std.proofs.lemmas.Grind.{flat_map-append}
use Rattle.mpd_model.specs.declared.step.Step.{Step}
use Rattle.mpd_model.specs.declared.decision.Decision.{Decision}
use Rattle.mpd_model.specs.declared.decision.Decision.TheVariants.{Forced, Choice, Leaf}
use Rattle.mpd_model.specs.steps.World.{World}
use Rattle.mpd_model.specs.steps.Next.{next}
use Rattle.mpd_model.specs.runs.Decisions.{decision}
use Rattle.mpd_explore.specs.declared.report.SearchLeaf as leaf
use Rattle.mpd_explore.specs.declared.report.SearchLimits.{SearchLimits}
use Rattle.mpd_policy.specs.Walk.{Run, stepped, chosen, runs_of}
use Rattle.mpd_explore.specs.Sleeping.{same_match, nothing_wakes, put_off, awake_runs, Rules, rules_by, decides_by, walk_of}
use Rattle.mpd_explore.specs.Report.{shown, any_bad, up_to_bad, ended_by}
use Rattle.mpd_explore.specs.WitnessTexts.{witness_texts}
use Rattle.mpd_explore.specs.declared.report.Witnesses.{Witnesses}
use Rattle.mpd_explore.specs.declared.report.Witnesses.TheVariants.{OfNone, OfDeadlocks, OfAll}
use Rattle.mpd_explore.proofs.AsleepLemmas.{put_off_none}
use Rattle.mpd_explore.proofs.AwakeLemmas.{awake_some}
use Rattle.mpd_explore.proofs.WitnessLemmas.{AllFollow}
use Rattle.mpd_explore.proofs.ListedLemmas.{is_less, is_not_less, not_less, not_both, both_true, bad_behind, up_behind, up_none, up_has, listed_up, listed_few, ended_same}
use Rattle.mpd_explore.proofs.GatherLemmas.{texts_join}
use Rattle.mpd_explore.specs.declared.splitter.Piece.{Piece}
use Rattle.mpd_explore.specs.Pieces.{pieces, numbered, runs_by, beginning, walk_from, walk_at, InState, ByCandidate, BeginsSo, Reaches, part, part_left, split_report, split_more}
use Rattle.mpd_explore.specs.Along.{choices_of, parts, has_more, have_run, walks, report_of, more_of}
use Rattle.mpd_explore.proofs.PieceLemmas.{if_same, pieces_join}
use Rattle.mpd_explore.proofs.SplitLemmas.{take_next, choices_are}

-- ---- one piece more

pub parts_next : (l : SearchLimits) (w : World) (ps : List Piece) (i : ℕ) (p : Piece) (old new : List leaf.SearchLeaf) → i < length ps → p ≡ get_or ps i p → old ≡ parts l w (take i ps) → new ≡ old ++ part l p.choices w → new ≡ parts l w (take (i + 1) ps)
parts_next l w ps i p old new within read before added =
    added ∙ ap (λ ls. ls ++ part l p.choices w) before
    ∙ ap (λ ls. parts l w (take i ps) ++ ls) (sym (append-nil (part l p.choices w)))
    ∙ sym (ap (parts l w) (take_next ps i p within read) ∙ flat_map-append (λ (q : Piece). part l q.choices w) (take i ps) (p ∷ []))

or_nothing : (a b : Bool) → (a || (b || false)) ≡ (a || b)
or_nothing true b = refl
or_nothing false true = refl
or_nothing false false = refl

pub more_next : (l : SearchLimits) (w : World) (ps : List Piece) (i : ℕ) (p : Piece) (old new : Bool) → i < length ps → p ≡ get_or ps i p → old ≡ has_more l w (take i ps) → new ≡ (old || part_left l p.choices w) → new ≡ has_more l w (take (i + 1) ps)
more_next l w ps i p old new within read before added =
    let test : Piece → Bool = λ q. part_left l q.choices w in
    added ∙ ap (λ b. b || part_left l p.choices w) before
    ∙ sym (ap (has_more l w) (take_next ps i p within read) ∙ list_any-append test (take i ps) (p ∷ []) ∙ or_nothing (has_more l w (take i ps)) (test p))

pub texts_next : (decide : World → Decision) (asked : Witnesses) (path : List Step) (n : ℕ) (w : World) (old own new : List leaf.SearchLeaf) (texts now : List (List ℕ)) → new ≡ old ++ own → texts ≡ witness_texts decide asked path n w old → now ≡ texts ++ witness_texts decide asked path n w own → now ≡ witness_texts decide asked path n w new
texts_next decide asked path n w old own new texts now added before told =
    told ∙ ap (λ ts. ts ++ witness_texts decide asked path n w own) before ∙ sym (ap (witness_texts decide asked path n w) added ∙ texts_join decide asked path n w old own)

no_texts : (decide : World → Decision) (asked : Witnesses) (path : List Step) (n : ℕ) (w : World) → [] ≡ witness_texts decide asked path n w []
no_texts decide OfNone path n w = refl
no_texts decide OfDeadlocks path n w = refl
no_texts decide OfAll path n w = refl

pub texts_begun : (decide : World → Decision) (asked : Witnesses) (path : List Step) (n : ℕ) (w : World) (old : List leaf.SearchLeaf) (texts : List (List ℕ)) → old ≡ [] → texts ≡ [] → texts ≡ witness_texts decide asked path n w old
texts_begun decide asked path n w old texts none empty = empty ∙ no_texts decide asked path n w ∙ ap (witness_texts decide asked path n w) (sym none)

pub good_next : (u last : Bool) (old own new : List leaf.SearchLeaf) → new ≡ old ++ own → last ≡ (u && any_bad own) → last ≡ false → (u ≡ true → any_bad old ≡ false) → u ≡ true → any_bad new ≡ false
good_next u last old own new added is off good until = ap any_bad added ∙ bad_behind old own (good until) ∙ not_both u (any_bad own) (sym is ∙ off) until

-- ---- each piece has a run

some_runs : (runs : World → List Run) (P : World → Type 0) (o : Option World) → ((v : World) → P v → 0 < length (runs v)) → InState P o → 0 < length (runs_of runs o)
some_runs runs P None all h = absurd h
some_runs runs P (Some v) all h = all v h

-- the rules where nothing falls asleep
abbrev plain : Rules
plain = rules_by false

abbrev AllBegin : ℕ → Type 0
AllBegin n = (cs : List ℕ) (v : World) → Reaches decision n cs v → 0 < length (walk_from plain n cs [] v)

some_candidate : (n : ℕ) (w : World) (candidates : List Step) (c : ℕ) (cs : List ℕ) (o : Option Step) → AllBegin n → ByCandidate (Reaches decision n cs) w o → 0 < length (runs_by plain (walk_from plain n cs) [] w candidates c o)
some_candidate n w candidates c cs None all h = absurd h
some_candidate n w candidates c cs (Some a) all h =
    let same : put_off false c candidates [] ≡ [] = put_off_none c candidates [] in
    let runs : List Step → ℕ = λ s. length (map (chosen c a) (awake_runs (list_any (same_match a) s) (walk_from plain n cs s) (next w a))) in
    omega (arith, ap runs same, length-map (runs_of (walk_from plain n cs []) (next w a)) (chosen c a), some_runs (walk_from plain n cs []) (Reaches decision n cs) (next w a) (all cs) h)

some_beginning : (n : ℕ) (w : World) (c : ℕ) (cs : List ℕ) (d : Decision) → AllBegin n → BeginsSo (Reaches decision n) w c cs d → 0 < length (beginning plain (walk_from plain n) [] w c cs d)
some_beginning n w c cs (Forced a) all h =
    omega (arith, length-map (runs_of (walk_from plain n (c ∷ cs) []) (next w a)) (stepped a), some_runs (walk_from plain n (c ∷ cs) []) (Reaches decision n (c ∷ cs)) (next w a) (all (c ∷ cs)) h)
some_beginning n w c cs (Choice candidates) all h = some_candidate n w candidates c cs (slice_get candidates c) all h
some_beginning n w c cs (Leaf o) all h = absurd h

reached_some : (n : ℕ) (cs : List ℕ) (w : World) → AllFollow → Reaches decision n cs w → 0 < length (walk_from plain n cs [] w)
unfolding walk_from Reaches
reached_some zero [] w law h = awake_some decision same_match nothing_wakes false zero w law (λ u a. refl)
reached_some (suc n) [] w law h = awake_some decision same_match nothing_wakes false (suc n) w law (λ u a. refl)
reached_some zero (c ∷ cs) w law h = absurd h
reached_some (suc n) (c ∷ cs) w law h = some_beginning n w c cs (decision w) (λ xs v k. reached_some n xs v law k) h

some_by : (ends : Bool) (n : ℕ) (cs : List ℕ) (w : World) → AllFollow → ends ≡ false → Reaches (decides_by ends) n cs w → 0 < length (walk_from (rules_by ends) n cs [] w)
some_by true n cs w law off h = let no : ⊥ = cc in absurd no
some_by false n cs w law off h = reached_some n cs w law h

plain_some : (l : SearchLimits) (cs : List ℕ) (w : World) → AllFollow → l.ends ≡ false → Reaches (decides_by l.ends) l.fuel cs w → 0 < length (walk_at l cs w)
plain_some l cs w law off h = some_by l.ends l.fuel cs w law off h

abbrev AllSome : SearchLimits → World → List Piece → Type 0
AllSome l w ps = AllByRecursion (λ (p : Piece). 0 < length (walk_at l p.choices w)) ps

all_some : (l : SearchLimits) (w : World) (ps : List Piece) → AllFollow → l.ends ≡ false → AllByRecursion (λ cs. Reaches (decides_by l.ends) l.fuel cs w) (choices_of ps) → AllSome l w ps
all_some l w [] law off h = tt
all_some l w (p ∷ ps) law off h = (plain_some l p.choices w law off h.0, all_some l w ps law off h.1)

some_behind : (l : SearchLimits) (w : World) (n : ℕ) (ps : List Piece) → AllSome l w ps → AllSome l w (drop n ps)
some_behind l w zero ps h = h
some_behind l w (suc n) [] h = tt
some_behind l w (suc n) (p ∷ ps) h = some_behind l w n ps h.1

-- ---- whether there is more, by numbers

less_of : (m n : ℕ) → nat_lt m n ≡ true → m < n
less_of m n h = grind (arith, nat_tests)

less_case : (r : Bool) (a b c d : ℕ) → nat_lt a b ≡ r → (a < b → c < d) → (b ≤ a → d ≤ c) → r ≡ nat_lt c d
less_case true a b c d e f g = sym (is_less c d _ refl (f (less_of a b e)))
less_case false a b c d e f g = sym (is_not_less c d (g (not_less a b e)))

less_same : (a b c d : ℕ) → (a < b → c < d) → (b ≤ a → d ≤ c) → nat_lt a b ≡ nat_lt c d
less_same a b c d f g = less_case (nat_lt a b) a b c d refl f g

sum_case : (r : Bool) (a b c d : ℕ) → nat_lt a b ≡ r → a ≤ b → c ≤ d → (r || nat_lt c d) ≡ nat_lt (a + c) (b + d)
sum_case true a b c d e h k = sym (is_less (a + c) (b + d) _ refl (omega (arith, less_of a b e, h, k)))
sum_case false a b c d e h k = let same : b ≤ a = not_less a b e in less_same c d (a + c) (b + d) (λ x. omega arith) (λ x. omega arith)

or_assoc : (a b c : Bool) → ((a || b) || c) ≡ (a || (b || c))
or_assoc true b c = refl
or_assoc false b c = refl

few_joined : (l : SearchLimits) (w : World) (front back : List Piece) → length (parts l w front) ≤ length (walks l w (front ++ back))
few_joined l w [] back = omega arith
few_joined l w (p ∷ front) back =
    omega (arith, length-append (part l p.choices w) (parts l w front), length-append (walk_at l p.choices w) (walks l w (front ++ back)), listed_few l (map shown (walk_at l p.choices w)), length-map (walk_at l p.choices w) shown, few_joined l w front back)

left_is : (l : SearchLimits) (w : World) (cs : List ℕ) → l.until_bad ≡ true → part_left l cs w ≡ nat_lt (length (part l cs w)) (length (walk_at l cs w))
left_is l w cs until =
    ap (λ b. if b then nat_lt (length (part l cs w)) (length (map shown (walk_at l cs w))) else nat_lt l.runs (length (map shown (walk_at l cs w)))) until
    ∙ ap (nat_lt (length (part l cs w))) (length-map (walk_at l cs w) shown)

none_joined : (l : SearchLimits) (w : World) (back : List Piece) → have_run l w back ≡ nat_lt 0 (length (walks l w back))
none_joined l w [] = refl
none_joined l w (p ∷ back) =
    let b : ℕ = length (walk_at l p.choices w) in
    let d : ℕ = length (walks l w back) in
    ap (λ x. nat_lt 0 b || x) (none_joined l w back) ∙ sum_case (nat_lt 0 b) 0 b 0 d refl (omega arith) (omega arith) ∙ ap (nat_lt 0) (sym (length-append (walk_at l p.choices w) (walks l w back)))

-- one of the pieces in front has more, or one after them has a run
more_joined : (l : SearchLimits) (w : World) (front back : List Piece) → l.until_bad ≡ true → (has_more l w front || have_run l w back) ≡ nat_lt (length (parts l w front)) (length (walks l w (front ++ back)))
more_joined l w [] back until = none_joined l w back
more_joined l w (p ∷ front) back until =
    let a : ℕ = length (part l p.choices w) in
    let b : ℕ = length (walk_at l p.choices w) in
    let c : ℕ = length (parts l w front) in
    let d : ℕ = length (walks l w (front ++ back)) in
    let few : a ≤ b = omega (arith, listed_few l (map shown (walk_at l p.choices w)), length-map (walk_at l p.choices w) shown) in
    or_assoc (part_left l p.choices w) (has_more l w front) (have_run l w back)
    ∙ ap (λ x. x || (has_more l w front || have_run l w back)) (left_is l w p.choices until)
    ∙ ap (λ x. nat_lt a b || x) (more_joined l w front back until)
    ∙ sum_case (nat_lt a b) a b c d refl few (few_joined l w front back)
    ∙ (λ i. nat_lt (sym (length-append (part l p.choices w) (parts l w front)) i) (sym (length-append (walk_at l p.choices w) (walks l w (front ++ back))) i))

-- ---- which pieces have a run

pub reached_behind : (decide : World → Decision) (fuel : ℕ) (w : World) (n : ℕ) (ps : List Piece) → AllByRecursion (λ cs. Reaches decide fuel cs w) (choices_of ps) → AllByRecursion (λ cs. Reaches decide fuel cs w) (choices_of (drop n ps))
reached_behind decide fuel w zero ps h = h
reached_behind decide fuel w (suc n) [] h = tt
reached_behind decide fuel w (suc n) (p ∷ ps) h = reached_behind decide fuel w n ps h.1

take_drop : (n : ℕ) (ps : List Piece) → take n ps ++ drop n ps ≡ ps
take_drop zero ps = refl
take_drop (suc n) [] = refl
take_drop (suc n) (p ∷ ps) = ap (λ qs. p ∷ qs) (take_drop n ps)

some_run : (l : SearchLimits) (w : World) (back : List Piece) → AllSome l w back → nat_lt 0 (length back) ≡ have_run l w back
some_run l w [] some = refl
some_run l w (p ∷ back) some = is_less 0 (length (p ∷ back)) _ refl (omega arith) ∙ sym (ap (λ b. b || have_run l w back) (is_less 0 (length (walk_at l p.choices w)) _ refl some.0))

-- a loop that looks for one
run_at_place : (l : SearchLimits) (w : World) (ps : List Piece) (i : ℕ) (p : Piece) → i < length ps → p ≡ get_or ps i p → have_run l w (take (i + 1) ps) ≡ (have_run l w (take i ps) || nat_lt 0 (length (walk_at l p.choices w)))
run_at_place l w ps i p within read =
    let test : Piece → Bool = λ q. nat_lt 0 (length (walk_at l q.choices w)) in
    ap (have_run l w) (take_next ps i p within read) ∙ list_any-append test (take i ps) (p ∷ []) ∙ or_nothing (have_run l w (take i ps)) (test p)

pub run_next : (l : SearchLimits) (w : World) (ps : List Piece) (i : ℕ) (p : Piece) (b : Bool) → i < length ps → p ≡ get_or ps i p → have_run l w (take i ps) ≡ false → b ≡ nat_lt 0 (length (walk_at l p.choices w)) → b ≡ false → have_run l w (take (i + 1) ps) ≡ false
run_next l w ps i p b within read none is off = run_at_place l w ps i p within read ∙ ap (λ x. x || nat_lt 0 (length (walk_at l p.choices w))) none ∙ sym is ∙ off

or_true : (b : Bool) → (b || true) ≡ true
or_true true = refl
or_true false = refl

true_in_front : (l : SearchLimits) (w : World) (n : ℕ) (ps : List Piece) → have_run l w (take n ps) ≡ true → have_run l w ps ≡ true
true_in_front l w n ps h = ap (have_run l w) (sym (take_drop n ps)) ∙ list_any-append (λ (q : Piece). nat_lt 0 (length (walk_at l q.choices w))) (take n ps) (drop n ps) ∙ ap (λ b. b || have_run l w (drop n ps)) h

pub run_found : (l : SearchLimits) (w : World) (ps : List Piece) (i : ℕ) (p : Piece) (b : Bool) → i < length ps → p ≡ get_or ps i p → b ≡ nat_lt 0 (length (walk_at l p.choices w)) → b ≡ true → true ≡ have_run l w ps
run_found l w ps i p b within read is on =
    sym (true_in_front l w (i + 1) ps (run_at_place l w ps i p within read ∙ ap (λ x. have_run l w (take i ps) || x) (sym is ∙ on) ∙ or_true (have_run l w (take i ps))))

pub run_none : (l : SearchLimits) (w : World) (ps : List Piece) (i : ℕ) → length ps ≤ i → have_run l w (take i ps) ≡ false → false ≡ have_run l w ps
run_none l w ps i long none = sym none ∙ ap (have_run l w) (take_all i ps long)

-- where nothing falls asleep, each piece has one
pub plain_left : (l : SearchLimits) (w : World) (ps : List Piece) (n : ℕ) → AllFollow → l.ends ≡ false → AllByRecursion (λ cs. Reaches (decides_by l.ends) l.fuel cs w) (choices_of ps) → nat_lt n (length ps) ≡ have_run l w (drop n ps)
plain_left l w ps n law off reached =
    less_same n (length ps) 0 (length (drop n ps)) (λ h. omega (arith, length-drop n ps, h)) (λ h. omega (arith, length-drop n ps, h)) ∙ some_run l w (drop n ps) (some_behind l w n ps (all_some l w ps law off reached))

-- ---- all pieces are joined

if_is : (b x y r : Bool) → (b ≡ true → r ≡ x) → (b ≡ false → r ≡ y) → r ≡ (if b then x else y)
if_is true x y r f g = f refl
if_is false x y r f g = g refl

or_none : (b : Bool) → b ≡ (b || false)
or_none true = refl
or_none false = refl

pub all_parts : (l : SearchLimits) (w : World) (ps : List Piece) (i : ℕ) (ls : List leaf.SearchLeaf) → length ps ≤ i → ls ≡ parts l w (take i ps) → (l.until_bad ≡ true → any_bad ls ≡ false) → ls ≡ report_of l w ps
all_parts l w ps i ls long is good =
    let whole : ls ≡ parts l w ps = is ∙ ap (parts l w) (take_all i ps long) in
    whole ∙ sym (ended_same l.until_bad (parts l w ps) (λ h. up_none (parts l w ps) (ap any_bad (sym whole) ∙ good h)))

pub all_more : (l : SearchLimits) (w : World) (ps : List Piece) (i : ℕ) (ls : List leaf.SearchLeaf) (b : Bool) → length ps ≤ i → ls ≡ parts l w (take i ps) → (l.until_bad ≡ true → any_bad ls ≡ false) → b ≡ has_more l w (take i ps) → b ≡ more_of l w ps
all_more l w ps i ls b long is good more =
    let whole : ls ≡ parts l w ps = is ∙ ap (parts l w) (take_all i ps long) in
    let report : parts l w ps ≡ report_of l w ps = sym whole ∙ all_parts l w ps i ls long is good in
    let all : b ≡ has_more l w ps = more ∙ ap (has_more l w) (take_all i ps long) in
    if_is l.until_bad (nat_lt (length (report_of l w ps)) (length (walks l w ps))) (has_more l w ps) b
    (λ until. all ∙ or_none (has_more l w ps) ∙ more_joined l w ps [] until
    ∙ (λ i. nat_lt (length (report i)) (length (walks l w (append-nil ps i)))))
    (λ until. all)

-- ---- a report ends after a piece with a bad leaf

ended_parts : (l : SearchLimits) (w : World) (ps : List Piece) (n : ℕ) (ls : List leaf.SearchLeaf) → l.until_bad ≡ true → ls ≡ parts l w (take n ps) → any_bad ls ≡ true → up_to_bad ls ≡ ls → ls ≡ report_of l w ps
ended_parts l w ps n ls until is bad up =
    let split : parts l w ps ≡ ls ++ parts l w (drop n ps) =
    ap (parts l w) (sym (take_drop n ps)) ∙ flat_map-append (λ (q : Piece). part l q.choices w) (take n ps) (drop n ps) ∙ ap (λ xs. xs ++ parts l w (drop n ps)) (sym is) in
    sym (ap (λ b. ended_by b (parts l w ps)) until ∙ ap up_to_bad split ∙ up_has ls (parts l w (drop n ps)) bad ∙ up)

pub ends_parts : (l : SearchLimits) (w : World) (ps : List Piece) (n : ℕ) (cs : List ℕ) (old ls : List leaf.SearchLeaf) (last : Bool) → ls ≡ parts l w (take n ps) → ls ≡ old ++ part l cs w → (l.until_bad ≡ true → any_bad old ≡ false)
    → last ≡ (l.until_bad && any_bad (part l cs w)) → last ≡ true → ls ≡ report_of l w ps
ends_parts l w ps n cs old ls last is added good is_last on =
    let both = both_true l.until_bad (any_bad (part l cs w)) (sym is_last ∙ on) in
    ended_parts l w ps n ls both.0 is
    (ap any_bad added ∙ bad_behind old (part l cs w) (good both.0) ∙ both.1)
    (ap up_to_bad added ∙ up_behind old (part l cs w) (good both.0) ∙ ap (λ xs. old ++ xs) (listed_up l (map shown (walk_at l cs w)) both.0) ∙ sym added)

pub ends_more : (l : SearchLimits) (w : World) (ps : List Piece) (n : ℕ) (cs : List ℕ) (old ls : List leaf.SearchLeaf) (last m left b : Bool) → ls ≡ parts l w (take n ps) → ls ≡ old ++ part l cs w → (l.until_bad ≡ true → any_bad old ≡ false) → last ≡ (l.until_bad && any_bad (part l cs w)) → last ≡ true
    → m ≡ has_more l w (take n ps) → left ≡ have_run l w (drop n ps) → b ≡ (m || left) → b ≡ more_of l w ps
ends_more l w ps n cs old ls last m left b is added good is_last on more some behind =
    let both = both_true l.until_bad (any_bad (part l cs w)) (sym is_last ∙ on) in
    let report : parts l w (take n ps) ≡ report_of l w ps = sym is ∙ ends_parts l w ps n cs old ls last is added good is_last on in
    behind ∙ ap (λ x. x || left) more ∙ ap (λ x. has_more l w (take n ps) || x) some
    ∙ more_joined l w (take n ps) (drop n ps) both.0
    ∙ (λ i. nat_lt (length (report i)) (length (walks l w (take_drop n ps i))))
    ∙ sym (ap (λ x. if x then nat_lt (length (report_of l w ps)) (length (walks l w ps)) else has_more l w ps) both.0)

-- ---- the pieces of a split

any_choices : (l : SearchLimits) (w : World) (ps : List Piece) → l.until_bad ≡ false → has_more l w ps ≡ list_any (λ cs. nat_lt l.runs (length (walk_at l cs w))) (choices_of ps)
any_choices l w [] off = refl
any_choices l w (p ∷ ps) off =
    let own : part_left l p.choices w ≡ nat_lt l.runs (length (walk_at l p.choices w)) =
    ap (λ b. if b then nat_lt (length (part l p.choices w)) (length (map shown (walk_at l p.choices w))) else nat_lt l.runs (length (map shown (walk_at l p.choices w)))) off
    ∙ ap (nat_lt l.runs) (length-map (walk_at l p.choices w) shown) in
    ap (λ b. b || has_more l w ps) own ∙ ap (λ b. nat_lt l.runs (length (walk_at l p.choices w)) || b) (any_choices l w ps off)

pub parts_are : (k : ℕ) (l : SearchLimits) (w : World) (ps : List Piece) → ps ≡ numbered 0 (pieces (decides_by l.ends) k l.fuel w) → report_of l w ps ≡ split_report k l w
parts_are k l w ps made =
    ap (ended_by l.until_bad) (sym (flat_map-map (λ cs. part l cs w) (λ (p : Piece). p.choices) ps) ∙ ap (flat_map (λ cs. part l cs w)) (choices_are (decides_by l.ends) l.fuel k w ps made))

pub more_is : (k : ℕ) (l : SearchLimits) (w : World) (ps : List Piece) → ps ≡ numbered 0 (pieces (decides_by l.ends) k l.fuel w) → more_of l w ps ≡ split_more k l w
more_is k l w ps made =
    let all : walks l w ps ≡ walk_of l w = sym (flat_map-map (λ cs. walk_at l cs w) (λ (p : Piece). p.choices) ps) ∙ ap (flat_map (λ cs. walk_at l cs w)) (choices_are (decides_by l.ends) l.fuel k w ps made) ∙ pieces_join k l w in
    if_same l.until_bad _ _ _ _ (λ i. nat_lt (length (parts_are k l w ps made i)) (length (all i)))
    (λ off. any_choices l w ps off ∙ ap (list_any (λ cs. nat_lt l.runs (length (walk_at l cs w)))) (choices_are (decides_by l.ends) l.fuel k w ps made))
