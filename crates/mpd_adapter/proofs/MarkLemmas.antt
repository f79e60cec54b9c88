-- The breakpoints that an editor sets, one request after another.
use Rattle.std.proofs.Common.{◌≡◌, ℕ, suc, ◌+◌, ◌-◌, ◌<◌, ◌≤◌, arith, Bool, true, false, nat_lt, if◌then◌else◌, List, [], ◌∷◌, ◌++◌, map, drop, length, get_or, Option, Some, None, refl, ap, sym, ◌∙◌, append_assoc}
use Rattle.std.proofs.lemmas.Bool.{ltb-true, ltb-false, lt-ltb, le-ltb}
use Rattle.std.proofs.lemmas.List.{drop_more, drop_all}
use Rattle.std.specs.List.{range_with_len}
use Rattle.mpd_model.specs.declared.breakpoint.Breakpoint.{Breakpoint}
use Rattle.mpd_model.specs.script.Program.{Program}
use Rattle.mpd_model.specs.runs.Breakpoints.{break_at}
use Rattle.mpd_session.specs.Held.{Held}
use Rattle.mpd_session.specs.declared.request.Command.{Command}
use Rattle.mpd_session.specs.declared.request.Command.TheVariants as command
use Rattle.mpd_session.specs.Respond.{may_want}
use Rattle.mpd_console.specs.Says.{Console}
use Rattle.mpd_dap.specs.declared.listed.Mark.{Mark}
use Rattle.mpd_dap.specs.declared.ask.Wanted.{Wanted}
use Rattle.mpd_adapter.specs.declared.marks.Plan.{Plan}
use Rattle.mpd_adapter.specs.Marks.{asked, is_of_line, without, without_all, without_lines, nearest, from_on, line_from, mark_of, held_after, marks_of, held_after_all, plan_of, of_another, marks_in, marked}

-- ---- one request

pub never_wants : (c : Command) → may_want c ≡ false → may_want c ≡ true → ⊥
never_wants c never wants = let h : false ≡ true = sym never ∙ wants in cc

-- ---- those of kind `line`

pub removed_one : (c e : Console) (n : ℕ) (s : Held) (places : List (Option Breakpoint)) (place : Option Breakpoint) → s ≡ c.session → places ≡ s.breaks → place ≡ break_at places n → true ≡ is_of_line place
    → e ≡ record c { session = asked c.session (command.Unbreak n) } → e ≡ record c { session = without c.session n }
removed_one c e n s places place at held found is did =
    let b : true ≡ is_of_line (break_at c.session.breaks n) = is ∙ ap is_of_line found ∙ ap (λ x. is_of_line (break_at x n)) held ∙ ap (λ (x : Held). is_of_line (break_at x.breaks n)) at in
    did ∙ ap (λ x. record c { session = if x then asked c.session (command.Unbreak n) else c.session }) b

pub removed_none : (c : Console) (n : ℕ) (s : Held) (places : List (Option Breakpoint)) (place : Option Breakpoint) → s ≡ c.session → places ≡ s.breaks → place ≡ break_at places n → false ≡ is_of_line place → c ≡ record c { session = without c.session n }
removed_none c n s places place at held found is =
    let b : false ≡ is_of_line (break_at c.session.breaks n) = is ∙ ap is_of_line found ∙ ap (λ x. is_of_line (break_at x n)) held ∙ ap (λ (x : Held). is_of_line (break_at x.breaks n)) at in
    ap (λ x. record c { session = if x then asked c.session (command.Unbreak n) else c.session }) b

pub ruleset removing = (removed_one, removed_none)

-- what a session holds after one change and another, in a console whose other parts stay
pub still : (c d e : Console) (s : Held) → d ≡ record c { session = d.session } → e ≡ record d { session = s } → e ≡ record c { session = e.session }
still c d e s first is = is ∙ ap (λ (x : Console). record x { session = s }) first ∙ ap (λ t. record c { session = t }) (sym (ap (λ (x : Console). x.session) is))

pub cleared_more : (d e : Console) (i n : ℕ) (total : Held) → i < n → without_all d.session (range_with_len i (n - i)) ≡ total → e ≡ record d { session = without d.session i } → without_all e.session (range_with_len (i + 1) (n - (i + 1))) ≡ total
cleared_more d e i n total h all is =
    let k : n - i ≡ suc (n - (i + 1)) = omega arith in
    let rest : List ℕ = range_with_len (i + 1) (n - (i + 1)) in
    let u : range_with_len i (n - i) ≡ i ∷ rest = rw k refl in
    ap (λ (x : Console). without_all x.session rest) is ∙ sym (ap (without_all d.session) u) ∙ all

pub cleared_all : (c d : Console) (i n : ℕ) (total : Held) → n ≤ i → without_all d.session (range_with_len i (n - i)) ≡ total → d ≡ record c { session = d.session } → d ≡ record c { session = total }
cleared_all c d i n total h all held =
    let k : n - i ≡ 0 = omega arith in
    let e : d.session ≡ total = ap (λ x. without_all d.session (range_with_len i x)) (sym k) ∙ all in
    held ∙ ap (λ t. record c { session = t }) e

-- ---- the least line

-- the first of three tests tells the second from the third
least_by : (n k j : ℕ) (a b c : Bool) → nat_lt k n ≡ a → nat_lt j k ≡ b → nat_lt j n ≡ c → nearest (if a then Some k else Some n) (Some j) ≡ nearest (Some n) (if b then Some j else Some k)
least_by n k j true true c h i l =
    let m : nat_lt j n ≡ true = lt-ltb j n (omega (arith, ltb-true k n h, ltb-true j k i)) in
    ap (λ x. if x then Some j else Some k) i ∙ sym (ap (λ x. if x then Some j else Some n) m)
least_by n k j true false c h i l = ap (λ x. if x then Some j else Some k) i ∙ sym (ap (λ x. if x then Some k else Some n) h)
least_by n k j false true c h i l = refl
least_by n k j false false c h i l =
    let m : nat_lt j n ≡ false = le-ltb j n (omega (arith, ltb-false k n h, ltb-false j k i)) in
    ap (λ x. if x then Some j else Some n) m ∙ sym (ap (λ x. if x then Some k else Some n) h)

alone_by : (n k : ℕ) (a : Bool) → nearest (if a then Some k else Some n) None ≡ (if a then Some k else Some n)
alone_by n k true = refl
alone_by n k false = refl

nearest_none : (a : Option ℕ) → nearest a None ≡ a
nearest_none None = refl
nearest_none (Some n) = refl

nearest_assoc : (a b c : Option ℕ) → nearest (nearest a b) c ≡ nearest a (nearest b c)
nearest_assoc None b c = refl
nearest_assoc (Some n) None c = refl
nearest_assoc (Some n) (Some k) None = alone_by n k (nat_lt k n)
nearest_assoc (Some n) (Some k) (Some j) = least_by n k j (nat_lt k n) (nat_lt j k) (nat_lt j n) refl refl refl

pub line_more : (from i d : ℕ) (lines : List ℕ) (found new total : Option ℕ) → i < length lines → nearest found (line_from from (drop i lines)) ≡ total → new ≡ nearest found (from_on from (get_or lines i d))
    → nearest new (line_from from (drop (i + 1) lines)) ≡ total
line_more from i d lines found new total within h is =
    let rest : Option ℕ = line_from from (drop (i + 1) lines) in
    ap (λ x. nearest x rest) is ∙ nearest_assoc found (from_on from (get_or lines i d)) rest ∙ ap (λ xs. nearest found (line_from from xs)) (sym (drop_more lines i d within)) ∙ h

pub line_all : (from i : ℕ) (lines : List ℕ) (found total : Option ℕ) → length lines ≤ i → nearest found (line_from from (drop i lines)) ≡ total → found ≡ total
line_all from i lines found total over h = sym (ap (λ xs. nearest found (line_from from xs)) (drop_all i lines over) ∙ nearest_none found) ∙ h

-- ---- one breakpoint after another

pub marks_more : (s t : Held) (plans : List Plan) (i : ℕ) (d : Plan) (m : Mark) (so_far now total : List Mark) → i < length plans → so_far ++ marks_of s (drop i plans) ≡ total → m ≡ mark_of s (get_or plans i d) → t ≡ held_after s (get_or plans i d)
    → now ≡ so_far ++ m ∷ [] → now ++ marks_of t (drop (i + 1) plans) ≡ total
marks_more s t plans i d m so_far now total within h is at added =
    let p : Plan = get_or plans i d in
    let rest : List Plan = drop (i + 1) plans in
    ap (λ xs. xs ++ marks_of t rest) added ∙ append_assoc so_far (m ∷ []) (marks_of t rest) ∙ ap (λ x. so_far ++ x ∷ marks_of t rest) is ∙ ap (λ u. so_far ++ mark_of s p ∷ marks_of u rest) at
    ∙ ap (λ xs. so_far ++ marks_of s xs) (sym (drop_more plans i d within)) ∙ h

pub after_more : (s t : Held) (plans : List Plan) (i : ℕ) (d : Plan) (total : Held) → i < length plans → held_after_all s (drop i plans) ≡ total → t ≡ held_after s (get_or plans i d) → held_after_all t (drop (i + 1) plans) ≡ total
after_more s t plans i d total within h at = ap (λ u. held_after_all u (drop (i + 1) plans)) at ∙ ap (held_after_all s) (sym (drop_more plans i d within)) ∙ h

-- ---- all of a message

planned : (c : Console) (ws : List Wanted) (plans lent : List Plan) (program : Program) (s : Held) → s ≡ c.session → program ≡ s.trail.program → plans ≡ map (plan_of program) ws → lent ≡ plans → lent ≡ map (plan_of c.session.trail.program) ws
planned c ws plans lent program s at code is l = l ∙ is ∙ ap (λ x. map (plan_of x) ws) code ∙ ap (λ (x : Held). map (plan_of x.trail.program) ws) at

pub marked_own : (c d : Console) (own : Bool) (ws : List Wanted) (plans lent : List Plan) (program : Program) (s : Held) (marks : List Mark) → true ≡ own → s ≡ c.session → program ≡ s.trail.program → plans ≡ map (plan_of program) ws → lent ≡ plans
    → d ≡ record c { session = without_lines c.session } → marks ≡ marks_of d.session lent → marks ≡ marks_in own c.session ws
marked_own c d own ws plans lent program s marks o at code is l cleared m =
    m ∙ ap (λ (x : Console). marks_of x.session lent) cleared ∙ ap (marks_of (without_lines c.session)) (planned c ws plans lent program s at code is l) ∙ ap (λ b. marks_in b c.session ws) o

pub held_own : (c d e : Console) (own : Bool) (ws : List Wanted) (plans lent : List Plan) (program : Program) (s : Held) → true ≡ own → s ≡ c.session → program ≡ s.trail.program → plans ≡ map (plan_of program) ws → lent ≡ plans
    → d ≡ record c { session = without_lines c.session } → e ≡ record d { session = held_after_all d.session lent } → e ≡ record c { session = marked own c.session ws }
held_own c d e own ws plans lent program s o at code is l cleared m =
    m ∙ ap (λ (x : Console). record x { session = held_after_all x.session lent }) cleared ∙ ap (λ ps. record c { session = held_after_all (without_lines c.session) ps }) (planned c ws plans lent program s at code is l)
    ∙ ap (λ b. record c { session = marked b c.session ws }) o

pub marked_other : (c : Console) (own : Bool) (ws : List Wanted) (marks : List Mark) → false ≡ own → marks ≡ map of_another ws → marks ≡ marks_in own c.session ws
marked_other c own ws marks o is = is ∙ ap (λ b. marks_in b c.session ws) o

pub held_other : (c e : Console) (own : Bool) (ws : List Wanted) → false ≡ own → e ≡ c → e ≡ record c { session = marked own c.session ws }
held_other c e own ws o same = same ∙ ap (λ b. record c { session = marked b c.session ws }) o

pub ruleset marking = (marked_own, held_own, marked_other, held_other)
