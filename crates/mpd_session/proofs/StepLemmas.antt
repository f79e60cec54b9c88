-- What a step, and a change of the depth, come to.
use Rattle.std.proofs.Common.{◌≡◌, ℕ, ◌+◌, ◌-◌, ◌<◌, ◌≤◌, true, false, length, Option, Some, None, IsSome, refl, ap, sym, ◌∙◌, arith, nat_lt}
use Rattle.std.proofs.lemmas.Bool.Decides.{nat_tests}
use Rattle.mpd_model.specs.declared.step.Step.{Step}
use Rattle.mpd_model.specs.steps.World.{World}
use Rattle.mpd_model.specs.runs.Trail.{Trail, applied, gone_back, redone}
use Rattle.mpd_session.specs.declared.reply.Answer.{Answer}
use Rattle.mpd_session.specs.declared.reply.Answer.TheVariants as answer
use Rattle.mpd_session.specs.declared.reply.Refusal.TheVariants.{NotEnabled, Full, AtStart, NoRedo, NotBefore}
use Rattle.mpd_session.specs.declared.effect.Effect.TheVariants.{Refused, Changed}
use Rattle.mpd_session.specs.Effects.{OnTrail, is_within, applied_effect, at_depth, back_effect, redo_effect, goto_effect}

below : (n : ℕ) → n < 1000000 → nat_lt n 1000000 ≡ true
below n lt = grind (arith, nat_tests)

not_below : (n : ℕ) → n ≡ 1000000 → nat_lt n 1000000 ≡ false
not_below n e = grind (arith, nat_tests)

-- ---- steps

taken : (f : ℕ → Answer) (t : Trail) (a : Step) (o : Option World) (w : World) → o ≡ Some w → t.depth < 1000000 → applied_effect f t a o ≡ (let p : OnTrail = (Changed (f (t.depth + 1)), applied t a) in p)
taken f t a o w e lt = rw (e, below t.depth lt) refl

full : (f : ℕ → Answer) (t : Trail) (a : Step) (o : Option World) → IsSome o → t.depth ≡ 1000000 → applied_effect f t a o ≡ (let p : OnTrail = (Refused Full, t) in p)
full f t a None some e = absurd (let h : false ≡ true = some in cc)
full f t a (Some w) some e = rw (not_below t.depth e) refl

none : (f : ℕ → Answer) (t : Trail) (a : Step) (o : Option World) → o ≡ None → applied_effect f t a o ≡ (let p : OnTrail = (Refused NotEnabled, t) in p)
none f t a o e = rw e refl

pub taken_0 : (f : ℕ → Answer) (t : Trail) (a : Step) (o : Option World) (w : World) (n : ℕ) → o ≡ Some w → t.depth < 1000000 → n ≡ t.depth → Changed (f (n + 1)) ≡ (applied_effect f t a o).0
taken_0 f t a o w n e lt is = ap (λ m. Changed (f (m + 1))) is ∙ ap (λ (p : OnTrail). p.0) (sym (taken f t a o w e lt))

pub taken_1 : (f : ℕ → Answer) (t u : Trail) (a : Step) (o : Option World) (w : World) → o ≡ Some w → t.depth < 1000000 → u ≡ applied t a → u ≡ (applied_effect f t a o).1
taken_1 f t u a o w e lt is = is ∙ ap (λ (p : OnTrail). p.1) (sym (taken f t a o w e lt))

pub full_0 : (f : ℕ → Answer) (t : Trail) (a : Step) (o : Option World) → IsSome o → t.depth ≡ 1000000 → Refused Full ≡ (applied_effect f t a o).0
full_0 f t a o some e = ap (λ (p : OnTrail). p.0) (sym (full f t a o some e))

pub full_1 : (f : ℕ → Answer) (t u : Trail) (a : Step) (o : Option World) → IsSome o → t.depth ≡ 1000000 → u ≡ t → u ≡ (applied_effect f t a o).1
full_1 f t u a o some e is = is ∙ ap (λ (p : OnTrail). p.1) (sym (full f t a o some e))

pub none_0 : (f : ℕ → Answer) (t : Trail) (a : Step) (o : Option World) → o ≡ None → Refused NotEnabled ≡ (applied_effect f t a o).0
none_0 f t a o e = ap (λ (p : OnTrail). p.0) (sym (none f t a o e))

pub none_1 : (f : ℕ → Answer) (t u : Trail) (a : Step) (o : Option World) → o ≡ None → u ≡ t → u ≡ (applied_effect f t a o).1
none_1 f t u a o e is = is ∙ ap (λ (p : OnTrail). p.1) (sym (none f t a o e))

pub ruleset stepping = (taken_0, taken_1, full_0, full_1, none_0, none_1)

-- ---- depths

goto_yes : (t : Trail) (n : ℕ) → n ≤ t.depth → goto_effect t n ≡ at_depth t n
goto_yes t n le = let e : nat_lt t.depth n ≡ false = grind (arith, nat_tests) in rw e refl

goto_no : (t : Trail) (n : ℕ) → t.depth < n → goto_effect t n ≡ (let p : OnTrail = (Refused NotBefore, t) in p)
goto_no t n lt = let e : nat_lt t.depth n ≡ true = grind (arith, nat_tests) in rw e refl

pub goto_yes_0 : (t : Trail) (n : ℕ) → n ≤ t.depth → Changed (answer.Depth n) ≡ (goto_effect t n).0
goto_yes_0 t n le = ap (λ (p : OnTrail). p.0) (sym (goto_yes t n le))

pub goto_yes_1 : (t u : Trail) (n : ℕ) → n ≤ t.depth → u ≡ gone_back t n → u ≡ (goto_effect t n).1
goto_yes_1 t u n le is = is ∙ ap (λ (p : OnTrail). p.1) (sym (goto_yes t n le))

pub goto_no_0 : (t : Trail) (n : ℕ) → t.depth < n → Refused NotBefore ≡ (goto_effect t n).0
goto_no_0 t n lt = ap (λ (p : OnTrail). p.0) (sym (goto_no t n lt))

pub goto_no_1 : (t u : Trail) (n : ℕ) → t.depth < n → u ≡ t → u ≡ (goto_effect t n).1
goto_no_1 t u n lt is = is ∙ ap (λ (p : OnTrail). p.1) (sym (goto_no t n lt))

back_yes : (t : Trail) (n : ℕ) → is_within 1 1000000 n ≡ true → n ≤ t.depth → back_effect t n ≡ at_depth t (t.depth - n)
back_yes t n in_range le = let e : nat_lt t.depth n ≡ false = grind (arith, nat_tests) in rw (in_range, e) refl

back_no : (t : Trail) (n : ℕ) → is_within 1 1000000 n ≡ true → t.depth < n → back_effect t n ≡ (let p : OnTrail = (Refused AtStart, t) in p)
back_no t n in_range lt = let e : nat_lt t.depth n ≡ true = grind (arith, nat_tests) in rw (in_range, e) refl

pub back_yes_0 : (t : Trail) (n m : ℕ) → is_within 1 1000000 n ≡ true → n ≤ t.depth → m ≡ t.depth - n → Changed (answer.Depth m) ≡ (back_effect t n).0
back_yes_0 t n m in_range le is = ap (λ k. Changed (answer.Depth k)) is ∙ ap (λ (p : OnTrail). p.0) (sym (back_yes t n in_range le))

pub back_yes_1 : (t u : Trail) (n m : ℕ) → is_within 1 1000000 n ≡ true → n ≤ t.depth → m ≡ t.depth - n → u ≡ gone_back t m → u ≡ (back_effect t n).1
back_yes_1 t u n m in_range le e is = is ∙ ap (gone_back t) e ∙ ap (λ (p : OnTrail). p.1) (sym (back_yes t n in_range le))

pub back_no_0 : (t : Trail) (n : ℕ) → is_within 1 1000000 n ≡ true → t.depth < n → Refused AtStart ≡ (back_effect t n).0
back_no_0 t n in_range lt = ap (λ (p : OnTrail). p.0) (sym (back_no t n in_range lt))

pub back_no_1 : (t u : Trail) (n : ℕ) → is_within 1 1000000 n ≡ true → t.depth < n → u ≡ t → u ≡ (back_effect t n).1
back_no_1 t u n in_range lt is = is ∙ ap (λ (p : OnTrail). p.1) (sym (back_no t n in_range lt))

-- ---- steps taken again

redo_yes : (t : Trail) (n : ℕ) → is_within 1 1000000 n ≡ true → nat_lt (length t.steps - t.depth) n ≡ false → redo_effect t n ≡ at_depth t (t.depth + n)
redo_yes t n in_range e = rw (in_range, e) refl

redo_no : (t : Trail) (n : ℕ) → is_within 1 1000000 n ≡ true → nat_lt (length t.steps - t.depth) n ≡ true → redo_effect t n ≡ (let p : OnTrail = (Refused NoRedo, t) in p)
redo_no t n in_range e = rw (in_range, e) refl

few : (undone m n d : ℕ) → undone ≡ m - d → nat_lt undone n ≡ false → nat_lt (m - d) n ≡ false
few undone m n d is e = ap (λ k. nat_lt k n) (sym is) ∙ e

many : (undone m n d : ℕ) → undone ≡ m - d → nat_lt undone n ≡ true → nat_lt (m - d) n ≡ true
many undone m n d is e = ap (λ k. nat_lt k n) (sym is) ∙ e

pub redo_yes_0 : (t : Trail) (n m undone : ℕ) → is_within 1 1000000 n ≡ true → undone ≡ length t.steps - t.depth → nat_lt undone n ≡ false → m ≡ t.depth + n → Changed (answer.Depth m) ≡ (redo_effect t n).0
redo_yes_0 t n m undone in_range u e is = ap (λ k. Changed (answer.Depth k)) is ∙ ap (λ (p : OnTrail). p.0) (sym (redo_yes t n in_range (few undone _ n _ u e)))

pub redo_yes_1 : (t v : Trail) (n m undone : ℕ) → is_within 1 1000000 n ≡ true → undone ≡ length t.steps - t.depth → nat_lt undone n ≡ false → m ≡ t.depth + n → v ≡ gone_back t m → v ≡ (redo_effect t n).1
redo_yes_1 t v n m undone in_range u e is same = same ∙ ap (gone_back t) is ∙ ap (λ (p : OnTrail). p.1) (sym (redo_yes t n in_range (few undone _ n _ u e)))

pub redo_no_0 : (t : Trail) (n undone : ℕ) → is_within 1 1000000 n ≡ true → undone ≡ length t.steps - t.depth → nat_lt undone n ≡ true → Refused NoRedo ≡ (redo_effect t n).0
redo_no_0 t n undone in_range u e = ap (λ (p : OnTrail). p.0) (sym (redo_no t n in_range (many undone _ n _ u e)))

pub redo_no_1 : (t v : Trail) (n undone : ℕ) → is_within 1 1000000 n ≡ true → undone ≡ length t.steps - t.depth → nat_lt undone n ≡ true → v ≡ t → v ≡ (redo_effect t n).1
redo_no_1 t v n undone in_range u e is = is ∙ ap (λ (p : OnTrail). p.1) (sym (redo_no t n in_range (many undone _ n _ u e)))

-- so many steps are taken again, and back to where it began
pub there_and_back : (t u v : Trail) (n : ℕ) → u ≡ gone_back t u.depth → n ≡ t.depth → v ≡ gone_back u n → v ≡ t
there_and_back t u v n e is back = back ∙ ap (λ (x : Trail). gone_back x n) e ∙ ap (gone_back t) is

pub ruleset going = (goto_yes_0, goto_yes_1, goto_no_0, goto_no_1, back_yes_0, back_yes_1, back_no_0, back_no_1, redo_yes_0, redo_yes_1, redo_no_0, redo_no_1, there_and_back)

-- one step more
pub once_more : (t u v : Trail) → u ≡ gone_back t u.depth → v ≡ redone u → v ≡ gone_back t v.depth
once_more t u v e is = let d : v.depth ≡ u.depth + 1 = ap (λ (x : Trail). x.depth) is in is ∙ ap redone e ∙ ap (gone_back t) (sym d)

pub once_deeper : (t u v : Trail) (n : ℕ) → u.depth ≡ t.depth + n → v ≡ redone u → v.depth ≡ t.depth + (n + 1)
once_deeper t u v n e is = ap (λ (x : Trail). x.depth) is ∙ ap (λ k. k + 1) e ∙ omega arith

pub ruleset again = (once_more, once_deeper)
