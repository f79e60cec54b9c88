-- What comes of an input that has a script and the lines of its trace.
use Rattle.std.proofs.Common.{◌≡◌, ◌≢◌, ℕ, ◌+◌, ◌<◌, ◌≤◌, nat_lt, true, false, if◌then◌else◌, inl, inr, List, [], ◌++◌, length, count_by, ◌==◌, Option, Some, None, Result, Ok, Err, refl, ap, sym, subst, ◌∙◌, append-nil, arith, length-append}
use Rattle.std.proofs.lemmas.Bool.{lt-ltb, cond-true}
use Rattle.std.proofs.lemmas.List.{take-append-le}
use Rattle.std.specs.Io.KnownBytes.{Appends, Consumes}
use Rattle.mpd_model.specs.devices.Seen.{SourceSeen, SinkSeen}
use Rattle.mpd_model.specs.texts.Answers.{AnswerOrMemory}
use Rattle.mpd_model.specs.grammar.Faults.{fault}
use Rattle.mpd_model.specs.grammar.Grammar.{reading}
use Rattle.mpd_model.specs.texts.Lines.{divided, lines_of, ended_lines}
use Rattle.mpd_model.specs.script.Program.{Program}
use Rattle.mpd_model.specs.runs.Trail.{Standing, first_standing}
use Rattle.mpd_model.specs.declared.call.Mode.TheVariants.{Rendezvous}
use Rattle.mpd_model.specs.declared.read_fault.ReadFault.{ReadFault}
use Rattle.mpd_model.specs.declared.read_fault.FaultCode.TheVariants as code
use Rattle.mpd_lines.specs.Telling.{Tells, waiting_below}
use Rattle.mpd_lines.specs.FaultWords.{reads_failed, writes_failed}
use Rattle.mpd_lines.specs.Served.{Served, Counted}
use Rattle.mpd_lines.specs.declared.engine.EngineFault.{EngineFault}
use Rattle.mpd_lines.specs.declared.engine.EngineFault.TheVariants as engine
use Rattle.mpd_trace.specs.Collected.{HeadOf, Collected, CollectCounted, IsJustRead}
use Rattle.mpd_trace.specs.Plain.{line_at, IsRefused, TracesSoFar, PlainServed, KeepsRefused}
use Rattle.mpd_trace.specs.PlainFaults.{is_memory, refused_as, plain_failed_reads, plain_failed_writes}
use Rattle.mpd_trace.specs.declared.plain_trace.HeadEnd.{HeadEnd}
use Rattle.mpd_trace.specs.declared.plain_trace.HeadEnd.TheVariants.{InputEnds, LineDivides, TooLong}
use Rattle.mpd_trace.specs.declared.plain_trace.PlainFault.{PlainFault}
use Rattle.mpd_trace.specs.declared.plain_trace.PlainFault.TheVariants.{Script, Engine}
use Rattle.mpd_lines.proofs.TellingLaws.{breaks_along}
use Rattle.mpd_trace.proofs.CollectLaws.{consumes_append}
use Rattle.mpd_trace.proofs.OpenLaws.{divider_came}

abbrev Halves : Type 0
Halves = List ℕ × List ℕ

abbrev pub too_long : ReadFault
too_long = fault code.TooLong 65536

lt_true : (m n : ℕ) → m < n → nat_lt m n ≡ true
lt_true m n lt = lt-ltb m n lt

pub reading_long : (text : List ℕ) → 65536 < length text → reading text ≡ Err too_long
unfolding reading
reading_long text lt = cond-true _ _ _ (lt_true 65536 (length text) lt)

abbrev pub error_of : Result Program ReadFault → ReadFault → ReadFault
error_of (Ok p) d = d
error_of (Err e) d = e

pub line_front : (xs ys : List ℕ) → 65536 ≤ length xs → line_at (xs ++ ys) 65536 ≡ line_at xs 65536
line_front xs ys le = ap (λ z. count_by (λ b. b == 10) z + 1) (take-append-le 65536 xs ys le)

-- ---- a script that is refused

refused_here : (end : HeadEnd) (read script behind : List ℕ) (n : ℕ) (s t : SourceSeen) (f : ReadFault) → HeadOf end read n s t script behind → reading script ≡ Err f → IsRefused s t read f (line_at script f.place)
refused_here InputEnds read script behind n s t f h r z (inl same) = absurd (let e = h.1 in omega (arith, e, same))
refused_here InputEnds read script behind n s t f h r z (inr none) =
    let same : (divided (read ++ z)).0 ≡ script = ap (λ x. (divided (read ++ x)).0) none ∙ ap (λ x. (divided x).0) (append-nil read) ∙ ap (λ (x : Halves). x.0) h.2 in
    (ap reading same ∙ r, ap (λ x. line_at x f.place) (sym same))
refused_here LineDivides read script behind n s t f h r z o =
    let same : (divided (read ++ z)).0 ≡ script = ap (λ (x : Halves). x.0) (h.1 z) in
    (ap reading same ∙ r, ap (λ x. line_at x f.place) (sym same))
refused_here TooLong read script behind n s t f h r z o =
    let k = h.1 z in
    let which : f ≡ too_long = ap (λ x. error_of x too_long) (sym r ∙ reading_long script h.2) in
    let long : 65536 < length (script ++ k.0) = (let lt = h.2 in omega (arith, lt, length-append script k.0)) in
    let le : 65536 ≤ length script = (let lt = h.2 in omega (arith, lt)) in (
      ap reading k.1 ∙ reading_long (script ++ k.0) long ∙ ap (λ (x : ReadFault). let e : Result Program ReadFault = Err x in e) (sym which),
      ap (λ (x : ReadFault). line_at script x.place) which
          ∙ sym (ap (λ x. line_at x f.place) k.1 ∙ ap (λ (x : ReadFault). line_at (script ++ k.0) x.place) which ∙ line_front script k.0 le),
    )

pub not_memory : (f : ReadFault) → is_memory f.code ≡ false → f.code ≢ code.Memory
not_memory f e is = (let h : false ≡ true = sym e ∙ ap is_memory is in cc)

pub plain_refused : (end : HeadEnd) (read script behind text : List ℕ) (n : ℕ) (s t : SourceSeen) (v : SinkSeen) (f : ReadFault) (r : PlainFault)
    → text ≡ script → Consumes s.remaining t.remaining read → IsJustRead read → HeadOf end read n s t script behind
    → (f.code ≢ code.Memory → reading text ≡ Err f) → r ≡ refused_as f (line_at text f.place) → PlainServed s t v v (Err r)
plain_refused end read script behind text n s t v f r same c just h err is =
    let P : PlainFault → Type 0 = λ x. PlainServed s t v v (Err x) in
    subst P (sym is) (elim (is_memory f.code) as (λ m. is_memory f.code ≡ m → PlainServed s t v v (Err (if m then Engine engine.Memory else Script f (line_at text f.place)))) [
      | true ↦ λ e. refl
      | false ↦ λ e.
          let other = not_memory f e in
          let Q : List ℕ → Type 0 = λ x. IsRefused s t read f (line_at x f.place) in
          (read, c, just, refl, other, subst Q (sym same) (refused_here end read script behind n s t f h (ap reading (sym same) ∙ err other)))
    ] refl)

pub counted_refused : (s t : SourceSeen) (v : SinkSeen) (f : ReadFault) (line n : ℕ) (r : PlainFault) → r ≡ refused_as f line → t.calls ≡ s.calls + n → n ≤ 1000000 → t.failures ≡ s.failures
    → Counted 1000000 (plain_failed_reads (Err r)) (plain_failed_writes (Err r)) s t v v
counted_refused s t v f line n r is calls few failures =
    let P : PlainFault → Type 0 = λ x. Counted 1000000 (plain_failed_reads (Err x)) (plain_failed_writes (Err x)) s t v v in
    subst P (sym is) (elim (is_memory f.code) as (λ m. Counted 1000000 (plain_failed_reads (Err (if m then Engine engine.Memory else Script f line))) (plain_failed_writes (Err (if m then Engine engine.Memory else Script f line))) s t v v) [
      | true ↦ record { calls = omega (arith, calls, few); reads_failed = omega (arith, failures); writes_failed = omega arith }
      | false ↦ record { calls = omega (arith, calls, few); reads_failed = omega (arith, failures); writes_failed = omega arith }
    ])

-- the same of a text that is shown
pub refused_so : (shown text : List ℕ) (f : ReadFault) → shown ≡ text → (f.code ≢ code.Memory → reading shown ≡ Err f) → f.code ≢ code.Memory → reading text ≡ Err f
refused_so shown text f same err not = ap reading (sym same) ∙ err not

pub told_so : (shown text : List ℕ) (f : ReadFault) (r : PlainFault) → shown ≡ text → r ≡ refused_as f (line_at shown f.place) → r ≡ refused_as f (line_at text f.place)
told_so shown text f r same is = is ∙ ap (λ x. refused_as f (line_at x f.place)) same

pub kept_refused : (text : List ℕ) (f : ReadFault) (r : PlainFault) → (f.code ≢ code.Memory → reading text ≡ Err f) → r ≡ refused_as f (line_at text f.place) → KeepsRefused text (Err r)
kept_refused text f r err is =
    let P : PlainFault → Type 0 = λ x. KeepsRefused text (Err x) in
    subst P (sym is) (elim (is_memory f.code) as (λ m. is_memory f.code ≡ m → KeepsRefused text (Err (if m then Engine engine.Memory else Script f (line_at text f.place)))) [
      | true ↦ λ e. tt
      | false ↦ λ e. (err (not_memory f e), refl)
    ] refl)

-- ---- a script that stands

appends_none : (held : Option (List ℕ)) → Appends held held []
appends_none None = tt
appends_none (Some xs) = sym (append-nil xs)

-- the input has ended with the script
pub plain_ended : (end : HeadEnd) (read script behind text : List ℕ) (n : ℕ) (s t : SourceSeen) (v : SinkSeen) (p : Program) → end ≡ InputEnds → text ≡ script
    → Consumes s.remaining t.remaining read → HeadOf end read n s t script behind → reading text ≡ Ok p → PlainServed s t v v (Ok _)
plain_ended end read script behind text n s t v p is same c h ok =
    let P : HeadEnd → Type 0 = λ x. HeadOf x read n s t script behind in
    let k : HeadOf InputEnds read n s t script behind = subst P is h in
    let d : Standing = first_standing p Rendezvous in
    let Q : List (List ℕ) → Type 0 = λ x. Tells AnswerOrMemory d x v.contents v.contents d in (
      read,
      c,
      k.0,
      k.1,
      (p, d, ap (λ (x : Halves). reading x.0) k.2 ∙ ap reading (sym same) ∙ ok, subst Q (ap (λ (x : Halves). lines_of x.1) (sym k.2)) ([], appends_none v.contents, (refl, refl))),
    )

-- a line has divided the input
abbrev pub Behind : List ℕ → ℕ → SourceSeen → SourceSeen → List ℕ → List ℕ → Type 0
Behind read n s t script behind = (t.ends ≡ s.ends) × ((z : List ℕ) → divided (read ++ z) ≡ (let p : Halves = (script, behind ++ z) in p)) × (n ≤ length read)

pub behind_so : (end : HeadEnd) (read script behind text : List ℕ) (n : ℕ) (s t : SourceSeen) (p : Program) → end ≢ InputEnds → text ≡ script → HeadOf end read n s t script behind → reading text ≡ Ok p
    → Behind read n s t script behind
behind_so InputEnds read script behind text n s t p not same h ok = absurd (not refl)
behind_so LineDivides read script behind text n s t p not same h ok = h
behind_so TooLong read script behind text n s t p not same h ok =
    absurd (let e : (let r : Result Program ReadFault = Ok p in r) ≡ Err too_long = sym ok ∙ ap reading same ∙ reading_long script h.2 in cc)

reads_so : (read script behind text z : List ℕ) (p : Program) → text ≡ script → divided (read ++ z) ≡ (let q : Halves = (script, behind ++ z) in q) → reading text ≡ Ok p → reading (divided (read ++ z)).0 ≡ Ok p
reads_so read script behind text z p same d ok = ap (λ (x : Halves). reading x.0) d ∙ ap reading (sym same) ∙ ok

tells_by : (d e : Standing) (ls ks : List (List ℕ)) (v w : SinkSeen) → ls ≡ ks → Tells AnswerOrMemory d ls v.contents w.contents e → Tells AnswerOrMemory d ks v.contents w.contents e
tells_by d e ls ks v w is t = let P : List (List ℕ) → Type 0 = λ x. Tells AnswerOrMemory d x v.contents w.contents e in subst P is t

pub plain_all : (read script behind text : List ℕ) (n turns : ℕ) (s t u : SourceSeen) (v w : SinkSeen) (p : Program) (e : Standing) → text ≡ script → Consumes s.remaining t.remaining read
    → Behind read n s t script behind → reading text ≡ Ok p → Served AnswerOrMemory (waiting_below true) (first_standing p Rendezvous) behind turns t u v w e (Ok _) → PlainServed s u v w (Ok _)
plain_all read script behind text n turns s t u v w p e same c b ok h = (
  read ++ h.0,
  consumes_append s.remaining t.remaining u.remaining read h.0 c h.1,
  h.2,
  (let a = h.3 in let k = b.0 in omega (arith, a, k)),
  (
    p,
    e,
    reads_so read script behind text h.0 p same (b.1 h.0) ok,
    tells_by (first_standing p Rendezvous) e (lines_of (behind ++ h.0)) (lines_of (divided (read ++ h.0)).1) v w (ap (λ (x : Halves). lines_of x.1) (sym (b.1 h.0))) h.4,
  ),
)

-- the answers to the lines that have ended
so_far : (read script behind text more : List ℕ) (n : ℕ) (s t : SourceSeen) (v w : SinkSeen) (p : Program) (e : Standing) → text ≡ script → Behind read n s t script behind → reading text ≡ Ok p
    → Tells AnswerOrMemory (first_standing p Rendezvous) (ended_lines (behind ++ more)) v.contents w.contents e → TracesSoFar (read ++ more) v w
so_far read script behind text more n s t v w p e same b ok h = inr (
  divider_came read script behind more b.1,
  (
    p,
    e,
    reads_so read script behind text more p same (b.1 more) ok,
    tells_by (first_standing p Rendezvous) e (ended_lines (behind ++ more)) (ended_lines (divided (read ++ more)).1) v w (ap (λ (x : Halves). ended_lines x.1) (sym (b.1 more))) h,
  ),
)

pub plain_fault : (f : EngineFault) (read script behind text : List ℕ) (n turns : ℕ) (s t u : SourceSeen) (v w : SinkSeen) (p : Program) (e : Standing) → text ≡ script → Consumes s.remaining t.remaining read
    → Behind read n s t script behind → reading text ≡ Ok p → n + turns ≡ 1000000 → t.calls ≡ s.calls + n
    → Served AnswerOrMemory (waiting_below true) (first_standing p Rendezvous) behind turns t u v w e (Err f) → PlainServed s u v w (Err (Engine f))
plain_fault engine.ReadFailed read script behind text n turns s t u v w p e same c b ok all calls h = (
  read ++ h.0,
  consumes_append s.remaining t.remaining u.remaining read h.0 c h.1,
  h.2 ∙ b.0,
  so_far read script behind text h.0 n s t v w p e same b ok h.3,
)
plain_fault engine.WriteFailed read script behind text n turns s t u v w p e same c b ok all calls (more, consumed, inl h, few) = (
  read ++ more,
  consumes_append s.remaining t.remaining u.remaining read more c consumed,
  divider_came read script behind more b.1,
  inl (
    p,
    e,
    reads_so read script behind text more p same (b.1 more) ok,
    breaks_along AnswerOrMemory (waiting_below true) (first_standing p Rendezvous) e (ended_lines (behind ++ more)) (ended_lines (divided (read ++ more)).1) v.contents w.contents [] []
        (ap (λ (x : Halves). ended_lines x.1) (sym (b.1 more))) refl h,
  ),
)
plain_fault engine.WriteFailed read script behind text n turns s t u v w p e same c b ok all calls (more, consumed, inr h, few) = (
  read ++ more,
  consumes_append s.remaining t.remaining u.remaining read more c consumed,
  divider_came read script behind more b.1,
  inr (
    h.0,
    (
      p,
      e,
      reads_so read script behind text more p same (b.1 more) ok,
      breaks_along AnswerOrMemory (waiting_below true) (first_standing p Rendezvous) e (lines_of (behind ++ more)) (lines_of (divided (read ++ more)).1) v.contents w.contents [] []
          (ap (λ (x : Halves). lines_of x.1) (sym (b.1 more))) refl h.1,
    ),
  ),
)
plain_fault engine.TooManyTurns read script behind text n turns s t u v w p e same c b ok all calls h = (
  read ++ h.0,
  consumes_append s.remaining t.remaining u.remaining read h.0 c h.1,
  (let le = h.2 in let first = b.2 in omega (arith, le, first, all, length-append read h.0)),
  (let a = h.3 in omega (arith, a, calls, all)),
  h.4 ∙ b.0,
  so_far read script behind text h.0 n s t v w p e same b ok h.5,
)
plain_fault engine.Memory read script behind text n turns s t u v w p e same c b ok all calls h = h.1

-- no script was collected
pub plain_uncollected : (f : EngineFault) (s t : SourceSeen) (v : SinkSeen) → Collected s t (Err f) → PlainServed s t v v (Err (Engine f))
plain_uncollected engine.ReadFailed s t v h = (h.0, h.1, h.3, inl (h.2, refl))
plain_uncollected engine.WriteFailed s t v h = absurd h
plain_uncollected engine.TooManyTurns s t v h = (h.0, h.1, h.3, h.4, h.5, inl (h.2, refl))
plain_uncollected engine.Memory s t v h = refl

-- and the calls that were made for it
pub counted_uncollected : (f : EngineFault) (s t : SourceSeen) (v : SinkSeen) → Collected s t (Err f) → CollectCounted s t (Err f) → Counted 1000000 (reads_failed f) (writes_failed f) s t v v
counted_uncollected engine.ReadFailed s t v h c = record { calls = c.calls; reads_failed = c.reads_failed; writes_failed = omega arith }
counted_uncollected engine.WriteFailed s t v h c = absurd h
counted_uncollected engine.TooManyTurns s t v h c = record { calls = c.calls; reads_failed = c.reads_failed; writes_failed = omega arith }
counted_uncollected engine.Memory s t v h c = record { calls = c.calls; reads_failed = c.reads_failed; writes_failed = omega arith }

-- the calls of a script behind which the input has ended
pub counted_ended : (s t : SourceSeen) (v : SinkSeen) (n : ℕ) → t.calls ≡ s.calls + n → n ≤ 1000000 → t.failures ≡ s.failures + 0 → Counted 1000000 0 0 s t v v
counted_ended s t v n calls few failures = record { calls = omega (arith, calls, few); reads_failed = failures; writes_failed = omega arith }

-- the calls of the script, and those behind it
pub counted_on : (n turns reads writes : ℕ) (s t u : SourceSeen) (v w : SinkSeen) → t.calls ≡ s.calls + n → n + turns ≡ 1000000 → t.failures ≡ s.failures
    → Counted turns reads writes t u v w → Counted 1000000 reads writes s u v w
counted_on n turns reads writes s t u v w calls all failures c = record {
  calls = (let a = c.calls in omega (arith, a, calls, all));
  reads_failed = c.reads_failed ∙ ap (λ k. k + reads) failures;
  writes_failed = c.writes_failed;
}

pub ruleset plainly = (plain_refused, counted_refused, plain_ended, plain_uncollected)
