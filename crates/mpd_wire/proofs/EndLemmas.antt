-- What all lines of an input are answered, by what the desk of lines says of each.
use Rattle.std.proofs.Common.{◌≡◌, ℕ, suc, ◌+◌, ◌*◌, ◌<◌, ◌≤◌, ◌==◌, Bool, true, false, cond, List, [], ◌∷◌, length, map, refl, ap, sym, ◌∙◌, arith, subst, inl, inr, Result, Ok, Err}
use Rattle.std.proofs.lemmas.Bool.Decides.{nat_tests}
use Rattle.mpd_session.specs.declared.request.Request.{Request}
use Rattle.mpd_session.specs.declared.reply.Reply.{Reply}
use Rattle.mpd_wire.specs.declared.engine.End.{End}
use Rattle.mpd_wire.specs.Requests.{request_by}
use Rattle.mpd_wire.specs.Says.{Says, answered, one_more, counted}
use Rattle.mpd_wire.specs.Ended.{Ended}
use Rattle.mpd_lines.specs.Telling.{SaysInTurn, Tells, BreaksOff}
use Rattle.mpd_lines.specs.Served.{Served}
use Rattle.mpd_lines.specs.declared.engine.EngineFault.{EngineFault}
use Rattle.mpd_lines.specs.declared.engine.EngineFault.TheVariants as engine
use Rattle.mpd_model.specs.texts.Lines.{lines_of, ended_lines, raw_lines, grow, bare}
use Rattle.mpd_model.specs.devices.Seen.{SourceSeen, SinkSeen}

-- ---- how many lines there are

grown : (b : ℕ) (ls : List (List ℕ)) → length (grow b ls) ≤ suc (length ls)
grown b [] = omega arith
grown b (l ∷ ls) = omega arith

cut_length : (t : Bool) (b : ℕ) (ls : List (List ℕ)) → length (cond t ((b ∷ []) ∷ ls) (grow b ls)) ≤ suc (length ls)
cut_length true b ls = omega arith
cut_length false b ls = grown b ls

few_raw : (z : List ℕ) → length (raw_lines z) ≤ length z
few_raw [] = omega arith
few_raw (b ∷ z) = let one = cut_length (b == 10) b (raw_lines z) in let rest = few_raw z in omega (arith, one, rest)

few_answered : (ls : List (List ℕ)) → answered ls ≤ length ls
few_answered [] = omega arith
few_answered ([] ∷ ls) = let rest = few_answered ls in omega (arith, rest)
few_answered ((b ∷ l) ∷ ls) = let rest = few_answered ls in omega (arith, rest)

as_many : (ls : List (List ℕ)) → length (map bare ls) ≡ length ls
as_many [] = refl
as_many (l ∷ ls) = ap suc (as_many ls)

few_lines : (z : List ℕ) → answered (lines_of z) ≤ length z
few_lines z = let a = few_answered (lines_of z) in let b = as_many (raw_lines z) in let c = few_raw z in omega (arith, a, b, c)

-- ---- the count of them

abbrev counts : ℕ → List (List ℕ) → ℕ
counts n [] = n
counts n (l ∷ ls) = counts (counted n l) ls

one_below : (n : ℕ) → n < 18446744073709551615 → one_more n ≡ n + 1
one_below n lt = let e : (n == 18446744073709551615) ≡ false = grind (arith, nat_tests) in rw e refl

exact : (n : ℕ) (ls : List (List ℕ)) → n + answered ls ≤ 18446744073709551615 → counts n ls ≡ n + answered ls
exact n [] h = omega arith
exact n ([] ∷ ls) h = exact n ls h
exact n ((b ∷ l) ∷ ls) h =
    let is : one_more n ≡ n + 1 = one_below n (omega (arith, h)) in
    ap (λ m. counts m ls) is ∙ exact (n + 1) ls (omega (arith, h)) ∙ omega arith

all_counted : (n : ℕ) (z : List ℕ) → n ≡ 0 → length z ≤ 4096 * 1000000 → counts n (lines_of z) ≡ answered (lines_of z)
all_counted n z none few = let lines = few_lines z in exact n (lines_of z) (omega (arith, none, few, lines)) ∙ omega (arith, none)

-- ---- all lines of an input

module _ {D X N : Type 0} (asks : D → Request → Reply → D → Type 0) (full : D → Type 0) (desk : X → D) (wide : X → Bool) (lines : X → ℕ) (name : X → N) where
  abbrev pub JsonSays : X → List ℕ → List ℕ → X → Type 0
  JsonSays x line text y = Says (request_by (wide x)) asks full (desk x) line text (desk y) × (wide y ≡ wide x) × (name y ≡ name x) × (lines y ≡ counted (lines x) line)

  -- what is said of all lines, by what those read that answer
  abbrev Turns : Bool → X → List (List ℕ) → List ℕ → X → Type 0
  Turns b x ls text y = SaysInTurn (Says (request_by b) asks full) (desk x) ls text (desk y)

  abbrev InTurn : X → List (List ℕ) → List ℕ → X → Type 0
  InTurn x ls text y = Turns (wide x) x ls text y × (wide y ≡ wide x) × (name y ≡ name x) × (lines y ≡ counts (lines x) ls)

  in_turn : (x y : X) (ls : List (List ℕ)) (text : List ℕ) → SaysInTurn JsonSays x ls text y → InTurn x ls text y
  in_turn x y [] text (none, same) = ((none, ap desk same), ap wide same, ap name same, ap lines same)
  in_turn x y (l ∷ ls) text (m, first, others, is, said, rest) =
      let more : InTurn m ls others y = in_turn m y ls others rest in
      let as_first : Turns (wide x) m ls others y = subst (λ b. Turns b m ls others y) said.1 more.0 in
      ((desk m, first, others, is, said.0, as_first), more.1 ∙ said.1, more.2 ∙ said.2, more.3 ∙ ap (λ n. counts n ls) said.3)

  told : (x y : X) (ls : List (List ℕ)) (v w : SinkSeen) → Tells JsonSays x ls v.contents w.contents y → Tells (Says (request_by (wide x)) asks full) (desk x) ls v.contents w.contents (desk y)
  told x y ls v w (text, appends, said) = (text, appends, (in_turn x y ls text said).0)

  told_name : (x y : X) (ls : List (List ℕ)) (v w : SinkSeen) → Tells JsonSays x ls v.contents w.contents y → name y ≡ name x
  told_name x y ls v w (text, appends, said) = (in_turn x y ls text said).2

  told_count : (x y : X) (ls : List (List ℕ)) (v w : SinkSeen) → Tells JsonSays x ls v.contents w.contents y → lines y ≡ counts (lines x) ls
  told_count x y ls v w (text, appends, said) = (in_turn x y ls text said).3

  broken : (x y : X) (ls : List (List ℕ)) (v w : SinkSeen) → BreaksOff JsonSays 1 x ls v.contents [] w.contents y
      → BreaksOff (Says (request_by (wide x)) asks full) 1 (desk x) ls v.contents [] w.contents (desk y)
  broken x y ls v w b = record {
    earlier = b.earlier;
    last = b.last;
    others = b.others;
    asked = b.asked;
    one = b.one;
    between = desk b.between;
    said = b.said;
    answer = b.answer;
    told = (in_turn x b.between b.earlier b.said b.told).0;
    answered = subst (λ r. Turns r b.between b.last b.answer y) (in_turn x b.between b.earlier b.said b.told).1 (in_turn b.between y b.last b.answer b.answered).0;
    written = b.written;
    unwritten = b.unwritten;
    whole = b.whole;
    some = b.some;
    appends = b.appends;
    late = b.late;
  }

  broken_name : (x y : X) (ls : List (List ℕ)) (v w : SinkSeen) → BreaksOff JsonSays 1 x ls v.contents [] w.contents y → name y ≡ name x
  broken_name x y ls v w b = (in_turn b.between y b.last b.answer b.answered).2 ∙ (in_turn x b.between b.earlier b.said b.told).2

  abbrev JsonServed : X → SourceSeen → SourceSeen → SinkSeen → SinkSeen → X → Result (Unit {0}) EngineFault → Type 0
  JsonServed x s t v w y r = Served JsonSays 1 x [] 1000000 s t v w y r

  pub ended_ok : (x y : X) (s t : SourceSeen) (v w : SinkSeen) (end : End) (u : Unit {0}) → lines x ≡ 0 → end.lines ≡ lines y → JsonServed x s t v w y (Ok u) → Ended (request_by (wide x)) asks full (desk x) s t v w (desk y) (Ok end)
  ended_ok x y s t v w end u none is (read, consumed, at_end, ends, tells, few) =
      (read, consumed, at_end, ends, told x y (lines_of read) v w tells, few, is ∙ told_count x y (lines_of read) v w tells ∙ all_counted (lines x) read none few)

  pub name_ok : (x y : X) (s t : SourceSeen) (v w : SinkSeen) (u : Unit {0}) → JsonServed x s t v w y (Ok u) → name y ≡ name x
  name_ok x y s t v w u (read, consumed, at_end, ends, tells, few) = told_name x y (lines_of read) v w tells

  -- A desk that is lent is known behind the loan where the same one was kept.
  known_told : (x y : X) (e : D) (ls : List (List ℕ)) (v w : SinkSeen) → (name x ≡ name y → e ≡ desk y) → Tells JsonSays x ls v.contents w.contents y → Tells (Says (request_by (wide x)) asks full) (desk x) ls v.contents w.contents e
  known_told x y e ls v w same tells =
      subst (λ d. Tells (Says (request_by (wide x)) asks full) (desk x) ls v.contents w.contents d) (sym (same (sym (told_name x y ls v w tells)))) (told x y ls v w tells)

  known_broken : (x y : X) (e : D) (ls : List (List ℕ)) (v w : SinkSeen) → (name x ≡ name y → e ≡ desk y) → BreaksOff JsonSays 1 x ls v.contents [] w.contents y
      → BreaksOff (Says (request_by (wide x)) asks full) 1 (desk x) ls v.contents [] w.contents e
  known_broken x y e ls v w same b =
      subst (λ d. BreaksOff (Says (request_by (wide x)) asks full) 1 (desk x) ls v.contents [] w.contents d) (sym (same (sym (broken_name x y ls v w b)))) (broken x y ls v w b)

  pub ended_err : (x y : X) (s t : SourceSeen) (v w : SinkSeen) (f : EngineFault) (e : D) → (name x ≡ name y → e ≡ desk y) → JsonServed x s t v w y (Err f) → Ended (request_by (wide x)) asks full (desk x) s t v w e (Err f)
  ended_err x y s t v w engine.ReadFailed e same (read, consumed, ends, tells, few) = (read, consumed, ends, known_told x y e (ended_lines read) v w same tells, few)
  ended_err x y s t v w engine.WriteFailed e same (read, consumed, inl part, few) = (read, consumed, inl (known_broken x y e (ended_lines read) v w same part), few)
  ended_err x y s t v w engine.WriteFailed e same (read, consumed, inr (at_end, part), few) = (read, consumed, inr (at_end, known_broken x y e (lines_of read) v w same part), few)
  ended_err x y s t v w engine.TooManyTurns e same (read, consumed, many, calls, ends, tells, few) = (read, consumed, many, calls, ends, known_told x y e (ended_lines read) v w same tells, few)
  ended_err x y s t v w engine.Memory e same (nothing_read, nothing_written, kept) = (nothing_read, nothing_written, same (sym (ap name kept)) ∙ ap desk kept)
