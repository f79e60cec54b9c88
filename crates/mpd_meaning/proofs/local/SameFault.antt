-- The tokens up to a fault decide it.
use Rattle.std.proofs.Common.{◌≡◌, ℕ, zero, suc, ◌+◌, ◌-◌, ◌<◌, ◌≤◌, ◌==◌, Bool, true, false, cond, nat_lt, List, [], ◌∷◌, ◌++◌, length, Ok, Err, inl, inr, refl, ap, sym, subst, ◌∙◌, arith, append_assoc}
use Rattle.std.proofs.lemmas.Bool.Decides.{nat_tests}
use Rattle.std.proofs.lemmas.List.Elements.{recursion_from_All}
use Rattle.std.specs.List.{prefix_len, AllByRecursion}
use Rattle.mpd_model.specs.declared.read_fault.FaultCode.TheVariants.{TooMany}
use Rattle.mpd_model.specs.declared.read_fault.ReadFault.{ReadFault}
use Rattle.mpd_model.specs.declared.token.Class.TheVariants as class
use Rattle.mpd_model.specs.grammar.Grammar.{max_text, is_text, read_of, reading}
use Rattle.mpd_model.specs.grammar.Grammar as grammar
use Rattle.mpd_model.specs.grammar.Input.{Input, Outcome, start_of}
use Rattle.mpd_model.specs.script.Program.{Program}
use Rattle.mpd_model.specs.grammar.ReaderLaws.{TurnsAreEnough}
use Rattle.mpd_model.specs.grammar.Tokens.{Spot, spot, tokens, tokens_after, front, run_len, is_blank, feeds}
use Rattle.mpd_meaning.specs.FaultLaws.{IsText, TokensUpToItDecideAFault}
use Rattle.mpd_meaning.specs.TokenLaws.{IsPlacedIn}
use Rattle.mpd_meaning.proofs.local.Local.{has, AllBehind, EndsLate, IsLate, Tied}
use Rattle.mpd_meaning.proofs.local.LocalGrammar.{script_local}
use Rattle.mpd_meaning.proofs.limited.ReadExactly.{text_all}
use Rattle.mpd_meaning.proofs.local.TokenLines.{placed_by_recursion}

-- ---- tokens stand one behind another

abbrev pub AllFrom : ℕ → List Spot → Type 0
AllFrom p [] = Unit {0}
AllFrom p (s ∷ ss) = (p ≤ s.place) × AllFrom p ss

abbrev pub Rises : List Spot → Type 0
Rises [] = Unit {0}
Rises (s ∷ ss) = AllBehind s.place ss × Rises ss

pub lower : (p q : ℕ) (ss : List Spot) → p ≤ q → AllFrom q ss → AllFrom p ss
lower p q [] le h = tt
lower p q (s ∷ ss) le h = (let x = h.0 in omega (arith, x, le), lower p q ss le h.1)

behind_from : (p q : ℕ) (ss : List Spot) → p < q → AllFrom q ss → AllBehind p ss
behind_from p q [] lt h = tt
behind_from p q (s ∷ ss) lt h = (let x = h.0 in omega (arith, x, lt), behind_from p q ss lt h.1)

abbrev IsRising : ℕ → List Spot → Type 0
IsRising p ss = AllFrom p ss × Rises ss

pub each_case : (a c : Bool) (P : List Spot → Type 0) (xs ys zs : List Spot) → P xs → P ys → P zs → P (cond a xs (cond c ys zs))
each_case true c P xs ys zs x y z = x
each_case false true P xs ys zs x y z = y
each_case false false P xs ys zs x y z = z

later_rising : (p : ℕ) (ss : List Spot) → IsRising (p + 1) ss → IsRising p ss
later_rising p ss h = (lower p (p + 1) ss (omega arith) h.0, h.1)

pub rising : (skip place line : ℕ) (z : List ℕ) → IsRising place (tokens_after skip place line z)
unfolding tokens_after
rising skip place line [] = (tt, tt)
rising (suc skip) place line (b ∷ z) = later_rising place (tokens_after skip (place + 1) line z) (rising skip (place + 1) line z)
rising zero place line (b ∷ z) =
    each_case (is_blank b) (b == 35) (IsRising place) _ _ _
    (later_rising place (tokens_after 0 (place + 1) (line + feeds b) z) (rising 0 (place + 1) (line + feeds b) z))
    (later_rising place (tokens_after (run_len class.Comment z) (place + 1) line z) (rising (run_len class.Comment z) (place + 1) line z))
    (first (tokens_after ((front (b ∷ z)).1 - 1) (place + 1) line z) (rising ((front (b ∷ z)).1 - 1) (place + 1) line z))
  where
    first : (ss : List Spot) → IsRising (place + 1) ss → IsRising place (spot (b ∷ z) place line ∷ ss)
    first ss h = ((omega arith, lower place (place + 1) ss (omega arith) h.0), (behind_from place (place + 1) ss (omega arith) h.0, h.1))

rises_behind : (before : List Spot) (last : Spot) (behind : List Spot) → Rises (before ++ last ∷ behind) → AllBehind last.place behind
rises_behind [] last behind h = h.0
rises_behind (s ∷ ss) last behind h = rises_behind ss last behind h.1

within_text : (text : List ℕ) (before : List Spot) (last : Spot) (behind : List Spot) → AllByRecursion (IsPlacedIn text) (before ++ last ∷ behind) → last.place < length text
within_text text [] last behind h = h.0.within
within_text text (s ∷ ss) last behind h = within_text text ss last behind h.1

ends_last : (before : List Spot) (last : Spot) → EndsLate last.place (before ++ last ∷ [])
ends_last [] last = omega arith
ends_last (s ∷ []) last = omega arith
ends_last (s ∷ t ∷ ss) last = ends_last (t ∷ ss) last

-- ---- the same fault

pub read_fault : (o : Outcome Program) (f : ReadFault) → read_of o ≡ Err f → o ≡ Err f
read_fault (Ok p) f h = absurd (cc)
read_fault (Err g) f h = cc

pub text_reads : (text : List ℕ) → IsText text → reading text ≡ read_of (grammar.script (start_of text))
unfolding reading
text_reads text t =
    let whole : prefix_len is_text text ≡ length text = text_all is_text text (recursion_from_All (λ b. is_text b ≡ true) text t.bytes) in
    let short = t.short in
    let a : nat_lt max_text (length text) ≡ false = grind (arith, nat_tests) in
    let b : nat_lt (prefix_len is_text text) (length text) ≡ false = grind (arith, nat_tests) in
    rw (a, b) refl

-- a text's first input, by its tokens
abbrev pub empty : Input
empty = record { tokens = []; end = 0; version = 1; decls = []; lines = []; budget = 0 }

started : (text : List ℕ) (ss : List Spot) → tokens text ≡ ss → start_of text ≡ has ss (length text) empty
started text ss e = ap (λ r. has r (length text) empty) e

not_late : (late : ℕ) (f : ReadFault) → f.place ≤ late → (f.code ≡ TooMany → f.place < late) → IsLate late f → ⊥
not_late late f le few (inl lt) = omega (arith, le, lt)
not_late late f le few (inr h) = let lt = few h.0 in let ge = h.1 in omega (arith, lt, ge)

tied_fault : (late : ℕ) (o p : Outcome Program) (f : ReadFault) → Tied late o p → o ≡ Err f → f.place ≤ late → (f.code ≡ TooMany → f.place < late) → p ≡ Err f
tied_fault late (Ok x) p f h e le few = absurd (cc)
tied_fault late (Err g) p f (inl same) e le few = same ∙ e
tied_fault late (Err g) p f (inr late_one) e le few = let is : g ≡ f = cc in absurd (not_late late f le few (subst (IsLate late) is late_one))

split_last : (before : List Spot) (last : Spot) (behind : List Spot) → before ++ last ∷ behind ≡ (before ++ last ∷ []) ++ behind
split_last before last behind = sym (append_assoc before (last ∷ []) behind)

-- so does a list of tokens that begins so, whatever is behind it
pub script_fault : TurnsAreEnough → (text : List ℕ) (before behind others : List Spot) (last : Spot) (f : ReadFault) (end : ℕ) → IsText text → tokens text ≡ before ++ last ∷ behind
    → reading text ≡ Err f → f.place ≤ last.place → (f.code ≡ TooMany → f.place < last.place) → grammar.script (has (before ++ last ∷ others) end empty) ≡ Err f
script_fault enough text before behind others last f end t is h le few =
    let front = before ++ last ∷ [] in
    let rises : Rises (before ++ last ∷ behind) = subst Rises is (rising 0 0 1 text).1 in
    let all = rises_behind before last behind rises in
    let within = within_text text before last behind (subst (AllByRecursion (IsPlacedIn text)) is (placed_by_recursion text)) in
    let tied = (script_local last.place enough).same front behind others (length text) end empty (ends_last before last) all within in
    let here : grammar.script (has (front ++ behind) (length text) empty) ≡ Err f =
    ap grammar.script (sym (started text (front ++ behind) (is ∙ split_last before last behind))) ∙ read_fault (grammar.script (start_of text)) f (sym (text_reads text t) ∙ h) in
    ap (λ ss. grammar.script (has ss end empty)) (split_last before last others) ∙ tied_fault last.place _ _ f tied here le few

pub same_fault : TurnsAreEnough → TokensUpToItDecideAFault
same_fault enough text other before behind others last f t u is is_other h le few =
    text_reads other u ∙ ap read_of (ap grammar.script (started other (before ++ last ∷ others) is_other) ∙ script_fault enough text before behind others last f (length other) t is h le few)
