-- What is read as a header keeps the limits of ranks and cells.
use Rattle.std.proofs.Common.{◌≡◌, ℕ, zero, suc, ◌+◌, ◌≤◌, ℤ, pos, negsuc, Bool, true, false, cond, ◌&&◌, nat_le, List, [], ◌∷◌, ◌++◌, length, Option, Some, None, Ok, refl, ap, sym, subst, arith}
use Rattle.std.proofs.lemmas.Bool.{and_parts}
use Rattle.std.proofs.lemmas.Bool.Decides.{nat_tests}
use Rattle.mpd_model.specs.declared.limits.TheConstants.{RANKS_MAX, CELLS_MAX, HANDLES_MAX}
use Rattle.mpd_model.specs.declared.place.DeclKind.{DeclKind}
use Rattle.mpd_model.specs.declared.read_fault.FaultCode.TheVariants.{TooMany}
use Rattle.mpd_model.specs.declared.token.Symbol.{Symbol}
use Rattle.mpd_model.specs.declared.token.Symbol.TheVariants as m
use Rattle.mpd_model.specs.declared.token.Token.{Token}
use Rattle.mpd_model.specs.declared.token.Token.TheVariants.{Number, Name}
use Rattle.mpd_model.specs.script.Declaration.{Declared, variables_in, handles_in, variable_cells, handle_cells}
use Rattle.mpd_model.specs.grammar.Faults.{fault}
use Rattle.mpd_model.specs.grammar.Grammar.{version_in, version_of, version_by, version, rank_count, ranks_of, ranks_by, ranks, natural, array_size_at, array_size_by, array_size, single, declarator, decl_by, decl, declares, decls_by, decls_from, decls, header}
use Rattle.mpd_model.specs.grammar.Input.{Input, Parser, token, spelling, place, advanced, expect, sees, fresh, add, cells_fit, after}
use Rattle.mpd_laws.proofs.complete.Cells.{variables_in-more, handles_in-more}
use Rattle.mpd_laws.proofs.sound.SoundScript.{in_version}
use Rattle.mpd_laws.proofs.sound.Sound.{bind_ok, ok_parts, carried, test_ok, expect_ok}

-- ---- ranks

counted : (b : Bool) (m n : ℕ) → cond b (Some m) None ≡ Some n → (b ≡ true) × (m ≡ n)
counted true m n h = (refl, cc)
counted false m n h = absurd (cc)

abbrev IsRankCount : ℕ → Type 0
IsRankCount n = (1 ≤ n) × (n ≤ RANKS_MAX)

count_within : (z : ℤ) (n : ℕ) → rank_count z ≡ Some n → IsRankCount n
count_within (pos k) n h =
    let c = counted (nat_le 1 k && nat_le k RANKS_MAX) k n h in
    let t = and_parts (nat_le 1 k) (nat_le k RANKS_MAX) c.0 in
    let low : 1 ≤ k = let x = t.0 in grind (arith, nat_tests) in
    let high : k ≤ RANKS_MAX = let x = t.1 in grind (arith, nat_tests) in
    subst IsRankCount c.1 (low, high)
count_within (negsuc k) n h = absurd (cc)

ranks_told : (o : Option ℕ) (i : Input) (y : ℕ × Input) → ranks_of o i ≡ Ok y → o ≡ Some y.0
ranks_told (Some n) i y h = ap Some (ok_parts (n, advanced i) y h).0
ranks_told None i y h = absurd (cc)

ranks_case : (tk : Token) (i : Input) (y : ℕ × Input) → ranks_by tk i ≡ Ok y → IsRankCount y.0
ranks_case (Number z) i y h = count_within z y.0 (ranks_told (rank_count z) i y h)
ranks_case _ i y h = absurd (cc)

ranks_within : (i : Input) (y : ℕ × Input) → ranks i ≡ Ok y → IsRankCount y.0
unfolding ranks
ranks_within i y h = ranks_case (token i) i y h

-- ---- cells

pub record Fits (ds : List Declared) : Type 0 where
  pub variables : variables_in ds ≤ CELLS_MAX
  pub handles : handles_in ds ≤ HANDLES_MAX

add_fits : (kind : DeclKind) (name : List ℕ) (size : Option ℕ) (at : ℕ) (i : Input) (y : Unit {0} × Input) → add kind name size at i ≡ Ok y → Fits y.1.decls
unfolding add
add_fits kind name size at i y h =
    let d : Declared = record { kind = kind; name = name; size = size } in
    let t = test_ok (cells_fit kind size i.decls) (fault TooMany at) (tt, record i { decls = i.decls ++ d ∷ [] }) y h in
    let both = and_parts (nat_le (variables_in i.decls + variable_cells kind size) CELLS_MAX) (nat_le (handles_in i.decls + handle_cells kind size) HANDLES_MAX) t.0 in
    let a : variables_in i.decls + variable_cells kind size ≤ CELLS_MAX = let x = both.0 in grind (arith, nat_tests) in
    let b : handles_in i.decls + handle_cells kind size ≤ HANDLES_MAX = let x = both.1 in grind (arith, nat_tests) in
    subst (λ p. Fits p.1.decls) t.1
    (record { variables = omega (arith, a, variables_in-more i.decls d); handles = omega (arith, b, handles_in-more i.decls d) })

kept : (i j : Input) → j ≡ advanced i → Fits i.decls → Fits j.decls
unfolding advanced
kept i j e f = subst (λ k. Fits k.decls) (sym e) f

expect_keeps : (wanted : Symbol) (i : Input) (y : Unit {0} × Input) → expect wanted i ≡ Ok y → Fits i.decls → Fits y.1.decls
expect_keeps wanted i y h f = kept i y.1 (expect_ok wanted i y h).1 f

single_fits : (kind : DeclKind) (name : List ℕ) (at : ℕ) (i : Input) (y : Unit {0} × Input) → single kind name at i ≡ Ok y → Fits y.1.decls
unfolding single
single_fits kind name at i y h =
    let a = bind_ok (add kind name None at i) _ y h in
    expect_keeps m.Semicolon a.0.1 y a.2 (add_fits kind name None at i a.0 a.1)

array_size_at_fits : (kind : DeclKind) (name : List ℕ) (o : Option ℕ) (i : Input) (y : Unit {0} × Input) → array_size_at kind name o i ≡ Ok y → Fits y.1.decls
array_size_at_fits kind name None i y h = absurd (cc)
array_size_at_fits kind name (Some n) i y h =
    let a = bind_ok (add kind name (Some n) (place i) i) _ y h in
    let b = bind_ok (expect m.SquareClose (advanced a.0.1)) _ y a.2 in
    expect_keeps m.Semicolon b.0.1 y b.2 (expect_keeps m.SquareClose (advanced a.0.1) b.0 b.1 (kept a.0.1 (advanced a.0.1) refl (add_fits kind name (Some n) (place i) i a.0 a.1)))

size_case : (kind : DeclKind) (name : List ℕ) (tk : Token) (i : Input) (y : Unit {0} × Input) → array_size_by kind name tk i ≡ Ok y → Fits y.1.decls
size_case kind name (Number z) i y h = array_size_at_fits kind name (natural z) i y h
size_case kind name _ i y h = absurd (cc)

array_size_fits : (kind : DeclKind) (name : List ℕ) (i : Input) (y : Unit {0} × Input) → array_size kind name i ≡ Ok y → Fits y.1.decls
unfolding array_size
array_size_fits kind name i y h = size_case kind name (token i) i y h

declarator_case : (kind : DeclKind) (name : List ℕ) (found : Bool) (i : Input) (at : ℕ) (y : Unit {0} × Input) → cond found (array_size kind name) (single kind name at) i ≡ Ok y → Fits y.1.decls
declarator_case kind name true i at y h = array_size_fits kind name i y h
declarator_case kind name false i at y h = single_fits kind name at i y h

declarator_fits : (kind : DeclKind) (i : Input) (y : Unit {0} × Input) → declarator kind i ≡ Ok y → Fits y.1.decls
unfolding declarator
declarator_fits kind i y h =
    let a = bind_ok (fresh i) _ y h in
    declarator_case kind (spelling i) (sees m.SquareOpen (advanced a.0.1)) (after m.SquareOpen (advanced a.0.1)) (place i) y a.2

decl_case : (kind : DeclKind) (tk : Token) (i : Input) (y : Unit {0} × Input) → decl_by kind tk i ≡ Ok y → Fits y.1.decls
decl_case kind Name i y h = declarator_fits kind i y h
decl_case kind _ i y h = absurd (cc)

decl_fits : (kind : DeclKind) (i : Input) (y : Unit {0} × Input) → decl kind i ≡ Ok y → Fits y.1.decls
unfolding decl
decl_fits kind i y h = decl_case kind (token i) i y h

decls_case : (p : Parser (Unit {0})) → ((i : Input) (y : Unit {0} × Input) → p i ≡ Ok y → Fits i.decls → Fits y.1.decls) → (o : Option DeclKind) (i : Input) (y : Unit {0} × Input)
    → decls_by p o i ≡ Ok y → Fits i.decls → Fits y.1.decls
decls_case p s (Some kind) i y h f =
    let b = bind_ok (decl kind (advanced i)) _ y h in
    s b.0.1 y b.2 (decl_fits kind (advanced i) b.0 b.1)
decls_case p s None i y h f = subst (λ k. Fits k.decls) (ok_parts (tt, i) y h).1 f

decls_from_fits : (n : ℕ) (i : Input) (y : Unit {0} × Input) → decls_from n i ≡ Ok y → Fits i.decls → Fits y.1.decls
unfolding decls_from
decls_from_fits zero i y h f = absurd (cc)
decls_from_fits (suc n) i y h f = decls_case (decls_from n) (λ x z e g. decls_from_fits n x z e g) (declares (token i)) i y h f

decls_fit : (i : Input) (y : Unit {0} × Input) → decls i ≡ Ok y → Fits i.decls → Fits y.1.decls
unfolding decls
decls_fit i y h f = decls_from_fits (length i.tokens + 1) i y h f

-- ---- the header

pub record HeaderWithin (n : ℕ) (j : Input) : Type 0 where
  pub low : 1 ≤ n
  pub high : n ≤ RANKS_MAX
  pub cells : Fits j.decls

by_count : (o : Option ℕ) (i : Input) (y : ℕ × Input) → ranks_of o i ≡ Ok y → y.1 ≡ advanced i
by_count (Some n) i y h = sym (ok_parts (n, advanced i) y h).1
by_count None i y h = absurd (cc)

ranks_next_case : (tk : Token) (i : Input) (y : ℕ × Input) → ranks_by tk i ≡ Ok y → y.1 ≡ advanced i
ranks_next_case (Number z) i y h = by_count (rank_count z) i y h
ranks_next_case _ i y h = absurd (cc)

ranks_next : (i : Input) (y : ℕ × Input) → ranks i ≡ Ok y → y.1 ≡ advanced i
unfolding ranks
ranks_next i y h = ranks_next_case (token i) i y h

version_told : (o : Option ℕ) (i : Input) (y : Unit {0} × Input) → version_of o i ≡ Ok y → Fits i.decls → Fits y.1.decls
version_told (Some n) i y h f = kept (in_version n i) y.1 (sym (ok_parts (tt, advanced (in_version n i)) y h).1) f
version_told None i y h f = absurd (cc)

version_case : (tk : Token) (i : Input) (y : Unit {0} × Input) → version_by tk i ≡ Ok y → Fits i.decls → Fits y.1.decls
version_case (Number z) i y h f = version_told (version_in z) i y h f
version_case _ i y h f = absurd (cc)

version_keeps : (i : Input) (y : Unit {0} × Input) → version i ≡ Ok y → Fits i.decls → Fits y.1.decls
unfolding version
version_keeps i y h f = version_case (token i) i y h f

pub header_within : (i : Input) (y : ℕ × Input) → Fits i.decls → header i ≡ Ok y → HeaderWithin y.0 y.1
unfolding header
header_within i y fits h =
    let a = bind_ok (expect m.Mpd i) _ y h in
    let b = bind_ok (version a.0.1) _ y a.2 in
    let c = bind_ok (expect m.Semicolon b.0.1) _ y b.2 in
    let d = bind_ok (expect m.Ranks c.0.1) _ y c.2 in
    let e = bind_ok (ranks d.0.1) _ y d.2 in
    let f = bind_ok (expect m.Semicolon e.0.1) _ y e.2 in
    let g = bind_ok (decls f.0.1) _ y f.2 in
    let o = ok_parts (e.0.0, g.0.1) y g.2 in
    let one = expect_keeps m.Mpd i a.0 a.1 fits in
    let two = version_keeps a.0.1 b.0 b.1 one in
    let three = expect_keeps m.Semicolon b.0.1 c.0 c.1 two in
    let four = expect_keeps m.Ranks c.0.1 d.0 d.1 three in
    let five = kept d.0.1 e.0.1 (ranks_next d.0.1 e.0 e.1) four in
    let six = expect_keeps m.Semicolon e.0.1 f.0 f.1 five in
    let count = ranks_within d.0.1 e.0 e.1 in
    carried HeaderWithin e.0.0 y.0 g.0.1 y.1 o.0 o.1 (record { low = count.0; high = count.1; cells = decls_fit f.0.1 g.0 g.1 six })
