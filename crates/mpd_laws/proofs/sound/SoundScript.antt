-- What the grammar's functions read as a script is written so, and keeps the limits.
use Rattle.std.proofs.Common.{◌≡◌, ℕ, zero, suc, ◌+◌, ℤ, pos, negsuc, Bool, true, false, cond, ◌&&◌, nat_le, nat_lt, List, [], ◌∷◌, ◌++◌, length, Option, Some, None, Result, Ok, Err, refl, ap, sym, subst, ◌∙◌, append_assoc, arith, ◌≢◌, ◌≤◌}
use Rattle.std.proofs.lemmas.Bool.Decides.{nat_tests}
use Rattle.std.specs.List.{prefix_len}
use Rattle.mpd_model.specs.declared.limits.TheConstants.{BLOCKS_MAX, RANKS_MAX, LANGUAGE_MAX}
use Rattle.mpd_model.specs.declared.place.DeclKind.{DeclKind}
use Rattle.mpd_model.specs.declared.read_fault.FaultCode.TheVariants.{Twice, TooMany}
use Rattle.mpd_model.specs.declared.read_fault.ReadFault.{ReadFault}
use Rattle.mpd_model.specs.declared.slot.Slot.{Slot}
use Rattle.mpd_model.specs.declared.token.Symbol.TheVariants as m
use Rattle.mpd_model.specs.declared.token.Token.{Token}
use Rattle.mpd_model.specs.declared.token.Token.TheVariants.{Number, Name, Is, End}
use Rattle.mpd_model.specs.grammar.Costs.{dearest_script}
use Rattle.mpd_model.specs.script.Declaration.{Declared}
use Rattle.mpd_model.specs.grammar.Faults.{fault}
use Rattle.mpd_model.specs.grammar.Grammar.{version_in, version_of, version_by, version, rank_count, ranks_of, ranks_by, ranks, natural, array_size_at, array_size_by, array_size, single, declarator, decl_by, decl, declares, decls_by, decls_from, decls, header, stmt, stmts, body, block, closes, max_blocks, max_text, is_text, read_of, reading}
use Rattle.mpd_model.specs.grammar.Grammar as grammar
use Rattle.mpd_model.specs.grammar.Input.{Input, Outcome, Parser, start_of, token, token_of, spelling, place, advanced, expect, sees, after, fresh, add, cells_fit, is_known, slot_in, pure, max_budget, ◌>>=◌}
use Rattle.mpd_model.specs.script.Program.{Program}
use Rattle.mpd_model.specs.grammar.Tokens.{Spot, tokens}
use Rattle.mpd_model.specs.script.Tree.{Tree, block_of, statements_in}
use Rattle.mpd_model.specs.grammar.Written.{WrittenDecls, none, declares_one, declares_array, declared_as, WrittenScript, script}
use Rattle.mpd_laws.proofs.sound.Counted.{body_lines}
use Rattle.mpd_laws.proofs.cutting.Ends.{NoEnd, tokens_real, rest_real, none_left}
use Rattle.mpd_laws.proofs.sound.Sound.{bind_ok, ok_parts, carried, test_ok, Step, next_step, sees_is, expect_step}
use Rattle.mpd_laws.proofs.sound.SoundStatements.{BodyBetween, append_none, statements_sound}

-- ---- the numbers of the header

abbrev IsNumber : ℕ → (i j : Input) → Type 0
IsNumber n i j = (s : Step i j) × (s.spot.token ≡ Number (pos n))

number_step : (n : ℕ) (i j : Input) → token i ≡ Number (pos n) → j ≡ advanced i → IsNumber n i j
number_step n i j e h = let s = next_step i j (λ x. absurd (cc)) h in (s, s.token ∙ e)

-- the input, in this version
abbrev pub in_version : ℕ → Input → Input
in_version n i = record i { version = n }

-- the next token is a version that there is, and what follows is in that
record Versioned (i j : Input) : Type 0 where
  pub number : ℕ
  pub step : Step (in_version number i) j
  pub token : step.spot.token ≡ Number (pos number)
  pub some_version : 1 ≤ number
  pub known : number ≤ LANGUAGE_MAX

within : (a b : Bool) (m n : ℕ) → cond (a && b) (Some m) None ≡ Some n → (a ≡ true) × (b ≡ true) × (m ≡ n)
within true true m n h = (refl, refl, cc)
within true false m n h = absurd (cc)
within false b m n h = absurd (cc)

version_is : (z : ℤ) (n : ℕ) → version_in z ≡ Some n → (z ≡ pos n) × (1 ≤ n) × (n ≤ LANGUAGE_MAX)
version_is (pos m) n h =
    let w = within (nat_le 1 m) (nat_le m LANGUAGE_MAX) m n h in
    let same : m ≡ n = w.2 in
    let low : nat_le 1 m ≡ true = w.0 in
    let high : nat_le m LANGUAGE_MAX ≡ true = w.1 in
    (ap pos same, grind (arith, nat_tests), grind (arith, nat_tests))
version_is (negsuc m) n h = absurd (cc)

version_test : (o : Option ℕ) (i : Input) (y : Unit {0} × Input) → version_of o i ≡ Ok y → (n : ℕ) × (o ≡ Some n) × (y.1 ≡ advanced (in_version n i))
version_test (Some n) i y h = (n, refl, sym (ok_parts (tt, advanced (in_version n i)) y h).1)
version_test None i y h = absurd (cc)

in_version_token : (n : ℕ) (i : Input) → token (in_version n i) ≡ token i
unfolding token
in_version_token n i = refl

version_case : (tk : Token) (i : Input) (y : Unit {0} × Input) → token i ≡ tk → version_by tk i ≡ Ok y → Versioned i y.1
version_case (Number z) i y e h =
    let t = version_test (version_in z) i y h in
    let v = version_is z t.0 t.1 in
    let is : token (in_version t.0 i) ≡ Number (pos t.0) = in_version_token t.0 i ∙ e ∙ ap Number v.0 in
    let s = number_step t.0 (in_version t.0 i) y.1 is t.2 in
    record { number = t.0; step = s.0; token = s.1; some_version = v.1; known = v.2 }
version_case _ i y e h = absurd (cc)

version_step : (i : Input) (y : Unit {0} × Input) → version i ≡ Ok y → Versioned i y.1
unfolding version
version_step i y h = version_case (token i) i y refl h

count_test : (b : Bool) (m n : ℕ) → cond b (Some m) None ≡ Some n → m ≡ n
count_test true m n h = cc
count_test false m n h = absurd (cc)

count_is : (z : ℤ) (n : ℕ) → rank_count z ≡ Some n → z ≡ pos n
count_is (pos m) n h = ap pos (count_test (nat_le 1 m && nat_le m RANKS_MAX) m n h)
count_is (negsuc m) n h = absurd (cc)

ranks_test : (o : Option ℕ) (i : Input) (y : ℕ × Input) → ranks_of o i ≡ Ok y → (o ≡ Some y.0) × (y.1 ≡ advanced i)
ranks_test (Some n) i y h = let o = ok_parts (n, advanced i) y h in (ap Some o.0, sym o.1)
ranks_test None i y h = absurd (cc)

ranks_case : (tk : Token) (i : Input) (y : ℕ × Input) → token i ≡ tk → ranks_by tk i ≡ Ok y → IsNumber y.0 i y.1
ranks_case (Number z) i y e h =
    let t = ranks_test (rank_count z) i y h in
    number_step y.0 i y.1 (e ∙ ap Number (count_is z y.0 t.0)) t.1
ranks_case _ i y e h = absurd (cc)

ranks_step : (i : Input) (y : ℕ × Input) → ranks i ≡ Ok y → IsNumber y.0 i y.1
unfolding ranks
ranks_step i y h = ranks_case (token i) i y refl h

-- ---- declarations

unknown : (o : Option Slot) (e : ReadFault) (x y : Unit {0} × Input) → cond (is_known o) (Err e) (Ok x) ≡ Ok y → (o ≡ None) × (x ≡ y)
unknown None e x y h = (refl, cc)
unknown (Some s) e x y h = absurd (cc)

fresh_ok : (i : Input) (y : Unit {0} × Input) → fresh i ≡ Ok y → (slot_in i.decls (spelling i) ≡ None) × (y.1 ≡ i)
unfolding fresh
fresh_ok i y h =
    let t = unknown (slot_in i.decls (spelling i)) (fault Twice (place i)) (tt, i) y h in
    (t.0, sym (ap (λ p. p.1) t.1))

carried_decls : (ds es : List Declared) (ss : List Spot) (fs : List Declared) → ds ≡ es → WrittenDecls ds ss fs → WrittenDecls es ss fs
carried_decls ds es ss fs e x = rw (← e) x

-- a name was declared, and nothing else has changed
record Adds (kind : DeclKind) (name : List ℕ) (size : Option ℕ) (i j : Input) : Type 0 where
  pub tokens : j.tokens ≡ i.tokens
  pub version : j.version ≡ i.version
  pub decls : j.decls ≡ i.decls ++ declared_as kind name size ∷ []
  pub lines : j.lines ≡ i.lines

add_ok : (kind : DeclKind) (name : List ℕ) (size : Option ℕ) (at : ℕ) (i : Input) (y : Unit {0} × Input) → add kind name size at i ≡ Ok y → Adds kind name size i y.1
unfolding add
add_ok kind name size at i y h =
    let t = test_ok (cells_fit kind size i.decls) (fault TooMany at) (tt, record i { decls = i.decls ++ declared_as kind name size ∷ [] }) y h in
    record { tokens = sym (ap (λ p. p.1.tokens) t.1); version = sym (ap (λ p. p.1.version) t.1); decls = sym (ap (λ p. p.1.decls) t.1); lines = sym (ap (λ p. p.1.lines) t.1) }

same_token : (i j : Input) → j.tokens ≡ i.tokens → token j ≡ token i
unfolding token
same_token i j e = ap token_of e

-- what is behind a name without a size
record Ends (kind : DeclKind) (name : List ℕ) (i j : Input) : Type 0 where
  pub end : Spot
  pub is : i.tokens ≡ end ∷ j.tokens
  pub is_end : end.token ≡ Is m.Semicolon
  pub version : j.version ≡ i.version
  pub decls : j.decls ≡ i.decls ++ declared_as kind name None ∷ []
  pub lines : j.lines ≡ i.lines

single_ok : (kind : DeclKind) (name : List ℕ) (at : ℕ) (i : Input) (y : Unit {0} × Input) → single kind name at i ≡ Ok y → Ends kind name i y.1
unfolding single
single_ok kind name at i y h =
    let a = bind_ok (add kind name None at i) _ y h in
    let d = add_ok kind name None at i a.0 a.1 in
    let z = expect_step m.Semicolon a.0.1 y a.2 in
    record { end = z.0.spot; is = sym d.tokens ∙ z.0.moves.is; is_end = z.1; version = z.0.moves.version ∙ d.version; decls = z.0.moves.decls ∙ d.decls; lines = z.0.moves.lines ∙ d.lines }

-- a size, and what is behind it
record Sizes (kind : DeclKind) (name : List ℕ) (i j : Input) : Type 0 where
  pub cells : ℕ
  pub count : Spot
  pub close : Spot
  pub end : Spot
  pub is : i.tokens ≡ count ∷ close ∷ end ∷ j.tokens
  pub is_count : count.token ≡ Number (pos cells)
  pub is_close : close.token ≡ Is m.SquareClose
  pub is_end : end.token ≡ Is m.Semicolon
  pub version : j.version ≡ i.version
  pub decls : j.decls ≡ i.decls ++ declared_as kind name (Some cells) ∷ []
  pub lines : j.lines ≡ i.lines

size_is : (z : ℤ) (n : ℕ) → natural z ≡ Some n → z ≡ pos n
size_is (pos k) n h = let e : k ≡ n = cc in ap pos e
size_is (negsuc k) n h = absurd (cc)

sizes : (kind : DeclKind) (name : List ℕ) (n : ℕ) (i x1 x2 x3 j : Input) → token i ≡ Number (pos n) → Adds kind name (Some n) i x1 → (s : Step x1 x2) → (c : Step x2 x3) → c.spot.token ≡ Is m.SquareClose
    → (z : Step x3 j) → z.spot.token ≡ Is m.Semicolon → Sizes kind name i j
sizes kind name n i x1 x2 x3 j e d s c q z p = record {
  cells = n;
  count = s.spot;
  close = c.spot;
  end = z.spot;
  is = sym d.tokens ∙ s.moves.is ∙ ap (λ r. s.spot ∷ r) (c.moves.is ∙ ap (λ r. c.spot ∷ r) z.moves.is);
  is_count = s.token ∙ same_token i x1 d.tokens ∙ e;
  is_close = q;
  is_end = p;
  version = z.moves.version ∙ c.moves.version ∙ s.moves.version ∙ d.version;
  decls = z.moves.decls ∙ c.moves.decls ∙ s.moves.decls ∙ d.decls;
  lines = z.moves.lines ∙ c.moves.lines ∙ s.moves.lines ∙ d.lines;
}

no_end : (i : Input) (z : ℤ) → token i ≡ Number z → token i ≢ End
no_end i z e x = absurd (cc)

array_size_at_ok : (kind : DeclKind) (name : List ℕ) (o : Option ℕ) (i : Input) (y : Unit {0} × Input) → ((n : ℕ) → o ≡ Some n → token i ≡ Number (pos n)) → array_size_at kind name o i ≡ Ok y
    → Sizes kind name i y.1
array_size_at_ok kind name None i y is h = absurd (cc)
array_size_at_ok kind name (Some n) i y is h =
    let a = bind_ok (add kind name (Some n) (place i) i) _ y h in
    let d = add_ok kind name (Some n) (place i) i a.0 a.1 in
    let e = is n refl in
    let s = next_step a.0.1 (advanced a.0.1) (no_end a.0.1 (pos n) (same_token i a.0.1 d.tokens ∙ e)) refl in
    let b = bind_ok (expect m.SquareClose (advanced a.0.1)) _ y a.2 in
    let c = expect_step m.SquareClose (advanced a.0.1) b.0 b.1 in
    let z = expect_step m.Semicolon b.0.1 y b.2 in
    sizes kind name n i a.0.1 (advanced a.0.1) b.0.1 y.1 e d s c.0 c.1 z.0 z.1

size_case : (kind : DeclKind) (name : List ℕ) (tk : Token) (i : Input) (y : Unit {0} × Input) → token i ≡ tk → array_size_by kind name tk i ≡ Ok y → Sizes kind name i y.1
size_case kind name (Number z) i y e h = array_size_at_ok kind name (natural z) i y (λ n is. e ∙ ap Number (size_is z n is)) h
size_case kind name _ i y e h = absurd (cc)

array_size_ok : (kind : DeclKind) (name : List ℕ) (i : Input) (y : Unit {0} × Input) → array_size kind name i ≡ Ok y → Sizes kind name i y.1
unfolding array_size
array_size_ok kind name i y h = size_case kind name (token i) i y refl h

-- a declaration behind the word that begins it, whatever follows it
pub record Declares (kind : DeclKind) (i j : Input) : Type 0 where
  pub used : List Spot
  pub name : List ℕ
  pub size : Option ℕ
  pub is : i.tokens ≡ used ++ j.tokens
  pub version : j.version ≡ i.version
  pub decls : j.decls ≡ i.decls ++ declared_as kind name size ∷ []
  pub lines : j.lines ≡ i.lines
  pub written : (v : Spot) (ss : List Spot) (es : List Declared) → declares v.token ≡ Some kind → WrittenDecls (i.decls ++ declared_as kind name size ∷ []) ss es
      → WrittenDecls i.decls (v ∷ used ++ ss) es

-- one more declaration, as it is seen from before the name
named_so : (kind : DeclKind) (i x j : Input) (name : List ℕ) (size : Option ℕ) (s : Step i x) → name ≡ s.spot.text → j.decls ≡ x.decls ++ declared_as kind name size ∷ []
    → j.decls ≡ i.decls ++ declared_as kind s.spot.text size ∷ []
named_so kind i x j name size s e h = h ∙ ap (λ ds. ds ++ declared_as kind name size ∷ []) s.moves.decls ∙ ap (λ t. i.decls ++ declared_as kind t size ∷ []) e

one_declared : (kind : DeclKind) (i x j : Input) → token i ≡ Name → slot_in i.decls (spelling i) ≡ None → (s : Step i x) → Ends kind (spelling i) x j → Declares kind i j
one_declared kind i x j e free s d = record {
  used = s.spot ∷ d.end ∷ [];
  name = s.spot.text;
  size = None;
  is = s.moves.is ∙ ap (λ r. s.spot ∷ r) d.is;
  version = d.version ∙ s.moves.version;
  decls = named_so kind i x j (spelling i) None s (sym s.text) d.decls;
  lines = d.lines ∙ s.moves.lines;
  written = λ v ss es ev w. declares_one i.decls es kind v s.spot d.end ss ev (s.token ∙ e) (ap (slot_in i.decls) s.text ∙ free) d.is_end w;
}

many_declared : (kind : DeclKind) (i x y j : Input) → token i ≡ Name → slot_in i.decls (spelling i) ≡ None → (s : Step i x) → (a : Step x y) → a.spot.token ≡ Is m.SquareOpen
    → Sizes kind (spelling i) y j → Declares kind i j
many_declared kind i x y j e free s a q d = record {
  used = s.spot ∷ a.spot ∷ d.count ∷ d.close ∷ d.end ∷ [];
  name = s.spot.text;
  size = Some d.cells;
  is = s.moves.is ∙ ap (λ r. s.spot ∷ r) (a.moves.is ∙ ap (λ r. a.spot ∷ r) d.is);
  version = d.version ∙ a.moves.version ∙ s.moves.version;
  decls = named_so kind i x j (spelling i) (Some d.cells) s (sym s.text) (d.decls ∙ ap (λ ds. ds ++ declared_as kind (spelling i) (Some d.cells) ∷ []) a.moves.decls);
  lines = d.lines ∙ a.moves.lines ∙ s.moves.lines;
  written = λ v ss es ev w. declares_array i.decls es kind v s.spot a.spot d.count d.close d.end d.cells ss ev (s.token ∙ e) (ap (slot_in i.decls) s.text ∙ free) q d.is_count d.is_close d.is_end w;
}

declarator_case : (kind : DeclKind) (found : Bool) (i x : Input) (at : ℕ) (y : Unit {0} × Input) → token i ≡ Name → slot_in i.decls (spelling i) ≡ None → Step i x → sees m.SquareOpen x ≡ found
    → cond found (array_size kind (spelling i)) (single kind (spelling i) at) (cond found (advanced x) x) ≡ Ok y → Declares kind i y.1
declarator_case kind true i x at y e free s is h =
    let open_bracket = sees_is m.SquareOpen x is in
    let a = next_step x (advanced x) (λ z. absurd (cc)) refl in
    many_declared kind i x (advanced x) y.1 e free s a (a.token ∙ open_bracket) (array_size_ok kind (spelling i) (advanced x) y h)
declarator_case kind false i x at y e free s is h = one_declared kind i x y.1 e free s (single_ok kind (spelling i) at x y h)

declarator_ok : (kind : DeclKind) (i : Input) (y : Unit {0} × Input) → token i ≡ Name → declarator kind i ≡ Ok y → Declares kind i y.1
unfolding declarator after
declarator_ok kind i y e h =
    let a = bind_ok (fresh i) _ y h in
    let f = fresh_ok i a.0 a.1 in
    let s = next_step i (advanced a.0.1) (λ x. absurd (cc)) (ap advanced f.1) in
    declarator_case kind (sees m.SquareOpen (advanced a.0.1)) i (advanced a.0.1) (place i) y e f.0 s refl a.2

decl_case : (kind : DeclKind) (tk : Token) (i : Input) (y : Unit {0} × Input) → token i ≡ tk → decl_by kind tk i ≡ Ok y → Declares kind i y.1
decl_case kind Name i y e h = declarator_ok kind i y e h
decl_case kind _ i y e h = absurd (cc)

pub decl_ok : (kind : DeclKind) (i : Input) (y : Unit {0} × Input) → decl kind i ≡ Ok y → Declares kind i y.1
unfolding decl
decl_ok kind i y h = decl_case kind (token i) i y refl h

pub record TakesDecls (i j : Input) : Type 0 where
  pub used : List Spot
  pub is : i.tokens ≡ used ++ j.tokens
  pub written : WrittenDecls i.decls used j.decls
  pub version : j.version ≡ i.version
  pub lines : j.lines ≡ i.lines

no_decls : (i j : Input) → i ≡ j → TakesDecls i j
no_decls i j e = record { used = []; is = ap (λ k. k.tokens) e; written = rw (← e) (none i.decls); version = sym (ap (λ k. k.version) e); lines = sym (ap (λ k. k.lines) e) }

more_decls : (kind : DeclKind) (i x y j : Input) → (s : Step i x) → declares s.spot.token ≡ Some kind → Declares kind x y → TakesDecls y j → TakesDecls i j
more_decls kind i x y j s e d r = record {
  used = s.spot ∷ d.used ++ r.used;
  is = s.moves.is ∙ ap (λ q. s.spot ∷ q) (d.is ∙ ap (λ q. d.used ++ q) r.is ∙ sym (append_assoc d.used r.used j.tokens));
  written = carried_decls x.decls i.decls (s.spot ∷ d.used ++ r.used) j.decls s.moves.decls
      (d.written s.spot r.used j.decls e (carried_decls y.decls (x.decls ++ declared_as kind d.name d.size ∷ []) r.used j.decls d.decls r.written));
  version = r.version ∙ d.version ∙ s.moves.version;
  lines = r.lines ∙ d.lines ∙ s.moves.lines;
}

-- the end of the text declares nothing
end_declares : (t : Token) (kind : DeclKind) → declares t ≡ Some kind → t ≢ End
end_declares t kind h e = let none_there : declares End ≡ Some kind = ap declares (sym e) ∙ h in absurd (cc)

-- the word that begins a declaration
pub begins_decl : (kind : DeclKind) (i : Input) → declares (token i) ≡ Some kind → (s : Step i (advanced i)) × (declares s.spot.token ≡ Some kind)
begins_decl kind i e = let s = next_step i (advanced i) (end_declares (token i) kind e) refl in (s, ap declares s.token ∙ e)

decls_case : (p : Parser (Unit {0})) → ((i : Input) (y : Unit {0} × Input) → p i ≡ Ok y → TakesDecls i y.1) → (o : Option DeclKind) (i : Input) (y : Unit {0} × Input)
    → declares (token i) ≡ o → decls_by p o i ≡ Ok y → TakesDecls i y.1
decls_case p s (Some kind) i y e h =
    let v = begins_decl kind i e in
    let b = bind_ok (decl kind (advanced i)) _ y h in
    more_decls kind i (advanced i) b.0.1 y.1 v.0 v.1 (decl_ok kind (advanced i) b.0 b.1) (s b.0.1 y b.2)
decls_case p s None i y e h = no_decls i y.1 (ok_parts (tt, i) y h).1

decls_from_ok : (n : ℕ) (i : Input) (y : Unit {0} × Input) → decls_from n i ≡ Ok y → TakesDecls i y.1
unfolding decls_from
decls_from_ok zero i y h = absurd (cc)
decls_from_ok (suc n) i y h = decls_case (decls_from n) (λ x z e. decls_from_ok n x z e) (declares (token i)) i y refl h

decls_ok : (i : Input) (y : Unit {0} × Input) → decls i ≡ Ok y → TakesDecls i y.1
unfolding decls
decls_ok i y h = decls_from_ok (length i.tokens + 1) i y h

-- ---- the header

pub record Header (n : ℕ) (i j : Input) : Type 0 where
  pub mpd : Spot
  pub version : Spot
  pub first : Spot
  pub ranks : Spot
  pub count : Spot
  pub second : Spot
  pub used : List Spot
  pub is : i.tokens ≡ mpd ∷ version ∷ first ∷ ranks ∷ count ∷ second ∷ used ++ j.tokens
  pub is_mpd : mpd.token ≡ Is m.Mpd
  pub is_version : version.token ≡ Number (pos j.version)
  pub is_first : first.token ≡ Is m.Semicolon
  pub is_ranks : ranks.token ≡ Is m.Ranks
  pub is_count : count.token ≡ Number (pos n)
  pub is_second : second.token ≡ Is m.Semicolon
  pub decls : WrittenDecls i.decls used j.decls
  pub lines : j.lines ≡ i.lines
  pub some_version : 1 ≤ j.version
  pub known : j.version ≤ LANGUAGE_MAX

header_is : (n : ℕ) (i x1 x2 x3 x4 x5 x6 j : Input) → (s1 : Step i x1) → s1.spot.token ≡ Is m.Mpd → (v : Versioned x1 x2)
    → (s3 : Step x2 x3) → s3.spot.token ≡ Is m.Semicolon → (s4 : Step x3 x4) → s4.spot.token ≡ Is m.Ranks → (s5 : Step x4 x5) → s5.spot.token ≡ Number (pos n)
    → (s6 : Step x5 x6) → s6.spot.token ≡ Is m.Semicolon → TakesDecls x6 j → Header n i j
header_is n i x1 x2 x3 x4 x5 x6 j s1 e1 v s3 e3 s4 e4 s5 e5 s6 e6 ds =
    let old : x6.decls ≡ i.decls = s6.moves.decls ∙ s5.moves.decls ∙ s4.moves.decls ∙ s3.moves.decls ∙ v.step.moves.decls ∙ s1.moves.decls in
    let same : x6.lines ≡ i.lines = s6.moves.lines ∙ s5.moves.lines ∙ s4.moves.lines ∙ s3.moves.lines ∙ v.step.moves.lines ∙ s1.moves.lines in
    let said : v.number ≡ j.version = sym (ds.version ∙ s6.moves.version ∙ s5.moves.version ∙ s4.moves.version ∙ s3.moves.version ∙ v.step.moves.version) in
    record {
      mpd = s1.spot;
      version = v.step.spot;
      first = s3.spot;
      ranks = s4.spot;
      count = s5.spot;
      second = s6.spot;
      used = ds.used;
      is = s1.moves.is ∙ ap (λ r. s1.spot ∷ r) (v.step.moves.is ∙ ap (λ r. v.step.spot ∷ r) (s3.moves.is ∙ ap (λ r. s3.spot ∷ r)
          (s4.moves.is ∙ ap (λ r. s4.spot ∷ r) (s5.moves.is ∙ ap (λ r. s5.spot ∷ r) (s6.moves.is ∙ ap (λ r. s6.spot ∷ r) ds.is)))));
      is_mpd = e1;
      is_version = v.token ∙ ap (λ k. Number (pos k)) said;
      is_first = e3;
      is_ranks = e4;
      is_count = e5;
      is_second = e6;
      decls = carried_decls x6.decls i.decls ds.used j.decls old ds.written;
      lines = ds.lines ∙ same;
      some_version = subst (λ k. 1 ≤ k) said v.some_version;
      known = subst (λ k. k ≤ LANGUAGE_MAX) said v.known;
    }

pub header_ok : (i : Input) (y : ℕ × Input) → header i ≡ Ok y → Header y.0 i y.1
unfolding header
header_ok i y h =
    let a = bind_ok (expect m.Mpd i) _ y h in
    let b = bind_ok (version a.0.1) _ y a.2 in
    let c = bind_ok (expect m.Semicolon b.0.1) _ y b.2 in
    let d = bind_ok (expect m.Ranks c.0.1) _ y c.2 in
    let e = bind_ok (ranks d.0.1) _ y d.2 in
    let f = bind_ok (expect m.Semicolon e.0.1) _ y e.2 in
    let g = bind_ok (decls f.0.1) _ y f.2 in
    let o = ok_parts (e.0.0, g.0.1) y g.2 in
    let s1 = expect_step m.Mpd i a.0 a.1 in
    let s2 = version_step a.0.1 b.0 b.1 in
    let s3 = expect_step m.Semicolon b.0.1 c.0 c.1 in
    let s4 = expect_step m.Ranks c.0.1 d.0 d.1 in
    let s5 = ranks_step d.0.1 e.0 e.1 in
    let s6 = expect_step m.Semicolon e.0.1 f.0 f.1 in
    carried (λ n j. Header n i j) _ _ _ _ o.0 o.1
    (header_is e.0.0 i a.0.1 b.0.1 c.0.1 d.0.1 e.0.1 f.0.1 g.0.1 s1.0 s1.1 s2 s3.0 s3.1 s4.0 s4.1 s5.0 s5.1 s6.0 s6.1 (decls_ok f.0.1 g.0 g.1))

-- ---- one line for each statement

pub lines_counted : (i x y : Input) (n : ℕ) (ts : List Tree) (depth : ℕ) (inside : Bool) → i.lines ≡ [] → header i ≡ Ok (n, x) → body (block depth) inside x ≡ Ok (ts, y)
    → length y.lines ≡ statements_in (block_of ts)
lines_counted i x y n ts depth inside e h b =
    let head = header_ok i (n, x) h in
    let t = statements_sound depth inside x y ts b in
    let l : y.lines ≡ t.begun = t.lines ∙ ap (λ r. r ++ t.begun) (head.lines ∙ e) in
    ap length l ∙ body_lines x.decls t.used ts t.begun t.written.0

-- a header and a body are a script
pub script_reads : (i x y : Input) (n : ℕ) (ts : List Tree) (v : ℕ) (ds : List Declared) (ls : List ℕ) → header i ≡ Ok (n, x) → body (block BLOCKS_MAX) false x ≡ Ok (ts, y)
    → v ≡ y.version → ds ≡ y.decls → ls ≡ y.lines → read_of (grammar.script i) ≡ Ok (record { version = v; ranks = n; decls = ds; body = ts; lines = ls })
unfolding grammar.script
script_reads i x y n ts v ds ls h b same_version same_decls same_lines = rw (h, b, same_version, same_decls, same_lines) refl

-- ---- the whole text

ends_case : (p : Parser (List Tree)) (inside : Bool) (n : ℕ) (found ts : List Tree) (i j : Input) (ends : Bool) → closes inside (token i) ≡ ends
    → ((f : List Tree) (x : Input) → stmts p inside n f x ≡ Ok (ts, j) → closes inside (token j) ≡ true)
    → cond ends (pure found) (stmt p >>= λ s. stmts p inside n (found ++ s ∷ [])) i ≡ Ok (ts, j) → closes inside (token j) ≡ true
ends_case p inside n found ts i j true e more h = let o = ok_parts (found, i) (ts, j) h in ap (λ k. closes inside (token k)) (sym o.1) ∙ e
ends_case p inside n found ts i j false e more h =
    let b = bind_ok (stmt p i) _ (ts, j) h in
    more (found ++ b.0.0 ∷ []) b.0.1 b.2

body_ends : (p : Parser (List Tree)) (inside : Bool) (n : ℕ) (found ts : List Tree) (i j : Input) → stmts p inside n found i ≡ Ok (ts, j) → closes inside (token j) ≡ true
unfolding stmts
body_ends p inside zero found ts i j h = absurd (cc)
body_ends p inside (suc n) found ts i j h = ends_case p inside n found ts i j (closes inside (token i)) refl (λ f x e. body_ends p inside n f ts x j e) h

pub body_closed : (p : Parser (List Tree)) (inside : Bool) (i j : Input) (ts : List Tree) → body p inside i ≡ Ok (ts, j) → closes inside (token j) ≡ true
unfolding body
body_closed p inside i j ts h = body_ends p inside (length i.tokens + 1) [] ts i j h

at_end : (t : Token) → closes false t ≡ true → t ≡ End
at_end End h = refl
at_end _ h = absurd (cc)

-- what is behind the last statement of a text
pub nothing_left : (i x j : Input) (n : ℕ) (ts : List Tree) → NoEnd i.tokens → Header n i x → BodyBetween ts x j → closes false (token j) ≡ true → j.tokens ≡ []
unfolding token
nothing_left i x j n ts real h b e =
    let all = h.mpd ∷ h.version ∷ h.first ∷ h.ranks ∷ h.count ∷ h.second ∷ h.used in
    let behind_header : NoEnd x.tokens = rest_real all x.tokens (rw h.is at real) in
    let behind_body : NoEnd j.tokens = rest_real b.used j.tokens (rw b.is at behind_header) in
    none_left j.tokens behind_body (at_end (token_of j.tokens) e)

-- what is written as a script, each expression within the budget
abbrev pub CheapScript : List Spot → Program → Type 0
CheapScript ss p = (w : WrittenScript ss p) × (dearest_script ss p w ≤ max_budget)

pub script_is : (i x j : Input) (n : ℕ) (ts : List Tree) → i.decls ≡ [] → i.lines ≡ [] → Header n i x → BodyBetween ts x j → j.tokens ≡ []
    → CheapScript i.tokens (record { version = j.version; ranks = n; decls = j.decls; body = ts; lines = j.lines })
script_is i x j n ts none_yet no_lines h b last =
    let used : x.tokens ≡ b.used = b.is ∙ ap (λ r. b.used ++ r) last ∙ sym (append_none Spot b.used) in
    let lines : j.lines ≡ b.begun = b.lines ∙ ap (λ r. r ++ b.begun) (h.lines ∙ no_lines) in
    let ds = carried_decls i.decls [] h.used x.decls none_yet h.decls in
    rw (h.is, used, b.version, b.decls, lines) (
      script h.mpd h.version h.first h.ranks h.count h.second h.used b.used
          (record { version = x.version; ranks = n; decls = x.decls; body = ts; lines = b.begun })
          h.is_mpd h.is_version h.is_first h.is_ranks h.is_count h.is_second ds b.written.0,
      b.written.1,
    )

script_written : (i : Input) (y : Program × Input) → NoEnd i.tokens → i.decls ≡ [] → i.lines ≡ [] → grammar.script i ≡ Ok y → WrittenScript i.tokens y.0
unfolding grammar.script
script_written i y real d l h =
    let a = bind_ok (header i) _ y h in
    let b = bind_ok (body (block max_blocks) false a.0.1) _ y a.2 in
    let o = ok_parts (record { version = b.0.1.version; ranks = a.0.0; decls = b.0.1.decls; body = b.0.0; lines = b.0.1.lines }, b.0.1) y b.2 in
    let head = header_ok i a.0 a.1 in
    let tail = statements_sound max_blocks false a.0.1 b.0.1 b.0.0 b.1 in
    let closed = body_closed (block max_blocks) false a.0.1 b.0.1 b.0.0 b.1 in
    rw (← o.0) (script_is i a.0.1 b.0.1 a.0.0 b.0.0 d l head tail (nothing_left i a.0.1 b.0.1 a.0.0 b.0.0 real head tail closed)).0

pub read_ok : (o : Outcome Program) (p : Program) → read_of o ≡ Ok p → (j : Input) × (o ≡ Ok (p, j))
read_ok (Ok y) p h = let e : y.0 ≡ p = cc in (y.1, rw (← e) refl)
read_ok (Err f) p h = absurd (cc)

pub refused : {A : Type 0} (b : Bool) (e : ReadFault) (x : Result A ReadFault) (a : A) → cond b (Err e) x ≡ Ok a → (b ≡ false) × (x ≡ Ok a)
refused true e x a h = absurd (cc)
refused false e x a h = (refl, h)

pub reading_written : (text : List ℕ) (p : Program) → reading text ≡ Ok p → WrittenScript (tokens text) p
unfolding reading
reading_written text p h =
    let a = refused (nat_lt max_text (length text)) _ _ p h in
    let b = refused (nat_lt (prefix_len is_text text) (length text)) _ _ p a.1 in
    let c = read_ok (grammar.script (start_of text)) p b.1 in
    script_written (start_of text) (p, c.0) (tokens_real 0 0 1 text) refl refl c.1
