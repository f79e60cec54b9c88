-- What is read as statements is written so, each expression within the budget, and no more statements begin than may.
use Rattle.std.proofs.Common.{◌≡◌, ◌≢◌, ℕ, zero, suc, ◌+◌, Bool, true, false, cond, List, [], ◌∷◌, ◌++◌, Option, None, Some, Ok, refl, ap, sym, subst, ◌∙◌, append_assoc, length, length-append, nat_lt, nat_le, ◌<◌, ◌≤◌, arith}
use Rattle.std.proofs.lemmas.Bool.Decides.{nat_tests}
use Rattle.mpd_model.specs.declared.limits.TheConstants.{STATEMENTS_MAX}
use Rattle.mpd_model.specs.declared.place.DeclKind.TheVariants.{Variable}
use Rattle.mpd_model.specs.declared.read_fault.FaultCode.TheVariants.{NotInVersion, TooDeep}
use Rattle.mpd_model.specs.declared.slot.Slot.{Slot}
use Rattle.mpd_model.specs.declared.token.Symbol.{Symbol}
use Rattle.mpd_model.specs.declared.token.Symbol.TheVariants as m
use Rattle.mpd_model.specs.declared.token.Token.{Token}
use Rattle.mpd_model.specs.declared.token.Token.TheVariants.{Name, Is, End}
use Rattle.mpd_model.specs.script.Declaration.{Declared}
use Rattle.mpd_model.specs.grammar.Grammar.{expression, begin_statement, closes, place_of_slot, index_outside, Form, form_of, behind_word, by_form, since, assignment, otherwise, if_statement, while_statement, stmt_by, stmt, stmts, body, block}
use Rattle.mpd_model.specs.grammar.Input.{Input, Outcome, Parser, token, token_of, spelling, advanced, behind, expect, seek, sees, count, slot_in, first_line, after, pure, fail, refuse, ◌>>=◌, ◌>>◌}
use Rattle.mpd_model.specs.script.Parts.{of_symbol, of_target, symbol_hole, term_hole, filled}
use Rattle.mpd_model.specs.declared.stmt.Simple.TheVariants as st
use Rattle.mpd_model.specs.script.Term.{Term}
use Rattle.mpd_model.specs.grammar.Tokens.{Spot}
use Rattle.mpd_model.specs.script.Tree.{Tree, simple, branch, repeat, no_more, block_of}
use Rattle.mpd_model.specs.grammar.Written as written
use Rattle.mpd_laws.proofs.sound.Cheap.{CheapParts, then_part, by_symbol, by_target, CheapTree, simply, repeats, chooses, chooses_else, CheapBlock, braces, CheapBody, ended, follows}
use Rattle.mpd_laws.proofs.sound.Sound.{bind_ok, ok_parts, carried, test_ok, first_spot, Moves, Step, next_step, sees_is, expect_step, seek_ok, NamedBy}
use Rattle.mpd_laws.proofs.sound.SoundParts.{Read, expression_ok, index_outside_ok, part_moves, part_first, fill_ok}

-- ---- no more statements than may be

abbrev pub IsFew : Input → Type 0
IsFew i = length i.lines ≤ STATEMENTS_MAX

same_lines : (i j : Input) → j.lines ≡ i.lines → IsFew i → IsFew j
same_lines i j e h = omega (arith, ap length e, h)

-- the tokens between two states of the input write something, whose statements are on the lines that were noted
pub record LinesBetween (Writes : List Declared → List Spot → List ℕ → Type 0) (i j : Input) : Type 0 where
  pub used : List Spot
  pub begun : List ℕ
  pub is : i.tokens ≡ used ++ j.tokens
  pub written : Writes i.decls used begun
  pub version : j.version ≡ i.version
  pub decls : j.decls ≡ i.decls
  pub lines : j.lines ≡ i.lines ++ begun
  pub few : IsFew i → IsFew j

abbrev pub TreeBetween : Tree → Input → Input → Type 0
TreeBetween t = LinesBetween (λ ds ss ls. CheapTree ds ss t ls)

abbrev pub BlockBetween : List Tree → Input → Input → Type 0
BlockBetween ts = LinesBetween (λ ds ss ls. CheapBlock ds ss ts ls)

abbrev pub BodyBetween : List Tree → Input → Input → Type 0
BodyBetween ts = LinesBetween (λ ds ss ls. CheapBody ds ss ts ls)

-- ---- the first token of a statement

pub record Begun (i j : Input) : Type 0 where
  pub spot : Spot
  pub is : i.tokens ≡ spot ∷ j.tokens
  pub token : spot.token ≡ token i
  pub text : spot.text ≡ spelling i
  pub version : j.version ≡ i.version
  pub decls : j.decls ≡ i.decls
  pub lines : j.lines ≡ i.lines ++ spot.line ∷ []
  pub few : IsFew j

begin_statement_spot : (i j : Input) → token_of i.tokens ≢ End → j.tokens ≡ behind i.tokens → j.version ≡ i.version → j.decls ≡ i.decls → j.lines ≡ i.lines ++ first_line i.tokens ∷ [] → IsFew j → Begun i j
unfolding token spelling
begin_statement_spot i j some a v b c few =
    let f = first_spot i.tokens some in
    record {
      spot = f.0;
      is = f.1 ∙ ap (λ r. f.0 ∷ r) (sym a);
      token = f.2;
      text = f.3;
      version = v;
      decls = b;
      lines = c ∙ ap (λ r. i.lines ++ first_line r ∷ []) f.1;
      few = few;
    }

one_fits : (i j : Input) → nat_lt (length i.lines) STATEMENTS_MAX ≡ true → j.lines ≡ i.lines ++ first_line i.tokens ∷ [] → IsFew j
one_fits i j h e =
    let less : length i.lines < STATEMENTS_MAX = grind (arith, nat_tests) in
    omega (arith, less, ap length e, length-append i.lines (first_line i.tokens ∷ []))

pub begin_statement_ok : (i : Input) (y : Unit {0} × Input) → token i ≢ End → begin_statement i ≡ Ok y → Begun i y.1
unfolding count advanced token
begin_statement_ok i y some h =
    let b = bind_ok (count i) _ y h in
    let c = test_ok (nat_lt (length i.lines) STATEMENTS_MAX) _ _ b.0 b.1 in
    let o = ok_parts (tt, advanced b.0.1) y b.2 in
    let t : y.1.tokens ≡ behind b.0.1.tokens = sym (ap (λ k. k.tokens) o.1) in
    let v : y.1.version ≡ b.0.1.version = sym (ap (λ k. k.version) o.1) in
    let d : y.1.decls ≡ b.0.1.decls = sym (ap (λ k. k.decls) o.1) in
    let l : y.1.lines ≡ b.0.1.lines = sym (ap (λ k. k.lines) o.1) in
    begin_statement_spot i y.1 some
    (t ∙ sym (ap (λ p. behind p.1.tokens) c.1)) (v ∙ sym (ap (λ p. p.1.version) c.1)) (d ∙ sym (ap (λ p. p.1.decls) c.1)) (l ∙ sym (ap (λ p. p.1.lines) c.1))
    (one_fits i y.1 c.0 (l ∙ sym (ap (λ p. p.1.lines) c.1)))

-- ---- what follows the first token

-- the tokens behind the first one write the statement, wherever it stands
pub record Rest (k : Symbol) (t : Tree) (i j : Input) : Type 0 where
  pub used : List Spot
  pub begun : List ℕ
  pub is : i.tokens ≡ used ++ j.tokens
  pub version : j.version ≡ i.version
  pub decls : j.decls ≡ i.decls
  pub lines : j.lines ≡ i.lines ++ begun
  pub few : IsFew i → IsFew j
  pub written : (s : Spot) → s.token ≡ Is k → CheapTree i.decls (s ∷ used) t (s.line ∷ begun)

pub append_none : (A : Type 0) (xs : List A) → xs ≡ xs ++ []
append_none A [] = refl
append_none A (x ∷ xs) = ap (λ r. x ∷ r) (append_none A xs)

-- a statement that holds no other
flat : (k : Symbol) (t : Tree) (used : List Spot) (i j : Input) → Moves used i j → ((s : Spot) → s.token ≡ Is k → CheapTree i.decls (s ∷ used) t (s.line ∷ [])) → Rest k t i j
flat k t used i j x w = record { used = used; begun = []; is = x.is; version = x.version; decls = x.decls; lines = x.lines ∙ append_none ℕ i.lines; few = same_lines i j x.lines; written = w }

form_rest : (f : Form) (i j : Input) (t : Tree) → behind_word f i ≡ Ok (t, j) → Rest f.word t i j
form_rest f i j t h =
    let r = fill_ok f.holes (λ c. simple (f.made c)) i j t h in
    subst (λ t. Rest f.word t i j) r.is (flat f.word (simple (f.made r.contents)) (r.used ++ r.end ∷ []) i j r.moves
    (λ s is. simply (s ∷ r.used) r.end (f.made r.contents)
    (subst (CheapParts i.decls (s ∷ r.used)) (sym (f.parts r.contents)) (then_part (s ∷ []) r.used (of_symbol f.word) (filled f.holes r.contents) (by_symbol s f.word is) r.written)) r.closed))

-- what follows the name that an assignment begins with
record Assigns (slot : Slot) (t : Tree) (i j : Input) : Type 0 where
  pub used : List Spot
  pub moves : Moves used i j
  pub written : (s : Spot) → NamedBy i.decls Variable slot s → CheapTree i.decls (s ∷ used) t (s.line ∷ [])

assignment_ok : (slot : Slot) (i j : Input) (t : Tree) → assignment slot i ≡ Ok (t, j) → Assigns slot t i j
unfolding assignment
assignment_ok slot i j t h =
    let a = bind_ok (index_outside (place_of_slot slot) slot.size i) _ (t, j) h in
    let o = index_outside_ok Variable slot i a.0.1 a.0.0 a.1 in
    let r = fill_ok (symbol_hole m.Assign ∷ term_hole ∷ []) (λ c. simple (st.Assign (record { into = a.0.0; value = c.0 }))) a.0.1 j t a.2 in
    subst (λ t. Assigns slot t i j) r.is
    (record {
      used = o.used ++ r.used ++ r.end ∷ [];
      moves = part_moves o.used r.used r.end i a.0.1 j o.moves r.moves;
      written = λ s n. simply (s ∷ o.used ++ r.used) r.end (st.Assign (record { into = a.0.0; value = r.contents.0 }))
          (part_first (of_target Variable a.0.0) (filled (symbol_hole m.Assign ∷ term_hole ∷ []) r.contents) (s ∷ o.used) r.used i a.0.1 o.moves.decls (by_target (s ∷ o.used) Variable a.0.0 (o.written s n)) r.written) r.closed;
    })

-- ---- statements that hold others

abbrev pub IsSoundBlock : Parser (List Tree) → Type 0
IsSoundBlock b = (i j : Input) (ts : List Tree) → b i ≡ Ok (ts, j) → BlockBetween ts i j

-- two runs of tokens, each with its lines
record Lines (used : List Spot) (begun : List ℕ) (i j : Input) : Type 0 where
  pub is : i.tokens ≡ used ++ j.tokens
  pub version : j.version ≡ i.version
  pub decls : j.decls ≡ i.decls
  pub lines : j.lines ≡ i.lines ++ begun
  pub few : IsFew i → IsFew j

then_lines : (a b : List Spot) (ls ms : List ℕ) (i j k : Input) → Lines a ls i j → Lines b ms j k → Lines (a ++ b) (ls ++ ms) i k
then_lines a b ls ms i j k x y = record {
  is = x.is ∙ ap (λ r. a ++ r) y.is ∙ sym (append_assoc a b k.tokens);
  version = y.version ∙ x.version;
  decls = y.decls ∙ x.decls;
  lines = y.lines ∙ ap (λ r. r ++ ms) x.lines ∙ append_assoc i.lines ls ms;
  few = λ h. y.few (x.few h);
}

moves_lines : (used : List Spot) (i j : Input) → Moves used i j → Lines used [] i j
moves_lines used i j x = record { is = x.is; version = x.version; decls = x.decls; lines = x.lines ∙ append_none ℕ i.lines; few = same_lines i j x.lines }

lines_of : (W : List Declared → List Spot → List ℕ → Type 0) (i j : Input) (x : LinesBetween W i j) → Lines x.used x.begun i j
lines_of W i j x = record { is = x.is; version = x.version; decls = x.decls; lines = x.lines; few = x.few }

abbrev OneBlock : List Tree → List Declared → List Spot → List ℕ → Type 0
OneBlock ts ds ss ls = CheapBlock ds ss ts ls

-- a block seen from where the statement began
there : (ts : List Tree) (i x j : Input) → x.decls ≡ i.decls → (b : BlockBetween ts x j) → CheapBlock i.decls b.used ts b.begun
there ts i x j e b = rw (← e) b.written

chosen_alone : (i a j : Input) (t : Term) (x : List Tree) → Read t i a → BlockBetween x a j → Rest m.If (branch t (block_of x) no_more) i j
chosen_alone i a j t x r b =
    let all = then_lines r.used b.used [] b.begun i a j (moves_lines r.used i a r.moves) (lines_of (OneBlock x) a j b) in
    record {
      used = r.used ++ b.used;
      begun = b.begun;
      is = all.is;
      version = all.version;
      decls = all.decls;
      lines = all.lines;
      few = all.few;
      written = λ s is. chooses s r.used b.used t x b.begun is r.written (there x i a j r.moves.decls b);
    }

chosen_else : (i a b c j : Input) (t : Term) (x y : List Tree) → Read t i a → BlockBetween x a b → (s : Step b c) → s.spot.token ≡ Is m.Else → BlockBetween y c j
    → Rest m.If (branch t (block_of x) (block_of y)) i j
chosen_else i a b c j t x y r f w e g =
    let one = then_lines r.used f.used [] f.begun i a b (moves_lines r.used i a r.moves) (lines_of (OneBlock x) a b f) in
    let more = then_lines (w.spot ∷ []) g.used [] g.begun b c j (moves_lines (w.spot ∷ []) b c w.moves) (lines_of (OneBlock y) c j g) in
    let all = then_lines (r.used ++ f.used) (w.spot ∷ g.used) f.begun g.begun i b j one more in
    record {
      used = r.used ++ f.used ++ w.spot ∷ g.used;
      begun = f.begun ++ g.begun;
      is = all.is;
      version = all.version;
      decls = all.decls;
      lines = all.lines;
      few = all.few;
      written = λ s is. chooses_else s w.spot r.used f.used g.used t x y f.begun g.begun is r.written (there x i a b r.moves.decls f) e (there y i c j (w.moves.decls ∙ one.decls) g);
    }

repeated : (i a j : Input) (t : Term) (x : List Tree) → Read t i a → BlockBetween x a j → Rest m.While (repeat t (block_of x)) i j
repeated i a j t x r b =
    let all = then_lines r.used b.used [] b.begun i a j (moves_lines r.used i a r.moves) (lines_of (OneBlock x) a j b) in
    record {
      used = r.used ++ b.used;
      begun = b.begun;
      is = all.is;
      version = all.version;
      decls = all.decls;
      lines = all.lines;
      few = all.few;
      written = λ s is. repeats s r.used b.used t x b.begun is r.written (there x i a j r.moves.decls b);
    }

-- with `else` or without
otherwise_case : (p : Parser (List Tree)) → IsSoundBlock p → (found : Bool) (i a b j : Input) (t : Term) (x y : List Tree) → sees m.Else b ≡ found
    → cond found p (pure []) (cond found (advanced b) b) ≡ Ok (y, j) → Read t i a → BlockBetween x a b → Rest m.If (branch t (block_of x) (block_of y)) i j
otherwise_case p s true i a b j t x y e h r f =
    let is = sees_is m.Else b e in
    let w = next_step b (advanced b) (λ z. absurd (cc)) refl in
    chosen_else i a b (advanced b) j t x y r f w (w.token ∙ is) (s (advanced b) j y h)
otherwise_case p s false i a b j t x y e h r f =
    let o = ok_parts ([], b) (y, j) h in
    carried (λ ts k. Rest m.If (branch t (block_of x) (block_of ts)) i k) _ _ _ _ o.0 o.1 (chosen_alone i a b t x r f)

otherwise_rest : (p : Parser (List Tree)) → IsSoundBlock p → (i a b j : Input) (t : Term) (x y : List Tree) → otherwise p b ≡ Ok (y, j)
    → Read t i a → BlockBetween x a b → Rest m.If (branch t (block_of x) (block_of y)) i j
unfolding otherwise after
otherwise_rest p s i a b j t x y h r f = otherwise_case p s (sees m.Else b) i a b j t x y refl h r f

if_statement_rest : (p : Parser (List Tree)) → IsSoundBlock p → (i j : Input) (t : Tree) → if_statement p i ≡ Ok (t, j) → Rest m.If t i j
unfolding if_statement
if_statement_rest p s i j t h =
    let a = bind_ok (expression i) _ (t, j) h in
    let b = bind_ok (p a.0.1) _ (t, j) a.2 in
    let c = bind_ok (otherwise p b.0.1) _ (t, j) b.2 in
    let o = ok_parts (branch a.0.0 (block_of b.0.0) (block_of c.0.0), c.0.1) (t, j) c.2 in
    carried (λ t j. Rest m.If t i j) _ _ _ _ o.0 o.1
    (otherwise_rest p s i a.0.1 b.0.1 c.0.1 a.0.0 b.0.0 c.0.0 c.1 (expression_ok i a.0 a.1) (s a.0.1 b.0.1 b.0.0 b.1))

while_statement_rest : (p : Parser (List Tree)) → IsSoundBlock p → (i j : Input) (t : Tree) → while_statement p i ≡ Ok (t, j) → Rest m.While t i j
unfolding while_statement
while_statement_rest p s i j t h =
    let a = bind_ok (expression i) _ (t, j) h in
    let b = bind_ok (p a.0.1) _ (t, j) a.2 in
    let o = ok_parts (repeat a.0.0 (block_of b.0.0), b.0.1) (t, j) b.2 in
    carried (λ t j. Rest m.While t i j) _ _ _ _ o.0 o.1
    (repeated i a.0.1 b.0.1 a.0.0 b.0.0 (expression_ok i a.0 a.1) (s a.0.1 b.0.1 b.0.0 b.1))

-- the first token and the rest
all_of : (k : Symbol) (t : Tree) (i x j : Input) → token i ≡ Is k → Begun i x → Rest k t x j → TreeBetween t i j
all_of k t i x j e b r = record {
  used = b.spot ∷ r.used;
  begun = b.spot.line ∷ r.begun;
  is = b.is ∙ ap (λ q. b.spot ∷ q) r.is;
  written = rw (← b.decls) (r.written b.spot (b.token ∙ e));
  version = r.version ∙ b.version;
  decls = r.decls ∙ b.decls;
  lines = r.lines ∙ ap (λ q. q ++ r.begun) b.lines ∙ append_assoc i.lines (b.spot.line ∷ []) r.begun;
  few = λ h. r.few b.few;
}

begin_statement_then : (k : Symbol) (p : Parser Tree) → ((x j : Input) (t : Tree) → p x ≡ Ok (t, j) → Rest k t x j)
    → (i j : Input) (t : Tree) → token i ≡ Is k → (begin_statement >> p) i ≡ Ok (t, j) → TreeBetween t i j
begin_statement_then k p s i j t e h =
    let b = bind_ok (begin_statement i) _ (t, j) h in
    all_of k t i b.0.1 j e (begin_statement_ok i b.0 (λ x. absurd (cc)) b.1) (s b.0.1 j t b.2)

-- an assignment, whose first token is the name
assigned : (slot : Slot) (t : Tree) (i x j : Input) → (b : Begun i x) → NamedBy i.decls Variable slot b.spot → Assigns slot t x j → TreeBetween t i j
assigned slot t i x j b n r = record {
  used = b.spot ∷ r.used;
  begun = b.spot.line ∷ [];
  is = b.is ∙ ap (λ q. b.spot ∷ q) r.moves.is;
  written = rw (← b.decls) (r.written b.spot (rw b.decls n));
  version = r.moves.version ∙ b.version;
  decls = r.moves.decls ∙ b.decls;
  lines = r.moves.lines ∙ b.lines;
  few = λ h. same_lines x j r.moves.lines b.few;
}

begin_statement_here : (i x : Input) (y : Unit {0} × Input) → i ≡ x → token i ≢ End → begin_statement x ≡ Ok y → Begun i y.1
begin_statement_here i x y e some h = begin_statement_ok i y some (rw e h)

assignment_takes : (i j : Input) (t : Tree) → token i ≡ Name → (seek Variable >>= λ s. begin_statement >> assignment s) i ≡ Ok (t, j) → TreeBetween t i j
assignment_takes i j t e h =
    let a = bind_ok (seek Variable i) _ (t, j) h in
    let k = seek_ok Variable i a.0 a.1 in
    let c = bind_ok (begin_statement a.0.1) _ (t, j) a.2 in
    let b = begin_statement_here i a.0.1 c.0 k.2 (λ x. absurd (cc)) c.1 in
    let named : NamedBy i.decls Variable a.0.0 b.spot =
    λ is_array is. record { token = b.token ∙ e; slot = a.0.0; declared = ap (slot_in i.decls) b.text ∙ k.0; kind = k.1; size = is; place = refl } in
    assigned a.0.0 t i c.0.1 j b named (assignment_ok a.0.0 c.0.1 j t c.2)

-- where a later version's statement is read, the text is in that version
since_case : (known : Bool) (p : Parser Tree) (i : Input) (y : Tree × Input) → cond known (p i) ((count >> fail NotInVersion) i) ≡ Ok y → (known ≡ true) × (p i ≡ Ok y)
since_case true p i y h = (refl, h)
since_case false p i y h = let b = bind_ok (count i) (λ x. fail {A = Tree} NotInVersion) y h in absurd (cc)

pub since_ok : (version : ℕ) (p : Parser Tree) (i : Input) (y : Tree × Input) → since version p i ≡ Ok y → (version ≤ i.version) × (p i ≡ Ok y)
since_ok version p i y h =
    let c = since_case (nat_le version i.version) p i y h in
    let known = c.0 in
    (grind (arith, nat_tests), c.1)

-- a form stands under its own word
pub form_word : (k : Symbol) (f : Form) → form_of k ≡ Some f → f.word ≡ k
form_word m.Semicolon f h = cc
form_word k f h = cc

form_case : (k : Symbol) (o : Option Form) (i j : Input) (t : Tree) → token i ≡ Is k → form_of k ≡ o → by_form o i ≡ Ok (t, j) → TreeBetween t i j
form_case k None i j t e o h = absurd (cc)
form_case k (Some f) i j t e o h = begin_statement_then f.word (behind_word f) (form_rest f) i j t (e ∙ ap Is (sym (form_word k f o))) h

stmt_case : (p : Parser (List Tree)) → IsSoundBlock p → (tk : Token) (i j : Input) (t : Tree) → token i ≡ tk → stmt_by p tk i ≡ Ok (t, j) → TreeBetween t i j
stmt_case p s Name i j t e h = assignment_takes i j t e h
stmt_case p s (Is m.If) i j t e h = begin_statement_then m.If (if_statement p) (if_statement_rest p s) i j t e h
stmt_case p s (Is m.While) i j t e h = begin_statement_then m.While (while_statement p) (while_statement_rest p s) i j t e h
stmt_case p s (Is m.Waitany) i j t e h = form_case m.Waitany (form_of m.Waitany) i j t e refl (since_ok 2 (by_form (form_of m.Waitany)) i (t, j) h).1
stmt_case p s (Is k) i j t e h = form_case k (form_of k) i j t e refl h
stmt_case p s _ i j t e h = absurd (cc)

pub stmt_sound : (p : Parser (List Tree)) → IsSoundBlock p → (i j : Input) (t : Tree) → stmt p i ≡ Ok (t, j) → TreeBetween t i j
unfolding stmt
stmt_sound p s i j t h = stmt_case p s (token i) i j t refl h

-- ---- bodies and blocks

-- what was found before, and then a body
record Found (found ts : List Tree) (i j : Input) : Type 0 where
  pub more : List Tree
  pub all : ts ≡ found ++ more
  pub takes : BodyBetween more i j

none_more : (found ts : List Tree) (i j : Input) → found ≡ ts → i ≡ j → Found found ts i j
none_more found ts i j a b = record {
  more = [];
  all = sym a ∙ append_none Tree found;
  takes = record {
    used = [];
    begun = [];
    is = ap (λ k. k.tokens) b;
    written = ended;
    version = sym (ap (λ k. k.version) b);
    decls = sym (ap (λ k. k.decls) b);
    lines = sym (ap (λ k. k.lines) b) ∙ append_none ℕ i.lines;
    few = same_lines i j (sym (ap (λ k. k.lines) b));
  };
}

abbrev OneBody : List Tree → List Declared → List Spot → List ℕ → Type 0
OneBody ts ds ss ls = CheapBody ds ss ts ls

abbrev OneTree : Tree → List Declared → List Spot → List ℕ → Type 0
OneTree t ds ss ls = CheapTree ds ss t ls

one_more : (found ts : List Tree) (t : Tree) (i x j : Input) → TreeBetween t i x → Found (found ++ t ∷ []) ts x j → Found found ts i j
one_more found ts t i x j a b =
    let both = then_lines a.used b.takes.used a.begun b.takes.begun i x j (lines_of (OneTree t) i x a) (lines_of (OneBody b.more) x j b.takes) in
    record {
      more = t ∷ b.more;
      all = b.all ∙ append_assoc found (t ∷ []) b.more;
      takes = record {
        used = a.used ++ b.takes.used;
        begun = a.begun ++ b.takes.begun;
        is = both.is;
        written = follows a.used b.takes.used t b.more a.begun b.takes.begun a.written (rw (← a.decls) b.takes.written);
        version = both.version;
        decls = both.decls;
        lines = both.lines;
        few = both.few;
      };
    }

stmts_case : (p : Parser (List Tree)) → IsSoundBlock p → (inside : Bool) (n : ℕ) (found ts : List Tree) (i j : Input) (ends : Bool)
    → ((f us : List Tree) (x y : Input) → stmts p inside n f x ≡ Ok (us, y) → Found f us x y)
    → cond ends (pure found) (stmt p >>= λ s. stmts p inside n (found ++ s ∷ [])) i ≡ Ok (ts, j) → Found found ts i j
stmts_case p s inside n found ts i j true more h = let o = ok_parts (found, i) (ts, j) h in none_more found ts i j o.0 o.1
stmts_case p s inside n found ts i j false more h =
    let b = bind_ok (stmt p i) _ (ts, j) h in
    one_more found ts b.0.0 i b.0.1 j (stmt_sound p s i b.0.1 b.0.0 b.1) (more (found ++ b.0.0 ∷ []) ts b.0.1 j b.2)

stmts_sound : (p : Parser (List Tree)) → IsSoundBlock p → (inside : Bool) (n : ℕ) (found ts : List Tree) (i j : Input) → stmts p inside n found i ≡ Ok (ts, j) → Found found ts i j
unfolding stmts
stmts_sound p s inside zero found ts i j h = absurd (cc)
stmts_sound p s inside (suc n) found ts i j h =
    stmts_case p s inside n found ts i j (closes inside (token i)) (λ f us x y e. stmts_sound p s inside n f us x y e) h

body_sound : (p : Parser (List Tree)) → IsSoundBlock p → (inside : Bool) (i j : Input) (ts : List Tree) → body p inside i ≡ Ok (ts, j) → BodyBetween ts i j
unfolding body
body_sound p s inside i j ts h =
    let f = stmts_sound p s inside (length i.tokens + 1) [] ts i j h in
    rw f.all f.takes

in_braces : (ts : List Tree) (i a b j : Input) → (o : Step i a) → o.spot.token ≡ Is m.BraceOpen → BodyBetween ts a b → (c : Step b j) → c.spot.token ≡ Is m.BraceClose → BlockBetween ts i j
in_braces ts i a b j o p x c q =
    let inner = then_lines x.used (c.spot ∷ []) x.begun [] a b j (lines_of (OneBody ts) a b x) (moves_lines (c.spot ∷ []) b j c.moves) in
    let all = then_lines (o.spot ∷ []) (x.used ++ c.spot ∷ []) [] (x.begun ++ []) i a j (moves_lines (o.spot ∷ []) i a o.moves) inner in
    record {
      used = o.spot ∷ x.used ++ c.spot ∷ [];
      begun = x.begun;
      is = all.is;
      written = braces o.spot c.spot x.used ts x.begun p (rw (← o.moves.decls) x.written) q;
      version = all.version;
      decls = all.decls;
      lines = all.lines ∙ ap (λ r. i.lines ++ r) (sym (append_none ℕ x.begun));
      few = all.few;
    }

never : (b : Bool) (x y : Outcome (List Tree)) (z : List Tree × Input) → (x ≡ Ok z → ⊥) → (y ≡ Ok z → ⊥) → cond b x y ≡ Ok z → ⊥
never true x y z a b h = a h
never false x y z a b h = b h

block_none : (i j : Input) (ts : List Tree) → block zero i ≡ Ok (ts, j) → ⊥
unfolding block
block_none i j ts h = never (sees m.BraceOpen i) (fail TooDeep i) (refuse i) (ts, j) (λ e. absurd (cc)) (λ e. absurd (cc)) h

pub block_sound : (n : ℕ) → IsSoundBlock (block n)
unfolding block
block_sound zero i j ts h = absurd (block_none i j ts h)
block_sound (suc n) i j ts h =
    let a = bind_ok (expect m.BraceOpen i) _ (ts, j) h in
    let b = bind_ok (body (block n) true a.0.1) _ (ts, j) a.2 in
    let c = bind_ok (expect m.BraceClose b.0.1) _ (ts, j) b.2 in
    let o = ok_parts (b.0.0, c.0.1) (ts, j) c.2 in
    let x = expect_step m.BraceOpen i a.0 a.1 in
    let y = expect_step m.BraceClose b.0.1 c.0 c.1 in
    carried (λ us k. BlockBetween us i k) _ _ _ _ o.0 o.1
    (in_braces b.0.0 i a.0.1 b.0.1 c.0.1 x.0 x.1 (body_sound (block n) (block_sound n) true a.0.1 b.0.1 b.0.0 b.1) y.0 y.1)

pub statements_sound : (depth : ℕ) (inside : Bool) (i j : Input) (ts : List Tree) → body (block depth) inside i ≡ Ok (ts, j) → BodyBetween ts i j
statements_sound depth = body_sound (block depth) (block_sound depth)

-- what is read is so written, whatever it costs
pub statements_written : (depth : ℕ) (inside : Bool) (i j : Input) (ts : List Tree) → body (block depth) inside i ≡ Ok (ts, j) → written.BodyBetween ts i j
statements_written depth inside i j ts h =
    let x = statements_sound depth inside i j ts h in
    record { used = x.used; begun = x.begun; is = x.is; written = x.written.0; version = x.version; decls = x.decls; lines = x.lines }
