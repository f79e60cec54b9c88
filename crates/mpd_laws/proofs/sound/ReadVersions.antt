-- What is read is of the version that the text is in.
use Rattle.std.proofs.Common.{◌≡◌, ℕ, zero, suc, ◌+◌, ◌≤◌, Bool, true, false, cond, nat_lt, List, [], ◌∷◌, ◌++◌, length, Option, None, Some, Ok, refl, sym, subst, ap, ◌∙◌, arith}
use Rattle.std.specs.List.{prefix_len}
use Rattle.mpd_model.specs.declared.limits.TheConstants.{LANGUAGE_MAX}
use Rattle.mpd_model.specs.declared.place.DeclKind.TheVariants.{Variable}
use Rattle.mpd_model.specs.declared.read_fault.FaultCode.TheVariants.{TooDeep}
use Rattle.mpd_model.specs.declared.slot.Slot.{Slot}
use Rattle.mpd_model.specs.declared.stmt.Simple.{Simple}
use Rattle.mpd_model.specs.declared.stmt.Simple.TheVariants as st
use Rattle.mpd_model.specs.declared.token.Symbol.{Symbol}
use Rattle.mpd_model.specs.declared.token.Symbol.TheVariants as m
use Rattle.mpd_model.specs.declared.token.Token.{Token}
use Rattle.mpd_model.specs.declared.token.Token.TheVariants.{Name, Is}
use Rattle.mpd_model.specs.grammar.Grammar.{expression, begin_statement, closes, place_of_slot, index_outside, Form, form_of, by_form, assignment, otherwise, if_statement, while_statement, stmt_by, stmt, stmts, body, block, header, is_text, max_blocks, max_text, reading, script as whole_script}
use Rattle.mpd_model.specs.grammar.Input.{Input, Parser, token, advanced, expect, seek, sees, after, pure, fail, refuse, start_of, ◌>>=◌}
use Rattle.mpd_model.specs.script.Parts.{Part, of_symbol, parts_of, symbol_hole, term_hole, filled}
use Rattle.mpd_model.specs.script.Program.{Program, first_version, IsTreeOf, IsBlockOf}
use Rattle.mpd_model.specs.script.Tree.{Tree, simple, branch, repeat, block_of}
use Rattle.mpd_laws.proofs.sound.Sound.{bind_ok, ok_parts, expect_ok}
use Rattle.mpd_laws.proofs.sound.SoundParts.{expression_ok, fill_ok}
use Rattle.mpd_laws.proofs.sound.SoundScript.{header_ok, read_ok, refused}
use Rattle.mpd_laws.proofs.sound.SoundStatements.{IsSoundBlock, begin_statement_ok, form_word, since_ok, stmt_sound, block_sound, statements_sound}

-- a parser whose trees are of the version that its input is in
abbrev Reads : Parser Tree → Type 0
Reads p = (v : ℕ) (i : Input) (y : Tree × Input) → 1 ≤ v → i.version ≡ v → p i ≡ Ok y → IsTreeOf v y.0

abbrev ReadsBlock : Parser (List Tree) → Type 0
ReadsBlock p = (v : ℕ) (i : Input) (y : List Tree × Input) → 1 ≤ v → i.version ≡ v → p i ≡ Ok y → IsBlockOf v (block_of y.0)

-- ---- statements that hold no other

-- A statement of version 1 is all but a waitany, whose first part is its word.
first_by_word : (s : Simple) (k : Symbol) (ps : List Part) → parts_of s ≡ of_symbol k ∷ ps → (k ≡ m.Waitany → ⊥) → first_version s ≤ 1
first_by_word (st.Waitany s) k ps e other = absurd (other (cc))
first_by_word s k ps e other = omega arith

waitany_version : (s : Simple) → first_version s ≤ 2
waitany_version (st.Waitany s) = omega arith
waitany_version s = omega arith

-- what a form makes is of this version
abbrev MadeBy : ℕ → Option Form → Type 0
MadeBy v o = (f : Form) → o ≡ Some f → (s : Simple) (ps : List Part) → parts_of s ≡ of_symbol f.word ∷ ps → first_version s ≤ v

made_in : (v : ℕ) (o : Option Form) (i : Input) (y : Tree × Input) → MadeBy v o → by_form o i ≡ Ok y → IsTreeOf v y.0
made_in v None i y made h = absurd (cc)
made_in v (Some f) i y made h =
    let b = bind_ok (begin_statement i) _ y h in
    let r = fill_ok f.holes (λ c. simple (f.made c)) b.0.1 y.1 y.0 b.2 in
    subst (IsTreeOf v) r.is (made f refl (f.made r.contents) (filled f.holes r.contents) (f.parts r.contents))

assignment_in : (slot : Slot) (v : ℕ) (i : Input) (y : Tree × Input) → 1 ≤ v → assignment slot i ≡ Ok y → IsTreeOf v y.0
unfolding assignment
assignment_in slot v i y some h =
    let a = bind_ok (index_outside (place_of_slot slot) slot.size i) _ y h in
    let r = fill_ok (symbol_hole m.Assign ∷ term_hole ∷ []) (λ c. simple (st.Assign (record { into = a.0.0; value = c.0 }))) a.0.1 y.1 y.0 a.2 in
    subst (IsTreeOf v) r.is some

-- ---- statements that hold others

otherwise_case : (p : Parser (List Tree)) → ReadsBlock p → (found : Bool) → ReadsBlock (λ i. cond found p (pure []) (cond found (advanced i) i))
unfolding advanced
otherwise_case p q true v i y some e h = q v (advanced i) y some e h
otherwise_case p q false v i y some e h = subst (λ ts. IsBlockOf v (block_of ts)) (ok_parts ([], i) y h).0 tt

otherwise_in : (p : Parser (List Tree)) → ReadsBlock p → ReadsBlock (otherwise p)
unfolding otherwise after
otherwise_in p q v i y some e h = otherwise_case p q (sees m.Else i) v i y some e h

if_statement_in : (p : Parser (List Tree)) → IsSoundBlock p → ReadsBlock p → Reads (if_statement p)
unfolding if_statement
if_statement_in p s q v i y some e h =
    let a = bind_ok (expression i) _ y h in
    let b = bind_ok (p a.0.1) _ y a.2 in
    let c = bind_ok (otherwise p b.0.1) _ y b.2 in
    let o = ok_parts (branch a.0.0 (block_of b.0.0) (block_of c.0.0), c.0.1) y c.2 in
    let one : a.0.1.version ≡ v = (expression_ok i a.0 a.1).moves.version ∙ e in
    let two : b.0.1.version ≡ v = (s a.0.1 b.0.1 b.0.0 b.1).version ∙ one in
    subst (IsTreeOf v) o.0 (q v a.0.1 b.0 some one b.1, otherwise_in p q v b.0.1 c.0 some two c.1)

while_statement_in : (p : Parser (List Tree)) → ReadsBlock p → Reads (while_statement p)
unfolding while_statement
while_statement_in p q v i y some e h =
    let a = bind_ok (expression i) _ y h in
    let b = bind_ok (p a.0.1) _ y a.2 in
    let o = ok_parts (repeat a.0.0 (block_of b.0.0), b.0.1) y b.2 in
    subst (IsTreeOf v) o.0 (q v a.0.1 b.0 some ((expression_ok i a.0 a.1).moves.version ∙ e) b.1)

at_least : (v : ℕ) (s : Simple) → 1 ≤ v → first_version s ≤ 1 → first_version s ≤ v
at_least v s some h = omega arith

form_in : (k : Symbol) → (k ≡ m.Waitany → ⊥) → Reads (by_form (form_of k))
form_in k other v i y some e h =
    made_in v (form_of k) i y (λ f is s ps parts. at_least v s some (first_by_word s f.word ps parts (λ w. other (sym (form_word k f is) ∙ w)))) h

waitany_in : (v : ℕ) (i : Input) (y : Tree × Input) → 2 ≤ v → by_form (form_of m.Waitany) i ≡ Ok y → IsTreeOf v y.0
waitany_in v i y known h = made_in v (form_of m.Waitany) i y (λ f is s ps parts. omega (arith, waitany_version s)) h

-- behind the word, the input is in the same version
begun_in : (p : Parser Tree) (k : Symbol) → Reads p → (v : ℕ) (i : Input) (y : Tree × Input) → token i ≡ Is k → 1 ≤ v → i.version ≡ v → (begin_statement >>= λ u. p) i ≡ Ok y → IsTreeOf v y.0
begun_in p k q v i y t some e h =
    let b = bind_ok (begin_statement i) _ y h in
    q v b.0.1 y some ((begin_statement_ok i b.0 (λ x. absurd (cc)) b.1).version ∙ e) b.2

assigned_in : (v : ℕ) (i : Input) (y : Tree × Input) → 1 ≤ v → (seek Variable >>= λ s. begin_statement >>= λ u. assignment s) i ≡ Ok y → IsTreeOf v y.0
assigned_in v i y some h =
    let a = bind_ok (seek Variable i) _ y h in
    let b = bind_ok (begin_statement a.0.1) _ y a.2 in
    assignment_in a.0.0 v b.0.1 y some b.2

stmt_case : (p : Parser (List Tree)) → IsSoundBlock p → ReadsBlock p → (tk : Token) (v : ℕ) (i : Input) (y : Tree × Input) → token i ≡ tk → 1 ≤ v → i.version ≡ v → stmt_by p tk i ≡ Ok y → IsTreeOf v y.0
stmt_case p s q Name v i y t some e h = assigned_in v i y some h
stmt_case p s q (Is m.If) v i y t some e h = begun_in (if_statement p) m.If (if_statement_in p s q) v i y t some e h
stmt_case p s q (Is m.While) v i y t some e h = begun_in (while_statement p) m.While (while_statement_in p q) v i y t some e h
stmt_case p s q (Is m.Waitany) v i y t some e h =
    let c = since_ok 2 (by_form (form_of m.Waitany)) i y h in
    waitany_in v i y (subst (λ n. 2 ≤ n) e c.0) c.1
stmt_case p s q (Is k) v i y t some e h = form_in k (λ w. absurd (cc)) v i y some e h
stmt_case p s q _ v i y t some e h = absurd (cc)

stmt_in : (p : Parser (List Tree)) → IsSoundBlock p → ReadsBlock p → Reads (stmt p)
unfolding stmt
stmt_in p s q v i y some e h = stmt_case p s q (token i) v i y refl some e h

-- ---- bodies and blocks

one_behind : (v : ℕ) (ts : List Tree) (t : Tree) → IsBlockOf v (block_of ts) → IsTreeOf v t → IsBlockOf v (block_of (ts ++ t ∷ []))
one_behind v [] t x y = (y, tt)
one_behind v (u ∷ us) t x y = (x.0, one_behind v us t x.1 y)

stmts_case : (p : Parser (List Tree)) → IsSoundBlock p → ReadsBlock p → (inside : Bool) (n v : ℕ) (found : List Tree) (i : Input) (y : List Tree × Input) (ends : Bool)
    → 1 ≤ v → i.version ≡ v → IsBlockOf v (block_of found)
    → ((f : List Tree) (x : Input) → x.version ≡ v → IsBlockOf v (block_of f) → stmts p inside n f x ≡ Ok y → IsBlockOf v (block_of y.0))
    → cond ends (pure found) (stmt p >>= λ s. stmts p inside n (found ++ s ∷ [])) i ≡ Ok y → IsBlockOf v (block_of y.0)
stmts_case p s q inside n v found i y true some e x more h = subst (λ ts. IsBlockOf v (block_of ts)) (ok_parts (found, i) y h).0 x
stmts_case p s q inside n v found i y false some e x more h =
    let b = bind_ok (stmt p i) _ y h in
    more (found ++ b.0.0 ∷ []) b.0.1 ((stmt_sound p s i b.0.1 b.0.0 b.1).version ∙ e) (one_behind v found b.0.0 x (stmt_in p s q v i b.0 some e b.1)) b.2

stmts_in : (p : Parser (List Tree)) → IsSoundBlock p → ReadsBlock p → (inside : Bool) (n v : ℕ) (found : List Tree) (i : Input) (y : List Tree × Input)
    → 1 ≤ v → i.version ≡ v → IsBlockOf v (block_of found) → stmts p inside n found i ≡ Ok y → IsBlockOf v (block_of y.0)
unfolding stmts
stmts_in p s q inside zero v found i y some e x h = absurd (cc)
stmts_in p s q inside (suc n) v found i y some e x h =
    stmts_case p s q inside n v found i y (closes inside (token i)) some e x (λ f z w g k. stmts_in p s q inside n v f z y some w g k) h

body_in : (p : Parser (List Tree)) → IsSoundBlock p → ReadsBlock p → (inside : Bool) → ReadsBlock (body p inside)
unfolding body
body_in p s q inside v i y some e h = stmts_in p s q inside (length i.tokens + 1) v [] i y some e tt h

none_opens : (found : Bool) (i : Input) (y : List Tree × Input) → cond found (fail TooDeep i) (refuse i) ≡ Ok y → ⊥
none_opens true i y h = cc
none_opens false i y h = cc

block_in : (n : ℕ) → ReadsBlock (block n)
unfolding block advanced
block_in zero v i y some e h = absurd (none_opens (sees m.BraceOpen i) i y h)
block_in (suc n) v i y some e h =
    let a = bind_ok (expect m.BraceOpen i) _ y h in
    let b = bind_ok (body (block n) true a.0.1) _ y a.2 in
    let c = bind_ok (expect m.BraceClose b.0.1) _ y b.2 in
    let o = ok_parts (b.0.0, c.0.1) y c.2 in
    let one : a.0.1.version ≡ v = ap (λ k. k.version) (expect_ok m.BraceOpen i a.0 a.1).1 ∙ e in
    subst (λ ts. IsBlockOf v (block_of ts)) o.0 (body_in (block n) (block_sound n) (block_in n) true v a.0.1 b.0 some one b.1)

pub statements_of_version : (depth : ℕ) (inside : Bool) (i j : Input) (ts : List Tree) → 1 ≤ i.version → body (block depth) inside i ≡ Ok (ts, j) → IsBlockOf i.version (block_of ts)
statements_of_version depth inside i j ts some h = body_in (block depth) (block_sound depth) (block_in depth) inside i.version i (ts, j) some refl h

-- ---- the whole text

-- the program is of its version, and that is one that there is
pub record OfVersion (p : Program) : Type 0 where
  pub some_version : 1 ≤ p.version
  pub version : p.version ≤ LANGUAGE_MAX
  pub body : IsBlockOf p.version (block_of p.body)

script_in : (i : Input) (y : Program × Input) → whole_script i ≡ Ok y → OfVersion y.0
unfolding whole_script
script_in i y h =
    let a = bind_ok (header i) _ y h in
    let b = bind_ok (body (block max_blocks) false a.0.1) _ y a.2 in
    let o = ok_parts (record { version = b.0.1.version; ranks = a.0.0; decls = b.0.1.decls; body = b.0.0; lines = b.0.1.lines }, b.0.1) y b.2 in
    let head = header_ok i a.0 a.1 in
    let same : b.0.1.version ≡ a.0.1.version = (statements_sound max_blocks false a.0.1 b.0.1 b.0.0 b.1).version in
    let inside = statements_of_version max_blocks false a.0.1 b.0.1 b.0.0 head.some_version b.1 in
    subst OfVersion o.0
    (record {
      some_version = subst (λ v. 1 ≤ v) (sym same) head.some_version;
      version = subst (λ v. v ≤ LANGUAGE_MAX) (sym same) head.known;
      body = subst (λ v. IsBlockOf v (block_of b.0.0)) (sym same) inside;
    })

pub scripts_of_version : (text : List ℕ) (p : Program) → reading text ≡ Ok p → (1 ≤ p.version) × (p.version ≤ LANGUAGE_MAX) × IsBlockOf p.version (block_of p.body)
unfolding reading
scripts_of_version text p h =
    let a = refused (nat_lt max_text (length text)) _ _ p h in
    let b = refused (nat_lt (prefix_len is_text text) (length text)) _ _ p a.1 in
    let c = read_ok (whole_script (start_of text)) p b.1 in
    let v = script_in (start_of text) (p, c.0) c.1 in
    (v.some_version, v.version, v.body)
