-- What is written as statements, within the limits, is read.
use Rattle.std.proofs.Common.{◌≡◌, ℕ, zero, suc, ◌+◌, ◌-◌, ◌<◌, ◌≤◌, Bool, true, false, nat_le, None, Some, List, [], ◌∷◌, ◌++◌, length, length-append, append-nil, Ok, refl, ap, sym, subst, ◌∙◌, append_assoc, arith}
use Rattle.std.proofs.lemmas.Bool.Decides.{nat_tests}
use Rattle.mpd_model.specs.declared.limits.TheConstants.{NESTING_MAX, STATEMENTS_MAX}
use Rattle.mpd_model.specs.declared.place.DeclKind.{DeclKind}
use Rattle.mpd_model.specs.declared.place.DeclKind.TheVariants.{Variable}
use Rattle.mpd_model.specs.declared.slot.Slot.{Slot}
use Rattle.mpd_model.specs.declared.stmt.Simple.{Simple}
use Rattle.mpd_model.specs.declared.stmt.Simple.TheVariants as st
use Rattle.mpd_model.specs.declared.token.Symbol.{Symbol}
use Rattle.mpd_model.specs.declared.token.Symbol.TheVariants as m
use Rattle.mpd_model.specs.declared.token.Token.{Token}
use Rattle.mpd_model.specs.declared.token.Token.TheVariants.{Name, Is, End}
use Rattle.mpd_model.specs.script.Declaration.{Declared}
use Rattle.mpd_model.specs.grammar.Costs.{cost, Stops, on, Gives, blocks, blocks_in, dearest_part, dearest, dearest_block, dearest_body}
use Rattle.mpd_model.specs.grammar.Grammar.{begin_statement, closes, declares, place_of_slot, index_outside, fill, Form, form_of, behind_word, by_form, HasForm, all_formed, waitany_form, since, assignment, otherwise, if_statement, while_statement, stmt_by, stmt, stmts, body, block}
use Rattle.mpd_model.specs.grammar.Input.{Input, Outcome, Parser, and_then, token, token_of, advanced, slot_in, sees, is_symbol, same_symbol, first_line, after}
use Rattle.mpd_model.specs.script.Parts.{Part, of_symbol, of_target, parts_of, symbol_hole, term_hole, Contents, filled}
use Rattle.mpd_model.specs.script.Program.{first_version, IsTreeOf, IsBlockOf}
use Rattle.mpd_model.specs.script.Term.{Term, Target}
use Rattle.mpd_model.specs.grammar.Tokens.{Spot}
use Rattle.mpd_model.specs.script.Tree.{Tree, simple, branch, repeat, no_more, block_of}
use Rattle.mpd_model.specs.grammar.Written.{WrittenTerm, WrittenTarget, whole, part, by_symbol, by_target, WrittenParts, then_part, WrittenTree, simply, repeats, chooses, chooses_else, WrittenBlock, braces, WrittenBody, ended, follows}
use Rattle.mpd_laws.proofs.complete.Complete.{bind_to, symbol_stops}
use Rattle.mpd_laws.proofs.complete.CompleteParts.{expect_on, begin_statement_on, expression_on, target_begins, seek_on, symbol_seen, fill_on}
use Rattle.mpd_laws.proofs.complete.Turns.{some_token}

-- ---- the first token of a statement

-- a statement by its first token, and what follows that
begins_read : (B : Parser (List Tree)) (q : Parser Tree) (k : Spot) (ss rest : List Spot) (t : Tree) (ls ms : List ℕ) (b : ℕ) (tk : Token) (i : Input)
    → k.token ≡ tk → stmt_by B tk (on (k ∷ ss) ls b i) ≡ and_then (begin_statement (on (k ∷ ss) ls b i)) (λ u. q) → length ls < STATEMENTS_MAX
    → Gives (q (on ss (ls ++ k.line ∷ []) b i)) t rest ms i → Gives (stmt B (on (k ∷ ss) ls b i)) t rest ms i
unfolding stmt token
begins_read B q k ss rest t ls ms b tk i e s few g = record {
  left = g.left;
  is = ap (λ u. stmt_by B u (on (k ∷ ss) ls b i)) e ∙ s ∙ bind_to _ _ _ _ (begin_statement_on k ss ls b i few) g.is;
}

-- an assignment by its name, which is sought before the statement is counted
assignment_read : (B : Parser (List Tree)) (s : Spot) (slot : Slot) (ss rest : List Spot) (t : Tree) (ls ms : List ℕ) (b : ℕ) (i : Input) → s.token ≡ Name
    → slot_in i.decls s.text ≡ Some slot → slot.kind ≡ Variable → length ls < STATEMENTS_MAX → Gives (assignment slot (on ss (ls ++ s.line ∷ []) b i)) t rest ms i → Gives (stmt B (on (s ∷ ss) ls b i)) t rest ms i
unfolding stmt token
assignment_read B s slot ss rest t ls ms b i e d k few g = record {
  left = g.left;
  is = ap (λ u. stmt_by B u (on (s ∷ ss) ls b i)) e ∙ bind_to _ _ _ _ (seek_on Variable s slot ss ls b i d k) (bind_to _ _ _ _ (begin_statement_on s ss ls b i few) g.is);
}

-- ---- choices and repetitions

while_statement_read : (B : Parser (List Tree)) (e xs rest : List Spot) (t : Term) (x : List Tree) (ls ms : List ℕ) (b : ℕ) (i : Input)
    → WrittenTerm i.decls 5 e t → cost e ≤ NESTING_MAX → Stops 5 xs → ((c : ℕ) → Gives (B (on xs ls c i)) x rest ms i) → Gives (while_statement B (on (e ++ xs) ls b i)) (repeat t (block_of x)) rest ms i
unfolding while_statement
while_statement_read B e xs rest t x ls ms b i w le s inside =
    let f = inside (NESTING_MAX - cost e) in
    record { left = f.left; is = bind_to _ _ _ _ (expression_on e xs t ls b i w le s) (bind_to _ _ _ _ f.is refl) }

pub otherwise_none : (B : Parser (List Tree)) (rest : List Spot) (ls : List ℕ) (b : ℕ) (i : Input) → is_symbol m.Else (token_of rest) ≡ false
    → otherwise B (on rest ls b i) ≡ Ok ([], on rest ls b i)
unfolding otherwise sees after token
otherwise_none B rest ls b i h = rw h refl

pub otherwise_some : (B : Parser (List Tree)) (w : Spot) (rest : List Spot) (ls : List ℕ) (b : ℕ) (i : Input) → is_symbol m.Else w.token ≡ true
    → otherwise B (on (w ∷ rest) ls b i) ≡ B (on rest ls b i)
unfolding otherwise sees after token advanced
otherwise_some B w rest ls b i h = rw h refl

if_statement_read : (B : Parser (List Tree)) (e xs ys rest : List Spot) (t : Term) (x y : List Tree) (ls ms ns : List ℕ) (b : ℕ) (i : Input)
    → WrittenTerm i.decls 5 e t → cost e ≤ NESTING_MAX → Stops 5 xs → ((c : ℕ) → Gives (B (on xs ls c i)) x ys ms i) → ((c : ℕ) → Gives (otherwise B (on ys ms c i)) y rest ns i)
    → Gives (if_statement B (on (e ++ xs) ls b i)) (branch t (block_of x) (block_of y)) rest ns i
unfolding if_statement
if_statement_read B e xs ys rest t x y ls ms ns b i w le s first second =
    let f = first (NESTING_MAX - cost e) in
    let g = second f.left in
    record {
      left = g.left;
      is = bind_to _ _ _ _ (expression_on e xs t ls b i w le s) (bind_to _ _ _ _ f.is (bind_to _ _ _ _ g.is refl));
    }

-- ---- statements, by what is written

abbrev TreeReads : Input → ℕ → List Spot → Tree → List ℕ → Type 0
TreeReads i n ss t ms = (b : ℕ) (ls : List ℕ) (rest : List Spot) → length ls + length ms ≤ STATEMENTS_MAX → is_symbol m.Else (token_of rest) ≡ false
    → Gives (stmt (block n) (on (ss ++ rest) ls b i)) t rest (ls ++ ms) i

abbrev BlockReads : Input → ℕ → List Spot → List Tree → List ℕ → Type 0
BlockReads i n ss ts ms = (b : ℕ) (ls : List ℕ) (rest : List Spot) → length ls + length ms ≤ STATEMENTS_MAX → Gives (block n (on (ss ++ rest) ls b i)) ts rest (ls ++ ms) i

abbrev BodyReads : Input → ℕ → List Spot → List Tree → List ℕ → Type 0
BodyReads i n ss ts ms = (inside : Bool) (turns : ℕ) (found : List Tree) (b : ℕ) (ls : List ℕ) (rest : List Spot) → length ls + length ms ≤ STATEMENTS_MAX
    → closes inside (token_of rest) ≡ true → length ss < turns → Gives (stmts (block n) inside turns found (on (ss ++ rest) ls b i)) (found ++ ts) rest (ls ++ ms) i

-- the same of the same tokens and lines
same_gives : {A : Type 0} (p : Parser A) (a : A) (ss us rest : List Spot) (ls ms ns : List ℕ) (b : ℕ) (i : Input) → ss ≡ us → ms ≡ ns
    → Gives (p (on us ls b i)) a rest ms i → Gives (p (on ss ls b i)) a rest ns i
same_gives p a ss us rest ls ms ns b i d e g = rw (d, ← e) g

-- a statement by its word
form_reads : (i : Input) (n : ℕ) (f : Form) (c : Contents f.holes) (ss : List Spot) (end : Spot)
    → ((us : List Spot) (ls : List ℕ) (b : ℕ) → stmt_by (block n) (Is f.word) (on us ls b i) ≡ by_form (Some f) (on us ls b i))
    → (w : WrittenParts i.decls ss (of_symbol f.word ∷ filled f.holes c)) → dearest_part i.decls ss (of_symbol f.word ∷ filled f.holes c) w ≤ NESTING_MAX → end.token ≡ Is m.Semicolon
    → TreeReads i n (ss ++ end ∷ []) (simple (f.made c)) (first_line ss ∷ [])
form_reads i n f c _ end by (then_part _ rs _ _ (by_symbol s _ h) w) le he b ls rest few last =
    same_gives (stmt (block n)) (simple (f.made c)) _ (s ∷ (rs ++ (end ∷ rest))) rest ls _ _ b i (simp append_assoc) refl
    (begins_read (block n) (behind_word f) s (rs ++ (end ∷ rest)) rest (simple (f.made c)) ls _ b (Is f.word) i h (by (s ∷ (rs ++ (end ∷ rest))) ls b) (omega arith)
    (fill_on f.holes (λ d. simple (f.made d)) c rs end rest (ls ++ s.line ∷ []) b i f.clear w (omega arith) he))

-- in a text of its version, or of a newer one, a statement is read as it is
since_is : (version : ℕ) (p : Parser Tree) (i : Input) → version ≤ i.version → since version p i ≡ p i
since_is version p i h = let known : nat_le version i.version ≡ true = grind (arith, nat_tests) in rw known refl

-- a waitany is read where the text's version has what its form makes
abbrev ReadsWaitany : Form → Type 0
ReadsWaitany f = (c : Contents f.holes) (i : Input) → first_version (f.made c) ≤ i.version → since 2 (by_form (Some waitany_form)) i ≡ by_form (Some f) i

waitany_read : (f : Form) → waitany_form ≡ f → ReadsWaitany f
waitany_read f e = subst ReadsWaitany e (λ c i v. since_is 2 (by_form (Some waitany_form)) i v)

-- where a word has a form, that reads the statement, where the text's version has it
pub stmt_by_form : (B : Parser (List Tree)) (k : Symbol) (f : Form) (c : Contents f.holes) (i : Input) → form_of k ≡ Some f → first_version (f.made c) ≤ i.version → stmt_by B (Is k) i ≡ by_form (Some f) i
stmt_by_form B m.If f c i h v = absurd (cc)
stmt_by_form B m.While f c i h v = absurd (cc)
stmt_by_form B m.Waitany f c i h v = waitany_read f (cc) c i v
stmt_by_form B k f c i h v = ap (λ o. by_form o i) h

behind_place_read : (slot : Slot) (xs us rest : List Spot) (t : Target) (e : Term) (ls : List ℕ) (b : ℕ) (i : Input) → Gives (index_outside (place_of_slot slot) slot.size (on xs ls b i)) t us ls i
    → ((c : ℕ) → Gives (fill (symbol_hole m.Assign ∷ term_hole ∷ []) (λ c. simple (st.Assign (record { into = t; value = c.0 }))) (on us ls c i)) (simple (st.Assign (record { into = t; value = e }))) rest ls i)
    → Gives (assignment slot (on xs ls b i)) (simple (st.Assign (record { into = t; value = e }))) rest ls i
unfolding assignment
behind_place_read slot xs us rest t e ls b i g f =
    let h = f g.left in
    record { left = h.left; is = bind_to _ _ _ _ g.is h.is }

pub assigned_tokens : (s : Spot) (v xs us : List Spot) (end : Spot) (rest : List Spot) → v ≡ s ∷ xs → v ++ us ++ end ∷ [] ++ rest ≡ s ∷ (xs ++ (us ++ (end ∷ rest)))
assigned_tokens s v xs us end rest h = rw h (simp append_assoc)

pub assigned_line : (s : Spot) (v xs us : List Spot) → v ≡ s ∷ xs → s.line ≡ first_line (v ++ us)
assigned_line s v xs us h = rw h refl

assigns_reads : (i : Input) (n : ℕ) (t : Target) (e : Term) (ss : List Spot) (end : Spot)
    → (w : WrittenParts i.decls ss (parts_of (st.Assign (record { into = t; value = e })))) → dearest_part i.decls ss (parts_of (st.Assign (record { into = t; value = e }))) w ≤ NESTING_MAX → end.token ≡ Is m.Semicolon
    → TreeReads i n (ss ++ end ∷ []) (simple (st.Assign (record { into = t; value = e }))) (first_line ss ∷ [])
assigns_reads i n t e _ end (then_part v rs _ _ (by_target _ _ _ names) w) le he b ls rest few last =
    let x = target_begins i Variable v t names (omega arith) in
    let line : List ℕ = ls ++ x.first.line ∷ [] in
    let made : Tree = simple (st.Assign (record { into = t; value = e })) in
    same_gives (stmt (block n)) made _ (x.first ∷ (x.behind ++ (rs ++ (end ∷ rest)))) rest ls line _ b i
    (assigned_tokens x.first v x.behind rs end rest x.is) (ap (λ r. ls ++ r ∷ []) (assigned_line x.first v x.behind rs x.is))
    (assignment_read (block n) x.first x.slot (x.behind ++ (rs ++ (end ∷ rest))) rest made ls line b i x.token x.declared x.kind (omega arith)
    (behind_place_read x.slot (x.behind ++ (rs ++ (end ∷ rest))) (rs ++ (end ∷ rest)) rest t e line b i (x.reads line b (rs ++ (end ∷ rest)))
    (λ c. fill_on (symbol_hole m.Assign ∷ term_hole ∷ []) (λ d. simple (st.Assign (record { into = t; value = d.0 }))) (e, tt) rs end rest line c i (tt, tt) w (omega arith) he)))

-- a statement that holds no other, as it is written
abbrev SimpleReads : Input → ℕ → Simple → Type 0
SimpleReads i n s = (ss : List Spot) (end : Spot) → (w : WrittenParts i.decls ss (parts_of s)) → dearest_part i.decls ss (parts_of s) w ≤ NESTING_MAX → end.token ≡ Is m.Semicolon
    → TreeReads i n (ss ++ end ∷ []) (simple s) (first_line ss ∷ [])

-- the parts are those of the form
abbrev PartsRead : Input → ℕ → Tree → List Part → Type 0
PartsRead i n t ps = (ss : List Spot) (end : Spot) → (w : WrittenParts i.decls ss ps) → dearest_part i.decls ss ps w ≤ NESTING_MAX → end.token ≡ Is m.Semicolon → TreeReads i n (ss ++ end ∷ []) t (first_line ss ∷ [])

formed_reads : (i : Input) (n : ℕ) (s : Simple) → first_version s ≤ i.version → HasForm s → SimpleReads i n s
formed_reads i n s v x =
    let known : first_version (x.form.made x.contents) ≤ i.version = subst (λ s. first_version s ≤ i.version) (sym x.is) v in
    let formed : PartsRead i n (simple (x.form.made x.contents)) (of_symbol x.form.word ∷ filled x.form.holes x.contents) =
    λ ss end w le he. form_reads i n x.form x.contents ss end (λ us ls b. stmt_by_form (block n) x.form.word x.form x.contents (on us ls b i) x.found known) w le he in
    subst (SimpleReads i n) x.is (subst (PartsRead i n (simple (x.form.made x.contents))) (sym (x.form.parts x.contents)) formed)

simple_reads : (i : Input) (n : ℕ) (s : Simple) → first_version s ≤ i.version → SimpleReads i n s
simple_reads i n (st.Assign s) v = assigns_reads i n s.into s.value
simple_reads i n s v = formed_reads i n s v (all_formed s)

repeats_reads : (i : Input) (n : ℕ) (k : Spot) (e a : List Spot) (t : Term) (x : List Tree) (ms : List ℕ)
    → k.token ≡ Is m.While → WrittenTerm i.decls 5 e t → cost e ≤ NESTING_MAX → ((r : List Spot) → Stops 5 (a ++ r)) → BlockReads i n a x ms
    → TreeReads i n (k ∷ e ++ a) (repeat t (block_of x)) (k.line ∷ ms)
repeats_reads i n k e a t x ms hk w le s f b ls rest few last =
    let ks : List ℕ = ls ++ k.line ∷ [] in
    let more : length ks + length ms ≤ STATEMENTS_MAX = omega (arith, length-append ls (k.line ∷ [])) in
    same_gives (stmt (block n)) (repeat t (block_of x)) _ (k ∷ (e ++ (a ++ rest))) rest ls (ks ++ ms) _ b i (simp append_assoc) (append_assoc ls (k.line ∷ []) ms)
    (begins_read (block n) (while_statement (block n)) k (e ++ (a ++ rest)) rest (repeat t (block_of x)) ls _ b (Is m.While) i hk refl (omega arith)
    (while_statement_read (block n) e (a ++ rest) rest t x ks (ks ++ ms) b i w le (s rest) (λ c. f c ks rest more)))

otherwise_nothing : (B : Parser (List Tree)) (rest : List Spot) (ls : List ℕ) (b : ℕ) (i : Input) → is_symbol m.Else (token_of rest) ≡ false → Gives (otherwise B (on rest ls b i)) [] rest ls i
otherwise_nothing B rest ls b i h = record { left = b; is = otherwise_none B rest ls b i h }

otherwise_gives : (B : Parser (List Tree)) (w : Spot) (ss rest : List Spot) (y : List Tree) (ls ms : List ℕ) (b : ℕ) (i : Input) → w.token ≡ Is m.Else
    → Gives (B (on ss ls b i)) y rest ms i → Gives (otherwise B (on (w ∷ ss) ls b i)) y rest ms i
otherwise_gives B w ss rest y ls ms b i h g = record { left = g.left; is = otherwise_some B w ss ls b i (symbol_seen m.Else w h) ∙ g.is }

chooses_reads : (i : Input) (n : ℕ) (k : Spot) (e a : List Spot) (t : Term) (x : List Tree) (ms : List ℕ)
    → k.token ≡ Is m.If → WrittenTerm i.decls 5 e t → cost e ≤ NESTING_MAX → ((r : List Spot) → Stops 5 (a ++ r)) → BlockReads i n a x ms
    → TreeReads i n (k ∷ e ++ a) (branch t (block_of x) no_more) (k.line ∷ ms)
chooses_reads i n k e a t x ms hk w le s f b ls rest few last =
    let ks : List ℕ = ls ++ k.line ∷ [] in
    let more : length ks + length ms ≤ STATEMENTS_MAX = omega (arith, length-append ls (k.line ∷ [])) in
    same_gives (stmt (block n)) (branch t (block_of x) no_more) _ (k ∷ (e ++ (a ++ rest))) rest ls (ks ++ ms) _ b i (simp append_assoc) (append_assoc ls (k.line ∷ []) ms)
    (begins_read (block n) (if_statement (block n)) k (e ++ (a ++ rest)) rest (branch t (block_of x) no_more) ls _ b (Is m.If) i hk refl (omega arith)
    (if_statement_read (block n) e (a ++ rest) rest rest t x [] ks (ks ++ ms) (ks ++ ms) b i w le (s rest)
    (λ c. f c ks rest more) (λ c. otherwise_nothing (block n) rest (ks ++ ms) c i last)))

chooses_else_reads : (i : Input) (n : ℕ) (k o : Spot) (e a z : List Spot) (t : Term) (x y : List Tree) (ms ns : List ℕ)
    → k.token ≡ Is m.If → WrittenTerm i.decls 5 e t → cost e ≤ NESTING_MAX → ((r : List Spot) → Stops 5 (a ++ r)) → BlockReads i n a x ms → o.token ≡ Is m.Else → BlockReads i n z y ns
    → TreeReads i n (k ∷ e ++ a ++ o ∷ z) (branch t (block_of x) (block_of y)) (k.line ∷ ms ++ ns)
chooses_else_reads i n k o e a z t x y ms ns hk w le s f ho g b ls rest few last =
    let ks : List ℕ = ls ++ k.line ∷ [] in
    let all : length (ks ++ ms) ≡ length ls + 1 + length ms = omega (arith, length-append ls (k.line ∷ []), length-append ks ms) in
    let some : length (k.line ∷ ms ++ ns) ≡ 1 + length ms + length ns = omega (arith, length-append (k.line ∷ ms) ns) in
    let more : length ks + length ms ≤ STATEMENTS_MAX = omega (arith, length-append ls (k.line ∷ [])) in
    let more' : length (ks ++ ms) + length ns ≤ STATEMENTS_MAX = omega arith in
    same_gives (stmt (block n)) (branch t (block_of x) (block_of y)) _ (k ∷ (e ++ (a ++ (o ∷ (z ++ rest))))) rest ls (ks ++ ms ++ ns) _ b i (simp append_assoc) (simp append_assoc)
    (begins_read (block n) (if_statement (block n)) k (e ++ (a ++ (o ∷ (z ++ rest)))) rest (branch t (block_of x) (block_of y)) ls _ b (Is m.If) i hk refl (omega arith)
    (if_statement_read (block n) e (a ++ (o ∷ (z ++ rest))) (o ∷ (z ++ rest)) rest t x y ks (ks ++ ms) (ks ++ ms ++ ns) b i w le (s (o ∷ (z ++ rest)))
    (λ c. f c ks (o ∷ (z ++ rest)) more) (λ c. otherwise_gives (block n) o (z ++ rest) rest y (ks ++ ms) (ks ++ ms ++ ns) c i ho (g c (ks ++ ms) rest more'))))

-- ---- blocks

body_gives : (B : Parser (List Tree)) (inside : Bool) (ss rest : List Spot) (ts : List Tree) (ls ms : List ℕ) (b : ℕ) (i : Input)
    → Gives (stmts B inside (length ss + 1) [] (on ss ls b i)) ts rest ms i → Gives (body B inside (on ss ls b i)) ts rest ms i
unfolding body
body_gives B inside ss rest ts ls ms b i g = record { left = g.left; is = g.is }

braces_read : (n : ℕ) (a z : Spot) (ss rest : List Spot) (ts : List Tree) (ls ms : List ℕ) (b : ℕ) (i : Input) → a.token ≡ Is m.BraceOpen → z.token ≡ Is m.BraceClose
    → Gives (body (block n) true (on ss ls b i)) ts (z ∷ rest) ms i → Gives (block (suc n) (on (a ∷ ss) ls b i)) ts rest ms i
unfolding block
braces_read n a z ss rest ts ls ms b i ha hz g = record {
  left = g.left;
  is = bind_to _ _ _ _ (expect_on m.BraceOpen a ss ls b i ha) (bind_to _ _ _ _ g.is (bind_to _ _ _ _ (expect_on m.BraceClose z rest ms g.left i hz) refl));
}

pub brace_closes : (z : Spot) → z.token ≡ Is m.BraceClose → closes true z.token ≡ true
brace_closes z e = ap (closes true) e

braces_reads : (i : Input) (n k : ℕ) (a z : Spot) (ss : List Spot) (ts : List Tree) (ms : List ℕ) → n ≡ suc k → a.token ≡ Is m.BraceOpen → z.token ≡ Is m.BraceClose
    → BodyReads i k ss ts ms → BlockReads i n (a ∷ ss ++ z ∷ []) ts ms
braces_reads i n k a z ss ts ms en ha hz h b ls rest few =
    let turns : length ss < length (ss ++ z ∷ rest) + 1 = omega (arith, length-append ss (z ∷ rest)) in
    let inner = body_gives (block k) true (ss ++ z ∷ rest) (z ∷ rest) ts ls (ls ++ ms) b i (h true (length (ss ++ z ∷ rest) + 1) [] b ls (z ∷ rest) few (brace_closes z hz) turns) in
    same_gives (block n) ts _ (a ∷ (ss ++ z ∷ rest)) rest ls (ls ++ ms) (ls ++ ms) b i (simp append_assoc) refl
    (rw en (braces_read k a z (ss ++ z ∷ rest) rest ts ls (ls ++ ms) b i ha hz inner))

pub block_stops : (ds : List Declared) (ss : List Spot) (ts : List Tree) (ls : List ℕ) → WrittenBlock ds ss ts ls → (r : List Spot) → Stops 5 (ss ++ r)
block_stops ds _ _ _ (braces a z ss ts ls ha w hz) r = symbol_stops 5 a (ss ++ z ∷ [] ++ r) (Is m.BraceOpen) ha refl

-- ---- bodies

-- the token begins a statement: it closes no block, goes on with no `if`, and declares nothing
pub record Opens (t : Token) : Type 0 where
  pub goes_on : (inside : Bool) → closes inside t ≡ false
  pub other : is_symbol m.Else t ≡ false
  pub no_decl : declares t ≡ None

form_opens : (k : Symbol) (f : Form) → form_of k ≡ Some f → Opens (Is k)
unfolding same_symbol
form_opens m.BraceClose f h = absurd (cc)
form_opens m.Else f h = absurd (cc)
form_opens m.Var f h = absurd (cc)
form_opens m.Req f h = absurd (cc)
form_opens k f h = record { goes_on = elim [ true ↦ refl | false ↦ refl ]; other = refl; no_decl = refl }

if_opens : Opens (Is m.If)
unfolding same_symbol
if_opens = record { goes_on = elim [ true ↦ refl | false ↦ refl ]; other = refl; no_decl = refl }

while_opens : Opens (Is m.While)
unfolding same_symbol
while_opens = record { goes_on = elim [ true ↦ refl | false ↦ refl ]; other = refl; no_decl = refl }

name_opens : Opens Name
name_opens = record { goes_on = elim [ true ↦ refl | false ↦ refl ]; other = refl; no_decl = refl }

opens_by : (t u : Token) → t ≡ u → Opens u → Opens t
opens_by t u e x = rw e x

tokens_open : (us vs : List Spot) → us ≡ vs → Opens (token_of vs) → Opens (token_of us)
tokens_open us vs e x = rw e x

-- a place begins with its name
target_opens : (ds : List Declared) (kind : DeclKind) (ss : List Spot) (t : Target) → WrittenTarget ds kind ss t → (us : List Spot) → Opens (token_of (ss ++ us))
target_opens ds kind _ _ (whole s p n) us = opens_by s.token Name n.token name_opens
target_opens ds kind _ _ (part s a z ss p t n ha w hz) us = opens_by s.token Name n.token name_opens

symbol_first_opens : (ds : List Declared) (k : Symbol) (ps : List Part) (ss us : List Spot) → Opens (Is k) → WrittenParts ds ss (of_symbol k ∷ ps) → Opens (token_of (ss ++ us))
symbol_first_opens ds k ps _ us x (then_part _ rs _ _ (by_symbol s _ h) w) = opens_by s.token (Is k) h x

target_first_opens : (ds : List Declared) (kind : DeclKind) (t : Target) (ps : List Part) (ss us : List Spot) → WrittenParts ds ss (of_target kind t ∷ ps) → Opens (token_of (ss ++ us))
target_first_opens ds kind t ps _ us (then_part n rs _ _ (by_target _ _ _ h) w) = tokens_open (n ++ rs ++ us) (n ++ (rs ++ us)) (append_assoc n rs us) (target_opens ds kind n t h (rs ++ us))

abbrev PartsOpen : List Declared → List Part → Type 0
PartsOpen ds ps = (ss us : List Spot) → WrittenParts ds ss ps → Opens (token_of (ss ++ us))

formed_opens : (ds : List Declared) (s : Simple) → HasForm s → PartsOpen ds (parts_of s)
formed_opens ds s x =
    let opened : PartsOpen ds (of_symbol x.form.word ∷ filled x.form.holes x.contents) =
    λ ss us w. symbol_first_opens ds x.form.word (filled x.form.holes x.contents) ss us (form_opens x.form.word x.form x.found) w in
    subst (λ s. PartsOpen ds (parts_of s)) x.is (subst (PartsOpen ds) (sym (x.form.parts x.contents)) opened)

simple_opens : (ds : List Declared) (s : Simple) → PartsOpen ds (parts_of s)
simple_opens ds (st.Assign s) ss us w = target_first_opens ds Variable s.into _ ss us w
simple_opens ds s ss us w = formed_opens ds s (all_formed s) ss us w

pub tree_opens : (ds : List Declared) (ss : List Spot) (t : Tree) (ls : List ℕ) → WrittenTree ds ss t ls → (r : List Spot) → Opens (token_of (ss ++ r))
tree_opens ds _ _ _ (simply ss end s w h) r = tokens_open (ss ++ end ∷ [] ++ r) (ss ++ (end ∷ r)) (append_assoc ss (end ∷ []) r) (simple_opens ds s ss (end ∷ r) w)
tree_opens ds _ _ _ (repeats k e a v x ms h1 h2 b) r = opens_by k.token (Is m.While) h1 while_opens
tree_opens ds _ _ _ (chooses k e a v x ms h1 h2 b) r = opens_by k.token (Is m.If) h1 if_opens
tree_opens ds _ _ _ (chooses_else k w e a b v x y ms ns h1 h2 f h3 g) r = opens_by k.token (Is m.If) h1 if_opens

closing_is_other : (inside : Bool) (t : Token) → closes inside t ≡ true → is_symbol m.Else t ≡ false
unfolding same_symbol
closing_is_other true (Is m.BraceClose) h = refl
closing_is_other false End h = refl
closing_is_other _ _ h = absurd (cc)

pub body_other : (ds : List Declared) (ss : List Spot) (ts : List Tree) (ls : List ℕ) → WrittenBody ds ss ts ls → (inside : Bool) (rest : List Spot) → closes inside (token_of rest) ≡ true
    → is_symbol m.Else (token_of (ss ++ rest)) ≡ false
body_other ds _ _ _ ended inside rest h = closing_is_other inside (token_of rest) h
body_other ds _ _ _ (follows ss rs t ts ls ms v w) inside rest h =
    let same : ss ++ rs ++ rest ≡ ss ++ (rs ++ rest) = append_assoc ss rs rest in
    let x = tree_opens ds ss t ls v (rs ++ rest) in
    ap (λ r. is_symbol m.Else (token_of r)) same ∙ x.other

pub stmts_end : (B : Parser (List Tree)) (inside : Bool) (n : ℕ) (found : List Tree) (ss : List Spot) (ls : List ℕ) (b : ℕ) (i : Input) → closes inside (token_of ss) ≡ true
    → stmts B inside (suc n) found (on ss ls b i) ≡ Ok (found, on ss ls b i)
unfolding stmts token
stmts_end B inside n found ss ls b i h = rw h refl

ended_reads : (i : Input) (n : ℕ) → BodyReads i n [] [] []
ended_reads i n inside zero found b ls rest few h less = absurd (omega arith)
ended_reads i n inside (suc turns) found b ls rest few h less =
    let a : found ++ [] ≡ found = append-nil found in
    let c : ls ++ [] ≡ ls = append-nil ls in
    rw (a, c) (record { left = b; is = stmts_end (block n) inside turns found rest ls b i h })

stmts_goes_on : (B : Parser (List Tree)) (inside : Bool) (n : ℕ) (found : List Tree) (ss us rest : List Spot) (t : Tree) (ts : List Tree) (ls ms ns : List ℕ) (b : ℕ) (i : Input)
    → closes inside (token_of ss) ≡ false → Gives (stmt B (on ss ls b i)) t us ms i → ((c : ℕ) → Gives (stmts B inside n (found ++ t ∷ []) (on us ms c i)) ts rest ns i)
    → Gives (stmts B inside (suc n) found (on ss ls b i)) ts rest ns i
unfolding stmts token
stmts_goes_on B inside n found ss us rest t ts ls ms ns b i h g f =
    let x = f g.left in
    record { left = x.left; is = rw h (bind_to _ _ _ _ g.is x.is) }

as_gives : (o : Outcome (List Tree)) (a c : List Tree) (rest : List Spot) (ls ms : List ℕ) (i : Input) → a ≡ c → ls ≡ ms → Gives o a rest ls i → Gives o c rest ms i
as_gives o a c rest ls ms i d e g = rw (← d, ← e) g

follows_reads : (i : Input) (n : ℕ) (ss rs : List Spot) (t : Tree) (ts : List Tree) (ls ms : List ℕ) → ((r : List Spot) → Opens (token_of (ss ++ r))) → 0 < length ss
    → ((inside : Bool) (rest : List Spot) → closes inside (token_of rest) ≡ true → is_symbol m.Else (token_of (rs ++ rest)) ≡ false)
    → TreeReads i n ss t ls → BodyReads i n rs ts ms → BodyReads i n (ss ++ rs) (t ∷ ts) (ls ++ ms)
follows_reads i n ss rs t ts ls ms o some other f g inside zero found b ks rest few h less = absurd (omega arith)
follows_reads i n ss rs t ts ls ms o some other f g inside (suc turns) found b ks rest few h less =
    let all : length (ls ++ ms) ≡ length ls + length ms = length-append ls ms in
    let both : length (ks ++ ls) ≡ length ks + length ls = length-append ks ls in
    let long : length (ss ++ rs) ≡ length ss + length rs = length-append ss rs in
    let few1 : length ks + length ls ≤ STATEMENTS_MAX = omega arith in
    let few2 : length (ks ++ ls) + length ms ≤ STATEMENTS_MAX = omega arith in
    let less2 : length rs < turns = omega arith in
    let first = o (rs ++ rest) in
    same_gives (stmts (block n) inside (suc turns) found) (found ++ t ∷ ts) (ss ++ rs ++ rest) (ss ++ (rs ++ rest)) rest ks (ks ++ (ls ++ ms)) (ks ++ (ls ++ ms)) b i (append_assoc ss rs rest) refl
    (as_gives _ (found ++ t ∷ [] ++ ts) (found ++ t ∷ ts) rest (ks ++ ls ++ ms) (ks ++ (ls ++ ms)) i (append_assoc found (t ∷ []) ts) (append_assoc ks ls ms)
    (stmts_goes_on (block n) inside turns found (ss ++ (rs ++ rest)) (rs ++ rest) rest t (found ++ t ∷ [] ++ ts) ks (ks ++ ls) (ks ++ ls ++ ms) b i (first.goes_on inside)
    (f b ks (rs ++ rest) few1 (other inside rest h))
    (λ c. g inside turns (found ++ t ∷ []) c (ks ++ ls) rest few2 h less2)))

-- ---- all of it

-- the input with these declarations
abbrev under : List Declared → Input → Input
under ds i = record i { decls = ds }

mutual
  tree_read : (ds : List Declared) (i : Input) (ss : List Spot) (t : Tree) (ls : List ℕ) (w : WrittenTree ds ss t ls) (n : ℕ) → IsTreeOf i.version t → blocks t ≤ n → dearest ds ss t ls w ≤ NESTING_MAX → TreeReads (under ds i) n ss t ls
  tree_read ds i _ _ _ (simply ss end s w h) n known deep dear = simple_reads (under ds i) n s known ss end w dear h
  tree_read ds i _ _ _ (repeats k e a t x ms hk w f) n known deep dear =
      repeats_reads (under ds i) n k e a t x ms hk w (omega arith) (block_stops ds a x ms f) (block_read ds i a x ms f n known (omega arith) (omega arith))
  tree_read ds i _ _ _ (chooses k e a t x ms hk w f) n known deep dear =
      chooses_reads (under ds i) n k e a t x ms hk w (omega arith) (block_stops ds a x ms f) (block_read ds i a x ms f n known.0 (omega arith) (omega arith))
  tree_read ds i _ _ _ (chooses_else k o e a z t x y ms ns hk w f ho g) n known deep dear =
      chooses_else_reads (under ds i) n k o e a z t x y ms ns hk w (omega arith) (block_stops ds a x ms f) (block_read ds i a x ms f n known.0 (omega arith) (omega arith)) ho
      (block_read ds i z y ns g n known.1 (omega arith) (omega arith))

  block_read : (ds : List Declared) (i : Input) (ss : List Spot) (ts : List Tree) (ls : List ℕ) (w : WrittenBlock ds ss ts ls) (n : ℕ) → IsBlockOf i.version (block_of ts) → blocks_in (block_of ts) < n
      → dearest_block ds ss ts ls w ≤ NESTING_MAX → BlockReads (under ds i) n ss ts ls
  block_read ds i _ _ _ (braces a z ss ts ms ha w hz) n known deep dear =
      braces_reads (under ds i) n (n - 1) a z ss ts ms (omega arith) ha hz (body_read ds i ss ts ms w (n - 1) known (omega arith) dear)

  body_read : (ds : List Declared) (i : Input) (ss : List Spot) (ts : List Tree) (ls : List ℕ) (w : WrittenBody ds ss ts ls) (n : ℕ) → IsBlockOf i.version (block_of ts) → blocks_in (block_of ts) ≤ n
      → dearest_body ds ss ts ls w ≤ NESTING_MAX → BodyReads (under ds i) n ss ts ls
  body_read ds i _ _ _ ended n known deep dear = ended_reads (under ds i) n
  body_read ds i _ _ _ (follows ss rs t ts ls ms v w) n known deep dear =
      follows_reads (under ds i) n ss rs t ts ls ms (tree_opens ds ss t ls v) (some_token ds ss t ls v) (body_other ds rs ts ms w)
      (tree_read ds i ss t ls v n known.0 (omega arith) (omega arith)) (body_read ds i rs ts ms w n known.1 (omega arith) (omega arith))

-- ---- at an input as it is

pub tree_complete : (depth : ℕ) (ss rest : List Spot) (t : Tree) (ls : List ℕ) (i : Input) (w : WrittenTree i.decls ss t ls)
    → i.tokens ≡ ss ++ rest → is_symbol m.Else (token_of rest) ≡ false → IsTreeOf i.version t → blocks t ≤ depth → dearest i.decls ss t ls w ≤ NESTING_MAX → length i.lines + length ls ≤ STATEMENTS_MAX
    → Gives (stmt (block depth) i) t rest (i.lines ++ ls) i
tree_complete depth ss rest t ls i w e last known deep dear few =
    let g = tree_read i.decls i ss t ls w depth known deep dear i.budget i.lines rest few last in
    record { left = g.left; is = ap (λ us. stmt (block depth) (on us i.lines i.budget i)) e ∙ g.is }

pub block_complete : (depth : ℕ) (ss rest : List Spot) (ts : List Tree) (ls : List ℕ) (i : Input) (w : WrittenBlock i.decls ss ts ls)
    → i.tokens ≡ ss ++ rest → IsBlockOf i.version (block_of ts) → blocks_in (block_of ts) < depth → dearest_block i.decls ss ts ls w ≤ NESTING_MAX → length i.lines + length ls ≤ STATEMENTS_MAX
    → Gives (block depth i) ts rest (i.lines ++ ls) i
block_complete depth ss rest ts ls i w e known deep dear few =
    let g = block_read i.decls i ss ts ls w depth known deep dear i.budget i.lines rest few in
    record { left = g.left; is = ap (λ us. block depth (on us i.lines i.budget i)) e ∙ g.is }

pub body_complete : (depth : ℕ) (inside : Bool) (ss rest : List Spot) (ts : List Tree) (ls : List ℕ) (i : Input) (w : WrittenBody i.decls ss ts ls)
    → i.tokens ≡ ss ++ rest → closes inside (token_of rest) ≡ true → IsBlockOf i.version (block_of ts) → blocks_in (block_of ts) ≤ depth → dearest_body i.decls ss ts ls w ≤ NESTING_MAX → length i.lines + length ls ≤ STATEMENTS_MAX
    → Gives (body (block depth) inside i) ts rest (i.lines ++ ls) i
body_complete depth inside ss rest ts ls i w e h known deep dear few =
    let turns : length ss < length (ss ++ rest) + 1 = omega (arith, length-append ss rest) in
    let g = body_gives (block depth) inside (ss ++ rest) rest ts i.lines (i.lines ++ ls) i.budget i
    (body_read i.decls i ss ts ls w depth known deep dear inside (length (ss ++ rest) + 1) [] i.budget i.lines rest few h turns) in
    record { left = g.left; is = ap (λ us. body (block depth) inside (on us i.lines i.budget i)) e ∙ g.is }
