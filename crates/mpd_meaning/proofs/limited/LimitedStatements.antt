-- What is written as statements is read, or refused by a limit.
use Rattle.std.proofs.Common.{◌≡◌, ℕ, zero, suc, ◌+◌, ◌<◌, ◌⊎◌, Bool, true, false, cond, nat_lt, nat_le, List, [], ◌∷◌, ◌++◌, length, length-append, append-nil, Some, Ok, inl, inr, refl, ap, sym, subst, ◌∙◌, append_assoc, arith}
use Rattle.mpd_model.specs.declared.place.DeclKind.TheVariants.{Variable}
use Rattle.mpd_model.specs.declared.slot.Slot.{Slot}
use Rattle.mpd_model.specs.declared.stmt.Simple.{Simple}
use Rattle.mpd_model.specs.declared.stmt.Simple.TheVariants as st
use Rattle.mpd_model.specs.declared.read_fault.FaultCode.TheVariants.{NotInVersion, TooMany}
use Rattle.mpd_model.specs.declared.token.Symbol.{Symbol}
use Rattle.mpd_model.specs.declared.token.Symbol.TheVariants as m
use Rattle.mpd_model.specs.declared.token.Token.{Token}
use Rattle.mpd_model.specs.declared.token.Token.TheVariants.{Name, Is}
use Rattle.mpd_model.specs.script.Declaration.{Declared}
use Rattle.mpd_model.specs.grammar.Costs.{Stops, on}
use Rattle.mpd_model.specs.grammar.Grammar.{begin_statement, closes, place_of_slot, index_outside, fill, Form, form_of, behind_word, by_form, HasForm, all_formed, assignment, otherwise, if_statement, while_statement, stmt_by, stmt, stmts, body, block}
use Rattle.mpd_model.specs.grammar.Input.{Input, Outcome, Parser, and_then, token, token_of, slot_in, is_symbol, first_line, sees, count, max_statements, fail, ◌>>◌}
use Rattle.mpd_model.specs.script.Parts.{Part, of_symbol, parts_of, symbol_hole, term_hole, Contents, filled}
use Rattle.mpd_model.specs.script.Term.{Term, Target}
use Rattle.mpd_model.specs.grammar.Tokens.{Spot}
use Rattle.mpd_model.specs.script.Tree.{Tree, simple, branch, repeat, no_more, block_of}
use Rattle.mpd_model.specs.grammar.Written.{WrittenTerm, by_symbol, by_target, WrittenParts, then_part, WrittenTree, simply, repeats, chooses, chooses_else, WrittenBlock, braces, WrittenBody, ended, follows}
use Rattle.mpd_laws.proofs.complete.CompleteParts.{expect_on, seek_on, symbol_seen}
use Rattle.mpd_laws.proofs.complete.CompleteStatements.{otherwise_none, otherwise_some, assigned_tokens, assigned_line, brace_closes, block_stops, body_other, stmts_end, Opens, tree_opens}
use Rattle.mpd_laws.proofs.complete.Turns.{some_token}
use Rattle.mpd_meaning.specs.FaultLaws.{IsRefusedByALimit}
use Rattle.mpd_meaning.proofs.limited.Limited.{GivesOrLimited, then_limited, step_limited, same_limited, given, begin_statement_limited, expression_limited}
use Rattle.mpd_meaning.proofs.limited.LimitedParts.{begins_place, fill_limited}

-- ---- the first token of a statement

-- what stands behind a word is read, or a limit refuses it there
abbrev Begins : Outcome Tree → Outcome Tree → Type 0
Begins o p = (o ≡ p) ⊎ IsRefusedByALimit o

-- a statement by its first token, and what follows that
begins_limited : (B : Parser (List Tree)) (q : Parser Tree) (k : Spot) (ss rest : List Spot) (t : Tree) (ls ms : List ℕ) (b : ℕ) (tk : Token) (i : Input)
    → k.token ≡ tk → Begins (stmt_by B tk (on (k ∷ ss) ls b i)) (and_then (begin_statement (on (k ∷ ss) ls b i)) (λ u. q))
    → ((c : ℕ) → GivesOrLimited (q (on ss (ls ++ k.line ∷ []) c i)) t rest ms i) → GivesOrLimited (stmt B (on (k ∷ ss) ls b i)) t rest ms i
unfolding stmt token
begins_limited B q k ss rest t ls ms b tk i e (inr l) g = same_limited _ _ t rest ms i (ap (λ u. stmt_by B u (on (k ∷ ss) ls b i)) e) (inr l)
begins_limited B q k ss rest t ls ms b tk i e (inl s) g =
    same_limited _ _ t rest ms i (ap (λ u. stmt_by B u (on (k ∷ ss) ls b i)) e ∙ s)
    (then_limited (begin_statement (on (k ∷ ss) ls b i)) (λ u. q) tt t ss rest (ls ++ k.line ∷ []) ms i (begin_statement_limited k ss ls b i) g)

-- an assignment by its name, which is sought before the statement is counted
assignment_limited : (B : Parser (List Tree)) (s : Spot) (slot : Slot) (ss rest : List Spot) (t : Tree) (ls ms : List ℕ) (b : ℕ) (i : Input) → s.token ≡ Name
    → slot_in i.decls s.text ≡ Some slot → slot.kind ≡ Variable → ((c : ℕ) → GivesOrLimited (assignment slot (on ss (ls ++ s.line ∷ []) c i)) t rest ms i) → GivesOrLimited (stmt B (on (s ∷ ss) ls b i)) t rest ms i
unfolding stmt token
assignment_limited B s slot ss rest t ls ms b i e d k g =
    same_limited _ _ t rest ms i (ap (λ u. stmt_by B u (on (s ∷ ss) ls b i)) e)
    (step_limited _ _ _ _ _ _ _ (seek_on Variable s slot ss ls b i d k)
    (then_limited (begin_statement (on (s ∷ ss) ls b i)) (λ u. assignment slot) tt t ss rest (ls ++ s.line ∷ []) ms i (begin_statement_limited s ss ls b i) g))

-- ---- choices and repetitions

while_limited : (B : Parser (List Tree)) (e xs rest : List Spot) (t : Term) (x : List Tree) (ls ms : List ℕ) (b : ℕ) (i : Input)
    → WrittenTerm i.decls 5 e t → Stops 5 xs → ((c : ℕ) → GivesOrLimited (B (on xs ls c i)) x rest ms i) → GivesOrLimited (while_statement B (on (e ++ xs) ls b i)) (repeat t (block_of x)) rest ms i
unfolding while_statement
while_limited B e xs rest t x ls ms b i w s inside =
    then_limited _ _ _ _ _ _ _ _ _ (expression_limited e xs t ls b i w s) (λ c. then_limited _ _ _ _ _ _ _ _ _ (inside c) (λ d. given (repeat t (block_of x)) rest ms d i))

if_limited : (B : Parser (List Tree)) (e xs ys rest : List Spot) (t : Term) (x y : List Tree) (ls ms ns : List ℕ) (b : ℕ) (i : Input)
    → WrittenTerm i.decls 5 e t → Stops 5 xs → ((c : ℕ) → GivesOrLimited (B (on xs ls c i)) x ys ms i) → ((c : ℕ) → GivesOrLimited (otherwise B (on ys ms c i)) y rest ns i)
    → GivesOrLimited (if_statement B (on (e ++ xs) ls b i)) (branch t (block_of x) (block_of y)) rest ns i
unfolding if_statement
if_limited B e xs ys rest t x y ls ms ns b i w s first second =
    then_limited _ _ _ _ _ _ _ _ _ (expression_limited e xs t ls b i w s)
    (λ c. then_limited _ _ _ _ _ _ _ _ _ (first c) (λ d. then_limited _ _ _ _ _ _ _ _ _ (second d) (λ f. given (branch t (block_of x) (block_of y)) rest ns f i)))

-- ---- statements, by what is written

abbrev TreeLimited : Input → ℕ → List Spot → Tree → List ℕ → Type 0
TreeLimited i n ss t ms = (b : ℕ) (ls : List ℕ) (rest : List Spot) → is_symbol m.Else (token_of rest) ≡ false → GivesOrLimited (stmt (block n) (on (ss ++ rest) ls b i)) t rest (ls ++ ms) i

abbrev BlockLimited : Input → ℕ → List Spot → List Tree → List ℕ → Type 0
BlockLimited i n ss ts ms = (b : ℕ) (ls : List ℕ) (rest : List Spot) → GivesOrLimited (block n (on (ss ++ rest) ls b i)) ts rest (ls ++ ms) i

abbrev BodyLimited : Input → ℕ → List Spot → List Tree → List ℕ → Type 0
BodyLimited i n ss ts ms = (inside : Bool) (turns : ℕ) (found : List Tree) (b : ℕ) (ls : List ℕ) (rest : List Spot)
    → closes inside (token_of rest) ≡ true → length ss < turns → GivesOrLimited (stmts (block n) inside turns found (on (ss ++ rest) ls b i)) (found ++ ts) rest (ls ++ ms) i

-- the same of the same tokens and lines
same_of : {A : Type 0} (p : Parser A) (a : A) (ss us rest : List Spot) (ls ms ns : List ℕ) (b : ℕ) (i : Input) → ss ≡ us → ms ≡ ns
    → GivesOrLimited (p (on us ls b i)) a rest ms i → GivesOrLimited (p (on ss ls b i)) a rest ns i
same_of p a ss us rest ls ms ns b i d e g = rw (d, ← e) g

-- where a text's version has no such statement, a limit refuses it
older_case : (few : Bool) (i j : Input) → IsRefusedByALimit (and_then (cond few (Ok (tt, j)) (fail TooMany i)) (λ (u : Unit {0}). fail {A = Tree} NotInVersion))
older_case true i j = tt
older_case false i j = tt

older_limited : (i : Input) → IsRefusedByALimit ((count >> fail {A = Tree} NotInVersion) i)
unfolding count
older_limited i = older_case (nat_lt (length i.lines) max_statements) i (record i { lines = i.lines ++ first_line i.tokens ∷ [] })

since_limited : (known : Bool) (p : Parser Tree) (i : Input) → Begins (cond known (p i) ((count >> fail NotInVersion) i)) (p i)
since_limited true p i = inl refl
since_limited false p i = inr (older_limited i)

-- where a word has a form, that reads the statement, or a limit refuses it
by_form_limited : (B : Parser (List Tree)) (k : Symbol) (f : Form) (i : Input) → form_of k ≡ Some f → Begins (stmt_by B (Is k) i) (by_form (Some f) i)
by_form_limited B m.If f i h = absurd (cc)
by_form_limited B m.While f i h = absurd (cc)
by_form_limited B m.Waitany f i h = subst (λ o. Begins (stmt_by B (Is m.Waitany) i) (by_form o i)) h (since_limited (nat_le 2 i.version) (by_form (form_of m.Waitany)) i)
by_form_limited B k f i h = inl (ap (λ o. by_form o i) h)

-- a statement by its word
form_limited : (i : Input) (n : ℕ) (f : Form) (c : Contents f.holes) (ss : List Spot) (end : Spot) → form_of f.word ≡ Some f
    → WrittenParts i.decls ss (of_symbol f.word ∷ filled f.holes c) → end.token ≡ Is m.Semicolon → TreeLimited i n (ss ++ end ∷ []) (simple (f.made c)) (first_line ss ∷ [])
form_limited i n f c _ end found (then_part _ rs _ _ (by_symbol s _ h) w) he b ls rest last =
    same_of (stmt (block n)) (simple (f.made c)) _ (s ∷ (rs ++ (end ∷ rest))) rest ls _ _ b i (simp append_assoc) refl
    (begins_limited (block n) (behind_word f) s (rs ++ (end ∷ rest)) rest (simple (f.made c)) ls _ b (Is f.word) i h (by_form_limited (block n) f.word f (on (s ∷ (rs ++ (end ∷ rest))) ls b i) found)
    (λ d. fill_limited f.holes (λ d. simple (f.made d)) c rs end rest (ls ++ s.line ∷ []) d i f.clear w he))

behind_place_limited : (slot : Slot) (xs us rest : List Spot) (t : Target) (e : Term) (ls : List ℕ) (b : ℕ) (i : Input) → GivesOrLimited (index_outside (place_of_slot slot) slot.size (on xs ls b i)) t us ls i
    → ((c : ℕ) → GivesOrLimited (fill (symbol_hole m.Assign ∷ term_hole ∷ []) (λ c. simple (st.Assign (record { into = t; value = c.0 }))) (on us ls c i)) (simple (st.Assign (record { into = t; value = e }))) rest ls i)
    → GivesOrLimited (assignment slot (on xs ls b i)) (simple (st.Assign (record { into = t; value = e }))) rest ls i
unfolding assignment
behind_place_limited slot xs us rest t e ls b i g f = then_limited _ _ _ _ _ _ _ _ _ g f

assigns_limited : (i : Input) (n : ℕ) (t : Target) (e : Term) (ss : List Spot) (end : Spot) → WrittenParts i.decls ss (parts_of (st.Assign (record { into = t; value = e }))) → end.token ≡ Is m.Semicolon
    → TreeLimited i n (ss ++ end ∷ []) (simple (st.Assign (record { into = t; value = e }))) (first_line ss ∷ [])
assigns_limited i n t e _ end (then_part v rs _ _ (by_target _ _ _ names) w) he b ls rest last =
    let x = begins_place i Variable v t names in
    let line : List ℕ = ls ++ x.first.line ∷ [] in
    let made : Tree = simple (st.Assign (record { into = t; value = e })) in
    same_of (stmt (block n)) made _ (x.first ∷ (x.behind ++ (rs ++ (end ∷ rest)))) rest ls line _ b i
    (assigned_tokens x.first v x.behind rs end rest x.is) (ap (λ r. ls ++ r ∷ []) (assigned_line x.first v x.behind rs x.is))
    (assignment_limited (block n) x.first x.slot (x.behind ++ (rs ++ (end ∷ rest))) rest made ls line b i x.token x.declared x.kind
    (λ d. behind_place_limited x.slot (x.behind ++ (rs ++ (end ∷ rest))) (rs ++ (end ∷ rest)) rest t e line d i (x.reads line d (rs ++ (end ∷ rest)))
    (λ c. fill_limited (symbol_hole m.Assign ∷ term_hole ∷ []) (λ d. simple (st.Assign (record { into = t; value = d.0 }))) (e, tt) rs end rest line c i (tt, tt) w he)))

-- a statement that holds no other, by its parts
abbrev PartsLimited : Input → ℕ → Tree → List Part → Type 0
PartsLimited i n t ps = (ss : List Spot) (end : Spot) → WrittenParts i.decls ss ps → end.token ≡ Is m.Semicolon → TreeLimited i n (ss ++ end ∷ []) t (first_line ss ∷ [])

abbrev SimpleLimited : Input → ℕ → Simple → Type 0
SimpleLimited i n s = PartsLimited i n (simple s) (parts_of s)

formed_limited : (i : Input) (n : ℕ) (s : Simple) → HasForm s → SimpleLimited i n s
formed_limited i n s x =
    let formed : PartsLimited i n (simple (x.form.made x.contents)) (of_symbol x.form.word ∷ filled x.form.holes x.contents) =
    λ ss end w he. form_limited i n x.form x.contents ss end x.found w he in
    subst (SimpleLimited i n) x.is (subst (PartsLimited i n (simple (x.form.made x.contents))) (sym (x.form.parts x.contents)) formed)

simple_limited : (i : Input) (n : ℕ) (s : Simple) → SimpleLimited i n s
simple_limited i n (st.Assign s) = assigns_limited i n s.into s.value
simple_limited i n s = formed_limited i n s (all_formed s)

repeats_limited : (i : Input) (n : ℕ) (k : Spot) (e a : List Spot) (t : Term) (x : List Tree) (ms : List ℕ)
    → k.token ≡ Is m.While → WrittenTerm i.decls 5 e t → ((r : List Spot) → Stops 5 (a ++ r)) → BlockLimited i n a x ms → TreeLimited i n (k ∷ e ++ a) (repeat t (block_of x)) (k.line ∷ ms)
repeats_limited i n k e a t x ms hk w s f b ls rest last =
    let ks : List ℕ = ls ++ k.line ∷ [] in
    same_of (stmt (block n)) (repeat t (block_of x)) _ (k ∷ (e ++ (a ++ rest))) rest ls (ks ++ ms) _ b i (simp append_assoc) (append_assoc ls (k.line ∷ []) ms)
    (begins_limited (block n) (while_statement (block n)) k (e ++ (a ++ rest)) rest (repeat t (block_of x)) ls _ b (Is m.While) i hk (inl refl)
    (λ d. while_limited (block n) e (a ++ rest) rest t x ks (ks ++ ms) d i w (s rest) (λ c. f c ks rest)))

nothing_else : (B : Parser (List Tree)) (rest : List Spot) (ls : List ℕ) (b : ℕ) (i : Input) → is_symbol m.Else (token_of rest) ≡ false → GivesOrLimited (otherwise B (on rest ls b i)) [] rest ls i
nothing_else B rest ls b i h = inl (record { left = b; is = otherwise_none B rest ls b i h })

else_limited : (B : Parser (List Tree)) (w : Spot) (ss rest : List Spot) (y : List Tree) (ls ms : List ℕ) (b : ℕ) (i : Input) → w.token ≡ Is m.Else
    → GivesOrLimited (B (on ss ls b i)) y rest ms i → GivesOrLimited (otherwise B (on (w ∷ ss) ls b i)) y rest ms i
else_limited B w ss rest y ls ms b i h g = same_limited _ _ y rest ms i (otherwise_some B w ss ls b i (symbol_seen m.Else w h)) g

chooses_limited : (i : Input) (n : ℕ) (k : Spot) (e a : List Spot) (t : Term) (x : List Tree) (ms : List ℕ)
    → k.token ≡ Is m.If → WrittenTerm i.decls 5 e t → ((r : List Spot) → Stops 5 (a ++ r)) → BlockLimited i n a x ms → TreeLimited i n (k ∷ e ++ a) (branch t (block_of x) no_more) (k.line ∷ ms)
chooses_limited i n k e a t x ms hk w s f b ls rest last =
    let ks : List ℕ = ls ++ k.line ∷ [] in
    same_of (stmt (block n)) (branch t (block_of x) no_more) _ (k ∷ (e ++ (a ++ rest))) rest ls (ks ++ ms) _ b i (simp append_assoc) (append_assoc ls (k.line ∷ []) ms)
    (begins_limited (block n) (if_statement (block n)) k (e ++ (a ++ rest)) rest (branch t (block_of x) no_more) ls _ b (Is m.If) i hk (inl refl)
    (λ d. if_limited (block n) e (a ++ rest) rest rest t x [] ks (ks ++ ms) (ks ++ ms) d i w (s rest)
    (λ c. f c ks rest) (λ c. nothing_else (block n) rest (ks ++ ms) c i last)))

chooses_else_limited : (i : Input) (n : ℕ) (k o : Spot) (e a z : List Spot) (t : Term) (x y : List Tree) (ms ns : List ℕ)
    → k.token ≡ Is m.If → WrittenTerm i.decls 5 e t → ((r : List Spot) → Stops 5 (a ++ r)) → BlockLimited i n a x ms → o.token ≡ Is m.Else → BlockLimited i n z y ns
    → TreeLimited i n (k ∷ e ++ a ++ o ∷ z) (branch t (block_of x) (block_of y)) (k.line ∷ ms ++ ns)
chooses_else_limited i n k o e a z t x y ms ns hk w s f ho g b ls rest last =
    let ks : List ℕ = ls ++ k.line ∷ [] in
    same_of (stmt (block n)) (branch t (block_of x) (block_of y)) _ (k ∷ (e ++ (a ++ (o ∷ (z ++ rest))))) rest ls (ks ++ ms ++ ns) _ b i (simp append_assoc) (simp append_assoc)
    (begins_limited (block n) (if_statement (block n)) k (e ++ (a ++ (o ∷ (z ++ rest)))) rest (branch t (block_of x) (block_of y)) ls _ b (Is m.If) i hk (inl refl)
    (λ d. if_limited (block n) e (a ++ (o ∷ (z ++ rest))) (o ∷ (z ++ rest)) rest t x y ks (ks ++ ms) (ks ++ ms ++ ns) d i w (s (o ∷ (z ++ rest)))
    (λ c. f c ks (o ∷ (z ++ rest))) (λ c. else_limited (block n) o (z ++ rest) rest y (ks ++ ms) (ks ++ ms ++ ns) c i ho (g c (ks ++ ms) rest))))

-- ---- blocks

-- no more block may be opened
none_opened : (a : Spot) (ss rest : List Spot) (ts : List Tree) (ls ms : List ℕ) (b : ℕ) (i : Input) → is_symbol m.BraceOpen a.token ≡ true → GivesOrLimited (block zero (on (a ∷ ss) ls b i)) ts rest ms i
unfolding block sees token
none_opened a ss rest ts ls ms b i h = rw h (inr tt)

one_opened : (n : ℕ) (a z : Spot) (ss rest : List Spot) (ts : List Tree) (ls ms : List ℕ) (b : ℕ) (i : Input) → a.token ≡ Is m.BraceOpen → z.token ≡ Is m.BraceClose
    → GivesOrLimited (stmts (block n) true (length ss + 1) [] (on ss ls b i)) ts (z ∷ rest) ms i → GivesOrLimited (block (suc n) (on (a ∷ ss) ls b i)) ts rest ms i
unfolding block body
one_opened n a z ss rest ts ls ms b i ha hz g =
    step_limited _ _ _ _ _ _ _ (expect_on m.BraceOpen a ss ls b i ha)
    (then_limited _ _ _ _ _ _ _ _ _ g (λ c. step_limited _ _ _ _ _ _ _ (expect_on m.BraceClose z rest ms c i hz) (given ts rest ms c i)))

braces_limited : (i : Input) (n : ℕ) (a z : Spot) (ss : List Spot) (ts : List Tree) (ms : List ℕ) → a.token ≡ Is m.BraceOpen → z.token ≡ Is m.BraceClose
    → ((k : ℕ) → BodyLimited i k ss ts ms) → BlockLimited i n (a ∷ ss ++ z ∷ []) ts ms
braces_limited i zero a z ss ts ms ha hz h b ls rest = none_opened a (ss ++ z ∷ [] ++ rest) rest ts ls (ls ++ ms) b i (symbol_seen m.BraceOpen a ha)
braces_limited i (suc k) a z ss ts ms ha hz h b ls rest =
    let turns : length ss < length (ss ++ z ∷ rest) + 1 = omega (arith, length-append ss (z ∷ rest)) in
    same_of (block (suc k)) ts _ (a ∷ (ss ++ z ∷ rest)) rest ls (ls ++ ms) (ls ++ ms) b i (simp append_assoc) refl
    (one_opened k a z (ss ++ z ∷ rest) rest ts ls (ls ++ ms) b i ha hz (h k true (length (ss ++ z ∷ rest) + 1) [] b ls (z ∷ rest) (brace_closes z hz) turns))

-- ---- bodies

ended_limited : (i : Input) (n : ℕ) → BodyLimited i n [] [] []
ended_limited i n inside zero found b ls rest h less = absurd (omega arith)
ended_limited i n inside (suc turns) found b ls rest h less =
    let a : found ++ [] ≡ found = append-nil found in
    let c : ls ++ [] ≡ ls = append-nil ls in
    rw (a, c) (inl (record { left = b; is = stmts_end (block n) inside turns found rest ls b i h }))

goes_on_limited : (B : Parser (List Tree)) (inside : Bool) (n : ℕ) (found : List Tree) (ss us rest : List Spot) (t : Tree) (ts : List Tree) (ls ms ns : List ℕ) (b : ℕ) (i : Input)
    → closes inside (token_of ss) ≡ false → GivesOrLimited (stmt B (on ss ls b i)) t us ms i → ((c : ℕ) → GivesOrLimited (stmts B inside n (found ++ t ∷ []) (on us ms c i)) ts rest ns i)
    → GivesOrLimited (stmts B inside (suc n) found (on ss ls b i)) ts rest ns i
unfolding stmts token
goes_on_limited B inside n found ss us rest t ts ls ms ns b i h g f = rw h (then_limited _ _ _ _ _ _ _ _ _ g f)

as_limited : (o : Outcome (List Tree)) (a c : List Tree) (rest : List Spot) (ls ms : List ℕ) (i : Input) → a ≡ c → ls ≡ ms → GivesOrLimited o a rest ls i → GivesOrLimited o c rest ms i
as_limited o a c rest ls ms i d e g = rw (← d, ← e) g

follows_limited : (i : Input) (n : ℕ) (ss rs : List Spot) (t : Tree) (ts : List Tree) (ls ms : List ℕ) → ((r : List Spot) → Opens (token_of (ss ++ r))) → 0 < length ss
    → ((inside : Bool) (rest : List Spot) → closes inside (token_of rest) ≡ true → is_symbol m.Else (token_of (rs ++ rest)) ≡ false)
    → TreeLimited i n ss t ls → BodyLimited i n rs ts ms → BodyLimited i n (ss ++ rs) (t ∷ ts) (ls ++ ms)
follows_limited i n ss rs t ts ls ms o some other f g inside zero found b ks rest h less = absurd (omega arith)
follows_limited i n ss rs t ts ls ms o some other f g inside (suc turns) found b ks rest h less =
    let long : length (ss ++ rs) ≡ length ss + length rs = length-append ss rs in
    let less2 : length rs < turns = omega arith in
    let first = o (rs ++ rest) in
    same_of (stmts (block n) inside (suc turns) found) (found ++ t ∷ ts) (ss ++ rs ++ rest) (ss ++ (rs ++ rest)) rest ks (ks ++ (ls ++ ms)) (ks ++ (ls ++ ms)) b i (append_assoc ss rs rest) refl
    (as_limited _ (found ++ t ∷ [] ++ ts) (found ++ t ∷ ts) rest (ks ++ ls ++ ms) (ks ++ (ls ++ ms)) i (append_assoc found (t ∷ []) ts) (append_assoc ks ls ms)
    (goes_on_limited (block n) inside turns found (ss ++ (rs ++ rest)) (rs ++ rest) rest t (found ++ t ∷ [] ++ ts) ks (ks ++ ls) (ks ++ ls ++ ms) b i (first.goes_on inside)
    (f b ks (rs ++ rest) (other inside rest h))
    (λ c. g inside turns (found ++ t ∷ []) c (ks ++ ls) rest h less2)))

-- ---- all of it

-- the input with these declarations
abbrev pub under : List Declared → Input → Input
under ds i = record i { decls = ds }

mutual
  tree_limited : (ds : List Declared) (i : Input) (ss : List Spot) (t : Tree) (ls : List ℕ) → WrittenTree ds ss t ls → (n : ℕ) → TreeLimited (under ds i) n ss t ls
  tree_limited ds i _ _ _ (simply ss end s w h) n = simple_limited (under ds i) n s ss end w h
  tree_limited ds i _ _ _ (repeats k e a t x ms hk w f) n = repeats_limited (under ds i) n k e a t x ms hk w (block_stops ds a x ms f) (block_limited ds i a x ms f n)
  tree_limited ds i _ _ _ (chooses k e a t x ms hk w f) n = chooses_limited (under ds i) n k e a t x ms hk w (block_stops ds a x ms f) (block_limited ds i a x ms f n)
  tree_limited ds i _ _ _ (chooses_else k o e a z t x y ms ns hk w f ho g) n =
      chooses_else_limited (under ds i) n k o e a z t x y ms ns hk w (block_stops ds a x ms f) (block_limited ds i a x ms f n) ho (block_limited ds i z y ns g n)

  block_limited : (ds : List Declared) (i : Input) (ss : List Spot) (ts : List Tree) (ls : List ℕ) → WrittenBlock ds ss ts ls → (n : ℕ) → BlockLimited (under ds i) n ss ts ls
  block_limited ds i _ _ _ (braces a z ss ts ms ha w hz) n = braces_limited (under ds i) n a z ss ts ms ha hz (body_limited ds i ss ts ms w)

  body_limited : (ds : List Declared) (i : Input) (ss : List Spot) (ts : List Tree) (ls : List ℕ) → WrittenBody ds ss ts ls → (n : ℕ) → BodyLimited (under ds i) n ss ts ls
  body_limited ds i _ _ _ ended n = ended_limited (under ds i) n
  body_limited ds i _ _ _ (follows ss rs t ts ls ms v w) n =
      follows_limited (under ds i) n ss rs t ts ls ms (tree_opens ds ss t ls v) (some_token ds ss t ls v) (body_other ds rs ts ms w) (tree_limited ds i ss t ls v n) (body_limited ds i rs ts ms w n)

-- the statements of a whole script
pub whole_limited : (n : ℕ) (ss : List Spot) (ts : List Tree) (ls : List ℕ) (i : Input) → i.tokens ≡ ss → i.lines ≡ [] → WrittenBody i.decls ss ts ls → GivesOrLimited (body (block n) false i) ts [] ls i
unfolding body
whole_limited n ss ts ls i e none_yet w =
    let turns : length ss < length i.tokens + 1 = omega (arith, ap length e) in
    let nil : ss ++ [] ≡ ss = append-nil ss in
    as_limited _ ts ts [] (i.lines ++ ls) ls i refl (ap (λ r. r ++ ls) none_yet)
    (same_limited _ _ ts [] (i.lines ++ ls) i (ap (λ us. stmts (block n) false (length i.tokens + 1) [] (on us i.lines i.budget i)) (e ∙ sym nil))
    (body_limited i.decls i ss ts ls w n false (length i.tokens + 1) [] i.budget i.lines [] refl turns))
