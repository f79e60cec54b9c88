-- What is written as a script, within the limits, is read.
use Rattle.std.proofs.Common.{◌≡◌, ℕ, zero, suc, ◌+◌, ◌<◌, ◌≤◌, pos, Bool, true, false, cond, nat_le, nat_lt, List, [], ◌∷◌, ◌++◌, length, length-append, append-nil, Option, Some, None, Ok, refl, ap, sym, ◌∙◌, arith}
use Rattle.std.proofs.lemmas.Bool.Decides.{nat_tests}
use Rattle.std.specs.List.{prefix_len}
use denote.Enum.Bare.{true_same}
use Rattle.mpd_model.specs.declared.limits.TheConstants.{BLOCKS_MAX, CELLS_MAX, HANDLES_MAX, NESTING_MAX, RANKS_MAX, SCRIPT_MAX, STATEMENTS_MAX, LANGUAGE_MAX}
use Rattle.mpd_model.specs.contracts.token.Symbol.{the_type}
use Rattle.mpd_model.specs.declared.place.DeclKind.{DeclKind}
use Rattle.mpd_model.specs.declared.token.Symbol.{Symbol}
use Rattle.mpd_model.specs.declared.token.Symbol.TheVariants as m
use Rattle.mpd_model.specs.declared.token.Token.{Token}
use Rattle.mpd_model.specs.declared.token.Token.TheVariants.{Number, Name, Is}
use Rattle.mpd_model.specs.script.Declaration.{Declared, variable_cells, handle_cells, variables_in, handles_in}
use Rattle.mpd_model.specs.grammar.Costs.{Gives, blocks_in, dearest_body, dearest_script}
use Rattle.mpd_model.specs.grammar.Grammar.{version_in, version_of, version_by, version, rank_count, ranks_by, ranks, array_size_at, array_size_by, array_size, single, declarator, decl_by, decl, declares, decls_by, decls_from, decls, header, body, block, max_text, is_text, read_of, reading}
use Rattle.mpd_model.specs.grammar.Grammar as grammar
use Rattle.mpd_model.specs.grammar.Input.{Input, Outcome, Parser, and_then, start_of, token, token_of, spelling, place, advanced, expect, sees, is_symbol, same_symbol, after, fresh, add, cells_fit, slot_in}
use Rattle.mpd_model.specs.script.Program.{Program, IsBlockOf, IsLegal}
use Rattle.mpd_model.specs.grammar.Tokens.{Spot, tokens}
use Rattle.mpd_model.specs.script.Tree.{Tree, block_of}
use Rattle.mpd_model.specs.grammar.Written.{WrittenTree, WrittenBody, ended, follows, WrittenDecls, none, declares_one, declares_array, declared_as, WrittenScript, script}
use Rattle.mpd_laws.proofs.complete.Cells.{variables_in-more, handles_in-more}
use Rattle.mpd_laws.proofs.complete.Complete.{bind_to, expect_at}
use Rattle.mpd_laws.proofs.complete.CompleteStatements.{tree_opens, body_complete}
use Rattle.mpd_laws.proofs.sound.SoundScript.{in_version}

-- the input with other tokens next and other declarations
abbrev pub has : List Spot → List Declared → Input → Input
has ss ds i = record i { tokens = ss; decls = ds }

pub expect_has : (wanted : Symbol) (s : Spot) (rest : List Spot) (ds : List Declared) (i : Input) → s.token ≡ Is wanted → expect wanted (has (s ∷ rest) ds i) ≡ Ok (tt, has rest ds i)
expect_has wanted s rest ds i e = expect_at wanted s rest i.budget (has rest ds i) e

pub symbol_seen : (wanted : Symbol) (t : Token) → t ≡ Is wanted → is_symbol wanted t ≡ true
unfolding same_symbol
symbol_seen wanted t e = ap (is_symbol wanted) e ∙ true_same the_type wanted wanted refl

-- ---- a declaration

pub fresh_has : (n : Spot) (rest : List Spot) (ds : List Declared) (i : Input) → slot_in ds n.text ≡ None → fresh (has (n ∷ rest) ds i) ≡ Ok (tt, has (n ∷ rest) ds i)
unfolding fresh spelling
fresh_has n rest ds i h = rw h refl

add_has : (kind : DeclKind) (name : List ℕ) (size : Option ℕ) (p : ℕ) (ss : List Spot) (ds : List Declared) (i : Input) → cells_fit kind size ds ≡ true
    → add kind name size p (has ss ds i) ≡ Ok (tt, has ss (ds ++ declared_as kind name size ∷ []) i)
unfolding add
add_has kind name size p ss ds i h = rw h refl

pub no_size : (s : Spot) → s.token ≡ Is m.Semicolon → is_symbol m.SquareOpen s.token ≡ false
unfolding same_symbol
no_size s e = ap (is_symbol m.SquareOpen) e

single_has : (kind : DeclKind) (name : List ℕ) (p : ℕ) (end : Spot) (rest : List Spot) (ds : List Declared) (i : Input) → end.token ≡ Is m.Semicolon → cells_fit kind None ds ≡ true
    → single kind name p (has (end ∷ rest) ds i) ≡ Ok (tt, has rest (ds ++ declared_as kind name None ∷ []) i)
unfolding single
single_has kind name p end rest ds i e h =
    bind_to _ _ _ _ (add_has kind name None p (end ∷ rest) ds i h) (expect_has m.Semicolon end rest (ds ++ declared_as kind name None ∷ []) i e)

array_size_at_has : (kind : DeclKind) (name : List ℕ) (n : ℕ) (c z end : Spot) (rest : List Spot) (ds : List Declared) (i : Input) → z.token ≡ Is m.SquareClose → end.token ≡ Is m.Semicolon
    → cells_fit kind (Some n) ds ≡ true → array_size_at kind name (Some n) (has (c ∷ z ∷ end ∷ rest) ds i) ≡ Ok (tt, has rest (ds ++ declared_as kind name (Some n) ∷ []) i)
unfolding advanced
array_size_at_has kind name n c z end rest ds i ez e h =
    let es = ds ++ declared_as kind name (Some n) ∷ [] in
    bind_to _ _ _ _ (add_has kind name (Some n) (place (has (c ∷ z ∷ end ∷ rest) ds i)) (c ∷ z ∷ end ∷ rest) ds i h)
    (bind_to _ _ _ _ (expect_has m.SquareClose z (end ∷ rest) es i ez) (expect_has m.Semicolon end rest es i e))

array_size_has : (kind : DeclKind) (name : List ℕ) (n : ℕ) (c z end : Spot) (rest : List Spot) (ds : List Declared) (i : Input) → c.token ≡ Number (pos n) → z.token ≡ Is m.SquareClose
    → end.token ≡ Is m.Semicolon → cells_fit kind (Some n) ds ≡ true → array_size kind name (has (c ∷ z ∷ end ∷ rest) ds i) ≡ Ok (tt, has rest (ds ++ declared_as kind name (Some n) ∷ []) i)
unfolding array_size token
array_size_has kind name n c z end rest ds i ec ez e h = ap (λ u. array_size_by kind name u (has (c ∷ z ∷ end ∷ rest) ds i)) ec ∙ array_size_at_has kind name n c z end rest ds i ez e h

-- one of two, each with its input
pub chosen : (b c : Bool) (p q : Parser (Unit {0})) (x y : Input) (o : Outcome (Unit {0})) → b ≡ c → cond c p q (cond c x y) ≡ o → cond b p q (cond b x y) ≡ o
chosen b c p q x y o e h = rw e h

declarator_has : (kind : DeclKind) (n end : Spot) (rest : List Spot) (ds : List Declared) (i : Input) → slot_in ds n.text ≡ None → end.token ≡ Is m.Semicolon → cells_fit kind None ds ≡ true
    → declarator kind (has (n ∷ end ∷ rest) ds i) ≡ Ok (tt, has rest (ds ++ declared_as kind n.text None ∷ []) i)
unfolding declarator advanced spelling sees token after
declarator_has kind n end rest ds i free e h =
    bind_to _ _ _ _ (fresh_has n (end ∷ rest) ds i free)
    (chosen (is_symbol m.SquareOpen end.token) false _ _ _ _ _ (no_size end e) (single_has kind n.text (place (has (n ∷ end ∷ rest) ds i)) end rest ds i e h))

array_has : (kind : DeclKind) (n a c z end : Spot) (cells : ℕ) (rest : List Spot) (ds : List Declared) (i : Input) → slot_in ds n.text ≡ None → a.token ≡ Is m.SquareOpen
    → c.token ≡ Number (pos cells) → z.token ≡ Is m.SquareClose → end.token ≡ Is m.Semicolon → cells_fit kind (Some cells) ds ≡ true
    → declarator kind (has (n ∷ a ∷ c ∷ z ∷ end ∷ rest) ds i) ≡ Ok (tt, has rest (ds ++ declared_as kind n.text (Some cells) ∷ []) i)
unfolding declarator advanced spelling sees token after
array_has kind n a c z end cells rest ds i free ea ec ez e h =
    bind_to _ _ _ _ (fresh_has n (a ∷ c ∷ z ∷ end ∷ rest) ds i free)
    (chosen (is_symbol m.SquareOpen a.token) true _ _ _ _ _ (symbol_seen m.SquareOpen a.token ea) (array_size_has kind n.text cells c z end rest ds i ec ez e h))

pub decl_as : (kind : DeclKind) (n : Spot) (ss : List Spot) (ds : List Declared) (i : Input) → n.token ≡ Name → decl kind (has (n ∷ ss) ds i) ≡ declarator kind (has (n ∷ ss) ds i)
unfolding decl token
decl_as kind n ss ds i e = ap (λ u. decl_by kind u (has (n ∷ ss) ds i)) e

-- ---- all declarations

pub decls_more : (kind : DeclKind) (n : ℕ) (v : Spot) (ss : List Spot) (ds : List Declared) (i : Input) → declares v.token ≡ Some kind
    → decls_from (suc n) (has (v ∷ ss) ds i) ≡ and_then (decl kind (has ss ds i)) (λ u. decls_from n)
unfolding decls_from token advanced
decls_more kind n v ss ds i h = ap (λ o. decls_by (decls_from n) o (has (v ∷ ss) ds i)) h

pub decls_end : (n : ℕ) (ss : List Spot) (ds : List Declared) (i : Input) → declares (token_of ss) ≡ None → decls_from (suc n) (has ss ds i) ≡ Ok (tt, has ss ds i)
unfolding decls_from token
decls_end n ss ds i h = ap (λ o. decls_by (decls_from n) o (has ss ds i)) h

record Grows (ds es : List Declared) : Type 0 where
  variables : variables_in ds ≤ variables_in es
  handles : handles_in ds ≤ handles_in es

less_grows : (ds es : List Declared) (d : Declared) → Grows (ds ++ d ∷ []) es → Grows ds es
less_grows ds es d x = record {
  variables = let y = x.variables in omega (arith, variables_in-more ds d);
  handles = let y = x.handles in omega (arith, handles_in-more ds d);
}

decls_grow : (ds : List Declared) (ss : List Spot) (es : List Declared) → WrittenDecls ds ss es → Grows ds es
decls_grow _ _ _ (none ds) = record { variables = omega arith; handles = omega arith }
decls_grow _ _ _ (declares_one ds es kind v n end ss h1 h2 h3 h4 w) = less_grows ds es (declared_as kind n.text None) (decls_grow (ds ++ declared_as kind n.text None ∷ []) ss es w)
decls_grow _ _ _ (declares_array ds es kind v n a c b end cells ss h1 h2 h3 h4 h5 h6 h7 w) =
    less_grows ds es (declared_as kind n.text (Some cells)) (decls_grow (ds ++ declared_as kind n.text (Some cells) ∷ []) ss es w)

room : (ds es : List Declared) (kind : DeclKind) (name : List ℕ) (size : Option ℕ) → Grows (ds ++ declared_as kind name size ∷ []) es → variables_in es ≤ CELLS_MAX → handles_in es ≤ HANDLES_MAX
    → cells_fit kind size ds ≡ true
room ds es kind name size g a b =
    let x : variables_in (ds ++ declared_as kind name size ∷ []) ≡ variables_in ds + variable_cells kind size = variables_in-more ds (declared_as kind name size) in
    let y : handles_in (ds ++ declared_as kind name size ∷ []) ≡ handles_in ds + handle_cells kind size = handles_in-more ds (declared_as kind name size) in
    let p : nat_le (variables_in ds + variable_cells kind size) CELLS_MAX ≡ true = let z = g.variables in grind (arith, nat_tests) in
    let q : nat_le (handles_in ds + handle_cells kind size) HANDLES_MAX ≡ true = let z = g.handles in grind (arith, nat_tests) in
    rw (p, q) refl

decls_has : (ds : List Declared) (ss : List Spot) (es : List Declared) → WrittenDecls ds ss es → (turns : ℕ) (rest : List Spot) (i : Input) → length ss < turns
    → declares (token_of rest) ≡ None → variables_in es ≤ CELLS_MAX → handles_in es ≤ HANDLES_MAX → decls_from turns (has (ss ++ rest) ds i) ≡ Ok (tt, has rest es i)
decls_has _ _ _ (none ds) zero rest i less h a b = absurd (omega arith)
decls_has _ _ _ (none ds) (suc turns) rest i less h a b = decls_end turns rest ds i h
decls_has _ _ _ (declares_one ds es kind v n end ss h1 h2 h3 h4 w) zero rest i less h a b = absurd (omega arith)
decls_has _ _ _ (declares_one ds es kind v n end ss h1 h2 h3 h4 w) (suc turns) rest i less h a b =
    decls_more kind turns v (n ∷ end ∷ (ss ++ rest)) ds i h1
    ∙ bind_to _ _ _ _ (decl_as kind n (end ∷ (ss ++ rest)) ds i h2 ∙ declarator_has kind n end (ss ++ rest) ds i h3 h4 (room ds es kind n.text None (decls_grow _ ss es w) a b))
    (decls_has (ds ++ declared_as kind n.text None ∷ []) ss es w turns rest i (omega arith) h a b)
decls_has _ _ _ (declares_array ds es kind v n o c z end cells ss h1 h2 h3 h4 h5 h6 h7 w) zero rest i less h a b = absurd (omega arith)
decls_has _ _ _ (declares_array ds es kind v n o c z end cells ss h1 h2 h3 h4 h5 h6 h7 w) (suc turns) rest i less h a b =
    decls_more kind turns v (n ∷ o ∷ c ∷ z ∷ end ∷ (ss ++ rest)) ds i h1
    ∙ bind_to _ _ _ _ (decl_as kind n (o ∷ c ∷ z ∷ end ∷ (ss ++ rest)) ds i h2
    ∙ array_has kind n o c z end cells (ss ++ rest) ds i h3 h4 h5 h6 h7 (room ds es kind n.text (Some cells) (decls_grow _ ss es w) a b))
    (decls_has (ds ++ declared_as kind n.text (Some cells) ∷ []) ss es w turns rest i (omega arith) h a b)

all_decls : (ss rest : List Spot) (es : List Declared) (i : Input) → WrittenDecls [] ss es → declares (token_of rest) ≡ None → variables_in es ≤ CELLS_MAX → handles_in es ≤ HANDLES_MAX
    → decls (has (ss ++ rest) [] i) ≡ Ok (tt, has rest es i)
unfolding decls
all_decls ss rest es i w h a b =
    let turns : length ss < length (ss ++ rest) + 1 = omega (arith, length-append ss rest) in
    decls_has [] ss es w (length (ss ++ rest) + 1) rest i turns h a b

-- ---- the header

version_fits : (n : ℕ) → 1 ≤ n → n ≤ LANGUAGE_MAX → version_in (pos n) ≡ Some n
version_fits n a b =
    let p : nat_le 1 n ≡ true = grind (arith, nat_tests) in
    let q : nat_le n LANGUAGE_MAX ≡ true = grind (arith, nat_tests) in
    rw (p, q) refl

pub version_has : (s : Spot) (n : ℕ) (rest : List Spot) (ds : List Declared) (i : Input) → s.token ≡ Number (pos n) → 1 ≤ n → n ≤ LANGUAGE_MAX
    → version (has (s ∷ rest) ds i) ≡ Ok (tt, has rest ds (in_version n i))
unfolding version token advanced
version_has s n rest ds i e a b = ap (λ u. version_by u (has (s ∷ rest) ds i)) e ∙ ap (λ o. version_of o (has (s ∷ rest) ds i)) (version_fits n a b)

count_fits : (n : ℕ) → 1 ≤ n → n ≤ RANKS_MAX → rank_count (pos n) ≡ Some n
count_fits n a b =
    let p : nat_le 1 n ≡ true = grind (arith, nat_tests) in
    let q : nat_le n RANKS_MAX ≡ true = grind (arith, nat_tests) in
    rw (p, q) refl

ranks_by_has : (s : Spot) (n : ℕ) (rest : List Spot) (ds : List Declared) (i : Input) → rank_count (pos n) ≡ Some n → ranks_by (Number (pos n)) (has (s ∷ rest) ds i) ≡ Ok (n, has rest ds i)
unfolding advanced
ranks_by_has s n rest ds i h = ap (λ o. grammar.ranks_of o (has (s ∷ rest) ds i)) h

ranks_has : (s : Spot) (n : ℕ) (rest : List Spot) (ds : List Declared) (i : Input) → s.token ≡ Number (pos n) → 1 ≤ n → n ≤ RANKS_MAX → ranks (has (s ∷ rest) ds i) ≡ Ok (n, has rest ds i)
unfolding ranks token
ranks_has s n rest ds i e a b = ap (λ u. ranks_by u (has (s ∷ rest) ds i)) e ∙ ranks_by_has s n rest ds i (count_fits n a b)

header_has : (mpd v a r c b : Spot) (ss rest : List Spot) (version count : ℕ) (es : List Declared) (i : Input)
    → mpd.token ≡ Is m.Mpd → v.token ≡ Number (pos version) → 1 ≤ version → version ≤ LANGUAGE_MAX → a.token ≡ Is m.Semicolon → r.token ≡ Is m.Ranks → c.token ≡ Number (pos count) → 1 ≤ count → count ≤ RANKS_MAX
    → b.token ≡ Is m.Semicolon → WrittenDecls [] ss es → declares (token_of rest) ≡ None → variables_in es ≤ CELLS_MAX → handles_in es ≤ HANDLES_MAX
    → header (has (mpd ∷ v ∷ a ∷ r ∷ c ∷ b ∷ (ss ++ rest)) [] i) ≡ Ok (count, has rest es (in_version version i))
unfolding header
header_has mpd v a r c b ss rest version count es i hm hv first last ha hr hc low high hb w h x y =
    let k : Input = in_version version i in
    bind_to _ _ _ _ (expect_has m.Mpd mpd (v ∷ a ∷ r ∷ c ∷ b ∷ (ss ++ rest)) [] i hm)
    (bind_to _ _ _ _ (version_has v version (a ∷ r ∷ c ∷ b ∷ (ss ++ rest)) [] i hv first last)
    (bind_to _ _ _ _ (expect_has m.Semicolon a (r ∷ c ∷ b ∷ (ss ++ rest)) [] k ha)
    (bind_to _ _ _ _ (expect_has m.Ranks r (c ∷ b ∷ (ss ++ rest)) [] k hr)
    (bind_to _ _ _ _ (ranks_has c count (b ∷ (ss ++ rest)) [] k hc low high)
    (bind_to _ _ _ _ (expect_has m.Semicolon b (ss ++ rest) [] k hb)
    (bind_to _ _ _ _ (all_decls ss rest es k w h x y) refl))))))

-- ---- the body

tree_is_no_decl : (ds : List Declared) (ss : List Spot) (t : Tree) (ls : List ℕ) → WrittenTree ds ss t ls → (r : List Spot) → declares (token_of (ss ++ r)) ≡ None
tree_is_no_decl ds ss t ls w r = (tree_opens ds ss t ls w r).no_decl

pub body_is_no_decl : (ds : List Declared) (ss : List Spot) (ts : List Tree) (ls : List ℕ) → WrittenBody ds ss ts ls → declares (token_of ss) ≡ None
body_is_no_decl ds _ _ _ ended = refl
body_is_no_decl ds _ _ _ (follows ss rs t ts ls ms v w) = tree_is_no_decl ds ss t ls v rs

whole_body : (ss : List Spot) (ds : List Declared) (ts : List Tree) (ls : List ℕ) (i : Input) → i.lines ≡ [] → (w : WrittenBody ds ss ts ls) → IsBlockOf i.version (block_of ts) → blocks_in (block_of ts) ≤ BLOCKS_MAX
    → dearest_body ds ss ts ls w ≤ NESTING_MAX → length ls ≤ STATEMENTS_MAX → Gives (body (block BLOCKS_MAX) false (has ss ds i)) ts [] ls (has ss ds i)
whole_body ss ds ts ls i none_yet w known deep dear few =
    let same : i.lines ++ ls ≡ ls = ap (λ r. r ++ ls) none_yet in
    let few' : length i.lines + length ls ≤ STATEMENTS_MAX = omega (arith, ap length none_yet) in
    rw same at (body_complete BLOCKS_MAX false ss [] ts ls (has ss ds i) w (sym (append-nil ss)) refl known deep dear few')

-- ---- scripts

script_has : (ss rs : List Spot) (p : Program) (i : Input) → header (has ss [] i) ≡ Ok (p.ranks, has rs p.decls (in_version p.version i))
    → Gives (body (block BLOCKS_MAX) false (has rs p.decls (in_version p.version i))) p.body [] p.lines (has rs p.decls (in_version p.version i)) → read_of (grammar.script (has ss [] i)) ≡ Ok p
unfolding grammar.script
script_has ss rs p i h g = ap read_of (bind_to _ _ _ _ h (bind_to _ _ _ _ g.is refl))

script_read : (ss : List Spot) (p : Program) (i : Input) → i.lines ≡ [] → IsLegal p → blocks_in (block_of p.body) ≤ BLOCKS_MAX → (w : WrittenScript ss p) → dearest_script ss p w ≤ NESTING_MAX
    → read_of (grammar.script (has ss [] i)) ≡ Ok p
script_read _ _ i none_yet l deep (script mpd v a r c b ss rs p hm hv ha hr hc hb ds w) dear =
    script_has (mpd ∷ v ∷ a ∷ r ∷ c ∷ b ∷ (ss ++ rs)) rs p i
    (header_has mpd v a r c b ss rs p.version p.ranks p.decls i hm hv l.some_version l.version ha hr hc l.some_rank l.ranks hb ds (body_is_no_decl p.decls rs p.body p.lines w) l.variables l.handles)
    (whole_body rs p.decls p.body p.lines (in_version p.version i) none_yet w l.body deep dear (omega arith))

pub reading_complete : (text : List ℕ) (p : Program) (w : WrittenScript (tokens text) p) → length text ≤ SCRIPT_MAX → prefix_len is_text text ≡ length text → IsLegal p
    → blocks_in (block_of p.body) ≤ BLOCKS_MAX → dearest_script (tokens text) p w ≤ NESTING_MAX → reading text ≡ Ok p
unfolding reading
reading_complete text p w short spelt l deep dear =
    let a : nat_lt max_text (length text) ≡ false = grind (arith, nat_tests) in
    let b : nat_lt (prefix_len is_text text) (length text) ≡ false = grind (arith, nat_tests) in
    rw (a, b) (script_read (tokens text) p (start_of text) refl l deep w dear)

-- a text within the limits is read as its tokens are
pub reading_of : (text : List ℕ) (p : Program) (i : Input) (n : ℕ) → length text ≤ SCRIPT_MAX → n ≡ prefix_len is_text text → length text ≤ n → i ≡ start_of text → read_of (grammar.script i) ≡ Ok p → reading text ≡ Ok p
unfolding reading
reading_of text p i n short e spelt same h =
    let a : nat_lt max_text (length text) ≡ false = grind (arith, nat_tests) in
    let b : nat_lt (prefix_len is_text text) (length text) ≡ false = grind (arith, nat_tests) in
    rw (a, b, ← same) h
