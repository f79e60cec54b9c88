-- What stands before a fault in a statement can be completed, where what its statements name is declared.
use Rattle.std.proofs.Common.{◌≡◌, ◌≢◌, ℕ, zero, suc, ◌+◌, Bool, true, false, cond, nat_lt, nat_le, List, [], ◌∷◌, ◌++◌, length, Option, Some, None, Ok, Err, refl, ap, subst, ◌∙◌, append_assoc, append-nil, sym}
use Rattle.mpd_model.specs.declared.place.DeclKind.{DeclKind}
use Rattle.mpd_model.specs.declared.place.DeclKind.TheVariants.{Variable, Handle}
use Rattle.mpd_model.specs.declared.read_fault.FaultCode.TheVariants.{TooMany, TooDeep, NotInVersion}
use Rattle.mpd_model.specs.declared.slot.Slot.{Slot}
use Rattle.mpd_model.specs.declared.stmt.Simple.TheVariants as st
use Rattle.mpd_model.specs.declared.token.Symbol.{Symbol}
use Rattle.mpd_model.specs.declared.token.Symbol.TheVariants as m
use Rattle.mpd_model.specs.declared.token.Token.{Token}
use Rattle.mpd_model.specs.declared.token.Token.TheVariants.{Name, Is, End}
use Rattle.mpd_model.specs.script.Declaration.{Declared}
use Rattle.mpd_model.specs.grammar.Faults.{fault}
use Rattle.mpd_model.specs.grammar.Grammar.{declares, place_of_slot, expression, index_outside, begin_statement, Form, form_of, behind_word, by_form, assignment, otherwise, if_statement, while_statement, closes, stmt_by, stmt, stmts, body, block}
use Rattle.mpd_model.specs.grammar.Input.{Input, Parser, and_then, token, spelling, place, advanced, max_statements, count, slot_in, sees, after, expect, pure, fail, refuse, seek, ◌>>=◌, ◌>>◌}
use Rattle.mpd_model.specs.script.Parts.{of_symbol, symbol_hole, term_hole, filled}
use Rattle.mpd_model.specs.grammar.Tokens.{Spot}
use Rattle.mpd_model.specs.script.Tree.{Tree, simple, branch, repeat, no_more, block_of}
use Rattle.mpd_model.specs.grammar.Written.{WrittenParts, no_part, then_part, by_symbol, by_target, WrittenTree, simply, repeats, chooses, chooses_else, WrittenBlock, braces, WrittenBody, ended, follows}
use Rattle.mpd_meaning.specs.PrefixLaws.{names}
use Rattle.mpd_laws.proofs.sound.Sound.{sees_is}
use Rattle.mpd_meaning.proofs.viable.Viable.{One, one, Seq, seq, HasToken, Default, both_default, spot_of, Stops, IsViable, HoldsBehind, behind_spot, then_viable, stops_as, in_larger, under, stuck_here, refused_here, nothing_read, symbol_default, expect_viable, seek_stops}
use Rattle.mpd_meaning.proofs.viable.ViableTerms.{AtLevel, expression_viable}
use Rattle.mpd_meaning.proofs.viable.ViableParts.{SomeTarget, Fills, fills, Suits, IsServed, fills_default, index_viable, fill_viable}

-- what every statement among the tokens names is declared
abbrev pub AreServed : List Declared → List Spot → Type 0
AreServed ds [] = Unit {0}
AreServed ds (s ∷ ss) = IsServed ds s.token × AreServed ds ss

pub served_behind : (ds : List Declared) (us ts : List Spot) → AreServed ds (us ++ ts) → AreServed ds ts
served_behind ds [] ts h = h
served_behind ds (s ∷ us) ts h = served_behind ds us ts h.1

abbrev SomeTree : List Declared → List Spot → Type 0
SomeTree ds ss = (t : Tree) × (ls : List ℕ) × WrittenTree ds ss t ls

abbrev SomeBlock : List Declared → List Spot → Type 0
SomeBlock ds ss = (ts : List Tree) × (ls : List ℕ) × WrittenBlock ds ss ts ls

abbrev pub SomeBody : List Declared → List Spot → Type 0
SomeBody ds ss = (ts : List Tree) × (ls : List ℕ) × WrittenBody ds ss ts ls

-- what may stand behind the first block of an `if`
data SomeElse (ds : List Declared) : List Spot → Type 0 where
  no_else : SomeElse ds []
  with_else : (w : Spot) (b : List Spot) (y : List Tree) (ms : List ℕ) → w.token ≡ Is m.Else → WrittenBlock ds b y ms → SomeElse ds (w ∷ b)

-- ---- what is written, from its parts

form_in : (ds : List Declared) (f : Form) (s : Spot) → s.token ≡ Is f.word → (ss : List Spot) → Fills ds f.holes ss → SomeTree ds (s ∷ ss)
form_in ds f s h _ (fills ss end c w z) =
    (simple (f.made c), _, simply (s ∷ ss) end (f.made c) (subst (WrittenParts ds (s ∷ ss)) (sym (f.parts c)) (then_part (s ∷ []) ss (of_symbol f.word) (filled f.holes c) (by_symbol s f.word h) w)) z)

assign_in : (ds : List Declared) (s : Spot) (ss : List Spot) → Seq (λ us. SomeTarget ds Variable (s ∷ us)) (Fills ds (symbol_hole m.Assign ∷ term_hole ∷ [])) ss → SomeTree ds (s ∷ ss)
assign_in ds s _ (seq us _ t (fills ss end c w z)) =
    subst (SomeTree ds) (append_assoc (s ∷ us) ss (end ∷ []))
    (simple (st.Assign (record { into = t.0; value = c.0 })), _, simply (s ∷ us ++ ss) end (st.Assign (record { into = t.0; value = c.0 })) (then_part (s ∷ us) ss _ _ (by_target (s ∷ us) Variable t.0 t.1) w) z)

while_in : (ds : List Declared) (k : Spot) → k.token ≡ Is m.While → (ss : List Spot) → Seq (AtLevel ds 5) (SomeBlock ds) ss → SomeTree ds (k ∷ ss)
while_in ds k h _ (seq e a t b) = (repeat t.0 (block_of b.0), _, repeats k e a t.0 b.0 b.1 h t.1 b.2)

if_in : (ds : List Declared) (k : Spot) → k.token ≡ Is m.If → (ss : List Spot) → Seq (AtLevel ds 5) (Seq (SomeBlock ds) (SomeElse ds)) ss → SomeTree ds (k ∷ ss)
if_in ds k h _ (seq e _ t (seq a _ b no_else)) =
    subst (λ us. SomeTree ds (k ∷ (e ++ us))) (sym (append-nil a)) (branch t.0 (block_of b.0) no_more, _, chooses k e a t.0 b.0 b.1 h t.1 b.2)
if_in ds k h _ (seq e _ t (seq a _ b (with_else w z y ms g c))) =
    subst (SomeTree ds) (append_assoc (k ∷ e) a (w ∷ z)) (branch t.0 (block_of b.0) (block_of y), _, chooses_else k w e a z t.0 b.0 y b.1 ms h t.1 b.2 g c)

else_in : (ds : List Declared) (w : Spot) → w.token ≡ Is m.Else → (ss : List Spot) → SomeBlock ds ss → SomeElse ds (w ∷ ss)
else_in ds w h ss b = with_else w ss b.0 b.1 h b.2

block_in : (ds : List Declared) (ss : List Spot) → Seq (One (HasToken (Is m.BraceOpen))) (Seq (SomeBody ds) (One (HasToken (Is m.BraceClose)))) ss → SomeBlock ds ss
block_in ds _ (seq _ _ (one a ha) (seq ss _ b (one z hz))) = (b.0, b.1, braces a z ss b.0 b.1 ha b.2 hz)

body_in : (ds : List Declared) (ss : List Spot) → Seq (SomeTree ds) (SomeBody ds) ss → SomeBody ds ss
body_in ds _ (seq us ss t b) = (t.0 ∷ b.0, _, follows us ss t.0 b.0 t.1 b.1 t.2 b.2)

-- ---- some of each

pub some_body : (ds : List Declared) → Default (SomeBody ds)
some_body ds = record { tokens = []; written = ([], [], ended) }

some_block : (ds : List Declared) → Default (SomeBlock ds)
some_block ds =
    let a = spot_of (Is m.BraceOpen) [] in
    let z = spot_of (Is m.BraceClose) [] in
    record { tokens = a ∷ z ∷ []; written = ([], [], braces a z [] [] [] refl ended refl) }

some_tree : (ds : List Declared) → Default (SomeTree ds)
some_tree ds =
    let s = spot_of (Is m.Barrier) [] in
    let z = spot_of (Is m.Semicolon) [] in
    record { tokens = s ∷ z ∷ []; written = (simple st.Barrier, _, simply (s ∷ []) z st.Barrier (then_part (s ∷ []) [] (of_symbol m.Barrier) [] (by_symbol s m.Barrier refl) no_part) refl) }

-- ---- the words of statements

abbrev FormSuits : Symbol → Option Form → Type 0
FormSuits k None = Unit {0}
FormSuits k (Some f) = Suits (Is k) f.holes × (f.word ≡ k) × (declares (Is k) ≡ None)

forms_suit : (k : Symbol) → FormSuits k (form_of k)
forms_suit m.Print = (tt, refl, refl)
forms_suit m.Assert = (tt, refl, refl)
forms_suit m.Send = ((refl, (refl, tt)), refl, refl)
forms_suit m.Ssend = ((refl, (refl, tt)), refl, refl)
forms_suit m.Recv = ((refl, (refl, (refl, (refl, tt)))), refl, refl)
forms_suit m.Isend = ((refl, (refl, (refl, tt))), refl, refl)
forms_suit m.Issend = ((refl, (refl, (refl, tt))), refl, refl)
forms_suit m.Irecv = ((refl, (refl, (refl, (refl, (refl, tt))))), refl, refl)
forms_suit m.Wait = ((refl, tt), refl, refl)
forms_suit m.Waitany = ((refl, (refl, (refl, tt))), refl, refl)
forms_suit m.Barrier = (tt, refl, refl)
forms_suit k = tt

-- an assignment has no word
no_name : (k : DeclKind) → names k Name ≡ true → ⊥
no_name Variable h = cc
no_name Handle h = cc

-- ---- parsers of statements

module _ (ds : List Declared) where
  -- behind the first token of a statement
  begun_case : (L : List Spot → Type 0) (i : Input) (t : Token) (p : Parser Tree) (c : Bool) (ls : List ℕ) → i.decls ≡ ds → token i ≡ t → t ≢ End → declares t ≡ None → Default L
      → ((s : Spot) → s.token ≡ t → s.text ≡ spelling i → IsViable ds (λ ts. AreServed ds (s ∷ ts)) (λ ts. L (s ∷ ts)) p)
      → Stops (AreServed ds) L i (and_then (and_then (cond c (Ok (tt, record i { lines = ls })) (Err (fault TooMany (place i)))) (λ (x : Unit {0}) (j : Input). Ok (x, advanced j))) (λ x. p))
  unfolding advanced
  begun_case L i t p true ls e is some bare d h =
      behind_spot (AreServed ds) (λ s ts. AreServed ds (s ∷ ts)) L i (advanced (record i { lines = ls })) t is some bare refl refl refl _ (λ s ts x c. c)
      (λ s a b. h s a b (advanced (record i { lines = ls })) e)
  begun_case L i t p false ls e is some bare d h = stuck_here (AreServed ds) L TooMany i (λ c. d)

  begun_stops : (L : List Spot → Type 0) (i : Input) (t : Token) (p : Parser Tree) → i.decls ≡ ds → token i ≡ t → t ≢ End → declares t ≡ None → Default L
      → ((s : Spot) → s.token ≡ t → s.text ≡ spelling i → IsViable ds (λ ts. AreServed ds (s ∷ ts)) (λ ts. L (s ∷ ts)) p) → Stops (AreServed ds) L i ((begin_statement >> p) i)
  unfolding count
  begun_stops L i t p e is some bare d h = begun_case L i t p (nat_lt (length i.lines) max_statements) _ e is some bare d h

  -- what is so of the tokens of a statement is so of those behind the first and some others
  less_with : (s : Spot) → HoldsBehind (λ ts. AreServed ds (s ∷ ts))
  less_with s us ts c = (c.0, served_behind ds us ts c.1)

  form_case : (k : Symbol) (o : Option Form) (i : Input) → i.decls ≡ ds → token i ≡ Is k → FormSuits k o → Stops (AreServed ds) (SomeTree ds) i (by_form o i)
  form_case k None i e is h = refused_here (AreServed ds) (SomeTree ds) i (λ c. some_tree ds)
  form_case k (Some f) i e is h =
      begun_stops (SomeTree ds) i (Is k) (behind_word f) e is (λ x. absurd (cc)) h.2 (some_tree ds)
      (λ s a b j g. in_larger (λ ts. AreServed ds (s ∷ ts)) (Fills ds f.holes) (λ ts. SomeTree ds (s ∷ ts)) j _ (form_in ds f s (a ∙ ap Is (sym h.1)))
      (fill_viable ds (λ ts. AreServed ds (s ∷ ts)) (less_with s) (Is k) f.holes (λ c. simple (f.made c)) h.0 (λ us c kind x. c.0 kind (ap (names kind) a ∙ x)) j g))

  assignment_stops : (t : Slot) (s : Spot) → s.token ≡ Name → slot_in ds s.text ≡ Some t → t.kind ≡ Variable → IsViable ds (λ ts. AreServed ds (s ∷ ts)) (λ ts. SomeTree ds (s ∷ ts)) (assignment t)
  unfolding assignment
  assignment_stops t s a found kind i e =
      let C : List Spot → Type 0 = λ ts. AreServed ds (s ∷ ts) in
      in_larger C (Seq (λ us. SomeTarget ds Variable (s ∷ us)) (Fills ds (symbol_hole m.Assign ∷ term_hole ∷ []))) (λ ts. SomeTree ds (s ∷ ts)) i _ (assign_in ds s)
      (then_viable ds C (λ us. SomeTarget ds Variable (s ∷ us)) (Fills ds (symbol_hole m.Assign ∷ term_hole ∷ [])) (index_outside (place_of_slot t) t.size) _ (less_with s)
      (index_viable ds C (less_with s) Variable s (place_of_slot t) t.size
      (λ is_array size_is. record { token = a; slot = t; declared = found; kind = kind; size = size_is; place = refl }))
      (λ x. fill_viable ds C (less_with s) Name (symbol_hole m.Assign ∷ term_hole ∷ []) (λ c. simple (st.Assign (record { into = x; value = c.0 }))) (refl, tt) (λ us c k h. absurd (no_name k h)))
      (λ us c. fills_default ds Name (symbol_hole m.Assign ∷ term_hole ∷ []) (refl, tt) (λ k h. absurd (no_name k h))) i e)

  -- ---- statements that hold others

  module _ (p : Parser (List Tree)) (inner : IsViable ds (AreServed ds) (SomeBlock ds) p) where
    else_case : (c : Bool) (i : Input) → i.decls ≡ ds → sees m.Else i ≡ c → Stops (AreServed ds) (SomeElse ds) i (cond c p (pure []) (cond c (advanced i) i))
    unfolding advanced
    else_case true i e is =
        behind_spot (AreServed ds) (λ s. AreServed ds) (SomeElse ds) i (advanced i) (Is m.Else) (sees_is m.Else i is) (λ x. absurd (cc)) refl refl refl refl _ (λ s ts x c. c.1)
        (λ s a b. in_larger (AreServed ds) (SomeBlock ds) (λ ts. SomeElse ds (s ∷ ts)) (advanced i) _ (else_in ds s a) (inner (advanced i) e))
    else_case false i e is = nothing_read (SomeElse ds) i no_else

    else_viable : IsViable ds (AreServed ds) (SomeElse ds) (otherwise p)
    unfolding otherwise after
    else_viable i e = else_case (sees m.Else i) i e refl

    else_default : Default (Seq (SomeBlock ds) (SomeElse ds))
    else_default = both_default (SomeBlock ds) (SomeElse ds) (some_block ds) (record { tokens = []; written = no_else })

    if_viable : IsViable ds (AreServed ds) (Seq (AtLevel ds 5) (Seq (SomeBlock ds) (SomeElse ds))) (if_statement p)
    unfolding if_statement
    if_viable =
        then_viable ds (AreServed ds) (AtLevel ds 5) (Seq (SomeBlock ds) (SomeElse ds)) expression _ (served_behind ds) (expression_viable ds (AreServed ds) (served_behind ds))
        (λ t. then_viable ds (AreServed ds) (SomeBlock ds) (SomeElse ds) p _ (served_behind ds) inner
        (λ a j f. stops_as (AreServed ds) (SomeElse ds) (SomeElse ds) j (otherwise p j) (λ b. branch t (block_of a) (block_of b)) (λ ss w. w) (else_viable j f))
        (λ us c. record { tokens = []; written = no_else }))
        (λ us c. else_default)

    while_viable : IsViable ds (AreServed ds) (Seq (AtLevel ds 5) (SomeBlock ds)) (while_statement p)
    unfolding while_statement
    while_viable =
        then_viable ds (AreServed ds) (AtLevel ds 5) (SomeBlock ds) expression _ (served_behind ds) (expression_viable ds (AreServed ds) (served_behind ds))
        (λ t j f. stops_as (AreServed ds) (SomeBlock ds) (SomeBlock ds) j (p j) (λ b. repeat t (block_of b)) (λ ss w. w) (inner j f))
        (λ us c. some_block ds)

    if_stops : (i : Input) → i.decls ≡ ds → token i ≡ Is m.If → Stops (AreServed ds) (SomeTree ds) i ((begin_statement >> if_statement p) i)
    if_stops i e is =
        begun_stops (SomeTree ds) i (Is m.If) (if_statement p) e is (λ x. absurd (cc)) refl (some_tree ds)
        (λ s a b j g. under (AreServed ds) (λ ts. AreServed ds (s ∷ ts)) (λ ts. SomeTree ds (s ∷ ts)) j (if_statement p j) (λ ss c. c.1)
        (in_larger (AreServed ds) (Seq (AtLevel ds 5) (Seq (SomeBlock ds) (SomeElse ds))) (λ ts. SomeTree ds (s ∷ ts)) j (if_statement p j) (if_in ds s a) (if_viable j g)))

    while_stops : (i : Input) → i.decls ≡ ds → token i ≡ Is m.While → Stops (AreServed ds) (SomeTree ds) i ((begin_statement >> while_statement p) i)
    while_stops i e is =
        begun_stops (SomeTree ds) i (Is m.While) (while_statement p) e is (λ x. absurd (cc)) refl (some_tree ds)
        (λ s a b j g. under (AreServed ds) (λ ts. AreServed ds (s ∷ ts)) (λ ts. SomeTree ds (s ∷ ts)) j (while_statement p j) (λ ss c. c.1)
        (in_larger (AreServed ds) (Seq (AtLevel ds 5) (SomeBlock ds)) (λ ts. SomeTree ds (s ∷ ts)) j (while_statement p j) (while_in ds s a) (while_viable j g)))

    name_stops : (i : Input) → i.decls ≡ ds → token i ≡ Name → Stops (AreServed ds) (SomeTree ds) i ((seek Variable >>= λ t. begin_statement >> assignment t) i)
    name_stops i e is =
        seek_stops ds (AreServed ds) (SomeTree ds) Variable _ i e
        (λ t found. begun_stops (SomeTree ds) i Name (assignment t) e is (λ x. absurd (cc)) refl (some_tree ds)
        (λ s a b. assignment_stops t s a (ap (slot_in ds) b ∙ found.0) found.1))
        (λ c. some_tree ds)

    -- a word of a later version is a fault, and its place may have too many statements before it
    older_case : (c : Bool) (ls : List ℕ) (i : Input)
        → Stops {A = Tree} (AreServed ds) (SomeTree ds) i (and_then (cond c (Ok (tt, record i { lines = ls })) (Err (fault TooMany (place i)))) (λ (x : Unit {0}). fail NotInVersion))
    unfolding place
    older_case true ls i = stuck_here (AreServed ds) (SomeTree ds) NotInVersion i (λ c. some_tree ds)
    older_case false ls i = stuck_here (AreServed ds) (SomeTree ds) TooMany i (λ c. some_tree ds)

    older_stops : (i : Input) → Stops {A = Tree} (AreServed ds) (SomeTree ds) i ((count >> fail NotInVersion) i)
    unfolding count
    older_stops i = older_case (nat_lt (length i.lines) max_statements) _ i

    since_stops : (known : Bool) (p : Parser Tree) (i : Input) → Stops (AreServed ds) (SomeTree ds) i (p i) → Stops (AreServed ds) (SomeTree ds) i (cond known (p i) ((count >> fail NotInVersion) i))
    since_stops true p i h = h
    since_stops false p i h = older_stops i

    stmt_case : (t : Token) (i : Input) → i.decls ≡ ds → token i ≡ t → Stops (AreServed ds) (SomeTree ds) i (stmt_by p t i)
    stmt_case Name i e is = name_stops i e is
    stmt_case (Is m.If) i e is = if_stops i e is
    stmt_case (Is m.While) i e is = while_stops i e is
    stmt_case (Is m.Waitany) i e is = since_stops (nat_le 2 i.version) (by_form (form_of m.Waitany)) i (form_case m.Waitany (form_of m.Waitany) i e is (forms_suit m.Waitany))
    stmt_case (Is k) i e is = form_case k (form_of k) i e is (forms_suit k)
    stmt_case _ i e is = refused_here (AreServed ds) (SomeTree ds) i (λ c. some_tree ds)

    stmt_viable : IsViable ds (AreServed ds) (SomeTree ds) (stmt p)
    unfolding stmt
    stmt_viable i e = stmt_case (token i) i e refl

    closes_case : (c : Bool) (found : List Tree) (more : Parser (List Tree)) → IsViable ds (AreServed ds) (SomeBody ds) more → (i : Input) → i.decls ≡ ds
        → Stops (AreServed ds) (SomeBody ds) i (cond c (pure found) more i)
    closes_case true found more h i e = nothing_read (SomeBody ds) i (some_nothing)
      where
        some_nothing : SomeBody ds []
        some_nothing = ([], [], ended)
    closes_case false found more h i e = h i e

    stmts_viable : (inside : Bool) (n : ℕ) (found : List Tree) → IsViable ds (AreServed ds) (SomeBody ds) (stmts p inside n found)
    unfolding stmts
    stmts_viable inside zero found i e = refused_here (AreServed ds) (SomeBody ds) i (λ c. some_body ds)
    stmts_viable inside (suc n) found i e =
        closes_case (closes inside (token i)) found (stmt p >>= λ t. stmts p inside n (found ++ t ∷ []))
        (λ j f. in_larger (AreServed ds) (Seq (SomeTree ds) (SomeBody ds)) (SomeBody ds) j _ (body_in ds)
        (then_viable ds (AreServed ds) (SomeTree ds) (SomeBody ds) (stmt p) _ (served_behind ds) stmt_viable (λ t. stmts_viable inside n (found ++ t ∷ [])) (λ us c. some_body ds) j f)) i e

    pub body_viable : (inside : Bool) → IsViable ds (AreServed ds) (SomeBody ds) (body p inside)
    unfolding body
    body_viable inside i e = stmts_viable inside (length i.tokens + 1) [] i e

  shut_default : Default (Seq (SomeBody ds) (One (HasToken (Is m.BraceClose))))
  shut_default = both_default (SomeBody ds) (One (HasToken (Is m.BraceClose))) (some_body ds) (symbol_default m.BraceClose)

  too_deep_case : (c : Bool) (i : Input) → Stops {A = List Tree} (AreServed ds) (SomeBlock ds) i (cond c (fail TooDeep i) (refuse i))
  too_deep_case true i = stuck_here (AreServed ds) (SomeBlock ds) TooDeep i (λ c. some_block ds)
  too_deep_case false i = refused_here (AreServed ds) (SomeBlock ds) i (λ c. some_block ds)

  pub block_viable : (n : ℕ) → IsViable ds (AreServed ds) (SomeBlock ds) (block n)
  unfolding block
  block_viable zero i e = too_deep_case (sees m.BraceOpen i) i
  block_viable (suc n) i e =
      in_larger (AreServed ds) (Seq (One (HasToken (Is m.BraceOpen))) (Seq (SomeBody ds) (One (HasToken (Is m.BraceClose))))) (SomeBlock ds) i _ (block_in ds)
      (then_viable ds (AreServed ds) (One (HasToken (Is m.BraceOpen))) (Seq (SomeBody ds) (One (HasToken (Is m.BraceClose)))) (expect m.BraceOpen) _ (served_behind ds)
      (expect_viable ds (AreServed ds) m.BraceOpen refl)
      (λ x. then_viable ds (AreServed ds) (SomeBody ds) (One (HasToken (Is m.BraceClose))) (body (block n) true) _ (served_behind ds) (body_viable (block n) (block_viable n) true)
      (λ found j f. stops_as (AreServed ds) (One (HasToken (Is m.BraceClose))) (One (HasToken (Is m.BraceClose))) j (expect m.BraceClose j) (λ y. found) (λ ss w. w) (expect_viable ds (AreServed ds) m.BraceClose refl j f))
      (λ us c. symbol_default m.BraceClose))
      (λ us c. shut_default) i e)
