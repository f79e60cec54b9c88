-- Each word of the grammar reads its input so.
use Rattle.std.proofs.Common.{◌≡◌, ℕ, zero, suc, ◌+◌, ◌<◌, ◌≤◌, Bool, true, false, cond, nat_le, List, [], ◌∷◌, ◌++◌, length, Option, Some, None, Ok, inl, inr, refl, ap, sym, subst, ◌∙◌, arith}
use Rattle.mpd_model.specs.declared.limits.TheConstants.{NESTING_MAX}
use Rattle.mpd_model.specs.declared.expr.BinaryOp.{BinaryOp}
use Rattle.mpd_model.specs.declared.expr.UnaryOp.{UnaryOp}
use Rattle.mpd_model.specs.declared.expr.UnaryOp.TheVariants as u
use Rattle.mpd_model.specs.declared.place.DeclKind.{DeclKind}
use Rattle.mpd_model.specs.declared.place.DeclKind.TheVariants.{Variable}
use Rattle.mpd_model.specs.declared.place.Place.{Place}
use Rattle.mpd_model.specs.declared.read_fault.FaultCode.TheVariants.{Twice, TooDeep, BadRanks, NotInVersion}
use Rattle.mpd_model.specs.declared.slot.Slot.{Slot}
use Rattle.mpd_model.specs.declared.stmt.Simple.TheVariants as st
use Rattle.mpd_model.specs.declared.token.Symbol.TheVariants as m
use Rattle.mpd_model.specs.declared.token.Token.{Token}
use Rattle.mpd_model.specs.declared.token.Token.TheVariants.{Number, Name, Is}
use Rattle.mpd_model.specs.script.Declaration.{Declared}
use Rattle.mpd_model.specs.grammar.Grammar.{operator_at, turns, chain_by, chain, place_of_slot, bracket, index_inside, place_inside, rounds, unary, atom_by, atom, level, expr, expression, begin_statement, closes, index_outside, target, statement_place_by, statement_place, statement_name_by, statement_name, source_by, source, status_by, status, fill, Form, form_of, behind_word, by_form, since, assignment, otherwise, if_statement, while_statement, stmt_by, stmt, stmts, body, block, max_blocks, version_in, version_of, version_by, written_in, version, rank_count, ranks_of, ranks_by, ranks, natural, array_size_at, array_size_by, array_size, single, declarator, decl_by, decl, declares, decls_by, decls_from, decls, header, with_body}
use Rattle.mpd_model.specs.grammar.Grammar as grammar
use Rattle.mpd_model.specs.grammar.Input.{Input, Outcome, Parser, and_then, token, spelling, place, advanced, pure, fail, refuse, peek, advance, is_symbol, sees, after, eat, expect, begin, spend, count, seek, slot_in, is_known, fresh, add, ◌>>=◌, ◌>>◌}
use Rattle.mpd_model.specs.script.Parts.{Hole, symbol_hole, term_hole, target_hole, name_hole, source_hole, status_hole, Contents}
use Rattle.mpd_model.specs.grammar.ReaderLaws.{TurnsAreEnough}
use Rattle.mpd_model.specs.script.Term.{Term, lit, own_rank, size, cell, element, op1, op2}
use Rattle.mpd_model.specs.grammar.Tokens.{Spot}
use Rattle.mpd_model.specs.script.Tree.{Tree, simple, branch, repeat, block_of}
use Rattle.mpd_meaning.proofs.local.Local.{has, AllBehind, EndsLate, ends_behind, Beyond, Later, Tied, OnAlike, IsLocal, later_bind, same_bind, then_local, local_of, seen_local, if_local, if_at, place_late, pure_local, fail_local, refuse_local, peek_local, advance_local, written_in_local, eat_local, sees_local, expect_local, begin_local, spend_local, count_local, seek_local, add_later, add_same}

module _ (late : ℕ) where
  abbrev Loc : {A : Type 0} → Parser A → Type 0
  Loc p = IsLocal late p

  then_ : {A B : Type 0} (p : Parser A) (k : A → Parser B) → Loc p → ((a : A) → Loc (k a)) → Loc (p >>= k)
  then_ p k = then_local late p k

  -- ---- expressions

  chain_by_local : (more : Term → Parser Term) (operand : Parser Term) → ((t : Term) → Loc (more t)) → Loc operand → (left : Term) (o : Option BinaryOp) → Loc (chain_by more operand left o)
  chain_by_local more operand h k left None = pure_local late left
  chain_by_local more operand h k left (Some op) = then_ spend _ (spend_local late) (λ x. then_ operand _ k (λ right. h (op2 op left right)))

  chain_local : (operand : Parser Term) → Loc operand → (k n : ℕ) (left : Term) → Loc (chain operand k n left)
  unfolding chain
  chain_local operand h k zero left = pure_local late left
  chain_local operand h k (suc n) left = then_ peek _ (peek_local late) (λ t. chain_by_local (chain operand k n) operand (λ l. chain_local operand h k n l) h left (operator_at k t))

  bracket_local : Loc bracket
  unfolding bracket
  bracket_local = sees_local late m.SquareOpen spend refuse (spend_local late) (refuse_local late)

  abbrev AllLocal : (ℕ → Parser Term) → Type 0
  AllLocal p = (k : ℕ) → Loc (p k)

  index_inside_local : (p : ℕ → Parser Term) → AllLocal p → (at : Place) (cells : Option ℕ) → Loc (index_inside p at cells)
  index_inside_local p h at None = pure_local late (cell at)
  index_inside_local p h at (Some n) = then_ bracket _ bracket_local (λ x. then_ (p 5) _ (h 5) (λ e. then_ (expect m.SquareClose) _ (expect_local late m.SquareClose) (λ y. pure_local late (element at e))))

  place_local : (p : ℕ → Parser Term) → AllLocal p → Loc (place_inside p)
  unfolding place_inside
  place_local p h = then_ (seek Variable) _ (seek_local late Variable) (λ s. then_ advance _ (advance_local late) (λ x. index_inside_local p h (place_of_slot s) s.size))

  rounds_local : (p : ℕ → Parser Term) → AllLocal p → Loc (rounds p)
  unfolding rounds
  rounds_local p h = then_ spend _ (spend_local late) (λ x. then_ (p 5) _ (h 5) (λ e. then_ (expect m.RoundClose) _ (expect_local late m.RoundClose) (λ y. pure_local late e)))

  unary_local : (p : ℕ → Parser Term) → AllLocal p → (op : UnaryOp) → Loc (unary p op)
  unfolding unary
  unary_local p h op = then_ spend _ (spend_local late) (λ x. then_ (p 0) _ (h 0) (λ e. pure_local late (op1 op e)))

  read_one : (t : Term) → Loc (advance >> pure t)
  read_one t = then_ advance _ (advance_local late) (λ x. pure_local late t)

  atom_case : (p : ℕ → Parser Term) → AllLocal p → (t : Token) → Loc (atom_by p t)
  atom_case p h (Number n) = read_one (lit n)
  atom_case p h (Is m.Rank) = read_one own_rank
  atom_case p h (Is m.Size) = read_one size
  atom_case p h Name = place_local p h
  atom_case p h (Is m.RoundOpen) = rounds_local p h
  atom_case p h (Is m.Minus) = unary_local p h u.Negate
  atom_case p h (Is m.Not) = unary_local p h u.Not
  atom_case p h _ = refuse_local late

  atom_local : (p : ℕ → Parser Term) → AllLocal p → Loc (atom p)
  unfolding atom
  atom_local p h = then_ peek _ (peek_local late) (atom_case p h)

  level_local : (p : ℕ → Parser Term) → AllLocal p → AllLocal (level p)
  unfolding level
  level_local p h zero = atom_local p h
  level_local p h (suc k) =
      then_ (level p k) _ (level_local p h k)
      (λ left. seen_local late (turns (suc k)) (λ n. chain (level p k) (suc k) n left) (λ s f xs ys e e' b. refl) (λ n. chain_local (level p k) (level_local p h k) (suc k) n left))

  expr_local : (n : ℕ) → AllLocal (expr n)
  unfolding expr
  expr_local zero k = fail_local late TooDeep
  expr_local (suc n) k = level_local (expr n) (expr_local n) k

  expression_local : Loc expression
  expression_local = then_ begin _ (begin_local late) (λ x. expr_local (suc NESTING_MAX) 5)

  -- ---- statements that hold no other

  begin_statement_local : Loc begin_statement
  begin_statement_local = then_ count _ (count_local late) (λ x. advance_local late)

  index_outside_local : (p : Place) (o : Option ℕ) → Loc (index_outside p o)
  index_outside_local p None = pure_local late _
  index_outside_local p (Some n) =
      then_ (expect m.SquareOpen) _ (expect_local late m.SquareOpen) (λ x. then_ expression _ expression_local (λ e. then_ (expect m.SquareClose) _ (expect_local late m.SquareClose) (λ y. pure_local late _)))

  target_local : (kind : DeclKind) → Loc (target kind)
  unfolding target
  target_local kind = then_ (seek kind) _ (seek_local late kind) (λ s. then_ advance _ (advance_local late) (λ x. index_outside_local (place_of_slot s) s.size))

  statement_place_case : (kind : DeclKind) (t : Token) → Loc (statement_place_by kind t)
  statement_place_case kind Name = target_local kind
  statement_place_case kind _ = refuse_local late

  statement_place_local : (kind : DeclKind) → Loc (statement_place kind)
  unfolding statement_place
  statement_place_local kind = then_ peek _ (peek_local late) (statement_place_case kind)

  statement_name_case : (kind : DeclKind) (t : Token) → Loc (statement_name_by kind t)
  statement_name_case kind Name = then_ (seek kind) _ (seek_local late kind) (λ s. then_ advance _ (advance_local late) (λ x. pure_local late (place_of_slot s)))
  statement_name_case kind _ = refuse_local late

  statement_name_local : (kind : DeclKind) → Loc (statement_name kind)
  unfolding statement_name
  statement_name_local kind = then_ peek _ (peek_local late) (statement_name_case kind)

  source_case : (c : Bool) → Loc (source_by c)
  source_case true = pure_local late None
  source_case false = then_ expression _ expression_local (λ e. pure_local late (Some e))

  source_local : Loc source
  unfolding source
  source_local = then_ (eat m.Any) _ (eat_local late m.Any) source_case

  status_case : (c : Bool) → Loc (status_by c)
  status_case true = then_ (statement_place Variable) _ (statement_place_local Variable) (λ a. then_ (statement_place Variable) _ (statement_place_local Variable) (λ b. pure_local late _))
  status_case false = pure_local late None

  status_local : Loc status
  unfolding status
  status_local = then_ (eat m.Status) _ (eat_local late m.Status) status_case

  fill_local : {A : Type 0} (hs : List Hole) (made : Contents hs → A) → Loc (fill hs made)
  fill_local [] made = then_ (expect m.Semicolon) _ (expect_local late m.Semicolon) (λ x. pure_local late (made tt))
  fill_local (symbol_hole k ∷ hs) made = then_ (expect k) _ (expect_local late k) (λ x. fill_local hs made)
  fill_local (term_hole ∷ hs) made = then_ expression _ expression_local (λ e. fill_local hs (λ c. made (e, c)))
  fill_local (target_hole kind ∷ hs) made = then_ (statement_place kind) _ (statement_place_local kind) (λ t. fill_local hs (λ c. made (t, c)))
  fill_local (name_hole kind ∷ hs) made = then_ (statement_name kind) _ (statement_name_local kind) (λ p. fill_local hs (λ c. made (p, c)))
  fill_local (source_hole ∷ hs) made = then_ source _ source_local (λ o. fill_local hs (λ c. made (o, c)))
  fill_local (status_hole ∷ hs) made = then_ status _ status_local (λ o. fill_local hs (λ c. made (o, c)))

  form_case : (o : Option Form) → Loc (by_form o)
  form_case None = refuse_local late
  form_case (Some f) = then_ begin_statement _ begin_statement_local (λ x. fill_local f.holes (λ c. simple (f.made c)))

  since_local : (version : ℕ) (p : Parser Tree) → Loc p → Loc (since version p)
  since_local version p h =
      seen_local late (λ i. i.version) (λ n i. cond (nat_le version n) (p i) ((count >> fail NotInVersion) i)) (λ s f xs ys e e' b. refl)
      (λ n. if_at late (nat_le version n) p (count >> fail NotInVersion) h (then_ count _ (count_local late) (λ x. fail_local late NotInVersion)))

  assignment_local : (s : Slot) → Loc (assignment s)
  unfolding assignment
  assignment_local s =
      then_ (index_outside (place_of_slot s) s.size) _ (index_outside_local (place_of_slot s) s.size)
      (λ t. fill_local (symbol_hole m.Assign ∷ term_hole ∷ []) (λ c. simple (st.Assign (record { into = t; value = c.0 }))))

  -- ---- any statement

  otherwise_local : (p : Parser (List Tree)) → Loc p → Loc (otherwise p)
  unfolding otherwise
  otherwise_local p h = then_ (eat m.Else) _ (eat_local late m.Else) (λ c. if_local late c p (pure []) h (pure_local late []))

  if_statement_local : (p : Parser (List Tree)) → Loc p → Loc (if_statement p)
  unfolding if_statement
  if_statement_local p h =
      then_ expression _ expression_local (λ t. then_ p _ h (λ a. then_ (otherwise p) _ (otherwise_local p h) (λ b. pure_local late (branch t (block_of a) (block_of b)))))

  while_statement_local : (p : Parser (List Tree)) → Loc p → Loc (while_statement p)
  unfolding while_statement
  while_statement_local p h = then_ expression _ expression_local (λ t. then_ p _ h (λ a. pure_local late (repeat t (block_of a))))

  stmt_case : (p : Parser (List Tree)) → Loc p → (t : Token) → Loc (stmt_by p t)
  stmt_case p h Name = then_ (seek Variable) _ (seek_local late Variable) (λ s. then_ begin_statement _ begin_statement_local (λ x. assignment_local s))
  stmt_case p h (Is m.If) = then_ begin_statement _ begin_statement_local (λ x. if_statement_local p h)
  stmt_case p h (Is m.While) = then_ begin_statement _ begin_statement_local (λ x. while_statement_local p h)
  stmt_case p h (Is m.Waitany) = since_local 2 (by_form (form_of m.Waitany)) (form_case (form_of m.Waitany))
  stmt_case p h (Is k) = form_case (form_of k)
  stmt_case p h _ = refuse_local late

  stmt_local : (p : Parser (List Tree)) → Loc p → Loc (stmt p)
  unfolding stmt
  stmt_local p h = then_ peek _ (peek_local late) (stmt_case p h)

  stmts_local : (p : Parser (List Tree)) → Loc p → (inside : Bool) (n : ℕ) (found : List Tree) → Loc (stmts p inside n found)
  unfolding stmts
  stmts_local p h inside zero found = refuse_local late
  stmts_local p h inside (suc n) found =
      then_ peek _ (peek_local late)
      (λ t. if_local late (closes inside t) (pure found) (stmt p >>= λ s. stmts p inside n (found ++ s ∷ [])) (pure_local late found)
      (then_ (stmt p) _ (stmt_local p h) (λ s. stmts_local p h inside n (found ++ s ∷ []))))

  -- ---- as many turns as are needed

  turned : {A : Type 0} (o p o' p' : Outcome A) → o ≡ o' → p ≡ p' → Tied late o' p' → Tied late o p
  turned o p o' p' a b h = rw (a, b) h

  body_turns : TurnsAreEnough → (depth : ℕ) (inside : Bool) (i : Input) (k : ℕ) → body (block depth) inside i ≡ stmts (block depth) inside (length i.tokens + 1 + k) [] i
  unfolding body
  body_turns enough depth inside i zero = ap (λ n. stmts (block depth) inside n [] i) (let e : length i.tokens + 1 ≡ length i.tokens + 1 + 0 = omega arith in e)
  body_turns enough depth inside i (suc k) =
      body_turns enough depth inside i k ∙ enough.0 depth inside (length i.tokens + 1 + k) [] i (omega arith)
      ∙ ap (λ n. stmts (block depth) inside n [] i) (let e : suc (length i.tokens + 1 + k) ≡ length i.tokens + 1 + suc k = omega arith in e)

  body_local : TurnsAreEnough → (depth : ℕ) → Loc (block depth) → (inside : Bool) → Loc (body (block depth) inside)
  body_local enough depth h inside = record {
    later = λ i x. subst (Later late) (sym (body_turns enough depth inside i 0)) ((stmts_local (block depth) h inside (length i.tokens + 1 + 0) []).later i x);
    same = λ front xs ys e e' b ends all end.
        let i : Input = has (front ++ xs) e b in
        let j : Input = has (front ++ ys) e' b in
        let n : ℕ = length (front ++ xs) + 1 + (length (front ++ ys) + 1) in
        let flip : length (front ++ ys) + 1 + (length (front ++ xs) + 1) ≡ n = omega arith in
        turned (body (block depth) inside i) (body (block depth) inside j) (stmts (block depth) inside n [] i) (stmts (block depth) inside n [] j)
        (body_turns enough depth inside i (length (front ++ ys) + 1))
        (body_turns enough depth inside j (length (front ++ xs) + 1) ∙ ap (λ k. stmts (block depth) inside k [] j) flip)
        ((stmts_local (block depth) h inside n []).same front xs ys e e' b ends all end);
  }

  block_local : TurnsAreEnough → (depth : ℕ) → Loc (block depth)
  unfolding block
  block_local enough zero = sees_local late m.BraceOpen (fail TooDeep) refuse (fail_local late TooDeep) (refuse_local late)
  block_local enough (suc n) =
      then_ (expect m.BraceOpen) _ (expect_local late m.BraceOpen)
      (λ x. then_ (body (block n) true) _ (body_local enough n (block_local enough n) true) (λ found. then_ (expect m.BraceClose) _ (expect_local late m.BraceClose) (λ y. pure_local late found)))

  -- ---- the header

  number_case : (o : Option ℕ) → Loc (version_of o)
  number_case (Some n) = then_ (written_in n) _ (written_in_local late n) (λ x. advance_local late)
  number_case None = fail_local late NotInVersion

  version_case : (t : Token) → Loc (version_by t)
  version_case (Number n) = number_case (version_in n)
  version_case _ = refuse_local late

  version_local : Loc version
  unfolding version
  version_local = then_ peek _ (peek_local late) version_case

  count_case : (o : Option ℕ) → Loc (ranks_of o)
  count_case (Some n) = then_ advance _ (advance_local late) (λ x. pure_local late n)
  count_case None = fail_local late BadRanks

  ranks_case : (t : Token) → Loc (ranks_by t)
  ranks_case (Number n) = count_case (rank_count n)
  ranks_case _ = refuse_local late

  ranks_local : Loc ranks
  unfolding ranks
  ranks_local = then_ peek _ (peek_local late) ranks_case

  -- ---- declarations

  behind_size : Loc (advance >>= λ x. expect m.SquareClose >>= λ y. expect m.Semicolon)
  behind_size = then_ advance _ (advance_local late) (λ x. then_ (expect m.SquareClose) _ (expect_local late m.SquareClose) (λ y. expect_local late m.Semicolon))

  array_size_at_local : (kind : DeclKind) (name : List ℕ) (o : Option ℕ) → Loc (array_size_at kind name o)
  unfolding place
  array_size_at_local kind name None = refuse_local late
  array_size_at_local kind name (Some n) =
      local_of late (array_size_at kind name (Some n))
      (λ i x. later_bind late (add kind name (Some n) (place i) i) _ (add_later late kind name (Some n) (place i) i (let l = place_late late i x in omega (arith, l)) x) (λ u. behind_size.later))
      (λ s f xs ys e e' b ends all end.
      same_bind late (add kind name (Some n) s.place (has (s ∷ f ++ xs) e b)) (add kind name (Some n) s.place (has (s ∷ f ++ ys) e' b)) _
      (add_same late kind name (Some n) s.place (s ∷ f) xs ys e e' b ends all end) (λ u. behind_size.same))

  size_case : (kind : DeclKind) (name : List ℕ) (t : Token) → Loc (array_size_by kind name t)
  size_case kind name (Number n) = array_size_at_local kind name (natural n)
  size_case kind name _ = refuse_local late

  array_size_local : (kind : DeclKind) (name : List ℕ) → Loc (array_size kind name)
  unfolding array_size
  array_size_local kind name = then_ peek _ (peek_local late) (size_case kind name)

  single_later : (kind : DeclKind) (name : List ℕ) (at : ℕ) (i : Input) → late ≤ at → Beyond late i → Later late (single kind name at i)
  unfolding single
  single_later kind name at i le x = later_bind late (add kind name None at i) _ (add_later late kind name None at i le x) (λ u. (expect_local late m.Semicolon).later)

  single_same : (kind : DeclKind) (name : List ℕ) (at : ℕ) (front : List Spot) → OnAlike late (single kind name at) front
  unfolding single
  single_same kind name at front xs ys e e' b ends all end =
      same_bind late (add kind name None at (has (front ++ xs) e b)) (add kind name None at (has (front ++ ys) e' b)) _
      (add_same late kind name None at front xs ys e e' b ends all end) (λ u. (expect_local late m.Semicolon).same)

  -- what follows a new name
  abbrev behind_name : DeclKind → List ℕ → ℕ → Parser (Unit {0})
  behind_name kind name at = eat m.SquareOpen >>= λ is_array. cond is_array (array_size kind name) (single kind name at)

  behind_later : (kind : DeclKind) (name : List ℕ) (at : ℕ) (i : Input) → late ≤ at → Beyond late i → Later late (behind_name kind name at i)
  behind_later kind name at i le x = later_bind late (eat m.SquareOpen i) _ ((eat_local late m.SquareOpen).later i x) by_size
    where
      by_size : (c : Bool) (j : Input) → Beyond late j → Later late (cond c (array_size kind name) (single kind name at) j)
      by_size true j y = (array_size_local kind name).later j y
      by_size false j y = single_later kind name at j le y

  size_same : (kind : DeclKind) (name : List ℕ) (at : ℕ) (t : Spot) (f xs ys : List Spot) (e e' : ℕ) (b : Input) (c : Bool) → EndsLate late (t ∷ f) → AllBehind late xs → late < e
      → Tied late (cond c (array_size kind name) (single kind name at) (cond c (has (f ++ xs) e b) (has (t ∷ f ++ xs) e b)))
      (cond c (array_size kind name) (single kind name at) (cond c (has (f ++ ys) e' b) (has (t ∷ f ++ ys) e' b)))
  size_same kind name at t f xs ys e e' b true ends all end = (array_size_local kind name).same f xs ys e e' b (ends_behind late t f ends) all end
  size_same kind name at t f xs ys e e' b false ends all end = single_same kind name at (t ∷ f) xs ys e e' b ends all end

  behind_same : (kind : DeclKind) (name : List ℕ) (s : Spot) (f xs ys : List Spot) (e e' : ℕ) (b : Input) → EndsLate late (s ∷ f) → AllBehind late xs → late < e
      → Tied late (behind_name kind name s.place (has (f ++ xs) e b)) (behind_name kind name s.place (has (f ++ ys) e' b))
  unfolding sees after token advanced
  behind_same kind name s [] xs ys e e' b ends all end = inr (behind_later kind name s.place (has xs e b) ends (record { all = all; end = end }))
  behind_same kind name s (t ∷ f) xs ys e e' b ends all end = size_same kind name s.place t f xs ys e e' b (is_symbol m.SquareOpen t.token) ends all end

  new_later : (c : Bool) (i : Input) → Beyond late i → Later {A = Unit {0}} late (cond c (fail Twice i) (Ok (tt, i)))
  new_later true i x = let h : IsLocal late (fail {A = Unit {0}} Twice) = fail_local late Twice in h.later i x
  new_later false i x = x

  fresh_later : (i : Input) → Beyond late i → Later late (fresh i)
  unfolding fresh
  fresh_later i x = new_later (is_known (slot_in i.decls (spelling i))) i x

  new_same : (kind : DeclKind) (c : Bool) (s : Spot) (f xs ys : List Spot) (e e' : ℕ) (b : Input) → EndsLate late (s ∷ f) → AllBehind late xs → late < e
      → Tied late (and_then {A = Unit {0}} (cond c (fail Twice (has (s ∷ f ++ xs) e b)) (Ok (tt, has (s ∷ f ++ xs) e b))) (λ u j. behind_name kind s.text s.place (advanced j)))
      (and_then {A = Unit {0}} (cond c (fail Twice (has (s ∷ f ++ ys) e' b)) (Ok (tt, has (s ∷ f ++ ys) e' b))) (λ u j. behind_name kind s.text s.place (advanced j)))
  unfolding place advanced
  new_same kind true s f xs ys e e' b ends all end = inl refl
  new_same kind false s f xs ys e e' b ends all end = behind_same kind s.text s f xs ys e e' b ends all end

  declarator_local : (kind : DeclKind) → Loc (declarator kind)
  unfolding declarator fresh spelling place
  declarator_local kind =
      local_of late (declarator kind)
      (λ i x. later_bind late (fresh i) _ (fresh_later i x)
      (λ u j y. behind_later kind (spelling i) (place i) (advanced j) (let l = place_late late i x in omega (arith, l)) ((advance_local late).later j y)))
      (λ s f xs ys e e' b ends all end. new_same kind (is_known (slot_in b.decls s.text)) s f xs ys e e' b ends all end)

  decl_case : (kind : DeclKind) (t : Token) → Loc (decl_by kind t)
  decl_case kind Name = declarator_local kind
  decl_case kind _ = refuse_local late

  decl_local : (kind : DeclKind) → Loc (decl kind)
  unfolding decl
  decl_local kind = then_ peek _ (peek_local late) (decl_case kind)

  decls_case : (more : Parser (Unit {0})) → Loc more → (o : Option DeclKind) → Loc (decls_by more o)
  decls_case more h None = pure_local late tt
  decls_case more h (Some kind) = then_ (advance >> decl kind) _ (then_ advance _ (advance_local late) (λ x. decl_local kind)) (λ x. h)

  decls_from_local : (n : ℕ) → Loc (decls_from n)
  unfolding decls_from
  decls_from_local zero = refuse_local late
  decls_from_local (suc n) = then_ peek _ (peek_local late) (λ t. decls_case (decls_from n) (decls_from_local n) (declares t))

  decls_turns : TurnsAreEnough → (i : Input) (k : ℕ) → decls i ≡ decls_from (length i.tokens + 1 + k) i
  unfolding decls
  decls_turns enough i zero = ap (λ n. decls_from n i) (let e : length i.tokens + 1 ≡ length i.tokens + 1 + 0 = omega arith in e)
  decls_turns enough i (suc k) =
      decls_turns enough i k ∙ enough.1 (length i.tokens + 1 + k) i (omega arith)
      ∙ ap (λ n. decls_from n i) (let e : suc (length i.tokens + 1 + k) ≡ length i.tokens + 1 + suc k = omega arith in e)

  decls_local : TurnsAreEnough → Loc decls
  decls_local enough = record {
    later = λ i x. subst (Later late) (sym (decls_turns enough i 0)) ((decls_from_local (length i.tokens + 1 + 0)).later i x);
    same = λ front xs ys e e' b ends all end.
        let i : Input = has (front ++ xs) e b in
        let j : Input = has (front ++ ys) e' b in
        let n : ℕ = length (front ++ xs) + 1 + (length (front ++ ys) + 1) in
        let flip : length (front ++ ys) + 1 + (length (front ++ xs) + 1) ≡ n = omega arith in
        turned (decls i) (decls j) (decls_from n i) (decls_from n j)
        (decls_turns enough i (length (front ++ ys) + 1))
        (decls_turns enough j (length (front ++ xs) + 1) ∙ ap (λ k. decls_from k j) flip)
        ((decls_from_local n).same front xs ys e e' b ends all end);
  }

  -- ---- a script

  header_local : TurnsAreEnough → Loc header
  unfolding header
  header_local enough =
      then_ (expect m.Mpd) _ (expect_local late m.Mpd) (λ x. then_ version _ version_local (λ x. then_ (expect m.Semicolon) _ (expect_local late m.Semicolon)
      (λ x. then_ (expect m.Ranks) _ (expect_local late m.Ranks) (λ x. then_ ranks _ ranks_local (λ n. then_ (expect m.Semicolon) _ (expect_local late m.Semicolon)
      (λ x. then_ decls _ (decls_local enough) (λ x. pure_local late n)))))))

  abbrev Noted : Type 0
  Noted = ℕ × (List Declared × List ℕ)

  abbrev noted : Input → Noted
  noted i = (i.version, (i.decls, i.lines))

  whole_local : (n : ℕ) (found : List Tree) → Loc (with_body n found)
  whole_local n found =
      seen_local late noted (λ x. pure (record { version = x.0; ranks = n; decls = x.1.0; body = found; lines = x.1.1 })) (λ s f xs ys e e' b. refl)
      (λ x. pure_local late (record { version = x.0; ranks = n; decls = x.1.0; body = found; lines = x.1.1 }))

  pub script_local : TurnsAreEnough → IsLocal late grammar.script
  unfolding grammar.script
  script_local enough =
      then_ header _ (header_local enough) (λ n. then_ (body (block max_blocks) false) _ (body_local enough max_blocks (block_local enough max_blocks) false) (λ found. whole_local n found))
