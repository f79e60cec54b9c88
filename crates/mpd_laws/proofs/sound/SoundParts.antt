-- What is read as the parts of a statement is written so, each expression within the budget.
use Rattle.std.proofs.Common.{◌≡◌, ℕ, suc, Bool, true, false, cond, List, [], ◌∷◌, ◌++◌, Option, None, Some, is_some, Ok, refl, sym, subst, ◌∙◌, append_assoc}
use Rattle.mpd_model.specs.declared.limits.TheConstants.{NESTING_MAX}
use Rattle.mpd_model.specs.declared.place.DeclKind.{DeclKind}
use Rattle.mpd_model.specs.declared.place.DeclKind.TheVariants.{Variable}
use Rattle.mpd_model.specs.declared.place.Place.{Place}
use Rattle.mpd_model.specs.declared.slot.Slot.{Slot}
use Rattle.mpd_model.specs.declared.stmt.StatusStmt.{StatusStmt}
use Rattle.mpd_model.specs.declared.token.Symbol.TheVariants as m
use Rattle.mpd_model.specs.declared.token.Token.{Token}
use Rattle.mpd_model.specs.declared.token.Token.TheVariants.{Name, Is}
use Rattle.mpd_model.specs.script.Declaration.{Declared}
use Rattle.mpd_model.specs.grammar.Grammar.{expression, place_of_slot, index_outside, target, statement_place_by, statement_place, statement_name_by, statement_name, source_by, source, status_by, status, fill}
use Rattle.mpd_model.specs.grammar.Input.{Input, token, advanced, expect, seek, sees, max_budget, after}
use Rattle.mpd_model.specs.script.Parts.{Part, of_symbol, of_term, of_target, of_name, Hole, symbol_hole, term_hole, target_hole, name_hole, source_hole, status_hole, source_part, status_parts, Contents, filled}
use Rattle.mpd_model.specs.script.Term.{Term, Target}
use Rattle.mpd_model.specs.grammar.Tokens.{Spot}
use Rattle.mpd_model.specs.grammar.Written.{Names, TermBetween}
use Rattle.mpd_laws.proofs.sound.Budget.{expression_within}
use Rattle.mpd_laws.proofs.sound.Cheap.{CheapTerm, CheapTarget, CheapPart, CheapParts, whole, part, by_symbol, by_term, by_target, by_name, no_part, then_part}
use Rattle.mpd_laws.proofs.sound.Sound.{bind_ok, ok_parts, carried, Moves, no_move, then_moves, Step, next_step, sees_is, expect_step, NamedBy, name_step, expr_sound}

-- ---- expressions that stand in no other

pub record Read (t : Term) (i j : Input) : Type 0 where
  pub used : List Spot
  pub moves : Moves used i j
  pub written : CheapTerm i.decls used t

pub expression_ok : (i : Input) (y : Term × Input) → expression i ≡ Ok y → Read y.0 i y.1
expression_ok i y h =
    let tk : TermBetween 5 y.0 (record i { budget = max_budget }) y.1 = expr_sound (suc NESTING_MAX) 5 (record i { budget = max_budget }) y.1 y.0 h in
    record { used = tk.used; moves = record { is = tk.is; version = tk.version; decls = tk.decls; lines = tk.lines }; written = (tk.written, expression_within i y tk.used h tk.is) }

-- an expression seen from where the statement began
here : (t : Term) (i x j : Input) → x.decls ≡ i.decls → (r : Read t x j) → CheapTerm i.decls r.used t
here t i x j e r = rw (← e) r.written

-- ---- places that stand in no expression

pub record TargetBetween (kind : DeclKind) (t : Target) (i j : Input) : Type 0 where
  pub used : List Spot
  pub moves : Moves used i j
  pub written : CheapTarget i.decls kind used t

-- what follows the name of such a place
pub record Outside (kind : DeclKind) (slot : Slot) (t : Target) (i j : Input) : Type 0 where
  pub used : List Spot
  pub moves : Moves used i j
  pub written : (s : Spot) → NamedBy i.decls kind slot s → CheapTarget i.decls kind (s ∷ used) t

abbrev whole_of : Slot → Target
whole_of slot = record { place = place_of_slot slot; index = None }

abbrev part_of : Slot → Term → Target
part_of slot t = record { place = place_of_slot slot; index = Some t }

-- of an array, by its size
abbrev Sized : DeclKind → Slot → Option ℕ → List Declared → Spot → Type 0
Sized kind slot cells ds s = (is_array : Bool) → is_some cells ≡ is_array → Names ds kind s is_array (place_of_slot slot)

index_outside_case : (kind : DeclKind) (slot : Slot) (cells : Option ℕ) → ((ds : List Declared) (s : Spot) → NamedBy ds kind slot s → Sized kind slot cells ds s)
    → (i j : Input) (t : Target) → index_outside (place_of_slot slot) cells i ≡ Ok (t, j) → Outside kind slot t i j
index_outside_case kind slot None n i j t h =
    let o = ok_parts (whole_of slot, i) (t, j) h in
    carried (λ t j. Outside kind slot t i j) _ _ _ _ o.0 o.1
    (record { used = []; moves = no_move i i refl; written = λ s named. whole s (place_of_slot slot) (n i.decls s named false refl) })
index_outside_case kind slot (Some cells) n i j t h =
    let a = bind_ok (expect m.SquareOpen i) _ (t, j) h in
    let b = bind_ok (expression a.0.1) _ (t, j) a.2 in
    let c = bind_ok (expect m.SquareClose b.0.1) _ (t, j) b.2 in
    let o = ok_parts (part_of slot b.0.0, c.0.1) (t, j) c.2 in
    let x = expect_step m.SquareOpen i a.0 a.1 in
    let e = expression_ok a.0.1 b.0 b.1 in
    let y = expect_step m.SquareClose b.0.1 c.0 c.1 in
    carried (λ t j. Outside kind slot t i j) _ _ _ _ o.0 o.1
    (record {
      used = x.0.spot ∷ e.used ++ y.0.spot ∷ [];
      moves = then_moves (x.0.spot ∷ []) (e.used ++ y.0.spot ∷ []) i a.0.1 c.0.1 x.0.moves (then_moves e.used (y.0.spot ∷ []) a.0.1 b.0.1 c.0.1 e.moves y.0.moves);
      written = λ s named. part s x.0.spot y.0.spot e.used (place_of_slot slot) b.0.0 (n i.decls s named true refl) x.1 (here b.0.0 i a.0.1 b.0.1 x.0.moves.decls e) y.1;
    })

pub index_outside_ok : (kind : DeclKind) (slot : Slot) (i j : Input) (t : Target) → index_outside (place_of_slot slot) slot.size i ≡ Ok (t, j) → Outside kind slot t i j
index_outside_ok kind slot i j t h = index_outside_case kind slot slot.size (λ ds s n. n) i j t h

target_is : (kind : DeclKind) (slot : Slot) (t : Target) (i x j : Input) → (s : Step i x) → NamedBy i.decls kind slot s.spot → Outside kind slot t x j → TargetBetween kind t i j
target_is kind slot t i x j s n o = record {
  used = s.spot ∷ o.used;
  moves = then_moves (s.spot ∷ []) o.used i x j s.moves o.moves;
  written = rw (← s.moves.decls) (o.written s.spot (rw s.moves.decls n));
}

target_ok : (kind : DeclKind) (i : Input) (y : Target × Input) → token i ≡ Name → target kind i ≡ Ok y → TargetBetween kind y.0 i y.1
unfolding target
target_ok kind i y e h =
    let b = bind_ok (seek kind i) _ y h in
    let v = name_step kind i b.0 e b.1 in
    target_is kind b.0.0 y.0 i (advanced b.0.1) y.1 v.0 v.1 (index_outside_ok kind b.0.0 (advanced b.0.1) y.1 y.0 b.2)

statement_place_case : (kind : DeclKind) (tk : Token) (i : Input) (y : Target × Input) → token i ≡ tk → statement_place_by kind tk i ≡ Ok y → TargetBetween kind y.0 i y.1
statement_place_case kind Name i y e h = target_ok kind i y e h
statement_place_case kind _ i y e h = absurd (cc)

statement_place_ok : (kind : DeclKind) (i : Input) (y : Target × Input) → statement_place kind i ≡ Ok y → TargetBetween kind y.0 i y.1
unfolding statement_place
statement_place_ok kind i y h = statement_place_case kind (token i) i y refl h

-- ---- a declaration by its name alone

record NameBetween (kind : DeclKind) (p : Place) (i j : Input) : Type 0 where
  used : List Spot
  moves : Moves used i j
  written : CheapPart i.decls used (of_name kind p)

named_by : (kind : DeclKind) (slot : Slot) (i j : Input) → (s : Step i j) → NamedBy i.decls kind slot s.spot → NameBetween kind (place_of_slot slot) i j
named_by kind slot i j s n = record {
  used = s.spot ∷ [];
  moves = s.moves;
  written = by_name s.spot kind (is_some slot.size) (place_of_slot slot) (n (is_some slot.size) refl);
}

statement_name_case : (kind : DeclKind) (tk : Token) (i : Input) (y : Place × Input) → token i ≡ tk → statement_name_by kind tk i ≡ Ok y → NameBetween kind y.0 i y.1
statement_name_case kind Name i y e h =
    let b = bind_ok (seek kind i) _ y h in
    let o = ok_parts (place_of_slot b.0.0, advanced b.0.1) y b.2 in
    let v = name_step kind i b.0 e b.1 in
    carried (λ p j. NameBetween kind p i j) _ _ _ _ o.0 o.1 (named_by kind b.0.0 i (advanced b.0.1) v.0 v.1)
statement_name_case kind _ i y e h = absurd (cc)

statement_name_ok : (kind : DeclKind) (i : Input) (y : Place × Input) → statement_name kind i ≡ Ok y → NameBetween kind y.0 i y.1
unfolding statement_name
statement_name_ok kind i y h = statement_name_case kind (token i) i y refl h

-- ---- a source, and a status before other parts

record SourceBetween (o : Option Term) (i j : Input) : Type 0 where
  used : List Spot
  moves : Moves used i j
  written : CheapPart i.decls used (source_part o)

source_case : (found : Bool) (i : Input) (y : Option Term × Input) → sees m.Any i ≡ found → source_by found (cond found (advanced i) i) ≡ Ok y → SourceBetween y.0 i y.1
source_case true i y e h =
    let o = ok_parts (None, advanced i) y h in
    let is = sees_is m.Any i e in
    let s = next_step i (advanced i) (λ x. absurd (cc)) refl in
    carried (λ o j. SourceBetween o i j) _ _ _ _ o.0 o.1 (record { used = s.spot ∷ []; moves = s.moves; written = by_symbol s.spot m.Any (s.token ∙ is) })
source_case false i y e h =
    let b = bind_ok (expression i) _ y h in
    let o = ok_parts (Some b.0.0, b.0.1) y b.2 in
    let r = expression_ok i b.0 b.1 in
    carried (λ o j. SourceBetween o i j) _ _ _ _ o.0 o.1 (record { used = r.used; moves = r.moves; written = by_term r.used b.0.0 r.written })

source_ok : (i : Input) (y : Option Term × Input) → source i ≡ Ok y → SourceBetween y.0 i y.1
unfolding source after
source_ok i y h = source_case (sees m.Any i) i y refl h

-- the places of a status
abbrev pub status_of : Target → Target → StatusStmt
status_of p q = record { source = p; tag = q }

record StatusBetween (o : Option StatusStmt) (i j : Input) : Type 0 where
  used : List Spot
  moves : Moves used i j
  written : (ps : List Part) (rs : List Spot) → CheapParts i.decls rs ps → CheapParts i.decls (used ++ rs) (status_parts o ps)

-- a place before other parts, seen from where the statement began
place_first : (t : Target) (ps : List Part) (ss rs : List Spot) (i x : Input) → x.decls ≡ i.decls → CheapTarget x.decls Variable ss t → CheapParts i.decls rs ps → CheapParts i.decls (ss ++ rs) (of_target Variable t ∷ ps)
place_first t ps ss rs i x e v w = then_part ss rs (of_target Variable t) ps (by_target ss Variable t (rw (← e) v)) w

status_before : (p q : Target) (i x y j : Input) → (s : Step i x) → s.spot.token ≡ Is m.Status → TargetBetween Variable p x y → TargetBetween Variable q y j → StatusBetween (Some (status_of p q)) i j
status_before p q i x y j s is n o = record {
  used = s.spot ∷ (n.used ++ o.used);
  moves = then_moves (s.spot ∷ []) (n.used ++ o.used) i x j s.moves (then_moves n.used o.used x y j n.moves o.moves);
  written = λ ps rs w. subst (λ u. CheapParts i.decls (s.spot ∷ u) (status_parts (Some (status_of p q)) ps)) (sym (append_assoc n.used o.used rs))
      (then_part (s.spot ∷ []) (n.used ++ (o.used ++ rs)) (of_symbol m.Status) (of_target Variable p ∷ of_target Variable q ∷ ps) (by_symbol s.spot m.Status is)
      (place_first p (of_target Variable q ∷ ps) n.used (o.used ++ rs) i x s.moves.decls n.written
      (place_first q ps o.used rs i y (n.moves.decls ∙ s.moves.decls) o.written w)));
}

status_case : (found : Bool) (i : Input) (y : Option StatusStmt × Input) → sees m.Status i ≡ found → status_by found (cond found (advanced i) i) ≡ Ok y → StatusBetween y.0 i y.1
status_case true i y e h =
    let is = sees_is m.Status i e in
    let s = next_step i (advanced i) (λ x. absurd (cc)) refl in
    let b = bind_ok (statement_place Variable (advanced i)) _ y h in
    let c = bind_ok (statement_place Variable b.0.1) _ y b.2 in
    let o = ok_parts (Some (status_of b.0.0 c.0.0), c.0.1) y c.2 in
    carried (λ o j. StatusBetween o i j) _ _ _ _ o.0 o.1
    (status_before b.0.0 c.0.0 i (advanced i) b.0.1 c.0.1 s (s.token ∙ is) (statement_place_ok Variable (advanced i) b.0 b.1) (statement_place_ok Variable b.0.1 c.0 c.1))
status_case false i y e h =
    let o = ok_parts (None, i) y h in
    carried (λ o j. StatusBetween o i j) _ _ _ _ o.0 o.1 (record { used = []; moves = no_move i i refl; written = λ ps rs w. w })

status_ok : (i : Input) (y : Option StatusStmt × Input) → status i ≡ Ok y → StatusBetween y.0 i y.1
unfolding status after
status_ok i y h = status_case (sees m.Status i) i y refl h

-- ---- all parts

-- what was read in the holes, and the tokens that write it
pub record Fills {A : Type 0} (hs : List Hole) (made : Contents hs → A) (a : A) (i j : Input) : Type 0 where
  pub contents : Contents hs
  pub is : made contents ≡ a
  pub used : List Spot
  pub end : Spot
  pub moves : Moves (used ++ end ∷ []) i j
  pub written : CheapParts i.decls used (filled hs contents)
  pub closed : end.token ≡ Is m.Semicolon

-- the tokens of a part and then those of the others, up to the end
pub part_moves : (ss rs : List Spot) (end : Spot) (i x j : Input) → Moves ss i x → Moves (rs ++ end ∷ []) x j → Moves (ss ++ rs ++ end ∷ []) i j
part_moves ss rs end i x j a b = subst (λ u. Moves u i j) (sym (append_assoc ss rs (end ∷ []))) (then_moves ss (rs ++ end ∷ []) i x j a b)

-- parts seen from where the statement began
parts_here : (ps : List Part) (rs : List Spot) (i x : Input) → x.decls ≡ i.decls → CheapParts x.decls rs ps → CheapParts i.decls rs ps
parts_here ps rs i x e w = rw (← e) w

pub part_first : (p : Part) (ps : List Part) (ss rs : List Spot) (i x : Input) → x.decls ≡ i.decls → CheapPart i.decls ss p → CheapParts x.decls rs ps → CheapParts i.decls (ss ++ rs) (p ∷ ps)
part_first p ps ss rs i x e v w = then_part ss rs p ps v (parts_here ps rs i x e w)

pub fill_ok : {A : Type 0} (hs : List Hole) (made : Contents hs → A) (i j : Input) (a : A) → fill hs made i ≡ Ok (a, j) → Fills hs made a i j
fill_ok [] made i j a h =
    let b = bind_ok (expect m.Semicolon i) _ (a, j) h in
    let o = ok_parts (made tt, b.0.1) (a, j) b.2 in
    let z = expect_step m.Semicolon i b.0 b.1 in
    carried (λ a j. Fills [] made a i j) _ _ _ _ o.0 o.1 (record { contents = tt; is = refl; used = []; end = z.0.spot; moves = z.0.moves; written = no_part; closed = z.1 })
fill_ok (symbol_hole k ∷ hs) made i j a h =
    let b = bind_ok (expect k i) _ (a, j) h in
    let e = expect_step k i b.0 b.1 in
    let r = fill_ok hs made b.0.1 j a b.2 in
    record {
      contents = r.contents;
      is = r.is;
      used = e.0.spot ∷ [] ++ r.used;
      end = r.end;
      moves = part_moves (e.0.spot ∷ []) r.used r.end i b.0.1 j e.0.moves r.moves;
      written = part_first (of_symbol k) (filled hs r.contents) (e.0.spot ∷ []) r.used i b.0.1 e.0.moves.decls (by_symbol e.0.spot k e.1) r.written;
      closed = r.closed;
    }
fill_ok (term_hole ∷ hs) made i j a h =
    let b = bind_ok (expression i) _ (a, j) h in
    let e = expression_ok i b.0 b.1 in
    let r = fill_ok hs (λ c. made (b.0.0, c)) b.0.1 j a b.2 in
    record {
      contents = (b.0.0, r.contents);
      is = r.is;
      used = e.used ++ r.used;
      end = r.end;
      moves = part_moves e.used r.used r.end i b.0.1 j e.moves r.moves;
      written = part_first (of_term b.0.0) (filled hs r.contents) e.used r.used i b.0.1 e.moves.decls (by_term e.used b.0.0 e.written) r.written;
      closed = r.closed;
    }
fill_ok (target_hole kind ∷ hs) made i j a h =
    let b = bind_ok (statement_place kind i) _ (a, j) h in
    let e = statement_place_ok kind i b.0 b.1 in
    let r = fill_ok hs (λ c. made (b.0.0, c)) b.0.1 j a b.2 in
    record {
      contents = (b.0.0, r.contents);
      is = r.is;
      used = e.used ++ r.used;
      end = r.end;
      moves = part_moves e.used r.used r.end i b.0.1 j e.moves r.moves;
      written = part_first (of_target kind b.0.0) (filled hs r.contents) e.used r.used i b.0.1 e.moves.decls (by_target e.used kind b.0.0 e.written) r.written;
      closed = r.closed;
    }
fill_ok (name_hole kind ∷ hs) made i j a h =
    let b = bind_ok (statement_name kind i) _ (a, j) h in
    let e = statement_name_ok kind i b.0 b.1 in
    let r = fill_ok hs (λ c. made (b.0.0, c)) b.0.1 j a b.2 in
    record {
      contents = (b.0.0, r.contents);
      is = r.is;
      used = e.used ++ r.used;
      end = r.end;
      moves = part_moves e.used r.used r.end i b.0.1 j e.moves r.moves;
      written = part_first (of_name kind b.0.0) (filled hs r.contents) e.used r.used i b.0.1 e.moves.decls e.written r.written;
      closed = r.closed;
    }
fill_ok (source_hole ∷ hs) made i j a h =
    let b = bind_ok (source i) _ (a, j) h in
    let e = source_ok i b.0 b.1 in
    let r = fill_ok hs (λ c. made (b.0.0, c)) b.0.1 j a b.2 in
    record {
      contents = (b.0.0, r.contents);
      is = r.is;
      used = e.used ++ r.used;
      end = r.end;
      moves = part_moves e.used r.used r.end i b.0.1 j e.moves r.moves;
      written = part_first (source_part b.0.0) (filled hs r.contents) e.used r.used i b.0.1 e.moves.decls e.written r.written;
      closed = r.closed;
    }
fill_ok (status_hole ∷ hs) made i j a h =
    let b = bind_ok (status i) _ (a, j) h in
    let e = status_ok i b.0 b.1 in
    let r = fill_ok hs (λ c. made (b.0.0, c)) b.0.1 j a b.2 in
    record {
      contents = (b.0.0, r.contents);
      is = r.is;
      used = e.used ++ r.used;
      end = r.end;
      moves = part_moves e.used r.used r.end i b.0.1 j e.moves r.moves;
      written = e.written (filled hs r.contents) r.used (parts_here (filled hs r.contents) r.used i b.0.1 e.moves.decls r.written);
      closed = r.closed;
    }
