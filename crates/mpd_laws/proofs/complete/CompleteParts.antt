-- The parts of a statement that are written, within the limits, are read.
use Rattle.std.proofs.Common.{◌≡◌, ℕ, suc, ◌-◌, ◌<◌, ◌≤◌, Bool, true, false, Option, None, Some, is_some, List, [], ◌∷◌, ◌++◌, length, nat_lt, Ok, refl, ap, ◌∙◌, append_assoc, arith}
use Rattle.std.proofs.lemmas.Bool.Decides.{nat_tests}
use denote.Enum.Bare.{true_same}
use Rattle.mpd_model.specs.declared.limits.TheConstants.{NESTING_MAX, STATEMENTS_MAX}
use Rattle.mpd_model.specs.contracts.token.Symbol.{the_type}
use Rattle.mpd_model.specs.declared.expr.UnaryOp.{UnaryOp}
use Rattle.mpd_model.specs.declared.place.DeclKind.{DeclKind}
use Rattle.mpd_model.specs.declared.place.DeclKind.TheVariants.{Variable, Handle}
use Rattle.mpd_model.specs.declared.place.Place.{Place}
use Rattle.mpd_model.specs.declared.slot.Slot.{Slot}
use Rattle.mpd_model.specs.declared.stmt.StatusStmt.{StatusStmt}
use Rattle.mpd_model.specs.declared.token.Symbol.{Symbol}
use Rattle.mpd_model.specs.declared.token.Symbol.TheVariants as m
use Rattle.mpd_model.specs.declared.token.Token.{Token}
use Rattle.mpd_model.specs.declared.token.Token.TheVariants.{Name, Is}
use Rattle.mpd_model.specs.script.Declaration.{Declared}
use Rattle.mpd_model.specs.grammar.Costs.{cost, Stops, on, Gives, index_cost, part_cost, dearest_part}
use Rattle.mpd_model.specs.grammar.Grammar.{expression, begin_statement, sign, place_of_slot, index_outside, target, statement_place_by, statement_place, statement_name_by, statement_name, source, status, fill, EndsTerm, EndsStatus, AreClear}
use Rattle.mpd_model.specs.grammar.Input.{Input, Parser, token, token_of, spelling, advanced, expect, seek, same_kind, slot_in, sees, is_symbol, same_symbol, count, after}
use Rattle.mpd_model.specs.script.Parts.{Part, Hole, symbol_hole, term_hole, target_hole, name_hole, source_hole, status_hole, source_part, status_parts, Contents, filled}
use Rattle.mpd_model.specs.script.Term.{Term, Target}
use Rattle.mpd_model.specs.grammar.Tokens.{Spot}
use Rattle.mpd_model.specs.grammar.Written.{Names, left_level, WrittenTerm, number, rank, ranks, name, entry, round, signs, higher, joins, WrittenTarget, whole, part, WrittenPart, by_symbol, by_term, by_target, by_name, WrittenParts, no_part, then_part}
use Rattle.mpd_laws.proofs.complete.Complete.{bind_to, expect_at, symbol_stops, expr_complete}
use Rattle.mpd_laws.proofs.sound.SoundParts.{status_of}

-- ---- steps on a known list of tokens

pub expect_on : (wanted : Symbol) (s : Spot) (rest : List Spot) (ls : List ℕ) (b : ℕ) (i : Input) → s.token ≡ Is wanted → expect wanted (on (s ∷ rest) ls b i) ≡ Ok (tt, on rest ls b i)
expect_on wanted s rest ls b i e = expect_at wanted s rest b (on rest ls b i) e

pub begin_statement_on : (k : Spot) (rest : List Spot) (ls : List ℕ) (b : ℕ) (i : Input) → length ls < STATEMENTS_MAX → begin_statement (on (k ∷ rest) ls b i) ≡ Ok (tt, on rest (ls ++ k.line ∷ []) b i)
unfolding count advanced
begin_statement_on k rest ls b i h =
    let few : nat_lt (length ls) STATEMENTS_MAX ≡ true = grind (arith, nat_tests) in
    rw few refl

pub expression_on : (e rest : List Spot) (t : Term) (ls : List ℕ) (b : ℕ) (i : Input) → WrittenTerm i.decls 5 e t → cost e ≤ NESTING_MAX → Stops 5 rest
    → expression (on (e ++ rest) ls b i) ≡ Ok (t, on rest ls (NESTING_MAX - cost e) i)
expression_on e rest t ls b i w le s = expr_complete (suc NESTING_MAX) 5 e rest t (on (e ++ rest) ls NESTING_MAX i) w refl s le (omega arith)

-- ---- places that stand in no expression

-- A place that is written begins with its name; what is behind that is read.
pub record Begins (i : Input) (wanted : DeclKind) (ss : List Spot) (t : Target) : Type 0 where
  pub first : Spot
  pub behind : List Spot
  pub is : ss ≡ first ∷ behind
  pub token : first.token ≡ Name
  pub slot : Slot
  pub declared : slot_in i.decls first.text ≡ Some slot
  pub kind : slot.kind ≡ wanted
  pub reads : (ls : List ℕ) (b : ℕ) (rest : List Spot) → Gives (index_outside (place_of_slot slot) slot.size (on (behind ++ rest) ls b i)) t rest ls i

pub whole_on : (p : Place) (o : Option ℕ) (rest : List Spot) (ls : List ℕ) (b : ℕ) (i : Input) → is_some o ≡ false
    → index_outside p o (on rest ls b i) ≡ Ok (record { place = p; index = None }, on rest ls b i)
whole_on p None rest ls b i h = refl
whole_on p (Some n) rest ls b i h = absurd (cc)

part_on : (p : Place) (o : Option ℕ) (a z : Spot) (ss rest : List Spot) (t : Term) (ls : List ℕ) (b : ℕ) (i : Input) → is_some o ≡ true
    → a.token ≡ Is m.SquareOpen → WrittenTerm i.decls 5 ss t → z.token ≡ Is m.SquareClose → cost ss ≤ NESTING_MAX
    → index_outside p o (on (a ∷ (ss ++ (z ∷ rest))) ls b i) ≡ Ok (record { place = p; index = Some t }, on rest ls (NESTING_MAX - cost ss) i)
part_on p None a z ss rest t ls b i h ha w hz le = absurd (cc)
part_on p (Some n) a z ss rest t ls b i h ha w hz le =
    bind_to _ _ _ _ (expect_on m.SquareOpen a (ss ++ (z ∷ rest)) ls b i ha)
    (bind_to _ _ _ _ (expression_on ss (z ∷ rest) t ls b i w le (symbol_stops 5 z rest (Is m.SquareClose) hz refl))
    (bind_to _ _ _ _ (expect_on m.SquareClose z rest ls (NESTING_MAX - cost ss) i hz) refl))

same_place : (p q : Place) (o : Option ℕ) (t : Target) (ss us rest : List Spot) (ls : List ℕ) (b : ℕ) (i : Input) → p ≡ q → ss ≡ us
    → Gives (index_outside q o (on us ls b i)) t rest ls i → Gives (index_outside p o (on ss ls b i)) t rest ls i
same_place p q o t ss us rest ls b i d e g = rw (d, e) g

pub target_begins : (i : Input) (kind : DeclKind) (ss : List Spot) (t : Target) (w : WrittenTarget i.decls kind ss t) → index_cost i.decls kind ss t w ≤ NESTING_MAX → Begins i kind ss t
target_begins i kind _ _ (whole s p n) le = record {
  first = s;
  behind = [];
  is = refl;
  token = n.token;
  slot = n.slot;
  declared = n.declared;
  kind = n.kind;
  reads = λ ls b rest. same_place (place_of_slot n.slot) p n.slot.size (record { place = p; index = None }) rest rest rest ls b i n.place refl
      (record { left = b; is = whole_on p n.slot.size rest ls b i n.size });
}
target_begins i kind _ _ (part s a z ss p t n ha w hz) le = record {
  first = s;
  behind = a ∷ ss ++ z ∷ [];
  is = refl;
  token = n.token;
  slot = n.slot;
  declared = n.declared;
  kind = n.kind;
  reads = λ ls b rest. same_place (place_of_slot n.slot) p n.slot.size (record { place = p; index = Some t }) _ (a ∷ (ss ++ (z ∷ rest))) rest ls b i n.place (simp append_assoc)
      (record { left = NESTING_MAX - cost ss; is = part_on p n.slot.size a z ss rest t ls b i n.size ha w hz le });
}

-- a kind is the same as itself
kind_is_same : (kind : DeclKind) → same_kind kind kind ≡ true
kind_is_same Variable = refl
kind_is_same Handle = refl

pub seek_on : (kind : DeclKind) (s : Spot) (slot : Slot) (rest : List Spot) (ls : List ℕ) (b : ℕ) (i : Input) → slot_in i.decls s.text ≡ Some slot → slot.kind ≡ kind
    → seek kind (on (s ∷ rest) ls b i) ≡ Ok (slot, on (s ∷ rest) ls b i)
unfolding seek spelling
seek_on kind s slot rest ls b i d k = rw (d, k, kind_is_same kind) refl

target_on : (kind : DeclKind) (s : Spot) (slot : Slot) (ss rest : List Spot) (t : Target) (ls : List ℕ) (b : ℕ) (i : Input) → slot_in i.decls s.text ≡ Some slot → slot.kind ≡ kind
    → Gives (index_outside (place_of_slot slot) slot.size (on ss ls b i)) t rest ls i → Gives (target kind (on (s ∷ ss) ls b i)) t rest ls i
unfolding target advanced
target_on kind s slot ss rest t ls b i d k g = record { left = g.left; is = bind_to _ _ _ _ (seek_on kind s slot ss ls b i d k) g.is }

pub statement_place_as : (kind : DeclKind) (s : Spot) (ss : List Spot) (ls : List ℕ) (b : ℕ) (i : Input) → s.token ≡ Name → statement_place kind (on (s ∷ ss) ls b i) ≡ target kind (on (s ∷ ss) ls b i)
unfolding statement_place token
statement_place_as kind s ss ls b i e = ap (λ u. statement_place_by kind u (on (s ∷ ss) ls b i)) e

statement_place_from : (kind : DeclKind) (s : Spot) (ss rest : List Spot) (t : Target) (ls : List ℕ) (b : ℕ) (i : Input) → s.token ≡ Name → Gives (target kind (on (s ∷ ss) ls b i)) t rest ls i
    → Gives (statement_place kind (on (s ∷ ss) ls b i)) t rest ls i
statement_place_from kind s ss rest t ls b i e g = record { left = g.left; is = statement_place_as kind s ss ls b i e ∙ g.is }

statement_place_same : (kind : DeclKind) (ss us rest : List Spot) (t : Target) (ls : List ℕ) (b : ℕ) (i : Input) → ss ≡ us → Gives (statement_place kind (on us ls b i)) t rest ls i
    → Gives (statement_place kind (on ss ls b i)) t rest ls i
statement_place_same kind ss us rest t ls b i e g = rw e g

statement_place_on : (kind : DeclKind) (ss rest : List Spot) (t : Target) (ls : List ℕ) (b : ℕ) (i : Input) → Begins i kind ss t → Gives (statement_place kind (on (ss ++ rest) ls b i)) t rest ls i
statement_place_on kind ss rest t ls b i x =
    statement_place_same kind (ss ++ rest) (x.first ∷ (x.behind ++ rest)) rest t ls b i (ap (λ r. r ++ rest) x.is)
    (statement_place_from kind x.first (x.behind ++ rest) rest t ls b i x.token (target_on kind x.first x.slot (x.behind ++ rest) rest t ls b i x.declared x.kind (x.reads ls b rest)))

-- ---- a declaration by its name alone

pub statement_name_on : (kind : DeclKind) (s : Spot) (is_array : Bool) (p : Place) (rest : List Spot) (ls : List ℕ) (b : ℕ) (i : Input) → Names i.decls kind s is_array p
    → statement_name kind (on (s ∷ rest) ls b i) ≡ Ok (p, on rest ls b i)
unfolding statement_name token advanced
statement_name_on kind s is_array p rest ls b i n =
    ap (λ u. statement_name_by kind u (on (s ∷ rest) ls b i)) n.token
    ∙ bind_to _ _ _ _ (seek_on kind s n.slot rest ls b i n.declared n.kind) (ap (λ q. Ok (q, on rest ls b i)) n.place)

-- ---- where a hole ends

pub symbol_seen : (k : Symbol) (s : Spot) → s.token ≡ Is k → is_symbol k s.token ≡ true
unfolding same_symbol
symbol_seen k s e = ap (is_symbol k) e ∙ true_same the_type k k refl

status_stops : (ds : List Declared) (ps : List Part) (o : Option StatusStmt) (rs us : List Spot) → ((ss : List Spot) → WrittenParts ds ss ps → Stops 5 (ss ++ us))
    → WrittenParts ds rs (status_parts o ps) → Stops 5 (rs ++ us)
status_stops ds ps None rs us f w = f rs w
status_stops ds ps (Some t) _ us f (then_part _ rs _ _ (by_symbol s _ h) w) = symbol_stops 5 s (rs ++ us) (Is m.Status) h refl

-- no operator goes on with what comes before the holes
pub holes_stop : (ds : List Declared) (hs : List Hole) (c : Contents hs) (rs : List Spot) (end : Spot) (rest : List Spot) → EndsTerm hs → WrittenParts ds rs (filled hs c) → end.token ≡ Is m.Semicolon
    → Stops 5 (rs ++ (end ∷ rest))
holes_stop ds [] c _ end rest h no_part e = symbol_stops 5 end rest (Is m.Semicolon) e refl
holes_stop ds (symbol_hole k ∷ hs) c _ end rest h (then_part _ rs _ _ (by_symbol s _ x) w) e = symbol_stops 5 s (rs ++ (end ∷ rest)) (Is k) x h
holes_stop ds (term_hole ∷ hs) c _ end rest h w e = absurd h
holes_stop ds (target_hole kind ∷ hs) c _ end rest h w e = absurd h
holes_stop ds (name_hole kind ∷ hs) c _ end rest h w e = absurd h
holes_stop ds (source_hole ∷ hs) c _ end rest h w e = absurd h
holes_stop ds (status_hole ∷ hs) c rs end rest h w e = status_stops ds (filled hs c.1) c.0 rs (end ∷ rest) (λ ss x. holes_stop ds hs c.1 ss end rest h x e) w

pub no_status : (ds : List Declared) (hs : List Hole) (c : Contents hs) (rs : List Spot) (end : Spot) (rest : List Spot) → EndsStatus hs → WrittenParts ds rs (filled hs c) → end.token ≡ Is m.Semicolon
    → is_symbol m.Status (token_of (rs ++ (end ∷ rest))) ≡ false
unfolding same_symbol
no_status ds [] c _ end rest h no_part e = ap (is_symbol m.Status) e
no_status ds (symbol_hole k ∷ hs) c _ end rest h (then_part _ rs _ _ (by_symbol s _ x) w) e = ap (is_symbol m.Status) x ∙ h
no_status ds (term_hole ∷ hs) c _ end rest h w e = absurd h
no_status ds (target_hole kind ∷ hs) c _ end rest h w e = absurd h
no_status ds (name_hole kind ∷ hs) c _ end rest h w e = absurd h
no_status ds (source_hole ∷ hs) c _ end rest h w e = absurd h
no_status ds (status_hole ∷ hs) c _ end rest h w e = absurd h

-- ---- a source: no expression begins with `any`

sign_is_other : (t : Token) (op : UnaryOp) → sign t ≡ Some op → is_symbol m.Any t ≡ false
unfolding same_symbol
sign_is_other (Is m.Minus) op h = refl
sign_is_other (Is m.Not) op h = refl
sign_is_other _ op h = absurd (cc)

same_first : (us vs : List Spot) → us ≡ vs → is_symbol m.Any (token_of vs) ≡ false → is_symbol m.Any (token_of us) ≡ false
same_first us vs e h = rw e h

pub term_is_other : (ds : List Declared) (k : ℕ) (ss : List Spot) (t : Term) → WrittenTerm ds k ss t → (us : List Spot) → is_symbol m.Any (token_of (ss ++ us)) ≡ false
unfolding same_symbol
term_is_other ds _ _ _ (number s n h) us = ap (is_symbol m.Any) h
term_is_other ds _ _ _ (rank s h) us = ap (is_symbol m.Any) h
term_is_other ds _ _ _ (ranks s h) us = ap (is_symbol m.Any) h
term_is_other ds _ _ _ (name s p n) us = ap (is_symbol m.Any) n.token
term_is_other ds _ _ _ (entry s a b ss p t n ha hb w) us = ap (is_symbol m.Any) n.token
term_is_other ds _ _ _ (round a b ss t ha hb w) us = ap (is_symbol m.Any) ha
term_is_other ds _ _ _ (signs s ss op t h w) us = sign_is_other s.token op h
term_is_other ds _ _ _ (higher k ss t w) us = term_is_other ds k ss t w us
term_is_other ds _ _ _ (joins k l r o op a b h v w) us = same_first (l ++ o ∷ r ++ us) (l ++ (o ∷ r ++ us)) (append_assoc l (o ∷ r) us) (term_is_other ds (left_level k) l a v (o ∷ r ++ us))

pub any_on : (s : Spot) (us : List Spot) (ls : List ℕ) (b : ℕ) (i : Input) → is_symbol m.Any s.token ≡ true → source (on (s ∷ us) ls b i) ≡ Ok (None, on us ls b i)
unfolding source sees after token advanced
any_on s us ls b i h = rw h refl

value_on : (ss us : List Spot) (t : Term) (ls : List ℕ) (b : ℕ) (i : Input) → is_symbol m.Any (token_of ss) ≡ false → Gives (expression (on ss ls b i)) t us ls i → Gives (source (on ss ls b i)) (Some t) us ls i
unfolding source sees after token
value_on ss us t ls b i h g = record { left = g.left; is = rw h (bind_to _ _ _ _ g.is refl) }

source_on : (o : Option Term) (ss us : List Spot) (ls : List ℕ) (b : ℕ) (i : Input) → (w : WrittenPart i.decls ss (source_part o)) → part_cost i.decls ss (source_part o) w ≤ NESTING_MAX → Stops 5 us
    → Gives (source (on (ss ++ us) ls b i)) o us ls i
source_on None _ us ls b i (by_symbol s _ h) le x = record { left = b; is = any_on s us ls b i (symbol_seen m.Any s h) }
source_on (Some e) _ us ls b i (by_term ss _ w) le x =
    value_on (ss ++ us) us e ls b i (term_is_other i.decls 5 ss e w us) (record { left = NESTING_MAX - cost ss; is = expression_on ss us e ls b i w le x })

-- ---- a status

pub absent_on : (us : List Spot) (ls : List ℕ) (b : ℕ) (i : Input) → is_symbol m.Status (token_of us) ≡ false → status (on us ls b i) ≡ Ok (None, on us ls b i)
unfolding status sees after token
absent_on us ls b i h = rw h refl

present_on : (s : Spot) (ss us vs : List Spot) (p q : Target) (ls : List ℕ) (b : ℕ) (i : Input) → is_symbol m.Status s.token ≡ true → (g : Gives (statement_place Variable (on ss ls b i)) p us ls i)
    → Gives (statement_place Variable (on us ls g.left i)) q vs ls i → Gives (status (on (s ∷ ss) ls b i)) (Some (status_of p q)) vs ls i
unfolding status sees after token advanced
present_on s ss us vs p q ls b i h g k = record { left = k.left; is = rw h (bind_to _ _ _ _ g.is (bind_to _ _ _ _ k.is refl)) }

-- the first place of a status, whose tokens are joined with those of the second and of the parts behind it
first_on : (ts vs rs us : List Spot) (p : Target) (ls : List ℕ) (b : ℕ) (i : Input) → (w : WrittenTarget i.decls Variable ts p) → index_cost i.decls Variable ts p w ≤ NESTING_MAX
    → Gives (statement_place Variable (on (ts ++ (vs ++ rs) ++ us) ls b i)) p (vs ++ (rs ++ us)) ls i
first_on ts vs rs us p ls b i w le =
    statement_place_same Variable (ts ++ (vs ++ rs) ++ us) (ts ++ (vs ++ (rs ++ us))) (vs ++ (rs ++ us)) p ls b i (append_assoc ts (vs ++ rs) us ∙ ap (λ r. ts ++ r) (append_assoc vs rs us))
    (statement_place_on Variable ts (vs ++ (rs ++ us)) p ls b i (target_begins i Variable ts p w le))

-- a status was read, and the other parts are still to come
record StatusRead (o : Option StatusStmt) (ps : List Part) (ss us : List Spot) (ls : List ℕ) (b : ℕ) (i : Input) : Type 0 where
  others : List Spot
  written : WrittenParts i.decls others ps
  cheap : dearest_part i.decls others ps written ≤ NESTING_MAX
  gives : Gives (status (on (ss ++ us) ls b i)) o (others ++ us) ls i

status_on : (o : Option StatusStmt) (ps : List Part) (ss us : List Spot) (ls : List ℕ) (b : ℕ) (i : Input) → (w : WrittenParts i.decls ss (status_parts o ps)) → dearest_part i.decls ss (status_parts o ps) w ≤ NESTING_MAX
    → ((rs : List Spot) → WrittenParts i.decls rs ps → is_symbol m.Status (token_of (rs ++ us)) ≡ false) → StatusRead o ps ss us ls b i
status_on None ps ss us ls b i w le ends = record { others = ss; written = w; cheap = le; gives = record { left = b; is = absent_on (ss ++ us) ls b i (ends ss w) } }
status_on (Some c) ps _ us ls b i (then_part _ _ _ _ (by_symbol s _ h) (then_part ts _ _ _ (by_target _ _ _ x) (then_part vs rs _ _ (by_target _ _ _ y) w))) le ends =
    let g = first_on ts vs rs us c.source ls b i x (omega arith) in
    record {
      others = rs;
      written = w;
      cheap = omega arith;
      gives = present_on s (ts ++ (vs ++ rs) ++ us) (vs ++ (rs ++ us)) (rs ++ us) c.source c.tag ls b i (symbol_seen m.Status s h) g
          (statement_place_on Variable vs (rs ++ us) c.tag ls g.left i (target_begins i Variable vs c.tag y (omega arith)));
    }

-- ---- all parts, and the `;` behind them

same_on : {A : Type 0} (p : Parser A) (a : A) (ss us rest : List Spot) (ls ms : List ℕ) (b : ℕ) (i : Input) → ss ≡ us → Gives (p (on us ls b i)) a rest ms i → Gives (p (on ss ls b i)) a rest ms i
same_on p a ss us rest ls ms b i e g = rw e g

pub fill_on : {A : Type 0} (hs : List Hole) (made : Contents hs → A) (c : Contents hs) (ss : List Spot) (end : Spot) (rest : List Spot) (ls : List ℕ) (b : ℕ) (i : Input) → AreClear hs
    → (w : WrittenParts i.decls ss (filled hs c)) → dearest_part i.decls ss (filled hs c) w ≤ NESTING_MAX → end.token ≡ Is m.Semicolon → Gives (fill hs made (on (ss ++ (end ∷ rest)) ls b i)) (made c) rest ls i
fill_on [] made c _ end rest ls b i p no_part le e = record { left = b; is = bind_to _ _ _ _ (expect_on m.Semicolon end rest ls b i e) refl }
fill_on (symbol_hole k ∷ hs) made c _ end rest ls b i p (then_part _ rs _ _ (by_symbol s _ x) w) le e =
    let g = fill_on hs made c rs end rest ls b i p w (omega arith) e in
    record { left = g.left; is = bind_to _ _ _ _ (expect_on k s (rs ++ (end ∷ rest)) ls b i x) g.is }
fill_on (term_hole ∷ hs) made c _ end rest ls b i p (then_part ss rs _ _ (by_term _ _ x) w) le e =
    let first = expression_on ss (rs ++ (end ∷ rest)) c.0 ls b i x (omega arith) (holes_stop i.decls hs c.1 rs end rest p.0 w e) in
    let g = fill_on hs (λ d. made (c.0, d)) c.1 rs end rest ls (NESTING_MAX - cost ss) i p.1 w (omega arith) e in
    same_on (fill (term_hole ∷ hs) made) (made c) (ss ++ rs ++ (end ∷ rest)) (ss ++ (rs ++ (end ∷ rest))) rest ls ls b i (append_assoc ss rs (end ∷ rest))
    (record { left = g.left; is = bind_to _ _ _ _ first g.is })
fill_on (target_hole kind ∷ hs) made c _ end rest ls b i p (then_part ss rs _ _ (by_target _ _ _ x) w) le e =
    let n = statement_place_on kind ss (rs ++ (end ∷ rest)) c.0 ls b i (target_begins i kind ss c.0 x (omega arith)) in
    let g = fill_on hs (λ d. made (c.0, d)) c.1 rs end rest ls n.left i p w (omega arith) e in
    same_on (fill (target_hole kind ∷ hs) made) (made c) (ss ++ rs ++ (end ∷ rest)) (ss ++ (rs ++ (end ∷ rest))) rest ls ls b i (append_assoc ss rs (end ∷ rest))
    (record { left = g.left; is = bind_to _ _ _ _ n.is g.is })
fill_on (name_hole kind ∷ hs) made c _ end rest ls b i p (then_part _ rs _ _ (by_name s _ is_array _ n) w) le e =
    let g = fill_on hs (λ d. made (c.0, d)) c.1 rs end rest ls b i p w (omega arith) e in
    record { left = g.left; is = bind_to _ _ _ _ (statement_name_on kind s is_array c.0 (rs ++ (end ∷ rest)) ls b i n) g.is }
fill_on (source_hole ∷ hs) made c _ end rest ls b i p (then_part ss rs _ _ x w) le e =
    let n = source_on c.0 ss (rs ++ (end ∷ rest)) ls b i x (omega arith) (holes_stop i.decls hs c.1 rs end rest p.0 w e) in
    let g = fill_on hs (λ d. made (c.0, d)) c.1 rs end rest ls n.left i p.1 w (omega arith) e in
    same_on (fill (source_hole ∷ hs) made) (made c) (ss ++ rs ++ (end ∷ rest)) (ss ++ (rs ++ (end ∷ rest))) rest ls ls b i (append_assoc ss rs (end ∷ rest))
    (record { left = g.left; is = bind_to _ _ _ _ n.is g.is })
fill_on (status_hole ∷ hs) made c ss end rest ls b i p w le e =
    let n = status_on c.0 (filled hs c.1) ss (end ∷ rest) ls b i w le (λ rs x. no_status i.decls hs c.1 rs end rest p.0 x e) in
    let g = fill_on hs (λ d. made (c.0, d)) c.1 n.others end rest ls n.gives.left i p.1 n.written n.cheap e in
    record { left = g.left; is = bind_to _ _ _ _ n.gives.is g.is }
