-- The parts of a statement that are written are read, or refused by a limit.
use Rattle.std.proofs.Common.{◌≡◌, ℕ, true, false, Option, None, Some, is_some, List, [], ◌∷◌, ◌++◌, refl, ap, ◌∙◌, append_assoc, inl}
use Rattle.mpd_model.specs.declared.place.DeclKind.{DeclKind}
use Rattle.mpd_model.specs.declared.place.DeclKind.TheVariants.{Variable}
use Rattle.mpd_model.specs.declared.place.Place.{Place}
use Rattle.mpd_model.specs.declared.slot.Slot.{Slot}
use Rattle.mpd_model.specs.declared.stmt.StatusStmt.{StatusStmt}
use Rattle.mpd_model.specs.declared.token.Symbol.TheVariants as m
use Rattle.mpd_model.specs.declared.token.Token.TheVariants.{Name, Is}
use Rattle.mpd_model.specs.grammar.Costs.{Stops, on}
use Rattle.mpd_model.specs.grammar.Grammar.{expression, place_of_slot, index_outside, target, statement_place, source, status, fill, AreClear}
use Rattle.mpd_model.specs.grammar.Input.{Input, Parser, token, token_of, advanced, slot_in, sees, is_symbol, after}
use Rattle.mpd_model.specs.script.Parts.{Part, Hole, symbol_hole, term_hole, target_hole, name_hole, source_hole, status_hole, source_part, status_parts, Contents, filled}
use Rattle.mpd_model.specs.script.Term.{Term, Target}
use Rattle.mpd_model.specs.grammar.Tokens.{Spot}
use Rattle.mpd_model.specs.grammar.Written.{WrittenTerm, WrittenTarget, whole, part, WrittenPart, by_symbol, by_term, by_target, by_name, WrittenParts, no_part, then_part}
use Rattle.mpd_laws.proofs.complete.Complete.{symbol_stops}
use Rattle.mpd_laws.proofs.complete.CompleteParts.{expect_on, whole_on, seek_on, statement_place_as, statement_name_on, symbol_seen, holes_stop, no_status, term_is_other, any_on, absent_on}
use Rattle.mpd_laws.proofs.sound.SoundParts.{status_of}
use Rattle.mpd_meaning.proofs.limited.Limited.{GivesOrLimited, then_limited, step_limited, same_limited, given, expression_limited}

-- the same of the same tokens
pub same_tokens : {A : Type 0} (p : Parser A) (a : A) (ss us rest : List Spot) (ls ms : List ℕ) (b : ℕ) (i : Input) → ss ≡ us → GivesOrLimited (p (on us ls b i)) a rest ms i → GivesOrLimited (p (on ss ls b i)) a rest ms i
same_tokens p a ss us rest ls ms b i e g = rw e g

-- ---- places that stand in no expression

-- A place that is written begins with its name; what is behind that is read, or refused by a limit.
pub record BeginsPlace (i : Input) (wanted : DeclKind) (ss : List Spot) (t : Target) : Type 0 where
  pub first : Spot
  pub behind : List Spot
  pub is : ss ≡ first ∷ behind
  pub token : first.token ≡ Name
  pub slot : Slot
  pub declared : slot_in i.decls first.text ≡ Some slot
  pub kind : slot.kind ≡ wanted
  pub reads : (ls : List ℕ) (b : ℕ) (rest : List Spot) → GivesOrLimited (index_outside (place_of_slot slot) slot.size (on (behind ++ rest) ls b i)) t rest ls i

part_limited : (p : Place) (o : Option ℕ) (a z : Spot) (ss rest : List Spot) (t : Term) (ls : List ℕ) (b : ℕ) (i : Input) → is_some o ≡ true
    → a.token ≡ Is m.SquareOpen → WrittenTerm i.decls 5 ss t → z.token ≡ Is m.SquareClose
    → GivesOrLimited (index_outside p o (on (a ∷ (ss ++ (z ∷ rest))) ls b i)) (record { place = p; index = Some t }) rest ls i
part_limited p None a z ss rest t ls b i h ha w hz = absurd (cc)
part_limited p (Some n) a z ss rest t ls b i h ha w hz =
    step_limited _ _ _ _ _ _ _ (expect_on m.SquareOpen a (ss ++ (z ∷ rest)) ls b i ha)
    (then_limited _ _ _ _ _ _ _ _ _ (expression_limited ss (z ∷ rest) t ls b i w (symbol_stops 5 z rest (Is m.SquareClose) hz refl))
    (λ c. step_limited _ _ _ _ _ _ _ (expect_on m.SquareClose z rest ls c i hz) (given (record { place = p; index = Some t }) rest ls c i)))

same_place : (p q : Place) (o : Option ℕ) (t : Target) (ss us rest : List Spot) (ls : List ℕ) (b : ℕ) (i : Input) → p ≡ q → ss ≡ us
    → GivesOrLimited (index_outside q o (on us ls b i)) t rest ls i → GivesOrLimited (index_outside p o (on ss ls b i)) t rest ls i
same_place p q o t ss us rest ls b i d e g = rw (d, e) g

pub begins_place : (i : Input) (kind : DeclKind) (ss : List Spot) (t : Target) → WrittenTarget i.decls kind ss t → BeginsPlace i kind ss t
begins_place i kind _ _ (whole s p n) = record {
  first = s;
  behind = [];
  is = refl;
  token = n.token;
  slot = n.slot;
  declared = n.declared;
  kind = n.kind;
  reads = λ ls b rest. same_place (place_of_slot n.slot) p n.slot.size (record { place = p; index = None }) rest rest rest ls b i n.place refl
      (inl (record { left = b; is = whole_on p n.slot.size rest ls b i n.size }));
}
begins_place i kind _ _ (part s a z ss p t n ha w hz) = record {
  first = s;
  behind = a ∷ ss ++ z ∷ [];
  is = refl;
  token = n.token;
  slot = n.slot;
  declared = n.declared;
  kind = n.kind;
  reads = λ ls b rest. same_place (place_of_slot n.slot) p n.slot.size (record { place = p; index = Some t }) _ (a ∷ (ss ++ (z ∷ rest))) rest ls b i n.place (simp append_assoc)
      (part_limited p n.slot.size a z ss rest t ls b i n.size ha w hz);
}

target_limited : (kind : DeclKind) (s : Spot) (slot : Slot) (ss rest : List Spot) (t : Target) (ls : List ℕ) (b : ℕ) (i : Input) → slot_in i.decls s.text ≡ Some slot → slot.kind ≡ kind
    → GivesOrLimited (index_outside (place_of_slot slot) slot.size (on ss ls b i)) t rest ls i → GivesOrLimited (target kind (on (s ∷ ss) ls b i)) t rest ls i
unfolding target advanced
target_limited kind s slot ss rest t ls b i d k g = step_limited _ _ _ _ _ _ _ (seek_on kind s slot ss ls b i d k) g

pub statement_place_limited : (kind : DeclKind) (ss rest : List Spot) (t : Target) (ls : List ℕ) (b : ℕ) (i : Input) → WrittenTarget i.decls kind ss t → GivesOrLimited (statement_place kind (on (ss ++ rest) ls b i)) t rest ls i
statement_place_limited kind ss rest t ls b i w =
    let x = begins_place i kind ss t w in
    same_tokens (statement_place kind) t (ss ++ rest) (x.first ∷ (x.behind ++ rest)) rest ls ls b i (ap (λ r. r ++ rest) x.is)
    (same_limited _ _ t rest ls i (statement_place_as kind x.first (x.behind ++ rest) ls b i x.token)
    (target_limited kind x.first x.slot (x.behind ++ rest) rest t ls b i x.declared x.kind (x.reads ls b rest)))

-- ---- a source

value_limited : (ss us : List Spot) (t : Term) (ls : List ℕ) (b : ℕ) (i : Input) → is_symbol m.Any (token_of ss) ≡ false → GivesOrLimited (expression (on ss ls b i)) t us ls i
    → GivesOrLimited (source (on ss ls b i)) (Some t) us ls i
unfolding source sees after token
value_limited ss us t ls b i h g = rw h (then_limited _ _ _ _ _ _ _ _ _ g (λ c. given (Some t) us ls c i))

source_limited : (o : Option Term) (ss us : List Spot) (ls : List ℕ) (b : ℕ) (i : Input) → WrittenPart i.decls ss (source_part o) → Stops 5 us → GivesOrLimited (source (on (ss ++ us) ls b i)) o us ls i
source_limited None _ us ls b i (by_symbol s _ h) x = inl (record { left = b; is = any_on s us ls b i (symbol_seen m.Any s h) })
source_limited (Some e) _ us ls b i (by_term ss _ w) x = value_limited (ss ++ us) us e ls b i (term_is_other i.decls 5 ss e w us) (expression_limited ss us e ls b i w x)

-- ---- a status

present_limited : (s : Spot) (ss us vs : List Spot) (p q : Target) (ls : List ℕ) (b : ℕ) (i : Input) → is_symbol m.Status s.token ≡ true → GivesOrLimited (statement_place Variable (on ss ls b i)) p us ls i
    → ((c : ℕ) → GivesOrLimited (statement_place Variable (on us ls c i)) q vs ls i) → GivesOrLimited (status (on (s ∷ ss) ls b i)) (Some (status_of p q)) vs ls i
unfolding status sees after token advanced
present_limited s ss us vs p q ls b i h g k =
    rw h (then_limited _ _ _ _ _ _ _ _ _ g (λ c. then_limited _ _ _ _ _ _ _ _ _ (k c) (λ d. given (Some (status_of p q)) vs ls d i)))

-- the first place of a status, whose tokens are joined with those of the second and of the parts behind it
first_limited : (ts vs rs us : List Spot) (p : Target) (ls : List ℕ) (b : ℕ) (i : Input) → WrittenTarget i.decls Variable ts p
    → GivesOrLimited (statement_place Variable (on (ts ++ (vs ++ rs) ++ us) ls b i)) p (vs ++ (rs ++ us)) ls i
first_limited ts vs rs us p ls b i w =
    same_tokens (statement_place Variable) p (ts ++ (vs ++ rs) ++ us) (ts ++ (vs ++ (rs ++ us))) (vs ++ (rs ++ us)) ls ls b i (append_assoc ts (vs ++ rs) us ∙ ap (λ r. ts ++ r) (append_assoc vs rs us))
    (statement_place_limited Variable ts (vs ++ (rs ++ us)) p ls b i w)

-- a status was read, and the other parts are still to come
record StatusLimited (o : Option StatusStmt) (ps : List Part) (ss us : List Spot) (ls : List ℕ) (b : ℕ) (i : Input) : Type 0 where
  others : List Spot
  written : WrittenParts i.decls others ps
  gives : GivesOrLimited (status (on (ss ++ us) ls b i)) o (others ++ us) ls i

status_limited : (o : Option StatusStmt) (ps : List Part) (ss us : List Spot) (ls : List ℕ) (b : ℕ) (i : Input) → WrittenParts i.decls ss (status_parts o ps)
    → ((rs : List Spot) → WrittenParts i.decls rs ps → is_symbol m.Status (token_of (rs ++ us)) ≡ false) → StatusLimited o ps ss us ls b i
status_limited None ps ss us ls b i w ends = record { others = ss; written = w; gives = inl (record { left = b; is = absent_on (ss ++ us) ls b i (ends ss w) }) }
status_limited (Some c) ps _ us ls b i (then_part _ _ _ _ (by_symbol s _ h) (then_part ts _ _ _ (by_target _ _ _ x) (then_part vs rs _ _ (by_target _ _ _ y) w))) ends = record {
  others = rs;
  written = w;
  gives = present_limited s (ts ++ (vs ++ rs) ++ us) (vs ++ (rs ++ us)) (rs ++ us) c.source c.tag ls b i (symbol_seen m.Status s h) (first_limited ts vs rs us c.source ls b i x)
      (λ d. statement_place_limited Variable vs (rs ++ us) c.tag ls d i y);
}

-- ---- all parts, and the `;` behind them

pub fill_limited : {A : Type 0} (hs : List Hole) (made : Contents hs → A) (c : Contents hs) (ss : List Spot) (end : Spot) (rest : List Spot) (ls : List ℕ) (b : ℕ) (i : Input) → AreClear hs
    → WrittenParts i.decls ss (filled hs c) → end.token ≡ Is m.Semicolon → GivesOrLimited (fill hs made (on (ss ++ (end ∷ rest)) ls b i)) (made c) rest ls i
fill_limited [] made c _ end rest ls b i p no_part e = step_limited _ _ _ _ _ _ _ (expect_on m.Semicolon end rest ls b i e) (given (made c) rest ls b i)
fill_limited (symbol_hole k ∷ hs) made c _ end rest ls b i p (then_part _ rs _ _ (by_symbol s _ x) w) e =
    step_limited _ _ _ _ _ _ _ (expect_on k s (rs ++ (end ∷ rest)) ls b i x) (fill_limited hs made c rs end rest ls b i p w e)
fill_limited (term_hole ∷ hs) made c _ end rest ls b i p (then_part ss rs _ _ (by_term _ _ x) w) e =
    same_tokens (fill (term_hole ∷ hs) made) (made c) (ss ++ rs ++ (end ∷ rest)) (ss ++ (rs ++ (end ∷ rest))) rest ls ls b i (append_assoc ss rs (end ∷ rest))
    (then_limited _ _ _ _ _ _ _ _ _ (expression_limited ss (rs ++ (end ∷ rest)) c.0 ls b i x (holes_stop i.decls hs c.1 rs end rest p.0 w e))
    (λ n. fill_limited hs (λ d. made (c.0, d)) c.1 rs end rest ls n i p.1 w e))
fill_limited (target_hole kind ∷ hs) made c _ end rest ls b i p (then_part ss rs _ _ (by_target _ _ _ x) w) e =
    same_tokens (fill (target_hole kind ∷ hs) made) (made c) (ss ++ rs ++ (end ∷ rest)) (ss ++ (rs ++ (end ∷ rest))) rest ls ls b i (append_assoc ss rs (end ∷ rest))
    (then_limited _ _ _ _ _ _ _ _ _ (statement_place_limited kind ss (rs ++ (end ∷ rest)) c.0 ls b i x)
    (λ n. fill_limited hs (λ d. made (c.0, d)) c.1 rs end rest ls n i p w e))
fill_limited (name_hole kind ∷ hs) made c _ end rest ls b i p (then_part _ rs _ _ (by_name s _ is_array _ n) w) e =
    step_limited _ _ _ _ _ _ _ (statement_name_on kind s is_array c.0 (rs ++ (end ∷ rest)) ls b i n) (fill_limited hs (λ d. made (c.0, d)) c.1 rs end rest ls b i p w e)
fill_limited (source_hole ∷ hs) made c _ end rest ls b i p (then_part ss rs _ _ x w) e =
    same_tokens (fill (source_hole ∷ hs) made) (made c) (ss ++ rs ++ (end ∷ rest)) (ss ++ (rs ++ (end ∷ rest))) rest ls ls b i (append_assoc ss rs (end ∷ rest))
    (then_limited _ _ _ _ _ _ _ _ _ (source_limited c.0 ss (rs ++ (end ∷ rest)) ls b i x (holes_stop i.decls hs c.1 rs end rest p.0 w e))
    (λ n. fill_limited hs (λ d. made (c.0, d)) c.1 rs end rest ls n i p.1 w e))
fill_limited (status_hole ∷ hs) made c ss end rest ls b i p w e =
    let n = status_limited c.0 (filled hs c.1) ss (end ∷ rest) ls b i w (λ rs x. no_status i.decls hs c.1 rs end rest p.0 x e) in
    then_limited _ _ _ _ _ _ _ _ _ n.gives (λ d. fill_limited hs (λ x. made (c.0, x)) c.1 n.others end rest ls d i p.1 n.written e)
