-- What stands before a fault in a part of a statement can be completed, where what the statement names is declared.
use Rattle.std.proofs.Common.{◌≡◌, ℕ, Bool, true, false, cond, List, [], ◌∷◌, ◌++◌, Option, Some, None, is_some, refl, ap, subst, ◌∙◌, append_assoc, sym}
use Rattle.mpd_model.specs.declared.place.DeclKind.{DeclKind}
use Rattle.mpd_model.specs.declared.place.DeclKind.TheVariants.{Variable}
use Rattle.mpd_model.specs.declared.place.Place.{Place}
use Rattle.mpd_model.specs.declared.slot.Slot.{Slot}
use Rattle.mpd_model.specs.declared.stmt.StatusStmt.{StatusStmt}
use Rattle.mpd_model.specs.declared.token.Symbol.{Symbol}
use Rattle.mpd_model.specs.declared.token.Symbol.TheVariants as m
use Rattle.mpd_model.specs.declared.token.Token.{Token}
use Rattle.mpd_model.specs.declared.token.Token.TheVariants.{Name, Is}
use Rattle.mpd_model.specs.script.Declaration.{Declared}
use Rattle.mpd_model.specs.grammar.Grammar.{declares, place_of_slot, expression, index_outside, target, statement_place_by, statement_place, statement_name_by, statement_name, source_by, source, status_by, status, fill}
use Rattle.mpd_model.specs.grammar.Input.{Input, token, spelling, advanced, slot_in, sees, after, expect, pure, ◌>>=◌}
use Rattle.mpd_model.specs.script.Parts.{Part, of_symbol, of_term, of_target, of_name, Hole, symbol_hole, term_hole, target_hole, name_hole, source_hole, status_hole, source_part, status_parts, Contents, filled}
use Rattle.mpd_model.specs.script.Term.{Term, Target}
use Rattle.mpd_model.specs.grammar.Tokens.{Spot}
use Rattle.mpd_model.specs.grammar.Written.{Names, WrittenTarget, whole, part, WrittenPart, by_symbol, by_term, by_target, by_name, WrittenParts, no_part, then_part}
use Rattle.mpd_meaning.specs.PrefixLaws.{names}
use Rattle.mpd_laws.proofs.sound.Sound.{sees_is}
use Rattle.mpd_meaning.proofs.viable.Viable.{One, one, Seq, seq, HasToken, Default, both_default, Stops, IsViable, HoldsBehind, behind_spot, then_viable, stops_as, in_larger, refused_here, nothing_read, next_read, symbol_default, expect_viable, Found, seek_stops}
use Rattle.mpd_meaning.proofs.viable.ViableTerms.{AtLevel, some_term, expression_viable}

-- some place of the kind, some source, some status before other parts
abbrev pub SomeTarget : List Declared → DeclKind → List Spot → Type 0
SomeTarget ds kind ss = (t : Target) × WrittenTarget ds kind ss t

abbrev SomeName : List Declared → DeclKind → List Spot → Type 0
SomeName ds kind ss = (p : Place) × WrittenPart ds ss (of_name kind p)

abbrev SomeSource : List Declared → List Spot → Type 0
SomeSource ds ss = (o : Option Term) × WrittenPart ds ss (source_part o)

abbrev SomeStatus : List Declared → List Spot → Type 0
SomeStatus ds ss = (o : Option StatusStmt) × ((ps : List Part) (rs : List Spot) → WrittenParts ds rs ps → WrittenParts ds (ss ++ rs) (status_parts o ps))

-- what fills the holes, and the `;` behind
pub data Fills (ds : List Declared) (hs : List Hole) : List Spot → Type 0 where
  fills : (ss : List Spot) (end : Spot) (c : Contents hs) → WrittenParts ds ss (filled hs c) → end.token ≡ Is m.Semicolon → Fills ds hs (ss ++ end ∷ [])

-- ---- what is written, from its parts

index_in : (ds : List Declared) (kind : DeclKind) (s : Spot) (p : Place) → Names ds kind s true p → (ss : List Spot)
    → Seq (One (HasToken (Is m.SquareOpen))) (Seq (AtLevel ds 5) (One (HasToken (Is m.SquareClose)))) ss → SomeTarget ds kind (s ∷ ss)
index_in ds kind s p n _ (seq _ _ (one a ha) (seq _ _ w (one b hb))) = (record { place = p; index = Some w.0 }, part s a b _ p w.0 n ha w.1 hb)

status_in : (ds : List Declared) (s : Spot) → s.token ≡ Is m.Status → (ss : List Spot) → Seq (SomeTarget ds Variable) (SomeTarget ds Variable) ss → SomeStatus ds (s ∷ ss)
status_in ds s h _ (seq us vs a b) = (
  Some (record { source = a.0; tag = b.0 }),
  λ ps rs w.
      subst (λ x. WrittenParts ds (s ∷ x) (of_symbol m.Status ∷ of_target Variable a.0 ∷ of_target Variable b.0 ∷ ps)) (sym (append_assoc us vs rs))
      (then_part (s ∷ []) (us ++ (vs ++ rs)) (of_symbol m.Status) (of_target Variable a.0 ∷ of_target Variable b.0 ∷ ps) (by_symbol s m.Status h)
      (then_part us (vs ++ rs) (of_target Variable a.0) (of_target Variable b.0 ∷ ps) (by_target us Variable a.0 a.1)
      (then_part vs rs (of_target Variable b.0) ps (by_target vs Variable b.0 b.1) w))),
)

end_in : (ds : List Declared) (ss : List Spot) → One (HasToken (Is m.Semicolon)) ss → Fills ds [] ss
end_in ds _ (one s h) = fills [] s tt no_part h

-- one part before the others
part_in : (ds : List Declared) (hs gs : List Hole) (us ss : List Spot) (end : Spot) (p : Part) (ps : List Part) (c : Contents gs) → filled gs c ≡ p ∷ ps → WrittenPart ds us p → WrittenParts ds ss ps
    → end.token ≡ Is m.Semicolon → Fills ds gs (us ++ (ss ++ end ∷ []))
part_in ds hs gs us ss end p ps c e v w z =
    subst (Fills ds gs) (append_assoc us ss (end ∷ [])) (fills (us ++ ss) end c (subst (WrittenParts ds (us ++ ss)) (sym e) (then_part us ss p ps v w)) z)

symbol_in : (ds : List Declared) (k : Symbol) (hs : List Hole) (ss : List Spot) → Seq (One (HasToken (Is k))) (Fills ds hs) ss → Fills ds (symbol_hole k ∷ hs) ss
symbol_in ds k hs _ (seq _ _ (one s h) (fills ss end c w z)) = part_in ds hs (symbol_hole k ∷ hs) (s ∷ []) ss end (of_symbol k) (filled hs c) c refl (by_symbol s k h) w z

term_in : (ds : List Declared) (hs : List Hole) (ss : List Spot) → Seq (AtLevel ds 5) (Fills ds hs) ss → Fills ds (term_hole ∷ hs) ss
term_in ds hs _ (seq us _ t (fills ss end c w z)) = part_in ds hs (term_hole ∷ hs) us ss end (of_term t.0) (filled hs c) (t.0, c) refl (by_term us t.0 t.1) w z

target_in : (ds : List Declared) (kind : DeclKind) (hs : List Hole) (ss : List Spot) → Seq (SomeTarget ds kind) (Fills ds hs) ss → Fills ds (target_hole kind ∷ hs) ss
target_in ds kind hs _ (seq us _ t (fills ss end c w z)) =
    part_in ds hs (target_hole kind ∷ hs) us ss end (of_target kind t.0) (filled hs c) (t.0, c) refl (by_target us kind t.0 t.1) w z

name_in : (ds : List Declared) (kind : DeclKind) (hs : List Hole) (ss : List Spot) → Seq (SomeName ds kind) (Fills ds hs) ss → Fills ds (name_hole kind ∷ hs) ss
name_in ds kind hs _ (seq us _ t (fills ss end c w z)) = part_in ds hs (name_hole kind ∷ hs) us ss end (of_name kind t.0) (filled hs c) (t.0, c) refl t.1 w z

source_in : (ds : List Declared) (hs : List Hole) (ss : List Spot) → Seq (SomeSource ds) (Fills ds hs) ss → Fills ds (source_hole ∷ hs) ss
source_in ds hs _ (seq us _ t (fills ss end c w z)) = part_in ds hs (source_hole ∷ hs) us ss end (source_part t.0) (filled hs c) (t.0, c) refl t.1 w z

statuses_in : (ds : List Declared) (hs : List Hole) (ss : List Spot) → Seq (SomeStatus ds) (Fills ds hs) ss → Fills ds (status_hole ∷ hs) ss
statuses_in ds hs _ (seq us _ t (fills ss end c w z)) =
    subst (Fills ds (status_hole ∷ hs)) (append_assoc us ss (end ∷ [])) (fills (us ++ ss) end (t.0, c) (t.1 (filled hs c) ss w) z)

-- ---- holes behind a word

-- The word's statement names what stands in them, and their symbols begin no declaration.
abbrev pub Suits : Token → List Hole → Type 0
Suits t [] = Unit {0}
Suits t (symbol_hole k ∷ hs) = (declares (Is k) ≡ None) × Suits t hs
Suits t (term_hole ∷ hs) = Suits t hs
Suits t (target_hole kind ∷ hs) = (names kind t ≡ true) × Suits t hs
Suits t (name_hole kind ∷ hs) = (names kind t ≡ true) × Suits t hs
Suits t (source_hole ∷ hs) = Suits t hs
Suits t (status_hole ∷ hs) = (names Variable t ≡ true) × Suits t hs

-- what a statement of the word names is declared
abbrev pub IsServed : List Declared → Token → Type 0
IsServed ds t = (kind : DeclKind) → names kind t ≡ true → Default (SomeTarget ds kind)

-- what can be named with an index can be named without
named_alone : (ds : List Declared) (kind : DeclKind) (ss : List Spot) (t : Target) → WrittenTarget ds kind ss t → Default (SomeName ds kind)
named_alone ds kind _ _ (whole s p n) = record { tokens = s ∷ []; written = (p, by_name s kind false p n) }
named_alone ds kind _ _ (part s a b ss p t n ha w hb) = record { tokens = s ∷ []; written = (p, by_name s kind true p n) }

name_default : (ds : List Declared) (kind : DeclKind) → Default (SomeTarget ds kind) → Default (SomeName ds kind)
name_default ds kind d = named_alone ds kind d.tokens d.written.0 d.written.1

no_status_default : (ds : List Declared) → Default (SomeStatus ds)
no_status_default ds = record { tokens = []; written = (None, λ ps rs w. w) }

source_default : (ds : List Declared) → Default (SomeSource ds)
source_default ds = let d = some_term ds 5 in record { tokens = d.tokens; written = (Some d.written.0, by_term d.tokens d.written.0 d.written.1) }

joined : (L M N : List Spot → Type 0) → ((ss : List Spot) → Seq L M ss → N ss) → Default L → Default M → Default N
joined L M N join d e = let x = both_default L M d e in record { tokens = x.tokens; written = join x.tokens x.written }

pub fills_default : (ds : List Declared) (t : Token) (hs : List Hole) → Suits t hs → IsServed ds t → Default (Fills ds hs)
fills_default ds t [] h s = let d = symbol_default m.Semicolon in record { tokens = d.tokens; written = end_in ds d.tokens d.written }
fills_default ds t (symbol_hole k ∷ hs) h s = joined _ _ _ (symbol_in ds k hs) (symbol_default k) (fills_default ds t hs h.1 s)
fills_default ds t (term_hole ∷ hs) h s = joined _ _ _ (term_in ds hs) (some_term ds 5) (fills_default ds t hs h s)
fills_default ds t (target_hole kind ∷ hs) h s = joined _ _ _ (target_in ds kind hs) (s kind h.0) (fills_default ds t hs h.1 s)
fills_default ds t (name_hole kind ∷ hs) h s = joined _ _ _ (name_in ds kind hs) (name_default ds kind (s kind h.0)) (fills_default ds t hs h.1 s)
fills_default ds t (source_hole ∷ hs) h s = joined _ _ _ (source_in ds hs) (source_default ds) (fills_default ds t hs h s)
fills_default ds t (status_hole ∷ hs) h s = joined _ _ _ (statuses_in ds hs) (no_status_default ds) (fills_default ds t hs h.1 s)

-- ---- parsers of parts

module _ (ds : List Declared) (C : List Spot → Type 0) (less : HoldsBehind C) where
  closed_default : Default (Seq (AtLevel ds 5) (One (HasToken (Is m.SquareClose))))
  closed_default = both_default (AtLevel ds 5) (One (HasToken (Is m.SquareClose))) (some_term ds 5) (symbol_default m.SquareClose)

  closed_viable : {A : Type 0} (f : Term → A) → IsViable ds C (Seq (AtLevel ds 5) (One (HasToken (Is m.SquareClose)))) (expression >>= λ t. expect m.SquareClose >>= λ x. pure (f t))
  closed_viable f =
      then_viable ds C (AtLevel ds 5) (One (HasToken (Is m.SquareClose))) expression _ less (expression_viable ds C less)
      (λ t i e. stops_as C (One (HasToken (Is m.SquareClose))) (One (HasToken (Is m.SquareClose))) i (expect m.SquareClose i) (λ x. f t) (λ ss w. w) (expect_viable ds C m.SquareClose refl i e))
      (λ us c. symbol_default m.SquareClose)

  pub index_viable : (kind : DeclKind) (s : Spot) (at : Place) (cells : Option ℕ) → ((is_array : Bool) → is_some cells ≡ is_array → Names ds kind s is_array at)
      → IsViable ds C (λ ss. SomeTarget ds kind (s ∷ ss)) (index_outside at cells)
  index_viable kind s at None n i e = nothing_read (λ ss. SomeTarget ds kind (s ∷ ss)) i (record { place = at; index = None }, whole s at (n false refl))
  index_viable kind s at (Some cells) n i e =
      in_larger C (Seq (One (HasToken (Is m.SquareOpen))) (Seq (AtLevel ds 5) (One (HasToken (Is m.SquareClose))))) (λ ss. SomeTarget ds kind (s ∷ ss)) i _ (index_in ds kind s at (n true refl))
      (then_viable ds C (One (HasToken (Is m.SquareOpen))) (Seq (AtLevel ds 5) (One (HasToken (Is m.SquareClose)))) (expect m.SquareOpen) _ less (expect_viable ds C m.SquareOpen refl)
      (λ x. closed_viable (λ t. record { place = at; index = Some t })) (λ us c. closed_default) i e)

  target_case : (kind : DeclKind) (i : Input) → i.decls ≡ ds → token i ≡ Name → (t : Slot) → Found ds kind (spelling i) t
      → Stops C (SomeTarget ds kind) i (index_outside (place_of_slot t) t.size (advanced i))
  unfolding advanced
  target_case kind i e is t found =
      behind_spot C (λ s. C) (SomeTarget ds kind) i (advanced i) Name is (λ x. absurd (cc)) refl refl refl refl _ (λ s ts x c. less (s ∷ []) ts c)
      (λ s a b. index_viable kind s (place_of_slot t) t.size
      (λ is_array size_is. record { token = a; slot = t; declared = ap (slot_in ds) b ∙ found.0; kind = found.1; size = size_is; place = refl })
      (advanced i) e)

  target_stops : (kind : DeclKind) → ((us : List Spot) → C us → Default (SomeTarget ds kind)) → (i : Input) → i.decls ≡ ds → token i ≡ Name → Stops C (SomeTarget ds kind) i (target kind i)
  unfolding target
  target_stops kind d i e is = seek_stops ds C (SomeTarget ds kind) kind _ i e (λ t found. target_case kind i e is t found) (d [])

  statement_place_case : (kind : DeclKind) → ((us : List Spot) → C us → Default (SomeTarget ds kind)) → (t : Token) (i : Input) → i.decls ≡ ds → token i ≡ t
      → Stops C (SomeTarget ds kind) i (statement_place_by kind t i)
  statement_place_case kind d Name i e is = target_stops kind d i e is
  statement_place_case kind d _ i e is = refused_here C (SomeTarget ds kind) i (d [])

  statement_place_viable : (kind : DeclKind) → ((us : List Spot) → C us → Default (SomeTarget ds kind)) → IsViable ds C (SomeTarget ds kind) (statement_place kind)
  unfolding statement_place
  statement_place_viable kind d i e = statement_place_case kind d (token i) i e refl

  name_stops : (kind : DeclKind) → ((us : List Spot) → C us → Default (SomeName ds kind)) → (t : Token) (i : Input) → i.decls ≡ ds → token i ≡ t → Stops C (SomeName ds kind) i (statement_name_by kind t i)
  name_stops kind d Name i e is =
      seek_stops ds C (SomeName ds kind) kind _ i e
      (λ t found. next_read (SomeName ds kind) i Name is (λ x. absurd (cc)) refl
      (λ s a b. (
        place_of_slot t,
        by_name s kind (is_some t.size) (place_of_slot t) (record { token = a; slot = t; declared = ap (slot_in ds) b ∙ found.0; kind = found.1; size = refl; place = refl }),
      )))
      (d [])
  name_stops kind d _ i e is = refused_here C (SomeName ds kind) i (d [])

  statement_name_viable : (kind : DeclKind) → ((us : List Spot) → C us → Default (SomeName ds kind)) → IsViable ds C (SomeName ds kind) (statement_name kind)
  unfolding statement_name
  statement_name_viable kind d i e = name_stops kind d (token i) i e refl

  source_case : (c : Bool) (i : Input) → i.decls ≡ ds → sees m.Any i ≡ c → Stops C (SomeSource ds) i (source_by c (cond c (advanced i) i))
  source_case true i e is = next_read (SomeSource ds) i (Is m.Any) (sees_is m.Any i is) (λ x. absurd (cc)) refl (λ s h g. (None, by_symbol s m.Any h))
  source_case false i e is = stops_as C (AtLevel ds 5) (SomeSource ds) i (expression i) (λ t. Some t) (λ ss w. (Some w.0, by_term ss w.0 w.1)) (expression_viable ds C less i e)

  source_viable : IsViable ds C (SomeSource ds) source
  unfolding source after
  source_viable i e = source_case (sees m.Any i) i e refl

  status_case : ((us : List Spot) → C us → Default (SomeTarget ds Variable)) → (c : Bool) (i : Input) → i.decls ≡ ds → sees m.Status i ≡ c → Stops C (SomeStatus ds) i (status_by c (cond c (advanced i) i))
  unfolding advanced
  status_case d true i e is =
      behind_spot C (λ s. C) (SomeStatus ds) i (advanced i) (Is m.Status) (sees_is m.Status i is) (λ x. absurd (cc)) refl refl refl refl _ (λ s ts x c. less (s ∷ []) ts c)
      (λ s a b. in_larger C (Seq (SomeTarget ds Variable) (SomeTarget ds Variable)) (λ ts. SomeStatus ds (s ∷ ts)) (advanced i) _ (status_in ds s a)
      (then_viable ds C (SomeTarget ds Variable) (SomeTarget ds Variable) (statement_place Variable) _ less (statement_place_viable Variable d)
      (λ p j f. stops_as C (SomeTarget ds Variable) (SomeTarget ds Variable) j (statement_place Variable j) (λ q. Some (record { source = p; tag = q })) (λ ss w. w) (statement_place_viable Variable d j f))
      d (advanced i) e))
  status_case d false i e is = nothing_read (SomeStatus ds) i (None, λ ps rs w. w)

  status_viable : ((us : List Spot) → C us → Default (SomeTarget ds Variable)) → IsViable ds C (SomeStatus ds) status
  unfolding status after
  status_viable d i e = status_case d (sees m.Status i) i e refl

  pub fill_viable : {A : Type 0} (t : Token) (hs : List Hole) (made : Contents hs → A) → Suits t hs → ((us : List Spot) → C us → IsServed ds t) → IsViable ds C (Fills ds hs) (fill hs made)
  fill_viable t [] made h s i e = stops_as C (One (HasToken (Is m.Semicolon))) (Fills ds []) i (expect m.Semicolon i) (λ x. made tt) (end_in ds) (expect_viable ds C m.Semicolon refl i e)
  fill_viable t (symbol_hole k ∷ hs) made h s i e =
      in_larger C (Seq (One (HasToken (Is k))) (Fills ds hs)) (Fills ds (symbol_hole k ∷ hs)) i _ (symbol_in ds k hs)
      (then_viable ds C (One (HasToken (Is k))) (Fills ds hs) (expect k) _ less (expect_viable ds C k h.0) (λ x. fill_viable t hs made h.1 s) (λ us c. fills_default ds t hs h.1 (s us c)) i e)
  fill_viable t (term_hole ∷ hs) made h s i e =
      in_larger C (Seq (AtLevel ds 5) (Fills ds hs)) (Fills ds (term_hole ∷ hs)) i _ (term_in ds hs)
      (then_viable ds C (AtLevel ds 5) (Fills ds hs) expression _ less (expression_viable ds C less) (λ x. fill_viable t hs (λ c. made (x, c)) h s) (λ us c. fills_default ds t hs h (s us c)) i e)
  fill_viable t (target_hole kind ∷ hs) made h s i e =
      in_larger C (Seq (SomeTarget ds kind) (Fills ds hs)) (Fills ds (target_hole kind ∷ hs)) i _ (target_in ds kind hs)
      (then_viable ds C (SomeTarget ds kind) (Fills ds hs) (statement_place kind) _ less (statement_place_viable kind (λ us c. s us c kind h.0)) (λ x. fill_viable t hs (λ c. made (x, c)) h.1 s)
      (λ us c. fills_default ds t hs h.1 (s us c)) i e)
  fill_viable t (name_hole kind ∷ hs) made h s i e =
      in_larger C (Seq (SomeName ds kind) (Fills ds hs)) (Fills ds (name_hole kind ∷ hs)) i _ (name_in ds kind hs)
      (then_viable ds C (SomeName ds kind) (Fills ds hs) (statement_name kind) _ less (statement_name_viable kind (λ us c. name_default ds kind (s us c kind h.0))) (λ x. fill_viable t hs (λ c. made (x, c)) h.1 s)
      (λ us c. fills_default ds t hs h.1 (s us c)) i e)
  fill_viable t (source_hole ∷ hs) made h s i e =
      in_larger C (Seq (SomeSource ds) (Fills ds hs)) (Fills ds (source_hole ∷ hs)) i _ (source_in ds hs)
      (then_viable ds C (SomeSource ds) (Fills ds hs) source _ less source_viable (λ x. fill_viable t hs (λ c. made (x, c)) h s) (λ us c. fills_default ds t hs h (s us c)) i e)
  fill_viable t (status_hole ∷ hs) made h s i e =
      in_larger C (Seq (SomeStatus ds) (Fills ds hs)) (Fills ds (status_hole ∷ hs)) i _ (statuses_in ds hs)
      (then_viable ds C (SomeStatus ds) (Fills ds hs) status _ less (status_viable (λ us c. s us c Variable h.0)) (λ x. fill_viable t hs (λ c. made (x, c)) h.1 s)
      (λ us c. fills_default ds t hs h.1 (s us c)) i e)
