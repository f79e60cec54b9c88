-- What stands before a fault of a parser can be completed: the steps that every rule is made of.
use Rattle.std.proofs.Common.{◌≡◌, ◌≢◌, ℕ, ◌==◌, Bool, true, false, cond, List, [], ◌∷◌, ◌++◌, Option, Some, None, Ok, Err, refl, ap, sym, subst, ◌∙◌, append_assoc}
use Rattle.mpd_model.specs.declared.place.DeclKind.{DeclKind}
use Rattle.mpd_model.specs.declared.place.DeclKind.TheVariants.{Variable, Handle}
use Rattle.mpd_model.specs.declared.read_fault.FaultCode.{FaultCode}
use Rattle.mpd_model.specs.declared.read_fault.FaultCode.TheVariants.{UnknownName, TooDeep}
use Rattle.mpd_model.specs.declared.read_fault.ReadFault.{ReadFault}
use Rattle.mpd_model.specs.declared.slot.Slot.{Slot}
use Rattle.mpd_model.specs.declared.token.Symbol.{Symbol}
use Rattle.mpd_model.specs.declared.token.Token.{Token}
use Rattle.mpd_model.specs.declared.token.Token.TheVariants.{Is, End}
use Rattle.mpd_model.specs.script.Declaration.{Declared}
use Rattle.mpd_model.specs.grammar.Faults.{fault}
use Rattle.mpd_model.specs.grammar.Grammar.{declares}
use Rattle.mpd_model.specs.grammar.Input.{Input, Outcome, Parser, and_then, token, place_of, spelling, place, advanced, behind, fail, refusal, sees, expect, spend, same_kind, sought, seek, slot_in, ◌>>=◌}
use Rattle.mpd_model.specs.grammar.Tokens.{Spot}
use Rattle.mpd_laws.proofs.sound.Sound.{first_spot, sees_is}

-- ---- languages: sets of lists of tokens

pub data One (P : Spot → Type 0) : List Spot → Type 0 where
  one : (s : Spot) → P s → One P (s ∷ [])

pub data Seq (L M : List Spot → Type 0) : List Spot → Type 0 where
  seq : (us ts : List Spot) → L us → M ts → Seq L M (us ++ ts)

abbrev pub HasToken : Token → Spot → Type 0
HasToken t s = s.token ≡ t

pub record Default (L : List Spot → Type 0) : Type 0 where
  pub tokens : List Spot
  pub written : L tokens

pub both_default : (L M : List Spot → Type 0) → Default L → Default M → Default (Seq L M)
both_default L M d e = record { tokens = d.tokens ++ e.tokens; written = seq d.tokens e.tokens d.written e.written }

-- these tokens can be completed
pub record Goes (L : List Spot → Type 0) (used : List Spot) : Type 0 where
  pub more : List Spot
  pub written : L (used ++ more)

-- none of the tokens begins a declaration
abbrev pub AllPlain : List Spot → Type 0
AllPlain [] = Unit {0}
AllPlain (s ∷ ss) = (declares s.token ≡ None) × AllPlain ss

pub plain_both : (us ts : List Spot) → AllPlain us → AllPlain ts → AllPlain (us ++ ts)
plain_both [] ts h k = k
plain_both (s ∷ us) ts h k = (h.0, plain_both us ts h.1 k)

-- ---- what a parser has read, and where it stops

pub record Reads (L : List Spot → Type 0) (i j : Input) : Type 0 where
  pub used : List Spot
  pub is : i.tokens ≡ used ++ j.tokens
  pub decls : j.decls ≡ i.decls
  pub end : j.end ≡ i.end
  pub plain : AllPlain used
  pub written : L used

-- What stands before the fault can be completed under a condition on it.
pub record Stuck (C L : List Spot → Type 0) (i : Input) (f : ReadFault) : Type 0 where
  pub used : List Spot
  pub rest : List Spot
  pub is : i.tokens ≡ used ++ rest
  pub at : f.place ≡ place_of i.end rest
  pub plain : AllPlain used
  pub go : C used → Goes L used

abbrev pub Stops : {A : Type 0} → (C L : List Spot → Type 0) → Input → Outcome A → Type 0
Stops C L i (Ok p) = Reads L i p.1
Stops C L i (Err f) = Stuck C L i f

abbrev pub IsViable : {A : Type 0} → List Declared → (C L : List Spot → Type 0) → Parser A → Type 0
IsViable ds C L p = (i : Input) → i.decls ≡ ds → Stops C L i (p i)

-- what is so of tokens is so of those behind some
abbrev pub HoldsBehind : (List Spot → Type 0) → Type 0
HoldsBehind C = (us ts : List Spot) → C (us ++ ts) → C ts

-- ---- one after another

pub goes_behind : (L M : List Spot → Type 0) (us ts : List Spot) → ((vs : List Spot) → M vs → L (us ++ vs)) → Goes M ts → Goes L (us ++ ts)
goes_behind L M us ts join g = record { more = g.more; written = subst L (sym (append_assoc us ts g.more)) (join (ts ++ g.more) g.written) }

-- behind what was read
pub behind_read : {B : Type 0} (C D L M N : List Spot → Type 0) (i j : Input) (r : Reads N i j) → ((ts : List Spot) → M ts → L (r.used ++ ts)) → ((ts : List Spot) → C (r.used ++ ts) → D ts)
    → (o : Outcome B) → Stops D M j o → Stops C L i o
behind_read C D L M N i j r join less (Ok p) h = record {
  used = r.used ++ h.used;
  is = r.is ∙ ap (λ ss. r.used ++ ss) h.is ∙ sym (append_assoc r.used h.used p.1.tokens);
  decls = h.decls ∙ r.decls;
  end = h.end ∙ r.end;
  plain = plain_both r.used h.used r.plain h.plain;
  written = join h.used h.written;
}
behind_read C D L M N i j r join less (Err f) h = record {
  used = r.used ++ h.used;
  rest = h.rest;
  is = r.is ∙ ap (λ ss. r.used ++ ss) h.is ∙ sym (append_assoc r.used h.used h.rest);
  at = h.at ∙ ap (λ e. place_of e h.rest) r.end;
  plain = plain_both r.used h.used r.plain h.plain;
  go = λ c. goes_behind L M r.used h.used join (h.go (less h.used c));
}

goes_first : (L M : List Spot → Type 0) (us : List Spot) → Goes L us → Default M → Goes (Seq L M) us
goes_first L M us g d = record {
  more = g.more ++ d.tokens;
  written = subst (Seq L M) (append_assoc us g.more d.tokens) (seq (us ++ g.more) d.tokens g.written d.written);
}

pub stops_then : {A B : Type 0} (ds : List Declared) (C L M : List Spot → Type 0) (i : Input) (o : Outcome A) (k : A → Parser B) → HoldsBehind C → Stops C L i o → i.decls ≡ ds
    → ((a : A) → IsViable ds C M (k a)) → ((us : List Spot) → C us → Default M) → Stops C (Seq L M) i (and_then o k)
stops_then ds C L M i (Ok p) k less h e next d =
    behind_read C C (Seq L M) M L i p.1 h (λ ts m. seq h.used ts h.written m) (less h.used) (k p.0 p.1) (next p.0 p.1 (h.decls ∙ e))
stops_then ds C L M i (Err f) k less h e next d = record {
  used = h.used;
  rest = h.rest;
  is = h.is;
  at = h.at;
  plain = h.plain;
  go = λ c. goes_first L M h.used (h.go c) (d h.used c);
}

pub then_viable : {A B : Type 0} (ds : List Declared) (C L M : List Spot → Type 0) (p : Parser A) (k : A → Parser B) → HoldsBehind C → IsViable ds C L p
    → ((a : A) → IsViable ds C M (k a)) → ((us : List Spot) → C us → Default M) → IsViable ds C (Seq L M) (p >>= k)
then_viable ds C L M p k less h next d i e = stops_then ds C L M i (p i) k less (h i e) e next d

-- with another value of what was read
pub stops_as : {A B : Type 0} (C L M : List Spot → Type 0) (i : Input) (o : Outcome A) (f : A → B) → ((ss : List Spot) → L ss → M ss) → Stops C L i o → Stops C M i (and_then o (λ a j. Ok (f a, j)))
stops_as C L M i (Ok p) f join h = record { used = h.used; is = h.is; decls = h.decls; end = h.end; plain = h.plain; written = join h.used h.written }
stops_as C L M i (Err g) f join h = record {
  used = h.used;
  rest = h.rest;
  is = h.is;
  at = h.at;
  plain = h.plain;
  go = λ c. let x = h.go c in record { more = x.more; written = join (h.used ++ x.more) x.written };
}

-- of a larger language
pub in_larger : {A : Type 0} (C L M : List Spot → Type 0) (i : Input) (o : Outcome A) → ((ss : List Spot) → L ss → M ss) → Stops C L i o → Stops C M i o
in_larger C L M i (Ok p) join h = record { used = h.used; is = h.is; decls = h.decls; end = h.end; plain = h.plain; written = join h.used h.written }
in_larger C L M i (Err g) join h = record {
  used = h.used;
  rest = h.rest;
  is = h.is;
  at = h.at;
  plain = h.plain;
  go = λ c. let x = h.go c in record { more = x.more; written = join (h.used ++ x.more) x.written };
}

-- under a stronger condition
pub under : {A : Type 0} (C D L : List Spot → Type 0) (i : Input) (o : Outcome A) → ((ss : List Spot) → D ss → C ss) → Stops C L i o → Stops D L i o
under C D L i (Ok p) weaker h = h
under C D L i (Err g) weaker h = record { used = h.used; rest = h.rest; is = h.is; at = h.at; plain = h.plain; go = λ c. h.go (weaker h.used c) }

-- ---- steps

pub stuck_here : (C L : List Spot → Type 0) (c : FaultCode) (i : Input) → (C [] → Default L) → Stuck C L i (fault c (place i))
unfolding place
stuck_here C L c i d = record { used = []; rest = i.tokens; is = refl; at = refl; plain = tt; go = λ x. let g = d x in record { more = g.tokens; written = g.written } }

pub refused_here : (C L : List Spot → Type 0) (i : Input) → (C [] → Default L) → Stuck C L i (refusal i)
unfolding place refusal
refused_here C L i d = record { used = []; rest = i.tokens; is = refl; at = refl; plain = tt; go = λ x. let g = d x in record { more = g.tokens; written = g.written } }

pub nothing_read : (L : List Spot → Type 0) (i : Input) → L [] → Reads L i i
nothing_read L i h = record { used = []; is = refl; decls = refl; end = refl; plain = tt; written = h }

-- one token is taken
pub one_read : (L : List Spot → Type 0) (i j : Input) (t : Token) → token i ≡ t → t ≢ End → declares t ≡ None → j.tokens ≡ behind i.tokens → j.decls ≡ i.decls → j.end ≡ i.end
    → ((s : Spot) → s.token ≡ t → s.text ≡ spelling i → L (s ∷ [])) → Reads L i j
unfolding token spelling
one_read L i j t e some bare a b c w =
    let f = first_spot i.tokens (λ x. some (sym e ∙ x)) in
    record {
      used = f.0 ∷ [];
      is = f.1 ∙ ap (λ r. f.0 ∷ r) (sym a);
      decls = b;
      end = c;
      plain = (ap declares (f.2 ∙ e) ∙ bare, tt);
      written = w f.0 (f.2 ∙ e) f.3;
    }

pub next_read : (L : List Spot → Type 0) (i : Input) (t : Token) → token i ≡ t → t ≢ End → declares t ≡ None → ((s : Spot) → s.token ≡ t → s.text ≡ spelling i → L (s ∷ [])) → Reads L i (advanced i)
unfolding advanced
next_read L i t e some bare w = one_read L i (record i { tokens = behind i.tokens }) t e some bare refl refl refl w

-- what is behind a token that is taken, whatever it is
pub behind_spot : {B : Type 0} (C : List Spot → Type 0) (D : Spot → List Spot → Type 0) (L : List Spot → Type 0) (i j : Input) (t : Token) → token i ≡ t → t ≢ End → declares t ≡ None
    → j.tokens ≡ behind i.tokens → j.decls ≡ i.decls → j.end ≡ i.end → (o : Outcome B) → ((s : Spot) (ts : List Spot) → s.token ≡ t → C (s ∷ ts) → D s ts)
    → ((s : Spot) → s.token ≡ t → s.text ≡ spelling i → Stops (D s) (λ ts. L (s ∷ ts)) j o) → Stops C L i o
unfolding token spelling
behind_spot C D L i j t e some bare a b c o less h =
    let f = first_spot i.tokens (λ x. some (sym e ∙ x)) in
    let is : f.0.token ≡ t = f.2 ∙ e in
    let r : Reads (λ ss. Unit {0}) i j =
    record { used = f.0 ∷ []; is = f.1 ∙ ap (λ r. f.0 ∷ r) (sym a); decls = b; end = c; plain = (ap declares is ∙ bare, tt); written = tt } in
    behind_read C (D f.0) L (λ ts. L (f.0 ∷ ts)) (λ ss. Unit {0}) i j r (λ ts w. w) (λ ts x. less f.0 ts is x) o (h f.0 is f.3)

abbrev pub spot_of : Token → List ℕ → Spot
spot_of t text = record { token = t; text = text; place = 0; line = 0 }

pub some_token : (t : Token) → Default (One (HasToken t))
some_token t = record { tokens = spot_of t [] ∷ []; written = one (spot_of t []) refl }

pub symbol_default : (k : Symbol) → Default (One (HasToken (Is k)))
symbol_default k = some_token (Is k)

seen_case : (C : List Spot → Type 0) (k : Symbol) (i : Input) (c : Bool) → sees k i ≡ c → declares (Is k) ≡ None
    → Stops {A = Unit {0}} C (One (HasToken (Is k))) i (cond c (Ok (tt, advanced i)) (Err (refusal i)))
seen_case C k i true e bare = next_read (One (HasToken (Is k))) i (Is k) (sees_is k i e) (λ x. absurd (cc)) bare (λ s h g. one s h)
seen_case C k i false e bare = refused_here C (One (HasToken (Is k))) i (λ c. symbol_default k)

pub expect_viable : (ds : List Declared) (C : List Spot → Type 0) (k : Symbol) → declares (Is k) ≡ None → IsViable ds C (One (HasToken (Is k))) (expect k)
unfolding expect
expect_viable ds C k bare i e = seen_case C k i (sees k i) refl bare

spend_case : (C L : List Spot → Type 0) (i : Input) (c : Bool) (n : ℕ) (t : Token) → token i ≡ t → t ≢ End → declares t ≡ None → ((s : Spot) → s.token ≡ t → L (s ∷ [])) → (C [] → Default L)
    → Stops {A = Unit {0}} C L i (cond c (Err (fault TooDeep (place i))) (Ok (tt, record (advanced i) { budget = n })))
unfolding advanced
spend_case C L i true n t e some bare w d = stuck_here C L TooDeep i d
spend_case C L i false n t e some bare w d = one_read L i (record i { tokens = behind i.tokens; budget = n }) t e some bare refl refl refl (λ s h g. w s h)

-- a bracket or an operator, which there may be too many of
pub spend_stops : (C : List Spot → Type 0) (L : List Spot → Type 0) (i : Input) (t : Token) → token i ≡ t → t ≢ End → declares t ≡ None → ((s : Spot) → s.token ≡ t → L (s ∷ [])) → (C [] → Default L)
    → Stops C L i (spend i)
unfolding spend
spend_stops C L i t e some bare w d = spend_case C L i (i.budget == 0) _ t e some bare w d

-- ---- names

-- the name is that of something of the kind
abbrev pub Found : List Declared → DeclKind → List ℕ → Slot → Type 0
Found ds kind name s = (slot_in ds name ≡ Some s) × (s.kind ≡ kind)

kind_case : {A : Type 0} (ds : List Declared) (C L : List Spot → Type 0) (kind k : DeclKind) (s : Slot) (f : Slot → Parser A) (i : Input) → s.kind ≡ k → slot_in ds (spelling i) ≡ Some s
    → ((t : Slot) → Found ds kind (spelling i) t → Stops C L i (f t i)) → (C [] → Default L) → Stops C L i (and_then (cond (same_kind kind k) (λ (j : Input). Ok (s, j)) (fail UnknownName) i) f)
kind_case ds C L Variable Variable s f i e h next d = next s (h, e)
kind_case ds C L Handle Handle s f i e h next d = next s (h, e)
kind_case ds C L Variable Handle s f i e h next d = stuck_here C L UnknownName i d
kind_case ds C L Handle Variable s f i e h next d = stuck_here C L UnknownName i d

sought_stops : {A : Type 0} (ds : List Declared) (C L : List Spot → Type 0) (kind : DeclKind) (o : Option Slot) (f : Slot → Parser A) (i : Input) → slot_in ds (spelling i) ≡ o
    → ((t : Slot) → Found ds kind (spelling i) t → Stops C L i (f t i)) → (C [] → Default L) → Stops C L i (and_then (sought kind o i) f)
sought_stops ds C L kind None f i e next d = stuck_here C L UnknownName i d
sought_stops ds C L kind (Some s) f i e next d = kind_case ds C L kind s.kind s f i refl e next d

pub seek_stops : {A : Type 0} (ds : List Declared) (C L : List Spot → Type 0) (kind : DeclKind) (f : Slot → Parser A) (i : Input) → i.decls ≡ ds
    → ((t : Slot) → Found ds kind (spelling i) t → Stops C L i (f t i)) → (C [] → Default L) → Stops C L i (and_then (seek kind i) f)
unfolding seek
seek_stops ds C L kind f i e next d = sought_stops ds C L kind (slot_in i.decls (spelling i)) f i (sym (ap (λ es. slot_in es (spelling i)) e)) next d
