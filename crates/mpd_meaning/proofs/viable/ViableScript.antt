-- What stands before a fault in a script can be completed, where what its statements name is declared.
use Rattle.std.proofs.Common.{◌≡◌, ◌⊎◌, ℕ, ◌+◌, ◌<◌, ◌≤◌, nat_lt, Bool, true, false, ◌||◌, cond, List, [], ◌∷◌, ◌++◌, length, Option, Some, None, is_some, Ok, Err, inl, inr, refl, ap, sym, subst, ◌∙◌, append_assoc, append-nil, arith}
use Rattle.std.proofs.lemmas.Bool.Decides.{nat_tests}
use Rattle.std.proofs.lemmas.Slice.Eq.{bytes_eq-Decides}
use Rattle.std.specs.List.{AllByRecursion}
use Rattle.std.specs.Str.{bytes_eq}
use Rattle.mpd_model.specs.declared.place.DeclKind.{DeclKind}
use Rattle.mpd_model.specs.declared.place.DeclKind.TheVariants.{Variable, Handle}
use Rattle.mpd_model.specs.declared.read_fault.ReadFault.{ReadFault}
use Rattle.mpd_model.specs.declared.slot.Slot.{Slot}
use Rattle.mpd_model.specs.declared.token.Symbol.TheVariants as m
use Rattle.mpd_model.specs.declared.token.Token.{Token}
use Rattle.mpd_model.specs.declared.token.Token.TheVariants.{Name, Is}
use Rattle.mpd_model.specs.script.Declaration.{Declared, variable_cells, handle_cells}
use Rattle.mpd_model.specs.grammar.Grammar.{declares, place_of_slot, body, block, max_blocks, header, with_body, read_of, reading}
use Rattle.mpd_model.specs.grammar.Grammar as grammar
use Rattle.mpd_model.specs.grammar.Input.{Input, Outcome, and_then, start_of, place_of, slot_from, slot_in, first_of, ◌>>=◌}
use Rattle.mpd_model.specs.script.Program.{Program}
use Rattle.mpd_model.specs.grammar.Tokens.{Spot, tokens}
use Rattle.mpd_model.specs.script.Tree.{Tree}
use Rattle.mpd_model.specs.grammar.Written.{whole, part, WrittenDecls, none, declares_one, declares_array, declared_as, script}
use Rattle.mpd_laws.proofs.sound.SoundScript.{Header, header_ok}
use Rattle.mpd_meaning.specs.PrefixLaws.{CanBeCompleted, names, announces, some_names, some_declares, HasWhatItNames, before, WhatStandsBeforeAFaultCanBeCompleted}
use Rattle.mpd_meaning.specs.TokenLaws.{IsPlacedIn}
use Rattle.mpd_meaning.proofs.local.Local.{AllBehind}
use Rattle.mpd_meaning.proofs.local.SameFault.{AllFrom, Rises, rising, read_fault, text_reads}
use Rattle.mpd_meaning.proofs.local.TokenLines.{placed_by_recursion}
use Rattle.mpd_meaning.proofs.viable.Viable.{AllPlain, Default, Goes, Stuck, Stops, spot_of}
use Rattle.mpd_meaning.proofs.viable.ViableTerms.{some_term}
use Rattle.mpd_meaning.proofs.viable.ViableParts.{SomeTarget}
use Rattle.mpd_meaning.proofs.viable.ViableTrees.{AreServed, SomeBody, body_viable, block_viable}
use Rattle.mpd_meaning.proofs.viable.ViableHeader.{Broken, Breaks, SomeScript, header_breaks}

-- ---- tests

pub or_first : (a b : Bool) → a || b ≡ true → (a ≡ true) ⊎ (b ≡ true)
or_first true b h = inl refl
or_first false b h = inr h

pub or_left : (a b : Bool) → a ≡ true → a || b ≡ true
or_left a b h = rw h refl

pub or_right : (a b : Bool) → b ≡ true → a || b ≡ true
or_right true b h = refl
or_right false b h = h

pub or_second : (a b : Bool) → a ≡ false → a || b ≡ true → b ≡ true
or_second true b e h = absurd (cc)
or_second false b e h = h

-- ---- names that are declared

pub record Known (ds : List Declared) (wanted : DeclKind) : Type 0 where
  pub name : List ℕ
  pub slot : Slot
  pub found : slot_in ds name ≡ Some slot
  pub kind : slot.kind ≡ wanted

still_case : (b : Bool) (x y z : Option Slot) (s : Slot) → cond b x y ≡ Some s → (y ≡ Some s → z ≡ Some s) → cond b x z ≡ Some s
still_case true x y z s e h = e
still_case false x y z s e h = h e

found_still : (n v h : ℕ) (ds es : List Declared) (w : List ℕ) (s : Slot) → slot_from n v h ds w ≡ Some s → slot_from n v h (ds ++ es) w ≡ Some s
found_still n v h [] es w s e = absurd (cc)
found_still n v h (d ∷ ds) es w s e = still_case (bytes_eq d.name w) _ _ _ s e (found_still (n + 1) (v + variable_cells d.kind d.size) (h + handle_cells d.kind d.size) ds es w s)

-- the look-up finds something of the kind
abbrev Gives : DeclKind → Option Slot → Type 0
Gives kind o = (s : Slot) × (o ≡ Some s) × (s.kind ≡ kind)

new_case : (b : Bool) (x : Slot) (y z : Option Slot) (kind : DeclKind) → cond b (Some x) y ≡ None → (y ≡ None → Gives kind z) → Gives kind (cond b (Some x) z)
new_case true x y z kind e h = absurd (cc)
new_case false x y z kind e h = h e

last_case : (b : Bool) (x : Slot) (kind : DeclKind) → b ≡ true → x.kind ≡ kind → Gives kind (cond b (Some x) None)
last_case true x kind e h = (x, refl, h)
last_case false x kind e h = absurd (cc)

found_new : (n v h : ℕ) (ds : List Declared) (d : Declared) → slot_from n v h ds d.name ≡ None → Gives d.kind (slot_from n v h (ds ++ d ∷ []) d.name)
found_new n v h [] d e = last_case (bytes_eq d.name d.name) (record { kind = d.kind; declaration = n; first = first_of d.kind v h; size = d.size }) d.kind ((bytes_eq-Decides d.name d.name).1 refl) refl
found_new n v h (c ∷ ds) d e = new_case (bytes_eq c.name d.name) _ _ _ d.kind e (found_new (n + 1) (v + variable_cells c.kind c.size) (h + handle_cells c.kind c.size) ds d)

known_more : (ds es : List Declared) (kind : DeclKind) → Known ds kind → Known (ds ++ es) kind
unfolding slot_in
known_more ds es kind k = record { name = k.name; slot = k.slot; found = found_still 0 0 0 ds es k.name k.slot k.found; kind = k.kind }

known_new : (ds : List Declared) (kind : DeclKind) (w : List ℕ) (cells : Option ℕ) → slot_in ds w ≡ None → Known (ds ++ declared_as kind w cells ∷ []) kind
unfolding slot_in
known_new ds kind w cells e = let x = found_new 0 0 0 ds (declared_as kind w cells) e in record { name = w; slot = x.0; found = x.1; kind = x.2 }

-- ---- words that declare

announced : (kind k : DeclKind) (t : Token) → announces kind t ≡ true → declares t ≡ Some k → k ≡ kind
announced Variable k (Is m.Var) a e = cc
announced Handle k (Is m.Req) a e = cc
announced Variable k t a e = absurd (cc)
announced Handle k t a e = absurd (cc)

quiet : (kind : DeclKind) (t : Token) → declares t ≡ None → announces kind t ≡ false
quiet kind (Is m.Var) h = absurd (cc)
quiet kind (Is m.Req) h = absurd (cc)
quiet Variable t h = refl
quiet Handle t h = refl

skip : (kind : DeclKind) (s : Spot) (ss : List Spot) → declares s.token ≡ None → some_declares kind (s ∷ ss) ≡ true → some_declares kind ss ≡ true
skip kind s ss bare h = or_second (announces kind s.token) (some_declares kind ss) (quiet kind s.token bare) h

-- ---- what declarations bring

abbrev IsBrought : List Declared → List Spot → DeclKind → Type 0
IsBrought ds ss kind = Known ds kind ⊎ (some_declares kind ss ≡ true)

-- behind the word of a declaration
brought_next : (ds : List Declared) (kind k : DeclKind) (v n : Spot) (ts : List Spot) (cells : Option ℕ) → declares v.token ≡ Some k → slot_in ds n.text ≡ None → IsBrought ds (v ∷ ts) kind
    → IsBrought (ds ++ declared_as k n.text cells ∷ []) ts kind
brought_next ds kind k v n ts cells ev free (inl known) = inl (known_more ds (declared_as k n.text cells ∷ []) kind known)
brought_next ds kind k v n ts cells ev free (inr h) =
    elim (or_first (announces kind v.token) (some_declares kind ts) h) [
      | inl a ↦ inl (subst (Known (ds ++ declared_as k n.text cells ∷ [])) (announced kind k v.token a ev) (known_new ds k n.text cells free))
      | inr b ↦ inr b
    ]

-- behind a token that declares nothing
brought_skip : (ds : List Declared) (kind : DeclKind) (s : Spot) (ss : List Spot) → declares s.token ≡ None → IsBrought ds (s ∷ ss) kind → IsBrought ds ss kind
brought_skip ds kind s ss bare (inl known) = inl known
brought_skip ds kind s ss bare (inr h) = inr (skip kind s ss bare h)

from_decls : (ds : List Declared) (ss : List Spot) (es : List Declared) → WrittenDecls ds ss es → (kind : DeclKind) → IsBrought ds ss kind → Known es kind
from_decls _ _ _ (none ds) kind (inl known) = known
from_decls _ _ _ (none ds) kind (inr h) = absurd (cc)
from_decls _ _ _ (declares_one ds es k v n end ss ev en free ee w) kind b =
    let es1 = ds ++ declared_as k n.text None ∷ [] in
    from_decls es1 ss es w kind
    (brought_skip es1 kind end ss (ap declares ee) (brought_skip es1 kind n (end ∷ ss) (ap declares en) (brought_next ds kind k v n (n ∷ end ∷ ss) None ev free b)))
from_decls _ _ _ (declares_array ds es k v n a c z end cells ss ev en free ea ec ez ee w) kind b =
    let es1 = ds ++ declared_as k n.text (Some cells) ∷ [] in
    from_decls es1 ss es w kind
    (brought_skip es1 kind end ss (ap declares ee) (brought_skip es1 kind z (end ∷ ss) (ap declares ez) (brought_skip es1 kind c (z ∷ end ∷ ss) (ap declares ec)
    (brought_skip es1 kind a (c ∷ z ∷ end ∷ ss) (ap declares ea) (brought_skip es1 kind n (a ∷ c ∷ z ∷ end ∷ ss) (ap declares en) (brought_next ds kind k v n (n ∷ a ∷ c ∷ z ∷ end ∷ ss) (Some cells) ev free b))))))

-- ---- what is declared can be named

target_case : (ds : List Declared) (kind : DeclKind) (k : Known ds kind) (cells : Option ℕ) → k.slot.size ≡ cells → Default (SomeTarget ds kind)
target_case ds kind k None e =
    let s = spot_of Name k.name in
    record {
      tokens = s ∷ [];
      written = (record { place = place_of_slot k.slot; index = None }, whole s (place_of_slot k.slot) (record { token = refl; slot = k.slot; declared = k.found; kind = k.kind; size = ap is_some e; place = refl }));
    }
target_case ds kind k (Some n) e =
    let s = spot_of Name k.name in
    let a = spot_of (Is m.SquareOpen) [] in
    let b = spot_of (Is m.SquareClose) [] in
    let d = some_term ds 5 in
    record {
      tokens = s ∷ a ∷ d.tokens ++ b ∷ [];
      written = (
        record { place = place_of_slot k.slot; index = Some d.written.0 },
        part s a b d.tokens (place_of_slot k.slot) d.written.0
            (record { token = refl; slot = k.slot; declared = k.found; kind = k.kind; size = ap is_some e; place = refl }) refl d.written.1 refl,
      );
    }

served : (ds : List Declared) (ss : List Spot) → ((kind : DeclKind) → some_names kind ss ≡ true → Known ds kind) → AreServed ds ss
served ds [] h = tt
served ds (s ∷ ss) h = (
  (λ kind x. let k = h kind (or_left (names kind s.token) (some_names kind ss) x) in target_case ds kind k k.slot.size refl),
  served ds ss (λ kind x. h kind (or_right (names kind s.token) (some_names kind ss) x)),
)

names_behind : (kind : DeclKind) (us ss : List Spot) → some_names kind ss ≡ true → some_names kind (us ++ ss) ≡ true
names_behind kind [] ss h = h
names_behind kind (s ∷ us) ss h = or_right (names kind s.token) (some_names kind (us ++ ss)) (names_behind kind us ss h)

plain_quiet : (kind : DeclKind) (ss : List Spot) → AllPlain ss → some_declares kind ss ≡ true → ⊥
plain_quiet kind [] p h = cc
plain_quiet kind (s ∷ ss) p h = plain_quiet kind ss p.1 (skip kind s ss p.0 h)

declared_first : (kind : DeclKind) (us ss : List Spot) → AllPlain ss → some_declares kind (us ++ ss) ≡ true → some_declares kind us ≡ true
declared_first kind [] ss p h = absurd (plain_quiet kind ss p h)
declared_first kind (s ∷ us) ss p h =
    elim (or_first (announces kind s.token) (some_declares kind (us ++ ss)) h) [
      | inl a ↦ or_left (announces kind s.token) (some_declares kind us) a
      | inr b ↦ or_right (announces kind s.token) (some_declares kind us) (declared_first kind us ss p b)
    ]

-- ---- a fault of a script

-- What stands before it can be completed, where what is named there is declared.
record Faulty (i : Input) (f : ReadFault) : Type 0 where
  used : List Spot
  rest : List Spot
  is : i.tokens ≡ used ++ rest
  at : f.place ≡ place_of i.end rest
  go : HasWhatItNames used → CanBeCompleted used

completed : (ss : List Spot) → Goes SomeScript ss → CanBeCompleted ss
completed ss g = record { more = g.more; program = g.written.0; written = g.written.1 }

broken_faulty : (i : Input) (f : ReadFault) → Broken SomeScript i f → Faulty i f
broken_faulty i f b = record { used = b.used; rest = b.rest; is = b.is; at = b.at; go = λ h. completed b.used b.go }

module _ (n : ℕ) (i x : Input) (h : Header n i x) (bare : i.decls ≡ []) where
  abbrev head : List Spot
  head = h.mpd ∷ h.version ∷ h.first ∷ h.ranks ∷ h.count ∷ h.second ∷ h.used

  head_decls : WrittenDecls [] h.used x.decls
  head_decls = subst (λ ds. WrittenDecls ds h.used x.decls) bare h.decls

  known_there : (ss : List Spot) → AllPlain ss → HasWhatItNames (head ++ ss) → (kind : DeclKind) → some_names kind ss ≡ true → Known x.decls kind
  known_there ss p c kind named =
      let all = declared_first kind head ss p (c kind (names_behind kind head ss named)) in
      let five = skip kind h.mpd (h.version ∷ h.first ∷ h.ranks ∷ h.count ∷ h.second ∷ h.used) (ap declares h.is_mpd) all in
      let four = skip kind h.version (h.first ∷ h.ranks ∷ h.count ∷ h.second ∷ h.used) (ap declares h.is_version) five in
      let three = skip kind h.first (h.ranks ∷ h.count ∷ h.second ∷ h.used) (ap declares h.is_first) four in
      let two = skip kind h.ranks (h.count ∷ h.second ∷ h.used) (ap declares h.is_ranks) three in
      let one = skip kind h.count (h.second ∷ h.used) (ap declares h.is_count) two in
      from_decls [] h.used x.decls head_decls kind (inr (skip kind h.second h.used (ap declares h.is_second) one))

  with_statements : (ss : List Spot) → Goes (SomeBody x.decls) ss → Goes SomeScript (head ++ ss)
  with_statements ss g =
      let p : Program = record { version = x.version; ranks = n; decls = x.decls; body = g.written.0; lines = g.written.1 } in
      record {
        more = g.more;
        written = subst SomeScript (sym (append_assoc head ss g.more))
            (p, script h.mpd h.version h.first h.ranks h.count h.second h.used (ss ++ g.more) p h.is_mpd h.is_version h.is_first h.is_ranks h.is_count h.is_second head_decls g.written.2);
      }

  stuck_faulty : (f : ReadFault) → x.end ≡ i.end → Stuck (AreServed x.decls) (SomeBody x.decls) x f → Faulty i f
  stuck_faulty f e s = record {
    used = head ++ s.used;
    rest = s.rest;
    is = h.is ∙ ap (λ ss. head ++ ss) s.is ∙ sym (append_assoc head s.used s.rest);
    at = s.at ∙ ap (λ k. place_of k s.rest) e;
    go = λ c. completed (head ++ s.used) (with_statements s.used (s.go (served x.decls s.used (known_there s.used s.plain c))));
  }

  body_case : (f : ReadFault) → x.end ≡ i.end → (o : Outcome (List Tree)) → Stops (AreServed x.decls) (SomeBody x.decls) x o → and_then o (with_body n) ≡ Err f → Faulty i f
  body_case f e (Ok p) s h = absurd (cc)
  body_case f e (Err g) s h = stuck_faulty f e (subst (Stuck (AreServed x.decls) (SomeBody x.decls) x) (let same : g ≡ f = cc in same) s)

head_case : (i : Input) → i.decls ≡ [] → (f : ReadFault) (o : Outcome ℕ) → header i ≡ o → Breaks SomeScript i o → and_then o (λ n. body (block max_blocks) false >>= λ found. with_body n found) ≡ Err f → Faulty i f
head_case i e f (Ok y) is b h =
    body_case y.0 i y.1 (header_ok i y is) e f b (body (block max_blocks) false y.1) (body_viable y.1.decls (block max_blocks) (block_viable y.1.decls max_blocks) false y.1 refl) h
head_case i e f (Err g) is b h = subst (Faulty i) (let same : g ≡ f = cc in same) (broken_faulty i g b)

script_faulty : (i : Input) → i.decls ≡ [] → (f : ReadFault) → grammar.script i ≡ Err f → Faulty i f
unfolding grammar.script
script_faulty i e f h = head_case i e f (header i) refl (header_breaks i e) h

-- ---- the tokens before a place

abbrev AllBefore : ℕ → List Spot → Type 0
AllBefore p [] = Unit {0}
AllBefore p (s ∷ ss) = (s.place < p) × AllBefore p ss

nothing_before : (p : ℕ) (ss : List Spot) → AllFrom p ss → before p ss ≡ []
nothing_before p [] h = refl
nothing_before p (s ∷ ss) h = let le = h.0 in let e : nat_lt s.place p ≡ false = grind (arith, nat_tests) in rw e (nothing_before p ss h.1)

cut_here : (p : ℕ) (us ts : List Spot) → AllBefore p us → AllFrom p ts → before p (us ++ ts) ≡ us
cut_here p [] ts h k = nothing_before p ts k
cut_here p (s ∷ us) ts h k = let lt = h.0 in let e : nat_lt s.place p ≡ true = grind (arith, nat_tests) in rw e (ap (λ r. s ∷ r) (cut_here p us ts h.1 k))

behind_is_later : (p : ℕ) (us : List Spot) (s : Spot) (ts : List Spot) → AllBehind p (us ++ s ∷ ts) → p < s.place
behind_is_later p [] s ts h = h.0
behind_is_later p (u ∷ us) s ts h = behind_is_later p us s ts h.1

rises_before : (us : List Spot) (s : Spot) (ts : List Spot) → Rises (us ++ s ∷ ts) → AllBefore s.place us
rises_before [] s ts h = tt
rises_before (u ∷ us) s ts h = (behind_is_later u.place us s ts h.0, rises_before us s ts h.1)

rises_from : (us : List Spot) (s : Spot) (ts : List Spot) → Rises (us ++ s ∷ ts) → AllFrom s.place (s ∷ ts)
rises_from [] s ts h = (let e : s.place ≤ s.place = omega arith in e, from_behind s.place ts h.0)
  where
    from_behind : (p : ℕ) (ss : List Spot) → AllBehind p ss → AllFrom p ss
    from_behind p [] h = tt
    from_behind p (r ∷ rs) h = (let lt = h.0 in omega (arith, lt), from_behind p rs h.1)
rises_from (u ∷ us) s ts h = rises_from us s ts h.1

within : (text : List ℕ) (ss : List Spot) → AllByRecursion (IsPlacedIn text) ss → AllBefore (length text) ss
within text [] h = tt
within text (s ∷ ss) h = (h.0.within, within text ss h.1)

pub cut_text : (text : List ℕ) (us ts : List Spot) → tokens text ≡ us ++ ts → before (place_of (length text) ts) (us ++ ts) ≡ us
cut_text text us [] e =
    cut_here (length text) us [] (within text us (subst (AllByRecursion (IsPlacedIn text)) (e ∙ append-nil us) (placed_by_recursion text))) tt
cut_text text us (s ∷ ts) e =
    let r : Rises (us ++ s ∷ ts) = subst Rises e (rising 0 0 1 text).1 in
    cut_here s.place us (s ∷ ts) (rises_before us s ts r) (rises_from us s ts r)

-- ---- the law

pub before_a_fault : WhatStandsBeforeAFaultCanBeCompleted
before_a_fault text f t h named =
    let x = script_faulty (start_of text) refl f (read_fault (grammar.script (start_of text)) f (sym (text_reads text t) ∙ h)) in
    let cut : before f.place (tokens text) ≡ x.used = ap (λ p. before p (tokens text)) x.at ∙ ap (before (place_of (length text) x.rest)) x.is ∙ cut_text text x.used x.rest x.is in
    subst CanBeCompleted (sym cut) (x.go (subst HasWhatItNames cut named))
