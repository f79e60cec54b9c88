-- What stands before a fault in the head of a script or in a declaration can be completed.
use Rattle.std.proofs.Common.{◌≡◌, ◌≢◌, ℕ, zero, suc, ◌+◌, ◌<◌, pos, negsuc, Bool, true, false, cond, List, [], ◌∷◌, ◌++◌, length, replicate, Option, Some, None, Ok, Err, refl, ap, sym, subst, ◌∙◌, append_assoc, append-nil, arith, inl, inr}
use Rattle.std.proofs.lemmas.Bool.{cases_Bool}
use Rattle.std.proofs.lemmas.List.{length-replicate}
use Rattle.std.proofs.lemmas.Slice.Eq.{bytes_eq-Decides}
use Rattle.std.specs.Str.{bytes_eq}
use Rattle.mpd_model.specs.declared.place.DeclKind.{DeclKind}
use Rattle.mpd_model.specs.declared.read_fault.FaultCode.{FaultCode}
use Rattle.mpd_model.specs.declared.read_fault.FaultCode.TheVariants.{Twice, TooMany, BadRanks, NotInVersion}
use Rattle.mpd_model.specs.declared.read_fault.ReadFault.{ReadFault}
use Rattle.mpd_model.specs.declared.slot.Slot.{Slot}
use Rattle.mpd_model.specs.declared.token.Symbol.TheVariants as m
use Rattle.mpd_model.specs.declared.token.Token.{Token}
use Rattle.mpd_model.specs.declared.token.Token.TheVariants.{Number, Name, Is, End}
use Rattle.mpd_model.specs.script.Declaration.{Declared, variable_cells, handle_cells}
use Rattle.mpd_model.specs.grammar.Faults.{fault}
use Rattle.mpd_model.specs.grammar.Grammar.{version_in, version_of, version_by, version, rank_count, ranks_of, ranks_by, ranks, array_size_by, array_size, single, declarator, decl_by, decl, declares, decls_by, decls_from, decls, header}
use Rattle.mpd_model.specs.grammar.Input.{Input, Outcome, Parser, and_then, token, spelling, place, place_of, advanced, behind, fail, refusal, advance, sees, after, expect, slot_from, slot_in, is_known, fresh, cells_fit, add, ◌>>=◌}
use Rattle.mpd_model.specs.script.Program.{Program}
use Rattle.mpd_model.specs.grammar.Tokens.{Spot}
use Rattle.mpd_model.specs.grammar.Written.{WrittenDecls, none, declares_one, declares_array, declared_as, ended, WrittenScript, script}
use Rattle.mpd_laws.proofs.sound.SoundScript.{in_version, decl_ok}
use Rattle.mpd_laws.proofs.sound.Sound.{first_spot, sees_is}
use Rattle.mpd_meaning.proofs.viable.Viable.{One, one, HasToken, Default, Goes, goes_behind, Stops, spot_of, stuck_here, refused_here, next_read, one_read, expect_viable}

-- ---- where declarations change: what stands before a fault can be completed, without a condition

pub record Broken (L : List Spot → Type 0) (i : Input) (f : ReadFault) : Type 0 where
  pub used : List Spot
  pub rest : List Spot
  pub is : i.tokens ≡ used ++ rest
  pub at : f.place ≡ place_of i.end rest
  pub go : Goes L used

abbrev pub Breaks : {A : Type 0} → (L : List Spot → Type 0) → Input → Outcome A → Type 0
Breaks L i (Ok p) = p.1.end ≡ i.end
Breaks L i (Err f) = Broken L i f

abbrev Free : List Spot → Type 0
Free ss = Unit {0}

broken_here : (L : List Spot → Type 0) (c : FaultCode) (i : Input) → Default L → Broken L i (fault c (place i))
unfolding place
broken_here L c i d = record { used = []; rest = i.tokens; is = refl; at = refl; go = record { more = d.tokens; written = d.written } }

broken_refused : (L : List Spot → Type 0) (i : Input) → Default L → Broken L i (refusal i)
unfolding place refusal
broken_refused L i d = record { used = []; rest = i.tokens; is = refl; at = refl; go = record { more = d.tokens; written = d.written } }

breaks_behind : {B : Type 0} (L M : List Spot → Type 0) (us : List Spot) (i j : Input) → i.tokens ≡ us ++ j.tokens → j.end ≡ i.end → ((ts : List Spot) → M ts → L (us ++ ts))
    → (o : Outcome B) → Breaks M j o → Breaks L i o
breaks_behind L M us i j is e join (Ok p) h = h ∙ e
breaks_behind L M us i j is e join (Err f) h = record {
  used = us ++ h.used;
  rest = h.rest;
  is = is ∙ ap (λ ss. us ++ ss) h.is ∙ sym (append_assoc us h.used h.rest);
  at = h.at ∙ ap (λ n. place_of n h.rest) e;
  go = goes_behind L M us h.used join h.go;
}

breaks_as : {A B : Type 0} (L : List Spot → Type 0) (i : Input) (o : Outcome A) (f : A → B) → Breaks L i o → Breaks L i (and_then o (λ a j. Ok (f a, j)))
breaks_as L i (Ok p) f h = h
breaks_as L i (Err g) f h = h

the_one : (P : Spot → Type 0) (ss : List Spot) → One P ss → (s : Spot) × P s × (ss ≡ s ∷ [])
the_one P _ (one s h) = (s, h, refl)

goes_one : (L : List Spot → Type 0) (P : Spot → Type 0) (us : List Spot) → Goes (One P) us → ((s : Spot) → P s → Default (λ ts. L (s ∷ ts))) → Goes L us
goes_one L P us g d =
    let x = the_one P (us ++ g.more) g.written in
    let e = d x.0 x.1 in
    record { more = g.more ++ e.tokens; written = subst L (ap (λ ss. ss ++ e.tokens) (sym x.2) ∙ append_assoc us g.more e.tokens) e.written }

-- one token, and what is behind it
breaks_one : {A B : Type 0} (L : List Spot → Type 0) (P : Spot → Type 0) (i : Input) (o : Outcome A) (k : A → Parser B) → Stops Free (One P) i o → ((s : Spot) → P s → Default (λ ts. L (s ∷ ts)))
    → ((a : A) (j : Input) (s : Spot) → P s → j.decls ≡ i.decls → Breaks (λ ts. L (s ∷ ts)) j (k a j)) → Breaks L i (and_then o k)
breaks_one L P i (Ok p) k h d next =
    let x = the_one P h.used h.written in
    breaks_behind L (λ ts. L (x.0 ∷ ts)) (x.0 ∷ []) i p.1 (h.is ∙ ap (λ us. us ++ p.1.tokens) x.2) h.end (λ ts w. w) (k p.0 p.1) (next p.0 p.1 x.0 x.1 h.decls)
breaks_one L P i (Err f) k h d next = record { used = h.used; rest = h.rest; is = h.is; at = h.at; go = goes_one L P h.used (h.go tt) d }

-- the last token
breaks_last : {A : Type 0} (L : List Spot → Type 0) (P : Spot → Type 0) (i : Input) (o : Outcome A) → Stops Free (One P) i o → ((s : Spot) → P s → L (s ∷ [])) → Breaks L i o
breaks_last L P i (Ok p) h d = h.end
breaks_last L P i (Err f) h d = record { used = h.used; rest = h.rest; is = h.is; at = h.at; go = goes_one L P h.used (h.go tt) (λ s x. record { tokens = []; written = d s x }) }

-- what is behind a token, whatever it is
breaks_spot : {B : Type 0} (L : List Spot → Type 0) (i j : Input) (t : Token) → token i ≡ t → t ≢ End → j.tokens ≡ behind i.tokens → j.end ≡ i.end → (o : Outcome B)
    → ((s : Spot) → s.token ≡ t → s.text ≡ spelling i → Breaks (λ ts. L (s ∷ ts)) j o) → Breaks L i o
unfolding token spelling
breaks_spot L i j t e some a c o h =
    let f = first_spot i.tokens (λ x. some (sym e ∙ x)) in
    breaks_behind L (λ ts. L (f.0 ∷ ts)) (f.0 ∷ []) i j (f.1 ∙ ap (λ r. f.0 ∷ r) (sym a)) c (λ ts w. w) o (h f.0 (f.2 ∙ e) f.3)

-- a token before some others
before : (L : List Spot → Type 0) (s : Spot) → Default (λ ts. L (s ∷ ts)) → Default L
before L s d = record { tokens = s ∷ d.tokens; written = d.written }

-- ---- a name that isn't declared

total : List Declared → ℕ
total [] = 0
total (d ∷ ds) = length d.name + total ds

longer_is_new : (n v h : ℕ) (ds : List Declared) (w : List ℕ) → total ds < length w → slot_from n v h ds w ≡ None
unfolding total
longer_is_new n v h [] w less = refl
longer_is_new n v h (d ∷ ds) w less =
    elim (cases_Bool (bytes_eq d.name w)) [
      | inl is ↦ let e = ap length ((bytes_eq-Decides d.name w).0 is) in absurd (omega (arith, e, less))
      | inr other ↦ rw other (longer_is_new (n + 1) (v + variable_cells d.kind d.size) (h + handle_cells d.kind d.size) ds w (omega (arith, less)))
    ]

new_name : List Declared → List ℕ
new_name ds = replicate (total ds + 1) 97

new_is_new : (ds : List Declared) → slot_in ds (new_name ds) ≡ None
unfolding slot_in new_name
new_is_new ds = longer_is_new 0 0 0 ds (replicate (total ds + 1) 97) (let e = length-replicate {A = ℕ} (total ds + 1) 97 in omega (arith, e))

-- ---- declarations

abbrev pub SomeDecls : List Declared → List Spot → Type 0
SomeDecls ds ss = (es : List Declared) × WrittenDecls ds ss es

one_declared : (ds : List Declared) (kind : DeclKind) (v n end : Spot) → declares v.token ≡ Some kind → n.token ≡ Name → slot_in ds n.text ≡ None → end.token ≡ Is m.Semicolon
    → SomeDecls ds (v ∷ n ∷ end ∷ [])
one_declared ds kind v n end ev en free ee = (ds ++ declared_as kind n.text None ∷ [], declares_one ds (ds ++ declared_as kind n.text None ∷ []) kind v n end [] ev en free ee (none (ds ++ declared_as kind n.text None ∷ [])))

array_declared : (ds : List Declared) (kind : DeclKind) (v n a c b end : Spot) (k : ℕ) → declares v.token ≡ Some kind → n.token ≡ Name → slot_in ds n.text ≡ None
    → a.token ≡ Is m.SquareOpen → c.token ≡ Number (pos k) → b.token ≡ Is m.SquareClose → end.token ≡ Is m.Semicolon → SomeDecls ds (v ∷ n ∷ a ∷ c ∷ b ∷ end ∷ [])
array_declared ds kind v n a c b end k ev en free ea ec eb ee =
    (ds ++ declared_as kind n.text (Some k) ∷ [], declares_array ds (ds ++ declared_as kind n.text (Some k) ∷ []) kind v n a c b end k [] ev en free ea ec eb ee (none (ds ++ declared_as kind n.text (Some k) ∷ [])))

end_spot : Spot
end_spot = spot_of (Is m.Semicolon) []

close_spot : Spot
close_spot = spot_of (Is m.SquareClose) []

-- behind the word that begins a declaration
behind_word : (ds : List Declared) (kind : DeclKind) (v : Spot) → declares v.token ≡ Some kind → Default (λ ts. SomeDecls ds (v ∷ ts))
unfolding end_spot
behind_word ds kind v ev = record { tokens = spot_of Name (new_name ds) ∷ end_spot ∷ []; written = one_declared ds kind v (spot_of Name (new_name ds)) end_spot ev refl (new_is_new ds) refl }

-- behind the bracket of a size
behind_bracket : (ds : List Declared) (kind : DeclKind) (v n a : Spot) → declares v.token ≡ Some kind → n.token ≡ Name → slot_in ds n.text ≡ None → a.token ≡ Is m.SquareOpen
    → Default (λ ts. SomeDecls ds (v ∷ n ∷ a ∷ ts))
unfolding end_spot close_spot
behind_bracket ds kind v n a ev en free ea =
    let c : Spot = spot_of (Number (pos 1)) [] in
    record { tokens = c ∷ close_spot ∷ end_spot ∷ []; written = array_declared ds kind v n a c close_spot end_spot 1 ev en free ea refl refl refl }

stops_symbol : (i : Input) → Stops Free (One (HasToken (Is m.Semicolon))) i (expect m.Semicolon i)
stops_symbol i = expect_viable i.decls Free m.Semicolon refl i refl

stops_close : (i : Input) → Stops Free (One (HasToken (Is m.SquareClose))) i (expect m.SquareClose i)
stops_close i = expect_viable i.decls Free m.SquareClose refl i refl

moved : (j : Input) → ((advanced j).tokens ≡ behind j.tokens) × ((advanced j).end ≡ j.end) × ((advanced j).decls ≡ j.decls)
unfolding advanced
moved j = (refl, refl, refl)

unknown : (o : Option Slot) → is_known o ≡ false → o ≡ None
unknown None h = refl
unknown (Some s) h = absurd (cc)

module _ (ds : List Declared) (kind : DeclKind) (v : Spot) (ev : declares v.token ≡ Some kind) where
  add_size : (n a : Spot) (k : ℕ) (c : Bool) (name : List ℕ) (i : Input) → n.token ≡ Name → slot_in ds n.text ≡ None → a.token ≡ Is m.SquareOpen → token i ≡ Number (pos k)
      → Breaks (λ ts. SomeDecls ds (v ∷ n ∷ a ∷ ts)) i
      (and_then (cond c (Ok (tt, record i { decls = i.decls ++ declared_as kind name (Some k) ∷ [] })) (Err (fault TooMany (place i))))
      (λ (x : Unit {0}). advance >>= λ y. expect m.SquareClose >>= λ z. expect m.Semicolon))
  unfolding advanced end_spot
  add_size n a k true name i en free ea is =
      let j : Input = record i { tokens = behind i.tokens; decls = i.decls ++ declared_as kind name (Some k) ∷ [] } in
      breaks_spot (λ ts. SomeDecls ds (v ∷ n ∷ a ∷ ts)) i j (Number (pos k)) is (λ x. absurd (cc)) refl refl _
      (λ s es et. breaks_one (λ ts. SomeDecls ds (v ∷ n ∷ a ∷ s ∷ ts)) (HasToken (Is m.SquareClose)) j (expect m.SquareClose j) _ (stops_close j)
      (λ b eb. record { tokens = end_spot ∷ []; written = array_declared ds kind v n a s b end_spot k ev en free ea es eb refl })
      (λ x l b eb same. breaks_last (λ ts. SomeDecls ds (v ∷ n ∷ a ∷ s ∷ b ∷ ts)) (HasToken (Is m.Semicolon)) l (expect m.Semicolon l) (stops_symbol l)
      (λ z ez. array_declared ds kind v n a s b z k ev en free ea es eb ez)))
  add_size n a k false name i en free ea is = broken_here (λ ts. SomeDecls ds (v ∷ n ∷ a ∷ ts)) TooMany i (behind_bracket ds kind v n a ev en free ea)

  size_case : (n a : Spot) (t : Token) (name : List ℕ) (i : Input) → n.token ≡ Name → slot_in ds n.text ≡ None → a.token ≡ Is m.SquareOpen → token i ≡ t
      → Breaks (λ ts. SomeDecls ds (v ∷ n ∷ a ∷ ts)) i (array_size_by kind name t i)
  unfolding add
  size_case n a (Number (pos k)) name i en free ea is = add_size n a k (cells_fit kind (Some k) i.decls) name i en free ea is
  size_case n a _ name i en free ea is = broken_refused (λ ts. SomeDecls ds (v ∷ n ∷ a ∷ ts)) i (behind_bracket ds kind v n a ev en free ea)

  size_breaks : (n a : Spot) (name : List ℕ) (i : Input) → n.token ≡ Name → slot_in ds n.text ≡ None → a.token ≡ Is m.SquareOpen
      → Breaks (λ ts. SomeDecls ds (v ∷ n ∷ a ∷ ts)) i (array_size kind name i)
  unfolding array_size
  size_breaks n a name i en free ea = size_case n a (token i) name i en free ea refl

  -- a name without a size is counted at its own place
  add_single : (c : Bool) (name : List ℕ) (i : Input) → i.decls ≡ ds → token i ≡ Name → slot_in ds (spelling i) ≡ None
      → Breaks (λ ts. SomeDecls ds (v ∷ ts)) i
      (and_then (cond c (Ok (tt, record (advanced i) { decls = (advanced i).decls ++ declared_as kind name None ∷ [] })) (Err (fault TooMany (place i)))) (λ (x : Unit {0}). expect m.Semicolon))
  unfolding advanced
  add_single true name i e is free =
      let j : Input = record i { tokens = behind i.tokens; decls = i.decls ++ declared_as kind name None ∷ [] } in
      breaks_spot (λ ts. SomeDecls ds (v ∷ ts)) i j Name is (λ x. absurd (cc)) refl refl _
      (λ n en et. breaks_last (λ ts. SomeDecls ds (v ∷ n ∷ ts)) (HasToken (Is m.Semicolon)) j (expect m.Semicolon j) (stops_symbol j)
      (λ z ez. one_declared ds kind v n z ev en (ap (slot_in ds) et ∙ free) ez))
  add_single false name i e is free = broken_here (λ ts. SomeDecls ds (v ∷ ts)) TooMany i (behind_word ds kind v ev)

  sized_case : (c : Bool) (i : Input) → i.decls ≡ ds → token i ≡ Name → slot_in ds (spelling i) ≡ None → sees m.SquareOpen (advanced i) ≡ c
      → Breaks (λ ts. SomeDecls ds (v ∷ ts)) i (cond c (array_size kind (spelling i)) (single kind (spelling i) (place i)) (cond c (advanced (advanced i)) (advanced i)))
  unfolding single add
  sized_case true i e is free seen =
      breaks_spot (λ ts. SomeDecls ds (v ∷ ts)) i (advanced i) Name is (λ x. absurd (cc)) (moved i).0 (moved i).1 _
      (λ n en et. breaks_spot (λ ts. SomeDecls ds (v ∷ n ∷ ts)) (advanced i) (advanced (advanced i)) (Is m.SquareOpen) (sees_is m.SquareOpen (advanced i) seen) (λ x. absurd (cc)) (moved (advanced i)).0 (moved (advanced i)).1 _
      (λ a ea at. size_breaks n a (spelling i) (advanced (advanced i)) en (ap (slot_in ds) et ∙ free) ea))
  sized_case false i e is free seen = add_single (cells_fit kind None (advanced i).decls) (spelling i) i e is free

  fresh_case : (c : Bool) (i : Input) → i.decls ≡ ds → token i ≡ Name → is_known (slot_in i.decls (spelling i)) ≡ c
      → Breaks (λ ts. SomeDecls ds (v ∷ ts)) i
      (and_then (cond c (fail Twice i) (Ok (tt, i))) (λ (x : Unit {0}) j. cond (sees m.SquareOpen (advanced j)) (array_size kind (spelling i)) (single kind (spelling i) (place i)) (after m.SquareOpen (advanced j))))
  unfolding after
  fresh_case true i e is known = broken_here (λ ts. SomeDecls ds (v ∷ ts)) Twice i (behind_word ds kind v ev)
  fresh_case false i e is known =
      sized_case (sees m.SquareOpen (advanced i)) i e is (ap (λ es. slot_in es (spelling i)) (sym e) ∙ unknown (slot_in i.decls (spelling i)) known) refl

  declarator_breaks : (i : Input) → i.decls ≡ ds → token i ≡ Name → Breaks (λ ts. SomeDecls ds (v ∷ ts)) i (declarator kind i)
  unfolding declarator fresh
  declarator_breaks i e is = fresh_case (is_known (slot_in i.decls (spelling i))) i e is refl

  decl_case : (t : Token) (i : Input) → i.decls ≡ ds → token i ≡ t → Breaks (λ ts. SomeDecls ds (v ∷ ts)) i (decl_by kind t i)
  decl_case Name i e is = declarator_breaks i e is
  decl_case _ i e is = broken_refused (λ ts. SomeDecls ds (v ∷ ts)) i (behind_word ds kind v ev)

  decl_breaks : (i : Input) → i.decls ≡ ds → Breaks (λ ts. SomeDecls ds (v ∷ ts)) i (decl kind i)
  unfolding decl
  decl_breaks i e = decl_case (token i) i e refl

  -- a declaration, and those behind it
  decls_step : (n : ℕ) (i : Input) → i.decls ≡ ds → (o : Outcome (Unit {0})) → decl kind i ≡ o → Breaks (λ ts. SomeDecls ds (v ∷ ts)) i o
      → ((es : List Declared) (j : Input) → j.decls ≡ es → Breaks (SomeDecls es) j (decls_from n j)) → Breaks (λ ts. SomeDecls ds (v ∷ ts)) i (and_then o (λ x. decls_from n))
  decls_step n i e (Ok y) is h more =
      let d = decl_ok kind i y is in
      let one = declared_as kind d.name d.size in
      breaks_behind (λ ts. SomeDecls ds (v ∷ ts)) (SomeDecls (ds ++ one ∷ [])) d.used i y.1 d.is h
      (λ ts w. (w.0, subst (λ r. WrittenDecls r (v ∷ d.used ++ ts) w.0) e (d.written v ts w.0 ev (subst (λ r. WrittenDecls (r ++ one ∷ []) ts w.0) (sym e) w.1))))
      (decls_from n y.1) (more (ds ++ one ∷ []) y.1 (d.decls ∙ ap (λ r. r ++ one ∷ []) e))
  decls_step n i e (Err f) is h more = h

declares_some : (t : Token) (kind : DeclKind) → declares t ≡ Some kind → t ≢ End
declares_some t kind h e = let f : declares End ≡ Some kind = ap declares (sym e) ∙ h in absurd (cc)

decls_case : (n : ℕ) (ds : List Declared) (o : Option DeclKind) (i : Input) → i.decls ≡ ds → declares (token i) ≡ o
    → ((es : List Declared) (j : Input) → j.decls ≡ es → Breaks (SomeDecls es) j (decls_from n j)) → Breaks (SomeDecls ds) i (decls_by (decls_from n) o i)
decls_case n ds None i e is more = refl
decls_case n ds (Some kind) i e is more =
    breaks_spot (SomeDecls ds) i (advanced i) (token i) refl (declares_some (token i) kind is) (moved i).0 (moved i).1 _
    (λ v ev et. let bare = ap declares ev ∙ is in
    decls_step ds kind v bare n (advanced i) ((moved i).2 ∙ e) (decl kind (advanced i)) refl (decl_breaks ds kind v bare (advanced i) ((moved i).2 ∙ e)) more)

decls_from_breaks : (n : ℕ) (ds : List Declared) (i : Input) → i.decls ≡ ds → Breaks (SomeDecls ds) i (decls_from n i)
unfolding decls_from
decls_from_breaks zero ds i e = broken_refused (SomeDecls ds) i (record { tokens = []; written = (ds, none ds) })
decls_from_breaks (suc n) ds i e = decls_case n ds (declares (token i)) i e refl (λ es j f. decls_from_breaks n es j f)

decls_breaks : (ds : List Declared) (i : Input) → i.decls ≡ ds → Breaks (SomeDecls ds) i (decls i)
unfolding decls
decls_breaks ds i e = decls_from_breaks (length i.tokens + 1) ds i e

-- ---- the head of a script

abbrev IsNumber : Spot → Type 0
IsNumber s = (n : ℕ) × (s.token ≡ Number (pos n))

one_spot : Spot
one_spot = spot_of (Number (pos 1)) []

one_is_number : IsNumber one_spot
unfolding one_spot
one_is_number = (1, refl)

number_default : Default (One IsNumber)
number_default = record { tokens = one_spot ∷ []; written = one one_spot one_is_number }

version_test : (o : Option ℕ) (n : ℕ) (i : Input) → token i ≡ Number (pos n) → Stops Free (One IsNumber) i (version_of o i)
unfolding advanced
version_test (Some k) n i is = one_read (One IsNumber) i (advanced (in_version k i)) (Number (pos n)) is (λ x. absurd (cc)) refl refl refl refl (λ s h g. one s (n, h))
version_test None n i is = stuck_here Free (One IsNumber) NotInVersion i (λ c. number_default)

version_case : (t : Token) (i : Input) → token i ≡ t → Stops Free (One IsNumber) i (version_by t i)
version_case (Number (pos n)) i is = version_test (version_in (pos n)) n i is
version_case (Number (negsuc n)) i is = stuck_here Free (One IsNumber) NotInVersion i (λ c. number_default)
version_case _ i is = refused_here Free (One IsNumber) i (λ c. number_default)

version_stops : (i : Input) → Stops Free (One IsNumber) i (version i)
unfolding version
version_stops i = version_case (token i) i refl

ranks_test : (o : Option ℕ) (n : ℕ) (i : Input) → token i ≡ Number (pos n) → Stops Free (One IsNumber) i (ranks_of o i)
ranks_test (Some k) n i is = next_read (One IsNumber) i (Number (pos n)) is (λ x. absurd (cc)) refl (λ s h g. one s (n, h))
ranks_test None n i is = stuck_here Free (One IsNumber) BadRanks i (λ c. number_default)

ranks_case : (t : Token) (i : Input) → token i ≡ t → Stops Free (One IsNumber) i (ranks_by t i)
ranks_case (Number (pos n)) i is = ranks_test (rank_count (pos n)) n i is
ranks_case (Number (negsuc n)) i is = stuck_here Free (One IsNumber) BadRanks i (λ c. number_default)
ranks_case _ i is = refused_here Free (One IsNumber) i (λ c. number_default)

ranks_stops : (i : Input) → Stops Free (One IsNumber) i (ranks i)
unfolding ranks
ranks_stops i = ranks_case (token i) i refl

abbrev pub SomeScript : List Spot → Type 0
SomeScript ss = (p : Program) × WrittenScript ss p

abbrev Head : Spot → Spot → Spot → Spot → Spot → Spot → Type 0
Head mpd v a r c b = (mpd.token ≡ Is m.Mpd) × (IsNumber v × ((a.token ≡ Is m.Semicolon) × ((r.token ≡ Is m.Ranks) × (IsNumber c × (b.token ≡ Is m.Semicolon)))))

head_in : (mpd v a r c b : Spot) → Head mpd v a r c b → (ts : List Spot) → SomeDecls [] ts → SomeScript (mpd ∷ v ∷ a ∷ r ∷ c ∷ b ∷ ts)
head_in mpd v a r c b h ts w =
    subst (λ us. SomeScript (mpd ∷ v ∷ a ∷ r ∷ c ∷ b ∷ us)) (append-nil ts) (
      record { version = h.1.0.0; ranks = h.1.1.1.1.0.0; decls = w.0; body = []; lines = [] },
      script mpd v a r c b ts [] (record { version = h.1.0.0; ranks = h.1.1.1.1.0.0; decls = w.0; body = []; lines = [] }) h.0 h.1.0.1 h.1.1.0 h.1.1.1.0 h.1.1.1.1.0.1 h.1.1.1.1.1 w.1 ended,
    )

head_done : (mpd v a r c b : Spot) → Head mpd v a r c b → Default (λ ts. SomeScript (mpd ∷ v ∷ a ∷ r ∷ c ∷ b ∷ ts))
head_done mpd v a r c b h = record { tokens = []; written = head_in mpd v a r c b h [] ([], none []) }

ranks_spot : Spot
ranks_spot = spot_of (Is m.Ranks) []

from_count : (mpd v a r c : Spot) → mpd.token ≡ Is m.Mpd → IsNumber v → a.token ≡ Is m.Semicolon → r.token ≡ Is m.Ranks → IsNumber c → Default (λ ts. SomeScript (mpd ∷ v ∷ a ∷ r ∷ c ∷ ts))
unfolding end_spot
from_count mpd v a r c hm hv ha hr hc = before (λ ts. SomeScript (mpd ∷ v ∷ a ∷ r ∷ c ∷ ts)) end_spot (head_done mpd v a r c end_spot (hm, (hv, (ha, (hr, (hc, refl))))))

from_ranks : (mpd v a r : Spot) → mpd.token ≡ Is m.Mpd → IsNumber v → a.token ≡ Is m.Semicolon → r.token ≡ Is m.Ranks → Default (λ ts. SomeScript (mpd ∷ v ∷ a ∷ r ∷ ts))
from_ranks mpd v a r hm hv ha hr = before (λ ts. SomeScript (mpd ∷ v ∷ a ∷ r ∷ ts)) one_spot (from_count mpd v a r one_spot hm hv ha hr one_is_number)

from_first : (mpd v a : Spot) → mpd.token ≡ Is m.Mpd → IsNumber v → a.token ≡ Is m.Semicolon → Default (λ ts. SomeScript (mpd ∷ v ∷ a ∷ ts))
unfolding ranks_spot
from_first mpd v a hm hv ha = before (λ ts. SomeScript (mpd ∷ v ∷ a ∷ ts)) ranks_spot (from_ranks mpd v a ranks_spot hm hv ha refl)

from_version : (mpd v : Spot) → mpd.token ≡ Is m.Mpd → IsNumber v → Default (λ ts. SomeScript (mpd ∷ v ∷ ts))
unfolding end_spot
from_version mpd v hm hv = before (λ ts. SomeScript (mpd ∷ v ∷ ts)) end_spot (from_first mpd v end_spot hm hv refl)

from_mpd : (mpd : Spot) → mpd.token ≡ Is m.Mpd → Default (λ ts. SomeScript (mpd ∷ ts))
from_mpd mpd hm = before (λ ts. SomeScript (mpd ∷ ts)) one_spot (from_version mpd one_spot hm one_is_number)

-- the declarations behind the head
behind_head : (n : ℕ) (mpd v a r c b : Spot) → Head mpd v a r c b → (i : Input) → i.decls ≡ [] → Breaks (λ ts. SomeScript (mpd ∷ v ∷ a ∷ r ∷ c ∷ b ∷ ts)) i (and_then (decls i) (λ x j. Ok (n, j)))
behind_head n mpd v a r c b h i e =
    breaks_as (λ ts. SomeScript (mpd ∷ v ∷ a ∷ r ∷ c ∷ b ∷ ts)) i (decls i) (λ x. n)
    (breaks_behind (λ ts. SomeScript (mpd ∷ v ∷ a ∷ r ∷ c ∷ b ∷ ts)) (SomeDecls []) [] i i refl refl (head_in mpd v a r c b h) (decls i) (decls_breaks [] i e))

pub header_breaks : (i : Input) → i.decls ≡ [] → Breaks SomeScript i (header i)
unfolding header
header_breaks i e =
    breaks_one SomeScript (HasToken (Is m.Mpd)) i (expect m.Mpd i) _ (expect_viable i.decls Free m.Mpd refl i refl) from_mpd
    (λ x1 j1 mpd hm e1. breaks_one (λ ts. SomeScript (mpd ∷ ts)) IsNumber j1 (version j1) _ (version_stops j1) (λ v hv. from_version mpd v hm hv)
    (λ x2 j2 v hv e2. breaks_one (λ ts. SomeScript (mpd ∷ v ∷ ts)) (HasToken (Is m.Semicolon)) j2 (expect m.Semicolon j2) _ (stops_symbol j2) (λ a ha. from_first mpd v a hm hv ha)
    (λ x3 j3 a ha e3. breaks_one (λ ts. SomeScript (mpd ∷ v ∷ a ∷ ts)) (HasToken (Is m.Ranks)) j3 (expect m.Ranks j3) _ (expect_viable j3.decls Free m.Ranks refl j3 refl) (λ r hr. from_ranks mpd v a r hm hv ha hr)
    (λ x4 j4 r hr e4. breaks_one (λ ts. SomeScript (mpd ∷ v ∷ a ∷ r ∷ ts)) IsNumber j4 (ranks j4) _ (ranks_stops j4) (λ c hc. from_count mpd v a r c hm hv ha hr hc)
    (λ n j5 c hc e5. breaks_one (λ ts. SomeScript (mpd ∷ v ∷ a ∷ r ∷ c ∷ ts)) (HasToken (Is m.Semicolon)) j5 (expect m.Semicolon j5) _ (stops_symbol j5) (λ b hb. head_done mpd v a r c b (hm, (hv, (ha, (hr, (hc, hb))))))
    (λ x6 j6 b hb e6. behind_head n mpd v a r c b (hm, (hv, (ha, (hr, (hc, hb))))) j6 (e6 ∙ e5 ∙ e4 ∙ e3 ∙ e2 ∙ e1 ∙ e)))))))
