-- What one more declaration changes of what names stand for.
use Rattle.std.proofs.Common.{Bor, ◌≡◌, ℕ, ◌+◌, Bool, true, false, cond, List, [], ◌∷◌, ◌++◌, length, Option, Some, None, IsSome, refl, ap, sym, ◌∙◌, arith, subst}
use Rattle.std.proofs.lemmas.Map.Text.{btree_map_updates_str}
use Rattle.std.specs.BTreeMap.{BTreeMap, Updates, get_by}
use Rattle.std.specs.Cmp.Lexicographic.{slice_cmp}
use Rattle.std.specs.Ordering.{nat_cmp}
use Rattle.std.specs.Str.{bytes_eq}
use Rattle.std.proofs.lemmas.Slice.Eq.{bytes_eq-Decides}
use Rattle.mpd_model.specs.declared.place.DeclKind.{DeclKind}
use Rattle.mpd_model.specs.declared.slot.Slot.{Slot}
use Rattle.mpd_model.specs.script.Declaration.{Declared, variable_cells, handle_cells, variables_in, handles_in}
use Rattle.mpd_model.specs.grammar.Input.{first_of, slot_from, slot_in}
use Rattle.mpd_script.specs.Cursor.{found_in, or_else, IsPutNew}

abbrev slot_of : ℕ → ℕ → ℕ → Declared → Slot
slot_of n v h d = record { kind = d.kind; declaration = n; first = first_of d.kind v h; size = d.size }

or_cond : (b : Bool) (s : Slot) (x y : Option Slot) → cond b (Some s) (or_else x y) ≡ or_else (cond b (Some s) x) y
or_cond true s x y = refl
or_cond false s x y = refl

abbrev last : ℕ → ℕ → ℕ → Declared → List ℕ → Option Slot
last n v h d name = cond (bytes_eq d.name name) (Some (slot_of n v h d)) None

last_same : (n m v w h k : ℕ) (d : Declared) (name : List ℕ) → n ≡ m → v ≡ w → h ≡ k → last n v h d name ≡ last m w k d name
last_same n m v w h k d name a b c = rw (a, b, c) refl

slot_more : (n v h : ℕ) (ds : List Declared) (d : Declared) (name : List ℕ)
    → slot_from n v h (ds ++ d ∷ []) name ≡ or_else (slot_from n v h ds name) (last (n + length ds) (v + variables_in ds) (h + handles_in ds) d name)
slot_more n v h [] d name = last_same n (n + 0) v (v + 0) h (h + 0) d name (omega arith) (omega arith) (omega arith)
slot_more n v h (e ∷ es) d name =
    let v' = v + variable_cells e.kind e.size in
    let h' = h + handle_cells e.kind e.size in
    let more = slot_more (n + 1) v' h' es d name in
    let same = last_same (n + 1 + length es) (n + length (e ∷ es)) (v' + variables_in es) (v + variables_in (e ∷ es)) (h' + handles_in es) (h + handles_in (e ∷ es)) d name
    (omega arith) (omega arith) (omega arith) in
    ap (λ r. cond (bytes_eq e.name name) (Some (slot_of n v h e)) r) (more ∙ ap (λ r. or_else (slot_from (n + 1) v' h' es name) r) same)
    ∙ or_cond (bytes_eq e.name name) (slot_of n v h e) (slot_from (n + 1) v' h' es name) (last (n + length (e ∷ es)) (v + variables_in (e ∷ es)) (h + handles_in (e ∷ es)) d name)

put_case : (b : Bool) (s : Slot) (old : Option Slot) → (b ≡ true → old ≡ None) → or_else old (cond b (Some s) None) ≡ cond b (Some s) old
put_case true s old h = rw (h refl) refl
put_case false s None h = refl
put_case false s (Some t) h = refl

-- a name stands for what it did, or else for what the last declaration says
slot_last : (ds : List Declared) (d : Declared) (name : List ℕ) → slot_in (ds ++ d ∷ []) name ≡ or_else (slot_in ds name) (last (length ds) (variables_in ds) (handles_in ds) d name)
unfolding slot_in
slot_last ds d name =
    slot_more 0 0 0 ds d name
    ∙ ap (λ r. or_else (slot_from 0 0 0 ds name) r) (last_same (0 + length ds) (length ds) (0 + variables_in ds) (variables_in ds) (0 + handles_in ds) (handles_in ds) d name
    (omega arith) (omega arith) (omega arith))

none_is_none : {A : Type 0} → IsSome {T = Slot} None → A
none_is_none h = absurd (let no : ⊥ = cc in no)

kept_case : (b : Bool) (s : Slot) (old : Option Slot) → (b ≡ true → IsSome old) → old ≡ or_else old (cond b (Some s) None)
kept_case b s (Some t) h = refl
kept_case true s None h = none_is_none (h refl)
kept_case false s None h = refl

-- ---- maps keyed by names

pub none_found : (m : BTreeMap (Bor (List ℕ)) Slot) (ds : List Declared) (name : List ℕ) → m.entries ≡ [] → ds ≡ [] → get_by (λ k. slice_cmp nat_cmp name k.now) m ≡ slot_in ds name
unfolding slot_in
none_found m ds name a b = rw (a, b) refl

abbrev record_slot : DeclKind → ℕ → ℕ → Option ℕ → Slot
record_slot k n f size = record { kind = k; declaration = n; first = f; size = size }

slot_is : (k : DeclKind) (size : Option ℕ) (n m f v w h g : ℕ) → n ≡ m → f ≡ first_of k v h → v ≡ w → h ≡ g
    → record_slot k n f size ≡ record_slot k m (first_of k w g) size
slot_is k size n m f v w h g a b c d = rw (a, b, c, d) refl

-- where the name stands for something, nothing is put
pub put_kept : (key : Bor (List ℕ)) (m : BTreeMap (Bor (List ℕ)) Slot) (slot : Slot) → IsSome (found_in m key.now) → IsPutNew key.now slot m m
put_kept key m slot some w = kept_case (bytes_eq key.now w) slot (found_in m w) (λ e. subst (λ t. IsSome (found_in m t)) ((bytes_eq-Decides key.now w).0 e) some)

-- where it stands for nothing, the slot is put in
pub put_added : (key : Bor (List ℕ)) (m n : BTreeMap (Bor (List ℕ)) Slot) (slot : Slot) → found_in m key.now ≡ None
    → Updates (λ x y. slice_cmp nat_cmp x.now y.now) m n key (Some slot) → IsPutNew key.now slot m n
put_added key m n slot none put w =
    btree_map_updates_str key.now m n (Some slot) put w
    ∙ sym (put_case (bytes_eq key.now w) slot (found_in m w) (λ e. ap (found_in m) (sym ((bytes_eq-Decides key.now w).0 e)) ∙ none))

pub ruleset putting = (put_kept, put_added)

-- a map that shows what names stand for shows it with one more declaration too, once its slot is put in
pub found_put : (key : List ℕ) (m n : BTreeMap (Bor (List ℕ)) Slot) (ds es : List Declared) (d : Declared) (number first v h : ℕ)
    → ((name : List ℕ) → found_in m name ≡ slot_in ds name) → d.name ≡ key
    → number ≡ length ds → first ≡ first_of d.kind v h → v ≡ variables_in ds → h ≡ handles_in ds
    → IsPutNew key (record_slot d.kind number first d.size) m n
    → es ≡ ds ++ d ∷ [] → (name : List ℕ) → found_in n name ≡ slot_in es name
found_put key m n ds es d number first v h old same a b c e put is name =
    let s = slot_is d.kind d.size number (length ds) first v (variables_in ds) h (handles_in ds) a b c e in
    put name
    ∙ ap (λ o. or_else o (cond (bytes_eq key name) (Some (record_slot d.kind number first d.size)) None)) (old name)
    ∙ ap (λ k. or_else (slot_in ds name) (cond (bytes_eq k name) (Some (record_slot d.kind number first d.size)) None)) (sym same)
    ∙ ap (λ t. or_else (slot_in ds name) (cond (bytes_eq d.name name) (Some t) None)) s
    ∙ sym (slot_last ds d name)
    ∙ ap (λ r. slot_in r name) (sym is)
