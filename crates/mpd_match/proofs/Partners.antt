-- The partners that match sets give, and what a set more changes.
use Rattle.std.proofs.Common.{◌≡◌, ◌≢◌, ℕ, ◌+◌, Bool, true, false, cond, ◌&&◌, eqb, is_some, Option, Some, None, List, [], ◌∷◌, ◌++◌, ◌⊎◌, inl, inr, refl, sym, ap, ◌∙◌, arith}
use Rattle.std.specs.Prelude.{if◌then◌else◌}
use Rattle.std.proofs.lemmas.Bool.{eqb-true, and_parts}
use Rattle.std.proofs.lemmas.Bool.Decides.{eqb_tells}
use Rattle.mpd_model.specs.declared.step.CallId.{CallId}
use Rattle.mpd_model.specs.declared.call.CallKind.{CallKind}
use Rattle.mpd_model.specs.declared.call.CallKind.TheVariants.{Send, Recv}
use Rattle.mpd_model.specs.declared.call.MatchSet.{MatchSet}
use Rattle.mpd_model.specs.declared.call.MatchSet.TheVariants.{Pair, Woke}
use Rattle.mpd_model.specs.declared.call.MatchSet.TheVariants as set
use Rattle.mpd_model.specs.steps.World.{id_eq, is_any_or, partner, fitting}
use Rattle.mpd_match.specs.Lines.{line_of, with_partner}
use Rattle.mpd_match.specs.Pairs.{Paired}
use Rattle.mpd_match.specs.Changes.{is_lone}

-- ---- numbers of calls

pub id_tells : (a b : CallId) → ((id_eq a b ≡ true) × (a ≡ b)) ⊎ ((id_eq a b ≡ false) × (a ≢ b))
id_tells a b =
    elim (eqb_tells a.rank b.rank) [
      | inl p ↦ elim (eqb_tells a.index b.index) [
        | inl i ↦ inl (ap (λ (t : Bool). t && eqb a.index b.index) p.0 ∙ i.0, λ k. record { rank = p.1 k; index = i.1 k })
        | inr i ↦ inr (ap (λ (t : Bool). t && eqb a.index b.index) p.0 ∙ i.0, λ e. i.1 (ap (λ (c : CallId). c.index) e))
      ]
      | inr p ↦ inr (ap (λ (t : Bool). t && eqb a.index b.index) p.0, λ e. p.1 (ap (λ (c : CallId). c.rank) e))
    ]

pub id_same : (a b : CallId) → a ≡ b → id_eq a b ≡ true
id_same a b e = elim (id_tells a b) [ inl t ↦ t.0 | inr t ↦ absurd (t.1 e) ]

pub id_other : (a b : CallId) → a ≢ b → id_eq a b ≡ false
id_other a b ne = elim (id_tells a b) [ inl t ↦ absurd (ne t.1) | inr t ↦ t.0 ]

pub with_partner_here : (mark : CallId → Option CallId) (id : CallId) (p : Option CallId) (c : CallId) → id ≡ c → with_partner mark id p c ≡ p
with_partner_here mark id p c e = ap (λ (b : Bool). cond b p (mark c)) (id_same c id (sym e))

pub with_partner_there : (mark : CallId → Option CallId) (id : CallId) (p : Option CallId) (c : CallId) → id ≢ c → with_partner mark id p c ≡ mark c
with_partner_there mark id p c ne = ap (λ (b : Bool). cond b p (mark c)) (id_other c id (λ e. ne (sym e)))

-- ---- the first of several sets

pair_first : (s r : CallId) (sets : List MatchSet) (c : CallId) → s ≡ c → partner (Pair s r ∷ sets) c ≡ Some r
pair_first s r sets c e = ap (λ (b : Bool). if b then Some r else (if id_eq r c then Some s else partner sets c)) (id_same s c e)

pair_second : (s r : CallId) (sets : List MatchSet) (c : CallId) → s ≢ c → r ≡ c → partner (Pair s r ∷ sets) c ≡ Some s
pair_second s r sets c ne e =
    ap (λ (b : Bool). if b then Some r else (if id_eq r c then Some s else partner sets c)) (id_other s c ne)
    ∙ ap (λ (b : Bool). if b then Some s else partner sets c) (id_same r c e)

pair_past : (s r : CallId) (sets : List MatchSet) (c : CallId) → s ≢ c → r ≢ c → partner (Pair s r ∷ sets) c ≡ partner sets c
pair_past s r sets c ne nf =
    ap (λ (b : Bool). if b then Some r else (if id_eq r c then Some s else partner sets c)) (id_other s c ne)
    ∙ ap (λ (b : Bool). if b then Some s else partner sets c) (id_other r c nf)

-- a call that no set names is not of the first
not_named : (s r : CallId) (sets : List MatchSet) (c : CallId) → partner (Pair s r ∷ sets) c ≡ None → (s ≢ c) × (r ≢ c) × (partner sets c ≡ None)
not_named s r sets c e =
    elim (id_tells s c) [
      | inl t ↦ absurd (let f : Some r ≡ None = sym (pair_first s r sets c t.1) ∙ e in cc)
      | inr t ↦ elim (id_tells r c) [
        | inl u ↦ absurd (let f : Some s ≡ None = sym (pair_second s r sets c t.1 u.1) ∙ e in cc)
        | inr u ↦ (t.1, u.1, sym (pair_past s r sets c t.1 u.1) ∙ e)
      ]
    ]

pub is_named : (s r : CallId) (sets : List MatchSet) (c : CallId) → (s ≡ c) ⊎ (r ≡ c) → is_some (partner (Pair s r ∷ sets) c) ≡ true
is_named s r sets c (inl e) = ap (λ (o : Option CallId). is_some o) (pair_first s r sets c e)
is_named s r sets c (inr e) =
    elim (id_tells s c) [
      | inl t ↦ ap (λ (o : Option CallId). is_some o) (pair_first s r sets c t.1)
      | inr t ↦ ap (λ (o : Option CallId). is_some o) (pair_second s r sets c t.1 e)
    ]

still_named : (s r : CallId) (sets : List MatchSet) (c : CallId) → is_some (partner sets c) ≡ true → is_some (partner (Pair s r ∷ sets) c) ≡ true
still_named s r sets c e =
    elim (id_tells s c) [
      | inl t ↦ is_named s r sets c (inl t.1)
      | inr t ↦ elim (id_tells r c) [
        | inl u ↦ is_named s r sets c (inr u.1)
        | inr u ↦ ap (λ (o : Option CallId). is_some o) (pair_past s r sets c t.1 u.1) ∙ e
      ]
    ]

-- ---- a set more, at the end

partner_new : (sets : List MatchSet) (m : MatchSet) (c : CallId) → partner sets c ≡ None → partner (sets ++ m ∷ []) c ≡ partner (m ∷ []) c
partner_new [] m c e = refl
partner_new (Pair s r ∷ sets) m c e =
    let far = not_named s r sets c e in
    pair_past s r (sets ++ m ∷ []) c far.0 far.1 ∙ partner_new sets m c far.2
partner_new (Woke d ∷ sets) m c e = partner_new sets m c e
partner_new (set.Barrier ∷ sets) m c e = partner_new sets m c e

partner_past : (sets : List MatchSet) (m : MatchSet) (c : CallId) → partner (m ∷ []) c ≡ None → partner (sets ++ m ∷ []) c ≡ partner sets c
partner_past [] m c e = e
partner_past (Pair s r ∷ sets) m c e =
    elim (id_tells s c) [
      | inl t ↦ pair_first s r (sets ++ m ∷ []) c t.1 ∙ sym (pair_first s r sets c t.1)
      | inr t ↦ elim (id_tells r c) [
        | inl u ↦ pair_second s r (sets ++ m ∷ []) c t.1 u.1 ∙ sym (pair_second s r sets c t.1 u.1)
        | inr u ↦ pair_past s r (sets ++ m ∷ []) c t.1 u.1 ∙ partner_past sets m c e ∙ sym (pair_past s r sets c t.1 u.1)
      ]
    ]
partner_past (Woke d ∷ sets) m c e = partner_past sets m c e
partner_past (set.Barrier ∷ sets) m c e = partner_past sets m c e

lone_partner : (m : MatchSet) (c : CallId) → is_lone (Some m) ≡ true → partner (m ∷ []) c ≡ None
lone_partner (Pair s r) c e = absurd (cc)
lone_partner (Woke d) c e = refl
lone_partner set.Barrier c e = refl

pub partner_lone : (sets : List MatchSet) (m : MatchSet) (c : CallId) → is_lone (Some m) ≡ true → partner (sets ++ m ∷ []) c ≡ partner sets c
partner_lone sets m c e = partner_past sets m c (lone_partner m c e)

pub new_first : (sets : List MatchSet) (s r : CallId) → partner sets s ≡ None → partner (sets ++ Pair s r ∷ []) s ≡ Some r
new_first sets s r e = partner_new sets (Pair s r) s e ∙ pair_first s r [] s refl

pub new_second : (sets : List MatchSet) (s r : CallId) → s ≢ r → partner sets r ≡ None → partner (sets ++ Pair s r ∷ []) r ≡ Some s
new_second sets s r ne e = partner_new sets (Pair s r) r e ∙ pair_second s r [] r ne refl

pub new_past : (sets : List MatchSet) (s r c : CallId) → s ≢ c → r ≢ c → partner (sets ++ Pair s r ∷ []) c ≡ partner sets c
new_past sets s r c ne nf = partner_past sets (Pair s r) c (pair_past s r [] c ne nf)

-- the partners of all calls, once two of them are paired
pub paired_marks : (mark mid new : CallId → Option CallId) (sets : List MatchSet) (s r : CallId) → s ≢ r → partner sets s ≡ None → partner sets r ≡ None
    → ((c : CallId) → mark c ≡ partner sets c) → ((c : CallId) → mid c ≡ with_partner mark s (Some r) c) → ((c : CallId) → new c ≡ with_partner mid r (Some s) c)
    → (c : CallId) → new c ≡ partner (sets ++ Pair s r ∷ []) c
paired_marks mark mid new sets s r ne ns nr is first second c =
    elim (id_tells r c) [
      | inl u ↦ second c ∙ with_partner_here mid r (Some s) c u.1 ∙ sym (new_second sets s r ne nr) ∙ ap (partner (sets ++ Pair s r ∷ [])) u.1
      | inr u ↦ second c ∙ with_partner_there mid r (Some s) c u.1 ∙ first c ∙ elim (id_tells s c) [
        | inl t ↦ with_partner_here mark s (Some r) c t.1 ∙ sym (new_first sets s r ns) ∙ ap (partner (sets ++ Pair s r ∷ [])) t.1
        | inr t ↦ with_partner_there mark s (Some r) c t.1 ∙ is c ∙ sym (new_past sets s r c t.1 u.1)
      ]
    ]

-- and once they are free again
pub unpaired_marks : (mark mid new : CallId → Option CallId) (sets : List MatchSet) (s r : CallId) → partner sets s ≡ None → partner sets r ≡ None
    → ((c : CallId) → mark c ≡ partner (sets ++ Pair s r ∷ []) c) → ((c : CallId) → mid c ≡ with_partner mark s None c) → ((c : CallId) → new c ≡ with_partner mid r None c)
    → (c : CallId) → new c ≡ partner sets c
unpaired_marks mark mid new sets s r ns nr is first second c =
    elim (id_tells r c) [
      | inl u ↦ second c ∙ with_partner_here mid r None c u.1 ∙ sym nr ∙ ap (partner sets) u.1
      | inr u ↦ second c ∙ with_partner_there mid r None c u.1 ∙ first c ∙ elim (id_tells s c) [
        | inl t ↦ with_partner_here mark s None c t.1 ∙ sym ns ∙ ap (partner sets) t.1
        | inr t ↦ with_partner_there mark s None c t.1 ∙ is c ∙ new_past sets s r c t.1 u.1
      ]
    ]

-- ---- pairs of calls that fit

pub fitting_lines : (one other : Option CallKind) (p q : ℕ) → fitting one other p q ≡ true → (line_of one ≡ Some (q + 1)) × (line_of other ≡ Some 0)
fitting_lines (Some (Send s)) (Some (Recv r)) p q e = (ap (λ (n : ℕ). Some (n + 1)) (eqb-true s.to q (and_parts (eqb s.to q) (is_any_or r.from p && is_any_or r.tag s.tag) e).0), refl)
fitting_lines one other p q e = absurd (cc)

pub fitting_differ : (kind : CallId → Option CallKind) (s r : CallId) → fitting (kind s) (kind r) s.rank r.rank ≡ true → s ≢ r
fitting_differ kind s r e same =
    let lines = fitting_lines (kind s) (kind r) s.rank r.rank e in
    let f : Some (r.rank + 1) ≡ Some 0 = sym lines.0 ∙ ap (λ (c : CallId). line_of (kind c)) same ∙ lines.1 in
    let g : r.rank + 1 ≡ 0 = cc in omega arith

has_kind : (o : Option CallKind) (line : ℕ) → line_of o ≡ Some line → is_some o ≡ true
has_kind None line e = absurd (cc)
has_kind (Some k) line e = refl

pub paired_kept : (kind kind' : CallId → Option CallKind) (sets : List MatchSet) → ((c : CallId) → is_some (kind c) ≡ true → is_some (partner sets c) ≡ true → kind' c ≡ kind c) → Paired kind sets → Paired kind' sets
paired_kept kind kind' [] same h = tt
paired_kept kind kind' (Pair s r ∷ sets) same h =
    let lines = fitting_lines (kind s) (kind r) s.rank r.rank h.0 in
    let es : kind' s ≡ kind s = same s (has_kind (kind s) (r.rank + 1) lines.0) (is_named s r sets s (inl refl)) in
    let er : kind' r ≡ kind r = same r (has_kind (kind r) 0 lines.1) (is_named s r sets r (inr refl)) in (
      ap (λ (k : Option CallKind). fitting k (kind' r) s.rank r.rank) es ∙ ap (λ (k : Option CallKind). fitting (kind s) k s.rank r.rank) er ∙ h.0,
      h.1,
      h.2,
      paired_kept kind kind' sets (λ c some named. same c some (still_named s r sets c named)) h.3,
    )
paired_kept kind kind' (Woke d ∷ sets) same h = paired_kept kind kind' sets same h
paired_kept kind kind' (set.Barrier ∷ sets) same h = paired_kept kind kind' sets same h

pub paired_more : (kind : CallId → Option CallKind) (sets : List MatchSet) (s r : CallId) → Paired kind sets → fitting (kind s) (kind r) s.rank r.rank ≡ true → partner sets s ≡ None → partner sets r ≡ None
    → Paired kind (sets ++ Pair s r ∷ [])
paired_more kind [] s r h fit ns nr = (fit, refl, refl, tt)
paired_more kind (Pair a b ∷ sets) s r h fit ns nr =
    let fs = not_named a b sets s ns in
    let fr = not_named a b sets r nr in (
      h.0,
      new_past sets s r a (λ e. fs.0 (sym e)) (λ e. fr.0 (sym e)) ∙ h.1,
      new_past sets s r b (λ e. fs.1 (sym e)) (λ e. fr.1 (sym e)) ∙ h.2,
      paired_more kind sets s r h.3 fit fs.2 fr.2,
    )
paired_more kind (Woke d ∷ sets) s r h fit ns nr = paired_more kind sets s r h fit ns nr
paired_more kind (set.Barrier ∷ sets) s r h fit ns nr = paired_more kind sets s r h fit ns nr

lone_paired : (kind : CallId → Option CallKind) (m : MatchSet) → is_lone (Some m) ≡ true → Paired kind (m ∷ [])
lone_paired kind (Pair s r) e = absurd (cc)
lone_paired kind (Woke d) e = tt
lone_paired kind set.Barrier e = tt

pub paired_lone : (kind : CallId → Option CallKind) (sets : List MatchSet) (m : MatchSet) → is_lone (Some m) ≡ true → Paired kind sets → Paired kind (sets ++ m ∷ [])
paired_lone kind [] m e h = lone_paired kind m e
paired_lone kind (Pair a b ∷ sets) m e h = (h.0, partner_lone sets m a e ∙ h.1, partner_lone sets m b e ∙ h.2, paired_lone kind sets m e h.3)
paired_lone kind (Woke d ∷ sets) m e h = paired_lone kind sets m e h
paired_lone kind (set.Barrier ∷ sets) m e h = paired_lone kind sets m e h

pub unpaired_lone : (kind : CallId → Option CallKind) (sets : List MatchSet) (m : MatchSet) → is_lone (Some m) ≡ true → Paired kind (sets ++ m ∷ []) → Paired kind sets
unpaired_lone kind [] m e h = tt
unpaired_lone kind (Pair a b ∷ sets) m e h = (h.0, sym (partner_lone sets m a e) ∙ h.1, sym (partner_lone sets m b e) ∙ h.2, unpaired_lone kind sets m e h.3)
unpaired_lone kind (Woke d ∷ sets) m e h = unpaired_lone kind sets m e h
unpaired_lone kind (set.Barrier ∷ sets) m e h = unpaired_lone kind sets m e h

-- a call that no set names, with a pair more, is not of that pair
apart_from : (sets : List MatchSet) (s r c : CallId) → s ≢ r → partner sets s ≡ None → partner sets r ≡ None → partner (sets ++ Pair s r ∷ []) c ≡ None → (s ≢ c) × (r ≢ c) × (partner sets c ≡ None)
apart_from sets s r c ne ns nr e =
    let fs : s ≢ c = λ same. let f : Some r ≡ None = sym (new_first sets s r ns) ∙ ap (partner (sets ++ Pair s r ∷ [])) same ∙ e in cc in
    let fr : r ≢ c = λ same. let f : Some s ≡ None = sym (new_second sets s r ne nr) ∙ ap (partner (sets ++ Pair s r ∷ [])) same ∙ e in cc in
    (fs, fr, sym (new_past sets s r c fs fr) ∙ e)

pub last_paired : (kind : CallId → Option CallKind) (sets : List MatchSet) (s r : CallId) → Paired kind (sets ++ Pair s r ∷ [])
    → (fitting (kind s) (kind r) s.rank r.rank ≡ true) × (partner sets s ≡ None) × (partner sets r ≡ None) × Paired kind sets
last_paired kind [] s r h = (h.0, refl, refl, tt)
last_paired kind (Pair a b ∷ sets) s r h =
    let rest = last_paired kind sets s r h.3 in
    let ne : s ≢ r = fitting_differ kind s r rest.0 in
    let fa = apart_from sets s r a ne rest.1 rest.2 h.1 in
    let fb = apart_from sets s r b ne rest.1 rest.2 h.2 in (
      rest.0,
      pair_past a b sets s (λ e. fa.0 (sym e)) (λ e. fb.0 (sym e)) ∙ rest.1,
      pair_past a b sets r (λ e. fa.1 (sym e)) (λ e. fb.1 (sym e)) ∙ rest.2,
      (h.0, fa.2, fb.2, rest.3),
    )
last_paired kind (Woke d ∷ sets) s r h = last_paired kind sets s r h
last_paired kind (set.Barrier ∷ sets) s r h = last_paired kind sets s r h
