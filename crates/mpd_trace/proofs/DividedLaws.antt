-- How an input is divided, byte by byte.
use Rattle.std.proofs.Common.{◌≡◌, ◌≢◌, ℕ, ◌+◌, ◌<◌, ◌≤◌, arith, get_or, drop, drop-cons, add-one, Bool, true, false, ◌&&◌, ◌||◌, ◌==◌, not, if◌then◌else◌, List, [], ◌∷◌, ◌++◌, length, refl, ap, sym, subst, ◌∙◌, append_assoc, append-nil}
use Rattle.mpd_model.specs.texts.Lines.{raw_lines, grow, joined, bare, divided, divided_lines, is_divider, same_bytes, is_ending, is_feed, is_none}
use Rattle.std.proofs.lemmas.Bool.{eqb-true, and_from}
use Rattle.mpd_trace.specs.Divided.{Begun, begun, added, is_prefix, may_divide, ends_script, splits, settled_lines, ByteBrings, Measures}
use Rattle.mpd_trace.specs.declared.divider.Taken.{Taken}
use Rattle.mpd_trace.specs.declared.divider.Taken.TheVariants.{Open, Here, TooLong}
use Rattle.mpd_laws.proofs.cutting.LineCuts.{is_part, joined_raw_lines, raw_feed, raw_part, bare_part, part_snoc, part_head, part_tail, and_first, and_second}

abbrev Halves : Type 0
Halves = List ℕ × List ℕ

abbrev before : List ℕ → Halves → Halves
before xs h = (xs ++ h.0, h.1)

before_twice : (xs ys : List ℕ) (h : Halves) → before (xs ++ ys) h ≡ before xs (before ys h)
before_twice xs ys h = ap (λ x. let p : Halves = (x, h.1) in p) (append_assoc xs ys h.0)

-- what may divide has no line feed
no_feed_in : (l t : List ℕ) → is_part t ≡ true → is_prefix l t ≡ true → is_part l ≡ true
no_feed_in [] t e p = refl
no_feed_in (b ∷ l) [] e p = absurd (let h : false ≡ true = p in cc)
no_feed_in (b ∷ l) (c ∷ t) e p =
    and_from (not (b == 10)) (is_part l)
    (let P : ℕ → Type 0 = λ x. not (x == 10) ≡ true in subst P (sym (eqb-true b c (and_first (b == c) (is_prefix l t) p))) (and_first (not (c == 10)) (is_part t) e))
    (no_feed_in l t (part_tail c t e) (and_second (b == c) (is_prefix l t) p))

pub may_divide_part : (l : List ℕ) → may_divide l ≡ true → is_part l ≡ true
may_divide_part l e = no_feed_in l (45 ∷ 45 ∷ 45 ∷ 13 ∷ []) refl e

-- a line feed that ends the line which divides
divided_feed : (line z : List ℕ) → is_part line ≡ true → is_divider (line ++ 10 ∷ []) ≡ true → divided (line ++ 10 ∷ z) ≡ ([], z)
divided_feed line z e d =
    ap divided_lines (raw_feed line z 10 refl e)
    ∙ ap (λ (v : Bool). if v then ([], joined (raw_lines z)) else before (line ++ 10 ∷ []) (divided z)) d
    ∙ ap (λ x. let p : Halves = ([], x) in p) (joined_raw_lines z)

divided_other : (line z : List ℕ) → is_part line ≡ true → is_divider (line ++ 10 ∷ []) ≡ false → divided (line ++ 10 ∷ z) ≡ before (line ++ 10 ∷ []) (divided z)
divided_other line z e d =
    ap divided_lines (raw_feed line z 10 refl e) ∙ ap (λ (v : Bool). if v then ([], joined (raw_lines z)) else before (line ++ 10 ∷ []) (divided z)) d

pub divides_here : (known line : List ℕ) (settled : Bool) (z : List ℕ) → may_divide line ≡ true → ends_script (begun known line settled) ≡ true
    → splits (begun known line settled) (10 ∷ z) ≡ (known, z)
divides_here known line true z e d = absurd (let h : false ≡ true = d in cc)
divides_here known line false z e d =
    ap (λ h. before known h) (divided_feed line z (may_divide_part line e) d) ∙ ap (λ x. let p : Halves = (x, z) in p) (append-nil known)

pub ends_here : (known line : List ℕ) (settled : Bool) (z : List ℕ) → may_divide line ≡ true → (settled ≡ true → line ≡ []) → ends_script (begun known line settled) ≡ false
    → splits (begun (known ++ line ++ 10 ∷ []) [] false) z ≡ splits (begun known line settled) (10 ∷ z)
ends_here known line true z e none d =
    ap (λ l. before ((known ++ l) ++ 10 ∷ []) (divided z)) (none refl) ∙ ap (λ x. before (x ++ 10 ∷ []) (divided z)) (append-nil known) ∙ before_twice known (10 ∷ []) (divided z)
ends_here known line false z e none d =
    ap (λ x. before x (divided z)) (append_assoc known line (10 ∷ [])) ∙ before_twice known (line ++ 10 ∷ []) (divided z) ∙ ap (λ h. before known h) (sym (divided_other line z (may_divide_part line e) d))

-- one byte more of a line that doesn't divide
settled_grow : (b : ℕ) (ls : List (List ℕ)) → settled_lines (grow b ls) ≡ before (b ∷ []) (settled_lines ls)
settled_grow b [] = refl
settled_grow b (l ∷ ls) = refl

raw_other : (b : ℕ) (z : List ℕ) → (b == 10) ≡ false → raw_lines (b ∷ z) ≡ grow b (raw_lines z)
raw_other b z f = ap (λ (v : Bool). if v then (b ∷ []) ∷ raw_lines z else grow b (raw_lines z)) f

-- lines behind the beginning of one
abbrev attach : List ℕ → List (List ℕ) → List (List ℕ)
attach p [] = p ∷ []
attach p (l ∷ ls) = (p ++ l) ∷ ls

grow_attach : (b : ℕ) (p : List ℕ) (ls : List (List ℕ)) → grow b (attach p ls) ≡ attach (b ∷ p) ls
grow_attach b p [] = refl
grow_attach b p (l ∷ ls) = refl

grow_one : (b : ℕ) (ls : List (List ℕ)) → grow b ls ≡ attach (b ∷ []) ls
grow_one b [] = refl
grow_one b (l ∷ ls) = refl

raw_attach : (b : ℕ) (p z : List ℕ) → is_part (b ∷ p) ≡ true → raw_lines (b ∷ (p ++ z)) ≡ attach (b ∷ p) (raw_lines z)
raw_attach b [] z e = raw_other b z (part_head b [] e) ∙ grow_one b (raw_lines z)
raw_attach b (c ∷ p) z e =
    raw_other b (c ∷ (p ++ z)) (part_head b (c ∷ p) e) ∙ ap (λ ls. grow b ls) (raw_attach c p z (part_tail b (c ∷ p) e)) ∙ grow_attach b (c ∷ p) (raw_lines z)

-- a line that begins with what can't divide doesn't divide
ending_feed : (b : ℕ) (l w : List ℕ) → (b == 10) ≡ false → is_ending b (l ++ w) ≡ true → (b == 13 && is_feed (l ++ w)) ≡ true
ending_feed b l w f e =
    let P : Bool → Type 0 = λ v. ((v && is_none (l ++ w)) || (b == 13 && is_feed (l ++ w))) ≡ true in subst P f e

feed_behind : (l w : List ℕ) → is_part l ≡ true → is_feed (l ++ w) ≡ true → l ≡ []
feed_behind [] w e f = refl
feed_behind (c ∷ []) [] e f = absurd (let g : (c == 10) ≡ false = part_head c [] e in let h : true ≡ false = sym f ∙ g in cc)
feed_behind (c ∷ []) (d ∷ w) e f = absurd (let h : false ≡ true = f in cc)
feed_behind (c ∷ d ∷ l) w e f = absurd (let h : false ≡ true = f in cc)

prefix_return : (b : ℕ) (l t : List ℕ) → l ≡ [] → (b == 13) ≡ true → same_bytes [] t ≡ true → is_prefix (b ∷ l) (t ++ 13 ∷ []) ≡ true
prefix_return b l [] e r s = ap (λ x. (b == 13) && is_prefix x []) e ∙ and_from (b == 13) true r refl
prefix_return b l (c ∷ t) e r s = absurd (let h : false ≡ true = s in cc)

prefix_step : (b : ℕ) (l t u : List ℕ) → same_bytes (b ∷ u) t ≡ true → ((v : List ℕ) → same_bytes u v ≡ true → is_prefix l (v ++ 13 ∷ []) ≡ true) → is_prefix (b ∷ l) (t ++ 13 ∷ []) ≡ true
prefix_step b l [] u s ih = absurd (let h : false ≡ true = s in cc)
prefix_step b l (c ∷ t) u s ih = and_from (b == c) (is_prefix l (t ++ 13 ∷ [])) (and_first (b == c) (same_bytes u t) s) (ih t (and_second (b == c) (same_bytes u t) s))

prefix_of_bare : (l w t : List ℕ) → is_part l ≡ true → same_bytes (bare (l ++ w)) t ≡ true → is_prefix l (t ++ 13 ∷ []) ≡ true
prefix_of_bare [] w t e s = refl
prefix_of_bare (b ∷ l) w t e s =
    elim (is_ending b (l ++ w)) as (λ v. is_ending b (l ++ w) ≡ v → same_bytes (if v then [] else b ∷ bare (l ++ w)) t ≡ true → is_prefix (b ∷ l) (t ++ 13 ∷ []) ≡ true) [
      | true ↦ λ f h.
          let k = ending_feed b l w (part_head b l e) f in
          prefix_return b l t (feed_behind l w (part_tail b l e) (and_second (b == 13) (is_feed (l ++ w)) k)) (and_first (b == 13) (is_feed (l ++ w)) k) h
      | false ↦ λ f h. prefix_step b l t (bare (l ++ w)) h (λ v g. prefix_of_bare l w v (part_tail b l e) g)
    ] refl s

divider_not : (l w : List ℕ) → is_part l ≡ true → may_divide l ≡ false → is_divider (l ++ w) ≡ false
divider_not l w e m =
    elim (is_divider (l ++ w)) as (λ v. is_divider (l ++ w) ≡ v → v ≡ false)
    [ true ↦ λ f. absurd (let g : may_divide l ≡ true = prefix_of_bare l w (45 ∷ 45 ∷ 45 ∷ []) e f in let h : true ≡ false = sym g ∙ m in cc) | false ↦ λ f. refl ] refl

attach_divided : (p : List ℕ) (ls : List (List ℕ)) → ((w : List ℕ) → is_divider (p ++ w) ≡ false) → divided_lines (attach p ls) ≡ before p (settled_lines ls)
attach_divided p [] never = ap (λ (v : Bool). let r : Halves = if v then ([], joined []) else before p ([], []) in r) (ap is_divider (sym (append-nil p)) ∙ never [])
attach_divided p (l ∷ ls) never =
    ap (λ (v : Bool). let r : Halves = if v then ([], joined ls) else before (p ++ l) (divided_lines ls) in r) (never l) ∙ before_twice p l (divided_lines ls)

flush : (b : ℕ) (p z : List ℕ) → is_part (b ∷ p) ≡ true → may_divide (b ∷ p) ≡ false → divided (b ∷ (p ++ z)) ≡ before (b ∷ p) (settled_lines (raw_lines z))
flush b p z e m = ap divided_lines (raw_attach b p z e) ∙ attach_divided (b ∷ p) (raw_lines z) (λ w. divider_not (b ∷ p) w e m)

flush_any : (p z : List ℕ) → is_part p ≡ true → may_divide p ≡ false → divided (p ++ z) ≡ before p (settled_lines (raw_lines z))
flush_any [] z e m = absurd (let h : true ≡ false = m in cc)
flush_any (b ∷ p) z e m = flush b p z e m

pub goes_on : (known line : List ℕ) (settled : Bool) (b : ℕ) (z : List ℕ) → (b == 10) ≡ false → may_divide line ≡ true → (settled ≡ true → line ≡ [])
    → splits (added (begun known line settled) b) z ≡ splits (begun known line settled) (b ∷ z)
goes_on known line true b z f e none =
    before_twice known (b ∷ []) (settled_lines (raw_lines z))
    ∙ ap (λ h. before known h) (sym (settled_grow b (raw_lines z))) ∙ ap (λ ls. before known (settled_lines ls)) (sym (raw_other b z f))
goes_on known line false b z f e none =
    elim (may_divide (line ++ b ∷ [])) as (λ v. may_divide (line ++ b ∷ []) ≡ v
    → splits (if v then begun known (line ++ b ∷ []) false else begun (known ++ line ++ b ∷ []) [] true) z ≡ before known (divided (line ++ b ∷ z))) [
      | true ↦ λ m. ap (λ x. before known (divided x)) (append_assoc line (b ∷ []) z)
      | false ↦ λ m. ap (λ x. before x (settled_lines (raw_lines z))) (append_assoc known line (b ∷ [])) ∙ before_twice known (line ++ b ∷ []) (settled_lines (raw_lines z))
          ∙ ap (λ h. before known h) (sym (flush_any (line ++ b ∷ []) z (part_snoc line b (may_divide_part line e) f) m))
          ∙ ap (λ x. before known (divided x)) (append_assoc line (b ∷ []) z)
    ] refl

not_same : (b c : ℕ) → b ≢ c → (b == c) ≡ false
not_same b c ne = elim (b == c) as (λ v. (b == c) ≡ v → v ≡ false) [ true ↦ λ e. absurd (ne (eqb-true b c e)) | false ↦ λ e. refl ] refl

splits_known : (b : Begun) (z : List ℕ) → (more : List ℕ) × ((splits b z).0 ≡ b.known ++ more)
splits_known b z =
    elim b.settled as (λ v. (more : List ℕ) × ((if v then before b.known (settled_lines (raw_lines z)) else before b.known (divided (b.line ++ z))).0 ≡ b.known ++ more))
    [ true ↦ ((settled_lines (raw_lines z)).0, refl) | false ↦ ((divided (b.line ++ z)).0, refl) ]

-- a byte that doesn't end the line that divides
pub takes_on : (old new : Begun) (b : ℕ) (taken : Taken) → ((z : List ℕ) → splits new z ≡ splits old (b ∷ z)) → Measures (length new.known) taken → ByteBrings old b taken new
takes_on old new b Open same m = (same, m)
takes_on old new b Here same m = absurd m
takes_on old new b TooLong same m = ((λ z. let k = splits_known new z in (k.0, ap (λ (h : Halves). h.0) (sym (same z)) ∙ k.1)), m)

pub takes_byte : (known line : List ℕ) (settled : Bool) (old new : Begun) (b : ℕ) (taken : Taken) → old ≡ begun known line settled → may_divide line ≡ true → (settled ≡ true → line ≡ [])
    → b ≢ 10 → new ≡ added old b → Measures (length new.known) taken → ByteBrings old b taken new
takes_byte known line settled old new b taken is e none ne on m =
    takes_on old new b taken (λ z. ap (λ (x : Begun). splits x z) (on ∙ ap (λ (x : Begun). added x b) is) ∙ goes_on known line settled b z (not_same b 10 ne) e none ∙ ap (λ (x : Begun). splits x (b ∷ z)) (sym is)) m

pub takes_feed : (known line : List ℕ) (settled : Bool) (old new : Begun) (b : ℕ) (taken : Taken) → old ≡ begun known line settled → may_divide line ≡ true → (settled ≡ true → line ≡ [])
    → b ≡ 10 → ends_script old ≡ false → new ≡ begun (old.known ++ old.line ++ 10 ∷ []) [] false → Measures (length new.known) taken → ByteBrings old b taken new
takes_feed known line settled old new b taken is e none ten other on m =
    takes_on old new b taken
    (λ z. ap (λ (x : Begun). splits x z) (on ∙ ap (λ (x : Begun). begun (x.known ++ x.line ++ 10 ∷ []) [] false) is)
    ∙ ends_here known line settled z e none (ap ends_script (sym is) ∙ other) ∙ ap (λ (x : Begun). splits x (10 ∷ z)) (sym is) ∙ ap (λ x. splits old (x ∷ z)) (sym ten)) m

pub takes_divider : (known line : List ℕ) (settled : Bool) (old : Begun) (b : ℕ) (z : List ℕ) → old ≡ begun known line settled → may_divide line ≡ true
    → b ≡ 10 → ends_script old ≡ true → splits old (b ∷ z) ≡ (let p : Halves = (old.known, z) in p)
takes_divider known line settled old b z is e ten here =
    ap (λ (x : Begun). splits x (b ∷ z)) is ∙ ap (λ x. splits (begun known line settled) (x ∷ z)) ten
    ∙ divides_here known line settled z e (ap ends_script (sym is) ∙ here) ∙ ap (λ (x : Begun). let p : Halves = (x.known, z) in p) (sym is)

-- the end of the input
pub finish_here : (known line : List ℕ) (settled : Bool) → may_divide line ≡ true → (settled ≡ true → line ≡ []) → same_bytes line (45 ∷ 45 ∷ 45 ∷ []) ≡ true
    → splits (begun known line settled) [] ≡ (known, [])
finish_here known line true e none s = absurd (let h : false ≡ true = ap (λ l. same_bytes l (45 ∷ 45 ∷ 45 ∷ [])) (sym (none refl)) ∙ s in cc)
finish_here known [] false e none s = absurd (let h : false ≡ true = s in cc)
finish_here known (b ∷ l) false e none s =
    let part = may_divide_part (b ∷ l) e in
    ap (λ x. before known (divided x)) (append-nil (b ∷ l)) ∙ ap (λ x. before known (divided_lines x)) (raw_part (b ∷ l) part)
    ∙ ap (λ (v : Bool). before known (let r : Halves = if v then ([], joined []) else before (b ∷ l) ([], []) in r)) (ap (λ x. same_bytes x (45 ∷ 45 ∷ 45 ∷ [])) (bare_part (b ∷ l) part) ∙ s)
    ∙ ap (λ x. let p : Halves = (x, []) in p) (append-nil known)

pub finish_other : (known line : List ℕ) (settled : Bool) → may_divide line ≡ true → (settled ≡ true → line ≡ []) → same_bytes line (45 ∷ 45 ∷ 45 ∷ []) ≡ false
    → splits (begun known line settled) [] ≡ (known ++ line, [])
finish_other known line true e none s = ap (λ x. let p : Halves = (known ++ x, []) in p) (sym (none refl))
finish_other known [] false e none s = refl
finish_other known (b ∷ l) false e none s =
    let part = may_divide_part (b ∷ l) e in
    ap (λ x. before known (divided x)) (append-nil (b ∷ l)) ∙ ap (λ x. before known (divided_lines x)) (raw_part (b ∷ l) part)
    ∙ ap (λ (v : Bool). before known (let r : Halves = if v then ([], joined []) else before (b ∷ l) ([], []) in r)) (ap (λ x. same_bytes x (45 ∷ 45 ∷ 45 ∷ [])) (bare_part (b ∷ l) part) ∙ s)
    ∙ ap (λ x. let p : Halves = (known ++ x, []) in p) (append-nil (b ∷ l))

-- a byte of a piece, behind which it goes on, or the line that divides has come
pub brings_more : (self old new : Begun) (rest piece left : List ℕ) (b : ℕ) → ((z : List ℕ) → splits self (rest ++ z) ≡ splits old (piece ++ z)) → rest ≡ b ∷ left
    → ((z : List ℕ) → splits new z ≡ splits self (b ∷ z)) → (z : List ℕ) → splits new (left ++ z) ≡ splits old (piece ++ z)
brings_more self old new rest piece left b going is on z = on (left ++ z) ∙ ap (λ x. splits self (x ++ z)) (sym is) ∙ going z

pub brings_here : (self old new : Begun) (rest piece left : List ℕ) (b : ℕ) → ((z : List ℕ) → splits self (rest ++ z) ≡ splits old (piece ++ z)) → rest ≡ b ∷ left
    → ((z : List ℕ) → splits self (b ∷ z) ≡ (let p : Halves = (new.known, z) in p)) → (z : List ℕ) → splits old (piece ++ z) ≡ (let p : Halves = (new.known, left ++ z) in p)
brings_here self old new rest piece left b going is here z = sym (going z) ∙ ap (λ x. splits self (x ++ z)) is ∙ here (left ++ z)

-- a piece that makes the script too long
pub brings_long : (self old new : Begun) (rest piece left : List ℕ) (b : ℕ) → ((z : List ℕ) → splits self (rest ++ z) ≡ splits old (piece ++ z)) → rest ≡ b ∷ left
    → ((z : List ℕ) → (more : List ℕ) × ((splits self (b ∷ z)).0 ≡ new.known ++ more)) → (z : List ℕ) → (more : List ℕ) × ((splits old (piece ++ z)).0 ≡ new.known ++ more)
brings_long self old new rest piece left b going is long z =
    let h = long (left ++ z) in
    (h.0, ap (λ (x : Halves). x.0) (sym (going z)) ∙ ap (λ x. (splits self (x ++ z)).0) is ∙ h.1)

-- what may divide has four bytes at most
prefix_short : (l t : List ℕ) → is_prefix l t ≡ true → length l ≤ length t
prefix_short [] t e = omega arith
prefix_short (b ∷ l) [] e = absurd (let h : false ≡ true = e in cc)
prefix_short (b ∷ l) (c ∷ t) e = omega (arith, prefix_short l t (and_second (b == c) (is_prefix l t) e))

pub divider_short : (l : List ℕ) → may_divide l ≡ true → length l ≤ 4
divider_short l e = prefix_short l (45 ∷ 45 ∷ 45 ∷ 13 ∷ []) e

pub ruleset shortness = (divider_short)

pub ruleset dividing = (takes_byte, takes_feed, takes_divider, finish_here, finish_other)

pub drop_next : (xs : List ℕ) (i : ℕ) → i < length xs → drop i xs ≡ get_or xs i 0 ∷ drop (i + 1) xs
drop_next xs i lt = drop-cons xs i 0 lt ∙ ap (λ n. get_or xs i 0 ∷ drop n xs) (sym (add-one i))
