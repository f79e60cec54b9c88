-- Frames, one after another.
use Rattle.std.proofs.Common.{◌≡◌, ℕ, ◌<◌, ◌≤◌, true, false, ◌⊎◌, inl, inr, List, [], ◌∷◌, ◌++◌, length, take, Result, Ok, Err, refl, ap, sym, subst, ◌∙◌, arith, append_assoc, append-nil, length-append}
use Rattle.std.proofs.lemmas.List.{take-append-le, append_cancel_left}
use Rattle.std.proofs.lemmas.Bool.{cases_lt}
use Rattle.std.proofs.Math.Seq.{take-append_seam}
use Rattle.mpd_frames.specs.Header.{is_ended, IsOpen, IsHeader, length_of}
use Rattle.mpd_frames.specs.Frames.{Frames, IsFrame, IsFaulty, IsUnkept, IsStopped}
use Rattle.mpd_frames.specs.declared.fault.FrameFault.{FrameFault}

-- ---- pieces

pub frames_along : (x y : List ℕ) (bodies : List (List ℕ)) (rest : List ℕ) → x ≡ y → Frames x bodies rest → Frames y bodies rest
frames_along x y bodies rest is f = subst (λ z. Frames z bodies rest) is f

-- more bytes after the rest
pub frames_before : (x more : List ℕ) (bodies : List (List ℕ)) (rest : List ℕ) → Frames x bodies rest → Frames (x ++ more) bodies (rest ++ more)
frames_before x more [] rest f = ap (λ z. z ++ more) f
frames_before x more (body ∷ bodies) rest f = (
  f.0,
  f.1 ++ more,
  ap (λ z. z ++ more) f.2 ∙ append_assoc f.0 (body ++ f.1) more ∙ ap (λ z. f.0 ++ z) (append_assoc body f.1 more),
  f.3,
  frames_before f.1 more bodies rest f.4,
)

-- the frames of a first part, and those of what is left of it with the second
pub frames_on : (x y : List ℕ) (bodies others : List (List ℕ)) (between rest : List ℕ) → Frames x bodies between → Frames (between ++ y) others rest → Frames (x ++ y) (bodies ++ others) rest
frames_on x y [] others between rest f g = frames_along (between ++ y) (x ++ y) others rest (ap (λ z. z ++ y) (sym f)) g
frames_on x y (body ∷ bodies) others between rest f g = (
  f.0,
  f.1 ++ y,
  ap (λ z. z ++ y) f.2 ∙ append_assoc f.0 (body ++ f.1) y ∙ ap (λ z. f.0 ++ z) (append_assoc body f.1 y),
  f.3,
  frames_on f.1 y bodies others between rest f.4 g,
)

pub one_frame : (x header body : List ℕ) → x ≡ header ++ body → IsFrame header body → Frames x (body ∷ []) []
one_frame x header body is frame = (header, [], is ∙ ap (λ z. header ++ z) (sym (append-nil body)), frame, refl)

pub faulty_before : (rest more : List ℕ) (fault : FrameFault) → IsFaulty rest fault → IsFaulty (rest ++ more) fault
faulty_before rest more fault (inl f) = inl (f.0, f.1 ++ more, ap (λ z. z ++ more) f.2 ∙ append_assoc f.0 f.1 more, f.3, f.4, f.5)
faulty_before rest more fault (inr f) = inr (f.0, f.1 ++ more, ap (λ z. z ++ more) f.2 ∙ append_assoc f.0 f.1 more, f.3, f.4)

pub unkept_before : (rest more : List ℕ) → IsUnkept rest → IsUnkept (rest ++ more)
unkept_before rest more f = (f.0, f.1, f.2 ++ more, ap (λ z. z ++ more) f.3 ∙ append_assoc f.0 (f.1 ++ f.2) more ∙ ap (λ z. f.0 ++ z) (append_assoc f.1 f.2 more), f.4, f.5)

-- ---- one way to read

-- of two headers with which an input begins, neither is the shorter one
not_shorter : (h g x y : List ℕ) → IsHeader h → IsHeader g → h ++ x ≡ g ++ y → length h < length g → ⊥
not_shorter h g x y is also same lt =
    let le : length h ≤ length g = omega (arith, lt) in
    let at : take (length h) g ≡ h = sym (take-append-le (length h) g y le) ∙ ap (λ z. take (length h) z) (sym same) ∙ take-append_seam h x in
    let nothing : is_ended h ≡ false = ap is_ended (sym at) ∙ also.first (length h) lt in
    let both : true ≡ false = sym is.ended ∙ nothing in
    true_false both
  where
    true_false : true ≡ false → ⊥
    true_false e = cc

same_fronts : (h g x y : List ℕ) → h ++ x ≡ g ++ y → length h ≡ length g → h ≡ g
same_fronts h g x y same is = sym (take-append_seam h x) ∙ ap (λ z. take (length h) z) same ∙ ap (λ n. take n (g ++ y)) is ∙ take-append_seam g y

same_header : (h g x y : List ℕ) → IsHeader h → IsHeader g → h ++ x ≡ g ++ y → h ≡ g
same_header h g x y is also same = same_fronts h g x y same (by (cases_lt (length h) (length g)) (cases_lt (length g) (length h)))
  where
    by : (length h < length g) ⊎ (length g ≤ length h) → (length g < length h) ⊎ (length h ≤ length g) → length h ≡ length g
    by (inl lt) other = absurd (not_shorter h g x y is also same lt)
    by (inr ge) (inl lt) = absurd (not_shorter g h y x also is (sym same) lt)
    by (inr ge) (inr le) = omega (arith, ge, le)

same_after : (h g x y : List ℕ) → h ≡ g → h ++ x ≡ g ++ y → x ≡ y
same_after h g x y is same = append_cancel_left g x y (ap (λ z. z ++ x) (sym is) ∙ same)

sizes : (h g : List ℕ) (m n : ℕ) → h ≡ g → length_of h ≡ Ok m → length_of g ≡ Ok n → m ≡ n
sizes h g m n is e f = let k : ◌≡◌ {A = Result ℕ FrameFault} (Ok m) (Ok n) = sym e ∙ ap length_of is ∙ f in cc

-- bytes that have no empty line don't begin with a header
open_not : (front h x y : List ℕ) → IsOpen front → IsHeader h → length h ≤ length front → front ++ x ≡ h ++ y → ⊥
open_not front h x y is also le same =
    let at : take (length h) front ≡ h = sym (take-append-le (length h) front x le) ∙ ap (λ z. take (length h) z) same ∙ take-append_seam h y in
    let both : true ≡ false = sym also.ended ∙ ap is_ended (sym at) ∙ is (length h) in
    true_false both
  where
    true_false : true ≡ false → ⊥
    true_false e = cc

-- what stops has no frame at its beginning
stopped_not : (rest header body after : List ℕ) → IsStopped rest → rest ≡ header ++ (body ++ after) → IsFrame header body → ⊥
stopped_not rest header body after (inl (inl begun)) is frame =
    let le : length header ≤ length rest = omega (arith, ap length is, length-append header (body ++ after)) in
    open_not rest header [] (body ++ after) begun.open_yet frame.is_header le (append-nil rest ∙ is)
stopped_not rest header body after (inl (inr w)) is frame =
    let same : header ≡ w.0 = same_header header w.0 (body ++ after) w.1 frame.is_header w.3.is_header (sym is ∙ w.2) in
    let left : body ++ after ≡ w.1 = same_after header w.0 (body ++ after) w.1 same (sym is ∙ w.2) in
    let size : length body ≡ w.3.size = sizes header w.0 (length body) w.3.size same frame.length_is w.3.length_is in
    let lt = w.3.fewer in
    omega (arith, lt, size, ap length left, length-append body after)
stopped_not rest header body after (inr (fault, inl f)) is frame =
    let short = frame.is_header.short in
    let long = f.4 in
    open_not f.0 header f.1 (body ++ after) f.5 frame.is_header (omega (arith, short, long)) (sym f.2 ∙ is)
stopped_not rest header body after (inr (fault, inr f)) is frame =
    let same : header ≡ f.0 = same_header header f.0 (body ++ after) f.1 frame.is_header f.3 (sym is ∙ f.2) in
    let both : ◌≡◌ {A = Result ℕ FrameFault} (Ok (length body)) (Err fault) = sym frame.length_is ∙ ap length_of same ∙ f.4 in
    cc

-- two frames with which an input begins are one
same_frame : (h g b c x y : List ℕ) → IsFrame h b → IsFrame g c → h ++ (b ++ x) ≡ g ++ (c ++ y) → (b ≡ c) × (x ≡ y)
same_frame h g b c x y is also same =
    let header : h ≡ g = same_header h g (b ++ x) (c ++ y) is.is_header also.is_header same in
    let left : b ++ x ≡ c ++ y = same_after h g (b ++ x) (c ++ y) header same in
    let size : length b ≡ length c = sizes h g (length b) (length c) header is.length_is also.length_is in
    let body : b ≡ c = same_fronts b c x y left size in
    (body, same_after b c x y body left)

pub one_way : (input : List ℕ) (bodies others : List (List ℕ)) (rest left : List ℕ) → Frames input bodies rest → IsStopped rest → Frames input others left → IsStopped left → (bodies ≡ others) × (rest ≡ left)
one_way input [] [] rest left f stops g ends = (refl, sym f ∙ g)
one_way input [] (c ∷ others) rest left f stops g ends = absurd (stopped_not rest g.0 c g.1 stops (sym f ∙ g.2) g.3)
one_way input (b ∷ bodies) [] rest left f stops g ends = absurd (stopped_not left f.0 b f.1 ends (sym g ∙ f.2) f.3)
one_way input (b ∷ bodies) (c ∷ others) rest left f stops g ends =
    let s = same_frame f.0 g.0 b c f.1 g.1 f.3 g.3 (sym f.2 ∙ g.2) in
    let r = one_way g.1 bodies others rest left (frames_along f.1 g.1 bodies rest s.1 f.4) stops g.4 ends in
    (ap (λ x. x ∷ bodies) s.0 ∙ ap (λ xs. c ∷ xs) r.0, r.1)
