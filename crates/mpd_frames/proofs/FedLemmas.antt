-- What is made of a byte, and of many.
use Rattle.std.proofs.Common.{◌≡◌, ℕ, zero, suc, ◌+◌, ◌<◌, ◌≤◌, Bool, true, false, List, [], ◌∷◌, ◌++◌, length, get_or, take, drop, Option, Result, Ok, Err, refl, ap, sym, subst, ◌∙◌, arith, append_assoc, append-nil, add-one}
use Rattle.std.proofs.lemmas.List.{take-append-drop, drop_more, take_all}
use Rattle.mpd_model.specs.devices.Seen.{SinkSeen}
use Rattle.mpd_lines.specs.Telling.{Tells, BreaksOff}
use Rattle.mpd_lines.specs.Gathering.{Spoken}
use Rattle.mpd_model.specs.declared.device.DeviceFault.{DeviceFault}
use Rattle.mpd_lines.specs.declared.engine.EngineFault.TheVariants.{ReadFailed, WriteFailed, TooManyTurns, Memory}
use Rattle.mpd_lines.proofs.SentLaws.{appends_none}
use Rattle.mpd_lines.proofs.TellingLaws.{tells_append, breaks_told}
use Rattle.mpd_frames.specs.Header.{IsOpen}
use Rattle.mpd_frames.specs.Frames.{Frames}
use Rattle.mpd_frames.specs.Reading.{Held, held_bytes, nothing_held, Holds, Adds}
use Rattle.mpd_frames.specs.Answered.{Told, BrokenOff}
use Rattle.mpd_frames.specs.Fed.{Fed}
use Rattle.mpd_frames.specs.declared.fault.StreamFault.{StreamFault}
use Rattle.mpd_frames.specs.declared.fault.StreamFault.TheVariants.{Engine, Frame, CutOff, BodyMemory}
use Rattle.mpd_frames.specs.declared.reader.Added.TheVariants.{Within, Whole}
use Rattle.mpd_frames.specs.declared.engine.Turn.{Turn}
use Rattle.mpd_frames.specs.declared.engine.Turn.TheVariants.{More, Over, End}
use Rattle.mpd_frames.proofs.FrameLemmas.{frames_along, frames_before, frames_on, one_frame, faulty_before, unkept_before}

-- ---- nothing is held

open_none : IsOpen []
open_none zero = refl
open_none (suc k) = refl

pub holds_none : Holds nothing_held
holds_none = (refl, record { short = omega arith; open_yet = open_none })

pub holds_nothing : (q : Held) → q ≡ nothing_held → Holds q
holds_nothing q is = subst Holds (sym is) holds_none

bytes_none : (q : Held) → q ≡ nothing_held → [] ≡ held_bytes q
bytes_none q is = ap held_bytes (sym is)

-- ---- one byte

told_none : {D : Type 0} (A : D → List ℕ → List ℕ → D → Type 0) (d : D) (input rest : List ℕ) (w : Option (List ℕ)) → input ≡ rest → Told A d input rest w w d
told_none A d input rest w is = record { bodies = []; frames = is; told = ([], appends_none w, (refl, refl)) }

pub fed_within : {D : Type 0} (A : D → List ℕ → List ℕ → D → Type 0) (over : D → Bool) (d : D) (p q : Held) (b : ℕ) (w : SinkSeen)
    → over d ≡ false → Adds p b q (Ok Within) → Fed A over d (held_bytes p) (b ∷ []) w w d q (Ok More)
fed_within A over d p q b w waiting h = (told_none A d (held_bytes p ++ b ∷ []) (held_bytes q) w.contents (sym h.0), refl, waiting, h.1)

pub fed_fault : {D : Type 0} (A : D → List ℕ → List ℕ → D → Type 0) (over : D → Bool) (d : D) (p q : Held) (b : ℕ) (w : SinkSeen) (fault : StreamFault)
    → Adds p b q (Err fault) → Fed A over d (held_bytes p) (b ∷ []) w w d q (Err fault)
fed_fault A over d p q b w (Frame fault) h = (held_bytes p ++ b ∷ [], told_none A d (held_bytes p ++ b ∷ []) (held_bytes p ++ b ∷ []) w.contents refl, refl, h)
fed_fault A over d p q b w BodyMemory h = (held_bytes p ++ b ∷ [], told_none A d (held_bytes p ++ b ∷ []) (held_bytes p ++ b ∷ []) w.contents refl, refl, h)
fed_fault A over d p q b w CutOff h = absurd h
fed_fault A over d p q b w (Engine fault) h = absurd h

told_one : {D : Type 0} (A : D → List ℕ → List ℕ → D → Type 0) (d e : D) (p m : Held) (b : ℕ) (rest : List ℕ) (old new : Option (List ℕ))
    → [] ≡ rest → Adds p b m (Ok Whole) → Tells A d (m.body ∷ []) old new e → Told A d (held_bytes p ++ b ∷ []) rest old new e
told_one A d e p m b rest old new none h t = record {
  bodies = m.body ∷ [];
  frames = subst (λ x. Frames (held_bytes p ++ b ∷ []) (m.body ∷ []) x) none (one_frame (held_bytes p ++ b ∷ []) m.header m.body (sym h.0) h.1);
  told = t;
}

pub fed_whole : {D : Type 0} (A : D → List ℕ → List ℕ → D → Type 0) (over : D → Bool) (d e : D) (p m q : Held) (b : ℕ) (body : List ℕ) (v w : SinkSeen)
    → Adds p b m (Ok Whole) → body ≡ m.body → Spoken A 1 d (body ∷ []) v w e (Ok _) → q ≡ nothing_held → over e ≡ false → Fed A over d (held_bytes p) (b ∷ []) v w e q (Ok More)
fed_whole A over d e p m q b body v w h is t none waiting =
    (told_one A d e p m b (held_bytes q) v.contents w.contents (bytes_none q none) h (subst (λ x. Tells A d (x ∷ []) v.contents w.contents e) is t.0), t.1, waiting, holds_nothing q none)

pub fed_over : {D : Type 0} (A : D → List ℕ → List ℕ → D → Type 0) (over : D → Bool) (d e : D) (p m q : Held) (b : ℕ) (body : List ℕ) (v w : SinkSeen)
    → Adds p b m (Ok Whole) → body ≡ m.body → Spoken A 1 d (body ∷ []) v w e (Ok _) → over e ≡ true → Fed A over d (held_bytes p) (b ∷ []) v w e q (Ok Over)
fed_over A over d e p m q b body v w h is t ended =
    ([], told_one A d e p m b [] v.contents w.contents refl h (subst (λ x. Tells A d (x ∷ []) v.contents w.contents e) is t.0), t.1, ended)

pub fed_broken : {D : Type 0} (A : D → List ℕ → List ℕ → D → Type 0) (over : D → Bool) (d e : D) (p m q : Held) (b : ℕ) (body : List ℕ) (v w : SinkSeen) (fault : DeviceFault)
    → Adds p b m (Ok Whole) → body ≡ m.body → Spoken A 1 d (body ∷ []) v w e (Err fault) → Fed A over d (held_bytes p) (b ∷ []) v w e q (Err (Engine WriteFailed))
fed_broken A over d e p m q b body v w fault h is t = (
  [],
  record {
    bodies = m.body ∷ [];
    frames = one_frame (held_bytes p ++ b ∷ []) m.header m.body (sym h.0) h.1;
    broken = subst (λ x. BreaksOff A 1 d (x ∷ []) v.contents [] w.contents e) is t.0;
  },
  t.1,
)

-- ---- many bytes

told_on : {D : Type 0} (A : D → List ℕ → List ℕ → D → Type 0) (d m e : D) (p x y between rest : List ℕ) (w0 w1 w2 : Option (List ℕ))
    → Told A d (p ++ x) between w0 w1 m → Told A m (between ++ y) rest w1 w2 e → Told A d (p ++ (x ++ y)) rest w0 w2 e
told_on A d m e p x y between rest w0 w1 w2 a b = record {
  bodies = a.bodies ++ b.bodies;
  frames = frames_along ((p ++ x) ++ y) (p ++ (x ++ y)) (a.bodies ++ b.bodies) rest (append_assoc p x y) (frames_on (p ++ x) y a.bodies b.bodies between rest a.frames b.frames);
  told = tells_append A d m e a.bodies b.bodies w0 w1 w2 a.told b.told;
}

broken_on : {D : Type 0} (A : D → List ℕ → List ℕ → D → Type 0) (d m e : D) (p x y between rest : List ℕ) (w0 w1 w2 : Option (List ℕ))
    → Told A d (p ++ x) between w0 w1 m → BrokenOff A m (between ++ y) rest w1 w2 e → BrokenOff A d (p ++ (x ++ y)) rest w0 w2 e
broken_on A d m e p x y between rest w0 w1 w2 a b = record {
  bodies = a.bodies ++ b.bodies;
  frames = frames_along ((p ++ x) ++ y) (p ++ (x ++ y)) (a.bodies ++ b.bodies) rest (append_assoc p x y) (frames_on (p ++ x) y a.bodies b.bodies between rest a.frames b.frames);
  broken = breaks_told A 1 d m e a.bodies b.bodies w0 w1 w2 a.told b.broken;
}

-- a piece, and one more
pub fed_on : {D : Type 0} (A : D → List ℕ → List ℕ → D → Type 0) (over : D → Bool) (d m e : D) (p x y : List ℕ) (h q : Held) (v0 v1 v2 : SinkSeen) (r : Result Turn StreamFault)
    → Fed A over d p x v0 v1 m h (Ok More) → Fed A over m (held_bytes h) y v1 v2 e q r → Fed A over d p (x ++ y) v0 v2 e q r
fed_on A over d m e p x y h q v0 v1 v2 (Ok More) f g = (told_on A d m e p x y (held_bytes h) (held_bytes q) v0.contents v1.contents v2.contents f.0 g.0, g.1 ∙ f.1, g.2, g.3)
fed_on A over d m e p x y h q v0 v1 v2 (Ok Over) f g = (g.0, told_on A d m e p x y (held_bytes h) g.0 v0.contents v1.contents v2.contents f.0 g.1, g.2 ∙ f.1, g.3)
fed_on A over d m e p x y h q v0 v1 v2 (Ok End) f g = absurd g
fed_on A over d m e p x y h q v0 v1 v2 (Err (Frame fault)) f g = (g.0, told_on A d m e p x y (held_bytes h) g.0 v0.contents v1.contents v2.contents f.0 g.1, g.2 ∙ f.1, g.3)
fed_on A over d m e p x y h q v0 v1 v2 (Err BodyMemory) f g = (g.0, told_on A d m e p x y (held_bytes h) g.0 v0.contents v1.contents v2.contents f.0 g.1, g.2 ∙ f.1, g.3)
fed_on A over d m e p x y h q v0 v1 v2 (Err (Engine WriteFailed)) f g = (g.0, broken_on A d m e p x y (held_bytes h) g.0 v0.contents v1.contents v2.contents f.0 g.1, g.2 ∙ ap (λ n. n + 1) f.1)
fed_on A over d m e p x y h q v0 v1 v2 (Err (Engine ReadFailed)) f g = absurd g
fed_on A over d m e p x y h q v0 v1 v2 (Err (Engine TooManyTurns)) f g = absurd g
fed_on A over d m e p x y h q v0 v1 v2 (Err (Engine Memory)) f g = absurd g
fed_on A over d m e p x y h q v0 v1 v2 (Err CutOff) f g = absurd g

-- bytes that were not looked at any more
abbrev pub stops : Result Turn StreamFault → Bool
stops (Ok More) = false
stops (Ok Over) = true
stops (Ok End) = true
stops (Err fault) = true

told_before : {D : Type 0} (A : D → List ℕ → List ℕ → D → Type 0) (d e : D) (p x y rest : List ℕ) (old new : Option (List ℕ)) → Told A d (p ++ x) rest old new e → Told A d (p ++ (x ++ y)) (rest ++ y) old new e
told_before A d e p x y rest old new a = record {
  bodies = a.bodies;
  frames = frames_along ((p ++ x) ++ y) (p ++ (x ++ y)) a.bodies (rest ++ y) (append_assoc p x y) (frames_before (p ++ x) y a.bodies rest a.frames);
  told = a.told;
}

broken_before : {D : Type 0} (A : D → List ℕ → List ℕ → D → Type 0) (d e : D) (p x y rest : List ℕ) (old new : Option (List ℕ)) → BrokenOff A d (p ++ x) rest old new e → BrokenOff A d (p ++ (x ++ y)) (rest ++ y) old new e
broken_before A d e p x y rest old new a = record {
  bodies = a.bodies;
  frames = frames_along ((p ++ x) ++ y) (p ++ (x ++ y)) a.bodies (rest ++ y) (append_assoc p x y) (frames_before (p ++ x) y a.bodies rest a.frames);
  broken = a.broken;
}

fed_before : {D : Type 0} (A : D → List ℕ → List ℕ → D → Type 0) (over : D → Bool) (d e : D) (p x y : List ℕ) (q : Held) (v w : SinkSeen) (r : Result Turn StreamFault)
    → stops r ≡ true → Fed A over d p x v w e q r → Fed A over d p (x ++ y) v w e q r
fed_before A over d e p x y q v w (Ok More) s f = absurd (let k : false ≡ true = s in cc)
fed_before A over d e p x y q v w (Ok Over) s f = (f.0 ++ y, told_before A d e p x y f.0 v.contents w.contents f.1, f.2, f.3)
fed_before A over d e p x y q v w (Ok End) s f = absurd f
fed_before A over d e p x y q v w (Err (Frame fault)) s f = (f.0 ++ y, told_before A d e p x y f.0 v.contents w.contents f.1, f.2, faulty_before f.0 y fault f.3)
fed_before A over d e p x y q v w (Err BodyMemory) s f = (f.0 ++ y, told_before A d e p x y f.0 v.contents w.contents f.1, f.2, unkept_before f.0 y f.3)
fed_before A over d e p x y q v w (Err (Engine WriteFailed)) s f = (f.0 ++ y, broken_before A d e p x y f.0 v.contents w.contents f.1, f.2)
fed_before A over d e p x y q v w (Err (Engine ReadFailed)) s f = absurd f
fed_before A over d e p x y q v w (Err (Engine TooManyTurns)) s f = absurd f
fed_before A over d e p x y q v w (Err (Engine Memory)) s f = absurd f
fed_before A over d e p x y q v w (Err CutOff) s f = absurd f

-- ---- along a piece

-- nothing was taken yet
pub fed_none : {D : Type 0} (A : D → List ℕ → List ℕ → D → Type 0) (over : D → Bool) (d : D) (q : Held) (w : SinkSeen) → over d ≡ false → Holds q → Fed A over d (held_bytes q) [] w w d q (Ok More)
fed_none A over d q w waiting held = (told_none A d (held_bytes q ++ []) (held_bytes q) w.contents (append-nil (held_bytes q)), refl, waiting, held)

take_more : (xs : List ℕ) (i : ℕ) → i < length xs → take i xs ++ get_or xs i 0 ∷ [] ≡ take (i + 1) xs
take_more xs i h = by xs i h ∙ ap (λ n. take n xs) (sym (add-one i))
  where
    by : (xs : List ℕ) (i : ℕ) → i < length xs → take i xs ++ get_or xs i 0 ∷ [] ≡ take (suc i) xs
    by [] i h = absurd (omega (arith, h))
    by (x ∷ xs) zero h = refl
    by (x ∷ xs) (suc i) h = ap (λ t. x ∷ t) (by xs i (omega (arith, h)))

fed_to : {D : Type 0} (A : D → List ℕ → List ℕ → D → Type 0) (over : D → Bool) (d e : D) (p x y : List ℕ) (q : Held) (v w : SinkSeen) (r : Result Turn StreamFault) → x ≡ y → Fed A over d p x v w e q r → Fed A over d p y v w e q r
fed_to A over d e p x y q v w r is f = subst (λ z. Fed A over d p z v w e q r) is f

pub fed_next : {D : Type 0} (A : D → List ℕ → List ℕ → D → Type 0) (over : D → Bool) (d m e : D) (p piece : List ℕ) (i : ℕ) (h q : Held) (v0 v1 v2 : SinkSeen)
    → i < length piece → Fed A over d p (take i piece) v0 v1 m h (Ok More) → Fed A over m (held_bytes h) (get_or piece i 0 ∷ []) v1 v2 e q (Ok More) → Fed A over d p (take (i + 1) piece) v0 v2 e q (Ok More)
fed_next A over d m e p piece i h q v0 v1 v2 lt f g =
    fed_to A over d e p (take i piece ++ get_or piece i 0 ∷ []) (take (i + 1) piece) q v0 v2 (Ok More) (take_more piece i lt) (fed_on A over d m e p (take i piece) (get_or piece i 0 ∷ []) h q v0 v1 v2 (Ok More) f g)

pub fed_stop : {D : Type 0} (A : D → List ℕ → List ℕ → D → Type 0) (over : D → Bool) (d m e : D) (p piece : List ℕ) (i : ℕ) (h q : Held) (v0 v1 v2 : SinkSeen) (r : Result Turn StreamFault)
    → i < length piece → stops r ≡ true → Fed A over d p (take i piece) v0 v1 m h (Ok More) → Fed A over m (held_bytes h) (get_or piece i 0 ∷ []) v1 v2 e q r → Fed A over d p piece v0 v2 e q r
fed_stop A over d m e p piece i h q v0 v1 v2 r lt s f g =
    let all = fed_on A over d m e p (take i piece) (get_or piece i 0 ∷ []) h q v0 v1 v2 r f g in
    fed_to A over d e p ((take i piece ++ get_or piece i 0 ∷ []) ++ drop (i + 1) piece) piece q v0 v2 r
    (append_assoc (take i piece) (get_or piece i 0 ∷ []) (drop (i + 1) piece) ∙ ap (λ t. take i piece ++ t) (sym (drop_more piece i 0 lt)) ∙ take-append-drop i piece)
    (fed_before A over d e p (take i piece ++ get_or piece i 0 ∷ []) (drop (i + 1) piece) q v0 v2 r s all)

pub fed_all : {D : Type 0} (A : D → List ℕ → List ℕ → D → Type 0) (over : D → Bool) (d e : D) (p piece : List ℕ) (i : ℕ) (q : Held) (v w : SinkSeen)
    → length piece ≤ i → Fed A over d p (take i piece) v w e q (Ok More) → Fed A over d p piece v w e q (Ok More)
fed_all A over d e p piece i q v w le f = fed_to A over d e p (take i piece) piece q v w (Ok More) (take_all i piece le) f

pub ruleset beginning = (fed_none)
