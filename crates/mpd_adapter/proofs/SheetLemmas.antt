-- What is written, frame by frame.
use Rattle.std.proofs.Common.{◌≡◌, ℕ, suc, ◌+◌, ◌-◌, ◌<◌, ◌≤◌, map, arith, List, [], ◌∷◌, ◌++◌, Ok, Err, refl, ap, sym, ◌∙◌, append_assoc, append-nil}
use Rattle.std.specs.List.{flat_map, range_with_len}
use Rattle.serde_json.specs.Data.{Data}
use Rattle.mpd_frames.specs.Frame.{frame_text}
use Rattle.mpd_dap.specs.declared.ask.Message.{Message}
use Rattle.mpd_dap.specs.declared.name.Event.{Event}
use Rattle.mpd_dap.specs.declared.name.Refusal.{Refusal}
use Rattle.mpd_dap.specs.declared.name.Refusal.TheVariants as refusal
use Rattle.mpd_dap.specs.Told.{response_text, refusal_text, failure_text, event_text}
use Rattle.mpd_adapter.specs.Numbers.{one_more}
use Rattle.mpd_adapter.specs.Answers.{Heard, IsSheet, Tells, frames_of, number_after, events_written, number_behind}
use Rattle.mpd_adapter.specs.Says.{started, all_started}
use Rattle.mpd_adapter.specs.Unread.{failed_frames}

-- one frame after none
first_is : (f before after : List ℕ) → before ≡ [] → after ≡ before ++ frame_text f → after ≡ flat_map frame_text (f ∷ [])
first_is f before after none is = is ∙ ap (λ z. z ++ frame_text f) none ∙ sym (append-nil (frame_text f))

second_is : (f g before after : List ℕ) → before ≡ flat_map frame_text (f ∷ []) → after ≡ before ++ frame_text g → after ≡ flat_map frame_text (f ∷ (g ∷ []))
second_is f g before after first is =
    is ∙ ap (λ z. z ++ frame_text g) (first ∙ append-nil (frame_text f)) ∙ ap (λ z. frame_text f ++ z) (sym (append-nil (frame_text g)))

third_is : (f g h before after : List ℕ) → before ≡ flat_map frame_text (f ∷ (g ∷ [])) → after ≡ before ++ frame_text h → after ≡ flat_map frame_text (f ∷ (g ∷ (h ∷ [])))
third_is f g h before after first is =
    is ∙ ap (λ z. z ++ frame_text h) (first ∙ ap (λ z. frame_text f ++ z) (append-nil (frame_text g))) ∙ append_assoc (frame_text f) (frame_text g) (frame_text h)
    ∙ ap (λ z. frame_text f ++ (frame_text g ++ z)) (sym (append-nil (frame_text h)))

pub refused_sheet : (n a b : ℕ) (m : Message) (r : Refusal) (before after : List ℕ) → before ≡ [] → a ≡ n → after ≡ before ++ frame_text (refusal_text a m.seq m.name r) → b ≡ one_more a
    → IsSheet n (frames_of n m (Err r)) after b
refused_sheet n a b m r before after none first is next = record {
  text_is = first_is (refusal_text n m.seq m.name r) before after none (is ∙ ap (λ k. before ++ frame_text (refusal_text k m.seq m.name r)) first);
  number_is = next ∙ ap one_more first;
}

pub failed_sheet : (n a b : ℕ) (m : Message) (told before after : List ℕ) → before ≡ [] → a ≡ n → after ≡ before ++ frame_text (failure_text a m.seq m.name refusal.NotRead told) → b ≡ one_more a
    → IsSheet n (failed_frames n m told) after b
failed_sheet n a b m told before after none first is next = record {
  text_is = first_is (failure_text n m.seq m.name refusal.NotRead told) before after none (is ∙ ap (λ k. before ++ frame_text (failure_text k m.seq m.name refusal.NotRead told)) first);
  number_is = next ∙ ap one_more first;
}

pub response_sheet : (n a b : ℕ) (m : Message) (body : Data) (before after : List ℕ) → before ≡ [] → a ≡ n → after ≡ before ++ frame_text (response_text a m.seq m.name body) → b ≡ one_more a
    → IsSheet n (frames_of n m (Ok (body, []))) after b
response_sheet n a b m body before after none first is next = record {
  text_is = first_is (response_text n m.seq m.name body) before after none (is ∙ ap (λ k. before ++ frame_text (response_text k m.seq m.name body)) first);
  number_is = next ∙ ap one_more first;
}

pub event_sheet : (n a b c : ℕ) (m : Message) (body told : Data) (e : Event) (before after last : List ℕ) → before ≡ [] → a ≡ n → after ≡ before ++ frame_text (response_text a m.seq m.name body) → b ≡ one_more a
    → last ≡ after ++ frame_text (event_text b e told) → c ≡ one_more b → IsSheet n (frames_of n m (Ok (body, (e, told) ∷ []))) last c
event_sheet n a b c m body told e before after last none first is next more then =
    let s = response_sheet n a b m body before after none first is next in record {
      text_is = second_is (response_text n m.seq m.name body) (event_text (one_more n) e told) after last s.text_is (more ∙ ap (λ k. after ++ frame_text (event_text k e told)) s.number_is);
      number_is = then ∙ ap one_more s.number_is;
    }

pub stop_sheet : (n a b c d : ℕ) (m : Message) (body told stands : Data) (e f : Event) (before after last end : List ℕ) → before ≡ [] → a ≡ n → after ≡ before ++ frame_text (response_text a m.seq m.name body) → b ≡ one_more a
    → last ≡ after ++ frame_text (event_text b e told) → c ≡ one_more b → end ≡ last ++ frame_text (event_text c f stands) → d ≡ one_more c → IsSheet n (frames_of n m (Ok (body, (e, told) ∷ ((f, stands) ∷ [])))) end d
stop_sheet n a b c d m body told stands e f before after last end none first is next more then stood over =
    let s = event_sheet n a b c m body told e before after last none first is next more then in record {
      text_is =
          third_is (response_text n m.seq m.name body) (event_text (one_more n) e told) (event_text (one_more (one_more n)) f stands) last end s.text_is (stood ∙ ap (λ k. last ++ frame_text (event_text k f stands)) s.number_is);
      number_is = over ∙ ap one_more s.number_is;
    }

-- ---- events for each of some ranks

-- so many of them are still to be told, whatever is told after them
pub record Going (t0 : List ℕ) (n0 : ℕ) (t : List ℕ) (n : ℕ) (rest all : List Heard) : Type 0 where
  pub text_is : (more : List Heard) → t ++ events_written n (rest ++ more) ≡ t0 ++ events_written n0 (all ++ more)
  pub number_is : (more : List Heard) → number_behind n (rest ++ more) ≡ number_behind n0 (all ++ more)

abbrev pub started_from : ℕ → ℕ → List Heard
started_from i ranks = map started (range_with_len i (ranks - i))

pub going_none : (t : List ℕ) (n ranks : ℕ) → Going t n t n (started_from 0 ranks) (all_started ranks)
going_none t n ranks =
    let k : ranks - 0 ≡ ranks = omega arith in record {
      text_is = λ more. ap (λ x. t ++ events_written n (map started (range_with_len 0 x) ++ more)) k;
      number_is = λ more. ap (λ x. number_behind n (map started (range_with_len 0 x) ++ more)) k;
    }

pub going_more : (t0 t u : List ℕ) (n0 n k i ranks : ℕ) → i < ranks → Going t0 n0 t n (started_from i ranks) (all_started ranks) → u ≡ t ++ frame_text (event_text n (started i).0 (started i).1) → k ≡ one_more n
    → Going t0 n0 u k (started_from (i + 1) ranks) (all_started ranks)
going_more t0 t u n0 n k i ranks lt g more next =
    let left : ranks - i ≡ suc (ranks - (i + 1)) = omega arith in
    let rest : List Heard = started_from (i + 1) ranks in
    let one : started_from i ranks ≡ started i ∷ rest = rw left refl in
    let f : List ℕ = frame_text (event_text n (started i).0 (started i).1) in record {
      text_is = λ y.
          ap (λ x. x ++ events_written k (rest ++ y)) more ∙ append_assoc t f (events_written k (rest ++ y)) ∙ ap (λ x. t ++ (f ++ events_written x (rest ++ y))) next
          ∙ ap (λ x. t ++ events_written n (x ++ y)) (sym one) ∙ g.text_is y;
      number_is = λ y. ap (λ x. number_behind x (rest ++ y)) next ∙ ap (λ x. number_behind n (x ++ y)) (sym one) ∙ g.number_is y;
    }

pub going_done : (t0 t : List ℕ) (n0 n i ranks : ℕ) → ranks ≤ i → Going t0 n0 t n (started_from i ranks) (all_started ranks) → Tells t0 n0 t n (all_started ranks)
going_done t0 t n0 n i ranks le g =
    let none : ranks - i ≡ 0 = omega arith in record {
      text_is = λ y. ap (λ x. t ++ events_written n (map started (range_with_len i x) ++ y)) (sym none) ∙ g.text_is y;
      number_is = λ y. ap (λ x. number_behind n (map started (range_with_len i x) ++ y)) (sym none) ∙ g.number_is y;
    }

pub begun_sheet : (n a b c d ranks : ℕ) (m : Message) (body stands : Data) (e : Event) (before after last end : List ℕ) → before ≡ [] → a ≡ n → after ≡ before ++ frame_text (response_text a m.seq m.name body) → b ≡ one_more a
    → Tells after b last c (all_started ranks) → end ≡ last ++ frame_text (event_text c e stands) → d ≡ one_more c → IsSheet n (frames_of n m (Ok (body, all_started ranks ++ (e, stands) ∷ []))) end d
begun_sheet n a b c d ranks m body stands e before after last end none first is next told stood over =
    let s = response_sheet n a b m body before after none first is next in
    let one : List Heard = (e, stands) ∷ [] in
    let f : List ℕ = frame_text (response_text n m.seq m.name body) in record {
      text_is =
          stood ∙ ap (λ z. last ++ z) (sym (append-nil (frame_text (event_text c e stands)))) ∙ told.text_is one ∙ ap (λ z. z ++ events_written b (all_started ranks ++ one)) (s.text_is ∙ append-nil f)
          ∙ ap (λ k. f ++ events_written k (all_started ranks ++ one)) s.number_is;
      number_is = over ∙ told.number_is one ∙ ap (λ k. number_behind k (all_started ranks ++ one)) s.number_is;
    }

pub ruleset sheets = (refused_sheet, failed_sheet, response_sheet, event_sheet, stop_sheet)
