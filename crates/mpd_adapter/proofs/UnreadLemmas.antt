-- What a message is answered without a script, put together from what is written.
use Rattle.std.proofs.Common.{◌≡◌, ℕ, ◌||◌, Bool, List, [], ◌∷◌, ◌++◌, Option, Some, None, refl, ap, sym, ◌∙◌, subst, inl, inr, append-nil}
use Rattle.std.specs.List.{flat_map}
use Rattle.mpd_frames.specs.Frame.{frame_text}
use Rattle.mpd_dap.specs.declared.ask.Message.{Message}
use Rattle.mpd_dap.specs.Messages.{message_in}
use Rattle.mpd_adapter.specs.Numbers.{one_more}
use Rattle.mpd_adapter.specs.Answers.{IsSheet, number_after}
use Rattle.mpd_adapter.specs.Unread.{Unread, unread_frames, memory_frames, is_end, Told, Unheard, Heeds, SaysBy, Says}

-- frames that are added, and what is so of them
abbrev pub Added : List ℕ → List ℕ → (List (List ℕ) → Type 0) → Type 0
Added before after P = (told : List (List ℕ)) × (after ≡ before ++ flat_map frame_text told) × P told

pub unheard : (d e : Unread) (m : Message) (before after : List ℕ) → after ≡ before ++ flat_map frame_text (memory_frames d) → e ≡ record d { number = one_more d.number } → Added before after (λ told. Heeds d m told e)
unheard d e m before after h is = (memory_frames d, h, inr (refl, is))

pub handed : (d e : Unread) (m : Message) (z before after : List ℕ) (k : ℕ) (o : Bool) → IsSheet d.number (unread_frames d.number m d.told) z k → after ≡ before ++ z → o ≡ (d.is_over || is_end m) → e ≡ record d { number = k; is_over = o }
    → Added before after (λ told. Heeds d m told e)
handed d e m z before after k o sheet h over is = (
  unread_frames d.number m d.told,
  h ∙ ap (λ y. before ++ y) sheet.text_is,
  inl (refl, is ∙ ap (λ n. record d { number = n; is_over = o }) sheet.number_is ∙ ap (λ b. record d { number = number_after d.number (unread_frames d.number m d.told); is_over = b }) over),
)

pub ruleset handing = (handed, unheard)

-- a sheet of a desk, by what it is shown as
pub sheet_of : (d : Unread) (n k : ℕ) (m : Message) (told z : List ℕ) → n ≡ d.number → told ≡ d.told → IsSheet n (unread_frames n m told) z k → IsSheet d.number (unread_frames d.number m d.told) z k
sheet_of d n k m told z at is sheet = subst (λ t. IsSheet d.number (unread_frames d.number m t) z k) is (subst (λ i. IsSheet i (unread_frames i m told) z k) at sheet)

pub ruleset hearing = (unheard, handed, sheet_of)

pub heard : (d e : Unread) (body before after : List ℕ) (m : Message) → Some m ≡ message_in body → Added before after (λ told. Heeds d m told e) → Added before after (λ told. Says d body told e)
heard d e body before after m is (told, h, heeds) = (told, h, subst (λ x. SaysBy d x told e) is heeds)

pub passed_over : (d e : Unread) (body before after : List ℕ) → None ≡ message_in body → after ≡ before → e ≡ d → Added before after (λ told. Says d body told e)
passed_over d e body before after is h same = ([], h ∙ sym (append-nil before), subst (λ x. SaysBy d x [] e) is (inl (refl, same)))

unread_by : (d e : Unread) (o : Option Message) → Unheard d (memory_frames d) e → SaysBy d o (memory_frames d) e
unread_by d e None u = inr u
unread_by d e (Some m) u = inr u

pub unread : (d e : Unread) (body before after : List ℕ) → after ≡ before ++ flat_map frame_text (memory_frames d) → e ≡ record d { number = one_more d.number } → Added before after (λ told. Says d body told e)
unread d e body before after h is = (memory_frames d, h, unread_by d e (message_in body) (refl, is))

pub ruleset answering = (heard, passed_over, unread)
