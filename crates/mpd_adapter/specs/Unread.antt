-- What a message is answered if the script could not be read (docs/ADAPTER.md, "Start").
use Rattle.std.specs.Prelude.{◌≡◌, ◌⊎◌, ◌||◌, ℕ, Bool, true, false, List, [], ◌∷◌, Ok, Err, Option, Some, None, refl}
use Rattle.std.specs.Coded.{Coded, code_by, coded×, coded_ℕ, coded_bool, coded_list}
use Rattle.mpd_dap.specs.declared.ask.Message.{Message}
use Rattle.mpd_dap.specs.declared.name.Event.TheVariants as event
use Rattle.mpd_dap.specs.declared.name.Refusal.TheVariants as refusal
use Rattle.mpd_dap.specs.Bodies.{capabilities_data}
use Rattle.mpd_dap.specs.Told.{failure_text, memory_text}
use Rattle.mpd_dap.specs.Messages.{message_in}
use Rattle.mpd_adapter.specs.declared.task.Task.{Task}
use Rattle.mpd_adapter.specs.declared.task.Task.TheVariants.{Refused, Launches, Ends}
use Rattle.mpd_adapter.specs.Numbers.{one_more}
use Rattle.mpd_adapter.specs.Tasks.{task_of}
use Rattle.mpd_adapter.specs.Answers.{frames_of, number_after}
use Rattle.mpd_adapter.specs.Says.{announced}

-- what a person is told where a `launch` fails, the number of the next frame, and whether the session is over
pub record Unread : Type 0 where
  pub told : List ℕ
  pub number : ℕ
  pub is_over : Bool

abbrev pub unread_code : Coded Unread
unread_code = code_by (List ℕ × (ℕ × Bool)) (coded× (coded_list coded_ℕ) (coded× coded_ℕ coded_bool)) (λ d. (d.told, (d.number, d.is_over))) (λ q. record { told = q.0; number = q.1.0; is_over = q.1.1 }) (λ _. refl)

abbrev pub unread_of : List ℕ → Unread
unread_of told = record { told = told; number = 1; is_over = false }

-- what the adapter can
abbrev pub described_frames : ℕ → Message → List (List ℕ)
described_frames n m = frames_of n m (Ok (capabilities_data, []))

abbrev pub failed_frames : ℕ → Message → List ℕ → List (List ℕ)
failed_frames n m told = failure_text n m.seq m.name refusal.NotRead told ∷ []

-- A `launch` fails. Of what else is answered before one, `initialize` alone doesn't end the session.
abbrev pub unread_by : ℕ → Message → List ℕ → Task → List (List ℕ)
unread_by n m told (Refused r) = frames_of n m (Err r)
unread_by n m told Launches = failed_frames n m told
unread_by n m told Ends = frames_of n m (announced event.Terminated)
unread_by n m told other = described_frames n m

-- No `launch` was answered, and there is no rank.
abbrev pub unread_frames : ℕ → Message → List ℕ → List (List ℕ)
unread_frames n m told = unread_by n m told (task_of 0 false m)

abbrev pub ends : Task → Bool
ends Ends = true
ends other = false

abbrev pub is_end : Message → Bool
is_end m = ends (task_of 0 false m)

abbrev pub memory_frames : Unread → List (List ℕ)
memory_frames d = memory_text d.number ∷ []

-- one frame tells that memory was refused
abbrev pub Unheard : Unread → List (List ℕ) → Unread → Type 0
Unheard d frames e = (frames ≡ memory_frames d) × (e ≡ record d { number = one_more d.number })

abbrev pub Told : Unread → Message → List (List ℕ) → Unread → Type 0
Told d m frames e = (frames ≡ unread_frames d.number m d.told) × (e ≡ record d { number = number_after d.number frames; is_over = d.is_over || is_end m })

abbrev pub Heeds : Unread → Message → List (List ℕ) → Unread → Type 0
Heeds d m frames e = Told d m frames e ⊎ Unheard d frames e

abbrev pub SaysBy : Unread → Option Message → List (List ℕ) → Unread → Type 0
SaysBy d None frames e = ((frames ≡ []) × (e ≡ d)) ⊎ Unheard d frames e
SaysBy d (Some m) frames e = Heeds d m frames e

-- A desk d without a script answers a body by these frames, and is e then.
abbrev pub Says : Unread → List ℕ → List (List ℕ) → Unread → Type 0
Says d body frames e = SaysBy d (message_in body) frames e
