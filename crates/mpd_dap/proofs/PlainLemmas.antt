-- What is told has no float, so its text is known.
use Rattle.std.proofs.Common.{◌≡◌, ℕ, List, [], ◌∷◌, false, refl}
use Rattle.serde_json.specs.Data.{Data}
use Rattle.serde_json.specs.Written.{has_float}
use Rattle.mpd_dap.specs.declared.listed.Thread.{Thread}
use Rattle.mpd_dap.specs.declared.listed.Variable.{Variable}
use Rattle.mpd_dap.specs.declared.listed.Target.{Target}
use Rattle.mpd_dap.specs.declared.listed.Mark.{Mark}
use Rattle.mpd_dap.specs.declared.listed.Mark.TheVariants as mark
use Rattle.mpd_dap.specs.declared.name.Event.{Event}
use Rattle.mpd_dap.specs.Bodies.{listed, thread_data, variable_data, target_data, mark_data, threads_data, variables_data, targets_data, marks_data}
use Rattle.mpd_dap.specs.Told.{response_data, event_data}

listed_plain : {A : Type 0} (f : A → Data) → ((x : A) → has_float (f x) ≡ false) → (xs : List A) → has_float (listed f xs) ≡ false
listed_plain f h [] = refl
listed_plain f h (x ∷ xs) = rw (h x) (listed_plain f h xs)

mark_plain : (m : Mark) → has_float (mark_data m) ≡ false
mark_plain (mark.Set id line) = refl
mark_plain (mark.Unset line trouble) = refl

pub threads_plain : (ts : List Thread) → has_float (threads_data ts) ≡ false
unfolding threads_data
threads_plain ts = rw (listed_plain thread_data (λ t. refl) ts) refl

pub variables_plain : (vs : List Variable) → has_float (variables_data vs) ≡ false
unfolding variables_data
variables_plain vs = rw (listed_plain variable_data (λ v. refl) vs) refl

pub targets_plain : (ts : List Target) → has_float (targets_data ts) ≡ false
unfolding targets_data
targets_plain ts = rw (listed_plain target_data (λ t. refl) ts) refl

pub marks_plain : (ms : List Mark) → has_float (marks_data ms) ≡ false
unfolding marks_data
marks_plain ms = rw (listed_plain mark_data mark_plain ms) refl

pub response_plain : (seq request : ℕ) (command : List ℕ) (body : Data) → has_float body ≡ false → has_float (response_data seq request command body) ≡ false
unfolding response_data
response_plain seq request command body h = rw h refl

pub event_plain : (seq : ℕ) (event : Event) (body : Data) → has_float body ≡ false → has_float (event_data seq event body) ≡ false
unfolding event_data
event_plain seq event body h = rw h refl
