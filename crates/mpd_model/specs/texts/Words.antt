-- Trace words: what a line of bytes says.
use Rattle.std.specs.Prelude.{ℕ, suc, ◌+◌, ◌-◌, ◌*◌, Bool, true, false, ◌&&◌, ◌||◌, not, ◌==◌, nat_le, bytes_eq, if◌then◌else◌, List, [], ◌∷◌, length, Option, Some, None, option_map, option_and_then, filter, codes}
use Rattle.std.specs.List.{list_all}
use Rattle.std.specs.Char.{is_ascii_digit}
use Rattle.mpd_model.specs.declared.step.CallId.{CallId}
use Rattle.mpd_model.specs.declared.step.Step.{Step}
use Rattle.mpd_model.specs.declared.step.Step.TheVariants.{Local, Match, Wake, WakeAny, Release}
use Rattle.mpd_model.specs.declared.words.TraceWord.{TraceWord}
use Rattle.mpd_model.specs.declared.words.TraceWord.TheVariants as trace_word
use Rattle.mpd_model.specs.steps.World.{call_id}

-- ---- words: what stands between spaces and tabs

abbrev pub is_blank : ℕ → Bool
is_blank b = (b == 32) || (b == 9)

-- how many bytes stand before the first that passes the test, or all
abbrev pub stop_len : (ℕ → Bool) → List ℕ → ℕ
stop_len test [] = 0
stop_len test (b ∷ z) = if test b then 0 else suc (stop_len test z)

abbrev pub is_no_blank : ℕ → Bool
is_no_blank b = not (is_blank b)

abbrev pub is_dot : ℕ → Bool
is_dot b = b == 46

abbrev pub with_byte : ℕ → List (List ℕ) → List (List ℕ)
with_byte b [] = (b ∷ []) ∷ []
with_byte b (piece ∷ pieces) = (b ∷ piece) ∷ pieces

abbrev pub put_before : Bool → ℕ → List (List ℕ) → List (List ℕ)
put_before true b pieces = [] ∷ pieces
put_before false b pieces = with_byte b pieces

-- the pieces before, between and after the blanks
abbrev pub pieces : List ℕ → List (List ℕ)
pieces [] = [] ∷ []
pieces (b ∷ z) = put_before (is_blank b) b (pieces z)

abbrev pub has_some : {A : Type 0} → List A → Bool
has_some [] = false
has_some (x ∷ xs) = true

abbrev pub words : List ℕ → List (List ℕ)
words z = filter (has_some {A = ℕ}) (pieces z)

abbrev pub has_word : List ℕ → Bool
has_word z = has_some (words z)

-- ---- numbers and calls

-- the value of digits, after digits of the value so far
abbrev pub digits_value : ℕ → List ℕ → ℕ
digits_value so_far [] = so_far
digits_value so_far (b ∷ z) = digits_value (so_far * 10 + (b - 48)) z

-- a number has 1 to 9 digits
abbrev pub is_number : List ℕ → Bool
is_number z = nat_le 1 (length z) && (nat_le (length z) 9 && list_all is_ascii_digit z)

abbrev pub number_of : List ℕ → Option ℕ
number_of z = if is_number z then Some (digits_value 0 z) else None

-- what stands before the first `.`, and what stands after it
abbrev pub cut_at_dot : List ℕ → Option (List ℕ × List ℕ)
cut_at_dot [] = None
cut_at_dot (b ∷ z) = if b == 46 then Some ([], z) else option_map (λ q. (b ∷ q.0, q.1)) (cut_at_dot z)

abbrev pub call_with : Option ℕ → Option ℕ → Option CallId
call_with None i = None
call_with (Some p) None = None
call_with (Some p) (Some i) = Some (call_id p i)

-- a call is two numbers with one `.` between them
abbrev pub call_of : List ℕ → Option CallId
call_of z = option_and_then (λ q. call_with (number_of q.0) (number_of q.1)) (cut_at_dot z)

-- ---- steps and commands: a name, and the words after it

abbrev pub only_number : List (List ℕ) → Option ℕ
only_number [] = None
only_number (a ∷ []) = number_of a
only_number (a ∷ b ∷ rest) = None

abbrev pub both_of : Option ℕ → Option ℕ → Option (ℕ × ℕ)
both_of (Some a) (Some b) = Some (a, b)
both_of a b = None

abbrev pub two_numbers : List (List ℕ) → Option (ℕ × ℕ)
two_numbers (a ∷ b ∷ []) = both_of (number_of a) (number_of b)
two_numbers words = None

abbrev pub pair_of : Option CallId → Option CallId → Option (CallId × CallId)
pair_of None r = None
pair_of (Some s) None = None
pair_of (Some s) (Some r) = Some (s, r)

abbrev pub two_calls : List (List ℕ) → Option (CallId × CallId)
two_calls [] = None
two_calls (a ∷ []) = None
two_calls (a ∷ b ∷ []) = pair_of (call_of a) (call_of b)
two_calls (a ∷ b ∷ c ∷ rest) = None

abbrev pub alone : {A : Type 0} → A → List (List ℕ) → Option A
alone x [] = Some x
alone x (a ∷ rest) = None

abbrev pub step_named : List ℕ → List (List ℕ) → Option Step
step_named name rest =
    if bytes_eq name (codes "local") then option_map Local (only_number rest)
    else (if bytes_eq name (codes "match") then option_map (λ q. Match q.0 q.1) (two_calls rest)
    else (if bytes_eq name (codes "wake") then option_map Wake (only_number rest)
    else (if bytes_eq name (codes "wakeany") then option_map (λ q. WakeAny q.0 q.1) (two_numbers rest)
    else (if bytes_eq name (codes "release") then alone Release rest else None))))

abbrev pub step_in : List (List ℕ) → Option Step
step_in [] = None
step_in (name ∷ rest) = step_named name rest

-- `local P`, `match S R`, `wake P`, `wakeany P I` or `release`
abbrev pub step_of : List ℕ → Option Step
step_of z = step_in (words z)

abbrev pub trace_word_named : List ℕ → List (List ℕ) → Option TraceWord
trace_word_named name rest =
    if bytes_eq name (codes "back") then alone trace_word.Back rest
    else (if bytes_eq name (codes "redo") then alone trace_word.Redo rest
    else (if bytes_eq name (codes "goto") then option_map trace_word.Goto (only_number rest)
    else (if bytes_eq name (codes "enabled") then alone trace_word.Enabled rest
    else (if bytes_eq name (codes "show") then alone trace_word.Show rest else option_map trace_word.Step (step_named name rest)))))

abbrev pub trace_word_in : List (List ℕ) → Option TraceWord
trace_word_in [] = None
trace_word_in (name ∷ rest) = trace_word_named name rest

-- a step, `back`, `redo`, `goto N`, `enabled` or `show`
abbrev pub trace_word_of : List ℕ → Option TraceWord
trace_word_of z = trace_word_in (words z)
