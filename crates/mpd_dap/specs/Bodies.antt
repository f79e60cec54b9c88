-- The bodies of responses and events.
use Rattle.std.specs.Prelude.{ℕ, ◌+◌, List, [], ◌∷◌, map, codes, true, false}
use Rattle.serde_json.specs.Data.{Data, boolean, number, string, array, object, unsigned, Members, no_members, member}
use Rattle.serde_json.specs.View.{items_of}
use Rattle.mpd_dap.specs.declared.listed.Thread.{Thread}
use Rattle.mpd_dap.specs.declared.listed.Variable.{Variable}
use Rattle.mpd_dap.specs.declared.listed.Target.{Target}
use Rattle.mpd_dap.specs.declared.listed.Mark.{Mark}
use Rattle.mpd_dap.specs.declared.listed.Mark.TheVariants as mark
use Rattle.mpd_dap.specs.declared.name.Reason.{Reason}
use Rattle.mpd_dap.specs.Names.{reason_name, trouble_text}

-- ---- values

abbrev pub natural : ℕ → Data
natural n = number (unsigned n)

abbrev pub listed : {A : Type 0} → (A → Data) → List A → Data
listed f xs = array (items_of (map f xs))

-- fields: a key, and its value
abbrev pub members : List (List ℕ × Data) → Members
members [] = no_members
members (f ∷ fs) = member f.0 f.1 (members fs)

abbrev pub fields : List (List ℕ × Data) → Data
fields fs = object (members fs)

-- ---- beginning and end

unfoldable pub nothing_data : Data
nothing_data = fields []

unfoldable pub capabilities_data : Data
capabilities_data =
    fields ((codes "supportsConditionalBreakpoints", boolean true) ∷ (codes "supportsConfigurationDoneRequest", boolean true)
    ∷ (codes "supportsEvaluateForHovers", boolean true) ∷ (codes "supportsExceptionInfoRequest", boolean true)
    ∷ (codes "supportsStepBack", boolean true) ∷ (codes "supportsStepInTargetsRequest", boolean true)
    ∷ (codes "supportsTerminateRequest", boolean true) ∷ [])

-- ---- looks

abbrev pub thread_data : Thread → Data
thread_data t = fields ((codes "id", natural t.id) ∷ (codes "name", string t.name) ∷ [])

unfoldable pub threads_data : List Thread → Data
threads_data ts = fields ((codes "threads", listed thread_data ts) ∷ [])

abbrev pub stack_data : Data → Data
stack_data frame = fields ((codes "stackFrames", listed (λ f. f) (frame ∷ [])) ∷ (codes "totalFrames", natural 1) ∷ [])

abbrev pub frame_data : ℕ → ℕ → List ℕ → List ℕ → Data
frame_data id line name path =
    fields ((codes "column", natural 1) ∷ (codes "id", natural id) ∷ (codes "line", natural line) ∷ (codes "name", string name) ∷ (codes "source", fields ((codes "path", string path) ∷ [])) ∷ [])

-- the one frame of a rank that stands at a line of the script at a path
unfoldable pub standing_data : ℕ → ℕ → List ℕ → List ℕ → Data
standing_data id line name path = stack_data (frame_data id line name path)

-- and of one that has ended
unfoldable pub ended_data : ℕ → List ℕ → Data
ended_data id name =
    stack_data (fields ((codes "column", natural 1) ∷ (codes "id", natural id) ∷ (codes "line", natural 0) ∷ (codes "name", string name)
    ∷ (codes "presentationHint", string (codes "label")) ∷ []))

abbrev pub scope_data : List ℕ → ℕ → Data
scope_data name reference = fields ((codes "expensive", boolean false) ∷ (codes "name", string name) ∷ (codes "variablesReference", natural reference) ∷ [])

-- the four scopes, whose references follow one another
unfoldable pub scopes_data : ℕ → Data
scopes_data first =
    fields ((
      codes "scopes",
      listed (λ f. f) (scope_data (codes "Variables") first ∷ scope_data (codes "Requests") (first + 1)
          ∷ scope_data (codes "Calls") (first + 2) ∷ scope_data (codes "Printed") (first + 3) ∷ []),
    ) ∷ [])

abbrev pub variable_data : Variable → Data
variable_data s = fields ((codes "name", string s.name) ∷ (codes "value", string s.value) ∷ (codes "variablesReference", natural 0) ∷ [])

unfoldable pub variables_data : List Variable → Data
variables_data vs = fields ((codes "variables", listed variable_data vs) ∷ [])

abbrev pub target_data : Target → Data
target_data t = fields ((codes "id", natural t.id) ∷ (codes "label", string t.label) ∷ [])

unfoldable pub targets_data : List Target → Data
targets_data ts = fields ((codes "targets", listed target_data ts) ∷ [])

unfoldable pub exception_data : List ℕ → List ℕ → Data
exception_data kind told = fields ((codes "breakMode", string (codes "always")) ∷ (codes "description", string told) ∷ (codes "exceptionId", string kind) ∷ [])

-- ---- breakpoints

abbrev pub mark_data : Mark → Data
mark_data (mark.Set id line) = fields ((codes "id", natural id) ∷ (codes "line", natural line) ∷ (codes "verified", boolean true) ∷ [])
mark_data (mark.Unset line trouble) = fields ((codes "line", natural line) ∷ (codes "message", string (trouble_text trouble)) ∷ (codes "verified", boolean false) ∷ [])

unfoldable pub marks_data : List Mark → Data
marks_data ms = fields ((codes "breakpoints", listed mark_data ms) ∷ [])

-- ---- moves

unfoldable pub continued_data : Data
continued_data = fields ((codes "allThreadsContinued", boolean true) ∷ [])

unfoldable pub evaluated_data : List ℕ → Data
evaluated_data text = fields ((codes "result", string text) ∷ (codes "variablesReference", natural 0) ∷ [])

-- ---- events

unfoldable pub started_data : ℕ → Data
started_data thread = fields ((codes "reason", string (codes "started")) ∷ (codes "threadId", natural thread) ∷ [])

abbrev pub said_data : List ℕ → List ℕ → Data
said_data category text = fields ((codes "category", string category) ∷ (codes "output", string text) ∷ [])

unfoldable pub output_data : List ℕ → Data
output_data text = said_data (codes "stdout") text

unfoldable pub stopped_data : Reason → List ℕ → ℕ → Data
stopped_data reason description thread =
    fields ((codes "allThreadsStopped", boolean true) ∷ (codes "description", string description) ∷ (codes "reason", string (reason_name reason)) ∷ (codes "threadId", natural thread) ∷ [])
