-- What a line is answered.
use Rattle.std.proofs.Common.{◌≡◌, ◌≢◌, ℕ, Bool, ◌<◌, ◌≤◌, List, [], ◌∷◌, ◌++◌, length, codes, refl, ap, sym, ◌∙◌, arith, subst, inl, inr, append-nil, Result, Ok, Err}
use Rattle.serde_json.proofs.OnLiterals.{serde_json_on_literals}
use Rattle.mpd_session.specs.declared.request.Request.{Request}
use Rattle.mpd_wire.specs.declared.fault.WireFault.{WireFault}
use Rattle.mpd_wire.specs.declared.fault.WireFault.TheVariants.{LineTooLong, NotJson, BadField, UnknownCommand, Memory}
use Rattle.mpd_session.specs.declared.reply.Reply.{Reply}
use Rattle.mpd_wire.specs.Requests.{request_by}
use Rattle.mpd_wire.specs.Replies.{IsReplyLine}
use Rattle.mpd_wire.specs.Says.{memory_line, unprinted_line, full_line, fault_line, Asked, Took, Says, AddsTold, AddsAsked, AddsTook, one_more, counted}
use Rattle.mpd_wire.proofs.Json.{too_long}

-- ---- constants

pub too_long_line : codes "{\"error\":\"line-too-long\",\"ok\":false}\n" ≡ fault_line LineTooLong
unfolding fault_line serde_json_on_literals
too_long_line = refl

pub not_json_line : codes "{\"error\":\"not-json\",\"ok\":false}\n" ≡ fault_line NotJson
unfolding fault_line serde_json_on_literals
not_json_line = refl

pub bad_field_line : codes "{\"error\":\"bad-field\",\"ok\":false}\n" ≡ fault_line BadField
unfolding fault_line serde_json_on_literals
bad_field_line = refl

pub unknown_line : codes "{\"error\":\"unknown-command\",\"ok\":false}\n" ≡ fault_line UnknownCommand
unfolding fault_line serde_json_on_literals
unknown_line = refl

pub no_memory_line : codes "{\"error\":\"memory\",\"ok\":false}\n" ≡ fault_line Memory
unfolding fault_line
no_memory_line = refl

history_full_line : codes "{\"error\":\"history-full\",\"ok\":false}\n" ≡ full_line
unfolding serde_json_on_literals
history_full_line = refl

pub ruleset faulting = (too_long_line, not_json_line, bad_field_line, unknown_line, no_memory_line)

-- ---- a reply

pub printed : (r : Reply) (before after text : List ℕ) → IsReplyLine r text → after ≡ before ++ text → AddsTold r before after
printed r before after text is said = (text, said, inl is)

pub unprinted : (r : Reply) (before after : List ℕ) → after ≡ before ++ unprinted_line → AddsTold r before after
unprinted r before after said = (unprinted_line, said, inr refl)

pub ruleset telling = (printed, unprinted)

-- ---- a desk

module _ {D : Type 0} (asks : D → Request → Reply → D → Type 0) (full : D → Type 0) where
  pub replied : (d e : D) (q : Request) (r : Reply) (before after : List ℕ) → asks d q r e → AddsTold r before after → AddsAsked asks full d q before after e
  replied d e q r before after h (text, said, told) = (text, said, inl (r, h, told))

  pub no_memory : (d e : D) (q : Request) (before after : List ℕ) → e ≡ d → after ≡ before ++ memory_line → AddsAsked asks full d q before after e
  no_memory d e q before after same said = (memory_line, said, inr (same, inr refl))

  pub history_full : (d e : D) (q : Request) (before after : List ℕ) → e ≡ d → full d → after ≡ before ++ codes "{\"error\":\"history-full\",\"ok\":false}\n" → AddsAsked asks full d q before after e
  history_full d e q before after same is_full said = (full_line, said ∙ ap (λ t. before ++ t) history_full_line, inr (same, inl (is_full, refl)))

  -- ---- a line

  took_request : (r : Result Request WireFault) (q : Request) (d e : D) (before after : List ℕ) → r ≡ Ok q → AddsAsked asks full d q before after e → AddsTook asks full d r before after e
  took_request (Ok p) q d e before after is (text, said, asked) = let same : q ≡ p = cc in (text, said, inl (subst (λ (x : Request). Asked asks full d x text e) same asked))
  took_request (Err f) q d e before after is h = absurd cc

  took_memory : (r : Result Request WireFault) (d e : D) (before after : List ℕ) → e ≡ d → after ≡ before ++ memory_line → AddsTook asks full d r before after e
  took_memory (Ok p) d e before after same said = (memory_line, said, inr (same, refl))
  took_memory (Err f) d e before after same said = (memory_line, said, (same, inr refl))

  took_fault : (r : Result Request WireFault) (f : WireFault) (d e : D) (before after : List ℕ) → r ≡ Err f → e ≡ d → after ≡ before ++ fault_line f → AddsTook asks full d r before after e
  took_fault (Ok p) f d e before after is same said = absurd cc
  took_fault (Err g) f d e before after is same said = let h : f ≡ g = cc in (fault_line f, said, (same, inl (ap fault_line h)))

  pub parsed : (wide : Bool) (z : List ℕ) (q : Request) (r : Result Request WireFault) (d e : D) (before after : List ℕ) → (r ≢ Err Memory → r ≡ request_by wide z) → r ≡ Ok q → AddsAsked asks full d q before after e
      → AddsTook asks full d (request_by wide z) before after e
  parsed wide z q r d e before after exact is h = took_request (request_by wide z) q d e before after (sym (exact (λ m. let k : Ok q ≡ (let x : Result Request WireFault = Err Memory in x) = sym is ∙ m in cc)) ∙ is) h

  pub refused : (wide : Bool) (z : List ℕ) (f : WireFault) (r : Result Request WireFault) (d e : D) (before after : List ℕ) → (r ≢ Err Memory → r ≡ request_by wide z) → r ≡ Err f → e ≡ d → after ≡ before ++ fault_line f
      → AddsTook asks full d (request_by wide z) before after e
  refused wide z LineTooLong r d e before after exact is same said = took_fault (request_by wide z) LineTooLong d e before after (sym (exact (λ m. let k : Err LineTooLong ≡ (let x : Result Request WireFault = Err Memory in x) = sym is ∙ m in cc)) ∙ is) same said
  refused wide z NotJson r d e before after exact is same said = took_fault (request_by wide z) NotJson d e before after (sym (exact (λ m. let k : Err NotJson ≡ (let x : Result Request WireFault = Err Memory in x) = sym is ∙ m in cc)) ∙ is) same said
  refused wide z BadField r d e before after exact is same said = took_fault (request_by wide z) BadField d e before after (sym (exact (λ m. let k : Err BadField ≡ (let x : Result Request WireFault = Err Memory in x) = sym is ∙ m in cc)) ∙ is) same said
  refused wide z UnknownCommand r d e before after exact is same said = took_fault (request_by wide z) UnknownCommand d e before after (sym (exact (λ m. let k : Err UnknownCommand ≡ (let x : Result Request WireFault = Err Memory in x) = sym is ∙ m in cc)) ∙ is) same said
  refused wide z Memory r d e before after exact is same said = took_memory (request_by wide z) d e before after same (said ∙ ap (λ t. before ++ t) (sym no_memory_line))

  -- ---- a line, with what stays and the count

  abbrev Answered : {N : Type 0} → Bool → D → N → ℕ → List ℕ → List ℕ → Bool → D → N → ℕ → Type 0
  Answered v d a m line text w e b n = Says (request_by v) asks full d line text e × (w ≡ v) × (b ≡ a) × (n ≡ counted m line)

  abbrev AddsAnswered : {N : Type 0} → Bool → D → N → ℕ → List ℕ → List ℕ → List ℕ → Bool → D → N → ℕ → Type 0
  AddsAnswered v d a m line before after w e b n = (text : List ℕ) × (after ≡ before ++ text) × Answered v d a m line text w e b n

  pub skipped : {N : Type 0} (v w : Bool) (d e : D) (a b : N) (m n : ℕ) (line before after : List ℕ) → line ≡ [] → e ≡ d → w ≡ v → b ≡ a → n ≡ m → after ≡ before → AddsAnswered v d a m line before after w e b n
  skipped v w d e a b m n [] before after is same wide name count said = ([], said ∙ sym (append-nil before), ((refl, same), wide, name, count))
  skipped v w d e a b m n (c ∷ l) before after is same wide name count said = absurd cc

  pub answered_line : {N : Type 0} (v w : Bool) (d e : D) (a b : N) (m n : ℕ) (line before after : List ℕ) → line ≢ [] → length line ≤ 4096 → w ≡ v → b ≡ a → n ≡ one_more m → AddsTook asks full d (request_by v line) before after e
      → AddsAnswered v d a m line before after w e b n
  answered_line v w d e a b m n [] before after some short wide name count h = absurd (some refl)
  answered_line v w d e a b m n (c ∷ l) before after some short wide name count (text, said, took) = (text, said, ((took, λ long. absurd (omega (arith, short, long))), wide, name, count))

  long_one : {N : Type 0} (v w : Bool) (d e : D) (a b : N) (m n : ℕ) (line : List ℕ) → 4096 < length line → e ≡ d → w ≡ v → b ≡ a → n ≡ one_more m → Answered v d a m line (fault_line LineTooLong) w e b n
  long_one v w d e a b m n [] long same wide name count = absurd (omega (arith, long))
  long_one v w d e a b m n (c ∷ l) long same wide name count =
      ((subst (λ r. Took asks full d r (fault_line LineTooLong) e) (sym (too_long v (c ∷ l) long)) (same, inl refl), λ _. refl), wide, name, count)

  pub long_answered : {N : Type 0} (v w : Bool) (d e : D) (a b : N) (m n : ℕ) (before after : List ℕ) → e ≡ d → w ≡ v → b ≡ a → n ≡ one_more m → after ≡ before ++ fault_line LineTooLong
      → (text : List ℕ) × (after ≡ before ++ text) × ((line : List ℕ) → 4096 < length line → Answered v d a m line text w e b n)
  long_answered v w d e a b m n before after same wide name count said = (fault_line LineTooLong, said, λ line long. long_one v w d e a b m n line long same wide name count)

pub ruleset asking = (replied, history_full, no_memory)

pub ruleset taking = (parsed, refused)

pub ruleset saying = (skipped, answered_line)

pub ruleset refusing = (long_answered)
