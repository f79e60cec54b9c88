-- Numbered places.
use Rattle.std.proofs.Common.{◌≡◌, ◌≢◌, ℕ, ◌+◌, ◌<◌, ◌≤◌, false, Option, Some, None, is_some, List, length, set, inl, inr, refl, sym, ap, ◌∙◌, arith}
use Rattle.std.proofs.lemmas.List.{get_or_past, set_past, get_or-set_other, get_or-replicate, length-set, length-replicate}
use Rattle.std.proofs.lemmas.Bool.{cases_lt}
use Rattle.mpd_model.specs.declared.limits.TheConstants.{BREAKS_MAX}
use Rattle.mpd_model.specs.declared.breakpoint.Breakpoint.{Breakpoint}
use Rattle.mpd_model.specs.runs.Breakpoints.{no_breaks, break_at}
use Rattle.mpd_policy.specs.Places.{Uses}

none_there : (n : ℕ) → break_at no_breaks n ≡ None
none_there n =
    elim (cases_lt n BREAKS_MAX) [
      | inl lt ↦ get_or-replicate BREAKS_MAX n None None lt
      | inr ge ↦ let size : length no_breaks ≡ BREAKS_MAX = length-replicate {A = Option Breakpoint} BREAKS_MAX None in get_or_past no_breaks n None (omega (arith, size, ge))
    ]

pub nothing_used : Uses no_breaks 0
nothing_used = record { size = length-replicate {A = Option Breakpoint} BREAKS_MAX None; within = omega arith; free = λ n le. none_there n }

pub past_none : (places : List (Option Breakpoint)) (n : ℕ) → length places ≡ BREAKS_MAX → BREAKS_MAX ≤ n → None ≡ break_at places n
past_none places n size past = sym (get_or_past places n None (omega (arith, size, past)))

pub ruleset reading = (past_none)

-- a place that is written is used
pub put_used : (places : List (Option Breakpoint)) (used used' n : ℕ) (place : Option Breakpoint) → Uses places used → n < BREAKS_MAX → used ≤ used' → n < used' → used' ≤ BREAKS_MAX → Uses (set places n place) used'
put_used places used used' n place h within more here few = record {
  size = length-set places n place ∙ h.size;
  within = few;
  free = λ k le.
      let other : k ≢ n = λ e. omega (arith, e, le, here) in
      get_or-set_other places n k place None other ∙ h.free k (omega (arith, le, more));
}

pub put_more : (places : List (Option Breakpoint)) (used n : ℕ) (place : Option Breakpoint) → Uses places used → n < BREAKS_MAX → used ≤ n → Uses (set places n place) (n + 1)
put_more places used n place h within at = put_used places used (n + 1) n place h within (omega (arith, at)) (omega arith) (omega (arith, within))

pub put_within : (places : List (Option Breakpoint)) (used n : ℕ) (place : Option Breakpoint) → Uses places used → n < BREAKS_MAX → n < used → Uses (set places n place) used
put_within places used n place h within at = put_used places used used n place h within (omega arith) at h.within

pub ruleset putting = (put_more, put_within)

pub none_found : (places : List (Option Breakpoint)) (n : ℕ) → length places ≡ BREAKS_MAX → BREAKS_MAX ≤ n → false ≡ is_some (break_at places n)
none_found places n size past = ap is_some (past_none places n size past)

pub none_removed : (places : List (Option Breakpoint)) (n : ℕ) → length places ≡ BREAKS_MAX → BREAKS_MAX ≤ n → places ≡ set places n None
none_removed places n size past = sym (set_past places n None (omega (arith, size, past)))

pub ruleset removing = (none_found, none_removed)

-- ---- the number behind the last place that is taken

pub record EndsAt (places : List (Option Breakpoint)) (end number : ℕ) : Type 0 where
  pub within : end ≤ number
  pub free : (n : ℕ) → end ≤ n → n < number → break_at places n ≡ None

pub end_begins : (places : List (Option Breakpoint)) → EndsAt places 0 0
end_begins places = record { within = omega arith; free = λ n le lt. absurd (omega (arith, lt)) }

pub end_taken : (places : List (Option Breakpoint)) (end number : ℕ) → EndsAt places (number + 1) (number + 1)
end_taken places end number = record { within = omega arith; free = λ n le lt. absurd (omega (arith, le, lt)) }

is_free_place : (o : Option Breakpoint) → is_some o ≡ false → o ≡ None
is_free_place None e = refl
is_free_place (Some b) e = absurd (cc)

pub end_free : (places : List (Option Breakpoint)) (end number : ℕ) → EndsAt places end number → is_some (break_at places number) ≡ false → EndsAt places end (number + 1)
end_free places end number h e = record {
  within = omega (arith, h.within);
  free = λ n le lt.
      elim (cases_lt n number) [
        | inl below ↦ h.free n le below
        | inr at ↦ let same : n ≡ number = omega (arith, at, lt) in ap (break_at places) same ∙ is_free_place (break_at places number) e
      ];
}

pub end_found : (places : List (Option Breakpoint)) (end number bound : ℕ) → EndsAt places end number → bound ≤ number → ((n : ℕ) → bound ≤ n → break_at places n ≡ None) → (n : ℕ) → end ≤ n → break_at places n ≡ None
end_found places end number bound h past free n le =
    elim (cases_lt n number) [
      | inl below ↦ h.free n le below
      | inr at ↦ free n (omega (arith, at, past))
    ]

pub ruleset ending = (end_begins, end_taken, end_free, end_found)
