-- What is watched, written place by place.
use Rattle.std.proofs.Common.{◌≡◌, ◌≢◌, ℕ, ◌+◌, ◌<◌, ◌≤◌, Option, None, List, length, replicate, get_or, set, inl, inr, sym, ap, ◌∙◌, arith}
use Rattle.std.proofs.lemmas.List.{get_or_past, get_or-set_same, get_or-set_other, get_or-replicate, length-replicate}
use Rattle.std.proofs.lemmas.Bool.{cases_lt}
use Rattle.std.proofs.lemmas.Bool.Decides.{eqb_tells}
use Rattle.mpd_model.specs.declared.limits.TheConstants.{BREAKS_MAX}
use Rattle.mpd_model.specs.declared.breakpoint.Breakpoint.{Breakpoint}
use Rattle.mpd_model.specs.steps.World.{World}
use Rattle.mpd_model.specs.runs.Breakpoints.{break_at}
use Rattle.mpd_policy.specs.declared.hits.Watched.{Watched}
use Rattle.mpd_policy.specs.declared.hits.Watched.TheVariants.{Nothing}
use Rattle.mpd_policy.specs.Places.{watched_at}

-- the first so many values are those that are watched, and none stands behind them
pub record WatchedSoFar (w : World) (places : List (Option Breakpoint)) (n : ℕ) (values : List Watched) : Type 0 where
  pub told : (k : ℕ) → k < n → get_or values k Nothing ≡ watched_at w (break_at places k)
  pub behind : (k : ℕ) → n ≤ k → get_or values k Nothing ≡ Nothing

abbrev pub none_watched : List Watched
none_watched = replicate BREAKS_MAX Nothing

pub watch_begins : (w : World) (places : List (Option Breakpoint)) → WatchedSoFar w places 0 (replicate BREAKS_MAX Nothing)
watch_begins w places = record {
  told = λ k lt. absurd (omega (arith, lt));
  behind = λ k le. elim (cases_lt k BREAKS_MAX) [
    | inl lt ↦ get_or-replicate BREAKS_MAX k Nothing Nothing lt
    | inr ge ↦ get_or_past none_watched k Nothing (let size : length none_watched ≡ BREAKS_MAX = length-replicate {A = Watched} BREAKS_MAX Nothing in omega (arith, size, ge))
  ];
}

pub watch_more : (w : World) (places : List (Option Breakpoint)) (n : ℕ) (values : List Watched) (x : Watched) → n < length values → x ≡ watched_at w (break_at places n) → WatchedSoFar w places n values → WatchedSoFar w places (n + 1) (set values n x)
watch_more w places n values x within is h = record {
  told = λ k lt. elim (eqb_tells k n) [
    | inl t ↦ ap (λ (i : ℕ). get_or (set values n x) i Nothing) t.1 ∙ get_or-set_same values n x Nothing within ∙ is ∙ ap (λ (i : ℕ). watched_at w (break_at places i)) (sym t.1)
    | inr t ↦ let differs : k ≢ n = t.1 in get_or-set_other values n k x Nothing differs ∙ h.told k (elim (cases_lt k n) [ inl lt ↦ lt | inr ge ↦ absurd (differs (omega (arith, lt, ge))) ])
  ];
  behind = λ k le. get_or-set_other values n k x Nothing (λ e. omega (arith, e, le)) ∙ h.behind k (omega (arith, le));
}

pub watch_all : (w : World) (places : List (Option Breakpoint)) (n : ℕ) (values : List Watched) → WatchedSoFar w places n values → ((k : ℕ) → n ≤ k → break_at places k ≡ None) → (k : ℕ) → get_or values k Nothing ≡ watched_at w (break_at places k)
watch_all w places n values h free k =
    elim (cases_lt k n) [
      | inl lt ↦ h.told k lt
      | inr ge ↦ h.behind k ge ∙ sym (ap (watched_at w) (free k ge))
    ]

pub ruleset watching = (watch_more, watch_all)
