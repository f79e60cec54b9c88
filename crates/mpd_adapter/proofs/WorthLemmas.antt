-- What an expression comes to, by the debugger that a session has.
use Rattle.std.proofs.Common.{◌≡◌, ◌≢◌, ℕ, suc, List, [], ◌∷◌, length, Option, Some, None, refl, ap, sym, ◌∙◌, arith}
use Rattle.serde_json.specs.View.{view}
use Rattle.mpd_model.specs.runs.Trail.{IsReached}
use Rattle.mpd_names.specs.declared.name.Named.{Named}
use Rattle.mpd_trail.specs.DebuggerViews.{DebuggerView, standing_of}
use Rattle.mpd_session.specs.Held.{Held}
use Rattle.mpd_dap.specs.declared.body.Json.{Json}
use Rattle.mpd_dap.specs.Bodies.{evaluated_data}
use Rattle.mpd_adapter.specs.declared.worth.RankWorth.{RankWorth}
use Rattle.mpd_adapter.specs.Looks.{shown}
use Rattle.mpd_adapter.specs.Worths.{held_worths, named_worths, IsWorth}
use Rattle.mpd_adapter.proofs.SeenLemmas.{seen_at}

pub worths_seen : (s : Held) (d : DebuggerView) (n : Named) (meant : Option ℕ) (list : List RankWorth) → IsReached (standing_of d) → d.trail ≡ s.trail → list ≡ held_worths d.world n meant → list ≡ named_worths s n meant
worths_seen s d n meant list r e is = is ∙ seen_at [] (λ t w. held_worths w n meant) s d r e

pub worth_none : (list : List RankWorth) → length list ≡ 0 → IsWorth list (shown None)
worth_none [] h = refl
worth_none (x ∷ xs) h = absurd (let e : suc (length xs) ≡ 0 = h in omega (arith, e))

pub worth_some : (list : List RankWorth) (j : Json) (text : List ℕ) → length list ≢ 0 → view j.value ≡ evaluated_data text → IsWorth list (shown (Some j))
worth_some [] j text h e = absurd (h refl)
worth_some (x ∷ xs) j text h e = (text, e)

pub ruleset telling = (worth_none, worth_some)
