-- Where ranks stand, and one rank more.
use Rattle.std.proofs.Common.{◌≡◌, ◌<◌, ◌+◌, ◌-◌, ℕ, suc, if◌then◌else◌, List, [], ◌∷◌, Option, Some, None, slice_get, sym, ap, ◌∙◌, arith, refl}
use Rattle.std.specs.List.{range_with_len}
use Rattle.std.specs.Option.{unwrap_or}
use Rattle.mpd_model.specs.declared.call.Activity.{Activity}
use Rattle.mpd_model.specs.declared.call.Activity.TheVariants.{Running, Blocked, Trapped}
use Rattle.mpd_model.specs.script.Program.{Program}
use Rattle.mpd_model.specs.script.Tree.{Tree}
use Rattle.mpd_model.specs.steps.World.{World, RankWorld}
use Rattle.mpd_model.specs.steps.Outcomes.{has_ended, no_statement, first_number, ended_by as doing_ended}
use Rattle.mpd_names.specs.Placed.{statement_line, rank_line}
use Rattle.mpd_names.specs.Stand.{stand, line_by, line_at, ended_by}
use Rattle.mpd_diagnose.specs.Causes.{with_some, standing_line, with_standing}

-- ---- a rank that has ended has no statement left, and so no line

line_left : (lines : List ℕ) (rest : List (ℕ × Tree)) → unwrap_or (if no_statement rest then None else Some (statement_line lines (first_number rest))) 0 ≡ statement_line lines (first_number rest)
line_left lines [] = refl
line_left lines (t ∷ ts) = refl

module _ (s : Program) (w : World) (p : ℕ) where
  line_doing : (r : RankWorld) (a : Activity) → r.activity ≡ a → unwrap_or (if has_ended r then None else Some (line_by s.lines w.board p r a)) 0 ≡ line_by s.lines w.board p r a
  line_doing r Running is = ap (λ a. unwrap_or (if doing_ended a r.rest then None else Some (rank_line s.lines (Some r))) 0) is ∙ line_left s.lines r.rest
  line_doing r Blocked is = ap (λ a. unwrap_or (if doing_ended a r.rest then None else Some (line_by s.lines w.board p r Blocked)) 0) is
  line_doing r (Trapped t) is = ap (λ a. unwrap_or (if doing_ended a r.rest then None else Some (line_by s.lines w.board p r (Trapped t))) 0) is

  line_there : (o : Option RankWorld) → unwrap_or (if ended_by o then None else line_at s.lines w.board p o) 0 ≡ unwrap_or (line_at s.lines w.board p o) 0
  line_there None = refl
  line_there (Some r) = line_doing r r.activity refl

  pub standing_is : (o : Option ℕ) (n : ℕ) → o ≡ stand s w p → n ≡ unwrap_or o 0 → n ≡ standing_line s w p
  standing_is o n e is = is ∙ ap (λ x. unwrap_or x 0) e ∙ line_there (slice_get w.ranks p)

-- ---- one rank more

pub standing_more : (s : Program) (w : World) (i n : ℕ) (ks now all : List ℕ) → i < n → with_standing s w ks (range_with_len i (n - i)) ≡ all → now ≡ with_some ks (standing_line s w i) → with_standing s w now (range_with_len (i + 1) (n - (i + 1))) ≡ all
standing_more s w i n ks now all h e k =
    let m : n - i ≡ suc (n - (i + 1)) = omega arith in
    let u : with_standing s w ks (range_with_len i (n - i)) ≡ with_standing s w (with_some ks (standing_line s w i)) (range_with_len (i + 1) (n - (i + 1))) = rw m refl in
    ap (λ x. with_standing s w x (range_with_len (i + 1) (n - (i + 1)))) k ∙ sym u ∙ e
