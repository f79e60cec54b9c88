-- The laws.
use Rattle.std.proofs.Common.{◌≡◌, ℕ, zero, suc, Bool, true, false, Option, Some, None, List, [], ◌∷◌, map, slice_get, inl, refl, ap, ◌∙◌}
use Rattle.std.specs.Prelude.{slice_index_or}
use Rattle.std.specs.Option.{option_map}
use Rattle.mpd_model.specs.declared.call.Mode.{Mode}
use Rattle.mpd_model.specs.script.Program.{Program}
use Rattle.mpd_model.specs.steps.World.{World, RankWorld, start, call_id, awaited, last_call}
use Rattle.mpd_model.specs.steps.Next.{is_blocked, waits, held_in}
use Rattle.mpd_outcomes.specs.Future.{quieted, seen, seen_held, seen_last, key_by, SameFuture}
use Rattle.mpd_outcomes.specs.StateLaws.{IsRunTo, GoOnAlike, OneWalk}
use Rattle.mpd_outcomes.proofs.Alike.{Alike, Tidy}
use Rattle.mpd_outcomes.proofs.Asked.{numbers, ranks_numbered, last_seen, awaited_alike, awaited_seen}
use Rattle.mpd_outcomes.proofs.Comes.{all_enabled_alike, decision_alike, wide_decision_alike, ending_alike}
use Rattle.mpd_outcomes.proofs.Follow.{follow}
use Rattle.mpd_outcomes.proofs.Keys.{alike, start_tidy, fold_tidy}
use Rattle.mpd_outcomes.proofs.SameWalks.{same_walk, as_high}

-- ---- worlds that are alike have one key

map_same : {A B : Type 0} (f g : A → B) (xs : List (Option A)) → ((h : ℕ) (x : A) → slice_index_or xs h None ≡ Some x → f x ≡ g x) → map (option_map f) xs ≡ map (option_map g) xs
map_same f g [] e = refl
map_same f g (None ∷ xs) e = ap (λ l. None ∷ l) (map_same f g xs (λ h x is. e (suc h) x is))
map_same f g (Some x ∷ xs) e = λ j. Some (e zero x refl j) ∷ map_same f g xs (λ h y is. e (suc h) y is) j

option_same : {A B : Type 0} (f g : A → B) (o : Option A) → ((x : A) → o ≡ Some x → f x ≡ g x) → option_map f o ≡ option_map g o
option_same f g None e = refl
option_same f g (Some x) e = ap (λ y. Some y) (e x refl)

module _ (w v : World) (h : Alike w v) where
  blocked_same : (p : ℕ) (b : Bool) → waits (slice_get w.ranks p) ≡ b → seen_last w.board p b ≡ seen_last v.board p b
  blocked_same p false e = refl
  blocked_same p true e = λ j. Some (record {
    last = last_seen w v h p e j;
    statement = h.stands p e j;
    target = (option_same (seen w.board) (seen v.board) (awaited w.board (last_call w.board p)) (awaited_seen w v h p e) ∙ ap (option_map (seen v.board)) (awaited_alike w v h p e)) j;
  })

  key_here : (p : ℕ) (x y : Option RankWorld) → slice_get w.ranks p ≡ x → option_map (quieted w.board p) x ≡ option_map (quieted v.board p) y → option_map (key_by w.board p) x ≡ option_map (key_by v.board p) y
  key_here p None None ex e = refl
  key_here p None (Some s) ex e = absurd (cc)
  key_here p (Some r) None ex e = absurd (cc)
  key_here p (Some r) (Some s) ex e =
      let same : quieted w.board p r ≡ quieted v.board p s = ap rank_or e in
      λ j. Some (record {
        rank = same j;
        calls = map (λ i. h.opens (call_id p i) j) (numbers w v h j p);
        held = (held_same ∙ ap (λ (u : RankWorld). seen_held v.board p u.handles) same) j;
        blocked = (blocked_same p (is_blocked r.activity) (ap waits ex) ∙ ap (λ (u : RankWorld). seen_last v.board p (is_blocked u.activity)) same) j;
      })
    where
      rank_or : Option RankWorld → RankWorld
      rank_or None = r
      rank_or (Some z) = z

      held_same : seen_held w.board p r.handles ≡ seen_held v.board p r.handles
      held_same =
          map_same (λ i. seen w.board (call_id p i)) (λ i. seen v.board (call_id p i)) r.handles
          (λ n i is. h.due (call_id p i) (inl (n, ap (λ (o : Option RankWorld). held_in p o (Some n)) ex ∙ ap (option_map (call_id p)) is)))

  pub one_key : SameFuture w v
  one_key = λ j. record {
    mode = h.mode j;
    ranks = map (λ p. key_here p (slice_get w.ranks p) (slice_get v.ranks p) refl (h.ranks p) j) (ranks_numbered w v h j);
  }

-- ---- the laws

reached_tidy : (s : Program) (mode : Mode) (w : World) → IsRunTo s mode w → Tidy w
reached_tidy s mode w r = fold_tidy r.0 (start s mode) w r.1 (start_tidy s mode)

pub go_on_alike : (s : Program) (mode : Mode) (w v : World) → IsRunTo s mode w → IsRunTo s mode v → SameFuture w v → GoOnAlike w v
go_on_alike s mode w v rw rv same =
    let tw = reached_tidy s mode w rw in
    let tv = reached_tidy s mode v rv in
    let h = alike w v same tw tv in
    record {
      enabled_same = all_enabled_alike w v h tw tv;
      decision_same = decision_alike w v h tw tv;
      wide_decision_same = wide_decision_alike w v h tw tv;
      ending_same = ending_alike w v h tw tv;
      steps = λ a x y e g. one_key x y (follow w v h tw tv a x y e g);
    }

pub one_walk : (s : Program) (mode : Mode) (w v : World) → IsRunTo s mode w → IsRunTo s mode v → SameFuture w v → (fuel : ℕ) → OneWalk fuel w v
one_walk s mode w v rw rv same fuel =
    let tw = reached_tidy s mode w rw in
    let tv = reached_tidy s mode v rv in
    let h = alike w v same tw tv in
    record { walk_same = same_walk fuel w v h tw tv; height_same = as_high fuel w v h tw tv }
