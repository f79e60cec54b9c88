-- What a quiet step does beside others.
use Rattle.std.proofs.Common.{◌≡◌, ◌⊎◌, true, Some, List, inl, inr}
use Rattle.mpd_model.specs.declared.step.Step.{Step}
use Rattle.mpd_model.specs.declared.call.Mode.{Mode}
use Rattle.mpd_model.specs.script.Program.{Program}
use Rattle.mpd_model.specs.steps.World.{World, start}
use Rattle.mpd_model.specs.steps.Next.{next, fold}
use Rattle.mpd_policy.specs.Wide.{is_quiet}
use Rattle.mpd_complete.specs.WideLaws.{StaysQuiet, ComesFirst}
use Rattle.mpd_complete.proofs.Invariants.{fold_sound, start_sound}
use Rattle.mpd_complete.proofs.Diamond.{diamond, apart, stays_quiet}
use Rattle.mpd_complete.proofs.Walks.{front, some_on}

pub stay : (s : Program) (mode : Mode) (before : List Step) (w : World) → fold (start s mode) before ≡ Some w
    → (a b : Step) (u v : World) → next w a ≡ Some u → is_quiet w a ≡ true → next w b ≡ Some v → (a ≡ b) ⊎ StaysQuiet w v a b
stay s mode before w e a b u v f quiet g =
    let h = fold_sound before (start s mode) w e (start_sound s mode) in
    elim (apart w h a b u v quiet f g) [
      | inl same ↦ inl same
      | inr off ↦ inr (record { apart = off; on = some_on v a _ (diamond w h a b u v f g off).by_a; quiet = stays_quiet w a b u v quiet f g off })
    ]

pub come_first : (s : Program) (mode : Mode) (before : List Step) (w : World) → fold (start s mode) before ≡ Some w
    → (a : Step) (u : World) → next w a ≡ Some u → is_quiet w a ≡ true → (steps : List Step) (v : World) → fold w steps ≡ Some v → ComesFirst a steps u v
come_first s mode before w e a u f quiet steps v g =
    let k = front steps a w u v (fold_sound before (start s mode) w e (start_sound s mode)) quiet f g in
    record {
      rest = k.rest;
      end = k.end;
      leads = k.leads;
      either = elim k.either [
        | inl took ↦ inl took
        | inr left ↦ inr (left.as_long, left.world, left.leads, left.same)
      ];
    }
