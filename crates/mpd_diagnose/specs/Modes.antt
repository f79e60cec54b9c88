-- Modes that are diagnosed in turn, and what their verdicts come to; so do those of several numbers
-- of ranks.
use Rattle.std.specs.Prelude.{ℕ, ◌+◌, Bool, true, false, is_some, if◌then◌else◌, List, [], ◌∷◌, ◌++◌, length, map, Option, Some, None, slice_index_or}
use Rattle.std.specs.List.{flat_map, range_with_len}
use Rattle.mpd_model.specs.declared.call.Mode.{Mode}
use Rattle.mpd_model.specs.declared.call.Mode.TheVariants.{Rendezvous, Buffered, Slots}
use Rattle.mpd_lines.specs.declared.verdict.Verdict.{Verdict}
use Rattle.mpd_lines.specs.declared.verdict.Verdict.TheVariants.{Good, Bad, NotWhole}

-- one slot more than this number
abbrev pub more_slots : ℕ → List Mode
more_slots n = Slots (n + 1) ∷ []

-- `slots:1` up to so many
abbrev pub slots_up_to : ℕ → List Mode
slots_up_to most = flat_map more_slots (range_with_len 0 most)

-- rendezvous, these, and buffered
abbrev pub modes_up_to : ℕ → List Mode
modes_up_to most = Rendezvous ∷ slots_up_to most ++ Buffered ∷ []

-- ---- what verdicts come to

abbrev pub same_verdict : Verdict → Verdict → Bool
same_verdict Good Good = true
same_verdict Bad Bad = true
same_verdict NotWhole NotWhole = true
same_verdict _ _ = false

-- the place of the first verdict that is this one, where the first place is n
abbrev pub first_from : ℕ → Verdict → List Verdict → Option ℕ
first_from n wanted [] = None
first_from n wanted (v ∷ vs) = if same_verdict v wanted then Some n else first_from (n + 1) wanted vs

abbrev pub first_of : Verdict → List Verdict → Option ℕ
first_of wanted vs = first_from 0 wanted vs

-- bad if one is, else not whole if one is
abbrev pub worst : List Verdict → Verdict
worst vs = if is_some (first_of Bad vs) then Bad else (if is_some (first_of NotWhole vs) then NotWhole else Good)

-- ---- what is told after all of them

-- which verdicts are this one
abbrev pub which : Verdict → List Verdict → List Bool
which wanted vs = map (λ v. same_verdict v wanted) vs

-- of some modes those at whose places true stands
abbrev pub mode_if : List Mode → List Bool → ℕ → List Mode
mode_if modes flags n = if slice_index_or flags n false then slice_index_or modes n Rendezvous ∷ [] else []

abbrev pub chosen : List Mode → List Bool → List Mode
chosen modes flags = flat_map (mode_if modes flags) (range_with_len 0 (length modes))

-- the modes that something is told of: those whose verdict is what all come to, and where that is
-- good those where calls can be left over
abbrev pub noticed : Verdict → List Mode → List Verdict → List Bool → List Mode
noticed Good modes vs left = chosen modes left
noticed Bad modes vs left = chosen modes (which Bad vs)
noticed NotWhole modes vs left = chosen modes (which NotWhole vs)
