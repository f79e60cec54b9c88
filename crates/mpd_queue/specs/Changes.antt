-- What a change makes of lists.
use Rattle.std.specs.Prelude.{ℕ, ◌+◌, List, Option, Some, None}
use Rattle.mpd_queue.specs.InOrder.{empty_lists, with_inserted, with_removed}
use Rattle.mpd_queue.specs.History.{History}
use Rattle.mpd_queue.specs.declared.snapshot.Change.{Change}
use Rattle.mpd_queue.specs.declared.snapshot.Change.TheVariants.{Inserted, Removed}
use Rattle.mpd_queue.specs.declared.snapshot.Moment.TheInside.{Inside}

abbrev pub changed : Change → List (List ℕ) → List (List ℕ)
changed (Inserted list item next) lists = with_inserted lists list item next
changed (Removed list item) lists = with_removed lists list item

abbrev pub changed_by : Option Change → List (List ℕ) → List (List ℕ)
changed_by None lists = lists
changed_by (Some change) lists = changed change lists

abbrev pub history : Inside → History
history m =
    elim m.before [
      | None ↦ record { lists = empty_lists m.lists; length = 0 }
      | Some s ↦ record { lists = changed_by m.change s.value.value.lists; length = s.value.value.length + 1 }
    ]

abbrev pub length_of : History → ℕ
length_of h = h.length
