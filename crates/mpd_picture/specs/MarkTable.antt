-- What is kept beside marks, so that the row of the next one takes no walk over them: maps by ranks and by calls, which tell what walks would.
use Rattle.std.specs.Prelude.{◌≡◌, ℕ, max, Bool, ◌&&◌, ◌==◌, if◌then◌else◌, List, [], ◌∷◌, Option, Some, None}
use Rattle.std.specs.Map.{lookup}
use Rattle.std.specs.Option.{unwrap_or}
use Rattle.mpd_model.specs.declared.step.CallId.{CallId}
use Rattle.mpd_model.specs.steps.World.{id_eq}
use Rattle.mpd_picture.specs.declared.glyph.Mark.{Mark}
use Rattle.mpd_picture.specs.declared.marks.Rows.{Rows}
use Rattle.mpd_picture.specs.Marks.{is_row, stands_in, sends_in, is_issue, below, rows_of, next_row, sent_row}

-- the row in which a call is issued, if it is
abbrev pub first_issue : List Mark → CallId → Option ℕ
first_issue [] c = None
first_issue (m ∷ ms) c = if is_issue m.event c then Some m.row else first_issue ms c

-- what a map by ranks, and one by calls, have of a rank and of a call
abbrev pub row_at : List (ℕ × ℕ) → ℕ → ℕ
row_at rows p = unwrap_or (lookup (λ q. p == q) rows) 0

abbrev pub issued_at : List ((ℕ × ℕ) × ℕ) → CallId → Option ℕ
issued_at issued c = lookup (λ k. (c.rank == k.0) && (c.index == k.1)) issued

abbrev pub or_row : Option ℕ → Bool → ℕ → Option ℕ
or_row (Some r) there row = Some r
or_row None there row = if there then Some row else None

-- what stands at a rank is raised to a row
abbrev pub Raised : List (ℕ × ℕ) → ℕ → ℕ → List (ℕ × ℕ) → Type 0
Raised old p row new = (q : ℕ) → row_at new q ≡ max (row_at old q) (if q == p then row else 0)

-- a call is issued in a row, if it was in none before
abbrev pub Issues : List ((ℕ × ℕ) × ℕ) → CallId → ℕ → List ((ℕ × ℕ) × ℕ) → Type 0
Issues old d row new = (c : CallId) → issued_at new c ≡ or_row (issued_at old c) (id_eq d c) row

-- What is kept beside some marks tells where the next ones stand.
pub record IsTable (rows : Rows) (marks : List Mark) : Type 0 where
  pub issued : (c : CallId) → issued_at rows.issued.entries c ≡ first_issue marks c
  pub nexts : (p : ℕ) → max (row_at rows.nexts.entries p) rows.released ≡ next_row marks p
  pub sents : (p : ℕ) → row_at rows.sents.entries p ≡ sent_row marks p
  pub all : rows.all ≡ rows_of marks

-- one mark more
pub record IsAdvanced (old new : Rows) (m : Mark) : Type 0 where
  pub issued : (c : CallId) → issued_at new.issued.entries c ≡ or_row (issued_at old.issued.entries c) (is_issue m.event c) m.row
  pub nexts : (p : ℕ) → max (row_at new.nexts.entries p) new.released ≡ max (max (row_at old.nexts.entries p) old.released) (if stands_in p m.event then below m else 0)
  pub sents : (p : ℕ) → row_at new.sents.entries p ≡ max (row_at old.sents.entries p) (if sends_in p m.event then m.row else 0)
  pub all : new.all ≡ max old.all (if is_row m.event then below m else 0)
