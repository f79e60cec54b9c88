-- What the marks so far leave to the next ones.
use Rattle.std.proofs.Common.{◌≡◌, ◌⊎◌, ◌≢◌, inl, inr, ℕ, max, Bool, true, false, cond, List, [], ◌∷◌, ◌++◌, Option, Some, None, refl, sym, ap, ◌∙◌}
use Rattle.std.specs.Prelude.{◌==◌, ◌&&◌, if◌then◌else◌, is_some}
use Rattle.std.specs.Map.{lookup}
use Rattle.std.specs.Option.{unwrap_or}
use Rattle.std.proofs.Math.Nat.{max-zero, zero-max}
use Rattle.std.proofs.lemmas.Bool.Decides.{Decides-eqb}
use Rattle.mpd_match.proofs.Partners.{id_tells}
use Rattle.mpd_model.specs.declared.step.CallId.{CallId}
use Rattle.mpd_model.specs.steps.World.{id_eq}
use Rattle.mpd_picture.specs.declared.glyph.Mark.{Mark}
use Rattle.mpd_picture.specs.declared.marks.Rows.{Rows}
use Rattle.mpd_picture.specs.Marks.{is_row, stands_in, sends_in, is_issue, below, row_of, rows_of, next_row, sent_row}
use Rattle.mpd_picture.specs.MarkTable.{first_issue, row_at, issued_at, or_row, Raised, Issues, IsTable, IsAdvanced}
use Rattle.mpd_picture.proofs.MarkLemmas.{max_joined}

-- ---- maps by ranks

pub turned : (p q : ℕ) (b : Bool) → (p == q) ≡ b → (q == p) ≡ b
turned p q true e = (Decides-eqb q p).1 (sym ((Decides-eqb p q).0 e))
turned p q false e = by (q == p) refl
  where
    by : (b : Bool) → (q == p) ≡ b → (q == p) ≡ false
    by false h = h
    by true h = absurd (clash (sym ((Decides-eqb p q).1 (sym ((Decides-eqb q p).0 h))) ∙ e))
      where
        clash : true ≡ false → ⊥
        clash x = cc

raised_by : (b : Bool) (old new : List (ℕ × ℕ)) (p row higher q : ℕ) → (p == q) ≡ b → lookup (λ k. q == k) new ≡ cond b (Some higher) (lookup (λ k. q == k) old)
    → higher ≡ max (row_at old p) row → row_at new q ≡ max (row_at old q) (if b then row else 0)
raised_by true old new p row higher q e put is = ap (λ o. unwrap_or o 0) put ∙ is ∙ ap (λ k. max (row_at old k) row) ((Decides-eqb p q).0 e)
raised_by false old new p row higher q e put is = ap (λ o. unwrap_or o 0) put ∙ sym (max-zero (row_at old q))

pub raised : (old new : List (ℕ × ℕ)) (p row was higher : ℕ) → ((q : ℕ) → lookup (λ k. q == k) new ≡ cond (p == q) (Some higher) (lookup (λ k. q == k) old))
    → was ≡ row_at old p → higher ≡ max was row → Raised old p row new
raised old new p row was higher put at is q =
    raised_by (p == q) old new p row higher q refl (put q) (is ∙ ap (λ k. max k row) at)
    ∙ ap (λ b. max (row_at old q) (if b then row else 0)) (sym (turned p q (p == q) refl))

-- ---- maps by calls

or_none : (o : Option ℕ) (row : ℕ) → o ≡ or_row o false row
or_none None row = refl
or_none (Some r) row = refl

nothing : (o : Option ℕ) → is_some o ≡ false → o ≡ None
nothing None h = refl
nothing (Some r) h = cc

-- a call that is not there is put there
pub issued_put : (old new : List ((ℕ × ℕ) × ℕ)) (d : CallId) (row : ℕ)
    → ((q : ℕ × ℕ) → lookup (λ k. (q.0 == k.0) && (q.1 == k.1)) new ≡ cond ((d.rank == q.0) && (d.index == q.1)) (Some row) (lookup (λ k. (q.0 == k.0) && (q.1 == k.1)) old))
    → (found : Option ℕ) → found ≡ issued_at old d → is_some found ≡ false → Issues old d row new
issued_put old new d row put found is there c = by (id_tells d c)
  where
    absent : issued_at old d ≡ None
    absent = sym is ∙ nothing found there

    by : ((id_eq d c ≡ true) × (d ≡ c)) ⊎ ((id_eq d c ≡ false) × (d ≢ c)) → issued_at new c ≡ or_row (issued_at old c) (id_eq d c) row
    by (inl h) = put (c.rank, c.index) ∙ ap (λ b. cond b (Some row) (issued_at old c)) h.0 ∙ sym (ap (λ o. or_row o (id_eq d c) row) (ap (issued_at old) (sym h.1) ∙ absent) ∙ ap (λ b. or_row None b row) h.0)
    by (inr h) = put (c.rank, c.index) ∙ ap (λ b. cond b (Some row) (issued_at old c)) h.0 ∙ or_none (issued_at old c) row ∙ sym (ap (λ b. or_row (issued_at old c) b row) h.0)

-- one that is there stays as it is
kept_by : (o : Option ℕ) (b : Bool) (row : ℕ) → (b ≡ true → is_some o ≡ true) → o ≡ or_row o b row
kept_by (Some r) b row h = refl
kept_by None false row h = refl
kept_by None true row h = absurd (clash (h refl))
  where
    clash : false ≡ true → ⊥
    clash x = cc

pub issued_stays : (old : List ((ℕ × ℕ) × ℕ)) (d : CallId) (row : ℕ) (found : Option ℕ) → found ≡ issued_at old d → is_some found ≡ true → Issues old d row old
issued_stays old d row found is there c = kept_by (issued_at old c) (id_eq d c) row (λ e. by e (id_tells d c))
  where
    by : id_eq d c ≡ true → ((id_eq d c ≡ true) × (d ≡ c)) ⊎ ((id_eq d c ≡ false) × (d ≢ c)) → is_some (issued_at old c) ≡ true
    by e (inl h) = ap (λ x. is_some (issued_at old x)) (sym h.1) ∙ ap is_some (sym is) ∙ there
    by e (inr h) = absurd (clash (sym e ∙ h.0))
      where
        clash : true ≡ false → ⊥
        clash x = cc

-- ---- one mark more

row_first : (marks : List Mark) (c : CallId) → row_of marks c ≡ unwrap_or (first_issue marks c) 0
row_first [] c = refl
row_first (m ∷ marks) c = by (is_issue m.event c) (row_first marks c)
  where
    by : (b : Bool) → row_of marks c ≡ unwrap_or (first_issue marks c) 0 → (if b then m.row else row_of marks c) ≡ unwrap_or (if b then Some m.row else first_issue marks c) 0
    by true h = refl
    by false h = h

first_more : (marks : List Mark) (m : Mark) (c : CallId) → first_issue (marks ++ m ∷ []) c ≡ or_row (first_issue marks c) (is_issue m.event c) m.row
first_more [] m c = by (is_issue m.event c)
  where
    by : (b : Bool) → (if b then Some m.row else None) ≡ or_row None b m.row
    by true = refl
    by false = refl
first_more (n ∷ marks) m c = by (is_issue n.event c) (first_more marks m c)
  where
    by : (b : Bool) → first_issue (marks ++ m ∷ []) c ≡ or_row (first_issue marks c) (is_issue m.event c) m.row
        → (if b then Some n.row else first_issue (marks ++ m ∷ []) c) ≡ or_row (if b then Some n.row else first_issue marks c) (is_issue m.event c) m.row
    by true h = refl
    by false h = h

-- the greatest of what a test gives of each mark
greatest_more : (f : Mark → ℕ) (all : List Mark → ℕ) → all [] ≡ 0 → ((m : Mark) (marks : List Mark) → all (m ∷ marks) ≡ max (f m) (all marks))
    → (marks : List Mark) (m : Mark) → all (marks ++ m ∷ []) ≡ max (all marks) (f m)
greatest_more f all none one [] m = one m [] ∙ ap (max (f m)) none ∙ max-zero (f m) ∙ sym (ap (λ k. max k (f m)) none ∙ zero-max (f m))
greatest_more f all none one (n ∷ marks) m =
    one n (marks ++ m ∷ []) ∙ ap (max (f n)) (greatest_more f all none one marks m) ∙ sym (max_joined (f n) (all marks) (f m)) ∙ ap (λ k. max k (f m)) (sym (one n marks))

pub table_more : (old new : Rows) (marks : List Mark) (m : Mark) → IsTable old marks → IsAdvanced old new m → IsTable new (marks ++ m ∷ [])
table_more old new marks m was more = record {
  issued = λ c. more.issued c ∙ ap (λ o. or_row o (is_issue m.event c) m.row) (was.issued c) ∙ sym (first_more marks m c);
  nexts = λ p. more.nexts p ∙ ap (λ k. max k (if stands_in p m.event then below m else 0)) (was.nexts p)
      ∙ sym (greatest_more (λ n. if stands_in p n.event then below n else 0) (λ xs. next_row xs p) refl (λ n xs. refl) marks m);
  sents = λ p. more.sents p ∙ ap (λ k. max k (if sends_in p m.event then m.row else 0)) (was.sents p)
      ∙ sym (greatest_more (λ n. if sends_in p n.event then n.row else 0) (λ xs. sent_row xs p) refl (λ n xs. refl) marks m);
  all = more.all ∙ ap (λ k. max k (if is_row m.event then below m else 0)) was.all
      ∙ sym (greatest_more (λ n. if is_row n.event then below n else 0) rows_of refl (λ n xs. refl) marks m);
}

pub row_there : (rows : Rows) (marks : List Mark) (c : CallId) (o : Option ℕ) → IsTable rows marks → o ≡ issued_at rows.issued.entries c → unwrap_or o 0 ≡ row_of marks c
row_there rows marks c o is e = ap (λ r. unwrap_or r 0) (e ∙ is.issued c) ∙ sym (row_first marks c)
