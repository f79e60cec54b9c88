-- What workers are given, and what they bring.
use Rattle.std.proofs.Common.{◌≡◌, ℕ, List, [], ◌∷◌, ◌++◌, length, get_or, All, Global, sym, subst, ap, arith, length-append, ◌∙◌}
use Rattle.std.proofs.Math.ListN.{get_or-append}
use Rattle.std.proofs.Math.Seq.{get_or-append_seam}
use Rattle.std.proofs.lemmas.List.{take_all}
use Rattle.std.proofs.lemmas.List.Elements.{All-push}
use Rattle.atomic_blocks.specs.Lent.{RowsId}
use Rattle.mpd_model.specs.steps.World.{World}
use Rattle.mpd_model.specs.runs.Trail.{Trail, Standing, forgotten}
use Rattle.mpd_explore.specs.declared.report.SearchLimits.{SearchLimits}
use Rattle.mpd_explore.specs.declared.report.SearchReport.{SearchReport}
use Rattle.mpd_explore.specs.declared.splitter.Piece.{Piece}
use Rattle.mpd_pool.specs.declared.work.Brought.{Brought}
use Rattle.mpd_pool.specs.declared.work.Job.{Job}
use Rattle.mpd_pool.specs.Parts.{AtNumber, CanExplore}
use Rattle.mpd_pool.specs.Brought.{AllRight, IsJob}

-- ---- where a debugger stands

pub can_same : (d e : Standing) (l : SearchLimits) (ps : List Piece) → d ≡ e → CanExplore e l ps → CanExplore d l ps
can_same d e l ps same h = subst (λ (x : Standing). CanExplore x l ps) (sym same) h

forgets_none : (t : Trail) → length t.steps ≡ t.depth → forgotten t ≡ t
forgets_none t clean = ap (λ steps. record t { steps = steps }) (take_all t.depth t.steps (omega (arith, clean)))

abbrev pub at_rest : Trail → World → Standing
at_rest t w = record { trail = t; world = w }

-- a copy stands where the debugger stands
pub copy_stands : (t u : Trail) (w v : World) → length t.steps ≡ t.depth → u ≡ forgotten t → v ≡ w → at_rest u v ≡ at_rest t w
copy_stands t u w v clean trail world = ap (λ (x : Trail). at_rest x v) (trail ∙ forgets_none t clean) ∙ ap (λ (x : World). at_rest t x) world

-- ---- what is brought

right_snoc : (d : Standing) (l : SearchLimits) (ps : List Piece) (bs : List Brought) (b : Brought) → AllRight d l ps bs → AtNumber d l ps b.piece b.report → AllRight d l ps (bs ++ b ∷ [])
right_snoc d l ps [] b h right = (right, tt)
right_snoc d l ps (x ∷ bs) b h right = (h.0, right_snoc d l ps bs b h.1 right)

pub right_more : (d : Standing) (l : SearchLimits) (ps : List Piece) (before old new : List Brought) (i : ℕ) (r : SearchReport) → old ≡ before → new ≡ old ++ record { piece = i; report = r } ∷ [] → AllRight d l ps before → AtNumber d l ps i r → AllRight d l ps new
right_more d l ps before old new i r same is h right = rw (is, same) (right_snoc d l ps before (record { piece = i; report = r }) h right)

pub right_same : (d e : Standing) (l : SearchLimits) (ps : List Piece) (bs : List Brought) → d ≡ e → AllRight e l ps bs → AllRight d l ps bs
right_same d e l ps bs same h = subst (λ (x : Standing). AllRight x l ps bs) (sym same) h

right_parts : (d : Standing) (l : SearchLimits) (ps : List Piece) (bs : List Brought) (b : Brought) → AllRight d l ps (bs ++ b ∷ []) → AllRight d l ps bs × AtNumber d l ps b.piece b.report
right_parts d l ps [] b h = (tt, h.0)
right_parts d l ps (x ∷ bs) b h = let more = right_parts d l ps bs b h.1 in ((h.0, more.0), more.1)

pub right_front : (d : Standing) (l : SearchLimits) (ps : List Piece) (all bs : List Brought) (b : Brought) → all ≡ bs ++ b ∷ [] → AllRight d l ps all → AllRight d l ps bs
right_front d l ps all bs b is h = (right_parts d l ps bs b (rw is at h)).0

pub right_last : (d : Standing) (l : SearchLimits) (ps : List Piece) (all bs : List Brought) (b : Brought) → all ≡ bs ++ b ∷ [] → AllRight d l ps all → AtNumber d l ps b.piece b.report
right_last d l ps all bs b is h = (right_parts d l ps bs b (rw is at h)).1

-- ---- lists of workers

pub all_more : {X : Type 0} (P : X → Type 0) (before old new : List X) (x : X) → old ≡ before → new ≡ old ++ x ∷ [] → All P before → P x → All P new
all_more P before old new x same is h p = rw (is, same) (All-push P before x h p)

pub all_front : {X : Type 0} (P : X → Type 0) (xs : List X) (x : X) (all : List X) → all ≡ xs ++ x ∷ [] → All P all → All P xs
all_front P xs x all is h = λ k d lt. let at : get_or all k d ≡ get_or xs k d = ap (λ l. get_or l k d) is ∙ get_or-append xs (x ∷ []) d k lt in
    subst P at (h k d (omega (arith, lt, ap length is, length-append xs (x ∷ []))))

pub all_last : {X : Type 0} (P : X → Type 0) (xs : List X) (x : X) (all : List X) → all ≡ xs ++ x ∷ [] → All P all → P x
all_last P xs x all is h = let at : get_or all (length xs) x ≡ x = ap (λ l. get_or l (length xs) x) is ∙ get_or-append_seam xs x [] x in
    subst P at (h (length xs) x (omega (arith, ap length is, length-append xs (x ∷ []))))

pub jobs_same : (x y : RowsId × Global) (d : Standing) (l : SearchLimits) (ps : List Piece) (js : List Job) → x ≡ y → All (IsJob y d l ps) js → All (IsJob x d l ps) js
jobs_same x y d l ps js same h = subst (λ (z : RowsId × Global). All (IsJob z d l ps) js) (sym same) h
