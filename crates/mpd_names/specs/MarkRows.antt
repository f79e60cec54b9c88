-- Worked rows of marks. What is wanted was worked out by hand.
use Rattle.std.specs.Prelude.{◌≡◌, ℕ, map, replicate, List, [], ◌∷◌, ◌++◌, Option, Some, None, codes, refl}
use Rattle.mpd_names.specs.Marks.{place_of, mark_of}

-- ---- lines

abbrev lines : List (List ℕ × Option (List ℕ))
lines =
    (codes "recv x from any tag 2 status s t;  #@ farm.c:58 MPI_Recv", Some (codes "farm.c:58"))
    ∷ (codes "assert s == 3;  #@ farm.c:58 MPI_Recv [left]", Some (codes "farm.c:58"))
    ∷ (codes "wait h[0];#@ src/a.c:5 MPI_Waitall [one of several]", Some (codes "src/a.c:5"))
    ∷ (codes "#@ main+0x1f mpi_recv_", Some (codes "main+0x1f"))
    ∷ (codes "#@ a b", Some (codes "a"))
    ∷ (codes "barrier;", None)
    ∷ (codes "", None)
    ∷ (codes "barrier;  # @ farm.c:58 MPI_Barrier", None)
    ∷ (codes "barrier;  # see #@ farm.c:58 MPI_Barrier", None)
    ∷ (codes "barrier;  ##@ farm.c:58 MPI_Barrier", None)
    ∷ (codes "barrier;  #@farm.c:58 MPI_Barrier", None)
    ∷ (codes "barrier;  #@  farm.c:58 MPI_Barrier", None)
    ∷ (codes "barrier;  #@ farm.c:58", None)
    ∷ (codes "barrier;  #@ farm.c:58 ", None)
    ∷ (codes "barrier;  #@ farm.c:58  MPI_Barrier", None)
    ∷ (codes "barrier;  #@ farm.c:58 MPI_Barrier ", None)
    ∷ (codes "barrier;  #@ farm.c:58 MPI_Barrier left", None)
    ∷ (codes "barrier;  #@ farm.c:58 MPI_Barrier [left", None)
    ∷ (codes "barrier;  #@ farm.c:58 MPI_Barrier[left]", None)
    ∷ (codes "barrier;  #@ the line of the book", None) ∷ []

pub row_lines : map {B = Option (List ℕ)} (λ q. place_of q.0) lines ≡ map {B = Option (List ℕ)} (λ q. q.1) lines
unfolding place_of
row_lines = refl

-- a place of n bytes
abbrev long_mark : ℕ → List ℕ
long_mark n = codes "#@ " ++ replicate n 97 ++ codes " MPI_Send"

pub row_longest : place_of (long_mark 80) ≡ Some (replicate 80 97)
unfolding place_of
row_longest = refl

pub row_too_long : place_of (long_mark 81) ≡ None
unfolding place_of
row_too_long = refl

-- a place has no other bytes
abbrev byte_mark : ℕ → List ℕ
byte_mark b = codes "#@ a" ++ b ∷ codes "b MPI_Send"

abbrev other_bytes : List ℕ
other_bytes = 9 ∷ 27 ∷ 32 ∷ 127 ∷ 200 ∷ []

pub row_other_bytes : map (λ b. place_of (byte_mark b)) other_bytes ≡ map (λ b. None) other_bytes
unfolding place_of
row_other_bytes = refl

-- ---- lines of a script

abbrev pub script : List ℕ
script =
    codes "mpdbg 2" ++ 10 ∷ codes "ranks 2;  #@ x y" ++ 13 ∷ 10 ∷ codes "rank 0 {" ++ 10
    ∷ codes "  send 8 to 1 tag 3;  #@ a.c:7 MPI_Send" ++ 10 ∷ codes "}  # @ b.c:1 MPI_Send" ++ 10 ∷ codes "#@ d.c:12 MPI_Recv"

pub row_numbers : map (λ n. mark_of script n) (0 ∷ 1 ∷ 2 ∷ 3 ∷ 4 ∷ 5 ∷ 6 ∷ 7 ∷ [])
    ≡ None ∷ None ∷ Some (codes "x") ∷ None ∷ Some (codes "a.c:7") ∷ None ∷ Some (codes "d.c:12") ∷ None ∷ []
unfolding place_of
row_numbers = refl

-- an empty script has no marks
pub row_none : map (λ n. mark_of [] n) (0 ∷ 1 ∷ 2 ∷ []) ≡ None ∷ None ∷ None ∷ []
unfolding place_of
row_none = refl
