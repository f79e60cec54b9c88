-- What is read of the pieces of a witness's text.
use Rattle.std.proofs.Common.{◌≡◌, ℕ, Bool, true, false, ◌==◌, if◌then◌else◌, List, [], ◌∷◌, ◌++◌, length, Option, Some, None, IfSome, Result, Ok, Err, refl, ap, sym, ◌∙◌, arith, append_assoc, append-nil, ◌<◌}
use Rattle.std.proofs.lemmas.Slice.Eq.{bytes_eq-Decides}
use Rattle.std.specs.Prelude.{option_map, bytes_eq, codes}
use Rattle.mpd_model.specs.declared.step.CallId.{CallId}
use Rattle.mpd_model.specs.declared.step.Step.{Step}
use Rattle.mpd_model.specs.declared.words.TraceWord.{TraceWord}
use Rattle.mpd_model.specs.declared.words.TraceWord.TheVariants as trace_word
use Rattle.mpd_model.specs.texts.Words.{cut_at_dot, number_of, call_with, call_of, words, only_number, alone, step_named, step_in, step_of, trace_word_named, trace_word_in, trace_word_of}
use Rattle.mpd_explore.specs.declared.report.RankTrap.{RankTrap}
use Rattle.mpd_explore.specs.declared.report.WitnessEnd.{WitnessEnd}
use Rattle.mpd_explore.specs.declared.report.WitnessEnd.TheVariants as end_is
use Rattle.mpd_explore.specs.declared.report.EndWitness.{EndWitness}
use Rattle.mpd_witness.specs.WitnessText.{parts_at, cut_at, put_first, each_read, rank_trap_of, pairs_read, behind_word, some_of, end_with, end_read, steps_of, line_of, all_empty, with_steps, with_end, witness_in, witness_of, PairRead, ReadsLine, ReadsText}
use Rattle.mpd_witness.specs.declared.witness_text.WitnessTextFault.{WitnessTextFault}
use Rattle.mpd_witness.specs.declared.witness_text.WitnessTextFault.TheVariants.{BadLine, Memory}

-- ---- calls

cut_dot : (z : List ℕ) → cut_at_dot z ≡ cut_at 46 z
cut_dot [] = refl
cut_dot (b ∷ z) = ap (λ (o : Option (List ℕ × List ℕ)). if b == 46 then Some ([], z) else option_map (λ q. (b ∷ q.0, q.1)) o) (cut_dot z)

pub no_call : (z : List ℕ) → cut_at 46 z ≡ None → call_of z ≡ None
no_call z e = rw (cut_dot z ∙ e) refl

pub call_is : (z rank index : List ℕ) → cut_at 46 z ≡ Some (rank, index) → call_of z ≡ call_with (number_of rank) (number_of index)
call_is z rank index e = rw (cut_dot z ∙ e) refl

pub ruleset calling = (no_call, call_is)

-- ---- steps

abbrev as_step : Option TraceWord → Option Step
as_step None = None
as_step (Some (trace_word.Step a)) = Some a
as_step (Some trace_word.Back) = None
as_step (Some trace_word.Redo) = None
as_step (Some (trace_word.Goto n)) = None
as_step (Some trace_word.Enabled) = None
as_step (Some trace_word.Show) = None

step_back : (o : Option Step) → as_step (option_map trace_word.Step o) ≡ o
step_back None = refl
step_back (Some a) = refl

no_alone : (c : TraceWord) (rest : List (List ℕ)) → as_step (Some c) ≡ None → as_step (alone c rest) ≡ None
no_alone c [] e = e
no_alone c (a ∷ rest) e = refl

no_goto : (o : Option ℕ) → as_step (option_map trace_word.Goto o) ≡ None
no_goto None = refl
no_goto (Some n) = refl

one_word : (v : Bool) (name word : List ℕ) (rest : List (List ℕ)) (c o : Option TraceWord) → bytes_eq name word ≡ v → as_step c ≡ None → step_named word rest ≡ None
    → as_step o ≡ step_named name rest → as_step (if v then c else o) ≡ step_named name rest
one_word true name word rest c o e n s h = n ∙ sym (ap (λ x. step_named x rest) ((bytes_eq-Decides name word).0 e) ∙ s)
one_word false name word rest c o e n s h = h

named_step : (name : List ℕ) (rest : List (List ℕ)) → as_step (trace_word_named name rest) ≡ step_named name rest
named_step name rest =
    one_word (bytes_eq name (codes "back")) name (codes "back") rest (alone trace_word.Back rest) _ refl (no_alone trace_word.Back rest refl) refl
    (one_word (bytes_eq name (codes "redo")) name (codes "redo") rest (alone trace_word.Redo rest) _ refl (no_alone trace_word.Redo rest refl) refl
    (one_word (bytes_eq name (codes "goto")) name (codes "goto") rest (option_map trace_word.Goto (only_number rest)) _ refl (no_goto (only_number rest)) refl
    (one_word (bytes_eq name (codes "enabled")) name (codes "enabled") rest (alone trace_word.Enabled rest) _ refl (no_alone trace_word.Enabled rest refl) refl
    (one_word (bytes_eq name (codes "show")) name (codes "show") rest (alone trace_word.Show rest) _ refl (no_alone trace_word.Show rest refl) refl
    (step_back (step_named name rest))))))

words_step : (ws : List (List ℕ)) → as_step (trace_word_in ws) ≡ step_in ws
words_step [] = refl
words_step (name ∷ rest) = named_step name rest

-- a command is the step that it asks for, or the text is no step
pub step_is : (z : List ℕ) (o : Option TraceWord) → o ≡ trace_word_of z → as_step o ≡ step_of z
step_is z o e = ap as_step e ∙ words_step (words z)

pub step_there : (z : List ℕ) (a : Step) (f : TraceWord) (o : Option TraceWord) → o ≡ Some f → f ≡ trace_word.Step a → o ≡ trace_word_of z → Some a ≡ step_of z
step_there z a f o i s e = sym (ap as_step (i ∙ ap (λ (x : TraceWord). Some x) s)) ∙ step_is z o e

pub no_step : (z : List ℕ) (c f : TraceWord) (o : Option TraceWord) → o ≡ Some f → f ≡ c → as_step (Some c) ≡ None → o ≡ trace_word_of z → None ≡ step_of z
no_step z c f o i s n e = sym n ∙ sym (ap as_step (i ∙ ap (λ (x : TraceWord). Some x) s)) ∙ step_is z o e

pub no_command : (z : List ℕ) (o : Option TraceWord) → o ≡ None → o ≡ trace_word_of z → None ≡ step_of z
no_command z o i e = sym (ap as_step i) ∙ step_is z o e

pub ruleset stepping = (step_there, no_step, no_command)

-- ---- pieces that are read one by one

-- so many were read, and then what is read of the rest
abbrev pub joined_to : {A : Type 0} → List A → Option (List A) → Option (List A)
joined_to xs read = option_map (λ ys. xs ++ ys) read

joined_none : {A : Type 0} (o : Option (List A)) → o ≡ joined_to [] o
joined_none None = refl
joined_none (Some ys) = refl

pub read_none : {A : Type 0} (all : Option (List A)) (xs : List A) → xs ≡ [] → all ≡ joined_to xs all
read_none {A} all xs e = joined_none all ∙ ap (λ (zs : List A). joined_to zs all) (sym e)

joined_more : {A : Type 0} (xs : List A) (x : A) (o : Option (List A)) → joined_to xs (put_first (Some x) o) ≡ joined_to (xs ++ x ∷ []) o
joined_more xs x None = refl
joined_more {A} xs x (Some ys) = ap (λ (zs : List A). Some zs) (sym (append_assoc xs (x ∷ []) ys))

pub read_more : {A : Type 0} (read : List ℕ → Option A) (all : Option (List A)) (xs items : List A) (x : A) (piece : List ℕ) (old new : List (List ℕ)) → all ≡ joined_to xs (each_read read old) → old ≡ piece ∷ new
    → Some x ≡ read piece → items ≡ xs ++ x ∷ [] → all ≡ joined_to items (each_read read new)
read_more {A} read all xs items x piece old new h o r i =
    h ∙ ap (λ zs. joined_to xs (each_read read zs)) o ∙ ap (λ (q : Option A). joined_to xs (put_first q (each_read read new))) (sym r) ∙ joined_more xs x (each_read read new)
    ∙ ap (λ (zs : List A). joined_to zs (each_read read new)) (sym i)

pub read_wrong : {A : Type 0} (read : List ℕ → Option A) (all : Option (List A)) (xs : List A) (piece : List ℕ) (old new : List (List ℕ)) → all ≡ joined_to xs (each_read read old) → old ≡ piece ∷ new
    → None ≡ read piece → all ≡ None
read_wrong {A} read all xs piece old new h o r =
    h ∙ ap (λ zs. joined_to xs (each_read read zs)) o ∙ ap (λ (q : Option A). joined_to xs (put_first q (each_read read new))) (sym r)

pub read_over : {A : Type 0} (read : List ℕ → Option A) (all : Option (List A)) (xs : List A) (old : List (List ℕ)) → all ≡ joined_to xs (each_read read old) → old ≡ [] → all ≡ Some xs
read_over {A} read all xs old h o = h ∙ ap (λ zs. joined_to xs (each_read read zs)) o ∙ ap (λ (zs : List A). Some zs) (append-nil xs)

pub ruleset going = (read_none, read_more, read_wrong, read_over)

-- ---- pieces that are read two by two

pub pairs_none : {A : Type 0} (all : Option (List A)) (xs : List A) → xs ≡ [] → all ≡ joined_to xs all
pairs_none all xs e = read_none all xs e

pub pairs_more : {A : Type 0} (read : List ℕ → List ℕ → Option A) (all : Option (List A)) (xs items : List A) (x : A) (one : List ℕ) (old mid new : List (List ℕ)) → all ≡ joined_to xs (pairs_read read old) → old ≡ one ∷ mid
    → pairs_read read (one ∷ mid) ≡ put_first (Some x) (pairs_read read new) → items ≡ xs ++ x ∷ [] → all ≡ joined_to items (pairs_read read new)
pairs_more {A} read all xs items x one old mid new h o r i =
    h ∙ ap (λ zs. joined_to xs (pairs_read read zs)) o ∙ ap (joined_to xs) r ∙ joined_more xs x (pairs_read read new) ∙ ap (λ (zs : List A). joined_to zs (pairs_read read new)) (sym i)

pub pair_wrong : {A : Type 0} (read : List ℕ → List ℕ → Option A) (all : Option (List A)) (xs : List A) (one : List ℕ) (old mid : List (List ℕ)) → all ≡ joined_to xs (pairs_read read old) → old ≡ one ∷ mid → pairs_read read (one ∷ mid) ≡ None → all ≡ None
pair_wrong read all xs one old mid h o r = h ∙ ap (λ zs. joined_to xs (pairs_read read zs)) o ∙ ap (joined_to xs) r

pub pairs_over : {A : Type 0} (read : List ℕ → List ℕ → Option A) (all : Option (List A)) (xs : List A) (old : List (List ℕ)) → all ≡ joined_to xs (pairs_read read old) → old ≡ [] → all ≡ Some xs
pairs_over {A} read all xs old h o = h ∙ ap (λ zs. joined_to xs (pairs_read read zs)) o ∙ ap (λ (zs : List A). Some zs) (append-nil xs)

pub ruleset trapping = (pairs_none, pairs_more, pair_wrong, pairs_over)

-- one pair
pub pair_missing : {A : Type 0} (read : List ℕ → List ℕ → Option A) (one : List ℕ) (old : List (List ℕ)) → old ≡ [] → pairs_read read (one ∷ old) ≡ None
pair_missing read one old e = ap (λ (zs : List (List ℕ)). pairs_read read (one ∷ zs)) e

pub pair_there : {A : Type 0} (read : List ℕ → List ℕ → Option A) (one two : List ℕ) (old new : List (List ℕ)) (r : Option A) → old ≡ two ∷ new → r ≡ read one two → PairRead read one old new r
pair_there read one two old new None e h = ap (λ (zs : List (List ℕ)). pairs_read read (one ∷ zs)) e ∙ ap (λ q. put_first q (pairs_read read new)) (sym h)
pair_there read one two old new (Some x) e h = ap (λ (zs : List (List ℕ)). pairs_read read (one ∷ zs)) e ∙ ap (λ q. put_first q (pairs_read read new)) (sym h)

pub fewer_left : {A : Type 0} (two : List ℕ) (old new : List (List ℕ)) (r : Option A) → old ≡ two ∷ new → IfSome r (λ x. length new < length old)
fewer_left two old new None e = tt
fewer_left two old new (Some x) e = omega (arith, ap length e)

pub ruleset pairing = (pair_missing, pair_there, fewer_left)

-- ---- one at least

put_some : {A : Type 0} (o : Option A) (all : Option (List A)) (xs : List A) → put_first o all ≡ Some xs → length xs ≡ 0 → ⊥
put_some None all xs e l = let h : ⊥ = cc in h
put_some (Some x) None xs e l = let h : ⊥ = cc in h
put_some (Some x) (Some ys) [] e l = let h : ⊥ = cc in h
put_some (Some x) (Some ys) (y ∷ xs) e l = omega arith

pub blocked_refused : (ps : List (List ℕ)) (e : WitnessTextFault) → ReadsLine {A = List CallId} 1 (each_read call_of ps) (Err e) → ReadsLine {A = List CallId} 1 (some_of (each_read call_of) ps) (Err e)
blocked_refused ps Memory r = tt
blocked_refused [] (BadLine k) r = (refl, r.1)
blocked_refused (z ∷ zs) (BadLine k) r = r

pub blocked_is : (ps : List (List ℕ)) (xs : List CallId) → each_read call_of ps ≡ Some xs → 0 < length xs → some_of (each_read call_of) ps ≡ Some xs
blocked_is [] xs e l = absurd (let s : xs ≡ [] = cc in omega (arith, ap length s))
blocked_is (z ∷ zs) xs e l = e

pub blocked_missing : (ps : List (List ℕ)) (xs : List CallId) → each_read call_of ps ≡ Some xs → length xs ≡ 0 → some_of (each_read call_of) ps ≡ None
blocked_missing [] xs e l = refl
blocked_missing (z ∷ zs) xs e l = absurd (put_some (call_of z) (each_read call_of zs) xs e l)

pub ruleset blocking = (blocked_refused, blocked_is, blocked_missing)

pub trapped_refused : (ps : List (List ℕ)) (e : WitnessTextFault) → ReadsLine {A = List RankTrap} 1 (pairs_read rank_trap_of ps) (Err e) → ReadsLine {A = List RankTrap} 1 (some_of (pairs_read rank_trap_of) ps) (Err e)
trapped_refused ps Memory r = tt
trapped_refused [] (BadLine k) r = (refl, r.1)
trapped_refused (z ∷ zs) (BadLine k) r = r

pub trapped_is : (ps : List (List ℕ)) (xs : List RankTrap) → pairs_read rank_trap_of ps ≡ Some xs → 0 < length xs → some_of (pairs_read rank_trap_of) ps ≡ Some xs
trapped_is [] xs e l = absurd (let s : xs ≡ [] = cc in omega (arith, ap length s))
trapped_is (z ∷ zs) xs e l = e

pub trapped_missing : (ps : List (List ℕ)) (xs : List RankTrap) → pairs_read rank_trap_of ps ≡ Some xs → length xs ≡ 0 → some_of (pairs_read rank_trap_of) ps ≡ None
trapped_missing [] xs e l = refl
trapped_missing (y ∷ []) xs e l = refl
trapped_missing (y ∷ z ∷ zs) xs e l = absurd (put_some (rank_trap_of y z) (pairs_read rank_trap_of zs) xs e l)

pub ruleset trapped = (trapped_refused, trapped_is, trapped_missing)

-- ---- the first line

deadlock_line : (l : List ℕ) (ps : List (List ℕ)) → behind_word (codes "deadlock") (parts_at 32 l) ≡ Some ps → end_read l ≡ option_map end_is.Deadlock (some_of (each_read call_of) ps)
deadlock_line l ps e = ap (λ o. end_with o (behind_word (codes "trap") (parts_at 32 l))) e

trap_line : (l : List ℕ) (o : Option (List (List ℕ))) → behind_word (codes "deadlock") (parts_at 32 l) ≡ None → behind_word (codes "trap") (parts_at 32 l) ≡ o → end_read l ≡ end_with None o
trap_line l o e h = ap (λ q. end_with q (behind_word (codes "trap") (parts_at 32 l))) e ∙ ap (λ q. end_with None q) h

pub deadlock_refused : (l : List ℕ) (ps : List (List ℕ)) (e : WitnessTextFault) → behind_word (codes "deadlock") (parts_at 32 l) ≡ Some ps → ReadsLine {A = List CallId} 1 (some_of (each_read call_of) ps) (Err e) → ReadsLine {A = WitnessEnd} 1 (end_read l) (Err e)
deadlock_refused l ps Memory b r = tt
deadlock_refused l ps (BadLine k) b r = (deadlock_line l ps b ∙ ap (option_map end_is.Deadlock) r.0, r.1)

pub deadlock_read : (l : List ℕ) (ps : List (List ℕ)) (calls : List CallId) → behind_word (codes "deadlock") (parts_at 32 l) ≡ Some ps → some_of (each_read call_of) ps ≡ Some calls → end_read l ≡ Some (end_is.Deadlock calls)
deadlock_read l ps calls b r = deadlock_line l ps b ∙ ap (option_map end_is.Deadlock) r

pub no_end : (l : List ℕ) → behind_word (codes "deadlock") (parts_at 32 l) ≡ None → behind_word (codes "trap") (parts_at 32 l) ≡ None → end_read l ≡ None
no_end l e h = trap_line l None e h

pub trap_refused : (l : List ℕ) (ps : List (List ℕ)) (e : WitnessTextFault) → behind_word (codes "deadlock") (parts_at 32 l) ≡ None → behind_word (codes "trap") (parts_at 32 l) ≡ Some ps → ReadsLine {A = List RankTrap} 1 (some_of (pairs_read rank_trap_of) ps) (Err e)
    → ReadsLine {A = WitnessEnd} 1 (end_read l) (Err e)
trap_refused l ps Memory n b r = tt
trap_refused l ps (BadLine k) n b r = (trap_line l (Some ps) n b ∙ ap (option_map end_is.Trap) r.0, r.1)

pub trap_read : (l : List ℕ) (ps : List (List ℕ)) (ranks : List RankTrap) → behind_word (codes "deadlock") (parts_at 32 l) ≡ None → behind_word (codes "trap") (parts_at 32 l) ≡ Some ps → some_of (pairs_read rank_trap_of) ps ≡ Some ranks → end_read l ≡ Some (end_is.Trap ranks)
trap_read l ps ranks n b r = trap_line l (Some ps) n b ∙ ap (option_map end_is.Trap) r

pub ruleset ending = (deadlock_refused, deadlock_read, no_end, trap_refused, trap_read)

-- ---- the lines

pub no_line : (z : List ℕ) (ls : List (List ℕ)) → ls ≡ parts_at 10 z → ls ≡ [] → witness_of z ≡ Err 1
no_line z ls e n = ap witness_in (sym e ∙ n)

first_line : (z l bytes : List ℕ) (ls ms : List (List ℕ)) → ls ≡ parts_at 10 z → ls ≡ l ∷ ms → bytes ≡ line_of l → witness_of z ≡ with_end (end_read bytes) ms
first_line z l bytes ls ms e n b = ap witness_in (sym e ∙ n) ∙ ap (λ x. with_end (end_read x) ms) (sym b)

pub first_refused : (z l bytes : List ℕ) (ls ms : List (List ℕ)) (e : WitnessTextFault) → ls ≡ parts_at 10 z → ls ≡ l ∷ ms → bytes ≡ line_of l → ReadsLine 1 (end_read bytes) (Err e)
    → ReadsText (witness_of z) (Err e)
first_refused z l bytes ls ms Memory p n b r = tt
first_refused z l bytes ls ms (BadLine k) p n b r = first_line z l bytes ls ms p n b ∙ ap (λ o. with_end o ms) r.0 ∙ ap (λ (i : ℕ). let x : Result EndWitness ℕ = Err i in x) (sym r.1)

first_read : (z l bytes : List ℕ) (ls ms : List (List ℕ)) (end : WitnessEnd) → ls ≡ parts_at 10 z → ls ≡ l ∷ ms → bytes ≡ line_of l → end_read bytes ≡ Some end
    → witness_of z ≡ with_end (Some end) ms
first_read z l bytes ls ms end p n b r = first_line z l bytes ls ms p n b ∙ ap (λ o. with_end o ms) r

pub second_missing : (z l bytes : List ℕ) (ls ms : List (List ℕ)) (end : WitnessEnd) → ls ≡ parts_at 10 z → ls ≡ l ∷ ms → bytes ≡ line_of l → end_read bytes ≡ Some end → ms ≡ []
    → witness_of z ≡ Err 2
second_missing z l bytes ls ms end p n b r o = first_read z l bytes ls ms end p n b r ∙ ap (λ (ks : List (List ℕ)). with_end (Some end) ks) o

second_line : (z l bytes m second : List ℕ) (ls ms ks : List (List ℕ)) (end : WitnessEnd) → ls ≡ parts_at 10 z → ls ≡ l ∷ ms → bytes ≡ line_of l → end_read bytes ≡ Some end → ms ≡ m ∷ ks → second ≡ line_of m
    → witness_of z ≡ with_steps end (steps_of second) (all_empty ks)
second_line z l bytes m second ls ms ks end p n b r o s =
    first_read z l bytes ls ms end p n b r ∙ ap (λ (js : List (List ℕ)). with_end (Some end) js) o ∙ ap (λ x. with_steps end (steps_of x) (all_empty ks)) (sym s)

pub second_refused : (z l bytes m second : List ℕ) (ls ms ks : List (List ℕ)) (end : WitnessEnd) (e : WitnessTextFault) → ls ≡ parts_at 10 z → ls ≡ l ∷ ms → bytes ≡ line_of l → end_read bytes ≡ Some end
    → ms ≡ m ∷ ks → second ≡ line_of m → ReadsLine 2 (steps_of second) (Err e) → ReadsText (witness_of z) (Err e)
second_refused z l bytes m second ls ms ks end Memory p n b r o s q = tt
second_refused z l bytes m second ls ms ks end (BadLine k) p n b r o s q =
    second_line z l bytes m second ls ms ks end p n b r o s ∙ ap (λ (x : Option (List Step)). with_steps end x (all_empty ks)) q.0 ∙ ap (λ (i : ℕ). let x : Result EndWitness ℕ = Err i in x) (sym q.1)

second_read : (z l bytes m second : List ℕ) (ls ms ks : List (List ℕ)) (end : WitnessEnd) (steps : List Step) (over : Bool) → ls ≡ parts_at 10 z → ls ≡ l ∷ ms → bytes ≡ line_of l → end_read bytes ≡ Some end
    → ms ≡ m ∷ ks → second ≡ line_of m → steps_of second ≡ Some steps → over ≡ all_empty ks → witness_of z ≡ with_steps end (Some steps) over
second_read z l bytes m second ls ms ks end steps over p n b r o s q v =
    second_line z l bytes m second ls ms ks end p n b r o s ∙ ap (λ (x : Option (List Step)). with_steps end x (all_empty ks)) q ∙ ap (λ x. with_steps end (Some steps) x) (sym v)

pub more_behind : (z l bytes m second : List ℕ) (ls ms ks : List (List ℕ)) (end : WitnessEnd) (steps : List Step) (over : Bool) → ls ≡ parts_at 10 z → ls ≡ l ∷ ms → bytes ≡ line_of l → end_read bytes ≡ Some end
    → ms ≡ m ∷ ks → second ≡ line_of m → steps_of second ≡ Some steps → over ≡ all_empty ks → over ≡ false → witness_of z ≡ Err 2
more_behind z l bytes m second ls ms ks end steps over p n b r o s q v f = second_read z l bytes m second ls ms ks end steps over p n b r o s q v ∙ ap (λ x. with_steps end (Some steps) x) f

pub both_read : (z l bytes m second : List ℕ) (ls ms ks : List (List ℕ)) (end : WitnessEnd) (steps : List Step) (over : Bool) → ls ≡ parts_at 10 z → ls ≡ l ∷ ms → bytes ≡ line_of l → end_read bytes ≡ Some end
    → ms ≡ m ∷ ks → second ≡ line_of m → steps_of second ≡ Some steps → over ≡ all_empty ks → over ≡ true → witness_of z ≡ Ok (record { steps = steps; end = end })
both_read z l bytes m second ls ms ks end steps over p n b r o s q v f = second_read z l bytes m second ls ms ks end steps over p n b r o s q v ∙ ap (λ x. with_steps end (Some steps) x) f

pub ruleset reading = (no_line, first_refused, second_missing, second_refused, more_behind, both_read)
