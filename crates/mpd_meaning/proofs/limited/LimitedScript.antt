-- What is written as a script is read, or refused by a limit.
use Rattle.std.proofs.Common.{◌≡◌, ◌⊎◌, ℕ, zero, suc, ◌+◌, ◌<◌, pos, Bool, true, false, nat_le, ◌&&◌, List, [], ◌∷◌, ◌++◌, length, length-append, Option, Some, None, Ok, inl, inr, refl, ap, arith}
use Rattle.mpd_model.specs.declared.limits.TheConstants.{BLOCKS_MAX, RANKS_MAX, LANGUAGE_MAX}
use Rattle.mpd_model.specs.declared.place.DeclKind.{DeclKind}
use Rattle.mpd_model.specs.declared.token.Symbol.TheVariants as m
use Rattle.mpd_model.specs.declared.token.Token.TheVariants.{Number, Is}
use Rattle.mpd_model.specs.script.Declaration.{Declared}
use Rattle.mpd_model.specs.grammar.Costs.{on}
use Rattle.mpd_model.specs.grammar.Grammar.{version_in, version_of, version_by, version, rank_count, ranks_of, ranks_by, ranks, array_size_at, array_size_by, array_size, single, declarator, declares, decls_from, decls, header, body, block}
use Rattle.mpd_model.specs.grammar.Grammar as grammar
use Rattle.mpd_model.specs.grammar.Input.{Input, Outcome, Parser, and_then, token, token_of, spelling, place, advanced, sees, is_symbol, after, add, cells_fit, slot_in}
use Rattle.mpd_model.specs.script.Program.{Program}
use Rattle.mpd_model.specs.grammar.Tokens.{Spot}
use Rattle.mpd_model.specs.grammar.Written.{WrittenDecls, none, declares_one, declares_array, declared_as, WrittenScript, script}
use Rattle.mpd_laws.proofs.complete.CompleteScript.{has, expect_has, symbol_seen, fresh_has, no_size, chosen, decl_as, decls_more, decls_end, body_is_no_decl}
use Rattle.mpd_laws.proofs.sound.SoundScript.{in_version}
use Rattle.mpd_meaning.specs.FaultLaws.{IsRefusedByALimit}
use Rattle.mpd_meaning.proofs.limited.Limited.{GivesOrLimited, limited_bind}
use Rattle.mpd_meaning.proofs.limited.LimitedStatements.{whole_limited}
use Rattle.mpd_laws.proofs.sound.Sound.{ok_of}

-- ---- one after another

abbrev IsOrLimited : {A : Type 0} → Outcome A → A × Input → Type 0
IsOrLimited o x = (o ≡ ok_of x) ⊎ IsRefusedByALimit o

then_or : {A B : Type 0} (o : Outcome A) (f : A → Parser B) (x : A × Input) (y : B × Input) → IsOrLimited o x → IsOrLimited (f x.0 x.1) y → IsOrLimited (and_then o f) y
then_or o f x y (inl e) h = rw e h
then_or o f x y (inr l) h = inr (limited_bind o f l)

same_or : {A : Type 0} (o p : Outcome A) (x : A × Input) → o ≡ p → IsOrLimited p x → IsOrLimited o x
same_or o p x e h = rw e h

-- ---- a declaration

added : (fits : Bool) (kind : DeclKind) (name : List ℕ) (size : Option ℕ) (p : ℕ) (ss : List Spot) (ds : List Declared) (i : Input) → cells_fit kind size ds ≡ fits
    → IsOrLimited (add kind name size p (has ss ds i)) (tt, has ss (ds ++ declared_as kind name size ∷ []) i)
unfolding add
added true kind name size p ss ds i h = rw h (inl refl)
added false kind name size p ss ds i h = rw h (inr tt)

add_or : (kind : DeclKind) (name : List ℕ) (size : Option ℕ) (p : ℕ) (ss : List Spot) (ds : List Declared) (i : Input)
    → IsOrLimited (add kind name size p (has ss ds i)) (tt, has ss (ds ++ declared_as kind name size ∷ []) i)
add_or kind name size p ss ds i = added (cells_fit kind size ds) kind name size p ss ds i refl

single_or : (kind : DeclKind) (name : List ℕ) (p : ℕ) (end : Spot) (rest : List Spot) (ds : List Declared) (i : Input) → end.token ≡ Is m.Semicolon
    → IsOrLimited (single kind name p (has (end ∷ rest) ds i)) (tt, has rest (ds ++ declared_as kind name None ∷ []) i)
unfolding single
single_or kind name p end rest ds i e =
    then_or _ _ _ _ (add_or kind name None p (end ∷ rest) ds i) (inl (expect_has m.Semicolon end rest (ds ++ declared_as kind name None ∷ []) i e))

size_at_or : (kind : DeclKind) (name : List ℕ) (n : ℕ) (c z end : Spot) (rest : List Spot) (ds : List Declared) (i : Input) → z.token ≡ Is m.SquareClose → end.token ≡ Is m.Semicolon
    → IsOrLimited (array_size_at kind name (Some n) (has (c ∷ z ∷ end ∷ rest) ds i)) (tt, has rest (ds ++ declared_as kind name (Some n) ∷ []) i)
unfolding advanced
size_at_or kind name n c z end rest ds i ez e =
    let es = ds ++ declared_as kind name (Some n) ∷ [] in
    then_or _ _ _ _ (add_or kind name (Some n) (place (has (c ∷ z ∷ end ∷ rest) ds i)) (c ∷ z ∷ end ∷ rest) ds i)
    (then_or _ _ _ _ (inl (expect_has m.SquareClose z (end ∷ rest) es i ez)) (inl (expect_has m.Semicolon end rest es i e)))

size_or : (kind : DeclKind) (name : List ℕ) (n : ℕ) (c z end : Spot) (rest : List Spot) (ds : List Declared) (i : Input) → c.token ≡ Number (pos n) → z.token ≡ Is m.SquareClose
    → end.token ≡ Is m.Semicolon → IsOrLimited (array_size kind name (has (c ∷ z ∷ end ∷ rest) ds i)) (tt, has rest (ds ++ declared_as kind name (Some n) ∷ []) i)
unfolding array_size token
size_or kind name n c z end rest ds i ec ez e =
    same_or _ _ _ (ap (λ u. array_size_by kind name u (has (c ∷ z ∷ end ∷ rest) ds i)) ec) (size_at_or kind name n c z end rest ds i ez e)

declarator_or : (kind : DeclKind) (n end : Spot) (rest : List Spot) (ds : List Declared) (i : Input) → slot_in ds n.text ≡ None → end.token ≡ Is m.Semicolon
    → IsOrLimited (declarator kind (has (n ∷ end ∷ rest) ds i)) (tt, has rest (ds ++ declared_as kind n.text None ∷ []) i)
unfolding declarator advanced spelling sees token after
declarator_or kind n end rest ds i free e =
    then_or _ _ _ _ (inl (fresh_has n (end ∷ rest) ds i free))
    (same_or _ _ _ (chosen (is_symbol m.SquareOpen end.token) false _ _ _ _ _ (no_size end e) refl) (single_or kind n.text (place (has (n ∷ end ∷ rest) ds i)) end rest ds i e))

array_or : (kind : DeclKind) (n a c z end : Spot) (cells : ℕ) (rest : List Spot) (ds : List Declared) (i : Input) → slot_in ds n.text ≡ None → a.token ≡ Is m.SquareOpen
    → c.token ≡ Number (pos cells) → z.token ≡ Is m.SquareClose → end.token ≡ Is m.Semicolon
    → IsOrLimited (declarator kind (has (n ∷ a ∷ c ∷ z ∷ end ∷ rest) ds i)) (tt, has rest (ds ++ declared_as kind n.text (Some cells) ∷ []) i)
unfolding declarator advanced spelling sees token after
array_or kind n a c z end cells rest ds i free ea ec ez e =
    then_or _ _ _ _ (inl (fresh_has n (a ∷ c ∷ z ∷ end ∷ rest) ds i free))
    (same_or _ _ _ (chosen (is_symbol m.SquareOpen a.token) true _ _ _ _ _ (symbol_seen m.SquareOpen a.token ea) refl) (size_or kind n.text cells c z end rest ds i ec ez e))

-- ---- all declarations

decls_or : (ds : List Declared) (ss : List Spot) (es : List Declared) → WrittenDecls ds ss es → (turns : ℕ) (rest : List Spot) (i : Input) → length ss < turns
    → declares (token_of rest) ≡ None → IsOrLimited (decls_from turns (has (ss ++ rest) ds i)) (tt, has rest es i)
decls_or _ _ _ (none ds) zero rest i less h = absurd (omega arith)
decls_or _ _ _ (none ds) (suc turns) rest i less h = inl (decls_end turns rest ds i h)
decls_or _ _ _ (declares_one ds es kind v n end ss h1 h2 h3 h4 w) zero rest i less h = absurd (omega arith)
decls_or _ _ _ (declares_one ds es kind v n end ss h1 h2 h3 h4 w) (suc turns) rest i less h =
    same_or _ _ _ (decls_more kind turns v (n ∷ end ∷ (ss ++ rest)) ds i h1)
    (then_or _ _ _ _ (same_or _ _ _ (decl_as kind n (end ∷ (ss ++ rest)) ds i h2) (declarator_or kind n end (ss ++ rest) ds i h3 h4))
    (decls_or (ds ++ declared_as kind n.text None ∷ []) ss es w turns rest i (omega arith) h))
decls_or _ _ _ (declares_array ds es kind v n o c z end cells ss h1 h2 h3 h4 h5 h6 h7 w) zero rest i less h = absurd (omega arith)
decls_or _ _ _ (declares_array ds es kind v n o c z end cells ss h1 h2 h3 h4 h5 h6 h7 w) (suc turns) rest i less h =
    same_or _ _ _ (decls_more kind turns v (n ∷ o ∷ c ∷ z ∷ end ∷ (ss ++ rest)) ds i h1)
    (then_or _ _ _ _ (same_or _ _ _ (decl_as kind n (o ∷ c ∷ z ∷ end ∷ (ss ++ rest)) ds i h2) (array_or kind n o c z end cells (ss ++ rest) ds i h3 h4 h5 h6 h7))
    (decls_or (ds ++ declared_as kind n.text (Some cells) ∷ []) ss es w turns rest i (omega arith) h))

all_decls_or : (ss rest : List Spot) (es : List Declared) (i : Input) → WrittenDecls [] ss es → declares (token_of rest) ≡ None → IsOrLimited (decls (has (ss ++ rest) [] i)) (tt, has rest es i)
unfolding decls
all_decls_or ss rest es i w h =
    let turns : length ss < length (ss ++ rest) + 1 = omega (arith, length-append ss rest) in
    decls_or [] ss es w (length (ss ++ rest) + 1) rest i turns h

-- ---- the header

version_in_or : (known : Bool) (s : Spot) (n : ℕ) (rest : List Spot) (ds : List Declared) (i : Input) → nat_le 1 n && nat_le n LANGUAGE_MAX ≡ known
    → IsOrLimited (version_of (version_in (pos n)) (has (s ∷ rest) ds i)) (tt, has rest ds (in_version n i))
unfolding advanced
version_in_or true s n rest ds i h = rw h (inl refl)
version_in_or false s n rest ds i h = rw h (inr tt)

version_or : (s : Spot) (n : ℕ) (rest : List Spot) (ds : List Declared) (i : Input) → s.token ≡ Number (pos n) → IsOrLimited (version (has (s ∷ rest) ds i)) (tt, has rest ds (in_version n i))
unfolding version token
version_or s n rest ds i e = same_or _ _ _ (ap (λ u. version_by u (has (s ∷ rest) ds i)) e) (version_in_or (nat_le 1 n && nat_le n LANGUAGE_MAX) s n rest ds i refl)

rank_count_or : (within : Bool) (s : Spot) (n : ℕ) (rest : List Spot) (ds : List Declared) (i : Input) → nat_le 1 n && nat_le n RANKS_MAX ≡ within
    → IsOrLimited (ranks_of (rank_count (pos n)) (has (s ∷ rest) ds i)) (n, has rest ds i)
unfolding advanced
rank_count_or true s n rest ds i h = rw h (inl refl)
rank_count_or false s n rest ds i h = rw h (inr tt)

ranks_or : (s : Spot) (n : ℕ) (rest : List Spot) (ds : List Declared) (i : Input) → s.token ≡ Number (pos n) → IsOrLimited (ranks (has (s ∷ rest) ds i)) (n, has rest ds i)
unfolding ranks token
ranks_or s n rest ds i e = same_or _ _ _ (ap (λ u. ranks_by u (has (s ∷ rest) ds i)) e) (rank_count_or (nat_le 1 n && nat_le n RANKS_MAX) s n rest ds i refl)

header_or : (mpd v a r c b : Spot) (ss rest : List Spot) (n count : ℕ) (es : List Declared) (i : Input)
    → mpd.token ≡ Is m.Mpd → v.token ≡ Number (pos n) → a.token ≡ Is m.Semicolon → r.token ≡ Is m.Ranks → c.token ≡ Number (pos count)
    → b.token ≡ Is m.Semicolon → WrittenDecls [] ss es → declares (token_of rest) ≡ None → IsOrLimited (header (has (mpd ∷ v ∷ a ∷ r ∷ c ∷ b ∷ (ss ++ rest)) [] i)) (count, has rest es (in_version n i))
unfolding header
header_or mpd v a r c b ss rest n count es i hm hv ha hr hc hb w h =
    let k : Input = in_version n i in
    then_or _ _ _ _ (inl (expect_has m.Mpd mpd (v ∷ a ∷ r ∷ c ∷ b ∷ (ss ++ rest)) [] i hm))
    (then_or _ _ _ _ (version_or v n (a ∷ r ∷ c ∷ b ∷ (ss ++ rest)) [] i hv)
    (then_or _ _ _ _ (inl (expect_has m.Semicolon a (r ∷ c ∷ b ∷ (ss ++ rest)) [] k ha))
    (then_or _ _ _ _ (inl (expect_has m.Ranks r (c ∷ b ∷ (ss ++ rest)) [] k hr))
    (then_or _ _ _ _ (ranks_or c count (b ∷ (ss ++ rest)) [] k hc)
    (then_or _ _ _ _ (inl (expect_has m.Semicolon b (ss ++ rest) [] k hb))
    (then_or _ _ _ _ (all_decls_or ss rest es k w h) (inl refl)))))))

-- ---- scripts

-- read as the program, or refused by a limit
abbrev pub ScriptLimited : Outcome Program → Program → Type 0
ScriptLimited o p = ((j : Input) × (o ≡ Ok (p, j))) ⊎ IsRefusedByALimit o

whole_or : (o : Outcome Program) (f : ℕ → Parser Program) (h : Outcome ℕ) (x : ℕ × Input) (p : Program) → o ≡ and_then h f → IsOrLimited h x → ScriptLimited (f x.0 x.1) p → ScriptLimited o p
whole_or o f h x p e (inl is) g = rw (e, is) g
whole_or o f h x p e (inr l) g = rw e (inr (limited_bind h f l))

-- behind the header, the input is in the program's version and has its declarations
abbrev behind_header : List Spot → Program → Input → Input
behind_header rs p i = has rs p.decls (in_version p.version i)

body_or : (rs : List Spot) (p : Program) (i : Input) → GivesOrLimited (body (block BLOCKS_MAX) false (behind_header rs p i)) p.body [] p.lines (behind_header rs p i)
    → ScriptLimited (and_then (body (block BLOCKS_MAX) false (behind_header rs p i)) (grammar.with_body p.ranks)) p
body_or rs p i (inl g) = inl (on [] p.lines g.left (behind_header rs p i), ap (λ o. and_then o (grammar.with_body p.ranks)) g.is)
body_or rs p i (inr l) = inr (limited_bind (body (block BLOCKS_MAX) false (behind_header rs p i)) (grammar.with_body p.ranks) l)

pub script_limited : (ss : List Spot) (p : Program) (i : Input) → i.lines ≡ [] → WrittenScript ss p → ScriptLimited (grammar.script (has ss [] i)) p
unfolding grammar.script
script_limited _ _ i none_yet (script mpd v a r c b ss rs p hm hv ha hr hc hb ds w) =
    whole_or _ _ _ _ p refl (header_or mpd v a r c b ss rs p.version p.ranks p.decls i hm hv ha hr hc hb ds (body_is_no_decl p.decls rs p.body p.lines w))
    (body_or rs p i (whole_limited BLOCKS_MAX rs p.body p.lines (behind_header rs p i) refl none_yet w))
