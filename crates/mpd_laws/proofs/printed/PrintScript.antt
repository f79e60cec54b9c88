-- The canonical text of a script is cut into tokens that write it, so it is read again.
use Rattle.std.proofs.Common.{◌≡◌, ℕ, pos, ◌≤◌, true, List, [], ◌∷◌, ◌++◌, length, Option, Some, None, refl, subst, ap, sym, ◌∙◌, append_assoc, append-nil, arith}
use Rattle.std.specs.Prelude.{codes}
use Rattle.std.specs.Fmt.{decimal}
use Rattle.std.specs.List.{flat_map, list_all, prefix_len}
use Rattle.mpd_model.specs.declared.limits.TheConstants.{CELLS_MAX, HANDLES_MAX}
use Rattle.mpd_model.specs.declared.place.DeclKind.{DeclKind}
use Rattle.mpd_model.specs.declared.place.DeclKind.TheVariants.{Variable, Handle}
use Rattle.mpd_model.specs.declared.token.Symbol.{Symbol}
use Rattle.mpd_model.specs.declared.token.Symbol.TheVariants as m
use Rattle.mpd_model.specs.declared.token.Token.TheVariants.{Number, Name, Is}
use Rattle.mpd_model.specs.grammar.Canonical.{kind_word, decl_text, block_text, canonical}
use Rattle.mpd_model.specs.script.Declaration.{Declared, cells_of, variable_cells, handle_cells, variables_in, handles_in}
use Rattle.mpd_model.specs.grammar.Costs.{dearest_script}
use Rattle.mpd_model.specs.grammar.Grammar.{declares, is_text}
use Rattle.mpd_model.specs.grammar.Input.{slot_in, max_budget}
use Rattle.mpd_model.specs.grammar.Printable.{IsName, AreNamed, AreNew, IsPrintable, CanonicalIsReadAgain}
use Rattle.mpd_model.specs.script.Program.{Program, IsLegal}
use Rattle.mpd_model.specs.grammar.ReaderLaws.{WrittenScriptsAreRead}
use Rattle.mpd_model.specs.grammar.Tokens.{Spot, tokens, tokens_at, tokens_after, front, sign, word, number}
use Rattle.mpd_model.specs.script.Tree.{block_of, trees_of_block, statements_in}
use Rattle.mpd_model.specs.grammar.Written.{declared_as, WrittenDecls, none, declares_one, declares_array, WrittenScript, script}
use Rattle.mpd_laws.proofs.cutting.Cuts.{Ends, Any, Cut, Spelled, join, turned, fixed, Both, both, IsOne, one, IsWord, one_word, IsNone, nothing}
use Rattle.mpd_laws.proofs.printed.PrintStatements.{BodySpots, block_spelled, nil_spelled}
use Rattle.mpd_laws.proofs.printed.PrintTerms.{name_spelled}
use Rattle.mpd_laws.proofs.cutting.Runs.{decimal_spelled, first_passes}
use Rattle.mpd_laws.proofs.cutting.Signs.{square_open, square_close, end_sign}

-- ---- declarations

-- the word that begins a declaration
abbrev word_of : DeclKind → Symbol
word_of Variable = m.Var
word_of Handle = m.Req

word_declares : (kind : DeclKind) → declares (Is (word_of kind)) ≡ Some kind
word_declares Variable = refl
word_declares Handle = refl

begins : (kind : DeclKind) (v : Spot) → v.token ≡ Is (word_of kind) → declares v.token ≡ Some kind
begins kind v h = ap declares h ∙ word_declares kind

word_spelled : (kind : DeclKind) → Spelled Any (IsOne (Is (word_of kind))) (kind_word kind)
unfolding tokens_after front sign word
word_spelled Variable = fixed (codes "var ") (λ p l z. refl) (λ p l. one _ refl) refl
word_spelled Handle = fixed (codes "req ") (λ p l z. refl) (λ p l. one _ refl) refl

abbrev Declares : List Declared → List Declared → List Spot → Type 0
Declares before ds ss = WrittenDecls before ss (before ++ ds)

no_decls : (before : List Declared) (ss : List Spot) → IsNone ss → Declares before [] ss
no_decls before _ nothing = subst (WrittenDecls before []) (sym (append-nil before)) (none before)

abbrev Rest : List Declared → Declared → List Declared → List Spot → Type 0
Rest before d ds ss = Declares (before ++ d ∷ []) ds ss

single_spots : (before ds : List Declared) (kind : DeclKind) (w : List ℕ) → slot_in before w ≡ None → (ss : List Spot)
    → Both (Both (Both (IsOne (Is (word_of kind))) (IsWord Name w)) (IsOne (Is m.Semicolon))) (Rest before (declared_as kind w None) ds) ss → Declares before (declared_as kind w None ∷ ds) ss
single_spots before ds kind w h _ (both _ rs (both _ _ (both _ _ (one v h1) (one_word n h2 e)) (one end h3)) x) =
    let es : List Declared = (before ++ declared_as kind w None ∷ []) ++ ds in
    subst (WrittenDecls before (v ∷ n ∷ end ∷ rs)) (append_assoc before (declared_as kind w None ∷ []) ds)
    (declares_one before es kind v n end rs (begins kind v h1) h2 (ap (slot_in before) e ∙ h) h3 (subst (λ u. WrittenDecls (before ++ declared_as kind u None ∷ []) rs es) (sym e) x))

array_spots : (before ds : List Declared) (kind : DeclKind) (w : List ℕ) (k : ℕ) → slot_in before w ≡ None → (ss : List Spot)
    → Both (Both (Both (Both (IsOne (Is (word_of kind))) (IsWord Name w)) (Both (Both (IsOne (Is m.SquareOpen)) (IsWord (Number (pos k)) (decimal k))) (IsOne (Is m.SquareClose)))) (IsOne (Is m.Semicolon)))
    (Rest before (declared_as kind w (Some k)) ds) ss
    → Declares before (declared_as kind w (Some k) ∷ ds) ss
array_spots before ds kind w k h _ (both _ rs (both _ _ (both _ _ (both _ _ (one v h1) (one_word n h2 e)) (both _ _ (both _ _ (one a h3) (one_word c h4 f)) (one b h5))) (one end h6)) x) =
    let es : List Declared = (before ++ declared_as kind w (Some k) ∷ []) ++ ds in
    subst (WrittenDecls before (v ∷ n ∷ a ∷ c ∷ b ∷ end ∷ rs)) (append_assoc before (declared_as kind w (Some k) ∷ []) ds)
    (declares_array before es kind v n a c b end k rs (begins kind v h1) h2 (ap (slot_in before) e ∙ h) h3 h4 h5 h6 (subst (λ u. WrittenDecls (before ++ declared_as kind u (Some k) ∷ []) rs es) (sym e) x))

-- the size of an array, whatever it is of
size_fits : (kind : DeclKind) (o : Option ℕ) → variable_cells kind o ≤ CELLS_MAX → handle_cells kind o ≤ HANDLES_MAX → cells_of o ≤ CELLS_MAX
size_fits Variable o a b = a
size_fits Handle o a b = omega (arith, b)

decl_spelled : (before ds : List Declared) (kind : DeclKind) (w : List ℕ) (o : Option ℕ) → IsName w → slot_in before w ≡ None → cells_of o ≤ CELLS_MAX
    → Spelled Any (Rest before (declared_as kind w o) ds) (flat_map decl_text ds) → Spelled Any (Declares before (declared_as kind w o ∷ ds)) (decl_text (declared_as kind w o) ++ flat_map decl_text ds)
decl_spelled before ds kind w None named new small x =
    let a : List ℕ = kind_word kind ++ w in
    turned (a ++ [] ++ codes ";\n" ++ flat_map decl_text ds) (single_spots before ds kind w new)
    (join (a ++ [] ++ codes ";\n") (flat_map decl_text ds)
    (join (a ++ []) (codes ";\n")
    (subst (Spelled Ends (Both (IsOne (Is (word_of kind))) (IsWord Name w))) (sym (append-nil a)) (join (kind_word kind) w (word_spelled kind) (name_spelled w named) (λ z _. tt))) end_sign (λ z _. refl))
    x (λ z _. tt))
decl_spelled before ds kind w (Some k) named new small x =
    let a : List ℕ = kind_word kind ++ w in
    let b : List ℕ = codes "[" ++ decimal k ++ codes "]" in
    turned (a ++ b ++ codes ";\n" ++ flat_map decl_text ds) (array_spots before ds kind w k new)
    (join (a ++ b ++ codes ";\n") (flat_map decl_text ds)
    (join (a ++ b) (codes ";\n")
    (join a b (join (kind_word kind) w (word_spelled kind) (name_spelled w named) (λ z _. tt))
    (join (codes "[" ++ decimal k) (codes "]") (join (codes "[") (decimal k) square_open (decimal_spelled k (omega (arith, small))) (λ z _. tt)) square_close (λ z _. refl))
    (λ z _. refl))
    end_sign (λ z _. tt))
    x (λ z _. tt))

decls_spelled : (before ds : List Declared) → AreNamed ds → AreNew before ds → variables_in ds ≤ CELLS_MAX → handles_in ds ≤ HANDLES_MAX → Spelled Any (Declares before ds) (flat_map decl_text ds)
decls_spelled before [] named new few small = turned [] (no_decls before) nil_spelled
decls_spelled before (d ∷ ds) named new few small =
    decl_spelled before ds d.kind d.name d.size named.0 new.0 (size_fits d.kind d.size (omega arith) (omega arith))
    (decls_spelled (before ++ d ∷ []) ds named.1 new.1 (omega arith) (omega arith))

-- ---- the whole text

mpd_spelled : Spelled Any (IsOne (Is m.Mpd)) (codes "mpd ")
unfolding tokens_after front sign word number
mpd_spelled = fixed (codes "mpd ") (λ p l z. refl) (λ p l. one _ refl) refl

-- the end of the version, and the word before the number of ranks
data BeforeRanks : List Spot → Type 0 where
  before_ranks : (a b : Spot) → a.token ≡ Is m.Semicolon → b.token ≡ Is m.Ranks → BeforeRanks (a ∷ b ∷ [])

ranks_spelled : Spelled Any BeforeRanks (codes ";\nranks ")
unfolding tokens_after front sign word number
ranks_spelled = fixed (codes ";\nranks ") (λ p l z. refl) (λ p l. before_ranks _ _ refl refl) refl

-- the version and the number of ranks
abbrev Head : Program → List Spot → Type 0
Head p = Both (Both (Both (IsOne (Is m.Mpd)) (IsWord (Number (pos p.version)) (decimal p.version))) BeforeRanks) (IsWord (Number (pos p.ranks)) (decimal p.ranks))

head_spelled : (p : Program) → IsLegal p → Spelled Ends (Head p) (codes "mpd " ++ decimal p.version ++ codes ";\nranks " ++ decimal p.ranks)
head_spelled p l =
    let a : List ℕ = codes "mpd " ++ decimal p.version in
    join (a ++ codes ";\nranks ") (decimal p.ranks)
    (join a (codes ";\nranks ") (join (codes "mpd ") (decimal p.version) mpd_spelled (decimal_spelled p.version (omega (arith, l.version))) (λ z _. tt)) ranks_spelled (λ z _. refl))
    (decimal_spelled p.ranks (omega (arith, l.ranks))) (λ z _. tt)

record ScriptSpots (p : Program) (ss : List Spot) : Type 0 where
  lines : List ℕ
  written : WrittenScript ss (record p { lines = lines })
  cheap : dearest_script ss (record p { lines = lines }) written ≤ max_budget
  count : length lines ≡ statements_in (block_of p.body)

script_spots : (p : Program) (ss : List Spot)
    → Both (Both (Both (Head p) (IsOne (Is m.Semicolon))) (Declares [] p.decls)) (BodySpots p.decls p.body) ss → ScriptSpots p ss
script_spots p _ (both _ rs (both _ ss (both _ _ (both _ _ (both _ _ (both _ _ (one a h1) (one_word b h2 e)) (before_ranks c d h3 h4)) (one_word n h5 g)) (one f h6)) x) y) = record {
  lines = y.lines;
  written = script a b c d n f ss rs (record p { lines = y.lines }) h1 h2 h3 h4 h5 h6 x y.written;
  cheap = y.cheap;
  count = y.count;
}

script_spelled : (p : Program) → IsPrintable p → Spelled Any (ScriptSpots p) (canonical p)
script_spelled p h =
    let a : List ℕ = codes "mpd " ++ decimal p.version ++ codes ";\nranks " ++ decimal p.ranks in
    let ds : List ℕ = flat_map decl_text p.decls in
    let body : List ℕ = block_text p.decls 0 (block_of p.body) in
    turned (a ++ codes ";\n" ++ ds ++ body) (script_spots p)
    (join (a ++ codes ";\n" ++ ds) body
    (join (a ++ codes ";\n") ds
    (join a (codes ";\n") (head_spelled p h.legal) end_sign (λ z _. refl))
    (decls_spelled [] p.decls h.named h.distinct h.legal.variables h.legal.handles) (λ z _. tt))
    (subst (λ ts. Spelled Any (BodySpots p.decls ts) body) (trees_of_block p.body) (block_spelled p.decls 0 (block_of p.body) h.body)) (λ z _. tt))

plain_prefix : (w : List ℕ) → list_all is_text w ≡ true → prefix_len is_text w ≡ length w
plain_prefix [] h = refl
plain_prefix (b ∷ w) h =
    let f = first_passes is_text b w h in
    rw f.0 (omega (arith, plain_prefix w f.1))

no_tokens : (p l : ℕ) → tokens_at p l [] ≡ []
unfolding tokens_after
no_tokens p l = refl

pub canonical_is_read : WrittenScriptsAreRead → CanonicalIsReadAgain
canonical_is_read read p h short =
    let x : Spelled Any (ScriptSpots p) (canonical p) = script_spelled p h in
    let c : Cut (ScriptSpots p) (canonical p) 0 1 [] = x.cut 0 1 [] tt in
    let same : tokens (canonical p) ≡ c.spots = ap (tokens_at 0 1) (sym (append-nil (canonical p))) ∙ c.is ∙ ap (λ ss. c.spots ++ ss) (no_tokens c.to_place c.to_line) ∙ append-nil c.spots in
    let s : ScriptSpots p (tokens (canonical p)) = subst (ScriptSpots p) (sym same) c.holds in
    let legal : IsLegal (record p { lines = s.lines }) = record {
      some_version = h.legal.some_version;
      version = h.legal.version;
      body = h.legal.body;
      some_rank = h.legal.some_rank;
      ranks = h.legal.ranks;
      variables = h.legal.variables;
      handles = h.legal.handles;
      statements = h.legal.statements;
      lines = s.count;
    } in
    (s.lines, read (canonical p) (record p { lines = s.lines }) s.written short (plain_prefix (canonical p) x.plain) legal h.blocks s.cheap)
