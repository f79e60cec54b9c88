-- Each turn takes a token, so more turns than there are tokens change nothing.
use Rattle.std.proofs.Common.{◌≡◌, ℕ, zero, suc, ◌<◌, Bool, true, false, cond, List, [], ◌∷◌, ◌++◌, length, length-append, Option, Some, None, refl, ap, arith, ◌+◌, ◌-◌, ◌∙◌}
use Rattle.mpd_model.specs.declared.place.DeclKind.{DeclKind}
use Rattle.mpd_model.specs.script.Declaration.{Declared}
use Rattle.mpd_model.specs.grammar.Grammar.{closes, stmt, stmts, body, block, decl, declares, decls, decls_by, decls_from}
use Rattle.mpd_model.specs.grammar.Input.{Input, token, advanced, pure, ◌>>=◌}
use Rattle.mpd_model.specs.grammar.Tokens.{Spot}
use Rattle.mpd_model.specs.script.Tree.{Tree}
use Rattle.mpd_model.specs.grammar.Written.{WrittenTree, simply, repeats, chooses, chooses_else}
use Rattle.mpd_laws.proofs.complete.Enough.{bind_same}
use Rattle.mpd_laws.proofs.sound.Sound.{Step}
use Rattle.mpd_laws.proofs.sound.SoundScript.{Declares, decl_ok, begins_decl}
use Rattle.mpd_laws.proofs.sound.SoundStatements.{TreeBetween, block_sound, stmt_sound}

-- a statement has a token
pub some_token : (ds : List Declared) (ss : List Spot) (t : Tree) (ls : List ℕ) → WrittenTree ds ss t ls → 0 < length ss
some_token ds _ _ _ (simply ss end s w h) = omega (arith, length-append ss (end ∷ []))
some_token ds ss t ls (repeats k e a v x ms h1 h2 b) = omega arith
some_token ds ss t ls (chooses k e a v x ms h1 h2 b) = omega arith
some_token ds ss t ls (chooses_else k w e a b v x y ms ns h1 h2 f h3 g) = omega arith

tree_shorter : (t : Tree) (i j : Input) → TreeBetween t i j → length j.tokens < length i.tokens
tree_shorter t i j x = omega (arith, some_token i.decls x.used t x.begun x.written.0, length-append x.used j.tokens, ap length x.is)

stmts_turn : (depth : ℕ) (inside : Bool) (n : ℕ) (found : List Tree) (i : Input) (ends : Bool)
    → ((f : List Tree) (x : Input) → length x.tokens < length i.tokens → stmts (block depth) inside n f x ≡ stmts (block depth) inside (suc n) f x)
    → cond ends (pure found) (stmt (block depth) >>= λ s. stmts (block depth) inside n (found ++ s ∷ [])) i
    ≡ cond ends (pure found) (stmt (block depth) >>= λ s. stmts (block depth) inside (suc n) (found ++ s ∷ [])) i
stmts_turn depth inside n found i true more = refl
stmts_turn depth inside n found i false more =
    bind_same (stmt (block depth) i) _ _ (λ x e. more (found ++ x.0 ∷ []) x.1 (tree_shorter x.0 i x.1 (stmt_sound (block depth) (block_sound depth) i x.1 x.0 e)))

pub stmts_enough : (depth : ℕ) (inside : Bool) (n : ℕ) (found : List Tree) (i : Input) → length i.tokens < n → stmts (block depth) inside n found i ≡ stmts (block depth) inside (suc n) found i
unfolding stmts
stmts_enough depth inside zero found i h = absurd (omega arith)
stmts_enough depth inside (suc n) found i h =
    stmts_turn depth inside n found i (closes inside (token i)) (λ f x less. stmts_enough depth inside n f x (omega arith))

-- ---- declarations

decl_shorter : (kind : DeclKind) (i x y : Input) → Step i x → Declares kind x y → length y.tokens < length i.tokens
decl_shorter kind i x y s d = omega (arith, ap length s.moves.is, ap length d.is, length-append d.used y.tokens)

decls_turn : (n : ℕ) (o : Option DeclKind) (i : Input) → declares (token i) ≡ o → ((x : Input) → length x.tokens < length i.tokens → decls_from n x ≡ decls_from (suc n) x)
    → decls_by (decls_from n) o i ≡ decls_by (decls_from (suc n)) o i
decls_turn n (Some kind) i e more =
    let s = begins_decl kind i e in
    bind_same (decl kind (advanced i)) _ _ (λ y d. more y.1 (decl_shorter kind i (advanced i) y.1 s.0 (decl_ok kind (advanced i) y d)))
decls_turn n None i e more = refl

pub decls_enough : (n : ℕ) (i : Input) → length i.tokens < n → decls_from n i ≡ decls_from (suc n) i
unfolding decls_from
decls_enough zero i h = absurd (omega arith)
decls_enough (suc n) i h = decls_turn n (declares (token i)) i refl (λ x less. decls_enough n x (omega arith))

-- ---- with any number of turns that is enough

stmts_more : (depth : ℕ) (inside : Bool) (n k : ℕ) (found : List Tree) (i : Input) → length i.tokens < n → stmts (block depth) inside n found i ≡ stmts (block depth) inside (n + k) found i
stmts_more depth inside n zero found i h = let e : n + 0 ≡ n = omega arith in rw e refl
stmts_more depth inside n (suc k) found i h =
    let e : n + suc k ≡ suc (n + k) = omega arith in
    rw e (stmts_more depth inside n k found i h ∙ stmts_enough depth inside (n + k) found i (omega arith))

decls_more : (n k : ℕ) (i : Input) → length i.tokens < n → decls_from n i ≡ decls_from (n + k) i
decls_more n zero i h = let e : n + 0 ≡ n = omega arith in rw e refl
decls_more n (suc k) i h =
    let e : n + suc k ≡ suc (n + k) = omega arith in
    rw e (decls_more n k i h ∙ decls_enough (n + k) i (omega arith))

pub body_turns : (depth : ℕ) (inside : Bool) (most : ℕ) (i : Input) → length i.tokens < most → body (block depth) inside i ≡ stmts (block depth) inside most [] i
unfolding body
body_turns depth inside most i h =
    let n = length i.tokens + 1 in
    let e : most ≡ n + (most - n) = omega arith in
    rw e (stmts_more depth inside n (most - n) [] i (omega arith))

pub decls_turns : (most : ℕ) (i : Input) → length i.tokens < most → decls i ≡ decls_from most i
unfolding decls
decls_turns most i h =
    let n = length i.tokens + 1 in
    let e : most ≡ n + (most - n) = omega arith in
    rw e (decls_more n (most - n) i (omega arith))
