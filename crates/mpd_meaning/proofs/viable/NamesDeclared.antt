-- What the grammar writes names only what is declared before it.
use Rattle.std.proofs.Common.{◌≡◌, ◌⊎◌, ℕ, suc, ◌+◌, pos, Bool, true, false, ◌||◌, cond, List, [], ◌∷◌, ◌++◌, Option, Some, None, inl, inr, refl, ap, sym, subst, ◌∙◌}
use Rattle.std.specs.Str.{bytes_eq}
use Rattle.mpd_model.specs.declared.expr.BinaryOp.{BinaryOp}
use Rattle.mpd_model.specs.declared.expr.UnaryOp.{UnaryOp}
use Rattle.mpd_model.specs.declared.place.DeclKind.{DeclKind}
use Rattle.mpd_model.specs.declared.place.DeclKind.TheVariants.{Variable, Handle}
use Rattle.mpd_model.specs.declared.slot.Slot.{Slot}
use Rattle.mpd_model.specs.declared.stmt.RecvStmt.{RecvStmt}
use Rattle.mpd_model.specs.declared.stmt.StatusStmt.{StatusStmt}
use Rattle.mpd_model.specs.declared.stmt.Simple.{Simple}
use Rattle.mpd_model.specs.declared.stmt.Simple.TheVariants as st
use Rattle.mpd_model.specs.declared.token.Symbol.TheVariants as m
use Rattle.mpd_model.specs.declared.token.Token.{Token}
use Rattle.mpd_model.specs.declared.token.Token.TheVariants.{Number, Name, Is}
use Rattle.mpd_model.specs.script.Declaration.{Declared, variable_cells, handle_cells}
use Rattle.mpd_model.specs.grammar.Grammar.{declares, operator_at, sign}
use Rattle.mpd_model.specs.grammar.Input.{slot_from, slot_in, same_kind}
use Rattle.mpd_model.specs.script.Parts.{Part, of_symbol, of_term, of_target, of_name, source_part, status_parts, recv_parts, parts_of}
use Rattle.mpd_model.specs.script.Program.{Program}
use Rattle.mpd_model.specs.script.Term.{Term, Target}
use Rattle.mpd_model.specs.grammar.Tokens.{Spot}
use Rattle.mpd_model.specs.script.Tree.{Tree}
use Rattle.mpd_model.specs.grammar.Written.{WrittenTerm, number, rank, ranks, name, entry, round, signs, higher, joins, WrittenTarget, whole, part, by_symbol, by_term, by_target, by_name, WrittenParts, no_part, then_part, WrittenTree, simply, repeats, chooses, chooses_else, WrittenBlock, braces, WrittenBody, ended, follows, WrittenDecls, none, declares_one, declares_array, declared_as, WrittenScript, script}
use Rattle.mpd_meaning.specs.PrefixLaws.{CanBeCompleted, names, announces, some_names, some_declares, HasWhatItNames}
use Rattle.mpd_meaning.proofs.viable.ViableScript.{or_first, or_left, or_right, or_second, Known}

-- ---- tokens behind which nothing is named

or_none : (a b : Bool) → a ≡ false → b ≡ false → a || b ≡ false
or_none a b x y = rw (x, y) refl

or_group : (a b c : Bool) → (a || b) || c ≡ a || (b || c)
or_group true b c = refl
or_group false b c = refl

silent_first : (kind : DeclKind) (s : Spot) (ss : List Spot) → names kind s.token ≡ false → some_names kind ss ≡ false → some_names kind (s ∷ ss) ≡ false
silent_first kind s ss a b = or_none (names kind s.token) (some_names kind ss) a b

-- a token of which no statement is
silent : (t : Token) → names Variable t ≡ false → names Handle t ≡ false → (kind : DeclKind) → names kind t ≡ false
silent t a b Variable = a
silent t a b Handle = b

is_silent : (s : Spot) (t : Token) → s.token ≡ t → names Variable t ≡ false → names Handle t ≡ false → (kind : DeclKind) → names kind s.token ≡ false
is_silent s t e a b kind = ap (names kind) e ∙ silent t a b kind

sign_silent : (t : Token) (op : UnaryOp) → sign t ≡ Some op → (kind : DeclKind) → names kind t ≡ false
sign_silent (Is m.Minus) op h kind = silent (Is m.Minus) refl refl kind
sign_silent (Is m.Not) op h kind = silent (Is m.Not) refl refl kind
sign_silent t op h kind = absurd (cc)

operator_silent : (k : ℕ) (t : Token) (op : BinaryOp) → operator_at k t ≡ Some op → (kind : DeclKind) → names kind t ≡ false
operator_silent k (Is m.Recv) op h kind = absurd (cc)
operator_silent k (Is m.Irecv) op h kind = absurd (cc)
operator_silent k (Is m.Isend) op h kind = absurd (cc)
operator_silent k (Is m.Issend) op h kind = absurd (cc)
operator_silent k (Is m.Wait) op h kind = absurd (cc)
operator_silent k (Is m.Waitany) op h kind = absurd (cc)
operator_silent k t op h Variable = refl
operator_silent k t op h Handle = refl

names_both : (kind : DeclKind) (us ts : List Spot) → some_names kind (us ++ ts) ≡ some_names kind us || some_names kind ts
names_both kind [] ts = refl
names_both kind (s ∷ us) ts = ap (λ b. names kind s.token || b) (names_both kind us ts) ∙ sym (or_group (names kind s.token) (some_names kind us) (some_names kind ts))

silent_both : (kind : DeclKind) (us ts : List Spot) → some_names kind us ≡ false → some_names kind ts ≡ false → some_names kind (us ++ ts) ≡ false
silent_both kind us ts a b = names_both kind us ts ∙ or_none (some_names kind us) (some_names kind ts) a b

-- nothing in an expression is named by a statement's word
silent_term : (ds : List Declared) (k : ℕ) (ss : List Spot) (t : Term) → WrittenTerm ds k ss t → (kind : DeclKind) → some_names kind ss ≡ false
silent_term ds _ _ _ (number s n h) kind = silent_first kind s [] (is_silent s (Number n) h refl refl kind) refl
silent_term ds _ _ _ (rank s h) kind = silent_first kind s [] (is_silent s (Is m.Rank) h refl refl kind) refl
silent_term ds _ _ _ (ranks s h) kind = silent_first kind s [] (is_silent s (Is m.Size) h refl refl kind) refl
silent_term ds _ _ _ (name s p n) kind = silent_first kind s [] (is_silent s Name n.token refl refl kind) refl
silent_term ds _ _ _ (entry s a b ss p t n ha hb w) kind =
    silent_first kind s (a ∷ ss ++ b ∷ []) (is_silent s Name n.token refl refl kind)
    (silent_first kind a (ss ++ b ∷ []) (is_silent a (Is m.SquareOpen) ha refl refl kind)
    (silent_both kind ss (b ∷ []) (silent_term ds 5 ss t w kind) (silent_first kind b [] (is_silent b (Is m.SquareClose) hb refl refl kind) refl)))
silent_term ds _ _ _ (round a b ss t ha hb w) kind =
    silent_first kind a (ss ++ b ∷ []) (is_silent a (Is m.RoundOpen) ha refl refl kind)
    (silent_both kind ss (b ∷ []) (silent_term ds 5 ss t w kind) (silent_first kind b [] (is_silent b (Is m.RoundClose) hb refl refl kind) refl))
silent_term ds _ _ _ (signs s ss op t h w) kind = silent_first kind s ss (sign_silent s.token op h kind) (silent_term ds 0 ss t w kind)
silent_term ds _ _ _ (higher k ss t w) kind = silent_term ds k ss t w kind
silent_term ds _ _ _ (joins k l r o op a b h v w) kind =
    silent_both kind l (o ∷ r) (silent_term ds _ l a v kind) (silent_first kind o r (operator_silent (suc k) o.token op h kind) (silent_term ds k r b w kind))

silent_target : (ds : List Declared) (k : DeclKind) (ss : List Spot) (t : Target) → WrittenTarget ds k ss t → (kind : DeclKind) → some_names kind ss ≡ false
silent_target ds k _ _ (whole s p n) kind = silent_first kind s [] (is_silent s Name n.token refl refl kind) refl
silent_target ds k _ _ (part s a b ss p t n ha w hb) kind =
    silent_first kind s (a ∷ ss ++ b ∷ []) (is_silent s Name n.token refl refl kind)
    (silent_first kind a (ss ++ b ∷ []) (is_silent a (Is m.SquareOpen) ha refl refl kind)
    (silent_both kind ss (b ∷ []) (silent_term ds 5 ss t w kind) (silent_first kind b [] (is_silent b (Is m.SquareClose) hb refl refl kind) refl)))

-- ---- parts: a word that names is beside a place of its kind

abbrev word_in : DeclKind → List Part → Bool
word_in kind [] = false
word_in kind (of_symbol k ∷ ps) = names kind (Is k) || word_in kind ps
word_in kind (of_term t ∷ ps) = word_in kind ps
word_in kind (of_target k t ∷ ps) = word_in kind ps
word_in kind (of_name k p ∷ ps) = word_in kind ps

abbrev target_in : DeclKind → List Part → Bool
target_in kind [] = false
target_in kind (of_symbol k ∷ ps) = target_in kind ps
target_in kind (of_term t ∷ ps) = target_in kind ps
target_in kind (of_target k t ∷ ps) = same_kind k kind || target_in kind ps
target_in kind (of_name k p ∷ ps) = same_kind k kind || target_in kind ps

parts_names : (ds : List Declared) (ss : List Spot) (ps : List Part) → WrittenParts ds ss ps → (kind : DeclKind) → some_names kind ss ≡ true → word_in kind ps ≡ true
parts_names ds _ _ no_part kind h = h
parts_names ds _ _ (then_part _ rs _ ps (by_symbol s k e) w) kind h =
    elim (or_first (names kind s.token) (some_names kind rs) h) [
      | inl a ↦ or_left (names kind (Is k)) (word_in kind ps) (ap (names kind) (sym e) ∙ a)
      | inr b ↦ or_right (names kind (Is k)) (word_in kind ps) (parts_names ds rs ps w kind b)
    ]
parts_names ds _ _ (then_part _ rs _ ps (by_term us t v) w) kind h =
    parts_names ds rs ps w kind (or_second (some_names kind us) (some_names kind rs) (silent_term ds 5 us t v kind) (sym (names_both kind us rs) ∙ h))
parts_names ds _ _ (then_part _ rs _ ps (by_target us k t v) w) kind h =
    parts_names ds rs ps w kind (or_second (some_names kind us) (some_names kind rs) (silent_target ds k us t v kind) (sym (names_both kind us rs) ∙ h))
parts_names ds _ _ (then_part _ rs _ ps (by_name s k is_array p n) w) kind h =
    parts_names ds rs ps w kind (or_second (names kind s.token) (some_names kind rs) (is_silent s Name n.token refl refl kind) h)

source_silent : (o : Option Term) (ps : List Part) → word_in Handle (source_part o ∷ ps) ≡ word_in Handle ps
source_silent None ps = refl
source_silent (Some t) ps = refl

status_silent : (o : Option StatusStmt) → word_in Handle (status_parts o []) ≡ false
status_silent None = refl
status_silent (Some s) = refl

recv_silent : (s : RecvStmt) → word_in Handle (recv_parts s) ≡ false
recv_silent s = source_silent s.from (of_symbol m.Tag ∷ source_part s.tag ∷ status_parts s.status []) ∙ source_silent s.tag (status_parts s.status []) ∙ status_silent s.status

words_have_targets : (s : Simple) (kind : DeclKind) → word_in kind (parts_of s) ≡ true → target_in kind (parts_of s) ≡ true
words_have_targets (st.Recv s) Variable h = refl
words_have_targets (st.Recv s) Handle h = let e = recv_silent s in absurd (let f : false ≡ true = sym e ∙ h in cc)
words_have_targets (st.Irecv s) Variable h = refl
words_have_targets (st.Irecv s) Handle h = refl
words_have_targets (st.Isend s) Handle h = refl
words_have_targets (st.Issend s) Handle h = refl
words_have_targets (st.Wait t) Handle h = refl
words_have_targets (st.Waitany s) Variable h = refl
words_have_targets (st.Waitany s) Handle h = refl
words_have_targets (st.Print t) Variable h = absurd (cc)
words_have_targets (st.Print t) Handle h = absurd (cc)
words_have_targets (st.Assert t) Variable h = absurd (cc)
words_have_targets (st.Assert t) Handle h = absurd (cc)
words_have_targets (st.Assign t) Variable h = refl
words_have_targets (st.Assign t) Handle h = absurd (cc)
words_have_targets (st.Send s) Variable h = absurd (cc)
words_have_targets (st.Send s) Handle h = absurd (cc)
words_have_targets (st.Ssend s) Variable h = absurd (cc)
words_have_targets (st.Ssend s) Handle h = absurd (cc)
words_have_targets (st.Isend s) Variable h = absurd (cc)
words_have_targets (st.Issend s) Variable h = absurd (cc)
words_have_targets (st.Wait t) Variable h = absurd (cc)
words_have_targets st.Barrier Variable h = absurd (cc)
words_have_targets st.Barrier Handle h = absurd (cc)

kinds_same : (k kind : DeclKind) → same_kind k kind ≡ true → k ≡ kind
kinds_same Variable Variable h = refl
kinds_same Handle Handle h = refl
kinds_same Variable Handle h = absurd (cc)
kinds_same Handle Variable h = absurd (cc)

target_known : (ds : List Declared) (k : DeclKind) (ss : List Spot) (t : Target) → WrittenTarget ds k ss t → Known ds k
target_known ds k _ _ (whole s p n) = record { name = s.text; slot = n.slot; found = n.declared; kind = n.kind }
target_known ds k _ _ (part s a b ss p t n ha w hb) = record { name = s.text; slot = n.slot; found = n.declared; kind = n.kind }

targets_known : (ds : List Declared) (ss : List Spot) (ps : List Part) → WrittenParts ds ss ps → (kind : DeclKind) → target_in kind ps ≡ true → Known ds kind
targets_known ds _ _ no_part kind h = absurd (cc)
targets_known ds _ _ (then_part _ rs _ ps (by_symbol s k e) w) kind h = targets_known ds rs ps w kind h
targets_known ds _ _ (then_part _ rs _ ps (by_term us t v) w) kind h = targets_known ds rs ps w kind h
targets_known ds _ _ (then_part _ rs _ ps (by_target us k t v) w) kind h =
    elim (or_first (same_kind k kind) (target_in kind ps) h) [
      | inl a ↦ subst (Known ds) (kinds_same k kind a) (target_known ds k us t v)
      | inr b ↦ targets_known ds rs ps w kind b
    ]
targets_known ds _ _ (then_part _ rs _ ps (by_name s k is_array p n) w) kind h =
    elim (or_first (same_kind k kind) (target_in kind ps) h) [
      | inl a ↦ subst (Known ds) (kinds_same k kind a) (record { name = s.text; slot = n.slot; found = n.declared; kind = n.kind })
      | inr b ↦ targets_known ds rs ps w kind b
    ]

-- ---- statements

behind_silent : (kind : DeclKind) (us ts : List Spot) → some_names kind us ≡ false → some_names kind (us ++ ts) ≡ true → some_names kind ts ≡ true
behind_silent kind us ts a h = or_second (some_names kind us) (some_names kind ts) a (sym (names_both kind us ts) ∙ h)

either_names : (kind : DeclKind) (us ts : List Spot) → some_names kind (us ++ ts) ≡ true → (some_names kind us ≡ true) ⊎ (some_names kind ts ≡ true)
either_names kind us ts h = or_first (some_names kind us) (some_names kind ts) (sym (names_both kind us ts) ∙ h)

-- before a token of which no statement is
front_names : (kind : DeclKind) (us : List Spot) (s : Spot) → names kind s.token ≡ false → some_names kind (us ++ s ∷ []) ≡ true → some_names kind us ≡ true
front_names kind us s a h =
    elim (either_names kind us (s ∷ []) h) [
      | inl x ↦ x
      | inr y ↦ absurd (let f : some_names kind [] ≡ true = or_second (names kind s.token) false a y in let g : false ≡ true = f in cc)
    ]

mutual
  tree_known : (ds : List Declared) (ss : List Spot) (t : Tree) (ls : List ℕ) → WrittenTree ds ss t ls → (kind : DeclKind) → some_names kind ss ≡ true → Known ds kind
  tree_known ds _ _ _ (simply ss end s w e) kind h =
      targets_known ds ss (parts_of s) w kind (words_have_targets s kind (parts_names ds ss (parts_of s) w kind (front_names kind ss end (is_silent end (Is m.Semicolon) e refl refl kind) h)))
  tree_known ds _ _ _ (repeats k e a t x ls hk w f) kind h =
      block_known ds a x ls f kind (behind_silent kind e a (silent_term ds 5 e t w kind) (or_second (names kind k.token) (some_names kind (e ++ a)) (is_silent k (Is m.While) hk refl refl kind) h))
  tree_known ds _ _ _ (chooses k e a t x ls hk w f) kind h =
      block_known ds a x ls f kind (behind_silent kind e a (silent_term ds 5 e t w kind) (or_second (names kind k.token) (some_names kind (e ++ a)) (is_silent k (Is m.If) hk refl refl kind) h))
  tree_known ds _ _ _ (chooses_else k o e a b t x y ls ms hk w f ho g) kind h =
      elim (either_names kind (k ∷ e ++ a) (o ∷ b) h) [
        | inl u ↦ block_known ds a x ls f kind (behind_silent kind e a (silent_term ds 5 e t w kind) (or_second (names kind k.token) (some_names kind (e ++ a)) (is_silent k (Is m.If) hk refl refl kind) u))
        | inr v ↦ block_known ds b y ms g kind (or_second (names kind o.token) (some_names kind b) (is_silent o (Is m.Else) ho refl refl kind) v)
      ]

  block_known : (ds : List Declared) (ss : List Spot) (ts : List Tree) (ls : List ℕ) → WrittenBlock ds ss ts ls → (kind : DeclKind) → some_names kind ss ≡ true → Known ds kind
  block_known ds _ _ _ (braces a z ss ts ls ha w hz) kind h =
      body_known ds ss ts ls w kind
      (front_names kind ss z (is_silent z (Is m.BraceClose) hz refl refl kind) (or_second (names kind a.token) (some_names kind (ss ++ z ∷ [])) (is_silent a (Is m.BraceOpen) ha refl refl kind) h))

  body_known : (ds : List Declared) (ss : List Spot) (ts : List Tree) (ls : List ℕ) → WrittenBody ds ss ts ls → (kind : DeclKind) → some_names kind ss ≡ true → Known ds kind
  body_known ds _ _ _ ended kind h = absurd (cc)
  body_known ds _ _ _ (follows ss rs t ts ls ms v w) kind h =
      elim (either_names kind ss rs h) [
        | inl a ↦ tree_known ds ss t ls v kind a
        | inr b ↦ body_known ds rs ts ms w kind b
      ]

-- ---- declarations

announces_it : (kind : DeclKind) (t : Token) → declares t ≡ Some kind → announces kind t ≡ true
announces_it Variable (Is m.Var) h = refl
announces_it Handle (Is m.Req) h = refl
announces_it Variable t h = absurd (cc)
announces_it Handle t h = absurd (cc)

declares_silent : (k : DeclKind) (t : Token) → declares t ≡ Some k → (kind : DeclKind) → names kind t ≡ false
declares_silent k (Is m.Var) h kind = silent (Is m.Var) refl refl kind
declares_silent k (Is m.Req) h kind = silent (Is m.Req) refl refl kind
declares_silent k t h kind = absurd (cc)

split_last : (b : Bool) (x s : Slot) (kind : DeclKind) → x.kind ≡ kind → cond b (Some x) None ≡ Some s → s.kind ≡ kind
split_last true x s kind e h = let f : x ≡ s = cc in ap (λ y. y.kind) (sym f) ∙ e
split_last false x s kind e h = absurd (cc)

split_case : (b : Bool) (x y z : Option Slot) (s : Slot) (D : Type 0) → (z ≡ Some s → (y ≡ Some s) ⊎ D) → cond b x z ≡ Some s → (cond b x y ≡ Some s) ⊎ D
split_case true x y z s D f h = inl h
split_case false x y z s D f h = f h

slot_split : (n v h : ℕ) (ds : List Declared) (d : Declared) (w : List ℕ) (s : Slot) → slot_from n v h (ds ++ d ∷ []) w ≡ Some s → (slot_from n v h ds w ≡ Some s) ⊎ (s.kind ≡ d.kind)
slot_split n v h [] d w s e = inr (split_last (bytes_eq d.name w) _ s d.kind refl e)
slot_split n v h (c ∷ ds) d w s e = split_case (bytes_eq c.name w) _ _ _ s (s.kind ≡ d.kind) (slot_split (n + 1) (v + variable_cells c.kind c.size) (h + handle_cells c.kind c.size) ds d w s) e

known_split : (ds : List Declared) (d : Declared) (kind : DeclKind) → Known (ds ++ d ∷ []) kind → Known ds kind ⊎ (d.kind ≡ kind)
unfolding slot_in
known_split ds d kind k =
    elim (slot_split 0 0 0 ds d k.name k.slot k.found) [
      | inl found ↦ inl (record { name = k.name; slot = k.slot; found = found; kind = k.kind })
      | inr same ↦ inr (sym same ∙ k.kind)
    ]

-- what was known before, or a word among the tokens that declares it
abbrev IsFrom : List Declared → List Spot → DeclKind → Type 0
IsFrom ds ss kind = Known ds kind ⊎ (some_declares kind ss ≡ true)

from_next : (ds : List Declared) (kind k : DeclKind) (v : Spot) (ts : List Spot) (d : Declared) → d.kind ≡ k → declares v.token ≡ Some k → IsFrom (ds ++ d ∷ []) ts kind → IsFrom ds (v ∷ ts) kind
from_next ds kind k v ts d e ev (inl known) =
    elim (known_split ds d kind known) [
      | inl old ↦ inl old
      | inr same ↦ inr (or_left (announces kind v.token) (some_declares kind ts) (announces_it kind v.token (ev ∙ ap Some (sym e ∙ same))))
    ]
from_next ds kind k v ts d e ev (inr h) = inr (or_right (announces kind v.token) (some_declares kind ts) h)

from_more : (ds : List Declared) (kind : DeclKind) (s : Spot) (ss : List Spot) → IsFrom ds ss kind → IsFrom ds (s ∷ ss) kind
from_more ds kind s ss (inl known) = inl known
from_more ds kind s ss (inr h) = inr (or_right (announces kind s.token) (some_declares kind ss) h)

known_from : (ds : List Declared) (ss : List Spot) (es : List Declared) → WrittenDecls ds ss es → (kind : DeclKind) → Known es kind → IsFrom ds ss kind
known_from _ _ _ (none ds) kind k = inl k
known_from _ _ _ (declares_one ds es k v n end ss ev en free ee w) kind x =
    let d = declared_as k n.text None in
    let b = known_from (ds ++ d ∷ []) ss es w kind x in
    from_next ds kind k v (n ∷ end ∷ ss) d refl ev (from_more (ds ++ d ∷ []) kind n (end ∷ ss) (from_more (ds ++ d ∷ []) kind end ss b))
known_from _ _ _ (declares_array ds es k v n a c z end cells ss ev en free ea ec ez ee w) kind x =
    let d = declared_as k n.text (Some cells) in
    let b = known_from (ds ++ d ∷ []) ss es w kind x in
    from_next ds kind k v (n ∷ a ∷ c ∷ z ∷ end ∷ ss) d refl ev
    (from_more (ds ++ d ∷ []) kind n (a ∷ c ∷ z ∷ end ∷ ss) (from_more (ds ++ d ∷ []) kind a (c ∷ z ∷ end ∷ ss) (from_more (ds ++ d ∷ []) kind c (z ∷ end ∷ ss)
    (from_more (ds ++ d ∷ []) kind z (end ∷ ss) (from_more (ds ++ d ∷ []) kind end ss b)))))

silent_decls : (ds : List Declared) (ss : List Spot) (es : List Declared) → WrittenDecls ds ss es → (kind : DeclKind) → some_names kind ss ≡ false
silent_decls _ _ _ (none ds) kind = refl
silent_decls _ _ _ (declares_one ds es k v n end ss ev en free ee w) kind =
    silent_first kind v (n ∷ end ∷ ss) (declares_silent k v.token ev kind)
    (silent_first kind n (end ∷ ss) (is_silent n Name en refl refl kind) (silent_first kind end ss (is_silent end (Is m.Semicolon) ee refl refl kind) (silent_decls _ ss es w kind)))
silent_decls _ _ _ (declares_array ds es k v n a c z end cells ss ev en free ea ec ez ee w) kind =
    silent_first kind v (n ∷ a ∷ c ∷ z ∷ end ∷ ss) (declares_silent k v.token ev kind)
    (silent_first kind n (a ∷ c ∷ z ∷ end ∷ ss) (is_silent n Name en refl refl kind)
    (silent_first kind a (c ∷ z ∷ end ∷ ss) (is_silent a (Is m.SquareOpen) ea refl refl kind)
    (silent_first kind c (z ∷ end ∷ ss) (is_silent c (Number (pos cells)) ec refl refl kind)
    (silent_first kind z (end ∷ ss) (is_silent z (Is m.SquareClose) ez refl refl kind)
    (silent_first kind end ss (is_silent end (Is m.Semicolon) ee refl refl kind) (silent_decls _ ss es w kind))))))

-- ---- each word that names stands behind one that declares

abbrev Preceded : DeclKind → Bool → List Spot → Type 0
Preceded kind seen [] = Unit {0}
Preceded kind seen (s ∷ ss) = (names kind s.token ≡ true → seen ≡ true) × Preceded kind (seen || announces kind s.token) ss

-- so it does among the first tokens
preceded_first : (kind : DeclKind) (seen : Bool) (us ts : List Spot) → Preceded kind seen (us ++ ts) → some_names kind us ≡ true → seen || some_declares kind us ≡ true
preceded_first kind seen [] ts p h = absurd (cc)
preceded_first kind seen (s ∷ us) ts p h =
    elim (or_first (names kind s.token) (some_names kind us) h) [
      | inl a ↦ or_left seen (some_declares kind (s ∷ us)) (p.0 a)
      | inr b ↦ sym (or_group seen (announces kind s.token) (some_declares kind us)) ∙ preceded_first kind (seen || announces kind s.token) us ts p.1 b
    ]

preceded_all : (kind : DeclKind) (seen : Bool) (ss : List Spot) → (some_names kind ss ≡ true → seen ≡ true) → Preceded kind seen ss
preceded_all kind seen [] f = tt
preceded_all kind seen (s ∷ ss) f = (
  λ h. f (or_left (names kind s.token) (some_names kind ss) h),
  preceded_all kind (seen || announces kind s.token) ss (λ h. or_left seen (announces kind s.token) (f (or_right (names kind s.token) (some_names kind ss) h))),
)

-- behind tokens of which none names
preceded_behind : (kind : DeclKind) (seen : Bool) (us ts : List Spot) → some_names kind us ≡ false → (some_names kind ts ≡ true → seen || some_declares kind us ≡ true) → Preceded kind seen (us ++ ts)
preceded_behind kind seen [] ts e f = preceded_all kind seen ts (λ h. or_only seen (f h))
  where
    or_only : (b : Bool) → b || false ≡ true → b ≡ true
    or_only true h = refl
    or_only false h = h
preceded_behind kind seen (s ∷ us) ts e f =
    let x = or_neither (names kind s.token) (some_names kind us) e in (
      λ h. absurd (let g : false ≡ true = sym x.0 ∙ h in cc),
      preceded_behind kind (seen || announces kind s.token) us ts x.1 (λ h. or_group seen (announces kind s.token) (some_declares kind us) ∙ f h),
    )
  where
    or_neither : (a b : Bool) → a || b ≡ false → (a ≡ false) × (b ≡ false)
    or_neither true b h = absurd (cc)
    or_neither false b h = (refl, h)

no_known : (kind : DeclKind) → Known [] kind → ⊥
unfolding slot_in
no_known kind k = let f = k.found in cc

script_precedes : (ss : List Spot) (p : Program) → WrittenScript ss p → (kind : DeclKind) → Preceded kind false ss
script_precedes _ _ (script mpd v a r c b ss rs p hm hv ha hr hc hb ds w) kind =
    preceded_behind kind false (mpd ∷ v ∷ a ∷ r ∷ c ∷ b ∷ ss) rs
    (silent_first kind mpd (v ∷ a ∷ r ∷ c ∷ b ∷ ss) (is_silent mpd (Is m.Mpd) hm refl refl kind) (silent_first kind v (a ∷ r ∷ c ∷ b ∷ ss) (is_silent v (Number (pos p.version)) hv refl refl kind)
    (silent_first kind a (r ∷ c ∷ b ∷ ss) (is_silent a (Is m.Semicolon) ha refl refl kind) (silent_first kind r (c ∷ b ∷ ss) (is_silent r (Is m.Ranks) hr refl refl kind)
    (silent_first kind c (b ∷ ss) (is_silent c (Number (pos p.ranks)) hc refl refl kind) (silent_first kind b ss (is_silent b (Is m.Semicolon) hb refl refl kind) (silent_decls [] ss p.decls ds kind)))))))
    (λ h. there (known_from [] ss p.decls ds kind (body_known p.decls rs p.body p.lines w kind h)))
  where
    there : IsFrom [] ss kind → some_declares kind (mpd ∷ v ∷ a ∷ r ∷ c ∷ b ∷ ss) ≡ true
    there (inl known) = absurd (no_known kind known)
    there (inr h) =
        or_right (announces kind mpd.token) _ (or_right (announces kind v.token) _ (or_right (announces kind a.token) _ (or_right (announces kind r.token) _
        (or_right (announces kind c.token) _ (or_right (announces kind b.token) _ h)))))

pub completed_names : (ss : List Spot) → CanBeCompleted ss → HasWhatItNames ss
completed_names ss c kind h = preceded_first kind false ss c.more (script_precedes (ss ++ c.more) c.program c.written kind) h
