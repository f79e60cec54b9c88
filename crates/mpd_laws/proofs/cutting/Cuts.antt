-- What a text is cut into, where something follows it.
use Rattle.std.proofs.Common.{◌≡◌, ℕ, ◌+◌, Bool, true, false, List, [], ◌∷◌, ◌++◌, refl, ap, sym, ◌∙◌, append_assoc, append-nil, subst}
use Rattle.std.proofs.lemmas.List.Folds.{list_all-append}
use Rattle.std.specs.List.{list_all}
use Rattle.mpd_model.specs.declared.token.Token.{Token}
use Rattle.mpd_model.specs.grammar.Grammar.{is_text}
use Rattle.mpd_model.specs.grammar.Tokens.{Spot, tokens_at, is_blank, is_in_name, feeds}

-- nothing, or a byte that ends a name or a number
abbrev pub Ends : List ℕ → Type 0
Ends [] = Unit {0}
Ends (b ∷ z) = is_in_name b ≡ false

abbrev pub Any : List ℕ → Type 0
Any z = Unit {0}

-- the text is cut into these tokens, and what follows is cut for itself
pub record Cut (Holds : List Spot → Type 0) (text : List ℕ) (place line : ℕ) (rest : List ℕ) : Type 0 where
  pub spots : List Spot
  pub to_place : ℕ
  pub to_line : ℕ
  pub is : tokens_at place line (text ++ rest) ≡ spots ++ tokens_at to_place to_line rest
  pub holds : Holds spots

-- the text is cut so wherever it stands, where what may follow does
pub record Spelled (Follows : List ℕ → Type 0) (Holds : List Spot → Type 0) (text : List ℕ) : Type 0 where
  pub cut : (place line : ℕ) (rest : List ℕ) → Follows rest → Cut Holds text place line rest
  pub plain : list_all is_text text ≡ true

-- ---- texts behind one another

pub data Both (P Q : List Spot → Type 0) : List Spot → Type 0 where
  both : (a b : List Spot) → P a → Q b → Both P Q (a ++ b)

plain_both : (a b : List ℕ) → list_all is_text a ≡ true → list_all is_text b ≡ true → list_all is_text (a ++ b) ≡ true
plain_both a b x y = list_all-append is_text a b ∙ rw (x, y) refl

pub join : {F G : List ℕ → Type 0} {P Q : List Spot → Type 0} (a b : List ℕ) → Spelled F P a → Spelled G Q b → ((z : List ℕ) → G z → F (b ++ z)) → Spelled G (Both P Q) (a ++ b)
join {F} {G} {P} {Q} a b x y goes_on = record {
  cut = λ p l z h.
      let c : Cut P a p l (b ++ z) = x.cut p l (b ++ z) (goes_on z h) in
      let d : Cut Q b c.to_place c.to_line z = y.cut c.to_place c.to_line z h in
      record {
        spots = c.spots ++ d.spots;
        to_place = d.to_place;
        to_line = d.to_line;
        is = ap (tokens_at p l) (append_assoc a b z) ∙ c.is ∙ ap (λ ss. c.spots ++ ss) d.is ∙ sym (append_assoc c.spots d.spots (tokens_at d.to_place d.to_line z));
        holds = both c.spots d.spots c.holds d.holds;
      };
  plain = plain_both a b x.plain y.plain;
}

-- the same tokens, said otherwise
pub turned : {F : List ℕ → Type 0} {P Q : List Spot → Type 0} (a : List ℕ) → ((ss : List Spot) → P ss → Q ss) → Spelled F P a → Spelled F Q a
turned {F} {P} {Q} a f x = record {
  cut = λ p l z h.
      let c : Cut P a p l z = x.cut p l z h in
      record { spots = c.spots; to_place = c.to_place; to_line = c.to_line; is = c.is; holds = f c.spots c.holds };
  plain = x.plain;
}

-- less may follow
pub narrowed : {F G : List ℕ → Type 0} {P : List Spot → Type 0} (a : List ℕ) → ((z : List ℕ) → G z → F z) → Spelled F P a → Spelled G P a
narrowed a f x = record { cut = λ p l z h. x.cut p l z (f z h); plain = x.plain }

-- ---- blanks

pub data IsNone : List Spot → Type 0 where
  nothing : IsNone []

behind_none : {P : List Spot → Type 0} (ss : List Spot) → Both IsNone P ss → P ss
behind_none _ (both _ b nothing h) = h

before_none : {P : List Spot → Type 0} (ss : List Spot) → Both P IsNone ss → P ss
before_none {P} _ (both a _ h nothing) = subst P (sym (append-nil a)) h

pub blank_before : {G : List ℕ → Type 0} {P : List Spot → Type 0} (a b : List ℕ) → Spelled Any IsNone a → Spelled G P b → Spelled G P (a ++ b)
blank_before {G} {P} a b x y = turned (a ++ b) behind_none (join a b x y (λ _ _. tt))

pub blank_behind : {F : List ℕ → Type 0} {P : List Spot → Type 0} (a b : List ℕ) → Spelled F P a → Spelled Any IsNone b → ((z : List ℕ) → Any z → F (b ++ z)) → Spelled Any P (a ++ b)
blank_behind {F} {P} a b x y h = turned (a ++ b) before_none (join a b x y h)

-- ---- texts that are known

-- where the next byte stands
abbrev pub place_behind : List ℕ → ℕ → ℕ
place_behind [] p = p
place_behind (b ∷ z) p = place_behind z (p + 1)

abbrev line_at : Bool → ℕ → ℕ → ℕ
line_at true b l = l + feeds b
line_at false b l = l

abbrev pub line_behind : List ℕ → ℕ → ℕ
line_behind [] l = l
line_behind (b ∷ z) l = line_behind z (line_at (is_blank b) b l)

-- a text whose tokens are the same whatever follows
pub fixed : {P : List Spot → Type 0} (a : List ℕ)
    → ((p l : ℕ) (z : List ℕ) → tokens_at p l (a ++ z) ≡ tokens_at p l a ++ tokens_at (place_behind a p) (line_behind a l) z)
    → ((p l : ℕ) → P (tokens_at p l a)) → list_all is_text a ≡ true → Spelled Any P a
fixed a e h t = record {
  cut = λ p l z _. record { spots = tokens_at p l a; to_place = place_behind a p; to_line = line_behind a l; is = e p l z; holds = h p l };
  plain = t;
}

-- one token
pub data IsOne (t : Token) : List Spot → Type 0 where
  one : (s : Spot) → s.token ≡ t → IsOne t (s ∷ [])

-- one token with its bytes
pub data IsWord (t : Token) (w : List ℕ) : List Spot → Type 0 where
  one_word : (s : Spot) → s.token ≡ t → s.text ≡ w → IsWord t w (s ∷ [])

pub one_of_word : {t : Token} {w : List ℕ} (ss : List Spot) → IsWord t w ss → IsOne t ss
one_of_word _ (one_word s h e) = one s h
