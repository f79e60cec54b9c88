-- The words of the console, by their names.
use Rattle.std.specs.Prelude.{ℕ, suc, ◌==◌, bytes_eq, nat_lt, if◌then◌else◌, List, [], ◌∷◌, map, Option, Some, None}
use Rattle.mpd_vocabulary.specs.declared.topic.Topic.{Topic}
use Rattle.mpd_vocabulary.specs.declared.topic.Topic.TheVariants as topic
use Rattle.mpd_vocabulary.specs.declared.topic.TheConstants as told

-- what the words are called, each whole name before its short forms
abbrev pub names : List (List ℕ × Topic)
names = map (λ k. (k.0.now, k.1)) told.NAMES

abbrev pub topic_in : List (List ℕ × Topic) → List ℕ → Option Topic
topic_in [] w = None
topic_in (k ∷ ks) w = if bytes_eq k.0 w then Some k.1 else topic_in ks w

unfoldable pub topic_of : List ℕ → Option Topic
topic_of w = topic_in names w

-- how many bytes two words begin with in common
abbrev pub shared : List ℕ → List ℕ → ℕ
shared [] w = 0
shared (a ∷ z) [] = 0
shared (a ∷ z) (b ∷ w) = if a == b then suc (shared z w) else 0

-- the first name that begins most like a word, where it has more bytes in common with it than the best so far
abbrev pub nearer : List ℕ → List (List ℕ × Topic) → ℕ → List ℕ → List ℕ
nearer w [] most best = best
nearer w (k ∷ ks) most best = if nat_lt most (shared k.0 w) then nearer w ks (shared k.0 w) k.0 else nearer w ks most best

unfoldable pub nearest : List ℕ → List ℕ
nearest w = nearer w names 1 []
