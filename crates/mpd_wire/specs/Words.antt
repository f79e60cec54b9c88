-- The words that stand in a reply beside what it holds: what they say is fixed by no format, where they stand and how many they are is.
use Rattle.std.specs.Prelude.{◌≡◌, ℕ, ◌==◌, if◌then◌else◌, List, [], ◌∷◌, length, Option, Some, None}
use Rattle.mpd_session.specs.declared.reply.Explained.{Explained}
use Rattle.mpd_session.specs.declared.reply.Answer.{Answer}
use Rattle.mpd_session.specs.declared.reply.Answer.TheVariants as answer
use Rattle.mpd_session.specs.declared.reply.Reply.{Reply}
use Rattle.mpd_session.specs.declared.reply.Reply.TheVariants.{Done, Refused}

-- a byte before the first of these lines, if there is one
abbrev pub before_line : ℕ → List (List ℕ) → List (List ℕ)
before_line b [] = []
before_line b (l ∷ ls) = (b ∷ l) ∷ ls

-- the lines of a text that a line feed ends, without it
abbrev pub feed_lines : List ℕ → List (List ℕ)
feed_lines [] = []
feed_lines (b ∷ text) = if b == 10 then [] ∷ feed_lines text else before_line b (feed_lines text)

-- of how a run has ended the lines of a text; none where it hasn't
abbrev pub AreLines : Option Explained → List (List ℕ) → Type 0
AreLines None words = words ≡ []
AreLines (Some told) words = (text : List ℕ) × (words ≡ feed_lines text)

-- The words of an answer: of a decision as many as there are steps, of an end lines, of no other any.
abbrev pub AreWords : Answer → List (List ℕ) → Type 0
AreWords (answer.Decided kind steps decls outcome) words = length words ≡ length steps
AreWords (answer.Explained told) words = AreLines told words
AreWords other words = words ≡ []

abbrev pub HasWords : Reply → List (List ℕ) → Type 0
HasWords (Refused r) words = words ≡ []
HasWords (Done v a) words = AreWords a words
