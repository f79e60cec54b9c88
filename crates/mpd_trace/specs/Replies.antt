-- What was said to a command.
use Rattle.std.specs.Prelude.{◌≡◌, ◌⊎◌, List, ◌++◌, ℕ, Option}
use Rattle.mpd_model.specs.declared.words.TraceWord.{TraceWord}
use Rattle.mpd_model.specs.runs.Trail.{Standing, IsReached}
use Rattle.mpd_model.specs.texts.Answers.{trace_word_answer, refused_memory, MayWantMemory}

-- a command was answered as it is to be, and the world is where the trail leads
pub record TraceWordAnswer (old : Standing) (command : Option TraceWord) (text : List ℕ) (new : Standing) : Type 0 where
  pub told : text ≡ (trace_word_answer old command).0
  pub trail : new.trail ≡ (trace_word_answer old command).1
  pub reached : IsReached new

-- memory was refused, where it may be, and nothing has changed
pub record TraceWordMemory (old : Standing) (command : Option TraceWord) (text : List ℕ) (new : Standing) : Type 0 where
  pub wants : MayWantMemory old command
  pub told : text ≡ refused_memory
  pub trail : new.trail ≡ old.trail
  pub world : new.world ≡ old.world

-- the answer to a command was added to a text
abbrev pub Replies : List ℕ → List ℕ → Standing → Option TraceWord → Standing → Type 0
Replies before after old command new = (text : List ℕ) × (after ≡ before ++ text) × (TraceWordAnswer old command text new ⊎ TraceWordMemory old command text new)
