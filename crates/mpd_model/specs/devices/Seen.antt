-- What is seen of a device: its calls so far, and its bytes.
use Rattle.std.specs.Prelude.{ℕ, List, Option}

pub record SourceSeen : Type 0 where
  -- reads so far; those that failed, and those that gave no byte: the input had ended, or there was no room
  pub calls : ℕ
  pub failures : ℕ
  pub ends : ℕ
  -- the bytes that reads will give, where they are known
  pub remaining : Option (List ℕ)

pub record SinkSeen : Type 0 where
  -- writes so far, and those that failed
  pub calls : ℕ
  pub failures : ℕ
  -- the bytes that were written, where they are known
  pub contents : Option (List ℕ)
