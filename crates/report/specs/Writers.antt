-- Texts written one after another into one buffer.
use Rattle.std.specs.Prelude.{◌≡◌, ℕ, ◌+◌, ◌≤◌, List, length}
use Rattle.report.specs.Buffers.{Puts}
use Rattle.report.specs.declared.writers.Writer.{Writer}

-- the buffer has room for a text
abbrev pub HasRoom : List ℕ → Writer → Type 0
HasRoom text w = w.at + length text ≤ length w.out.now

-- a text is written at a writer's place, into the same buffer
pub record Writes (text : List ℕ) (old new : Writer) : Type 0 where
  pub same : new.out.ghost_name ≡ old.out.ghost_name
  pub size : length new.out.now ≡ length old.out.now
  pub puts : Puts text old.at old.out.now new.out.now new.at
