-- A number's bytes on their way into a text. No statement of a public function rests on this.
use Rattle.std.specs.Prelude.{ℕ, ◌+◌, ◌≡◌, List, ◌++◌, drop, length}
use Rattle.writers.specs.declared.Cell.{Cell}

-- what a cell holds, from its place on
abbrev pub held : Cell → List ℕ
held c = drop c.from c.bytes

-- some bytes more, at the front
pub record Prefixed (before : Cell) (bytes : List ℕ) (after : Cell) : Type 0 where
  pub holds : held after ≡ bytes ++ held before
  pub place : after.from + length bytes ≡ before.from
