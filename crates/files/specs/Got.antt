-- So many bytes at the front of a buffer. No contract can say which bytes a read brings.
use Rattle.std.specs.Prelude.{ℕ, ◌≤◌, ◌≡◌, List, length, take}

abbrev pub Whole : ℕ → List ℕ → Type 0
Whole n buffer = (n ≤ length buffer) × (n ≡ length (take n buffer))
