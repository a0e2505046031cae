-- What a buffer holds of a text that is written into it is whole.
use Prim.Native.Nat.{ℕ}
use mathlib.Core.Path.{sym}
use mathlib.Core.List.{List}
use lib.Seq.{length-take-le}
use Rattle.writers.specs.declared.Written.{Written}
use Rattle.writers.specs.Written.{Wrote}
use Rattle.writers.proofs.Wholes.{wrote_inside}
use Rattle.files.specs.Got.{Whole}

pub wrote-whole : (text buffer after : List ℕ) (w : Written) → Wrote text buffer w after → Whole w.length after
wrote-whole text buffer after w wrote =
    let inside = wrote_inside text buffer after w wrote in
    (inside, sym (length-take-le w.length after inside))
