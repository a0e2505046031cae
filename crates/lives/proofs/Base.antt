-- The base's style: each task is charged the report's interference, k too, whoever starts. Which states are full, and
-- by which weights the test is passed, is left open.
use Prim.Native.Nat.{ℕ, ◌≤◌}
use Rattle.maths.specs.Tasks.{Each}
use Rattle.lives.specs.Report.{Row, slack, interference_of}
use Rattle.lives.specs.Life.{Sound}
use Rattle.lives.specs.Style.{Style}
use Rattle.lives.specs.Test.{Weighed}
use Rattle.lives.proofs.Window.{equation_3}
use Rattle.lives.proofs.Weights.{not-all-full}

abbrev pub base : {n : ℕ} {rows : ℕ → Row} {top : ℕ → ℕ} {IsFull : ℕ → (ℕ → ℕ) → Type 0}
    → Each n (λ i. Sound (rows i)) → Each n (λ i. (rows i).T ≤ top i) → Weighed n rows IsFull → Style n rows top
base {n} {rows} {top} {IsFull} sound held test =
    record {
      sound = sound;
      held = held;
      Full = IsFull;
      Starts = λ k y. Unit {0};
      charge = interference_of rows;
      charged =
          λ k p q y window i u m.
          equation_3 (rows i) (top i) (sound i u m) (λ e. y e i) (slack (rows k))
          (window.within i u m) (window.next i u m);
      passed =
          λ k p q r once few full.
          not-all-full n (test.scale k) (test.weight k) (test.heavy k p q) r once (slack (rows k))
          (interference_of rows k) few (test.light k p q) full;
    }
