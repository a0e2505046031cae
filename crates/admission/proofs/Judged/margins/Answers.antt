use Prim.Native.Nat.{suc}
use mathlib.Core.Path.{◌≡◌, sym, ◌∙◌}
use native.Mathlib.Omega.{arith}
use mir.Facts.{to_z-of_z}
use mir.Syntax.{w64}
use mir.Val.{to_z, of_z}
use Rattle.admission.specs.Test.{load, limit, margin}
use Rattle.admission.proofs.Bounds.{Amax-zero, Amax-suc, limit-small}
use Rattle.admission.proofs.Laws.{Amax-more, margins-none, margins-more}
use Rattle.admission.proofs.Turns.{Measured, loaded-small, loading_more, limit-is}
use Rattle.admission.proofs.Judged.margins.Goals as goal

pub loop-k-init : goal.loop-k-init
loop-k-init c = (sym (Amax-zero _), margins-none _)

pub measures-x-requires : goal.measures-x-requires
measures-x-requires c = (
  c.loop-k-test.true,
  c.largest-most.ensures ∙ rw c.loop-k.invariant.0 (sym (Amax-suc c.args.self.now.good c.loop-k.k)),
)

pub difference-requires : goal.difference-requires
difference-requires c =
    let t = c.args.self.now.table.now in
    let e = c.measures-x.ensures in
    let x : Measured t c.loop-k.k c.measures-x.result = record { m = e.0; b = e.1; s = e.2 } in (
      rw (c.limit.ensures, limit-is x) (limit-small c.args.self.now.good _ c.loop-k-test.true),
      omega (arith, loaded-small c.measures-x.result t c.args.self.now.good {i = t.n} c.load.ensures (omega arith)),
    )

pub loop-k-preserved : goal.loop-k-preserved
loop-k-preserved c =
    let t = c.args.self.now.table.now in
    let k = c.loop-k.k in
    let e = c.measures-x.ensures in
    let x : Measured t k c.measures-x.result = record { m = e.0; b = e.1; s = e.2 } in
    let top : c.limit.result ≡ limit t (suc k) = c.limit.ensures ∙ limit-is x in
    let sum : c.load.result ≡ load t (suc k) = c.load.ensures ∙ loading_more x in
    let is : to_z w64 (of_z w64 c.difference.result) ≡ margin t (suc k) =
    to_z-of_z {w = w64} (record { sfits = c.difference.type_inv }) ∙ (c.difference.ensures ∙ rw (top, sum)) in (
      Amax-more t k c.loop-k.invariant.0 c.largest-most.ensures,
      rw (is, c.loop-k.invariant.1)
          (margins-more t k (omega (arith, c.args.self.now.good.sizes.few, c.loop-k-test.true))),
    )
