use mathlib.Core.Path.{◌≡◌, refl, sym, ◌∙◌}
use native.Mathlib.Omega.{arith}
use native.Mathlib.Numerals.{add-one}
use borrow.Author.Rules.{rules}
use lib.ListN.{length, length-set}
use lib.Seq.{take-suc-set}
use Rattle.std.proofs.lemmas.List.{take_all}
use Rattle.maths.proofs.Results.{handed}
use Rattle.maths.proofs.Lists.{len_mapped}
use Rattle.readers.proofs.Rows.{row_more, row-stop, row-end}
use Rattle.readers.proofs.row_at.Goals as goal

pub returns-in_err-x : goal.returns-in_err-x
returns-in_err-x g c =
    let loop = c.loop-j in
    let columns = c.args.columns.now in
    let wide : length columns ≡ g.row.N = search (len_mapped, rules) in
    handed _ c.from_residual.ensures
    ∙ sym (loop.invariant.1 ∙ row-stop c.args.s.now _ columns loop.j loop.next (omega arith) _
    (rw wide c.in_err-x.ensures))

pub loop-j-preserved : goal.loop-j-preserved
loop-j-preserved g c =
    let s = c.args.s.now in
    let loop = c.loop-j in
    let columns = c.args.columns.now in
    let x = c.in_ok-x.x in
    let wide : length columns ≡ g.row.N = search (len_mapped, rules) in (
      length-set loop.numbers loop.j x.value ∙ loop.invariant.0,
      rw (add-one, take-suc-set loop.numbers loop.j x.value (omega arith))
          (loop.invariant.1 ∙ row_more s _ columns loop.j loop.next (omega arith) _ (rw wide c.in_ok-x.ensures)),
    )

pub returns : goal.returns
returns g c =
    let loop = c.loop-j in
    let columns = c.args.columns.now in
    let wide : length columns ≡ g.row.N = search (len_mapped, rules) in
    sym (loop.invariant.1 ∙ row-end c.args.s.now _ columns loop.j loop.next (omega arith)
    ∙ rw (take_all loop.j loop.numbers (omega arith)) refl)
