use mathlib.Core.Path.{◌≡◌, sym, ap, ◌∙◌}
use mathlib.Core.List.{◌∷◌, [], ◌++◌}
use native.Mathlib.Omega.{arith}
use native.Mathlib.Numerals.{add-one}
use borrow.Author.Rules.{rules}
use lib.ListN.{length, length-set, get_or}
use lib.Seq.{take-suc-set, take-suc}
use Rattle.std.proofs.lemmas.List.{take_all}
use Rattle.maths.proofs.Lists.{len_mapped}
use Rattle.readers.proofs.narrow.Goals as goal

pub loop-i-preserved : goal.loop-i-preserved
loop-i-preserved g c =
    let loop = c.loop-i in
    let numbers = c.args.numbers in
    let wide : length numbers ≡ g.row.N = search (len_mapped, rules) in
    let v = get_or numbers loop.i 0 in (
      length-set loop.narrowed loop.i v ∙ loop.invariant.0,
      rw add-one
          (take-suc-set loop.narrowed loop.i v (omega arith) ∙ ap (λ l. l ++ (v ∷ [])) loop.invariant.1
          ∙ sym (take-suc numbers loop.i 0 (omega arith))),
    )

pub returns : goal.returns
returns g c =
    let loop = c.loop-i in
    let numbers = c.args.numbers in
    let wide : length numbers ≡ g.row.N = search (len_mapped, rules) in
    sym (take_all loop.i loop.narrowed (omega arith)) ∙ loop.invariant.1 ∙ take_all loop.i numbers (omega arith)
