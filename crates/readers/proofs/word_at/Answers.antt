use Prim.Native.Nat.{◌+◌}
use mathlib.Core.Path.{◌≡◌, ap, ◌∙◌}
use borrow.Author.Rules.{rules}
use native.Mathlib.Omega.{arith}
use lib.ListN.{length}
use Rattle.readers.specs.Places.{agree_at}
use Rattle.readers.proofs.Places.{agree-end, agree-short, agree-other, agree-more}
use Rattle.readers.proofs.Rows.{word-whole, word-part}
use Rattle.readers.proofs.word_at.Goals.{then-s-at-via-then-s-at, then-s-at-via-else-s-at+then-s-at-2}
use Rattle.readers.proofs.word_at.Goals as goal

pub returns-then-s-at : goal.returns-then-s-at
returns-then-s-at c =
    let s = c.args.s.now in
    let at = c.args.at in
    let word = c.args.word.now in
    let i = c.loop-i.i in
    let here : agree_at s at word ≡ at + i =
    elim c.then-s-at.branch [
      | then-s-at-via-then-s-at w ↦ c.loop-i.invariant.1 ∙ agree-short s (at + i) _ w.if-s-at.true
      | then-s-at-via-else-s-at+then-s-at-2 w ↦ c.loop-i.invariant.1
          ∙ agree-other s (at + i) word i w.if-s-at.false c.loop-i-test.true w.if-s-at-2.true
    ] in
    word-part s at word (at + i) here (omega arith)

pub loop-i-preserved : goal.loop-i-preserved
loop-i-preserved c =
    let further : c.args.at + (c.loop-i.i + 1) ≡ c.args.at + c.loop-i.i + 1 = omega arith in (
      search rules,
      rw further (c.loop-i.invariant.1 ∙ agree-more c.args.s.now (c.args.at + c.loop-i.i) c.args.word.now c.loop-i.i
          c.if-s-at.false c.loop-i-test.true c.if-s-at-2.false),
    )

pub returns : goal.returns
returns c =
    let word = c.args.word.now in
    let at-end : c.loop-i.i ≡ length word = omega arith in
    word-whole c.args.s.now c.args.at word
    (c.loop-i.invariant.1 ∙ agree-end _ word _ c.loop-i.i (omega arith) ∙ ap (λ i. c.args.at + i) at-end)
