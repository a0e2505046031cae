-- The loop's invariant: what is left of the word, against what is left of the text, ends where the whole does.
use Rattle.std.proofs.Common.{◌+◌, ◌^◌, ◌<◌, ◌≡◌}
use lib.ListN.{drop}
use Rattle.readers.specs.Places.{agree_from, agree_at}
use Rattle.readers.proofs.word_at.Given as goal

abbrev pub invariant-loop-i : goal.invariant-loop-i
invariant-loop-i l = (l.at + l.i < 2 ^ 64)
    × (agree_at l.s l.at l.word ≡ agree_from (l.at + l.i) (drop l.i l.word) (drop (l.at + l.i) l.s))
