-- A reader of a form reads each good text of it to the end, and has from each of its states a way on to the end of some
-- text.
use Prim.Native.Nat.{ℕ, zero, suc, ◌+◌, ◌*◌, ◌/◌, ◌%◌, ◌<◌, ◌≤◌, zero-le}
use mathlib.Core.Path.{◌≡◌, refl, sym, ap, ◌∙◌}
use mathlib.Core.Bool.{Bool, true, false}
use mathlib.Core.List.{List, [], ◌∷◌, ◌++◌, append_assoc, append-nil}
use mathlib.Core.Option.{Option, none, some}
use native.Mathlib.Omega.{arith}
use native.Mathlib.Decide.{dec_lt}
use borrow.Author.Tests.{eq-eqb}
use lib.ListN.{length, length-append}
use Rattle.forms.specs.Digits.{digit, digits}
use Rattle.forms.specs.Forms
use Rattle.forms.specs.Forms.{Form, columns, Within, EachRow, GoodRows, crlf, ending, line, lines, text}
use Rattle.forms.specs.Reads.{found, refused, Begins}
use Rattle.forms.specs.Reader.{run, grow, State, word, cell, may_begin, may_end, step, rows_at, read}
use Rattle.forms.proofs.Digits.{one-digit, add_digit}
use Rattle.forms.proofs.Grow.{grow_first, grow-more}
use Rattle.forms.proofs.Runs.{Takes, found-on}

may_begin_lem : (b : Bool) (rows : List (List ℕ)) → (b ≡ true → length rows ≡ 0) → may_begin b rows ≡ true
may_begin_lem true [] h = refl
may_begin_lem true (row ∷ rows) h = absurd (no (h refl))
  where
    no : suc (length rows) ≡ 0 → ⊥
    no e = omega arith
may_begin_lem false rows h = refl

may_end_lem : (b : Bool) (rows : List (List ℕ)) → (b ≡ true → 0 < length rows) → may_end b rows ≡ true
may_end_lem true [] h = absurd (no (h refl))
  where
    no : 0 < 0 → ⊥
    no e = omega arith
may_end_lem true (row ∷ rows) h = refl
may_end_lem false rows h = refl

module _ (F : Form) where
  abbrev To : State → List ℕ → List (List ℕ) → Type 0
  To s bytes rows = run (step F) (rows_at F) s bytes ≡ found rows

  step-word : (rows : List (List ℕ)) (b : ℕ) (w : List ℕ) → step F (word rows (b ∷ w)) b ≡ some (word rows w)
  unfolding step
  step-word rows b w = rw (eq-eqb b b refl)

  pub word-to : (rows : List (List ℕ)) (w rest : List ℕ) (a : List (List ℕ)) → To (word rows []) rest a
      → To (word rows w) (w ++ rest) a
  word-to rows [] rest a h = h
  word-to rows (b ∷ w) rest a h =
      found-on (step F) (rows_at F) _ _ b (w ++ rest) a (step-word rows b w) (word-to rows w rest a h)

  module _ (rows : List (List ℕ)) where
    step-digit : (ns : List ℕ) (m : ℕ) (cs : List ℕ) (v : Option ℕ) (c w : ℕ) → grow m v c ≡ some w
        → step F (cell rows ns m cs v) c ≡ some (cell rows ns m cs (some w))
    unfolding step
    step-digit ns m cs v c w e = rw e

    digits-to : (k v : ℕ) → v < k → (ns : List ℕ) (m : ℕ) (cs rest : List ℕ) (a : List (List ℕ)) → v ≤ m
        → To (cell rows ns m cs (some v)) rest a → To (cell rows ns m cs none) (digits v ++ rest) a
    digits-to zero v l ns m cs rest a f h = absurd (no l)
      where
        no : v < 0 → ⊥
        no h = omega arith
    digits-to (suc k) v l ns m cs rest a f h = go (dec_lt v 10) (digits-to k (v / 10))
      where
        go : Dec (v < 10)
            → (v / 10 < k → (ns : List ℕ) (m : ℕ) (cs rest : List ℕ) (a : List (List ℕ)) → v / 10 ≤ m
            → To (cell rows ns m cs (some (v / 10))) rest a → To (cell rows ns m cs none) (digits (v / 10) ++ rest) a)
            → To (cell rows ns m cs none) (digits v ++ rest) a
        go (yes lt) ih =
            rw (one-digit v lt)
            (found-on (step F) (rows_at F) _ _ (digit v) rest a
            (step-digit ns m cs none (digit v) v (grow_first m v lt f)) h)
        go (no ge) ih =
            let e : 10 * (v / 10) + v % 10 ≡ v = omega arith in
            let d : digits v ≡ digits (v / 10) ++ (digit (v % 10) ∷ []) =
            ap digits (sym e) ∙ add_digit (v / 10) (v % 10) (omega arith) (omega arith) in
            rw (d, append_assoc)
            (ih (omega arith) ns m cs (digit (v % 10) ∷ rest) a (omega arith)
            (found-on (step F) (rows_at F) _ _ (digit (v % 10)) rest a
            (step-digit ns m cs (some (v / 10)) (digit (v % 10)) v
            (rw (grow-more m (v / 10) (v % 10) (omega arith) (omega arith) (omega arith)) (ap some e))) h))

    step-comma : (ns : List ℕ) (m v n : ℕ) (cs : List ℕ)
        → step F (cell rows ns m (n ∷ cs) (some v)) 44 ≡ some (cell rows (ns ++ (v ∷ [])) n cs none)
    unfolding step grow
    step-comma ns m v n cs = refl

    step-cr : (ns : List ℕ) (m v : ℕ)
        → step F (cell rows ns m [] (some v)) 13 ≡ some (word (rows ++ ((ns ++ (v ∷ [])) ∷ [])) (10 ∷ []))
    unfolding step grow
    step-cr ns m v = refl

    -- from behind a number to the end of its row
    after-to : (ns : List ℕ) (m v : ℕ) (cs vs rest : List ℕ) (a : List (List ℕ)) → Within cs vs
        → To (word (rows ++ ((ns ++ (v ∷ vs)) ∷ [])) []) rest a
        → To (cell rows ns m cs (some v)) (ending (length vs) ++ line vs ++ rest) a
    unfolding line
    after-to ns m v cs vs rest a Forms.none h =
        found-on (step F) (rows_at F) _ _ 13 _ a (step-cr ns m v)
        (found-on (step F) (rows_at F) _ _ 10 _ a (step-word _ 10 []) h)
    after-to ns m v cs vs rest a (Forms.also {m = n} {n = u} {ms = cs'} {ns = us} f w) h =
        found-on (step F) (rows_at F) _ _ 44 _ a (step-comma ns m v n cs')
        (rw append_assoc
        (digits-to (suc u) u (omega arith) (ns ++ (v ∷ [])) n cs' _ a f
        (after-to (ns ++ (v ∷ [])) n u cs' us rest a w (rw append_assoc h))))

    row-to : (vs rest : List ℕ) (a : List (List ℕ)) → Within (columns F) vs
        → To (word (rows ++ (vs ∷ [])) []) rest a → To (cell rows [] F.first F.others none) (line vs ++ rest) a
    unfolding line
    row-to vs rest a (Forms.also {n = v} {ns = us} f w) h =
        rw append_assoc
        (digits-to (suc v) v (omega arith) [] F.first F.others _ a f
        (after-to [] F.first v F.others us rest a w h))

    end-to : (F.one ≡ true → 0 < length rows) → To (word rows []) [] rows
    unfolding run rows_at
    end-to h = rw (may_end_lem F.one rows h)

    step_begin : (c : ℕ) → (F.one ≡ true → length rows ≡ 0)
        → step F (word rows []) c ≡ step F (cell rows [] F.first F.others none) c
    unfolding step
    step_begin c h = rw (may_begin_lem F.one rows h)

    begin_to : (rest : List ℕ) (a : List (List ℕ)) → (F.one ≡ true → length rows ≡ 0)
        → To (cell rows [] F.first F.others none) rest a → To (word rows []) rest a
    unfolding run rows_at
    begin_to [] a h e = absurd (no e)
      where
        no : refused 0 ≡ found a → ⊥
        no e = let z : ◌≡◌ {A = ℕ} 0 1 = cc in omega arith
    begin_to (c ∷ rest) a h e = rw (step_begin c h, run) e

  snoc_length : (rows : List (List ℕ)) (row : List ℕ) → length (rows ++ (row ∷ [])) ≡ suc (length rows)
  snoc_length rows row = simp length-append (omega arith)

  rows-to : (rows more : List (List ℕ)) → EachRow (columns F) more → (F.one ≡ true → length rows + length more ≡ 1)
      → To (word rows []) (lines more) (rows ++ more)
  unfolding lines
  rows-to rows more Forms.none h = rw append-nil (end-to rows (λ e. let s = h e in omega arith))
  rows-to rows more (Forms.also {row} {rows = rest} w each) h =
      begin_to rows _ _ (λ e. let s = h e in omega arith)
      (row-to rows row (lines rest) _ w
      (rw append_assoc at
      (rows-to (rows ++ (row ∷ [])) rest each (λ e. let s = h e in omega (arith, snoc_length rows row)))))

  -- reading what was written gives it back
  pub complete : (rows : List (List ℕ)) → GoodRows F rows → read F (text F rows) ≡ found rows
  unfolding read text
  complete rows good =
      rw (← append_assoc)
      (word-to [] (F.header ++ crlf) (lines rows) rows
      (rows-to [] rows good.each (λ e. let s = good.alone e in omega arith)))

  -- a row of zeros is good in every form
  zeros : List ℕ → List ℕ
  zeros [] = []
  zeros (m ∷ ms) = 0 ∷ zeros ms

  zeros_within : (ms : List ℕ) → Within ms (zeros ms)
  unfolding zeros
  zeros_within [] = Forms.none
  zeros_within (m ∷ ms) = Forms.also zero-le (zeros_within ms)

  ended_to : (rows : List (List ℕ)) (row : List ℕ) → To (word (rows ++ (row ∷ [])) []) [] (rows ++ (row ∷ []))
  ended_to rows row = end-to (rows ++ (row ∷ [])) (λ e. omega (arith, snoc_length rows row))

  live-word : (b : Bool) → F.one ≡ b → (rows : List (List ℕ)) → Begins (Takes (step F) (rows_at F) (word rows [])) []
  live-word false e rows = ([], (rows, end-to rows (λ o. let z : ◌≡◌ {A = ℕ} 0 1 = cc in omega arith)))
  live-word true e (row ∷ rows) = ([], (row ∷ rows, end-to (row ∷ rows) (λ o. omega arith)))
  live-word true e [] =
      let row = zeros (columns F) in (
        line row ++ [],
        (row ∷ [], begin_to [] _ _ (λ o. refl) (row-to [] row [] _ (zeros_within (columns F)) (ended_to [] row))),
      )

  pub live : (s : State) → Begins (Takes (step F) (rows_at F) s) []
  live (word rows w) =
      let on = live-word F.one refl rows in
      (w ++ on.0, (on.1.0, word-to rows w on.0 on.1.0 on.1.1))
  live (cell rows ns m cs none) = (
    digits 0 ++ (ending (length (zeros cs)) ++ line (zeros cs) ++ []),
    (
      _,
      digits-to rows 1 0 (omega arith) ns m cs _ _ (omega arith)
          (after-to rows ns m 0 cs (zeros cs) [] _ (zeros_within cs) (ended_to rows _)),
    ),
  )
  live (cell rows ns m cs (some v)) = (
    ending (length (zeros cs)) ++ line (zeros cs) ++ [],
    (_, after-to rows ns m v cs (zeros cs) [] _ (zeros_within cs) (ended_to rows _)),
  )
