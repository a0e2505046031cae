-- How long the listings are: a refusal carries small numbers, and so does a good table's margin.
use Prim.Native.Nat.{ℕ, zero, suc, ◌+◌, ◌*◌, ◌^◌, ◌<◌, ◌≤◌, suc-le-suc}
use mathlib.Core.Path.{◌≡◌, refl, ap}
use mathlib.Core.Bool.{Bool, true, false, cond}
use mathlib.Core.List.{List, [], ◌∷◌, ◌++◌}
use native.Mathlib.Omega.{arith}
use borrow.Author.Tests.{leb-true, le-leb, eqb-true}
use lib.Dec.{leb}
use lib.IntN.{ℤ, pos, negsuc}
use lib.Signed.{mag}
use lib.ListN.{length, get_or, take, length-append, length-take}
use lib.Seq.{get_or-take}
use Rattle.std.specs.Prelude.{Option, None, Some}
use Rattle.maths.specs.Tasks.{tabulate}
use Rattle.maths.proofs.Signed.{sub-mag}
use Rattle.maths.proofs.Sums.{sum_const, sum_mono}
use Rattle.maths.proofs.Tasks.{length-tabulate, get_d_tabulate}
use Rattle.maths.proofs.Padded.{length-padded}
use Rattle.forms.specs.Digits.{digits, digits_in}
use Rattle.forms.specs.Forms.{Form, none, also, line, ending, platform_form, tasks_form}
use Rattle.forms.specs.Reads.{Answer, found, refused}
use Rattle.forms.specs.Reader.{read}
use Rattle.forms.proofs.Digits.{width_one, width_most}
use Rattle.forms.proofs.Sizes.{line-most}
use Rattle.forms.proofs.Theorem.{reads}
use Rattle.table.specs.declared.Table.{Table}
use Rattle.table.specs.declared.Refusal.{Refusal}
use Rattle.table.specs.Limits.{most_tasks}
use Rattle.table.specs.Refused.{refusal, unrefused}
use Rattle.table.specs.Tasks.{no_task}
use Rattle.table.specs.Good.{Good}
use Rattle.table.proofs.Good.{good_of}
use Rattle.table.proofs.Refusals.{refusal_carries}
use Rattle.admission.specs.Test.{interference, weight, load, limit, less, margin, admitted, first_failing}
use Rattle.admission.specs.Answers.{margins, full_answer}
use Rattle.admission.proofs.Bounds.{most_term, row-good, term_le, B-le, S-le, limit-small}
use Rattle.readers.specs.Inputs.{bad_text}
use Rattle.writers.specs.Signed.{margin_of, sign, margin_row}
use Rattle.writers.specs.Outputs.{refused_text, margin_lines, margins_text}
use Rattle.writers.proofs.Wholes.{one-listing}
use Rattle.texts.specs.Given.{given, told, longest, taken, listed}
use Rattle.texts.specs.Admit.{answer_text, judged, admit_text, admit_most, AdmitFits}

-- a number of two digits, and the largest offset
refused-line : length (line (99 ∷ longest ∷ [])) ≡ 10
unfolding line digits digits_in
refused-line = refl

pub refused-most : (r : Refusal) → r.number ≤ 99 → r.row ≤ longest → length (refused_text r) ≤ 23
refused-most r h g =
    let row = line-most (also h (also g none)) in
    let size = ap length (one-listing "refused,row" (r.number ∷ r.row ∷ [])) in
    omega (arith, refused-line, simp length-append at size)

-- an offset lies in a text that is taken
pub offset-most : (F : Form) (text : Option (List ℕ)) (k : ℕ) → taken F text ≡ refused k → k ≤ longest
unfolding taken
offset-most F None k e = let z : k ≡ 0 = cc in omega arith
offset-most F (Some bytes) k e = go (leb (length bytes) longest) refl e
  where
    within : read F bytes ≡ refused k → k ≤ length bytes
    within f = (rw f at (reads F bytes)).offset.inside

    go : (b : Bool) → leb (length bytes) longest ≡ b → cond b (read F bytes) (refused 0) ≡ refused k → k ≤ longest
    go true t f = omega (arith, within f, leb-true (length bytes) longest t)
    go false t f = let z : k ≡ 0 = cc in omega arith

pub bad-most : (F : Form) (text : Option (List ℕ)) (k : ℕ) → taken F text ≡ refused k
    → length (refused_text (bad_text k)) ≤ 23
bad-most F text k e = refused-most (bad_text k) (omega arith) (offset-most F text k e)

pub table-most : (t : Table) → length t.rows ≡ most_tasks → length (refused_text (refusal t)) ≤ 23
table-most t len = let c = refusal_carries t len in
    refused-most (refusal t) (omega (arith, c.number)) (omega (arith, c.row))

-- a row of the margins
sign-most : (b : Bool) → length (sign b) ≤ 1
sign-most true = omega arith
sign-most false = omega arith

cells-most : (k size pass : ℕ) (below : Bool) → k < 100 → size < 10 ^ 19 → pass < 10
    → length (digits k ++ ending 2 ++ (sign below ++ (digits size ++ ending 1 ++ (digits pass ++ ending 0)))) ≤ 27
cells-most k size pass below h g f =
    simp length-append
    (omega (arith, width_most 1 k (omega arith), sign-most below, width_most 18 size g, width_one pass f))

margin-most : (k : ℕ) (z : ℤ) → k < 100 → mag z < 2 ^ 63 → length (margin_row k (margin_of z)) ≤ 27
unfolding margin_row
margin-most k (negsuc n) h s = cells-most k (suc n) 0 true h (omega arith) (omega arith)
margin-most k (pos zero) h s = cells-most k 0 0 false h (omega arith) (omega arith)
margin-most k (pos (suc n)) h s = cells-most k (suc n) 1 false h (omega arith) (omega arith)

lines-most : (k : ℕ) (zs : List ℤ) → k + length zs ≤ 100
    → ((i : ℕ) → i < length zs → mag (get_or zs i (pos 0)) < 2 ^ 63)
    → length (margin_lines k zs) ≤ 27 * length zs
unfolding margin_lines
lines-most k [] h small = omega arith
lines-most k (z ∷ zs) h small =
    let first = margin-most k z (omega arith) (small 0 (omega arith)) in
    let rest = lines-most (suc k) zs (omega arith) (λ i l. small (suc i) (suc-le-suc l)) in
    simp length-append (omega arith)

module _ (t : Table) (g : Good t) where
  load-small : (i : ℕ) → i < t.n → load t (suc i) < 2 ^ 62
  unfolding load interference
  load-small i l =
      let few = g.sizes.few in
      omega (
        arith,
        sum_const most_term t.n,
        sum_mono (λ j. weight t (suc i) (suc j) * interference t (suc i) (suc j)) (λ j. most_term) t.n
            (λ j h. term_le (row-good g j h) g.sizes.cores (B-le g i l) (S-le g i l)),
      )

  margin-fits : (i : ℕ) → i < t.n → mag (margin t (suc i)) < 2 ^ 63
  unfolding less
  margin-fits i l = sub-mag (limit t (suc i)) (load t (suc i)) (limit-small g i l) (load-small i l)

  held_fits : (i : ℕ) → i < length (take t.n (margins t)) → mag (get_or (take t.n (margins t)) i (pos 0)) < 2 ^ 63
  held_fits i l =
      let f : ℕ → ℤ = λ k. cond (leb k t.n) (margin t k) (pos 0) in
      let few = g.sizes.few in
      let size = length-take t.n (margins t) in
      let all = length-tabulate f most_tasks in
      let less : i < t.n = omega arith in
      rw (
        get_or-take t.n (margins t) i (pos 0) less,
        get_d_tabulate f most_tasks i (pos 0) (omega arith),
        le-leb (suc i) t.n less,
      ) (margin-fits i less)

  margins-most : length (margins_text t.n (margins t)) ≤ admit_most
  unfolding margins_text
  margins-most =
      let few = g.sizes.few in
      let size = length-take t.n (margins t) in
      let all = length-tabulate (λ k. cond (leb k t.n) (margin t k) (pos 0)) most_tasks in
      simp length-append (omega (arith, lines-most 1 (take t.n (margins t)) (omega arith) held_fits))

judged-most : (t : Table) → length t.rows ≡ most_tasks → length (judged t) ≤ admit_most
unfolding full_answer
judged-most t len = go (unrefused t) refl
  where
    go : (b : Bool) → unrefused t ≡ b
        → length (answer_text t.n
        (cond b
        (record { refused = refusal t; admitted = admitted t; first = first_failing t; margins = margins t })
        (record { refused = refusal t; admitted = false; first = 0; margins = tabulate most_tasks (λ k. pos 0) })))
        ≤ admit_most
    go true e = rw e (margins-most t (good_of t len (eqb-true _ _ e)))
    go false e = rw e (omega (arith, table-most t len))

-- what a program lists has room where every table's listing has
pub listed-most : (text : Table → List ℕ) (most : ℕ) → 23 ≤ most
    → ((t : Table) → length t.rows ≡ most_tasks → length (text t) ≤ most)
    → (platform tasks : Option (List ℕ)) → length (listed text platform tasks) ≤ most
listed-most text most least each p t = go (taken platform_form p) refl (taken tasks_form t) refl
  where
    go : (x : Answer (List (List ℕ))) → taken platform_form p ≡ x → (y : Answer (List (List ℕ)))
        → taken tasks_form t ≡ y → length (told refused_text text (given x y)) ≤ most
    go (refused k) e y f = omega (arith, bad-most platform_form p k e)
    go (found rows) e (refused k) f = omega (arith, bad-most tasks_form t k f)
    go (found rows) e (found more) f = each _ (length-padded no_task most_tasks _)

pub admit-fits : AdmitFits
unfolding admit_text
admit-fits = listed-most judged admit_most (omega arith) judged-most
