-- What a reader of a form reads to the end is the good text of the rows that it answers: in each state, the bytes that
-- have come are the beginning of a good text that the state says they are.
use Prim.Native.Nat.{ℕ, ◌<◌, ◌≤◌, zero-le}
use mathlib.Core.Path.{◌≡◌, refl, sym, ◌∙◌}
use mathlib.Core.Bool.{Bool, true, false, cond}
use mathlib.Core.List.{List, [], ◌∷◌, ◌++◌, append_assoc, append-nil}
use mathlib.Core.Option.{Option, none, some}
use native.Mathlib.Omega.{arith}
use borrow.Author.Tests.{eqb-true}
use lib.Dec.{eqb}
use lib.ListN.{length, length-append}
use Rattle.forms.specs.Forms
use Rattle.forms.specs.Forms.{Form, columns, Within, EachRow, GoodRows, lines, text}
use Rattle.forms.specs.Reads.{Answer, found, refused}
use Rattle.forms.specs.Reader.{run, later, ended, keep, grow, State, word, cell, leave, inside, may_begin, may_end}
use Rattle.forms.specs.Reader.{step, rows_at, start}
use Rattle.forms.proofs.Lines.{cells, part, bound, within_snoc, each_snoc, line_snoc, cells_snoc, text_snoc}
use Rattle.forms.proofs.Grow.{GrownIf, grown}
use Rattle.forms.proofs.Runs.{stuck, moves}

module _ (F : Form) where
  pub record AtWord (rows : List (List ℕ)) (w bytes : List ℕ) : Type 0 where
    spelt : bytes ++ w ≡ text F rows
    each : EachRow (columns F) rows
    alone : F.one ≡ true → length rows ≤ 1

  pub record AtCell (rows : List (List ℕ)) (ns : List ℕ) (m : ℕ) (cs : List ℕ) (v : Option ℕ)
      (bytes : List ℕ) : Type 0 where
    spelt : bytes ≡ text F rows ++ (cells ns ++ part v)
    each : EachRow (columns F) rows
    alone : F.one ≡ true → length rows ≡ 0
    -- the columns of the numbers that have come
    past : List ℕ
    split : past ++ (m ∷ cs) ≡ columns F
    within : Within past ns
    fits : bound v ≤ m

  abbrev pub At : State → List ℕ → Type 0
  At (word rows w) bytes = AtWord rows w bytes
  At (cell rows ns m cs v) bytes = AtCell rows ns m cs v bytes

  abbrev AtIf : Option State → List ℕ → Type 0
  AtIf none bytes = Unit {0}
  AtIf (some s) bytes = At s bytes

  at-keep : (b : Bool) (s : State) (bytes : List ℕ) → (b ≡ true → At s bytes) → AtIf (keep b s) bytes
  at-keep true s bytes h = h refl
  at-keep false s bytes h = tt

  at-leave : (rows : List (List ℕ)) (ns : List ℕ) (m : ℕ) (cs : List ℕ) (v : ℕ) (bytes : List ℕ) (c : ℕ)
      → AtCell rows ns m cs (some v) bytes → AtIf (leave rows (ns ++ (v ∷ [])) cs c) (bytes ++ (c ∷ []))
  at-leave rows ns m [] v bytes c h = at-keep (eqb c 13) _ _ λ e.
      record {
        spelt = simp (h.spelt, eqb-true c 13 e, text_snoc, line_snoc, append_assoc);
        each = each_snoc h.each (rw h.split at (within_snoc h.within h.fits));
        alone = λ o. let z = h.alone o in simp length-append (omega arith);
      }
  at-leave rows ns m (n ∷ cs) v bytes c h = at-keep (eqb c 44) _ _ λ e.
      record {
        spelt = simp (h.spelt, eqb-true c 44 e, cells_snoc, append_assoc, append-nil);
        each = h.each;
        alone = h.alone;
        past = h.past ++ (m ∷ []);
        split = append_assoc h.past (m ∷ []) (n ∷ cs) ∙ h.split;
        within = within_snoc h.within h.fits;
        fits = zero-le;
      }

  at-inside : (rows : List (List ℕ)) (ns : List ℕ) (m : ℕ) (cs : List ℕ) (v : Option ℕ)
      (bytes : List ℕ) (c : ℕ) (w : Option ℕ)
      → GrownIf m v c w → AtCell rows ns m cs v bytes → AtIf (inside rows ns m cs v c w) (bytes ++ (c ∷ []))
  at-inside rows ns m cs v bytes c (some w) g h =
      record {
        spelt = simp (h.spelt, g.spelt, append_assoc);
        each = h.each;
        alone = h.alone;
        past = h.past;
        split = h.split;
        within = h.within;
        fits = g.fits;
      }
  at-inside rows ns m cs none bytes c none g h = tt
  at-inside rows ns m cs (some v) bytes c none g h = at-leave rows ns m cs v bytes c h

  may_begin_lem : (b : Bool) (rows : List (List ℕ)) → may_begin b rows ≡ true → b ≡ true → length rows ≡ 0
  may_begin_lem b [] e o = refl
  may_begin_lem true (row ∷ rows) e o = let z : ◌≡◌ {A = ℕ} 0 1 = cc in omega arith
  may_begin_lem false (row ∷ rows) e o = let z : ◌≡◌ {A = ℕ} 0 1 = cc in omega arith

  at-step : (s : State) (c : ℕ) (bytes : List ℕ) → At s bytes → AtIf (step F s c) (bytes ++ (c ∷ []))
  unfolding step cells
  at-step (word rows (b ∷ w)) c bytes h = at-keep (eqb c b) _ _ λ e.
      record { spelt = simp (eqb-true c b e, append_assoc) h.spelt; each = h.each; alone = h.alone }
  at-step (word rows []) c bytes h = go (may_begin F.one rows) refl
    where
      go : (b : Bool) → may_begin F.one rows ≡ b
          → AtIf (cond b (inside rows [] F.first F.others none c (grow F.first none c)) none)
          (bytes ++ (c ∷ []))
      go false e = tt
      go true e =
          at-inside rows [] F.first F.others none bytes c (grow F.first none c) (grown F.first none c)
          record {
            spelt = rw append-nil at h.spelt ∙ sym (append-nil (text F rows));
            each = h.each;
            alone = may_begin_lem F.one rows e;
            past = [];
            split = refl;
            within = Forms.none;
            fits = zero-le;
          }
  at-step (cell rows ns m cs v) c bytes h = at-inside rows ns m cs v bytes c (grow m v c) (grown m v c) h

  may_end_lem : (b : Bool) (rows : List (List ℕ)) → may_end b rows ≡ true → b ≡ true → 0 < length rows
  may_end_lem b (row ∷ rows) e o = omega arith
  may_end_lem true [] e o = let z : ◌≡◌ {A = ℕ} 0 1 = cc in omega arith
  may_end_lem false [] e o = let z : ◌≡◌ {A = ℕ} 0 1 = cc in omega arith

  abbrev pub Right : List ℕ → Answer (List (List ℕ)) → Type 0
  Right bytes (found rows) = GoodRows F rows × (text F rows ≡ bytes)
  Right bytes (refused k) = Unit {0}

  right-later : (bytes : List ℕ) (x : Answer (List (List ℕ))) → Right bytes x → Right bytes (later 1 x)
  right-later bytes (found rows) h = h
  right-later bytes (refused k) h = tt

  at-end : (s : State) (bytes : List ℕ) → At s bytes → Right bytes (ended (rows_at F s))
  unfolding rows_at
  at-end (word rows []) bytes h = go (may_end F.one rows) refl
    where
      go : (b : Bool) → may_end F.one rows ≡ b → Right bytes (ended (keep b rows))
      go false e = tt
      go true e = (
        record {
          each = h.each;
          alone = λ o. let least = may_end_lem F.one rows e o in let most = h.alone o in omega arith;
        },
        sym h.spelt ∙ append-nil bytes,
      )
  at-end (word rows (b ∷ w)) bytes h = tt
  at-end (cell rows ns m cs v) bytes h = tt

  pub sound : (s : State) (before bytes : List ℕ) → At s before
      → Right (before ++ bytes) (run (step F) (rows_at F) s bytes)
  unfolding run
  sound s before [] h = rw append-nil (at-end s before h)
  sound s before (c ∷ rest) h = go (step F s c) refl (at-step s c before h) (λ t. sound t (before ++ (c ∷ [])) rest)
    where
      go : (o : Option State) → step F s c ≡ o → AtIf o (before ++ (c ∷ []))
          → ((t : State) → At t (before ++ (c ∷ []))
          → Right (before ++ (c ∷ []) ++ rest) (run (step F) (rows_at F) t rest))
          → Right (before ++ (c ∷ rest)) (run (step F) (rows_at F) s (c ∷ rest))
      go none e i ih = rw (stuck (step F) (rows_at F) s c rest e) tt
      go (some t) e i ih = rw (moves (step F) (rows_at F) s t c rest e)
          (right-later (before ++ (c ∷ rest)) (run (step F) (rows_at F) t rest) (rw append_assoc at (ih t i)))

  pub at-start : At (start F) []
  unfolding text lines
  at-start = record { spelt = refl; each = Forms.none; alone = λ o. zero-le }
