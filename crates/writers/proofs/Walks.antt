-- A text put bit by bit: on the way through it, what is put and what is left.
use Rattle.std.proofs.Common.{◌≡◌, ℕ, ◌+◌, ◌<◌, ◌≤◌, List, [], ◌++◌, length, Option, Some, None, refl, sym, ap, ◌∙◌}
use Rattle.std.proofs.Common.{arith, append_assoc, append-nil, length-append, leb, le-leb, cond, subst}
use Rattle.std.proofs.lemmas.Bool.{lt-leb}
use native.Mathlib.Decide.{dec_le}
use Rattle.writers.specs.Sinks.{SinkLaws, Took}

some_none : ◌≡◌ {A = Option (Unit {0})} (Some tt) None → ⊥
some_none e = cc

module _ {S : Type 0} {room : S → ℕ} {put : S → List ℕ → S} {s t : S} {text : List ℕ} where
  pub took_all : length text ≤ room s → t ≡ put s text → Took room put s text (Some tt) t
  took_all fits e = record { fits = rw (le-leb (length text) (room s) fits) refl; holds = λ _. e }

  pub took_none : {answer : Option Unit} → room s < length text → answer ≡ None → Took room put s text answer t
  took_none long is = record {
    fits = is ∙ rw (lt-leb (length text) (room s) long) refl;
    holds = λ e. absurd (some_none (sym e ∙ is));
  }

  pub took_fits : Took room put s text (Some tt) t → length text ≤ room s
  took_fits took = go (dec_le (length text) (room s))
    where
      go : Dec (length text ≤ room s) → length text ≤ room s
      go (yes l) = l
      go (no g) = absurd (some_none (took.fits ∙ rw (lt-leb (length text) (room s) (omega arith)) refl))

  pub took_long : Took room put s text None t → room s < length text
  took_long took = go (dec_le (length text) (room s))
    where
      go : Dec (length text ≤ room s) → room s < length text
      go (yes l) = absurd (some_none (sym (took.fits ∙ rw (le-leb (length text) (room s) l) refl)))
      go (no g) = omega arith

  -- where there is room
  pub took_fitting : {answer : Option Unit} → Took room put s text answer t → length text ≤ room s → t ≡ put s text
  took_fitting took fits = took.holds (took.fits ∙ rw (le-leb (length text) (room s) fits) refl)

pub record Walk {S : Type 0} (room : S → ℕ) (put : S → List ℕ → S) (before : S) (whole : List ℕ) (now : S)
    (rest : List ℕ) : Type 0 where
  pub done : List ℕ
  pub split : done ++ rest ≡ whole
  pub fits : length done ≤ room before
  pub is : now ≡ put before done

module _ {S : Type 0} {room : S → ℕ} {put : S → List ℕ → S} (laws : SinkLaws room put) where
  pub walk_start : {s : S} {whole rest : List ℕ} → whole ≡ rest → Walk room put s whole s rest
  walk_start {s} e = record { done = []; split = sym e; fits = omega arith; is = sym (laws.none s) }

  module _ {before now : S} {whole rest : List ℕ} (w : Walk room put before whole now rest) where
    less : room now + length w.done ≡ room before
    less = subst (λ s. room s + length w.done ≡ room before) (sym w.is) (laws.less before w.done w.fits)

    pub walk_more : (x more : List ℕ) {after : S} → rest ≡ x ++ more → Took room put now x (Some tt) after
        → Walk room put before whole after more
    walk_more x more e took = record {
      done = w.done ++ x;
      split = append_assoc w.done x more ∙ ap (λ l. w.done ++ l) (sym e) ∙ w.split;
      fits = let l = less in let f = took_fits took in omega (arith, length-append w.done x);
      is = took.holds refl ∙ ap (λ s. put s x) w.is ∙ laws.behind before w.done x;
    }

    -- too little room for what comes next is too little for the whole
    pub walk_stop : (x more : List ℕ) {after : S} {answer : Option Unit} → rest ≡ x ++ more
        → Took room put now x None after → answer ≡ None → Took room put before whole answer after
    walk_stop x more e took =
        let l = less in
        let long = took_long took in
        let sizes : length w.done + (length x + length more) ≡ length whole =
        ap (λ n. length w.done + n) (sym (ap length e ∙ length-append x more)) ∙ sym (length-append w.done rest)
        ∙ ap length w.split in
        took_none (omega arith)

    pub walk_end : rest ≡ [] → Took room put before whole (Some tt) now
    walk_end e =
        let all : w.done ≡ whole = sym (append-nil w.done) ∙ ap (λ l. w.done ++ l) (sym e) ∙ w.split in
        took_all (let f = w.fits in omega (arith, ap length all)) (w.is ∙ ap (put before) all)

    -- what comes last decides
    pub walk_last : {after : S} {answer : Option Unit} → Took room put now rest answer after
        → Took room put before whole answer after
    walk_last {after} {answer} took =
        record {
          fits = took.fits ∙ ap (λ b. cond b (Some tt) None) same;
          holds = λ e.
              took.holds e ∙ ap (λ s. put s rest) w.is ∙ laws.behind before w.done rest ∙ ap (put before) w.split;
        }
      where
        sizes : length w.done + length rest ≡ length whole
        sizes = sym (length-append w.done rest) ∙ ap length w.split

        same : leb (length rest) (room now) ≡ leb (length whole) (room before)
        same = go (dec_le (length rest) (room now))
          where
            go : Dec (length rest ≤ room now) → leb (length rest) (room now) ≡ leb (length whole) (room before)
            go (yes h) =
                let l = less in let s = sizes in
                le-leb (length rest) (room now) h ∙ sym (le-leb (length whole) (room before) (omega arith))
            go (no g) =
                let l = less in let s = sizes in
                lt-leb (length rest) (room now) (omega arith) ∙ sym (lt-leb (length whole) (room before) (omega arith))

  -- a text's first words
  module _ {s : S} {whole : List ℕ} (x more : List ℕ) {after : S} (e : whole ≡ x ++ more) where
    pub walk_head : Took room put s x (Some tt) after → Walk room put s whole after more
    walk_head took = walk_more (walk_start refl) x more e took

    pub walk_halt : {answer : Option Unit} → Took room put s x None after → answer ≡ None
        → Took room put s whole answer after
    walk_halt took = walk_stop (walk_start refl) x more e took
