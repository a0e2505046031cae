-- Lists that stand for arrays.
use Prim.Native.Nat.{ℕ, ◌+◌, ◌<◌, ◌≤◌}
use mathlib.Core.Path.{◌≡◌, sym, ◌∙◌}
use mathlib.Core.List.{List, ◌∷◌, map}
use native.Mathlib.Numerals.{add-one}
use native.Mathlib.Omega.{arith}
use lib.ListN.{length, take, drop, get_or, length-take, length-map}
use lib.Seq.{drop-cons, get_or-take}

-- an array of structs in a struct: what owning it tells stands at the list mapped to the machine's data
pub len_mapped : (X Y : Type 0) (f : X → Y) (l : List X) (n : ℕ) → length (map f l) ≡ n → length l ≡ n
len_mapped X Y f l n h = sym (length-map l f) ∙ h

-- the i-th of the first n elements, and what comes after it
pub front : {X : Type 0} (d : X) (n : ℕ) (l : List X) (i : ℕ) → i < n → n ≤ length l
    → drop i (take n l) ≡ get_or l i d ∷ drop (i + 1) (take n l)
front d n l i lt fits =
    let h : i < length (take n l) = simp length-take (omega arith) in
    drop-cons (take n l) i d h ∙ rw (get_or-take n l i d lt, add-one)
