-- That reading is right, for every form and every list of bytes (document 01, "Texts"): proved in proofs/Theorem.antt.
use Rattle.std.specs.Prelude.{ℕ, ◌≡◌, List}
use Rattle.forms.specs.Forms.{Form, GoodRows, text}
use Rattle.forms.specs.Reads.{Answer, found, Reads}
use Rattle.forms.specs.Reader.{read}

pub record ReadsRightly : Type 0 where
  -- the rows whose good text it is, or refusal 15 with the right offset
  pub reads : (F : Form) (bytes : List ℕ) → Reads F bytes (read F bytes)
  -- no other answer is right
  pub only : (F : Form) (bytes : List ℕ) (x : Answer (List (List ℕ))) → Reads F bytes x → x ≡ read F bytes
  -- what is written of good rows is read back as these rows
  pub back : (F : Form) (rows : List (List ℕ)) → GoodRows F rows → read F (text F rows) ≡ found rows
