-- Texts with their answers, computed: a table under one statement about the definition of reading.
use Prim.Native.Nat.{ℕ}
use Prim.Native.String.{String}
use mathlib.Core.Path.{◌≡◌, refl}
use mathlib.Core.List.{List, [], ◌∷◌, map}
use Rattle.forms.specs.Bytes.{bytes}
use Rattle.forms.specs.Forms.{Form, platform_form, tasks_form, ticks_form}
use Rattle.forms.specs.Reads.{Answer, found, refused}
use Rattle.forms.specs.Reader.{run, grow, step, rows_at, read}

pub record Case : Type 0 where
  pub form : Form
  pub given : String
  pub answer : Answer (List (List ℕ))

pub case : Form → String → Answer (List (List ℕ)) → Case
case form given answer = record { form = form; given = given; answer = answer }

pub cases : List Case
cases =
    case platform_form "cores,partitions\r\n2,4\r\n" (found ((2 ∷ 4 ∷ []) ∷ []))
    ∷ case platform_form "" (refused 0)
    ∷ case platform_form "cores,partitions\r\n" (refused 18)
    -- cut short, a second row, a lone LF, a lone CR
    ∷ case platform_form "cores,partitions\r\n2,4" (refused 21)
    ∷ case platform_form "cores,partitions\r\n2,4\r" (refused 22)
    ∷ case platform_form "cores,partitions\r\n2,4\r\n3,4\r\n" (refused 23)
    ∷ case platform_form "cores,partitions\n2,4\r\n" (refused 16)
    ∷ case platform_form "cores,partitions\r\n2,4\n" (refused 21)
    ∷ case platform_form "cores,partitions\r\n2,4\r3" (refused 22)
    -- the largest number, one more, a digit more
    ∷ case platform_form "cores,partitions\r\n4294967295,0\r\n" (found ((4294967295 ∷ 0 ∷ []) ∷ []))
    ∷ case platform_form "cores,partitions\r\n4294967296,0\r\n" (refused 27)
    ∷ case platform_form "cores,partitions\r\n42949672950,0\r\n" (refused 28)
    -- a leading zero, a sign, a space, a quote, no number
    ∷ case platform_form "cores,partitions\r\n01,4\r\n" (refused 19)
    ∷ case platform_form "cores,partitions\r\n-1,4\r\n" (refused 18)
    ∷ case platform_form "cores,partitions\r\n2, 4\r\n" (refused 20)
    ∷ case platform_form "cores,partitions\r\n\"2\",4\r\n" (refused 18)
    ∷ case platform_form "cores,partitions\r\n,4\r\n" (refused 18)
    -- too few columns, too many
    ∷ case platform_form "cores,partitions\r\n2\r\n" (refused 19)
    ∷ case platform_form "cores,partitions\r\n2,4,6\r\n" (refused 21)
    ∷ case tasks_form "D,T,C,A\r\n" (found [])
    ∷ case tasks_form "D,T,C,A\r\n40,50,2,1\r\n60,60,3,2\r\n"
    (found ((40 ∷ 50 ∷ 2 ∷ 1 ∷ []) ∷ (60 ∷ 60 ∷ 3 ∷ 2 ∷ []) ∷ []))
    -- another header, no line's end, a blank line, a number that nothing ends
    ∷ case tasks_form "d,T,C,A\r\n" (refused 0)
    ∷ case tasks_form "D,T,C,A" (refused 7)
    ∷ case tasks_form "D,T,C,A\r\n40,50,2,1\r\n\r\n" (refused 20)
    ∷ case tasks_form "D,T,C,A\r\n40,50,2,1\r\n6" (refused 21)
    ∷ case ticks_form "released,finished\r\n15,0\r\n0,0\r\n" (found ((15 ∷ 0 ∷ []) ∷ (0 ∷ 0 ∷ []) ∷ []))
    ∷ case ticks_form "released,finished\r\n15,0\r\n0,0\r\n0" (refused 31)
    ∷ []

pub right : map (λ (c : Case). read c.form (bytes c.given)) cases ≡ map (λ (c : Case). c.answer) cases
unfolding cases case read run step grow rows_at
right = refl
