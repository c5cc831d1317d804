-- A command's numbers as the operations take them (docs/ASK.md), and numbers listed to the end of a line.
-- Assumes nothing.
use Rattle.std.specs.Prelude.{None, Option, Some}
use Rattle.std.specs.Prelude.{ℕ, zero, suc, ◌+◌, List, leb, ℤ, length, drop, set, get_or}
use Rattle.numbers.specs.Sign.{up_from}
use Rattle.asking.specs.declared.values.Word.{Word}
use Rattle.asking.specs.declared.words.Value.{Value}
use Rattle.asking.specs.declared.numbered.Numbers.{Numbers}
use Rattle.asking.specs.declared.numbered.Listed.{Listed}
use Rattle.asking.specs.Numbers.{number_at}
use Rattle.asking.specs.Asked.{no_value}

-- each of the five as it is given, or as one from 0 on; and whether each of the first three is marked
abbrev pub numbers_of : List Value → Numbers
numbers_of v = record {
  up1 = up_from (get_or v 0 no_value).number;
  n2 = (get_or v 1 no_value).number;
  up2 = up_from (get_or v 1 no_value).number;
  n3 = (get_or v 2 no_value).number;
  up3 = up_from (get_or v 2 no_value).number;
  n4 = (get_or v 3 no_value).number;
  up4 = up_from (get_or v 3 no_value).number;
  up5 = up_from (get_or v 4 no_value).number;
  at1 = (get_or v 0 no_value).marked;
  at2 = (get_or v 1 no_value).marked;
  at3 = (get_or v 2 no_value).marked;
}

-- ---- a list of numbers
-- the list, and the answer: whether the line has ended, and how many numbers were put into the list
pub record Listing (A : Type 0) : Type 0 where
  pub list : List A
  pub listed : Listed

abbrev pub listing : (line : List ℕ) (at n : ℕ) (list : List ℕ) → Listing ℕ
listing line at n list = record { list = list; listed = record { all = leb (length line) at; count = n } }

abbrev pub list_then : {A : Type 0} → Option Word → (ℤ → ℕ → Listing A) → Listing A → Listing A
list_then (Some w) then none = then w.number w.next
list_then None then none = none

-- m more numbers at most, from the n-th on
unfoldable pub list_from : (m : ℕ) (line : List ℕ) (at n : ℕ) (list : List ℕ) → Listing ℕ
list_from zero line at n list = listing line at n list
list_from (suc m) line at n list =
    list_then (number_at at (drop at line)) (λ z next. list_from m line next (n + 1) (set list n (up_from z))) (listing line at n list)
