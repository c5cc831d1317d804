-- The records of a shot list in words to the end of a line (docs/ASK.md), listed each as its kind and its numbers.
-- Assumes nothing.
use Rattle.std.specs.Prelude.{None, Option}
use Rattle.asking.specs.Numbers.{some_word}
use Rattle.std.specs.Prelude.{ℕ, zero, suc, ◌+◌, List, Bool, cond, ◌&&◌, eqb, leb, ℤ, pos, nat_abs, length, drop, set}
use Rattle.asking.specs.declared.values.Word.{Word}
use Rattle.asking.specs.Numbers.{number_at}
use Rattle.laws.specs.Spelt.{spelt}
use Rattle.asking.specs.Table.{word_first}
use Rattle.asking.specs.Numbered.{Listing, list_then}

-- ---- in a line: l is what is left of it from the place `at` on
-- the kind of a record by its word, behind one space: a rate is 1, a shot 2, a reel 3; and the place past the word
unfoldable pub kind_at : (at : ℕ) → List ℕ → Option Word
kind_at at l =
    cond (word_first (spelt " rate") l) (some_word (pos 1) (at + 5))
    (cond (word_first (spelt " shot") l) (some_word (pos 2) (at + 5))
    (cond (word_first (spelt " reel") l) (some_word (pos 3) (at + 5))
    None))

-- what is listed next: a number of a record where one is due, else the kind of the next record
unfoldable pub next_at : (due at : ℕ) → List ℕ → Option Word
next_at zero at l = kind_at at l
next_at (suc due) at l = number_at at l

-- how many numbers are due behind it: two behind a shot's kind, one behind another's, and one less behind a number
unfoldable pub due_behind : (due : ℕ) → ℤ → ℕ
due_behind zero kind = cond (eqb (nat_abs kind) 2) 2 1
due_behind (suc due) z = due

-- ---- the list
-- the line has ended, and no number of its last record is due
unfoldable pub is_done : (line : List ℕ) (at due : ℕ) → Bool
is_done line at due = eqb due 0 && leb (length line) at

-- what was listed so far, and whether that is all
abbrev pub record_listing : (line : List ℕ) (at due n : ℕ) (list : List ℤ) → Listing ℤ
record_listing line at due n list = record { list = list; listed = record { all = is_done line at due; count = n } }

-- m more at most, kinds and numbers, from the n-th on
unfoldable pub records_from : (m : ℕ) (line : List ℕ) (at due n : ℕ) (list : List ℤ) → Listing ℤ
records_from zero line at due n list = record_listing line at due n list
records_from (suc m) line at due n list =
    list_then (next_at due at (drop at line)) (λ z next. records_from m line next (due_behind due z) (n + 1) (set list n z))
    (record_listing line at due n list)

-- the records from a place of the line on, as many as the list has room for
abbrev pub records_of : (line : List ℕ) (from : ℕ) (list : List ℤ) → Listing ℤ
records_of line from list = records_from (length list) line from 0 0 list
