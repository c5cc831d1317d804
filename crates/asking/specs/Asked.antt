-- What a line asks (docs/ASK.md): its command, the numbers behind the command's word and their marks, and where the rest begins.
-- Assumes nothing.
use Rattle.std.specs.Prelude.{None, Option, Some}
use Rattle.asking.specs.Numbers.{some_word}
use Rattle.std.specs.Prelude.{ℕ, zero, suc, ◌+◌, List, [], ◌∷◌, Bool, true, false, cond, not, ◌&&◌, ◌||◌, eqb, ltb, leb, ℤ, pos, nat_abs, length, drop, set, Option, Some, None}
use Rattle.numbers.specs.Sign.{is_neg}
use Rattle.asking.specs.declared.values.Word.{Word}
use Rattle.asking.specs.declared.words.Value.{Value}
use Rattle.asking.specs.declared.words.Asked.{Asked}
use Rattle.asking.specs.Numbers.{signed_at, number_at}
use Rattle.asking.specs.ShardWords.{shards_at}
use Rattle.laws.specs.Spelt.{spelt}
use Rattle.asking.specs.Table.{word_of, word_first, is_over, row_count, row_named, kind_of}

-- ---- a number and its mark, in a line: l is what is left of it
-- a number, and whether it has the mark of a position; of a film format: none is stated. Of shards: the place where they begin
abbrev pub value : ℤ → (marked : Bool) → Value
value z marked = record { number = z; marked = marked }

-- the letter is `@`, a rate's that may have the mark, and `@` stands in front, behind one space
unfoldable pub is_position : (kind : ℕ) → List ℕ → Bool
is_position kind l = eqb kind 64 && word_first (spelt " @") l

-- the letter is `f`, a film format's, and `-` alone stands in front, behind one space
unfoldable pub is_unstated : (kind : ℕ) → List ℕ → Bool
is_unstated kind l = eqb kind 102 && (word_first (spelt " -") l && is_over (drop 2 l))

-- one of the two stands there: the mark of a position, or `-` for no film format
unfoldable pub is_marked : (kind : ℕ) → List ℕ → Bool
is_marked kind l = is_unstated kind l || is_position kind l

-- the number in front, from the place `at` on: behind one space, and behind its mark where it has one; 0 for a film format that is not
-- stated
unfoldable pub value_at : (kind at : ℕ) → List ℕ → Option Word
value_at kind at l =
    cond (is_unstated kind l) (some_word (pos 0) (at + 2))
    (cond (is_position kind l) (signed_at (at + 2) (drop 2 l))
    (number_at at l))

-- ---- a word by its letter
-- a room is from 0 to the widest
abbrev pub is_room : (most : ℕ) → ℤ → Bool
is_room most z = not (is_neg z) && leb (nat_abs z) most

-- a place is from 0 on, a room from 0 to 128, a wide one from 0 to 1024, any other number any
unfoldable pub is_in_range : (kind : ℕ) → ℤ → Bool
is_in_range kind z =
    cond (eqb kind 112) (not (is_neg z))
    (cond (eqb kind 109) (is_room 128 z)
    (cond (eqb kind 119) (is_room 1024 z)
    true))

abbrev pub allowed : (kind : ℕ) → Option Word → Option Word
allowed kind (Some w) = cond (is_in_range kind w.number) (Some w) None
allowed kind None = None

-- `s`, a word of shards
abbrev pub is_shards : (kind : ℕ) → Bool
is_shards kind = eqb kind 115

-- what stands at a place of the line where a row has this letter, and the place past it: shards by the place where they begin, else a
-- number that is allowed
unfoldable pub word_at : (kind : ℕ) (line : List ℕ) (at : ℕ) → Option Word
word_at kind line at = cond (is_shards kind) (shards_at line at) (allowed kind (value_at kind at (drop at line)))

-- a letter that is no word's: none, a text, a rest
abbrev pub is_last : (kind : ℕ) → Bool
is_last kind = eqb kind 32 || (eqb kind 116 || eqb kind 42)

-- where the rest begins, by the last letter: for `*` right here; else at the line's end; a text behind one space
unfoldable pub rest_at : (kind at : ℕ) → List ℕ → Option ℕ
rest_at kind at [] = Some at
rest_at kind at (b ∷ l) = cond (eqb kind 42) (Some at) (cond (eqb kind 116 && eqb b 32) (Some (at + 1)) None)

-- ---- what is asked
abbrev pub asked : ℕ → List Value → ℕ → Asked
asked n values begins = record { row = n; values = values; rest = begins }

-- zero, with no mark
abbrev pub no_value : Value
no_value = value (pos 0) false

abbrev pub no_values : List Value
no_values = no_value ∷ no_value ∷ no_value ∷ no_value ∷ no_value ∷ []

-- no command: a row past the table
abbrev pub unknown : Asked
unknown = asked row_count no_values 0

abbrev pub asked_rest : ℕ → List Value → Option ℕ → Asked
asked_rest n values (Some begins) = asked n values begins
asked_rest n values None = unknown

unfoldable pub ended_at : (row : ℕ) (line : List ℕ) (at k : ℕ) → List Value → Asked
ended_at n line at k values = asked_rest n values (rest_at (kind_of n k) at (drop at line))

abbrev pub word_then : Option Word → (ℤ → ℕ → Asked) → Asked
word_then (Some w) then = then w.number w.next
word_then None then = unknown

-- the words from the k-th on, which begin at a place of the line: m numbers at most, and the rest
unfoldable pub words_from : (m row : ℕ) (line : List ℕ) (at k : ℕ) → List Value → Asked
words_from zero n line at k values = ended_at n line at k values
words_from (suc m) n line at k values =
    let kind = kind_of n k in
    let l = drop at line in
    cond (is_last kind) (ended_at n line at k values)
    (word_then (word_at kind line at) (λ z next. words_from m n line next (k + 1) (set values k (value z (is_marked kind l)))))

-- a command's word, and the words behind it as its row has them
unfoldable pub asked_of : (line : List ℕ) → Asked
asked_of line =
    let n = row_named (word_of line) in
    cond (ltb n row_count) (words_from 5 n line (length (word_of line)) 0 no_values) unknown
