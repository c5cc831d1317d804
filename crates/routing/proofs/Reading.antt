-- A line of a directory file by the code's tests: blanks passed, a number found, and what is left behind them.
-- Assumes nothing.
use Prim.Native.Nat.{ℕ, ◌+◌, ◌≤◌, ◌<◌}
use mathlib.Core.Path.{◌≡◌, refl, sym, ap, ◌∙◌}
use mathlib.Core.List.{List, [], ◌∷◌}
use mathlib.Core.Bool.{Bool, true, false, cond, not, ◌&&◌}
use native.Mathlib.Omega.{arith}
use native.Mathlib.Numerals.{add-one}
use lib.Dec.{eqb, ltb}
use lib.ListN.{length, drop, get_or, drop_of_length-le}
use lib.Seq.{drop-cons, drop-drop}
use borrow.Author.Tests.{eqb-true}
use Rattle.std.specs.Prelude.{Option, Some, None, Result, Ok, Err}
use lib.IntN.{nat_abs}
use Rattle.numbers.specs.Sign.{signed}
use Rattle.digits.specs.Digits.{is_byte, value_of, first_is, digit_first, span, leading}
use Rattle.digits.proofs.Runs.{span-no}
use Rattle.asking.specs.declared.values.Word.{Word}
use Rattle.asking.specs.Numbers.{some_word, signed_at, digits_at, signed_word}
use Rattle.routing.specs.declared.entries.Numeral.{Numeral}
use Rattle.routing.specs.declared.loading.Flaw.{Flaw}
use Rattle.routing.specs.declared.loading.Flaw.TheVariants.{NotTwoNumbers}
use Rattle.routing.specs.Entries.{Skipped, Numbers, Bad, Number, Nothing, is_blank, past_blanks, is_over, is_number, found_at, ended_by, second_in, entry_in, entry_of}

-- ---- the loop of `past_blanks`
module _ (line : List ℕ) (i : ℕ) where
  module _ (h : i < length line) where
    pub blanks-turn : is_blank (get_or line i 0) ≡ true → past_blanks (drop i line) ≡ past_blanks (drop (i + 1) line)
    unfolding past_blanks
    blanks-turn e = rw (drop-cons line i 0 h, e, add-one)

    pub blanks-stop : is_blank (get_or line i 0) ≡ false → drop i line ≡ past_blanks (drop i line)
    unfolding past_blanks
    blanks-stop e = rw (drop-cons line i 0 h, e)

  pub blanks-end : length line ≤ i → drop (length line) line ≡ past_blanks (drop i line)
  unfolding past_blanks
  blanks-end h = rw (drop_of_length-le line {i = i} h, drop_of_length-le line {i = length line} (omega arith))

-- ---- a number
-- what is found, of a number with a sign
abbrev pub found_by : Option Word → Result Numeral Flaw
found_by (Some word) = Number (nat_abs word.number) word.next
found_by None = Nothing

abbrev value-in : Result Numeral Flaw → ℕ
value-in (Ok number) = number.value
value-in (Err flaw) = 0

abbrev next-in : Result Numeral Flaw → ℕ
next-in (Ok number) = number.next
next-in (Err flaw) = 0

module _ (at : ℕ) (l : List ℕ) where
  pub found-minus : first_is (is_byte 45) l ≡ true → Nothing ≡ found_at at l
  unfolding found_at
  found-minus e = rw (span-no l (by l e))
    where
      by : (l : List ℕ) → first_is (is_byte 45) l ≡ true → digit_first l ≡ false
      by [] e = refl
      by (b ∷ l) e = rw (eqb-true b 45 e)

  pub found_plain : first_is (is_byte 45) l ≡ false → found_by (signed_at at l) ≡ found_at at l
  unfolding found_at signed_at digits_at signed_word
  found_plain e = rw e (by (eqb (span l) 0) (ltb (value_of (leading l)) 9223372036854775808))
    where
      by : (x y : Bool)
          → found_by (cond x None (cond y (some_word (signed false (value_of (leading l))) (at + span l)) None))
          ≡ cond (not x && y) (Number (value_of (leading l)) (at + span l)) Nothing
      by true y = refl
      by false true = refl
      by false false = refl

  pub found-none : signed_at at l ≡ None → Nothing ≡ found_at at l
  found-none e = by (first_is (is_byte 45) l) refl
    where
      by : (t : Bool) → first_is (is_byte 45) l ≡ t → Nothing ≡ found_at at l
      by true p = found-minus p
      by false p = ap found_by (sym e) ∙ found_plain p

  -- what a number that is found tells
  pub record Got (n next : ℕ) : Type 0 where
    pub number : is_number l ≡ true
    pub value : n ≡ value_of (leading l)
    pub past : next ≡ at + span l

  pub got : (n next : ℕ) → found_at at l ≡ Number n next → Got n next
  unfolding found_at
  got n next e = by (is_number l) refl e
    where
      by : (t : Bool) → is_number l ≡ t → cond t (Number (value_of (leading l)) (at + span l)) Nothing ≡ Number n next → Got n next
      by true p f = record { number = p; value = ap value-in (sym f); past = ap next-in (sym f) }
      by false p f = let z : ◌≡◌ {A = ℕ} 0 1 = cc in absurd (omega arith)

  pub got-none : (flaw : Flaw) → found_at at l ≡ Err flaw → (is_number l ≡ false) × (flaw ≡ NotTwoNumbers)
  unfolding found_at
  got-none flaw e = by (is_number l) refl e
    where
      by : (t : Bool) → is_number l ≡ t → cond t (Number (value_of (leading l)) (at + span l)) Nothing ≡ Err flaw → (is_number l ≡ false) × (flaw ≡ NotTwoNumbers)
      by true p f = let z : ◌≡◌ {A = ℕ} 0 1 = cc in absurd (omega arith)
      by false p f = (p, cc)

-- ---- behind two numbers
module _ (first second : ℕ) (l : List ℕ) where
  pub ended-over : is_over l ≡ true → Numbers first second ≡ ended_by first second l
  unfolding ended_by
  ended-over e = rw e

  pub ended-other : is_over l ≡ false → Bad ≡ ended_by first second l
  unfolding ended_by
  ended-other e = rw e

-- ---- behind the place p, where l is left
module _ (line : List ℕ) (p : ℕ) (l : List ℕ) (e : drop p line ≡ l) where
  left_behind : (n next : ℕ) → Got p (drop p line) n next → drop next line ≡ drop (span l) l
  left_behind n next g = rw (g.past, ← drop-drop (span (drop p line)) p line, e)

  module _ (first : ℕ) where
    pub second-found : (n next : ℕ) → found_at p (drop p line) ≡ Number n next → ended_by first n (past_blanks (drop next line)) ≡ second_in first l
    unfolding second_in
    second-found n next f =
        let g = got p (drop p line) n next f in
        let t : is_number l ≡ true = ap is_number (sym e) ∙ g.number in
        let v : n ≡ value_of (leading l) = g.value ∙ ap (λ z. value_of (leading z)) e in
        rw (t, v, left_behind n next g)

    pub second_none : (flaw : Flaw) → found_at p (drop p line) ≡ Err flaw → Err flaw ≡ second_in first l
    unfolding second_in
    second_none flaw f = let g = got-none p (drop p line) flaw f in rw (g.1, ap is_number (sym e) ∙ g.0)

  pub entry-over : is_over (drop p line) ≡ true → Skipped ≡ entry_in l
  unfolding entry_in
  entry-over h = rw (ap is_over (sym e) ∙ h)

  module _ (h : is_over (drop p line) ≡ false) where
    pub entry_found : (n next : ℕ) → found_at p (drop p line) ≡ Number n next → second_in n (past_blanks (drop next line)) ≡ entry_in l
    unfolding entry_in
    entry_found n next f =
        let g = got p (drop p line) n next f in
        let t : is_number l ≡ true = ap is_number (sym e) ∙ g.number in
        let v : n ≡ value_of (leading l) = g.value ∙ ap (λ z. value_of (leading z)) e in
        rw (ap is_over (sym e) ∙ h, t, v, left_behind n next g)

    pub entry-none : (flaw : Flaw) → found_at p (drop p line) ≡ Err flaw → Err flaw ≡ entry_in l
    unfolding entry_in
    entry-none flaw f =
        let g = got-none p (drop p line) flaw f in rw (g.1, ap is_over (sym e) ∙ h, ap is_number (sym e) ∙ g.0)

pub entry-is : (line : List ℕ) → entry_in (past_blanks line) ≡ entry_of line
unfolding entry_of
entry-is line = refl
