-- The words, options and numbers of a question, by the code's tests.
-- Assumes nothing.
use Prim.Native.Nat.{ℕ, ◌+◌, ◌≤◌, ◌<◌}
use Rattle.std.specs.Prelude.{Some, None}
use mathlib.Core.Path.{◌≡◌, refl, sym, ap, ◌∙◌}
use mathlib.Core.List.{List}
use mathlib.Core.Bool.{Bool, true, false, cond}
use native.Mathlib.Omega.{arith}
use lib.Dec.{eqb}
use lib.ListN.{length, drop, length-drop}
use lib.Seq.{drop-drop}
use borrow.Author.Tests.{eq-eqb, ne_eqb}
use Rattle.digits.specs.declared.Run.{Run}
use Rattle.digits.specs.Digits.{is_byte, first_is, run_of}
use Rattle.digits.proofs.Runs.{span-within, run-count}
use Rattle.asking.specs.Table.{word_first}
use Rattle.asking.proofs.Standing.{word-length}
use Rattle.telling.specs.declared.questions.Opening.{Opening}
use Rattle.telling.specs.Question.{one_of, is_number, with_format, format_at, way_of, with_text, no_text, ended_at, rated_in, rated_of}

-- ---- words
-- a word that stands there, of two that have bytes, is within the line
module _ (short long l : List ℕ) (h : 0 < length short) (k : 0 < length long) where
  word-most : (n : ℕ) → Some n ≡ one_of short long l → (0 < n) × (n ≤ length l)
  unfolding one_of
  word-most n = by (word_first short l) (word_first long l) refl refl
    where
      same : (a b : ℕ) → Some a ≡ Some b → a ≡ b
      same a b p = cc

      by : (x y : Bool) → word_first short l ≡ x → word_first long l ≡ y
          → Some n ≡ cond x (Some (length short)) (cond y (Some (length long)) None) → (0 < n) × (n ≤ length l)
      by true y e f p = let q = same n (length short) p in (omega (arith, h), omega (arith, word-length short l e))
      by false true e f p = let q = same n (length long) p in (omega (arith, k), omega (arith, word-length long l f))
      by false false e f p = let z : ◌≡◌ {A = ℕ} 0 1 = cc in absurd (omega arith)

pub word-within : (line : List ℕ) (at n : ℕ) (short long : List ℕ) → 0 < length short → 0 < length long
    → Some n ≡ one_of short long (drop at line) → at + n ≤ length line
word-within line at n short long h k e =
    let w = word-most short long (drop at line) h k n e in
    omega (arith, w.0, w.1, length-drop at line)

-- ---- numbers
module _ (run : Run) where
  number-some : is_number run ≡ true → run.count ≡ 0 → ⊥
  unfolding is_number
  number-some t e = let f : is_number run ≡ false = rw (eq-eqb run.count 0 e) in let z : ◌≡◌ {A = ℕ} 0 1 = cc in omega arith

-- a number that stands there is within the line
module _ (line : List ℕ) (at : ℕ) (run : Run) (e : run ≡ run_of (drop at line)) where
  pub number-within : is_number run ≡ true → at + run.count ≤ length line
  number-within t =
      omega (arith, ap (λ (z : Run). z.count) e, run-count (drop at line), span-within (drop at line), length-drop at line, number-some run t)

  number-here : (t : Bool) → is_number run ≡ t → is_number (run_of (drop at line)) ≡ t
  number-here t f = sym (ap is_number e) ∙ f

  -- what is left behind it
  rest-here : drop (at + run.count) line ≡ drop (run_of (drop at line)).count (drop at line)
  rest-here = sym (drop-drop run.count at line) ∙ ap (λ (z : Run). drop z.count (drop at line)) e

  -- ---- a film format
  module _ (o : Opening) where
    pub format-none : is_number run ≡ false → o ≡ format_at (drop at line) o at
    unfolding format_at
    format-none f = rw (number-here false f)

    module _ (f : is_number run ≡ true) where
      pub format-other : first_is (is_byte 32) (drop (at + run.count) line) ≡ false → o ≡ format_at (drop at line) o at
      unfolding format_at
      format-other g =
          let h : first_is (is_byte 32) (drop (run_of (drop at line)).count (drop at line)) ≡ false = sym (ap (first_is (is_byte 32)) rest-here) ∙ g in
          rw (number-here true f, h)

      pub format-some : first_is (is_byte 32) (drop (at + run.count) line) ≡ true
          → with_format o run.value (at + run.count + 1) ≡ format_at (drop at line) o at
      unfolding format_at
      format-some g =
          let h : first_is (is_byte 32) (drop (run_of (drop at line)).count (drop at line)) ≡ true = sym (ap (first_is (is_byte 32)) rest-here) ∙ g in
          ap (λ (z : Run). with_format o z.value (at + z.count + 1)) e ∙ rw (number-here true f, h)

-- ---- the rate
module _ (line : List ℕ) (o : Opening) (run : Run) (e : run ≡ run_of (drop o.at line)) where
  pub rate-none : is_number run ≡ false → None ≡ rated_of line o
  unfolding rated_in
  rate-none f = rw (number-here line o.at run e false f)

  module _ (f : is_number run ≡ true) where
    rate-some : ended_at (way_of o.options run.value) (drop (o.at + run.count) line) (o.at + run.count) ≡ rated_of line o
    unfolding rated_in
    rate-some =
        ap (λ l. ended_at (way_of o.options run.value) l (o.at + run.count)) (rest-here line o.at run e)
        ∙ ap (λ (z : Run). ended_at (way_of o.options z.value) (drop (run_of (drop o.at line)).count (drop o.at line)) (o.at + z.count)) e
        ∙ rw (number-here line o.at run e true f)

    pub rate-ends : length line ≤ o.at + run.count → no_text (way_of o.options run.value) ≡ rated_of line o
    unfolding ended_at
    rate-ends h =
        let z : length (drop (o.at + run.count) line) ≡ 0 = omega (arith, length-drop (o.at + run.count) line) in
        rw (eq-eqb (length (drop (o.at + run.count) line)) 0 z) at rate-some

    module _ (h : o.at + run.count < length line) where
      more : eqb (length (drop (o.at + run.count) line)) 0 ≡ false
      more =
          ne_eqb (length (drop (o.at + run.count) line)) 0 (λ z. omega (arith, z, length-drop (o.at + run.count) line))

      pub rate-text : first_is (is_byte 32) (drop (o.at + run.count) line) ≡ true
          → with_text (way_of o.options run.value) (o.at + run.count + 1) ≡ rated_of line o
      unfolding ended_at
      rate-text g = rw (more, g) at rate-some

      pub rate-other : first_is (is_byte 32) (drop (o.at + run.count) line) ≡ false → None ≡ rated_of line o
      unfolding ended_at
      rate-other g = rw (more, g) at rate-some
