-- A word that stands at a place of a line, byte by byte.
-- Assumes nothing.
use Rattle.std.specs.List.{starts_with}
use Prim.Native.Nat.{ℕ, ◌+◌, ◌-◌, ◌≤◌, ◌<◌, min}
use mathlib.Core.Path.{◌≡◌, refl, sym, ap, ◌∙◌}
use mathlib.Core.List.{List, [], ◌∷◌, ◌++◌}
use mathlib.Core.Bool.{Bool, true, false, and-eq-true_iff}
use native.Mathlib.Omega.{arith}
use lib.Dec.{eqb, leb}
use lib.ListN.{length, take, drop, length-drop, drop_of_length-le}
use lib.Seq.{take_all}
use borrow.Author.Tests.{eqb-true, eqb-false, eq-eqb, ne_eqb, leb-true, leb-false}
use Rattle.digits.specs.Digits.{is_byte, first_is}
use Rattle.asking.specs.Table.{word_first}
use Rattle.asking.proofs.NumberLaws.{stands_by}

-- ---- a word at the front of what is left
same_tests : (a b : ℕ) → eqb a b ≡ eqb b a
same_tests a b = by (eqb a b) refl
  where
    by : (t : Bool) → eqb a b ≡ t → t ≡ eqb b a
    by true p = sym (eq-eqb b a (sym (eqb-true a b p)))
    by false p = sym (ne_eqb b a (λ e. eqb-false a b p (sym e)))

first-begins : (word l : List ℕ) → starts_with eqb l word ≡ word_first word l
unfolding word_first
first-begins [] l = refl
first-begins (b ∷ w) [] = refl
first-begins (b ∷ w) (c ∷ l) = rw (same_tests b c, first-begins w l)

pub begins-first : (word line : List ℕ) (at m : ℕ) → m ≡ min at (length line)
    → starts_with eqb (take (length line - m) (drop m line)) word ≡ word_first word (drop at line)
begins-first word line at m e =
    let all : take (length line - m) (drop m line) ≡ drop m line = take_all (length line - m) (drop m line) (omega (arith, length-drop m line)) in
    let left : drop m line ≡ drop at line = by (leb at (length line)) refl in
    ap (λ z. starts_with eqb z word) (all ∙ left) ∙ first-begins word (drop at line)
  where
    by : (t : Bool) → leb at (length line) ≡ t → drop m line ≡ drop at line
    by true p = let n : m ≡ at = omega (arith, leb-true at (length line) p) in ap (λ z. drop z line) n
    by false p =
        let h = leb-false at (length line) p in
        drop_of_length-le line {i = m} (omega arith) ∙ sym (drop_of_length-le line {i = at} (omega arith))

-- ---- a word that stands there is within the line
pub word-length : (word l : List ℕ) → word_first word l ≡ true → length word ≤ length l
unfolding word_first
word-length [] l e = omega arith
word-length (b ∷ w) l e =
    let q = (and-eq-true_iff (first_is (is_byte b) l) (word_first w (drop 1 l))).0 e in
    omega (arith, stands_by b l q.0, word-length w (drop 1 l) q.1, length-drop 1 l)

pub word-ends : (line : List ℕ) (at : ℕ) (word : List ℕ) → word_first word (drop at line) ≡ true → 0 < length word → at + length word ≤ length line
word-ends line at word e h = omega (arith, word-length word (drop at line) e, length-drop at line)

-- ---- and is the front of what is left of it
pub word-front : (w l : List ℕ) → word_first w l ≡ true → l ≡ w ++ drop (length w) l
unfolding word_first
word-front [] l e = refl
word-front (b ∷ w) [] e = let z : ◌≡◌ {A = ℕ} 0 1 = cc in absurd (omega arith)
word-front (b ∷ w) (c ∷ l) e =
    let q = (and-eq-true_iff (first_is (is_byte b) (c ∷ l)) (word_first w l)).0 e in
    ap (λ x. x ∷ l) (eqb-true c b q.0) ∙ ap (λ x. b ∷ x) (word-front w l q.1)
