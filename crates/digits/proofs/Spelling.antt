-- The loop of `put_digits`: the digits that are left, on the line as it is, make the line that is wanted.
-- Assumes nothing.
use Prim.Native.Nat.{ℕ, zero, suc, ◌+◌, ◌-◌, ◌/◌, ◌%◌, ◌≤◌, ◌<◌}
use mathlib.Core.Path.{◌≡◌, sym, ◌∙◌}
use mathlib.Core.List.{List}
use native.Mathlib.Omega.{arith}
use lib.ListN.{length, set, length-set}
use Rattle.lent.specs.Line.{front, laid}
use Rattle.lent.proofs.Laws.{front-nil, front-snoc, laid_in}
use Rattle.digits.specs.Digits.{digits_of}
use Rattle.digits.proofs.Values.{digits-length}

-- i digits of `rest` are left to be set in the line l, which was l₀
pub record Spelling (l₀ : List ℕ) (k n : ℕ) (l : List ℕ) (i rest : ℕ) : Type 0 where
  pub long : length l ≡ length l₀
  pub room : k ≤ length l₀
  pub inside : i ≤ length l₀
  pub left : front l₀ (digits_of k n) ≡ front l (digits_of i rest)

pub spelling-turn : (l₀ : List ℕ) (k n : ℕ) (l : List ℕ) (i rest : ℕ) → Spelling l₀ k n l i rest → 0 < i
    → Spelling l₀ k n (set l (i - 1) (48 + rest % 10)) (i - 1) (rest / 10)
unfolding digits_of
spelling-turn l₀ k n l zero rest s h = absurd (omega arith)
spelling-turn l₀ k n l (suc i) rest s h =
    let d = digits_of i (rest / 10) in
    let p : suc i - 1 ≡ i = omega arith in
    let e : length d ≡ i = digits-length i (rest / 10) in
    record {
      long = simp length-set s.long;
      room = s.room;
      inside = omega arith;
      left = s.left ∙ front-snoc l d (48 + rest % 10) (omega arith) ∙ rw (p, e);
    }

-- two digits at a time: the last two of what is left
pub spelling-pair : (l₀ : List ℕ) (k n : ℕ) (l : List ℕ) (i rest tens ones : ℕ) → Spelling l₀ k n l i rest → 1 < i
    → tens ≡ 48 + rest % 100 / 10 → ones ≡ 48 + rest % 100 % 10
    → Spelling l₀ k n (set (set l (i - 1) ones) (i - 2) tens) (i - 2) (rest / 100)
spelling-pair l₀ k n l i rest tens ones s h t o =
    let one = spelling-turn l₀ k n l i rest s (omega arith) in
    let two = spelling-turn l₀ k n (set l (i - 1) (48 + rest % 10)) (i - 1) (rest / 10) one (omega arith) in
    let p : i - 1 - 1 ≡ i - 2 = omega arith in
    let q : rest / 10 / 10 ≡ rest / 100 = omega arith in
    let d : 48 + rest / 10 % 10 ≡ tens = omega arith in
    let e : 48 + rest % 10 ≡ ones = omega arith in
    rw (p, q, d, e) at two

pub spelling-done : (l₀ : List ℕ) (k n : ℕ) (l : List ℕ) (i rest : ℕ) → Spelling l₀ k n l i rest → i ≤ 0
    → l ≡ laid l₀ (digits_of k n)
unfolding digits_of
spelling-done l₀ k n l zero rest s h =
    sym (laid_in l₀ (digits_of k n) (omega (arith, digits-length k n)) ∙ s.left ∙ front-nil l)
spelling-done l₀ k n l (suc i) rest s h = absurd (omega arith)

-- the first digit of an odd number of them
pub spelling-first : (l₀ : List ℕ) (k n : ℕ) (l : List ℕ) (i rest : ℕ) → Spelling l₀ k n l i rest → 0 < i → i ≤ 1
    → set l 0 (48 + rest % 10) ≡ laid l₀ (digits_of k n)
spelling-first l₀ k n l i rest s h m =
    let p : i - 1 ≡ 0 = omega arith in
    rw p at (spelling-done l₀ k n (set l (i - 1) (48 + rest % 10)) (i - 1) (rest / 10) (spelling-turn l₀ k n l i rest s h) (omega arith))
