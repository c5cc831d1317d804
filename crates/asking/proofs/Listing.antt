-- The loop of `rates`: what is wanted from here is what is wanted from the start.
-- Assumes nothing.
use Rattle.std.specs.Prelude.{None}
use Rattle.asking.specs.Numbers.{some_word}
use Prim.Native.Nat.{ℕ, zero, suc, ◌+◌, ◌-◌, ◌≤◌, ◌<◌}
use mathlib.Core.Path.{◌≡◌, refl, sym, ap, subst, ◌∙◌}
use mathlib.Core.List.{List}
use mathlib.Core.Bool.{Bool}
use native.Mathlib.Omega.{arith}
use lib.Dec.{leb}
use lib.IntN.{ℤ}
use lib.ListN.{length, drop, set, get_or, length-set}
use Rattle.numbers.specs.Sign.{up_from}
use Rattle.asking.specs.declared.words.Value.{Value}
use Rattle.asking.specs.declared.numbered.Listed.{Listed}
use Rattle.asking.specs.Numbers.{number_at}
use Rattle.asking.specs.Asked.{no_value}
use Rattle.asking.specs.Numbered.{numbers_of, listing, list_from}

-- n numbers were put into the list
pub record Lists (line : List ℕ) (from : ℕ) (list₀ list : List ℕ) (at n : ℕ) : Type 0 where
  pub k : ℕ
  pub left : n + k ≡ length list₀
  pub long : length list ≡ length list₀
  pub same : list_from (length list₀) line from 0 list₀ ≡ list_from k line at n list

pub lists-start : (line : List ℕ) (from : ℕ) (list : List ℕ) → Lists line from list list from 0
lists-start line from list = record { k = length list; left = omega arith; long = refl; same = refl }

module _ (line : List ℕ) (from : ℕ) (list₀ list : List ℕ) (at n : ℕ) (s : Lists line from list₀ list at n) where
  -- what the return shows
  abbrev pub Ends : Listed → List ℕ → Type 0
  Ends r last = let e = list_from (length list₀) line from 0 list₀ in (r ≡ e.listed) × (last ≡ e.list)

  ends_by : list_from s.k line at n list ≡ listing line at n list → Ends (record { all = leb (length line) at; count = n }) list
  ends_by e = let q = s.same ∙ e in (sym (ap (λ z. z.listed) q), sym (ap (λ z. z.list) q))

  -- no number stands there
  pub lists-other : number_at at (drop at line) ≡ None → Ends (record { all = leb (length line) at; count = n }) list
  unfolding list_from
  lists-other e = ends_by (by s.k)
    where
      by : (k : ℕ) → list_from k line at n list ≡ listing line at n list
      by zero = refl
      by (suc k) = rw e

  -- the list is full
  pub lists-full : length list₀ ≤ n → Ends (record { all = leb (length line) at; count = length list₀ }) list
  unfolding list_from
  lists-full h =
      let z : s.k ≡ 0 = omega (arith, s.left) in
      let m : length list₀ ≡ n = omega (arith, s.left) in
      subst (λ x. Ends (record { all = leb (length line) at; count = x }) list) (sym m) (ends_by (rw z))

  pub lists-turn : (z : ℤ) (next u : ℕ) → n < length list → number_at at (drop at line) ≡ some_word z next → u ≡ up_from z
      → Lists line from list₀ (set list n u) next (n + 1)
  unfolding list_from
  lists-turn z next u h e f = record {
    k = s.k - 1;
    left = omega (arith, s.left, s.long);
    long = length-set list n u ∙ s.long;
    same = s.same ∙ on s.k (omega (arith, s.left, s.long));
  }
    where
      on : (k : ℕ) → 0 < k → list_from k line at n list ≡ list_from (k - 1) line next (n + 1) (set list n u)
      on zero h = absurd (omega arith)
      on (suc k) h = let m : suc k - 1 ≡ k = omega arith in rw (e, f, m)

-- ---- the five numbers, each as it was read
pub numbers-are : (v : List Value) (up1 : ℕ) (n2 : ℤ) (up2 : ℕ) (n3 : ℤ) (up3 : ℕ) (n4 : ℤ) (up4 up5 : ℕ) (at1 at2 at3 : Bool)
    → let n : ℕ → Value = λ k. get_or v k no_value in
    up1 ≡ up_from (n 0).number → n2 ≡ (n 1).number → up2 ≡ up_from (n 1).number → n3 ≡ (n 2).number → up3 ≡ up_from (n 2).number
    → n4 ≡ (n 3).number → up4 ≡ up_from (n 3).number → up5 ≡ up_from (n 4).number → at1 ≡ (n 0).marked → at2 ≡ (n 1).marked → at3 ≡ (n 2).marked
    → record { up1 = up1; n2 = n2; up2 = up2; n3 = n3; up3 = up3; n4 = n4; up4 = up4; up5 = up5; at1 = at1; at2 = at2; at3 = at3 } ≡ numbers_of v
numbers-are v up1 n2 up2 n3 up3 n4 up4 up5 at1 at2 at3 a b c d e f g h i j k = rw (a, b, c, d, e, f, g, h, i, j, k)
