-- Numbers in their places from the n-th on: the list's front as it was, the numbers, and the list behind them as it was.
-- Assumes nothing.
use Prim.Native.Nat.{ℕ, suc, ◌+◌, ◌≤◌}
use mathlib.Core.Path.{◌≡◌, sym, ◌∙◌}
use mathlib.Core.List.{List, [], ◌∷◌, ◌++◌, append_assoc}
use native.Mathlib.Omega.{arith}
use native.Mathlib.Numerals.{add-one}
use lib.ListN.{length, take, drop, set, length-set, take-append-drop}
use lib.Seq.{take-suc-set, drop-set-lt}
use Rattle.asking.specs.Statements.{placed_from}

placed-is : {A : Type 0} → (zs : List A) (n : ℕ) (list : List A) → n + length zs ≤ length list
    → placed_from n list zs ≡ take n list ++ (zs ++ drop (n + length zs) list)
unfolding placed_from
placed-is [] n list h = let e : n + 0 ≡ n = omega arith in rw e (sym (take-append-drop n list))
placed-is (z ∷ zs) n list h =
    let e : suc n + length zs ≡ n + suc (length zs) = omega arith in
    placed-is zs (n + 1) (set list n z) (omega (arith, length-set list n z))
    ∙ rw (add-one, take-suc-set list n z (omega arith), append_assoc, e, drop-set-lt (n + suc (length zs)) list n z (omega arith))

pub placed-front : {A : Type 0} → (zs list : List A) → length zs ≤ length list → placed_from 0 list zs ≡ zs ++ drop (length zs) list
placed-front zs list h = let e : 0 + length zs ≡ length zs = omega arith in placed-is zs 0 list (omega arith) ∙ rw e
