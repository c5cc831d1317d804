-- The loop of `put_number`: the bytes that were set, with those of what is left behind them, are those of the number.
-- Assumes nothing.
use Prim.Native.Nat.{ℕ, suc, ◌+◌, ◌-◌, ◌/◌, ◌%◌, ◌≤◌, ◌<◌}
use mathlib.Core.Path.{◌≡◌, sym, ◌∙◌}
use mathlib.Core.List.{List, ◌∷◌, [], ◌++◌, append_assoc, append-nil}
use native.Mathlib.Omega.{arith}
use lib.ListN.{length, set, take, drop}
use Rattle.std.proofs.Common.{take_all}
use Rattle.std.proofs.lemmas.Grind.{take-set_at}
use Rattle.lent.specs.Line.{front, laid}
use Rattle.lent.proofs.Laws.{laid_in}
use Rattle.low_bytes.specs.LowBytes.{low_bytes}
use Rattle.low_bytes.specs.Laws.{low-length}

module _ (width n : ℕ) (l : List ℕ) (rest i : ℕ) (s : low_bytes width n ≡ take i l ++ low_bytes (width - i) rest) where
  pub laying-turn : i < width → i < length l
      → low_bytes width n ≡ take (i + 1) (set l i (rest % 256)) ++ low_bytes (width - (i + 1)) (rest / 256)
  unfolding low_bytes
  laying-turn h k =
      let w : width - i ≡ suc (width - (i + 1)) = omega arith in
      s ∙ rw (w, take-set_at) (sym (append_assoc (take i l) ((rest % 256) ∷ []) (low_bytes (width - (i + 1)) (rest / 256))))

  pub laying-done : (part : List ℕ) → width ≤ i → length l ≤ i → width ≤ length part → l ++ drop width part ≡ laid part (low_bytes width n)
  unfolding low_bytes front
  laying-done part h k room =
      let w : width - i ≡ 0 = omega arith in
      let whole : low_bytes width n ≡ l = s ∙ rw (w, take_all, append-nil) in
      sym (laid_in part (low_bytes width n) (omega (arith, low-length width n)) ∙ rw (low-length width n, whole))
