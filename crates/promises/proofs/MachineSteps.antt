-- A byte set in a line, and what the machine's test of a signed number against 0 tells.
-- Assumes nothing.
use Prim.Native.Nat.{ℕ, zero, suc, ◌+◌, ◌<◌}
use mathlib.Core.Path.{◌≡◌, refl, sym, ap, ◌∙◌}
use mathlib.Core.List.{List, ◌∷◌, append_assoc}
use native.Mathlib.Omega.{arith}
use native.Mathlib.Numerals.{add-one}
use lib.ListN.{length, set}
use lib.Seq.{take-suc-set, drop-set-lt}
use lib.IntN.{ℤ, pos, negsuc, nat_abs}
use mir.Syntax.{w64}
use mir.Val.{SFits, to_z, of_z}
use mir.Facts.{to_z-of_z}
use Rattle.lent.specs.Line.{splice}

-- the first byte of a text is set, the rest goes behind it
pub splice-set : (l : List ℕ) (k x : ℕ) (t : List ℕ) → k < length l → splice l k (x ∷ t) ≡ splice (set l k x) (k + 1) t
unfolding splice
splice-set l k x t h =
    let s : k + 1 ≡ suc k = add-one k in
    let n : k + suc (length t) ≡ suc k + length t = omega arith in
    sym (rw (s, take-suc-set l k x h, drop-set-lt (suc k + length t) l k x (omega arith), append_assoc, ← n))

-- what the test against 0 tells, on either side
pub zero-read : (z : ℤ) → SFits w64 z → of_z w64 z ≡ 0 → z ≡ pos 0
zero-read z f e = sym (to_z-of_z f) ∙ ap (to_z w64) e

pub nonzero-read : (z : ℤ) → (of_z w64 z ≡ 0 → ⊥) → 0 < nat_abs z
nonzero-read (pos zero) h = absurd (h refl)
nonzero-read (pos (suc n)) h = omega arith
nonzero-read (negsuc n) h = omega arith
