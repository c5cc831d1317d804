-- What a step of the cursor answers: from what stands at the place, and back.
-- Assumes nothing.
use Rattle.std.specs.Prelude.{Some, None}
use Prim.Native.Nat.{ℕ, zero, suc, ◌+◌, ◌≤◌, ◌<◌}
use mathlib.Core.Path.{◌≡◌, refl, sym, ap, ◌∙◌}
use mathlib.Core.List.{List, [], ◌∷◌}
use mathlib.Core.Bool.{Bool, true, false}
use native.Mathlib.Omega.{arith}
use lib.ListN.{length, drop, get_or, length-drop, drop_of_length-le}
use lib.Seq.{drop-cons}
use lib.Dec.{leb}
use borrow.Author.Tests.{le-leb, lt-leb}
use Rattle.digits.specs.declared.Run.{Run}
use Rattle.digits.specs.Digits.{first_is, run_of}
use Rattle.digits.proofs.Runs.{span-within, run_value, run-count}
use Rattle.scanner.specs.declared.cursor.Cursor.{Cursor}
use Rattle.scanner.specs.Scan.{cursor, looked_for, passed, past_if, is_end, field_of}

-- ---- digits, from the run at the cursor
pub run-field : (at : ℕ) (l : List ℕ) (run : Run) → run ≡ run_of l
    → record { value = run.value; count = run.count; next = cursor (at + run.count) } ≡ field_of at l
unfolding field_of
run-field at l run e = rw (e, run_value l, run-count l)

-- they lie within the text, if the place does
pub run-within : (s : List ℕ) (at n : ℕ) (run : Run) → run ≡ run_of (drop at s) → at < n → length s < n → at + run.count < n
run-within s at n run e h k =
    omega (arith, ap (λ (r : Run). r.count) e ∙ run-count (drop at s), span-within (drop at s), length-drop at s)

-- ---- a byte: from what stands at the cursor to the answer
module _ (test : ℕ → Bool) (s : List ℕ) (at : ℕ) where
  first-here : at < length s → first_is test (drop at s) ≡ test (get_or s at 0)
  first-here h = rw (drop-cons s at 0 h)

  pub past-here : (t : Bool) → at < length s → test (get_or s at 0) ≡ t → passed t at ≡ past_if test at (drop at s)
  unfolding past_if
  past-here t h e = sym (ap (λ (x : Bool). passed x at) (first-here h ∙ e))

  pub past_end : length s ≤ at → None ≡ past_if test at (drop at s)
  unfolding past_if
  past_end h = rw (drop_of_length-le s {i = at} h)

-- and back
was-next-by : (t : Bool) (at : ℕ) (next : Cursor) → Some next ≡ passed t at → (t ≡ true) × (next ≡ cursor (at + 1))
was-next-by true at next e = (refl, cc)
was-next-by false at next e = let z : ◌≡◌ {A = ℕ} 0 1 = cc in absurd (omega arith)

pub was-next : (test : ℕ → Bool) (at : ℕ) (l : List ℕ) (next : Cursor) → Some next ≡ past_if test at l
    → (first_is test l ≡ true) × (next ≡ cursor (at + 1))
unfolding past_if
was-next test at l next e = was-next-by (first_is test l) at next e

was-other-by : (t : Bool) (at : ℕ) → None ≡ passed t at → t ≡ false
was-other-by true at e = cc
was-other-by false at e = refl

pub was-other : (test : ℕ → Bool) (at : ℕ) (l : List ℕ) → None ≡ past_if test at l → first_is test l ≡ false
unfolding past_if
was-other test at l e = was-other-by (first_is test l) at e

-- ---- a byte that is looked for only where something may come
pub looked-some : (left : ℕ) (test : ℕ → Bool) → (left ≡ 0 → ⊥) → looked_for left test ≡ test
looked-some zero test h = absurd (h refl)
looked-some (suc n) test h = refl

pub looked-none : (test : ℕ → Bool) (l : List ℕ) → first_is (looked_for 0 test) l ≡ false
looked-none test [] = refl
looked-none test (c ∷ l) = refl

pub past-closed : (test : ℕ → Bool) (left at : ℕ) (l : List ℕ) → left ≡ 0 → None ≡ past_if (looked_for left test) at l
unfolding past_if
past-closed test left at l e = rw (e, looked-none test l)

-- ---- the end
end_by : (s : List ℕ) (at : ℕ) (l : List ℕ) → drop at s ≡ l → leb (length s) at ≡ is_end l
end_by s at [] e = le-leb (length s) at (omega (arith, length-drop at s, ap length e))
end_by s at (c ∷ l) e = lt-leb (length s) at (omega (arith, length-drop at s, ap length e))

pub end_is : (s : List ℕ) (at : ℕ) → leb (length s) at ≡ is_end (drop at s)
end_is s at = end_by s at (drop at s) refl
