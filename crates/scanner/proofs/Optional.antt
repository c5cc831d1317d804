-- An optional sign or tail: from what the scanner answered at its byte.
-- Assumes nothing.
use Rattle.std.specs.Prelude.{Some, None, Ok, Err}
use Prim.Native.Nat.{ℕ, ◌+◌, ◌<◌}
use mathlib.Core.Path.{◌≡◌, sym, ap, ◌∙◌}
use mathlib.Core.List.{List}
use mathlib.Core.Bool.{Bool, true, false}
use native.Mathlib.Omega.{arith}
use borrow.Author.Tests.{lt-ltb}
use lib.ListN.{drop}
use Rattle.digits.specs.Digits.{is_byte, span}
use Rattle.scanner.specs.declared.cursor.Cursor.{Cursor}
use Rattle.scanner.specs.declared.cursor.Field.{Field}
use Rattle.scanner.specs.declared.text.Misfit.TheVariants.{NoShape}
use Rattle.scanner.specs.Scan.{looked_for, past_if, field_of, sign_by, sign_of, no_tail, tail_after, tail_of}
use Rattle.scanner.specs.Then.{byte_then}
use Rattle.scanner.proofs.Answers.{was-next, was-other, looked-some, looked-none}
use Rattle.scanner.proofs.Then.{byte-not, byte-other, byte_next}

-- ---- the sign
module _ (at : ℕ) (l : List ℕ) where
  pub sign-none : None ≡ past_if (is_byte 45) at l → sign_by false at ≡ sign_of at l
  unfolding sign_of
  sign-none e = rw (was-other (is_byte 45) at l e)

  pub sign-some : (next : Cursor) → Some next ≡ past_if (is_byte 45) at l → record { minus = true; next = next } ≡ sign_of at l
  unfolding sign_of
  sign-some next e = let w = was-next (is_byte 45) at l next e in rw (w.0, w.1)

-- ---- the tail
pub tail-closed : (most at : ℕ) (l : List ℕ) → most ≡ 0 → Ok (no_tail at) ≡ tail_of most at l
unfolding tail_of
tail-closed most at l e = rw e (sym (byte-not (looked_for 0 (is_byte 46)) (Ok (no_tail at)) (tail_after (at + 1)) l (looked-none (is_byte 46) l)))

module _ (most at : ℕ) (allowed : most ≡ 0 → ⊥) where
  tail-open : (l : List ℕ) → tail_of most at l ≡ byte_then (is_byte 46) (Ok (no_tail at)) (tail_after (at + 1)) l
  unfolding tail_of
  tail-open l = ap (λ (test : ℕ → Bool). byte_then test (Ok (no_tail at)) (tail_after (at + 1)) l) (looked-some most (is_byte 46) allowed)

  pub tail_none : (l : List ℕ) → None ≡ past_if (is_byte 46) at l → Ok (no_tail at) ≡ tail_of most at l
  tail_none l e = sym (tail-open l ∙ byte-other (is_byte 46) (Ok (no_tail at)) (tail_after (at + 1)) at l e)

  -- a `.` at the cursor, and a field from the one behind it
  module _ (s : List ℕ) (first : Cursor) (f : Field) (e : Some first ≡ past_if (is_byte 46) at (drop at s)) (is : f ≡ field_of first.at (drop first.at s)) where
    behind-point : tail_of most at (drop at s) ≡ tail_after first.at (drop first.at s)
    behind-point =
        tail-open (drop at s)
        ∙ byte_next (is_byte 46) (Ok (no_tail at)) (tail_after (at + 1)) s at first e
        ∙ ap (λ (x : Cursor). tail_after x.at (drop first.at s)) (sym (was-next (is_byte 46) at (drop at s) first e).1)

    pub tail-missing : f.count ≡ 0 → Err (NoShape first.at) ≡ tail_of most at (drop at s)
    unfolding field_of
    tail-missing z =
        let n : span (drop first.at s) ≡ 0 = sym (ap (λ (x : Field). x.count) is) ∙ z in
        sym (behind-point ∙ rw n)

    pub tail-some : (f.count ≡ 0 → ⊥) → Ok (record { value = f.value; count = f.count; first = first; next = f.next }) ≡ tail_of most at (drop at s)
    unfolding field_of
    tail-some h =
        let n : 0 < span (drop first.at s) = omega (arith, ap (λ (x : Field). x.count) is, h) in
        rw is (sym (behind-point ∙ rw (lt-ltb 0 (span (drop first.at s)) n)))
