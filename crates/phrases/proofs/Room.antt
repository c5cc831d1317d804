-- Every phrase has room in 128 bytes, that of a number that no refusal has too.
-- Assumes nothing.
use Prim.Native.Nat.{ℕ, ◌≤◌}
use mathlib.Core.Path.{◌≡◌, refl}
use mathlib.Core.Bool.{Bool, true, false}
use native.Mathlib.Omega.{arith}
use lib.Dec.{leb}
use lib.ListN.{length}
use borrow.Author.Tests.{leb-true, leb-false}
use Rattle.phrases.specs.Phrases.{phrase_of}
use Rattle.phrases.proofs.Statements.{phrases_plain, no_phrase}

pub phrase-most : (n : ℕ) → length (phrase_of n) ≤ 128
phrase-most n = by (leb n 17) refl
  where
    by : (t : Bool) → leb n 17 ≡ t → length (phrase_of n) ≤ 128
    by true e = (phrases_plain n (leb-true n 17 e)).1.1
    by false e = rw (no_phrase n (leb-false n 17 e)) (omega arith)
