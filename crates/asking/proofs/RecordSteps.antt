-- What stands next in a line of records: a record's word, or one of its numbers.
-- Assumes nothing.
use Rattle.std.specs.Prelude.{None}
use Rattle.asking.specs.Numbers.{some_word}
use Prim.Native.Nat.{ℕ, zero, suc, ◌+◌, ◌-◌}
use mathlib.Core.Path.{◌≡◌, refl}
use mathlib.Core.List.{List}
use mathlib.Core.Bool.{true, false}
use native.Mathlib.Omega.{arith}
use lib.Dec.{leb}
use lib.IntN.{ℤ, pos, nat_abs}
use lib.ListN.{length}
use borrow.Author.Tests.{eq-eqb, ne_eqb}
use Rattle.asking.specs.Numbers.{number_at}
use Rattle.laws.specs.Spelt.{spelt}
use Rattle.asking.specs.Table.{word_first}
use Rattle.asking.specs.RecordWords.{kind_at, next_at, due_behind, is_done}

-- ---- the kind of a record
module _ (at : ℕ) (l : List ℕ) where
  pub kind-rate : word_first (spelt " rate") l ≡ true → some_word (pos 1) (at + 5) ≡ kind_at at l
  unfolding kind_at
  kind-rate e = rw e

  module _ (e : word_first (spelt " rate") l ≡ false) where
    pub kind-shot : word_first (spelt " shot") l ≡ true → some_word (pos 2) (at + 5) ≡ kind_at at l
    unfolding kind_at
    kind-shot f = rw (e, f)

    module _ (f : word_first (spelt " shot") l ≡ false) where
      pub kind-reel : word_first (spelt " reel") l ≡ true → some_word (pos 3) (at + 5) ≡ kind_at at l
      unfolding kind_at
      kind-reel g = rw (e, f, g)

      pub kind-none : word_first (spelt " reel") l ≡ false → None ≡ kind_at at l
      unfolding kind_at
      kind-none g = rw (e, f, g)

-- ---- what is due
pub next-kind : (due at : ℕ) (l : List ℕ) → due ≡ 0 → kind_at at l ≡ next_at due at l
unfolding next_at
next-kind zero at l e = refl
next-kind (suc due) at l e = absurd (omega arith)

pub next-number : (due at : ℕ) (l : List ℕ) → (due ≡ 0 → ⊥) → number_at at l ≡ next_at due at l
unfolding next_at
next-number zero at l h = absurd (h refl)
next-number (suc due) at l h = refl

pub due-less : (due : ℕ) (z : ℤ) → (due ≡ 0 → ⊥) → due - 1 ≡ due_behind due z
unfolding due_behind
due-less zero z h = absurd (h refl)
due-less (suc due) z h = omega arith

module _ (due : ℕ) (z : ℤ) (e : due ≡ 0) where
  pub due-two : nat_abs z ≡ 2 → 2 ≡ due_behind due z
  unfolding due_behind
  due-two f = rw (e, eq-eqb (nat_abs z) 2 f)

  pub due-one : (nat_abs z ≡ 2 → ⊥) → 1 ≡ due_behind due z
  unfolding due_behind
  due-one f = rw (e, ne_eqb (nat_abs z) 2 f)

module _ (line : List ℕ) (at due : ℕ) where
  pub done-not : (due ≡ 0 → ⊥) → false ≡ is_done line at due
  unfolding is_done
  done-not h = rw (ne_eqb due 0 h)

  pub done-ended : due ≡ 0 → leb (length line) at ≡ is_done line at due
  unfolding is_done
  done-ended e = rw (eq-eqb due 0 e)
