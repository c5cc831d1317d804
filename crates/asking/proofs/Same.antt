-- Two words, or two ranges, that are the same have the same parts.
-- Assumes nothing.
use Rattle.std.specs.Prelude.{Some}
use Prim.Native.Nat.{ℕ}
use Rattle.std.specs.Prelude.{ℤ}
use mathlib.Core.Path.{◌≡◌, ap}
use Rattle.asking.specs.declared.values.Word.{Word}
use Rattle.asking.specs.declared.sharded.Range.{Range}
use Rattle.asking.specs.Numbers.{some_word}
use Rattle.asking.specs.ShardWords.{some_range}

some_same : {A : Type 0} (a b : A) → Some a ≡ Some b → a ≡ b
some_same a b e = cc

module _ {x y : ℤ} {m n : ℕ} (e : some_word x m ≡ some_word y n) where
  words_same : ◌≡◌ {A = Word} (record { number = x; next = m }) (record { number = y; next = n })
  words_same = some_same _ _ e

  pub number-value : x ≡ y
  number-value = ap (λ w. w.number) words_same

  pub number-next : m ≡ n
  number-next = ap (λ w. w.next) words_same

module _ {x y u v : ℤ} {m n : ℕ} (e : some_range x u m ≡ some_range y v n) where
  ranges_same : ◌≡◌ {A = Range} (record { first = x; end = u; next = m }) (record { first = y; end = v; next = n })
  ranges_same = some_same _ _ e

  pub range-first : x ≡ y
  range-first = ap (λ r. r.first) ranges_same

  pub range-end : u ≡ v
  range-end = ap (λ r. r.end) ranges_same

  pub range-next : m ≡ n
  range-next = ap (λ r. r.next) ranges_same
