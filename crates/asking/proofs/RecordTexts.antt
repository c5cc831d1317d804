-- The grammar of records by what is due: nothing, a record's word, or one of its numbers; so the reader takes them.
-- Assumes nothing.
use Rattle.asking.proofs.Same.{number-value, number-next}
use Rattle.std.specs.Prelude.{None}
use Rattle.asking.specs.Numbers.{some_word}
use Prim.Native.Nat.{ℕ, suc, ◌+◌}
use mathlib.Core.Path.{◌≡◌, refl, sym}
use mathlib.Core.List.{List, [], ◌∷◌, ◌++◌}
use mathlib.Core.Bool.{Bool, true, false, cond}
use native.Mathlib.Omega.{arith}
use lib.IntN.{ℤ, pos}
use lib.ListN.{length, drop}
use Rattle.digits.specs.Digits.{digit_first}
use Rattle.laws.specs.Spelt.{spelt}
use Rattle.asking.specs.Table.{word_first}
use Rattle.asking.specs.RecordWords.{kind_at, due_behind}
use Rattle.asking.specs.Grammar.{Numeral, RecordWords, none, rate, shot, reel}
use Rattle.asking.proofs.Standing.{word-front}

-- a record's word, its kind, and how many numbers it has
pub data Worded : (word : List ℕ) → (kind : ℤ) → (due : ℕ) → Type 0 where
  is_rate : Worded (spelt " rate") (pos 1) 1
  is_shot : Worded (spelt " shot") (pos 2) 2
  is_reel : Worded (spelt " reel") (pos 3) 1

-- the rest of records, where so many numbers of one are due
pub data Due : (due : ℕ) → (text : List ℕ) → (numbers : List ℤ) → Type 0 where
  ended : Due 0 [] []
  word : {w t : List ℕ} {k : ℤ} {due : ℕ} {zs : List ℤ} → Worded w k due → Due due t zs → Due 0 (w ++ t) (k ∷ zs)
  number : {due : ℕ} {d t : List ℕ} {z : ℤ} {zs : List ℤ} → Numeral d z → Due due t zs → Due (suc due) (32 ∷ d ++ t) (z ∷ zs)

-- ---- the two are one
pub words-due : {t : List ℕ} {zs : List ℤ} → RecordWords t zs → Due 0 t zs
words-due none = ended
words-due (rate f r) = word is_rate (number f (words-due r))
words-due (shot f g r) = word is_shot (number f (number g (words-due r)))
words-due (reel f r) = word is_reel (number f (words-due r))

pub due-words : {t : List ℕ} {zs : List ℤ} → Due 0 t zs → RecordWords t zs
due-words ended = none
due-words (word is_rate (number f r)) = rate f (due-words r)
due-words (word is_shot (number f (number g r))) = shot f g (due-words r)
due-words (word is_reel (number f r)) = reel f (due-words r)

-- no digit stands in front of a rest
pub due-stops : {due : ℕ} {t : List ℕ} {zs : List ℤ} → Due due t zs → digit_first t ≡ false
due-stops ended = refl
due-stops (word is_rate r) = refl
due-stops (word is_shot r) = refl
due-stops (word is_reel r) = refl
due-stops (number f r) = refl

-- ---- a record's word is taken as its kind
pub worded-due : {w : List ℕ} {k : ℤ} {due : ℕ} → Worded w k due → due_behind 0 k ≡ due
unfolding due_behind
worded-due is_rate = refl
worded-due is_shot = refl
worded-due is_reel = refl

pub kind-taken : {w : List ℕ} {k : ℤ} {due : ℕ} → Worded w k due → (at : ℕ) (t : List ℕ) → kind_at at (w ++ t) ≡ some_word k (at + length w)
unfolding kind_at word_first
kind-taken is_rate at t = refl
kind-taken is_shot at t = refl
kind-taken is_reel at t = refl

-- ---- and what is taken so is one
pub record KindTold (at : ℕ) (l : List ℕ) (k : ℤ) (next : ℕ) : Type 0 where
  pub word : List ℕ
  pub due : ℕ
  pub worded : Worded word k due
  pub is : l ≡ word ++ drop (length word) l
  pub past : next ≡ at + length word

module _ (at : ℕ) (l : List ℕ) (k : ℤ) (next : ℕ) where
  -- the word that was found
  one_told : (w : List ℕ) (n : ℤ) (due : ℕ) → Worded w n due → word_first w l ≡ true → some_word n (at + length w) ≡ some_word k next → KindTold at l k next
  one_told w n due d e f = record {
    word = w;
    due = due;
    worded = rw (number-value f) at d;
    is = word-front w l e;
    past = sym (number-next f);
  }

  pub kind-told : kind_at at l ≡ some_word k next → KindTold at l k next
  unfolding kind_at
  kind-told e = by (word_first (spelt " rate") l) refl (word_first (spelt " shot") l) refl (word_first (spelt " reel") l) refl e
    where
      by : (x : Bool) → word_first (spelt " rate") l ≡ x → (y : Bool) → word_first (spelt " shot") l ≡ y → (z : Bool) → word_first (spelt " reel") l ≡ z
          → cond x (some_word (pos 1) (at + 5)) (cond y (some_word (pos 2) (at + 5)) (cond z (some_word (pos 3) (at + 5)) None)) ≡ some_word k next
          → KindTold at l k next
      by true p y q z r f = one_told (spelt " rate") (pos 1) 1 is_rate p f
      by false p true q z r f = one_told (spelt " shot") (pos 2) 2 is_shot q f
      by false p false q true r f = one_told (spelt " reel") (pos 3) 1 is_reel r f
      by false p false q false r f = let z : ◌≡◌ {A = ℕ} 0 1 = cc in absurd (omega arith)
