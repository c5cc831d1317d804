-- A line taken apart: where its first word ends.
-- Assumes nothing.
use Rattle.std.specs.List.{position_or_len}
use Rattle.std.specs.Prelude.{None, Option}
use Rattle.asking.specs.Numbers.{some_word}
use Rattle.std.specs.Prelude.{Some, None}
use Prim.Native.Nat.{ℕ, zero, suc, ◌+◌, ◌-◌, ◌≤◌, ◌<◌}
use mathlib.Core.Path.{◌≡◌, refl, sym, ap, ◌∙◌}
use mathlib.Core.List.{List, [], ◌∷◌}
use mathlib.Core.Bool.{Bool, true, false, cond, not, ◌&&◌, and-eq-true_iff}
use native.Mathlib.Omega.{arith}
use lib.ListN.{length, take, drop, set, get_or, length-drop, drop_of_length-le}
use lib.Seq.{drop-cons, drop-drop}
use lib.Dec.{eqb, ltb}
use lib.IntN.{ℤ, pos}
use borrow.Author.Tests.{lt-ltb, le-ltb, ltb-true, ltb-false, eq-eqb, ne_eqb, eqb-true, not-true}
use Rattle.asking.specs.declared.values.Word.{Word}
use Rattle.asking.specs.declared.words.Value.{Value}
use Rattle.asking.specs.Numbers.{signed_at, number_at}
use Rattle.asking.specs.ShardWords.{shards_at}
use Rattle.laws.specs.Spelt.{spelt}
use Rattle.asking.specs.Table.{word_of, is_plain, word_first, is_over, row_count, row_named, kind_of}
use Rattle.asking.specs.Asked.{value, is_position, is_unstated, is_marked, value_at, allowed, word_at, is_last, rest_at}
use Rattle.asking.specs.Asked.{unknown, no_values, ended_at, word_then, words_from, asked_of}
use Rattle.asking.proofs.Standing.{word-front}

-- ---- where the first word ends
pub first-space : (line : List ℕ) → position_or_len (λ b. eqb b 32) line ≡ length (word_of line)
unfolding word_of
first-space [] = refl
first-space (b ∷ l) = by (eqb b 32) (first-space l)
  where
    by : (t : Bool) → position_or_len (λ c. eqb c 32) l ≡ length (word_of l)
        → cond (not t) (1 + position_or_len (λ c. eqb c 32) l) 0 ≡ length (cond t [] (b ∷ word_of l))
    by true e = refl
    by false e = omega arith

-- ---- the word is the line's first bytes, and has no space
word-within-by : (b : ℕ) (l : List ℕ) (t : Bool) → length (word_of l) ≤ length l → length (cond t [] (b ∷ word_of l)) ≤ suc (length l)
word-within-by b l true h = omega arith
word-within-by b l false h = omega arith

pub word-within : (line : List ℕ) → length (word_of line) ≤ length line
unfolding word_of
word-within [] = omega arith
word-within (b ∷ l) = word-within-by b l (eqb b 32) (word-within l)

word-first-by : (b : ℕ) (l : List ℕ) (t : Bool) → take (length (word_of l)) l ≡ word_of l → take (length (cond t [] (b ∷ word_of l))) (b ∷ l) ≡ cond t [] (b ∷ word_of l)
word-first-by b l true e = refl
word-first-by b l false e = ap (λ z. b ∷ z) e

pub word_first_lem : (line : List ℕ) → take (length (word_of line)) line ≡ word_of line
unfolding word_of
word_first_lem [] = refl
word_first_lem (b ∷ l) = word-first-by b l (eqb b 32) (word_first_lem l)

word-plain-by : (b : ℕ) (l : List ℕ) (t : Bool) → eqb b 32 ≡ t → is_plain (word_of l) ≡ true → is_plain (cond t [] (b ∷ word_of l)) ≡ true
unfolding is_plain
word-plain-by b l true e p = refl
word-plain-by b l false e p = rw (e, p)

pub word-plain : (line : List ℕ) → is_plain (word_of line) ≡ true
unfolding word_of is_plain
word-plain [] = refl
word-plain (b ∷ l) = word-plain-by b l (eqb b 32) refl (word-plain l)

-- ---- two tests
pub and-false : (t : Bool) → (t && false) ≡ false
and-false true = refl
and-false false = refl

-- ---- where a word is over
pub over-at : (line : List ℕ) (at : ℕ) → cond (ltb at (length line)) (eqb (get_or line at 0) 32) true ≡ is_over (drop at line)
unfolding is_over
over-at line at = by (ltb at (length line)) refl
  where
    by : (t : Bool) → ltb at (length line) ≡ t → cond t (eqb (get_or line at 0) 32) true ≡ is_over (drop at line)
    by true e = rw (drop-cons line at 0 (ltb-true at (length line) e))
    by false e = rw (drop_of_length-le line {i = at} (ltb-false at (length line) e))

-- ---- the mark of a position
module _ (kind : ℕ) (l : List ℕ) where
  pub position-none : (kind ≡ 64 → ⊥) → false ≡ is_position kind l
  unfolding is_position
  position-none e = rw (ne_eqb kind 64 e)

  pub position-by : kind ≡ 64 → word_first (spelt " @") l ≡ is_position kind l
  unfolding is_position
  position-by e = rw (eq-eqb kind 64 e)

  -- what it tells: the letter, and the line's next two bytes
  pub position-told : is_position kind l ≡ true → (kind ≡ 64) × (l ≡ 32 ∷ 64 ∷ drop 2 l)
  unfolding is_position
  position-told e =
      let q = (and-eq-true_iff (eqb kind 64) (word_first (spelt " @") l)).0 e in
      (eqb-true kind 64 q.0, word-front (spelt " @") l q.1)

-- ---- a film format that is not stated
module _ (kind : ℕ) (l : List ℕ) where
  pub unstated-none : (kind ≡ 102 → ⊥) → false ≡ is_unstated kind l
  unfolding is_unstated
  unstated-none e = rw (ne_eqb kind 102 e)

  pub unstated-apart : word_first (spelt " -") l ≡ false → false ≡ is_unstated kind l
  unfolding is_unstated
  unstated-apart f = rw f (sym (and-false (eqb kind 102)))

  -- what it tells: the letter, the line's next two bytes, and that the word is over behind them
  pub unstated-told : is_unstated kind l ≡ true → (kind ≡ 102) × ((l ≡ 32 ∷ 45 ∷ drop 2 l) × (is_over (drop 2 l) ≡ true))
  unfolding is_unstated
  unstated-told e =
      let q = (and-eq-true_iff (eqb kind 102) (word_first (spelt " -") l && is_over (drop 2 l))).0 e in
      let s = (and-eq-true_iff (word_first (spelt " -") l) (is_over (drop 2 l))).0 q.1 in
      (eqb-true kind 102 q.0, (word-front (spelt " -") l s.0, s.1))

-- and by the place behind `-`
pub unstated-by : (kind : ℕ) (line : List ℕ) (at : ℕ) → kind ≡ 102 → word_first (spelt " -") (drop at line) ≡ true
    → is_over (drop (at + 2) line) ≡ is_unstated kind (drop at line)
unfolding is_unstated
unstated-by kind line at e f = rw (eq-eqb kind 102 e, f, drop-drop 2 at line)

-- ---- both are within the line
module _ (kind : ℕ) (line : List ℕ) (at : ℕ) where
  pub position_within : is_position kind (drop at line) ≡ true → at + 2 ≤ length line
  position_within e = omega (arith, ap length (position-told kind (drop at line) e).1, length-drop at line)

  pub unstated-within : is_unstated kind (drop at line) ≡ true → at + 2 ≤ length line
  unstated-within e = omega (arith, ap length (unstated-told kind (drop at line) e).1.0, length-drop at line)

-- ---- one of the two
module _ (kind : ℕ) (l : List ℕ) where
  pub marked-unstated : is_unstated kind l ≡ true → true ≡ is_marked kind l
  unfolding is_marked
  marked-unstated e = rw e

  pub marked-stated : is_unstated kind l ≡ false → is_position kind l ≡ is_marked kind l
  unfolding is_marked
  marked-stated e = rw e

-- ---- the number there
module _ (kind at : ℕ) (l : List ℕ) where
  pub value-unstated : is_unstated kind l ≡ true → value_at kind at l ≡ some_word (pos 0) (at + 2)
  unfolding value_at
  value-unstated e = rw e

  module _ (e : is_unstated kind l ≡ false) where
    pub value-marked : is_position kind l ≡ true → value_at kind at l ≡ signed_at (at + 2) (drop 2 l)
    unfolding value_at
    value-marked f = rw (e, f)

    pub value-plain : is_position kind l ≡ false → value_at kind at l ≡ number_at at l
    unfolding value_at
    value-plain f = rw (e, f)

-- ---- what stands there, by its letter
module _ (kind : ℕ) (line : List ℕ) (at : ℕ) where
  pub word-shards : kind ≡ 115 → shards_at line at ≡ word_at kind line at
  unfolding word_at
  word-shards e = rw (eq-eqb kind 115 e)

  pub word_number : (kind ≡ 115 → ⊥) → allowed kind (value_at kind at (drop at line)) ≡ word_at kind line at
  unfolding word_at
  word_number e = rw (ne_eqb kind 115 e)

-- shards have no mark
pub shards-unmarked : (kind : ℕ) (l : List ℕ) → kind ≡ 115 → is_marked kind l ≡ false
unfolding is_marked is_unstated is_position
shards-unmarked kind l e = rw e

-- ---- where the rest begins
module _ (kind : ℕ) (line : List ℕ) (at : ℕ) where
  pub rest_ended : length line ≤ at → Some at ≡ rest_at kind at (drop at line)
  unfolding rest_at
  rest_ended h = rw (drop_of_length-le line {i = at} h)

  module _ (h : at < length line) where
    pub rest-own : kind ≡ 42 → Some at ≡ rest_at kind at (drop at line)
    unfolding rest_at
    rest-own e = rw (drop-cons line at 0 h, eq-eqb kind 42 e)

    module _ (e : kind ≡ 42 → ⊥) where
      pub rest-none : (kind ≡ 116 → ⊥) → None ≡ rest_at kind at (drop at line)
      unfolding rest_at
      rest-none f = rw (drop-cons line at 0 h, ne_eqb kind 42 e, ne_eqb kind 116 f)

      pub rest-other : (get_or line at 0 ≡ 32 → ⊥) → None ≡ rest_at kind at (drop at line)
      unfolding rest_at
      rest-other f = rw (drop-cons line at 0 h, ne_eqb kind 42 e, ne_eqb (get_or line at 0) 32 f, and-false (eqb kind 116))

      pub rest-text : kind ≡ 116 → get_or line at 0 ≡ 32 → Some (at + 1) ≡ rest_at kind at (drop at line)
      unfolding rest_at
      rest-text f g = rw (drop-cons line at 0 h, ne_eqb kind 42 e, eq-eqb kind 116 f, eq-eqb (get_or line at 0) 32 g)

-- ---- the loop of `words`: what is wanted from here is what is wanted from the start
pub record Going (row : ℕ) (line : List ℕ) (from : ℕ) (values : List Value) (at k : ℕ) : Type 0 where
  pub n : ℕ
  pub left : k + n ≡ 5
  pub same : words_from 5 row line from 0 no_values ≡ words_from n row line at k values

pub going_start : (row : ℕ) (line : List ℕ) (from : ℕ) → Going row line from no_values from 0
going_start row line from = record { n = 5; left = refl; same = refl }

module _ (row : ℕ) (line : List ℕ) (from : ℕ) (values : List Value) (at k : ℕ) (s : Going row line from values at k) where
  pub going-within : (t : Bool) → t ≡ (ltb k 5 && not (is_last (kind_of row k))) → t ≡ true → k < 5
  going-within t e f = ltb-true k 5 ((and-eq-true_iff (ltb k 5) _).0 (sym e ∙ f)).0

  module _ (t : Bool) (e : t ≡ (ltb k 5 && not (is_last (kind_of row k)))) (f : t ≡ true) where
    more : (n : ℕ) → k + n ≡ 5
        → words_from n row line at k values
        ≡ word_then (word_at (kind_of row k) line at)
        (λ z next. words_from (n - 1) row line next (k + 1) (set values k (value z (is_marked (kind_of row k) (drop at line)))))
    unfolding words_from
    more zero l = absurd (omega (arith, going-within t e f))
    more (suc n) l =
        let m : suc n - 1 ≡ n = omega arith in
        rw (not-true (is_last (kind_of row k)) ((and-eq-true_iff (ltb k 5) _).0 (sym e ∙ f)).1, m)

    -- by the word there
    module _ (kind : ℕ) (i : kind ≡ kind_of row k) (w : Option Word) (j : w ≡ word_at kind line at) where
      pub going-none : w ≡ None → unknown ≡ words_from 5 row line from 0 no_values
      going-none g = sym (s.same ∙ more s.n s.left ∙ rw (← i, ← j, g))

      -- and by the letter that its mark was looked for with
      pub going-turn : (z : ℤ) (next : ℕ) (b : Bool) (mark : ℕ) → w ≡ some_word z next → b ≡ is_marked mark (drop at line) → mark ≡ kind
          → Going row line from (set values k (value z b)) next (k + 1)
      going-turn z next b mark g h m = record {
        n = s.n - 1;
        left = omega (arith, going-within t e f, s.left);
        same = s.same ∙ more s.n s.left ∙ rw (← i, ← j, g, h, m);
      }

  pub going-ended : (t : Bool) → t ≡ (ltb k 5 && not (is_last (kind_of row k))) → t ≡ false
      → ended_at row line at k values ≡ words_from 5 row line from 0 no_values
  unfolding words_from
  going-ended t e f = sym (s.same ∙ by s.n s.left (is_last (kind_of row k)) refl)
    where
      by : (n : ℕ) → k + n ≡ 5 → (x : Bool) → is_last (kind_of row k) ≡ x → words_from n row line at k values ≡ ended_at row line at k values
      by zero l x g = refl
      by (suc n) l true g = rw g
      by (suc n) l false g =
          let y : ◌≡◌ {A = Bool} false true = sym (sym e ∙ f) ∙ rw (lt-ltb k 5 (omega arith), g) in
          absurd (let z : ◌≡◌ {A = ℕ} 0 1 = cc in omega arith)

-- ---- the whole line
module _ (line : List ℕ) where
  -- the part that `word_end` cuts off is the word
  pub word-part : (n : ℕ) → n ≡ length (word_of line) → take n line ≡ word_of line
  word-part n e = ap (λ k. take k line) e ∙ word_first_lem line

  pub part-plain : (n : ℕ) → n ≡ length (word_of line) → is_plain (take n line) ≡ true
  part-plain n e = rw (word-part n e) (word-plain line)

  pub asked-known : (row : ℕ) → row ≡ row_named (word_of line) → row < row_count → words_from 5 row line (length (word_of line)) 0 no_values ≡ asked_of line
  unfolding asked_of
  asked-known row e h = rw (← e, lt-ltb row row_count h)

  pub asked-unknown : (row : ℕ) → row ≡ row_named (word_of line) → row_count ≤ row → unknown ≡ asked_of line
  unfolding asked_of
  asked-unknown row e h = rw (← e, le-ltb row row_count h)
