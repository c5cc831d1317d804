-- A line of the grammar is understood as it is made, and what is understood is made so: word by word.
-- Assumes nothing.
use Rattle.asking.specs.Numbers.{some_word}
use Rattle.std.specs.Prelude.{Some}
use Prim.Native.Nat.{ℕ, zero, suc, ◌+◌, ◌≤◌, ◌<◌}
use mathlib.Core.Path.{◌≡◌, refl, sym, ap, ◌∙◌}
use mathlib.Core.List.{List, [], ◌∷◌, ◌++◌}
use mathlib.Core.Bool.{Bool, true, false, cond, not, ◌&&◌, and-eq-true_iff}
use native.Mathlib.Omega.{arith}
use lib.Dec.{eqb, leb}
use lib.IntN.{ℤ, pos}
use lib.ListN.{length, drop, set, get_or, length-append, length-drop}
use lib.Seq.{drop-drop, drop-append_seam}
use borrow.Author.Tests.{eqb-true, eqb-false, lt-ltb, leb-true, not-true}
use Rattle.laws.specs.Every.{at_every}
use Rattle.asking.specs.declared.words.Value.{Value}
use Rattle.asking.specs.Table.{Row, row, rows, row_count, row_at, word_of, is_plain, same, is_over, row_from, row_named, kind_of}
use Rattle.asking.specs.Asked.{value, is_marked, value_at, is_in_range, is_shards, word_at, is_last, rest_at}
use Rattle.asking.specs.Asked.{asked, no_values, ended_at, word_then, words_from, asked_of}
use Rattle.asking.specs.Grammar.{Behind, ended, no_text, text, own, number, marked, unstated, shards, Asks, asks}
use Rattle.asking.specs.Statements.{placed_from}
use Rattle.asking.proofs.Numerals.{number-unmarked, plain-taken, number-left, marked-here, marked-taken, signed-left, unstated-here}
use Rattle.asking.proofs.Named.{name-plain}
use Rattle.asking.proofs.Taken.{marked-unstated, value-unstated, word-shards, shards-unmarked}
use Rattle.asking.proofs.ShardTexts.{shards-taken}

-- ---- the letter at a place of a row's letters
pub letter-here : (l : List ℕ) (k : ℕ) (x : ℕ) (r : List ℕ) → drop k l ≡ x ∷ r → get_or l k 32 ≡ x
letter-here [] zero x r e = let z : ◌≡◌ {A = ℕ} 0 1 = cc in absurd (omega arith)
letter-here [] (suc k) x r e = let z : ◌≡◌ {A = ℕ} 0 1 = cc in absurd (omega arith)
letter-here (y ∷ l) zero x r e = cc
letter-here (y ∷ l) (suc k) x r e = letter-here l k x r e

pub letter-none : (l : List ℕ) (k : ℕ) → drop k l ≡ [] → get_or l k 32 ≡ 32
letter-none [] zero e = refl
letter-none [] (suc k) e = refl
letter-none (y ∷ l) zero e = let z : ◌≡◌ {A = ℕ} 0 1 = cc in absurd (omega arith)
letter-none (y ∷ l) (suc k) e = letter-none l k e

pub letters-on : (l : List ℕ) (k : ℕ) (x : ℕ) (r : List ℕ) → drop k l ≡ x ∷ r → drop (k + 1) l ≡ r
letters-on l k x r e = sym (drop-drop 1 k l) ∙ ap (drop 1) e

-- how many letters before the last are numbers'
unfoldable pub numbers : List ℕ → ℕ
numbers [] = 0
numbers (k ∷ l) = cond (is_last k) 0 (suc (numbers l))

-- ---- the two ways on
module _ (n : ℕ) (line : List ℕ) (at k : ℕ) (values : List Value) where
  pub words_last : (m : ℕ) → is_last (kind_of n k) ≡ true → words_from m n line at k values ≡ ended_at n line at k values
  unfolding words_from
  words_last zero e = refl
  words_last (suc m) e = rw e

  pub words-number : (m : ℕ) → is_last (kind_of n k) ≡ false
      → words_from (suc m) n line at k values
      ≡ word_then (word_at (kind_of n k) line at)
      (λ z next. words_from m n line next (k + 1) (set values k (value z (is_marked (kind_of n k) (drop at line)))))
  unfolding words_from
  words-number m e = rw e

  ended_is : (kind : ℕ) (t : List ℕ) (begins : ℕ) → kind_of n k ≡ kind → drop at line ≡ t → rest_at kind at t ≡ Some begins
      → ended_at n line at k values ≡ asked n values begins
  unfolding ended_at
  ended_is kind t begins p q e = rw (p, q, e)

-- ---- what the grammar has behind a word is understood so
module _ (n : ℕ) (line : List ℕ) where
  last-is : (m at k begins kind : ℕ) (values : List Value) (t : List ℕ) → is_last kind ≡ true → kind_of n k ≡ kind → drop at line ≡ t
      → rest_at kind at t ≡ Some begins → words_from m n line at k values ≡ asked n values begins
  last-is m at k begins kind values t i p q e =
      words_last n line at k values m (ap is_last p ∙ i) ∙ ended_is n line at k values kind t begins p q e

  -- the place of what is left
  place_is : (at begins : ℕ) (t r : List ℕ) → drop at line ≡ t → at ≤ length line → begins + length r ≡ length line
      → begins + length r ≡ at + length t
  place_is at begins t r q w b = omega (arith, b, ap length q, length-drop at line)

  -- a number by its letter
  number_word : (at kind : ℕ) (t : List ℕ) (z : ℤ) (next : ℕ) → is_shards kind ≡ false → is_in_range kind z ≡ true → drop at line ≡ t
      → value_at kind at t ≡ some_word z next → word_at kind line at ≡ some_word z next
  unfolding word_at
  number_word at kind t z next s g q h = rw (s, q, h, g)

  -- what stands there, with its mark, is put into its place
  one-is : (m at k kind : ℕ) (values : List Value) (t : List ℕ) (b : Bool) (z : ℤ) (next : ℕ) → kind_of n k ≡ kind → is_last kind ≡ false
      → drop at line ≡ t → is_marked kind t ≡ b → word_at kind line at ≡ some_word z next
      → words_from (suc m) n line at k values ≡ words_from m n line next (k + 1) (set values k (value z b))
  one-is m at k kind values t b z next p e q f h = words-number n line at k values m (ap is_last p ∙ e) ∙ rw (p, q, f, h)

  behind-is : {at : ℕ} {letters t : List ℕ} {vs : List Value} {r : List ℕ} → Behind at letters t vs r
      → (m k begins : ℕ) (values : List Value) → drop k (row_at n).letters ≡ letters → drop at line ≡ t → at ≤ length line → numbers letters ≤ m
      → begins + length r ≡ length line
      → words_from m n line at k values ≡ asked n (placed_from k values vs) begins
  unfolding rest_at placed_from numbers is_in_range
  behind-is (ended {at}) m k begins values p q w c b =
      let e : at ≡ begins = omega (arith, place_is at begins [] [] q w b) in
      last-is m at k begins 32 values [] refl (letter-none (row_at n).letters k p) q (ap Some e)
  behind-is (no_text {at}) m k begins values p q w c b =
      let e : at ≡ begins = omega (arith, place_is at begins [] [] q w b) in
      last-is m at k begins 116 values [] refl (letter-here (row_at n).letters k 116 [] p) q (ap Some e)
  behind-is (text {at} {t}) m k begins values p q w c b =
      let e : at + 1 ≡ begins = omega (arith, place_is at begins (32 ∷ t) t q w b) in
      last-is m at k begins 116 values (32 ∷ t) refl (letter-here (row_at n).letters k 116 [] p) q (ap Some e)
  behind-is (own {at} {t}) m k begins values p q w c b =
      let e : at ≡ begins = omega (arith, place_is at begins t t q w b) in
      last-is m at k begins 42 values t refl (letter-here (row_at n).letters k 42 [] p) q (own_is at begins t e)
    where
      own_is : (at begins : ℕ) (t : List ℕ) → at ≡ begins → rest_at 42 at t ≡ Some begins
      own_is at begins [] e = ap Some e
      own_is at begins (x ∷ t) e = ap Some e
  behind-is (number {at} {kind} {letters} {d} {l} {z} {vs} {r} e s f g h i) zero k begins values p q w c b = absurd (omega (arith, rw e at c))
  behind-is (number {at} {kind} {letters} {d} {l} {z} {vs} {r} e s f g h i) (suc m) k begins values p q w c b =
      let long : length (drop at line) ≡ suc (length d + length l) = ap length q ∙ ap suc (length-append d l) in
      one-is m at k kind values (32 ∷ d ++ l) false z (at + 1 + length d) (letter-here (row_at n).letters k kind letters p) e q (number-unmarked f kind l)
      (number_word at kind (32 ∷ d ++ l) z (at + 1 + length d) s g q (plain-taken f kind at l h))
      ∙ behind-is i m (k + 1) begins (set values k (value z false)) (letters-on (row_at n).letters k kind letters p)
      (number-left line at d l q) (omega (arith, long, length-drop at line)) (omega (arith, rw e at c)) b
  behind-is (marked {at} {letters} {d} {l} {z} {vs} {r} f h i) zero k begins values p q w c b = absurd (omega (arith, c))
  behind-is (marked {at} {letters} {d} {l} {z} {vs} {r} f h i) (suc m) k begins values p q w c b =
      let long : length (drop at line) ≡ suc (suc (length d + length l)) = ap length q ∙ ap (λ x. suc (suc x)) (length-append d l) in
      one-is m at k 64 values (32 ∷ 64 ∷ d ++ l) true z (at + 2 + length d) (letter-here (row_at n).letters k 64 letters p) refl q (marked-here (d ++ l))
      (number_word at 64 (32 ∷ 64 ∷ d ++ l) z (at + 2 + length d) refl refl q (marked-taken f at l h))
      ∙ behind-is i m (k + 1) begins (set values k (value z true)) (letters-on (row_at n).letters k 64 letters p)
      (signed-left line (at + 2) d l (sym (drop-drop 2 at line) ∙ ap (drop 2) q)) (omega (arith, long, length-drop at line)) (omega (arith, c)) b
  behind-is (unstated {at} h i) zero k begins values p q w c b = absurd (omega (arith, c))
  behind-is (unstated {at} {letters} {l} {vs} {r} h i) (suc m) k begins values p q w c b =
      let e = unstated-here l h in
      one-is m at k 102 values (32 ∷ 45 ∷ l) true (pos 0) (at + 2) (letter-here (row_at n).letters k 102 letters p) refl q
      (sym (marked-unstated 102 _ e)) (number_word at 102 (32 ∷ 45 ∷ l) (pos 0) (at + 2) refl refl q (value-unstated 102 at _ e))
      ∙ behind-is i m (k + 1) begins (set values k (value (pos 0) true)) (letters-on (row_at n).letters k 102 letters p)
      (sym (drop-drop 2 at line) ∙ ap (drop 2) q) (omega (arith, ap length q, length-drop at line)) (omega (arith, c)) b
  behind-is (shards {at} {letters} {w} {l} {ys} {zs} {vs} {r} s o i) zero k begins values p q v c b = absurd (omega (arith, c))
  behind-is (shards {at} {letters} {w} {l} {ys} {zs} {vs} {r} s o i) (suc m) k begins values p q v c b =
      let long : length (drop at line) ≡ suc (length w + length l) = ap length q ∙ ap suc (length-append w l) in
      one-is m at k 115 values (32 ∷ w ++ l) false (pos (at + 1)) (at + 1 + length w) (letter-here (row_at n).letters k 115 letters p) refl q
      (shards-unmarked 115 (32 ∷ w ++ l) refl) (sym (word-shards 115 line at refl) ∙ shards-taken s line at l q o)
      ∙ behind-is i m (k + 1) begins (set values k (value (pos (at + 1)) false)) (letters-on (row_at n).letters k 115 letters p)
      (number-left line at w l q) (omega (arith, long, length-drop at line)) (omega (arith, c)) b

-- ---- the rows: the first row with a row's word is that row; a word is followed by a space or the line's end; five numbers at most
unfoldable pub is_formed : List ℕ → Bool
is_formed [] = true
is_formed (k ∷ []) = not (eqb k 32)
is_formed (k ∷ x ∷ l) = not (is_last k) && is_formed (x ∷ l)

is_row : Row → Bool
is_row r = is_formed r.letters && (leb (numbers r.letters) 5 && not (eqb (get_or r.letters 0 32) 42))

are_own : ℕ → List Row → Bool
are_own i [] = true
are_own i (r ∷ rs) = eqb (row_named r.name) i && are_own (suc i) rs

own_at : (rs : List Row) (i n : ℕ) → are_own i rs ≡ true → n < length rs → row_named (get_or rs n (row "" "")).name ≡ i + n
unfolding are_own
own_at [] i n e h = absurd (omega arith)
own_at (r ∷ rs) i zero e h = eqb-true (row_named r.name) i ((and-eq-true_iff _ _).0 e).0 ∙ omega arith
own_at (r ∷ rs) i (suc n) e h = own_at rs (suc i) n ((and-eq-true_iff (eqb (row_named r.name) i) _).0 e).1 (omega arith) ∙ omega arith

module _ (n : ℕ) (h : n < row_count) where
  row-own : row_named (row_at n).name ≡ n
  unfolding rows are_own row_from same
  row-own = own_at rows 0 n refl h ∙ omega arith

  row_is : is_row (row_at n) ≡ true
  unfolding rows is_row is_formed numbers
  row_is = at_every is_row rows (row "" "") refl n h

  pub row-formed : is_formed (row_at n).letters ≡ true
  unfolding is_row
  row-formed = ((and-eq-true_iff (is_formed (row_at n).letters) _).0 row_is).0

  pub row-five : numbers (row_at n).letters ≤ 5
  unfolding is_row
  row-five = leb-true _ _ ((and-eq-true_iff (leb (numbers (row_at n).letters) 5) _).0 ((and-eq-true_iff (is_formed (row_at n).letters) _).0 row_is).1).0

  row_opens : get_or (row_at n).letters 0 32 ≡ 42 → ⊥
  unfolding is_row
  row_opens =
      eqb-false _ _ (not-true _ ((and-eq-true_iff (leb (numbers (row_at n).letters) 5) _).0 ((and-eq-true_iff (is_formed (row_at n).letters) _).0 row_is).1).1)

-- ---- a word and what stands behind it
behind-opens : {at : ℕ} {letters t : List ℕ} {vs : List Value} {r : List ℕ} → Behind at letters t vs r → (get_or letters 0 32 ≡ 42 → ⊥) → is_over t ≡ true
unfolding is_over
behind-opens ended h = refl
behind-opens no_text h = refl
behind-opens text h = refl
behind-opens own h = absurd (h refl)
behind-opens (number e s f g i j) h = refl
behind-opens (marked e f g) h = refl
behind-opens (unstated e f) h = refl
behind-opens (shards e f g) h = refl

word-is : (name t : List ℕ) → is_plain name ≡ true → is_over t ≡ true → word_of (name ++ t) ≡ name
unfolding word_of is_plain is_over
word-is [] [] p o = refl
word-is [] (b ∷ t) p o = rw o
word-is (b ∷ name) t p o =
    let q = (and-eq-true_iff (not (eqb b 32)) (is_plain name)).0 p in
    rw (not-true (eqb b 32) q.0, word-is name t q.1 o)

pub understood : (line : List ℕ) (n : ℕ) (vs : List Value) (r : List ℕ) (begins : ℕ) → Asks line n vs r → begins + length r ≡ length line
    → asked_of line ≡ asked n (placed_from 0 no_values vs) begins
unfolding asked_of
understood _ _ _ _ begins (asks {n} {t} {r} {vs} h b) e =
    let name = (row_at n).name in
    let word : word_of (name ++ t) ≡ name = word-is name t (name-plain n h) (behind-opens b (row_opens n h)) in
    let found : row_named (word_of (name ++ t)) ≡ n = ap row_named word ∙ row-own n h in
    rw (found, lt-ltb n row_count h, word)
    (behind-is n (name ++ t) b 5 0 begins no_values refl (drop-append_seam name t) (omega (arith, length-append name t)) (row-five n h) e)
