-- What is understood as a question is one of the grammar: each option that was taken stands there, and the rate behind them.
-- Assumes nothing.
use Prim.Native.Nat.{ℕ, ◌+◌, ◌≤◌}
use Rattle.std.specs.Prelude.{Option, Some, None}
use mathlib.Core.Path.{◌≡◌, refl, sym, ap, ◌∙◌, subst}
use mathlib.Core.List.{List, [], ◌∷◌, ◌++◌}
use mathlib.Core.Bool.{Bool, true, false, cond, not, ◌&&◌, and-eq-true_iff}
use native.Mathlib.Omega.{arith}
use lib.Dec.{eqb, leb}
use lib.ListN.{length, drop}
use borrow.Author.Tests.{eqb-true, leb-true}
use Rattle.laws.specs.Spelt.{spelt}
use Rattle.digits.specs.Digits.{is_byte, first_is, leading, run_of}
use Rattle.digits.proofs.Runs.{field-value, leading-field, leading_length, leading-rest, run-count, run_value}
use Rattle.asking.specs.Table.{word_first}
use Rattle.asking.proofs.Standing.{word-front}
use Rattle.timecodes.specs.declared.kinds.Kind.{Kind}
use Rattle.timecodes.specs.declared.kinds.Kind.TheVariants.{Length, Position}
use Rattle.timecodes.specs.Kinds.{is_position}
use Rattle.telling.specs.declared.told.Options.{Options}
use Rattle.telling.specs.declared.questions.Opening.{Opening}
use Rattle.telling.specs.Question.{one_of, is_number, no_option, with_position, with_format, format_at, format_after, format_behind, format_in, position_behind, option_in, option_of}
use Rattle.telling.specs.Grammar.{Numeral, numeral, PositionWord, short_position, long_position, FormatWord, short_format, long_format, Front, no-option, one_position, one_format, position_format, format_position}
use Rattle.telling.proofs.Passing.{behind, number_behind}

-- ---- a number that was taken
pub record Taken (l : List ℕ) : Type 0 where
  pub numeral_is : Numeral (leading l) (run_of l).value
  pub count_is : (run_of l).count ≡ length (leading l)
  pub parts : l ≡ leading l ++ drop (run_of l).count l

pub taken-number : (l : List ℕ) → is_number (run_of l) ≡ true → Taken l
unfolding is_number
taken-number l e =
    let q = (and-eq-true_iff (not (eqb (run_of l).count 0)) (leb (run_of l).count 9)).0 e in
    let c = run-count l in
    let most = leb-true (run_of l).count 9 q.1 in
    let n = leading_length l in
    let short : length (leading l) ≤ 9 = omega (arith, c, most, n) in
    record {
      numeral_is =
          subst (Numeral (leading l)) (sym (run_value l ∙ field-value (leading l) short))
          (numeral (leading-field l (λ z. nonzero q.0 (c ∙ z))) short);
      count_is = c ∙ sym n;
      parts = sym (ap (λ k. leading l ++ drop k l) c ∙ leading-rest l);
    }
  where
    nonzero : not (eqb (run_of l).count 0) ≡ true → (run_of l).count ≡ 0 → ⊥
    nonzero t z = let y : not (eqb 0 0) ≡ true = ap (λ k. not (eqb k 0)) (sym z) ∙ t in let w : ◌≡◌ {A = ℕ} 0 1 = cc in omega arith

-- a byte that stands in front
pub stands-front : (b : ℕ) (l : List ℕ) → first_is (is_byte b) l ≡ true → l ≡ b ∷ drop 1 l
stands-front b [] e = let z : ◌≡◌ {A = ℕ} 0 1 = cc in absurd (omega arith)
stands-front b (c ∷ l) e = ap (λ z. z ∷ l) (eqb-true c b e)

-- ---- an option that was taken
pub data Stepped (l : List ℕ) (o : Opening) : Opening → Type 0 where
  same : Stepped l o o
  by_position : {w : List ℕ} (r : List ℕ) → PositionWord w → l ≡ w ++ r → o.options.kind ≡ Length → Stepped l o (with_position o (length w))
  by_format : {v d : List ℕ} {n : ℕ} (r : List ℕ) → FormatWord v → Numeral d n → l ≡ v ++ (d ++ (32 ∷ r)) → o.options.format ≡ None
      → Stepped l o (with_format o n (o.at + length v + length d + 1))

stepped-number : (l : List ℕ) (o : Opening) (v : List ℕ) → FormatWord v → word_first v l ≡ true → o.options.format ≡ None
    → Stepped l o (format_at (drop (length v) l) o (o.at + length v))
unfolding format_at
stepped-number l o v k e f =
    by (is_number (run_of m)) (first_is (is_byte 32) (drop (run_of m).count m)) refl refl
  where
    m : List ℕ
    m = drop (length v) l

    by : (x y : Bool) → is_number (run_of (drop (length v) l)) ≡ x
        → first_is (is_byte 32) (drop (run_of (drop (length v) l)).count (drop (length v) l)) ≡ y
        → Stepped l o (cond (x && y)
        (with_format o (run_of (drop (length v) l)).value (o.at + length v + (run_of (drop (length v) l)).count + 1)) o)
    by false y p q = same
    by true false p q = same
    by true true p q =
        let m' = drop (length v) l in
        let t = taken-number m' p in
        let rest = drop (run_of m').count m' in
        let whole : l ≡ v ++ (leading m' ++ (32 ∷ drop 1 rest)) =
        word-front v l e ∙ ap (λ z. v ++ z) (t.parts ∙ ap (λ z. leading m' ++ z) (stands-front 32 rest q)) in
        subst (λ c. Stepped l o (with_format o (run_of m').value (o.at + length v + c + 1))) (sym t.count_is)
        (by_format (drop 1 rest) k t.numeral_is whole f)

stepped-format : (l : List ℕ) (o : Opening) → Stepped l o (format_in l o)
unfolding format_in one_of
stepped-format l o = by o.options.format refl
  where
    by_word : (x y : Bool) → word_first (spelt "-f ") l ≡ x → word_first (spelt "--format ") l ≡ y → o.options.format ≡ None
        → Stepped l o (format_behind l o (cond x (Some 3) (cond y (Some 9) None)))
    by_word true y p q e = stepped-number l o (spelt "-f ") short_format p e
    by_word false true p q e = stepped-number l o (spelt "--format ") long_format q e
    by_word false false p q e = same

    by : (stated : Option ℕ) → o.options.format ≡ stated → Stepped l o (format_after l o stated)
    by (Some format) e = same
    by None e = by_word (word_first (spelt "-f ") l) (word_first (spelt "--format ") l) refl refl e

-- what is no position is a length
a_length : (kind : Kind) → is_position kind ≡ false → kind ≡ Length
a_length Length e = refl
a_length Position e = let z : ◌≡◌ {A = ℕ} 0 1 = cc in absurd (omega arith)

pub stepped : (l : List ℕ) (o : Opening) → Stepped l o (option_in l o)
unfolding option_in one_of
stepped l o = by (is_position o.options.kind) (word_first (spelt "-p ") l) (word_first (spelt "--position ") l) refl refl refl
  where
    by : (t x y : Bool) → is_position o.options.kind ≡ t → word_first (spelt "-p ") l ≡ x → word_first (spelt "--position ") l ≡ y
        → Stepped l o (cond t (format_in l o) (position_behind l o (cond x (Some 3) (cond y (Some 11) None))))
    by true x y e p q = stepped-format l o
    by false true y e p q = by_position (drop 3 l) short_position (word-front (spelt "-p ") l p) (a_length o.options.kind e)
    by false false true e p q = by_position (drop 11 l) long_position (word-front (spelt "--position ") l q) (a_length o.options.kind e)
    by false false false e p q = stepped-format l o

-- ---- two of them
front_same : (line line' rest rest' : List ℕ) (o : Options) → line ≡ line' → rest ≡ rest' → Front line' rest' o → Front line rest o
front_same line line' rest rest' o e f k = subst (λ z. Front z rest o) (sym e) (subst (λ z. Front line' z o) (sym f) k)

never_two : Position ≡ Length → ⊥
never_two e = let z : ◌≡◌ {A = ℕ} 0 1 = cc in omega arith

never-stated : (n : ℕ) → ◌≡◌ {A = Option ℕ} (Some n) None → ⊥
never-stated n e = let z : ◌≡◌ {A = ℕ} 0 1 = cc in omega arith

front-two : (line : List ℕ) (o o' : Opening) → Stepped line no_option o → Stepped (drop o.at line) o o'
    → Front line (drop o'.at line) o'.options
front-two line o o' same same = no-option
front-two line o o' same (by_position {w = w} r k e f) =
    front_same line (w ++ r) _ r _ e (behind line 0 w r e) (one_position k)
front-two line o o' same (by_format {v = v} {d = d} {n = n} r k j e f) =
    front_same line (v ++ (d ++ (32 ∷ r))) _ r _ e (number_behind line 0 v d r e) (one_format k j)
front-two line o o' (by_position {w = w} r k e f) same =
    front_same line (w ++ r) _ r _ e (behind line 0 w r e) (one_position k)
front-two line o o' (by_position r k e f) (by_position s k' e' f') = absurd (never_two f')
front-two line o o' (by_position {w = w} r k e f) (by_format {v = v} {d = d} {n = n} s k' j e' f') =
    let at = behind line 0 w r e in
    let both : line ≡ w ++ (v ++ (d ++ (32 ∷ s))) = e ∙ ap (λ z. w ++ z) (sym at ∙ e') in
    front_same line (w ++ (v ++ (d ++ (32 ∷ s)))) _ s _ both (number_behind line (0 + length w) v d s e') (position_format k k' j)
front-two line o o' (by_format {v = v} {d = d} {n = n} r k j e f) same =
    front_same line (v ++ (d ++ (32 ∷ r))) _ r _ e (number_behind line 0 v d r e) (one_format k j)
front-two line o o' (by_format {v = v} {d = d} {n = n} r k j e f) (by_position {w = w} s k' e' f') =
    let at = number_behind line 0 v d r e in
    let both : line ≡ v ++ (d ++ (32 ∷ w ++ s)) = e ∙ ap (λ z. v ++ (d ++ (32 ∷ z))) (sym at ∙ e') in
    front_same line (v ++ (d ++ (32 ∷ w ++ s))) _ s _ both (behind line (0 + length v + length d + 1) w s e') (format_position k j k')
front-two line o o' (by_format r k j e f) (by_format s k' j' e' f') = absurd (never-stated _ f')

pub front_of : (line : List ℕ) → let o = option_of line (option_of line no_option) in Front line (drop o.at line) o.options
front_of line =
    let o = option_of line no_option in
    front-two line o (option_of line o) (stepped line no_option) (stepped (drop o.at line) o)
