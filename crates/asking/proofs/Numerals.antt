-- The number that stands at a place is the one that the grammar has there, and there is no other.
-- Assumes nothing.
use Rattle.asking.proofs.Same.{number-value, number-next}
use Rattle.std.specs.Prelude.{None}
use Rattle.asking.specs.Numbers.{some_word}
use Prim.Native.Nat.{ℕ, suc, ◌+◌}
use mathlib.Core.Path.{◌≡◌, refl, sym, ap, subst, ◌∙◌}
use mathlib.Core.List.{List, [], ◌∷◌, ◌++◌}
use mathlib.Core.Bool.{Bool, true, false, cond}
use native.Mathlib.Omega.{arith}
use lib.Dec.{eqb}
use lib.IntN.{ℤ}
use lib.ListN.{length, drop}
use lib.Seq.{drop-drop, drop-append_seam}
use borrow.Author.Tests.{eqb-true, eqb-false, ne_eqb}
use Rattle.numbers.specs.Sign.{signed}
use Rattle.digits.specs.Digits.{is_byte, is_digit, IsField, value_of, first_is, digit_first, span, leading}
use Rattle.digits.proofs.Values.{all_head}
use Rattle.digits.proofs.Runs.{span_run, leading-run, leading-field, leading_length, leading-rest, span-stops}
use Rattle.asking.specs.Numbers.{is_within, signed_word, digits_at, signed_at, number_at}
use Rattle.asking.specs.Table.{word_first, is_over}
use Rattle.asking.specs.Asked.{is_position, is_unstated, is_marked, value_at}
use Rattle.asking.specs.Grammar.{Numeral, plain, minus}
use Rattle.asking.proofs.Taken.{and-false, marked-stated, value-plain}

-- ---- a number of the grammar is taken
digits-taken : (sign : Bool) (at : ℕ) (d l : List ℕ) → IsField d → is_within sign (value_of d) ≡ true → digit_first l ≡ false
    → digits_at sign at (d ++ l) ≡ some_word (signed sign (value_of d)) (at + length d)
unfolding digits_at signed_word
digits-taken sign at d l f w s =
    rw (leading-run d l f.digits s, span_run d l f.digits s, ne_eqb (length d) 0 (λ e. omega (arith, e, f.some)), w)

true-false : true ≡ false → ⊥
true-false e = let z : ◌≡◌ {A = ℕ} 0 1 = cc in omega arith

-- a byte that is no digit is not the first of digits
pub not_first : (c : ℕ) (d l : List ℕ) → IsField d → is_digit c ≡ false → first_is (is_byte c) (d ++ l) ≡ false
not_first c [] l f h = absurd (omega (arith, f.some))
not_first c (b ∷ d) l f h = ne_eqb b c (λ e. true-false (sym (all_head b d f.digits) ∙ ap is_digit e ∙ h))

pub signed-taken : {d : List ℕ} {z : ℤ} → Numeral d z → (at : ℕ) (l : List ℕ) → digit_first l ≡ false → signed_at at (d ++ l) ≡ some_word z (at + length d)
unfolding signed_at
signed-taken (plain {d} f w) at l s = rw (not_first 45 d l f refl) (digits-taken false at d l f w s)
signed-taken (minus {d} f w) at l s =
    let e : at + 1 + length d ≡ at + suc (length d) = omega arith in
    digits-taken true (at + 1) d l f w s ∙ rw e

pub number-taken : {d : List ℕ} {z : ℤ} → Numeral d z → (at : ℕ) (l : List ℕ) → digit_first l ≡ false
    → number_at at (32 ∷ d ++ l) ≡ some_word z (at + 1 + length d)
unfolding number_at
number-taken f at l s = signed-taken f (at + 1) l s

-- behind its mark
pub marked-here : (l : List ℕ) → is_marked 64 (32 ∷ 64 ∷ l) ≡ true
unfolding is_marked is_unstated is_position word_first
marked-here l = refl

pub marked-taken : {d : List ℕ} {z : ℤ} → Numeral d z → (at : ℕ) (l : List ℕ) → digit_first l ≡ false
    → value_at 64 at (32 ∷ 64 ∷ d ++ l) ≡ some_word z (at + 2 + length d)
unfolding value_at is_unstated is_position word_first
marked-taken f at l s = signed-taken f (at + 2) l s

-- no mark is a number's first byte, and `-` alone is no number
no-mark : {d : List ℕ} {z : ℤ} → Numeral d z → (l : List ℕ) → first_is (is_byte 64) (d ++ l) ≡ false
no-mark (plain {d} f w) l = not_first 64 d l f refl
no-mark (minus f w) l = refl

no-position : {d : List ℕ} {z : ℤ} → Numeral d z → (kind : ℕ) (l : List ℕ) → is_position kind (32 ∷ d ++ l) ≡ false
unfolding is_position word_first
no-position f kind l = rw (no-mark f l) (and-false (eqb kind 64))

pub not-over : (d l : List ℕ) → IsField d → is_over (d ++ l) ≡ false
unfolding is_over
not-over [] l f = absurd (omega (arith, f.some))
not-over (b ∷ d) l f = not_first 32 (b ∷ d) l f refl

stated : {d : List ℕ} {z : ℤ} → Numeral d z → (kind : ℕ) (l : List ℕ) → is_unstated kind (32 ∷ d ++ l) ≡ false
unfolding is_unstated word_first
stated (plain {d} f w) kind l = rw (not_first 45 d l f refl) (and-false (eqb kind 102))
stated (minus {d} f w) kind l = rw (not-over d l f) (and-false (eqb kind 102))

pub number-unmarked : {d : List ℕ} {z : ℤ} → Numeral d z → (kind : ℕ) (l : List ℕ) → is_marked kind (32 ∷ d ++ l) ≡ false
number-unmarked f kind l = sym (marked-stated kind _ (stated f kind l)) ∙ no-position f kind l

pub plain-taken : {d : List ℕ} {z : ℤ} → Numeral d z → (kind at : ℕ) (l : List ℕ) → digit_first l ≡ false
    → value_at kind at (32 ∷ d ++ l) ≡ some_word z (at + 1 + length d)
plain-taken f kind at l s = value-plain kind at _ (stated f kind l) (no-position f kind l) ∙ number-taken f at l s

-- `-` alone, of a film format
pub unstated-here : (l : List ℕ) → is_over l ≡ true → is_unstated 102 (32 ∷ 45 ∷ l) ≡ true
unfolding is_unstated word_first
unstated-here l e = e

-- ---- what is left behind it
pub signed-left : (line : List ℕ) (at : ℕ) (d l : List ℕ) → drop at line ≡ d ++ l → drop (at + length d) line ≡ l
signed-left line at d l q = sym (drop-drop (length d) at line) ∙ ap (drop (length d)) q ∙ drop-append_seam d l

pub number-left : (line : List ℕ) (at : ℕ) (d l : List ℕ) → drop at line ≡ 32 ∷ d ++ l → drop (at + 1 + length d) line ≡ l
number-left line at d l q = signed-left line (at + 1) d l (sym (drop-drop 1 at line) ∙ ap (drop 1) q)

-- ---- and what is taken is one
pub record Signed (at : ℕ) (l : List ℕ) (z : ℤ) (next : ℕ) : Type 0 where
  pub digits : List ℕ
  pub rest : List ℕ
  pub is : l ≡ digits ++ rest
  pub numeral : Numeral digits z
  pub stops : digit_first rest ≡ false
  pub past : next ≡ at + length digits

-- behind a space
pub record Taken (at : ℕ) (l : List ℕ) (z : ℤ) (next : ℕ) : Type 0 where
  pub digits : List ℕ
  pub rest : List ℕ
  pub is : l ≡ 32 ∷ digits ++ rest
  pub numeral : Numeral digits z
  pub stops : digit_first rest ≡ false
  pub past : next ≡ at + 1 + length digits

nothing : {z : ℤ} {next : ℕ} → None ≡ some_word z next → ⊥
nothing e = let z : ◌≡◌ {A = ℕ} 0 1 = cc in omega arith

-- of digits behind a sign
record Digits (sign : Bool) (at : ℕ) (l : List ℕ) (z : ℤ) (next : ℕ) : Type 0 where
  some : span l ≡ 0 → ⊥
  within : is_within sign (value_of (leading l)) ≡ true
  value : z ≡ signed sign (value_of (leading l))
  past : next ≡ at + span l

digits-told : (sign : Bool) (at : ℕ) (l : List ℕ) (z : ℤ) (next : ℕ) → digits_at sign at l ≡ some_word z next → Digits sign at l z next
unfolding digits_at signed_word
digits-told sign at l z next e = by (eqb (span l) 0) refl (is_within sign (value_of (leading l))) refl e
  where
    by : (x : Bool) → eqb (span l) 0 ≡ x → (y : Bool) → is_within sign (value_of (leading l)) ≡ y
        → cond x None (cond y (some_word (signed sign (value_of (leading l))) (at + span l)) None) ≡ some_word z next
        → Digits sign at l z next
    by true p y q f = absurd (nothing f)
    by false p true q f = record { some = eqb-false (span l) 0 p; within = q; value = sym (number-value f); past = sym (number-next f) }
    by false p false q f = absurd (nothing f)

module _ (at : ℕ) (t : List ℕ) (z : ℤ) (next : ℕ) where
  plain-told : Digits false at t z next → Signed at t z next
  plain-told d = record {
    digits = leading t;
    rest = drop (span t) t;
    is = sym (leading-rest t);
    numeral = subst (Numeral (leading t)) (sym d.value) (plain (leading-field t d.some) d.within);
    stops = span-stops t;
    past = omega (arith, d.past, leading_length t);
  }

  minus-told : Digits true (at + 1) t z next → Signed at (45 ∷ t) z next
  minus-told d = record {
    digits = 45 ∷ leading t;
    rest = drop (span t) t;
    is = ap (λ u. 45 ∷ u) (sym (leading-rest t));
    numeral = subst (Numeral (45 ∷ leading t)) (sym d.value) (minus (leading-field t d.some) d.within);
    stops = span-stops t;
    past = omega (arith, d.past, leading_length t);
  }

pub signed-told : (at : ℕ) (t : List ℕ) (z : ℤ) (next : ℕ) → signed_at at t ≡ some_word z next → Signed at t z next
unfolding signed_at
signed-told at [] z next e = plain-told at [] z next (digits-told false at [] z next e)
signed-told at (c ∷ t) z next e = by (eqb c 45) refl e
  where
    by : (x : Bool) → eqb c 45 ≡ x → cond x (digits_at true (at + 1) t) (digits_at false at (c ∷ t)) ≡ some_word z next → Signed at (c ∷ t) z next
    by true p f = rw (eqb-true c 45 p) (minus-told at t z next (digits-told true (at + 1) t z next f))
    by false p f = plain-told at (c ∷ t) z next (digits-told false at (c ∷ t) z next f)

pub number-told : (at : ℕ) (l : List ℕ) (z : ℤ) (next : ℕ) → number_at at l ≡ some_word z next → Taken at l z next
unfolding number_at
number-told at [] z next e = absurd (nothing e)
number-told at (b ∷ t) z next e = by (eqb b 32) refl e
  where
    by : (x : Bool) → eqb b 32 ≡ x → cond x (signed_at (at + 1) t) None ≡ some_word z next → Taken at (b ∷ t) z next
    by true p f =
        let s = signed-told (at + 1) t z next f in
        record {
          digits = s.digits;
          rest = s.rest;
          is = rw (eqb-true b 32 p) (ap (λ u. 32 ∷ u) s.is);
          numeral = s.numeral;
          stops = s.stops;
          past = s.past;
        }
    by false p f = absurd (nothing f)
