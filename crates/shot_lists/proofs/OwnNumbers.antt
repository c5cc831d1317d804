-- A record and its numbers: its kind and own numbers are taken as the record, and what is taken has no others.
-- Assumes nothing.
use Prim.Native.Nat.{ℕ, ◌≤◌, ◌<◌, ◌^◌}
use mathlib.Core.Path.{◌≡◌, refl, sym, ap, ap₂, ◌∙◌, subst}
use mathlib.Core.List.{List, [], ◌∷◌, ◌++◌}
use mathlib.Core.Bool.{Bool, true, false, cond, and-eq-true_iff}
use native.Mathlib.Omega.{arith}
use borrow.Author.Tests.{eqb-true, leb-true, ltb-true}
use lib.Dec.{eqb, leb, ltb}
use lib.IntN.{ℤ, pos, negsuc}
use lib.ListN.{length, take, get_or}
use Rattle.numbers.specs.Sign.{up_from}
use Rattle.answers.specs.Order.{Clear}
use Rattle.answers.specs.OrderLaws.{not_in}
use Rattle.rates.specs.Rates.{is_rate}
use Rattle.shot_lists.specs.declared.records.Record.{Record}
use Rattle.shot_lists.specs.declared.records.Record.TheVariants.{Rate, Shot, Reel}
use Rattle.shot_lists.specs.Records.{faults}
use Rattle.shot_lists.specs.Grammar.{OneByOne, none, more, record_numbers, list_numbers}
use Rattle.shot_lists.specs.Entries.{body_fixed, of_kind, in_numbers, entry_of, taken}
use Rattle.shot_lists.specs.Laws.{Spells, taken-told}

-- ---- they are taken as the record

own-spell : (r : Record) → Spells in_numbers r (record_numbers r)
unfolding body_fixed of_kind
own-spell (Rate n) = record { head = pos 1; body = pos n ∷ []; is = refl; fixed = refl; some = omega arith; made = λ m. refl }
own-spell (Shot first end) = record { head = pos 2; body = first ∷ end ∷ []; is = refl; fixed = refl; some = omega arith; made = λ m. refl }
own-spell (Reel n) = record { head = pos 3; body = pos n ∷ []; is = refl; fixed = refl; some = omega arith; made = λ m. refl }

pub numbers-spell : (r : Record) (l : List ℤ) → l ≡ record_numbers r → Spells in_numbers r l
numbers-spell r l e = subst (Spells in_numbers r) (sym e) (own-spell r)

-- ---- and what is taken has no others

up_is : (z : ℤ) (n : ℕ) → up_from z ≡ n → n < 18446744073709551615 → z ≡ pos n
up_is (pos m) n e h = ap pos e
up_is (negsuc m) n e h = absurd (omega arith)

rate-small : (n : ℕ) → is_rate n ≡ true → n ≤ 12
unfolding is_rate
rate-small n e = leb-true n 12 ((and-eq-true_iff (leb 1 n) (leb n 12)).0 e).1

module _ (held : ℕ) (x : ℤ) where
  own-by : (l : List ℤ) (p q s : Bool) → eqb (up_from x) 1 ≡ p → eqb (up_from x) 2 ≡ q → eqb (up_from x) 3 ≡ s
      → (◌≡◌ {A = ℕ} (cond p 1 (cond q 2 (cond s 1 0))) 0 → ⊥) → cond p 1 (cond q 2 (cond s 1 0)) ≤ length l
      → let r = cond p (Rate (up_from (get_or l 0 (pos 0)))) (cond q (Shot (get_or l 0 (pos 0)) (get_or l 1 (pos 0))) (Reel (up_from (get_or l 0 (pos 0))))) in
      Clear (faults held r) → x ∷ take (cond p 1 (cond q 2 (cond s 1 0))) l ≡ record_numbers r
  unfolding faults
  own-by [] true q s e f g known room clear = absurd (omega arith)
  own-by (a ∷ l) true q s e f g known room clear =
      let small = rate-small (up_from a) (not_in (is_rate (up_from a)) clear.0) in
      ap₂ (λ (y z : ℤ). y ∷ z ∷ []) (up_is x 1 (eqb-true (up_from x) 1 e) (omega arith)) (up_is a (up_from a) refl (omega arith))
  own-by [] false true s e f g known room clear = absurd (omega arith)
  own-by (a ∷ []) false true s e f g known room clear = absurd (omega arith)
  own-by (a ∷ b ∷ l) false true s e f g known room clear = ap (λ (y : ℤ). y ∷ a ∷ b ∷ []) (up_is x 2 (eqb-true (up_from x) 2 f) (omega arith))
  own-by [] false false true e f g known room clear = absurd (omega arith)
  own-by (a ∷ l) false false true e f g known room clear =
      let small = ltb-true (up_from a) (256 ^ 4) (not_in (ltb (up_from a) (256 ^ 4)) clear.0) in
      ap₂ (λ (y z : ℤ). y ∷ z ∷ []) (up_is x 3 (eqb-true (up_from x) 3 g) (omega arith)) (up_is a (up_from a) refl (omega arith))
  own-by l false false false e f g known room clear = absurd (known refl)

  pub numbers-spelt : (l : List ℤ) (r : Record) (after size : ℕ) → entry_of in_numbers held (x ∷ l) ≡ taken r after size → take size (x ∷ l) ≡ record_numbers r
  unfolding body_fixed of_kind
  numbers-spelt l r after size h =
      let t = taken-told in_numbers held x l r after size h in
      let clear = subst (λ (y : Record). Clear (faults held y)) (sym t.made) t.sound in
      ap (λ (n : ℕ). take n (x ∷ l)) t.long
      ∙ own-by l (eqb (up_from x) 1) (eqb (up_from x) 2) (eqb (up_from x) 3) refl refl refl t.known t.whole clear
      ∙ ap record_numbers t.made

-- ---- of a whole list

abbrev pub Own : Record → List ℤ → Type 0
Own r l = l ≡ record_numbers r

pub own-list : (rs : List Record) (l : List ℤ) → OneByOne Own rs l → l ≡ list_numbers rs
unfolding list_numbers
own-list rs l none = refl
own-list rs l (more r part rs₂ behind own rest) = ap₂ ◌++◌ own (own-list rs₂ behind rest)

pub list-own : (rs : List Record) → OneByOne Own rs (list_numbers rs)
unfolding list_numbers
list-own [] = none
list-own (r ∷ rs) = more r (record_numbers r) rs (list_numbers rs) refl (list-own rs)
