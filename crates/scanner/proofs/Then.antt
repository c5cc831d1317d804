-- Each step of a reading: from what the scanner answered, on a text that is known, and back to what the text was.
-- Assumes nothing.
use Rattle.std.specs.Prelude.{Some, None}
use Prim.Native.Nat.{ℕ, zero, suc, ◌<◌}
use mathlib.Core.Path.{◌≡◌, refl, sym, ap, ◌∙◌}
use mathlib.Core.Logic.{◌⊎◌, inl, inr}
use mathlib.Core.List.{List, [], ◌∷◌, ◌++◌}
use mathlib.Core.Bool.{Bool, true, false}
use native.Mathlib.Omega.{arith}
use lib.ListN.{length, drop}
use lib.Seq.{drop-drop}
use Rattle.digits.specs.Digits.{IsField, first_is, digit_first, span, leading}
use Rattle.digits.proofs.Runs.{leading-run, after_run, leading-rest, leading_length, leading-field}
use Rattle.scanner.specs.declared.cursor.Cursor.{Cursor}
use Rattle.scanner.specs.declared.cursor.Field.{Field}
use Rattle.scanner.specs.Scan.{past_if, field_of}
use Rattle.scanner.specs.Then.{field_by, field_then, byte_then}
use Rattle.scanner.proofs.Answers.{was-next, was-other}

-- ---- a field
module _ {A : Type 0} (none : A) (then : (field : List ℕ) → List ℕ → A) where
  by-some : (d rest : List ℕ) → 0 < length d → field_by none then d rest ≡ then d rest
  by-some [] rest h = absurd (omega arith)
  by-some (b ∷ d) rest h = refl

  -- from the scanner's answer at a place
  module _ (s : List ℕ) (at : ℕ) (f : Field) (is : f ≡ field_of at (drop at s)) where
    count_is : f.count ≡ span (drop at s)
    unfolding field_of
    count_is = ap (λ (x : Field). x.count) is

    pub field-none : f.count ≡ 0 → field_then none then (drop at s) ≡ none
    unfolding field_then
    field-none e = let z = sym count_is ∙ e in rw z

    pub field-some : (f.count ≡ 0 → ⊥) → field_then none then (drop at s) ≡ then (leading (drop at s)) (drop f.next.at s)
    unfolding field_then field_of
    field-some h =
        by-some (leading (drop at s)) (drop (span (drop at s)) (drop at s)) (omega (arith, leading_length (drop at s), count_is, h))
        ∙ ap (then (leading (drop at s))) (drop-drop (span (drop at s)) at s ∙ sym (ap (λ (x : Field). drop x.next.at s) is))

  -- on a field, and a rest that does not go on with digits
  pub field-run : (d r : List ℕ) → IsField d → digit_first r ≡ false → field_then none then (d ++ r) ≡ then d r
  unfolding field_then
  field-run d r f e = rw (leading-run d r f.digits e, after_run d r f.digits e) (by-some d r f.some)

  -- and back: it gave `none`, or the text is a field and a rest
  pub record Begins (l : List ℕ) : Type 0 where
    pub field : List ℕ
    pub rest : List ℕ
    pub is : IsField field
    pub all : field ++ rest ≡ l
    pub gives : field_then none then l ≡ then field rest

  pub field-absent : (l : List ℕ) → span l ≡ 0 → field_then none then l ≡ none
  unfolding field_then
  field-absent l e = rw e

  begins-by : (l : List ℕ) (n : ℕ) → span l ≡ n → (field_then none then l ≡ none) ⊎ Begins l
  unfolding field_then
  begins-by l zero e = inl (field-absent l e)
  begins-by l (suc n) e =
      let i = leading-field l (λ z. omega arith) in
      inr record { field = leading l; rest = drop (span l) l; is = i; all = leading-rest l; gives = by-some (leading l) (drop (span l) l) i.some }

  pub begins : (l : List ℕ) → (field_then none then l ≡ none) ⊎ Begins l
  begins l = begins-by l (span l) refl

-- ---- a byte
module _ {A : Type 0} (test : ℕ → Bool) (other : A) (then : List ℕ → A) where
  -- on a byte that passes, and where none such stands
  pub byte-first : (c : ℕ) (l : List ℕ) → test c ≡ true → byte_then test other then (c ∷ l) ≡ then l
  unfolding byte_then
  byte-first c l e = rw e

  pub byte-not : (l : List ℕ) → first_is test l ≡ false → byte_then test other then l ≡ other
  unfolding byte_then
  byte-not l e = rw e

  -- from the scanner's answer at a place
  pub byte-other : (at : ℕ) (l : List ℕ) → None ≡ past_if test at l → byte_then test other then l ≡ other
  byte-other at l e = byte-not l (was-other test at l e)

  pub byte_next : (s : List ℕ) (at : ℕ) (next : Cursor) → Some next ≡ past_if test at (drop at s)
      → byte_then test other then (drop at s) ≡ then (drop next.at s)
  unfolding byte_then
  byte_next s at next e =
      let w = was-next test at (drop at s) next e in
      rw (w.0, w.1) (ap then (drop-drop 1 at s))

  -- and back: no such byte stands in front, or the text is one and a rest
  pub record Passing (l : List ℕ) : Type 0 where
    pub byte : ℕ
    pub rest : List ℕ
    pub passes : test byte ≡ true
    pub all : byte ∷ rest ≡ l
    pub gives : byte_then test other then l ≡ then rest

  passing-by : (c : ℕ) (l : List ℕ) (t : Bool) → test c ≡ t → (byte_then test other then (c ∷ l) ≡ other) ⊎ Passing (c ∷ l)
  passing-by c l true e = inr record { byte = c; rest = l; passes = e; all = refl; gives = byte-first c l e }
  passing-by c l false e = inl (byte-not (c ∷ l) e)

  pub passing : (l : List ℕ) → (byte_then test other then l ≡ other) ⊎ Passing l
  passing [] = inl (byte-not [] refl)
  passing (c ∷ l) = passing-by c l (test c) refl
