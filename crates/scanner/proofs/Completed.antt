-- As far as fields and a tail reach in a text, some text of the shape goes: what stands behind that beginning to make it one.
-- Assumes nothing.
use Prim.Native.Nat.{ℕ, zero, suc, ◌+◌, ◌-◌, ◌≤◌, ◌<◌}
use mathlib.Core.Path.{◌≡◌, refl, sym, ap, ◌∙◌, subst}
use mathlib.Core.Logic.{⊎_elim}
use mathlib.Core.List.{List, [], ◌∷◌, ◌++◌, append-nil, append_assoc}
use mathlib.Core.Bool.{Bool, true, false, cond}
use native.Mathlib.Omega.{arith}
use lib.Dec.{leb}
use lib.ListN.{length, take}
use lib.Seq.{take-append_seam, take-append-add}
use borrow.Author.Tests.{leb-true, leb-false, eqb-true}
use Rattle.digits.specs.Digits.{is_byte, all_digits, IsField, first_is, digit_first, span, leading}
use Rattle.digits.proofs.Runs.{leading-field}
use Rattle.scanner.specs.declared.fields.Dividers.{Dividers}
use Rattle.scanner.specs.declared.fields.Dividers.TheVariants.{Colon, ColonOrSemicolon, Plus}
use Rattle.scanner.specs.Scan.{divider_of, looked_for}
use Rattle.scanner.specs.Fields.{no_field, fields_in}
use Rattle.scanner.specs.Shapes.{FieldsShape, last, more, pointed}
use Rattle.scanner.proofs.Then.{passing}
use Rattle.scanner.proofs.Fronts.{looked-passes}
use Rattle.scanner.proofs.Bodies.{looked-open, point-some}
use Rattle.scanner.proofs.Reach.{tail_reach, reach, Begun, none, ends, goes, begun, reach-none, reach-last, reach-more}

-- ---- a tail
-- so far it begins one
record Tails (most : ℕ) (r : List ℕ) : Type 0 where
  pub behind : List ℕ
  pub tail : List ℕ
  pub digits : all_digits tail ≡ true
  pub allowed : 0 < length tail → 0 < most
  pub all : pointed tail ≡ take (tail_reach most r) r ++ behind

tail-begins : (most : ℕ) (r : List ℕ) → Tails most r
unfolding all_digits
tail-begins most r =
    ⊎_elim
    (λ e. record { behind = []; tail = []; digits = refl; allowed = λ h. omega arith; all = ap (λ (n : ℕ). take n r ++ []) (sym e) })
    (λ p. by p.byte p.rest p.passes p.all p.gives (span p.rest) refl)
    (passing (looked_for most (is_byte 46)) 0 (λ rest. suc (span rest)) r)
  where
    by : (c : ℕ) (w : List ℕ) → looked_for most (is_byte 46) c ≡ true → c ∷ w ≡ r → tail_reach most r ≡ suc (span w)
        → (n : ℕ) → span w ≡ n → Tails most r
    by c w passes all gives zero e =
        let first : c ≡ 46 = eqb-true c 46 (looked-passes most (is_byte 46) c passes) in
        record {
          behind = 48 ∷ [];
          tail = 48 ∷ [];
          digits = refl;
          allowed = λ h. looked-open most c (is_byte 46) passes;
          all =
              ap (λ (x : ℕ). x ∷ 48 ∷ []) (sym first)
              ∙ ap (λ (x : List ℕ). take (suc zero) x ++ 48 ∷ []) all
              ∙ ap (λ (n : ℕ). take n r ++ 48 ∷ []) (sym (gives ∙ ap suc e));
        }
    by c w passes all gives (suc n) e =
        let first : c ≡ 46 = eqb-true c 46 (looked-passes most (is_byte 46) c passes) in
        let is = leading-field w (λ z. omega arith) in
        record {
          behind = [];
          tail = leading w;
          digits = is.digits;
          allowed = λ h. looked-open most c (is_byte 46) passes;
          all =
              point-some (leading w) is.some
              ∙ ap (λ (x : ℕ). x ∷ leading w) (sym first)
              ∙ ap (λ (x : List ℕ). take (suc (span w)) x) all
              ∙ ap (λ (n : ℕ). take n r) (sym gives)
              ∙ sym (append-nil (take (tail_reach most r) r));
        }

module _ (d : Dividers) (tail : ℕ) where
  -- ---- fields
  -- a byte that divides fields
  abbrev dividing : Dividers → ℕ
  dividing Colon = 58
  dividing ColonOrSemicolon = 58
  dividing Plus = 43

  divides : (e : Dividers) → divider_of e (dividing e) ≡ true
  divides Colon = refl
  divides ColonOrSemicolon = refl
  divides Plus = refl

  zero_field : IsField (48 ∷ [])
  unfolding all_digits
  zero_field = record { some = omega arith; digits = refl }

  -- as many fields as may come
  record Filled (k : ℕ) : Type 0 where
    pub front : List ℕ
    pub fields : List (List ℕ)
    pub shape : FieldsShape d k front fields
    pub count : length fields ≡ k

  fill : (k : ℕ) → Filled (suc k)
  fill zero = record { front = 48 ∷ []; fields = (48 ∷ []) ∷ []; shape = last zero_field; count = refl }
  fill (suc k) =
      let q = fill k in
      record {
        front = 48 ∷ dividing d ∷ q.front;
        fields = (48 ∷ []) ∷ q.fields;
        shape = more zero_field (dividing d) (divides d) q.shape;
        count = ap suc q.count;
      }

  -- a text of the shape that goes on from here
  pub record Completed (least k : ℕ) (l : List ℕ) : Type 0 where
    pub behind : List ℕ
    pub front : List ℕ
    pub fields : List (List ℕ)
    pub last_digits : List ℕ
    pub shape : FieldsShape d k front fields
    pub enough : least ≤ length fields
    pub digits : all_digits last_digits ≡ true
    pub allowed : 0 < length last_digits → 0 < tail
    pub all : front ++ pointed last_digits ≡ take (reach d tail least k l) l ++ behind

  -- no field stands there
  complete-none : (least k : ℕ) (l : List ℕ) → least ≤ suc k → fields_in d (suc k) l ≡ no_field → Completed least (suc k) l
  unfolding all_digits
  complete-none least k l h e =
      let q = fill k in
      record {
        behind = q.front;
        front = q.front;
        fields = q.fields;
        last_digits = [];
        shape = q.shape;
        enough = omega (arith, q.count);
        digits = refl;
        allowed = λ z. omega arith;
        all = append-nil q.front ∙ ap (λ (n : ℕ). take n l ++ q.front) (sym (reach-none d tail least k l e));
      }

  -- one stands there, and no divider behind it
  module _ (least k : ℕ) (f r : List ℕ) (i : IsField f) (stops : digit_first r ≡ false) (other : first_is (looked_for k (divider_of d)) r ≡ false) where
    complete-last : leb least 1 ≡ true → Completed least (suc k) (f ++ r)
    complete-last e =
        let t = tail-begins tail r in
        let far = reach-last d tail least k f i r stops other ∙ ap (λ (x : Bool). cond x (length f + tail_reach tail r) (length f)) e in
        record {
          behind = t.behind;
          front = f;
          fields = f ∷ [];
          last_digits = t.tail;
          shape = last i;
          enough = leb-true least 1 e;
          digits = t.digits;
          allowed = t.allowed;
          all =
              ap (λ (x : List ℕ). f ++ x) t.all
              ∙ sym (append_assoc f (take (tail_reach tail r) r) t.behind)
              ∙ ap (λ (x : List ℕ). x ++ t.behind) (sym (take-append-add f r (tail_reach tail r)) ∙ ap (λ (n : ℕ). take n (f ++ r)) (sym far));
        }

    complete-short : (j : ℕ) → suc j ≡ k → least ≤ suc k → leb least 1 ≡ false → Completed least (suc k) (f ++ r)
    unfolding all_digits
    complete-short j is h e =
        let q = fill j in
        let c = dividing d in
        let far = reach-last d tail least k f i r stops other ∙ ap (λ (x : Bool). cond x (length f + tail_reach tail r) (length f)) e in
        record {
          behind = c ∷ q.front;
          front = f ++ c ∷ q.front;
          fields = f ∷ q.fields;
          last_digits = [];
          shape = more i c (divides d) (subst (λ (n : ℕ). FieldsShape d n q.front q.fields) is q.shape);
          enough = omega (arith, q.count);
          digits = refl;
          allowed = λ z. omega arith;
          all =
              append-nil (f ++ c ∷ q.front)
              ∙ ap (λ (x : List ℕ). x ++ c ∷ q.front) (sym (take-append_seam f r) ∙ ap (λ (n : ℕ). take n (f ++ r)) (sym far));
        }

    complete-ends-by : (j : ℕ) → j ≡ k → least ≤ suc k → (t : Bool) → leb least 1 ≡ t → Completed least (suc k) (f ++ r)
    complete-ends-by j is h true e = complete-last e
    complete-ends-by zero is h false e = absurd (omega (arith, leb-false least 1 e))
    complete-ends-by (suc j) is h false e = complete-short j is h e

  complete-goes : (least k : ℕ) (f r : List ℕ) (c : ℕ) → IsField f → divider_of d c ≡ true → looked_for k (divider_of d) c ≡ true
      → Completed (least - 1) k r → Completed least (suc k) (f ++ c ∷ r)
  complete-goes least k f r c i div looked q =
      let n = reach d tail (least - 1) k r in
      let far = reach-more d tail least k f i c r div looked in
      record {
        behind = q.behind;
        front = f ++ c ∷ q.front;
        fields = f ∷ q.fields;
        last_digits = q.last_digits;
        shape = more i c div q.shape;
        enough = omega (arith, q.enough);
        digits = q.digits;
        allowed = q.allowed;
        all =
            append_assoc f (c ∷ q.front) (pointed q.last_digits)
            ∙ ap (λ (x : List ℕ). f ++ c ∷ x) q.all
            ∙ sym (append_assoc f (c ∷ take n r) q.behind)
            ∙ ap (λ (x : List ℕ). x ++ q.behind) (sym (take-append-add f (c ∷ r) (suc n)) ∙ ap (λ (m : ℕ). take m (f ++ c ∷ r)) (sym far));
      }

  complete-by : (least k : ℕ) (l : List ℕ) → least ≤ suc k → Begun d tail k l
      → ((less : ℕ) (r : List ℕ) → 0 < k → less ≤ k → Completed less k r) → Completed least (suc k) l
  complete-by least k l h (none e s) lower = complete-none least k l h e
  complete-by least k l h (ends f r i stops other) lower = complete-ends-by least k f r i stops other k refl h (leb least 1) refl
  complete-by least k l h (goes f r c i div looked) lower =
      complete-goes least k f r c i div looked (lower (least - 1) r (looked-open k c (divider_of d) looked) (omega arith))

  pub complete : (k least : ℕ) (l : List ℕ) → 0 < k → least ≤ k → Completed least k l
  complete zero least l some h = absurd (omega arith)
  complete (suc k) least l some h = complete-by least k l h (begun d tail k l) (λ less r. complete k less r)
