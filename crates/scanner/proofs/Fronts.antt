-- One to k divided fields are found exactly where the text begins with them.
-- Assumes nothing.
use Prim.Native.Nat.{ℕ, zero, suc}
use mathlib.Core.Path.{◌≡◌, refl, ap, ◌∙◌}
use mathlib.Core.Logic.{◌⊎◌, inl, inr, ⊎_elim}
use mathlib.Core.List.{List, [], ◌∷◌, ◌++◌, append_assoc}
use mathlib.Core.Bool.{Bool, true, false, ◌||◌}
use lib.ListN.{length, length-append}
use lib.Dec.{eqb}
use borrow.Author.Tests.{eqb-true}
use Rattle.digits.specs.Digits.{is_byte, IsField, first_is, digit_first, is_digit}
use Rattle.scanner.specs.declared.fields.Dividers.{Dividers}
use Rattle.scanner.specs.declared.fields.Dividers.TheVariants.{Colon, ColonOrSemicolon, Plus}
use Rattle.scanner.specs.Scan.{divider_of, looked_for}
use Rattle.scanner.specs.Then.{field_then, byte_then}
use Rattle.scanner.specs.Fields.{Front, no_field, one_field, field_and, fields_in}
use Rattle.scanner.specs.Shapes.{FieldsShape, last, more}
use Rattle.scanner.proofs.Then.{field-run, begins, byte-first, byte-not, passing}

-- ---- dividers are no digits
digit_not : (b c : ℕ) → is_digit b ≡ false → is_byte b c ≡ true → is_digit c ≡ false
digit_not b c h e = ap is_digit (eqb-true c b e) ∙ h

either-not : (c : ℕ) (t : Bool) → eqb c 58 ≡ t → (t || eqb c 59) ≡ true → is_digit c ≡ false
either-not c true e h = digit_not 58 c refl e
either-not c false e h = digit_not 59 c refl h

pub divider-no-digit : (d : Dividers) (c : ℕ) → divider_of d c ≡ true → is_digit c ≡ false
divider-no-digit Colon c e = digit_not 58 c refl e
divider-no-digit ColonOrSemicolon c e = either-not c (eqb c 58) refl e
divider-no-digit Plus c e = digit_not 43 c refl e

-- ---- a divider that is looked for
pub looked-not : (k : ℕ) (test : ℕ → Bool) (l : List ℕ) → first_is test l ≡ false → first_is (looked_for k test) l ≡ false
looked-not k test [] e = refl
looked-not zero test (c ∷ l) e = refl
looked-not (suc k) test (c ∷ l) e = e

pub looked-passes : (k : ℕ) (test : ℕ → Bool) (c : ℕ) → looked_for k test c ≡ true → test c ≡ true
looked-passes zero test c e = cc
looked-passes (suc k) test c e = e

pub looked-shape : (d : Dividers) (k c : ℕ) (l : List ℕ) (fs : List (List ℕ)) → FieldsShape d k l fs → divider_of d c ≡ true
    → looked_for k (divider_of d) c ≡ true
looked-shape d k c l fs (last i) e = e
looked-shape d k c l fs (more i b p t) e = e

-- ---- what is found of fields
abbrev pub front_of : (fields : List (List ℕ)) (taken : ℕ) → Front
front_of fields taken = record { found = true; fields = fields; taken = taken }

and-front : (f l : List ℕ) (c : ℕ) (fs : List (List ℕ)) → field_and f (front_of fs (length l)) ≡ front_of (f ∷ fs) (length (f ++ c ∷ l))
and-front f l c fs = rw (length-append f (c ∷ l))

module _ (d : Dividers) where
  -- behind a field, with k more allowed
  abbrev pub goes_on : (k : ℕ) (field : List ℕ) → List ℕ → Front
  goes_on k field = byte_then (looked_for k (divider_of d)) (one_field field) (λ rest. field_and field (fields_in d k rest))

  pub fields-suc : (k : ℕ) (l : List ℕ) → fields_in d (suc k) l ≡ field_then no_field (goes_on k) l
  unfolding fields_in
  fields-suc k l = refl

  -- a text of the shape, and a rest that begins with no digit and no divider
  module _ (r : List ℕ) (stops : digit_first r ≡ false) (ends : first_is (divider_of d) r ≡ false) where
    pub fields-complete : (k : ℕ) (l : List ℕ) (fs : List (List ℕ)) → FieldsShape d k l fs → fields_in d k (l ++ r) ≡ front_of fs (length l)
    fields-complete k l fs (last {k = j} {f = f} i) =
        fields-suc j (f ++ r)
        ∙ field-run no_field (goes_on j) f r i stops
        ∙ byte-not (looked_for j (divider_of d)) (one_field f) (λ rest. field_and f (fields_in d j rest)) r (looked-not j (divider_of d) r ends)
    fields-complete k l fs (more {k = j} {f = f} {l = m} {fs = gs} i c e t) =
        ap (fields_in d (suc j)) (append_assoc f (c ∷ m) r)
        ∙ fields-suc j (f ++ (c ∷ (m ++ r)))
        ∙ field-run no_field (goes_on j) f (c ∷ (m ++ r)) i (divider-no-digit d c e)
        ∙ byte-first (looked_for j (divider_of d)) (one_field f) (λ rest. field_and f (fields_in d j rest)) c (m ++ r) (looked-shape d j c m gs t e)
        ∙ ap (field_and f) (fields-complete j m gs t)
        ∙ and-front f m c gs

  -- and back: a field is missing, or the text begins with these
  pub record Fronted (k : ℕ) (l : List ℕ) : Type 0 where
    pub front : List ℕ
    pub fields : List (List ℕ)
    pub rest : List ℕ
    pub shape : FieldsShape d k front fields
    pub all : front ++ rest ≡ l
    pub gives : fields_in d k l ≡ front_of fields (length front)

  abbrev Back : (k : ℕ) → List ℕ → Type 0
  Back k l = ((fields_in d k l).found ≡ false) ⊎ Fronted k l

  module _ (k : ℕ) (l f r : List ℕ) (is : IsField f) (all : f ++ r ≡ l) (gives : fields_in d (suc k) l ≡ goes_on k f r) where
    -- the last field
    ends-here : goes_on k f r ≡ one_field f → Fronted (suc k) l
    ends-here e = record { front = f; fields = f ∷ []; rest = r; shape = last is; all = all; gives = gives ∙ e }

    -- a divider, and the next fields
    goes_on_lem : (c : ℕ) (m : List ℕ) → divider_of d c ≡ true → c ∷ m ≡ r → goes_on k f r ≡ field_and f (fields_in d k m) → Fronted k m → Fronted (suc k) l
    goes_on_lem c m e p g q =
        record {
          front = f ++ c ∷ q.front;
          fields = f ∷ q.fields;
          rest = q.rest;
          shape = more is c e q.shape;
          all = append_assoc f (c ∷ q.front) q.rest ∙ ap (λ (x : List ℕ). f ++ c ∷ x) q.all ∙ ap (λ (x : List ℕ). f ++ x) p ∙ all;
          gives = gives ∙ g ∙ ap (field_and f) q.gives ∙ and-front f q.front c q.fields;
        }

    after-field : ((m : List ℕ) → Back k m) → Back (suc k) l
    after-field ih =
        ⊎_elim
        (λ e. inr (ends-here e))
        (λ p. ⊎_elim
        (λ z. inl (ap (λ (x : Front). x.found) (gives ∙ p.gives) ∙ z))
        (λ q. inr (goes_on_lem p.byte p.rest (looked-passes k (divider_of d) p.byte p.passes) p.all p.gives q))
        (ih p.rest))
        (passing (looked_for k (divider_of d)) (one_field f) (λ rest. field_and f (fields_in d k rest)) r)

  pub fronted : (k : ℕ) (l : List ℕ) → Back k l
  unfolding fields_in
  fronted zero l = inl refl
  fronted (suc k) l =
      ⊎_elim
      (λ z. inl (ap (λ (x : Front). x.found) (fields-suc k l ∙ z)))
      (λ b. after-field k l b.field b.rest b.is b.all (fields-suc k l ∙ b.gives) (fronted k))
      (begins no_field (goes_on k) l)
