-- How far fields and a tail reach in a text: no farther than the text, and no beginning of a text of the shape goes farther.
-- Assumes nothing.
use Prim.Native.Nat.{ℕ, zero, suc, ◌+◌, ◌-◌, ◌≤◌, ◌<◌}
use mathlib.Core.Path.{◌≡◌, refl, ap, ◌∙◌, subst}
use mathlib.Core.Logic.{⊎_elim}
use mathlib.Core.List.{List, [], ◌∷◌, ◌++◌, append_assoc}
use mathlib.Core.Bool.{Bool, true, false, ◌&&◌, cond}
use native.Mathlib.Omega.{arith}
use lib.Dec.{leb}
use lib.ListN.{length, take, drop, length-append}
use lib.Seq.{drop-append_seam, drop-append-add}
use borrow.Author.Tests.{le-leb, lt-leb, leb-true, leb-false}
use Rattle.digits.specs.Digits.{is_byte, all_digits, IsField, first_is, digit_first, span, leading}
use Rattle.digits.proofs.Runs.{span_run, span-stops, span-within, leading-rest, leading-field}
use Rattle.scanner.specs.declared.fields.Dividers.{Dividers}
use Rattle.scanner.specs.Scan.{divider_of, looked_for}
use Rattle.scanner.specs.Then.{byte_then}
use Rattle.scanner.specs.Fields.{Front, no_field, one_field, field_and, fields_in}
use Rattle.scanner.specs.Shapes.{FieldsShape, last, more, pointed}
use Rattle.scanner.proofs.Answers.{looked-some}
use Rattle.scanner.proofs.Then.{field-absent, field-run, byte-first, byte-not, passing}
use Rattle.scanner.proofs.Fronts.{divider-no-digit, looked-not, looked-passes, looked-shape, goes_on, fields-suc}
use Rattle.scanner.proofs.Bodies.{tail-ends}
use Rattle.scanner.proofs.Past.{go-past, span-least, digits-most}

-- ---- how far
-- a tail reaches
abbrev pub tail_reach : (most : ℕ) → List ℕ → ℕ
tail_reach most l = byte_then (looked_for most (is_byte 46)) 0 (λ rest. suc (span rest)) l

-- fields that were found, and a tail behind them
abbrev pub front_reach : (least most : ℕ) → Front → List ℕ → ℕ
front_reach least most f l =
    cond (f.found && leb least (length f.fields)) (f.taken + tail_reach most (drop f.taken l)) f.taken

leb-less : (least n : ℕ) → leb least (suc n) ≡ leb (least - 1) n
leb-less least n = by (leb (least - 1) n) refl
  where
    by : (t : Bool) → leb (least - 1) n ≡ t → leb least (suc n) ≡ t
    by true e = le-leb least (suc n) (omega (arith, leb-true (least - 1) n e))
    by false e = lt-leb least (suc n) (omega (arith, leb-false (least - 1) n e))

cond-add : (b : Bool) (n x y : ℕ) → cond b (n + suc x + y) (n + suc x) ≡ n + suc (cond b (x + y) x)
cond-add true n x y = omega arith
cond-add false n x y = refl

cond-least : (b : Bool) (x y : ℕ) → x ≤ cond b (x + y) x
cond-least true x y = omega arith
cond-least false x y = omega arith

cond-most : (b : Bool) (x y n : ℕ) → x + y ≤ n → cond b (x + y) x ≤ n
cond-most true x y n h = h
cond-most false x y n h = omega arith

-- ---- a tail
-- it stays within the text
tail_within : (most : ℕ) (l : List ℕ) → tail_reach most l ≤ length l
tail_within most l =
    ⊎_elim
    (λ e. omega (arith, e))
    (λ p. omega (arith, p.gives, ap length p.all, span-within p.rest))
    (passing (looked_for most (is_byte 46)) 0 (λ rest. suc (span rest)) l)

tail-point : (most : ℕ) (r : List ℕ) → 0 < most → tail_reach most (46 ∷ r) ≡ suc (span r)
tail-point most r h =
    byte-first (looked_for most (is_byte 46)) 0 (λ rest. suc (span rest)) 46 r
    (ap (λ (test : ℕ → Bool). test 46) (looked-some most (is_byte 46) (λ z. omega arith)))

module _ (d : Dividers) (tail : ℕ) where
  -- fields in front of a text, one to k of them
  abbrev pub reach : (least k : ℕ) → List ℕ → ℕ
  reach least k l = front_reach least tail (fields_in d k l) l

  -- ---- a text's first field: none, the last that stands there, or one with a divider behind it
  pub data Begun (k : ℕ) : List ℕ → Type 0 where
    none : {l : List ℕ} → fields_in d (suc k) l ≡ no_field → span l ≡ 0 → Begun k l
    ends : (f r : List ℕ) → IsField f → digit_first r ≡ false → first_is (looked_for k (divider_of d)) r ≡ false → Begun k (f ++ r)
    goes : (f r : List ℕ) (c : ℕ) → IsField f → divider_of d c ≡ true → looked_for k (divider_of d) c ≡ true → Begun k (f ++ c ∷ r)

  begun-on : (k : ℕ) (f r : List ℕ) → IsField f → digit_first r ≡ false → Begun k (f ++ r)
  begun-on k f [] i e = ends f [] i e refl
  begun-on k f (c ∷ r) i e = by (looked_for k (divider_of d) c) refl
    where
      by : (t : Bool) → looked_for k (divider_of d) c ≡ t → Begun k (f ++ c ∷ r)
      by true h = goes f r c i (looked-passes k (divider_of d) c h) h
      by false h = ends f (c ∷ r) i e h

  pub begun : (k : ℕ) (l : List ℕ) → Begun k l
  begun k l = by (span l) refl
    where
      by : (n : ℕ) → span l ≡ n → Begun k l
      by zero e = none (fields-suc d k l ∙ field-absent no_field (goes_on d k) l e) e
      by (suc n) e = subst (Begun k) (leading-rest l) (begun-on k (leading l) (drop (span l) l) (leading-field l (λ z. omega arith)) (span-stops l))

  -- ---- how far it reaches
  pub reach-none : (least k : ℕ) (l : List ℕ) → fields_in d (suc k) l ≡ no_field → reach least (suc k) l ≡ 0
  reach-none least k l e = ap (λ (x : Front). front_reach least tail x l) e

  module _ (least k : ℕ) (f : List ℕ) (i : IsField f) where
    pub reach-last : (r : List ℕ) → digit_first r ≡ false → first_is (looked_for k (divider_of d)) r ≡ false
        → reach least (suc k) (f ++ r) ≡ cond (leb least 1) (length f + tail_reach tail r) (length f)
    reach-last r stops other =
        ap (λ (x : Front). front_reach least tail x (f ++ r))
        (fields-suc d k (f ++ r)
        ∙ field-run no_field (goes_on d k) f r i stops
        ∙ byte-not (looked_for k (divider_of d)) (one_field f) (λ rest. field_and f (fields_in d k rest)) r other)
        ∙ ap (λ (x : List ℕ). cond (leb least 1) (length f + tail_reach tail x) (length f)) (drop-append_seam f r)

    pub reach-more : (c : ℕ) (r : List ℕ) → divider_of d c ≡ true → looked_for k (divider_of d) c ≡ true
        → reach least (suc k) (f ++ c ∷ r) ≡ length f + suc (reach (least - 1) k r)
    reach-more c r divides looked =
        let found = fields_in d k r in
        let n = length f in
        let enough = found.found && leb (least - 1) (length found.fields) in
        ap (λ (x : Front). front_reach least tail x (f ++ c ∷ r))
        (fields-suc d k (f ++ c ∷ r)
        ∙ field-run no_field (goes_on d k) f (c ∷ r) i (divider-no-digit d c divides)
        ∙ byte-first (looked_for k (divider_of d)) (one_field f) (λ rest. field_and f (fields_in d k rest)) c r looked)
        ∙ rw (leb-less least (length found.fields), drop-append-add f (c ∷ r) (suc found.taken))
        (cond-add enough n found.taken (tail_reach tail (drop found.taken r)))

  -- no farther than the text
  reach-within-by : (least k : ℕ) (l : List ℕ) → Begun k l → ((less : ℕ) (r : List ℕ) → reach less k r ≤ length r) → reach least (suc k) l ≤ length l
  reach-within-by least k l (none e s) lower = omega (arith, reach-none least k l e)
  reach-within-by least k l (ends f r i stops other) lower =
      omega (
        arith,
        reach-last least k f i r stops other,
        length-append f r,
        cond-most (leb least 1) (length f) (tail_reach tail r) (length f + length r) (omega (arith, tail_within tail r)),
      )
  reach-within-by least k l (goes f r c i divides looked) lower =
      omega (arith, reach-more least k f i c r divides looked, length-append f (c ∷ r), lower (least - 1) r)

  pub reach-within : (k least : ℕ) (l : List ℕ) → reach least k l ≤ length l
  unfolding fields_in
  reach-within zero least l = omega arith
  reach-within (suc k) least l = reach-within-by least k l (begun k l) (λ less r. reach-within k less r)

  -- at least as far as its digits
  span-reach-by : (least k : ℕ) (l : List ℕ) → Begun k l → span l ≤ reach least (suc k) l
  span-reach-by least k l (none e s) = omega (arith, s)
  span-reach-by least k l (ends f r i stops other) =
      omega (arith, reach-last least k f i r stops other, span_run f r i.digits stops, cond-least (leb least 1) (length f) (tail_reach tail r))
  span-reach-by least k l (goes f r c i divides looked) =
      omega (arith, reach-more least k f i c r divides looked, span_run f (c ∷ r) i.digits (divider-no-digit d c divides))

  span-reach : (least k : ℕ) (l : List ℕ) → span l ≤ reach least (suc k) l
  span-reach least k l = span-reach-by least k l (begun k l)

  -- ---- no beginning of a text of the shape goes farther
  module _ (b w : List ℕ) (digits : all_digits w ≡ true) (allowed : 0 < length w → 0 < tail) where
    -- past the last field comes the tail
    last-past : (least k : ℕ) → least ≤ 1 → (f : List ℕ) → IsField f → (past : ℕ) (rest : List ℕ) → past ≤ length rest
        → (v : List ℕ) → v ≡ w → take past rest ++ b ≡ pointed v → length f + past ≤ reach least (suc k) (f ++ rest)
    last-past least k h f i zero rest within v is e = omega (arith, span-least f rest i.digits, span-reach least k (f ++ rest))
    last-past least k h f i (suc past) [] within v is e = absurd (omega arith)
    last-past least k h f i (suc past) (c ∷ r) within [] is e = let z : ◌≡◌ {A = ℕ} 0 1 = cc in absurd (omega arith)
    last-past least k h f i (suc past) (c ∷ r) within (a ∷ v) is e =
        let first : c ≡ 46 = cc in
        let later : take past r ++ b ≡ a ∷ v = cc in
        let other = looked-not k (divider_of d) (46 ∷ r) (tail-ends d (46 ∷ r)) in
        let most = allowed (omega (arith, ap length is)) in
        let far = digits-most w digits past r b (omega arith) (later ∙ is) in
        let reaches = reach-last least k f i (46 ∷ r) refl other ∙ ap (λ (t : Bool). cond t (length f + tail_reach tail (46 ∷ r)) (length f)) (le-leb least 1 h) in
        omega (arith, ap (λ (x : ℕ). reach least (suc k) (f ++ x ∷ r)) first, reaches, tail-point tail r most, far)

    -- past another field and its divider come the next ones
    more-past : (least k : ℕ) (f : List ℕ) → IsField f → (c : ℕ) → divider_of d c ≡ true → looked_for k (divider_of d) c ≡ true → (x : List ℕ)
        → ((n : ℕ) (r : List ℕ) → n ≤ length r → take n r ++ b ≡ x → n ≤ reach (least - 1) k r)
        → (past : ℕ) (rest : List ℕ) → past ≤ length rest → take past rest ++ b ≡ c ∷ x → length f + past ≤ reach least (suc k) (f ++ rest)
    more-past least k f i c divides looked x lower zero rest within e =
        omega (arith, span-least f rest i.digits, span-reach least k (f ++ rest))
    more-past least k f i c divides looked x lower (suc past) [] within e = absurd (omega arith)
    more-past least k f i c divides looked x lower (suc past) (a ∷ r) within e =
        let first : a ≡ c = cc in
        let later : take past r ++ b ≡ x = cc in
        omega (arith, ap (λ (y : ℕ). reach least (suc k) (f ++ y ∷ r)) first, reach-more least k f i c r divides looked, lower past r (omega arith) later)

    pub reach-most : (k : ℕ) (front : List ℕ) (fs : List (List ℕ)) → FieldsShape d k front fs → (least : ℕ) → least ≤ length fs
        → (m : ℕ) (l : List ℕ) → m ≤ length l → take m l ++ b ≡ front ++ pointed w → m ≤ reach least k l
    reach-most k front fs (last {k = j} {f = f} i) least h m l within e =
        ⊎_elim
        (λ s. omega (arith, s, span-reach least j l))
        (λ q. omega (arith, q.place, ap (reach least (suc j)) q.all, last-past least j h f i q.past q.rest q.within w refl q.same))
        (go-past f i.digits m l b (pointed w) within e)
    reach-most k front fs (more {k = j} {f = f} {l = next} {fs = gs} i c divides t) least h m l within e =
        ⊎_elim
        (λ s. omega (arith, s, span-reach least j l))
        (λ q. omega (
          arith,
          q.place,
          ap (reach least (suc j)) q.all,
          more-past least j f i c divides (looked-shape d j c next gs t divides) (next ++ pointed w)
              (λ n r g p. reach-most j next gs t (least - 1) (omega arith) n r g p) q.past q.rest q.within q.same,
        ))
        (go-past f i.digits m l b (c ∷ (next ++ pointed w)) within (e ∙ append_assoc f (c ∷ next) (pointed w)))
