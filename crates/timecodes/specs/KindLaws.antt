-- Laws of the two kinds (BEHAVIOUR: Positions, Refusals): a timecode as its own kind, what admitting two tells, and when exactly 15 is given.
-- Assumes nothing.
use Rattle.std.specs.Prelude.{ℕ, ◌<◌, ◌≡◌, refl, ◌↔◌, Bool, true, false, cond, not, ◌&&◌, List, [], ◌∷◌, ◌++◌, T, ltb, ℤ, pos, negsuc, Option, Some, None, Result, Ok, Err}
use Rattle.std.proofs.Common.{arith, sym, ◌∙◌, ap, subst, ltb-true}
use Rattle.std.proofs.Math.Bool.{and-eq-true_iff}
use Rattle.answers.specs.declared.Refusal.{Refusal}
use Rattle.answers.specs.Causes.{refusal_number}
use Rattle.answers.specs.Order.{Condition, when, unless, first, judged, Clear}
use Rattle.answers.specs.OrderLaws.{unless-map, unless-told, unless-number}
use Rattle.answers.specs.Refusals.{out_of_bounds, wrong_kind}
use Rattle.rates.specs.Rates.{is_rate}
use Rattle.rates.specs.Rates.{is_rate}
use Rattle.timecodes.specs.declared.Timecode.{Timecode}
use Rattle.timecodes.specs.declared.kinds.Kind.{Kind}
use Rattle.timecodes.specs.declared.kinds.Kind.TheVariants.{Length, Position}
use Rattle.timecodes.specs.declared.kinds.Joining.{Joining}
use Rattle.timecodes.specs.Kinds.{is_position, mixed_kinds, is_never, kind_in}
use Rattle.timecodes.specs.Timecode.{timecode_as, position}
use Rattle.timecodes.specs.Made.{made}
use Rattle.timecodes.specs.Admitted.{is_within, admits_both, joined_kind}
use Rattle.timecodes.specs.AdmittedLaws.{of_day-told}
use Rattle.timecodes.specs.MadeLaws.{in_day-own}

-- ---- the kinds

pub position-told : (kind : Kind) → is_position kind ≡ true → kind ≡ Position
position-told Length e = absurd (subst T (sym e) tt)
position-told Position e = refl

-- what is mixed is of some kind
pub mixed-told : (m : Option Kind) → is_never m ≡ false → m ≡ Some (kind_in m)
mixed-told (Some kind) e = refl
mixed-told None e = absurd (subst T e tt)

-- ---- a timecode as its own kind

-- made of its own kind, a count within its bounds is its own: a position's is of the day
pub made-own : (kind : Kind) (count : ℤ) (rate : ℕ) → is_rate rate ≡ true → is_within kind rate count ≡ true
    → made kind count rate ≡ timecode_as kind count rate
made-own Length count rate h w = refl
made-own Position (pos n) rate h w = ap (λ (z : ℤ). position z rate) (in_day-own rate h n (of_day-told rate (pos n) w).1)
made-own Position (negsuc n) rate h w = absurd (subst T (of_day-told rate (negsuc n) w).0 tt)

-- ---- what admitting two tells

abbrev verdict_of : Result Kind Refusal → Result (Unit {0}) Refusal
verdict_of (Ok kind) = (Ok tt)
verdict_of (Err e) = Err e

module _ (joining : Joining) (a b : Timecode) where
  -- two that are taken are clear of every condition, and the kind is theirs
  pub admitted-told : (kind : Kind) → unless Err (admits_both joining a b) (Ok (joined_kind joining a b)) ≡ Ok kind
      → Clear (admits_both joining a b) × (joined_kind joining a b ≡ kind)
  admitted-told kind h =
      let told = unless-told Err (admits_both joining a b) (Ok (joined_kind joining a b)) (Ok kind) apart h in
      let same = told.1 in
      (told.0, cc)
    where
      apart : (e : Refusal) → Err e ≡ Ok kind → ⊥
      apart e k = let clash : ◌≡◌ {A = ℕ} 0 1 = cc in omega arith

  -- and two that are not are refused by their conditions
  pub admitted-refused : (e : Refusal) → unless Err (admits_both joining a b) (Ok (joined_kind joining a b)) ≡ Err e
      → judged (admits_both joining a b) ≡ Err e
  admitted-refused e h =
      sym (unless-map verdict_of Err Err (λ r. refl) (admits_both joining a b) (Ok (joined_kind joining a b))) ∙ ap verdict_of h

  -- at two rates, mixed, the bounds decide: the left one's first
  pub both-within : (kind : Kind) → is_rate a.rate ≡ true → is_rate b.rate ≡ true → mixed_kinds joining a.kind b.kind ≡ Some kind
      → (s t : Bool) → is_within a.kind a.rate a.count ≡ s → is_within b.kind b.rate b.count ≡ t
      → unless Err (admits_both joining a b) (Ok (joined_kind joining a b))
      ≡ cond (not s) (Err out_of_bounds) (cond (not t) (Err out_of_bounds) (Ok kind))
  both-within kind r q m s t e f = simp (r, q, m, e, f)

-- ---- when 15 is given

-- every number of a list is below 15
abbrev pub below15 : List Condition → Bool
below15 [] = true
below15 (c ∷ rest) = ltb (refusal_number c.refusal) 15 && below15 rest

first_below : (conditions : List Condition) → below15 conditions ≡ true → first conditions < 15
first_below [] h = omega arith
first_below (c ∷ rest) h =
    let both = (and-eq-true_iff (ltb (refusal_number c.refusal) 15) (below15 rest)).0 h in
    by c.holds (ltb-true (refusal_number c.refusal) 15 both.0) (first_below rest both.1)
  where
    by : (t : Bool) → refusal_number c.refusal < 15 → first rest < 15 → cond t (refusal_number c.refusal) (first rest) < 15
    by true l later = l
    by false l later = later

-- behind conditions of smaller numbers 15 is given exactly when these are clear and it is given by what stands behind
front-exactly : (front back : List Condition) → below15 front ≡ true → (first (front ++ back) ≡ 15) ↔ (Clear front × (first back ≡ 15))
front-exactly [] back h = (λ e. (tt, e), λ x. x.1)
front-exactly (c ∷ rest) back h =
    let both = (and-eq-true_iff (ltb (refusal_number c.refusal) 15) (below15 rest)).0 h in
    by c.holds (ltb-true (refusal_number c.refusal) 15 both.0) (front-exactly rest back both.1)
  where
    by : (t : Bool) → refusal_number c.refusal < 15 → ((first (rest ++ back) ≡ 15) ↔ (Clear rest × (first back ≡ 15)))
        → (cond t (refusal_number c.refusal) (first (rest ++ back)) ≡ 15) ↔ (((t ≡ false) × Clear rest) × (first back ≡ 15))
    by true l later = (λ e. absurd (omega (arith, l, e)), λ x. absurd (subst T x.0.0 tt))
    by false l later = (λ e. let r = later.0 e in ((refl, r.0), r.1), λ x. later.1 (x.0.1, x.1))

fifteen : (barred : Bool) (back : List Condition) → below15 back ≡ true → (first (when wrong_kind barred ∷ back) ≡ 15) ↔ (barred ≡ true)
fifteen true back h = (λ e. refl, λ e. refl)
fifteen false back h = (λ e. absurd (omega (arith, first_below back h)), λ e. absurd (subst T (sym e) tt))

-- 15 exactly when what stands before it is clear and the kinds are barred, for every type of answers
module _ {A : Type 0} (number_of : A → ℕ) (refused : Refusal → A) (told : (e : Refusal) → number_of (refused e) ≡ refusal_number e)
    (front back : List Condition) (smaller : below15 front ≡ true) (below : below15 back ≡ true) (answer : A) (none : number_of answer ≡ 0) where
  pub barred-exactly : (barred : Bool)
      → (number_of (unless refused (front ++ (when wrong_kind barred ∷ back)) answer) ≡ 15) ↔ (Clear front × (barred ≡ true))
  barred-exactly barred =
      let conditions = front ++ (when wrong_kind barred ∷ back) in
      let given = unless-number number_of refused told conditions answer none in
      let exactly = front-exactly front (when wrong_kind barred ∷ back) smaller in
      let one = fifteen barred back below in
      (λ e. let x = exactly.0 (sym given ∙ e) in (x.0, one.0 x.1), λ h. given ∙ exactly.1 (h.0, one.1 h.1))

  -- where only lengths are taken, exactly when it is a position
  pub position-exactly : (kind : Kind)
      → (number_of (unless refused (front ++ (when wrong_kind (is_position kind) ∷ back)) answer) ≡ 15) ↔ (Clear front × (kind ≡ Position))
  position-exactly kind =
      let exactly = barred-exactly (is_position kind) in
      (λ e. let x = exactly.0 e in (x.0, position-told kind x.1), λ h. exactly.1 (h.0, ap is_position h.1))
