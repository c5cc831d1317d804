-- Laws of the order of refusals, for every type of answers (BEHAVIOUR: Refusals): what a list of conditions refuses, and what an answer behind it tells.
-- Assumes nothing.
use Rattle.std.specs.Prelude.{ℕ, ◌≡◌, refl, Bool, true, false, not, cond, List, [], ◌∷◌, ◌++◌, Ok, Err}
use Rattle.std.proofs.Common.{sym, ◌∙◌, ap, arith}
use Rattle.answers.specs.declared.Refusal.{Refusal}
use Rattle.answers.specs.Causes.{refusal_number}
use Rattle.answers.specs.Order.{Condition, unless, first, NoPlaces, judged, Clear}

-- ---- the verdict, and what is answered behind it

-- what is refused is refused to every type of answers
pub judged-refused : {A : Type 0} (conditions : List Condition) (e : Refusal) → judged conditions ≡ Err e
    → (refused : Refusal → A) (answer : A) → unless refused conditions answer ≡ refused e
judged-refused [] e h refused answer = let z : ◌≡◌ {A = ℕ} 0 1 = cc in absurd (omega arith)
judged-refused (c ∷ rest) e h refused answer = by c.holds (λ k. judged-refused rest e k refused answer) h
  where
    by : (t : Bool) → (judged rest ≡ Err e → unless refused rest answer ≡ refused e)
        → cond t (Err c.refusal) (judged rest) ≡ Err e
        → cond t (refused c.refusal) (unless refused rest answer) ≡ refused e
    by true later h = let same : c.refusal ≡ e = cc in ap refused same
    by false later h = later h

-- what is passed is clear of every condition
pub judged-clear : (conditions : List Condition) → judged conditions ≡ (Ok tt) → Clear conditions
judged-clear [] h = tt
judged-clear (c ∷ rest) h = by c.holds refl (λ k. judged-clear rest k) h
  where
    by : (t : Bool) → c.holds ≡ t → (judged rest ≡ (Ok tt) → Clear rest)
        → cond t (Err c.refusal) (judged rest) ≡ (Ok tt) → (c.holds ≡ false) × Clear rest
    by true e later h = let z : ◌≡◌ {A = ℕ} 0 1 = cc in absurd (omega arith)
    by false e later h = (e, later h)

-- clear of every condition, the answer is given
pub unless-clear : {A : Type 0} (refused : Refusal → A) (conditions : List Condition) (answer : A) → Clear conditions
    → unless refused conditions answer ≡ answer
unless-clear refused [] answer h = refl
unless-clear refused (c ∷ rest) answer h =
    ap (λ (t : Bool). cond t (refused c.refusal) (unless refused rest answer)) h.0 ∙ unless-clear refused rest answer h.1

-- an answer that is no refusal tells that no condition holds
pub unless-told : {A : Type 0} (refused : Refusal → A) (conditions : List Condition) (answer x : A)
    → ((e : Refusal) → refused e ≡ x → ⊥) → unless refused conditions answer ≡ x → Clear conditions × (answer ≡ x)
unless-told refused [] answer x other h = (tt, h)
unless-told refused (c ∷ rest) answer x other h = by c.holds refl (λ k. unless-told refused rest answer x other k) h
  where
    by : (t : Bool) → c.holds ≡ t → (unless refused rest answer ≡ x → Clear rest × (answer ≡ x))
        → cond t (refused c.refusal) (unless refused rest answer) ≡ x → ((c.holds ≡ false) × Clear rest) × (answer ≡ x)
    by true e later h = absurd (other c.refusal h)
    by false e later h = let told = later h in ((e, told.0), told.1)

-- ---- through a function that keeps refusals, and of two lists

pub unless-map : {A B : Type 0} (f : A → B) (refused : Refusal → A) (refused' : Refusal → B)
    → ((e : Refusal) → f (refused e) ≡ refused' e)
    → (conditions : List Condition) (answer : A) → f (unless refused conditions answer) ≡ unless refused' conditions (f answer)
unless-map f refused refused' keeps [] answer = refl
unless-map f refused refused' keeps (c ∷ rest) answer = by c.holds (unless-map f refused refused' keeps rest answer)
  where
    by : (t : Bool) → f (unless refused rest answer) ≡ unless refused' rest (f answer)
        → f (cond t (refused c.refusal) (unless refused rest answer)) ≡ cond t (refused' c.refusal) (unless refused' rest (f answer))
    by true later = keeps c.refusal
    by false later = later

-- the conditions of one list come before those of the other
pub unless-append : {A : Type 0} (refused : Refusal → A) (conditions more : List Condition) (answer : A)
    → unless refused (conditions ++ more) answer ≡ unless refused conditions (unless refused more answer)
unless-append refused [] more answer = refl
unless-append refused (c ∷ rest) more answer =
    ap (λ (a : _). cond c.holds (refused c.refusal) a) (unless-append refused rest more answer)

-- ---- the number given is that of the first condition that holds

pub unless-number : {A : Type 0} (number_of : A → ℕ) (refused : Refusal → A) → ((e : Refusal) → number_of (refused e) ≡ refusal_number e)
    → (conditions : List Condition) (answer : A) → number_of answer ≡ 0 → number_of (unless refused conditions answer) ≡ first conditions
unless-number number_of refused told [] answer none = none
unless-number number_of refused told (c ∷ rest) answer none = by c.holds (unless-number number_of refused told rest answer none)
  where
    by : (t : Bool) → number_of (unless refused rest answer) ≡ first rest
        → number_of (cond t (refused c.refusal) (unless refused rest answer)) ≡ cond t (refusal_number c.refusal) (first rest)
    by true later = told c.refusal
    by false later = later

-- ---- and its place is 0, where none of them has one

pub unless-place : {A : Type 0} (place_of : A → ℕ) (refused : Refusal → A) → ((e : Refusal) → place_of (refused e) ≡ e.place)
    → (conditions : List Condition) → NoPlaces conditions → (answer : A) → place_of answer ≡ 0 → place_of (unless refused conditions answer) ≡ 0
unless-place place_of refused told [] h answer none = none
unless-place place_of refused told (c ∷ rest) h answer none = by c.holds (unless-place place_of refused told rest h.1 answer none)
  where
    by : (t : Bool) → place_of (unless refused rest answer) ≡ 0 → place_of (cond t (refused c.refusal) (unless refused rest answer)) ≡ 0
    by true later = told c.refusal ∙ h.0
    by false later = later

-- ---- tests and their negations

pub not_in : (t : Bool) → not t ≡ false → t ≡ true
not_in true h = refl
not_in false h = sym h

pub not-out : (t : Bool) → not t ≡ true → t ≡ false
not-out true h = sym h
not-out false h = refl

pub in-not : {t : Bool} → t ≡ true → not t ≡ false
in-not h = ap not h

pub out-not : {t : Bool} → t ≡ false → not t ≡ true
out-not h = ap not h
