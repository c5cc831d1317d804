-- A text that goes on as another, which begins with digits, does: within its own digits, or past those.
-- Assumes nothing.
use Prim.Native.Nat.{ℕ, zero, suc, ◌+◌, ◌≤◌}
use mathlib.Core.Path.{◌≡◌, refl, sym, ap, ◌∙◌}
use mathlib.Core.Logic.{◌⊎◌, inl, inr, ⊎_elim}
use mathlib.Core.List.{List, [], ◌∷◌, ◌++◌, append-nil}
use mathlib.Core.Bool.{true}
use native.Mathlib.Omega.{arith}
use lib.ListN.{length, take}
use Rattle.digits.specs.Digits.{is_digit, all_digits, span}
use Rattle.digits.proofs.Values.{all_head, all_tail}
use Rattle.digits.proofs.Runs.{span-cons}

-- a text that goes on as digits f and then x do: within its own digits, or past those of f
pub record Past (f : List ℕ) (m : ℕ) (l b x : List ℕ) : Type 0 where
  pub past : ℕ
  pub rest : List ℕ
  pub all : f ++ rest ≡ l
  pub place : m ≡ length f + past
  pub within : past ≤ length rest
  pub same : take past rest ++ b ≡ x

pub go-past : (f : List ℕ) → all_digits f ≡ true → (m : ℕ) (l b x : List ℕ) → m ≤ length l → take m l ++ b ≡ f ++ x → (m ≤ span l) ⊎ Past f m l b x
go-past [] i m l b x h e = inr record { past = m; rest = l; all = refl; place = omega arith; within = h; same = e }
go-past (c ∷ f) i zero l b x h e = inl (omega arith)
go-past (c ∷ f) i (suc m) [] b x h e = absurd (omega arith)
go-past (c ∷ f) i (suc m) (a ∷ l) b x h e =
    let first : a ≡ c = cc in
    let later : take m l ++ b ≡ f ++ x = cc in
    let longer = span-cons a l (ap is_digit first ∙ all_head c f i) in
    ⊎_elim
    (λ k. inl (omega (arith, longer, k)))
    (λ q. inr record {
      past = q.past;
      rest = q.rest;
      all = ap (λ (y : ℕ). y ∷ (f ++ q.rest)) (sym first) ∙ ap (λ (y : List ℕ). a ∷ y) q.all;
      place = omega (arith, q.place);
      within = q.within;
      same = q.same;
    })
    (go-past f (all_tail c f i) m l b x (omega arith) later)

-- digits in front are within the digits of the text
pub span-least : (f r : List ℕ) → all_digits f ≡ true → length f ≤ span (f ++ r)
span-least [] r i = omega arith
span-least (c ∷ f) r i = omega (arith, span-cons c (f ++ r) (all_head c f i), span-least f r (all_tail c f i))

-- nothing stands past the end
none-past : (n : ℕ) (l b : List ℕ) → n ≤ length l → take n l ++ b ≡ [] → n ≡ 0
none-past zero l b h e = refl
none-past (suc n) [] b h e = absurd (omega arith)
none-past (suc n) (c ∷ l) b h e = let z : ◌≡◌ {A = ℕ} 0 1 = cc in absurd (omega arith)

pub digits-most : (w : List ℕ) → all_digits w ≡ true → (m : ℕ) (l b : List ℕ) → m ≤ length l → take m l ++ b ≡ w → m ≤ span l
digits-most w i m l b h e =
    ⊎_elim
    (λ k. k)
    (λ q. omega (arith, q.place, none-past q.past q.rest b q.within q.same, ap span q.all, span-least w q.rest i))
    (go-past w i m l b [] h (e ∙ sym (append-nil w)))
