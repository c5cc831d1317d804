-- What the bounds of a fraction tell, and what makes them (BEHAVIOUR: Time).
-- Assumes nothing.
use Rattle.std.specs.Prelude.{ℕ, ◌≤◌, ◌≡◌, true, ◌&&◌, leb, ℤ, nat_abs}
use Rattle.std.proofs.Math.Bool.{and-eq-true_iff}
use Rattle.std.proofs.Common.{leb-true, le-leb}
use Rattle.time.specs.Bounds.{most_denominator, is_fraction}

pub record InBounds (most : ℕ) (p : ℤ) (q : ℕ) : Type 0 where
  pub top : nat_abs p ≤ most
  pub least : 1 ≤ q
  pub bottom : q ≤ most_denominator

pub is_fraction-told : (most : ℕ) (p : ℤ) (q : ℕ) → is_fraction most p q ≡ true → InBounds most p q
unfolding is_fraction
is_fraction-told most p q h =
    let both = (and-eq-true_iff (leb (nat_abs p) most) (leb 1 q && leb q most_denominator)).0 h in
    let ends = (and-eq-true_iff (leb 1 q) (leb q most_denominator)).0 both.1 in
    record {
      top = leb-true (nat_abs p) most both.0;
      least = leb-true 1 q ends.0;
      bottom = leb-true q most_denominator ends.1;
    }

pub is_fraction-in : (most : ℕ) (p : ℤ) (q : ℕ) → InBounds most p q → is_fraction most p q ≡ true
unfolding is_fraction
is_fraction-in most p q h = simp (le-leb (nat_abs p) most h.top, le-leb 1 q h.least, le-leb q most_denominator h.bottom)
