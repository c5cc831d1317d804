-- Laws of the kinds of records, and of bodies whose length the kind fixes.
-- Assumes nothing.
use Rattle.std.specs.Prelude.{ℕ, suc, ◌≡◌, refl, Bool, true, false, cond, eqb, Result, Ok, Err}
use Rattle.std.proofs.Common.{arith}
use borrow.Author.Tests.{eqb-true}
use Rattle.answers.specs.declared.Refusal.{Refusal}
use Rattle.answers.specs.Refusals.{no_such_kind}
use Rattle.shot_lists.specs.declared.records.RecordKind.{RecordKind}
use Rattle.shot_lists.specs.declared.records.RecordKind.TheVariants as kind
use Rattle.shot_lists.specs.Entries.{kind_number, kind_of, body_fixed}

module _ (rate shot reel : ℕ) where
  -- a body has a byte at least
  pub fixed-known : (k : RecordKind) → body_fixed (suc rate) (suc shot) (suc reel) (kind_number k) ≡ 0 → ⊥
  unfolding body_fixed
  fixed-known kind.Rate h = omega arith
  fixed-known kind.Shot h = omega arith
  fixed-known kind.Reel h = omega arith

  -- and where there is no such kind, there is none
  pub fixed-unknown : (n : ℕ) (e : Refusal) → kind_of n ≡ Err e → body_fixed rate shot reel n ≡ 0
  unfolding body_fixed kind_of
  fixed-unknown n e h = by (eqb n 1) (eqb n 2) (eqb n 3) h
    where
      by : (p q r : Bool)
          → ◌≡◌ {A = Result RecordKind Refusal} (cond p (Ok kind.Rate) (cond q (Ok kind.Shot) (cond r (Ok kind.Reel) (Err no_such_kind)))) (Err e)
          → ◌≡◌ {A = ℕ} (cond p rate (cond q shot (cond r reel 0))) 0
      by true q r g = let z : ◌≡◌ {A = ℕ} 0 1 = cc in absurd (omega arith)
      by false true r g = let z : ◌≡◌ {A = ℕ} 0 1 = cc in absurd (omega arith)
      by false false true g = let z : ◌≡◌ {A = ℕ} 0 1 = cc in absurd (omega arith)
      by false false false g = refl

-- the number of a kind that a number has, and why it has none
pub kind-known : (n : ℕ) (k : RecordKind) → kind_of n ≡ Ok k → n ≡ kind_number k
unfolding kind_of
kind-known n k h = by (eqb n 1) (eqb n 2) (eqb n 3) refl refl refl h
  where
    by : (p q r : Bool) → eqb n 1 ≡ p → eqb n 2 ≡ q → eqb n 3 ≡ r
        → ◌≡◌ {A = Result RecordKind Refusal} (cond p (Ok kind.Rate) (cond q (Ok kind.Shot) (cond r (Ok kind.Reel) (Err no_such_kind)))) (Ok k)
        → n ≡ kind_number k
    by true q r a b c g = let e : kind.Rate ≡ k = cc in rw (← e) (eqb-true n 1 a)
    by false true r a b c g = let e : kind.Shot ≡ k = cc in rw (← e) (eqb-true n 2 b)
    by false false true a b c g = let e : kind.Reel ≡ k = cc in rw (← e) (eqb-true n 3 c)
    by false false false a b c g = let z : ◌≡◌ {A = ℕ} 0 1 = cc in absurd (omega arith)

pub kind-unknown : (n : ℕ) (e : Refusal) → kind_of n ≡ Err e → no_such_kind ≡ e
unfolding kind_of
kind-unknown n e h = by (eqb n 1) (eqb n 2) (eqb n 3) h
  where
    by : (p q r : Bool)
        → ◌≡◌ {A = Result RecordKind Refusal} (cond p (Ok kind.Rate) (cond q (Ok kind.Shot) (cond r (Ok kind.Reel) (Err no_such_kind)))) (Err e)
        → no_such_kind ≡ e
    by true q r g = let z : ◌≡◌ {A = ℕ} 0 1 = cc in absurd (omega arith)
    by false true r g = let z : ◌≡◌ {A = ℕ} 0 1 = cc in absurd (omega arith)
    by false false true g = let z : ◌≡◌ {A = ℕ} 0 1 = cc in absurd (omega arith)
    by false false false g = cc
