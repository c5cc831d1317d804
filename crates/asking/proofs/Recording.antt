-- The loop of `records`: what is wanted from here is what is wanted from the start.
-- Assumes nothing.
use Rattle.std.specs.Prelude.{None}
use Rattle.asking.specs.Numbers.{some_word}
use Prim.Native.Nat.{ℕ, zero, suc, ◌+◌, ◌-◌, ◌≤◌, ◌<◌}
use mathlib.Core.Path.{◌≡◌, refl, sym, ap, subst, ◌∙◌}
use mathlib.Core.List.{List}
use mathlib.Core.Bool.{Bool}
use native.Mathlib.Omega.{arith}
use lib.IntN.{ℤ}
use lib.ListN.{length, drop, set, length-set}
use Rattle.asking.specs.declared.numbered.Listed.{Listed}
use Rattle.asking.specs.RecordWords.{next_at, due_behind, is_done, record_listing, records_from, records_of}

-- n kinds and numbers were put into the list
pub record Recording (line : List ℕ) (from : ℕ) (list₀ list : List ℤ) (at due n : ℕ) : Type 0 where
  pub k : ℕ
  pub left : n + k ≡ length list₀
  pub long : length list ≡ length list₀
  pub same : records_of line from list₀ ≡ records_from k line at due n list

pub recording-start : (line : List ℕ) (from : ℕ) (list : List ℤ) → Recording line from list list from 0 0
recording-start line from list = record { k = length list; left = omega arith; long = refl; same = refl }

module _ (line : List ℕ) (from : ℕ) (list₀ list : List ℤ) (at due n : ℕ) (s : Recording line from list₀ list at due n) where
  -- what the return shows
  abbrev pub Ends : Listed → List ℤ → Type 0
  Ends r last = let e = records_of line from list₀ in (r ≡ e.listed) × (last ≡ e.list)

  module _ (done : Bool) (d : done ≡ is_done line at due) where
    ends_by : records_from s.k line at due n list ≡ record_listing line at due n list → Ends (record { all = done; count = n }) list
    ends_by e =
        let q = s.same ∙ e in
        (ap (λ (z : Bool). record { all = z; count = n }) d ∙ sym (ap (λ z. z.listed) q), sym (ap (λ z. z.list) q))

    -- neither a record nor a number that is due stands there
    pub recording-other : next_at due at (drop at line) ≡ None → Ends (record { all = done; count = n }) list
    unfolding records_from
    recording-other e = ends_by (by s.k)
      where
        by : (k : ℕ) → records_from k line at due n list ≡ record_listing line at due n list
        by zero = refl
        by (suc k) = rw e

    -- the list is full
    pub recording-full : length list₀ ≤ n → Ends (record { all = done; count = length list₀ }) list
    unfolding records_from
    recording-full h =
        let z : s.k ≡ 0 = omega (arith, s.left) in
        let m : length list₀ ≡ n = omega (arith, s.left) in
        subst (λ x. Ends (record { all = done; count = x }) list) (sym m) (ends_by (rw z))

  pub recording-turn : (z : ℤ) (next after : ℕ) → n < length list → next_at due at (drop at line) ≡ some_word z next → after ≡ due_behind due z
      → Recording line from list₀ (set list n z) next after (n + 1)
  unfolding records_from
  recording-turn z next after h e f = record {
    k = s.k - 1;
    left = omega (arith, s.left, s.long);
    long = length-set list n z ∙ s.long;
    same = s.same ∙ on s.k (omega (arith, s.left, s.long));
  }
    where
      on : (k : ℕ) → 0 < k → records_from k line at due n list ≡ records_from (k - 1) line next after (n + 1) (set list n z)
      on zero h = absurd (omega arith)
      on (suc k) h = let m : suc k - 1 ≡ k = omega arith in rw (e, f, m)
