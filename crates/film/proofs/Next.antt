-- Frame by frame along the film: a frame's last perf lies in the foot of the one before it, or that frame is the first of the next foot.
-- Assumes nothing.
use Prim.Native.Nat.{ℕ, ◌+◌, ◌-◌, ◌*◌, ◌/◌, ◌%◌, ◌≤◌, ◌<◌}
use native.Mathlib.Omega.{arith}
use native.Mathlib.Nat.{div-add-mod', mod-lt, div-eq_of_lt, add-div_right}
use mathlib.Core.Path.{◌≡◌, refl, ap, ◌∙◌}
use mathlib.Core.Bool.{Bool, true, false}
use mathlib.Core.Logic.{inl, inr}
use borrow.Author.Tests.{ltb-true, ltb-false}
use lib.Arith.{digits_div, digits_mod}
use lib.Dec.{ltb}
use Rattle.film.specs.Footage.{last_perf, footage_by}
use Rattle.film.specs.Statements.{Follows}

-- P perfs a frame, at least one, and no more than a foot has
module _ (P foot : ℕ) (some : 0 < P) (few : P ≤ foot) where
  -- a perf that is r on from where foot q begins lies in that foot, and is one of the frame r / P in it
  at : (x q r : ℕ) → x ≡ q * foot + r → r < foot → (x / foot ≡ q) × (x % foot / P ≡ r / P)
  at x q r e h = (ap (λ (k : ℕ). k / foot) e ∙ digits_div q h, ap (λ (k : ℕ). k % foot / P) e ∙ ap (λ (k : ℕ). k / P) (digits_mod q h))

  -- the first frame is frame 0 of foot 0
  pub first : ((footage_by 0 P foot).feet ≡ 0) × ((footage_by 0 P foot).frames ≡ 0)
  first =
      let less : last_perf 0 P < P = omega arith in
      let there = at (last_perf 0 P) 0 (last_perf 0 P) (omega arith) (omega arith) in
      (there.0, there.1 ∙ div-eq_of_lt less)

  -- and each next frame follows this one
  module _ (f : ℕ) where
    abbrev rest : ℕ
    rest = last_perf f P % foot

    -- its last perf is P on
    on : last_perf (f + 1) P ≡ last_perf f P / foot * foot + (rest + P)
    on = omega (arith, div-add-mod' (last_perf f P) foot)

    by : (t : Bool) → ltb (rest + P) foot ≡ t → Follows (footage_by f P foot) (footage_by (f + 1) P foot)
    by true e =
        let there = at (last_perf (f + 1) P) (last_perf f P / foot) (rest + P) on (ltb-true (rest + P) foot e) in
        inl (there.0, there.1 ∙ add-div_right rest some)
    by false e =
        let past = ltb-false (rest + P) foot e in
        let before = mod-lt (last_perf f P) {m = foot} (omega arith) in
        let less : rest + P - foot < P = omega arith in
        let there = at (last_perf (f + 1) P) (last_perf f P / foot + 1) (rest + P - foot) (omega (arith, on)) (omega arith) in
        inr (there.0, there.1 ∙ div-eq_of_lt less)

    pub next : Follows (footage_by f P foot) (footage_by (f + 1) P foot)
    next = by (ltb (rest + P) foot) refl
