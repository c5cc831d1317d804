-- A step of the chunk: a byte more is taken, and what waits behind the rest is what waits behind the whole.
-- Assumes nothing.
use Prim.Native.Nat.{ℕ, zero, suc, ◌+◌, ◌-◌, ◌≤◌, ◌<◌}
use mathlib.Core.Path.{◌≡◌, refl, sym, ap, ◌∙◌}
use mathlib.Core.List.{List, [], ◌∷◌}
use mathlib.Core.Bool.{Bool, true, false, cond}
use native.Mathlib.Omega.{arith}
use lib.Dec.{eqb}
use lib.ListN.{length, drop, length-drop}
use lib.Seq.{drop-nil, drop-drop}
use Rattle.streams.specs.declared.gathered.Gathered.{Gathered}
use Rattle.streams.specs.declared.gathered.Step.{Step}
use Rattle.streams.specs.Gathering.{no_byte, taken, buffer_taken, Gathering, gathering, gather_from}
use Rattle.streams.proofs.Gathering.{next_le, next-lt}
use Rattle.streams.specs.Turns.{Waiting, waiting, waiting_behind, gone_on}

-- a byte more of the chunk is taken
pub next_more : (chunk : List ℕ) (i n : ℕ) (buffer : List ℕ) (g : Gathered) → i < length chunk
    → n ≡ (gather_from i buffer g (drop i chunk)).step.next → i < n
next_more chunk i n buffer g h e = omega (arith, next-lt (drop i chunk) i buffer g (omega (arith, length-drop i chunk)))

-- what waits behind all bytes waits behind those that a step leaves
step-waiting : (l : List ℕ) (i n : ℕ) (buffer : List ℕ) (g : Gathered) → (gather_from i buffer g l).step.next ≡ i + n
    → waiting_behind buffer g l ≡ waiting_behind (gather_from i buffer g l).buffer (gone_on (gather_from i buffer g l).step) (drop n l)
unfolding waiting_behind gather_from
step-waiting [] i n buffer g e = sym (ap (waiting_behind buffer g) (drop-nil n))
step-waiting (b ∷ l) i zero buffer g e = absurd (omega (arith, e, next-lt (b ∷ l) i buffer g (omega arith)))
step-waiting (b ∷ l) i (suc n) buffer g e = by (eqb b 10) (step-waiting l (suc i) n (buffer_taken buffer g b) (taken buffer g)) e
  where
    rest : Gathering
    rest = gather_from (suc i) (buffer_taken buffer g b) (taken buffer g) l

    by : (x : Bool)
        → (rest.step.next ≡ suc i + n
        → waiting_behind (buffer_taken buffer g b) (taken buffer g) l ≡ waiting_behind rest.buffer (gone_on rest.step) (drop n l))
        → (cond {A = Gathering} x (gathering buffer g (suc i) true) rest).step.next ≡ i + suc n
        → cond {A = Waiting} x (waiting_behind buffer no_byte l) (waiting_behind (buffer_taken buffer g b) (taken buffer g) l)
        ≡ waiting_behind (cond {A = Gathering} x (gathering buffer g (suc i) true) rest).buffer
        (gone_on (cond {A = Gathering} x (gathering buffer g (suc i) true) rest).step) (drop n l)
    by true h k = let none : n ≡ 0 = omega arith in rw none
    by false h k = h (omega arith)

-- so it is from turn to turn of the loop, and at its end nothing is left
pub waiting-turn : (chunk : List ℕ) (i : ℕ) (buffer : List ℕ) (g : Gathered) (buffer' : List ℕ) (g' : Gathered) (t : Step)
    → t ≡ (gather_from i buffer g (drop i chunk)).step → buffer' ≡ (gather_from i buffer g (drop i chunk)).buffer → g' ≡ gone_on t
    → waiting_behind buffer g (drop i chunk) ≡ waiting_behind buffer' g' (drop t.next chunk)
waiting-turn chunk i buffer g buffer' g' t p q r =
    let l = drop i chunk in
    let e = gather_from i buffer g l in
    let n = e.step.next - i in
    let place : e.step.next ≡ i + n = omega (arith, next_le l i buffer g) in
    step-waiting l i n buffer g place
    ∙ ap (waiting_behind e.buffer (gone_on e.step)) (drop-drop n i chunk ∙ ap (λ k. drop k chunk) (sym place))
    ∙ rw (r, q, p)

pub waiting-done : (chunk : List ℕ) (i : ℕ) (buffer : List ℕ) (g : Gathered) → length chunk ≤ i
    → waiting_behind buffer g (drop i chunk) ≡ waiting buffer g
unfolding waiting_behind
waiting-done chunk i buffer g h = by (drop i chunk) (omega (arith, length-drop i chunk))
  where
    by : (l : List ℕ) → length l ≡ 0 → waiting_behind buffer g l ≡ waiting buffer g
    by [] e = refl
    by (b ∷ l) e = absurd (omega arith)
