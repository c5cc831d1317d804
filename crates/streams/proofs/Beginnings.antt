-- What waits behind a beginning of a chunk, step by step: a loop over the chunk that ends early has taken such a beginning.
-- Assumes nothing.
use Prim.Native.Nat.{ℕ, zero, suc, ◌+◌, ◌-◌, ◌≤◌, ◌<◌}
use mathlib.Core.Path.{◌≡◌, refl, sym, ap, ◌∙◌}
use mathlib.Core.List.{List, [], ◌∷◌, ◌++◌}
use mathlib.Core.Bool.{Bool, true, false, cond}
use native.Mathlib.Omega.{arith}
use lib.Dec.{eqb}
use lib.ListN.{length, take, drop, length-drop}
use lib.Seq.{take-add, take_all}
use Rattle.streams.specs.declared.gathered.Gathered.{Gathered}
use Rattle.streams.specs.declared.gathered.Step.{Step}
use Rattle.streams.specs.Gathering.{no_byte, taken, buffer_taken, Gathering, gathering, gather_from}
use Rattle.streams.proofs.Gathering.{next_le, next-lt, next-within}
use Rattle.streams.specs.Turns.{Waiting, waiting, waiting_behind, gone_on}

-- two stretches of bytes, one behind the other
pub waiting-append : (a b : List ℕ) (buffer : List ℕ) (g : Gathered)
    → waiting_behind buffer g (a ++ b) ≡ waiting_behind (waiting_behind buffer g a).buffer (waiting_behind buffer g a).gathered b
unfolding waiting_behind
waiting-append [] b buffer g = refl
waiting-append (x ∷ a) b buffer g = by (eqb x 10) (waiting-append a b buffer no_byte) (waiting-append a b (buffer_taken buffer g x) (taken buffer g))
  where
    by : (t : Bool)
        → waiting_behind buffer no_byte (a ++ b)
        ≡ waiting_behind (waiting_behind buffer no_byte a).buffer (waiting_behind buffer no_byte a).gathered b
        → (let w = waiting_behind (buffer_taken buffer g x) (taken buffer g) a in
        waiting_behind (buffer_taken buffer g x) (taken buffer g) (a ++ b) ≡ waiting_behind w.buffer w.gathered b)
        → (let w = cond {A = Waiting} t (waiting_behind buffer no_byte a) (waiting_behind (buffer_taken buffer g x) (taken buffer g) a) in
        cond {A = Waiting} t (waiting_behind buffer no_byte (a ++ b)) (waiting_behind (buffer_taken buffer g x) (taken buffer g) (a ++ b))
        ≡ waiting_behind w.buffer w.gathered b)
    by true y z = y
    by false y z = z

-- what waits behind the bytes that a step takes is what the step leaves
step-taken : (l : List ℕ) (i n : ℕ) (buffer : List ℕ) (g : Gathered) → (gather_from i buffer g l).step.next ≡ i + n
    → waiting_behind buffer g (take n l) ≡ waiting (gather_from i buffer g l).buffer (gone_on (gather_from i buffer g l).step)
unfolding waiting_behind gather_from
step-taken [] i n buffer g e = ap (waiting_behind buffer g) (take_all n [] (omega arith))
step-taken (b ∷ l) i zero buffer g e = absurd (omega (arith, e, next-lt (b ∷ l) i buffer g (omega arith)))
step-taken (b ∷ l) i (suc n) buffer g e =
    by (eqb b 10) (next_le l (suc i) (buffer_taken buffer g b) (taken buffer g)) (step-taken l (suc i) n (buffer_taken buffer g b) (taken buffer g)) e
  where
    rest : Gathering
    rest = gather_from (suc i) (buffer_taken buffer g b) (taken buffer g) l

    by : (x : Bool)
        → suc i ≤ rest.step.next
        → (rest.step.next ≡ suc i + n
        → waiting_behind (buffer_taken buffer g b) (taken buffer g) (take n l) ≡ waiting rest.buffer (gone_on rest.step))
        → (cond {A = Gathering} x (gathering buffer g (suc i) true) rest).step.next ≡ i + suc n
        → cond {A = Waiting} x (waiting_behind buffer no_byte (take n l)) (waiting_behind (buffer_taken buffer g b) (taken buffer g) (take n l))
        ≡ waiting (cond {A = Gathering} x (gathering buffer g (suc i) true) rest).buffer
        (gone_on (cond {A = Gathering} x (gathering buffer g (suc i) true) rest).step)
    by true m h k = let none : n ≡ 0 = omega arith in rw none
    by false m h k = h (omega arith)

-- ---- a loop over a chunk, from a buffer and what is gathered in it
module _ (chunk : List ℕ) (buffer₀ : List ℕ) (g₀ : Gathered) where
  -- before the first step nothing is taken
  pub beginning-none : waiting_behind buffer₀ g₀ (take 0 chunk) ≡ waiting buffer₀ g₀
  unfolding waiting_behind
  beginning-none = refl

  -- what waits in a buffer where the loop ends early: a step has taken k bytes at most of the chunk
  abbrev pub Left : (buffer : List ℕ) → Type 0
  Left buffer = (k : ℕ) × (k ≤ length chunk) × (buffer ≡ (waiting_behind buffer₀ g₀ (take k chunk)).buffer)

  module _ (i : ℕ) (buffer : List ℕ) (g : Gathered) (s : waiting_behind buffer₀ g₀ (take i chunk) ≡ waiting buffer g) where
    -- a step takes a longer beginning of the chunk
    pub beginning-turn : (buffer' : List ℕ) (g' : Gathered) (t : Step)
        → t ≡ (gather_from i buffer g (drop i chunk)).step → buffer' ≡ (gather_from i buffer g (drop i chunk)).buffer → g' ≡ gone_on t
        → waiting_behind buffer₀ g₀ (take t.next chunk) ≡ waiting buffer' g'
    beginning-turn buffer' g' t p q r =
        let l = drop i chunk in
        let e = gather_from i buffer g l in
        let n = e.step.next - i in
        let place : e.step.next ≡ i + n = omega (arith, next_le l i buffer g) in
        ap (waiting_behind buffer₀ g₀) (ap (λ k. take k chunk) (ap (λ z. z.next) p ∙ place) ∙ take-add i n chunk)
        ∙ waiting-append (take i chunk) (take n l) buffer₀ g₀
        ∙ ap (λ w. waiting_behind w.buffer w.gathered (take n l)) s
        ∙ step-taken l i n buffer g place
        ∙ rw (r, q, p)

    -- the loop ends behind a step
    pub left-turn : i < length chunk → (buffer' : List ℕ) (t : Step)
        → t ≡ (gather_from i buffer g (drop i chunk)).step → buffer' ≡ (gather_from i buffer g (drop i chunk)).buffer → Left buffer'
    left-turn h buffer' t p q =
        let within : t.next ≤ length chunk = omega (arith, ap (λ z. z.next) p, next-within (drop i chunk) i buffer g, length-drop i chunk) in
        (t.next, within, sym (ap (λ z. z.buffer) (beginning-turn buffer' (gone_on t) t p q refl)))

    -- at the loop's end all of the chunk is taken
    pub beginning-done : length chunk ≤ i → waiting_behind buffer₀ g₀ chunk ≡ waiting buffer g
    beginning-done h = ap (waiting_behind buffer₀ g₀) (sym (take_all i chunk h)) ∙ s

    pub left-done : length chunk ≤ i → Left buffer
    left-done h =
        (length chunk, omega arith, sym (ap (λ z. z.buffer) (ap (waiting_behind buffer₀ g₀) (take_all (length chunk) chunk (omega arith)) ∙ beginning-done h)))
