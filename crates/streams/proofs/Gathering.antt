-- A line gathered byte by byte: each step of the code is one of the definition.
-- Assumes nothing.
use Prim.Native.Nat.{ℕ, suc, ◌+◌, ◌≤◌, ◌<◌}
use mathlib.Core.Path.{◌≡◌, refl, sym, ap, ◌∙◌}
use mathlib.Core.List.{List, [], ◌∷◌}
use mathlib.Core.Bool.{Bool, true, false, cond}
use native.Mathlib.Omega.{arith}
use native.Mathlib.Numerals.{add-one}
use lib.ListN.{length, drop, get_or, length-set, drop_of_length-le}
use lib.Dec.{eqb}
use lib.Seq.{set_out, drop-cons}
use borrow.Author.Tests.{lt-ltb, le-ltb, ne_eqb}
use Rattle.streams.specs.declared.gathered.Gathered.{Gathered}
use Rattle.streams.specs.Gathering.{more, taken, buffer_taken, Gathering, gathering, gather_from}

-- ---- one byte more
module _ (buffer : List ℕ) (g : Gathered) (b : ℕ) where
  -- there is room for it
  pub taken-room : g.len < length buffer → record { len = g.len + 1; over = g.over } ≡ taken buffer g
  unfolding more
  taken-room h = rw (lt-ltb g.len (length buffer) h)

  -- there is none
  pub taken-over : length buffer ≤ g.len → record { len = g.len; over = true } ≡ taken buffer g
  unfolding more
  taken-over h = rw (le-ltb g.len (length buffer) h)

  pub buffer-over : length buffer ≤ g.len → buffer ≡ buffer_taken buffer g b
  buffer-over h = sym (set_out buffer g.len b h)

-- ---- a newline, and any other byte
pub gather-end : (i : ℕ) (buffer : List ℕ) (g : Gathered) (l : List ℕ) → gather_from i buffer g (10 ∷ l) ≡ gathering buffer g (suc i) true
unfolding gather_from
gather-end i buffer g l = refl

pub gather-byte : (i : ℕ) (buffer : List ℕ) (g : Gathered) (b : ℕ) (l : List ℕ) → (b ≡ 10 → ⊥)
    → gather_from i buffer g (b ∷ l) ≡ gather_from (suc i) (buffer_taken buffer g b) (taken buffer g) l
unfolding gather_from
gather-byte i buffer g b l n = rw (ne_eqb b 10 n)

-- ---- the place past the last byte taken: not before the first, past it where there is one, and within the bytes
pub next_le : (l : List ℕ) (i : ℕ) (buffer : List ℕ) (g : Gathered) → i ≤ (gather_from i buffer g l).step.next
unfolding gather_from
next_le [] i buffer g = omega arith
next_le (b ∷ l) i buffer g = by (eqb b 10) (next_le l (suc i) (buffer_taken buffer g b) (taken buffer g))
  where
    by : (x : Bool) → suc i ≤ (gather_from (suc i) (buffer_taken buffer g b) (taken buffer g) l).step.next
        → i ≤ (cond {A = Gathering} x (gathering buffer g (suc i) true) (gather_from (suc i) (buffer_taken buffer g b) (taken buffer g) l)).step.next
    by true h = omega arith
    by false h = omega arith

pub next-lt : (l : List ℕ) (i : ℕ) (buffer : List ℕ) (g : Gathered) → 0 < length l → i < (gather_from i buffer g l).step.next
unfolding gather_from
next-lt [] i buffer g h = absurd (omega arith)
next-lt (b ∷ l) i buffer g h = by (eqb b 10) (next_le l (suc i) (buffer_taken buffer g b) (taken buffer g))
  where
    by : (x : Bool) → suc i ≤ (gather_from (suc i) (buffer_taken buffer g b) (taken buffer g) l).step.next
        → i < (cond {A = Gathering} x (gathering buffer g (suc i) true) (gather_from (suc i) (buffer_taken buffer g b) (taken buffer g) l)).step.next
    by true h = omega arith
    by false h = omega arith

pub next-within : (l : List ℕ) (i : ℕ) (buffer : List ℕ) (g : Gathered) → (gather_from i buffer g l).step.next ≤ i + length l
unfolding gather_from
next-within [] i buffer g = omega arith
next-within (b ∷ l) i buffer g = by (eqb b 10) (next-within l (suc i) (buffer_taken buffer g b) (taken buffer g))
  where
    by : (x : Bool) → (gather_from (suc i) (buffer_taken buffer g b) (taken buffer g) l).step.next ≤ suc i + length l
        → (cond {A = Gathering} x (gathering buffer g (suc i) true) (gather_from (suc i) (buffer_taken buffer g b) (taken buffer g) l)).step.next ≤ i + suc (length l)
    by true h = omega arith
    by false h = omega arith

-- the buffer keeps its length
pub gather-length : (l : List ℕ) (i : ℕ) (buffer : List ℕ) (g : Gathered) → length (gather_from i buffer g l).buffer ≡ length buffer
unfolding gather_from
gather-length [] i buffer g = refl
gather-length (b ∷ l) i buffer g = by (eqb b 10) (gather-length l (suc i) (buffer_taken buffer g b) (taken buffer g))
  where
    by : (x : Bool) → length (gather_from (suc i) (buffer_taken buffer g b) (taken buffer g) l).buffer ≡ length (buffer_taken buffer g b)
        → length (cond {A = Gathering} x (gathering buffer g (suc i) true) (gather_from (suc i) (buffer_taken buffer g b) (taken buffer g) l)).buffer ≡ length buffer
    by true e = refl
    by false e = e ∙ length-set buffer g.len b

-- ---- the loop of `gather`: what is wanted from here is what is wanted from the start
module _ (chunk : List ℕ) (from : ℕ) (buffer₀ : List ℕ) (g₀ : Gathered) where
  pub record Running (buffer : List ℕ) (g : Gathered) (i : ℕ) : Type 0 where
    pub long : length buffer ≡ length buffer₀
    pub same : gather_from from buffer₀ g₀ (drop from chunk) ≡ gather_from i buffer g (drop i chunk)

  -- what the return shows
  abbrev pub Gathers : Gathering → Type 0
  Gathers e = (e.step ≡ (gather_from from buffer₀ g₀ (drop from chunk)).step) × (e.buffer ≡ (gather_from from buffer₀ g₀ (drop from chunk)).buffer)

  module _ (buffer : List ℕ) (g : Gathered) (i : ℕ) (s : Running buffer g i) where
    shown : (e : Gathering) → gather_from i buffer g (drop i chunk) ≡ e → Gathers e
    shown e p = let q = s.same ∙ p in (sym (ap (λ z. z.step) q), sym (ap (λ z. z.buffer) q))

    pub running-end : i < length chunk → get_or chunk i 0 ≡ 10 → Gathers (gathering buffer g (i + 1) true)
    running-end h e =
        shown (gathering buffer g (i + 1) true) (rw (drop-cons chunk i 0 h, e, add-one) (gather-end i buffer g (drop (suc i) chunk)))

    pub running-turn : (buffer' : List ℕ) (g' : Gathered) → i < length chunk → (get_or chunk i 0 ≡ 10 → ⊥)
        → (g' ≡ taken buffer g) × (buffer' ≡ buffer_taken buffer g (get_or chunk i 0)) → Running buffer' g' (i + 1)
    running-turn buffer' g' h n p = record {
      long = ap length p.1 ∙ length-set buffer g.len (get_or chunk i 0) ∙ s.long;
      same =
          s.same
          ∙ ap (gather_from i buffer g) (drop-cons chunk i 0 h)
          ∙ gather-byte i buffer g (get_or chunk i 0) (drop (suc i) chunk) n
          ∙ rw (p.0, p.1, add-one);
    }

    pub running-out : length chunk ≤ i → Gathers (gathering buffer g i false)
    unfolding gather_from
    running-out h = shown (gathering buffer g i false) (rw (drop_of_length-le chunk {i = i} h))
