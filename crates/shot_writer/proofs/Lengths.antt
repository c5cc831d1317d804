-- How long a record is on disk, and beside the numbers in which it is handed over.
-- Assumes nothing.
use Prim.Native.Nat.{ℕ, suc, ◌*◌, ◌≤◌}
use mathlib.Core.Path.{◌≡◌, refl, ap}
use mathlib.Core.List.{List, [], ◌∷◌}
use mathlib.Core.Bool.{Bool, true, false, cond}
use native.Mathlib.Omega.{arith}
use lib.Dec.{eqb}
use lib.IntN.{ℤ, pos}
use lib.ListN.{length, length-append, get_or}
use Rattle.numbers.specs.Sign.{up_from}
use Rattle.low_bytes.specs.LowBytes.{signed_bytes, twos_of}
use Rattle.low_bytes.specs.Laws.{low-length}
use Rattle.shot_lists.specs.declared.records.Record.{Record}
use Rattle.shot_lists.specs.declared.records.Record.TheVariants.{Rate, Shot, Reel}
use Rattle.shot_lists.specs.Entries.{body_fixed, of_kind, in_numbers, entry_of, taken}
use Rattle.shot_lists.specs.Laws.{taken-told, end-apart}
use Rattle.shot_writer.specs.ListText.{record_bytes}

pub rate-long : (n : ℕ) → length (record_bytes (Rate n)) ≡ 2
unfolding record_bytes
rate-long n = ap suc (low-length 1 n)

pub shot-long : (first end : ℤ) → length (record_bytes (Shot first end)) ≡ 9
unfolding record_bytes
shot-long first end =
    omega (arith, length-append (signed_bytes 4 first) (signed_bytes 4 end), low-length 4 (twos_of 4 first), low-length 4 (twos_of 4 end))

pub reel-long : (n : ℕ) → length (record_bytes (Reel n)) ≡ 5
unfolding record_bytes
reel-long n = ap suc (low-length 4 n)

-- three bytes at most for each number: so no list's length wraps
bound_by : (p q s : Bool) (n m : ℕ) (x y : ℤ) → (◌≡◌ {A = ℕ} (cond p 1 (cond q 2 (cond s 1 0))) 0 → ⊥)
    → length (record_bytes (cond p (Rate n) (cond q (Shot x y) (Reel m)))) ≤ 3 * suc (cond p 1 (cond q 2 (cond s 1 0)))
bound_by true q s n m x y h = omega (arith, rate-long n)
bound_by false true s n m x y h = omega (arith, shot-long x y)
bound_by false false true n m x y h = omega (arith, reel-long m)
bound_by false false false n m x y h = absurd (h refl)

pub taken-bytes : (held : ℕ) (l : List ℤ) (r : Record) (after size : ℕ) → entry_of in_numbers held l ≡ taken r after size
    → length (record_bytes r) ≤ 3 * size
unfolding entry_of body_fixed of_kind
taken-bytes held [] r after size h = absurd (end-apart r after size h)
taken-bytes held (x ∷ l) r after size h =
    let t = taken-told in_numbers held x l r after size h in
    let k = up_from x in
    let a = get_or l 0 (pos 0) in
    let made = bound_by (eqb k 1) (eqb k 2) (eqb k 3) (up_from a) (up_from a) a (get_or l 1 (pos 0)) t.known in
    let same = ap (λ (y : Record). length (record_bytes y)) t.made in
    omega (arith, made, same, t.long)
