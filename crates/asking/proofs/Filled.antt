-- The table's bytes: a row takes 24 of them, the word from the first on and the letters from the seventeenth on.
-- Assumes nothing.
use Prim.Native.Nat.{ℕ, zero, suc, ◌+◌, ◌*◌, ◌<◌}
use mathlib.Core.Path.{◌≡◌, refl, ap, ◌∙◌}
use mathlib.Core.List.{List, [], ◌∷◌, ◌++◌}
use native.Mathlib.Omega.{arith}
use lib.ListN.{length, get_or, length-append, get_or-append}
use lib.Seq.{get_or-append-add}
use Rattle.asking.specs.Table.{Row, row, rows, row_count, row_at, filled, row_bytes, bytes_in, table_bytes, kind_of}

filled-length : (n : ℕ) (l : List ℕ) → length (filled n l) ≡ n
unfolding filled
filled-length zero l = refl
filled-length (suc n) [] = ap suc (filled-length n [])
filled-length (suc n) (b ∷ l) = ap suc (filled-length n l)

-- what is filled up is a space behind the word
filled_at : (n : ℕ) (l : List ℕ) (k : ℕ) → k < n → get_or (filled n l) k 0 ≡ get_or l k 32
unfolding filled
filled_at zero l k h = absurd (omega arith)
filled_at (suc n) [] zero h = refl
filled_at (suc n) [] (suc k) h = filled_at n [] k (omega arith)
filled_at (suc n) (b ∷ l) zero h = refl
filled_at (suc n) (b ∷ l) (suc k) h = filled_at n l k (omega arith)

row-length : (r : Row) → length (row_bytes r) ≡ 24
row-length r = length-append (filled 16 r.name) (filled 8 r.letters) ∙ omega (arith, filled-length 16 r.name, filled-length 8 r.letters)

-- the bytes of a row
bytes-at : (rs : List Row) (n j : ℕ) → n < length rs → j < 24 → get_or (bytes_in rs) (24 * n + j) 0 ≡ get_or (row_bytes (get_or rs n (row "" ""))) j 0
unfolding bytes_in
bytes-at [] n j h k = absurd (omega arith)
bytes-at (r ∷ rs) zero j h k =
    let e : 24 * zero + j ≡ j = omega arith in
    ap (λ i. get_or (row_bytes r ++ bytes_in rs) i 0) e ∙ get_or-append (row_bytes r) (bytes_in rs) 0 j (omega (arith, row-length r))
bytes-at (r ∷ rs) (suc n) j h k =
    let e : 24 * suc n + j ≡ length (row_bytes r) + (24 * n + j) = omega (arith, row-length r) in
    ap (λ i. get_or (row_bytes r ++ bytes_in rs) i 0) e
    ∙ get_or-append-add (row_bytes r) (bytes_in rs) (24 * n + j) 0
    ∙ bytes-at rs n j (omega arith) k

-- a byte of a row's word
pub name-at : (n i : ℕ) → n < row_count → i < 16 → get_or table_bytes (24 * n + i) 0 ≡ get_or (row_at n).name i 32
unfolding table_bytes rows
name-at n i h k =
    let r = row_at n in
    bytes-at rows n i h (omega arith)
    ∙ get_or-append (filled 16 r.name) (filled 8 r.letters) 0 i (omega (arith, filled-length 16 r.name))
    ∙ filled_at 16 r.name i k

-- a letter of a row
pub letter_at : (n k : ℕ) → n < row_count → k < 8 → get_or table_bytes (24 * n + 16 + k) 0 ≡ kind_of n k
unfolding table_bytes rows
letter_at n k h l =
    let r = row_at n in
    let e : 24 * n + 16 + k ≡ 24 * n + (16 + k) = omega arith in
    let f : 16 + k ≡ length (filled 16 r.name) + k = omega (arith, filled-length 16 r.name) in
    ap (λ i. get_or table_bytes i 0) e
    ∙ bytes-at rows n (16 + k) h (omega arith)
    ∙ ap (λ i. get_or (row_bytes r) i 0) f
    ∙ get_or-append-add (filled 16 r.name) (filled 8 r.letters) k 0
    ∙ filled_at 8 r.letters k l
