-- Which texts are HEX by their length, and what is taken of one.
-- Assumes nothing.
use Prim.Native.Nat.{ℕ, ◌+◌, ◌*◌, ◌/◌, ◌%◌, ◌≤◌, ◌<◌}
use mathlib.Core.Path.{◌≡◌, refl}
use mathlib.Core.List.{List, [], ◌∷◌}
use mathlib.Core.Bool.{true, false}
use native.Mathlib.Omega.{arith}
use lib.ListN.{length, get_or}
use lib.Dec.{eqb}
use borrow.Author.Tests.{eq-eqb, ne_eqb, le-leb, lt-leb}
use Rattle.lent.specs.Line.{laid}
use Rattle.lent.proofs.Laws.{laid_out, laid_nil}
use Rattle.digits.proofs.Values.{both}
use Rattle.std.specs.Prelude.{Option, Some, None}
use Rattle.hex_bytes.specs.Digits.{hex_value, all_hex_digits}
use Rattle.hex_bytes.specs.Hex.{is_hex, pair_bytes, bytes_of_hex, hexed_of}
use Rattle.hex_bytes.proofs.Pairs.{all-hex-each, pair-bytes-length}

-- ---- by the length
pub hex-empty : (l : List ℕ) → length l ≡ 0 → is_hex l ≡ false
unfolding is_hex
hex-empty [] h = refl
hex-empty (b ∷ l) h = absurd (omega arith)

pub hex-single : (l : List ℕ) → length l ≡ 1 → is_hex l ≡ eqb (get_or l 0 0) 45
unfolding is_hex
hex-single [] h = absurd (omega arith)
hex-single (b ∷ []) h = refl
hex-single (b ∷ c ∷ l) h = absurd (omega arith)

pub hex-odd : (l : List ℕ) → 2 ≤ length l → length l % 2 ≡ 1 → is_hex l ≡ false
unfolding is_hex
hex-odd [] h k = absurd (omega arith)
hex-odd (b ∷ []) h k = absurd (omega arith)
hex-odd (b ∷ c ∷ l) h k = rw (ne_eqb (length l % 2) 0 (λ e. omega arith))

pub hex-even : (l : List ℕ) → 2 ≤ length l → length l % 2 ≡ 0 → is_hex l ≡ all_hex_digits l
unfolding is_hex
hex-even [] h k = absurd (omega arith)
hex-even (b ∷ []) h k = absurd (omega arith)
hex-even (b ∷ c ∷ l) h k = rw (eq-eqb (length l % 2) 0 (omega arith))

-- of two bytes or more, all are digits
pub hex-digits : (l : List ℕ) → is_hex l ≡ true → 2 ≤ length l → all_hex_digits l ≡ true
unfolding is_hex
hex-digits [] e h = absurd (omega arith)
hex-digits (b ∷ []) e h = absurd (omega arith)
hex-digits (b ∷ c ∷ l) e h = (both (eqb (length l % 2) 0) (all_hex_digits (b ∷ c ∷ l)) e).1

-- so both bytes of each pair are
pub hex-pair : (l : List ℕ) (i : ℕ) → is_hex l ≡ true → i < length l / 2
    → (hex_value (get_or l (2 * i) 0) < 16) × (hex_value (get_or l (2 * i + 1) 0) < 16)
hex-pair l i e h =
    let all = hex-digits l e (omega arith) in
    (all-hex-each l (2 * i) all (omega arith), all-hex-each l (2 * i + 1) all (omega arith))

-- ---- what is taken
pub bytes-taken : (l : List ℕ) → is_hex l ≡ true → bytes_of_hex l ≡ pair_bytes l
unfolding bytes_of_hex
bytes-taken l e = rw e

pub bytes-none : (l : List ℕ) → is_hex l ≡ false → bytes_of_hex l ≡ []
unfolding bytes_of_hex
bytes-none l e = rw e

-- what `read` shows at a return
abbrev pub Takes : (text into : List ℕ) (answer : Option ℕ) (last : List ℕ) → Type 0
Takes text into answer last = (answer ≡ hexed_of text (length into)) × (last ≡ laid into (bytes_of_hex text))

module _ (text into : List ℕ) where
  -- HEX whose bytes have room: they are laid down
  pub read-in : (last : List ℕ) → is_hex text ≡ true → length text / 2 ≤ length into → last ≡ laid into (pair_bytes text)
      → Takes text into (Some (length text / 2)) last
  unfolding hexed_of bytes_of_hex
  read-in last e h l = rw (e, pair-bytes-length text, le-leb (length text / 2) (length into) h) (refl, l)

  -- HEX whose bytes have none
  pub read_out : is_hex text ≡ true → length into < length text / 2 → Takes text into None into
  unfolding hexed_of bytes_of_hex
  read_out e h =
      let kept = laid_out into (pair_bytes text) (omega (arith, pair-bytes-length text)) in
      rw (e, pair-bytes-length text, lt-leb (length text / 2) (length into) h, kept) (refl, refl)

  -- no HEX
  pub read_none : is_hex text ≡ false → Takes text into None into
  unfolding hexed_of bytes_of_hex
  read_none e = rw (e, laid_nil into) (refl, refl)
