-- A number has its bytes, and no others: bytes and numbers below a power of 256 go both ways across, and so does two's complement.
-- Assumes nothing.
use Prim.Native.Nat.{ℕ, ◌^◌, ◌<◌}
use mathlib.Core.Path.{◌≡◌, sym, ap, ◌∙◌, subst}
use mathlib.Core.List.{List}
use lib.ListN.{length}
use Rattle.low_bytes.specs.LowBytes.{Bytes, worth, signed_of, Within, low_bytes, twos_of}
use Rattle.low_bytes.specs.Laws.{low-length, low-bytes, twos-below, signed-twos, twos-signed, signed-within}
use Rattle.low_bytes.proofs.Worth.{worth-below, worth-low, low-worth}
use Rattle.low_bytes.specs.Statements.{UnsignedIs, UnsignedOne, SignedIs, SignedOne}

pub unsigned_is : UnsignedIs
unsigned_is w n h = record { long = low-length w n; bytes = low-bytes w n; is = worth-low w n h }

-- bytes of a known number
below : (w : ℕ) (l : List ℕ) → length l ≡ w → Bytes l → worth l < 256 ^ w
below w l e h = subst (λ (k : ℕ). worth l < 256 ^ k) e (worth-below l h)

back : (w : ℕ) (l : List ℕ) → length l ≡ w → Bytes l → l ≡ low_bytes w (worth l)
back w l e h = sym (low-worth l h) ∙ ap (λ (k : ℕ). low_bytes k (worth l)) e

pub unsigned_one : UnsignedOne
unsigned_one w n l u =
    (back w l u.long u.bytes ∙ ap (low_bytes w) u.is, subst (λ (m : ℕ). m < 256 ^ w) u.is (below w l u.long u.bytes))

pub signed_is : SignedIs
signed_is w z h =
    record {
      long = low-length w (twos_of w z);
      bytes = low-bytes w (twos_of w z);
      is = ap (signed_of w) (worth-low w (twos_of w z) (twos-below w z h)) ∙ signed-twos w z h;
    }

pub signed_one : SignedOne
signed_one w z l s =
    let small = below w l s.long s.bytes in (
      back w l s.long s.bytes ∙ ap (low_bytes w) (sym (twos-signed w (worth l) small) ∙ ap (twos_of w) s.is),
      subst (Within w) s.is (signed-within w (worth l) small),
    )
