-- The bytes of a record that nothing speaks against are those of the grammar, and so are a list's.
-- Assumes nothing.
use Prim.Native.Nat.{ℕ, ◌<◌, ◌^◌}
use mathlib.Core.Path.{◌≡◌, refl}
use mathlib.Core.List.{List, [], ◌∷◌, ◌++◌}
use mathlib.Core.Bool.{true, and-eq-true_iff}
use native.Mathlib.Omega.{arith}
use borrow.Author.Tests.{ltb-true, leb-true}
use lib.Dec.{ltb, leb}
use lib.IntN.{ℤ, pos, negsuc, nat_abs}
use Rattle.answers.specs.Order.{Clear}
use Rattle.answers.specs.OrderLaws.{not_in}
use Rattle.answers.specs.Refusals.{is_count, most_count}
use Rattle.rates.specs.Rates.{is_rate}
use Rattle.low_bytes.specs.LowBytes.{Bytes, Within, low_bytes, twos_of, signed_bytes}
use Rattle.low_bytes.specs.Laws.{bytes-nil, bytes-cons, bytes-tail, low-bytes}
use Rattle.low_bytes.proofs.Statements.{unsigned_is, signed_is}
use Rattle.shot_lists.specs.declared.records.Record.{Record}
use Rattle.shot_lists.specs.declared.records.Record.TheVariants.{Rate, Shot, Reel}
use Rattle.shot_lists.specs.Records.{held_after, faults, Sound}
use Rattle.shot_lists.specs.Grammar.{none, more, TwoFrames, OnDisk}
use Rattle.shot_writer.specs.ListText.{record_bytes, list_bytes}

-- ---- numbers that nothing speaks against fit their bytes

rate-below : (n : ℕ) → is_rate n ≡ true → n < 256 ^ 1
unfolding is_rate
rate-below n e = let most = leb-true n 12 ((and-eq-true_iff (leb 1 n) (leb n 12)).0 e).1 in omega arith

count-within : (z : ℤ) → is_count z ≡ true → Within 4 z
count-within (pos n) e = let most = leb-true n most_count e in omega arith
count-within (negsuc n) e = let most = leb-true (nat_abs (negsuc n)) most_count e in omega arith

-- a record's bytes, behind them what is behind them
record-on : (held : ℕ) (r : Record) (rs : List Record) (l : List ℕ) → Clear (faults held r) → OnDisk rs l → OnDisk (r ∷ rs) (record_bytes r ++ l)
unfolding record_bytes faults
record-on held (Rate n) rs l clear later =
    more (Rate n) _ rs l record { body = _; is = refl; of = unsigned_is 1 n (rate-below n (not_in (is_rate n) clear.0)) } later
record-on held (Shot first end) rs l clear later =
    let frames : TwoFrames first end (signed_bytes 4 first ++ signed_bytes 4 end) =
    record {
      front = signed_bytes 4 first;
      back = signed_bytes 4 end;
      parts = refl;
      starts = signed_is 4 first (count-within first (not_in (is_count first) clear.0));
      ends = signed_is 4 end (count-within end (not_in (is_count end) clear.1.0));
    } in
    more (Shot first end) _ rs l record { body = _; is = refl; of = frames } later
record-on held (Reel n) rs l clear later =
    more (Reel n) _ rs l record { body = _; is = refl; of = unsigned_is 4 n (ltb-true n (256 ^ 4) (not_in (ltb n (256 ^ 4)) clear.0)) } later

pub list_on : (held : ℕ) (rs : List Record) → Sound held rs → OnDisk rs (list_bytes rs)
unfolding list_bytes
list_on held [] sound = none
list_on held (r ∷ rs) sound = record-on held r rs (list_bytes rs) sound.0 (list_on (held_after held r) rs sound.1)

-- and they are bytes
bytes-append : (l m : List ℕ) → Bytes l → Bytes m → Bytes (l ++ m)
bytes-append [] m h k = k
bytes-append (b ∷ l) m h k = bytes-cons b (l ++ m) (h 0) (bytes-append l m (bytes-tail b l h) k)

record-bytes : (r : Record) → Bytes (record_bytes r)
unfolding record_bytes
record-bytes (Rate n) = bytes-cons 1 (low_bytes 1 n) (omega arith) (low-bytes 1 n)
record-bytes (Shot first end) =
    bytes-cons 2 (signed_bytes 4 first ++ signed_bytes 4 end) (omega arith)
    (bytes-append (signed_bytes 4 first) (signed_bytes 4 end) (low-bytes 4 (twos_of 4 first)) (low-bytes 4 (twos_of 4 end)))
record-bytes (Reel n) = bytes-cons 3 (low_bytes 4 n) (omega arith) (low-bytes 4 n)

pub list-bytes : (rs : List Record) → Bytes (list_bytes rs)
unfolding list_bytes
list-bytes [] = bytes-nil
list-bytes (r ∷ rs) = bytes-append (record_bytes r) (list_bytes rs) (record-bytes r) (list-bytes rs)
