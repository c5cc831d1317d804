-- A value whose fields are the derived default's is the one that hands over nothing.
-- Assumes nothing.
use Prim.Native.Nat.{ℕ}
use mathlib.Core.Path.{◌≡◌}
use mathlib.Core.Bool.{Bool, false}
use lib.IntN.{ℤ, pos}
use Rattle.exports.specs.declared.why.FactNumbers.{FactNumbers}
use Rattle.exports.specs.declared.lists.TzqRecord.{TzqRecord}
use Rattle.exports.specs.HandedWhy.{no_fact}
use Rattle.exports.specs.HandedLists.{record_of_kind}

fact-made : (a : ℕ) (x y : ℤ) (b : Bool) (c d e f : ℕ) → a ≡ 0 → x ≡ pos 0 → y ≡ pos 0 → b ≡ false → c ≡ 0 → d ≡ 0 → e ≡ 0 → f ≡ 0
    → ◌≡◌ {A = FactNumbers} (record { field = a; limit = x; value = y; negative = b; hours = c; minutes = d; seconds = e; frames = f }) no_fact
unfolding no_fact
fact-made a x y b c d e f p q r s t u v w = simp (p, q, r, s, t, u, v, w)

pub no-fact : (n : FactNumbers)
    → ((n.field ≡ 0) × ((n.limit ≡ pos 0) × ((n.value ≡ pos 0) × ((n.negative ≡ false) × ((n.hours ≡ 0) × ((n.minutes ≡ 0) × ((n.seconds ≡ 0) × (n.frames ≡ 0))))))))
    → n ≡ no_fact
no-fact n h = fact-made n.field n.limit n.value n.negative n.hours n.minutes n.seconds n.frames h.0 h.1.0 h.1.1.0 h.1.1.1.0 h.1.1.1.1.0 h.1.1.1.1.1.0 h.1.1.1.1.1.1.0 h.1.1.1.1.1.1.1

record-made : (a b c : ℕ) (x y : ℤ) (d e f : ℕ) → a ≡ 0 → b ≡ 0 → c ≡ 0 → x ≡ pos 0 → y ≡ pos 0 → d ≡ 0 → e ≡ 0 → f ≡ 0
    → ◌≡◌ {A = TzqRecord} (record { refused = a; kind = b; rate = c; first = x; end = y; reel = d; held = e; size = f }) (record_of_kind 0 0)
unfolding record_of_kind
record-made a b c x y d e f p q r s t u v w = simp (p, q, r, s, t, u, v, w)

pub no-record : (n : TzqRecord)
    → ((n.refused ≡ 0) × ((n.kind ≡ 0) × ((n.rate ≡ 0) × ((n.first ≡ pos 0) × ((n.end ≡ pos 0) × ((n.reel ≡ 0) × ((n.held ≡ 0) × (n.size ≡ 0))))))))
    → n ≡ record_of_kind 0 0
no-record n h = record-made n.refused n.kind n.rate n.first n.end n.reel n.held n.size h.0 h.1.0 h.1.1.0 h.1.1.1.0 h.1.1.1.1.0 h.1.1.1.1.1.0 h.1.1.1.1.1.1.0 h.1.1.1.1.1.1.1
