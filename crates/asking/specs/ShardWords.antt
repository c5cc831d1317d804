-- The shards of a reel in a line (docs/ASK.md): `-` for none, else ranges joined by `,`, each two numbers with `-` between them.
-- Assumes nothing.
use Rattle.std.specs.Prelude.{None, Option, Some}
use Rattle.asking.specs.Numbers.{some_word}
use Rattle.std.specs.Prelude.{ℕ, zero, suc, ◌+◌, List, [], Bool, true, false, cond, ◌&&◌, leb, ℤ, pos, length, drop, set}
use Rattle.numbers.specs.Sign.{up_from}
use Rattle.digits.specs.Digits.{is_byte, first_is}
use Rattle.asking.specs.declared.values.Word.{Word}
use Rattle.asking.specs.declared.numbered.Listed.{Listed}
use Rattle.asking.specs.declared.sharded.Ranged.{Ranged}
use Rattle.asking.specs.declared.sharded.Range.{Range}
use Rattle.asking.specs.Numbers.{signed_at}
use Rattle.asking.specs.Table.{is_over}

-- ---- a range
-- its two numbers, and the place past it
abbrev pub some_range : (first end : ℤ) (next : ℕ) → Option Range
some_range first end next = Some (record { first = first; end = end; next = next })

abbrev pub number_then : Option Word → (ℤ → ℕ → Option Range) → Option Range
number_then (Some w) then = then w.number w.next
number_then None then = None

-- two numbers with `-` between them, from a place of the line on, and the place past them
unfoldable pub range_at : (line : List ℕ) (at : ℕ) → Option Range
range_at line at =
    number_then (signed_at at (drop at line))
    (λ y between. cond (first_is (is_byte 45) (drop between line))
    (number_then (signed_at (between + 1) (drop (between + 1) line)) (λ z next. some_range y z next))
    None)

-- ---- ranges joined by `,`
-- the two lists, each number as one from 0 on, and the answer: whether the word is one of shards, how many ranges it has, and the place past it
pub record Sharding : Type 0 where
  pub firsts : List ℕ
  pub ends : List ℕ
  pub ranged : Ranged

abbrev pub sharding : (well : Bool) (count next : ℕ) (firsts ends : List ℕ) → Sharding
sharding well count next firsts ends = record { firsts = firsts; ends = ends; ranged = record { well = well; count = count; next = next } }

abbrev pub range_then : Option Range → (ℤ → ℤ → ℕ → Sharding) → Sharding → Sharding
range_then (Some r) then none = then r.first r.end r.next
range_then None then none = none

-- m ranges at most, from the n-th on: behind each a `,` and the next one, or the word is over
unfoldable pub ranges_from : (m : ℕ) (line : List ℕ) (at n : ℕ) (firsts ends : List ℕ) → Sharding
ranges_from zero line at n firsts ends = sharding false n at firsts ends
ranges_from (suc m) line at n firsts ends =
    range_then (range_at line at)
    (λ y z next. cond (first_is (is_byte 44) (drop next line))
    (ranges_from m line (next + 1) (n + 1) (set firsts n (up_from y)) (set ends n (up_from z)))
    (sharding (is_over (drop next line)) (n + 1) next (set firsts n (up_from y)) (set ends n (up_from z))))
    (sharding false n at firsts ends)

-- a line has no more ranges than bytes
abbrev pub ranges_of : (line : List ℕ) (at : ℕ) (firsts ends : List ℕ) → Sharding
ranges_of line at firsts ends = ranges_from (length line) line at 0 firsts ends

-- ---- a word of shards
-- `-` alone stands in front
unfoldable pub is_none : List ℕ → Bool
is_none l = first_is (is_byte 45) l && is_over (drop 1 l)

-- none, or ranges
unfoldable pub spelled_of : (line : List ℕ) (at : ℕ) (firsts ends : List ℕ) → Sharding
spelled_of line at firsts ends = cond (is_none (drop at line)) (sharding true 0 (at + 1) firsts ends) (ranges_of line at firsts ends)

abbrev pub place_then : (well : Bool) (place next : ℕ) → Option Word
place_then well place next = cond well (some_word (pos place) next) None

-- behind one space: the place where the word begins, as its number, and the place past it
unfoldable pub shards_at : (line : List ℕ) (at : ℕ) → Option Word
shards_at line at =
    let s = (spelled_of line (at + 1) [] []).ranged in
    cond (first_is (is_byte 32) (drop at line)) (place_then s.well (at + 1) s.next) None

-- ---- the shards listed
pub record ShardListing : Type 0 where
  pub firsts : List ℕ
  pub ends : List ℕ
  pub listed : Listed

-- all are listed where the word is one of shards and both lists have room for them
unfoldable pub shards_of : (line : List ℕ) (at : ℕ) (firsts ends : List ℕ) → ShardListing
shards_of line at firsts ends =
    let s = spelled_of line at firsts ends in
    let n = s.ranged.count in
    record {
      firsts = s.firsts;
      ends = s.ends;
      listed = record { all = s.ranged.well && (leb n (length firsts) && leb n (length ends)); count = n };
    }
