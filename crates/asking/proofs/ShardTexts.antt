-- What a word of shards spells is what is read of it, and what is read is spelt: range by range.
-- Assumes nothing.
use Rattle.asking.proofs.Same.{number-value, number-next, range-first, range-end, range-next}
use Rattle.std.specs.Prelude.{None, Option, Some}
use Rattle.asking.specs.Numbers.{some_word}
use Rattle.asking.specs.ShardWords.{some_range}
use Prim.Native.Nat.{ℕ, zero, suc, ◌+◌, ◌*◌, ◌≤◌}
use mathlib.Core.Path.{◌≡◌, refl, sym, ap, subst, ◌∙◌}
use mathlib.Core.List.{List, [], ◌∷◌, ◌++◌, map, append_assoc, append-nil}
use mathlib.Core.Bool.{Bool, true, false, cond, and-eq-true_iff}
use native.Mathlib.Omega.{arith}
use lib.IntN.{ℤ, pos}
use lib.ListN.{length, drop, set, length-append, length-drop}
use lib.Seq.{drop-drop}
use borrow.Author.Tests.{eqb-true}
use Rattle.numbers.specs.Sign.{up_from}
use Rattle.digits.specs.Digits.{is_byte, first_is, digit_first}
use Rattle.asking.specs.declared.sharded.Range.{Range}
use Rattle.asking.specs.Numbers.{signed_at}
use Rattle.asking.specs.Table.{is_over}
use Rattle.asking.specs.ShardWords.{range_at, Sharding, sharding, range_then, ranges_from, is_none, spelled_of, place_then, shards_at}
use Rattle.asking.specs.Grammar.{Numeral, plain, minus, RangesText, last_range, more_ranges, ShardsText, no_shards, some_shards}
use Rattle.asking.specs.Statements.{placed_from}
use Rattle.asking.proofs.Numerals.{signed-taken, signed-told, signed-left, not_first, not-over}
use Rattle.asking.proofs.Ranges.{numeral-some, range-told, range-some, spelled_none, spelled-some}

pub true-false : true ≡ false → ⊥
true-false e = let z : ◌≡◌ {A = ℕ} 0 1 = cc in omega arith

-- ---- what is left where a byte stands in front
pub byte-on : (line : List ℕ) (at b : ℕ) (t : List ℕ) → drop at line ≡ b ∷ t → drop (at + 1) line ≡ t
byte-on line at b t q = sym (drop-drop 1 at line) ∙ ap (drop 1) q

byte-here : (b : ℕ) (l : List ℕ) → first_is (is_byte b) l ≡ true → l ≡ b ∷ drop 1 l
byte-here b [] e = absurd (true-false (sym e))
byte-here b (c ∷ l) e = ap (λ x. x ∷ l) (eqb-true c b e)

-- neither a digit nor `,` stands where a word is over
over-stops : (l : List ℕ) → is_over l ≡ true → (digit_first l ≡ false) × (first_is (is_byte 44) l ≡ false)
unfolding is_over
over-stops [] o = (refl, refl)
over-stops (b ∷ l) o = rw (eqb-true b 32 o) (refl, refl)

-- ---- a range of the grammar is read
module _ (line : List ℕ) (at : ℕ) (d e t : List ℕ) (y z : ℤ) (f : Numeral d y) (g : Numeral e z) (q : drop at line ≡ d ++ (45 ∷ e ++ t)) where
  between_is : drop (at + length d) line ≡ 45 ∷ e ++ t
  between_is = signed-left line at d (45 ∷ e ++ t) q

  behind-is : drop (at + length d + 1) line ≡ e ++ t
  behind-is = byte-on line (at + length d) 45 (e ++ t) between_is

  -- the place past it
  past_is : drop (at + length d + 1 + length e) line ≡ t
  past_is = signed-left line (at + length d + 1) e t behind-is

  range-taken : digit_first t ≡ false → range_at line at ≡ some_range y z (at + length d + 1 + length e)
  range-taken s =
      sym
      (range-some line at y (at + length d) (ap (signed_at at) q ∙ signed-taken f at (45 ∷ e ++ t) refl) (rw between_is refl)
      (at + length d + 1) (some_word z (at + length d + 1 + length e))
      (sym (ap (signed_at (at + length d + 1)) behind-is ∙ signed-taken g (at + length d + 1) t s)) z (at + length d + 1 + length e) refl refl)

-- ---- and what is read is one
record RangeText (line : List ℕ) (at : ℕ) (y z : ℤ) (next : ℕ) : Type 0 where
  d : List ℕ
  e : List ℕ
  t : List ℕ
  first : Numeral d y
  end : Numeral e z
  is : drop at line ≡ d ++ (45 ∷ e ++ t)
  past : next ≡ at + length d + 1 + length e
  left : drop next line ≡ t

range-text : (line : List ℕ) (at : ℕ) (y z : ℤ) (next : ℕ) → range_at line at ≡ some_range y z next → RangeText line at y z next
range-text line at y z next e =
    let r = range-told line at y z next e in
    let a = signed-told at (drop at line) y r.between r.first in
    let b = signed-told (r.between + 1) (drop (r.between + 1) line) z next r.end in
    let between : drop r.between line ≡ a.rest = ap (λ x. drop x line) a.past ∙ signed-left line at a.digits a.rest a.is in
    let dash : drop r.between line ≡ 45 ∷ drop (r.between + 1) line =
    byte-here 45 (drop r.between line) r.dash ∙ ap (λ x. 45 ∷ x) (drop-drop 1 r.between line) in
    let is : drop at line ≡ a.digits ++ (45 ∷ b.digits ++ b.rest) =
    a.is ∙ ap (λ x. a.digits ++ x) (sym between ∙ dash ∙ ap (λ x. 45 ∷ x) b.is) in
    let past : next ≡ at + length a.digits + 1 + length b.digits = omega (arith, a.past, b.past) in
    record {
      d = a.digits;
      e = b.digits;
      t = b.rest;
      first = a.numeral;
      end = b.numeral;
      is = is;
      past = past;
      left = ap (λ x. drop x line) b.past ∙ signed-left line (r.between + 1) b.digits b.rest b.is;
    }

-- ---- ranges
-- so many were read from the n-th on, and the word is over at a place
abbrev ranged_from : (n next : ℕ) (firsts ends : List ℕ) (ys zs : List ℤ) → Sharding
ranged_from n next firsts ends ys zs = sharding true (n + length ys) next (placed_from n firsts (map up_from ys)) (placed_from n ends (map up_from zs))

module _ (line : List ℕ) where
  module _ (m at n : ℕ) (firsts ends : List ℕ) (y z : ℤ) (next : ℕ) (e : range_at line at ≡ some_range y z next) where
    one_last : is_over (drop next line) ≡ true → ranges_from (suc m) line at n firsts ends ≡ ranged_from n next firsts ends (y ∷ []) (z ∷ [])
    unfolding ranges_from placed_from
    one_last o = rw (e, (over-stops (drop next line) o).1, o)

    one_more : (stop : ℕ) (ys zs : List ℤ) → first_is (is_byte 44) (drop next line) ≡ true
        → ranges_from m line (next + 1) (n + 1) (set firsts n (up_from y)) (set ends n (up_from z)) ≡ ranged_from (n + 1) stop (set firsts n (up_from y)) (set ends n (up_from z)) ys zs
        → ranges_from (suc m) line at n firsts ends ≡ ranged_from n stop firsts ends (y ∷ ys) (z ∷ zs)
    unfolding ranges_from placed_from
    one_more stop ys zs c g =
        let k : n + 1 + length ys ≡ n + suc (length ys) = omega arith in
        rw (e, c, g, k)

  ranges-read : {w : List ℕ} {ys zs : List ℤ} → RangesText w ys zs → (m at n : ℕ) (firsts ends : List ℕ) (l : List ℕ) → drop at line ≡ w ++ l
      → is_over l ≡ true → length ys ≤ m → ranges_from m line at n firsts ends ≡ ranged_from n (at + length w) firsts ends ys zs
  ranges-read (last_range f g) zero at n firsts ends l q o h = absurd (omega arith)
  ranges-read (more_ranges f g r) zero at n firsts ends l q o h = absurd (omega arith)
  ranges-read (last_range {d} {e} {y} {z} f g) (suc m) at n firsts ends l q o h =
      let p : drop at line ≡ d ++ (45 ∷ e ++ l) = q ∙ append_assoc d (45 ∷ e) l in
      let k : at + length d + 1 + length e ≡ at + length (d ++ (45 ∷ e)) = omega (arith, length-append d (45 ∷ e)) in
      one_last m at n firsts ends y z (at + length d + 1 + length e) (range-taken line at d e l y z f g p (over-stops l o).0)
      (ap is_over (past_is line at d e l y z f g p) ∙ o)
      ∙ ap (λ x. ranged_from n x firsts ends (y ∷ []) (z ∷ [])) k
  ranges-read (more_ranges {d} {e} {u} {y} {z} {ys} {zs} f g r) (suc m) at n firsts ends l q o h =
      let next = at + length d + 1 + length e in
      let p : drop at line ≡ d ++ (45 ∷ e ++ (44 ∷ u ++ l)) =
      q ∙ append_assoc d (45 ∷ e ++ (44 ∷ u)) l ∙ ap (λ x. d ++ (45 ∷ x)) (append_assoc e (44 ∷ u) l) in
      let left : drop next line ≡ 44 ∷ u ++ l = past_is line at d e (44 ∷ u ++ l) y z f g p in
      let k : next + 1 + length u ≡ at + length (d ++ (45 ∷ e ++ (44 ∷ u))) =
      omega (arith, length-append d (45 ∷ e ++ (44 ∷ u)), length-append e (44 ∷ u)) in
      one_more m at n firsts ends y z next (range-taken line at d e (44 ∷ u ++ l) y z f g p refl) (next + 1 + length u) ys zs
      (rw left refl)
      (ranges-read r m (next + 1) (n + 1) (set firsts n (up_from y)) (set ends n (up_from z)) l (byte-on line next 44 (u ++ l) left) o (omega arith))
      ∙ ap (λ x. ranged_from n x firsts ends (y ∷ ys) (z ∷ zs)) k

  record RangesTold (m at n : ℕ) (firsts ends : List ℕ) : Type 0 where
    w : List ℕ
    l : List ℕ
    ys : List ℤ
    zs : List ℤ
    text : RangesText w ys zs
    is : drop at line ≡ w ++ l
    over : is_over l ≡ true
    read : ranges_from m line at n firsts ends ≡ ranged_from n (at + length w) firsts ends ys zs

  -- a range, and the word is over
  last-told : (m at n : ℕ) (firsts ends : List ℕ) (y z : ℤ) (next : ℕ) → range_at line at ≡ some_range y z next → is_over (drop next line) ≡ true
      → RangesTold (suc m) at n firsts ends
  last-told m at n firsts ends y z next e o =
      let r = range-text line at y z next e in
      let k : next ≡ at + length (r.d ++ (45 ∷ r.e)) = omega (arith, r.past, length-append r.d (45 ∷ r.e)) in
      record {
        w = r.d ++ (45 ∷ r.e);
        l = r.t;
        ys = y ∷ [];
        zs = z ∷ [];
        text = last_range r.first r.end;
        is = r.is ∙ sym (append_assoc r.d (45 ∷ r.e) r.t);
        over = sym (ap is_over r.left) ∙ o;
        read = one_last m at n firsts ends y z next e o ∙ ap (λ x. ranged_from n x firsts ends (y ∷ []) (z ∷ [])) k;
      }

  -- a range, `,`, and what is told of those behind it
  more-told : (m at n : ℕ) (firsts ends : List ℕ) (y z : ℤ) (next : ℕ) → range_at line at ≡ some_range y z next
      → first_is (is_byte 44) (drop next line) ≡ true → RangesTold m (next + 1) (n + 1) (set firsts n (up_from y)) (set ends n (up_from z))
      → RangesTold (suc m) at n firsts ends
  more-told m at n firsts ends y z next e c s =
      let r = range-text line at y z next e in
      let left : r.t ≡ 44 ∷ s.w ++ s.l =
      sym r.left ∙ byte-here 44 (drop next line) c ∙ ap (λ x. 44 ∷ x) (drop-drop 1 next line ∙ s.is) in
      let k : next + 1 + length s.w ≡ at + length (r.d ++ (45 ∷ r.e ++ (44 ∷ s.w))) =
      omega (arith, r.past, length-append r.d (45 ∷ r.e ++ (44 ∷ s.w)), length-append r.e (44 ∷ s.w)) in
      record {
        w = r.d ++ (45 ∷ r.e ++ (44 ∷ s.w));
        l = s.l;
        ys = y ∷ s.ys;
        zs = z ∷ s.zs;
        text = more_ranges r.first r.end s.text;
        is =
            r.is
            ∙ ap (λ x. r.d ++ (45 ∷ r.e ++ x)) left
            ∙ sym (append_assoc r.d (45 ∷ r.e ++ (44 ∷ s.w)) s.l ∙ ap (λ x. r.d ++ (45 ∷ x)) (append_assoc r.e (44 ∷ s.w) s.l));
        over = s.over;
        read =
            one_more m at n firsts ends y z next e (next + 1 + length s.w) s.ys s.zs c s.read
            ∙ ap (λ x. ranged_from n x firsts ends (y ∷ s.ys) (z ∷ s.zs)) k;
      }

  ranges-told : (m at n : ℕ) (firsts ends : List ℕ) → (ranges_from m line at n firsts ends).ranged.well ≡ true → RangesTold m at n firsts ends
  unfolding ranges_from
  ranges-told zero at n firsts ends e = absurd (true-false (sym e))
  ranges-told (suc m) at n firsts ends e = by (range_at line at) refl (λ next f g. ranges-told m (next + 1) (n + 1) f g) e
    where
      behind : ℤ → ℤ → ℕ → Sharding
      behind y z next =
          cond (first_is (is_byte 44) (drop next line)) (ranges_from m line (next + 1) (n + 1) (set firsts n (up_from y)) (set ends n (up_from z)))
          (sharding (is_over (drop next line)) (n + 1) next (set firsts n (up_from y)) (set ends n (up_from z)))

      by : (v : Option Range) → range_at line at ≡ v
          → ((next : ℕ) (f g : List ℕ) → (ranges_from m line (next + 1) (n + 1) f g).ranged.well ≡ true → RangesTold m (next + 1) (n + 1) f g)
          → (range_then v behind (sharding false n at firsts ends)).ranged.well ≡ true → RangesTold (suc m) at n firsts ends
      by None q more h = absurd (true-false (sym h))
      by (Some r) q more h = comma (first_is (is_byte 44) (drop r.next line)) refl h
        where
          comma : (t : Bool) → first_is (is_byte 44) (drop r.next line) ≡ t
              → (cond t (ranges_from m line (r.next + 1) (n + 1) (set firsts n (up_from r.first)) (set ends n (up_from r.end)))
              (sharding (is_over (drop r.next line)) (n + 1) r.next (set firsts n (up_from r.first)) (set ends n (up_from r.end)))).ranged.well ≡ true
              → RangesTold (suc m) at n firsts ends
          comma true c k = more-told m at n firsts ends r.first r.end r.next q c (more r.next (set firsts n (up_from r.first)) (set ends n (up_from r.end)) k)
          comma false c k = last-told m at n firsts ends r.first r.end r.next q k

-- ---- as many first numbers as ends; and four bytes a range, but for the last `,`
ranges-few : {w : List ℕ} {ys zs : List ℤ} → RangesText w ys zs → (length ys ≡ length zs) × (4 * length ys ≤ length w + 1)
ranges-few (last_range {d} {e} f g) = (refl, omega (arith, numeral-some f, numeral-some g, length-append d (45 ∷ e)))
ranges-few (more_ranges {d} {e} {u} f g r) =
    let p = ranges-few r in
    (ap suc p.0, omega (arith, p, numeral-some f, numeral-some g, length-append d (45 ∷ e ++ (44 ∷ u)), length-append e (44 ∷ u)))

pub shards-few : {w : List ℕ} {ys zs : List ℤ} → ShardsText w ys zs → (length ys ≡ length zs) × (4 * length ys ≤ length w + 1)
shards-few no_shards = (refl, omega arith)
shards-few (some_shards r) = ranges-few r

-- ---- a word spells one list
-- the first range of a word, and what stands behind it
record Opens (w : List ℕ) (y z : ℤ) (t : List ℕ) : Type 0 where
  next : ℕ
  range_is : range_at w 0 ≡ some_range y z next
  left : drop next w ≡ t

opens : (d e t : List ℕ) (y z : ℤ) → Numeral d y → Numeral e z → digit_first t ≡ false → Opens (d ++ (45 ∷ e ++ t)) y z t
opens d e t y z f g s =
    let w = d ++ (45 ∷ e ++ t) in
    record { next = 0 + length d + 1 + length e; range_is = range-taken w 0 d e t y z f g refl s; left = past_is w 0 d e t y z f g refl }

opens-last : (d e : List ℕ) (y z : ℤ) → Numeral d y → Numeral e z → Opens (d ++ (45 ∷ e)) y z []
opens-last d e y z f g = subst (λ x. Opens (d ++ (45 ∷ x)) y z []) (append-nil e) (opens d e [] y z f g refl)

opens_one : (w v : List ℕ) (y z u x : ℤ) (t s : List ℕ) → Opens w y z t → Opens v u x s → w ≡ v → (y ≡ u) × ((z ≡ x) × (t ≡ s))
opens_one w v y z u x t s a b e =
    let r : some_range y z a.next ≡ some_range u x b.next = sym a.range_is ∙ ap (λ k. range_at k 0) e ∙ b.range_is in
    let n : a.next ≡ b.next = range-next r in
    (range-first r, (range-end r, sym a.left ∙ ap (λ k. drop k w) n ∙ ap (drop b.next) e ∙ b.left))

ranges-one : {w v : List ℕ} {ys zs us vs : List ℤ} → RangesText w ys zs → RangesText v us vs → w ≡ v → (ys ≡ us) × (zs ≡ vs)
ranges-one (last_range {d} {e} {y} {z} f g) (last_range {d = a} {e = b} {y = u} {z = x} h i) p =
    let o = opens_one _ _ y z u x [] [] (opens-last d e y z f g) (opens-last a b u x h i) p in
    (ap (λ k. k ∷ []) o.0, ap (λ k. k ∷ []) o.1.0)
ranges-one (last_range {d} {e} {y} {z} f g) (more_ranges {d = a} {e = b} {u = s} {y = u} {z = x} h i m) p =
    let o = opens_one _ _ y z u x [] (44 ∷ s) (opens-last d e y z f g) (opens a b (44 ∷ s) u x h i refl) p in
    absurd (omega (arith, ap length o.1.1))
ranges-one (more_ranges {d} {e} {u = t} {y} {z} f g m) (last_range {d = a} {e = b} {y = u} {z = x} h i) p =
    let o = opens_one _ _ y z u x (44 ∷ t) [] (opens d e (44 ∷ t) y z f g refl) (opens-last a b u x h i) p in
    absurd (omega (arith, ap length o.1.1))
ranges-one (more_ranges {d} {e} {u = t} {y} {z} f g m) (more_ranges {d = a} {e = b} {u = s} {y = u} {z = x} {ys = us} {zs = vs} h i n) p =
    let o = opens_one _ _ y z u x (44 ∷ t) (44 ∷ s) (opens d e (44 ∷ t) y z f g refl) (opens a b (44 ∷ s) u x h i refl) p in
    let q = ranges-one m n (ap (drop 1) o.1.1) in
    (ap (λ k. y ∷ k) q.0 ∙ ap (λ k. k ∷ us) o.0, ap (λ k. z ∷ k) q.1 ∙ ap (λ k. k ∷ vs) o.1.0)

-- ranges are longer than `-`
ranges-long : {w : List ℕ} {ys zs : List ℤ} → RangesText w ys zs → 2 ≤ length w
ranges-long (last_range f g) = omega (arith, (ranges-few (last_range f g)).1)
ranges-long (more_ranges f g r) = omega (arith, (ranges-few (more_ranges f g r)).1)

pub shards-one : {w v : List ℕ} {ys zs us vs : List ℤ} → ShardsText w ys zs → ShardsText v us vs → w ≡ v → (ys ≡ us) × (zs ≡ vs)
shards-one no_shards no_shards p = (refl, refl)
shards-one no_shards (some_shards r) p = absurd (omega (arith, ranges-long r, ap length p))
shards-one (some_shards r) no_shards p = absurd (omega (arith, ranges-long r, ap length p))
shards-one (some_shards r) (some_shards s) p = ranges-one r s p

-- ---- a range does not begin with `-` alone
numeral-not-none : {d : List ℕ} {z : ℤ} → Numeral d z → (l : List ℕ) → is_none (d ++ l) ≡ false
unfolding is_none
numeral-not-none (plain {d} f w) l = rw (not_first 45 d l f refl)
numeral-not-none (minus {d} f w) l = not-over d l f

ranges-not-none : {w : List ℕ} {ys zs : List ℤ} → RangesText w ys zs → (l : List ℕ) → is_none (w ++ l) ≡ false
ranges-not-none (last_range {d} {e} f g) l = ap is_none (append_assoc d (45 ∷ e) l) ∙ numeral-not-none f ((45 ∷ e) ++ l)
ranges-not-none (more_ranges {d} {e} {u} f g r) l =
    ap is_none (append_assoc d (45 ∷ e ++ (44 ∷ u)) l) ∙ numeral-not-none f ((45 ∷ e ++ (44 ∷ u)) ++ l)

none_told : (l : List ℕ) → is_none l ≡ true → (l ≡ 45 ∷ drop 1 l) × (is_over (drop 1 l) ≡ true)
unfolding is_none
none_told l e = let q = (and-eq-true_iff (first_is (is_byte 45) l) (is_over (drop 1 l))).0 e in (byte-here 45 l q.0, q.1)

-- ---- a word of shards
-- so many are spelt, and the word is over at a place
abbrev pub spelled_as : (next : ℕ) (firsts ends : List ℕ) (ys zs : List ℤ) → Sharding
spelled_as next firsts ends ys zs = sharding true (length ys) next (placed_from 0 firsts (map up_from ys)) (placed_from 0 ends (map up_from zs))

module _ (line : List ℕ) (at : ℕ) (firsts ends : List ℕ) where
  from_front : (next : ℕ) (ys zs : List ℤ) → ranged_from 0 next firsts ends ys zs ≡ spelled_as next firsts ends ys zs
  from_front next ys zs = let k : 0 + length ys ≡ length ys = omega arith in rw k

  pub spelled-read : {w : List ℕ} {ys zs : List ℤ} → ShardsText w ys zs → (l : List ℕ) → drop at line ≡ w ++ l → is_over l ≡ true
      → spelled_of line at firsts ends ≡ spelled_as (at + length w) firsts ends ys zs
  unfolding is_none placed_from
  spelled-read no_shards l q o = sym (spelled_none line at firsts ends (ap is_none q ∙ o))
  spelled-read (some_shards {w} {ys} {zs} r) l q o =
      sym (spelled-some line at firsts ends (ap is_none q ∙ ranges-not-none r l))
      ∙ ranges-read line r (length line) at 0 firsts ends l q o
      (omega (arith, (ranges-few r).1, ap length q, length-append w l, length-drop at line))
      ∙ from_front (at + length w) ys zs

  pub record SpelledTold : Type 0 where
    pub w : List ℕ
    pub l : List ℕ
    pub ys : List ℤ
    pub zs : List ℤ
    pub text : ShardsText w ys zs
    pub is : drop at line ≡ w ++ l
    pub over : is_over l ≡ true
    pub read : spelled_of line at firsts ends ≡ spelled_as (at + length w) firsts ends ys zs

  pub spelled-told : (spelled_of line at firsts ends).ranged.well ≡ true → SpelledTold
  spelled-told e = by (is_none (drop at line)) refl
    where
      by : (t : Bool) → is_none (drop at line) ≡ t → SpelledTold
      by true f =
          let q = none_told (drop at line) f in
          record {
            w = 45 ∷ [];
            l = drop 1 (drop at line);
            ys = [];
            zs = [];
            text = no_shards;
            is = q.0;
            over = q.1;
            read = spelled-read no_shards (drop 1 (drop at line)) q.0 q.1;
          }
      by false f =
          let t = ranges-told line (length line) at 0 firsts ends (ap (λ x. x.ranged.well) (spelled-some line at firsts ends f) ∙ e) in
          record {
            w = t.w;
            l = t.l;
            ys = t.ys;
            zs = t.zs;
            text = some_shards t.text;
            is = t.is;
            over = t.over;
            read = spelled-read (some_shards t.text) t.l t.is t.over;
          }

-- ---- behind one space, by the place where it begins
pub shards-taken : {w : List ℕ} {ys zs : List ℤ} → ShardsText w ys zs → (line : List ℕ) (at : ℕ) (l : List ℕ) → drop at line ≡ 32 ∷ w ++ l
    → is_over l ≡ true → shards_at line at ≡ some_word (pos (at + 1)) (at + 1 + length w)
unfolding shards_at
shards-taken {w} s line at l q o = rw (q, spelled-read line (at + 1) [] [] s l (byte-on line at 32 (w ++ l) q) o)

pub record ShardsTold (line : List ℕ) (at : ℕ) (z : ℤ) (next : ℕ) : Type 0 where
  pub w : List ℕ
  pub l : List ℕ
  pub ys : List ℤ
  pub zs : List ℤ
  pub text : ShardsText w ys zs
  pub is : drop at line ≡ 32 ∷ w ++ l
  pub over : is_over l ≡ true
  pub place : pos (at + 1) ≡ z
  pub past : next ≡ at + 1 + length w

pub shards-told : (line : List ℕ) (at : ℕ) (z : ℤ) (next : ℕ) → shards_at line at ≡ some_word z next → ShardsTold line at z next
unfolding shards_at
shards-told line at z next e =
    by (first_is (is_byte 32) (drop at line)) refl (spelled_of line (at + 1) [] []).ranged.well refl e
  where
    by : (s : Bool) → first_is (is_byte 32) (drop at line) ≡ s → (t : Bool) → (spelled_of line (at + 1) [] []).ranged.well ≡ t
        → cond s (place_then t (at + 1) (spelled_of line (at + 1) [] []).ranged.next) None ≡ some_word z next → ShardsTold line at z next
    by false p t q f = let x : ◌≡◌ {A = ℕ} 0 1 = cc in absurd (omega arith)
    by true p false q f = let x : ◌≡◌ {A = ℕ} 0 1 = cc in absurd (omega arith)
    by true p true q f =
        let t = spelled-told line (at + 1) [] [] q in
        let n : (spelled_of line (at + 1) [] []).ranged.next ≡ next = number-next f in
        record {
          w = t.w;
          l = t.l;
          ys = t.ys;
          zs = t.zs;
          text = t.text;
          is = byte-here 32 (drop at line) p ∙ ap (λ x. 32 ∷ x) (drop-drop 1 at line ∙ t.is);
          over = t.over;
          place = number-value f;
          past = sym n ∙ ap (λ x. x.ranged.next) t.read;
        }
