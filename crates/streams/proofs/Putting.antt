-- Text put on a sheet stands behind what it has, or nothing changes.
-- Assumes nothing.
use Prim.Native.Nat.{ℕ, ◌+◌, ◌-◌, ◌<◌, ◌≤◌}
use mathlib.Core.Path.{◌≡◌, refl, sym, ap, ◌∙◌}
use mathlib.Core.List.{List, ◌++◌, append_assoc}
use mathlib.Core.Bool.{Bool, true, false, cond}
use native.Mathlib.Omega.{arith}
use lib.ListN.{length, take, drop, length-append, length-take}
use lib.Seq.{take_at}
use borrow.Rule.Slice.PartMut.{put_mid, mid_of}
use Rattle.lent.specs.Line.{laid, splice, has_room}
use Rattle.lent.proofs.Laws.{fits-true, fits-false, line-laid, line_kept, line-lent}
use Rattle.lent.proofs.Statements.{same_length}
use Rattle.streams.specs.Sheet.{Sheet, sheet_of, lent_by, text_on, put_on}

-- the rest of the bytes was lent on, and came back as `last`
pub put-lent : (s : Sheet) (text last : List ℕ) (need : ℕ) → need ≡ length text → s.used + need ≤ length s.bytes
    → last ≡ laid (mid_of s.used (length s.bytes - s.used) s.bytes) text
    → sheet_of s.lender (put_mid s.used (length s.bytes - s.used) s.bytes last) (s.used + need) ≡ put_on s text
unfolding put_on
put-lent s text last need e h l =
    let n : s.used + length text ≤ length s.bytes = omega arith in
    rw (e, fits-true s.bytes s.used text n) (ap (λ z. sheet_of s.lender z (s.used + length text)) (line-lent s.bytes s.used text last n l))

-- there is none
pub put-out : (s : Sheet) (text : List ℕ) → length s.bytes < s.used + length text → s ≡ put_on s text
unfolding put_on
put-out s text h = rw (fits-false s.bytes s.used text h) (ap (λ z. sheet_of s.lender z s.used) (sym (line_kept s.bytes s.used text h)))

-- ---- what is put on a sheet
-- whoever lent it
pub put_lent_by : (lender : List ℕ) (s : Sheet) (text : List ℕ) → put_on (lent_by lender s) text ≡ lent_by lender (put_on s text)
unfolding put_on
put_lent_by lender s text = refl

-- the sheet keeps its length
pub put-length : (s : Sheet) (text : List ℕ) → length (put_on s text).bytes ≡ length s.bytes
unfolding put_on
put-length s text = same_length s.bytes s.used text

-- a text that has room is used, and stands behind what the sheet has
pub record Laid (s s' : Sheet) (text : List ℕ) : Type 0 where
  pub more : s'.used ≡ s.used + length text
  pub long : length s'.bytes ≡ length s.bytes
  pub is : text_on s' ≡ text_on s ++ text

splice-first : (l : List ℕ) (at : ℕ) (t : List ℕ) → at ≤ length l → take (at + length t) (splice l at t) ≡ take at l ++ t
unfolding splice
splice-first l at t h =
    let n : length (take at l ++ t) ≡ at + length t = simp (length-append, length-take) (omega arith) in
    rw (← append_assoc (take at l) t (drop (at + length t) l)) (take_at (take at l ++ t) _ (at + length t) n)

pub put_is : (s : Sheet) (text : List ℕ) → s.used + length text ≤ length s.bytes → Laid s (put_on s text) text
unfolding put_on
put_is s text h = record {
  more = rw (fits-true s.bytes s.used text h);
  long = put-length s text;
  is = rw (fits-true s.bytes s.used text h, line-laid s.bytes s.used text h) (splice-first s.bytes s.used text (omega arith));
}

-- no more is used than the text's length
pub put-used : (s : Sheet) (text : List ℕ) → (put_on s text).used ≤ s.used + length text
unfolding put_on
put-used s text = by (has_room (length s.bytes) s.used (length text))
  where
    by : (t : Bool) → cond t (s.used + length text) s.used ≤ s.used + length text
    by true = omega arith
    by false = omega arith
