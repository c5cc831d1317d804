-- The loop of `put_list`: what is left of the list, laid down from here on, makes the part that is wanted.
-- Assumes nothing.
use Prim.Native.Nat.{ℕ, ◌+◌, ◌-◌, ◌≤◌}
use mathlib.Core.Path.{◌≡◌, refl, sym, ap, ◌∙◌, subst}
use mathlib.Core.List.{List}
use mathlib.Core.Bool.{true}
use native.Mathlib.Omega.{arith}
use native.Mathlib.Nat.{zero-add}
use lib.IntN.{ℤ}
use lib.ListN.{length, drop, length-append}
use borrow.Rule.Slice.PartMut.{put_mid, mid_of}
use Rattle.std.specs.Prelude.{Err}
use Rattle.answers.specs.declared.Refusal.{Refusal}
use Rattle.lent.specs.Line.{splice, laid}
use Rattle.lent.proofs.Laws.{laid_in, front-is, splice-length, splice-nil, splice-splice, line-lent, line-laid}
use Rattle.shot_lists.specs.declared.records.Record.{Record}
use Rattle.shot_lists.specs.Entries.{in_numbers, entry_of, taken, over}
use Rattle.shot_lists.specs.Reading.{Reading, AllOf, FaultOf, and_then, read_from, read_of, is_faultless}
use Rattle.shot_lists.specs.Walk.{Going, going-turn, going-over, faultless-apart, faultless-begin, faultless-turn, faultless-never}
use Rattle.shot_writer.specs.ListText.{record_bytes, list_bytes, records_in}

abbrev pub text_of : Reading → List ℕ
text_of t = list_bytes (records_in t)

pub record Putting (given : List ℤ) (part₀ part : List ℕ) (at held to : ℕ) : Type 0 where
  pub long : length part ≡ length part₀
  pub fits : length (text_of (read_of in_numbers given)) ≤ length part₀
  pub good : Going in_numbers given true is_faultless at held
  pub size : Going in_numbers given (length (text_of (read_of in_numbers given))) (λ t. to + length (text_of t)) at held
  pub text : Going in_numbers given (laid part₀ (text_of (read_of in_numbers given))) (λ t. splice part to (text_of t)) at held

pub putting-start : (given : List ℤ) (part : List ℕ) → is_faultless (read_of in_numbers given) ≡ true
    → length (text_of (read_of in_numbers given)) ≤ length part → Putting given part part 0 0 0
putting-start given part sound room =
    record {
      long = refl;
      fits = room;
      good = faultless-begin in_numbers given sound;
      size = record { inside = omega arith; same = sym (zero-add (length (text_of (read_of in_numbers given)))) };
      text = record { inside = omega arith; same = laid_in part (text_of (read_of in_numbers given)) room ∙ front-is part (text_of (read_of in_numbers given)) };
    }

size-more : (to : ℕ) (r : Record) (t : Reading) → true ≡ is_faultless t → to + length (text_of (and_then r t)) ≡ to + length (record_bytes r) + length (text_of t)
unfolding list_bytes
size-more to r (AllOf rs) g = omega (arith, length-append (record_bytes r) (list_bytes rs))
size-more to r (FaultOf e) g = faultless-apart g

text-more : (part : List ℕ) (to : ℕ) (r : Record) (t : Reading) → true ≡ is_faultless t → to + length (record_bytes r) + length (text_of t) ≤ length part
    → splice part to (text_of (and_then r t)) ≡ splice (splice part to (record_bytes r)) (to + length (record_bytes r)) (text_of t)
unfolding list_bytes
text-more part to r (AllOf rs) g h = sym (splice-splice part (record_bytes r) (list_bytes rs) to (to + length (record_bytes r)) refl h)
text-more part to r (FaultOf e) g h = faultless-apart g

module _ (given : List ℤ) (part₀ part : List ℕ) (at held to : ℕ) (p : Putting given part₀ part at held to) where
  module _ (r : Record) (after size : ℕ) (h : entry_of in_numbers held (drop at given) ≡ taken r after size) where
    good-then : Going in_numbers given true is_faultless (at + size) after
    good-then = faultless-turn in_numbers given at held r after size p.good h

    size-then : Going in_numbers given (length (text_of (read_of in_numbers given))) (λ t. to + length (record_bytes r) + length (text_of t)) (at + size) after
    size-then =
        going-turn in_numbers given (length (text_of (read_of in_numbers given))) (λ t. to + length (text_of t)) (λ t. to + length (record_bytes r) + length (text_of t))
        at held r after size p.size h (λ t e. size-more to r t (good-then.same ∙ ap is_faultless e))

    -- the record has room
    pub putting-room : to + length (record_bytes r) ≤ length part
    putting-room = omega (arith, size-then.same, p.fits, p.long)

    module _ (last : List ℕ) (w : last ≡ laid (mid_of to (length part - to) part) (record_bytes r)) where
      abbrev put : List ℕ
      put = put_mid to (length part - to) part last

      put_is : put ≡ splice part to (record_bytes r)
      put_is = line-lent part to (record_bytes r) last putting-room w ∙ line-laid part to (record_bytes r) putting-room

      laid-down : Putting given part₀ put (at + size) after (to + length (record_bytes r))
      laid-down =
          record {
            long = ap length put_is ∙ splice-length part (record_bytes r) to putting-room ∙ p.long;
            fits = p.fits;
            good = good-then;
            size = size-then;
            text =
                going-turn in_numbers given (laid part₀ (text_of (read_of in_numbers given))) (λ t. splice part to (text_of t))
                (λ t. splice put (to + length (record_bytes r)) (text_of t)) at held r after size p.text h
                (λ t e.
                text-more part to r t (good-then.same ∙ ap is_faultless e) (rest-fits t e)
                ∙ ap (λ (m : List ℕ). splice m (to + length (record_bytes r)) (text_of t)) (sym put_is));
          }
        where
          rest-fits : (t : Reading) → read_from in_numbers 0 after (drop (at + size) given) ≡ t → to + length (record_bytes r) + length (text_of t) ≤ length part
          rest-fits t e = omega (arith, size-then.same ∙ ap (λ (x : Reading). to + length (record_bytes r) + length (text_of x)) e, p.fits, p.long)

      pub putting-turn : (n : ℕ) → n ≡ length (record_bytes r) → Putting given part₀ (put_mid to (length part - to) part last) (at + size) after (to + n)
      putting-turn n e = subst (λ (m : ℕ). Putting given part₀ put (at + size) after (to + m)) (sym e) laid-down

  pub putting-never : (e : Refusal) → entry_of in_numbers held (drop at given) ≡ Err e → ⊥
  putting-never e h = faultless-never in_numbers given at held e p.good h

  pub putting-over : entry_of in_numbers held (drop at given) ≡ over → part ≡ laid part₀ (text_of (read_of in_numbers given))
  unfolding list_bytes
  putting-over h =
      sym (going-over in_numbers given (laid part₀ (text_of (read_of in_numbers given))) (λ t. splice part to (text_of t)) at held p.text h ∙ splice-nil part to)
