-- Why a text is read as it is, put part by part: what is put behind parts is put behind the sheet that they leave.
-- Assumes nothing.
use Rattle.answers.specs.Causes.{refusal_number}
use Rattle.std.specs.Prelude.{None}
use Prim.Native.Nat.{ℕ}
use mathlib.Core.Path.{◌≡◌, refl}
use mathlib.Core.List.{List, [], ◌∷◌, ◌++◌}
use mathlib.Core.Bool.{Bool, true, false}
use Rattle.answers.specs.declared.Refusal.{Refusal}
use Rattle.timecodes.specs.declared.Timecode.{Timecode}
use Rattle.timecodes.specs.Kinds.{is_position}
use Rattle.written.specs.Parts.{signed_text}
use Rattle.streams.specs.Sheet.{Sheet, put_on}
use Rattle.laws.specs.Spelt.{spelt}
use Rattle.showing.specs.Each.{one_count, of_refusal, of_text_refusal}
use Rattle.showing.specs.Shown.{count_text, front_on, second_on, parts_on}
use Rattle.showing.specs.Why.{puts_on, spaced_parts, mark_parts}

pub puts-append : (s : Sheet) (ts us : List (List ℕ)) → puts_on s (ts ++ us) ≡ puts_on (puts_on s ts) us
unfolding puts_on
puts-append s [] us = refl
puts-append s (t ∷ ts) us = puts-append (put_on s t) ts us

-- a count, with its mark where it is a position
pub count-shown : (s : Sheet) (tc : Timecode)
    → parts_on s (one_count None tc) ≡ puts_on s (mark_parts (is_position tc.kind) ++ (count_text tc.count ∷ []))
unfolding puts_on
count-shown s tc = by (is_position tc.kind)
  where
    by : (p : Bool) → put_on (front_on s None p) (count_text tc.count) ≡ puts_on s (mark_parts p ++ (count_text tc.count ∷ []))
    by true = refl
    by false = refl

-- a refusal
pub refusal-shown : (s : Sheet) (e : Refusal) → parts_on s (of_refusal e) ≡ puts_on s (spelt "refused " ∷ signed_text false (refusal_number e) ∷ [])
unfolding puts_on
refusal-shown s e = refl

-- and one with its place
pub text-refusal-shown : (s : Sheet) (e : Refusal)
    → parts_on s (of_text_refusal e) ≡ puts_on s (spelt "refused " ∷ signed_text false (refusal_number e) ∷ spaced_parts false e.place)
unfolding second_on puts_on
text-refusal-shown s e = refl
