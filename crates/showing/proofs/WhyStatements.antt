-- Why a text is read as it is stands on the sheet, where it has room, in the words that docs/ASK.md gives.
-- Assumes nothing.
use Rattle.answers.specs.Causes.{refusal_number}
use Prim.Native.Nat.{ℕ, ◌+◌, ◌≤◌}
use mathlib.Core.Path.{◌≡◌, refl, sym, ap, ◌∙◌}
use mathlib.Core.List.{List, [], ◌∷◌, ◌++◌, append_assoc}
use mathlib.Core.Bool.{false}
use native.Mathlib.Omega.{arith}
use lib.ListN.{length, length-append}
use Rattle.digits.specs.Digits.{decimal, digits_of, width, width_by}
use Rattle.rates.specs.Rates.{is_drop}
use Rattle.written.specs.Parts.{signed_text}
use Rattle.written.specs.Clock.{clock_text}
use Rattle.label_writer.specs.LabelText.{sections_text}
use Rattle.streams.specs.Sheet.{Sheet, put_on}
use Rattle.streams.proofs.Putting.{Laid, put_is}
use Rattle.laws.specs.Spelt.{spelt}
use Rattle.showing.specs.Why.{joined, puts_on, accepted_parts, turned_down_parts, limit_parts, first_parts, told_parts, why_parts, why_text, why_on}
use Rattle.showing.specs.Statements.{length_line, WhyLine, WhyAcceptedShown, WhyRefusedShown, WhyLimitShown, WhyFirstShown, WhyNoRoomShown, WhyWords}
use Rattle.showing.proofs.Statements.{laid_none, laid-two}

-- parts that have room lie one behind the other
pub puts-laid : (ts : List (List ℕ)) (s : Sheet) → s.used + length (joined ts) ≤ length s.bytes → Laid s (puts_on s ts) (joined ts)
unfolding joined puts_on
puts-laid [] s h = laid_none s
puts-laid (t ∷ ts) s h =
    let rest = joined ts in
    let one = put_is s t (omega (arith, h, length-append t rest)) in
    laid-two s (put_on s t) (puts_on (put_on s t) ts) t rest one (puts-laid ts (put_on s t) (omega (arith, h, one.more, one.long, length-append t rest)))

pub why_line : WhyLine
unfolding why_text why_on
why_line s rate w line h = (puts-laid (why_parts rate w line) s h).is

pub why_accepted_shown : WhyAcceptedShown
unfolding why_text told_parts accepted_parts joined
why_accepted_shown z rate n line = (refl, refl, λ format. refl, λ format. refl)

pub why_refused_shown : WhyRefusedShown
unfolding why_text told_parts turned_down_parts joined
why_refused_shown e rate n line = refl

-- two texts with a space between them and no label behind, before a rest
two-and : (a b rest : List ℕ) → a ++ (32 ∷ b ++ (spelt " -" ++ rest)) ≡ (a ++ (32 ∷ b ++ spelt " -")) ++ rest
two-and a b rest = ap (λ z. a ++ (32 ∷ z)) (sym (append_assoc b (spelt " -") rest)) ∙ sym (append_assoc a (32 ∷ b ++ spelt " -") rest)

pub why_limit_shown : WhyLimitShown
unfolding why_text told_parts turned_down_parts limit_parts joined
why_limit_shown e f rate n line =
    ap (λ z. signed_text false (refusal_number e) ++ (32 ∷ signed_text false e.place ++ (spelt " 0 " ++ z)))
    (two-and (signed_text f.minus f.limit) (signed_text f.minus f.value) (32 ∷ length_line n line))

pub why_first_shown : WhyFirstShown
unfolding why_text told_parts turned_down_parts first_parts joined
why_first_shown e s rate n line = refl

pub why_no_room_shown : WhyNoRoomShown
unfolding why_text joined
why_no_room_shown e rate line = refl

pub why_words : WhyWords
unfolding why_text told_parts accepted_parts turned_down_parts limit_parts first_parts joined is_drop sections_text clock_text decimal digits_of width width_by
why_words = (refl, refl, refl, refl, refl)
