-- A line is understood as a question exactly when the grammar has it so.
-- Assumes nothing.
use Prim.Native.Nat.{ℕ, ◌+◌}
use mathlib.Core.Path.{◌≡◌, refl, sym, ap, ◌∙◌, subst}
use mathlib.Core.List.{List, [], ◌∷◌, ◌++◌, append-nil}
use mathlib.Core.Bool.{true}
use native.Mathlib.Omega.{arith}
use lib.ListN.{length, drop}
use borrow.Author.Tests.{eqb-true}
use Rattle.digits.specs.Digits.{digit_first, leading, run_of}
use Rattle.telling.specs.declared.told.Way.{Way}
use Rattle.telling.specs.declared.told.Options.{Options}
use Rattle.telling.specs.Question.{opening, no_option, option_of, way_of, with_text, no_text, rated_in, rated_of, question_of}
use Rattle.telling.specs.Grammar.{Front, Asks, asks, AsksTexts, asks_texts}
use Rattle.telling.specs.Statements.{Understood, QuestionUnderstood, TextsUnderstood}
use Rattle.telling.proofs.Asked.{asked-rated, alone-rated}
use Rattle.telling.proofs.Passing.{behind, Reached, reached, pass-rate, pass-rate-alone, rate-first}
use Rattle.telling.proofs.Taking.{taken-number, stands-front, front_of}

-- behind the options that were passed stands the rate
rated : (line rest : List ℕ) (o : Options) (r : Reached line rest o) → question_of line ≡ rated_in rest (opening o r.at)
unfolding question_of
rated line rest o r = ap (rated_of line) r.is ∙ ap (λ l. rated_in l (opening o r.at)) r.left

understood : {line : List ℕ} {way : Way} {text : List ℕ} → Asks line way text → Understood line way text
understood {line} {way} {text} (asks {d = d} {o = o} {r = r} front num) =
    let rest = d ++ (32 ∷ text) in
    let reach = reached front (rate-first (32 ∷ text) num) in
    let at = reach.at in
    record {
      at = at + length d + 1;
      asked =
          rated line rest o reach
          ∙ pass-rate (opening o at) d text r num;
      rest = behind line (at + length d) (32 ∷ []) text (behind line at d (32 ∷ text) reach.left);
    }

only : (line : List ℕ) (way : Way) (at : ℕ) → question_of line ≡ with_text way at → Asks line way (drop at line)
unfolding question_of
only line way at e =
    let o = option_of line (option_of line no_option) in
    let l = drop o.at line in
    let r = asked-rated l o way at e in
    let t = taken-number l r.number in
    let rest = drop (run_of l).count l in
    let text = drop 1 rest in
    let whole : l ≡ leading l ++ (32 ∷ text) = t.parts ∙ ap (λ z. leading l ++ z) (stands-front 32 rest r.space) in
    let place : at ≡ o.at + length (leading l) + 1 = omega (arith, r.at_is, t.count_is) in
    let left : drop at line ≡ text =
    ap (λ k. drop k line) place ∙ behind line (o.at + length (leading l)) (32 ∷ []) text (behind line o.at (leading l) (32 ∷ text) whole) in
    let front : Front line (leading l ++ (32 ∷ text)) o.options =
    subst (λ z. Front line z o.options) whole (front_of line) in
    subst (λ z. Asks line z (drop at line)) (sym r.way_is) (subst (λ z. Asks line (way_of o.options (run_of l).value) z) (sym left) (asks front t.numeral_is))

pub exactly-asked : QuestionUnderstood
exactly-asked line way text = (understood, λ u. subst (Asks line way) u.rest (only line way u.at u.asked))

-- ---- options and a rate alone
alone : {line : List ℕ} {way : Way} → AsksTexts line way → question_of line ≡ no_text way
alone {line} (asks_texts {d = d} {o = o} {r = r} front num) =
    let first : digit_first d ≡ true = ap digit_first (sym (append-nil d)) ∙ rate-first [] num in
    let reach = reached front first in
    rated line d o reach ∙ pass-rate-alone (opening o reach.at) d r num

no_bytes : (l : List ℕ) → length l ≡ 0 → l ≡ []
no_bytes [] e = refl
no_bytes (b ∷ l) e = absurd (omega arith)

alone-only : (line : List ℕ) (way : Way) → question_of line ≡ no_text way → AsksTexts line way
unfolding question_of
alone-only line way e =
    let o = option_of line (option_of line no_option) in
    let l = drop o.at line in
    let r = alone-rated l o way e in
    let t = taken-number l r.number in
    let rest = drop (run_of l).count l in
    let none = no_bytes rest (eqb-true (length rest) 0 r.empty) in
    let whole : l ≡ leading l = t.parts ∙ ap (λ z. leading l ++ z) none ∙ append-nil (leading l) in
    let front : Front line (leading l) o.options =
    subst (λ z. Front line z o.options) whole (front_of line) in
    subst (λ z. AsksTexts line z) (sym r.way_is) (asks_texts front t.numeral_is)

pub exactly-texts : TextsUnderstood
exactly-texts line way = (alone, alone-only line way)
