-- What a question that is understood has: a number, and a space behind it.
-- Assumes nothing.
use Prim.Native.Nat.{ℕ, ◌+◌, ◌≤◌}
use Rattle.std.specs.Prelude.{Option, Some, None}
use mathlib.Core.Path.{◌≡◌, refl, sym, ap, ◌∙◌}
use mathlib.Core.List.{List}
use mathlib.Core.Bool.{Bool, true, false, cond}
use native.Mathlib.Omega.{arith}
use lib.Dec.{eqb}
use lib.ListN.{length, drop, length-drop}
use Rattle.digits.specs.Digits.{is_byte, first_is, run_of}
use Rattle.asking.proofs.NumberLaws.{stands_by}
use Rattle.telling.specs.declared.told.Way.{Way}
use Rattle.telling.specs.declared.questions.Opening.{Opening}
use Rattle.telling.specs.declared.questions.Question.{Question}
use Rattle.telling.specs.Question.{is_number, way_of, with_text, no_text, ended_at, rated_in, no_option, option_of, question_of}

pub record Rated (l : List ℕ) (o : Opening) (way : Way) (at : ℕ) : Type 0 where
  pub number : is_number (run_of l) ≡ true
  pub space : first_is (is_byte 32) (drop (run_of l).count l) ≡ true
  pub way_is : way ≡ way_of o.options (run_of l).value
  pub at_is : at ≡ o.at + (run_of l).count + 1

-- the way of a question, and the place of its text
abbrev the_way : Way → Option Question → Way
the_way way (Some question) = question.way
the_way way None = way

abbrev place_or : ℕ → Option ℕ → ℕ
place_or other (Some at) = at
place_or other None = other

abbrev the_place : ℕ → Option Question → ℕ
the_place other (Some question) = place_or other question.text
the_place other None = other

-- how many texts it has
abbrev one_where : Option ℕ → ℕ
one_where (Some at) = 1
one_where None = 0

abbrev texts : Option Question → ℕ
texts (Some question) = one_where question.text
texts None = 0

pub asked-rated : (l : List ℕ) (o : Opening) (way : Way) (at : ℕ) → rated_in l o ≡ with_text way at → Rated l o way at
unfolding rated_in ended_at
asked-rated l o way at =
    by (is_number (run_of l)) (eqb (length (drop (run_of l).count l)) 0) (first_is (is_byte 32) (drop (run_of l).count l)) refl refl
  where
    by : (x y z : Bool) → is_number (run_of l) ≡ x → first_is (is_byte 32) (drop (run_of l).count l) ≡ z
        → cond x (cond y (no_text (way_of o.options (run_of l).value)) (cond z (with_text (way_of o.options (run_of l).value) (o.at + (run_of l).count + 1)) None)) None ≡ with_text way at
        → Rated l o way at
    by false y z e f p = let q : ◌≡◌ {A = ℕ} 0 1 = cc in absurd (omega arith)
    by true true z e f p = let q : ◌≡◌ {A = ℕ} 0 1 = ap texts p in absurd (omega arith)
    by true false false e f p = let q : ◌≡◌ {A = ℕ} 0 1 = cc in absurd (omega arith)
    by true false true e f p = record { number = e; space = f; way_is = sym (ap (the_way way) p); at_is = sym (ap (the_place 0) p) }

-- and of options and a rate alone: nothing stands behind the number
pub record Alone (l : List ℕ) (o : Opening) (way : Way) : Type 0 where
  pub number : is_number (run_of l) ≡ true
  pub empty : eqb (length (drop (run_of l).count l)) 0 ≡ true
  pub way_is : way ≡ way_of o.options (run_of l).value

pub alone-rated : (l : List ℕ) (o : Opening) (way : Way) → rated_in l o ≡ no_text way → Alone l o way
unfolding rated_in ended_at
alone-rated l o way =
    by (is_number (run_of l)) (eqb (length (drop (run_of l).count l)) 0) (first_is (is_byte 32) (drop (run_of l).count l)) refl refl
  where
    by : (x y z : Bool) → is_number (run_of l) ≡ x → eqb (length (drop (run_of l).count l)) 0 ≡ y
        → cond x (cond y (no_text (way_of o.options (run_of l).value)) (cond z (with_text (way_of o.options (run_of l).value) (o.at + (run_of l).count + 1)) None)) None ≡ no_text way
        → Alone l o way
    by false y z e f p = let q : ◌≡◌ {A = ℕ} 0 1 = cc in absurd (omega arith)
    by true true z e f p = record { number = e; empty = f; way_is = sym (ap (the_way way) p) }
    by true false false e f p = let q : ◌≡◌ {A = ℕ} 0 1 = cc in absurd (omega arith)
    by true false true e f p = let q : ◌≡◌ {A = ℕ} 1 0 = ap texts p in absurd (omega arith)

-- so the text begins within the line
asked-within : (line : List ℕ) (way : Way) (at : ℕ) → question_of line ≡ with_text way at → at ≤ length line
unfolding question_of
asked-within line way at e =
    let o = option_of line (option_of line no_option) in
    let l = drop o.at line in
    let r = asked-rated l o way at e in
    omega (arith, r.at_is, stands_by 32 (drop (run_of l).count l) r.space, length-drop (run_of l).count l, length-drop o.at line)

pub text_within : (line : List ℕ) (q : Question) (at : ℕ) → question_of line ≡ Some q → q.text ≡ Some at → at ≤ length line
text_within line q at e t = asked-within line q.way at (e ∙ ap (λ text. Some (record { way = q.way; text = text })) t)
