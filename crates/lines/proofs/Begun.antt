-- Whether a line is one, test by test; its rate is the run of digits in front, and its text what follows.
-- Assumes nothing.
use Rattle.std.specs.Prelude.{None, Err}
use Prim.Native.Nat.{ℕ, ◌≤◌, ◌<◌}
use mathlib.Core.Path.{◌≡◌, refl, sym, ap, ap₂, ◌∙◌}
use mathlib.Core.Logic.{◌⊎◌, ⊎_elim}
use mathlib.Core.List.{List, [], ◌∷◌, ◌++◌}
use mathlib.Core.Bool.{Bool, true, false, ◌&&◌}
use native.Mathlib.Omega.{arith, by_contra}
use borrow.Author.Tests.{le-leb, lt-leb, eqb-true}
use lib.Dec.{leb, eqb}
use lib.ListN.{length, take, drop, get_or, length-append, length-take, take-append-drop}
use lib.Seq.{take_at, drop_at, drop-drop}
use Rattle.digits.specs.Digits.{is_digit, all_digits, value_of, first_is, digit_first, run_of, digits_of}
use Rattle.digits.proofs.Values.{both, digit_low, digits-length, digits-all, digits-back}
use Rattle.digits.proofs.Runs.{run-nine}
use Rattle.answers.specs.Refusals.{no_shape}
use Rattle.reading.specs.Reading.{read_text}
use Rattle.lines.specs.Input.{is_begun, rate_in, text_in, is_line, line_holds, line_of}

-- ---- lines that are none
long-none : (l : List ℕ) → 64 < length l → is_line l ≡ false
unfolding is_line
long-none l h = ap (λ (t : Bool). t && is_begun l) (lt-leb (length l) 64 h)

none : (s t : Bool) → (s && (t && false)) ≡ false
none true true = refl
none true false = refl
none false t = refl

pub short_none : (l : List ℕ) → length l < 3 → is_line l ≡ false
unfolding is_line
short_none [] h = none (leb (length {A = ℕ} []) 64) (all_digits [])
short_none (a ∷ []) h = none (leb (length (a ∷ [])) 64) (all_digits (a ∷ []))
short_none (a ∷ b ∷ []) h = none (leb (length (a ∷ b ∷ [])) 64) (all_digits (a ∷ b ∷ []))
short_none (a ∷ b ∷ s ∷ l) h = absurd (omega arith)

pub out_of_length : (l : List ℕ) → (length l < 3) ⊎ (64 < length l) → is_line l ≡ false
out_of_length l = ⊎_elim (short_none l) (long-none l)

-- ---- lines of 3 to 64 bytes, byte by byte
in-turn : (x y z : Bool) → ((x && (y && true)) && z) ≡ (x && (y && z))
in-turn true true z = refl
in-turn true false z = refl
in-turn false y z = refl

begun : (l : List ℕ) → 3 ≤ length l → is_begun l ≡ (is_digit (get_or l 0 0) && (is_digit (get_or l 1 0) && eqb (get_or l 2 0) 32))
unfolding all_digits
begun [] h = absurd (omega arith)
begun (a ∷ []) h = absurd (omega arith)
begun (a ∷ b ∷ []) h = absurd (omega arith)
begun (a ∷ b ∷ s ∷ l) h = in-turn (is_digit a) (is_digit b) (eqb s 32)

pub by_bytes : (l : List ℕ) → 3 ≤ length l → length l ≤ 64
    → is_line l ≡ (is_digit (get_or l 0 0) && (is_digit (get_or l 1 0) && eqb (get_or l 2 0) 32))
unfolding is_line
by_bytes l least most = ap (λ (t : Bool). t && is_begun l) (le-leb (length l) 64 most) ∙ begun l least

-- ---- what a line has
pub line-least : (l : List ℕ) → is_line l ≡ true → 3 ≤ length l
line-least l e =
    by_contra 3 (length l) (λ k. let f = short_none l k in let z : ◌≡◌ {A = ℕ} 0 1 = cc in omega arith)

-- a space is no digit
space-stops : (l : List ℕ) → first_is (λ b. eqb b 32) l ≡ true → digit_first l ≡ false
space-stops [] e = let z : ◌≡◌ {A = ℕ} 0 1 = cc in absurd (omega arith)
space-stops (b ∷ l) e = digit_low b (omega (arith, eqb-true b 32 e))

pub rate_run : (l : List ℕ) → is_line l ≡ true → (run_of l).value ≡ rate_in l
unfolding is_line
rate_run l e =
    let t = both (all_digits (take 2 l)) (first_is (λ b. eqb b 32) (drop 2 l)) (both (leb (length l) 64) (is_begun l) e).1 in
    ap (λ (x : List ℕ). (run_of x).value) (sym (take-append-drop 2 l))
    ∙ ap (λ r. r.value) (run-nine (take 2 l) (drop 2 l) t.0 (space-stops (drop 2 l) t.1) (omega (arith, length-take 2 l)))

-- ---- what it holds
pub not_line : (l : List ℕ) → is_line l ≡ false → line_of l ≡ Err no_shape
unfolding line_of
not_line l e = rw e

pub line-held : (l : List ℕ) → is_line l ≡ true → line_of l ≡ line_holds (read_text (text_in l) None (rate_in l))
unfolding line_of
line-held l e = rw e

-- ---- a line made of its parts
module _ (rate : ℕ) (text : List ℕ) where
  abbrev made : List ℕ
  made = digits_of 2 rate ++ (32 ∷ text)

  two : take 2 made ≡ digits_of 2 rate
  two = take_at (digits_of 2 rate) (32 ∷ text) 2 (digits-length 2 rate)

  behind : drop 2 made ≡ 32 ∷ text
  behind = drop_at (digits_of 2 rate) (32 ∷ text) 2 (digits-length 2 rate)

  made-text : text_in made ≡ text
  made-text = sym (drop-drop 1 2 made) ∙ ap (drop 1) behind

  made-rate : rate < 100 → rate_in made ≡ rate
  made-rate h = ap value_of two ∙ digits-back 2 rate (omega arith)

  made-line : length text ≤ 61 → is_line made ≡ true
  unfolding is_line
  made-line h =
      let n : length made ≤ 64 = omega (arith, length-append (digits_of 2 rate) (32 ∷ text), digits-length 2 rate) in
      rw (le-leb (length made) 64 n, two, digits-all 2 rate, behind)

  pub made-read : rate < 100 → length text ≤ 61 → line_of made ≡ line_holds (read_text text None rate)
  made-read h k = line-held made (made-line k) ∙ ap₂ (λ (r : ℕ) (t : List ℕ). line_holds (read_text t None r)) (made-rate h) made-text
