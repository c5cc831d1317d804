-- A question of the grammar, step by step: each option is taken, and then the rate.
-- Assumes nothing.
use Prim.Native.Nat.{ℕ, suc, ◌+◌, ◌≤◌}
use Rattle.std.specs.Prelude.{Option, Some, None}
use mathlib.Core.Path.{◌≡◌, refl, sym, ap, ◌∙◌}
use mathlib.Core.List.{List, [], ◌∷◌, ◌++◌, append-nil}
use mathlib.Core.Bool.{Bool, true, false, cond}
use native.Mathlib.Omega.{arith}
use lib.ListN.{length, drop}
use lib.Seq.{drop-drop, drop_at}
use borrow.Author.Tests.{ne_eqb, le-leb}
use Rattle.laws.specs.Spelt.{spelt}
use Rattle.digits.specs.Digits.{digit_first, IsField, value_of, run_of}
use Rattle.digits.proofs.Values.{digit-bounds}
use Rattle.digits.proofs.Runs.{run-nine, field-first}
use Rattle.asking.specs.Table.{word_first}
use Rattle.timecodes.specs.declared.kinds.Kind.TheVariants.{Length}
use Rattle.timecodes.specs.Kinds.{is_position}
use Rattle.telling.specs.declared.told.Options.{Options}
use Rattle.telling.specs.declared.questions.Opening.{Opening}
use Rattle.telling.specs.Question.{one_of, format_word, position_word, is_number, opening, no_option, with_position, with_format, format_at, format_after, format_behind, format_in, position_behind, option_in, option_of, way_of, with_text, no_text, ended_at, rated_in}
use Rattle.telling.specs.Grammar.{Numeral, numeral, PositionWord, short_position, long_position, FormatWord, short_format, long_format, Front, no-option, one_position, one_format, position_format, format_position}

-- ---- numbers
run-number : (d : List ℕ) (value : ℕ) → IsField d → length d ≤ 9 → is_number (record { value = value; count = length d }) ≡ true
unfolding is_number
run-number d value f h = rw (ne_eqb (length d) 0 (λ e. omega (arith, e, f.some)), le-leb (length d) 9 h)

-- ---- options
pub pass-position : (o : Opening) (w l : List ℕ) → PositionWord w → o.options.kind ≡ Length → option_in (w ++ l) o ≡ with_position o (length w)
unfolding option_in one_of word_first
pass-position o w l short_position e = rw e
pass-position o w l long_position e = rw e

pass-number : (o : Opening) (d l : List ℕ) (n at : ℕ) → Numeral d n → format_at (d ++ (32 ∷ l)) o at ≡ with_format o n (at + length d + 1)
unfolding format_at
pass-number o d l n at (numeral f h) =
    rw (run-nine d (32 ∷ l) f.digits refl h, run-number d (value_of d) f h, drop_at d (32 ∷ l) (length d) refl)

pub pass-format : (o : Opening) (v d l : List ℕ) (n : ℕ) → FormatWord v → Numeral d n → o.options.format ≡ None
    → option_in (v ++ (d ++ (32 ∷ l))) o ≡ with_format o n (o.at + length v + length d + 1)
unfolding option_in format_in one_of word_first
pass-format o v d l n short_format k e = by (is_position o.options.kind)
  where
    here : format_in (spelt "-f " ++ (d ++ (32 ∷ l))) o ≡ with_format o n (o.at + 3 + length d + 1)
    here = ap (format_after (spelt "-f " ++ (d ++ (32 ∷ l))) o) e ∙ pass-number o d l n (o.at + 3) k

    by : (t : Bool)
        → cond t (format_in (spelt "-f " ++ (d ++ (32 ∷ l))) o) (format_in (spelt "-f " ++ (d ++ (32 ∷ l))) o) ≡ with_format o n (o.at + 3 + length d + 1)
    by true = here
    by false = here
pass-format o v d l n long_format k e = by (is_position o.options.kind)
  where
    here : format_in (spelt "--format " ++ (d ++ (32 ∷ l))) o ≡ with_format o n (o.at + 9 + length d + 1)
    here = ap (format_after (spelt "--format " ++ (d ++ (32 ∷ l))) o) e ∙ pass-number o d l n (o.at + 9) k

    by : (t : Bool)
        → cond t (format_in (spelt "--format " ++ (d ++ (32 ∷ l))) o) (format_in (spelt "--format " ++ (d ++ (32 ∷ l))) o) ≡ with_format o n (o.at + 9 + length d + 1)
    by true = here
    by false = here

-- before a digit there is none
no_word : (w l : List ℕ) → digit_first l ≡ true → word_first (45 ∷ w) l ≡ false
unfolding word_first
no_word w [] e = let z : ◌≡◌ {A = ℕ} 0 1 = cc in absurd (omega arith)
no_word w (b ∷ l) e = rw (ne_eqb b 45 (λ z. omega (arith, z, (digit-bounds b e).0)))

no_words : (a b l : List ℕ) → digit_first l ≡ true → one_of (45 ∷ a) (45 ∷ b) l ≡ None
unfolding one_of
no_words a b l e = rw (no_word a l e, no_word b l e)

-- and so no format
format-none : (o : Opening) (l : List ℕ) (stated : Option ℕ) → format_word l ≡ None → format_after l o stated ≡ o
format-none o l (Some format) e = refl
format-none o l None e = ap (format_behind l o) e

pub pass-none : (o : Opening) (l : List ℕ) → digit_first l ≡ true → option_in l o ≡ o
unfolding option_in format_in
pass-none o l e = by (is_position o.options.kind)
  where
    same : format_in l o ≡ o
    same = format-none o l o.options.format (no_words (102 ∷ 32 ∷ []) (spelt "-format ") l e)

    by : (t : Bool) → cond t (format_in l o) (position_behind l o (position_word l)) ≡ o
    by true = same
    by false = ap (position_behind l o) (no_words (112 ∷ 32 ∷ []) (spelt "-position ") l e) ∙ same

-- ---- places
pub behind : (line : List ℕ) (at : ℕ) (a l : List ℕ) → drop at line ≡ a ++ l → drop (at + length a) line ≡ l
behind line at a l e = sym (drop-drop (length a) at line) ∙ ap (drop (length a)) e ∙ drop_at a l (length a) refl

pub record Reached (line rest : List ℕ) (o : Options) : Type 0 where
  pub at : ℕ
  pub is : option_of line (option_of line no_option) ≡ opening o at
  pub left : drop at line ≡ rest

-- what the second option finds
next : (line : List ℕ) (o o' : Opening) (l : List ℕ) → drop o.at line ≡ l → option_in l o ≡ o' → option_of line o ≡ o'
next line o o' l e p = ap (λ z. option_in z o) e ∙ p

pub number_behind : (line : List ℕ) (at : ℕ) (v d l : List ℕ) → drop at line ≡ v ++ (d ++ (32 ∷ l)) → drop (at + length v + length d + 1) line ≡ l
number_behind line at v d l e =
    let one = behind line at v (d ++ (32 ∷ l)) e in
    behind line (at + length v + length d) (32 ∷ []) l (behind line (at + length v) d (32 ∷ l) one)

two : (line : List ℕ) (o o' : Opening) → option_of line no_option ≡ o → option_of line o ≡ o' → option_of line (option_of line no_option) ≡ o'
two line o o' e f = ap (option_of line) e ∙ f

pub reached : {line rest : List ℕ} {o : Options} → Front line rest o → digit_first rest ≡ true → Reached line rest o
reached {line} no-option e = record {
  at = 0;
  is = two line no_option no_option (pass-none no_option line e) (pass-none no_option line e);
  left = refl;
}
reached {line} {rest} (one_position {w = w} k) e =
    let o = with_position no_option (length w) in
    let left = behind line 0 w rest refl in
    record { at = 0 + length w; is = two line o o (pass-position no_option w rest k refl) (next line o o rest left (pass-none o rest e)); left = left }
reached {line} {rest} (one_format {v = v} {d = d} {n = n} k j) e =
    let o = with_format no_option n (0 + length v + length d + 1) in
    let left = number_behind line 0 v d rest refl in
    record {
      at = 0 + length v + length d + 1;
      is = two line o o (pass-format no_option v d rest n k j refl) (next line o o rest left (pass-none o rest e));
      left = left;
    }
reached {line} {rest} (position_format {w = w} {v = v} {d = d} {n = n} i k j) e =
    let l = v ++ (d ++ (32 ∷ rest)) in
    let o = with_position no_option (length w) in
    let at = behind line 0 w l refl in
    record {
      at = 0 + length w + length v + length d + 1;
      is = two line o (with_format o n (0 + length w + length v + length d + 1)) (pass-position no_option w l i refl)
          (next line o _ l at (pass-format o v d rest n k j refl));
      left = number_behind line (0 + length w) v d rest at;
    }
reached {line} {rest} (format_position {v = v} {d = d} {w = w} {n = n} k j i) e =
    let o = with_format no_option n (0 + length v + length d + 1) in
    let at = number_behind line 0 v d (w ++ rest) refl in
    record {
      at = 0 + length v + length d + 1 + length w;
      is = two line o (with_position o (length w)) (pass-format no_option v d (w ++ rest) n k j refl)
          (next line o _ (w ++ rest) at (pass-position o w rest i refl));
      left = behind line (0 + length v + length d + 1) w rest at;
    }

-- ---- the rate
pub pass-rate : (o : Opening) (d t : List ℕ) (r : ℕ) → Numeral d r → rated_in (d ++ (32 ∷ t)) o ≡ with_text (way_of o.options r) (o.at + length d + 1)
unfolding rated_in ended_at
pass-rate o d t r (numeral f h) =
    rw (
      run-nine d (32 ∷ t) f.digits refl h,
      run-number d (value_of d) f h,
      drop_at d (32 ∷ t) (length d) refl,
      ne_eqb (suc (length t)) 0 (λ e. omega (arith, e)),
    )

pub pass-rate-alone : (o : Opening) (d : List ℕ) (r : ℕ) → Numeral d r → rated_in d o ≡ no_text (way_of o.options r)
unfolding rated_in ended_at
pass-rate-alone o d r (numeral f h) =
    let run_is = run-nine d [] f.digits refl h in
    let whole : run_of d ≡ record { value = value_of d; count = length d } = ap run_of (sym (append-nil d)) ∙ run_is in
    let none : drop (length d) d ≡ [] = ap (drop (length d)) (sym (append-nil d)) ∙ drop_at d [] (length d) refl in
    rw (whole, run-number d (value_of d) f h, none)

pub rate-first : {d : List ℕ} {r : ℕ} (l : List ℕ) → Numeral d r → digit_first (d ++ l) ≡ true
rate-first {d} l (numeral f h) = field-first d l f
