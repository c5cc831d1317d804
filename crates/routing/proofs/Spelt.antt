-- A line of a directory file is read exactly as the grammar has it.
-- Assumes nothing.
use Rattle.std.specs.Prelude.{Option, Some, None, Result, Ok, Err}
use Prim.Native.Nat.{ℕ}
use mathlib.Core.Path.{◌≡◌, refl, sym, ap, subst, ◌∙◌}
use mathlib.Core.List.{List, [], ◌∷◌, ◌++◌}
use mathlib.Core.Bool.{Bool, true, false, cond, not, ◌||◌, and-eq-true_iff}
use native.Mathlib.Omega.{arith}
use lib.Dec.{eqb, ltb}
use lib.ListN.{length, drop}
use borrow.Author.Tests.{eqb-true, ne_eqb, lt-ltb, ltb-true}
use Rattle.digits.specs.Digits.{is_digit, value_of, digit_first, span, leading}
use Rattle.digits.proofs.Values.{digit-bounds}
use Rattle.digits.proofs.Runs.{span_run, leading-run, after_run, span-no, span-stops, leading-rest, leading-field, field-first}
use Rattle.routing.specs.declared.entries.Pair.{Pair}
use Rattle.routing.specs.declared.loading.Flaw.{Flaw}
use Rattle.routing.specs.declared.loading.Flaw.TheVariants.{NotTwoNumbers}
use Rattle.routing.specs.Entries.{Skipped, Numbers, Bad, is_blank, past_blanks, is_over, is_number, ended_by, second_in, entry_in, entry_of}
use Rattle.routing.specs.Grammar.{Blank, space, tab, carriage_return, Blanks, none, more, Over, nothing, comment, Numeral, numeral, SaysNothing, says_nothing, SaysTwo, says_two}
use Rattle.routing.specs.Statements.{LineSkipped, LineTaken}

never : true ≡ false → ⊥
never e = let z : ◌≡◌ {A = ℕ} 0 1 = cc in omega arith

-- ---- blanks
blank-is : {b : ℕ} → Blank b → is_blank b ≡ true
blank-is space = refl
blank-is tab = refl
blank-is carriage_return = refl

blank-told : (b : ℕ) → is_blank b ≡ true → Blank b
blank-told b e = by (eqb b 32) (eqb b 9) (eqb b 13) refl refl refl e
  where
    by : (x y z : Bool) → eqb b 32 ≡ x → eqb b 9 ≡ y → eqb b 13 ≡ z → (x || (y || z)) ≡ true → Blank b
    by true y z p q r f = subst Blank (sym (eqb-true b 32 p)) space
    by false true z p q r f = subst Blank (sym (eqb-true b 9 q)) tab
    by false false true p q r f = subst Blank (sym (eqb-true b 13 r)) carriage_return
    by false false false p q r f = absurd (never (sym f))

-- those in front are passed
past : {a : List ℕ} (l : List ℕ) → Blanks a → past_blanks (a ++ l) ≡ past_blanks l
unfolding past_blanks
past l none = refl
past l (more b k) = rw (blank-is b) (past l k)

-- and those that are passed stand in front
record Passed (l : List ℕ) : Type 0 where
  front : List ℕ
  blanks : Blanks front
  is : l ≡ front ++ past_blanks l

passed : (l : List ℕ) → Passed l
unfolding past_blanks
passed [] = record { front = []; blanks = none; is = refl }
passed (b ∷ l) = by (is_blank b) refl (passed l)
  where
    by : (t : Bool) → is_blank b ≡ t → Passed l → Passed (b ∷ l)
    by true e p = record { front = b ∷ p.front; blanks = more (blank-told b e) p.blanks; is = rw e (ap (λ z. b ∷ z) p.is) }
    by false e p = record { front = []; blanks = none; is = rw e }

-- ---- where a line is over
over-is : {t : List ℕ} → Over t → (is_over t ≡ true) × (past_blanks t ≡ t)
unfolding past_blanks
over-is nothing = (refl, refl)
over-is comment = (refl, refl)

over-told : (t : List ℕ) → is_over t ≡ true → Over t
over-told [] e = nothing
over-told (b ∷ t) e = subst (λ z. Over (z ∷ t)) (sym (eqb-true b 35 e)) comment

-- ---- a number
digit-plain : (b : ℕ) → is_digit b ≡ true → (is_blank b ≡ false) × (eqb b 35 ≡ false)
digit-plain b e =
    let h = (digit-bounds b e).0 in
    (rw (ne_eqb b 32 (λ z. omega (arith, z)), ne_eqb b 9 (λ z. omega (arith, z)), ne_eqb b 13 (λ z. omega (arith, z))), ne_eqb b 35 (λ z. omega (arith, z)))

-- no blank is passed before a digit, and the line is not over
digit-stays : (l : List ℕ) → digit_first l ≡ true → (past_blanks l ≡ l) × (is_over l ≡ false)
unfolding past_blanks
digit-stays [] e = absurd (never (sym e))
digit-stays (b ∷ l) e = let p = digit-plain b e in (rw p.0, p.1)

record Taken (d l : List ℕ) (n : ℕ) : Type 0 where
  first : digit_first (d ++ l) ≡ true
  number : is_number (d ++ l) ≡ true
  value : value_of (leading (d ++ l)) ≡ n
  rest : drop (span (d ++ l)) (d ++ l) ≡ l

taken : {d : List ℕ} {n : ℕ} (l : List ℕ) → Numeral d n → digit_first l ≡ false → Taken d l n
taken {d} l (numeral f h) e =
    let run = leading-run d l f.digits e in
    record {
      first = field-first d l f;
      number =
          rw (run, span_run d l f.digits e, ne_eqb (length d) 0 (λ z. omega (arith, z, f.some)), lt-ltb (value_of d) 9223372036854775808 h);
      value = ap value_of run;
      rest = after_run d l f.digits e;
    }

-- and back
number-told : (l : List ℕ) → is_number l ≡ true → Numeral (leading l) (value_of (leading l))
number-told l e =
    let q = (and-eq-true_iff (not (eqb (span l) 0)) (ltb (value_of (leading l)) 9223372036854775808)).0 e in
    numeral (leading-field l (λ z. nonzero z q.0)) (ltb-true (value_of (leading l)) 9223372036854775808 q.1)
  where
    nonzero : span l ≡ 0 → not (eqb (span l) 0) ≡ true → ⊥
    nonzero z t = let y : not (eqb 0 0) ≡ true = ap (λ k. not (eqb k 0)) (sym z) ∙ t in never (sym y)

number-first : (l : List ℕ) → is_number l ≡ true → digit_first l ≡ true
number-first l e = by (digit_first l) refl
  where
    by : (t : Bool) → digit_first l ≡ t → digit_first l ≡ true
    by true p = p
    by false p =
        let q = (and-eq-true_iff (not (eqb (span l) 0)) (ltb (value_of (leading l)) 9223372036854775808)).0 e in
        let y : not (eqb 0 0) ≡ true = ap (λ k. not (eqb k 0)) (sym (span-no l p)) ∙ q.0 in
        absurd (never (sym y))

-- ---- a line that says nothing
skipped : {line : List ℕ} → SaysNothing line → entry_of line ≡ Skipped
unfolding entry_of entry_in
skipped (says_nothing {a} {t} k o) = let p = over-is o in rw (past t k, p.1, p.0)

second-not : (first : ℕ) (l : List ℕ) → second_in first l ≡ Skipped → ⊥
unfolding second_in ended_by
second-not first l = by (is_number l) (is_over (past_blanks (drop (span l) l)))
  where
    by : (x y : Bool) → cond x (cond y (Numbers first (value_of (leading l))) Bad) Bad ≡ Skipped → ⊥
    by true true e = let z : ◌≡◌ {A = ℕ} 0 1 = cc in omega arith
    by true false e = let z : ◌≡◌ {A = ℕ} 0 1 = cc in omega arith
    by false y e = let z : ◌≡◌ {A = ℕ} 0 1 = cc in omega arith

entry-skipped : (l : List ℕ) → entry_in l ≡ Skipped → is_over l ≡ true
unfolding entry_in
entry-skipped l e = by (is_over l) refl (is_number l) e
  where
    by : (x : Bool) → is_over l ≡ x → (y : Bool)
        → cond x Skipped (cond y (second_in (value_of (leading l)) (past_blanks (drop (span l) l))) Bad) ≡ Skipped → is_over l ≡ true
    by true p y f = p
    by false p true f = absurd (second-not (value_of (leading l)) (past_blanks (drop (span l) l)) f)
    by false p false f = let z : ◌≡◌ {A = ℕ} 0 1 = cc in absurd (omega arith)

skipped-only : (line : List ℕ) → entry_of line ≡ Skipped → SaysNothing line
unfolding entry_of
skipped-only line e =
    let p = passed line in
    subst SaysNothing (sym p.is) (says_nothing p.blanks (over-told (past_blanks line) (entry-skipped (past_blanks line) e)))

pub line_skipped : LineSkipped
line_skipped line = (skipped, skipped-only line)

-- ---- a line of two numbers
blank-no-digit : {b : ℕ} → Blank b → is_digit b ≡ false
blank-no-digit space = refl
blank-no-digit tab = refl
blank-no-digit carriage_return = refl

rest-no-digit : {c t : List ℕ} → Blanks c → Over t → digit_first (c ++ t) ≡ false
rest-no-digit none nothing = refl
rest-no-digit none comment = refl
rest-no-digit (more b k) o = blank-no-digit b

two : {line : List ℕ} {m n : ℕ} → SaysTwo line m n → entry_of line ≡ Numbers m n
unfolding entry_of entry_in second_in ended_by
two (says_two {a} {d} {b} {e} {c} {t} {blank} {m} {n} ka nd kb kbs ne kc o) =
    let behind = blank ∷ b ++ (e ++ (c ++ t)) in
    let one = taken behind nd (blank-no-digit kb) in
    let next = taken (c ++ t) ne (rest-no-digit kc o) in
    let stays = digit-stays (d ++ behind) one.first in
    let stays2 = digit-stays (e ++ (c ++ t)) next.first in
    let over = over-is o in
    let between : past_blanks behind ≡ e ++ (c ++ t) = past (e ++ (c ++ t)) (more kb kbs) ∙ stays2.0 in
    let last : past_blanks (c ++ t) ≡ t = past t kc ∙ over.1 in
    rw (past (d ++ behind) ka, stays.0, stays.1, one.number, one.value, one.rest, between, next.number, next.value, next.rest, last, over.0)

abbrev first-in : Result (Option Pair) Flaw → ℕ
first-in (Ok (Some pair)) = pair.first
first-in (Ok None) = 0
first-in (Err flaw) = 0

abbrev second-in : Result (Option Pair) Flaw → ℕ
second-in (Ok (Some pair)) = pair.second
second-in (Ok None) = 0
second-in (Err flaw) = 0

-- what it tells that two numbers were read
record Second (first : ℕ) (l : List ℕ) (m n : ℕ) : Type 0 where
  number : is_number l ≡ true
  over : is_over (past_blanks (drop (span l) l)) ≡ true
  first-is : m ≡ first
  second_is : n ≡ value_of (leading l)

second-told : (first : ℕ) (l : List ℕ) (m n : ℕ) → second_in first l ≡ Numbers m n → Second first l m n
unfolding second_in ended_by
second-told first l m n e = by (is_number l) (is_over (past_blanks (drop (span l) l))) refl refl e
  where
    by : (x y : Bool) → is_number l ≡ x → is_over (past_blanks (drop (span l) l)) ≡ y
        → cond x (cond y (Numbers first (value_of (leading l))) Bad) Bad ≡ Numbers m n → Second first l m n
    by true true p q f = record { number = p; over = q; first-is = ap first-in (sym f); second_is = ap second-in (sym f) }
    by true false p q f = let z : ◌≡◌ {A = ℕ} 0 1 = cc in absurd (omega arith)
    by false y p q f = let z : ◌≡◌ {A = ℕ} 0 1 = cc in absurd (omega arith)

record First (l : List ℕ) (m n : ℕ) : Type 0 where
  number : is_number l ≡ true
  second : Second (value_of (leading l)) (past_blanks (drop (span l) l)) m n

first-told : (l : List ℕ) (m n : ℕ) → entry_in l ≡ Numbers m n → First l m n
unfolding entry_in
first-told l m n e = by (is_over l) (is_number l) refl e
  where
    by : (x y : Bool) → is_number l ≡ y
        → cond x Skipped (cond y (second_in (value_of (leading l)) (past_blanks (drop (span l) l))) Bad) ≡ Numbers m n → First l m n
    by true y p f = let z : ◌≡◌ {A = ℕ} 0 1 = cc in absurd (omega arith)
    by false true p f = record { number = p; second = second-told _ _ m n f }
    by false false p f = let z : ◌≡◌ {A = ℕ} 0 1 = cc in absurd (omega arith)

numeral-first : {d : List ℕ} {n : ℕ} (l : List ℕ) → Numeral d n → digit_first (d ++ l) ≡ true
numeral-first {d} l (numeral f h) = field-first d l f

-- a blank stands between them: what is left behind the first number does not begin with a digit
says : (a d g e r : List ℕ) (m n : ℕ) → Blanks a → Numeral d m → Blanks g → Numeral e n → Passed r → Over (past_blanks r)
    → digit_first (g ++ (e ++ r)) ≡ false → SaysTwo (a ++ (d ++ (g ++ (e ++ r)))) m n
says a d [] e r m n ka nd none ne p o f = absurd (never (sym (numeral-first r ne) ∙ f))
says a d (b ∷ g) e r m n ka nd (more kb kg) ne p o f =
    subst (λ z. SaysTwo (a ++ (d ++ (b ∷ g ++ (e ++ z)))) m n) (sym p.is) (says_two ka nd kb kg ne p.blanks o)

numbers-same : {l : List ℕ} {m m' n n' : ℕ} → m ≡ m' → n ≡ n' → SaysTwo l m' n' → SaysTwo l m n
numbers-same {l} {m} {m'} {n} {n'} p q k = subst (λ z. SaysTwo l z n) (sym p) (subst (λ z. SaysTwo l m' z) (sym q) k)

two-only : (line : List ℕ) (m n : ℕ) → entry_of line ≡ Numbers m n → SaysTwo line m n
unfolding entry_of
two-only line m n f =
    let l = past_blanks line in
    let one = first-told l m n f in
    let r = drop (span l) l in
    let k = past_blanks r in
    let s = one.second in
    let rr = drop (span k) k in
    let start = passed line in
    let between = passed r in
    let end = passed rr in
    let inner : r ≡ between.front ++ (leading k ++ rr) = between.is ∙ ap (λ z. between.front ++ z) (sym (leading-rest k)) in
    let whole : line ≡ start.front ++ (leading l ++ (between.front ++ (leading k ++ rr))) =
    start.is ∙ ap (λ z. start.front ++ z) (sym (leading-rest l) ∙ ap (λ z. leading l ++ z) inner) in
    let stops : digit_first (between.front ++ (leading k ++ rr)) ≡ false = ap digit_first (sym inner) ∙ span-stops l in
    let made = says start.front (leading l) between.front (leading k) rr _ _ start.blanks (number-told l one.number) between.blanks (number-told k s.number) end (over-told (past_blanks rr) s.over) stops in
    subst (λ z. SaysTwo z m n) (sym whole) (numbers-same s.first-is s.second_is made)

pub line_taken : LineTaken
line_taken line m n = (two, two-only line m n)

-- ---- a line that is neither
abbrev flaw-in : Result (Option Pair) Flaw → Flaw
flaw-in (Ok x) = NotTwoNumbers
flaw-in (Err flaw) = flaw

second-flaw : (first : ℕ) (l : List ℕ) → flaw-in (second_in first l) ≡ NotTwoNumbers
unfolding second_in ended_by
second-flaw first l = by (is_number l) (is_over (past_blanks (drop (span l) l)))
  where
    by : (x y : Bool) → flaw-in (cond x (cond y (Numbers first (value_of (leading l))) Bad) Bad) ≡ NotTwoNumbers
    by true true = refl
    by true false = refl
    by false y = refl

entry-flaw : (l : List ℕ) → flaw-in (entry_in l) ≡ NotTwoNumbers
unfolding entry_in
entry-flaw l = by (is_over l) (is_number l)
  where
    by : (x y : Bool) → flaw-in (cond x Skipped (cond y (second_in (value_of (leading l)) (past_blanks (drop (span l) l))) Bad)) ≡ NotTwoNumbers
    by true y = refl
    by false true = second-flaw (value_of (leading l)) (past_blanks (drop (span l) l))
    by false false = refl

pub line-flaw : (line : List ℕ) (flaw : Flaw) → entry_of line ≡ Err flaw → flaw ≡ NotTwoNumbers
unfolding entry_of
line-flaw line flaw e = ap flaw-in (sym e) ∙ entry-flaw (past_blanks line)
