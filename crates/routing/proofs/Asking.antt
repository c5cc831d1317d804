-- A query is read exactly as the grammar has it.
-- Assumes nothing.
use Rattle.std.specs.Prelude.{Option, Some, None}
use Prim.Native.Nat.{ℕ, ◌+◌, ◌≤◌}
use mathlib.Core.Path.{◌≡◌, refl, sym, ap, subst, ◌∙◌}
use mathlib.Core.List.{List, [], ◌∷◌, ◌++◌}
use mathlib.Core.Bool.{Bool, true, false, cond}
use native.Mathlib.Omega.{arith}
use lib.IntN.{ℤ}
use lib.ListN.{length, drop}
use borrow.Author.Tests.{eqb-true}
use Rattle.digits.specs.Digits.{is_byte, first_is}
use Rattle.asking.specs.declared.values.Word.{Word}
use Rattle.asking.specs.Numbers.{some_word, signed_at}
use Rattle.asking.proofs.NumberLaws.{stands-within}
use Rattle.asking.proofs.Numerals.{signed-taken, signed-left, signed-told}
use Rattle.routing.specs.declared.queries.Query.{Query}
use Rattle.routing.specs.Queries.{Asked, NotUnderstood, asked_at, asked_by, query_of}
use Rattle.routing.specs.Grammar.{Asks, asks}
use Rattle.routing.specs.Statements.{Understood, QueryUnderstood}

-- ---- as the grammar has it
understood : {line : List ℕ} {z : ℤ} {t : List ℕ} → Asks line z t → Understood line z t
unfolding query_of asked_at
understood {line} {z} {t} (asks {d} n) =
    let left = signed-left line 0 d (32 ∷ t) refl in
    record {
      at = 0 + length d + 1;
      asked = rw (signed-taken n 0 (32 ∷ t) refl, left);
      rest = signed-left line (0 + length d) (32 ∷ []) t left;
    }

abbrev length-in : ℤ → Option Query → ℤ
length-in z (Some query) = query.length
length-in z None = z

abbrev label-in : ℕ → Option Query → ℕ
label-in at (Some query) = query.label
label-in at None = at

record Told (line : List ℕ) (z : ℤ) (at : ℕ) : Type 0 where
  next : ℕ
  number : signed_at 0 line ≡ some_word z next
  space : first_is (is_byte 32) (drop next line) ≡ true
  at_is : at ≡ next + 1

told : (line : List ℕ) (z : ℤ) (at : ℕ) → query_of line ≡ Asked z at → Told line z at
unfolding query_of asked_at
told line z at e = by (signed_at 0 line) refl e
  where
    by : (w : Option Word) → signed_at 0 line ≡ w → asked_by line w ≡ Asked z at → Told line z at
    by (Some word) p f = go (first_is (is_byte 32) (drop word.next line)) refl f
      where
        go : (t : Bool) → first_is (is_byte 32) (drop word.next line) ≡ t → cond t (Asked word.number (word.next + 1)) NotUnderstood ≡ Asked z at → Told line z at
        go true q g = let v : word.number ≡ z = ap (length-in z) g in record { next = word.next; number = p ∙ ap (λ x. some_word x word.next) v; space = q; at_is = sym (ap (label-in at) g) }
        go false q g = let x : ◌≡◌ {A = ℕ} 0 1 = cc in absurd (omega arith)
    by None p f = let x : ◌≡◌ {A = ℕ} 0 1 = cc in absurd (omega arith)

stands-front : (b : ℕ) (l : List ℕ) → first_is (is_byte b) l ≡ true → l ≡ b ∷ drop 1 l
stands-front b [] e = let z : ◌≡◌ {A = ℕ} 0 1 = cc in absurd (omega arith)
stands-front b (c ∷ l) e = ap (λ z. z ∷ l) (eqb-true c b e)

only : (line : List ℕ) (z : ℤ) (at : ℕ) → query_of line ≡ Asked z at → Asks line z (drop at line)
only line z at e =
    let t = told line z at e in
    let s = signed-told 0 line z t.next t.number in
    let left : drop t.next line ≡ s.rest = ap (λ k. drop k line) s.past ∙ signed-left line 0 s.digits s.rest s.is in
    let front : s.rest ≡ 32 ∷ drop 1 s.rest = stands-front 32 s.rest (ap (first_is (is_byte 32)) (sym left) ∙ t.space) in
    let label : drop at line ≡ drop 1 s.rest =
    ap (λ k. drop k line) t.at_is ∙ signed-left line t.next (32 ∷ []) (drop 1 s.rest) (left ∙ front) in
    subst (λ x. Asks line z x) (sym label)
    (subst (λ x. Asks x z (drop 1 s.rest)) (sym (s.is ∙ ap (λ x. s.digits ++ x) front)) (asks s.numeral))

pub query_understood : QueryUnderstood
query_understood line z t = (understood, λ u. subst (Asks line z) u.rest (only line z u.at u.asked))

-- the label begins within the line
pub query-within : (line : List ℕ) (z : ℤ) (at : ℕ) → query_of line ≡ Asked z at → at ≤ length line
query-within line z at e = let t = told line z at e in omega (arith, t.at_is, stands-within line t.next 32 t.space)
