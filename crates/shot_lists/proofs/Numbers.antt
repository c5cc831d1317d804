-- Which numbers a record's refusal has: 8 is none of them; and no place in a text.
-- Assumes nothing.
use Rattle.shot_lists.specs.declared.records.Taken.{Taken}
use Rattle.answers.specs.declared.Refusal.{Refusal}
use Prim.Native.Nat.{ℕ, zero, suc, ◌-◌}
use mathlib.Core.Path.{◌≡◌, refl, sym, ap, ◌∙◌, subst}
use mathlib.Core.List.{List, [], ◌∷◌}
use mathlib.Core.Bool.{Bool, true, false, cond}
use native.Mathlib.Omega.{arith}
use Rattle.answers.specs.Causes.{refusal_number}
use Rattle.answers.specs.Order.{Condition, first, NoPlaces}
use Rattle.answers.specs.OrderLaws.{unless-number, unless-place}
use Rattle.shot_lists.specs.declared.records.Record.{Record}
use Rattle.shot_lists.specs.declared.records.Record.TheVariants.{Rate, Shot, Reel}
use Rattle.std.specs.Prelude.{Some, None, Ok, Err, Option, Result}
use Rattle.shot_lists.specs.Records.{held_after, faults}
use Rattle.shot_lists.specs.Entries.{Layout, against, entry_of, taken}
use Rattle.shot_lists.specs.Reading.{Reading, AllOf, FaultOf, and_then, onward, read_from, number_in, place_in}
use Rattle.shot_lists.specs.Statements.{EntryWhen, NeverEight}

pub entry_when : EntryWhen
unfolding entry_of
entry_when A f held x l =
    let r = f.made (f.kind x) l in
    unless-number number_in Err (λ e. refl) (against f held x l) (taken r (held_after held r) (suc (f.body (f.kind x)))) refl

-- none of the conditions has this number
abbrev pub AllBut : ℕ → List Condition → Type 0
AllBut n [] = Unit {0}
AllBut n (c ∷ cs) = ((refusal_number c.refusal) ≡ n → ⊥) × AllBut n cs

pub first-but : (n : ℕ) (cs : List Condition) → AllBut (suc n) cs → first cs ≡ suc n → ⊥
first-but n [] h e = omega arith
first-but n (c ∷ cs) h e = by c.holds (first-but n cs h.1) e
  where
    by : (t : Bool) → (first cs ≡ suc n → ⊥) → cond t (refusal_number c.refusal) (first cs) ≡ suc n → ⊥
    by true later e = h.0 e
    by false later e = later e

-- on a record's numbers there are 5, 6, 11 and 12 alone
pub faults-but : (n : ℕ) → (5 ≡ n → ⊥) → (6 ≡ n → ⊥) → (11 ≡ n → ⊥) → (12 ≡ n → ⊥) → (held : ℕ) (r : Record) → AllBut n (faults held r)
unfolding faults
faults-but n a b c d held (Rate m) = (b, tt)
faults-but n a b c d held (Shot start end) = (a, (a, (c, (d, tt))))
faults-but n a b c d held (Reel m) = (a, tt)

no-eight : (held : ℕ) (r : Record) → AllBut 8 (faults held r)
no-eight = faults-but 8 (λ e. omega arith) (λ e. omega arith) (λ e. omega arith) (λ e. omega arith)

-- and none has a place in a text
nowhere : (held : ℕ) (r : Record) → NoPlaces (faults held r)
unfolding faults
nowhere held (Rate n) = (refl, tt)
nowhere held (Shot first end) = (refl, (refl, (refl, (refl, tt))))
nowhere held (Reel n) = (refl, tt)

pub against-nowhere : {A : Type 0} (f : Layout A) (held : ℕ) (x : A) (l : List A) → NoPlaces (against f held x l)
against-nowhere f held x l = (refl, (refl, nowhere held (f.made (f.kind x) l)))

entry-nowhere : {A : Type 0} (f : Layout A) (held : ℕ) (x : A) (l : List A) → place_in (entry_of f held (x ∷ l)) ≡ 0
unfolding entry_of
entry-nowhere f held x l =
    let r = f.made (f.kind x) l in
    unless-place place_in Err (λ e. refl) (against f held x l) (against-nowhere f held x l) (taken r (held_after held r) (suc (f.body (f.kind x)))) refl

-- the refusal that was read, if any, has another number, and place 0
abbrev Other : Reading → Type 0
Other (AllOf rs) = Unit {0}
Other (FaultOf e) = ((refusal_number e) ≡ 8 → ⊥) × (e.place ≡ 0)

other-more : (r : Record) (later : Reading) → Other later → Other (and_then r later)
other-more r (AllOf rs) h = tt
other-more r (FaultOf e) h = h

module _ {A : Type 0} (f : Layout A) where
  other-by : (held : ℕ) (x : A) (l : List A) (found : Result (Option Taken) Refusal) → entry_of f held (x ∷ l) ≡ found
      → ((skip after : ℕ) → Other (read_from f skip after l)) → Other (onward found (λ after size. read_from f (size - 1) after l))
  other-by held x l (Ok (Some t)) h later = other-more t.found (read_from f (t.size - 1) t.held l) (later (t.size - 1) t.held)
  other-by held x l (Err e) h later = (
    λ n.
        first-but 7 (against f held x l) (λ z. omega arith, (λ z. omega arith, no-eight held (f.made (f.kind x) l)))
        (sym (entry_when A f held x l) ∙ ap number_in h ∙ n),
    sym (ap place_in h) ∙ entry-nowhere f held x l,
  )
  other-by held x l (Ok None) h later = tt

  other : (skip held : ℕ) (l : List A) → Other (read_from f skip held l)
  unfolding read_from
  other zero held [] = tt
  other (suc skip) held [] = tt
  other (suc skip) held (x ∷ l) = other skip held l
  other zero held (x ∷ l) = other-by held x l (entry_of f held (x ∷ l)) refl (λ skip after. other skip after l)

pub never_eight : NeverEight
never_eight A f l e h = subst Other h (other f 0 0 l)
