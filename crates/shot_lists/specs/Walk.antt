-- A list, record by record (BEHAVIOUR: Shot lists), for every layout: what is read is the record at the front and what is read behind it; and any loop
-- over the records: what is wanted, from what the rest of the list gives.
-- Assumes nothing.
use Prim.Native.Nat.{ℕ, zero, suc, ◌+◌, ◌-◌, ◌≤◌, ◌<◌}
use Rattle.std.proofs.Math.Path.{◌≡◌, refl}
use Rattle.std.proofs.Common.{sym, ap, ◌∙◌, length-drop, drop_of_length-le, drop-drop, drop_at}
use mathlib.Core.List.{List, [], ◌∷◌, ◌++◌}
use Rattle.std.specs.Prelude.{true, false, length, drop}
use native.Mathlib.Omega.{arith}
use Rattle.answers.specs.declared.Refusal.{Refusal}
use Rattle.answers.specs.Order.{Clear}
use Rattle.shot_lists.specs.declared.records.Record.{Record}
use Rattle.std.specs.Prelude.{Err}
use Rattle.shot_lists.specs.Records.{held_after, faults}
use Rattle.shot_lists.specs.Entries.{Layout, entry_of, taken, over}
use Rattle.shot_lists.specs.Reading.{Reading, AllOf, FaultOf, and_then, read_from, read_of, is_faultless}
use Rattle.shot_lists.specs.Laws.{taken-size, end-apart, end-only, Spells, entry-spelled}

-- a record in front is no fault, and a fault is one
faultless-more : (r : Record) (t : Reading) → is_faultless (and_then r t) ≡ is_faultless t
faultless-more r (AllOf rs) = refl
faultless-more r (FaultOf e) = refl

pub faultless-apart : {X : Type 0} → true ≡ false → X
faultless-apart h = let z : ◌≡◌ {A = ℕ} 0 1 = cc in absurd (omega arith)

module _ {A : Type 0} (f : Layout A) where
  pub read-skip : (skip held : ℕ) (l : List A) → read_from f skip held l ≡ read_from f 0 held (drop skip l)
  unfolding read_from
  read-skip zero held l = refl
  read-skip (suc k) held [] = refl
  read-skip (suc k) held (x ∷ l) = read-skip k held l

  pub read_taken : (held : ℕ) (l : List A) (r : Record) (after size : ℕ) → entry_of f held l ≡ taken r after size
      → read_from f 0 held l ≡ and_then r (read_from f 0 after (drop size l))
  unfolding read_from entry_of
  read_taken held [] r after size h = absurd (end-apart r after size h)
  read_taken held (x ∷ l) r after zero h = absurd (omega (arith, (taken-size f held (x ∷ l) r after zero h).0))
  read_taken held (x ∷ l) r after (suc size) h =
      let n : suc size - 1 ≡ size = omega arith in
      rw (h, n) (ap (and_then r) (read-skip size after l))

  pub read-refused : (held : ℕ) (l : List A) (e : Refusal) → entry_of f held l ≡ Err e → read_from f 0 held l ≡ FaultOf e
  unfolding read_from entry_of
  read-refused held [] e h = let clash : ◌≡◌ {A = ℕ} 0 1 = cc in absurd (omega arith)
  read-refused held (x ∷ l) e h = rw h

  pub read-end : (skip held : ℕ) → read_from f skip held [] ≡ AllOf []
  unfolding read_from
  read-end zero held = refl
  read-end (suc skip) held = refl

  -- what stands for a record is read as that record, before whatever comes behind it
  pub read-spelled : (held : ℕ) (r : Record) (l m : List A) → Spells f r l → Clear (faults held r)
      → read_from f 0 held (l ++ m) ≡ and_then r (read_from f 0 (held_after held r) m)
  read-spelled held r l m s clear =
      read_taken held (l ++ m) r (held_after held r) (length l) (entry-spelled f held r l m s clear)
      ∙ ap (λ (k : List A). and_then r (read_from f 0 (held_after held r) k)) (drop_at l m (length l) refl)

  -- ---- any loop over the records: `rest` says what is wanted, from what the part that is left gives

  pub record Going {B : Type 0} (l : List A) (want : B) (rest : Reading → B) (at held : ℕ) : Type 0 where
    pub inside : at ≤ length l
    pub same : want ≡ rest (read_from f 0 held (drop at l))

  pub going-begin : {B : Type 0} (l : List A) (rest : Reading → B) → Going l (rest (read_of f l)) rest 0 0
  going-begin l rest = record { inside = omega arith; same = refl }

  -- a record was taken: `next` does with the rest what `rest` does with the record and the rest
  pub going-turn : {B : Type 0} (l : List A) (want : B) (rest next : Reading → B) (at held : ℕ) (r : Record) (after size : ℕ)
      → Going l want rest at held → entry_of f held (drop at l) ≡ taken r after size
      → ((t : Reading) → read_from f 0 after (drop (at + size) l) ≡ t → rest (and_then r t) ≡ next t) → Going l want next (at + size) after
  going-turn l want rest next at held r after size g h step =
      let n = taken-size f held (drop at l) r after size h in
      record {
        inside = omega (arith, n.0, n.1, length-drop at l);
        same =
            g.same
            ∙ ap rest (read_taken held (drop at l) r after size h)
            ∙ ap (λ (k : List A). rest (and_then r (read_from f 0 after k))) (drop-drop size at l)
            ∙ step (read_from f 0 after (drop (at + size) l)) refl;
      }

  pub going-stop : {B : Type 0} (l : List A) (want : B) (rest : Reading → B) (at held : ℕ) (e : Refusal)
      → Going l want rest at held → entry_of f held (drop at l) ≡ Err e → want ≡ rest (FaultOf e)
  going-stop l want rest at held e g h = g.same ∙ ap rest (read-refused held (drop at l) e h)

  -- no record is left
  pub going-over : {B : Type 0} (l : List A) (want : B) (rest : Reading → B) (at held : ℕ)
      → Going l want rest at held → entry_of f held (drop at l) ≡ over → want ≡ rest (AllOf [])
  going-over l want rest at held g h =
      g.same ∙ ap (λ (k : List A). rest (read_from f 0 held k)) (end-only f held (drop at l) h) ∙ ap rest (read-end 0 held)

  pub going_done : {B : Type 0} (l : List A) (want : B) (rest : Reading → B) (at held : ℕ) → Going l want rest at held → length l ≤ at → want ≡ rest (AllOf [])
  going_done l want rest at held g h =
      g.same ∙ ap (λ (k : List A). rest (read_from f 0 held k)) (drop_of_length-le l h) ∙ ap rest (read-end 0 held)

  -- a record that was taken leaves less to be read
  pub going-nearer : (l : List A) (at held : ℕ) (r : Record) (after size : ℕ) → entry_of f held (drop at l) ≡ taken r after size → (0 < size) × (at + size ≤ length l)
  going-nearer l at held r after size h =
      let n = taken-size f held (drop at l) r after size h in
      (n.0, omega (arith, n.0, n.1, length-drop at l))

  -- ---- through a list without fault no record is refused

  pub faultless-begin : (l : List A) → is_faultless (read_of f l) ≡ true → Going l true is_faultless 0 0
  faultless-begin l h = record { inside = omega arith; same = sym h }

  pub faultless-turn : (l : List A) (at held : ℕ) (r : Record) (after size : ℕ)
      → Going l true is_faultless at held → entry_of f held (drop at l) ≡ taken r after size → Going l true is_faultless (at + size) after
  faultless-turn l at held r after size g h = going-turn l true is_faultless is_faultless at held r after size g h (λ t _. faultless-more r t)

  pub faultless-never : (l : List A) (at held : ℕ) (e : Refusal) → Going l true is_faultless at held → entry_of f held (drop at l) ≡ Err e → ⊥
  faultless-never l at held e g h = faultless-apart (going-stop l true is_faultless at held e g h)
