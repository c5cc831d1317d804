-- Laws of the record at a place (BEHAVIOUR: Shot lists), for every layout: what is answered there, and what a record that was taken tells.
-- Assumes nothing.
use Prim.Native.Nat.{ℕ, suc, ◌+◌, ◌≤◌, ◌<◌}
use Rattle.std.specs.Prelude.{◌≡◌, drop, get_or, Option, Result}
use Rattle.std.proofs.Math.Path.{refl, ap}
use Rattle.std.proofs.Common.{sym, ◌∙◌, arith, drop_of_length-le, drop-cons}
use mathlib.Core.List.{List, [], ◌∷◌, ◌++◌}
use Rattle.std.proofs.Math.Numerals.{add-one}
use borrow.Author.Tests.{lt-ltb, le-ltb, eq-eqb, ne_eqb, ltb-false, eqb-false}
use Rattle.std.proofs.Math.ListN.{length, length-append}
use Rattle.answers.specs.declared.Refusal.{Refusal}
use Rattle.answers.specs.Order.{Clear}
use Rattle.answers.specs.OrderLaws.{unless-clear, unless-told}
use Rattle.answers.specs.Refusals.{no_such_kind, cut_short}
use Rattle.shot_lists.specs.declared.records.Record.{Record}
use Rattle.shot_lists.specs.declared.records.Taken.{Taken}
use Rattle.std.specs.Prelude.{Err}
use Rattle.shot_lists.specs.Records.{held_after, faults}
use Rattle.shot_lists.specs.Entries.{Layout, against, ruled, entry_of, taken, over}

-- a record that was taken is no refusal, and not the end
pub taken-apart : (r : Record) (held size : ℕ) (e : Refusal) → ◌≡◌ {A = Result (Option Taken) Refusal} (Err e) (taken r held size) → ⊥
taken-apart r held size e h = let clash : ◌≡◌ {A = ℕ} 0 1 = cc in omega arith

pub end-apart : (r : Record) (held size : ℕ) → ◌≡◌ {A = Result (Option Taken) Refusal} over (taken r held size) → ⊥
end-apart r held size h = let clash : ◌≡◌ {A = ℕ} 0 1 = cc in omega arith

pub refused-apart : (e : Refusal) → ◌≡◌ {A = Result (Option Taken) Refusal} (Err e) over → ⊥
refused-apart e h = let clash : ◌≡◌ {A = ℕ} 0 1 = cc in omega arith

-- what was taken is told by its answer
pub taken-same : (r r' : Record) (held held' size size' : ℕ) → taken r held size ≡ taken r' held' size' → (r ≡ r') × (held ≡ held') × (size ≡ size')
taken-same r r' held held' size size' h =
    let t : ◌≡◌ {A = Taken} (record { found = r; held = held; size = size }) (record { found = r'; held = held'; size = size' }) = cc in
    (ap (λ (x : Taken). x.found) t, ap (λ (x : Taken). x.held) t, ap (λ (x : Taken). x.size) t)

-- elements that stand for a record, whatever comes behind them
pub record Spells {A : Type 0} (f : Layout A) (r : Record) (l : List A) : Type 0 where
  pub head : A
  pub body : List A
  pub is : l ≡ head ∷ body
  pub fixed : f.body (f.kind head) ≡ length body
  pub some : 0 < length body
  pub made : (m : List A) → f.made (f.kind head) (body ++ m) ≡ r

module _ {A : Type 0} (f : Layout A) (held : ℕ) where
  -- ---- at a place of a list

  pub entry-end : (l : List A) (at : ℕ) → length l ≤ at → entry_of f held (drop at l) ≡ over
  unfolding entry_of
  entry-end l at h = rw (drop_of_length-le l h)

  -- and only at the end there is no record
  pub end-only : (l : List A) → entry_of f held l ≡ over → l ≡ []
  unfolding entry_of
  end-only [] h = refl
  end-only (x ∷ l) h =
      let m = f.made (f.kind x) l in
      let answer : Result (Option Taken) Refusal = taken m (held_after held m) (suc (f.body (f.kind x))) in
      let told = unless-told Err (against f held x l) answer over (λ e p. refused-apart e p) h in
      absurd (end-apart m (held_after held m) (suc (f.body (f.kind x))) (sym told.1))

  module _ (l : List A) (at : ℕ) (x : A) (inside : at < length l) (is : x ≡ get_or l at x) where
    here : drop at l ≡ x ∷ drop (at + 1) l
    here = rw (add-one at) (drop-cons l at x inside) ∙ ap (λ (y : A). y ∷ drop (at + 1) l) (sym is)

    pub entry-unknown : f.body (f.kind x) ≡ 0 → entry_of f held (drop at l) ≡ Err no_such_kind
    unfolding entry_of
    entry-unknown e = rw (here, eq-eqb (f.body (f.kind x)) 0 e)

    pub entry-cut : (f.body (f.kind x) ≡ 0 → ⊥) → length (drop (at + 1) l) < f.body (f.kind x) → entry_of f held (drop at l) ≡ Err cut_short
    unfolding entry_of
    entry-cut h k = rw (here, ne_eqb (f.body (f.kind x)) 0 h, lt-ltb (length (drop (at + 1) l)) (f.body (f.kind x)) k)

    pub entry_whole : (n : ℕ) → n ≡ f.body (f.kind x) → (n ≡ 0 → ⊥) → n ≤ length (drop (at + 1) l)
        → entry_of f held (drop at l) ≡ ruled held (f.made (f.kind x) (drop (at + 1) l)) (n + 1)
    unfolding entry_of ruled
    entry_whole n e h k =
        let b = f.body (f.kind x) in
        rw (here, add-one n, e, ne_eqb b 0 (λ z. h (e ∙ z)), le-ltb (length (drop (at + 1) l)) b (omega arith))

  -- ---- what a record that was taken tells

  pub record TakenAt (x : A) (l : List A) (r : Record) (after size : ℕ) : Type 0 where
    pub known : f.body (f.kind x) ≡ 0 → ⊥
    pub whole : f.body (f.kind x) ≤ length l
    pub made : f.made (f.kind x) l ≡ r
    pub sound : Clear (faults held r)
    pub next : after ≡ held_after held r
    pub long : size ≡ suc (f.body (f.kind x))

  pub taken-told : (x : A) (l : List A) (r : Record) (after size : ℕ) → entry_of f held (x ∷ l) ≡ taken r after size → TakenAt x l r after size
  unfolding entry_of
  taken-told x l r after size h =
      let m = f.made (f.kind x) l in
      let answer : Result (Option Taken) Refusal = taken m (held_after held m) (suc (f.body (f.kind x))) in
      let told = unless-told Err (against f held x l) answer (taken r after size) (taken-apart r after size) h in
      let same = taken-same m r (held_after held m) after (suc (f.body (f.kind x))) size told.1 in
      record {
        known = eqb-false (f.body (f.kind x)) 0 told.0.0;
        whole = ltb-false (length l) (f.body (f.kind x)) told.0.1.0;
        made = same.0;
        sound = rw same.0 at told.0.1.1;
        next = sym same.1 ∙ ap (held_after held) same.0;
        long = sym same.2;
      }

  pub taken-size : (l : List A) (r : Record) (after size : ℕ) → entry_of f held l ≡ taken r after size → (0 < size) × (size ≤ length l)
  unfolding entry_of
  taken-size [] r after size h = absurd (end-apart r after size h)
  taken-size (x ∷ l) r after size h =
      let t = taken-told x l r after size h in
      (omega (arith, t.long), omega (arith, t.long, t.whole))

  -- ---- what stands for a record is taken as that record

  pub entry-spelled : (r : Record) (l m : List A) → Spells f r l → Clear (faults held r) → entry_of f held (l ++ m) ≡ taken r (held_after held r) (length l)
  unfolding entry_of
  entry-spelled r l m s clear =
      let x = s.head in
      let b = s.body in
      let n = f.body (f.kind x) in
      let fits : n ≤ length (b ++ m) = omega (arith, s.fixed, length-append b m) in
      let size : suc n ≡ length l = omega (arith, s.fixed, ap length s.is) in
      rw (s.is, ne_eqb n 0 (λ e. omega (arith, s.some, s.fixed)), le-ltb (length (b ++ m)) n fits, s.made m)
      (unless-clear Err (faults held r) (taken r (held_after held r) (suc n)) clear
      ∙ ap (taken r (held_after held r)) (omega (arith, s.fixed)))
