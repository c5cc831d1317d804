-- What a list gives, by how its records are spelt: its records, or the earliest one at fault; along the reader's own recursion, and back along the
-- grammar's. Once, for every layout and every spelling that it reads.
-- Assumes nothing.
use Rattle.shot_lists.specs.declared.records.Taken.{Taken}
use Prim.Native.Nat.{ℕ, zero, suc, ◌-◌, ◌<◌}
use mathlib.Core.Path.{◌≡◌, refl, sym, ap, ◌∙◌, subst}
use mathlib.Core.Logic.{◌↔◌}
use mathlib.Core.List.{List, [], ◌∷◌, ◌++◌, append_assoc, append-nil}
use native.Mathlib.Omega.{arith}
use lib.ListN.{take, drop, take-append-drop}
use Rattle.answers.specs.declared.Refusal.{Refusal}
use Rattle.shot_lists.specs.declared.records.Record.{Record}
use Rattle.std.specs.Prelude.{Some, None, Ok, Err, Option, Result}
use Rattle.shot_lists.specs.Records.{held_after, Sound, held_behind}
use Rattle.shot_lists.specs.Grammar.{OneByOne, none, more}
use Rattle.shot_lists.specs.Entries.{Layout, entry_of, taken}
use Rattle.shot_lists.specs.Reading.{Reading, AllOf, FaultOf, and_then, onward, read_from, read_of}
use Rattle.shot_lists.specs.Laws.{taken-told, taken-size, end-only, Spells}
use Rattle.shot_lists.specs.Walk.{read-spelled, read-refused, read-end}
use Rattle.shot_lists.specs.Statements.{Earliest}

-- ---- records, and what is read behind them

abbrev pub all_then : List Record → Reading → Reading
all_then [] later = later
all_then (r ∷ rs) later = and_then r (all_then rs later)

all_none : (rs : List Record) → all_then rs (AllOf []) ≡ AllOf rs
all_none [] = refl
all_none (r ∷ rs) = ap (and_then r) (all_none rs)

all-fault : (rs : List Record) (e : Refusal) → all_then rs (FaultOf e) ≡ FaultOf e
all-fault [] e = refl
all-fault (r ∷ rs) e = ap (and_then r) (all-fault rs e)

-- a part in front and what is left
split : {A : Type 0} (n : ℕ) (x : A) (l : List A) → 0 < n → take n (x ∷ l) ++ drop (n - 1) l ≡ x ∷ l
split zero x l h = absurd (omega arith)
split (suc n) x l h =
    let e : suc n - 1 ≡ n = omega arith in
    ap (λ (k : ℕ). x ∷ (take n l ++ drop k l)) e ∙ ap (λ m. x ∷ m) (take-append-drop n l)

-- ---- a layout, a spelling that it reads, and lists whose records it reads in no other

module _ {A : Type 0} (f : Layout A) (Spelt : Record → List A → Type 0) (spells : (r : Record) (l : List A) → Spelt r l → Spells f r l)
    (Fine : List A → Type 0) (later : (x : A) (l : List A) → Fine (x ∷ l) → Fine l)
    (taken-spelt : (held : ℕ) (x : A) (l : List A) (r : Record) (after size : ℕ) → Fine (x ∷ l) → entry_of f held (x ∷ l) ≡ taken r after size
    → Spelt r (take size (x ∷ l))) where
  -- what was read tells of the list; the rate held in front of it is any
  record FaultIn (held : ℕ) (l : List A) (e : Refusal) : Type 0 where
    before : List Record
    front : List A
    rest : List A
    parts : l ≡ front ++ rest
    good : OneByOne Spelt before front
    sound : Sound held before
    fault : entry_of f (held_behind held before) rest ≡ Err e

  abbrev Told : (held : ℕ) → Reading → List A → Type 0
  Told held (AllOf rs) l = OneByOne Spelt rs l × Sound held rs
  Told held (FaultOf e) l = FaultIn held l e

  -- the record in front of what is told of the rest
  module _ (held : ℕ) (x : A) (l : List A) (r : Record) (after size : ℕ) (h : entry_of f held (x ∷ l) ≡ taken r after size) (ok : Fine (x ∷ l)) where
    part : List A
    part = take size (x ∷ l)

    spelt : Spelt r part
    unfolding part
    spelt = taken-spelt held x l r after size ok h

    apart : part ++ drop (size - 1) l ≡ x ∷ l
    unfolding part
    apart = split size x l (taken-size f held (x ∷ l) r after size h).0

    told_more : (rest : Reading) → Told after rest (drop (size - 1) l) → Told held (and_then r rest) (x ∷ l)
    told_more (AllOf rs) told =
        let t = taken-told f held x l r after size h in (
          subst (OneByOne Spelt (r ∷ rs)) apart (more r part rs (drop (size - 1) l) spelt told.0),
          (t.sound, subst (λ (a : ℕ). Sound a rs) t.next told.1),
        )
    told_more (FaultOf e) told =
        let t = taken-told f held x l r after size h in
        record {
          before = r ∷ told.before;
          front = part ++ told.front;
          rest = told.rest;
          parts = sym apart ∙ ap (λ (m : List A). part ++ m) told.parts ∙ sym (append_assoc part told.front told.rest);
          good = more r part told.before told.front spelt told.good;
          sound = (t.sound, subst (λ (a : ℕ). Sound a told.before) t.next told.sound);
          fault = subst (λ (a : ℕ). entry_of f (held_behind a told.before) told.rest ≡ Err e) t.next told.fault;
        }

  told-by : (held : ℕ) (x : A) (l : List A) (found : Result (Option Taken) Refusal) → entry_of f held (x ∷ l) ≡ found → Fine (x ∷ l)
      → ((skip after : ℕ) → Told after (read_from f skip after l) (drop skip l))
      → Told held (onward found (λ after size. read_from f (size - 1) after l)) (x ∷ l)
  told-by held x l (Ok (Some t)) h ok rest = told_more held x l t.found t.held t.size h ok (read_from f (t.size - 1) t.held l) (rest (t.size - 1) t.held)
  told-by held x l (Err e) h ok rest =
      record { before = []; front = []; rest = x ∷ l; parts = refl; good = none; sound = tt; fault = h }
  told-by held x l (Ok None) h ok rest =
      let empty = end-only f held (x ∷ l) h in
      let clash : ◌≡◌ {A = ℕ} 0 1 = cc in absurd (omega arith)

  told : (skip held : ℕ) (l : List A) → Fine l → Told held (read_from f skip held l) (drop skip l)
  unfolding read_from
  told zero held [] ok = (none, tt)
  told (suc skip) held [] ok = (none, tt)
  told (suc skip) held (x ∷ l) ok = told skip held l (later x l ok)
  told zero held (x ∷ l) ok = told-by held x l (entry_of f held (x ∷ l)) refl ok (λ skip after. told skip after l (later x l ok))

  -- ---- and back: what is spelt so is read, before whatever comes behind it

  read-front : (held : ℕ) (rs : List Record) (l m : List A) → OneByOne Spelt rs l → Sound held rs
      → read_from f 0 held (l ++ m) ≡ all_then rs (read_from f 0 (held_behind held rs) m)
  read-front held rs l m none sound = refl
  read-front held rs l m (more r part rs₂ behind spelt rest) sound =
      ap (read_from f 0 held) (append_assoc part behind m)
      ∙ read-spelled f held r part (behind ++ m) (spells r part spelt) sound.0
      ∙ ap (and_then r) (read-front (held_after held r) rs₂ behind m rest sound.1)

  pub exactly : (l : List A) (rs : List Record) → Fine l → (read_of f l ≡ AllOf rs) ↔ (OneByOne Spelt rs l × Sound 0 rs)
  exactly l rs ok = (
    λ e. subst (λ (t : Reading). Told 0 t l) e (told 0 0 l ok),
    λ p.
        ap (read_of f) (sym (append-nil l))
        ∙ read-front 0 rs l [] p.0 p.1
        ∙ ap (all_then rs) (read-end f 0 (held_behind 0 rs))
        ∙ all_none rs,
  )

  pub refused : (l : List A) (e : Refusal) → Fine l → (read_of f l ≡ FaultOf e) ↔ Earliest f (OneByOne Spelt) l e
  refused l e ok = (
    λ h.
        let p : FaultIn 0 l e = subst (λ (t : Reading). Told 0 t l) h (told 0 0 l ok) in
        record { before = p.before; front = p.front; rest = p.rest; parts = p.parts; good = p.good; sound = p.sound; fault = p.fault },
    λ p.
        ap (read_of f) p.parts
        ∙ read-front 0 p.before p.front p.rest p.good p.sound
        ∙ ap (all_then p.before) (read-refused f (held_behind 0 p.before) p.rest e p.fault)
        ∙ all-fault p.before e,
  )
