-- A shot list put record by record: each goes on from what the one before it left, until none is left.
-- Assumes nothing.
use Rattle.std.specs.Prelude.{Ok, Err}
use Prim.Native.Nat.{ℕ, ◌+◌, ◌≤◌}
use mathlib.Core.Path.{◌≡◌, refl, sym, ap, ◌∙◌}
use mathlib.Core.List.{List, [], ◌∷◌}
use mathlib.Core.Bool.{true, false}
use native.Mathlib.Omega.{arith}
use lib.ListN.{length, drop}
use Rattle.answers.specs.declared.Refusal.{Refusal}
use Rattle.written.specs.Parts.{signed_text}
use Rattle.streams.specs.Sheet.{Sheet, put_on}
use Rattle.shot_lists.specs.declared.records.Record.{Record}
use Rattle.shot_lists.specs.Entries.{on_disk, entry_of, taken, over}
use Rattle.shot_lists.specs.Reading.{Reading, AllOf, FaultOf, and_then, read_of, is_faultless, checked_of}
use Rattle.shot_lists.specs.Walk.{Going, going-begin, going-turn, going-over, going_done, faultless-apart, faultless-begin, faultless-turn, faultless-never}
use Rattle.showing.specs.Each.{of_refusal}
use Rattle.showing.specs.Shown.{shown_on}
use Rattle.showing.specs.Lists.{record_on, records_on, reading_on, list_on}

-- ---- the loop over the records: what is wanted is what the sheet has with the records that are left
reading-more : (s s' : Sheet) (r : Record) (t : Reading) → record_on s r ≡ s' → true ≡ is_faultless t → reading_on s (and_then r t) ≡ reading_on s' t
unfolding records_on
reading-more s s' r (AllOf rs) e h = ap (λ z. records_on z rs) e
reading-more s s' r (FaultOf f) e h = faultless-apart h

pub record Underway (list : List ℕ) (s₀ s : Sheet) (at held : ℕ) : Type 0 where
  pub sound : Going on_disk list true is_faultless at held
  pub rest : Going on_disk list (reading_on s₀ (read_of on_disk list)) (reading_on s) at held

pub underway-begins : (list : List ℕ) (s : Sheet) → is_faultless (read_of on_disk list) ≡ true → Underway list s s 0 0
underway-begins list s h = record { sound = faultless-begin on_disk list h; rest = going-begin on_disk list (reading_on s) }

module _ (list : List ℕ) (s₀ s : Sheet) (at held : ℕ) (g : Underway list s₀ s at held) where
  pub underway-goes : (s' : Sheet) (r : Record) (after size : ℕ) → entry_of on_disk held (drop at list) ≡ taken r after size
      → s' ≡ record_on s r → Underway list s₀ s' (at + size) after
  underway-goes s' r after size h l =
      let sound = faultless-turn on_disk list at held r after size g.sound h in
      record {
        sound = sound;
        rest =
            going-turn on_disk list (reading_on s₀ (read_of on_disk list)) (reading_on s) (reading_on s') at held r after size g.rest h
            (λ t e. reading-more s s' r t (sym l) (sound.same ∙ ap is_faultless e));
      }

  -- none is refused
  pub underway-never : (e : Refusal) → entry_of on_disk held (drop at list) ≡ Err e → ⊥
  underway-never e h = faultless-never on_disk list at held e g.sound h

  pub underway-over : entry_of on_disk held (drop at list) ≡ over → s ≡ reading_on s₀ (read_of on_disk list)
  unfolding records_on
  underway-over h = sym (going-over on_disk list (reading_on s₀ (read_of on_disk list)) (reading_on s) at held g.rest h)

  pub underway-done : length list ≤ at → s ≡ reading_on s₀ (read_of on_disk list)
  unfolding records_on
  underway-done h = sym (going_done on_disk list (reading_on s₀ (read_of on_disk list)) (reading_on s) at held g.rest h)

-- ---- a list as a line
pub checked-faultless : (t : Reading) (n : ℕ) → checked_of t ≡ Ok n → is_faultless t ≡ true
checked-faultless (AllOf rs) n h = refl
checked-faultless (FaultOf e) n h = let clash : ◌≡◌ {A = ℕ} 0 1 = cc in absurd (omega arith)

pub list_all : (s : Sheet) (t : Reading) (n : ℕ) → checked_of t ≡ Ok n → put_on (reading_on (put_on s (signed_text false n)) t) (10 ∷ []) ≡ list_on s t
unfolding list_on
list_all s (AllOf rs) n h =
    let e : n ≡ length rs = cc in
    ap (λ z. put_on (records_on (put_on s (signed_text false z)) rs) (10 ∷ [])) e
list_all s (FaultOf e) n h = let clash : ◌≡◌ {A = ℕ} 0 1 = cc in absurd (omega arith)

pub list-fault : (s : Sheet) (t : Reading) (e : Refusal) → checked_of t ≡ Err e → shown_on s (of_refusal e) ≡ list_on s t
unfolding list_on
list-fault s (AllOf rs) e h = let clash : ◌≡◌ {A = ℕ} 0 1 = cc in absurd (omega arith)
list-fault s (FaultOf f) e h =
    let same : e ≡ f = cc in
    ap (λ z. shown_on s (of_refusal z)) same
