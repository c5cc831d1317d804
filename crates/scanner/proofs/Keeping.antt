-- What is found from the first field on is what was kept so far, and what is found from the cursor on.
-- Assumes nothing.
use Rattle.std.specs.Prelude.{Some, None, Result, Ok, Err}
use Prim.Native.Nat.{ℕ, suc, ◌+◌, ◌-◌, ◌≤◌, ◌<◌}
use mathlib.Core.Path.{◌≡◌, sym, ap, ◌∙◌}
use mathlib.Core.List.{List, [], ◌++◌, map}
use native.Mathlib.Omega.{arith}
use native.Mathlib.Nat.{add-zero, zero-add}
use lib.ListN.{length, drop}
use Rattle.digits.specs.Digits.{field_value, leading}
use Rattle.digits.proofs.Runs.{leading_length}
use Rattle.scanner.specs.declared.cursor.Cursor.{Cursor}
use Rattle.scanner.specs.declared.cursor.Field.{Field}
use Rattle.scanner.specs.declared.fields.Dividers.{Dividers}
use Rattle.scanner.specs.declared.fields.Scanned.{Scanned}
use Rattle.scanner.specs.declared.text.Misfit.{Misfit}
use Rattle.scanner.specs.declared.text.Misfit.TheVariants.{NoShape}
use Rattle.scanner.specs.Then.{only_if}
use Rattle.scanner.specs.Long.{is_over, placed, first_long, or_long}
use Rattle.scanner.specs.Scan.{cursor, divider_of, looked_for, past_if, field_of}
use Rattle.scanner.specs.Fields.{Front, no_field, one_field, field_and, fields_in, none_taken, with_field, field_begun, fields_found}
use Rattle.scanner.proofs.Answers.{was-next}
use Rattle.scanner.proofs.Long.{or-next}
use Rattle.scanner.proofs.Justified.{shift-first}
use Rattle.scanner.proofs.Then.{field-none, field-some, byte-other, byte_next}
use Rattle.scanner.proofs.Fronts.{goes_on, fields-suc}

-- a field d at a place
abbrev field_is : (at : ℕ) (d : List ℕ) → Field
field_is at d = record { value = field_value d; count = length d; next = cursor (at + length d) }

-- what was kept, and then these
abbrev joined : Scanned → Front → Result Scanned Misfit
joined s f =
    only_if f.found (s.next.at + f.taken)
    (Ok
    (record {
      long = or_long s.long (first_long (placed (λ place. []) s.next.at f.fields));
      count = s.count + length f.fields;
      values = drop (length (map field_value f.fields)) (s.values ++ map field_value f.fields);
      next = cursor (s.next.at + f.taken);
    }))

joined-none : (s : Scanned) → joined s no_field ≡ Err (NoShape s.next.at)
joined-none s = rw (add-zero s.next.at)

-- a field d that was kept as f
module _ (s : Scanned) (f : Field) (d : List ℕ) (is : f ≡ field_is s.next.at d) where
  joined-one : joined s (one_field d) ≡ Ok (with_field s f)
  joined-one = rw is

  joined-and : (next : Cursor) (o : Front) → next ≡ cursor (f.next.at + 1) → joined s (field_and d o) ≡ joined (field_begun (with_field s f) next) o
  joined-and next o p =
      let count : s.count + suc (length o.fields) ≡ s.count + 1 + length o.fields = omega arith in
      let at : s.next.at + (length d + suc o.taken) ≡ s.next.at + length d + 1 + o.taken = omega arith in
      let later = s.next.at + length d + 1 in
      let long = or-next s.long (is_over 9 (length d)) s.next.at (first_long (placed (λ place. []) later o.fields)) in
      rw (p, is, long, count, shift-first s.values (field_value d) (map field_value o.fields), at)

-- ---- the loop
pub record Keeping (d : Dividers) (most : ℕ) (text : List ℕ) (at : ℕ) (s : Scanned) (left : ℕ) : Type 0 where
  pub same : fields_found d most text at ≡ joined s (fields_in d left (drop s.next.at text))
  pub room : s.count + left ≡ most

pub keeping_start : (d : Dividers) (most : ℕ) (text : List ℕ) (first : Cursor) (s : Scanned) → s ≡ none_taken first
    → Keeping d most text first.at s most
unfolding fields_found
keeping_start d most text first s e =
    rw e record { same = rw (zero-add (length (fields_in d most (drop first.at text)).fields)); room = omega arith }

module _ (d : Dividers) (most : ℕ) (text : List ℕ) (at : ℕ) (s : Scanned) (left : ℕ) (k : Keeping d most text at s left) where
  -- nothing more may come
  pub keeping-over : left ≤ 0 → fields_found d most text at ≡ Err (NoShape s.next.at)
  unfolding fields_in
  keeping-over h =
      let z : left ≡ 0 = omega arith in
      k.same ∙ ap (λ (n : ℕ). joined s (fields_in d n (drop s.next.at text))) z ∙ joined-none s

  module _ (some : 0 < left) (f : Field) (is : f ≡ field_of s.next.at (drop s.next.at text)) where
    next-fields : fields_found d most text at ≡ joined s (fields_in d (suc (left - 1)) (drop s.next.at text))
    next-fields = let e : left ≡ suc (left - 1) = omega arith in k.same ∙ ap (λ (n : ℕ). joined s (fields_in d n (drop s.next.at text))) e

    -- no field stands at the cursor
    pub keeping-missing : f.count ≡ 0 → fields_found d most text at ≡ Err (NoShape s.next.at)
    keeping-missing e =
        next-fields
        ∙ ap (joined s) (fields-suc d (left - 1) (drop s.next.at text) ∙ field-none no_field (goes_on d (left - 1)) text s.next.at f is e)
        ∙ joined-none s

    -- a field, which is kept
    module _ (found : f.count ≡ 0 → ⊥) (t : Scanned) (kept : t ≡ with_field s f) where
      abbrev field : List ℕ
      field = leading (drop s.next.at text)

      field_is_lem : f ≡ field_is s.next.at field
      unfolding field_of
      field_is_lem = is ∙ rw (leading_length (drop s.next.at text))

      after-field : fields_found d most text at ≡ joined s (goes_on d (left - 1) field (drop t.next.at text))
      after-field =
          next-fields
          ∙ ap (joined s) (fields-suc d (left - 1) (drop s.next.at text) ∙ field-some no_field (goes_on d (left - 1)) text s.next.at f is found)
          ∙ ap (λ (x : Scanned). joined s (goes_on d (left - 1) field (drop x.next.at text))) (sym kept)

      -- no divider stands behind it
      pub keeping-last : None ≡ past_if (looked_for (left - 1) (divider_of d)) t.next.at (drop t.next.at text) → fields_found d most text at ≡ Ok t
      keeping-last e =
          after-field
          ∙ ap (joined s)
          (byte-other (looked_for (left - 1) (divider_of d)) (one_field field) (λ rest. field_and field (fields_in d (left - 1) rest))
          t.next.at (drop t.next.at text) e)
          ∙ joined-one s f field field_is_lem
          ∙ ap Ok (sym kept)

      -- a divider stands behind it, and a field is begun
      pub keeping-turn : (next : Cursor) → Some next ≡ past_if (looked_for (left - 1) (divider_of d)) t.next.at (drop t.next.at text)
          → (u : Scanned) → u ≡ field_begun t next → Keeping d most text at u (left - 1)
      keeping-turn next e u begins =
          let w = (was-next (looked_for (left - 1) (divider_of d)) t.next.at (drop t.next.at text) next e).1 in
          rw (begins, kept) record {
            same =
                after-field
                ∙ ap (joined s)
                (byte_next (looked_for (left - 1) (divider_of d)) (one_field field) (λ rest. field_and field (fields_in d (left - 1) rest))
                text t.next.at next e)
                ∙ joined-and s f field field_is_lem next (fields_in d (left - 1) (drop next.at text)) (w ∙ ap (λ (x : Scanned). cursor (x.next.at + 1)) kept);
            room = omega (arith, k.room);
          }
