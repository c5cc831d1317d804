-- No bytes are two lists, and no list has two forms: record by record, from the front.
-- Assumes nothing.
use Prim.Native.Nat.{ℕ}
use mathlib.Core.Path.{◌≡◌, refl, sym, ap, ap₂, ◌∙◌, subst}
use mathlib.Core.List.{List, [], ◌∷◌, ◌++◌}
use native.Mathlib.Omega.{arith}
use lib.ListN.{length, drop}
use lib.Seq.{drop_at}
use Rattle.shot_lists.specs.declared.records.Record.{Record}
use Rattle.shot_lists.specs.Grammar.{none, more, kind_byte, BodyOf, OneOnDisk, OnDisk}
use Rattle.shot_lists.specs.Entries.{on_disk}
use Rattle.shot_lists.specs.Statements.{OneBytes}
use Rattle.shot_lists.proofs.Bodies.{kind_fixes, made-back, body-one}

head-same : (a b : ℕ) (l m : List ℕ) → a ∷ l ≡ b ∷ m → a ≡ b
head-same a b l m e = cc

tail-same : (a b : ℕ) (l m : List ℕ) → a ∷ l ≡ b ∷ m → l ≡ m
tail-same a b l m e = cc

-- two records with what stands behind them: the same bytes are the same record, and the same behind it
module _ (r s : Record) (b c l m : List ℕ) (of : BodyOf r b) (os : BodyOf s c) (e : kind_byte r ∷ (b ++ l) ≡ kind_byte s ∷ (c ++ m)) where
  kinds : kind_byte r ≡ kind_byte s
  kinds = head-same (kind_byte r) (kind_byte s) (b ++ l) (c ++ m) e

  tails : b ++ l ≡ c ++ m
  tails = tail-same (kind_byte r) (kind_byte s) (b ++ l) (c ++ m) e

  same-record : r ≡ s
  same-record =
      sym (made-back r b of l)
      ∙ ap₂ (λ (k : ℕ) (t : List ℕ). on_disk.made k t) kinds tails
      ∙ made-back s c os m

  same-behind : l ≡ m
  same-behind =
      let long : length b ≡ length c = kind_fixes r b of ∙ ap on_disk.body kinds ∙ sym (kind_fixes s c os) in
      sym (drop_at b l (length b) refl)
      ∙ ap (drop (length b)) tails
      ∙ ap (λ (n : ℕ). drop n (c ++ m)) long
      ∙ drop_at c m (length c) refl

-- the same of two parts of the grammar
alike : (r s : Record) (p q l m : List ℕ) → OneOnDisk r p → OneOnDisk s q → p ++ l ≡ q ++ m → (r ≡ s) × (l ≡ m)
alike r s p q l m one two e =
    let f = sym (ap (λ (x : List ℕ). x ++ l) one.is) ∙ e ∙ ap (λ (x : List ℕ). x ++ m) two.is in
    (same-record r s one.body two.body l m one.of two.of f, same-behind r s one.body two.body l m one.of two.of f)

part-some : (r : Record) (p l : List ℕ) → OneOnDisk r p → p ++ l ≡ [] → ⊥
part-some r p l one e = let f = sym (ap (λ (x : List ℕ). x ++ l) one.is) ∙ e in omega (arith, ap length f)

two-lists : (rs ss : List Record) (l m : List ℕ) → OnDisk rs l → OnDisk ss m → l ≡ m → rs ≡ ss
two-lists rs ss l m none none e = refl
two-lists rs ss l m none (more s q ss₂ behind two later) e = absurd (part-some s q behind two (sym e))
two-lists rs ss l m (more r p rs₂ behind one later) none e = absurd (part-some r p behind one e)
two-lists rs ss l m (more r p rs₂ behind one later) (more s q ss₂ behind₂ two later₂) e =
    let same = alike r s p q behind behind₂ one two e in
    ap₂ ◌∷◌ same.0 (two-lists rs₂ ss₂ behind behind₂ later later₂ same.1)

pub one_way : (l : List ℕ) (rs ss : List Record) → OnDisk rs l → OnDisk ss l → rs ≡ ss
one_way l rs ss p q = two-lists rs ss l l p q refl

-- ---- and the other way

record_same : (r s : Record) (rs ss : List Record) → r ∷ rs ≡ s ∷ ss → r ≡ s
record_same r s rs ss e = cc

records-same : (r s : Record) (rs ss : List Record) → r ∷ rs ≡ s ∷ ss → rs ≡ ss
records-same r s rs ss e = cc

part-one : (r s : Record) (p q : List ℕ) → OneOnDisk r p → OneOnDisk s q → r ≡ s → p ≡ q
part-one r s p q one two same =
    one.is
    ∙ ap₂ ◌∷◌ (ap kind_byte same) (body-one s one.body two.body (subst (λ (x : Record). BodyOf x one.body) same one.of) two.of)
    ∙ sym two.is

two-forms : (rs ss : List Record) (l m : List ℕ) → OnDisk rs l → OnDisk ss m → rs ≡ ss → l ≡ m
two-forms rs ss l m none none e = refl
two-forms rs ss l m none (more s q ss₂ behind two later) e = let z : ◌≡◌ {A = ℕ} 0 1 = cc in absurd (omega arith)
two-forms rs ss l m (more r p rs₂ behind one later) none e = let z : ◌≡◌ {A = ℕ} 0 1 = cc in absurd (omega arith)
two-forms rs ss l m (more r p rs₂ behind one later) (more s q ss₂ behind₂ two later₂) e =
    ap₂ ◌++◌ (part-one r s p q one two (record_same r s rs₂ ss₂ e)) (two-forms rs₂ ss₂ behind behind₂ later later₂ (records-same r s rs₂ ss₂ e))

pub one_bytes : OneBytes
one_bytes rs l m p q = two-forms rs rs l m p q refl
