-- A record and its bytes: a body of the grammar is read as its record, whatever stands behind it, and what is read is a body of the grammar.
-- Assumes nothing.
use Prim.Native.Nat.{ℕ, ◌≤◌, ◌<◌}
use mathlib.Core.Path.{◌≡◌, refl, sym, ap, ap₂, ◌∙◌, subst}
use mathlib.Core.List.{List, ◌∷◌, ◌++◌, append_assoc}
use mathlib.Core.Bool.{Bool, true, false, cond}
use native.Mathlib.Omega.{arith}
use borrow.Author.Tests.{eqb-true}
use lib.Dec.{eqb}
use lib.ListN.{length, take, drop, length-append, length-drop}
use lib.Seq.{take_at, drop_at, take-add, length-take-le}
use Rattle.low_bytes.specs.LowBytes.{Bytes, worth, signed_of}
use Rattle.low_bytes.specs.Laws.{bytes_take, bytes_drop}
use Rattle.low_bytes.proofs.Statements.{unsigned_one, signed_one}
use Rattle.shot_lists.specs.declared.records.Record.{Record}
use Rattle.shot_lists.specs.declared.records.Record.TheVariants.{Rate, Shot, Reel}
use Rattle.shot_lists.specs.Grammar.{kind_byte, BodyOf, OneOnDisk}
use Rattle.shot_lists.specs.Entries.{body_fixed, of_kind, on_disk, entry_of, taken}
use Rattle.shot_lists.specs.Laws.{Spells, taken-told}
use Rattle.shot_lists.specs.Statements.{KindFixes}

pub kind_fixes : KindFixes
unfolding body_fixed
kind_fixes (Rate n) body u = u.long
kind_fixes (Shot first end) body f = omega (arith, ap length f.parts, length-append f.front f.back, f.starts.long, f.ends.long)
kind_fixes (Reel n) body u = u.long

-- ---- a body of the grammar is read as its record

frames-read : (low high m : List ℕ) → length low ≡ 4 → length high ≡ 4
    → (take 4 ((low ++ high) ++ m) ≡ low) × (take 4 (drop 4 ((low ++ high) ++ m)) ≡ high)
frames-read low high m e f =
    let apart = append_assoc low high m in (
      ap (take 4) apart ∙ take_at low (high ++ m) 4 e,
      ap (λ (l : List ℕ). take 4 (drop 4 l)) apart ∙ ap (take 4) (drop_at low (high ++ m) 4 e) ∙ take_at high m 4 f,
    )

pub made-back : (r : Record) (body : List ℕ) → BodyOf r body → (m : List ℕ) → on_disk.made (kind_byte r) (body ++ m) ≡ r
unfolding of_kind
made-back (Rate n) body u m = ap Rate (ap worth (take_at body m 1 u.long) ∙ u.is)
made-back (Shot first end) body f m =
    let read = frames-read f.front f.back m f.starts.long f.ends.long in
    rw (f.parts, read.0, read.1) (ap₂ Shot f.starts.is f.ends.is)
made-back (Reel n) body u m = ap Reel (ap worth (take_at body m 4 u.long) ∙ u.is)

pub body-some : (r : Record) → 0 < on_disk.body (kind_byte r)
unfolding body_fixed
body-some (Rate n) = omega arith
body-some (Shot first end) = omega arith
body-some (Reel n) = omega arith

pub disk-spells : (r : Record) (part : List ℕ) → OneOnDisk r part → Spells on_disk r part
disk-spells r part one =
    let long = kind_fixes r one.body one.of in
    record {
      head = kind_byte r;
      body = one.body;
      is = one.is;
      fixed = sym long;
      some = omega (arith, body-some r);
      made = made-back r one.body one.of;
    }

-- ---- and has one form

pub body-one : (r : Record) (b c : List ℕ) → BodyOf r b → BodyOf r c → b ≡ c
body-one (Rate n) b c u v = (unsigned_one 1 n b u).0 ∙ sym (unsigned_one 1 n c v).0
body-one (Shot first end) b c f g =
    f.parts
    ∙ ap₂ ◌++◌
    ((signed_one 4 first f.front f.starts).0 ∙ sym (signed_one 4 first g.front g.starts).0)
    ((signed_one 4 end f.back f.ends).0 ∙ sym (signed_one 4 end g.back g.ends).0)
    ∙ sym g.parts
body-one (Reel n) b c u v = (unsigned_one 4 n b u).0 ∙ sym (unsigned_one 4 n c v).0

-- ---- what is read is a body of the grammar

module _ (k : ℕ) (l : List ℕ) (bytes : Bytes l) where
  abbrev there : Record → ℕ → Type 0
  there r n = (k ≡ kind_byte r) × BodyOf r (take n l)

  there-by : (p q s : Bool) → eqb k 1 ≡ p → eqb k 2 ≡ q → eqb k 3 ≡ s → (◌≡◌ {A = ℕ} (cond p 1 (cond q 8 (cond s 4 0))) 0 → ⊥)
      → cond p 1 (cond q 8 (cond s 4 0)) ≤ length l
      → there
      (cond p (Rate (worth (take 1 l))) (cond q (Shot (signed_of 4 (worth (take 4 l))) (signed_of 4 (worth (take 4 (drop 4 l))))) (Reel (worth (take 4 l)))))
      (cond p 1 (cond q 8 (cond s 4 0)))
  there-by true q s e f g known room =
      (eqb-true k 1 e, record { long = length-take-le 1 l room; bytes = bytes_take 1 l bytes; is = refl })
  there-by false true s e f g known room = (
    eqb-true k 2 f,
    record {
      front = take 4 l;
      back = take 4 (drop 4 l);
      parts = take-add 4 4 l;
      starts = record { long = length-take-le 4 l (omega arith); bytes = bytes_take 4 l bytes; is = refl };
      ends =
          record {
            long = length-take-le 4 (drop 4 l) (omega (arith, length-drop 4 l));
            bytes = bytes_take 4 (drop 4 l) (bytes_drop 4 l bytes);
            is = refl;
          };
    },
  )
  there-by false false true e f g known room =
      (eqb-true k 3 g, record { long = length-take-le 4 l room; bytes = bytes_take 4 l bytes; is = refl })
  there-by false false false e f g known room = absurd (known refl)

  body-there : (on_disk.body k ≡ 0 → ⊥) → on_disk.body k ≤ length l → there (on_disk.made k l) (on_disk.body k)
  unfolding body_fixed of_kind
  body-there known room = there-by (eqb k 1) (eqb k 2) (eqb k 3) refl refl refl known room

  pub disk-spelt : (held : ℕ) (r : Record) (after size : ℕ) → entry_of on_disk held (k ∷ l) ≡ taken r after size → OneOnDisk r (take size (k ∷ l))
  disk-spelt held r after size h =
      let t = taken-told on_disk held k l r after size h in
      let stands : there r (on_disk.body k) = subst (λ (x : Record). there x (on_disk.body k)) t.made (body-there t.known t.whole) in
      record {
        body = take (on_disk.body k) l;
        is = ap (λ (n : ℕ). take n (k ∷ l)) t.long ∙ ap (λ (b : ℕ). b ∷ take (on_disk.body k) l) stands.0;
        of = stands.1;
      }
