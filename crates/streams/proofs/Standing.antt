-- What a buffer stands for: a line of any length, of which it keeps the first bytes.
-- Assumes nothing.
use Prim.Native.Nat.{ℕ, suc, ◌+◌, ◌≤◌, ◌<◌, min}
use mathlib.Core.Path.{◌≡◌, refl, sym, ap, ◌∙◌}
use mathlib.Core.List.{List, [], ◌∷◌, ◌++◌, map}
use mathlib.Core.Bool.{Bool, true, false, cond}
use native.Mathlib.Omega.{arith}
use native.Mathlib.Numerals.{add-one}
use lib.ListN.{length, take, set, length-set, length-append}
use lib.Dec.{eqb, ltb}
use lib.Seq.{take_all, take-append-le, take-suc-set}
use borrow.Author.Tests.{lt-ltb, le-ltb, ltb-true, ltb-false, ne_eqb}
use Rattle.streams.specs.declared.gathered.Gathered.{Gathered}
use Rattle.streams.specs.Parting.{behind, parted, last_line}
use Rattle.streams.specs.Gathering.{kept_of, kept_in, no_byte, is_empty, taken, buffer_taken, last_handed, handed}
use Rattle.streams.proofs.Gathering.{taken-room, taken-over, buffer-over}

-- a buffer of n bytes, for the bytes of a line that have come
pub record Stands (n : ℕ) (buffer : List ℕ) (g : Gathered) (held : List ℕ) : Type 0 where
  pub size : length buffer ≡ n
  pub len : g.len ≡ min (length held) n
  pub over : g.over ≡ ltb n (length held)
  pub kept : take g.len buffer ≡ take n held

pub stands-none : (n : ℕ) (buffer : List ℕ) → length buffer ≡ n → Stands n buffer no_byte []
stands-none n buffer e = record { size = e; len = omega arith; over = sym (le-ltb n 0 (omega arith)); kept = sym (take_all n [] (omega arith)) }

module _ (n : ℕ) (buffer : List ℕ) (g : Gathered) (held : List ℕ) (s : Stands n buffer g held) where
  -- one byte more
  pub stands-byte : (b : ℕ) → Stands n (buffer_taken buffer g b) (taken buffer g) (held ++ (b ∷ []))
  stands-byte b = by (ltb (length held) n) refl
    where
      by : (x : Bool) → ltb (length held) n ≡ x → Stands n (buffer_taken buffer g b) (taken buffer g) (held ++ (b ∷ []))
      by true e =
          let l : length held < n = ltb-true (length held) n e in
          let f : g.len < length buffer = omega (arith, s.len, s.size) in
          let m : length (held ++ (b ∷ [])) ≡ length held + 1 = length-append held (b ∷ []) in
          let k : take (g.len + 1) (set buffer g.len b) ≡ take n (held ++ (b ∷ [])) =
          rw (add-one, take-suc-set buffer g.len b f, s.kept, take_all n held (omega arith), take_all n (held ++ (b ∷ [])) (omega arith)) in
          rw (← taken-room buffer g b f) (record {
            size = length-set buffer g.len b ∙ s.size;
            len = omega (arith, s.len);
            over = s.over ∙ le-ltb n (length held) (omega arith) ∙ sym (le-ltb n (length (held ++ (b ∷ []))) (omega arith));
            kept = k;
          })
      by false e =
          let l : n ≤ length held = ltb-false (length held) n e in
          let f : length buffer ≤ g.len = omega (arith, s.len, s.size) in
          let m : length (held ++ (b ∷ [])) ≡ length held + 1 = length-append held (b ∷ []) in
          rw (← taken-over buffer g b f, ← buffer-over buffer g b f) (record {
            size = s.size;
            len = omega (arith, s.len);
            over = sym (lt-ltb n (length (held ++ (b ∷ []))) (omega arith));
            kept = s.kept ∙ sym (take-append-le n held (b ∷ []) l);
          })

  -- what the buffer has is what is kept of the line
  pub stands-kept : kept_in buffer g ≡ kept_of n held
  stands-kept =
      ap (λ z. record { bytes = z; over = g.over }) s.kept
      ∙ ap (λ z. record { bytes = take n held; over = z }) s.over

  -- no byte has come where the line has none
  pub stands-empty : is_empty g ≡ eqb (length held) 0
  stands-empty = by (ltb n (length held)) refl
    where
      by : (x : Bool) → ltb n (length held) ≡ x → is_empty g ≡ eqb (length held) 0
      by true e = rw (s.over, e) (sym (ne_eqb (length held) 0 (λ z. omega (arith, z, ltb-true n (length held) e))))
      by false e = let m : g.len ≡ length held = omega (arith, s.len, ltb-false n (length held) e) in rw (s.over, e, m)

last-is : (n : ℕ) (buffer : List ℕ) (g : Gathered) (held : List ℕ) → Stands n buffer g held → last_handed buffer g ≡ map (kept_of n) (last_line held)
last-is n buffer g [] s = rw (stands-empty n buffer g [] s)
last-is n buffer g (b ∷ l) s =
    let e : is_empty g ≡ false = stands-empty n buffer g (b ∷ l) s ∙ ne_eqb (suc (length l)) 0 (λ z. omega (arith, z)) in
    rw e (ap (λ z. z ∷ []) (stands-kept n buffer g (b ∷ l) s))

pub handed-is : (text : List ℕ) (n : ℕ) (buffer : List ℕ) (g : Gathered) (held : List ℕ) → Stands n buffer g held
    → handed buffer g text ≡ map (kept_of n) ((parted held text).done ++ last_line (parted held text).rest)
unfolding handed parted
handed-is [] n buffer g held s = last-is n buffer g held s
handed-is (b ∷ text) n buffer g held s =
    by (eqb b 10) refl (handed-is text n buffer no_byte [] (stands-none n buffer s.size))
    (handed-is text n (buffer_taken buffer g b) (taken buffer g) (held ++ (b ∷ [])) (stands-byte n buffer g held s b))
  where
    by : (x : Bool) → eqb b 10 ≡ x
        → handed buffer no_byte text ≡ map (kept_of n) ((parted [] text).done ++ last_line (parted [] text).rest)
        → handed (buffer_taken buffer g b) (taken buffer g) text
        ≡ map (kept_of n) ((parted (held ++ (b ∷ [])) text).done ++ last_line (parted (held ++ (b ∷ [])) text).rest)
        → cond x (kept_in buffer g ∷ handed buffer no_byte text) (handed (buffer_taken buffer g b) (taken buffer g) text)
        ≡ map (kept_of n)
        (let p = cond x (behind (held ∷ []) (parted [] text)) (parted (held ++ (b ∷ [])) text) in p.done ++ last_line p.rest)
    by true e y z = ap (λ k. k ∷ handed buffer no_byte text) (stands-kept n buffer g held s) ∙ ap (λ k. kept_of n held ∷ k) y
    by false e y z = z
