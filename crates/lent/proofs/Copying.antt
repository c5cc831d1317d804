-- The loop of `put_text`: the bytes copied stand at the front of the part, and the others are as they were.
-- Assumes nothing.
use Prim.Native.Nat.{ℕ, suc, ◌+◌, ◌≤◌, ◌<◌}
use mathlib.Core.Path.{◌≡◌, sym, ◌∙◌}
use mathlib.Core.List.{List, ◌∷◌, ◌++◌, append_assoc}
use native.Mathlib.Omega.{arith}
use native.Mathlib.Numerals.{add-one}
use lib.ListN.{length, take, drop, set, get_or, length-set}
use lib.Seq.{drop-cons, take-suc, set_at, length-take-le, take-length}
use Rattle.lent.specs.Line.{front, laid}
use Rattle.lent.proofs.Laws.{laid_in}

-- i bytes of the text were copied to the part, l₀ before and l now
pub record Copying (text l₀ l : List ℕ) (i : ℕ) : Type 0 where
  pub room : length text ≤ length l₀
  pub within : i ≤ length text
  pub long : length l ≡ length l₀
  pub is : l ≡ take i text ++ drop i l₀

pub copying-turn : (text l₀ l : List ℕ) (i : ℕ) → Copying text l₀ l i → i < length text
    → Copying text l₀ (set l i (get_or text i 0)) (i + 1)
copying-turn text l₀ l i s h =
    let n : length (take i text) ≡ i = length-take-le i text (omega arith) in
    let d : drop i l₀ ≡ get_or l₀ i 0 ∷ drop (suc i) l₀ = drop-cons l₀ i 0 (omega arith) in
    record {
      room = s.room;
      within = omega arith;
      long = simp length-set s.long;
      is = rw (s.is, d, set_at (take i text) (get_or l₀ i 0) (drop (suc i) l₀) (get_or text i 0) i n, add-one, take-suc text i 0 h, append_assoc);
    }

pub copying-done : (text l₀ l : List ℕ) (i : ℕ) → Copying text l₀ l i → length text ≤ i → l ≡ laid l₀ text
unfolding front
copying-done text l₀ l i s h =
    let e : i ≡ length text = omega arith in
    let whole : l ≡ front l₀ text = s.is ∙ rw (e, take-length) in
    whole ∙ sym (laid_in l₀ text s.room)
