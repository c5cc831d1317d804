-- A copy of a list, number by number, gives the list back (BEHAVIOUR: Router).
-- Assumes nothing.
use Rattle.std.specs.Prelude.{ℕ, ◌+◌, ◌≤◌, min, ◌≡◌, List, length, take, drop, ◌++◌, replicate}
use Rattle.std.proofs.Common.{sym, ap, ◌∙◌, arith}
use Rattle.std.proofs.lemmas.List.{length-replicate}
use Rattle.std.proofs.Math.Seq.{paste, take-length}
use Rattle.std.proofs.lemmas.List.Edits.{take-paste}
use Rattle.router.specs.Tested.{copied, kept_of}

-- the front of a list that is copied, and the zeros behind it
pub copied-front : (n : ℕ) (l new : List ℕ) → new ≡ take n l → n ≡ min 256 (length l) → new ++ drop n (replicate 256 0) ≡ kept_of l
unfolding copied
copied-front n l new e m =
    let z : n ≡ 0 + n = omega arith in
    ap (λ (x : List ℕ). x ++ drop n (replicate 256 0)) e
    ∙ ap (λ (k : ℕ). take n l ++ drop k (replicate 256 0)) z
    ∙ ap (λ (k : ℕ). paste (replicate 256 0) 0 l k) m

-- the whole of a list that is not longer
pub kept_back : (l : List ℕ) → length l ≤ 256 → take (length l) (kept_of l) ≡ l
unfolding copied
kept_back l h =
    let s : length (replicate {A = ℕ} 256 0) ≡ 256 = length-replicate {A = ℕ} 256 0 in
    let m : min 256 (length l) ≡ length l = omega arith in
    let z : 0 + length l ≡ length l = omega arith in
    ap (λ (n : ℕ). take (length l) (paste (replicate 256 0) 0 l n)) m
    ∙ ap (λ (n : ℕ). take n (paste (replicate 256 0) 0 l (length l))) (sym z)
    ∙ take-paste (replicate 256 0) 0 l (length l) (omega (arith, s)) (omega arith)
    ∙ take-length l
