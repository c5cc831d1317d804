-- The fold, byte by byte and chunk by chunk, and the grammar.
-- Assumes nothing.
use Prim.Native.Nat.{ℕ}
use mathlib.Core.Path.{◌≡◌, refl, sym, ap, ◌∙◌}
use mathlib.Core.List.{List, [], ◌∷◌, ◌++◌, append_assoc, append-nil}
use mathlib.Core.Bool.{Bool, true, false, cond}
use lib.Dec.{eqb}
use borrow.Author.Tests.{eqb-true, eqb-false, ne_eqb}
use Rattle.streams.specs.Lines.{Plain, none, more, Lines, nothing, last, line}
use Rattle.streams.specs.Parting.{Parted, behind, parted, parted_by, together, last_line, lines_of, each}

-- ---- the fold
pub parted-end : (held text : List ℕ) → parted held (10 ∷ text) ≡ behind (held ∷ []) (parted [] text)
unfolding parted
parted-end held text = refl

pub parted-byte : (held text : List ℕ) (b : ℕ) → (b ≡ 10 → ⊥) → parted held (b ∷ text) ≡ parted (held ++ (b ∷ [])) text
unfolding parted
parted-byte held text b n = rw (ne_eqb b 10 n)

two-by : (held a b : List ℕ) (x : ℕ) (t : Bool)
    → parted [] (a ++ b) ≡ behind (parted [] a).done (parted (parted [] a).rest b)
    → parted (held ++ (x ∷ [])) (a ++ b) ≡ behind (parted (held ++ (x ∷ [])) a).done (parted (parted (held ++ (x ∷ [])) a).rest b)
    → cond t (behind (held ∷ []) (parted [] (a ++ b))) (parted (held ++ (x ∷ [])) (a ++ b))
    ≡ (let p = cond t (behind (held ∷ []) (parted [] a)) (parted (held ++ (x ∷ [])) a) in behind p.done (parted p.rest b))
two-by held a b x true e f = ap (behind (held ∷ [])) e
two-by held a b x false e f = f

pub two_chunks : (held a b : List ℕ) → parted held (a ++ b) ≡ behind (parted held a).done (parted (parted held a).rest b)
unfolding parted
two_chunks held [] b = refl
two_chunks held (x ∷ a) b = two-by held a b x (eqb x 10) (two_chunks [] a b) (two_chunks (held ++ (x ∷ [])) a b)

pub any_chunks : (held : List ℕ) (chunks : List (List ℕ)) → parted_by held chunks ≡ parted held (together chunks)
unfolding parted_by together parted
any_chunks held [] = refl
any_chunks held (c ∷ chunks) =
    ap (behind (parted held c).done) (any_chunks (parted held c).rest chunks) ∙ sym (two_chunks held c (together chunks))

-- ---- answers
pub each_append : (answer : List ℕ → List ℕ) (a b : List (List ℕ)) → each answer (a ++ b) ≡ each answer a ++ each answer b
unfolding each
each_append answer [] b = refl
each_append answer (l ∷ a) b = ap (λ (t : List ℕ). answer l ++ t) (each_append answer a b) ∙ sym (append_assoc (answer l) (each answer a) (each answer b))

pub each-cons : (answer : List ℕ → List ℕ) (l : List ℕ) (ls : List (List ℕ)) → each answer (l ∷ ls) ≡ answer l ++ each answer ls
unfolding each
each-cons answer l ls = refl

-- ---- the grammar
-- a plain stretch is held
plain-held : {l : List ℕ} → Plain l → (held r : List ℕ) → parted held (l ++ r) ≡ parted (held ++ l) r
plain-held none held r = rw append-nil
plain-held (more {b} {l} n p) held r =
    parted-byte held (l ++ r) b n ∙ plain-held p (held ++ (b ∷ [])) r ∙ rw append_assoc

-- the lines, where some has come of the first
lines_from : Parted → List (List ℕ)
lines_from p = p.done ++ last_line p.rest

pub one_reading : (text : List ℕ) (ls : List (List ℕ)) → Lines text ls → lines_of text ≡ ls
unfolding lines_of parted lines_from
one_reading _ _ nothing = refl
one_reading _ _ (last {b} {l} p) = ap lines_from (ap (parted []) (sym (append-nil (b ∷ l))) ∙ plain-held p [] [])
one_reading _ _ (line {l} {r} {ls} p s) =
    ap lines_from (plain-held p [] (10 ∷ r) ∙ parted-end l r) ∙ ap (λ (z : List (List ℕ)). l ∷ z) (one_reading r ls s)

-- what comes behind a plain stretch that is held
plain-snoc : {l : List ℕ} → Plain l → (b : ℕ) → (b ≡ 10 → ⊥) → Plain (l ++ (b ∷ []))
plain-snoc none b n = more n none
plain-snoc (more m p) b n = more m (plain-snoc p b n)

last-plain : {l : List ℕ} → Plain l → Lines l (last_line l)
last-plain none = nothing
last-plain (more n p) = last (more n p)

found_from : (text held : List ℕ) → Plain held → Lines (held ++ text) (lines_from (parted held text))
unfolding lines_from parted
found_from [] held p = rw (append-nil held) (last-plain p)
found_from (b ∷ text) held p = found-by (eqb b 10) refl (found_from text [] none) (λ q. found_from text (held ++ (b ∷ [])) q)
  where
    found-by : (t : Bool) → eqb b 10 ≡ t → Lines text (lines_from (parted [] text))
        → (Plain (held ++ (b ∷ [])) → Lines (held ++ (b ∷ []) ++ text) (lines_from (parted (held ++ (b ∷ [])) text)))
        → Lines (held ++ (b ∷ text)) (lines_from (cond t (behind (held ∷ []) (parted [] text)) (parted (held ++ (b ∷ [])) text)))
    found-by true e x y = rw (eqb-true b 10 e) (line p x)
    found-by false e x y = rw append_assoc at (y (plain-snoc p b (eqb-false b 10 e)))

pub fold_finds : (text : List ℕ) → Lines text (lines_of text)
unfolding lines_of lines_from
fold_finds text = found_from text [] none
