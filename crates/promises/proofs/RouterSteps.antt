-- Steps of the router's tests, one at a time: a copy that grows, a length, the shards between two numbers, a directory in order.
-- Assumes nothing.
use Rattle.std.specs.Prelude.{ℕ, suc, ◌+◌, ◌≤◌, ◌<◌, ◌≡◌, List, [], ◌∷◌, Bool, true, false, cond, not, ◌&&◌, ltb, leb, length, get_or, set, drop, replicate, ℤ, Result}
use Rattle.std.proofs.Common.{sym, ap, ◌∙◌, arith, add-one, lt-ltb, le-ltb, le-leb, drop_of_length-le, drop-cons}
use Rattle.std.proofs.lemmas.Bool.{lt-leb}
use Rattle.std.proofs.Math.IntN.{nat_abs}
use Rattle.std.proofs.lemmas.List.{length-replicate}
use Rattle.std.proofs.Math.Seq.{paste, paste-zero, paste-suc}
use Rattle.std.proofs.lemmas.List.Edits.{length-paste}
use Rattle.numbers.specs.Sign.{is_neg}
use Rattle.answers.specs.declared.Refusal.{Refusal}
use Rattle.answers.specs.Refusals.{most_count}
use Rattle.answers.specs.Order.{judged}
use Rattle.router.specs.declared.many.Directory.{Directory}
use Rattle.router.specs.Directory.{directory_when, in_order}
use Rattle.router.specs.Found.{shards}
use Rattle.router.specs.Halving.{halved, halved_span}
use Rattle.router.specs.Query.{is_length}
use Rattle.router.specs.Tested.{copied, kept_of, directory_of}

-- ---- a copy of a list, number by number
pub copied_none : (l : List ℕ) → replicate 256 0 ≡ copied 0 l
unfolding copied
copied_none l = paste-zero (replicate 256 0) 0 l

pub copied-length : (n : ℕ) (l : List ℕ) → n ≤ 256 → n ≤ length l → length (copied n l) ≡ 256
unfolding copied
copied-length n l h k =
    let s : length (replicate {A = ℕ} 256 0) ≡ 256 = length-replicate {A = ℕ} 256 0 in
    length-paste (replicate 256 0) 0 l n (omega (arith, s)) k ∙ s

-- one more
pub copied_more : (n : ℕ) (l : List ℕ) → n < 256 → n < length l → set (copied n l) n (get_or l n 0) ≡ copied (n + 1) l
unfolding copied
copied_more n l h k =
    let s : length (replicate {A = ℕ} 256 0) ≡ 256 = length-replicate {A = ℕ} 256 0 in
    let z : 0 + n ≡ n = omega arith in
    ap (λ (m : ℕ). set (paste (replicate 256 0) 0 l n) m (get_or l n 0)) (sym z)
    ∙ paste-suc (replicate 256 0) 0 l n 0 (omega (arith, s)) k
    ∙ ap (λ (m : ℕ). paste (replicate 256 0) 0 l m) (sym (add-one n))

-- a directory by its parts
pub directory-is : (rate n : ℕ) (firsts ends : List ℕ) (v : Result (Unit {0}) Refusal) (a b : List ℕ)
    → v ≡ judged (directory_when rate firsts ends) → n ≡ length firsts → a ≡ kept_of firsts → b ≡ kept_of ends
    → ◌≡◌ {A = Directory} (record { verdict = v; rate = rate; shards = n; firsts = a; ends = b }) (directory_of rate firsts ends)
unfolding directory_of
directory-is rate n firsts ends v a b e m f g = rw (e, m, f, g)

-- ---- a length by sign and magnitude
pub length-below : (z : ℤ) → is_neg z ≡ true → false ≡ is_length z
length-below z e = sym (ap (λ (t : Bool). not t && leb (nat_abs z) most_count) e)

pub length-not : (z : ℤ) (m : ℕ) → is_neg z ≡ false → m ≡ nat_abs z → leb m most_count ≡ is_length z
length-not z m e h = ap (λ (n : ℕ). leb n most_count) h ∙ sym (ap (λ (t : Bool). not t && leb (nat_abs z) most_count) e)

-- ---- the shards as they are found
pub met-empty : (start end : ℕ) (firsts ends : List ℕ) → end ≤ start → shards 0 0 ≡ halved_span start end firsts ends
unfolding halved_span
met-empty start end firsts ends h = sym (rw (le-leb end start h))

module _ (start end v p q : ℕ) (firsts ends : List ℕ) (h : start < end) (one : v ≡ start + 1) (e : p ≡ halved v ends) (f : q ≡ halved end firsts) where
  lo-is : p ≡ halved (start + 1) ends
  lo-is = e ∙ ap (λ (n : ℕ). halved n ends) one

  pub met_some : p < q → shards p q ≡ halved_span start end firsts ends
  unfolding halved_span
  met_some k = rw (lt-leb end start h, ← lo-is, ← f, lt-ltb p q k)

  pub met-none : q ≤ p → shards 0 0 ≡ halved_span start end firsts ends
  unfolding halved_span
  met-none k = rw (lt-leb end start h, ← lo-is, ← f, le-ltb p q k)

-- ---- the test of a directory, shard by shard
order-at : (day low : ℕ) (firsts ends : List ℕ) (i : ℕ) → i < length firsts → length firsts ≡ length ends
    → in_order day low (drop i firsts) (drop i ends)
    ≡ cond (ltb (get_or firsts i 0) low) false
    (cond (leb (get_or ends i 0) (get_or firsts i 0)) false
    (cond (ltb day (get_or ends i 0)) false (in_order day (get_or ends i 0) (drop (i + 1) firsts) (drop (i + 1) ends))))
unfolding in_order
order-at day low firsts ends i h k =
    let p : drop i firsts ≡ get_or firsts i 0 ∷ drop (i + 1) firsts = rw (add-one i) (drop-cons firsts i 0 h) in
    let q : drop i ends ≡ get_or ends i 0 ∷ drop (i + 1) ends = rw (add-one i) (drop-cons ends i 0 (omega arith)) in
    rw (p, q)

-- a shard fails in one of three ways, or the rest decides
module _ (day low : ℕ) (firsts ends : List ℕ) (i : ℕ) (h : i < length firsts) (k : length firsts ≡ length ends) where
  pub order-low : get_or firsts i 0 < low → false ≡ in_order day low (drop i firsts) (drop i ends)
  order-low a = sym (order-at day low firsts ends i h k ∙ rw (lt-ltb (get_or firsts i 0) low a))

  pub order-empty : low ≤ get_or firsts i 0 → get_or ends i 0 ≤ get_or firsts i 0 → false ≡ in_order day low (drop i firsts) (drop i ends)
  order-empty a b = sym (order-at day low firsts ends i h k ∙ rw (le-ltb (get_or firsts i 0) low a, le-leb (get_or ends i 0) (get_or firsts i 0) b))

  pub order-past : low ≤ get_or firsts i 0 → get_or firsts i 0 < get_or ends i 0 → day < get_or ends i 0 → false ≡ in_order day low (drop i firsts) (drop i ends)
  order-past a b c =
      sym (order-at day low firsts ends i h k
      ∙ rw (le-ltb (get_or firsts i 0) low a, lt-leb (get_or ends i 0) (get_or firsts i 0) b, lt-ltb day (get_or ends i 0) c))

  pub order-on : low ≤ get_or firsts i 0 → get_or firsts i 0 < get_or ends i 0 → get_or ends i 0 ≤ day
      → in_order day low (drop i firsts) (drop i ends) ≡ in_order day (get_or ends i 0) (drop (i + 1) firsts) (drop (i + 1) ends)
  order-on a b c =
      order-at day low firsts ends i h k
      ∙ rw (le-ltb (get_or firsts i 0) low a, lt-leb (get_or ends i 0) (get_or firsts i 0) b, le-ltb day (get_or ends i 0) c)

pub order-end : (day low : ℕ) (firsts ends : List ℕ) (i : ℕ) → length firsts ≤ i → length firsts ≡ length ends
    → in_order day low (drop i firsts) (drop i ends) ≡ true
unfolding in_order
order-end day low firsts ends i h k = rw (drop_of_length-le firsts {i = i} h, drop_of_length-le ends {i = i} (omega arith))
