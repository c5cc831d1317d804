-- The loop of `number_at`: from the high byte down, what is summed up is what the bytes that were taken are worth.
-- Assumes nothing.
use Rattle.std.specs.Prelude.{ℕ, ◌+◌, ◌*◌, ◌≤◌, ◌<◌, ◌≡◌, List, [], ◌∷◌, ◌++◌, length, drop}
use Rattle.std.proofs.Math.Path.{refl, sym, ap}
use Rattle.std.proofs.Common.{◌∙◌, arith, append_assoc, append-nil, length-append}
use Rattle.std.proofs.lemmas.List.{drop_at}
use Rattle.low_bytes.specs.LowBytes.{Bytes, worth}
use Rattle.low_bytes.specs.Laws.{bytes_drop}
use Rattle.low_bytes.proofs.Worth.{worth-fits}

-- `rest` is left of the bytes m, and those behind it are worth n
pub record Summing (m rest : List ℕ) (n : ℕ) : Type 0 where
  pub done : List ℕ
  pub split : m ≡ rest ++ done
  pub is : n ≡ worth done

pub summing_start : (m : List ℕ) → Summing m m 0
unfolding worth
summing_start m = record { done = []; split = sym (append-nil m); is = refl }

module _ (m rest r : List ℕ) (n b : ℕ) (s : Summing m rest n) (e : rest ≡ r ++ (b ∷ [])) where
  split : m ≡ r ++ (b ∷ s.done)
  split = s.split ∙ rw e (append_assoc r (b ∷ []) s.done)

  sum : n * 256 + b ≡ worth (b ∷ s.done)
  unfolding worth
  sum = omega (arith, s.is)

  pub summing-turn : Summing m r (n * 256 + b)
  summing-turn = record { done = b ∷ s.done; split = split; is = sum }

  pub summing-fits : Bytes m → length m ≤ 8 → n * 256 + b < 18446744073709551616
  summing-fits bytes short =
      let behind : drop (length r) m ≡ b ∷ s.done = ap (drop (length r)) split ∙ drop_at r (b ∷ s.done) (length r) refl in
      let few : length (b ∷ s.done) ≤ 8 = omega (arith, ap length split, length-append r (b ∷ s.done)) in
      rw sum (worth-fits (b ∷ s.done) (rw behind at (bytes_drop (length r) m bytes)) few)

pub summing-done : (m rest : List ℕ) (n : ℕ) → Summing m rest n → length rest ≡ 0 → n ≡ worth m
summing-done m [] n s h = s.is ∙ sym (ap worth s.split)
summing-done m (b ∷ r) n s h = absurd (omega arith)
