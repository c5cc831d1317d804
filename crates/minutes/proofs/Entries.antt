-- The table as its rule makes it, step by step: each entry is `minute_start`. The code's constants are compared with it by computation.
-- Assumes nothing.
use mathlib.Core.Path.{◌≡◌, refl, sym, ◌∙◌, ap}
use mathlib.Core.List.{List, [], ◌∷◌}
use Prim.Native.Nat.{ℕ, zero, suc, ◌+◌, ◌<◌}
use native.Mathlib.Nat.{add-zero, zero-add, add-suc, suc-add}
use native.Mathlib.Omega.{arith}
use lib.ListN.{get_or}
use Rattle.minutes.specs.Minutes.{step_after, minute_start}

-- n entries from that of a minute on, which is x
unfoldable pub entries : (n minute x : ℕ) → List ℕ
entries zero minute x = []
entries (suc n) minute x = x ∷ entries n (suc minute) (x + step_after minute)

entry-from :
    (n minute x : ℕ) → x ≡ minute_start minute
    → (i : ℕ) → i < n → get_or (entries n minute x) i 0 ≡ minute_start (minute + i)
unfolding entries minute_start
entry-from zero minute x e i h = absurd (omega arith)
entry-from (suc n) minute x e zero h = e ∙ ap minute_start (sym (add-zero minute))
entry-from (suc n) minute x e (suc i) h =
    entry-from n (suc minute) (x + step_after minute) (ap (λ y. y + step_after minute) e) i (omega arith)
    ∙ ap minute_start (suc-add minute i ∙ sym (add-suc minute i))

pub entry-is : (n minute : ℕ) → minute < n → get_or (entries n 0 0) minute 0 ≡ minute_start minute
unfolding minute_start
entry-is n minute h = entry-from n 0 0 refl minute h ∙ ap minute_start (zero-add minute)
