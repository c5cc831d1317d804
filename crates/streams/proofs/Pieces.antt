-- Pieces put on a sheet one behind the other.
-- Assumes nothing.
use Prim.Native.Nat.{ℕ, ◌+◌, ◌≤◌}
use mathlib.Core.Path.{◌≡◌, refl, sym, ap, ◌∙◌}
use mathlib.Core.List.{List, [], ◌∷◌, ◌++◌, append_assoc, append-nil}
use native.Mathlib.Omega.{arith}
use lib.ListN.{length, length-append}
use Rattle.streams.specs.Sheet.{Sheet, text_on, put_on}
use Rattle.streams.specs.Parting.{together}
use Rattle.streams.specs.Pieces.{all_on}
use Rattle.streams.proofs.Putting.{put_is}

-- some pieces, and the others behind them
pub all_append : (s : Sheet) (ps qs : List (List ℕ)) → all_on (all_on s ps) qs ≡ all_on s (ps ++ qs)
all_append s [] qs = refl
all_append s (t ∷ ps) qs = all_append (put_on s t) ps qs

-- ---- with room, each piece stands behind the one before it
pub pieces-stand : (s : Sheet) (ps : List (List ℕ)) → s.used + length (together ps) ≤ length s.bytes → text_on (all_on s ps) ≡ text_on s ++ together ps
unfolding together
pieces-stand s [] h = sym (append-nil (text_on s))
pieces-stand s (t ∷ ps) h =
    let n = length-append t (together ps) in
    let p = put_is s t (omega (arith, h, n)) in
    pieces-stand (put_on s t) ps (omega (arith, h, n, p.more, p.long))
    ∙ ap (λ z. z ++ together ps) p.is
    ∙ append_assoc (text_on s) t (together ps)

-- pieces joined
pub together-append : (ps qs : List (List ℕ)) → together (ps ++ qs) ≡ together ps ++ together qs
unfolding together
together-append [] qs = refl
together-append (t ∷ ps) qs = ap (λ z. t ++ z) (together-append ps qs) ∙ sym (append_assoc t (together ps) (together qs))
