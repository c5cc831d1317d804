-- The lines of the input, tied to the contract of `gather`: calls of it, one behind the other, each with what its contract allows.
-- Assumes nothing.
use Prim.Native.Nat.{ℕ, suc, ◌-◌, ◌≤◌}
use mathlib.Core.Path.{◌≡◌, refl, sym, ap, ◌∙◌}
use mathlib.Core.List.{List, [], ◌∷◌, ◌++◌, map}
use mathlib.Core.Bool.{Bool, true, false, cond}
use native.Mathlib.Omega.{arith}
use lib.Dec.{eqb}
use lib.ListN.{length, take, drop}
use denote.Triple.Entry.{Args}
use Rattle.outcomes.specs.Outcome.{Times, Outcome, Allowed}
use Rattle.streams.specs.declared.gathered.Gathered.{Gathered}
use Rattle.streams.specs.declared.gathered.Step.{Step}
use Rattle.streams.specs.Lines.{Lines}
use Rattle.streams.specs.Gathering.{Kept, kept_of, kept_in, no_byte, taken, buffer_taken, Gathering, gathering, gather_from, last_handed, handed}
use Rattle.streams.proofs.Gathering.{next_le}
use Rattle.streams.proofs.Statements.{lines_handed}
use Rattle.streams.specs.contracts.gathered.gather as gather
use Rattle.streams.proofs.gathered.gather.Reads as gather-reads

-- the bytes of a chunk that a call took, from a place up to the next
abbrev pub bytes_taken : (chunk : List ℕ) (from next : ℕ) → List ℕ
bytes_taken chunk from next = take (next - from) (drop from chunk)

-- a buffer, what is gathered in it, the bytes that come, and what is handed over for them, line by line
pub data Flow : (buffer : List ℕ) → Gathered → (input : List ℕ) → (handed : List Kept) → Type 0 where
  -- the input ends
  ends : (buffer : List ℕ) (g : Gathered) → Flow buffer g [] (last_handed buffer g)
  -- a call of `gather` comes to a newline: the line is handed over, and the next begins
  line : (κs : Times gather.ended) (a : Args (gather.ended).signature κs) (x : Outcome gather.ended κs a) (input : List ℕ) (hs : List Kept)
      → Allowed gather.ended gather-reads.Learnt κs a x → x.0.ended ≡ true
      → Flow x.1.1.1.0 no_byte input hs
      → Flow a.1.1.0.now a.1.1.1.0 (bytes_taken a.0.now a.1.0 x.0.next ++ input)
      (kept_in x.1.1.1.0 x.0.gathered ∷ hs)
  -- or to the end of its chunk: the line goes on
  goes : (κs : Times gather.ended) (a : Args (gather.ended).signature κs) (x : Outcome gather.ended κs a) (input : List ℕ) (hs : List Kept)
      → Allowed gather.ended gather-reads.Learnt κs a x → x.0.ended ≡ false
      → Flow x.1.1.1.0 x.0.gathered input hs
      → Flow a.1.1.0.now a.1.1.1.0 (bytes_taken a.0.now a.1.0 x.0.next ++ input) hs

-- ---- what `gather` takes is what the definition hands over
-- what is handed over from a call on: the line that it ended, or nothing yet
abbrev from_call : Gathering → (input : List ℕ) → List Kept
from_call e input =
    cond e.step.ended
    (kept_in e.buffer e.step.gathered ∷ handed e.buffer no_byte input)
    (handed e.buffer e.step.gathered input)

call-is : (l : List ℕ) (i : ℕ) (buffer : List ℕ) (g : Gathered) (input : List ℕ)
    → let e = gather_from i buffer g l in handed buffer g (take (e.step.next - i) l ++ input) ≡ from_call e input
unfolding gather_from handed
call-is [] i buffer g input = let n : i - i ≡ 0 = omega arith in rw n
call-is (b ∷ l) i buffer g input =
    by (eqb b 10) refl (next_le l (suc i) (buffer_taken buffer g b) (taken buffer g)) (call-is l (suc i) (buffer_taken buffer g b) (taken buffer g) input)
  where
    more : Gathering
    more = gather_from (suc i) (buffer_taken buffer g b) (taken buffer g) l

    by : (x : Bool) → eqb b 10 ≡ x → suc i ≤ more.step.next
        → handed (buffer_taken buffer g b) (taken buffer g) (take (more.step.next - suc i) l ++ input) ≡ from_call more input
        → let e = cond {A = Gathering} x (gathering buffer g (suc i) true) more in
        handed buffer g (take (e.step.next - i) (b ∷ l) ++ input) ≡ from_call e input
    by true e h ih = let n : suc i - i ≡ 1 = omega arith in rw (n, e)
    by false e h ih = let n : more.step.next - i ≡ suc (more.step.next - suc i) = omega arith in rw (n, e) ih

-- the same of an outcome that its contract allows
allowed-is : (chunk : List ℕ) (from : ℕ) (buffer : List ℕ) (g : Gathered) (input : List ℕ) (st : Step) (last : List ℕ)
    → (let e = gather_from from buffer g (drop from chunk) in (st ≡ e.step) × (last ≡ e.buffer))
    → handed buffer g (bytes_taken chunk from st.next ++ input) ≡ from_call (record { buffer = last; step = st }) input
allowed-is chunk from buffer g input st last p = rw (p.0, p.1) (call-is (drop from chunk) from buffer g input)

pub flow-is : (buffer : List ℕ) (g : Gathered) (input : List ℕ) (hs : List Kept) → Flow buffer g input hs → hs ≡ handed buffer g input
unfolding handed
flow-is _ _ _ _ (ends buffer g) = refl
flow-is _ _ _ _ (line κs a x input hs p t f) =
    ap (λ z. kept_in x.1.1.1.0 x.0.gathered ∷ z) (flow-is _ _ input hs f)
    ∙ sym (allowed-is a.0.now a.1.0 a.1.1.0.now a.1.1.1.0 input x.0 x.1.1.1.0 p ∙ rw t)
flow-is _ _ _ _ (goes κs a x input hs p t f) =
    flow-is _ _ input hs f
    ∙ sym (allowed-is a.0.now a.1.0 a.1.1.0.now a.1.1.1.0 input x.0 x.1.1.1.0 p ∙ rw t)

-- the lines of the input, in their order, and nothing else: of each its first bytes, as many as the buffer holds, and whether it has more
pub whole : (buffer input : List ℕ) (hs : List Kept) (ls : List (List ℕ)) → Flow buffer no_byte input hs → Lines input ls
    → hs ≡ map (kept_of (length buffer)) ls
whole buffer input hs ls f lines = flow-is buffer no_byte input hs f ∙ lines_handed buffer input ls lines
