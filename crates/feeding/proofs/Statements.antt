-- What is written for an input: the answers to its lines.
-- Assumes nothing.
use Prim.Native.Nat.{ℕ, ◌≤◌}
use mathlib.Core.Path.{◌≡◌, refl, sym, ap, subst, ◌∙◌}
use mathlib.Core.Logic.{inl, inr, ⊎_elim}
use mathlib.Core.List.{List, [], ◌++◌, append_assoc}
use native.Mathlib.Omega.{arith}
use lib.ListN.{length, take}
use Rattle.lines.specs.Output.{answer_text}
use Rattle.streams.specs.declared.gathered.Gathered.{Gathered}
use Rattle.streams.specs.Parting.{parted, last_line, lines_of, each}
use Rattle.streams.specs.Gathering.{no_byte}
use Rattle.streams.specs.Sheet.{text_on}
use Rattle.streams.proofs.Parting.{two_chunks, one_reading, each_append}
use Rattle.streams.proofs.Standing.{Stands, stands-none}
use Rattle.feeding.specs.Feeding.{begun, fed_of}
use Rattle.feeding.specs.Statements.{Writes, ends, goes, Answered, TakenWhole, StoppedFull}
use Rattle.feeding.proofs.Standing.{chunk-is, fed-length, finish-is, whole, stopped}

-- the answers to the lines of what comes, where `held` has come of the first one already
writes-is : (n : ℕ) (buffer out : List ℕ) (g : Gathered) (held input text : List ℕ) → 65 ≤ n → 47 ≤ length out → Stands n buffer g held
    → Writes buffer out g input text → text ≡ each answer_text ((parted held input).done ++ last_line (parted held input).rest)
unfolding parted
writes-is n _ _ _ held _ _ h r s (ends buffer out g) = finish-is n buffer out g held h r s
writes-is n _ _ _ held _ _ h r s (goes buffer out g chunk input text e p w) =
    let f = fed_of buffer out g chunk in
    let first = take f.eaten chunk in
    let one = parted held first in
    let c = chunk-is n buffer out g held chunk h s in
    let ih = writes-is n e.machine.buffer e.machine.sheet.bytes e.machine.gathered one.rest input text h
    (subst (λ z. 47 ≤ length z.machine.sheet.bytes) (sym p) (omega (arith, fed-length chunk 0 (begun buffer out g))))
    (subst (λ z. Stands n z.machine.buffer z.machine.gathered one.rest) (sym p) c.line)
    w in
    let two = parted one.rest input in
    ap (λ z. text_on z.machine.sheet ++ text) p
    ∙ ap (λ z. z ++ text) c.is
    ∙ ap (λ z. each answer_text one.done ++ z) ih
    ∙ sym (each_append answer_text one.done (two.done ++ last_line two.rest))
    ∙ ap (each answer_text) (sym (append_assoc one.done two.done (last_line two.rest)))
    ∙ ap (λ z. each answer_text (z.done ++ last_line z.rest)) (sym (two_chunks held first input))
    ∙ ap (λ z. let q = parted held (take z.eaten chunk ++ input) in each answer_text (q.done ++ last_line q.rest)) (sym p)

pub answered : Answered
unfolding lines_of
answered buffer out input text ls h r lines w =
    writes-is (length buffer) buffer out no_byte [] input text h r (stands-none (length buffer) buffer refl) w
    ∙ ap (each answer_text) (one_reading input ls lines)

pub taken_whole : TakenWhole
taken_whole buffer out g chunk h = whole chunk 0 (begun buffer out g) (omega arith) ∙ omega arith

pub stopped_full : StoppedFull
stopped_full buffer out g chunk =
    ⊎_elim (λ p. inl (p ∙ omega arith)) (λ p. inr p) (stopped chunk 0 (begun buffer out g))
