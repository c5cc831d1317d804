-- `exports::TzqRead::from` meets its contract: each arm gives the numbers of its case.
-- Assumes nothing.
use Rattle.std.specs.Prelude.{Ok}
use Prim.Native.Nat.{ℕ}
use mathlib.Core.Path.{◌≡◌, sym, ap, ap₂, ◌∙◌}
use mathlib.Core.Bool.{Bool}
use lib.IntN.{ℤ}
use mir.Syntax.{w64}
use mir.Val.{to_z, of_z}
use Rattle.timecodes.specs.Kinds.{is_position}
use Rattle.exports.specs.declared.handed.TzqRead.{TzqRead}
use Rattle.exports.specs.Handed.{handed_read}
use borrow.Author.Rules.{rules}
use Rattle.exports.proofs.handed.TzqReadFromResultReadRefusal.from.Goals as goal

-- what was read, its place 0
abbrev read : (refused : ℕ) (count : ℤ) (format : ℕ) (position : Bool) → TzqRead
read refused count format position =
    record { refused = refused; count = count; format = format; place = 0; position = position }

pub returns-in-Ok-Label : goal.returns-in-Ok-Label
unfolding handed_read
returns-in-Ok-Label c =
    let inner = rw c.in-Ok-Label.is at c.in-Ok-Label.field-0-is in
    let back : to_z w64 (of_z w64 c.in-Ok-Label.tc.count) ≡ c.in-Ok-Label.tc.count = search rules in
    ap₂ (λ (z : ℤ) (b : Bool). read 0 z 0 b) back c.is_position.ensures
    ∙ sym (ap handed_read (c.in-Ok-Label.is ∙ ap Ok inner))

pub returns-in-Ok-Footage : goal.returns-in-Ok-Footage
unfolding handed_read
returns-in-Ok-Footage c =
    let inner = rw c.in-Ok-Footage.is at c.in-Ok-Footage.field-0-is in
    let back : to_z w64 (of_z w64 c.in-Ok-Footage.tc.count) ≡ c.in-Ok-Footage.tc.count = search rules in
    ap₂ (λ (z : ℤ) (b : Bool). read 0 z c.number.result b) back c.is_position-in-Ok-Footage.ensures
    ∙ ap (λ (n : ℕ). read 0 c.in-Ok-Footage.tc.count n (is_position c.in-Ok-Footage.tc.kind)) c.number.ensures
    ∙ sym (ap handed_read (c.in-Ok-Footage.is ∙ ap Ok inner))

pub returns-in-Err : goal.returns-in-Err
unfolding handed_read
returns-in-Err c =
    simp (c.number_of.ensures, c.in-Err.is)
