-- `asking::words::understand` meets its contract: the first word names the row, and the row says what follows.
-- Assumes nothing.
use Prim.Native.Nat.{◌<◌}
use mathlib.Core.Path.{◌≡◌, refl, sym, ap, subst, ◌∙◌}
use native.Mathlib.Omega.{arith}
use lib.ListN.{take, length-take}
use Rattle.asking.specs.Table.{word_of, row_count, row_named}
use Rattle.asking.specs.Asked.{words_from, no_values}
use Rattle.asking.proofs.Taken.{word-within, word-part, part-plain, asked-known, asked-unknown}
use Rattle.asking.proofs.words.understand.Goals as goal

pub slice_bounds-row_named-end : goal.slice_bounds-row_named-end
slice_bounds-row_named-end c = simp length-take (omega (arith, c.word_end-end.ensures, word-within c.args.line.now))

pub row_named-requires : goal.row_named-requires
row_named-requires c =
    part-plain _ _ c.word_end-end.ensures

pub returns-in-Some : goal.returns-in-Some
returns-in-Some c =
    let named : c.in-Some.row ≡ row_named (word_of c.args.line.now) = c.in-Some.ensures.1 ∙ ap row_named (word-part _ _ c.word_end-end.ensures) in
    let known : c.in-Some.row < row_count = omega (arith, c.in-Some.ensures.0, c.in-Some.ensures.1) in
    c.words.ensures
    ∙ ap (λ n. words_from 5 c.in-Some.row c.args.line.now n 0 no_values) c.word_end-end.ensures
    ∙ asked-known _ _ named known

pub returns-in-None : goal.returns-in-None
returns-in-None c =
    let e : take c.word_end-end.result c.args.line.now ≡ word_of c.args.line.now = word-part _ _ c.word_end-end.ensures in
    let none : row_named (word_of c.args.line.now) < row_count → ⊥ = λ h. c.in-None.ensures (subst (λ w. row_named w < row_count) (sym e) h) in
    c.not_understood.ensures
    ∙ asked-unknown _ (row_named (word_of c.args.line.now)) refl (omega (arith, none))
