-- Digits and numbers are each other's inverse, and a number's width is the least that is enough.
-- Assumes nothing.
use Prim.Native.Nat.{max}
use mathlib.Core.Path.{sym, ap, ◌∙◌}
use Rattle.digits.specs.Statements.{AllDigits, DecimalBack, ValueBack, LeadingZeros, DecimalLength, WidthIs, DecimalPadded}
use Rattle.digits.specs.Digits as digits
use Rattle.digits.proofs.Values as values
use Rattle.digits.proofs.Width as width
use Rattle.digits.proofs.Leading as leading

pub all_digits : AllDigits
all_digits = values.digits-all

pub decimal_back : DecimalBack
decimal_back = width.decimal_back

pub value_back : ValueBack
value_back = values.value_back

pub leading_zeros : LeadingZeros
leading_zeros = leading.leading_zeros

pub decimal_length : DecimalLength
decimal_length = width.decimal_length

pub width_is : WidthIs
width_is n = (width.width_some n, width.width-enough n, width.width-at-most n)

pub decimal_padded : DecimalPadded
decimal_padded k n =
    record {
      digits = width.decimal-field k n;
      long = width.decimal_length k n ∙ ap (λ x. max k (digits.width x)) (sym (width.decimal_back k n));
    }
