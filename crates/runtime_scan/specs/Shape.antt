-- Runtime (BEHAVIOUR: Text shapes): the shape as a grammar, and what its fraction comes to. No reader stands here.
-- Assumes nothing.
use Rattle.std.specs.Prelude.{ℕ, ◌-◌, ◌*◌, ◌^◌, List, Bool, length}
use Rattle.digits.specs.Digits.{value_of}
use Rattle.scanner.specs.declared.fields.Dividers.TheVariants.{Colon}
use Rattle.scanner.specs.declared.text.Grammar.{Grammar}
use Rattle.scanner.specs.Shapes.{TextParts, TextShape, some_long, HasTextShape, OfGrammar, LongText}

-- one to three fields divided by `:`, optionally `.` and a fraction
abbrev pub runtime_grammar : Grammar
runtime_grammar = record { dividers = Colon; least = 1; most = 3; tail = 6 }

-- Runtime: optional `-`, then these; its tail is its fraction
abbrev pub RuntimeShape : (l : List ℕ) → TextParts → Type 0
RuntimeShape l p = TextShape runtime_grammar l p

-- the value of a fraction of so many digits, in millionths
abbrev pub in_millionths : (value count : ℕ) → ℕ
in_millionths value count = value * 10 ^ (6 - count)

abbrev pub millionths_of : (fraction : List ℕ) → ℕ
millionths_of fraction = in_millionths (value_of fraction) (length fraction)

-- a field has over 9 digits or the fraction over 6
abbrev pub runtime_long : TextParts → Bool
runtime_long p = some_long runtime_grammar p

-- a text has the shape, and something in it is too long, or nothing is
abbrev pub HasRuntimeShape : (l : List ℕ) (long : Bool) → Type 0
HasRuntimeShape l long = HasTextShape runtime_grammar l long

-- a text of the shape, fields of any length
abbrev pub IsRuntime : (l : List ℕ) → Type 0
IsRuntime l = OfGrammar runtime_grammar l

-- a text has the shape, and the first digit of the first field or fraction that is too long stands at this place
abbrev pub LongRuntime : (l : List ℕ) (place : ℕ) → Type 0
LongRuntime l place = LongText runtime_grammar l place
