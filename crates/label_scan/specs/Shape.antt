-- Label (BEHAVIOUR: Text shapes): the shape as a grammar. No reader stands here.
-- Assumes nothing.
use Rattle.std.specs.Prelude.{ℕ, ◌≡◌, List, [], Bool}
use Rattle.scanner.specs.declared.fields.Dividers.TheVariants.{ColonOrSemicolon}
use Rattle.scanner.specs.declared.text.Grammar.{Grammar}
use Rattle.scanner.specs.Long.{fields_long}
use Rattle.scanner.specs.Shapes.{text_parts, TextShape, OfGrammar, LongText}

-- one to four fields, each two divided by `:` or `;`
abbrev pub label_grammar : Grammar
label_grammar = record { dividers = ColonOrSemicolon; least = 1; most = 4; tail = 0 }

-- Label: optional `-`, then the fields
abbrev pub LabelShape : (l : List ℕ) (minus : Bool) (fields : List (List ℕ)) → Type 0
LabelShape l minus fields = TextShape label_grammar l (text_parts minus fields [])

-- a text has the shape, and some field has over 9 digits, or none has
pub record HasLabelShape (l : List ℕ) (long : Bool) : Type 0 where
  pub minus : Bool
  pub fields : List (List ℕ)
  pub shape : LabelShape l minus fields
  pub digits : fields_long fields ≡ long

-- a text of the shape, fields of any length
abbrev pub IsLabel : (l : List ℕ) → Type 0
IsLabel l = OfGrammar label_grammar l

-- a text has the shape, and the first digit of the first field that is too long stands at this place
abbrev pub LongLabel : (l : List ℕ) (place : ℕ) → Type 0
LongLabel l place = LongText label_grammar l place
