-- What a text reads as by a grammar, from its shape (BEHAVIOUR: Text shapes): each text in one way, and each fit exactly. Proofs: proofs/Statements.antt.
-- Assumes nothing.
use Rattle.std.specs.Prelude.{ℕ, ◌^◌, ◌<◌, ◌≡◌, List, map, false, length, Result, Ok, Err}
use Rattle.beginnings.specs.Beginning.{LongestBeginning}
use Rattle.digits.specs.Digits.{field_value}
use Rattle.scanner.specs.declared.text.Misfit.{Misfit}
use Rattle.scanner.specs.declared.text.Misfit.TheVariants.{TooLong, NoShape}
use Rattle.scanner.specs.declared.text.Grammar.{Grammar}
use Rattle.scanner.specs.declared.text.TextScan.{TextScan}
use Rattle.scanner.specs.Justified.{justified, Below}
use Rattle.scanner.specs.Long.{first_long}
use Rattle.scanner.specs.Shapes.{TextParts, TextShape, HasTextShape, OfGrammar, Ascii, Possible, fields_of, Standing, LongText}
use Rattle.scanner.specs.Text.{fitting, unless_long, text_scan}

-- what is read of a text's parts
abbrev pub parts_read : TextParts → TextScan
parts_read p = fitting p.minus (justified (map field_value p.fields)) (field_value p.tail) (length p.tail)

-- a text of the shape reads as its parts, unless something is too long
abbrev pub TextReads : Type 0
TextReads = (g : Grammar) (l : List ℕ) (p : TextParts) → TextShape g l p → text_scan g l ≡ unless_long (first_long (fields_of g p)) (parts_read p)

-- what it says of a text that it fits, that it is too long, and that it has no shape
abbrev pub FitSays : Grammar → List ℕ → Result TextScan Misfit → Type 0
FitSays g l (Ok scan) = HasTextShape g l false
FitSays g l (Err (TooLong place)) = LongText g l place
FitSays g l (Err (NoShape stop)) = (p : TextParts) → ¬ TextShape g l p

-- what is said of a text is so
abbrev pub FitSound : Type 0
FitSound = (g : Grammar) (l : List ℕ) → FitSays g l (text_scan g l)

-- where the scan of a text without the shape stopped is the length of its longest beginning that also begins some text of the shape
abbrev pub StopLongest : Type 0
StopLongest =
    (g : Grammar) (l : List ℕ) (stop : ℕ) → Possible g → text_scan g l ≡ Err (NoShape stop) → LongestBeginning (OfGrammar g) l stop

-- a text of the shape is ASCII, and so, being a part of it, is what stands behind a beginning to make it one
abbrev pub ShapeAscii : Type 0
ShapeAscii = (g : Grammar) (l : List ℕ) (p : TextParts) → TextShape g l p → Ascii l

-- at the place of each of a text's fields its digits stand
abbrev pub FieldsStand : Type 0
FieldsStand = (g : Grammar) (l : List ℕ) (p : TextParts) → TextShape g l p → Standing l (fields_of g p)

-- a text has the shape in one way only
abbrev pub OneTextShape : Type 0
OneTextShape = (g : Grammar) (l : List ℕ) (p q : TextParts) → TextShape g l p → TextShape g l q → p ≡ q

-- four fields are answered, each below 10^9, and so is what the tail is read as
pub record TextBounds (scan : TextScan) : Type 0 where
  pub four : length scan.fields ≡ 4
  pub below : Below scan.fields
  pub tail : scan.tail < 10 ^ 9

-- so it is with every grammar and every text that fits
abbrev pub TextBounded : Type 0
TextBounded = (g : Grammar) (l : List ℕ) (scan : TextScan) → text_scan g l ≡ Ok scan → TextBounds scan
