-- The shapes of texts as grammars (BEHAVIOUR: Text shapes): no reader stands in them.
-- Assumes nothing.
use Rattle.std.specs.Prelude.{ℕ, suc, ◌≤◌, ◌<◌, ◌≡◌, List, [], ◌∷◌, ◌++◌, Bool, true, false, ◌||◌, length, take, drop}
use Rattle.digits.specs.Digits.{all_digits, IsField}
use Rattle.scanner.specs.declared.fields.Dividers.{Dividers}
use Rattle.scanner.specs.declared.text.Grammar.{Grammar}
use Rattle.scanner.specs.Long.{is_over, fields_long, PlacedField, placed, placed_tail}
use Rattle.scanner.specs.Scan.{divider_of}

-- one to k fields, each two divided by one of these bytes; with the list of them
pub data FieldsShape (d : Dividers) : (k : ℕ) → List ℕ → (fields : List (List ℕ)) → Type 0 where
  last : {k : ℕ} {f : List ℕ} → IsField f → FieldsShape d (suc k) f (f ∷ [])
  more : {k : ℕ} {f l : List ℕ} {fs : List (List ℕ)} → IsField f → (c : ℕ) → divider_of d c ≡ true → FieldsShape d k l fs
      → FieldsShape d (suc k) (f ++ c ∷ l) (f ∷ fs)

-- a tail behind its `.`; where there is none, no `.` stands
abbrev pub pointed : (tail : List ℕ) → List ℕ
pointed [] = []
pointed (b ∷ tail) = 46 ∷ b ∷ tail

-- the fields that a grammar asks for, and, where it allows one, optionally a tail of digits
pub record BodyShape (g : Grammar) (l : List ℕ) (fields : List (List ℕ)) (tail : List ℕ) : Type 0 where
  pub front : List ℕ
  pub shape : FieldsShape g.dividers g.most front fields
  pub enough : g.least ≤ length fields
  pub digits : all_digits tail ≡ true
  pub allowed : 0 < length tail → 0 < g.tail
  pub all : front ++ pointed tail ≡ l

-- what a text is made of: its sign, and the digits of its fields and of its tail
pub record TextParts : Type 0 where
  pub minus : Bool
  pub fields : List (List ℕ)
  pub tail : List ℕ

abbrev pub text_parts : (minus : Bool) (fields : List (List ℕ)) (tail : List ℕ) → TextParts
text_parts minus fields tail = record { minus = minus; fields = fields; tail = tail }

-- a text with `-` in front, or without
abbrev pub with_minus : (minus : Bool) → List ℕ → List ℕ
with_minus true l = 45 ∷ l
with_minus false l = l

-- a text of a grammar: optional `-`, then fields and a tail
pub record TextShape (g : Grammar) (l : List ℕ) (p : TextParts) : Type 0 where
  pub body : List ℕ
  pub shape : BodyShape g body p.fields p.tail
  pub text : with_minus p.minus body ≡ l

-- the tail has more digits than the grammar allows, or a field over 9
abbrev pub some_long : Grammar → TextParts → Bool
some_long g p = is_over g.tail (length p.tail) || fields_long p.fields

-- a text has the shape, and something in it is too long, or nothing is
pub record HasTextShape (g : Grammar) (l : List ℕ) (long : Bool) : Type 0 where
  pub parts : TextParts
  pub shape : TextShape g l parts
  pub digits : some_long g parts ≡ long

-- ---- places
-- a text of the grammar, fields of any length
pub record OfGrammar (g : Grammar) (l : List ℕ) : Type 0 where
  pub parts : TextParts
  pub shape : TextShape g l parts

-- each byte is one of ASCII
abbrev pub Ascii : List ℕ → Type 0
Ascii [] = Unit {0}
Ascii (b ∷ l) = (b < 128) × Ascii l

-- there are such texts: a field may come, and no more are asked for than may come
pub record Possible (g : Grammar) : Type 0 where
  pub some : 0 < g.most
  pub enough : g.least ≤ g.most

-- the fields of a text, left to right: behind its sign the divided ones, behind these and `.` the tail
abbrev pub fields_of : Grammar → TextParts → List PlacedField
fields_of g p = placed (placed_tail g.tail p.tail) (length (with_minus p.minus [])) p.fields

-- each of them stands in the text at its place
abbrev pub Standing : (l : List ℕ) → List PlacedField → Type 0
Standing l [] = Unit {0}
Standing l (f ∷ fs) = (take (length f.digits) (drop f.place l) ≡ f.digits) × Standing l fs

-- none of them is too long
abbrev pub AllShort : List PlacedField → Type 0
AllShort [] = Unit {0}
AllShort (f ∷ fs) = (length f.digits ≤ f.most) × AllShort fs

-- the first of them that is too long, those to its left not being so, has its first digit at this place
pub record FirstLong (fields : List PlacedField) (place : ℕ) : Type 0 where
  pub left : List PlacedField
  pub field : PlacedField
  pub right : List PlacedField
  pub all : left ++ field ∷ right ≡ fields
  pub short : AllShort left
  pub long : field.most < length field.digits
  pub there : field.place ≡ place

-- a text has the shape, and the first digit of the first field that is too long stands at this place
pub record LongText (g : Grammar) (l : List ℕ) (place : ℕ) : Type 0 where
  pub parts : TextParts
  pub shape : TextShape g l parts
  pub first : FirstLong (fields_of g parts) place
