-- Footage (BEHAVIOUR: Text shapes): the shape as a grammar. No reader stands here.
-- Assumes nothing.
use Rattle.std.specs.Prelude.{ℕ, ◌≡◌, List, [], ◌∷◌, Bool, ltb, length}
use Rattle.scanner.specs.declared.fields.Dividers.TheVariants.{Plus}
use Rattle.scanner.specs.declared.text.Grammar.{Grammar}
use Rattle.scanner.specs.Shapes.{TextParts, text_parts, TextShape, some_long, OfGrammar, LongText}

-- two fields divided by `+`, optionally `.` and a perf field
abbrev pub footage_grammar : Grammar
footage_grammar = record { dividers = Plus; least = 2; most = 2; tail = 9 }

-- what a footage is made of: its sign, and the digits of its feet, its frames and its perf field (none: there is no perf field)
pub record FootageParts : Type 0 where
  pub minus : Bool
  pub feet : List ℕ
  pub frames : List ℕ
  pub perf : List ℕ

abbrev pub footage_parts : (minus : Bool) (feet frames perf : List ℕ) → FootageParts
footage_parts minus feet frames perf = record { minus = minus; feet = feet; frames = frames; perf = perf }

abbrev pub as_text : FootageParts → TextParts
as_text p = text_parts p.minus (p.feet ∷ p.frames ∷ []) p.perf

-- Footage: optional `-`, feet, `+`, frames, optionally `.` and a perf field
abbrev pub FootageShape : (l : List ℕ) → FootageParts → Type 0
FootageShape l p = TextShape footage_grammar l (as_text p)

-- whether a perf field is present
abbrev pub has_perf : (perf : List ℕ) → Bool
has_perf perf = ltb 0 (length perf)

-- some field has over 9 digits
abbrev pub footage_long : FootageParts → Bool
footage_long p = some_long footage_grammar (as_text p)

-- a text has the shape, and some field has over 9 digits, or none has
pub record HasFootageShape (l : List ℕ) (long : Bool) : Type 0 where
  pub parts : FootageParts
  pub shape : FootageShape l parts
  pub digits : footage_long parts ≡ long

-- a text of the shape, fields of any length
abbrev pub IsFootage : (l : List ℕ) → Type 0
IsFootage l = OfGrammar footage_grammar l

-- a text has the shape, and the first digit of the first field that is too long, a perf field too, stands at this place
abbrev pub LongFootage : (l : List ℕ) (place : ℕ) → Type 0
LongFootage l place = LongText footage_grammar l place
