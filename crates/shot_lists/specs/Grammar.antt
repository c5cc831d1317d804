-- The format (BEHAVIOUR: Shot lists): a list is records one after the other; on disk a record is its kind's byte and a body whose length the kind fixes.
-- Assumes nothing.
use Rattle.std.specs.Prelude.{ℕ, ◌≡◌, List, [], ◌∷◌, ◌++◌, ℤ, pos}
use Rattle.low_bytes.specs.LowBytes.{Unsigned, Signed}
use Rattle.shot_lists.specs.declared.records.Record.{Record}
use Rattle.shot_lists.specs.declared.records.Record.TheVariants.{Rate, Shot, Reel}

-- records one after the other, each spelt so; none at all is an empty list
pub data OneByOne {A : Type 0} (Spelt : Record → List A → Type 0) : List Record → List A → Type 0 where
  none : OneByOne Spelt [] []
  more : (r : Record) (part : List A) (rs : List Record) (l : List A) → Spelt r part → OneByOne Spelt rs l → OneByOne Spelt (r ∷ rs) (part ++ l)

-- ---- on disk

-- kind 1, a rate; kind 2, a shot; kind 3, a reel
abbrev pub kind_byte : Record → ℕ
kind_byte (Rate n) = 1
kind_byte (Shot first end) = 2
kind_byte (Reel n) = 3

-- 8 bytes, first frame and end frame, each signed 32-bit, low byte first
pub record TwoFrames (first end : ℤ) (body : List ℕ) : Type 0 where
  pub front : List ℕ
  pub back : List ℕ
  pub parts : body ≡ front ++ back
  pub starts : Signed 4 first front
  pub ends : Signed 4 end back

-- a rate, 1 byte; a shot, 8 bytes; a reel, 4 bytes, unsigned, low byte first
abbrev pub BodyOf : Record → List ℕ → Type 0
BodyOf (Rate n) body = Unsigned 1 n body
BodyOf (Shot first end) body = TwoFrames first end body
BodyOf (Reel n) body = Unsigned 4 n body

-- one byte of kind and then a body
pub record OneOnDisk (r : Record) (part : List ℕ) : Type 0 where
  pub body : List ℕ
  pub is : part ≡ kind_byte r ∷ body
  pub of : BodyOf r body

-- the records of a list, and its bytes
abbrev pub OnDisk : List Record → List ℕ → Type 0
OnDisk = OneByOne OneOnDisk

-- ---- handed over to be written

-- the kind, then the record's own numbers
abbrev pub record_numbers : Record → List ℤ
record_numbers (Rate n) = pos 1 ∷ pos n ∷ []
record_numbers (Shot first end) = pos 2 ∷ first ∷ end ∷ []
record_numbers (Reel n) = pos 3 ∷ pos n ∷ []

-- a list's: one after the other
unfoldable pub list_numbers : List Record → List ℤ
list_numbers [] = []
list_numbers (r ∷ rs) = record_numbers r ++ list_numbers rs
