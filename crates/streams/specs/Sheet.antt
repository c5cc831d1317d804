-- A sheet (BEHAVIOUR: The line program): a buffer with text at its front, of which so many bytes are used.
-- Assumes nothing.
use Rattle.std.specs.Prelude.{ℕ, ◌+◌, List, [], ◌∷◌, get_or, cond, length, take}
use Rattle.lent.specs.Line.{fits, line_after}

-- its bytes and how many are used; and which lent bytes they are, by what names a loan, or nothing where they are a sheet's own
pub record Sheet : Type 0 where
  pub lender : List ℕ
  pub bytes : List ℕ
  pub used : ℕ

abbrev pub sheet_of : (lender : List ℕ) (bytes : List ℕ) (used : ℕ) → Sheet
sheet_of lender bytes used = record { lender = lender; bytes = bytes; used = used }

-- what names a loan: the place of the bytes in memory, and a name
abbrev pub loan : (block offset name : ℕ) → List ℕ
loan block offset name = block ∷ offset ∷ name ∷ []

abbrev pub loan_at : List ℕ → ℕ → ℕ
loan_at l i = get_or l i 0

-- a sheet of bytes of its own
abbrev pub sheet : (bytes : List ℕ) (used : ℕ) → Sheet
sheet = sheet_of []

-- without text
abbrev pub cleared : Sheet → Sheet
cleared s = sheet_of s.lender s.bytes 0

-- the same sheet, of another lender
abbrev pub lent_by : (lender : List ℕ) → Sheet → Sheet
lent_by lender s = sheet_of lender s.bytes s.used

-- the text that it has
abbrev pub text_on : Sheet → List ℕ
text_on s = take s.used s.bytes

-- a text behind it; where there is no room, nothing changes
unfoldable pub put_on : Sheet → (text : List ℕ) → Sheet
put_on s text = record {
  lender = s.lender;
  bytes = line_after s.bytes s.used text;
  used = cond (fits s.bytes s.used text) (s.used + length text) s.used;
}
