-- What a query is (docs/ROUTING.md): a length, one space, the label; that it is the grammar's: Statements.antt.
-- Assumes nothing.
use Rattle.std.specs.Prelude.{ℕ, ◌+◌, List, cond, ℤ, drop, Option, Some, None}
use Rattle.digits.specs.Digits.{is_byte, first_is}
use Rattle.asking.specs.declared.values.Word.{Word}
use Rattle.asking.specs.Numbers.{signed_at}
use Rattle.routing.specs.declared.queries.Query.{Query}

-- a length, and the place where the label begins
abbrev pub Asked : (length : ℤ) (label : ℕ) → Option Query
Asked length label = Some (record { length = length; label = label })

-- the line is no query
abbrev pub NotUnderstood : Option Query
NotUnderstood = None

-- behind a length that ends at `next`: l is what is left from there
unfoldable pub asked_at : (length : ℤ) (next : ℕ) (l : List ℕ) → Option Query
asked_at length next l = cond (first_is (is_byte 32) l) (Asked length (next + 1)) NotUnderstood

abbrev pub asked_by : (line : List ℕ) → Option Word → Option Query
asked_by line (Some word) = asked_at word.number word.next (drop word.next line)
asked_by line None = NotUnderstood

unfoldable pub query_of : (line : List ℕ) → Option Query
query_of line = asked_by line (signed_at 0 line)
