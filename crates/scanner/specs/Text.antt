-- What any text gives by a grammar, read in steps (BEHAVIOUR: Text shapes). What that comes to is said in Statements.antt.
-- Assumes nothing.
use Rattle.std.specs.Prelude.{ℕ, List, Bool, leb, drop, Option, Some, None, Result, Ok, Err}
use Rattle.scanner.specs.declared.cursor.Tail.{Tail}
use Rattle.scanner.specs.declared.fields.Scanned.{Scanned}
use Rattle.scanner.specs.declared.text.Misfit.{Misfit}
use Rattle.scanner.specs.declared.text.Misfit.TheVariants.{TooLong}
use Rattle.scanner.specs.declared.text.Grammar.{Grammar}
use Rattle.scanner.specs.declared.text.TextScan.{TextScan}
use Rattle.scanner.specs.Long.{long_field, or_long}
use Rattle.scanner.specs.Scan.{is_end, sign_of, tail_of}
use Rattle.scanner.specs.Then.{only_if, and_then}
use Rattle.scanner.specs.Fields.{fields_found}

-- a text that fits, with its sign, its fields' values, and the value and the number of digits of its tail
abbrev pub fitting : (minus : Bool) (fields : List ℕ) (tail digits : ℕ) → TextScan
fitting minus fields tail digits = record { minus = minus; fields = fields; tail = tail; digits = digits }

-- the whole shape is seen before something in it is too long
abbrev pub unless_long : Option ℕ → TextScan → Result TextScan Misfit
unless_long None answer = Ok answer
unless_long (Some place) answer = Err (TooLong place)

-- fields and a tail that were found, and the end
abbrev pub end_scan : Grammar → (text : List ℕ) (minus : Bool) → Scanned → Tail → Result TextScan Misfit
end_scan g text minus fields tail =
    only_if (is_end (drop tail.next.at text)) tail.next.at
    (unless_long (or_long fields.long (long_field tail.first.at g.tail tail.count)) (fitting minus fields.values tail.value tail.count))

-- behind fields that are enough, a tail
abbrev pub tail_scan : Grammar → (text : List ℕ) (minus : Bool) → Scanned → Result TextScan Misfit
tail_scan g text minus fields =
    only_if (leb g.least fields.count) fields.next.at
    (and_then (end_scan g text minus fields) (tail_of g.tail fields.next.at (drop fields.next.at text)))

-- from a place on, the fields
abbrev pub body_scan : Grammar → (text : List ℕ) (at : ℕ) (minus : Bool) → Result TextScan Misfit
body_scan g text at minus = and_then (tail_scan g text minus) (fields_found g.dividers g.most text at)

-- optional `-`, then these
unfoldable pub text_scan : Grammar → List ℕ → Result TextScan Misfit
text_scan g text = body_scan g text (sign_of 0 text).next.at (sign_of 0 text).minus

-- what is read of a text, under names of its own
abbrev pub named : {A : Type 0} (name : TextScan → A) → Result TextScan Misfit → Result A Misfit
named name (Ok scan) = Ok (name scan)
named name (Err misfit) = Err misfit
