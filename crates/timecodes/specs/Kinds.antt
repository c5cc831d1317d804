-- A timecode is a length or a position, a time of day; and what two come to by kind (BEHAVIOUR: Positions).
-- Assumes nothing.
use Rattle.std.specs.Prelude.{Bool, true, false, Option, Some, None}
use Rattle.timecodes.specs.declared.kinds.Kind.{Kind}
use Rattle.timecodes.specs.declared.kinds.Kind.TheVariants.{Length, Position}
use Rattle.timecodes.specs.declared.kinds.Joining.{Joining}
use Rattle.timecodes.specs.declared.kinds.Joining.TheVariants.{Sum, Difference, Comparison}

-- that of a position where so said, else that of a length
abbrev pub kind_from : (position : Bool) → Kind
kind_from true = Position
kind_from false = Length

-- it is that of a position
abbrev pub is_position : Kind → Bool
is_position Length = false
is_position Position = true

-- two lengths are joined to a length; a position plus or minus a length, and a length plus a position, are a position; position minus
-- position is a length; two of one kind may be compared; all else is never mixed
abbrev pub mixed_kinds : Joining → (a b : Kind) → Option Kind
mixed_kinds Sum Length Length = Some Length
mixed_kinds Sum Length Position = Some Position
mixed_kinds Sum Position Length = Some Position
mixed_kinds Sum Position Position = None
mixed_kinds Difference Length Length = Some Length
mixed_kinds Difference Length Position = None
mixed_kinds Difference Position Length = Some Position
mixed_kinds Difference Position Position = Some Length
mixed_kinds Comparison Length Length = Some Length
mixed_kinds Comparison Length Position = None
mixed_kinds Comparison Position Length = None
mixed_kinds Comparison Position Position = Some Position

abbrev pub is_never : Option Kind → Bool
is_never (Some kind) = false
is_never None = true

-- the kind of what is mixed (where it never is, none is needed)
abbrev pub kind_in : Option Kind → Kind
kind_in (Some kind) = kind
kind_in None = Length
