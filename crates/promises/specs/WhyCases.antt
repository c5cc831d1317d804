-- The worked cases of why a text was turned down: rows of a single table, under one statement.
-- Assumes nothing.
use Rattle.std.specs.Prelude.{ℕ, ◌≡◌, Bool, true, false, List, [], ◌∷◌, Option, Some, None}
use Prim.Native.String.{String}
use Rattle.faults.specs.declared.Field.TheVariants.{Count, Sign, Hours, Minutes, Seconds, Frames, Marker}
use Rattle.faults.specs.Faults.{fault}
use Rattle.timecodes.specs.declared.kinds.Kind.{Kind}
use Rattle.timecodes.specs.declared.kinds.Kind.TheVariants.{Length, Position}
use Rattle.label_writer.specs.declared.TimecodeSections.{TimecodeSections}
use Rattle.reading.specs.Answer.{number_of, place_of}
use Rattle.reading.specs.For.{read_for}
use Rattle.reasons.specs.declared.Fact.{Fact}
use Rattle.reasons.specs.declared.Fact.TheVariants.{Limit, First}
use Rattle.reasons.specs.declared.Fact.TheVariants as fact
use Rattle.reasons.specs.Why.{fact_of, phrase_for}
use Rattle.lines.specs.Output.{bytes_of}

-- a row: how a text is read, and the number, place, phrase and fact that it then gets
pub data Case : Type 0 where
  row : Kind → Option ℕ → (rate : ℕ) (text : String) (number place : ℕ) (phrase : String) → Option Fact → Case

abbrev pub Holds : Case → Type 0
Holds (row kind stated rate text number place phrase f) =
    let l = bytes_of text in
    (number_of (read_for kind l stated rate) ≡ number)
    × (place_of (read_for kind l stated rate) ≡ place)
    × (phrase_for kind l stated rate ≡ bytes_of phrase)
    × (fact_of kind l stated rate ≡ f)

abbrev pub All : List Case → Type 0
All [] = Unit {0}
All (c ∷ cs) = Holds c × All cs

-- a label at the front of a minute
abbrev sections : (negative : Bool) (hours minutes frames : ℕ) → TimecodeSections
sections negative hours minutes frames = record { negative = negative; hours = hours; minutes = minutes; seconds = 0; frames = frames }

-- a label: accepted, no shape, too long, no such rate, dropped (minutes past 59 carried, the sign kept, four dropped at rate 11), out of bounds
abbrev pub label_cases : List Case
label_cases =
    row Length None 5 "00:01:00;02" 0 0 "accepted" None
    ∷ row Length None 5 "00:01:00;0x" 1 10 "not in a form that can be read" None
    ∷ row Length None 5 "" 1 0 "not in a form that can be read" None
    ∷ row Length None 2 "0:0000000001" 2 2 "a number has too many digits" None
    ∷ row Length None 13 "x" 6 0 "no such rate or film format" None
    ∷ row Length None 5 "00:01:00;00" 3 0 "a dropped label, which no frame has" (Some (First (sections false 0 1 2)))
    ∷ row Length None 5 "-1:599:0;1" 3 0 "a dropped label, which no frame has" (Some (First (sections true 10 59 2)))
    ∷ row Length None 11 "61:0:3" 3 0 "a dropped label, which no frame has" (Some (First (sections false 1 1 4)))
    ∷ row Position None 5 "00:01:00;01" 3 0 "a dropped label, which no frame has" (Some (First (sections false 0 1 2)))
    ∷ row Length None 2 "400000001" 5 0 "the count of frames is out of bounds" (Some (Limit (fault Count false 400000000 400000001)))
    ∷ row Length None 2 "-999999999:0:0" 5 0 "the count of frames is out of bounds" (Some (Limit (fault Count true 400000000 1439999998560)))
    ∷ []

-- a footage: a perf field that the format has not, a frames number past its foot before a marker of another, the count before any reduction
abbrev pub footage_cases : List Case
footage_cases =
    row Length (Some 1) 5 "1+00.1" 4 0 "a perf field, which this film format does not have" None
    ∷ row Length (Some 5) 5 "1+00" 6 0 "no such rate or film format" None
    ∷ row Length (Some 4) 5 "1:00" 1 1 "not in a form that can be read" None
    ∷ row Length None 5 "0+20" 13 0 "no such place on the film" (Some (Limit (fault Frames false 15 20)))
    ∷ row Length None 5 "1+21.2" 13 0 "no such place on the film" (Some (Limit (fault Frames false 20 21)))
    ∷ row Length None 5 "2+22.1" 13 0 "no such place on the film" (Some (Limit (fault Frames false 21 22)))
    ∷ row Length None 5 "-4+20.4" 13 0 "no such place on the film" (Some (Limit (fault Marker false 1 4)))
    ∷ row Length (Some 3) 5 "7+32" 13 0 "no such place on the film" (Some (Limit (fault Frames false 31 32)))
    ∷ row Length (Some 4) 5 "7+20" 13 0 "no such place on the film" (Some (Limit (fault Frames false 19 20)))
    ∷ row Length (Some 2) 5 "2+21" 0 0 "accepted" None
    ∷ row Position None 5 "25000000+01" 5 0 "the count of frames is out of bounds" (Some (Limit (fault Count false 400000000 400000001)))
    ∷ row Position None 5 "-25000000+15" 5 0 "the count of frames is out of bounds" (Some (Limit (fault Count true 400000000 400000015)))
    ∷ row Position None 5 "-0+01" 0 0 "accepted" None
    ∷ []

-- the label of a position: the leftmost field, a sign before all
abbrev pub position_cases : List Case
position_cases =
    row Position None 5 "-24:60:60;30" 14 0 "not a time of day" (Some (Limit (fault Sign false 0 0)))
    ∷ row Position None 5 "24:60:60;30" 14 0 "not a time of day" (Some (Limit (fault Hours false 23 24)))
    ∷ row Position None 5 "23:60:60;30" 14 0 "not a time of day" (Some (Limit (fault Minutes false 59 60)))
    ∷ row Position None 5 "0:0:999;30" 14 0 "not a time of day" (Some (Limit (fault Seconds false 59 999)))
    ∷ row Position None 5 "23:59:59;30" 14 0 "not a time of day" (Some (Limit (fault Frames false 29 30)))
    ∷ row Position None 1 "24" 14 0 "not a time of day" (Some (Limit (fault Frames false 23 24)))
    ∷ row Position None 12 "60" 14 0 "not a time of day" (Some (Limit (fault Frames false 59 60)))
    ∷ row Position None 5 "24:01:00;00" 14 0 "not a time of day" (Some (Limit (fault Hours false 23 24)))
    ∷ []

-- each row holds
abbrev pub WhyCases : Type 0
WhyCases = All label_cases × All footage_cases × All position_cases
