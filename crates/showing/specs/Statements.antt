-- An answer that has room is on the sheet, as one line. Proofs: proofs/Statements.antt.
-- Assumes nothing.
use Rattle.router.specs.Found.{shards}
use Rattle.router.specs.declared.Shards.{Shards}
use Rattle.answers.specs.Causes.{refusal}
use Rattle.answers.specs.Refusals.{at_place}
use Rattle.answers.specs.Causes.{refusal_number}
use Rattle.reasons.specs.declared.Reason.{Reason}
use Rattle.std.specs.Prelude.{ℕ, ◌+◌, ◌≤◌, ◌≡◌, List, [], ◌∷◌, ◌++◌, true, false, ℤ, pos, negsuc, length, Result, Ok, Err, Some, None, Option}
use Rattle.answers.specs.declared.Refusal.{Refusal}
use Rattle.faults.specs.declared.Field.TheVariants.{Count, Hours}
use Rattle.faults.specs.declared.Fault.{Fault}
use Rattle.faults.specs.Faults.{fault}
use Rattle.timecodes.specs.Timecode.{timecode, position}
use Rattle.film.specs.declared.FilmFormat.{FilmFormat}
use Rattle.film.specs.Film.{format_number}
use Rattle.reading.specs.declared.Read.{Read}
use Rattle.reading.specs.declared.Read.TheVariants.{Label, Footage}
use Rattle.label_writer.specs.declared.TimecodeSections.{TimecodeSections}
use Rattle.label_writer.specs.LabelText.{frames_mark, sections_text}
use Rattle.reasons.specs.declared.Fact.{Fact}
use Rattle.reasons.specs.declared.Fact.TheVariants.{Limit, First}
use Rattle.shot_lists.specs.declared.records.Record.{Record}
use Rattle.shot_lists.specs.declared.records.Record.TheVariants.{Rate, Shot, Reel}
use Rattle.shot_lists.specs.Reading.{AllOf, FaultOf}
use Rattle.written.specs.Parts.{signed_text}
use Rattle.streams.specs.Sheet.{Sheet, text_on}
use Rattle.hex_bytes.specs.Hex.{hex_text}
use Rattle.laws.specs.Spelt.{spelt}
use Rattle.showing.specs.declared.Shown.{Shown}
use Rattle.showing.specs.Each.{of_answer, of_read}
use Rattle.showing.specs.Shown.{count_text, shown_text, written_text, shown_on, written_on, hex_written_on}
use Rattle.showing.specs.Lists.{list_text, list_on}
use Rattle.showing.specs.Why.{why_text, why_on}
use Rattle.showing.specs.Routes.{routed_text, routed_on}

-- behind the text that the sheet has stands the answer's, where it has room
abbrev pub ShownLine : Type 0
ShownLine =
    (s : Sheet) (a : Shown) → s.used + length (shown_text a) ≤ length s.bytes
    → text_on (shown_on s a) ≡ text_on s ++ shown_text a

-- and that of a writer's command: the length or the refusal, a space, the whole line that it wrote into
abbrev pub WrittenLine : Type 0
WrittenLine =
    (s : Sheet) (w : Result ℕ Refusal) (line : List ℕ) → s.used + length (written_text w line) ≤ length s.bytes
    → text_on (written_on s w line) ≡ text_on s ++ written_text w line

-- and that of a writer of bytes: the length or the refusal, a space, the whole line that it wrote into as HEX
abbrev pub HexWrittenLine : Type 0
HexWrittenLine =
    (s : Sheet) (w : Result ℕ Refusal) (line : List ℕ) → s.used + length (written_text w (hex_text line)) ≤ length s.bytes
    → text_on (hex_written_on s w line) ≡ text_on s ++ written_text w (hex_text line)

-- a text that is refused is shown with its number and its place: `refused N PLACE`
abbrev pub TextRefusedShown : Type 0
TextRefusedShown =
    (e : Refusal)
    → shown_text (of_read (Err e)) ≡ (spelt "refused " ++ (signed_text false (refusal_number e) ++ (32 ∷ signed_text false e.place))) ++ (10 ∷ [])

-- a count that is a position has `@` before it: `@13`, `label @1800`, `footage @16 1`; a length's has none
abbrev pub PositionShown : Type 0
PositionShown =
    (z : ℤ) (rate : ℕ)
    → (shown_text (of_answer (Ok (position z rate))) ≡ (64 ∷ count_text z) ++ (10 ∷ []))
    × (shown_text (of_answer (Ok (timecode z rate))) ≡ count_text z ++ (10 ∷ []))
    × (shown_text (of_read (Ok (Label (position z rate)))) ≡ (spelt "label @" ++ count_text z) ++ (10 ∷ []))
    × (shown_text (of_read (Ok (Label (timecode z rate)))) ≡ (spelt "label " ++ count_text z) ++ (10 ∷ []))
    × ((format : FilmFormat)
    → shown_text (of_read (Ok (Footage (position z rate) format)))
    ≡ (spelt "footage @" ++ (count_text z ++ (32 ∷ signed_text false (format_number format)))) ++ (10 ∷ []))
    × ((format : FilmFormat)
    → shown_text (of_read (Ok (Footage (timecode z rate) format)))
    ≡ (spelt "footage " ++ (count_text z ++ (32 ∷ signed_text false (format_number format)))) ++ (10 ∷ []))

-- behind the text that the sheet has stands a shot list's, where it has room: how many records it has, and each as words
abbrev pub ListLine : Type 0
ListLine =
    (s : Sheet) (rs : List Record) → s.used + length (list_text rs ++ (10 ∷ [])) ≤ length s.bytes
    → text_on (list_on s (AllOf rs)) ≡ text_on s ++ (list_text rs ++ (10 ∷ []))

-- and of a shot list with a fault the refusal of its earliest record at fault: `refused N`
abbrev pub ListRefusedLine : Type 0
ListRefusedLine =
    (s : Sheet) (e : Refusal) → (let text = (spelt "refused " ++ signed_text false (refusal_number e)) ++ (10 ∷ []) in
    s.used + length text ≤ length s.bytes → text_on (list_on s (FaultOf e)) ≡ text_on s ++ text)

-- the words of each kind of record, in a list of three; and of an empty list `0`
abbrev pub ListWords : Type 0
ListWords =
    (list_text (Rate 5 ∷ Shot (negsuc 9) (pos 100) ∷ Reel 7 ∷ []) ≡ spelt "3 rate 5 shot -10 100 reel 7")
    × (list_text [] ≡ spelt "0")

-- ---- why a text is read as it is
-- behind the text that the sheet has stands why a text is read as it is, where that has room
abbrev pub WhyLine : Type 0
WhyLine =
    (s : Sheet) (rate : ℕ) (w : Result Reason Refusal) (line : List ℕ) → s.used + length (why_text rate w line) ≤ length s.bytes
    → text_on (why_on s rate w line) ≡ text_on s ++ why_text rate w line

-- the reader's answer, a fact, and the phrase's length
abbrev pub reason : Result Read Refusal → Option Fact → (n : ℕ) → Result Reason Refusal
reason read fact n = Ok (record { read = read; fact = fact; length = n })

-- `LENGTH LINE`, the phrase's length and the whole line
abbrev pub length_line : (n : ℕ) (line : List ℕ) → List ℕ
length_line n line = signed_text false n ++ (32 ∷ line ++ (10 ∷ []))

-- an accepted text is shown as `0 0 COUNT 0 0 - LENGTH LINE`, its count with `@` before it where it is a position
abbrev pub WhyAcceptedShown : Type 0
WhyAcceptedShown =
    (z : ℤ) (rate n : ℕ) (line : List ℕ)
    → (let as-length = spelt "0 0 " ++ (count_text z ++ (spelt " 0 0 - " ++ length_line n line)) in
    let as-position = spelt "0 0 @" ++ (count_text z ++ (spelt " 0 0 - " ++ length_line n line)) in
    (why_text rate (reason (Ok (Label (timecode z rate))) None n) line ≡ as-length)
    × (why_text rate (reason (Ok (Label (position z rate))) None n) line ≡ as-position)
    × ((format : FilmFormat) → why_text rate (reason (Ok (Footage (timecode z rate) format)) None n) line ≡ as-length)
    × ((format : FilmFormat) → why_text rate (reason (Ok (Footage (position z rate) format)) None n) line ≡ as-position))

-- `NUMBER PLACE 0`, behind that a fact, and `LENGTH LINE` last
abbrev pub turned_down : Refusal → (fact : List ℕ) (n : ℕ) (line : List ℕ) → List ℕ
turned_down e fact n line = signed_text false (refusal_number e) ++ (32 ∷ signed_text false e.place ++ (spelt " 0 " ++ (fact ++ (32 ∷ length_line n line))))

-- a text that is turned down with no fact behind it is shown as `NUMBER PLACE 0 0 0 - LENGTH LINE`
abbrev pub WhyRefusedShown : Type 0
WhyRefusedShown =
    (e : Refusal) (rate n : ℕ) (line : List ℕ) → why_text rate (reason (Err e) None n) line ≡ turned_down e (spelt "0 0 -") n line

-- one with a field at fault as `NUMBER PLACE 0 LIMIT VALUE - LENGTH LINE`, both by the field's sign
abbrev pub WhyLimitShown : Type 0
WhyLimitShown =
    (e : Refusal) (f : Fault) (rate n : ℕ) (line : List ℕ)
    → why_text rate (reason (Err e) (Some (Limit f)) n) line
    ≡ turned_down e (signed_text f.minus f.limit ++ (32 ∷ signed_text f.minus f.value ++ spelt " -")) n line

-- one that is a dropped label as `NUMBER PLACE 0 0 0 LABEL LENGTH LINE`, the label as the label writer has it at the rate
abbrev pub WhyFirstShown : Type 0
WhyFirstShown =
    (e : Refusal) (s : TimecodeSections) (rate n : ℕ) (line : List ℕ)
    → why_text rate (reason (Err e) (Some (First s)) n) line ≡ turned_down e (spelt "0 0 " ++ sections_text (frames_mark rate) s) n line

-- and where the phrase has no room, `refused N LINE` is shown
abbrev pub WhyNoRoomShown : Type 0
WhyNoRoomShown =
    (e : Refusal) (rate : ℕ) (line : List ℕ)
    → why_text rate (Err e) line ≡ spelt "refused " ++ (signed_text false (refusal_number e) ++ (32 ∷ line ++ (10 ∷ [])))

-- a worked case of each: an accepted position, a limit in either sign, a first allowed label, and no room
abbrev pub WhyWords : Type 0
WhyWords =
    (why_text 5 (reason (Ok (Label (position (pos 5) 5))) None 8) (spelt "accepted##") ≡ spelt "0 0 @5 0 0 - 8 accepted##" ++ (10 ∷ []))
    × (why_text 5 (reason (Err (refusal 14)) (Some (Limit (fault Hours false 23 24))) 17) (spelt "not a time of day")
    ≡ spelt "14 0 0 23 24 - 17 not a time of day" ++ (10 ∷ []))
    × (why_text 2 (reason (Err (refusal 5)) (Some (Limit (fault Count true 400000000 400000001))) 3) (spelt "...")
    ≡ spelt "5 0 0 -400000000 -400000001 - 3 ..." ++ (10 ∷ []))
    × (why_text 5
    (reason (Err (refusal 3)) (Some (First (record { negative = true; hours = 1; minutes = 2; seconds = 0; frames = 2 }))) 3) (spelt "...")
    ≡ spelt "3 0 0 0 0 -01:02:00;02 3 ..." ++ (10 ∷ []))
    × (why_text 5 (Err (refusal 8)) (spelt "##") ≡ spelt "refused 8 ##" ++ (10 ∷ []))

-- ---- the shards that a query asks
-- behind the text that the sheet has stands what a query is answered, where that has room
abbrev pub RoutedLine : Type 0
RoutedLine =
    (s : Sheet) (a : Result Shards Refusal) → s.used + length (routed_text a) ≤ length s.bytes → text_on (routed_on s a) ≡ text_on s ++ routed_text a

-- the first shard and the one after the last are shown as `FIRST AFTER`, a refusal as `refused N PLACE`
abbrev pub RoutedShown : Type 0
RoutedShown =
    ((first after : ℕ) → routed_text (shards first after) ≡ signed_text false first ++ (32 ∷ signed_text false after ++ (10 ∷ [])))
    × ((e : Refusal)
    → routed_text (Err e) ≡ spelt "refused " ++ (signed_text false (refusal_number e) ++ (32 ∷ signed_text false e.place ++ (10 ∷ []))))

-- a worked case of each: shards, none, and a label that is refused
abbrev pub RoutedWords : Type 0
RoutedWords =
    (routed_text (shards 9 256) ≡ spelt "9 256" ++ (10 ∷ []))
    × (routed_text (shards 0 0) ≡ spelt "0 0" ++ (10 ∷ []))
    × (routed_text (Err (at_place (refusal 1) 10)) ≡ spelt "refused 1 10" ++ (10 ∷ []))
