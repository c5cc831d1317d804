-- What a record is refused for, number by number (BEHAVIOUR: Shot lists), in plain numbers and not by the conditions' own definitions; the rate that holds;
-- what is allowed. Proofs: proofs/RefusalStatements.antt.
-- Assumes nothing.
use Rattle.std.specs.Prelude.{ℕ, ◌≤◌, ◌<◌, ◌≡◌, ◌↔◌, ◌⊎◌, List, [], ◌∷◌, ◌++◌, ℤ, nat_abs, length, ◌<ℤ◌}
use Rattle.answers.specs.Causes.{refusal_number}
use Rattle.answers.specs.Order.{Condition}
use Rattle.low_bytes.specs.LowBytes.{Bytes, worth}
use Rattle.shot_lists.specs.declared.records.Record.{Record}
use Rattle.shot_lists.specs.declared.records.Record.TheVariants.{Rate, Shot, Reel}
use Rattle.shot_lists.specs.Records.{Sound, held_behind}
use Rattle.shot_lists.specs.Grammar.{kind_byte, BodyOf, OneOnDisk}
use Rattle.shot_lists.specs.Entries.{Layout, on_disk, against, entry_of, taken}
use Rattle.shot_lists.specs.Reading.{number_in}

-- ---- the order

-- the numbers of conditions, in their order
abbrev pub numbers_in : List Condition → List ℕ
numbers_in [] = []
numbers_in (c ∷ cs) = (refusal_number c.refusal) ∷ numbers_in cs

-- 6 for a rate; 5 for either frame, 11, 12 for a shot; 5 for a reel
abbrev pub order_for : Record → List ℕ
order_for (Rate n) = 6 ∷ []
order_for (Shot start end) = 5 ∷ 5 ∷ 11 ∷ 12 ∷ []
order_for (Reel n) = 5 ∷ []

-- for a record in this order: 9, 10, 6 and 5 on its numbers, 11, 12
abbrev pub RefusalOrder : Type 1
RefusalOrder =
    (A : Type 0) (f : Layout A) (held : ℕ) (x : A) (l : List A) → numbers_in (against f held x l) ≡ 9 ∷ 10 ∷ order_for (f.made (f.kind x) l)

-- ---- on disk: kind and body

-- 9 exactly for a byte of kind that is none of 1, 2 and 3
abbrev pub NineExactly : Type 0
NineExactly = (held b : ℕ) (l : List ℕ) → (number_in (entry_of on_disk held (b ∷ l)) ≡ 9) ↔ ((b ≡ 1 → ⊥) × (b ≡ 2 → ⊥) × (b ≡ 3 → ⊥))

-- 10 exactly where fewer bytes are left than a body of that kind has
abbrev pub TenExactly : Type 0
TenExactly =
    (held : ℕ) (r : Record) (body l : List ℕ) → BodyOf r body → (number_in (entry_of on_disk held (kind_byte r ∷ l)) ≡ 10) ↔ (length l < length body)

-- ---- its numbers, where a rate is held: the record's bytes, before whatever comes behind them

-- 6 exactly for a rate that is none of 1 to 12
abbrev pub SixExactly : Type 0
SixExactly =
    (held n : ℕ) (part l : List ℕ) → OneOnDisk (Rate n) part → (number_in (entry_of on_disk held (part ++ l)) ≡ 6) ↔ ((n < 1) ⊎ (12 < n))

-- 5 exactly for a shot with a frame past 400,000,000 on either side of zero
abbrev pub FiveExactly : Type 0
FiveExactly =
    (held : ℕ) (start end : ℤ) (part l : List ℕ) → OneOnDisk (Shot start end) part
    → (number_in (entry_of on_disk held (part ++ l)) ≡ 5) ↔ ((400000000 < nat_abs start) ⊎ (400000000 < nat_abs end))

-- a frame within those bounds
abbrev pub Within400 : ℤ → Type 0
Within400 frame = nat_abs frame ≤ 400000000

-- the rates of a list, one after the other
abbrev pub rates_in : List Record → List ℕ
rates_in [] = []
rates_in (Rate n ∷ rs) = n ∷ rates_in rs
rates_in (Shot start end ∷ rs) = rates_in rs
rates_in (Reel n ∷ rs) = rates_in rs

-- 11 exactly for a shot of such frames before which no rate stands
abbrev pub ElevenExactly : Type 0
ElevenExactly =
    (before : List Record) (start end : ℤ) (part l : List ℕ) → Sound 0 before → OneOnDisk (Shot start end) part → Within400 start → Within400 end
    → (number_in (entry_of on_disk (held_behind 0 before) (part ++ l)) ≡ 11) ↔ (rates_in before ≡ [])

-- 12 exactly for a shot of such frames behind a rate whose end lies before its first frame
abbrev pub TwelveExactly : Type 0
TwelveExactly =
    (held : ℕ) (start end : ℤ) (part l : List ℕ) → 1 ≤ held → held ≤ 12 → OneOnDisk (Shot start end) part → Within400 start → Within400 end
    → (number_in (entry_of on_disk held (part ++ l)) ≡ 12) ↔ (end <ℤ start)

-- ---- what holds, and what is allowed

-- the last of the rates; where there is none, another number
abbrev pub last_of : (none : ℕ) → List ℕ → ℕ
last_of none [] = none
last_of none (n ∷ l) = last_of n l

-- a rate holds until the next one: behind a list the last of its rates is held, and where it has none, what was held before
abbrev pub RateHolds : Type 0
RateHolds = (held : ℕ) (rs : List Record) → held_behind held rs ≡ last_of held (rates_in rs)

-- equal first and end is an allowed empty shot
abbrev pub EmptyShot : Type 0
EmptyShot =
    (held : ℕ) (frame : ℤ) (part l : List ℕ) → 1 ≤ held → held ≤ 12 → OneOnDisk (Shot frame frame) part → Within400 frame
    → entry_of on_disk held (part ++ l) ≡ taken (Shot frame frame) held (length part)

-- any four bytes are a reel, whatever rate is held, and it stays held
abbrev pub AnyReel : Type 0
AnyReel =
    (held : ℕ) (body l : List ℕ) → length body ≡ 4 → Bytes body → entry_of on_disk held (3 ∷ (body ++ l)) ≡ taken (Reel (worth body)) held 5
