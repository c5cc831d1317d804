-- The limit and the value that are told of a field fit 64 bits with their sign.
-- Assumes nothing.
use Rattle.std.specs.Prelude.{Option, Some, None, Result, Ok, Err}
use Prim.Native.Nat.{ℕ, ◌-◌, ◌%◌, ◌^◌, ◌≤◌, ◌<◌}
use native.Mathlib.Omega.{arith}
use mathlib.Core.Path.{◌≡◌, refl}
use mathlib.Core.Bool.{Bool, true, false, cond, ◌&&◌}
use mathlib.Core.List.{List}
use lib.Dec.{ltb, eqb, leb}
use Rattle.answers.specs.Refusals.{most_count, beyond}
use Rattle.faults.specs.declared.Field.{Field}
use Rattle.faults.specs.declared.Field.TheVariants.{Count, Hours, Minutes, Seconds, Frames, Marker}
use Rattle.faults.specs.declared.Fault.{Fault}
use Rattle.faults.specs.Faults.{fault, under, exactly, sign_fault, count_fault, leftmost}
use Rattle.rates.specs.Rates.{is_rate, rate_row, drop_frames}
use Rattle.rates.proofs.Sound.{sound}
use Rattle.film.specs.declared.FilmFormat.{FilmFormat}
use Rattle.film.specs.declared.FilmFormat.TheVariants.{FF35mm4perf, FF35mm3perf, FF35mm2perf, FF16mm}
use Rattle.film.specs.OnFilm.{leaves_two, frames_in_foot}
use Rattle.film.specs.Footage.{footage_count, footage_or}
use Rattle.film.specs.FootageLaws.{count-le}
use Rattle.film.specs.Faults.{marker_fault, film_fault}
use Rattle.labels.specs.Label.{hours_in, minutes_in, seconds_in, frames_in, label_count, count_in, is_short, Short}
use Rattle.labels.specs.AtRate.{frames_or}
use Rattle.labels.specs.BoundLaws.{number_short}
use Rattle.labels.specs.Faults.{strict_fault}
use Rattle.labels.specs.Sections.{label_number}
use Rattle.scanner.specs.declared.text.Misfit.{Misfit}
use Rattle.scanner.specs.declared.text.Misfit.TheVariants.{TooLong, NoShape}
use Rattle.label_scan.specs.declared.LabelScan.{LabelScan}
use Rattle.label_scan.specs.Label.{label_scan}
use Rattle.footage_scan.specs.declared.FootageScan.{FootageScan}
use Rattle.footage_scan.specs.Footage.{footage_scan}
use Rattle.footage_scan.proofs.Statements.{footage_below}
use Rattle.reading.specs.Shaped.{Shaped, label, footage, refused, format_for, label_or, footage_shaped, shape_of}
use Rattle.reading.specs.For.{position_fault}
use Rattle.reasons.specs.declared.Fact.{Fact}
use Rattle.reasons.specs.declared.Fact.TheVariants as fact
use Rattle.reasons.specs.Facts.{limit_from, first_label, label_fact, footage_fact, fact_by}
use Rattle.reasons.proofs.Told.{short-scanned}

-- a fault that fits, and a fact
abbrev Small : Fault → Type 0
Small f = (f.limit < 2 ^ 63) × (f.value < 2 ^ 63)

abbrev SmallIn : Option Fault → Type 0
SmallIn None = Unit {0}
SmallIn (Some f) = Small f

abbrev pub SmallFact : Option Fact → Type 0
SmallFact None = Unit {0}
SmallFact (Some (fact.Limit f)) = Small f
SmallFact (Some (fact.First s)) = Unit {0}

-- ---- what is found
by-test : (t : Bool) (f : Fault) → Small f → SmallIn (cond t None (Some f))
by-test true f h = tt
by-test false f h = h

under-small : (field : Field) (bound value : ℕ) → bound ≤ 100 → value < 1000000000 → SmallIn (under field bound value)
unfolding under
under-small field bound value b v = by-test (ltb value bound) (fault field false (bound - 1) value) (omega arith, omega arith)

count_small : (minus : Bool) (m : ℕ) → m < 1000000000000000 → SmallIn (count_fault minus m)
unfolding count_fault
count_small minus m h = by-test (leb m most_count) (fault Count minus most_count m) (omega arith, omega arith)

marker-small : (feet : ℕ) (marked : Bool) (marker : ℕ) → marker < 1000000000 → SmallIn (marker_fault feet marked marker)
unfolding marker_fault exactly
marker-small feet true marker h = by-test (eqb marker (feet % 3)) (fault Marker false (feet % 3) marker) (omega arith, omega arith)
marker-small feet false marker h = tt

leftmost-small : (left right : Option Fault) → SmallIn left → SmallIn right → SmallIn (leftmost left right)
leftmost-small None right a b = b
leftmost-small (Some f) right a b = a

sign_small : (minus : Bool) → SmallIn (sign_fault minus)
sign_small true = (omega arith, omega arith)
sign_small false = tt

limit-small : (found : Option Fault) → SmallIn found → SmallFact (limit_from found)
limit-small None h = tt
limit-small (Some f) h = h

-- ---- the counts
-- a label's count is at most its number
count-number : (timebase D : ℕ) (fields : List ℕ) → count_in timebase D fields ≤ label_number timebase fields
unfolding label_count
count-number timebase D fields = omega arith

frames_small : (rate : ℕ) (fields : List ℕ) → Short fields → frames_or rate fields < 1000000000000000
unfolding frames_or
frames_small rate fields s = by (is_rate rate) refl (is_short fields)
  where
    by : (r : Bool) → is_rate rate ≡ r → (t : Bool)
        → cond (r && t) (count_in (rate_row rate).timebase (drop_frames rate) fields) beyond < 1000000000000000
    by true e true =
        let low = count-number (rate_row rate).timebase (drop_frames rate) fields in
        let high = number_short (rate_row rate).timebase (sound rate e).timebase_most fields s in
        omega (arith, low, high)
    by true e false = omega arith
    by false e t = omega arith

feet-small : (format : FilmFormat) (feet frames : ℕ) → feet < 1000000000 → frames < 1000000000 → footage_or format feet frames < 1000000000000000
unfolding footage_or
feet-small format feet frames h k = by (ltb feet beyond && ltb frames beyond)
  where
    by : (t : Bool) → cond t (footage_count format feet frames) beyond < 1000000000000000
    by true = omega (arith, count-le format feet frames)
    by false = omega arith

foot-small : (format : FilmFormat) (feet : ℕ) → frames_in_foot format feet ≤ 100
foot-small FF35mm4perf feet = omega arith
foot-small FF35mm3perf feet = by (leaves_two feet)
  where
    by : (t : Bool) → cond t 22 21 ≤ 100
    by true = omega arith
    by false = omega arith
foot-small FF35mm2perf feet = omega arith
foot-small FF16mm feet = omega arith

-- ---- by shape
abbrev SmallShape : Shaped → Type 0
SmallShape (label minus fields) = Short fields
SmallShape (footage minus feet frames perf marker) = (feet < 1000000000) × (frames < 1000000000) × (marker < 1000000000)
SmallShape (refused e) = Unit {0}

footage-shape-small : (stopped : ℕ) (text : List ℕ) (scanned : Result FootageScan Misfit) → footage_scan text ≡ scanned
    → SmallShape (footage_shaped stopped scanned)
footage-shape-small stopped text (Ok scan) e = footage_below text scan e
footage-shape-small stopped text (Err (TooLong place)) e = tt
footage-shape-small stopped text (Err (NoShape stop)) e = tt

shape-small : (stated : Option ℕ) (text : List ℕ) → SmallShape (shape_of stated text)
shape-small None text = by (label_scan text) refl
  where
    by : (scanned : Result LabelScan Misfit) → label_scan text ≡ scanned
        → SmallShape (label_or (λ stop. footage_shaped stop (footage_scan text)) scanned)
    by (Ok scan) e = short-scanned text scan e
    by (Err (TooLong place)) e = tt
    by (Err (NoShape stop)) e = footage-shape-small stop text (footage_scan text) refl
shape-small (Some n) text = footage-shape-small 0 text (footage_scan text) refl

-- ---- the fact
by_number : (t : Bool) (a b : Option Fact) → SmallFact a → SmallFact b → SmallFact (cond t a b)
by_number true a b p q = p
by_number false a b p q = q

strict-small : (timebase : ℕ) (fields : List ℕ) → timebase ≤ 60 → Short fields → SmallIn (strict_fault timebase fields)
unfolding strict_fault
strict-small timebase fields b s =
    let hours = under Hours 24 (hours_in fields) in
    let minutes = under Minutes 60 (minutes_in fields) in
    let seconds = under Seconds 60 (seconds_in fields) in
    let frames = under Frames timebase (frames_in fields) in
    leftmost-small hours (leftmost minutes (leftmost seconds frames)) (under-small Hours 24 (hours_in fields) (omega arith) s.hours)
    (leftmost-small minutes (leftmost seconds frames) (under-small Minutes 60 (minutes_in fields) (omega arith) s.minutes)
    (leftmost-small seconds frames (under-small Seconds 60 (seconds_in fields) (omega arith) s.seconds)
    (under-small Frames timebase (frames_in fields) (omega arith) s.frames)))

position-small : (rate : ℕ) (minus : Bool) (fields : List ℕ) → is_rate rate ≡ true → Short fields → SmallIn (position_fault rate minus fields)
unfolding position_fault
position-small rate minus fields r s =
    leftmost-small (sign_fault minus) (strict_fault (rate_row rate).timebase fields) (sign_small minus)
    (strict-small (rate_row rate).timebase fields (sound rate r).timebase_most s)

film-small : (format : FilmFormat) (feet frames : ℕ) (perf : Bool) (marker : ℕ) → frames < 1000000000 → marker < 1000000000
    → SmallIn (film_fault format feet frames perf marker)
unfolding film_fault
film-small format feet frames perf marker h k =
    leftmost-small (under Frames (frames_in_foot format feet) frames) (marker_fault feet perf marker)
    (under-small Frames (frames_in_foot format feet) frames (foot-small format feet) h) (marker-small feet perf marker k)

label_small : (number rate : ℕ) (minus : Bool) (fields : List ℕ) → is_rate rate ≡ true → Short fields → SmallFact (label_fact number rate minus fields)
unfolding label_fact
label_small number rate minus fields r s =
    by_number (eqb number 3) (Some (fact.First (first_label (drop_frames rate) minus fields)))
    (cond (eqb number 5) (limit_from (count_fault minus (frames_or rate fields)))
    (cond (eqb number 14) (limit_from (position_fault rate minus fields)) None))
    tt
    (by_number (eqb number 5) (limit_from (count_fault minus (frames_or rate fields)))
    (cond (eqb number 14) (limit_from (position_fault rate minus fields)) None)
    (limit-small (count_fault minus (frames_or rate fields)) (count_small minus (frames_or rate fields) (frames_small rate fields s)))
    (by_number (eqb number 14) (limit_from (position_fault rate minus fields)) None
    (limit-small (position_fault rate minus fields) (position-small rate minus fields r s)) tt))

footage-small : (number : ℕ) (format : FilmFormat) (minus : Bool) (feet frames : ℕ) (perf : Bool) (marker : ℕ)
    → (feet < 1000000000) × (frames < 1000000000) × (marker < 1000000000) → SmallFact (footage_fact number format minus feet frames perf marker)
unfolding footage_fact
footage-small number format minus feet frames perf marker b =
    by_number (eqb number 5) (limit_from (count_fault minus (footage_or format feet frames)))
    (cond (eqb number 13) (limit_from (film_fault format feet frames perf marker)) None)
    (limit-small (count_fault minus (footage_or format feet frames)) (count_small minus (footage_or format feet frames) (feet-small format feet frames b.0 b.1)))
    (by_number (eqb number 13) (limit_from (film_fault format feet frames perf marker)) None
    (limit-small (film_fault format feet frames perf marker) (film-small format feet frames perf marker b.1 b.2)) tt)

pub fact_small : (number rate : ℕ) (stated : Option ℕ) (text : List ℕ) → is_rate rate ≡ true → SmallFact (fact_by number rate stated (shape_of stated text))
fact_small number rate stated text r = by (shape_of stated text) (shape-small stated text)
  where
    by : (x : Shaped) → SmallShape x → SmallFact (fact_by number rate stated x)
    by (label minus fields) s = label_small number rate minus fields r s
    by (footage minus feet frames perf marker) b = footage-small number (format_for stated perf) minus feet frames perf marker b
    by (refused e) u = tt
