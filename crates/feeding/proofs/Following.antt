-- The code follows the machine: each return is one of its steps, and a line at once is the line's bytes one by one.
-- Assumes nothing.
use Prim.Native.Nat.{ℕ, suc, ◌+◌, ◌-◌, ◌≤◌, ◌<◌, min}
use mathlib.Core.Path.{◌≡◌, refl, sym, ap, ◌∙◌}
use mathlib.Core.Logic.{◌⊎◌, inl, inr}
use mathlib.Core.List.{List, [], ◌∷◌}
use mathlib.Core.Bool.{Bool, true, false, cond, ◌&&◌}
use native.Mathlib.Omega.{arith}
use lib.Dec.{eqb, ltb}
use lib.ListN.{length, take, drop, length-drop, drop_of_length-le}
use lib.Seq.{take_all, drop-cons, drop-drop}
use borrow.Author.Tests.{ltb-true, ltb-false, leb-true, leb-false}
use Rattle.lent.specs.Line.{fits}
use Rattle.written.specs.Written.{Text, answer_to, line_to, length_of}
use Rattle.written.proofs.Laws.{text-written}
use Rattle.written.proofs.Statements.{no_room_exactly}
use Rattle.lines.specs.Output.{answer_text}
use Rattle.streams.specs.declared.gathered.Gathered.{Gathered}
use Rattle.streams.specs.declared.gathered.Step.{Step}
use Rattle.streams.specs.Gathering.{no_byte, is_empty, taken, buffer_taken, Gathering, gathering, gather_from}
use Rattle.streams.specs.Sheet.{Sheet, sheet, sheet_of, lent_by, put_on}
use Rattle.streams.specs.Turns.{gone_on}
use Rattle.streams.proofs.Gathering.{next_le, next-lt, next-within, gather-length}
use Rattle.streams.proofs.Putting.{put-length, put_lent_by}
use Rattle.feeding.specs.Feeding.{answered, Machine, machine, next, goes_on, After, taken_to, fed_from, begun, fed_of, line_ended, stepped, finished}

-- ---- a byte more of the chunk, and room
both_left : (x y : Bool) → (x && y) ≡ true → x ≡ true
both_left true y e = refl
both_left false y e = e

both_right : (x y : Bool) → (x && y) ≡ true → y ≡ true
both_right true y e = e
both_right false y e = absurd (let z : ◌≡◌ {A = ℕ} 0 1 = cc in omega arith)

-- ---- the answer to what is kept of a line
module _ (buffer : List ℕ) (len n : ℕ) (e : n ≡ min len (length buffer)) where
  pub part-is : take n buffer ≡ take len buffer
  part-is = by (ltb len (length buffer)) refl
    where
      by : (x : Bool) → ltb len (length buffer) ≡ x → take n buffer ≡ take len buffer
      by true f = let m : n ≡ len = omega (arith, ltb-true len (length buffer) f) in rw m
      by false f =
          let l = ltb-false len (length buffer) f in
          take_all n buffer (omega arith) ∙ sym (take_all len buffer l)

-- ---- the answer laid into a sheet's bytes
-- for one who calls `answer` of `lines` on the bytes of a sheet: what it leaves is what is put on the sheet
module _ (out : List ℕ) (used : ℕ) (t : List ℕ) where
  -- a text that fits is answered by its length, any other by a refusal
  long-in : used + length t ≤ length out → length_of (answer_to out used (Text t)) ≡ length t
  long-in h = ap length_of (text-written out used t h).0

  long-out : length out < used + length t → length_of (answer_to out used (Text t)) ≡ 0
  long-out h = ap length_of ((no_room_exactly out used t).1 h)

  -- a text laid down from the place behind what is used is put on the sheet
  laid-used : used + length_of (answer_to out used (Text t)) ≡ (put_on (sheet out used) t).used
  unfolding put_on
  laid-used = by (fits out used t) refl
    where
      by : (x : Bool) → fits out used t ≡ x → used + length_of (answer_to out used (Text t)) ≡ cond (fits out used t) (used + length t) used
      by true e = rw (long-in (leb-true (used + length t) (length out) e), e)
      by false e = rw (long-out (leb-false (used + length t) (length out) e), e) (omega arith)

  laid-bytes : line_to out used (Text t) ≡ (put_on (sheet out used) t).bytes
  unfolding line_to put_on
  laid-bytes = refl

  -- it fits, or nothing is laid down
  pub laid-fits : (used + length_of (answer_to out used (Text t)) ≤ length out) ⊎ (length_of (answer_to out used (Text t)) ≡ 0)
  laid-fits = by (fits out used t) refl
    where
      by : (x : Bool) → fits out used t ≡ x
          → (used + length_of (answer_to out used (Text t)) ≤ length out) ⊎ (length_of (answer_to out used (Text t)) ≡ 0)
      by true e = let h = leb-true (used + length t) (length out) e in inl (omega (arith, long-in h))
      by false e = inr (long-out (leb-false (used + length t) (length out) e))

-- an answer that was laid down from the place behind what is used is the answer behind what the sheet has
pub answer-is : (buffer : List ℕ) (g : Gathered) (s : Sheet) (n k : ℕ) (last : List ℕ) → n ≡ min g.len (length buffer)
    → k ≡ length_of (answer_to s.bytes s.used (Text (answer_text (take n buffer)))) → last ≡ line_to s.bytes s.used (Text (answer_text (take n buffer)))
    → sheet_of s.lender last (s.used + k) ≡ answered buffer g s
unfolding answered put_on
answer-is buffer g s n k last e p q =
    let t = answer_text (take n buffer) in
    rw (q ∙ laid-bytes s.bytes s.used t, p, laid-used s.bytes s.used t) (ap (λ z. put_on s (answer_text z)) (part-is buffer g.len n e))

-- ---- the bytes up to the next newline
-- a step of the loop of `feed`
pub step-is : (chunk buffer : List ℕ) (s s' : Sheet) (g g' : Gathered) (eaten : ℕ) (st : Step) (buffer' : List ℕ)
    → st ≡ (gather_from eaten buffer g (drop eaten chunk)).step → buffer' ≡ (gather_from eaten buffer g (drop eaten chunk)).buffer
    → s' ≡ cond st.ended (answered buffer' st.gathered s) s → g' ≡ gone_on st
    → taken_to (machine buffer' g' s') st.next ≡ stepped chunk (taken_to (machine buffer g s) eaten)
unfolding stepped
step-is chunk buffer s s' g g' eaten st buffer' p q r u =
    rw (r, u, p, q) (by (gather_from eaten buffer g (drop eaten chunk)).step.ended)
  where
    by : (x : Bool)
        → let e = gather_from eaten buffer g (drop eaten chunk) in
        taken_to (machine e.buffer (cond x no_byte e.step.gathered) (cond x (answered e.buffer e.step.gathered s) s)) e.step.next
        ≡ taken_to (line_ended x e s) e.step.next
    by true = refl
    by false = refl

-- ---- the machine takes them one by one
pub next-end : (m : Machine) (b : ℕ) → eqb b 10 ≡ true → next m b ≡ machine m.buffer no_byte (answered m.buffer m.gathered m.sheet)
unfolding next
next-end m b e = rw e

pub next-byte : (m : Machine) (b : ℕ) → eqb b 10 ≡ false
    → next m b ≡ machine (buffer_taken m.buffer m.gathered b) (taken m.buffer m.gathered) m.sheet
unfolding next
next-byte m b e = rw e

fed-line : (l : List ℕ) (i : ℕ) (m : Machine) → goes_on (length m.sheet.bytes) m.sheet.used ≡ true
    → let e = gather_from i m.buffer m.gathered l in
    fed_from i m l ≡ fed_from e.step.next (line_ended e.step.ended e m.sheet) (drop (e.step.next - i) l)
unfolding fed_from gather_from
fed-line [] i m t = let n : i - i ≡ 0 = omega arith in rw n
fed-line (b ∷ l) i m t =
    rw t
    (by (eqb b 10) refl (next_le l (suc i) (buffer_taken m.buffer m.gathered b) (taken m.buffer m.gathered))
    (fed-line l (suc i) (machine (buffer_taken m.buffer m.gathered b) (taken m.buffer m.gathered) m.sheet) t))
  where
    more : Gathering
    more = gather_from (suc i) (buffer_taken m.buffer m.gathered b) (taken m.buffer m.gathered) l

    by : (x : Bool) → eqb b 10 ≡ x → suc i ≤ more.step.next
        → fed_from (suc i) (machine (buffer_taken m.buffer m.gathered b) (taken m.buffer m.gathered) m.sheet) l
        ≡ fed_from more.step.next (line_ended more.step.ended more m.sheet) (drop (more.step.next - suc i) l)
        → let e = cond {A = Gathering} x (gathering m.buffer m.gathered (suc i) true) more in
        fed_from (suc i) (next m b) l ≡ fed_from e.step.next (line_ended e.step.ended e m.sheet) (drop (e.step.next - i) (b ∷ l))
    by true e h ih = let n : suc i - i ≡ 1 = omega arith in rw (n, next-end m b e)
    by false e h ih =
        let n : more.step.next - i ≡ suc (more.step.next - suc i) = omega arith in
        rw (n, next-byte m b e) ih

-- ---- lengths stay
answered-length : (buffer : List ℕ) (g : Gathered) (s : Sheet) → length (answered buffer g s).bytes ≡ length s.bytes
unfolding answered
answered-length buffer g s = put-length s (answer_text (take g.len buffer))

pub next-length : (m : Machine) (b : ℕ) → length (next m b).sheet.bytes ≡ length m.sheet.bytes
next-length m b = by (eqb b 10) refl
  where
    by : (x : Bool) → eqb b 10 ≡ x → length (next m b).sheet.bytes ≡ length m.sheet.bytes
    by true e = ap (λ z. length z.sheet.bytes) (next-end m b e) ∙ answered-length m.buffer m.gathered m.sheet
    by false e = ap (λ z. length z.sheet.bytes) (next-byte m b e)

ended-length : (x : Bool) (e : Gathering) (s : Sheet)
    → ((line_ended x e s).buffer ≡ e.buffer) × (length (line_ended x e s).sheet.bytes ≡ length s.bytes)
ended-length true e s = (refl, answered-length e.buffer e.step.gathered s)
ended-length false e s = (refl, refl)

-- ---- the loop of `feed`: what is wanted from here is what is wanted from the start
pub record Run (chunk : List ℕ) (m₀ : Machine) (f : After) : Type 0 where
  pub within : f.eaten ≤ length chunk
  pub buffer_long : length f.machine.buffer ≡ length m₀.buffer
  pub sheet_long : length f.machine.sheet.bytes ≡ length m₀.sheet.bytes
  pub same : fed_from 0 m₀ chunk ≡ fed_from f.eaten f.machine (drop f.eaten chunk)

pub run-start : (chunk : List ℕ) (m : Machine) → Run chunk m (taken_to m 0)
run-start chunk m = record { within = omega arith; buffer_long = refl; sheet_long = refl; same = refl }

module _ (chunk : List ℕ) (f : After) (l : f.eaten < length chunk) where
  rest_some : 0 < length (drop f.eaten chunk)
  rest_some = omega (arith, length-drop f.eaten chunk)

  -- a byte more is taken, and none past the chunk
  pub step-more : f.eaten < (stepped chunk f).eaten
  unfolding stepped
  step-more = next-lt (drop f.eaten chunk) f.eaten f.machine.buffer f.machine.gathered rest_some

  step-within : (stepped chunk f).eaten ≤ length chunk
  unfolding stepped
  step-within =
      omega (arith, next-within (drop f.eaten chunk) f.eaten f.machine.buffer f.machine.gathered, length-drop f.eaten chunk)

  pub run-turn : (m₀ : Machine) → Run chunk m₀ f → goes_on (length f.machine.sheet.bytes) f.machine.sheet.used ≡ true
      → Run chunk m₀ (stepped chunk f)
  unfolding stepped
  run-turn m₀ s t = record {
    within = step-within;
    buffer_long = one.0;
    sheet_long = one.1.0;
    same = s.same ∙ one.1.1;
  }
    where
      one : (length (stepped chunk f).machine.buffer ≡ length m₀.buffer)
          × ((length (stepped chunk f).machine.sheet.bytes ≡ length m₀.sheet.bytes)
          × (fed_from f.eaten f.machine (drop f.eaten chunk)
          ≡ fed_from (stepped chunk f).eaten (stepped chunk f).machine (drop (stepped chunk f).eaten chunk)))
      one =
          let m = f.machine in
          let rest = drop f.eaten chunk in
          let e = gather_from f.eaten m.buffer m.gathered rest in
          let long = ended-length e.step.ended e m.sheet in
          let place : f.eaten + (e.step.next - f.eaten) ≡ e.step.next = omega (arith, next_le rest f.eaten m.buffer m.gathered) in (
            ap length long.0 ∙ gather-length rest f.eaten m.buffer m.gathered ∙ s.buffer_long,
            (
              long.1 ∙ s.sheet_long,
              fed-line rest f.eaten m t
                  ∙ ap (fed_from e.step.next (line_ended e.step.ended e m.sheet))
                  (drop-drop (e.step.next - f.eaten) f.eaten chunk ∙ ap (λ k. drop k chunk) place),
            ),
          )

-- from what `goes_on` answered
module _ (chunk : List ℕ) (f : After) (r : Bool)
    (e : r ≡ (ltb f.eaten (length chunk) && goes_on (length f.machine.sheet.bytes) f.machine.sheet.used)) where
  pub on-within : r ≡ true → f.eaten < length chunk
  on-within t = ltb-true f.eaten (length chunk) (both_left (ltb f.eaten (length chunk)) _ (sym e ∙ t))

  pub on_room : r ≡ true → goes_on (length f.machine.sheet.bytes) f.machine.sheet.used ≡ true
  on_room t = both_right (ltb f.eaten (length chunk)) _ (sym e ∙ t)

  pub run-done : (m₀ : Machine) → Run chunk m₀ f → r ≡ false → fed_from 0 m₀ chunk ≡ f
  unfolding fed_from
  run-done m₀ s t = s.same ∙ by (ltb f.eaten (length chunk)) refl (sym e ∙ t)
    where
      by : (x : Bool) → ltb f.eaten (length chunk) ≡ x → (x && goes_on (length f.machine.sheet.bytes) f.machine.sheet.used) ≡ false
          → fed_from f.eaten f.machine (drop f.eaten chunk) ≡ f
      by true g u = rw (drop-cons chunk f.eaten 0 (ltb-true f.eaten (length chunk) g), u)
      by false g u = rw (drop_of_length-le chunk {i = f.eaten} (ltb-false f.eaten (length chunk) g))

-- ---- whoever lent the sheet
module _ (lender : List ℕ) where
  -- the same machine, and the same after a part of a chunk, over the sheet of another lender
  abbrev pub lent_machine : Machine → Machine
  lent_machine m = machine m.buffer m.gathered (lent_by lender m.sheet)

  abbrev pub lent_after : After → After
  lent_after f = taken_to (lent_machine f.machine) f.eaten

  answered-lent : (buffer : List ℕ) (g : Gathered) (s : Sheet) → answered buffer g (lent_by lender s) ≡ lent_by lender (answered buffer g s)
  unfolding answered
  answered-lent buffer g s = put_lent_by lender s (answer_text (take g.len buffer))

  next-lent : (m : Machine) (b : ℕ) → next (lent_machine m) b ≡ lent_machine (next m b)
  next-lent m b = by (eqb b 10) refl
    where
      by : (x : Bool) → eqb b 10 ≡ x → next (lent_machine m) b ≡ lent_machine (next m b)
      by true e =
          next-end (lent_machine m) b e
          ∙ ap (machine m.buffer no_byte) (answered-lent m.buffer m.gathered m.sheet)
          ∙ ap lent_machine (sym (next-end m b e))
      by false e = next-byte (lent_machine m) b e ∙ ap lent_machine (sym (next-byte m b e))

  fed-lent : (l : List ℕ) (i : ℕ) (m : Machine) → fed_from i (lent_machine m) l ≡ lent_after (fed_from i m l)
  unfolding fed_from
  fed-lent [] i m = refl
  fed-lent (b ∷ l) i m =
      by (goes_on (length m.sheet.bytes) m.sheet.used) (ap (λ z. fed_from (suc i) z l) (next-lent m b) ∙ fed-lent l (suc i) (next m b))
    where
      by : (x : Bool) → fed_from (suc i) (next (lent_machine m) b) l ≡ lent_after (fed_from (suc i) (next m b) l)
          → cond x (fed_from (suc i) (next (lent_machine m) b) l) (taken_to (lent_machine m) i)
          ≡ lent_after (cond x (fed_from (suc i) (next m b) l) (taken_to m i))
      by true e = e
      by false e = refl

  -- a chunk, onto the empty sheet of a lender
  pub fed-as : (buffer out : List ℕ) (g : Gathered) (chunk : List ℕ)
      → fed_from 0 (lent_machine (begun buffer out g)) chunk ≡ lent_after (fed_of buffer out g chunk)
  fed-as buffer out g chunk = fed-lent chunk 0 (begun buffer out g)

  -- the end of the input
  pub finished-empty : (buffer out : List ℕ) (g : Gathered) → is_empty g ≡ true → sheet_of lender out 0 ≡ lent_by lender (finished buffer out g)
  unfolding finished
  finished-empty buffer out g e = rw e

  pub finished-last : (buffer out : List ℕ) (g : Gathered) → is_empty g ≡ false
      → answered buffer g (sheet_of lender out 0) ≡ lent_by lender (finished buffer out g)
  unfolding finished
  finished-last buffer out g e = rw e (answered-lent buffer g (sheet out 0))

-- an array's own sheet is the one that the definitions have
pub fed-own : (buffer out : List ℕ) (g : Gathered) (chunk : List ℕ)
    → lent_by [] (fed_of buffer out g chunk).machine.sheet ≡ (fed_of buffer out g chunk).machine.sheet
fed-own buffer out g chunk = ap (λ z. z.machine.sheet) (sym (fed-as [] buffer out g chunk))

pub finished-own : (buffer out : List ℕ) (g : Gathered) → lent_by [] (finished buffer out g) ≡ finished buffer out g
unfolding finished
finished-own buffer out g = by (is_empty g)
  where
    by : (x : Bool)
        → lent_by [] (cond x (sheet out 0) (answered buffer g (sheet out 0))) ≡ cond x (sheet out 0) (answered buffer g (sheet out 0))
    by true = refl
    by false = sym (answered-lent [] buffer g (sheet out 0))
