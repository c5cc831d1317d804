-- What the machine stands for: the line so far, and the answers to the lines that have ended.
-- Assumes nothing.
use Prim.Native.Nat.{ℕ, suc, ◌+◌, ◌*◌, ◌≤◌, ◌<◌}
use mathlib.Core.Path.{◌≡◌, refl, sym, ap, ◌∙◌}
use mathlib.Core.Logic.{◌⊎◌, inl, inr, ⊎_elim}
use mathlib.Core.List.{List, [], ◌∷◌, ◌++◌, append_assoc, append-nil}
use mathlib.Core.Bool.{Bool, true, false, cond}
use native.Mathlib.Omega.{arith}
use lib.Dec.{eqb, ltb}
use lib.ListN.{length, take, length-take}
use lib.Seq.{take_all}
use borrow.Author.Tests.{le-leb, lt-leb, leb-true, leb-false, ltb-true, ltb-false, eqb-true, eqb-false, ne_eqb}
use Rattle.lines.specs.Input.{is_line}
use Rattle.lines.specs.Output.{answer_text}
use Rattle.lines.proofs.Statements.{not_begun, short_answer}
use Rattle.streams.specs.declared.gathered.Gathered.{Gathered}
use Rattle.streams.specs.Parting.{parted, last_line, each}
use Rattle.streams.specs.Gathering.{is_empty}
use Rattle.streams.specs.Sheet.{Sheet, sheet, text_on}
use Rattle.streams.proofs.Parting.{parted-end, parted-byte, each-cons}
use Rattle.streams.proofs.Putting.{Laid, put_is, put-used}
use Rattle.streams.proofs.Standing.{Stands, stands-none, stands-byte, stands-empty}
use Rattle.feeding.specs.Feeding.{answered, Machine, next, goes_on, After, taken_to, fed_from, begun, fed_of, finished}
use Rattle.feeding.proofs.Following.{next-end, next-byte, next-length}

-- ---- the answer: 65 bytes of a line are enough
-- over 64 bytes it is no line
over-not : (l : List ℕ) → 64 < length l → is_line l ≡ false
unfolding is_line
over-not l h = rw (lt-leb (length l) 64 h)

pub first-enough : (n : ℕ) (held : List ℕ) → 65 ≤ n → answer_text (take n held) ≡ answer_text held
first-enough n held h = by (ltb n (length held)) refl
  where
    by : (x : Bool) → ltb n (length held) ≡ x → answer_text (take n held) ≡ answer_text held
    by true e =
        let l = ltb-true n (length held) e in
        let m : length (take n held) ≡ n = length-take n held ∙ omega arith in
        not_begun (take n held) (over-not (take n held) (omega arith)) ∙ sym (not_begun held (over-not held (omega arith)))
    by false e = ap answer_text (take_all n held (ltb-false n (length held) e))

answered-is : (n : ℕ) (buffer : List ℕ) (g : Gathered) (held : List ℕ) (s : Sheet) → Stands n buffer g held → 65 ≤ n
    → s.used + 47 ≤ length s.bytes → Laid s (answered buffer g s) (answer_text held)
unfolding answered
answered-is n buffer g held s t h r =
    let e : answer_text (take g.len buffer) ≡ answer_text held = ap answer_text t.kept ∙ first-enough n held h in
    rw e (put_is s (answer_text held) (omega (arith, short_answer held)))

-- ---- the machine stands for a line so far, and a text so far
pub record Holds (n : ℕ) (m : Machine) (held t : List ℕ) : Type 0 where
  pub line : Stands n m.buffer m.gathered held
  pub fits : m.sheet.used ≤ length m.sheet.bytes
  pub is : text_on m.sheet ≡ t

module _ (n : ℕ) (m : Machine) (held t : List ℕ) (b : ℕ) (s : Holds n m held t) where
  holds-end : 65 ≤ n → eqb b 10 ≡ true → m.sheet.used + 47 ≤ length m.sheet.bytes → Holds n (next m b) [] (t ++ answer_text held)
  holds-end h e r =
      let a = answered-is n m.buffer m.gathered held m.sheet s.line h r in
      rw (next-end m b e) (record {
        line = stands-none n m.buffer s.line.size;
        fits = omega (arith, a.more, a.long, short_answer held);
        is = a.is ∙ ap (λ z. z ++ answer_text held) s.is;
      })

  holds-byte : eqb b 10 ≡ false → Holds n (next m b) (held ++ (b ∷ [])) t
  holds-byte e =
      rw (next-byte m b e) (record {
        line = stands-byte n m.buffer m.gathered held s.line b;
        fits = s.fits;
        is = s.is;
      })

-- ---- a chunk: of its first k bytes, those that are taken, the machine stands for what the fold has
pub record Went (n i : ℕ) (e : After) (l held t : List ℕ) : Type 0 where
  pub k : ℕ
  pub eaten : e.eaten ≡ i + k
  pub within : k ≤ length l
  pub holds : Holds n e.machine (parted held (take k l)).rest (t ++ each answer_text (parted held (take k l)).done)

went-none : (n i : ℕ) (m : Machine) (l held t : List ℕ) → Holds n m held t → Went n i (taken_to m i) l held t
unfolding parted each
went-none n i m l held t s = record { k = 0; eaten = omega arith; within = omega arith; holds = rw (append-nil t) s }

went-more : (n i : ℕ) (e : After) (l held t : List ℕ) (b : ℕ) (held' t' : List ℕ) (d : List ℕ)
    → ((r : List ℕ) → (parted held (b ∷ r)).rest ≡ (parted held' r).rest)
    → ((r : List ℕ) → each answer_text (parted held (b ∷ r)).done ≡ d ++ each answer_text (parted held' r).done) → t' ≡ t ++ d
    → Went n (suc i) e l held' t' → Went n i e (b ∷ l) held t
went-more n i e l held t b held' t' d p q u w =
    let r = take w.k l in
    record {
      k = suc w.k;
      eaten = omega (arith, w.eaten);
      within = omega (arith, w.within);
      holds = rw (p r, q r, ← append_assoc t d (each answer_text (parted held' r).done), ← u) w.holds;
    }

pub went : (l : List ℕ) (n i : ℕ) (m : Machine) (held t : List ℕ) → 65 ≤ n → Holds n m held t → Went n i (fed_from i m l) l held t
unfolding fed_from
went [] n i m held t h s = went-none n i m [] held t s
went (b ∷ l) n i m held t h s =
    by (goes_on (length m.sheet.bytes) m.sheet.used) refl (λ x y z. went l n (suc i) (next m b) x y h z)
  where
    byte : (x : Bool) → eqb b 10 ≡ x → m.sheet.used + 47 ≤ length m.sheet.bytes
        → ((x y : List ℕ) → Holds n (next m b) x y → Went n (suc i) (fed_from (suc i) (next m b) l) l x y)
        → Went n i (fed_from (suc i) (next m b) l) (b ∷ l) held t
    byte true e r ih =
        let f = eqb-true b 10 e in
        went-more n i _ l held t b [] (t ++ answer_text held) (answer_text held)
        (λ r. rw (f, parted-end held r)) (λ r. ended r) refl
        (ih [] (t ++ answer_text held) (holds-end n m held t b s h e r))
      where
        ended : (r : List ℕ) → each answer_text (parted held (b ∷ r)).done ≡ answer_text held ++ each answer_text (parted [] r).done
        ended r =
            ap (λ z. each answer_text (parted held (z ∷ r)).done) (eqb-true b 10 e)
            ∙ ap (λ z. each answer_text z.done) (parted-end held r)
            ∙ each-cons answer_text held (parted [] r).done
    byte false e r ih =
        let k = eqb-false b 10 e in
        went-more n i _ l held t b (held ++ (b ∷ [])) t []
        (λ r. ap (λ z. z.rest) (parted-byte held r b k)) (λ r. ap (λ z. each answer_text z.done) (parted-byte held r b k)) (sym (append-nil t))
        (ih (held ++ (b ∷ [])) t (holds-byte n m held t b s e))

    by : (x : Bool) → goes_on (length m.sheet.bytes) m.sheet.used ≡ x
        → ((x y : List ℕ) → Holds n (next m b) x y → Went n (suc i) (fed_from (suc i) (next m b) l) l x y)
        → Went n i (cond x (fed_from (suc i) (next m b) l) (taken_to m i)) (b ∷ l) held t
    by true e ih = byte (eqb b 10) refl (leb-true _ _ e) ih
    by false e ih = went-none n i m (b ∷ l) held t s

-- a chunk onto an empty sheet
pub chunk-is : (n : ℕ) (buffer out : List ℕ) (g : Gathered) (held chunk : List ℕ) → 65 ≤ n → Stands n buffer g held
    → let e = fed_of buffer out g chunk in let p = parted held (take e.eaten chunk) in
    Holds n e.machine p.rest (each answer_text p.done)
chunk-is n buffer out g held chunk h s =
    let w = went chunk n 0 (begun buffer out g) held [] h (record { line = s; fits = omega arith; is = refl }) in
    let e : (fed_of buffer out g chunk).eaten ≡ w.k = w.eaten ∙ omega arith in
    rw e w.holds

-- ---- how much of a chunk is taken
answered-used : (buffer : List ℕ) (g : Gathered) (s : Sheet) → (answered buffer g s).used ≤ s.used + 47
unfolding answered
answered-used buffer g s =
    omega (arith, put-used s (answer_text (take g.len buffer)), short_answer (take g.len buffer))

next-used : (m : Machine) (b : ℕ) → (next m b).sheet.used ≤ m.sheet.used + 47
next-used m b = by (eqb b 10) refl
  where
    by : (x : Bool) → eqb b 10 ≡ x → (next m b).sheet.used ≤ m.sheet.used + 47
    by true e = rw (next-end m b e) (answered-used m.buffer m.gathered m.sheet)
    by false e = rw (next-byte m b e) (omega arith)

pub whole : (l : List ℕ) (i : ℕ) (m : Machine) → m.sheet.used + 47 * length l ≤ length m.sheet.bytes → (fed_from i m l).eaten ≡ i + length l
unfolding fed_from
whole [] i m h = omega arith
whole (b ∷ l) i m h =
    let e : goes_on (length m.sheet.bytes) m.sheet.used ≡ true =
    le-leb (m.sheet.used + 47) (length m.sheet.bytes) (omega arith) in
    let ih = whole l (suc i) (next m b) (omega (arith, next-used m b, next-length m b)) in
    rw e (omega (arith, ih))

pub stopped : (l : List ℕ) (i : ℕ) (m : Machine)
    → ((fed_from i m l).eaten ≡ i + length l) ⊎ (length m.sheet.bytes < (fed_from i m l).machine.sheet.used + 47)
unfolding fed_from
stopped [] i m = inl (omega arith)
stopped (b ∷ l) i m = by (goes_on (length m.sheet.bytes) m.sheet.used) refl (stopped l (suc i) (next m b))
  where
    by : (x : Bool) → goes_on (length m.sheet.bytes) m.sheet.used ≡ x
        → (let e = fed_from (suc i) (next m b) l in (e.eaten ≡ suc i + length l) ⊎ (length (next m b).sheet.bytes < e.machine.sheet.used + 47))
        → let e = cond {A = After} x (fed_from (suc i) (next m b) l) (taken_to m i) in
        (e.eaten ≡ i + suc (length l)) ⊎ (length m.sheet.bytes < e.machine.sheet.used + 47)
    by true e o = ⊎_elim (λ p. inl (omega (arith, p))) (λ p. inr (omega (arith, p, next-length m b))) o
    by false e o = inr (leb-false _ _ e)

-- the sheet keeps its length
pub fed-length : (l : List ℕ) (i : ℕ) (m : Machine) → length (fed_from i m l).machine.sheet.bytes ≡ length m.sheet.bytes
unfolding fed_from
fed-length [] i m = refl
fed-length (b ∷ l) i m = by (goes_on (length m.sheet.bytes) m.sheet.used) (fed-length l (suc i) (next m b))
  where
    by : (x : Bool) → length (fed_from (suc i) (next m b) l).machine.sheet.bytes ≡ length (next m b).sheet.bytes
        → length (cond {A = After} x (fed_from (suc i) (next m b) l) (taken_to m i)).machine.sheet.bytes ≡ length m.sheet.bytes
    by true e = e ∙ next-length m b
    by false e = refl

-- ---- the end
pub finish-is : (n : ℕ) (buffer out : List ℕ) (g : Gathered) (held : List ℕ) → 65 ≤ n → 47 ≤ length out → Stands n buffer g held
    → text_on (finished buffer out g) ≡ each answer_text (last_line held)
unfolding finished each
finish-is n buffer out g [] h r s = rw (stands-empty n buffer g [] s)
finish-is n buffer out g (b ∷ l) h r s =
    let e : is_empty g ≡ false = stands-empty n buffer g (b ∷ l) s ∙ ne_eqb (suc (length l)) 0 (λ z. omega (arith, z)) in
    let a = answered-is n buffer g (b ∷ l) (sheet out 0) s h r in
    rw e (a.is ∙ sym (append-nil (answer_text (b ∷ l))))
