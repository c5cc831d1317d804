-- The fields that C is handed are those of the one allowed label whose count it is: `labels` has it, and the struct's names are its fields.
-- Assumes nothing.
use Rattle.std.specs.Prelude.{Ok, Err}
use Prim.Native.Nat.{ℕ, zero, suc, ◌%◌, ◌<◌}
use mathlib.Core.Path.{◌≡◌, refl, sym, ◌∙◌, ap}
use mathlib.Core.Bool.{Bool, true, false, not, cond}
use native.Mathlib.Omega.{arith}
use lib.IntN.{ℤ, pos, negsuc, nat_abs}
use Rattle.numbers.specs.Sign.{is_neg}
use Rattle.answers.specs.Order.{first, Clear}
use Rattle.answers.specs.OrderLaws.{unless-clear, unless-number}
use Rattle.rates.specs.Rates.{is_rate, rate_row, drop_frames}
use Rattle.rates.proofs.Sound.{drop-small}
use Rattle.timecodes.specs.declared.Timecode.{Timecode}
use Rattle.timecodes.specs.Admitted.{admits, is_within}
use Rattle.timecodes.specs.AdmittedLaws.{admits-valid}
use Rattle.labels.specs.Label.{label_count, is_dropped, minutes_in, seconds_in, frames_in}
use Rattle.labels.specs.LabelLaws.{all-dropped}
use Rattle.labels.specs.Sections.{sections_of}
use Rattle.labels.proofs.Statements.{has_label}
use Rattle.label_writer.specs.Sections.{label_fields, label_sections, sectioned, number_of}
use Rattle.exports.specs.declared.handed.TzqSections.{TzqSections}
use Rattle.exports.specs.Handed.{timecode_from, handed_sections}
use Rattle.promises.specs.SectionsC.{SignIs, LabelOfCount, SectionsForC}

sign-is : (z : ℤ) → SignIs (is_neg z) z
sign-is (pos n) = refl
sign-is (negsuc n) = refl

-- what is not dropped and has a dropped label's seconds and frames is in a tenth minute
in-tenth : (D m s f : ℕ) → is_dropped D m s f ≡ false → s ≡ 0 → f < D → m % 10 ≡ 0
in-tenth D m s f kept none low = by (m % 10) refl
  where
    by : (k : ℕ) → m % 10 ≡ k → k ≡ 0
    by zero e = refl
    by (suc k) e =
        let dropped = all-dropped D m s f (omega (arith, e)) none low in
        let clash : ◌≡◌ {A = ℕ} 0 1 = cc in
        absurd (omega arith)

label_of : (rate : ℕ) (count : ℤ) → is_rate rate ≡ true
    → LabelOfCount (rate_row rate).timebase (drop_frames rate) count (handed_sections (Ok (label_sections rate count)))
unfolding handed_sections label_sections label_fields label_count
label_of rate count r =
    let fields = sections_of (rate_row rate).timebase (drop_frames rate) (nat_abs count) in
    let h = has_label (rate_row rate).timebase (drop_frames rate) (nat_abs count) (drop-small rate r) in
    record {
      sign = sign-is count;
      minutes = h.strict.minutes;
      seconds = h.strict.seconds;
      frames = h.strict.frames;
      kept = in-tenth (drop_frames rate) (minutes_in fields) (seconds_in fields) (frames_in fields) h.allowed;
      counts = h.count;
    }

-- no number is given: neither 6 nor 5 holds
clear_of : (tc : Timecode) → first (admits tc) ≡ 0 → Clear (admits tc)
clear_of tc h = by (not (is_rate tc.rate)) (not (is_within tc.kind tc.rate tc.count)) h
  where
    by : (s t : Bool) → ◌≡◌ {A = ℕ} (cond s 6 (cond t 5 0)) 0 → (s ≡ false) × ((t ≡ false) × Unit {0})
    by true t e = absurd (omega (arith, e))
    by false true e = absurd (omega (arith, e))
    by false false e = (refl, (refl, tt))

labelled : (tc : Timecode) (t : TzqSections) → t ≡ handed_sections (sectioned tc) → t.refused ≡ 0
    → LabelOfCount (rate_row tc.rate).timebase (drop_frames tc.rate) tc.count t
unfolding sectioned handed_sections
labelled tc t e k =
    let answer = Ok (label_sections tc.rate tc.count) in
    let given = unless-number number_of Err (λ r. refl) (admits tc) answer refl in
    let clear = clear_of tc (sym given ∙ (sym (ap (λ (x : TzqSections). x.refused) e) ∙ k)) in
    rw (e ∙ ap handed_sections (unless-clear Err (admits tc) answer clear)) (label_of tc.rate tc.count (admits-valid tc clear).rate)

pub sections_for_c : SectionsForC
sections_for_c κs a x p k = labelled (timecode_from a.0) x.0 p k
