-- What C is handed of why a text is read as it is: the numbers of the struct that the contract names.
-- Assumes nothing.
use Rattle.answers.specs.declared.Refusal.{Refusal}
use Rattle.std.specs.Prelude.{Result, Ok, Err, Some, None, Option}
use mathlib.Core.Path.{◌≡◌, refl, ap}
use Rattle.numbers.specs.Total.{fitted-in}
use Rattle.timecodes.specs.Kinds.{kind_from, is_position}
use Rattle.timecodes.specs.KindLaws.{position-told}
use Rattle.reading.specs.Answer.{timecode_of}
use Rattle.reasons.specs.declared.Fact.{Fact}
use Rattle.reasons.specs.declared.Fact.TheVariants.{Limit, First}
use Rattle.reasons.specs.declared.Reason.{Reason}
use Rattle.reasons.specs.Why.{why_of}
use Rattle.exports.specs.declared.why.TzqReason.{TzqReason}
use Rattle.exports.specs.Handed.{handed_read}
use Rattle.exports.specs.HandedWhy.{stated_from, no_fact, limit_fact, first_fact, told_reason, no_reason, handed_reason}
use Rattle.promises.specs.WhyC.{FactIs, ToldIs, ReasonIs, WhyForC}

-- the numbers of the fact, in a struct that has them
module _ (r : Reason) where
  pub fact_is : (fact : Option Fact) → r.fact ≡ fact → FactIs (told_reason r) fact
  unfolding told_reason no_fact limit_fact first_fact
  fact_is None e = rw e
      (record { field = refl; limit = refl; value = refl }, record { negative = refl; hours = refl; minutes = refl; seconds = refl; frames = refl })
  fact_is (Some (Limit f)) e = rw e (
    record { field = refl; limit = λ h. fitted-in f.limit _ h; value = λ h. fitted-in f.value _ h },
    record { negative = refl; hours = refl; minutes = refl; seconds = refl; frames = refl },
  )
  fact_is (Some (First s)) e = rw e
      (record { field = refl; limit = refl; value = refl }, record { negative = refl; hours = refl; minutes = refl; seconds = refl; frames = refl })

  told_is : ToldIs (told_reason r) r
  unfolding told_reason handed_read
  told_is = record {
    refused = refl;
    number = refl;
    place = refl;
    count = refl;
    format = refl;
    position = (λ h. position-told (timecode_of r.read).kind h, λ h. ap is_position h);
    fact = fact_is r.fact refl;
    length = refl;
  }

reason-is : (t : TzqReason) (w : Result Reason Refusal) → t ≡ handed_reason w → ReasonIs t w
unfolding no_reason
reason-is t (Ok r) e = rw e (told_is r)
reason-is t (Err x) e = rw e (record {
  refused = refl;
  number = refl;
  place = refl;
  count = refl;
  format = refl;
  position = refl;
  limit = record { field = refl; limit = refl; value = refl };
  label = record { negative = refl; hours = refl; minutes = refl; seconds = refl; frames = refl };
  length = refl;
})

pub why_for_c : WhyForC
why_for_c = record {
  why = λ κs a x p.
      reason-is x.0
      (why_of (kind_from a.1.1.1.1.0) a.0.now (stated_from a.1.0 a.1.1.0) a.1.1.1.0 a.1.1.1.1.1.0.now a.1.1.1.1.1.1.0)
      p.0;
  stated = λ format. (refl, refl);
  fields = (refl, refl, refl, refl, refl, refl, refl);
}
