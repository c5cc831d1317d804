-- What C is handed of why a text is read as it is, field by field: the numbers of the struct that the contract names.
-- Assumes nothing.
use Rattle.answers.specs.declared.Refusal.{Refusal}
use Rattle.std.specs.Prelude.{Result, Ok, Err}
use mathlib.Core.Path.{◌≡◌, refl}
use Rattle.timecodes.specs.Kinds.{kind_from}
use Rattle.reasons.specs.declared.Reason.{Reason}
use Rattle.reasons.specs.Why.{why_of}
use Rattle.exports.specs.declared.why.TzqReason.{TzqReason}
use Rattle.exports.specs.HandedWhy.{stated_from, told_reason, no_reason, handed_reason}
use Rattle.promises.specs.WhyFieldsC.{ToldFields, ReasonFields, WhyFieldsForC}
use Rattle.promises.proofs.WhyC.{fact_is}
use Rattle.promises.proofs.ReadFieldsC.{read_is}
use Rattle.promises.proofs.FirstLabelC.{why-short}

-- what is told, and what is not
module _ (r : Reason) where
  told_is : ToldFields (told_reason r) r
  unfolding told_reason
  told_is = record { refused = refl; read = read_is r.read; fact = fact_is r r.fact refl; length = refl }

reason-is : (t : TzqReason) (w : Result Reason Refusal) → t ≡ handed_reason w → ReasonFields t w
unfolding no_reason
reason-is t (Ok r) e = rw e (told_is r)
reason-is t (Err x) e = rw e (record {
  refused = refl;
  number = refl;
  place = refl;
  count = refl;
  format = refl;
  position = refl;
  limit = record { field = refl; limit = refl; value = refl };
  label = record { negative = refl; hours = refl; minutes = refl; seconds = refl; frames = refl };
  length = refl;
})

pub why_fields_for_c : WhyFieldsForC
why_fields_for_c = record {
  why = λ κs a x p.
      reason-is x.0
      (why_of (kind_from a.1.1.1.1.0) a.0.now (stated_from a.1.0 a.1.1.0) a.1.1.1.0 a.1.1.1.1.1.0.now a.1.1.1.1.1.1.0)
      p.0;
  room = λ κs a x p.
      why-short x.0 (kind_from a.1.1.1.1.0) a.0.now (stated_from a.1.0 a.1.1.0) a.1.1.1.0 a.1.1.1.1.1.0.now
      a.1.1.1.1.1.1.0 p.0;
}
