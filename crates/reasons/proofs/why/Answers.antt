-- `reasons::why` meets its contract: the reader's two steps give its answer, and the phrase is that of its number.
-- Assumes nothing.
use Rattle.std.specs.Prelude.{Err}
use Prim.Native.Nat.{ℕ}
use mathlib.Core.Path.{refl, sym, ap, ◌∙◌}
use Rattle.std.proofs.lemmas.Result.{err_from_is_err_and}
use Rattle.reading.specs.Taken.{shaped_in}
use Rattle.reasons.specs.Facts.{fact_by}
use Rattle.reasons.specs.Why.{told_as}
use Rattle.reasons.proofs.Told.{taken-short, told_is, line-is}
use Rattle.reasons.proofs.why.Goals as goal

pub fact_behind-requires : goal.fact_behind-requires
fact_behind-requires c =
    taken-short c.args.stated c.args.text.now c.take_text-taken.result c.take_text-taken.ensures

pub returns : goal.returns
returns c =
    let t = c.take_text-taken.result in
    let fact = c.fact_behind.ensures ∙ ap (λ (n : ℕ). fact_by n c.args.rate c.args.stated (shaped_in t)) (sym c.number.ensures) in
    record {
      answer = sym (ap (told_as c.read_taken-read.result c.fact_behind.result) c.in_ok-length.was)
          ∙ told_is c.args.kind c.args.text.now c.args.stated c.args.rate _ _ _ c.take_text-taken.ensures c.read_taken-read.ensures c.number.ensures
          c.args.line.now c.args.place c.fact_behind.result _ fact c.write_phrase.ensures.answer;
      line = line-is c.args.kind c.args.text.now c.args.stated c.args.rate _ _ _ c.take_text-taken.ensures c.read_taken-read.ensures c.number.ensures
          c.args.line.now c.args.place _ c.write_phrase.ensures.line;
    }

pub returns-in_err-length : goal.returns-in_err-length
returns-in_err-length c =
    let p = err_from_is_err_and c.from_residual.result c.from_residual.ensures.1 in
    let f = fact_by c.number.result c.args.rate c.args.stated (shaped_in c.take_text-taken.result) in record {
      answer = p.1 ∙ ap Err p.2 ∙ sym (ap (told_as c.read_taken-read.result f) c.in_err-length.was)
          ∙ told_is c.args.kind c.args.text.now c.args.stated c.args.rate _ _ _ c.take_text-taken.ensures c.read_taken-read.ensures c.number.ensures
          c.args.line.now c.args.place f _ refl c.write_phrase.ensures.answer;
      line = line-is c.args.kind c.args.text.now c.args.stated c.args.rate _ _ _ c.take_text-taken.ensures c.read_taken-read.ensures c.number.ensures
          c.args.line.now c.args.place _ c.write_phrase.ensures.line;
    }
