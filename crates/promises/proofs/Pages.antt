-- What puts a text, a byte or a number on a page allows one outcome, of every page: of lent bytes too.
-- Assumes nothing.
use denote.Param.Laws.{Laws}
use denote.RattleType.{RattleType}
use mir.Syntax.{Dict}
use mathlib.Core.Path.{◌≡◌, sym, ap, ◌∙◌}
use Rattle.outcomes.specs.Outcome.{Determined}
use Rattle.streams.specs.declared.sheets.Page.{Ghosts}
use Rattle.streams.specs.contracts.sheets.Page.put_text as put-text
use Rattle.streams.proofs.sheets.Page.put_text.Reads as put-text-reads
use Rattle.streams.specs.contracts.sheets.Page.put_byte as put-byte
use Rattle.streams.proofs.sheets.Page.put_byte.Reads as put-byte-reads
use Rattle.streams.specs.contracts.sheets.Page.put_signed as put-signed
use Rattle.streams.proofs.sheets.Page.put_signed.Reads as put-signed-reads
use Rattle.streams.specs.contracts.sheets.Page.put_number as put-number
use Rattle.streams.proofs.sheets.Page.put_number.Reads as put-number-reads

module _ (P : RattleType) (laws : Laws P) (page : Ghosts P.Denot) (code : Dict) (whole : (x y : P.Denot) → page.seen x ≡ page.seen y → x ≡ y) where
  pub put-text-determined : Determined (put-text.ended P page code) (put-text-reads.Asked P laws page code) (put-text-reads.Learnt P laws page code)
  put-text-determined κs a asked x y p q = ap (λ z. (x.0, (z, x.1.1))) (whole _ _ (p ∙ sym q))

  pub put-byte-determined : Determined (put-byte.ended P page code) (put-byte-reads.Asked P laws page code) (put-byte-reads.Learnt P laws page code)
  put-byte-determined κs a asked x y p q = ap (λ z. (x.0, (z, x.1.1))) (whole _ _ (p ∙ sym q))

  pub put-signed-determined : Determined (put-signed.ended P page code) (put-signed-reads.Asked P laws page code) (put-signed-reads.Learnt P laws page code)
  put-signed-determined κs a asked x y p q = ap (λ z. (x.0, (z, x.1.1))) (whole _ _ (p ∙ sym q))

  pub put-number-determined : Determined (put-number.ended P page code) (put-number-reads.Asked P laws page code) (put-number-reads.Learnt P laws page code)
  put-number-determined κs a asked x y p q = ap (λ z. (x.0, (z, x.1.1))) (whole _ _ (p ∙ sym q))
