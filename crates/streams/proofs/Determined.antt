-- Each public function's contract allows one outcome: two that meet its equations are equal.
-- Assumes nothing.
use Prim.Native.Nat.{ℕ}
use denote.Param.{number}
use denote.Param.Laws.{Laws}
use denote.RattleType.{RattleType}
use denote.Triple.Entry.{Args}
use mir.Syntax.{w64, Dict}
use mir.Val.{Fits}
use mathlib.Core.Path.{◌≡◌, sym, ap, ◌∙◌}
use Rattle.written.specs.declared.Writable.{Ghosts}
use Rattle.outcomes.specs.Outcome.{Times, Outcome, Allowed, Determined}
use Rattle.streams.specs.contracts.gathered.Gathered.new as new
use Rattle.streams.proofs.gathered.Gathered.new.Reads as new-reads
use Rattle.streams.specs.contracts.gathered.Gathered.is_empty as is-empty
use Rattle.streams.proofs.gathered.Gathered.is_empty.Reads as is-empty-reads
use Rattle.streams.specs.contracts.gathered.gather as gather
use Rattle.streams.proofs.gathered.gather.Reads as gather-reads
use Rattle.streams.specs.contracts.gathered.Step.gone_on as gone-on
use Rattle.streams.proofs.gathered.Step.gone_on.Reads as gone-on-reads
use Rattle.streams.specs.contracts.sheets.Sheet.clear as clear
use Rattle.streams.proofs.sheets.Sheet.clear.Reads as clear-reads
use Rattle.streams.specs.contracts.sheets.Sheet.has_room as has-room
use Rattle.streams.proofs.sheets.Sheet.has_room.Reads as has-room-reads
use Rattle.streams.specs.contracts.sheets.Sheet.put as put
use Rattle.streams.proofs.sheets.Sheet.put.Reads as put-reads
use Rattle.streams.specs.contracts.sheets.Sheet.text as text
use Rattle.streams.proofs.sheets.Sheet.text.Reads as text-reads
use Rattle.streams.specs.contracts.sheets.Sheet.put_text as put-text
use Rattle.streams.proofs.sheets.Sheet.put_text.Reads as put-text-reads
use Rattle.streams.specs.contracts.sheets.Sheet.put_byte as put-byte
use Rattle.streams.proofs.sheets.Sheet.put_byte.Reads as put-byte-reads
use Rattle.streams.specs.contracts.sheets.Sheet.put_signed as put-signed
use Rattle.streams.proofs.sheets.Sheet.put_signed.Reads as put-signed-reads
use Rattle.streams.specs.contracts.sheets.Sheet.put_number as put-number
use Rattle.streams.proofs.sheets.Sheet.put_number.Reads as put-number-reads
use Rattle.streams.specs.contracts.sheets.Sheet.new as new-sheet
use Rattle.streams.proofs.sheets.Sheet.new.Reads as new-sheet-reads

pub new-determined : Determined new.ended new-reads.Asked new-reads.Learnt
new-determined κs a asked x y p q = ap (λ z. (z, x.1)) (p ∙ sym q)

pub is-empty-determined : Determined is-empty.ended is-empty-reads.Asked is-empty-reads.Learnt
is-empty-determined κs a asked x y p q = ap (λ z. (z, x.1)) (p ∙ sym q)

pub gather-determined : Determined gather.ended gather-reads.Asked gather-reads.Learnt
gather-determined κs a asked x y p q =
    ap (λ z. (z, x.1)) (p.0 ∙ sym q.0) ∙ ap (λ z. (y.0, (x.1.0, (x.1.1.0, (z, x.1.1.1.1))))) (p.1 ∙ sym q.1)

pub gone-on-determined : Determined gone-on.ended gone-on-reads.Asked gone-on-reads.Learnt
gone-on-determined κs a asked x y p q = ap (λ z. (z, x.1)) (p ∙ sym q)

pub clear-determined : (N : ℕ) (fits : Fits w64 N) → Determined (clear.ended (number N)) (clear-reads.Asked N fits) (clear-reads.Learnt N fits)
clear-determined N fits κs a asked x y p q = ap (λ z. (x.0, (z, x.1.1))) (p ∙ sym q)

pub has-room-determined : (N : ℕ) (fits : Fits w64 N) → Determined (has-room.ended (number N)) (has-room-reads.Asked N fits) (has-room-reads.Learnt N fits)
has-room-determined N fits κs a asked x y p q = ap (λ z. (z, x.1)) (p ∙ sym q)

pub put-determined : (N : ℕ) (T : RattleType) (fits : Fits w64 N) (laws : Laws T) (text : Ghosts T.Denot) (code : Dict)
    → Determined (put.ended (number N) T text code) (put-reads.Asked N T fits laws text code) (put-reads.Learnt N T fits laws text code)
put-determined N T fits laws text code κs a asked x y p q = ap (λ z. (x.0, (z, x.1.1))) (p ∙ sym q)

pub put-text-determined : (N : ℕ) (fits : Fits w64 N) → Determined (put-text.ended (number N)) (put-text-reads.Asked N fits) (put-text-reads.Learnt N fits)
put-text-determined N fits κs a asked x y p q = ap (λ z. (x.0, (z, x.1.1))) (p ∙ sym q)

pub put-byte-determined : (N : ℕ) (fits : Fits w64 N) → Determined (put-byte.ended (number N)) (put-byte-reads.Asked N fits) (put-byte-reads.Learnt N fits)
put-byte-determined N fits κs a asked x y p q = ap (λ z. (x.0, (z, x.1.1))) (p ∙ sym q)

pub put-signed-determined : (N : ℕ) (fits : Fits w64 N) → Determined (put-signed.ended (number N)) (put-signed-reads.Asked N fits) (put-signed-reads.Learnt N fits)
put-signed-determined N fits κs a asked x y p q = ap (λ z. (x.0, (z, x.1.1))) (p ∙ sym q)

pub put-number-determined : (N : ℕ) (fits : Fits w64 N)
    → Determined (put-number.ended (number N)) (put-number-reads.Asked N fits) (put-number-reads.Learnt N fits)
put-number-determined N fits κs a asked x y p q = ap (λ z. (x.0, (z, x.1.1))) (p ∙ sym q)

pub new-sheet-determined : (N : ℕ) (fits : Fits w64 N) → Determined (new-sheet.ended (number N)) (new-sheet-reads.Asked N fits) (new-sheet-reads.Learnt N fits)
new-sheet-determined N fits κs a asked x y p q = ap (λ z. (z, x.1)) (p ∙ sym q)

-- where in memory the text lies is not said: only its bytes are the same
pub text-determined : (N : ℕ) (fits : Fits w64 N) (κs : Times (text.ended (number N))) (a : Args (text.ended (number N)).signature κs)
    (x y : Outcome (text.ended (number N)) κs a) → Allowed (text.ended (number N)) (text-reads.Learnt N fits) κs a x
    → Allowed (text.ended (number N)) (text-reads.Learnt N fits) κs a y → x.0.now ≡ y.0.now
text-determined N fits κs a x y p q = p ∙ sym q
