-- Each public function's contract allows one outcome: two that meet its equations are equal, and an instant has one fraction of seconds.
-- Assumes nothing.
use mathlib.Core.Path.{sym, ap, ◌∙◌}
use Rattle.time.specs.SecondsLaws.{seconds-one}
use Rattle.exports.specs.Handed.{timecode_from, handed_seconds}
use Rattle.outcomes.specs.Outcome.{Determined}
use Rattle.exports.specs.contracts.reads.tzq_read as tzq_read
use Rattle.exports.proofs.reads.tzq_read.Reads as tzq-read-reads
use Rattle.exports.specs.contracts.reads.tzq_read_as as tzq_read_as
use Rattle.exports.proofs.reads.tzq_read_as.Reads as tzq-read-as-reads
use Rattle.exports.specs.contracts.reads.tzq_read_runtime as tzq_read_runtime
use Rattle.exports.proofs.reads.tzq_read_runtime.Reads as tzq-read-runtime-reads
use Rattle.exports.specs.contracts.sums.tzq_add as tzq_add
use Rattle.exports.proofs.sums.tzq_add.Reads as tzq-add-reads
use Rattle.exports.specs.contracts.sums.tzq_sub as tzq_sub
use Rattle.exports.proofs.sums.tzq_sub.Reads as tzq-sub-reads
use Rattle.exports.specs.contracts.sums.tzq_cmp as tzq_cmp
use Rattle.exports.proofs.sums.tzq_cmp.Reads as tzq-cmp-reads
use Rattle.exports.specs.contracts.sums.tzq_mul as tzq_mul
use Rattle.exports.proofs.sums.tzq_mul.Reads as tzq-mul-reads
use Rattle.exports.specs.contracts.sums.tzq_div as tzq_div
use Rattle.exports.proofs.sums.tzq_div.Reads as tzq-div-reads
use Rattle.exports.specs.contracts.sums.tzq_rem as tzq_rem
use Rattle.exports.proofs.sums.tzq_rem.Reads as tzq-rem-reads
use Rattle.exports.specs.contracts.sums.tzq_divq as tzq_divq
use Rattle.exports.proofs.sums.tzq_divq.Reads as tzq-divq-reads
use Rattle.exports.specs.contracts.sums.tzq_remq as tzq_remq
use Rattle.exports.proofs.sums.tzq_remq.Reads as tzq-remq-reads
use Rattle.exports.specs.contracts.sums.tzq_neg as tzq_neg
use Rattle.exports.proofs.sums.tzq_neg.Reads as tzq-neg-reads
use Rattle.exports.specs.contracts.sums.tzq_abs as tzq_abs
use Rattle.exports.proofs.sums.tzq_abs.Reads as tzq-abs-reads
use Rattle.exports.specs.contracts.sums.tzq_rebase as tzq_rebase
use Rattle.exports.proofs.sums.tzq_rebase.Reads as tzq-rebase-reads
use Rattle.exports.specs.contracts.tables.tzq_rate as tzq_rate
use Rattle.exports.proofs.tables.tzq_rate.Reads as tzq-rate-reads
use Rattle.exports.specs.contracts.tables.tzq_drop_frames_per_minute as tzq_drop_frames_per_minute
use Rattle.exports.proofs.tables.tzq_drop_frames_per_minute.Reads as tzq-drop-frames-per-minute-reads
use Rattle.exports.specs.contracts.tables.tzq_format as tzq_format
use Rattle.exports.proofs.tables.tzq_format.Reads as tzq-format-reads
use Rattle.exports.specs.contracts.tables.tzq_minute_start as tzq_minute_start
use Rattle.exports.proofs.tables.tzq_minute_start.Reads as tzq-minute-start-reads
use Rattle.exports.specs.contracts.times.tzq_with_frames as tzq_with_frames
use Rattle.exports.proofs.times.tzq_with_frames.Reads as tzq-with-frames-reads
use Rattle.exports.specs.contracts.times.tzq_with_premiere_ticks as tzq_with_premiere_ticks
use Rattle.exports.proofs.times.tzq_with_premiere_ticks.Reads as tzq-with-premiere-ticks-reads
use Rattle.exports.specs.contracts.times.tzq_with_seconds as tzq_with_seconds
use Rattle.exports.proofs.times.tzq_with_seconds.Reads as tzq-with-seconds-reads
use Rattle.exports.specs.contracts.times.tzq_premiere_ticks as tzq_premiere_ticks
use Rattle.exports.proofs.times.tzq_premiere_ticks.Reads as tzq-premiere-ticks-reads
use Rattle.exports.specs.contracts.times.tzq_seconds as tzq_seconds
use Rattle.exports.proofs.times.tzq_seconds.Reads as tzq-seconds-reads
use Rattle.exports.specs.contracts.times.tzq_convert as tzq_convert
use Rattle.exports.proofs.times.tzq_convert.Reads as tzq-convert-reads
use Rattle.exports.specs.contracts.writes.tzq_sections as tzq_sections
use Rattle.exports.proofs.writes.tzq_sections.Reads as tzq-sections-reads
use Rattle.exports.specs.contracts.route.tzq_route as tzq_route
use Rattle.exports.proofs.route.tzq_route.Reads as tzq-route-reads
use Rattle.exports.specs.contracts.why.tzq_why as tzq_why
use Rattle.exports.proofs.why.tzq_why.Reads as tzq-why-reads
use Rattle.exports.specs.contracts.writes.tzq_write_label as tzq_write_label
use Rattle.exports.proofs.writes.tzq_write_label.Reads as tzq-write-label-reads
use Rattle.exports.specs.contracts.writes.tzq_write_footage as tzq_write_footage
use Rattle.exports.proofs.writes.tzq_write_footage.Reads as tzq-write-footage-reads
use Rattle.exports.specs.contracts.writes.tzq_write_runtime as tzq_write_runtime
use Rattle.exports.proofs.writes.tzq_write_runtime.Reads as tzq-write-runtime-reads
use Rattle.exports.specs.contracts.lists.tzq_record_at as tzq_record_at
use Rattle.exports.proofs.lists.tzq_record_at.Reads as tzq-record-at-reads
use Rattle.exports.specs.contracts.lists.tzq_check_list as tzq_check_list
use Rattle.exports.proofs.lists.tzq_check_list.Reads as tzq-check-list-reads
use Rattle.exports.specs.contracts.lists.tzq_write_list as tzq_write_list
use Rattle.exports.proofs.lists.tzq_write_list.Reads as tzq-write-list-reads

pub tzq-read-determined : Determined tzq_read.ended tzq-read-reads.Asked tzq-read-reads.Learnt
tzq-read-determined κs a asked x y p q = ap (λ z. (z, x.1)) (p ∙ sym q)

pub tzq-read-as-determined : Determined tzq_read_as.ended tzq-read-as-reads.Asked tzq-read-as-reads.Learnt
tzq-read-as-determined κs a asked x y p q = ap (λ z. (z, x.1)) (p ∙ sym q)

pub tzq-read-runtime-determined : Determined tzq_read_runtime.ended tzq-read-runtime-reads.Asked tzq-read-runtime-reads.Learnt
tzq-read-runtime-determined κs a asked x y p q = ap (λ z. (z, x.1)) (p ∙ sym q)

pub tzq-add-determined : Determined tzq_add.ended tzq-add-reads.Asked tzq-add-reads.Learnt
tzq-add-determined κs a asked x y p q = ap (λ z. (z, x.1)) (p ∙ sym q)

pub tzq-sub-determined : Determined tzq_sub.ended tzq-sub-reads.Asked tzq-sub-reads.Learnt
tzq-sub-determined κs a asked x y p q = ap (λ z. (z, x.1)) (p ∙ sym q)

pub tzq-cmp-determined : Determined tzq_cmp.ended tzq-cmp-reads.Asked tzq-cmp-reads.Learnt
tzq-cmp-determined κs a asked x y p q = ap (λ z. (z, x.1)) (p ∙ sym q)

pub tzq-mul-determined : Determined tzq_mul.ended tzq-mul-reads.Asked tzq-mul-reads.Learnt
tzq-mul-determined κs a asked x y p q = ap (λ z. (z, x.1)) (p ∙ sym q)

pub tzq-div-determined : Determined tzq_div.ended tzq-div-reads.Asked tzq-div-reads.Learnt
tzq-div-determined κs a asked x y p q = ap (λ z. (z, x.1)) (p ∙ sym q)

pub tzq-rem-determined : Determined tzq_rem.ended tzq-rem-reads.Asked tzq-rem-reads.Learnt
tzq-rem-determined κs a asked x y p q = ap (λ z. (z, x.1)) (p ∙ sym q)

pub tzq-divq-determined : Determined tzq_divq.ended tzq-divq-reads.Asked tzq-divq-reads.Learnt
tzq-divq-determined κs a asked x y p q = ap (λ z. (z, x.1)) (p ∙ sym q)

pub tzq-remq-determined : Determined tzq_remq.ended tzq-remq-reads.Asked tzq-remq-reads.Learnt
tzq-remq-determined κs a asked x y p q = ap (λ z. (z, x.1)) (p ∙ sym q)

pub tzq-neg-determined : Determined tzq_neg.ended tzq-neg-reads.Asked tzq-neg-reads.Learnt
tzq-neg-determined κs a asked x y p q = ap (λ z. (z, x.1)) (p ∙ sym q)

pub tzq-abs-determined : Determined tzq_abs.ended tzq-abs-reads.Asked tzq-abs-reads.Learnt
tzq-abs-determined κs a asked x y p q = ap (λ z. (z, x.1)) (p ∙ sym q)

pub tzq-rebase-determined : Determined tzq_rebase.ended tzq-rebase-reads.Asked tzq-rebase-reads.Learnt
tzq-rebase-determined κs a asked x y p q = ap (λ z. (z, x.1)) (p ∙ sym q)

pub tzq-rate-determined : Determined tzq_rate.ended tzq-rate-reads.Asked tzq-rate-reads.Learnt
tzq-rate-determined κs a asked x y p q = ap (λ z. (z, x.1)) (p ∙ sym q)

pub tzq-drop-frames-per-minute-determined : Determined tzq_drop_frames_per_minute.ended tzq-drop-frames-per-minute-reads.Asked tzq-drop-frames-per-minute-reads.Learnt
tzq-drop-frames-per-minute-determined κs a asked x y p q = ap (λ z. (z, x.1)) (p ∙ sym q)

pub tzq-format-determined : Determined tzq_format.ended tzq-format-reads.Asked tzq-format-reads.Learnt
tzq-format-determined κs a asked x y p q = ap (λ z. (z, x.1)) (p ∙ sym q)

pub tzq-minute-start-determined : Determined tzq_minute_start.ended tzq-minute-start-reads.Asked tzq-minute-start-reads.Learnt
tzq-minute-start-determined κs a asked x y p q = ap (λ z. (z, x.1)) (p ∙ sym q)

pub tzq-with-frames-determined : Determined tzq_with_frames.ended tzq-with-frames-reads.Asked tzq-with-frames-reads.Learnt
tzq-with-frames-determined κs a asked x y p q = ap (λ z. (z, x.1)) (p ∙ sym q)

pub tzq-with-premiere-ticks-determined : Determined tzq_with_premiere_ticks.ended tzq-with-premiere-ticks-reads.Asked tzq-with-premiere-ticks-reads.Learnt
tzq-with-premiere-ticks-determined κs a asked x y p q = ap (λ z. (z, x.1)) (p ∙ sym q)

pub tzq-with-seconds-determined : Determined tzq_with_seconds.ended tzq-with-seconds-reads.Asked tzq-with-seconds-reads.Learnt
tzq-with-seconds-determined κs a asked x y p q = ap (λ z. (z, x.1)) (p ∙ sym q)

pub tzq-premiere-ticks-determined : Determined tzq_premiere_ticks.ended tzq-premiere-ticks-reads.Asked tzq-premiere-ticks-reads.Learnt
tzq-premiere-ticks-determined κs a asked x y p q = ap (λ z. (z, x.1)) (p ∙ sym q)

pub tzq-seconds-determined : Determined tzq_seconds.ended tzq-seconds-reads.Asked tzq-seconds-reads.Learnt
tzq-seconds-determined κs a asked x y p q =
    let one = seconds-one (timecode_from a.0) p.answer q.answer p.right q.right in
    ap (λ z. (z, x.1)) (p.handed ∙ ap handed_seconds one ∙ sym q.handed)

pub tzq-convert-determined : Determined tzq_convert.ended tzq-convert-reads.Asked tzq-convert-reads.Learnt
tzq-convert-determined κs a asked x y p q = ap (λ z. (z, x.1)) (p ∙ sym q)

pub tzq-sections-determined : Determined tzq_sections.ended tzq-sections-reads.Asked tzq-sections-reads.Learnt
tzq-sections-determined κs a asked x y p q = ap (λ z. (z, x.1)) (p ∙ sym q)

pub tzq-write-label-determined : Determined tzq_write_label.ended tzq-write-label-reads.Asked tzq-write-label-reads.Learnt
tzq-write-label-determined κs a asked x y p q = ap (λ z. (z, x.1)) (p.0 ∙ sym q.0) ∙ ap (λ z. (y.0, (x.1.0, (z, x.1.1.1)))) (p.1 ∙ sym q.1)

pub tzq-write-footage-determined : Determined tzq_write_footage.ended tzq-write-footage-reads.Asked tzq-write-footage-reads.Learnt
tzq-write-footage-determined κs a asked x y p q =
    ap (λ z. (z, x.1)) (p.0 ∙ sym q.0) ∙ ap (λ z. (y.0, (x.1.0, (x.1.1.0, (z, x.1.1.1.1))))) (p.1 ∙ sym q.1)

pub tzq-write-runtime-determined : Determined tzq_write_runtime.ended tzq-write-runtime-reads.Asked tzq-write-runtime-reads.Learnt
tzq-write-runtime-determined κs a asked x y p q =
    ap (λ z. (z, x.1)) (p.0 ∙ sym q.0) ∙ ap (λ z. (y.0, (x.1.0, (x.1.1.0, (z, x.1.1.1.1))))) (p.1 ∙ sym q.1)

pub tzq-record-at-determined : Determined tzq_record_at.ended tzq-record-at-reads.Asked tzq-record-at-reads.Learnt
tzq-record-at-determined κs a asked x y p q = ap (λ z. (z, x.1)) (p ∙ sym q)

pub tzq-check-list-determined : Determined tzq_check_list.ended tzq-check-list-reads.Asked tzq-check-list-reads.Learnt
tzq-check-list-determined κs a asked x y p q = ap (λ z. (z, x.1)) (p ∙ sym q)

pub tzq-write-list-determined : Determined tzq_write_list.ended tzq-write-list-reads.Asked tzq-write-list-reads.Learnt
tzq-write-list-determined κs a asked x y p q =
    ap (λ z. (z, x.1)) (p.0 ∙ sym q.0) ∙ ap (λ z. (y.0, (x.1.0, (z, x.1.1.1)))) (p.1 ∙ sym q.1)

pub tzq-route-determined : Determined tzq_route.ended tzq-route-reads.Asked tzq-route-reads.Learnt
tzq-route-determined κs a asked x y p q = ap (λ z. (z, x.1)) (p ∙ sym q)

pub tzq-why-determined : Determined tzq_why.ended tzq-why-reads.Asked tzq-why-reads.Learnt
tzq-why-determined κs a asked x y p q =
    ap (λ z. (z, x.1)) (p.0 ∙ sym q.0)
    ∙ ap (λ z. (y.0, (x.1.0, (x.1.1.0, (x.1.1.1.0, (x.1.1.1.1.0, (x.1.1.1.1.1.0, (z, x.1.1.1.1.1.1.1)))))))) (p.1 ∙ sym q.1)
