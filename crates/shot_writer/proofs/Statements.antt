-- What is refused; what is written is in the format; written and read again it has the same records, read and written again the same bytes.
-- Assumes nothing.
use Rattle.std.specs.Prelude.{Ok, Err}
use Prim.Native.Nat.{ℕ, ◌+◌}
use mathlib.Core.Path.{◌≡◌, refl, sym, ap, ◌∙◌, subst}
use mathlib.Core.List.{List, [], ◌∷◌}
use native.Mathlib.Omega.{arith}
use borrow.Author.Tests.{leb-true}
use lib.ListN.{length, take, drop}
use Rattle.lent.specs.Line.{splice, fits}
use Rattle.answers.specs.declared.Refusal.{Refusal}
use Rattle.answers.specs.OrderLaws.{unless-told, not_in}
use Rattle.lent.proofs.Laws.{splice-there}
use Rattle.written.specs.Written.{Text, bad_room, answer_to, line_to}
use Rattle.written.proofs.Laws.{text-written}
use Rattle.written.proofs.Statements.{no_room_exactly}
use Rattle.shot_lists.specs.declared.records.Record.{Record}
use Rattle.shot_lists.specs.Records.{Sound}
use Rattle.shot_lists.specs.Entries.{on_disk, in_numbers}
use Rattle.shot_lists.specs.Reading.{Reading, AllOf, FaultOf, read_of}
use Rattle.shot_lists.specs.Grammar.{OnDisk, list_numbers}
use Rattle.shot_lists.proofs.Statements.{read_exactly, given_exactly}
use Rattle.shot_lists.proofs.OneWay.{one_bytes}
use Rattle.shot_writer.specs.ListText.{list_bytes, draft_of}
use Rattle.shot_writer.specs.Statements.{ListRefused, RoomRefused, BytesOnDisk, WrittenThenRead, ReadThenWritten}
use Rattle.shot_writer.proofs.OnDisk.{list_on, list-bytes}

pub list-refused : ListRefused
unfolding answer_to
list-refused given line place e h = ap (λ (t : Reading). answer_to line place (draft_of t)) h

pub room_refused : RoomRefused
room_refused given rs line place h =
    let same = ap (λ (t : Reading). answer_to line place (draft_of t)) h in
    let exactly = no_room_exactly line place (list_bytes rs) in
    (λ e. exactly.0 (sym same ∙ e), λ k. same ∙ exactly.1 k)

text_same : (l m : List ℕ) → Text l ≡ Text m → l ≡ m
text_same l m e = cc

pub bytes_on_disk : BytesOnDisk
bytes_on_disk given rs l h d =
    subst (OnDisk rs) (text_same (list_bytes rs) l (sym (ap draft_of h) ∙ d)) (list_on 0 rs ((given_exactly given rs).0 h).1)

-- ---- written, then read

refused-apart : (e : Refusal) (n : ℕ) → Err e ≡ Ok n → ⊥
refused-apart e n h = let clash : ◌≡◌ {A = ℕ} 0 1 = cc in omega arith

written-by : (line : List ℕ) (place n : ℕ) (t : Reading) → ((rs : List Record) → t ≡ AllOf rs → Sound 0 rs) → answer_to line place (draft_of t) ≡ Ok n
    → read_of on_disk (take n (drop place (line_to line place (draft_of t)))) ≡ t
unfolding answer_to
written-by line place n (FaultOf e) sound h = let clash : ◌≡◌ {A = ℕ} 0 1 = cc in absurd (omega arith)
written-by line place n (AllOf rs) sound h =
    let text = list_bytes rs in
    let told = unless-told Err (bad_room line place text ∷ []) (Ok (length text)) (Ok n) (λ e p. refused-apart e n p) h in
    let room = leb-true (place + length text) (length line) (not_in (fits line place text) told.0.0) in
    let same : Ok (length text) ≡ Ok n = told.1 in
    let long : n ≡ length text = cc in
    let good = sound rs refl in
    ap (λ (l : List ℕ). read_of on_disk (take n (drop place l))) (text-written line place text room).1
    ∙ ap (λ (k : ℕ). read_of on_disk (take k (drop place (splice line place text)))) long
    ∙ ap (read_of on_disk) (splice-there line text place room)
    ∙ (read_exactly text rs (list-bytes rs)).1 (list_on 0 rs good, good)

pub written_then_read : WrittenThenRead
written_then_read given line place n h = written-by line place n (read_of in_numbers given) (λ rs e. ((given_exactly given rs).0 e).1) h

-- ---- read, then written

pub read_then_written : ReadThenWritten
read_then_written l rs bytes h =
    let told = (read_exactly l rs bytes).0 h in
    ap draft_of ((given_exactly (list_numbers rs) rs).1 (refl, told.1)) ∙ ap Text (one_bytes rs (list_bytes rs) l (list_on 0 rs told.1) told.0)
