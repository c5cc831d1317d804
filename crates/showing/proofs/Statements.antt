-- An answer that has room is on the sheet, as one line: part behind part.
-- Assumes nothing.
use Rattle.answers.specs.declared.Refusal.{Refusal}
use Rattle.std.specs.Prelude.{Result, Ok, Err, Option, Some, None}
use Prim.Native.Nat.{ℕ, ◌+◌, ◌≤◌}
use mathlib.Core.Path.{◌≡◌, refl, sym, ap, ◌∙◌}
use mathlib.Core.List.{List, [], ◌∷◌, ◌++◌, append_assoc, append-nil}
use mathlib.Core.Bool.{Bool, true, false}
use native.Mathlib.Omega.{arith}
use lib.ListN.{length, length-append}
use Rattle.digits.specs.Digits.{decimal, digits_of, width, width_by}
use Rattle.written.specs.Parts.{signed_text}
use Rattle.shot_lists.specs.declared.records.Record.{Record}
use Rattle.shot_lists.specs.declared.records.Record.TheVariants.{Rate, Shot, Reel}
use Rattle.streams.specs.Sheet.{Sheet, text_on, put_on}
use Rattle.streams.proofs.Putting.{Laid, put_is}
use Rattle.hex_bytes.specs.Hex.{hex_text}
use Rattle.laws.specs.Spelt.{spelt}
use Rattle.showing.specs.declared.Word.{Word}
use Rattle.showing.specs.declared.Word.TheVariants as word
use Rattle.showing.specs.declared.Second.{Second}
use Rattle.showing.specs.declared.Numbers.{Numbers}
use Rattle.showing.specs.declared.Shown.{Shown}
use Rattle.showing.specs.declared.Shown.TheVariants as shown
use Rattle.showing.specs.Shown.{count_text, word_text, front_text, help_text, behind_text, numbers_text, parts_text, shown_text, length_text, written_text, word_on, front_on, second_on, first_on, behind_on, numbers_on, parts_on, shown_on, length_on, written_on}
use Rattle.showing.specs.Each.{of_refusal}
use Rattle.showing.specs.Lists.{record_text, records_text, list_text, numbered_on, frames_on, record_on, records_on, list_on}
use Rattle.showing.specs.Statements.{ShownLine, WrittenLine, HexWrittenLine, TextRefusedShown, PositionShown, ListLine, ListRefusedLine, ListWords}

-- ---- texts one behind the other
pub laid_none : (s : Sheet) → Laid s s []
laid_none s = record { more = omega arith; long = refl; is = sym (append-nil (text_on s)) }

pub laid-two : (s s' s'' : Sheet) (t u : List ℕ) → Laid s s' t → Laid s' s'' u → Laid s s'' (t ++ u)
laid-two s s' s'' t u a b = record {
  more = simp length-append (omega (arith, a.more, b.more));
  long = b.long ∙ a.long;
  is = b.is ∙ ap (λ z. z ++ u) a.is ∙ append_assoc (text_on s) t u;
}

-- a text behind what was laid
laid-put : (s s' : Sheet) (t u : List ℕ) → Laid s s' t → s.used + length (t ++ u) ≤ length s.bytes → Laid s (put_on s' u) (t ++ u)
laid-put s s' t u a h =
    laid-two s s' (put_on s' u) t u a (put_is s' u (omega (arith, a.more, a.long, length-append t u)))

-- a mark and another text behind two texts
marked-laid : (s s' : Sheet) (w x y : List ℕ) (mark : ℕ) → (s.used + length (w ++ x) ≤ length s.bytes → Laid s s' (w ++ x))
    → s.used + length (w ++ (x ++ (mark ∷ y))) ≤ length s.bytes → Laid s (put_on (put_on s' (mark ∷ [])) y) (w ++ (x ++ (mark ∷ y)))
marked-laid s s' w x y mark first h =
    let n : length (w ++ (x ++ (mark ∷ y))) ≡ length w + (length x + (1 + length y)) = simp length-append (omega arith) in
    let k : length ((w ++ x) ++ (mark ∷ [])) ≡ length w + length x + 1 = simp length-append (omega arith) in
    let l : length (((w ++ x) ++ (mark ∷ [])) ++ y) ≡ length w + length x + 1 + length y = simp length-append (omega arith) in
    let one = first (omega (arith, n, length-append w x)) in
    let two = laid-put s s' (w ++ x) (mark ∷ []) one (omega (arith, n, k)) in
    let three = laid-put s (put_on s' (mark ∷ [])) ((w ++ x) ++ (mark ∷ [])) y two (omega (arith, n, l)) in
    let same : ((w ++ x) ++ (mark ∷ [])) ++ y ≡ w ++ (x ++ (mark ∷ y)) = simp append_assoc in
    rw same at three

-- ---- the parts
module _ (s : Sheet) where
  word-laid : (word : Option Word) → s.used + length (word_text word) ≤ length s.bytes → Laid s (word_on s word) (word_text word)
  word-laid (Some word.Label) h = put_is s (spelt "label ") h
  word-laid (Some word.Footage) h = put_is s (spelt "footage ") h
  word-laid (Some word.Refused) h = put_is s (spelt "refused ") h
  word-laid None h = laid_none s

  front-laid : (word : Option Word) (position : Bool) → s.used + length (front_text word position) ≤ length s.bytes
      → Laid s (front_on s word position) (front_text word position)
  front-laid word false h = word-laid word h
  front-laid word true h =
      laid-put s (word_on s word) (word_text word) (64 ∷ []) (word-laid word (omega (arith, h, length-append (word_text word) (64 ∷ [])))) h

  numbers-laid : (n : Numbers) → s.used + length (numbers_text n) ≤ length s.bytes → Laid s (numbers_on s n) (numbers_text n)
  unfolding second_on
  numbers-laid n = by n.second
    where
      first : s.used + length (front_text n.word n.position ++ count_text n.first) ≤ length s.bytes
          → Laid s (first_on s n) (front_text n.word n.position ++ count_text n.first)
      first h =
          laid-put s (front_on s n.word n.position) (front_text n.word n.position) (count_text n.first)
          (front-laid n.word n.position (omega (arith, h, length-append (front_text n.word n.position) (count_text n.first)))) h

      by : (second : Option Second) → (let t = front_text n.word n.position ++ behind_text (count_text n.first) second in
          s.used + length t ≤ length s.bytes → Laid s (behind_on (first_on s n) second) t)
      by None h = first h
      by (Some b) h = marked-laid s (first_on s n) (front_text n.word n.position) (count_text n.first) (signed_text false b.number) b.mark first h

  parts-laid : (a : Shown) → s.used + length (parts_text a) ≤ length s.bytes → Laid s (parts_on s a) (parts_text a)
  unfolding parts_text
  parts-laid shown.Help h = put_is s help_text h
  parts-laid shown.NotUnderstood h = put_is s (spelt "not understood") h
  parts-laid (shown.Numbers n) h = numbers-laid n h

pub shown_line : ShownLine
unfolding shown_text shown_on
shown_line s a h =
    let t = parts_text a in
    (laid-put s (parts_on s a) t (10 ∷ []) (parts-laid s a (omega (arith, h, length-append t (10 ∷ [])))) h).is

-- ---- a writer's answer
length-laid : (s : Sheet) (w : Result ℕ Refusal) → s.used + length (length_text w) ≤ length s.bytes → Laid s (length_on s w) (length_text w)
length-laid s (Ok n) h = put_is s (signed_text false n) h
length-laid s (Err e) h = parts-laid s (of_refusal e) h

pub written_line : WrittenLine
unfolding written_text written_on
written_line s w line h =
    let t = length_text w in
    let all : length (t ++ (32 ∷ line ++ (10 ∷ []))) ≡ length t + (1 + (length line + 1)) = simp length-append (omega arith) in
    let one = length-laid s w (omega (arith, h, all)) in
    let two = marked-laid s (length_on s w) [] t line 32 (λ k. one) (omega (arith, h, all, length-append t (32 ∷ line))) in
    let same : (t ++ (32 ∷ line)) ++ (10 ∷ []) ≡ t ++ (32 ∷ line ++ (10 ∷ [])) = append_assoc t (32 ∷ line) (10 ∷ []) in
    let laid = laid-put s (put_on (put_on (length_on s w) (32 ∷ [])) line) (t ++ (32 ∷ line)) (10 ∷ []) two (omega (arith, h, ap length same)) in
    laid.is ∙ ap (λ z. text_on s ++ z) same

pub hex_written_line : HexWrittenLine
hex_written_line s w line h = written_line s w (hex_text line) h

-- ---- a text that is refused
pub position_shown : PositionShown
unfolding shown_text parts_text
position_shown z rate = (refl, refl, refl, refl, λ format. refl, λ format. refl)

pub text_refused_shown : TextRefusedShown
unfolding parts_text shown_text
text_refused_shown e = refl

-- ---- a shot list
numbered-laid : (s : Sheet) (word : List ℕ) (n : ℕ) → s.used + length (word ++ signed_text false n) ≤ length s.bytes
    → Laid s (numbered_on s word n) (word ++ signed_text false n)
unfolding numbered_on
numbered-laid s word n h =
    laid-put s (put_on s word) word (signed_text false n) (put_is s word (omega (arith, h, length-append word (signed_text false n)))) h

record-laid : (s : Sheet) (r : Record) → s.used + length (record_text r) ≤ length s.bytes → Laid s (record_on s r) (record_text r)
unfolding record_text frames_on
record-laid s (Rate n) h = numbered-laid s (spelt " rate ") n h
record-laid s (Shot first end) h =
    let w = spelt " shot " in
    let x = count_text first in
    marked-laid s (put_on (put_on s w) x) w x (count_text end) 32 (λ k. laid-put s (put_on s w) w x (put_is s w (omega (arith, k, length-append w x))) k) h
record-laid s (Reel n) h = numbered-laid s (spelt " reel ") n h

records-laid : (s : Sheet) (rs : List Record) → s.used + length (records_text rs) ≤ length s.bytes → Laid s (records_on s rs) (records_text rs)
unfolding records_text records_on
records-laid s [] h = laid_none s
records-laid s (r ∷ rs) h =
    let t = record_text r in
    let u = records_text rs in
    let one = record-laid s r (omega (arith, h, length-append t u)) in
    laid-two s (record_on s r) (records_on (record_on s r) rs) t u one
    (records-laid (record_on s r) rs (omega (arith, h, one.more, one.long, length-append t u)))

pub list_line : ListLine
unfolding list_text list_on
list_line s rs h =
    let n = signed_text false (length rs) in
    let t = records_text rs in
    let all : length ((n ++ t) ++ (10 ∷ [])) ≡ length n + length t + 1 = simp length-append (omega arith) in
    let one = put_is s n (omega (arith, h, all)) in
    let two = records-laid (put_on s n) rs (omega (arith, h, all, one.more, one.long)) in
    (laid-put s (records_on (put_on s n) rs) (n ++ t) (10 ∷ []) (laid-two s (put_on s n) (records_on (put_on s n) rs) n t one two) h).is

pub list_refused_line : ListRefusedLine
unfolding parts_text shown_text list_on
list_refused_line s e h = shown_line s (of_refusal e) h

pub list_words : ListWords
unfolding list_text records_text record_text decimal digits_of width width_by
list_words = (refl, refl)
