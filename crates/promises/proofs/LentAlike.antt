-- Who lent a sheet's bytes does not matter to what is put on it.
-- Assumes nothing.
use Rattle.std.specs.Prelude.{Result, Ok, Err, Option, Some, None}
use Prim.Native.Nat.{ℕ}
use mathlib.Core.Path.{◌≡◌, refl, ap, ◌∙◌}
use mathlib.Core.Bool.{Bool, true, false}
use mathlib.Core.List.{List, [], ◌∷◌}
use lib.ListN.{length}
use Rattle.answers.specs.declared.Refusal.{Refusal}
use Rattle.written.specs.Parts.{signed_text}
use Rattle.hex_bytes.specs.Hex.{hex_text}
use Rattle.laws.specs.Spelt.{spelt}
use Rattle.router.specs.declared.Shards.{Shards}
use Rattle.reasons.specs.declared.Reason.{Reason}
use Rattle.shot_lists.specs.declared.records.Record.{Record}
use Rattle.shot_lists.specs.declared.records.Record.TheVariants.{Rate, Shot, Reel}
use Rattle.shot_lists.specs.Reading.{Reading, AllOf, FaultOf}
use Rattle.streams.specs.Sheet.{Sheet, lent_by, put_on}
use Rattle.streams.specs.Pieces.{all_on}
use Rattle.streams.proofs.Putting.{put_lent_by}
use Rattle.showing.specs.declared.Word.{Word}
use Rattle.showing.specs.declared.Word.TheVariants as word
use Rattle.showing.specs.declared.Second.{Second}
use Rattle.showing.specs.declared.Numbers.{Numbers}
use Rattle.showing.specs.declared.Shown.{Shown}
use Rattle.showing.specs.declared.Shown.TheVariants as shown
use Rattle.showing.specs.Each.{of_refusal}
use Rattle.showing.specs.Shown.{count_text, word_on, front_on, second_on, first_on, behind_on, parts_on, shown_on, length_on, written_on, hex_written_on}
use Rattle.showing.specs.Lists.{numbered_on, frames_on, record_on, records_on, list_on}
use Rattle.showing.specs.Why.{puts_on, why_parts, why_on}
use Rattle.showing.specs.Routes.{line_parts, routed_on}

module _ (lender : List ℕ) where
  -- a text behind what is alike already
  behind : (s s' : Sheet) (text : List ℕ) → s' ≡ lent_by lender s → put_on s' text ≡ lent_by lender (put_on s text)
  behind s s' text e = ap (λ z. put_on z text) e ∙ put_lent_by lender s text

  -- ---- texts one behind the other
  pub all-lent : (s : Sheet) (pieces : List (List ℕ)) → all_on (lent_by lender s) pieces ≡ lent_by lender (all_on s pieces)
  all-lent s [] = refl
  all-lent s (t ∷ ts) = ap (λ z. all_on z ts) (put_lent_by lender s t) ∙ all-lent (put_on s t) ts

  pub puts-lent : (s : Sheet) (parts : List (List ℕ)) → puts_on (lent_by lender s) parts ≡ lent_by lender (puts_on s parts)
  unfolding puts_on
  puts-lent s [] = refl
  puts-lent s (t ∷ ts) = ap (λ z. puts_on z ts) (put_lent_by lender s t) ∙ puts-lent (put_on s t) ts

  -- ---- an answer
  word-lent : (s : Sheet) (w : Option Word) → word_on (lent_by lender s) w ≡ lent_by lender (word_on s w)
  word-lent s (Some word.Label) = put_lent_by lender s (spelt "label ")
  word-lent s (Some word.Footage) = put_lent_by lender s (spelt "footage ")
  word-lent s (Some word.Refused) = put_lent_by lender s (spelt "refused ")
  word-lent s None = refl

  front-lent : (s : Sheet) (w : Option Word) (position : Bool) → front_on (lent_by lender s) w position ≡ lent_by lender (front_on s w position)
  front-lent s w false = word-lent s w
  front-lent s w true = behind (word_on s w) (word_on (lent_by lender s) w) (64 ∷ []) (word-lent s w)

  first-lent : (s : Sheet) (n : Numbers) → first_on (lent_by lender s) n ≡ lent_by lender (first_on s n)
  first-lent s n = ap (λ z. put_on z (count_text n.first)) (front-lent s n.word n.position) ∙ put_lent_by lender (front_on s n.word n.position) (count_text n.first)

  second-lent : (s : Sheet) (t : Option Second) → behind_on (lent_by lender s) t ≡ lent_by lender (behind_on s t)
  unfolding second_on put_on
  second-lent s None = refl
  second-lent s (Some t) = refl

  parts-lent : (s : Sheet) (a : Shown) → parts_on (lent_by lender s) a ≡ lent_by lender (parts_on s a)
  parts-lent s shown.Help = put_lent_by lender s _
  parts-lent s shown.NotUnderstood = put_lent_by lender s _
  parts-lent s (shown.Numbers n) = ap (λ z. behind_on z n.second) (first-lent s n) ∙ second-lent (first_on s n) n.second

  pub shown-lent : (s : Sheet) (a : Shown) → shown_on (lent_by lender s) a ≡ lent_by lender (shown_on s a)
  unfolding shown_on
  shown-lent s a = behind (parts_on s a) (parts_on (lent_by lender s) a) (10 ∷ []) (parts-lent s a)

  -- ---- what a writer answers, and its line
  length-lent : (s : Sheet) (w : Result ℕ Refusal) → length_on (lent_by lender s) w ≡ lent_by lender (length_on s w)
  length-lent s (Ok n) = put_lent_by lender s (signed_text false n)
  length-lent s (Err e) = parts-lent s (of_refusal e)

  line-lent : (s s' : Sheet) (line : List ℕ) → s' ≡ lent_by lender s
      → put_on (put_on (put_on s' (32 ∷ [])) line) (10 ∷ []) ≡ lent_by lender (put_on (put_on (put_on s (32 ∷ [])) line) (10 ∷ []))
  line-lent s s' line e = behind _ _ (10 ∷ []) (behind _ _ line (behind s s' (32 ∷ []) e))

  pub written-lent : (s : Sheet) (w : Result ℕ Refusal) (line : List ℕ) → written_on (lent_by lender s) w line ≡ lent_by lender (written_on s w line)
  unfolding written_on
  written-lent s w line = line-lent (length_on s w) (length_on (lent_by lender s) w) line (length-lent s w)

  pub hex-written-lent : (s : Sheet) (w : Result ℕ Refusal) (line : List ℕ) → hex_written_on (lent_by lender s) w line ≡ lent_by lender (hex_written_on s w line)
  hex-written-lent s w line = written-lent s w (hex_text line)

  -- ---- a shot list
  record-lent : (s : Sheet) (r : Record) → record_on (lent_by lender s) r ≡ lent_by lender (record_on s r)
  unfolding numbered_on frames_on put_on
  record-lent s (Rate n) = refl
  record-lent s (Shot first end) = refl
  record-lent s (Reel n) = refl

  records-lent : (s : Sheet) (rs : List Record) → records_on (lent_by lender s) rs ≡ lent_by lender (records_on s rs)
  unfolding records_on
  records-lent s [] = refl
  records-lent s (r ∷ rs) = ap (λ z. records_on z rs) (record-lent s r) ∙ records-lent (record_on s r) rs

  counted-lent : (s : Sheet) (count : List ℕ) (rs : List Record) → records_on (put_on (lent_by lender s) count) rs ≡ lent_by lender (records_on (put_on s count) rs)
  counted-lent s count rs = ap (λ z. records_on z rs) (put_lent_by lender s count) ∙ records-lent (put_on s count) rs

  pub list-lent : (s : Sheet) (t : Reading) → list_on (lent_by lender s) t ≡ lent_by lender (list_on s t)
  unfolding list_on
  list-lent s (AllOf rs) =
      behind (records_on (put_on s (signed_text false (length rs))) rs) (records_on (put_on (lent_by lender s) (signed_text false (length rs))) rs) (10 ∷ [])
      (counted-lent s (signed_text false (length rs)) rs)
  list-lent s (FaultOf e) = shown-lent s (of_refusal e)

  -- ---- why a text is read as it is, and the shards that a query asks
  pub why-lent : (s : Sheet) (rate : ℕ) (w : Result Reason Refusal) (line : List ℕ) → why_on (lent_by lender s) rate w line ≡ lent_by lender (why_on s rate w line)
  unfolding why_on
  why-lent s rate w line = puts-lent s (why_parts rate w line)

  pub routed-lent : (s : Sheet) (a : Result Shards Refusal) → routed_on (lent_by lender s) a ≡ lent_by lender (routed_on s a)
  unfolding routed_on
  routed-lent s a = puts-lent s (line_parts a)
