-- Records of the grammar are listed as they are made, and what is listed as all is made so: one kind or number after the other.
-- Assumes nothing.
use Rattle.std.specs.Prelude.{None, Option, Some}
use Rattle.asking.specs.Numbers.{some_word}
use Prim.Native.Nat.{ℕ, zero, suc, ◌+◌, ◌≤◌}
use mathlib.Core.Path.{◌≡◌, refl, sym, ap, subst, ◌∙◌}
use mathlib.Core.List.{List, [], ◌∷◌, ◌++◌}
use mathlib.Core.Bool.{true, and-eq-true_iff}
use native.Mathlib.Omega.{arith}
use lib.Dec.{eqb, leb}
use lib.IntN.{ℤ}
use lib.ListN.{length, take, drop, set, length-drop, drop_of_length-le}
use lib.Seq.{drop-drop, drop-append_seam, take-append_seam}
use borrow.Author.Tests.{eqb-true, leb-true, le-leb}
use Rattle.asking.specs.declared.values.Word.{Word}
use Rattle.asking.specs.Numbers.{number_at}
use Rattle.asking.specs.Numbered.{Listing, list_then}
use Rattle.asking.specs.Table.{word_first}
use Rattle.asking.specs.RecordWords.{kind_at, next_at, due_behind, is_done, record_listing, records_from, records_of}
use Rattle.asking.specs.Grammar.{RecordWords}
use Rattle.asking.specs.Statements.{placed_from}
use Rattle.asking.specs.RecordStatements.{listed_as, AreListed, RecordsExactly}
use Rattle.asking.proofs.Numerals.{number-taken, number-told, number-left}
use Rattle.asking.proofs.Placed.{placed-front}
use Rattle.asking.proofs.RecordTexts.{Due, ended, word, number, words-due, due-words, due-stops, worded-due, kind-taken, kind-told}

-- so many were listed from the n-th on, and they are all
abbrev listed_from : (n : ℕ) (list zs : List ℤ) → Listing ℤ
listed_from n list zs = record { list = placed_from n list zs; listed = record { all = true; count = n + length zs } }

module _ (line : List ℕ) where
  -- ---- where a rest is listed
  word-left : (at : ℕ) (w t : List ℕ) → drop at line ≡ w ++ t → drop (at + length w) line ≡ t
  word-left at w t q = sym (drop-drop (length w) at line) ∙ ap (drop (length w)) q ∙ drop-append_seam w t

  done-here : (at : ℕ) → drop at line ≡ [] → is_done line at 0 ≡ true
  unfolding is_done
  done-here at q = le-leb (length line) at (omega (arith, ap length q, length-drop at line))

  module _ (m at due n : ℕ) (list : List ℤ) where
    -- one more
    one_more : (z : ℤ) (next after : ℕ) (zs : List ℤ) → next_at due at (drop at line) ≡ some_word z next → due_behind due z ≡ after
        → records_from m line next after (n + 1) (set list n z) ≡ listed_from (n + 1) (set list n z) zs
        → records_from (suc m) line at due n list ≡ listed_from n list (z ∷ zs)
    unfolding records_from placed_from
    one_more z next after zs e f g =
        let c : n + 1 + length zs ≡ n + suc (length zs) = omega arith in
        rw (e, f, g, c)

  none_more : (m at n : ℕ) (list : List ℤ) → drop at line ≡ [] → records_from m line at 0 n list ≡ listed_from n list []
  unfolding records_from placed_from next_at kind_at word_first
  none_more zero at n list q = let c : n + 0 ≡ n = omega arith in rw (done-here at q, c)
  none_more (suc m) at n list q = let c : n + 0 ≡ n = omega arith in rw (q, done-here at q, c)

  due-listed : {due : ℕ} {text : List ℕ} {zs : List ℤ} → Due due text zs → (m at n : ℕ) (list : List ℤ) → drop at line ≡ text → length zs ≤ m
      → records_from m line at due n list ≡ listed_from n list zs
  unfolding next_at due_behind
  due-listed ended m at n list q h = none_more m at n list q
  due-listed (word w r) zero at n list q h = absurd (omega arith)
  due-listed (word {w} {t} {k} {due} {zs} d r) (suc m) at n list q h =
      one_more m at 0 n list k (at + length w) due zs (ap (kind_at at) q ∙ kind-taken d at t) (worded-due d)
      (due-listed r m (at + length w) (n + 1) (set list n k) (word-left at w t q) (omega arith))
  due-listed (number f r) zero at n list q h = absurd (omega arith)
  due-listed (number {due} {d} {t} {z} {zs} f r) (suc m) at n list q h =
      one_more m at (suc due) n list z (at + 1 + length d) due zs (ap (number_at at) q ∙ number-taken f at t (due-stops r)) refl
      (due-listed r m (at + 1 + length d) (n + 1) (set list n z) (number-left line at d t q) (omega arith))

  -- ---- and back: what is taken next, and the rest behind it
  kind-rest : (at : ℕ) (z : ℤ) (next : ℕ) (zs : List ℤ) → kind_at at (drop at line) ≡ some_word z next → Due (due_behind 0 z) (drop next line) zs
      → Due 0 (drop at line) (z ∷ zs)
  kind-rest at z next zs e r =
      let t = kind-told at (drop at line) z next e in
      let behind = drop (length t.word) (drop at line) in
      let left : drop next line ≡ behind = ap (λ x. drop x line) t.past ∙ word-left at t.word behind t.is in
      subst (λ x. Due 0 x (z ∷ zs)) (sym t.is) (word t.worded (rw (worded-due t.worded, left) at r))

  number-rest : (at due : ℕ) (z : ℤ) (next : ℕ) (zs : List ℤ) → number_at at (drop at line) ≡ some_word z next → Due due (drop next line) zs
      → Due (suc due) (drop at line) (z ∷ zs)
  number-rest at due z next zs e r =
      let t = number-told at (drop at line) z next e in
      let left : drop next line ≡ t.rest = ap (λ x. drop x line) t.past ∙ number-left line at t.digits t.rest t.is in
      subst (λ x. Due (suc due) x (z ∷ zs)) (sym t.is) (number t.numeral (rw left at r))

  next-rest : (due at : ℕ) (z : ℤ) (next : ℕ) (zs : List ℤ) → next_at due at (drop at line) ≡ some_word z next → Due (due_behind due z) (drop next line) zs
      → Due due (drop at line) (z ∷ zs)
  unfolding next_at due_behind
  next-rest zero at z next zs e r = kind-rest at z next zs e r
  next-rest (suc due) at z next zs e r = number-rest at due z next zs e r

  -- where nothing is due and nothing is left, the rest is empty
  done-rest : (due at : ℕ) → is_done line at due ≡ true → (due ≡ 0) × (drop at line ≡ [])
  unfolding is_done
  done-rest due at e =
      let q = (and-eq-true_iff (eqb due 0) (leb (length line) at)).0 e in
      (eqb-true due 0 q.0, drop_of_length-le line {i = at} (leb-true (length line) at q.1))

  record RecordsTold (m at due n : ℕ) (list : List ℤ) : Type 0 where
    zs : List ℤ
    rest : Due due (drop at line) zs
    room : length zs ≤ m
    is : records_from m line at due n list ≡ listed_from n list zs

  none_told : (m at due n : ℕ) (list : List ℤ) → is_done line at due ≡ true → RecordsTold m at due n list
  none_told m at due n list e =
      let q = done-rest due at e in
      record {
        zs = [];
        rest = rw (q.0, q.1) ended;
        room = omega arith;
        is = rw q.0 (none_more m at n list q.1);
      }

  records-told : (m at due n : ℕ) (list : List ℤ) → (records_from m line at due n list).listed.all ≡ true → RecordsTold m at due n list
  unfolding records_from
  records-told zero at due n list e = none_told zero at due n list e
  records-told (suc m) at due n list e =
      by (next_at due at (drop at line)) refl (λ next after l. records-told m next after (n + 1) l) e
    where
      by : (y : Option Word) → next_at due at (drop at line) ≡ y
          → ((next after : ℕ) (l : List ℤ) → (records_from m line next after (n + 1) l).listed.all ≡ true → RecordsTold m next after (n + 1) l)
          → (list_then y (λ z next. records_from m line next (due_behind due z) (n + 1) (set list n z)) (record_listing line at due n list)).listed.all ≡ true
          → RecordsTold (suc m) at due n list
      by None q more f = none_told (suc m) at due n list f
      by (Some w) q more f =
          let t = more w.next (due_behind due w.number) (set list n w.number) f in
          record {
            zs = w.number ∷ t.zs;
            rest = next-rest due at w.number w.next t.zs q t.rest;
            room = omega (arith, t.room);
            is = one_more m at due n list w.number w.next (due_behind due w.number) t.zs q refl t.is;
          }

-- ---- from the list's front on
front-is : (zs list : List ℤ) → length zs ≤ length list → listed_from 0 list zs ≡ listed_as zs list
front-is zs list h = let e : 0 + length zs ≡ length zs = omega arith in rw (placed-front zs list h, e)

pub records_exactly : RecordsExactly
records_exactly line from list = (there, back)
  where
    there : (zs : List ℤ) → RecordWords (drop from line) zs → length zs ≤ length list → records_of line from list ≡ listed_as zs list
    there zs r h = due-listed line (words-due r) (length list) from 0 list refl h ∙ front-is zs list h

    back : (records_of line from list).listed.all ≡ true
        → AreListed line from list (take (records_of line from list).listed.count (records_of line from list).list)
    back e =
        let t = records-told line (length list) from 0 0 list e in
        let is : records_of line from list ≡ listed_as t.zs list = t.is ∙ front-is t.zs list t.room in
        let front : take (records_of line from list).listed.count (records_of line from list).list ≡ t.zs =
        rw is (take-append_seam t.zs (drop (length t.zs) list)) in
        rw front (record { words = due-words t.rest; room = t.room; is = is })
