-- What is understood is a line of the grammar: its word is a row's, and what stands behind it is by the row's letters.
-- Assumes nothing.
use Rattle.asking.proofs.Same.{number-value, number-next}
use Rattle.std.specs.Prelude.{None, Option, Some}
use Rattle.asking.specs.Numbers.{some_word}
use Rattle.std.specs.Prelude.{Some, None}
use Prim.Native.Nat.{ℕ, zero, suc, ◌+◌, ◌-◌, ◌≤◌, ◌<◌}
use mathlib.Core.Path.{◌≡◌, refl, sym, ap, subst, ◌∙◌}
use mathlib.Core.List.{List, [], ◌∷◌, ◌++◌}
use mathlib.Core.Bool.{Bool, true, false, cond, not, ◌||◌, and-eq-true_iff}
use native.Mathlib.Omega.{arith}
use lib.Dec.{eqb, ltb}
use lib.IntN.{ℤ, pos}
use lib.ListN.{length, drop, set, get_or, length-append, length-drop, take-append-drop}
use lib.Seq.{drop-drop}
use borrow.Author.Tests.{eqb-true, eqb-false, ltb-true, not-true}
use Rattle.asking.specs.declared.values.Word.{Word}
use Rattle.asking.specs.declared.words.Value.{Value}
use Rattle.asking.specs.declared.words.Asked.{Asked}
use Rattle.asking.specs.Numbers.{signed_at, number_at}
use Rattle.asking.specs.ShardWords.{shards_at}
use Rattle.asking.specs.Table.{Row, row, rows, row_count, row_at, word_of, same, row_from, row_named, kind_of}
use Rattle.asking.specs.Asked.{value, is_position, is_unstated, is_marked, value_at, is_in_range, allowed, is_shards, word_at, is_last, rest_at}
use Rattle.asking.specs.Asked.{no_values, unknown, asked_rest, ended_at, word_then, words_from, asked_of}
use Rattle.asking.specs.Grammar.{Behind, ended, no_text, text, own, number, marked, unstated, shards, Asks, asks}
use Rattle.asking.specs.Statements.{placed_from, IsAsked}
use Rattle.asking.proofs.Numerals.{number-told, number-left, signed-told, signed-left}
use Rattle.asking.proofs.Understanding.{numbers, is_formed, letter-here, letter-none, letters-on, words_last, words-number, row-formed, row-five}
use Rattle.asking.proofs.Taken.{word-within, word_first_lem, position-told, unstated-told, marked-unstated, marked-stated}
use Rattle.asking.proofs.Taken.{value-unstated, value-marked, value-plain, word-shards, word_number, shards-unmarked}
use Rattle.asking.proofs.ShardTexts.{shards-told}

-- what is told of the words from the k-th on, which begin at a place of the line
record Told (n at : ℕ) (letters t line : List ℕ) (k : ℕ) (values : List Value) (a : Asked) : Type 0 where
  vs : List Value
  r : List ℕ
  row_is : a.row ≡ n
  behind : Behind at letters t vs r
  values_are : a.values ≡ placed_from k values vs
  begins : a.rest + length r ≡ length line

-- no row is past the table
past : (a : Asked) → a ≡ unknown → a.row < row_count → ⊥
past a e h = omega (arith, h, ap (λ z. z.row) e)

module _ (n : ℕ) (line : List ℕ) where
  -- the end of the words, by their last letter
  none_told : (at k : ℕ) (values : List Value) (t : List ℕ) → drop at line ≡ t → at ≤ length line → (asked_rest n values (rest_at 32 at t)).row < row_count
      → Told n at [] t line k values (asked_rest n values (rest_at 32 at t))
  unfolding rest_at placed_from
  none_told at k values [] q w h = record {
    vs = [];
    r = [];
    row_is = refl;
    behind = ended;
    values_are = refl;
    begins = omega (arith, ap length q, length-drop at line);
  }
  none_told at k values (b ∷ u) q w h = absurd (past unknown refl h)

  text-told : (at k : ℕ) (values : List Value) (t : List ℕ) → drop at line ≡ t → at ≤ length line → (asked_rest n values (rest_at 116 at t)).row < row_count
      → Told n at (116 ∷ []) t line k values (asked_rest n values (rest_at 116 at t))
  unfolding rest_at placed_from
  text-told at k values [] q w h = record {
    vs = [];
    r = [];
    row_is = refl;
    behind = no_text;
    values_are = refl;
    begins = omega (arith, ap length q, length-drop at line);
  }
  text-told at k values (b ∷ u) q w h = by (eqb b 32) refl h
    where
      by : (x : Bool) → eqb b 32 ≡ x → (asked_rest n values (cond x (Some (at + 1)) None)).row < row_count
          → Told n at (116 ∷ []) (b ∷ u) line k values (asked_rest n values (cond x (Some (at + 1)) None))
      by true e g = record {
        vs = [];
        r = u;
        row_is = refl;
        behind = rw (eqb-true b 32 e) text;
        values_are = refl;
        begins = omega (arith, ap length q, length-drop at line);
      }
      by false e g = absurd (past unknown refl g)

  own-told : (at k : ℕ) (values : List Value) (t : List ℕ) → drop at line ≡ t → at ≤ length line
      → Told n at (42 ∷ []) t line k values (asked_rest n values (rest_at 42 at t))
  unfolding rest_at placed_from
  own-told at k values [] q w = record {
    vs = [];
    r = [];
    row_is = refl;
    behind = own;
    values_are = refl;
    begins = omega (arith, ap length q, length-drop at line);
  }
  own-told at k values (b ∷ u) q w = record {
    vs = [];
    r = b ∷ u;
    row_is = refl;
    behind = own;
    values_are = refl;
    begins = omega (arith, ap length q, length-drop at line);
  }

  -- one of the two letters
  last-told : (x at k : ℕ) (values : List Value) (t : List ℕ) → is_last x ≡ true → not (eqb x 32) ≡ true → drop at line ≡ t → at ≤ length line
      → (asked_rest n values (rest_at x at t)).row < row_count → Told n at (x ∷ []) t line k values (asked_rest n values (rest_at x at t))
  last-told x at k values t i j q w h = by (eqb x 116) refl (eqb x 42) refl (rw (not-true (eqb x 32) j) at i)
    where
      by : (y : Bool) → eqb x 116 ≡ y → (z : Bool) → eqb x 42 ≡ z → (eqb x 116 || eqb x 42) ≡ true
          → Told n at (x ∷ []) t line k values (asked_rest n values (rest_at x at t))
      by true e z f o =
          subst (λ u. (asked_rest n values (rest_at u at t)).row < row_count → Told n at (u ∷ []) t line k values (asked_rest n values (rest_at u at t)))
          (sym (eqb-true x 116 e)) (λ g. text-told at k values t q w g) h
      by false e true f o = rw (eqb-true x 42 f) (own-told at k values t q w)
      by false e false f o = absurd (let y : ◌≡◌ {A = Bool} false true = sym (rw (e, f)) ∙ o in let z : ◌≡◌ {A = ℕ} 0 1 = cc in omega arith)

  -- no letter is left
  none-words : (m at k : ℕ) (values : List Value) → drop k (row_at n).letters ≡ [] → at ≤ length line → (words_from m n line at k values).row < row_count
      → Told n at [] (drop at line) line k values (words_from m n line at k values)
  unfolding ended_at
  none-words m at k values p w h =
      let kind : kind_of n k ≡ 32 = letter-none (row_at n).letters k p in
      let e : words_from m n line at k values ≡ asked_rest n values (rest_at 32 at (drop at line)) =
      words_last n line at k values m (ap is_last kind) ∙ ap (λ x. asked_rest n values (rest_at x at (drop at line))) kind in
      rw e (none_told at k values (drop at line) refl w (rw e at h))

  module _ (x : ℕ) (l : List ℕ) (at k : ℕ) (values : List Value) (p : drop k (row_at n).letters ≡ x ∷ l) (w : at ≤ length line) where
    kind : kind_of n k ≡ x
    kind = letter-here (row_at n).letters k x l p

    -- the last letter: nothing is behind it
    last-words : (m : ℕ) → l ≡ [] → not (eqb x 32) ≡ true → is_last x ≡ true → (words_from m n line at k values).row < row_count
        → Told n at (x ∷ l) (drop at line) line k values (words_from m n line at k values)
    unfolding ended_at
    last-words m none j i h =
        let e : words_from m n line at k values ≡ asked_rest n values (rest_at x at (drop at line)) =
        words_last n line at k values m (ap is_last kind ∙ i) ∙ ap (λ y. asked_rest n values (rest_at y at (drop at line))) kind in
        rw (none, e) (last-told x at k values (drop at line) i j refl w (rw e at h))

    -- a number, and what is told of the words behind it
    number-words : (m : ℕ) → is_last x ≡ false
        → ((next : ℕ) (v : List Value) → next ≤ length line → (words_from m n line next (k + 1) v).row < row_count
        → Told n next l (drop next line) line (k + 1) v (words_from m n line next (k + 1) v))
        → (words_from (suc m) n line at k values).row < row_count
        → Told n at (x ∷ l) (drop at line) line k values (words_from (suc m) n line at k values)
    unfolding placed_from
    number-words m i ih h = letters (is_shards x) refl
      where
        mark : Bool
        mark = is_marked x (drop at line)

        then : ℤ → ℕ → Asked
        then z next = words_from m n line next (k + 1) (set values k (value z mark))

        e : words_from (suc m) n line at k values ≡ word_then (word_at x line at) then
        e =
            words-number n line at k values m (ap is_last kind ∙ i)
            ∙ rw kind

        -- a word of the grammar, and what is told of the words behind it
        one : (z : ℤ) (next : ℕ) (b : Bool) (t : List ℕ) (p : ℕ) → mark ≡ b → drop next line ≡ t → next ≤ length line → next ≡ p
            → ((vs : List Value) (r : List ℕ) → Behind p l t vs r → Behind at (x ∷ l) (drop at line) (value z b ∷ vs) r)
            → (then z next).row < row_count → Told n at (x ∷ l) (drop at line) line k values (then z next)
        one z next b t p f left within past behind u =
            let more = ih next (set values k (value z mark)) within u in
            record {
              vs = value z b ∷ more.vs;
              r = more.r;
              row_is = more.row_is;
              behind =
                  behind more.vs more.r
                  (subst (λ y. Behind y l t more.vs more.r) past (subst (λ y. Behind next l y more.vs more.r) left more.behind));
              values_are = more.values_are ∙ ap (λ y. placed_from (k + 1) (set values k (value z y)) more.vs) f;
              begins = more.begins;
            }

        plain : (z : ℤ) (next : ℕ) → is_shards x ≡ false → mark ≡ false → number_at at (drop at line) ≡ some_word z next → is_in_range x z ≡ true → (then z next).row < row_count
            → Told n at (x ∷ l) (drop at line) line k values (then z next)
        plain z next s f q g u =
            let t = number-told at (drop at line) z next q in
            let long : length (drop at line) ≡ suc (length t.digits + length t.rest) = ap length t.is ∙ ap suc (length-append t.digits t.rest) in
            one z next false t.rest (at + 1 + length t.digits) f
            (ap (λ y. drop y line) t.past ∙ number-left line at t.digits t.rest t.is)
            (omega (arith, t.past, long, length-drop at line)) t.past
            (λ vs r b. subst (λ y. Behind at (x ∷ l) y (value z false ∷ vs) r) (sym t.is) (number i s t.numeral g t.stops b))
            u

        marks : (z : ℤ) (next : ℕ) → mark ≡ true → is_position x (drop at line) ≡ true → signed_at (at + 2) (drop 2 (drop at line)) ≡ some_word z next
            → (then z next).row < row_count → Told n at (x ∷ l) (drop at line) line k values (then z next)
        marks z next f g q u =
            let m = position-told x (drop at line) g in
            let t = signed-told (at + 2) (drop 2 (drop at line)) z next q in
            let is : drop at line ≡ 32 ∷ 64 ∷ t.digits ++ t.rest = m.1 ∙ ap (λ y. 32 ∷ 64 ∷ y) t.is in
            let long : length (drop at line) ≡ suc (suc (length t.digits + length t.rest)) =
            ap length is ∙ ap (λ y. suc (suc y)) (length-append t.digits t.rest) in
            one z next true t.rest (at + 2 + length t.digits) f
            (ap (λ y. drop y line) t.past ∙ signed-left line (at + 2) t.digits t.rest (sym (drop-drop 2 at line) ∙ t.is))
            (omega (arith, t.past, long, length-drop at line)) t.past
            (λ vs r b. subst (λ y. Behind at (y ∷ l) (drop at line) (value z true ∷ vs) r) (sym m.0)
            (subst (λ y. Behind at (64 ∷ l) y (value z true ∷ vs) r) (sym is) (marked t.numeral t.stops b)))
            u

        unstates : (z : ℤ) (next : ℕ) → is_unstated x (drop at line) ≡ true → some_word (pos 0) (at + 2) ≡ some_word z next
            → (then z next).row < row_count → Told n at (x ∷ l) (drop at line) line k values (then z next)
        unstates z next f q u =
            let m = unstated-told x (drop at line) f in
            let is : drop at line ≡ 32 ∷ 45 ∷ drop 2 (drop at line) = m.1.0 in
            let none : pos 0 ≡ z = number-value q in
            let past : at + 2 ≡ next = number-next q in
            one z next true (drop 2 (drop at line)) (at + 2) (sym (marked-unstated x (drop at line) f))
            (ap (λ y. drop y line) (sym past) ∙ sym (drop-drop 2 at line))
            (omega (arith, past, ap length is, length-drop at line)) (sym past)
            (λ vs r b. subst (λ y. Behind at (x ∷ l) (drop at line) (value y true ∷ vs) r) none
            (subst (λ y. Behind at (y ∷ l) (drop at line) (value (pos 0) true ∷ vs) r) (sym m.0)
            (subst (λ y. Behind at (102 ∷ l) y (value (pos 0) true ∷ vs) r) (sym is) (unstated m.1.1 b))))
            u

        places : (z : ℤ) (next : ℕ) → x ≡ 115 → shards_at line at ≡ some_word z next → (then z next).row < row_count
            → Told n at (x ∷ l) (drop at line) line k values (then z next)
        places z next s q u =
            let t = shards-told line at z next q in
            let long : length (drop at line) ≡ suc (length t.w + length t.l) = ap length t.is ∙ ap suc (length-append t.w t.l) in
            one z next false t.l (at + 1 + length t.w) (shards-unmarked x (drop at line) s)
            (ap (λ y. drop y line) t.past ∙ number-left line at t.w t.l t.is)
            (omega (arith, t.past, long, length-drop at line)) t.past
            (λ vs r b. subst (λ y. Behind at (x ∷ l) (drop at line) (value y false ∷ vs) r) t.place
            (subst (λ y. Behind at (y ∷ l) (drop at line) (value (pos (at + 1)) false ∷ vs) r) (sym s)
            (subst (λ y. Behind at (115 ∷ l) y (value (pos (at + 1)) false ∷ vs) r) (sym t.is) (shards t.text t.over b))))
            u

        placed : x ≡ 115 → (y : Option Word) → shards_at line at ≡ y → (word_then y then).row < row_count
            → Told n at (x ∷ l) (drop at line) line k values (word_then y then)
        placed s None q u = absurd (past unknown refl u)
        placed s (Some w) q u = places w.number w.next s q u

        by : is_shards x ≡ false → (y : Option Word) → value_at x at (drop at line) ≡ y → (word_then (allowed x y) then).row < row_count
            → Told n at (x ∷ l) (drop at line) line k values (word_then (allowed x y) then)
        by s None q u = absurd (past unknown refl u)
        by s (Some w) q u = ranged (is_in_range x w.number) refl u
          where
            number : (a : Bool) → is_unstated x (drop at line) ≡ a → (b : Bool) → is_position x (drop at line) ≡ b → is_in_range x w.number ≡ true
                → (then w.number w.next).row < row_count → Told n at (x ∷ l) (drop at line) line k values (then w.number w.next)
            number true e b f g u = unstates w.number w.next e (sym (value-unstated x at (drop at line) e) ∙ q) u
            number false e true f g u =
                marks w.number w.next (sym (marked-stated x (drop at line) e) ∙ f) f (sym (value-marked x at (drop at line) e f) ∙ q) u
            number false e false f g u =
                plain w.number w.next s (sym (marked-stated x (drop at line) e) ∙ f) (sym (value-plain x at (drop at line) e f) ∙ q) g u

            ranged : (b : Bool) → is_in_range x w.number ≡ b → (word_then (cond b (some_word w.number w.next) None) then).row < row_count
                → Told n at (x ∷ l) (drop at line) line k values (word_then (cond b (some_word w.number w.next) None) then)
            ranged true g u = number (is_unstated x (drop at line)) refl (is_position x (drop at line)) refl g u
            ranged false g u = absurd (past unknown refl u)

        letters : (s : Bool) → is_shards x ≡ s → Told n at (x ∷ l) (drop at line) line k values (words_from (suc m) n line at k values)
        letters true s =
            let kind = eqb-true x 115 s in
            let f = e ∙ ap (λ y. word_then y then) (sym (word-shards x line at kind)) in
            rw f (placed kind (shards_at line at) refl (rw f at h))
        letters false s =
            let f = e ∙ ap (λ y. word_then y then) (sym (word_number x line at (eqb-false x 115 s))) in
            rw f (by s (value_at x at (drop at line)) refl (rw f at h))

  -- the last letter is the only one that is no number's
  alone : (x : ℕ) (l : List ℕ) → is_last x ≡ true → is_formed (x ∷ l) ≡ true → (l ≡ []) × (not (eqb x 32) ≡ true)
  unfolding is_formed
  alone x [] i g = (refl, g)
  alone x (y ∷ l) i g =
      let z : ◌≡◌ {A = Bool} true false = sym i ∙ not-true (is_last x) ((and-eq-true_iff (not (is_last x)) _).0 g).0 in
      absurd (let u : ◌≡◌ {A = ℕ} 0 1 = cc in omega arith)

  formed-on : (x : ℕ) (l : List ℕ) → is_formed (x ∷ l) ≡ true → is_last x ≡ false → is_formed l ≡ true
  unfolding is_formed
  formed-on x [] g i = refl
  formed-on x (y ∷ l) g i = ((and-eq-true_iff (not (is_last x)) _).0 g).1

  numbers_on : (x : ℕ) (l : List ℕ) (m : ℕ) → is_last x ≡ false → numbers (x ∷ l) ≤ m → suc (numbers l) ≤ m
  unfolding numbers
  numbers_on x l m i c = rw i at c

  -- the words from the k-th on
  words-told : (m at k : ℕ) (values : List Value) (letters : List ℕ) → drop k (row_at n).letters ≡ letters → is_formed letters ≡ true
      → numbers letters ≤ m → at ≤ length line → (words_from m n line at k values).row < row_count
      → Told n at letters (drop at line) line k values (words_from m n line at k values)
  words-told zero at k values [] p f c w h = none-words zero at k values p w h
  words-told zero at k values (x ∷ l) p f c w h = by (is_last x) refl
    where
      by : (b : Bool) → is_last x ≡ b → Told n at (x ∷ l) (drop at line) line k values (words_from zero n line at k values)
      by true i = let a = alone x l i f in last-words x l at k values p w zero a.0 a.1 i h
      by false i = absurd (omega (arith, numbers_on x l zero i c))
  words-told (suc m) at k values [] p f c w h = none-words (suc m) at k values p w h
  words-told (suc m) at k values (x ∷ l) p f c w h =
      by (is_last x) refl
      (λ i next v w u. words-told m next (k + 1) v l (letters-on (row_at n).letters k x l p) (formed-on x l f i) (omega (arith, numbers_on x l (suc m) i c)) w u)
    where
      by : (b : Bool) → is_last x ≡ b
          → (is_last x ≡ false → (next : ℕ) (v : List Value) → next ≤ length line → (words_from m n line next (k + 1) v).row < row_count
          → Told n next l (drop next line) line (k + 1) v (words_from m n line next (k + 1) v))
          → Told n at (x ∷ l) (drop at line) line k values (words_from (suc m) n line at k values)
      by true i ih = let a = alone x l i f in last-words x l at k values p w (suc m) a.0 a.1 i h
      by false i ih = number-words x l at k values p w m i (ih i) h

-- ---- the word
same-is : (l m : List ℕ) → same l m ≡ true → l ≡ m
unfolding same
same-is [] [] e = refl
same-is [] (b ∷ m) e = let z : ◌≡◌ {A = ℕ} 0 1 = cc in absurd (omega arith)
same-is (a ∷ l) [] e = let z : ◌≡◌ {A = ℕ} 0 1 = cc in absurd (omega arith)
same-is (a ∷ l) (b ∷ m) e =
    let q = (and-eq-true_iff (eqb a b) (same l m)).0 e in
    ap (λ z. z ∷ l) (eqb-true a b q.0) ∙ ap (λ z. b ∷ z) (same-is l m q.1)

-- a row that was found has the word
record Found (rs : List Row) (i n : ℕ) (w : List ℕ) : Type 0 where
  from : i ≤ n
  named : n < i + length rs → same w (get_or rs (n - i) (row "" "")).name ≡ true

found : (rs : List Row) (i : ℕ) (w : List ℕ) → Found rs i (row_from i rs w) w
unfolding row_from
found [] i w = record { from = omega arith; named = λ h. absurd (omega arith) }
found (r ∷ rs) i w = by (same w r.name) refl (found rs (suc i) w)
  where
    by : (b : Bool) → same w r.name ≡ b → Found rs (suc i) (row_from (suc i) rs w) w → Found (r ∷ rs) i (cond b i (row_from (suc i) rs w)) w
    by true e f = let z : i - i ≡ 0 = omega arith in record { from = omega arith; named = λ h. rw z e }
    by false e f =
        let n = row_from (suc i) rs w in
        let z : n - i ≡ suc (n - suc i) = omega (arith, f.from) in
        record { from = omega (arith, f.from); named = λ h. rw z (f.named (omega arith)) }

word-named : (w : List ℕ) → row_named w < row_count → w ≡ (row_at (row_named w)).name
unfolding rows
word-named w h =
    let z : row_named w - 0 ≡ row_named w = omega arith in
    same-is w (row_at (row_named w)).name (ap (λ k. same w (get_or rows k (row "" "")).name) (sym z) ∙ (found rows 0 w).named h)

pub only_understood : (line : List ℕ) → (asked_of line).row < row_count → IsAsked line (asked_of line)
unfolding asked_of
only_understood line h = by (ltb (row_named (word_of line)) row_count) refl h
  where
    n : ℕ
    n = row_named (word_of line)

    a : Asked
    a = words_from 5 n line (length (word_of line)) 0 no_values

    by : (b : Bool) → ltb n row_count ≡ b → (cond b a unknown).row < row_count → IsAsked line (cond b a unknown)
    by false e g = absurd (past unknown refl g)
    by true e g =
        let l : n < row_count = ltb-true n row_count e in
        let t = words-told n line 5 (length (word_of line)) 0 no_values (row_at n).letters refl (row-formed n l) (row-five n l) (word-within line) g in
        let name : word_of line ≡ (row_at n).name = word-named (word_of line) l in
        let behind : Behind (length (row_at n).name) (row_at n).letters (drop (length (word_of line)) line) t.vs t.r =
        subst (λ z. Behind (length z) (row_at n).letters (drop (length (word_of line)) line) t.vs t.r) name t.behind in
        let whole : (row_at n).name ++ drop (length (word_of line)) line ≡ line =
        ap (λ z. z ++ drop (length (word_of line)) line) (sym name ∙ sym (word_first_lem line)) ∙ take-append-drop (length (word_of line)) line in
        record {
          numbers = t.vs;
          rest = t.r;
          asks = subst (λ z. Asks line z t.vs t.r) (sym t.row_is) (subst (λ z. Asks z n t.vs t.r) whole (asks l behind));
          values = t.values_are;
          begins = t.begins;
        }
