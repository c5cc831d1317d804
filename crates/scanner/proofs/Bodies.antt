-- By a grammar a text is whole from a place on exactly where fields, an optional tail and the end stand there.
-- Assumes nothing.
use Rattle.std.specs.Prelude.{Option, Result, Ok, Err}
use Prim.Native.Nat.{ℕ, zero, suc, ◌+◌, ◌≤◌, ◌<◌}
use mathlib.Core.Path.{◌≡◌, refl, sym, ap, ◌∙◌, subst}
use mathlib.Core.Logic.{◌⊎◌, inl, inr, ⊎_elim}
use mathlib.Core.List.{List, [], ◌∷◌, ◌++◌, append-nil}
use mathlib.Core.Bool.{Bool, true, false, ◌&&◌, cond}
use native.Mathlib.Omega.{arith}
use native.Mathlib.Nat.{add-zero}
use lib.Dec.{leb, ltb}
use lib.ListN.{length, drop}
use lib.Seq.{drop-drop, drop-append_seam}
use borrow.Author.Tests.{le-ltb, le-leb, leb-true, ltb-true, lt-ltb, eqb-true}
use Rattle.digits.specs.Digits.{is_byte, all_digits, value_from, field_value, first_is, digit_first, span, leading}
use Rattle.digits.proofs.Runs.{span_run, leading-run, leading-all, leading-rest, leading_length}
use Rattle.scanner.specs.declared.cursor.Tail.{Tail}
use Rattle.scanner.specs.declared.fields.Dividers.{Dividers}
use Rattle.scanner.specs.declared.fields.Dividers.TheVariants.{Colon, ColonOrSemicolon, Plus}
use Rattle.scanner.specs.declared.text.Misfit.{Misfit}
use Rattle.scanner.specs.declared.text.Misfit.TheVariants.{TooLong, NoShape}
use Rattle.scanner.specs.declared.text.Grammar.{Grammar}
use Rattle.scanner.specs.declared.text.TextScan.{TextScan}
use Rattle.scanner.specs.Scan.{cursor, divider_of, looked_for, is_end, no_tail, tail_after, tail_of}
use Rattle.scanner.specs.Then.{byte_by, byte_then, only_if, and_then}
use Rattle.scanner.specs.Fields.{Front, fields_in, scanned_of, found_of, fields_found}
use Rattle.scanner.specs.Long.{placed, placed_tail, first_long, long_field, or_long}
use Rattle.scanner.specs.Text.{unless_long, end_scan, tail_scan, body_scan}
use Rattle.scanner.specs.Shapes.{pointed, BodyShape, text_parts}
use Rattle.scanner.specs.Statements.{parts_read}
use Rattle.scanner.proofs.Answers.{looked-some}
use Rattle.scanner.proofs.Long.{long-join}
use Rattle.scanner.proofs.Then.{byte-first, byte-not, passing}
use Rattle.scanner.proofs.Fronts.{front_of, fields-complete, Fronted, fronted, looked-passes}

-- ---- a place further on
behind : (text : List ℕ) (at : ℕ) (front rest : List ℕ) → drop at text ≡ front ++ rest → drop (at + length front) text ≡ rest
behind text at front rest e = sym (drop-drop (length front) at text) ∙ ap (drop (length front)) e ∙ drop-append_seam front rest

end-nil : (l : List ℕ) → is_end l ≡ true → l ≡ []
end-nil [] e = refl
end-nil (c ∷ l) e = cc

-- ---- the tail
-- what is found of a tail w that begins at a place and ends at another
abbrev tail_is : (w : List ℕ) (a b : ℕ) → Tail
tail_is w a b = record { value = field_value w; count = length w; first = cursor a; next = cursor b }

-- its digits begin behind the `.`
abbrev first_of : (w : List ℕ) (a : ℕ) → ℕ
first_of [] a = a
first_of (b ∷ w) a = a + 1

-- it begins with no digit and no divider
pub tail-stops : (w : List ℕ) → digit_first (pointed w) ≡ false
tail-stops [] = refl
tail-stops (b ∷ w) = refl

pub tail-ends : (d : Dividers) (w : List ℕ) → first_is (divider_of d) (pointed w) ≡ false
tail-ends d [] = refl
tail-ends Colon (b ∷ w) = refl
tail-ends ColonOrSemicolon (b ∷ w) = refl
tail-ends Plus (b ∷ w) = refl

tail-after : (a : ℕ) (w : List ℕ) → 0 < length w → all_digits w ≡ true → tail_after a w ≡ Ok (tail_is w a (a + length w))
tail-after a w h i =
    let l : leading w ≡ w = ap leading (sym (append-nil w)) ∙ leading-run w [] i refl in
    let n : span w ≡ length w = ap span (sym (append-nil w)) ∙ span_run w [] i refl in
    rw (l, n, lt-ltb 0 (length w) h)

tail-complete : (most a : ℕ) (w : List ℕ) → all_digits w ≡ true → (0 < length w → 0 < most)
    → tail_of most a (pointed w) ≡ Ok (tail_is w (first_of w a) (a + length (pointed w)))
unfolding tail_of value_from
tail-complete most a [] i h = byte-not (looked_for most (is_byte 46)) (Ok (no_tail a)) (tail_after (a + 1)) [] refl ∙ ap (λ (n : ℕ). Ok (tail_is [] a n)) (sym (add-zero a))
tail-complete most a (b ∷ w) i h =
    let place : a + 1 + length (b ∷ w) ≡ a + length (pointed (b ∷ w)) = omega arith in
    byte-first (looked_for most (is_byte 46)) (Ok (no_tail a)) (tail_after (a + 1)) 46 (b ∷ w)
    (ap (λ (test : ℕ → Bool). test 46) (looked-some most (is_byte 46) (λ z. omega (arith, h (omega arith)))))
    ∙ tail-after (a + 1) (b ∷ w) (omega arith) i
    ∙ ap (λ (n : ℕ). Ok (tail_is (b ∷ w) (a + 1) n)) place

-- where it is too long
tail-long : (most a : ℕ) (w : List ℕ) → first_long (placed_tail most w (a + 1)) ≡ long_field (first_of w a) most (length w)
tail-long most a [] = rw (le-ltb most 0 (omega arith))
tail-long most a (b ∷ w) = refl

-- and back, where it is found and nothing is left behind it
record Tailed (most : ℕ) (l : List ℕ) : Type 0 where
  pub tail : List ℕ
  pub digits : all_digits tail ≡ true
  pub allowed : 0 < length tail → 0 < most
  pub all : pointed tail ≡ l

pub looked-open : (most c : ℕ) (test : ℕ → Bool) → looked_for most test c ≡ true → 0 < most
looked-open zero c test e = let z : ◌≡◌ {A = ℕ} 0 1 = cc in omega arith
looked-open (suc n) c test e = omega arith

no-tail : (most : ℕ) (l : List ℕ) → is_end l ≡ true → Tailed most l
unfolding all_digits
no-tail most l e = record { tail = []; digits = refl; allowed = λ h. omega arith; all = sym (end-nil l e) }

pub point-some : (w : List ℕ) → 0 < length w → pointed w ≡ 46 ∷ w
point-some [] h = absurd (omega arith)
point-some (b ∷ w) h = refl

-- behind `.`, digits up to the end
tail-some : (most : ℕ) (w l : List ℕ) → 0 < most → 46 ∷ w ≡ l → ltb 0 (span w) ≡ true → is_end (drop (span w) w) ≡ true → Tailed most l
tail-some most w l h p found e =
    let some = ltb-true 0 (span w) found in
    let all : leading w ≡ w = sym (append-nil (leading w)) ∙ ap (λ (x : List ℕ). leading w ++ x) (sym (end-nil (drop (span w) w) e)) ∙ leading-rest w in
    record {
      tail = w;
      digits = ap all_digits (sym all) ∙ leading-all w;
      allowed = λ z. h;
      all = point-some w (omega (arith, ap length all, leading_length w)) ∙ p;
    }

only-ok : {A : Type 0} (b : Bool) (stop : ℕ) (x y : A) → only_if b stop (Ok x) ≡ Ok y → (b ≡ true) × (x ≡ y)
only-ok true stop x y e = (refl, cc)
only-ok false stop x y e = cc

tail-sound : (most : ℕ) (text : List ℕ) (at : ℕ) (t : Tail) → tail_of most at (drop at text) ≡ Ok t → is_end (drop t.next.at text) ≡ true
    → Tailed most (drop at text)
unfolding tail_of
tail-sound most text at t is e =
    let test = looked_for most (is_byte 46) in
    ⊎_elim
    (λ n. let same : no_tail at ≡ t = (only-ok true 0 (no_tail at) t (sym n ∙ is)).1 in
    no-tail most (drop at text) (ap (λ (x : Tail). is_end (drop x.next.at text)) same ∙ e))
    (λ p. let w = p.rest in
    let b : 46 ≡ p.byte = sym (eqb-true p.byte 46 (looked-passes most (is_byte 46) p.byte p.passes)) in
    let after : drop (at + 1 + span w) text ≡ drop (span w) w =
    sym (drop-drop (span w) (at + 1) text ∙ refl) ∙ ap (drop (span w)) (sym (drop-drop 1 at text) ∙ ap (drop 1) (sym p.all)) in
    let found = only-ok (ltb 0 (span w)) (at + 1) _ t (sym p.gives ∙ is) in
    tail-some most w (drop at text) (looked-open most p.byte (is_byte 46) p.passes) (ap (λ (c : ℕ). c ∷ w) b ∙ p.all)
    found.0
    (ap is_end (sym after) ∙ ap (λ (x : Tail). is_end (drop x.next.at text)) found.1 ∙ e))
    (passing test (Ok (no_tail at)) (tail_after (at + 1)) (drop at text))

-- where a tail that is looked for ends or is missed
abbrev pub stop_tail : Result Tail Misfit → ℕ
stop_tail (Ok t) = t.next.at
stop_tail (Err (NoShape stop)) = stop
stop_tail (Err (TooLong place)) = place

-- one of both it is
tail-either : (most a : ℕ) (l : List ℕ) → ((t : Tail) × (tail_of most a l ≡ Ok t)) ⊎ (tail_of most a l ≡ Err (NoShape (stop_tail (tail_of most a l))))
unfolding tail_of byte_then
tail-either most a l = by (first_is (looked_for most (is_byte 46)) l)
  where
    of_if : (b : Bool) (stop : ℕ) (t : Tail)
        → ((x : Tail) × (only_if b stop (Ok t) ≡ Ok x)) ⊎ (only_if b stop (Ok t) ≡ Err (NoShape (stop_tail (only_if b stop (Ok t)))))
    of_if true stop t = inl (t, refl)
    of_if false stop t = inr refl

    by : (b : Bool)
        → ((x : Tail) × (byte_by b (Ok (no_tail a)) (tail_after (a + 1)) l ≡ Ok x))
        ⊎ (byte_by b (Ok (no_tail a)) (tail_after (a + 1)) l ≡ Err (NoShape (stop_tail (byte_by b (Ok (no_tail a)) (tail_after (a + 1)) l))))
    by true = of_if (ltb 0 (span (drop 1 l))) (a + 1) _
    by false = inl (no_tail a, refl)

module _ (g : Grammar) (text : List ℕ) (at : ℕ) where
  -- ---- a text of the shape
  pub body-complete : (m : Bool) (fields : List (List ℕ)) (tail : List ℕ) → BodyShape g (drop at text) fields tail
      → body_scan g text at m ≡ unless_long (first_long (placed (placed_tail g.tail tail) at fields)) (parts_read (text_parts m fields tail))
  unfolding fields_found
  body-complete m fields tail s =
      let n = length s.front in
      let long =
      long-join g.dividers g.most s.front fields s.shape at (placed_tail g.tail tail)
      ∙ ap (or_long (first_long (placed (λ place. []) at fields))) (tail-long g.tail (at + n) tail) in
      let rest = behind text at s.front (pointed tail) (sym s.all) in
      ap (λ (f : Front). and_then (tail_scan g text m) (found_of at f))
      (ap (fields_in g.dividers g.most) (sym s.all)
      ∙ fields-complete g.dividers (pointed tail) (tail-stops tail) (tail-ends g.dividers tail) g.most s.front fields s.shape)
      ∙ ap (λ (t : Result Tail Misfit). only_if (leb g.least (length fields)) (at + n) (and_then (end_scan g text m (scanned_of at (front_of fields n))) t))
      (ap (tail_of g.tail (at + n)) rest ∙ tail-complete g.tail (at + n) tail s.digits s.allowed)
      ∙ rw (le-leb g.least (length fields) s.enough, behind text (at + n) (pointed tail) [] (rest ∙ sym (append-nil (pointed tail))))
      (ap (λ (x : Option ℕ). unless_long x (parts_read (text_parts m fields tail))) (sym long))

  -- ---- a text that is whole
  pub record Whole : Type 0 where
    pub fields : List (List ℕ)
    pub tail : List ℕ
    pub shape : BodyShape g (drop at text) fields tail

  -- behind these fields
  module _ (q : Fronted g.dividers g.most (drop at text)) where
    abbrev end : ℕ
    end = at + length q.front

    tail-whole : g.least ≤ length q.fields → Tailed g.tail (drop end text) → Whole
    tail-whole enough t =
        record {
          fields = q.fields;
          tail = t.tail;
          shape =
              record {
                front = q.front;
                shape = q.shape;
                enough = enough;
                digits = t.digits;
                allowed = t.allowed;
                all = ap (λ (x : List ℕ). q.front ++ x) (t.all ∙ behind text at q.front q.rest (sym q.all)) ∙ q.all;
              };
        }

    abbrev tail_here : Result Tail Misfit
    tail_here = tail_of g.tail end (drop end text)

    -- where the scan stops behind these fields
    abbrev stop_here : ℕ
    stop_here = cond (leb g.least (length q.fields)) (stop_tail tail_here) end

    abbrev scan_here : Bool → Result TextScan Misfit
    scan_here m = tail_scan g text m (scanned_of at (front_of q.fields (length q.front)))

    end-by : (m : Bool) (t : Tail) → g.least ≤ length q.fields → tail_here ≡ Ok t → (b : Bool) → is_end (drop t.next.at text) ≡ b
        → (end_scan g text m (scanned_of at (front_of q.fields (length q.front))) t ≡ Err (NoShape t.next.at)) ⊎ Whole
    end-by m t enough is true e = inr (tail-whole enough (tail-sound g.tail text end t is e))
    end-by m t enough is false e = inl (rw e)

    tail-by : (m : Bool) → g.least ≤ length q.fields
        → (and_then (end_scan g text m (scanned_of at (front_of q.fields (length q.front)))) tail_here ≡ Err (NoShape (stop_tail tail_here))) ⊎ Whole
    tail-by m enough =
        ⊎_elim
        (λ p. ⊎_elim (λ e. inl (rw p.1 e)) inr (end-by m p.0 enough p.1 (is_end (drop p.0.next.at text)) refl))
        (λ e. inl (ap (and_then (end_scan g text m (scanned_of at (front_of q.fields (length q.front))))) e))
        (tail-either g.tail end (drop end text))

    found-by : (m : Bool) (b : Bool) → leb g.least (length q.fields) ≡ b → (scan_here m ≡ Err (NoShape stop_here)) ⊎ Whole
    found-by m true e = rw e (tail-by m (leb-true g.least (length q.fields) e))
    found-by m false e = inl (rw e)

  -- what is found of the fields, and where the scan stopped
  abbrev scan_front : Bool → Front → Result TextScan Misfit
  scan_front m f = and_then (tail_scan g text m) (found_of at f)

  abbrev stop_front : Front → ℕ
  stop_front f = cond (f.found && leb g.least (length f.fields)) (stop_tail (tail_of g.tail (at + f.taken) (drop (at + f.taken) text))) (at + f.taken)

  abbrev pub body_stop : ℕ
  body_stop = stop_front (fields_in g.dividers g.most (drop at text))

  missing : (m : Bool) (f : Front) → f.found ≡ false → scan_front m f ≡ Err (NoShape (stop_front f))
  missing m f e = rw e

  pub body-sound : (m : Bool) → (body_scan g text at m ≡ Err (NoShape body_stop)) ⊎ Whole
  unfolding fields_found
  body-sound m =
      ⊎_elim
      (λ z. inl (missing m (fields_in g.dividers g.most (drop at text)) z))
      (λ q. subst (λ (f : Front). (scan_front m f ≡ Err (NoShape (stop_front f))) ⊎ Whole) (sym q.gives) (found-by q m (leb g.least (length q.fields)) refl))
      (fronted g.dividers g.most (drop at text))
