-- Where the scan of a text stops is the length of its longest beginning that also begins some text of the shape.
-- Assumes nothing.
use Rattle.std.specs.Prelude.{Ok}
use Prim.Native.Nat.{ℕ, zero, suc, ◌+◌, ◌≤◌}
use mathlib.Core.Path.{◌≡◌, refl, sym, ap, ◌∙◌, subst}
use mathlib.Core.List.{List, [], ◌∷◌, ◌++◌}
use mathlib.Core.Bool.{Bool, true, false, ◌&&◌, cond}
use native.Mathlib.Omega.{arith}
use native.Mathlib.Nat.{zero-add}
use lib.Dec.{leb, ltb}
use lib.ListN.{length, take, drop}
use lib.Seq.{drop-drop}
use borrow.Author.Tests.{eqb-true, ltb-false}
use Rattle.beginnings.specs.Beginning.{Begins, LongestBeginning}
use Rattle.digits.specs.Digits.{is_byte, first_is, digit_first, span}
use Rattle.scanner.specs.declared.text.Grammar.{Grammar}
use Rattle.scanner.specs.Scan.{looked_for, no_tail, tail_after, tail_of, sign_by, sign_of}
use Rattle.scanner.specs.Then.{byte_by, byte_then}
use Rattle.scanner.specs.Fields.{fields_in}
use Rattle.scanner.specs.Shapes.{BodyShape, text_parts, with_minus, OfGrammar, Possible}
use Rattle.scanner.proofs.Bodies.{stop_tail, body_stop}
use Rattle.scanner.proofs.Signed.{body-begins, text_stop}
use Rattle.scanner.proofs.Reach.{tail_reach, reach, reach-within, reach-most}
use Rattle.scanner.proofs.Completed.{complete}

-- ---- where it stops is how far it reaches
tail-stop : (most a : ℕ) (l : List ℕ) → stop_tail (tail_of most a l) ≡ a + tail_reach most l
unfolding tail_of byte_then
tail-stop most a l = by (first_is (looked_for most (is_byte 46)) l)
  where
    of_if : (w : List ℕ) (b : Bool) → ltb 0 (span w) ≡ b → stop_tail (tail_after (a + 1) w) ≡ a + suc (span w)
    of_if w true e = rw e (omega arith)
    of_if w false e = rw e (omega (arith, ltb-false 0 (span w) e))

    by : (t : Bool) → stop_tail (byte_by t (Ok (no_tail a)) (tail_after (a + 1)) l) ≡ a + byte_by t 0 (λ rest. suc (span rest)) l
    by true = of_if (drop 1 l) (ltb 0 (span (drop 1 l))) refl
    by false = omega arith

one-add : (n : ℕ) → 1 + n ≡ suc n
one-add n = omega arith

cond-at : (b : Bool) (n x y : ℕ) → cond b (n + x + y) (n + x) ≡ n + cond b (x + y) x
cond-at true n x y = omega arith
cond-at false n x y = refl

module _ (g : Grammar) where
  abbrev far : List ℕ → ℕ
  far l = reach g.dividers g.tail g.least g.most l

  body-stop : (text : List ℕ) (at : ℕ) → body_stop g text at ≡ at + far (drop at text)
  body-stop text at =
      let found = fields_in g.dividers g.most (drop at text) in
      let n = found.taken in
      let enough = found.found && leb g.least (length found.fields) in
      ap (λ (x : ℕ). cond enough x (at + n))
      (tail-stop g.tail (at + n) (drop (at + n) text)
      ∙ ap (λ (l : List ℕ). at + n + tail_reach g.tail l) (sym (drop-drop n at text)))
      ∙ cond-at enough at n (tail_reach g.tail (drop n (drop at text)))

  -- ---- no beginning of a text of the shape is longer
  body-most : (m : ℕ) (l b : List ℕ) (fields : List (List ℕ)) (tail : List ℕ) → m ≤ length l → BodyShape g (take m l ++ b) fields tail → m ≤ far l
  body-most m l b fields tail h s =
      reach-most g.dividers g.tail b tail s.digits s.allowed g.most s.front fields s.shape g.least s.enough m l h (sym s.all)

  -- behind a `-`
  signed_by : (m : ℕ) (l b : List ℕ) → m ≤ length l → (fields : List (List ℕ)) (tail body : List ℕ) → BodyShape g body fields tail
      → (minus : Bool) → with_minus minus body ≡ 45 ∷ (take m l ++ b) → m ≤ far l
  signed_by m l b h fields tail body s true e =
      let same : body ≡ take m l ++ b = cc in
      body-most m l b fields tail h (subst (λ (x : List ℕ). BodyShape g x fields tail) same s)
  signed_by m l b h fields tail body s false e =
      let z : true ≡ false = sym (body-begins g body fields tail s) ∙ ap digit_first e in
      let y : ◌≡◌ {A = ℕ} 0 1 = cc in
      absurd (omega arith)

  signed-most : (l : List ℕ) (m : ℕ) → m ≤ length (45 ∷ l) → Begins (OfGrammar g) (take m (45 ∷ l)) → m ≤ suc (far l)
  signed-most l zero h c = omega arith
  signed-most l (suc m) h c =
      let p = c.shaped.parts in
      let t = c.shaped.shape in
      omega (arith, signed_by m l c.behind (omega arith) p.fields p.tail t.body t.shape p.minus t.text)

  -- where no `-` stands in front
  no_sign : (l : List ℕ) → first_is (is_byte 45) l ≡ false → (m : ℕ) → m ≤ length l → (b body : List ℕ) → 45 ∷ body ≡ take m l ++ b → m ≤ 0
  no_sign l none zero h b body e = omega arith
  no_sign [] none (suc m) h b body e = absurd (omega arith)
  no_sign (c ∷ l) none (suc m) h b body e =
      let first : 45 ≡ c = cc in
      let z : true ≡ false = ap (is_byte 45) first ∙ none in
      let y : ◌≡◌ {A = ℕ} 0 1 = cc in
      absurd (omega arith)

  plain_by : (l : List ℕ) → first_is (is_byte 45) l ≡ false → (m : ℕ) → m ≤ length l → (b : List ℕ) (fields : List (List ℕ)) (tail body : List ℕ)
      → BodyShape g body fields tail → (minus : Bool) → with_minus minus body ≡ take m l ++ b → m ≤ far l
  plain_by l none m h b fields tail body s true e = omega (arith, no_sign l none m h b body e)
  plain_by l none m h b fields tail body s false e = body-most m l b fields tail h (subst (λ (x : List ℕ). BodyShape g x fields tail) e s)

  plain-most : (l : List ℕ) → first_is (is_byte 45) l ≡ false → (m : ℕ) → m ≤ length l → Begins (OfGrammar g) (take m l) → m ≤ far l
  plain-most l none m h c =
      let p = c.shaped.parts in
      let t = c.shaped.shape in
      plain_by l none m h c.behind p.fields p.tail t.body t.shape p.minus t.text

  -- ---- and so long is one
  module _ (can : Possible g) where
    abbrev goes_on : (l : List ℕ) → List ℕ
    goes_on l = (complete g.dividers g.tail g.most g.least l can.some can.enough).behind

    begins-so : (minus : Bool) (l : List ℕ) → OfGrammar g (with_minus minus (take (far l) l ++ goes_on l))
    begins-so minus l =
        let q = complete g.dividers g.tail g.most g.least l can.some can.enough in
        record {
          parts = text_parts minus q.fields q.last_digits;
          shape = record {
            body = take (far l) l ++ goes_on l;
            shape = record {
              front = q.front;
              shape = q.shape;
              enough = q.enough;
              digits = q.digits;
              allowed = q.allowed;
              all = q.all;
            };
            text = refl;
          };
        }

    within : (l : List ℕ) → far l ≤ length l
    within l = reach-within g.dividers g.tail g.most g.least l

    signed-longest : (l : List ℕ) → LongestBeginning (OfGrammar g) (45 ∷ l) (suc (far l))
    signed-longest l =
        record { within = omega (arith, within l); begins = record { behind = goes_on l; shaped = begins-so true l }; longest = signed-most l }

    plain-longest : (l : List ℕ) → first_is (is_byte 45) l ≡ false → LongestBeginning (OfGrammar g) l (far l)
    plain-longest l none =
        record { within = within l; begins = record { behind = goes_on l; shaped = begins-so false l }; longest = plain-most l none }

    longest-by : (l : List ℕ) (t : Bool) → first_is (is_byte 45) l ≡ t → LongestBeginning (OfGrammar g) l (body_stop g l (sign_by t 0).next.at)
    longest-by [] true e = let z : ◌≡◌ {A = ℕ} 0 1 = cc in absurd (omega arith)
    longest-by (c ∷ l) true e =
        let first : c ≡ 45 = eqb-true c 45 e in
        subst (λ (x : ℕ). LongestBeginning (OfGrammar g) (x ∷ l) (body_stop g (c ∷ l) 1)) (sym first)
        (subst (LongestBeginning (OfGrammar g) (45 ∷ l)) (sym (body-stop (c ∷ l) 1 ∙ one-add (far l))) (signed-longest l))
    longest-by l false e = subst (LongestBeginning (OfGrammar g) l) (sym (body-stop l 0 ∙ zero-add (far l))) (plain-longest l e)

    pub longest-stop : (l : List ℕ) → LongestBeginning (OfGrammar g) l (text_stop g l)
    unfolding text_stop sign_of
    longest-stop l = longest-by l (first_is (is_byte 45) l) refl
