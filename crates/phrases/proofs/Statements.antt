-- The statements of specs/Statements.antt.
-- Assumes nothing.
use Prim.Native.Nat.{ℕ, zero, suc, ◌≤◌}
use mathlib.Core.Path.{◌≡◌, refl, sym, ap, ◌∙◌}
use mathlib.Core.Bool.{Bool, true, false, cond, ◌&&◌}
use mathlib.Core.List.{List, [], ◌∷◌}
use native.Mathlib.Omega.{arith}
use lib.Dec.{eqb}
use lib.ListN.{length, get_or}
use Rattle.phrases.specs.Phrases.{phrases, phrase_of}
use Rattle.phrases.specs.Statements.{PhrasesAre, PhrasesApart, PhrasesPlain, NoPhrase}

pub phrases_are : PhrasesAre
unfolding phrase_of phrases
phrases_are = record {
  phrase_0 = refl;
  phrase_1 = refl;
  phrase_2 = refl;
  phrase_3 = refl;
  phrase_4 = refl;
  phrase_5 = refl;
  phrase_6 = refl;
  phrase_7 = refl;
  phrase_8 = refl;
  phrase_9 = refl;
  phrase_10 = refl;
  phrase_11 = refl;
  phrase_12 = refl;
  phrase_13 = refl;
  phrase_14 = refl;
  phrase_15 = refl;
  phrase_16 = refl;
  phrase_17 = refl;
}

-- past the end of a list there is what stands for none
past_end : (l : List (List ℕ)) (n : ℕ) → length l ≤ n → get_or l n [] ≡ []
past_end [] n h = refl
past_end (x ∷ l) zero h = absurd (omega arith)
past_end (x ∷ l) (suc n) h = past_end l n (omega arith)

pub no_phrase : NoPhrase
unfolding phrase_of phrases
no_phrase n h = past_end phrases n (omega arith)

-- the same bytes
unfoldable same : (l m : List ℕ) → Bool
same [] [] = true
same [] (b ∷ m) = false
same (a ∷ l) [] = false
same (a ∷ l) (b ∷ m) = eqb a b && same l m

-- a phrase's number, found among them all
unfoldable number_from : (i : ℕ) → List (List ℕ) → List ℕ → ℕ
number_from i [] text = i
number_from i (x ∷ xs) text = cond (same text x) i (number_from (suc i) xs text)

back : (n : ℕ) → n ≤ 17 → number_from 0 phrases (phrase_of n) ≡ n
unfolding phrase_of phrases same number_from
back zero h = refl
back (suc zero) h = refl
back (suc (suc zero)) h = refl
back (suc (suc (suc zero))) h = refl
back (suc (suc (suc (suc zero)))) h = refl
back (suc (suc (suc (suc (suc zero))))) h = refl
back (suc (suc (suc (suc (suc (suc zero)))))) h = refl
back (suc (suc (suc (suc (suc (suc (suc zero))))))) h = refl
back (suc (suc (suc (suc (suc (suc (suc (suc zero)))))))) h = refl
back (suc (suc (suc (suc (suc (suc (suc (suc (suc zero))))))))) h = refl
back (suc (suc (suc (suc (suc (suc (suc (suc (suc (suc zero)))))))))) h = refl
back (suc (suc (suc (suc (suc (suc (suc (suc (suc (suc (suc zero))))))))))) h = refl
back (suc (suc (suc (suc (suc (suc (suc (suc (suc (suc (suc (suc zero)))))))))))) h = refl
back (suc (suc (suc (suc (suc (suc (suc (suc (suc (suc (suc (suc (suc zero))))))))))))) h = refl
back (suc (suc (suc (suc (suc (suc (suc (suc (suc (suc (suc (suc (suc (suc zero)))))))))))))) h = refl
back (suc (suc (suc (suc (suc (suc (suc (suc (suc (suc (suc (suc (suc (suc (suc zero))))))))))))))) h = refl
back (suc (suc (suc (suc (suc (suc (suc (suc (suc (suc (suc (suc (suc (suc (suc (suc zero)))))))))))))))) h = refl
back (suc (suc (suc (suc (suc (suc (suc (suc (suc (suc (suc (suc (suc (suc (suc (suc (suc zero))))))))))))))))) h = refl
back (suc (suc (suc (suc (suc (suc (suc (suc (suc (suc (suc (suc (suc (suc (suc (suc (suc (suc n)))))))))))))))))) h = absurd (omega arith)

pub phrases_apart : PhrasesApart
phrases_apart m n h k e = sym (back m h) ∙ ap (number_from 0 phrases) e ∙ back n k

pub phrases_plain : PhrasesPlain
unfolding phrase_of phrases
phrases_plain zero h = (refl, (omega arith, omega arith))
phrases_plain (suc zero) h = (refl, (omega arith, omega arith))
phrases_plain (suc (suc zero)) h = (refl, (omega arith, omega arith))
phrases_plain (suc (suc (suc zero))) h = (refl, (omega arith, omega arith))
phrases_plain (suc (suc (suc (suc zero)))) h = (refl, (omega arith, omega arith))
phrases_plain (suc (suc (suc (suc (suc zero))))) h = (refl, (omega arith, omega arith))
phrases_plain (suc (suc (suc (suc (suc (suc zero)))))) h = (refl, (omega arith, omega arith))
phrases_plain (suc (suc (suc (suc (suc (suc (suc zero))))))) h = (refl, (omega arith, omega arith))
phrases_plain (suc (suc (suc (suc (suc (suc (suc (suc zero)))))))) h = (refl, (omega arith, omega arith))
phrases_plain (suc (suc (suc (suc (suc (suc (suc (suc (suc zero))))))))) h = (refl, (omega arith, omega arith))
phrases_plain (suc (suc (suc (suc (suc (suc (suc (suc (suc (suc zero)))))))))) h = (refl, (omega arith, omega arith))
phrases_plain (suc (suc (suc (suc (suc (suc (suc (suc (suc (suc (suc zero))))))))))) h = (refl, (omega arith, omega arith))
phrases_plain (suc (suc (suc (suc (suc (suc (suc (suc (suc (suc (suc (suc zero)))))))))))) h = (refl, (omega arith, omega arith))
phrases_plain (suc (suc (suc (suc (suc (suc (suc (suc (suc (suc (suc (suc (suc zero))))))))))))) h = (refl, (omega arith, omega arith))
phrases_plain (suc (suc (suc (suc (suc (suc (suc (suc (suc (suc (suc (suc (suc (suc zero)))))))))))))) h = (refl, (omega arith, omega arith))
phrases_plain (suc (suc (suc (suc (suc (suc (suc (suc (suc (suc (suc (suc (suc (suc (suc zero))))))))))))))) h = (refl, (omega arith, omega arith))
phrases_plain (suc (suc (suc (suc (suc (suc (suc (suc (suc (suc (suc (suc (suc (suc (suc (suc zero)))))))))))))))) h = (refl, (omega arith, omega arith))
phrases_plain (suc (suc (suc (suc (suc (suc (suc (suc (suc (suc (suc (suc (suc (suc (suc (suc (suc zero))))))))))))))))) h = (refl, (omega arith, omega arith))
phrases_plain (suc (suc (suc (suc (suc (suc (suc (suc (suc (suc (suc (suc (suc (suc (suc (suc (suc (suc n)))))))))))))))))) h = absurd (omega arith)
