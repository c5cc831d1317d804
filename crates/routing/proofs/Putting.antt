-- What is told, by the code's tests; and a phrase in a line of 128 bytes.
-- Assumes nothing.
use Rattle.std.specs.Prelude.{None, Result, Ok, Err}
use Prim.Native.Nat.{ℕ, ◌+◌, ◌-◌, ◌≤◌, ◌<◌}
use mathlib.Core.Path.{◌≡◌, refl, ap, ◌∙◌}
use mathlib.Core.List.{List, [], ◌∷◌}
use mathlib.Core.Bool.{Bool, true, false, cond}
use native.Mathlib.Omega.{arith}
use lib.ListN.{length, take, drop, length-drop}
use lib.Seq.{take-length}
use borrow.Author.Tests.{le-leb, lt-leb, eq-eqb, ne_eqb}
use Rattle.laws.specs.Spelt.{spelt}
use Rattle.lent.proofs.Laws.{splice-there}
use Rattle.lent.proofs.Statements.{same_length}
use Rattle.answers.specs.declared.Refusal.{Refusal}
use Rattle.written.specs.Written.{Text, answer_to, line_to}
use Rattle.written.proofs.Laws.{text-written}
use Rattle.phrases.specs.Phrases.{phrase_of}
use Rattle.phrases.proofs.Room.{phrase-most}
use Rattle.router.specs.declared.many.Directory.{Directory}
use Rattle.routing.specs.Queries.{query_of}
use Rattle.routing.specs.Told.{one_pieces, some_pieces, which_pieces, other_pieces, asked_pieces, answer_pieces}

-- ---- which shards
module _ (first after : ℕ) where
  pub which-none : after ≤ first → spelt "no shard" ∷ [] ≡ which_pieces first after
  unfolding which_pieces
  which-none h = rw (le-leb after first h)

  module _ (h : first < after) where
    pub which-one : after - first ≡ 1 → one_pieces first ≡ which_pieces first after
    unfolding which_pieces
    which-one e = rw (lt-leb after first h, eq-eqb (after - first) 1 e)

    pub which-some : (last : ℕ) → (after - first ≡ 1 → ⊥) → last ≡ after - 1 → some_pieces first last ≡ which_pieces first after
    unfolding which_pieces
    which-some last e l = rw (lt-leb after first h, ne_eqb (after - first) 1 e, l)

-- ---- a line
module _ (d : Directory) (reel : ℕ) (line : List ℕ) (over : Bool) where
  pub answer-over : over ≡ true → other_pieces ≡ answer_pieces d reel line over
  unfolding answer_pieces
  answer-over e = rw e

  pub answer-none : query_of line ≡ None → other_pieces ≡ answer_pieces d reel line over
  unfolding answer_pieces
  answer-none e = rw e (by over)
    where
      by : (t : Bool) → other_pieces ≡ cond t other_pieces other_pieces
      by true = refl
      by false = refl

  pub answer-whole : over ≡ false → asked_pieces d reel line (query_of line) ≡ answer_pieces d reel line over
  unfolding answer_pieces
  answer-whole e = rw e

-- all that is left of a line from a place on
pub rest-whole : (line : List ℕ) (at : ℕ) → take (length line - at) (drop at line) ≡ drop at line
rest-whole line at = rw (← length-drop at line) (take-length (drop at line))

-- ---- a phrase, at the front of a line that has room for it
module _ (number : ℕ) (line : List ℕ) (long : length line ≡ 128) (w : Result ℕ Refusal) (we : w ≡ answer_to line 0 (Text (phrase_of number))) where
  fits : 0 + length (phrase_of number) ≤ length line
  fits = omega (arith, phrase-most number)

  is-length : w ≡ Ok (length (phrase_of number))
  is-length = we ∙ (text-written line 0 (phrase_of number) fits).0

  pub never-refused : (e : Refusal) → w ≡ Err e → ⊥
  never-refused e p = let t = is-length in let z : ◌≡◌ {A = ℕ} 0 1 = cc in omega arith

  module _ (n : ℕ) (p : w ≡ Ok n) (last : List ℕ) (le : last ≡ line_to line 0 (Text (phrase_of number))) where
    phrase-length : n ≡ length (phrase_of number)
    phrase-length = let t = is-length in cc

    pub phrase-within : n ≤ length last
    unfolding line_to
    phrase-within = omega (arith, phrase-length, fits, ap length le, same_length line 0 (phrase_of number))

    pub phrase-there : take n last ≡ phrase_of number
    phrase-there = rw (phrase-length, le, (text-written line 0 (phrase_of number) fits).1) (splice-there line (phrase_of number) 0 fits)
