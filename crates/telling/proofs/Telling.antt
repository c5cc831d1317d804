-- The reason behind an answer, with its phrase in a line of 128 bytes.
-- Assumes nothing.
use Rattle.std.specs.Prelude.{Option, Result, Ok, Err}
use Prim.Native.Nat.{ℕ, ◌+◌, ◌≤◌}
use mathlib.Core.Path.{◌≡◌, ap, ◌∙◌}
use mathlib.Core.List.{List}
use native.Mathlib.Omega.{arith}
use lib.ListN.{length, take}
use Rattle.lent.proofs.Laws.{splice-there}
use Rattle.lent.proofs.Statements.{same_length}
use Rattle.timecodes.specs.declared.kinds.Kind.{Kind}
use Rattle.written.specs.Written.{Text, line_to}
use Rattle.written.proofs.Laws.{text-written}
use Rattle.phrases.proofs.Room.{phrase-most}
use Rattle.answers.specs.declared.Refusal.{Refusal}
use Rattle.reading.specs.declared.Read.{Read}
use Rattle.reading.specs.Answer.{number_of}
use Rattle.reading.specs.For.{read_for}
use Rattle.reasons.specs.declared.Fact.{Fact}
use Rattle.reasons.specs.declared.Reason.{Reason}
use Rattle.reasons.specs.Why.{fact_of, phrase_for, told_as, why_of}
use Rattle.telling.specs.declared.told.Way.{Way}
use Rattle.telling.specs.Told.{reason_pieces, told_pieces}

-- ---- every phrase has room in 128 bytes, so the reason is told, with its phrase at the line's front
module _ (kind : Kind) (text : List ℕ) (stated : Option ℕ) (rate : ℕ) (line : List ℕ) (long : length line ≡ 128) (w : Result Reason Refusal)
    (we : w ≡ why_of kind text stated rate line 0) where
  fits : 0 + length (phrase_for kind text stated rate) ≤ length line
  fits = omega (arith, phrase-most (number_of (read_for kind text stated rate)))

  is-told : w ≡ Ok (record { read = read_for kind text stated rate; fact = fact_of kind text stated rate; length = length (phrase_for kind text stated rate) })
  unfolding why_of
  is-told =
      we
      ∙ ap (told_as (read_for kind text stated rate) (fact_of kind text stated rate)) (text-written line 0 (phrase_for kind text stated rate) fits).0

  pub never-refused : (e : Refusal) → w ≡ Err e → ⊥
  never-refused e p = let t = is-told in let z : ◌≡◌ {A = ℕ} 0 1 = cc in omega arith

  module _ (r : Reason) (p : w ≡ Ok r) where
    told-reason : r ≡ record { read = read_for kind text stated rate; fact = fact_of kind text stated rate; length = length (phrase_for kind text stated rate) }
    told-reason = let t = is-told in cc

    pub told-within : (last : List ℕ) → last ≡ line_to line 0 (Text (phrase_for kind text stated rate)) → r.length ≤ length last
    unfolding line_to
    told-within last le =
        let t = phrase_for kind text stated rate in
        omega (arith, ap (λ (x : Reason). x.length) told-reason, fits, ap length le, same_length line 0 t)

    pub told-pieces : (last : List ℕ) → last ≡ line_to line 0 (Text (phrase_for kind text stated rate))
        → reason_pieces rate text r.read r.fact (take r.length last)
        ≡ reason_pieces rate text (read_for kind text stated rate) (fact_of kind text stated rate) (phrase_for kind text stated rate)
    told-pieces last le =
        let t = phrase_for kind text stated rate in
        let n : r.length ≡ length t = ap (λ (x : Reason). x.length) told-reason in
        let there : take r.length last ≡ t = rw (n, le, (text-written line 0 t fits).1) (splice-there line t 0 fits) in
        ap (λ (x : Result Read Refusal). reason_pieces rate text x r.fact (take r.length last)) (ap (λ (x : Reason). x.read) told-reason)
        ∙ ap (λ (x : Option Fact). reason_pieces rate text (read_for kind text stated rate) x (take r.length last)) (ap (λ (x : Reason). x.fact) told-reason)
        ∙ ap (reason_pieces rate text (read_for kind text stated rate) (fact_of kind text stated rate)) there

-- ---- in the way that is asked
pub told-so : (way : Way) (text : List ℕ) (r : Reason) (w : Result Reason Refusal) (line last : List ℕ) → length line ≡ 128
    → w ≡ why_of way.options.kind text way.options.format way.rate line 0 → w ≡ Ok r
    → last ≡ line_to line 0 (Text (phrase_for way.options.kind text way.options.format way.rate))
    → reason_pieces way.rate text r.read r.fact (take r.length last) ≡ told_pieces way text
unfolding told_pieces
told-so way text r w line last long we p le = told-pieces way.options.kind text way.options.format way.rate line long w we r p last le
