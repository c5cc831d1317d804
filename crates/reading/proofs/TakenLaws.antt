-- What a text was taken for gives its shape back, and reads as the text does (BEHAVIOUR: Text shapes).
-- Assumes nothing.
use Rattle.std.specs.Prelude.{ℕ, ◌≡◌, refl, List, Option, None}
use Rattle.std.proofs.Common.{sym, ap, ◌∙◌}
use Rattle.timecodes.specs.declared.kinds.Kind.{Kind}
use Rattle.reading.specs.Shaped.{Shaped, label, footage, refused, shape_of, label_only}
use Rattle.reading.specs.Taken.{taken_of, shaped_in}
use Rattle.reading.specs.For.{read_for, read_by, label_for}
use Rattle.reading.proofs.ByShape.{read-by-shape}

pub shape_back : (x : Shaped) → shaped_in (taken_of x) ≡ x
shape_back (label minus fields) = refl
shape_back (footage minus feet frames perf marker) = refl
shape_back (refused e) = refl

pub taken_back : (stated : Option ℕ) (text : List ℕ) → shaped_in (taken_of (shape_of stated text)) ≡ shape_of stated text
taken_back stated text = shape_back (shape_of stated text)

-- a text reads as what it was taken for
pub read-by-taken : (kind : Kind) (text : List ℕ) (stated : Option ℕ) (rate : ℕ)
    → read_for kind text stated rate ≡ read_by kind stated rate (shaped_in (taken_of (shape_of stated text)))
read-by-taken kind text stated rate = read-by-shape kind text stated rate ∙ sym (ap (read_by kind stated rate) (taken_back stated text))

-- and where only a label may stand
pub label-by-taken : (kind : Kind) (text : List ℕ) (rate : ℕ) → label_for kind text rate ≡ read_by kind None rate (shaped_in (taken_of (label_only text)))
unfolding label_for
label-by-taken kind text rate = sym (ap (read_by kind None rate) (shape_back (label_only text)))
