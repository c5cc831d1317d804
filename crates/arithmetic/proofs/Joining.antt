-- Two timecodes joined, as a sum or a difference: what an answer tells of its kind, its frame and its day, and at one rate that of the counts.
-- Assumes nothing.
use Rattle.answers.specs.declared.Refusal.{Refusal}
use Rattle.std.specs.Prelude.{Some, Result, Ok, Err}
use Prim.Native.Nat.{ℕ}
use mathlib.Core.Path.{◌≡◌, refl, sym, ◌∙◌, ap, ap₂, subst}
use mathlib.Core.Logic.{◌↔◌}
use mathlib.Core.Bool.{Bool, true, false}
use mathlib.Core.List.{[], ◌∷◌}
use lib.IntN.{ℤ, pos, ◌*ℤ◌}
use Rattle.numbers.specs.ProductLaws.{mul-add, mul-sub}
use Rattle.numbers.specs.Nearest.{Nearest, nearest_z}
use Rattle.numbers.specs.NearestSignedLaws.{exact}
use Rattle.numbers.proofs.Statements.{nearest_is, nearest_one}
use Rattle.answers.specs.Order.{unless, Clear}
use Rattle.answers.specs.OrderLaws.{unless-clear, not_in}
use Rattle.answers.specs.Refusals.{bad_count, held}
use Rattle.rates.specs.Rates.{is_rate, frame_ticks, bad_rate}
use Rattle.rates.proofs.Sound.{frame_ticks-pos}
use Rattle.timecodes.specs.declared.Timecode.{Timecode}
use Rattle.timecodes.specs.declared.kinds.Kind.{Kind}
use Rattle.timecodes.specs.declared.kinds.Kind.TheVariants.{Length, Position}
use Rattle.timecodes.specs.Kinds.{mixed_kinds, is_never, kind_in}
use Rattle.timecodes.specs.Timecode.{timecode_as, placed, moved_to, number_of}
use Rattle.timecodes.specs.Made.{OfDay, made, settled}
use Rattle.timecodes.specs.Admitted.{bad_input, admits_both, joined_kind, Valid}
use Rattle.timecodes.specs.AdmittedLaws.{valid-admits_both, at_told}
use Rattle.timecodes.specs.KindLaws.{mixed-told, barred-exactly}
use Rattle.timecodes.specs.MadeLaws.{in_day-is, made-kind, settled-held}
use Rattle.timecodes.specs.Instant.{instant}
use Rattle.arithmetic.specs.Sum.{sum_or, joining_of, joined_frame, joined_when, joined}

-- products distribute over both
spread : (minus : Bool) (x y z : ℤ) → sum_or minus x y *ℤ z ≡ sum_or minus (x *ℤ z) (y *ℤ z)
spread false = mul-add
spread true = mul-sub

-- a length that is settled is that of the left one, where that is a length
length_moved : (a : Timecode) (x : Result ℤ Refusal) → a.kind ≡ Length → settled Length (placed a.rate x) ≡ moved_to a a.rate x
length_moved a (Ok z) e = ap (λ (k : Kind). Ok (timecode_as k z a.rate)) (sym e)
length_moved a (Err r) e = refl

module _ (minus : Bool) (a b : Timecode) where
  abbrev frame : ℤ
  frame = joined_frame minus a b

  abbrev kind : Kind
  kind = joined_kind (joining_of minus) a b

  module _ (end : Timecode) (h : joined minus a b ≡ Ok end) where
    -- what an answer tells
    told : Clear (joined_when minus a b) × (made kind frame a.rate ≡ end)
    unfolding joined
    told = at_told (joined_when minus a b) (made kind frame a.rate) end h

    kind-told : kind ≡ end.kind
    kind-told = sym (made-kind kind frame a.rate) ∙ ap (λ (k : Timecode). k.kind) told.1

    pub joined-kind : mixed_kinds (joining_of minus) a.kind b.kind ≡ Some end.kind
    joined-kind = mixed-told (mixed_kinds (joining_of minus) a.kind b.kind) told.0.1.1.0 ∙ ap Some kind-told

    -- the end, as a timecode of a kind that it has
    ends : (k : Kind) → end.kind ≡ k → made k frame a.rate ≡ end
    ends k e = ap (λ (x : Kind). made x frame a.rate) (sym (kind-told ∙ e)) ∙ told.1

    rated : is_rate a.rate ≡ true
    rated = not_in _ told.0.0

    -- a length is the frame nearest to the exact instant
    pub joined-nearest : end.kind ≡ Length
        → (end.rate ≡ a.rate) × Nearest (sum_or minus (instant a) (instant b)) (frame_ticks a.rate) end.count
    joined-nearest e =
        let exactly = sum_or minus (instant a) (instant b) in
        let same = ends Length e in (
          ap (λ (k : Timecode). k.rate) (sym same),
          subst (λ (k : Timecode). Nearest exactly (frame_ticks a.rate) k.count) same
              (nearest_is exactly (frame_ticks a.rate) (frame_ticks-pos a.rate rated)),
        )

    -- a position is the number of the day that this frame is reduced to
    pub joined-in-day : end.kind ≡ Position → (z : ℤ) → Nearest (sum_or minus (instant a) (instant b)) (frame_ticks a.rate) z
        → (end.rate ≡ a.rate) × OfDay a.rate z end.count
    joined-in-day e z near =
        let same = ends Position e in
        let one = nearest_one (sum_or minus (instant a) (instant b)) (frame_ticks a.rate) z (frame_ticks-pos a.rate rated) near in (
          ap (λ (k : Timecode). k.rate) (sym same),
          subst (λ (y : ℤ). OfDay a.rate y end.count) (sym one)
              (subst (λ (k : Timecode). OfDay a.rate frame k.count) same (in_day-is a.rate rated frame)),
        )

  -- ---- at one rate
  module _ (s : Valid a) (t : Valid b) (e : a.rate ≡ b.rate) where
    whole : sum_or minus (instant a) (instant b) ≡ sum_or minus a.count b.count *ℤ pos (frame_ticks a.rate)
    unfolding instant
    whole =
        ap (λ (r : ℕ). sum_or minus (a.count *ℤ pos (frame_ticks a.rate)) (b.count *ℤ pos (frame_ticks r))) (sym e)
        ∙ sym (spread minus a.count b.count (pos (frame_ticks a.rate)))

    same-frame : frame ≡ sum_or minus a.count b.count
    same-frame =
        let n = frame_ticks a.rate in
        ap (λ (z : ℤ). nearest_z z n) whole ∙ exact (sum_or minus a.count b.count) n (frame_ticks-pos a.rate s.rate)

    pub joined-exact-as : (k : Kind) → mixed_kinds (joining_of minus) a.kind b.kind ≡ Some k
        → joined minus a b ≡ settled k (placed a.rate (held (sum_or minus a.count b.count)))
    unfolding joined
    joined-exact-as k m =
        unless-clear Err (admits_both (joining_of minus) a b) (unless Err (bad_count frame ∷ []) (Ok (made kind frame a.rate)))
        (valid-admits_both (joining_of minus) a b s t (ap is_never m))
        ∙ sym (settled-held kind a.rate frame)
        ∙ ap₂ (λ (x : Kind) (z : ℤ). settled x (placed a.rate (held z))) (ap kind_in m) same-frame

    -- two lengths
    pub joined-exact : mixed_kinds (joining_of minus) a.kind b.kind ≡ Some Length → a.kind ≡ Length
        → joined minus a b ≡ moved_to a a.rate (held (sum_or minus a.count b.count))
    joined-exact m f = joined-exact-as Length m ∙ length_moved a (held (sum_or minus a.count b.count)) f

  -- ---- 15 exactly when the two are never mixed
  pub joined-refused :
      (number_of (joined minus a b) ≡ 15)
      ↔ (Clear (bad_rate a.rate ∷ bad_rate b.rate ∷ []) × (is_never (mixed_kinds (joining_of minus) a.kind b.kind) ≡ true))
  unfolding joined
  joined-refused =
      barred-exactly number_of Err (λ e. refl) (bad_rate a.rate ∷ bad_rate b.rate ∷ []) (bad_input a ∷ bad_input b ∷ bad_count frame ∷ [])
      refl refl (Ok (made kind frame a.rate)) refl (is_never (mixed_kinds (joining_of minus) a.kind b.kind))

  -- what is joined is within its bounds
  pub joined-takes : (end : Timecode) → joined minus a b ≡ Ok end → Valid a × Valid b
  unfolding joined
  joined-takes end h =
      let clear = (at_told (joined_when minus a b) (made kind frame a.rate) end h).0 in (
        record { rate = not_in _ clear.0; within = not_in _ clear.1.1.1.0 },
        record { rate = not_in _ clear.1.0; within = not_in _ clear.1.1.1.1.0 },
      )
