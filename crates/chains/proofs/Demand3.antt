-- The statements of specs/Demand3.antt, proved: the steps by Steps.antt, out and back by Multiples.antt.
-- Assumes nothing.
use Rattle.std.specs.Prelude.{Ok, Err}
use mathlib.Core.Path.{◌≡◌, refl, sym, ◌∙◌, ap, subst}
use mathlib.Core.Bool.{true, false, not, ◌||◌}
use mathlib.Core.List.{[], ◌∷◌, ◌++◌}
use Prim.Native.Nat.{ℕ, ◌≤◌}
use native.Mathlib.Decide.{dec_le}
use native.Mathlib.Omega.{arith}
use lib.IntN.{ℤ, pos, ◌*ℤ◌}
use lib.Signed.{◌≤ℤ◌}
use Rattle.laws.specs.Every.{every_append}
use Rattle.numbers.specs.OrderLaws.{mul-le}
use Rattle.numbers.specs.Nearest.{Nearest, nearest_n}
use Rattle.numbers.proofs.Statements.{nearest_is}
use Rattle.answers.specs.OrderLaws.{in-not, not_in}
use Rattle.answers.specs.Refusals.{is_count}
use Rattle.rates.specs.Rates.{rates, is_rate, rate_row, frame_ticks, bad_rate}
use Rattle.rates.proofs.Sound.{frame_ticks-pos}
use Rattle.timecodes.specs.declared.Timecode.{Timecode}
use Rattle.timecodes.specs.declared.kinds.Kind.TheVariants.{Length}
use Rattle.timecodes.specs.Timecode.{moved, number_of}
use Rattle.timecodes.specs.Admitted.{bad_input, Valid}
use Rattle.timecodes.specs.AdmittedLaws.{valid-count}
use Rattle.timecodes.specs.KindLaws.{position-exactly}
use Rattle.timecodes.specs.Instant.{instant}
use Rattle.chains.specs.Chain.{after, end_of, leaves, bad_rates, bad_steps, convert_of, carried, last_rate}
use Rattle.chains.specs.ChainLaws.{convert_of-own, Taken, convert_of-told, taken_is}
use Rattle.chains.specs.Demand3.{EmptyList, StepIsNearest, InTurn, ConvertedAt, EachTime, ChainWithin, ChainOrdered, CountsOrdered}
use Rattle.chains.specs.Demand3.{OutAndBack, SecondTrip, PositionRefused, LengthStays}
use Rattle.chains.proofs.Multiples.{there_back, le-multiple}
use Rattle.chains.proofs.Steps.{rates-split, end_of-valid, end_of-kind, end_of-append, leaves-append, end_of-rate, end_of-within, end_of-ordered}

-- ---- what a conversion is

pub empty_list : EmptyList
empty_list tc v l = taken_is tc tc [] (record { start = v; length = l; listed = refl; stays = refl; ends = refl })

pub step_is_nearest : StepIsNearest
step_is_nearest tc end next p =
    let t = convert_of-told tc end (next ∷ []) p in
    subst (λ (k : Timecode). Nearest (instant tc) (frame_ticks next) k.count) t.ends
    (nearest_is (instant tc) (frame_ticks next) (frame_ticks-pos next (rates-split next [] t.listed).0))

-- where a chain ends, the timecode is valid, and a length
arrived : (tc end : Timecode) (list : _) → Taken tc list end → Valid end
arrived tc end list t = subst Valid t.ends (end_of-valid tc list t.start t.length t.listed t.stays)

arrived-length : (tc end : Timecode) (list : _) → Taken tc list end → end.kind ≡ Length
arrived-length tc end list t = ap (λ (k : Timecode). k.kind) (sym t.ends) ∙ end_of-kind tc list ∙ t.length

pub in-turn : InTurn
unfolding carried
in-turn tc middle list more p =
    let t = convert_of-told tc middle list p in
    convert_of-own tc (list ++ more) t.start t.length
    ∙ (rw (every_append is_rate list more t.listed, leaves-append tc list more t.stays, end_of-append tc list more, t.ends)
    (sym (convert_of-own middle more (arrived tc middle list t) (arrived-length tc middle list t))))

pub converted_at : ConvertedAt
converted_at tc end list p = ap (λ (k : Timecode). k.rate) (sym (convert_of-told tc end list p).ends) ∙ end_of-rate tc list

pub each_time : EachTime
unfolding convert_of instant is_rate rate_row rates nearest_n
each_time = refl

-- ---- how far, and in which order

pub chain_within : ChainWithin
chain_within tc end list p = let t = convert_of-told tc end list p in rw (sym t.ends) (end_of-within tc list t.listed)

pub chain_ordered : ChainOrdered
chain_ordered tc tc' end end' list p p' h =
    let t = convert_of-told tc end list p in
    rw (sym t.ends, sym (convert_of-told tc' end' list p').ends) (end_of-ordered tc tc' list t.listed h)

pub counts_ordered : CountsOrdered
unfolding instant
counts_ordered tc tc' end end' list p p' same h =
    let t = convert_of-told tc end list p in
    let alike : end'.rate ≡ end.rate =
    converted_at tc' end' list p' ∙ ap (λ (r : ℕ). last_rate r list) (sym same) ∙ sym (converted_at tc end list p) in
    let start : instant tc ≤ℤ instant tc' =
    subst (λ (r : ℕ). instant tc ≤ℤ (tc'.count *ℤ pos (frame_ticks r))) same (mul-le tc.count tc'.count (frame_ticks tc.rate) h) in
    le-multiple end.count end'.count (frame_ticks end.rate) (frame_ticks-pos end.rate (arrived tc end list t).rate)
    (subst (λ (r : ℕ). instant end ≤ℤ (end'.count *ℤ pos (frame_ticks r))) alike (chain_ordered tc tc' end end' list p p' start))

-- ---- out and back

-- from a rate whose frame is no longer, the step back lands where the step out began
after-back : (tc : Timecode) (next : ℕ) → is_rate next ≡ true → frame_ticks next ≤ frame_ticks tc.rate → after (after tc next) tc.rate ≡ tc
unfolding instant
after-back tc next r l =
    ap (λ (k : ℤ). moved tc k tc.rate) (there_back tc.count (frame_ticks tc.rate) (frame_ticks next) (frame_ticks-pos next r) l)

pub out_and_back : OutAndBack
out_and_back tc out next l p =
    let t = convert_of-told tc out (next ∷ []) p in
    let r = (rates-split next [] t.listed).0 in
    let home = after-back tc next r l in
    taken_is tc tc (next ∷ tc.rate ∷ [])
    (record {
      start = t.start;
      length = t.length;
      listed = every_append is_rate (next ∷ []) (tc.rate ∷ []) t.listed ∙ rw t.start.rate;
      stays = leaves-append tc (next ∷ []) (tc.rate ∷ []) t.stays ∙ ap (λ (k : Timecode). not (is_count k.count) || false) home
          ∙ rw (valid-count tc t.start);
      ends = home;
    })

-- a second trip out lands where the first did: where the other frame is no longer nothing has moved, and where it is no shorter the way back is undone
again : (tc : Timecode) (next : ℕ) → is_rate next ≡ true → is_rate tc.rate ≡ true → after (after (after tc next) tc.rate) next ≡ after tc next
again tc next r s = by (dec_le (frame_ticks next) (frame_ticks tc.rate))
  where
    by : Dec (frame_ticks next ≤ frame_ticks tc.rate) → after (after (after tc next) tc.rate) next ≡ after tc next
    by (yes l) = ap (λ (k : Timecode). after k next) (after-back tc next r l)
    by (no f) = after-back (after tc next) tc.rate s (omega arith)

pub second_trip : SecondTrip
second_trip tc back next p =
    let trip = next ∷ tc.rate ∷ [] in
    let t = convert_of-told tc back trip p in
    let same : after back next ≡ after tc next =
    ap (λ (k : Timecode). after k next) (sym t.ends) ∙ again tc next (rates-split next (tc.rate ∷ []) t.listed).0 t.start.rate in
    taken_is back back trip
    (record {
      start = arrived tc back trip t;
      length = arrived-length tc back trip t;
      listed = t.listed;
      stays = ap (λ (k : Timecode). not (is_count k.count) || leaves k (tc.rate ∷ [])) same ∙ t.stays;
      ends = ap (λ (k : Timecode). end_of k (tc.rate ∷ [])) same ∙ t.ends;
    })

-- ---- lengths only

pub position_refused : PositionRefused
unfolding convert_of
position_refused tc list =
    let x =
    position-exactly number_of Err (λ e. refl) (bad_rates list ∷ bad_rate tc.rate ∷ []) (bad_input tc ∷ bad_steps tc list ∷ []) refl refl
    (Ok (end_of tc list)) refl tc.kind in
    (λ e. let c = x.0 e in (not_in _ c.0.0, (not_in _ c.0.1.0, c.1)), λ h. x.1 ((in-not h.0, (in-not h.1.0, tt)), h.1.1))

pub length_stays : LengthStays
length_stays tc end list p = arrived-length tc end list (convert_of-told tc end list p)
