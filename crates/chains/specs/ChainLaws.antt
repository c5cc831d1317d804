-- Laws of a chain (BEHAVIOUR: Chains): what one step tells, the steps one at a time, and what an end tells of the start and the list.
-- Assumes nothing.
use Rattle.std.specs.Prelude.{◌≡◌, refl, Bool, true, false, not, cond, ◌||◌, List, [], ◌∷◌, ℕ, Ok, Err}
use Rattle.std.proofs.Common.{sym, ◌∙◌, ap, subst, arith}
use Rattle.laws.specs.Every.{every}
use Rattle.answers.specs.declared.Refusal.{Refusal}
use Rattle.answers.specs.Order.{unless, Clear}
use Rattle.answers.specs.OrderLaws.{unless-clear, not_in, in-not}
use Rattle.answers.specs.Refusals.{out_of_bounds, no_such, is_count, bad_count}
use Rattle.rates.specs.Rates.{is_rate}
use Rattle.timecodes.specs.declared.Timecode.{Timecode}
use Rattle.timecodes.specs.declared.kinds.Kind.TheVariants.{Length}
use Rattle.timecodes.specs.Kinds.{is_position}
use Rattle.timecodes.specs.Admitted.{admits_length, Valid}
use Rattle.timecodes.specs.AdmittedLaws.{valid-admits_length, admits_length-valid, admits_length-length, within-length, at_told}
use Rattle.chains.specs.Chain.{nearest_frame, after, end_of, leaves, convert_when, convert_of, step_of, carried}

-- ---- one step

-- from a length, at a rate and within its bounds, there is a valid timecode
pub after-valid : (tc : Timecode) (next : ℕ) → tc.kind ≡ Length → is_rate next ≡ true → is_count (nearest_frame tc next) ≡ true → Valid (after tc next)
after-valid tc next l r c = record { rate = r; within = within-length tc.kind next (nearest_frame tc next) (ap is_position l) ∙ c }

-- where it lands, the count is within its bounds, and there is the nearest frame
pub step_of-told : (tc t : Timecode) (next : ℕ) → step_of tc next ≡ Ok t → (is_count (nearest_frame tc next) ≡ true) × (after tc next ≡ t)
unfolding step_of
step_of-told tc t next p =
    let told = at_told (bad_count (nearest_frame tc next) ∷ []) (after tc next) t p in
    (not_in _ told.0.0, told.1)

-- of a length, at a rate, it is valid
pub step_of-valid : (tc t : Timecode) (next : ℕ) → tc.kind ≡ Length → is_rate next ≡ true → step_of tc next ≡ Ok t → Valid t
step_of-valid tc t next l r p =
    let told = step_of-told tc t next p in
    subst Valid told.1 (after-valid tc next l r told.0)

-- and of the same kind
pub step_of-kind : (tc t : Timecode) (next : ℕ) → step_of tc next ≡ Ok t → t.kind ≡ tc.kind
step_of-kind tc t next p = ap (λ (k : Timecode). k.kind) (sym (step_of-told tc t next p).1)

-- ---- the steps in turn

-- through no rate, the start
pub carried_none : (tc : Timecode) → carried tc [] ≡ Ok tc
unfolding carried
carried_none tc = refl

-- where the first step lands, the others go on from there
pub carried-next : (tc t : Timecode) (next : ℕ) (list : List ℕ) → step_of tc next ≡ Ok t → carried tc (next ∷ list) ≡ carried t list
unfolding carried
carried-next tc t next list p =
    let told = step_of-told tc t next p in
    ap (λ (b : Bool). cond (not b || leaves (after tc next) list) (Err out_of_bounds) (Ok (end_of (after tc next) list))) told.0
    ∙ ap (λ (k : Timecode). carried k list) told.1

-- where it is refused, so is the whole
pub carried-stop : (tc : Timecode) (next : ℕ) (list : List ℕ) (e : Refusal) → step_of tc next ≡ Err e → carried tc (next ∷ list) ≡ Err e
unfolding carried step_of
carried-stop tc next list e p = by (is_count (nearest_frame tc next)) p
  where
    by : (t : Bool) → cond (not t) (Err out_of_bounds) (Ok (after tc next)) ≡ Err e
        → cond (not t || leaves (after tc next) list) (Err out_of_bounds) (Ok (end_of (after tc next) list)) ≡ Err e
    by true h = let z : ◌≡◌ {A = ℕ} 0 1 = cc in absurd (omega arith)
    by false h = h

-- ---- the conditions before

-- a listed number that is no rate is refused 6 before all else
pub convert_of-out : (tc : Timecode) (list : List ℕ) → every is_rate list ≡ false → convert_of tc list ≡ Err no_such
unfolding convert_of carried
convert_of-out tc list l = ap (λ (t : Bool). cond (not t) (Err no_such) (unless Err (admits_length tc) (carried tc list))) l

-- of listed rates, the steps in turn are answered behind the timecode's own conditions
pub convert_of-in : (tc : Timecode) (list : List ℕ) → every is_rate list ≡ true → convert_of tc list ≡ unless Err (admits_length tc) (carried tc list)
unfolding convert_of carried
convert_of-in tc list l = ap (λ (t : Bool). cond (not t) (Err no_such) (unless Err (admits_length tc) (carried tc list))) l

-- of a length that is valid, only the list and the steps may still refuse
pub convert_of-own : (tc : Timecode) (list : List ℕ) → Valid tc → tc.kind ≡ Length
    → convert_of tc list ≡ cond (not (every is_rate list)) (Err no_such) (carried tc list)
unfolding convert_of carried
convert_of-own tc list v l =
    ap (cond (not (every is_rate list)) (Err no_such)) (unless-clear Err (admits_length tc) (carried tc list) (valid-admits_length tc v l))

-- what an end tells of the start and the list
pub record Taken (tc : Timecode) (list : List ℕ) (end : Timecode) : Type 0 where
  pub start : Valid tc
  pub length : tc.kind ≡ Length
  pub listed : every is_rate list ≡ true
  pub stays : leaves tc list ≡ false
  pub ends : end_of tc list ≡ end

pub convert_of-told : (tc end : Timecode) (list : List ℕ) → convert_of tc list ≡ Ok end → Taken tc list end
unfolding convert_of
convert_of-told tc end list p =
    let told = at_told (convert_when tc list) (end_of tc list) end p in
    let own = told.0.1 in
    let clear : Clear (admits_length tc) = (own.0, (own.1.0, (own.1.1.0, tt))) in
    record {
      start = admits_length-valid tc clear;
      length = admits_length-length tc clear;
      listed = not_in _ told.0.0;
      stays = own.1.1.1.0;
      ends = told.1;
    }

-- and back
pub taken_is : (tc end : Timecode) (list : List ℕ) → Taken tc list end → convert_of tc list ≡ Ok end
unfolding convert_of
taken_is tc end list t =
    let own = valid-admits_length tc t.start t.length in
    unless-clear Err (convert_when tc list) (Ok (end_of tc list)) (in-not t.listed, (own.0, (own.1.0, (own.1.1.0, (t.stays, tt)))))
    ∙ ap Ok t.ends
