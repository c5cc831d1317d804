-- Number by number: each condition of a record is what its sentence says, and those before it do not hold.
-- Assumes nothing.
use Prim.Native.Nat.{ℕ, suc, ◌≤◌, ◌<◌, ◌^◌}
use mathlib.Core.Path.{◌≡◌, refl, sym, ap, ◌∙◌, subst}
use mathlib.Core.Logic.{◌↔◌, ◌⊎◌, inl, inr}
use mathlib.Core.List.{List, [], ◌∷◌, ◌++◌}
use mathlib.Core.Bool.{Bool, true, false, cond, not, ◌&&◌}
use native.Mathlib.Omega.{arith}
use borrow.Author.Tests.{lt-ltb, le-ltb, le-leb, lt-leb, leb-false, ltb-true, eqb-true, eq-eqb, ne_eqb}
use lib.Dec.{T, leb, ltb, eqb}
use lib.IntN.{ℤ, pos, negsuc, nat_abs}
use lib.Signed.{lt_z, ◌<ℤ◌, lt_z_yes}
use lib.ListN.{length, length-append}
use Rattle.answers.specs.Order.{Clear, first}
use Rattle.answers.specs.OrderLaws.{not_in}
use Rattle.answers.specs.Refusals.{is_count}
use Rattle.rates.specs.Rates.{is_rate}
use Rattle.low_bytes.specs.LowBytes.{worth}
use Rattle.low_bytes.proofs.Worth.{worth-below}
use Rattle.shot_lists.specs.declared.records.Record.{Record}
use Rattle.shot_lists.specs.declared.records.Record.TheVariants.{Rate, Shot, Reel}
use Rattle.shot_lists.specs.Records.{faults, Sound, held_behind}
use Rattle.shot_lists.specs.Grammar.{kind_byte, OneOnDisk}
use Rattle.shot_lists.specs.Entries.{body_fixed, on_disk, entry_of, taken}
use Rattle.shot_lists.specs.Reading.{number_in}
use Rattle.shot_lists.specs.Laws.{entry-spelled}
use Rattle.shot_lists.specs.RefusalStatements.{numbers_in, order_for, Within400, rates_in, last_of, RefusalOrder, NineExactly, TenExactly, SixExactly, FiveExactly, ElevenExactly, TwelveExactly, RateHolds, EmptyShot, AnyReel}
use Rattle.shot_lists.proofs.Bodies.{kind_fixes, made-back, body-some, disk-spells}
use Rattle.shot_lists.proofs.Numbers.{first-but, faults-but, entry_when}

-- ---- the order

order-for : (held : ℕ) (r : Record) → numbers_in (faults held r) ≡ order_for r
unfolding faults
order-for held (Rate n) = refl
order-for held (Shot start end) = refl
order-for held (Reel n) = refl

pub refusal_order : RefusalOrder
refusal_order A f held x l = ap (λ (t : List ℕ). 9 ∷ 10 ∷ t) (order-for held (f.made (f.kind x) l))

-- ---- kind and body

-- what speaks against a record's numbers is neither 9 nor 10
not-nine : (held : ℕ) (r : Record) → first (faults held r) ≡ 9 → ⊥
not-nine held r = first-but 8 (faults held r) (faults-but 9 (λ e. omega arith) (λ e. omega arith) (λ e. omega arith) (λ e. omega arith) held r)

not-ten : (held : ℕ) (r : Record) → first (faults held r) ≡ 10 → ⊥
not-ten held r = first-but 9 (faults held r) (faults-but 10 (λ e. omega arith) (λ e. omega arith) (λ e. omega arith) (λ e. omega arith) held r)

-- there is no such kind
no_body : (b : ℕ) → (b ≡ 1 → ⊥) → (b ≡ 2 → ⊥) → (b ≡ 3 → ⊥) → on_disk.body b ≡ 0
unfolding body_fixed
no_body b f g h = rw (ne_eqb b 1 f, ne_eqb b 2 g, ne_eqb b 3 h)

some-body : (r : Record) (b : ℕ) → b ≡ kind_byte r → on_disk.body b ≡ 0 → ⊥
some-body r b e h = omega (arith, body-some r, ap on_disk.body e, h)

nine-by : (p q : Bool) (later : ℕ) → (later ≡ 9 → ⊥) → cond p 9 (cond q 10 later) ≡ 9 → p ≡ true
nine-by true q later other h = refl
nine-by false true later other h = absurd (omega arith)
nine-by false false later other h = absurd (other h)

pub nine_exactly : NineExactly
nine_exactly held b l =
    let n = on_disk.body b in
    let r = on_disk.made b l in
    let is = entry_when ℕ on_disk held b l in (
      λ h.
          let none = eqb-true n 0 (nine-by (eqb n 0) (ltb (length l) n) (first (faults held r)) (not-nine held r) (sym is ∙ h)) in
          (λ e. some-body (Rate 0) b e none, λ e. some-body (Shot (pos 0) (pos 0)) b e none, λ e. some-body (Reel 0) b e none),
      λ k. is ∙ ap (λ (t : Bool). cond t 9 (cond (ltb (length l) n) 10 (first (faults held r)))) (eq-eqb n 0 (no_body b k.0 k.1 k.2)),
    )

ten-by : (p q : Bool) (later : ℕ) → (later ≡ 10 → ⊥) → cond p 9 (cond q 10 later) ≡ 10 → q ≡ true
ten-by true q later other h = absurd (omega arith)
ten-by false true later other h = refl
ten-by false false later other h = absurd (other h)

pub ten_exactly : TenExactly
ten_exactly held r body l of =
    let b = kind_byte r in
    let n = on_disk.body b in
    let m = on_disk.made b l in
    let long : length body ≡ n = kind_fixes r body of in
    let is = entry_when ℕ on_disk held b l in (
      λ h.
          let short = ltb-true (length l) n (ten-by (eqb n 0) (ltb (length l) n) (first (faults held m)) (not-ten held m) (sym is ∙ h)) in
          omega arith,
      λ k.
          is
          ∙ ap (λ (t : Bool). cond t 9 (cond (ltb (length l) n) 10 (first (faults held m)))) (ne_eqb n 0 (λ e. some-body r b refl e))
          ∙ ap (λ (t : Bool). cond t 10 (first (faults held m))) (lt-ltb (length l) n (omega arith)),
    )

-- ---- its numbers

rate-by : (p q : Bool) (n : ℕ) → leb 1 n ≡ p → leb n 12 ≡ q → ◌≡◌ {A = ℕ} (cond (not (p && q)) 6 0) 6 → (n < 1) ⊎ (12 < n)
rate-by true true n e f h = absurd (omega arith)
rate-by true false n e f h = inr (leb-false n 12 f)
rate-by false q n e f h = inl (leb-false 1 n e)

no_rate : (n : ℕ) → (n < 1) ⊎ (12 < n) → is_rate n ≡ false
unfolding is_rate
no_rate n (inl h) = rw (lt-leb 1 n h)
no_rate n (inr h) = rw (lt-leb n 12 h) (by (leb 1 n))
  where
    by : (t : Bool) → t && false ≡ false
    by true = refl
    by false = refl

-- a record on disk is refused what speaks against its numbers first
disk-number : (held : ℕ) (r : Record) (part l : List ℕ) → OneOnDisk r part → number_in (entry_of on_disk held (part ++ l)) ≡ first (faults held r)
disk-number held r part l one =
    let k = kind_byte r in
    let n = on_disk.body k in
    let rest = one.body ++ l in
    let fits : n ≤ length rest = omega (arith, kind_fixes r one.body one.of, length-append one.body l) in
    ap (λ (p : List ℕ). number_in (entry_of on_disk held (p ++ l))) one.is
    ∙ entry_when ℕ on_disk held k rest
    ∙ ap (λ (t : Bool). cond t 9 (cond (ltb (length rest) n) 10 (first (faults held (on_disk.made k rest))))) (ne_eqb n 0 (λ e. some-body r k refl e))
    ∙ ap (λ (t : Bool). cond t 10 (first (faults held (on_disk.made k rest)))) (le-ltb (length rest) n fits)
    ∙ ap (λ (m : Record). first (faults held m)) (made-back r one.body one.of l)

-- so what holds of the one holds of the other
carried : (x y k : ℕ) (P : Type 0) → x ≡ y → (y ≡ k) ↔ P → (x ≡ k) ↔ P
carried x y k P e both = (λ h. both.0 (sym e ∙ h), λ p. e ∙ both.1 p)

six : (held n : ℕ) → (first (faults held (Rate n)) ≡ 6) ↔ ((n < 1) ⊎ (12 < n))
unfolding faults is_rate
six held n =
    (λ h. rate-by (leb 1 n) (leb n 12) n refl refl h, λ k. ap (λ (t : Bool). cond (not t) 6 0) (no_rate n k))

pub six_exactly : SixExactly
six_exactly held n part l one =
    carried (number_in (entry_of on_disk held (part ++ l))) (first (faults held (Rate n))) 6 _ (disk-number held (Rate n) part l one) (six held n)

count-in : (z : ℤ) → Within400 z → is_count z ≡ true
count-in z h = le-leb (nat_abs z) 400000000 h

rate-in : (n : ℕ) → 1 ≤ n → n ≤ 12 → is_rate n ≡ true
unfolding is_rate
rate-in n h k = rw (le-leb 1 n h, le-leb n 12 k)

five-by : (p q r s : Bool) → ◌≡◌ {A = ℕ} (cond (not p) 5 (cond (not q) 5 (cond (not r) 11 (cond s 12 0)))) 5 → (p ≡ false) ⊎ (q ≡ false)
five-by false q r s h = inl refl
five-by true false r s h = inr refl
five-by true true false s h = absurd (omega arith)
five-by true true true true h = absurd (omega arith)
five-by true true true false h = absurd (omega arith)

five-in : (p q r s : Bool) → (p ≡ false) ⊎ (q ≡ false) → ◌≡◌ {A = ℕ} (cond (not p) 5 (cond (not q) 5 (cond (not r) 11 (cond s 12 0)))) 5
five-in false q r s k = refl
five-in true false r s k = refl
five-in true true r s (inl e) = let z : ◌≡◌ {A = ℕ} 0 1 = cc in absurd (omega arith)
five-in true true r s (inr e) = let z : ◌≡◌ {A = ℕ} 0 1 = cc in absurd (omega arith)

out_of : (start end : ℤ) → (is_count start ≡ false) ⊎ (is_count end ≡ false) → (400000000 < nat_abs start) ⊎ (400000000 < nat_abs end)
out_of start end (inl e) = inl (leb-false (nat_abs start) 400000000 e)
out_of start end (inr e) = inr (leb-false (nat_abs end) 400000000 e)

of-out : (start end : ℤ) → (400000000 < nat_abs start) ⊎ (400000000 < nat_abs end) → (is_count start ≡ false) ⊎ (is_count end ≡ false)
of-out start end (inl h) = inl (lt-leb (nat_abs start) 400000000 h)
of-out start end (inr h) = inr (lt-leb (nat_abs end) 400000000 h)

five : (held : ℕ) (start end : ℤ) → (first (faults held (Shot start end)) ≡ 5) ↔ ((400000000 < nat_abs start) ⊎ (400000000 < nat_abs end))
unfolding faults
five held start end = (
  λ h. out_of start end (five-by (is_count start) (is_count end) (is_rate held) (lt_z end start) h),
  λ k. five-in (is_count start) (is_count end) (is_rate held) (lt_z end start) (of-out start end k),
)

pub five_exactly : FiveExactly
five_exactly held start end part l one =
    carried (number_in (entry_of on_disk held (part ++ l))) (first (faults held (Shot start end))) 5 _ (disk-number held (Shot start end) part l one)
    (five held start end)

-- ---- the rate that holds

pub rate_holds : RateHolds
rate_holds held [] = refl
rate_holds held (Rate n ∷ rs) = rate_holds n rs
rate_holds held (Shot start end ∷ rs) = rate_holds held rs
rate_holds held (Reel n ∷ rs) = rate_holds held rs

-- where a rate was held before, one is held behind a list without fault
rated : (held : ℕ) (rs : List Record) → Sound held rs → is_rate held ≡ true → is_rate (held_behind held rs) ≡ true
unfolding faults
rated held [] sound h = h
rated held (Rate n ∷ rs) sound h = rated n rs sound.1 (not_in (is_rate n) sound.0.0)
rated held (Shot start end ∷ rs) sound h = rated held rs sound.1 h
rated held (Reel n ∷ rs) sound h = rated held rs sound.1 h

module _ (start end : ℤ) (s : is_count start ≡ true) (e : is_count end ≡ true) where
  not-eleven : (held : ℕ) → is_rate held ≡ true → first (faults held (Shot start end)) ≡ 11 → ⊥
  unfolding faults
  not-eleven held h = rw (s, e, h) (by (lt_z end start))
    where
      by : (t : Bool) → ◌≡◌ {A = ℕ} (cond t 12 0) 11 → ⊥
      by true z = omega arith
      by false z = omega arith

  eleven : first (faults 0 (Shot start end)) ≡ 11
  unfolding faults is_rate
  eleven = rw (s, e)

  none_before : (rs : List Record) → Sound 0 rs → first (faults (held_behind 0 rs) (Shot start end)) ≡ 11 → rates_in rs ≡ []
  unfolding faults
  none_before [] sound h = refl
  none_before (Rate n ∷ rs) sound h = absurd (not-eleven (held_behind n rs) (rated n rs sound.1 (not_in (is_rate n) sound.0.0)) h)
  none_before (Shot a b ∷ rs) sound h = none_before rs sound.1 h
  none_before (Reel n ∷ rs) sound h = none_before rs sound.1 h

eleven-is : (before : List Record) (start end : ℤ) → Sound 0 before → Within400 start → Within400 end
    → (first (faults (held_behind 0 before) (Shot start end)) ≡ 11) ↔ (rates_in before ≡ [])
eleven-is before start end sound s e = (
  none_before start end (count-in start s) (count-in end e) before sound,
  λ none.
      let held : held_behind 0 before ≡ 0 = rate_holds 0 before ∙ ap (last_of 0) none in
      ap (λ (h : ℕ). first (faults h (Shot start end))) held ∙ eleven start end (count-in start s) (count-in end e),
)

pub eleven_exactly : ElevenExactly
eleven_exactly before start end part l sound one s e =
    let held = held_behind 0 before in
    carried (number_in (entry_of on_disk held (part ++ l))) (first (faults held (Shot start end))) 11 _ (disk-number held (Shot start end) part l one)
    (eleven-is before start end sound s e)

-- ---- end and first

twelve-is : (held : ℕ) (start end : ℤ) → 1 ≤ held → held ≤ 12 → Within400 start → Within400 end
    → (first (faults held (Shot start end)) ≡ 12) ↔ (end <ℤ start)
unfolding faults
twelve-is held start end low high s e = (
  λ n. lt_z_yes (there (lt_z end start) (rw (count-in start s, count-in end e, rate-in held low high) at n)),
  λ less. rw (count-in start s, count-in end e, rate-in held low high) (given (lt_z end start) less.lt),
)
  where
    there : (t : Bool) → ◌≡◌ {A = ℕ} (cond t 12 0) 12 → T t
    there true n = tt
    there false n = absurd (omega arith)

    given : (t : Bool) → T t → ◌≡◌ {A = ℕ} (cond t 12 0) 12
    given true less = refl
    given false less = absurd less

pub twelve_exactly : TwelveExactly
twelve_exactly held start end part l low high one s e =
    carried (number_in (entry_of on_disk held (part ++ l))) (first (faults held (Shot start end))) 12 _ (disk-number held (Shot start end) part l one)
    (twelve-is held start end low high s e)

less-not : (z : ℤ) → lt_z z z ≡ false
less-not (pos n) = le-ltb n n (omega arith)
less-not (negsuc n) = le-ltb n n (omega arith)

empty-clear : (held : ℕ) (frame : ℤ) → 1 ≤ held → held ≤ 12 → Within400 frame → Clear (faults held (Shot frame frame))
unfolding faults
empty-clear held frame low high c =
    (ap not (count-in frame c), (ap not (count-in frame c), (ap not (rate-in held low high), (less-not frame, tt))))

pub empty_shot : EmptyShot
empty_shot held frame part l low high one c =
    entry-spelled on_disk held (Shot frame frame) part l (disk-spells (Shot frame frame) part one) (empty-clear held frame low high c)

-- ---- reels

pub any_reel : AnyReel
unfolding faults
any_reel held body l long bytes =
    let below : worth body < 256 ^ 4 = subst (λ (n : ℕ). worth body < 256 ^ n) long (worth-below body bytes) in
    entry-spelled on_disk held (Reel (worth body)) (3 ∷ body) l
    (disk-spells (Reel (worth body)) (3 ∷ body) record { body = body; is = refl; of = record { long = long; bytes = bytes; is = refl } })
    (ap not (lt-ltb (worth body) (256 ^ 4) below), tt)
    ∙ ap (λ (n : ℕ). taken (Reel (worth body)) held (suc n)) long
