-- A line is bad exactly when something is wrong with it, and that is told: by the tests in their order.
-- Assumes nothing.
use Rattle.std.specs.Prelude.{Option, Some, None, Result, Ok, Err}
use Prim.Native.Nat.{ℕ}
use mathlib.Core.Path.{◌≡◌, refl, sym, ap, subst, ◌∙◌}
use mathlib.Core.List.{List}
use mathlib.Core.Bool.{Bool, true, false, cond, not}
use native.Mathlib.Omega.{arith}
use lib.Dec.{leb, ltb}
use borrow.Author.Tests.{leb-true, ltb-true, leb-false, ltb-false}
use Rattle.rates.specs.Rates.{is_rate}
use Rattle.rates.specs.Day.{day_frames}
use Rattle.routing.specs.declared.entries.Pair.{Pair}
use Rattle.routing.specs.declared.loading.Loading.{Loading}
use Rattle.routing.specs.declared.loading.Flaw.{Flaw}
use Rattle.routing.specs.declared.loading.Flaw.TheVariants.{NotTwoNumbers, NoSuchRate, NoSuchReel, ManyShards, EmptyShard, EarlyShard, PastDay}
use Rattle.routing.specs.declared.loading.Loaded.{Loaded}
use Rattle.routing.specs.Entries.{entry_of}
use Rattle.routing.specs.Grammar.{SaysNothing, SaysTwo}
use Rattle.routing.specs.Loading.{Skipped, Headed, Shard, Bad, is_headed, rate_in, with_head, with_shard, head_of, shard_at, shard_of, loaded_by, load_of}
use Rattle.routing.specs.Statements.{Wrong, too_long, not_two, no_rate, no_reel, many, empty, early, past, NothingLoaded, LineBad}
use Rattle.routing.proofs.Spelt.{line_skipped, line_taken, line-flaw}
use Rattle.routing.proofs.Taking.{line-over, two-load, head-no-rate, head-no-reel, shard-many, shard-empty, shard-early, shard-past}

module _ (s : Loading) (line : List ℕ) where
  -- of a bad line what is wrong with it
  abbrev Says : Result Loaded Flaw → Type 0
  Says Skipped = Unit {0}
  Says (Headed t) = Unit {0}
  Says (Shard first end t) = Unit {0}
  Says (Bad flaw) = Wrong s line false flaw

  head-says : (rate reel : ℕ) → SaysTwo line rate reel → is_headed s ≡ false → Says (head_of rate reel)
  unfolding head_of
  head-says rate reel k h = by (is_rate rate) (ltb 4294967295 reel) refl refl
    where
      by : (x y : Bool) → is_rate rate ≡ x → ltb 4294967295 reel ≡ y → Says (cond (not x) (Bad NoSuchRate) (cond y (Bad NoSuchReel) (Headed (with_head rate reel))))
      by false y p q = no_rate rate reel k h p
      by true true p q = no_reel rate reel k h p (ltb-true 4294967295 reel q)
      by true false p q = tt

  shard-says : (first end : ℕ) → SaysTwo line first end → is_headed s ≡ true → Says (shard_of s first end)
  unfolding shard_at
  shard-says first end k h = by (leb 256 s.shards) (leb end first) (ltb first s.last) (ltb (day_frames (rate_in s)) end) refl refl refl refl
    where
      by : (w x y z : Bool) → leb 256 s.shards ≡ w → leb end first ≡ x → ltb first s.last ≡ y → ltb (day_frames (rate_in s)) end ≡ z
          → Says (cond w (Bad ManyShards) (cond x (Bad EmptyShard) (cond y (Bad EarlyShard) (cond z (Bad PastDay) (Shard first end (with_shard s end))))))
      by true x y z a b c d = many first end k h (leb-true 256 s.shards a)
      by false true y z a b c d = empty first end k h (leb-false 256 s.shards a) (leb-true end first b)
      by false false true z a b c d = early first end k h (leb-false 256 s.shards a) (leb-false end first b) (ltb-true first s.last c)
      by false false false true a b c d =
          past first end k h (leb-false 256 s.shards a) (leb-false end first b) (ltb-false first s.last c) (ltb-true (day_frames (rate_in s)) end d)
      by false false false false a b c d = tt

  numbers-say : (m n : ℕ) → SaysTwo line m n → (t : Bool) → is_headed s ≡ t → Says (cond t (shard_of s m n) (head_of m n))
  numbers-say m n k true e = shard-says m n k e
  numbers-say m n k false e = head-says m n k e

  by-entry : (e : Result (Option Pair) Flaw) → entry_of line ≡ e → Says (loaded_by s e)
  by-entry (Ok None) p = tt
  by-entry (Ok (Some pair)) p = numbers-say pair.first pair.second ((line_taken line pair.first pair.second).1 p) (is_headed s) refl
  by-entry (Err f) p =
      subst (Wrong s line false) (sym (line-flaw line f p)) (not_two
      (λ k. let e = sym ((line_skipped line).0 k) ∙ p in let z : ◌≡◌ {A = ℕ} 0 1 = cc in omega (arith, z))
      (λ m n k. let e = sym ((line_taken line m n).0 k) ∙ p in let z : ◌≡◌ {A = ℕ} 0 1 = cc in omega (arith, z)))

  line-says : Says (load_of s line false)
  unfolding load_of
  line-says = by-entry (entry_of line) refl

  -- what is no line of the grammar is bad
  other-bad : (SaysNothing line → ⊥) → ((m n : ℕ) → SaysTwo line m n → ⊥) → (e : Result (Option Pair) Flaw) → entry_of line ≡ e → loaded_by s e ≡ Bad NotTwoNumbers
  other-bad a b (Ok None) p = absurd (a ((line_skipped line).1 p))
  other-bad a b (Ok (Some pair)) p = absurd (b pair.first pair.second ((line_taken line pair.first pair.second).1 p))
  other-bad a b (Err f) p = ap Bad (line-flaw line f p)

  -- two numbers where rate and reel are wanted, and where a shard is
  as-head : (m n : ℕ) → SaysTwo line m n → is_headed s ≡ false → load_of s line false ≡ head_of m n
  as-head m n k h = two-load s line m n k ∙ ap (λ (b : Bool). cond b (shard_of s m n) (head_of m n)) h

  as-shard : (m n : ℕ) → SaysTwo line m n → is_headed s ≡ true → load_of s line false ≡ shard_of s m n
  as-shard m n k h = two-load s line m n k ∙ ap (λ (b : Bool). cond b (shard_of s m n) (head_of m n)) h

  is-bad : (over : Bool) (flaw : Flaw) → Wrong s line over flaw → load_of s line over ≡ Bad flaw
  unfolding load_of
  is-bad over flaw too_long = sym (line-over s line true refl)
  is-bad over flaw (not_two a b) = other-bad a b (entry_of line) refl
  is-bad over flaw (no_rate rate reel k h e) = as-head rate reel k h ∙ sym (head-no-rate rate reel e)
  is-bad over flaw (no_reel rate reel k h e m) = as-head rate reel k h ∙ sym (head-no-reel rate reel e m)
  is-bad over flaw (many first end k h m) = as-shard first end k h ∙ sym (shard-many (rate_in s) s first end m)
  is-bad over flaw (empty first end k h few m) = as-shard first end k h ∙ sym (shard-empty (rate_in s) s first end few m)
  is-bad over flaw (early first end k h few some m) = as-shard first end k h ∙ sym (shard-early (rate_in s) s first end few some m)
  is-bad over flaw (past first end k h few some after m) = as-shard first end k h ∙ sym (shard-past (rate_in s) s first end few some after m)

  flaw_in : Flaw → Result Loaded Flaw → Flaw
  flaw_in other (Bad flaw) = flaw
  flaw_in other Skipped = other
  flaw_in other (Headed t) = other
  flaw_in other (Shard first end t) = other

  is-wrong : (over : Bool) (flaw : Flaw) → load_of s line over ≡ Bad flaw → Wrong s line over flaw
  unfolding flaw_in
  is-wrong true flaw e = subst (Wrong s line true) (ap (flaw_in flaw) (line-over s line true refl ∙ e)) too_long
  is-wrong false flaw e = subst Says e line-says

-- ---- a line that is passed over
module _ (s : Loading) (line : List ℕ) where
  abbrev kind_of : Result Loaded Flaw → ℕ
  kind_of Skipped = 0
  kind_of (Headed t) = 1
  kind_of (Shard first end t) = 1
  kind_of (Bad flaw) = 1

  head-kind : (rate reel : ℕ) → kind_of (head_of rate reel) ≡ 1
  unfolding head_of
  head-kind rate reel = by (is_rate rate) (ltb 4294967295 reel)
    where
      by : (x y : Bool) → kind_of (cond (not x) (Bad NoSuchRate) (cond y (Bad NoSuchReel) (Headed (with_head rate reel)))) ≡ 1
      by false y = refl
      by true true = refl
      by true false = refl

  shard-kind : (first end : ℕ) → kind_of (shard_of s first end) ≡ 1
  unfolding shard_at
  shard-kind first end = by (leb 256 s.shards) (leb end first) (ltb first s.last) (ltb (day_frames (rate_in s)) end)
    where
      by : (w x y z : Bool)
          → kind_of (cond w (Bad ManyShards) (cond x (Bad EmptyShard) (cond y (Bad EarlyShard) (cond z (Bad PastDay) (Shard first end (with_shard s end)))))) ≡ 1
      by true x y z = refl
      by false true y z = refl
      by false false true z = refl
      by false false false true = refl
      by false false false false = refl

  numbers-kind : (m n : ℕ) (t : Bool) → kind_of (cond t (shard_of s m n) (head_of m n)) ≡ 1
  numbers-kind m n true = shard-kind m n
  numbers-kind m n false = head-kind m n

  by_kind : (e : Result (Option Pair) Flaw) → entry_of line ≡ e → kind_of (loaded_by s e) ≡ 0 → SaysNothing line
  by_kind (Ok None) p k = (line_skipped line).1 p
  by_kind (Ok (Some pair)) p k = let z = sym (numbers-kind pair.first pair.second (is_headed s)) ∙ k in absurd (omega (arith, z))
  by_kind (Err f) p k = absurd (omega (arith, k))

  is-nothing : (over : Bool) → load_of s line over ≡ Skipped → (over ≡ false) × SaysNothing line
  unfolding load_of
  is-nothing true e = let z = ap kind_of (line-over s line true refl ∙ e) in absurd (omega (arith, z))
  is-nothing false e = (refl, by_kind (entry_of line) refl (ap kind_of e))

  nothing_is : (over : Bool) → over ≡ false → SaysNothing line → load_of s line over ≡ Skipped
  unfolding load_of
  nothing_is over f n = rw f (ap (loaded_by s) ((line_skipped line).0 n))

pub nothing_loaded : NothingLoaded
nothing_loaded s line over = (λ h. nothing_is s line over h.0 h.1, is-nothing s line over)

pub line_bad : LineBad
line_bad s line over flaw = (is-bad s line over flaw, is-wrong s line over flaw)
