-- A line that a directory is made of, by the code's tests; and what it tells that a line was taken.
-- Assumes nothing.
use Rattle.std.specs.Prelude.{Option, Some, None, Result, Ok, Err}
use Prim.Native.Nat.{ℕ, ◌≤◌, ◌<◌}
use mathlib.Core.Path.{◌≡◌, refl, sym, ap, subst, ◌∙◌}
use mathlib.Core.List.{List}
use mathlib.Core.Bool.{Bool, true, false, cond, not}
use native.Mathlib.Omega.{arith}
use lib.Dec.{leb, ltb}
use borrow.Author.Tests.{le-leb, lt-leb, lt-ltb, le-ltb, leb-false, ltb-false}
use Rattle.rates.specs.Rates.{is_rate}
use Rattle.rates.specs.Day.{day_frames}
use Rattle.routing.specs.declared.entries.Pair.{Pair}
use Rattle.routing.specs.declared.loading.Loading.{Loading}
use Rattle.routing.specs.declared.loading.Flaw.{Flaw}
use Rattle.routing.specs.declared.loading.Flaw.TheVariants.{TooLong, NoSuchRate, NoSuchReel, ManyShards, EmptyShard, EarlyShard, PastDay}
use Rattle.routing.specs.declared.loading.Loaded.{Loaded}
use Rattle.routing.specs.Entries.{entry_of}
use Rattle.routing.specs.Grammar.{SaysNothing, SaysTwo}
use Rattle.routing.specs.Loading.{Skipped, Headed, Shard, Bad, is_headed, rate_in, with_head, with_shard, head_of, shard_at, shard_of, numbers_of, loaded_by, load_of}
use Rattle.routing.specs.Statements.{IsHead, IsShard, HeadLoaded, ShardLoaded}
use Rattle.routing.proofs.Spelt.{line_skipped, line_taken}

-- ---- rate and reel
module _ (rate reel : ℕ) where
  pub head-no-rate : is_rate rate ≡ false → Bad NoSuchRate ≡ head_of rate reel
  unfolding head_of
  head-no-rate e = rw e

  module _ (e : is_rate rate ≡ true) where
    pub head-no-reel : 4294967295 < reel → Bad NoSuchReel ≡ head_of rate reel
    unfolding head_of
    head-no-reel h = rw (e, lt-ltb 4294967295 reel h)

    pub head-some : reel ≤ 4294967295 → Headed (with_head rate reel) ≡ head_of rate reel
    unfolding head_of
    head-some h = rw (e, le-ltb 4294967295 reel h)

-- ---- a shard
module _ (rate : ℕ) (s : Loading) (first end : ℕ) where
  pub shard-many : 256 ≤ s.shards → Bad ManyShards ≡ shard_at rate s first end
  unfolding shard_at
  shard-many h = rw (le-leb 256 s.shards h)

  module _ (few : s.shards < 256) where
    pub shard-empty : end ≤ first → Bad EmptyShard ≡ shard_at rate s first end
    unfolding shard_at
    shard-empty h = rw (lt-leb 256 s.shards few, le-leb end first h)

    module _ (some : first < end) where
      pub shard-early : first < s.last → Bad EarlyShard ≡ shard_at rate s first end
      unfolding shard_at
      shard-early h = rw (lt-leb 256 s.shards few, lt-leb end first some, lt-ltb first s.last h)

      module _ (after : s.last ≤ first) where
        pub shard-past : day_frames rate < end → Bad PastDay ≡ shard_at rate s first end
        unfolding shard_at
        shard-past h =
            rw (lt-leb 256 s.shards few, lt-leb end first some, le-ltb first s.last after, lt-ltb (day_frames rate) end h)

        pub shard-some : end ≤ day_frames rate → Shard first end (with_shard s end) ≡ shard_at rate s first end
        unfolding shard_at
        shard-some h =
            rw (lt-leb 256 s.shards few, lt-leb end first some, le-ltb first s.last after, le-ltb (day_frames rate) end h)

-- ---- a line
pub line-over : (s : Loading) (line : List ℕ) (over : Bool) → over ≡ true → Bad TooLong ≡ load_of s line over
unfolding load_of
line-over s line over e = rw e

-- ---- what it tells that a line was taken
data HeadBy (rate reel : ℕ) : Result Loaded Flaw → Type 0 where
  head : is_rate rate ≡ true → reel ≤ 4294967295 → HeadBy rate reel (Headed (with_head rate reel))
  other : {f : _} → HeadBy rate reel (Bad f)

head-by : (rate reel : ℕ) → HeadBy rate reel (head_of rate reel)
unfolding head_of
head-by rate reel = by (is_rate rate) (ltb 4294967295 reel) refl refl
  where
    by : (x y : Bool) → is_rate rate ≡ x → ltb 4294967295 reel ≡ y
        → HeadBy rate reel (cond (not x) (Bad NoSuchRate) (cond y (Bad NoSuchReel) (Headed (with_head rate reel))))
    by false y p q = other
    by true true p q = other
    by true false p q = head p (ltb-false 4294967295 reel q)

pub record Fits (s : Loading) (first end : ℕ) : Type 0 where
  pub few : s.shards < 256
  pub some : first < end
  pub after : s.last ≤ first
  pub within : end ≤ day_frames (rate_in s)

data ShardBy (s : Loading) (first end : ℕ) : Result Loaded Flaw → Type 0 where
  shard : Fits s first end → ShardBy s first end (Shard first end (with_shard s end))
  other : {f : _} → ShardBy s first end (Bad f)

shard-by : (s : Loading) (first end : ℕ) → ShardBy s first end (shard_of s first end)
unfolding shard_at
shard-by s first end = by (leb 256 s.shards) (leb end first) (ltb first s.last) (ltb (day_frames (rate_in s)) end) refl refl refl refl
  where
    by : (w x y z : Bool) → leb 256 s.shards ≡ w → leb end first ≡ x → ltb first s.last ≡ y → ltb (day_frames (rate_in s)) end ≡ z
        → ShardBy s first end
        (cond w (Bad ManyShards) (cond x (Bad EmptyShard) (cond y (Bad EarlyShard) (cond z (Bad PastDay) (Shard first end (with_shard s end))))))
    by true x y z a b c d = other
    by false true y z a b c d = other
    by false false true z a b c d = other
    by false false false true a b c d = other
    by false false false false a b c d =
        shard (record {
          few = leb-false 256 s.shards a;
          some = leb-false end first b;
          after = ltb-false first s.last c;
          within = ltb-false (day_frames (rate_in s)) end d;
        })

-- a line of two numbers
pub two-load : (s : Loading) (line : List ℕ) (m n : ℕ) → SaysTwo line m n → load_of s line false ≡ numbers_of s m n
unfolding load_of
two-load s line m n k = ap (loaded_by s) ((line_taken line m n).0 k)

-- what a line told that was taken
pub data Told (s : Loading) (line : List ℕ) : Result Loaded Flaw → Type 0 where
  head : {rate reel : ℕ} → SaysTwo line rate reel → is_headed s ≡ false → is_rate rate ≡ true → reel ≤ 4294967295 → Told s line (Headed (with_head rate reel))
  shard : {first end : ℕ} → SaysTwo line first end → is_headed s ≡ true → Fits s first end → Told s line (Shard first end (with_shard s end))
  skipped : SaysNothing line → Told s line Skipped
  bad : {f : _} → Told s line (Bad f)

pub told : (s : Loading) (line : List ℕ) → Told s line (load_of s line false)
unfolding load_of
told s line = by (entry_of line) refl
  where
    headed : (m n : ℕ) → SaysTwo line m n → is_headed s ≡ false → {r : Result Loaded Flaw} → HeadBy m n r → Told s line r
    headed m n k e (head p q) = head k e p q
    headed m n k e other = bad

    sharded : (m n : ℕ) → SaysTwo line m n → is_headed s ≡ true → {r : Result Loaded Flaw} → ShardBy s m n r → Told s line r
    sharded m n k e (shard f) = shard k e f
    sharded m n k e other = bad

    numbers : (m n : ℕ) → SaysTwo line m n → (t : Bool) → is_headed s ≡ t → Told s line (cond t (shard_of s m n) (head_of m n))
    numbers m n k true e = sharded m n k e (shard-by s m n)
    numbers m n k false e = headed m n k e (head-by m n)

    by : (e : Result (Option Pair) Flaw) → entry_of line ≡ e → Told s line (loaded_by s e)
    by (Ok None) p = skipped ((line_skipped line).1 p)
    by (Ok (Some pair)) p = numbers pair.first pair.second ((line_taken line pair.first pair.second).1 p) (is_headed s) refl
    by (Err f) p = bad

-- ---- exactly
head-is : (s : Loading) (line : List ℕ) (t : Loading) {r : Result Loaded Flaw} → Told s line r → r ≡ Headed t → IsHead s line t
head-is s line t (head {rate = rate} {reel = reel} k e p q) f = record { rate = rate; reel = reel; says = k; none = e; rated = p; most = q; is = cc }
head-is s line t (shard k e p) f = let z : ◌≡◌ {A = ℕ} 0 1 = cc in absurd (omega arith)
head-is s line t (skipped n) f = let z : ◌≡◌ {A = ℕ} 0 1 = cc in absurd (omega arith)
head-is s line t bad f = let z : ◌≡◌ {A = ℕ} 0 1 = cc in absurd (omega arith)

pub head_loaded : HeadLoaded
head_loaded s line t = (to, head-is s line t (told s line))
  where
    to : IsHead s line t → load_of s line false ≡ Headed t
    to h =
        two-load s line h.rate h.reel h.says
        ∙ ap (λ b. cond b (shard_of s h.rate h.reel) (head_of h.rate h.reel)) h.none
        ∙ sym (head-some h.rate h.reel h.rated h.most)
        ∙ ap Headed (sym h.is)

shard-is : (s : Loading) (line : List ℕ) (first end : ℕ) (t : Loading) {r : Result Loaded Flaw} → Told s line r → r ≡ Shard first end t → IsShard s line first end t
shard-is s line first end t (shard {first = m} {end = n} k e p) f =
    let a : m ≡ first = cc in
    let b : n ≡ end = cc in
    let u : with_shard s n ≡ t = cc in
    record {
      says = subst (λ z. SaysTwo line z end) a (subst (λ z. SaysTwo line m z) b k);
      headed = e;
      few = p.few;
      some = omega (arith, p.some, a, b);
      after = omega (arith, p.after, a);
      within = omega (arith, p.within, b);
      is = sym u ∙ ap (with_shard s) b;
    }
shard-is s line first end t (head k e p q) f = let z : ◌≡◌ {A = ℕ} 0 1 = cc in absurd (omega arith)
shard-is s line first end t (skipped n) f = let z : ◌≡◌ {A = ℕ} 0 1 = cc in absurd (omega arith)
shard-is s line first end t bad f = let z : ◌≡◌ {A = ℕ} 0 1 = cc in absurd (omega arith)

pub shard_loaded : ShardLoaded
shard_loaded s line first end t = (to, shard-is s line first end t (told s line))
  where
    to : IsShard s line first end t → load_of s line false ≡ Shard first end t
    to h =
        two-load s line first end h.says
        ∙ ap (λ b. cond b (shard_of s first end) (head_of first end)) h.headed
        ∙ sym (shard-some (rate_in s) s first end h.few h.some h.after h.within)
        ∙ ap (Shard first end) (sym h.is)
