-- A file is loaded exactly when its lines spell a directory that keeps the router's rules.
-- Assumes nothing.
use Rattle.std.specs.Prelude.{Result}
use Prim.Native.Nat.{ℕ, suc, ◌+◌, ◌≤◌, ◌<◌}
use mathlib.Core.Path.{◌≡◌, refl, sym, ap, subst, ◌∙◌}
use mathlib.Core.List.{List, [], ◌∷◌}
use mathlib.Core.Bool.{Bool, true, false, and-eq-true_iff}
use native.Mathlib.Omega.{arith}
use lib.Dec.{leb}
use lib.ListN.{length}
use borrow.Author.Tests.{le-leb, lt-leb, le-ltb}
use Rattle.rates.specs.Rates.{is_rate}
use Rattle.rates.specs.Day.{day_frames}
use Rattle.streams.specs.Gathering.{Kept}
use Rattle.router.specs.Directory.{Rules, in_order, is_directory}
use Rattle.router.specs.RuleLaws.{Ordered, rules-told, rules-pass}
use Rattle.router.specs.Tested.{directory_of}
use Rattle.routing.specs.declared.loading.Loading.{Loading}
use Rattle.routing.specs.declared.loading.Flaw.{Flaw}
use Rattle.routing.specs.declared.loading.Loaded.{Loaded}
use Rattle.routing.specs.Grammar.{SaysNothing, SpellsShards, no_shard, empty_line, shard_line, Spells, front_line, head_line}
use Rattle.routing.specs.Loading.{Skipped, Headed, Shard, is_headed, rate_in, reel_in, no_line, with_head, with_shard, loaded_by, load_of, Directory, whole, broken, with_one, behind_one, loaded_from}
use Rattle.routing.specs.Statements.{Loads, Right, FileLoaded, LoadedPasses}
use Rattle.routing.proofs.Spelt.{line_skipped}
use Rattle.routing.proofs.Taking.{Told, head, shard, skipped, bad, told, line-over, head_loaded, shard_loaded}

never : true ≡ false → ⊥
never e = let z : ◌≡◌ {A = ℕ} 0 1 = cc in omega arith

not-whole : (n : ℕ) {f : _} {t : Loading} {firsts ends : List ℕ} → broken n f ≡ whole t firsts ends → ⊥
not-whole n e = let z : ◌≡◌ {A = ℕ} 0 1 = cc in omega arith

-- a shard in front of the others
record Onward (first end : ℕ) (d : Directory) (t : Loading) (firsts ends : List ℕ) : Type 0 where
  firsts' : List ℕ
  ends' : List ℕ
  is : d ≡ whole t firsts' ends'
  firsts_are : firsts ≡ first ∷ firsts'
  ends_are : ends ≡ end ∷ ends'

onward : (first end : ℕ) (d : Directory) (t : Loading) (firsts ends : List ℕ) → with_one first end d ≡ whole t firsts ends → Onward first end d t firsts ends
onward first end (whole u gs hs) t firsts ends e =
    let v : u ≡ t = cc in record { firsts' = gs; ends' = hs; is = ap (λ z. whole z gs hs) v; firsts_are = cc; ends_are = cc }
onward first end (broken n f) t firsts ends e = absurd (not-whole n e)

-- ---- what it tells that shards were loaded
record Shards (s : Loading) (lines : List Kept) (t : Loading) (firsts ends : List ℕ) : Type 0 where
  spells : SpellsShards lines firsts ends
  order : in_order (day_frames (rate_in s)) s.last firsts ends ≡ true
  few : s.shards + length firsts ≤ 256
  headed : is_headed t ≡ true
  rate_is : rate_in t ≡ rate_in s
  reel_is : reel_in t ≡ reel_in s
  count : t.shards ≡ s.shards + length firsts

-- a line that is kept whole
line_of : (before : ℕ) (s : Loading) (k : Kept) (others : Loading → Directory) (t : Loading) (firsts ends : List ℕ)
    → behind_one before s others (load_of s k.bytes k.over) ≡ whole t firsts ends
    → (k.over ≡ false) × (behind_one before s others (load_of s k.bytes false) ≡ whole t firsts ends)
line_of before s k others t firsts ends e = by k.over refl e
  where
    by : (o : Bool) → k.over ≡ o → behind_one before s others (load_of s k.bytes o) ≡ whole t firsts ends
        → (k.over ≡ false) × (behind_one before s others (load_of s k.bytes false) ≡ whole t firsts ends)
    by true p f = absurd (not-whole before (ap (behind_one before s others) (line-over s k.bytes true refl) ∙ f))
    by false p f = (p, f)

ordered-more : (day low first end : ℕ) (firsts ends : List ℕ) → low ≤ first → first < end → end ≤ day → in_order day end firsts ends ≡ true
    → in_order day low (first ∷ firsts) (end ∷ ends) ≡ true
unfolding in_order
ordered-more day low first end firsts ends a b c r = rw (le-ltb first low a, lt-leb end first b, le-ltb day end c) r

shards : (before : ℕ) (s : Loading) (lines : List Kept) (t : Loading) (firsts ends : List ℕ) → is_headed s ≡ true → s.shards ≤ 256
    → loaded_from before s lines ≡ whole t firsts ends → Shards s lines t firsts ends
unfolding loaded_from in_order
shards before s [] t [] [] h m e =
    let v : s ≡ t = cc in
    record {
      spells = no_shard;
      order = refl;
      few = omega (arith, m);
      headed = ap (λ (z : Loading). is_headed z) (sym v) ∙ h;
      rate_is = ap (λ (z : Loading). rate_in z) (sym v);
      reel_is = ap (λ (z : Loading). reel_in z) (sym v);
      count = omega (arith, ap (λ (z : Loading). z.shards) v);
    }
shards before s [] t [] (b ∷ ends) h m e = let z : ◌≡◌ {A = ℕ} 0 1 = cc in absurd (omega arith)
shards before s [] t (a ∷ firsts) ends h m e = let z : ◌≡◌ {A = ℕ} 0 1 = cc in absurd (omega arith)
shards before s (k ∷ lines) t firsts ends h m e =
    let q = line_of before s k (λ u. loaded_from (before + 1) u lines) t firsts ends e in
    by (λ u. shards (before + 1) u lines) (told s k.bytes) q.0 q.1
  where
    by : ((u : Loading) (t : Loading) (firsts ends : List ℕ) → is_headed u ≡ true → u.shards ≤ 256
        → loaded_from (before + 1) u lines ≡ whole t firsts ends → Shards u lines t firsts ends)
        → {r : Result Loaded Flaw} → Told s k.bytes r → k.over ≡ false
        → behind_one before s (λ u. loaded_from (before + 1) u lines) r ≡ whole t firsts ends → Shards s (k ∷ lines) t firsts ends
    by rec (head n f p q) o e = absurd (never (sym h ∙ f))
    by rec (skipped n) o e =
        let r = rec s t firsts ends h m e in
        record { spells = empty_line o n r.spells; order = r.order; few = r.few; headed = r.headed; rate_is = r.rate_is; reel_is = r.reel_is; count = r.count }
    by rec (shard {first = first} {end = end} n f p) o e =
        let w = onward first end (loaded_from (before + 1) (with_shard s end) lines) t firsts ends e in
        let r = rec (with_shard s end) t w.firsts' w.ends' h (omega (arith, p.few)) w.is in
        let long : length firsts ≡ suc (length w.firsts') = ap length w.firsts_are in
        record {
          spells = subst (λ z. SpellsShards (k ∷ lines) z ends) (sym w.firsts_are)
              (subst (λ z. SpellsShards (k ∷ lines) (first ∷ w.firsts') z) (sym w.ends_are) (shard_line o n r.spells));
          order = ap (λ z. in_order (day_frames (rate_in s)) s.last z ends) w.firsts_are
              ∙ ap (in_order (day_frames (rate_in s)) s.last (first ∷ w.firsts')) w.ends_are
              ∙ ordered-more (day_frames (rate_in s)) s.last first end w.firsts' w.ends' p.after p.some p.within r.order;
          few = omega (arith, r.few, long);
          headed = r.headed;
          rate_is = r.rate_is;
          reel_is = r.reel_is;
          count = omega (arith, r.count, long);
        }
    by rec bad o e = absurd (not-whole before e)

-- ---- and that rate and reel were
record Loaded' (lines : List Kept) (t : Loading) (firsts ends : List ℕ) : Type 0 where
  spells : Spells lines (rate_in t) (reel_in t) firsts ends
  rated : is_rate (rate_in t) ≡ true
  most : (reel_in t) ≤ 4294967295
  rules : Rules (day_frames (rate_in t)) firsts ends

rules-of : (day : ℕ) (firsts ends : List ℕ) → length firsts ≤ 256 → in_order day 0 firsts ends ≡ true → Rules day firsts ends
unfolding is_directory
rules-of day firsts ends h e =
    rules-told day firsts ends ((and-eq-true_iff (leb (length firsts) 256) (in_order day 0 firsts ends)).1 (le-leb (length firsts) 256 h, e))

file : (before : ℕ) (s : Loading) (lines : List Kept) (t : Loading) (firsts ends : List ℕ) → is_headed s ≡ false → is_headed t ≡ true
    → loaded_from before s lines ≡ whole t firsts ends → Loaded' lines t firsts ends
unfolding loaded_from
file before s [] t firsts ends h g e =
    let v : s ≡ t = cc in absurd (never (sym g ∙ ap (λ (z : Loading). is_headed z) (sym v) ∙ h))
file before s (k ∷ lines) t firsts ends h g e =
    let q = line_of before s k (λ u. loaded_from (before + 1) u lines) t firsts ends e in
    by (λ x. file (before + 1) s lines t firsts ends h g x) (told s k.bytes) q.0 q.1
  where
    by : (loaded_from (before + 1) s lines ≡ whole t firsts ends → Loaded' lines t firsts ends)
        → {r : Result Loaded Flaw} → Told s k.bytes r → k.over ≡ false
        → behind_one before s (λ u. loaded_from (before + 1) u lines) r ≡ whole t firsts ends → Loaded' (k ∷ lines) t firsts ends
    by rec (head {rate = rate} {reel = reel} n f p q) o e =
        let r = shards (before + 1) (with_head rate reel) lines t firsts ends refl (omega arith) e in
        let a : (rate_in t) ≡ rate = r.rate_is in
        let b : (reel_in t) ≡ reel = r.reel_is in
        record {
          spells = subst (λ z. Spells (k ∷ lines) z (reel_in t) firsts ends) (sym a)
              (subst (λ z. Spells (k ∷ lines) rate z firsts ends) (sym b) (head_line o n r.spells));
          rated = ap is_rate a ∙ p;
          most = omega (arith, b, q);
          rules = subst (λ z. Rules (day_frames z) firsts ends) (sym a) (rules-of (day_frames rate) firsts ends (omega (arith, r.few)) r.order);
        }
    by rec (skipped n) o e =
        let r = rec e in
        record { spells = front_line o n r.spells; rated = r.rated; most = r.most; rules = r.rules }
    by rec (shard n f p) o e = absurd (never (sym f ∙ h))
    by rec bad o e = absurd (not-whole before e)

right : (lines : List Kept) (rate reel : ℕ) (firsts ends : List ℕ) → Loads lines rate reel firsts ends → Right lines rate reel firsts ends
right lines rate reel firsts ends l =
    let r = file 0 no_line lines l.state firsts ends refl l.headed l.is in
    record {
      spells = subst (λ z. Spells lines z reel firsts ends) l.rate_is (subst (λ z. Spells lines (rate_in l.state) z firsts ends) l.reel_is r.spells);
      rated = ap is_rate (sym l.rate_is) ∙ r.rated;
      most = omega (arith, l.reel_is, r.most);
      rules = subst (λ z. Rules (day_frames z) firsts ends) l.rate_is r.rules;
    }

-- ---- and back: what is right is loaded
record Done (before : ℕ) (s : Loading) (lines : List Kept) (firsts ends : List ℕ) : Type 0 where
  state : Loading
  is : loaded_from before s lines ≡ whole state firsts ends
  headed : is_headed state ≡ true
  rate_is : rate_in state ≡ rate_in s
  reel_is : reel_in state ≡ reel_in s
  count : state.shards ≡ s.shards + length firsts

nothing-load : (s : Loading) (k : Kept) → k.over ≡ false → SaysNothing k.bytes → load_of s k.bytes k.over ≡ Skipped
unfolding load_of
nothing-load s k o n = rw o (ap (loaded_by s) ((line_skipped k.bytes).0 n))

done : (before : ℕ) (s : Loading) (lines : List Kept) (firsts ends : List ℕ) → is_headed s ≡ true → s.shards + length firsts ≤ 256
    → SpellsShards lines firsts ends → Ordered (day_frames (rate_in s)) s.last firsts ends → Done before s lines firsts ends
unfolding loaded_from
done before s lines firsts ends h m no_shard r =
    record { state = s; is = refl; headed = h; rate_is = refl; reel_is = refl; count = omega arith }
done before s lines firsts ends h m (empty_line {k = k} {lines = others} o n p) r =
    let d = done (before + 1) s others firsts ends h m p r in
    record {
      state = d.state;
      is = ap (behind_one before s (λ u. loaded_from (before + 1) u others)) (nothing-load s k o n) ∙ d.is;
      headed = d.headed;
      rate_is = d.rate_is;
      reel_is = d.reel_is;
      count = d.count;
    }
done before s lines firsts ends h m (shard_line {k = k} {lines = others} {first = first} {end = end} {firsts = fs} {ends = es} o n p) r =
    let load : load_of s k.bytes k.over ≡ Shard first end (with_shard s end) =
    ap (load_of s k.bytes) o
    ∙ (shard_loaded s k.bytes first end (with_shard s end)).0 (record {
      says = n;
      headed = h;
      few = omega arith;
      some = r.some 0 (omega arith);
      after = r.above 0 (omega arith);
      within = r.within 0 (omega arith);
      is = refl;
    }) in
    let rest : Ordered (day_frames (rate_in s)) end fs es = record {
      paired = omega (arith, r.paired);
      above = λ i q. r.apart 0 (suc i) (omega arith) (omega arith);
      some = λ i q. r.some (suc i) (omega arith);
      apart = λ i j a q. r.apart (suc i) (suc j) (omega arith) (omega arith);
      within = λ i q. r.within (suc i) (omega arith);
    } in
    let d = done (before + 1) (with_shard s end) others fs es h (omega arith) p rest in
    record {
      state = d.state;
      is = ap (behind_one before s (λ u. loaded_from (before + 1) u others)) load ∙ ap (with_one first end) d.is;
      headed = d.headed;
      rate_is = d.rate_is;
      reel_is = d.reel_is;
      count = omega (arith, d.count);
    }

record Whole (before : ℕ) (s : Loading) (lines : List Kept) (rate reel : ℕ) (firsts ends : List ℕ) : Type 0 where
  state : Loading
  is : loaded_from before s lines ≡ whole state firsts ends
  headed : is_headed state ≡ true
  rate_is : rate_in state ≡ rate
  reel_is : reel_in state ≡ reel
  count : state.shards ≡ length firsts

all : (before : ℕ) (s : Loading) (lines : List Kept) (rate reel : ℕ) (firsts ends : List ℕ) → is_headed s ≡ false → is_rate rate ≡ true → reel ≤ 4294967295
    → Rules (day_frames rate) firsts ends → Spells lines rate reel firsts ends → Whole before s lines rate reel firsts ends
unfolding loaded_from
all before s lines rate reel firsts ends h p q r (front_line {k = k} {lines = others} o n w) =
    let d = all (before + 1) s others rate reel firsts ends h p q r w in
    record {
      state = d.state;
      is = ap (behind_one before s (λ u. loaded_from (before + 1) u others)) (nothing-load s k o n) ∙ d.is;
      headed = d.headed;
      rate_is = d.rate_is;
      reel_is = d.reel_is;
      count = d.count;
    }
all before s lines rate reel firsts ends h p q r (head_line {k = k} {lines = others} o n w) =
    let load : load_of s k.bytes k.over ≡ Headed (with_head rate reel) =
    ap (load_of s k.bytes) o
    ∙ (head_loaded s k.bytes (with_head rate reel)).0
    (record { rate = rate; reel = reel; says = n; none = h; rated = p; most = q; is = refl }) in
    let rest : Ordered (day_frames rate) 0 firsts ends =
    record { paired = r.paired; above = λ i a. omega arith; some = r.some; apart = r.apart; within = r.within } in
    let d = done (before + 1) (with_head rate reel) others firsts ends refl (omega (arith, r.few)) w rest in
    record {
      state = d.state;
      is = ap (behind_one before s (λ u. loaded_from (before + 1) u others)) load ∙ d.is;
      headed = d.headed;
      rate_is = d.rate_is;
      reel_is = d.reel_is;
      count = omega (arith, d.count);
    }

loads : (lines : List Kept) (rate reel : ℕ) (firsts ends : List ℕ) → Right lines rate reel firsts ends → Loads lines rate reel firsts ends
loads lines rate reel firsts ends r =
    let d = all 0 no_line lines rate reel firsts ends refl r.rated r.most r.rules r.spells in
    record { state = d.state; is = d.is; headed = d.headed; rate_is = d.rate_is; reel_is = d.reel_is; count = d.count }

pub file_loaded : FileLoaded
file_loaded lines rate reel firsts ends = (right lines rate reel firsts ends, loads lines rate reel firsts ends)

-- ---- the router's test
pub loaded_passes : LoadedPasses
unfolding directory_of
loaded_passes lines rate reel firsts ends l =
    let r = right lines rate reel firsts ends l in
    rw (r.rated, rules-pass (day_frames rate) firsts ends r.rules)
