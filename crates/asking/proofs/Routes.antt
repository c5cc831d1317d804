-- The shards of a word are listed exactly, and a line asks `route` exactly when it is made so.
-- Assumes nothing.
use Prim.Native.Nat.{ℕ, ◌+◌, ◌≤◌}
use mathlib.Core.Path.{◌≡◌, refl, sym, ap, subst, ◌∙◌}
use mathlib.Core.Logic.{◌⊎◌, inl, inr}
use mathlib.Core.List.{List, [], ◌∷◌, ◌++◌, map, append-nil}
use mathlib.Core.Bool.{true, false, ◌&&◌, and-eq-true_iff}
use native.Mathlib.Omega.{arith}
use lib.Dec.{leb}
use lib.IntN.{ℤ, pos}
use lib.ListN.{length, drop, length-map}
use borrow.Author.Tests.{le-leb, leb-true}
use Rattle.numbers.specs.Sign.{up_from}
use Rattle.digits.specs.Digits.{digit_first}
use Rattle.laws.specs.Spelt.{spelt}
use Rattle.asking.specs.declared.words.Value.{Value}
use Rattle.asking.specs.Table.{rows, row_at, is_over}
use Rattle.asking.specs.Asked.{value, is_last, is_shards, is_in_range, asked_of}
use Rattle.asking.specs.ShardWords.{spelled_of, shards_of}
use Rattle.asking.specs.Grammar.{Numeral, ShardsText, Behind, own, number, marked, unstated, shards, Asks, asks}
use Rattle.asking.specs.Grammar as grammar
use Rattle.asking.specs.Statements.{placed_from}
use Rattle.asking.specs.RouteStatements.{SpeltAt, listed_shards, AreShards, ShardsExactly}
use Rattle.asking.specs.RouteStatements.{RouteLine, no_text, text, asked_route, IsRoute, RouteUnderstood}
use Rattle.asking.proofs.Placed.{placed-front}
use Rattle.asking.proofs.Numerals.{signed-left}
use Rattle.asking.proofs.ShardTexts.{true-false, byte-on, spelled_as, spelled-read, spelled-told, shards-few}
use Rattle.asking.proofs.Understanding.{understood}
use Rattle.asking.proofs.Told.{only_understood}

-- ---- the shards of a word
module _ (line : List ℕ) (at : ℕ) (firsts ends : List ℕ) where
  -- numbers, each as one from 0 on, at a list's front
  fronted : (zs : List ℤ) (list : List ℕ) → length zs ≤ length list → placed_from 0 list (map up_from zs) ≡ map up_from zs ++ drop (length zs) list
  fronted zs list h =
      let n = length-map zs up_from in
      placed-front (map up_from zs) list (omega (arith, n)) ∙ ap (λ k. map up_from zs ++ drop k list) n

  -- what is spelt, where both lists have room for it
  listed-as : (next : ℕ) (ys zs : List ℤ) → spelled_of line at firsts ends ≡ spelled_as next firsts ends ys zs → length ys ≡ length zs
      → length ys ≤ length firsts → length ys ≤ length ends → shards_of line at firsts ends ≡ listed_shards ys zs firsts ends
  unfolding shards_of
  listed-as next ys zs e k f g =
      let h : length zs ≤ length ends = omega arith in
      rw (e, le-leb (length ys) (length firsts) f, le-leb (length ys) (length ends) g, fronted ys firsts f, fronted zs ends h)

  shards-there : (ys zs : List ℤ) → SpeltAt line at ys zs → length ys ≤ length firsts → length ys ≤ length ends
      → shards_of line at firsts ends ≡ listed_shards ys zs firsts ends
  shards-there ys zs s f g =
      listed-as (at + length s.word) ys zs (spelled-read line at firsts ends s.spells s.rest s.is s.over) (shards-few s.spells).0 f g

  -- what `all` says
  all_told : (shards_of line at firsts ends).listed.all ≡ true
      → let s = (spelled_of line at firsts ends).ranged in
      (s.well ≡ true) × ((s.count ≤ length firsts) × (s.count ≤ length ends))
  unfolding shards_of
  all_told e =
      let s = (spelled_of line at firsts ends).ranged in
      let p = (and-eq-true_iff s.well (leb s.count (length firsts) && leb s.count (length ends))).0 e in
      let q = (and-eq-true_iff (leb s.count (length firsts)) (leb s.count (length ends))).0 p.1 in
      (p.0, (leb-true s.count (length firsts) q.0, leb-true s.count (length ends) q.1))

  shards-back : (shards_of line at firsts ends).listed.all ≡ true → AreShards line at firsts ends
  shards-back e =
      let a = all_told e in
      let t = spelled-told line at firsts ends a.0 in
      let k = (shards-few t.text).0 in
      let count : (spelled_of line at firsts ends).ranged.count ≡ length t.ys = ap (λ z. z.ranged.count) t.read in
      let f : length t.ys ≤ length firsts = omega (arith, a.1.0, count) in
      let g : length t.ys ≤ length ends = omega (arith, a.1.1, count) in
      record {
        ys = t.ys;
        zs = t.zs;
        spelt_at = record { word = t.w; rest = t.l; is = t.is; over = t.over; spells = t.text };
        firsts_room = f;
        ends_room = g;
        is = listed-as (at + length t.w) t.ys t.zs t.read k f g;
      }

pub shards_exactly : ShardsExactly
shards_exactly line at firsts ends = (shards-there line at firsts ends, shards-back line at firsts ends)

-- ---- a line that is made so asks `route`
abbrev route_values : (rate : ℤ) (place : ℕ) (frames : ℤ) → List Value
route_values y p z = value y false ∷ value (pos p) false ∷ value z false ∷ []

module _ (d w e : List ℕ) (y z : ℤ) (ys zs : List ℤ) (f : Numeral d y) (s : ShardsText w ys zs) (g : Numeral e z) where
  -- with what stands behind LENGTH
  asks-route : (u r : List ℕ) → digit_first u ≡ false → Behind (5 + 1 + length d + 1 + length w + 1 + length e) (116 ∷ []) u [] r
      → Asks (spelt "route " ++ (d ++ (32 ∷ w ++ (32 ∷ e ++ u)))) 28 (route_values y (7 + length d) z) r
  unfolding rows is_in_range is_over
  asks-route u r h b =
      let p : 5 + 1 + length d + 1 ≡ 7 + length d = omega arith in
      subst (λ x. Asks (spelt "route " ++ (d ++ (32 ∷ w ++ (32 ∷ e ++ u)))) 28 (route_values y x z) r) p
      (asks {n = 28} (omega arith) (number refl refl f refl refl (shards s refl (number refl refl g refl h b))))

  spelt-there : (u : List ℕ) → is_over u ≡ true → SpeltAt (spelt "route " ++ (d ++ (32 ∷ w ++ u))) (7 + length d) ys zs
  spelt-there u o =
      let line = spelt "route " ++ (d ++ (32 ∷ w ++ u)) in
      let p : 6 + length d + 1 ≡ 7 + length d = omega arith in
      record {
        word = w;
        rest = u;
        is = ap (λ x. drop x line) (sym p) ∙ byte-on line (6 + length d) 32 (w ++ u) (signed-left line 6 d (32 ∷ w ++ u) refl);
        over = o;
        spells = s;
      }

record RouteMade (line : List ℕ) (rate : ℤ) (place : ℕ) (firsts ends : List ℤ) (frames : ℤ) (t : List ℕ) : Type 0 where
  asked_so : Asks line 28 (route_values rate place frames) t
  spelt_so : SpeltAt line place firsts ends

route-made : {line : List ℕ} {y : ℤ} {p : ℕ} {ys zs : List ℤ} {z : ℤ} {t : List ℕ} → RouteLine line y p ys zs z t → RouteMade line y p ys zs z t
unfolding is_over
route-made (no_text {d} {w} {e} {y} {z} {ys} {zs} f s g) = record {
  asked_so =
      subst (λ x. Asks (spelt "route " ++ (d ++ (32 ∷ w ++ (32 ∷ x)))) 28 (route_values y (7 + length d) z) []) (append-nil e)
      (asks-route d w e y z ys zs f s g [] [] refl grammar.no_text);
  spelt_so = spelt-there d w e y z ys zs f s g (32 ∷ e) refl;
}
route-made (text {d} {w} {e} {t} {y} {z} {ys} {zs} f s g) = record {
  asked_so = asks-route d w e y z ys zs f s g (32 ∷ t) t refl grammar.text;
  spelt_so = spelt-there d w e y z ys zs f s g (32 ∷ e ++ (32 ∷ t)) refl;
}

route-there : (line : List ℕ) (rate : ℤ) (place : ℕ) (firsts ends : List ℤ) (frames : ℤ) (t : List ℕ) (begins : ℕ)
    → RouteLine line rate place firsts ends frames t → begins + length t ≡ length line
    → (asked_of line ≡ asked_route rate place frames begins) × SpeltAt line place firsts ends
unfolding placed_from
route-there line rate place firsts ends frames t begins r e =
    let m = route-made r in
    (understood line 28 (route_values rate place frames) t begins m.asked_so e, m.spelt_so)

-- ---- and a line that asks it is made so: word by word, by the letters of its row
record NumberFirst (at : ℕ) (letters t : List ℕ) (vs : List Value) (r : List ℕ) : Type 0 where
  d : List ℕ
  l : List ℕ
  z : ℤ
  us : List Value
  is : t ≡ 32 ∷ d ++ l
  values_are : vs ≡ value z false ∷ us
  numeral : Numeral d z
  behind : Behind (at + 1 + length d) letters l us r

number-first : {at x : ℕ} {letters t : List ℕ} {vs : List Value} {r : List ℕ} → Behind at (x ∷ letters) t vs r → is_last x ≡ false
    → is_shards x ≡ false → (x ≡ 64 → ⊥) → (x ≡ 102 → ⊥) → NumberFirst at letters t vs r
number-first grammar.no_text i s p q = absurd (true-false i)
number-first grammar.text i s p q = absurd (true-false i)
number-first own i s p q = absurd (true-false i)
number-first (number {at} {kind} {letters} {d} {l} {z} {vs} {r} a b f c g h) i s p q =
    record { d = d; l = l; z = z; us = vs; is = refl; values_are = refl; numeral = f; behind = h }
number-first (marked f g h) i s p q = absurd (p refl)
number-first (unstated f g) i s p q = absurd (q refl)
number-first (shards f g h) i s p q = absurd (true-false s)

record ShardsFirst (at : ℕ) (letters t : List ℕ) (vs : List Value) (r : List ℕ) : Type 0 where
  w : List ℕ
  l : List ℕ
  ys : List ℤ
  zs : List ℤ
  us : List Value
  is : t ≡ 32 ∷ w ++ l
  values_are : vs ≡ value (pos (at + 1)) false ∷ us
  spells : ShardsText w ys zs
  behind : Behind (at + 1 + length w) letters l us r

shards-first : {at x : ℕ} {letters t : List ℕ} {vs : List Value} {r : List ℕ} → Behind at (x ∷ letters) t vs r → x ≡ 115
    → ShardsFirst at letters t vs r
shards-first grammar.no_text e = absurd (omega (arith, e))
shards-first grammar.text e = absurd (omega (arith, e))
shards-first own e = absurd (omega (arith, e))
shards-first (number a b f c g h) e = absurd (true-false (sym (ap is_shards e) ∙ b))
shards-first (marked f g h) e = absurd (omega (arith, e))
shards-first (unstated f g) e = absurd (omega (arith, e))
shards-first (shards {at} {letters} {w} {l} {ys} {zs} {vs} {r} f g h) e =
    record { w = w; l = l; ys = ys; zs = zs; us = vs; is = refl; values_are = refl; spells = f; behind = h }

text-last : {at x : ℕ} {t : List ℕ} {vs : List Value} {r : List ℕ} → Behind at (x ∷ []) t vs r → x ≡ 116
    → (vs ≡ []) × (((t ≡ []) × (r ≡ [])) ⊎ (t ≡ 32 ∷ r))
text-last grammar.no_text e = (refl, inl (refl, refl))
text-last grammar.text e = (refl, inr refl)
text-last own e = absurd (omega (arith, e))
text-last (number a b f c g h) e = absurd (true-false (sym (ap is_last e) ∙ a))
text-last (marked f g h) e = absurd (omega (arith, e))
text-last (unstated f g) e = absurd (omega (arith, e))
text-last (shards f g h) e = absurd (omega (arith, e))

record RouteTold (line r : List ℕ) : Type 0 where
  rate : ℤ
  place : ℕ
  firsts : List ℤ
  ends : List ℤ
  frames : ℤ
  made : RouteLine line rate place firsts ends frames r

letters-told : (t : List ℕ) (vs : List Value) (r : List ℕ) → Behind 5 (spelt "rsnt") t vs r → RouteTold (spelt "route" ++ t) r
letters-told t vs r b =
    let a = number-first b refl refl (λ e. omega (arith, e)) (λ e. omega (arith, e)) in
    let s = shards-first a.behind refl in
    let c = number-first s.behind refl refl (λ e. omega (arith, e)) (λ e. omega (arith, e)) in
    let whole : spelt "route" ++ t ≡ spelt "route " ++ (a.d ++ (32 ∷ s.w ++ (32 ∷ c.d ++ c.l))) =
    ap (λ x. spelt "route" ++ x) (a.is ∙ ap (λ x. 32 ∷ a.d ++ x) (s.is ∙ ap (λ x. 32 ∷ s.w ++ x) c.is)) in
    record {
      rate = a.z;
      place = 7 + length a.d;
      firsts = s.ys;
      ends = s.zs;
      frames = c.z;
      made =
          subst (λ x. RouteLine x a.z (7 + length a.d) s.ys s.zs c.z r) (sym whole)
          (by a.d s.w c.d a.z c.z s.ys s.zs a.numeral s.spells c.numeral c.l (text-last c.behind refl).1);
    }
  where
    by : (d w e : List ℕ) (y z : ℤ) (ys zs : List ℤ) → Numeral d y → ShardsText w ys zs → Numeral e z → (u : List ℕ)
        → ((u ≡ []) × (r ≡ [])) ⊎ (u ≡ 32 ∷ r)
        → RouteLine (spelt "route " ++ (d ++ (32 ∷ w ++ (32 ∷ e ++ u)))) y (7 + length d) ys zs z r
    by d w e y z ys zs f s g u (inl k) = rw (k.0, k.1, append-nil e) (no_text f s g)
    by d w e y z ys zs f s g u (inr k) = rw k (text f s g)

route-told : {line : List ℕ} {n : ℕ} {vs : List Value} {r : List ℕ} → Asks line n vs r → n ≡ 28 → RouteTold line r
unfolding rows
route-told (asks {n} {t} {r} {vs} h b) e =
    subst (λ k. RouteTold ((row_at k).name ++ t) r) (sym e)
    (letters-told t vs r (subst (λ k. Behind (length (row_at k).name) (row_at k).letters t vs r) e b))

route-back : (line : List ℕ) → (asked_of line).row ≡ 28 → IsRoute line
route-back line e =
    let a = only_understood line (omega (arith, e)) in
    let t = route-told a.asks e in
    record {
      rate = t.rate;
      place = t.place;
      firsts = t.firsts;
      ends = t.ends;
      frames = t.frames;
      text = a.rest;
      begins = (asked_of line).rest;
      made = t.made;
      text_at = a.begins;
      is = (route-there line t.rate t.place t.firsts t.ends t.frames a.rest (asked_of line).rest t.made a.begins).0;
    }

pub route_understood : RouteUnderstood
route_understood line = (route-there line, route-back line)
