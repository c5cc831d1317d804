-- Texts laid down one behind the other are one text, also where the rest of the line is lent on for the next.
-- Assumes nothing.
use Prim.Native.Nat.{ℕ, ◌+◌, ◌-◌, ◌≤◌, ◌<◌}
use mathlib.Core.Path.{◌≡◌, refl, sym, ap, ◌∙◌}
use mathlib.Core.List.{List, [], ◌∷◌, ◌++◌, append_assoc, append-nil}
use mathlib.Core.Bool.{Bool, true, false}
use native.Mathlib.Omega.{arith}
use native.Mathlib.Nat.{add-zero, zero-add}
use lib.ListN.{length, take, drop, set, length-append, length-take, length-drop, drop_of_length-le, take-append-drop}
use lib.Seq.{take_all, drop-drop, take_at, drop_at, length-take-le}
use borrow.Author.Tests.{le-leb, lt-leb, leb-true, leb-false}
use borrow.Rule.Slice.PartMut.{put_mid, mid_of}
use Rattle.lent.specs.Line.{front, laid, splice, has_room, fits, line_after}

-- ---- a text at the front
-- no text changes nothing
pub front-nil : (l : List ℕ) → front l [] ≡ l
unfolding front
front-nil l = refl

-- a text laid down from the right: its last byte is set first
pub front-snoc : (l t : List ℕ) (b : ℕ) → length t < length l → front l (t ++ (b ∷ [])) ≡ front (set l (length t) b) t
unfolding front
front-snoc [] t b h = absurd (omega arith)
front-snoc (x ∷ l) [] b h = refl
front-snoc (x ∷ l) (y ∷ t) b h = ap (λ (z : List ℕ). y ∷ z) (front-snoc l t b (omega arith))

-- where the text has room, and where it has none
pub laid_in : (l text : List ℕ) → length text ≤ length l → laid l text ≡ front l text
unfolding laid
laid_in l text h = rw (le-leb (length text) (length l) h)

pub laid_out : (l text : List ℕ) → length l < length text → laid l text ≡ l
unfolding laid
laid_out l text h = rw (lt-leb (length text) (length l) h)

-- no text changes nothing
pub laid_nil : (l : List ℕ) → laid l [] ≡ l
laid_nil l = laid_in l [] (omega arith) ∙ front-nil l

-- at the front is from place 0
pub front-is : (l t : List ℕ) → front l t ≡ splice l 0 t
unfolding front splice
front-is l t = rw (zero-add (length t))

-- ---- a text from a place on
-- the line keeps its length
pub splice-length : (l t : List ℕ) (at : ℕ) → at + length t ≤ length l → length (splice l at t) ≡ length l
unfolding splice
splice-length l t at h = simp (length-append, length-drop, length-take) (omega arith)

pub front_length : (l t : List ℕ) → length t ≤ length l → length (front l t) ≡ length l
front_length l t h = ap length (front-is l t) ∙ splice-length l t 0 (omega arith)

-- no text at all changes nothing
pub splice-nil : (l : List ℕ) (k : ℕ) → splice l k [] ≡ l
unfolding splice
splice-nil l k = rw (add-zero k) (take-append-drop k l)

-- a text that was laid down stands there
pub splice-there : (l t : List ℕ) (at : ℕ) → at + length t ≤ length l → take (length t) (drop at (splice l at t)) ≡ t
unfolding splice
splice-there l t at h =
    let before : length (take at l) ≡ at = length-take-le at l (omega arith) in
    ap (take (length t)) (drop_at (take at l) (t ++ drop (at + length t) l) at before) ∙ take_at t (drop (at + length t) l) (length t) refl

-- a text, and then another right behind it, are the two as one text
pub splice-splice : (l t u : List ℕ) (at b : ℕ) → at + length t ≡ b → b + length u ≤ length l
    → splice (splice l at t) b u ≡ splice l at (t ++ u)
unfolding splice
splice-splice l t u at b e h =
    let before = take at l ++ t in
    let n : length before ≡ b = simp (length-append, length-take) (omega arith) in
    let whole : take at l ++ (t ++ drop (at + length t) l) ≡ before ++ drop b l = rw (e, append_assoc) in
    let behind : drop (b + length u) (before ++ drop b l) ≡ drop (b + length u) l =
    sym (drop-drop (length u) b (before ++ drop b l)) ∙ rw (drop_at before (drop b l) b n) (drop-drop (length u) b l) in
    let long : at + length (t ++ u) ≡ b + length u = simp length-append (omega arith) in
    rw (whole, take_at before (drop b l) b n, behind, long) (simp append_assoc)

-- ---- `callee(&mut l[a..])`: the part from a on is lent, and comes back as `last`
-- how long the part is
pub part_length : (l : List ℕ) (a : ℕ) → length (mid_of a (length l - a) l) ≡ length l - a
part_length l a = simp (length-take, length-drop) (omega arith)

-- a text that the callee lays down at the front of its part stands in the line from a on
pub lent : (l last t : List ℕ) (a : ℕ) → a ≤ length l → last ≡ front (mid_of a (length l - a) l) t
    → put_mid a (length l - a) l last ≡ splice l a t
unfolding front splice
lent l last t a h e =
    let part : take (length l - a) (drop a l) ≡ drop a l = take_all (length l - a) (drop a l) (omega (arith, length-drop a l)) in
    let none : drop (length l - a) (drop a l) ≡ [] = drop_of_length-le (drop a l) {i = length l - a} (omega (arith, length-drop a l)) in
    rw (e, part, none, append-nil, drop-drop)

-- the same where the line, m by now, has a text t from `at` on, which ends at b
pub lent-next : (l m last t u : List ℕ) (at b : ℕ) → m ≡ splice l at t → at + length t ≡ b → b + length u ≤ length l
    → last ≡ front (mid_of b (length m - b) m) u → put_mid b (length m - b) m last ≡ splice l at (t ++ u)
lent-next l m last t u at b p q h e =
    let n : length m ≡ length l = ap length p ∙ splice-length l t at (omega arith) in
    lent m last u b (omega arith) e ∙ ap (λ (x : List ℕ). splice x b u) p ∙ splice-splice l t u at b q h

-- and where t stands at the front
pub front-lent : (l m last t u : List ℕ) (b : ℕ) → m ≡ front l t → length t ≡ b → b + length u ≤ length l
    → last ≡ front (mid_of b (length m - b) m) u → put_mid b (length m - b) m last ≡ front l (t ++ u)
front-lent l m last t u b p q h e =
    lent-next l m last t u 0 b (p ∙ front-is l t) (omega arith) h e ∙ sym (front-is l (t ++ u))

-- field by field, each laying its text down and lending the rest on
pub laid-lent : (l m last t u : List ℕ) (b : ℕ) → m ≡ laid l t → b ≡ length t → length (t ++ u) ≤ length l
    → last ≡ laid (mid_of b (length m - b) m) u → put_mid b (length m - b) m last ≡ laid l (t ++ u)
laid-lent l m last t u b p q h e =
    let n = length-append t u in
    let f : m ≡ front l t = p ∙ laid_in l t (omega arith) in
    let k : length m ≡ length l = ap length f ∙ front_length l t (omega arith) in
    let g = e ∙ laid_in (mid_of b (length m - b) m) u (omega (arith, part_length m b)) in
    front-lent l m last t u b f (sym q) (omega arith) g ∙ sym (laid_in l (t ++ u) h)

-- three of them
pub laid-three : (l m last last₂ t u v : List ℕ) (b d : ℕ) → length (t ++ (u ++ v)) ≤ length l
    → m ≡ laid l t → b ≡ length t → last ≡ laid (mid_of b (length m - b) m) u
    → d ≡ b + length u → let n = put_mid b (length m - b) m last in last₂ ≡ laid (mid_of d (length n - d) n) v
    → put_mid d (length n - d) n last₂ ≡ laid l (t ++ (u ++ v))
laid-three l m last last₂ t u v b d h p q e r f =
    let a : length ((t ++ u) ++ v) ≤ length l = omega (arith, ap length (append_assoc t u v)) in
    let k = length-append (t ++ u) v in
    let two = laid-lent l m last t u b p q (omega arith) e in
    laid-lent l _ last₂ (t ++ u) v d two (omega (arith, length-append t u)) a f ∙ ap (laid l) (append_assoc t u v)

-- ---- room
module _ (line : List ℕ) (place : ℕ) (text : List ℕ) where
  -- from what `room` answered for a text of `need` bytes
  pub fits-yes : (need : ℕ) (r : Bool) → need ≡ length text → r ≡ has_room (length line) place need → r ≡ true
      → place + length text ≤ length line
  fits-yes need r e f g = omega (arith, leb-true (place + need) (length line) (sym f ∙ g))

  pub fits-no : (need : ℕ) (r : Bool) → need ≡ length text → r ≡ has_room (length line) place need → r ≡ false
      → length line < place + length text
  fits-no need r e f g = omega (arith, leb-false (place + need) (length line) (sym f ∙ g))

  -- a text that fits: the test of the answer, and the line
  pub fits-true : place + length text ≤ length line → fits line place text ≡ true
  fits-true h = le-leb (place + length text) (length line) h

  pub line-laid : place + length text ≤ length line → line_after line place text ≡ splice line place text
  unfolding line_after
  line-laid h = rw (fits-true h)

  -- the line after its rest from `place` on was lent, and came back as `last` with the text laid down at its front
  pub line-lent : (last : List ℕ) → place + length text ≤ length line → last ≡ laid (mid_of place (length line - place) line) text
      → put_mid place (length line - place) line last ≡ line_after line place text
  line-lent last h e =
      let part = mid_of place (length line - place) line in
      let f = e ∙ laid_in part text (omega (arith, part_length line place)) in
      lent line last text place (omega arith) f ∙ sym (line-laid h)

  -- one that does not
  pub fits-false : length line < place + length text → fits line place text ≡ false
  fits-false h = lt-leb (place + length text) (length line) h

  pub line_kept : length line < place + length text → line_after line place text ≡ line
  unfolding line_after
  line_kept h = rw (fits-false h)
