-- What it means that a contract determines its outcome: the result, and the last value of everything lent.
-- Assumes nothing.
use Rattle.std.specs.Prelude.{◌≡◌}
use contract.Lifetimes.{Lfts}
use denote.Triple.Entry.{Args, Res}
use denote.Triple.Clauses.{Ended, AtExit, Lasts, at_exit}

-- T is a function's `ended`: its signature, and which of its parameters are still the caller's at exit
module _ (T : Ended) where
  abbrev pub Times : Type 0
  Times = Lfts T.signature.lifetimes

  -- what a caller shows of the arguments
  abbrev pub Asks : Type 1
  Asks = (κs : Times) → Args T.signature κs → Type 0

  -- what a caller learns of the arguments, the result and the parameters at exit
  abbrev pub Tells : Type 1
  Tells = (κs : Times) → Args T.signature κs → Res T.signature κs → AtExit T κs → Type 0

  -- an outcome of a call with the arguments a: the result, and what each lent place holds at exit
  abbrev pub Outcome : (κs : Times) → Args T.signature κs → Type 0
  Outcome κs a = Res T.signature κs × Lasts T κs a

  -- the contract allows this outcome of a call with the arguments a
  abbrev pub Allowed : Tells → (κs : Times) (a : Args T.signature κs) → Outcome κs a → Type 0
  Allowed tells κs a x = tells κs a x.0 (at_exit T κs a x.1)

  -- every outcome that the contract allows is as is said of the arguments and of it
  abbrev pub Gives : Tells → ((κs : Times) (a : Args T.signature κs) → Outcome κs a → Type 0) → Type 0
  Gives tells says = (κs : Times) (a : Args T.signature κs) (x : Outcome κs a) → Allowed tells κs a x → says κs a x

  -- any two outcomes that the contract allows, of one call, are equal
  abbrev pub Determined : Asks → Tells → Type 0
  Determined asks tells =
      (κs : Times) (a : Args T.signature κs) → asks κs a
      → (x y : Outcome κs a) → Allowed tells κs a x → Allowed tells κs a y → x ≡ y
