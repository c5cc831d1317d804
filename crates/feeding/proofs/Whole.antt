-- The whole, tied to the contracts of the code: calls of `feed`, one a chunk, and then one of `finish`, each with what its contract allows.
-- Assumes nothing.
use Prim.Native.Nat.{ℕ, ◌≤◌}
use mathlib.Core.Path.{◌≡◌, refl, sym, ap, subst, ◌∙◌}
use mathlib.Core.List.{List, [], ◌++◌}
use lib.ListN.{length, take}
use denote.Param.Laws.{Laws}
use denote.RattleType.{RattleType}
use denote.Triple.Entry.{Args}
use mir.Syntax.{Dict}
use Rattle.outcomes.specs.Outcome.{Times, Outcome, Allowed}
use Rattle.lines.specs.Output.{answer_text}
use Rattle.streams.specs.declared.gathered.Gathered.{Gathered}
use Rattle.streams.specs.Lines.{Lines}
use Rattle.streams.specs.Parting.{each}
use Rattle.streams.specs.Gathering.{no_byte}
use Rattle.streams.specs.declared.sheets.Page.{Ghosts}
use Rattle.streams.specs.Sheet.{Sheet, lent_by, text_on}
use Rattle.feeding.specs.declared.Fed.{Fed}
use Rattle.feeding.specs.Feeding.{After, fed_of, fed_at, fed_answer}
use Rattle.feeding.specs.Statements.{Writes, ends, goes}
use Rattle.feeding.proofs.Following.{lent_after}
use Rattle.feeding.proofs.Statements.{answered}
use Rattle.feeding.specs.contracts.feed as feed
use Rattle.feeding.proofs.feed.Reads as feed-reads
use Rattle.feeding.specs.contracts.finish as finish
use Rattle.feeding.proofs.finish.Reads as finish-reads

module _ (P : RattleType) (laws : Laws P) (page : Ghosts P.Denot) (code : Dict) where
  -- from a buffer, a sheet and what is gathered, through calls whose chunks are this input, this is written: after each call the sheet's
  -- used bytes; bytes of a chunk that were not taken come again
  pub data Flow : (buffer out : List ℕ) → Gathered → (input text : List ℕ) → Type 0 where
    last : (κs : Times (finish.ended P page code)) (a : Args (finish.ended P page code).signature κs) (x : Outcome (finish.ended P page code) κs a)
        → Allowed (finish.ended P page code) (finish-reads.Learnt P laws page code) κs a x
        → Flow a.0.now (page.seen a.1.0.now).bytes a.1.1.0 [] (text_on (page.seen x.1.1.0))
    fed : (κs : Times (feed.ended P page code)) (a : Args (feed.ended P page code).signature κs) (x : Outcome (feed.ended P page code) κs a) (input text : List ℕ)
        → Allowed (feed.ended P page code) (feed-reads.Learnt P laws page code) κs a x
        → Flow x.1.1.0 (page.seen x.1.1.1.0).bytes x.0.gathered input text
        → Flow a.1.0.now (page.seen a.1.1.0.now).bytes a.1.1.1.0 (take x.0.eaten a.0.now ++ input) (text_on (page.seen x.1.1.1.0) ++ text)

  -- the three equations of `feed` are one of what is kept
  fed-is : (f : Fed) (buffer : List ℕ) (s : Sheet) (lender : List ℕ) (e : After)
      → (f ≡ fed_answer e) × ((buffer ≡ e.machine.buffer) × (s ≡ lent_by lender e.machine.sheet))
      → fed_at buffer s f ≡ lent_after lender e
  fed-is f buffer s lender e p =
      ap (fed_at buffer s) p.0
      ∙ ap (λ z. fed_at z s (fed_answer e)) p.1.0
      ∙ ap (λ z. fed_at e.machine.buffer z (fed_answer e)) p.1.1

  -- so what is written from there is written from here
  goes-on : (buffer out chunk input text : List ℕ) (g : Gathered) (lender : List ℕ) (f : After)
      → let e = fed_of buffer out g chunk in
      f ≡ lent_after lender e
      → Writes f.machine.buffer f.machine.sheet.bytes f.machine.gathered input text
      → Writes buffer out g (take f.eaten chunk ++ input) (text_on f.machine.sheet ++ text)
  goes-on buffer out chunk input text g lender f p w =
      subst (λ z. Writes buffer out g (take z.eaten chunk ++ input) (text_on z.machine.sheet ++ text)) (sym p)
      (goes buffer out g chunk input text (fed_of buffer out g chunk) refl
      (subst (λ z. Writes z.machine.buffer z.machine.sheet.bytes z.machine.gathered input text) p w))

  -- it is what the definition says
  flow-is : (buffer out : List ℕ) (g : Gathered) (input text : List ℕ) → Flow buffer out g input text → Writes buffer out g input text
  flow-is _ _ _ _ _ (last κs a x p) = rw p (ends a.0.now (page.seen a.1.0.now).bytes a.1.1.0)
  flow-is _ _ _ _ _ (fed κs a x input text p f) =
      let first = page.seen a.1.1.0.now in
      let last = page.seen x.1.1.1.0 in
      let e = fed_of a.1.0.now first.bytes a.1.1.1.0 a.0.now in
      goes-on a.1.0.now first.bytes a.0.now input text a.1.1.1.0 first.lender (fed_at x.1.1.0 last x.0)
      (fed-is x.0 x.1.1.0 last first.lender e p)
      (flow-is _ _ _ input text f)

  -- the answers to the lines of the input, in their order, and nothing else
  pub whole : (buffer out input text : List ℕ) (ls : List (List ℕ)) → Flow buffer out no_byte input text
      → 65 ≤ length buffer → 47 ≤ length out → Lines input ls → text ≡ each answer_text ls
  whole buffer out input text ls f h r lines = answered buffer out input text ls h r lines (flow-is buffer out no_byte input text f)
