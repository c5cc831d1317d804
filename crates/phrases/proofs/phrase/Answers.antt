-- `phrases::phrase` meets its contract: each arm is the phrase of the number that led to it.
-- Assumes nothing.
use native.Mathlib.Omega.{arith}
use mathlib.Core.Path.{sym, ap}
use Rattle.phrases.specs.Phrases.{phrases, phrase_of}
use Rattle.phrases.proofs.Statements.{no_phrase}
use Rattle.phrases.proofs.phrase.Goals as goal

pub returns-in-0 : goal.returns-in-0
unfolding phrase_of phrases
returns-in-0 c = sym (ap phrase_of c.in-0.is)

pub returns-in-1 : goal.returns-in-1
unfolding phrase_of phrases
returns-in-1 c = sym (ap phrase_of c.in-1.is)

pub returns-in-2 : goal.returns-in-2
unfolding phrase_of phrases
returns-in-2 c = sym (ap phrase_of c.in-2.is)

pub returns-in-3 : goal.returns-in-3
unfolding phrase_of phrases
returns-in-3 c = sym (ap phrase_of c.in-3.is)

pub returns-in-4 : goal.returns-in-4
unfolding phrase_of phrases
returns-in-4 c = sym (ap phrase_of c.in-4.is)

pub returns-in-5 : goal.returns-in-5
unfolding phrase_of phrases
returns-in-5 c = sym (ap phrase_of c.in-5.is)

pub returns-in-6 : goal.returns-in-6
unfolding phrase_of phrases
returns-in-6 c = sym (ap phrase_of c.in-6.is)

pub returns-in-7 : goal.returns-in-7
unfolding phrase_of phrases
returns-in-7 c = sym (ap phrase_of c.in-7.is)

pub returns-in-8 : goal.returns-in-8
unfolding phrase_of phrases
returns-in-8 c = sym (ap phrase_of c.in-8.is)

pub returns-in-9 : goal.returns-in-9
unfolding phrase_of phrases
returns-in-9 c = sym (ap phrase_of c.in-9.is)

pub returns-in-10 : goal.returns-in-10
unfolding phrase_of phrases
returns-in-10 c = sym (ap phrase_of c.in-10.is)

pub returns-in-11 : goal.returns-in-11
unfolding phrase_of phrases
returns-in-11 c = sym (ap phrase_of c.in-11.is)

pub returns-in-12 : goal.returns-in-12
unfolding phrase_of phrases
returns-in-12 c = sym (ap phrase_of c.in-12.is)

pub returns-in-13 : goal.returns-in-13
unfolding phrase_of phrases
returns-in-13 c = sym (ap phrase_of c.in-13.is)

pub returns-in-14 : goal.returns-in-14
unfolding phrase_of phrases
returns-in-14 c = sym (ap phrase_of c.in-14.is)

pub returns-in-15 : goal.returns-in-15
unfolding phrase_of phrases
returns-in-15 c = sym (ap phrase_of c.in-15.is)

pub returns-in-16 : goal.returns-in-16
unfolding phrase_of phrases
returns-in-16 c = sym (ap phrase_of c.in-16.is)

pub returns-in-17 : goal.returns-in-17
unfolding phrase_of phrases
returns-in-17 c = sym (ap phrase_of c.in-17.is)

pub returns-in-18-to-255 : goal.returns-in-18-to-255
returns-in-18-to-255 c = sym (no_phrase c.args.number (omega arith))
