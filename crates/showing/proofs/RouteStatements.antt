-- The shards that a query asks stand on the sheet, where they have room, in the words that docs/ASK.md gives.
-- Assumes nothing.
use mathlib.Core.Path.{refl}
use Rattle.digits.specs.Digits.{decimal, digits_of, width, width_by}
use Rattle.showing.specs.Why.{joined}
use Rattle.showing.specs.Routes.{shards_parts, line_parts, routed_text, routed_on}
use Rattle.showing.specs.Statements.{RoutedLine, RoutedShown, RoutedWords}
use Rattle.showing.proofs.WhyStatements.{puts-laid}

pub routed_line : RoutedLine
unfolding routed_text routed_on
routed_line s a h = (puts-laid (line_parts a) s h).is

pub routed_shown : RoutedShown
unfolding routed_text shards_parts joined
routed_shown = (λ first after. refl, λ e. refl)

pub routed_words : RoutedWords
unfolding routed_text shards_parts joined decimal digits_of width width_by
routed_words = (refl, refl, refl)
