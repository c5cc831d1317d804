-- A line is understood as the grammar has it, and only so; records in words and shards are listed so.
-- Assumes nothing.
use mathlib.Core.Path.{refl}
use Rattle.asking.specs.Statements.{marks_from, Understood, OnlyUnderstood, MarksBelong, WhyAsked, RouteAsked}
use Rattle.asking.specs.RecordStatements.{RecordsExactly}
use Rattle.asking.specs.RouteStatements.{ShardsExactly, OneListSpelt, FewShards, RouteUnderstood}
use Rattle.asking.proofs.Understanding as there
use Rattle.asking.proofs.Told as back
use Rattle.asking.proofs.RecordsListed as listed
use Rattle.asking.proofs.Routes as routes
use Rattle.asking.proofs.ShardTexts as texts
use Rattle.digits.specs.Digits.{span, value_from}
use Rattle.asking.specs.Numbers.{number_at, signed_at, digits_at, signed_word}
use Rattle.asking.specs.ShardWords.{range_at, ranges_from, is_none, spelled_of, shards_at, shards_of}
use Rattle.asking.specs.Table.{word_of, rows, row_from, same, word_first, is_over}
use Rattle.asking.specs.Asked.{asked_of, words_from, ended_at, rest_at, is_in_range, value_at, word_at, is_marked, is_unstated, is_position}

pub understood : Understood
understood = there.understood

pub only_understood : OnlyUnderstood
only_understood = back.only_understood

pub marks_belong : MarksBelong
unfolding rows marks_from
marks_belong = (refl, refl)

pub records_exactly : RecordsExactly
records_exactly = listed.records_exactly

pub why_asked : WhyAsked
unfolding asked_of word_of rows row_from same words_from ended_at rest_at is_in_range value_at word_at is_marked is_unstated is_position word_first is_over number_at
    signed_at digits_at signed_word span value_from
why_asked = record { unstated = refl; stated = refl; wide = refl; taken = (refl, refl, refl, refl, refl) }

pub shards_exactly : ShardsExactly
shards_exactly = routes.shards_exactly

pub one_list_spelt : OneListSpelt
one_list_spelt word ys zs us vs s t = texts.shards-one s t refl

pub few_shards : FewShards
few_shards word ys zs s = texts.shards-few s

pub route_understood : RouteUnderstood
route_understood = routes.route_understood

pub route_asked : RouteAsked
unfolding asked_of word_of rows row_from same words_from ended_at rest_at is_in_range value_at word_at is_marked is_unstated is_position word_first is_over number_at
    signed_at digits_at signed_word span value_from shards_at spelled_of is_none ranges_from range_at shards_of
route_asked = record {
  ranges = refl;
  none = refl;
  trailing = refl;
  half = refl;
  marked = refl;
  taken = (refl, refl, refl);
  listed = refl;
}
