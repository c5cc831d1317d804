-- `asking::sharded::shards` meets its contract: what the word spells, and whether both lists have room for it.
-- Assumes nothing.
use mathlib.Core.Path.{ap, ◌∙◌}
use lib.Dec.{leb}
use Rattle.asking.specs.ShardWords.{shards_of}
use Rattle.asking.proofs.Ranges.{hold-both, shards-ill, shards-well}
use Rattle.asking.proofs.sharded.shards.Goals as goal

pub returns-then-s : goal.returns-then-s
unfolding shards_of
returns-then-s c =
    record {
      answer =
          shards-well _ _ _ _ _ c.spelled-s.ensures.answer c.if-s.true _
          (ap (leb c.spelled-s.result.count) c.min-room.ensures ∙ hold-both c.spelled-s.result.count _ _);
      firsts = c.spelled-s.ensures.firsts;
      ends = c.spelled-s.ensures.ends;
    }

pub returns-else-s : goal.returns-else-s
unfolding shards_of
returns-else-s c =
    record {
      answer = rw c.if-s.false (shards-ill _ _ _ _ _ c.spelled-s.ensures.answer c.if-s.false);
      firsts = c.spelled-s.ensures.firsts;
      ends = c.spelled-s.ensures.ends;
    }
