-- What a list gives is what the grammar has of it, both ways; so is what numbers that are handed over give; and it is given record by record.
-- Assumes nothing.
use mathlib.Core.Path.{◌≡◌, sym, ap, subst}
use mathlib.Core.List.{List}
use lib.IntN.{ℤ}
use Rattle.low_bytes.specs.LowBytes.{Bytes}
use Rattle.low_bytes.specs.Laws.{bytes-tail}
use Rattle.shot_lists.specs.declared.records.Record.{Record}
use Rattle.shot_lists.specs.Grammar.{OneByOne, OneOnDisk, list_numbers}
use Rattle.shot_lists.specs.Entries.{on_disk, in_numbers, entry_of}
use Rattle.shot_lists.specs.Laws.{end-only}
use Rattle.shot_lists.specs.Walk.{read_taken, read-refused}
use Rattle.shot_lists.specs.Statements.{ReadExactly, RefusedExactly, OneList, GivenExactly, GivenRefused, RecordByRecord}
use Rattle.shot_lists.proofs.Bodies.{disk-spells, disk-spelt}
use Rattle.shot_lists.proofs.OwnNumbers.{Own, numbers-spell, numbers-spelt, own-list, list-own}
use Rattle.shot_lists.proofs.Exactly.{exactly, refused}
use Rattle.shot_lists.proofs.OneWay.{one_way}

pub read_exactly : ReadExactly
read_exactly l rs bytes =
    exactly on_disk OneOnDisk disk-spells Bytes bytes-tail (λ held x m r after size ok h. disk-spelt x m (bytes-tail x m ok) held r after size h) l rs bytes

pub refused_exactly : RefusedExactly
refused_exactly l e bytes =
    refused on_disk OneOnDisk disk-spells Bytes bytes-tail (λ held x m r after size ok h. disk-spelt x m (bytes-tail x m ok) held r after size h) l e bytes

pub one_list : OneList
one_list = record { bytes = one_way; read = λ l rs ss bytes h on. one_way l rs ss ((read_exactly l rs bytes).0 h).0 on }

-- ---- numbers, of which nothing is known

abbrev Any : List ℤ → Type 0
Any l = Unit {0}

list-is : (rs : List Record) (l : List ℤ) → l ≡ list_numbers rs → OneByOne Own rs l
list-is rs l e = subst (OneByOne Own rs) (sym e) (list-own rs)

pub given_exactly : GivenExactly
given_exactly l rs =
    let both = exactly in_numbers Own numbers-spell Any (λ x m ok. tt) (λ held x m r after size ok h. numbers-spelt held x m r after size h) l rs tt in
    (λ h. (own-list rs l (both.0 h).0, (both.0 h).1), λ p. both.1 (list-is rs l p.0, p.1))

pub given_refused : GivenRefused
given_refused l e =
    let both = refused in_numbers Own numbers-spell Any (λ x m ok. tt) (λ held x m r after size ok h. numbers-spelt held x m r after size h) l e tt in (
      λ h.
          let p = both.0 h in
          record {
            before = p.before;
            front = p.front;
            rest = p.rest;
            parts = p.parts;
            good = own-list p.before p.front p.good;
            sound = p.sound;
            fault = p.fault;
          },
      λ p.
          both.1
          record {
            before = p.before;
            front = p.front;
            rest = p.rest;
            parts = p.parts;
            good = list-is p.before p.front p.good;
            sound = p.sound;
            fault = p.fault;
          },
    )

-- ---- record by record

pub record_by_record : RecordByRecord
unfolding entry_of
record_by_record =
    record {
      taken = λ held l r after size h. read_taken on_disk held l r after size h;
      refused = λ held l e h. read-refused on_disk held l e h;
      over = λ held l. (end-only on_disk held l, λ e. ap (entry_of on_disk held) e);
    }
