-- `footage_writer::parts_length` meets its contract: the sum of what feet, frames and marker take, 21 bytes at most each.
-- Assumes nothing.
use native.Mathlib.Omega.{arith}
use borrow.Author.Rules.{rules}
use Rattle.written.proofs.Parts.{padded-most, field-most}
use Rattle.footage_writer.proofs.Laws.{marker-most, feet-length}
use Rattle.footage_writer.proofs.FootageTextWritable.length.Goals as goal

pub overflow_add-result : goal.overflow_add-result
overflow_add-result c =
    record { fits = omega (arith, padded-most c.args.self.now.negative 1 c.args.self.now.footage.feet (omega arith) (search rules), field-most c.args.self.now.footage.frames (search rules)) }

pub overflow_add-result-2 : goal.overflow_add-result-2
overflow_add-result-2 c =
    record {
      fits =
          omega (
            arith,
            padded-most c.args.self.now.negative 1 c.args.self.now.footage.feet (omega arith) (search rules),
            field-most c.args.self.now.footage.frames (search rules),
            marker-most c.args.self.now.format c.args.self.now.footage.perf (search rules),
          );
    }

pub returns : goal.returns
returns c =
    omega (arith, feet-length c.args.self.now.negative c.args.self.now.format c.args.self.now.footage)
