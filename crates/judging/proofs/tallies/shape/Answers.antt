-- `tallies::shape` meets its contract, field by field.
use mathlib.Core.List.{[]}
use native.Mathlib.Omega.{arith}
use Rattle.codes.specs.Meaning.{elm_of}
use Rattle.readers.proofs.Counted.{counted_elm}
use Rattle.judging.proofs.Tallying.{puts_small}
use Rattle.judging.proofs.tallies.shape.Goals as goal

pub returns : goal.returns
returns c =
    record {
      value = λ string counted. rw (c.kind-kind.ensures, ← counted_elm string c.args.elm counted, c.takes.ensures string, c.puts.ensures string);
      puts_bound = (omega (arith, c.puts.ensures [], puts_small (elm_of [] c.args.elm)), c.kind-kind.ensures);
    }
