-- `operators::operator` meets its contract: by the arm that the byte took.
use mathlib.Core.Path.{refl}
use lib.Dec.{lit<}
use Rattle.paper.specs.Bytes.{bytes}
use Rattle.paper.specs.Grammar.{choose}
use Rattle.algebra.specs.Grammar.{operator}
use Rattle.algebra.specs.Laying.{missing}
use Rattle.algebra.proofs.Ahead.{unnamed}
use Rattle.algebra.proofs.Signs.{signs_one, signs_ordered}
use Rattle.algebra.proofs.operators.operator.Goals as goal

pub returns-in-43 : goal.returns-in-43
unfolding operator choose bytes
returns-in-43 c = signs_one _ c.peek-ahead.ensures c.in-43.is (lit< tt) refl refl

pub returns-in-45 : goal.returns-in-45
unfolding operator choose bytes
returns-in-45 c = signs_one _ c.peek-ahead.ensures c.in-45.is (lit< tt) refl refl

pub returns-in-42 : goal.returns-in-42
unfolding operator choose bytes
returns-in-42 c = signs_one _ c.peek-ahead.ensures c.in-42.is (lit< tt) refl refl

pub returns-in-47 : goal.returns-in-47
unfolding operator choose bytes
returns-in-47 c = signs_one _ c.peek-ahead.ensures c.in-47.is (lit< tt) refl refl

pub returns-in-58 : goal.returns-in-58
unfolding operator choose bytes
returns-in-58 c = signs_one _ c.peek-ahead.ensures c.in-58.is (lit< tt) refl refl

pub returns-in-61 : goal.returns-in-61
unfolding operator choose bytes
returns-in-61 c = signs_one _ c.peek-ahead.ensures c.in-61.is (lit< tt) refl refl

pub returns-in-35 : goal.returns-in-35
unfolding operator choose bytes
returns-in-35 c = signs_one _ c.peek-ahead.ensures c.in-35.is (lit< tt) refl refl

pub returns-in-60 : goal.returns-in-60
unfolding operator choose bytes
returns-in-60 c = rw c.or_equal.ensures (signs_ordered _ _ c.peek-ahead.ensures c.in-60.is (lit< tt) refl refl refl)

pub returns-in-62 : goal.returns-in-62
unfolding operator choose bytes
returns-in-62 c = rw c.or_equal-in-62.ensures (signs_ordered _ _ c.peek-ahead.ensures c.in-62.is (lit< tt) refl refl refl)

pub returns-in_default : goal.returns-in_default
unfolding operator
returns-in_default c = missing (unnamed (Unit {0}) _ c.peek-ahead.ensures c.in_default.in_default-own.rest)
