-- `try_pattern` goes from test to test: the flags are those of the tests so far, and the tests still to be read tell from there what all tell.
use native.Mathlib.Omega.{arith}
use Rattle.readers.proofs.Bytes.{peeked_within}
use Rattle.readers.proofs.PatternReads.{test_within}
use Rattle.patterns.proofs.Choosing.{read_there, read_nowhere, trying_start, trying_none, trying_next, trying_last, test_stands}
use Rattle.patterns.proofs.trying.try_pattern.Goals as goal

pub loop-read-init : goal.loop-read-init
loop-read-init c = record { onward = omega arith; tries = trying_start _ _ _ c.at_front.ensures }

pub ends-requires : goal.ends-requires
ends-requires c = (test_stands _ _ (read_there _ c.in-Ok.ensures), omega (arith, c.loop-read.auto.reach, c.at_front.auto.reach))

pub returns-then-ahead-eq41 : goal.returns-then-ahead-eq41
returns-then-ahead-eq41 c =
    let l = c.loop-read in
    let read = read_there _ c.in-Ok.ensures in
    let within = test_within _ _ read in
    let ahead = c.peek-ahead.ensures in
    record {
      from_le_next = omega (arith, within, (peeked_within within.1 ahead).0, l.invariant.onward);
      judged = trying_last l.invariant.tries read ahead c.ends.ensures c.if-ahead-eq41.true;
    }

pub advance-requires : goal.advance-requires
advance-requires c = (test_stands _ _ (read_there _ c.in-Ok.ensures), omega (arith, c.loop-read.auto.reach, c.at_front.auto.reach))

pub loop-read-smaller : goal.loop-read-smaller
loop-read-smaller c = omega (arith, test_within _ _ (read_there _ c.in-Ok.ensures))

pub loop-read-preserved : goal.loop-read-preserved
loop-read-preserved c =
    let l = c.loop-read in
    let read = read_there _ c.in-Ok.ensures in
    record {
      onward = omega (arith, test_within _ _ read, l.invariant.onward);
      tries = trying_next l.invariant.tries read c.peek-ahead.ensures c.advance.ensures c.if-ahead-eq41.false;
    }

pub returns : goal.returns
returns c =
    let l = c.loop-read.invariant in record { from_le_next = l.onward; judged = trying_none l.tries _ _ (read_nowhere _ c.in_default.ensures) }
