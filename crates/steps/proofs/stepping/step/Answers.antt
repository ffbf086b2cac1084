-- `steps::stepping::step` meets its contract: each elm as the function for it leaves the slots, on the entries that it finds.
use native.Mathlib.Omega.{arith}
use Rattle.paper.specs.Checking.{shape}
use Rattle.codes.specs.Meaning.{elm_of}
use Rattle.stack.proofs.Charges.{charges_as}
use Rattle.steps.proofs.Operands.{push_operand, binary_operator, convert_conversion}
use Rattle.steps.proofs.Elms.{push_rises, push_on, binary_at, substring_at, exchange_at, duplicate_at, convert_at}
use Rattle.steps.proofs.stepping.step.Goals as goal

pub push-requires : goal.push-requires
push-requires c =
    let told = c.in-Push.is in
    let room = rw told at c.requires.3 in
    (push_rises _ _ room, c.requires.0.record_fits, push_operand (rw told at c.requires.1), room)

pub overflow_sub-held : goal.overflow_sub-held
unfolding elm_of shape
overflow_sub-held c = let room = rw c.in-Binary.is at c.requires.3 in omega arith

pub overflow_sub-held-in-Substring : goal.overflow_sub-held-in-Substring
unfolding elm_of shape
overflow_sub-held-in-Substring c = let room = rw c.in-Substring.is at c.requires.3 in omega arith

pub overflow_sub-held-in-Exchange : goal.overflow_sub-held-in-Exchange
unfolding elm_of shape
overflow_sub-held-in-Exchange c = let room = rw c.in-Exchange.is at c.requires.3 in omega arith

pub overflow_sub-held-in-Duplicate : goal.overflow_sub-held-in-Duplicate
unfolding elm_of shape
overflow_sub-held-in-Duplicate c = let room = rw c.in-Duplicate.is at c.requires.3 in omega arith

pub duplicate-requires : goal.duplicate-requires
unfolding elm_of shape
duplicate-requires c =
    let told = c.in-Duplicate.is in
    let room = rw told at c.requires.3 in
    omega arith

pub overflow_sub-held-in-Convert : goal.overflow_sub-held-in-Convert
unfolding elm_of shape
overflow_sub-held-in-Convert c = let room = rw c.in-Convert.is at c.requires.3 in omega arith

pub returns-in-Binary : goal.returns-in-Binary
unfolding elm_of shape
returns-in-Binary c =
    let told = c.in-Binary.is in
    let room = rw told at c.requires.3 in
    charges_as (binary_at _ _ _ _ _ c.args.held _ c.requires.3 (omega arith) told) c.binary.ensures

pub returns-in-Substring : goal.returns-in-Substring
unfolding elm_of shape
returns-in-Substring c =
    let told = c.in-Substring.is in
    let room = rw told at c.requires.3 in
    charges_as (substring_at _ _ _ _ _ c.args.held _ c.requires.3 (omega arith) told) c.substring.ensures

pub returns-in-Exchange : goal.returns-in-Exchange
unfolding elm_of shape
returns-in-Exchange c =
    let told = c.in-Exchange.is in
    let room = rw told at c.requires.3 in
    charges_as (exchange_at _ _ _ _ _ c.args.held _ c.requires.3 (omega arith) told) c.charge_exchange.ensures

pub returns-in-Duplicate : goal.returns-in-Duplicate
unfolding elm_of shape
returns-in-Duplicate c =
    let told = c.in-Duplicate.is in
    let room = rw told at c.requires.3 in
    charges_as (duplicate_at _ _ _ _ _ c.args.held _ c.requires.3 (omega arith) told) c.duplicate.ensures

pub returns-in-Convert : goal.returns-in-Convert
unfolding elm_of shape
returns-in-Convert c =
    let told = c.in-Convert.is in
    let room = rw told at c.requires.3 in
    charges_as (convert_at _ _ _ _ _ c.args.held _ c.requires.3 (omega arith) told (convert_conversion (rw told at c.requires.1))) c.convert.ensures
