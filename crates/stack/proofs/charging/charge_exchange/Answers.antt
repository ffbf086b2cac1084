-- `stack::charging::charge_exchange` meets its contract: 15 with nothing changed, or the two slots exchanged.
use Prim.Native.Nat.{◌+◌}
use native.Mathlib.Omega.{arith}
use Rattle.std.proofs.lemmas.Result.{err_from_is_err_and}
use Rattle.paper.specs.Sizes.{entry_most}
use Rattle.stack.proofs.Putting.{entry_length}
use Rattle.stack.proofs.Charges.{exchange_over, exchange_within}
use Rattle.stack.proofs.charging.charge_exchange.Goals as goal

pub overflow_add-both-2 : goal.overflow_add-both-2
unfolding entry_most
overflow_add-both-2 c = omega (arith, c.args.slots.now.slotted.fits c.args.k, c.args.slots.now.slotted.fits (c.args.k + 1))

pub charge-requires : goal.charge-requires
unfolding entry_most
charge-requires c =
    let lower = c.args.slots.now.slotted.fits c.args.k in
    let upper = c.args.slots.now.slotted.fits (c.args.k + 1) in
    (omega arith, omega arith)

pub returns-in_err-cost : goal.returns-in_err-cost
returns-in_err-cost c =
    let lower = entry_length c.args.slots.now.slotted c.args.k (omega arith) in
    let upper = entry_length c.args.slots.now.slotted (c.args.k + 1) (omega arith) in
    let p = err_from_is_err_and c.from_residual.result c.from_residual.ensures.1 in rw (p.1, p.2)
    (exchange_over c.args.slots.now.slotted c.args.left c.args.k _ (omega arith) c.in_err-cost.ensures)

pub returns : goal.returns
returns c =
    let lower = entry_length c.args.slots.now.slotted c.args.k (omega arith) in
    let upper = entry_length c.args.slots.now.slotted (c.args.k + 1) (omega arith) in
    exchange_within c.args.slots.now.slotted c.args.left c.args.k _ (omega arith) c.requires c.in_ok-cost.ensures c.exchange.ensures
