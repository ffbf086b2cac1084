-- Each of the cycle ends because the bytes that are left fall, and at one place by the order in which they call each other.
use Prim.Native.Nat.{ℕ, suc, ◌+◌, ◌*◌, ◌-◌, ◌≤◌}
use lib.ListN.{length, drop}
use Rattle.paper.specs.Bytes.{Bytes}
use Rattle.algebra.specs.Expressions.{elms_in, operand_elms}
use Rattle.algebra.specs.Grammar.{brackets, operations}
use Rattle.algebra.specs.Grammar.{operand as read_operand, expression as read_expression}
use Rattle.algebra.proofs.Going.{Going}
use Rattle.algebra.proofs.expressions.+expression_cycle.Given as goal

-- the bytes that are left, and the order in which these call each other at one place
abbrev left : ℕ → Bytes → ℕ → ℕ
left rank s at = 6 * (length s - at) + rank

abbrev pub decreases-base : goal.decreases-base
decreases-base l = left 0 l.code.now l.at

abbrev pub decreases-bracket : goal.decreases-bracket
decreases-bracket l = left 5 l.code.now l.at

abbrev pub decreases-expression : goal.decreases-expression
decreases-expression l = left 2 l.code.now l.at

abbrev pub decreases-operand : goal.decreases-operand
decreases-operand l = left 1 l.code.now l.at

abbrev pub decreases-operation : goal.decreases-operation
decreases-operation l = left 2 l.code.now l.at

abbrev pub decreases-pair : goal.decreases-pair
decreases-pair l = left 4 l.code.now l.at

abbrev pub decreases-remainder : goal.decreases-remainder
decreases-remainder l = left 0 l.code.now l.at

abbrev pub decreases-up_to : goal.decreases-up_to
decreases-up_to l = left 3 l.code.now l.at

-- A loop goes on from what was read before it, whatever text that was laid on.
abbrev pub invariant-expression-loop-sign : goal.invariant-expression-loop-sign
invariant-expression-loop-sign l =
    (l.next ≤ length l.code)
    × ((t : Bytes) (k depth : ℕ) → k ≤ length t → length l.code ≤ l.at + suc depth
    → Going elms_in l.code l.at t k (read_expression (suc depth) (drop l.at l.code)) (operations (read_expression depth))
    l.initial.next l.initial.text.len l.initial.text.bytes
    → Going elms_in l.code l.at t k (read_expression (suc depth) (drop l.at l.code)) (operations (read_expression depth)) l.next l.text.len l.text.bytes)

abbrev pub decreases-expression-loop-sign : goal.decreases-expression-loop-sign
decreases-expression-loop-sign l = length l.code - l.next

abbrev pub invariant-operand-loop-ahead : goal.invariant-operand-loop-ahead
invariant-operand-loop-ahead l =
    (l.next ≤ length l.code)
    × ((t : Bytes) (k depth : ℕ) → k ≤ length t → length l.code ≤ l.at + suc depth
    → Going operand_elms l.code l.at t k (read_operand (read_expression depth) (drop l.at l.code)) (brackets (read_expression depth))
    l.initial.next l.initial.text.len l.initial.text.bytes
    → Going operand_elms l.code l.at t k (read_operand (read_expression depth) (drop l.at l.code)) (brackets (read_expression depth))
    l.next l.text.len l.text.bytes)

abbrev pub decreases-operand-loop-ahead : goal.decreases-operand-loop-ahead
decreases-operand-loop-ahead l = length l.code - l.next
