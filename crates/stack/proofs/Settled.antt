-- Any two outcomes that a contract of this crate allows are equal. Of a call that puts, copies or exchanges: every byte of the slots afterwards.
-- Of a step's end: its answer, the stack then held and the element. Left open, for the callers clear them: what the slots above the stack hold then.
use mathlib.Core.Path.{◌≡◌, sym, ◌∙◌}
use contract.Lifetimes.{Lfts}
use Prim.Native.Nat.{ℕ}
use mathlib.Core.List.{List}
use Rattle.paper.specs.Bytes.{Bytes}
use Rattle.std.specs.Prelude.{Result}
use Rattle.paper.specs.Refusals.{Res}
use Rattle.paper.specs.declared.Refusal.{Refusal}
use Rattle.stack.specs.declared.Step.{Step}
use Rattle.stack.specs.Slots.{element_slot, entry_at, stack_of}
use Rattle.stack.specs.Charging.{held_after, Charges}
use Rattle.paper.proofs.Telling.{told_same}
use Rattle.stack.proofs.slots.Slots.over.Reads as over
use Rattle.stack.proofs.slots.Slots.entry.Reads as entry
use Rattle.stack.proofs.slots.Slots.put.Reads as put
use Rattle.stack.proofs.slots.Slots.copy.Reads as copy
use Rattle.stack.proofs.slots.Slots.exchange.Reads as exchange
use Rattle.stack.proofs.charging.charge.Reads as charge
use Rattle.stack.proofs.charging.charge_operand.Reads as charge_operand
use Rattle.stack.proofs.charging.charge_given.Reads as charge_given
use Rattle.stack.proofs.charging.charge_copy.Reads as charge_copy
use Rattle.stack.proofs.charging.charge_exchange.Reads as charge_exchange

same : {A B : Type 0} {r r' s : A} {o o' t : B} → (r ≡ s) × (o ≡ t) → (r' ≡ s) × (o' ≡ t) → (r ≡ r') × (o ≡ o')
same p q = (p.0 ∙ sym q.0, p.1 ∙ sym q.1)

over_settled : (κs : Lfts 1) → (a : _) (r r' : _) (e e' : _) → over.Post κs a r e → over.Post κs a r' e'
    → (r.scratch.now ≡ r'.scratch.now) × (r.lens ≡ r'.lens)
over_settled κs a r r' e e' p q = same p q

entry_settled : (κs : Lfts 2) → (a : _) (r r' : _) (e e' : _) → entry.Post κs a r e → entry.Post κs a r' e' → r.now ≡ r'.now
entry_settled κs a r r' e e' p q = p ∙ sym q

put_settled : (κs : Lfts 3) → (a : _) (r r' : _) (e e' : _) → put.Post κs a r e → put.Post κs a r' e'
    → (e.0.now.scratch.now ≡ e'.0.now.scratch.now) × (e.0.now.lens ≡ e'.0.now.lens)
put_settled κs a r r' e e' p q = same p q

copy_settled : (κs : Lfts 2) → (a : _) (r r' : _) (e e' : _) → copy.Post κs a r e → copy.Post κs a r' e'
    → (e.0.now.scratch.now ≡ e'.0.now.scratch.now) × (e.0.now.lens ≡ e'.0.now.lens)
copy_settled κs a r r' e e' p q = same p q

exchange_settled : (κs : Lfts 2) → (a : _) (r r' : _) (e e' : _) → exchange.Post κs a r e → exchange.Post κs a r' e'
    → (e.0.now.scratch.now ≡ e'.0.now.scratch.now) × (e.0.now.lens ≡ e'.0.now.lens)
exchange_settled κs a r r' e e' p q = same p q

charge_settled : (κs : Lfts 0) → (a : _) (r r' : _) (e e' : _) → charge.Post κs a r e → charge.Post κs a r' e' → r ≡ r'
charge_settled κs a r r' e e' p q = p ∙ sym q

-- what a step leaves, twice
pub record SameStep (r r' : Result Step Refusal) (scratch scratch' : Bytes) (lens lens' : List ℕ) : Type 0 where
  pub answers : r ≡ r'
  pub stack : stack_of scratch lens (held_after r) ≡ stack_of scratch' lens' (held_after r')
  pub element : entry_at scratch lens element_slot ≡ entry_at scratch' lens' element_slot

pub same_step : {left : ℕ} {x : Res (ℕ × List Bytes)} {r r' : Result Step Refusal} {s₀ s s' : Bytes} {l₀ l l' : List ℕ}
    → Charges left x r s₀ l₀ s l → Charges left x r' s₀ l₀ s' l' → SameStep r r' s s' l l'
same_step {r = r} {r' = r'} p q =
    record {
      answers = told_same r r' (p.answers ∙ sym q.answers);
      stack = p.stack ∙ sym q.stack;
      element = p.element ∙ sym q.element;
    }

charge_operand_settled : (κs : Lfts 3) → (a : _) (r r' : _) (e e' : _) → charge_operand.Post κs a r e → charge_operand.Post κs a r' e'
    → SameStep r r' e.1.1.1.0.now.scratch.now e'.1.1.1.0.now.scratch.now e.1.1.1.0.now.lens e'.1.1.1.0.now.lens
charge_operand_settled κs a r r' e e' p q = same_step p q

charge_given_settled : (κs : Lfts 3) → (a : _) (r r' : _) (e e' : _) → charge_given.Post κs a r e → charge_given.Post κs a r' e'
    → SameStep r r' e.1.1.1.1.0.now.scratch.now e'.1.1.1.1.0.now.scratch.now e.1.1.1.1.0.now.lens e'.1.1.1.1.0.now.lens
charge_given_settled κs a r r' e e' p q = same_step p q

charge_copy_settled : (κs : Lfts 2) → (a : _) (r r' : _) (e e' : _) → charge_copy.Post κs a r e → charge_copy.Post κs a r' e'
    → SameStep r r' e.1.1.1.0.now.scratch.now e'.1.1.1.0.now.scratch.now e.1.1.1.0.now.lens e'.1.1.1.0.now.lens
charge_copy_settled κs a r r' e e' p q = same_step p q

charge_exchange_settled : (κs : Lfts 2) → (a : _) (r r' : _) (e e' : _) → charge_exchange.Post κs a r e → charge_exchange.Post κs a r' e'
    → SameStep r r' e.1.0.now.scratch.now e'.1.0.now.scratch.now e.1.0.now.lens e'.1.0.now.lens
charge_exchange_settled κs a r r' e e' p q = same_step p q
