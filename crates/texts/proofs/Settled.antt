-- Any two outcomes that a contract of this crate allows are equal: the answer, and what the lent output holds afterwards.
use mathlib.Core.Path.{◌≡◌, sym, ◌∙◌}
use contract.Lifetimes.{Lfts}
use Rattle.std.specs.Prelude.{Result}
use Rattle.paper.specs.declared.Refusal.{Refusal}
use Rattle.paper.specs.Refusals.{Res}
use Rattle.paper.specs.Answers.{told}
use Rattle.paper.proofs.Telling.{told_same}
use Rattle.texts.proofs.recase.Reads as recase
use Rattle.texts.proofs.keep.Reads as keep
use Rattle.texts.proofs.extract.Reads as extract
use Rattle.texts.proofs.measure.Reads as measure
use Rattle.texts.proofs.admit.Reads as admit
use Rattle.texts.proofs.group.Reads as group
use Rattle.texts.proofs.hex.Reads as hex
use Rattle.texts.proofs.unhex.Reads as unhex
use Rattle.texts.proofs.letter.is_letter.Reads as is_letter
use Rattle.texts.proofs.letter.is_digit.Reads as is_digit
use Rattle.texts.proofs.letter.raise.Reads as raise
use Rattle.texts.proofs.letter.lower.Reads as lower
use Rattle.texts.proofs.part.index.Reads as index
use Rattle.texts.proofs.hexit.digit.Reads as digit
use Rattle.texts.proofs.hexit.is_other.Reads as is_other
use Rattle.texts.proofs.hexit.value.Reads as value
use Rattle.texts.proofs.hexit.byte.Reads as byte
use Rattle.texts.proofs.part.after.Reads as after
use Rattle.texts.proofs.part.skip_fields.Reads as skip_fields
use Rattle.texts.proofs.part.take_fields.Reads as take_fields
use Rattle.texts.proofs.part.admitted.Reads as admitted

-- the same answer; the same answer and the same output
abbrev Settled : {A R E : Type 0} → (A → R → E → Type 0) → Type 0
Settled {A} {R} {E} post = (a : A) (r r' : R) (e e' : E) → post a r e → post a r' e' → r ≡ r'

same : {A B : Type 0} {r r' : Result A Refusal} {s : Res A} {o o' t : B} → (told r ≡ s) × (o ≡ t) → (told r' ≡ s) × (o' ≡ t) → (r ≡ r') × (o ≡ o')
same p q = (told_same _ _ (p.0 ∙ sym q.0), p.1 ∙ sym q.1)

recase_settled : (κs : Lfts 2) (a : _) (r r' : _) (e e' : _) → recase.Post κs a r e → recase.Post κs a r' e' → (r ≡ r') × (e.1.1.0.now ≡ e'.1.1.0.now)
recase_settled κs a r r' e e' p q = same p q

keep_settled : (κs : Lfts 2) (a : _) (r r' : _) (e e' : _) → keep.Post κs a r e → keep.Post κs a r' e' → (r ≡ r') × (e.1.1.0.now ≡ e'.1.1.0.now)
keep_settled κs a r r' e e' p q = same p q

extract_settled : (κs : Lfts 2) (a : _) (r r' : _) (e e' : _) → extract.Post κs a r e → extract.Post κs a r' e'
    → (r ≡ r') × (e.1.1.1.0.now ≡ e'.1.1.1.0.now)
extract_settled κs a r r' e e' p q = same p q

measure_settled : (κs : Lfts 2) (a : _) (r r' : _) (e e' : _) → measure.Post κs a r e → measure.Post κs a r' e' → (r ≡ r') × (e.1.0.now ≡ e'.1.0.now)
measure_settled κs a r r' e e' p q = same p q

admit_settled : (κs : Lfts 2) (a : _) (r r' : _) (e e' : _) → admit.Post κs a r e → admit.Post κs a r' e'
    → (r ≡ r') × (e.1.1.1.0.now ≡ e'.1.1.1.0.now)
admit_settled κs a r r' e e' p q = same p q

group_settled : (κs : Lfts 2) (a : _) (r r' : _) (e e' : _) → group.Post κs a r e → group.Post κs a r' e'
    → (r ≡ r') × (e.1.1.1.1.0.now ≡ e'.1.1.1.1.0.now)
group_settled κs a r r' e e' p q = same p q

hex_settled : (κs : Lfts 2) (a : _) (r r' : _) (e e' : _) → hex.Post κs a r e → hex.Post κs a r' e' → (r ≡ r') × (e.1.0.now ≡ e'.1.0.now)
hex_settled κs a r r' e e' p q = same p q

unhex_settled : (κs : Lfts 2) (a : _) (r r' : _) (e e' : _) → unhex.Post κs a r e → unhex.Post κs a r' e' → (r ≡ r') × (e.1.0.now ≡ e'.1.0.now)
unhex_settled κs a r r' e e' p q = same p q

-- an answer on one byte: `is_letter` and `is_digit` for whoever asks, the others within the crate
is_letter_settled : (κs : Lfts 0) → Settled (is_letter.Post κs)
is_letter_settled κs a r r' e e' p q = p ∙ sym q

is_digit_settled : (κs : Lfts 0) → Settled (is_digit.Post κs)
is_digit_settled κs a r r' e e' p q = p ∙ sym q

raise_settled : (κs : Lfts 0) → Settled (raise.Post κs)
raise_settled κs a r r' e e' p q = p ∙ sym q

lower_settled : (κs : Lfts 0) → Settled (lower.Post κs)
lower_settled κs a r r' e e' p q = p ∙ sym q

index_settled : (κs : Lfts 0) → Settled (index.Post κs)
index_settled κs a r r' e e' p q = p ∙ sym q

digit_settled : (κs : Lfts 0) → Settled (digit.Post κs)
digit_settled κs a r r' e e' p q = p ∙ sym q

is_other_settled : (κs : Lfts 0) → Settled (is_other.Post κs)
is_other_settled κs a r r' e e' p q = p ∙ sym q

value_settled : (κs : Lfts 0) → Settled (value.Post κs)
value_settled κs a r r' e e' p q = p ∙ sym q

byte_settled : (κs : Lfts 0) → Settled (byte.Post κs)
byte_settled κs a r r' e e' p q = p ∙ sym q

-- within the crate: a part of the element, by its bytes
after_settled : (κs : Lfts 1) → (a : _) (r r' : _) (e e' : _) → after.Post κs a r e → after.Post κs a r' e' → r.now ≡ r'.now
after_settled κs a r r' e e' p q = p ∙ sym q

skip_fields_settled : (κs : Lfts 1) → (a : _) (r r' : _) (e e' : _) → skip_fields.Post κs a r e → skip_fields.Post κs a r' e' → r.now ≡ r'.now
skip_fields_settled κs a r r' e e' p q = p ∙ sym q

take_fields_settled : (κs : Lfts 1) → (a : _) (r r' : _) (e e' : _) → take_fields.Post κs a r e → take_fields.Post κs a r' e' → r.now ≡ r'.now
take_fields_settled κs a r r' e e' p q = p ∙ sym q

admitted_settled : (κs : Lfts 1) → (a : _) (r r' : _) (e e' : _) → admitted.Post κs a r e → admitted.Post κs a r' e' → r.now ≡ r'.now
admitted_settled κs a r r' e e' p q = p ∙ sym q
