-- Any two outcomes that an exported call's contract allows are equal: its number, each number behind a reference, every byte of output and scratch.
-- Assumes nothing.
use mathlib.Core.Path.{◌≡◌, sym, ◌∙◌}
use contract.Lifetimes.{Lfts}
use Rattle.sundewfrill.proofs.sundewfrill_find.Reads as find
use Rattle.sundewfrill.proofs.sundewfrill_replace.Reads as replace
use Rattle.sundewfrill.proofs.sundewfrill_check.Reads as check
use Rattle.sundewfrill.proofs.sundewfrill_ceiling.Reads as ceiling
use Rattle.sundewfrill.proofs.sundewfrill_convert.Reads as convert
use Rattle.sundewfrill.proofs.sundewfrill_typed_date.Reads as typed_date
use Rattle.sundewfrill.proofs.sundewfrill_algebra.Reads as algebra

-- found, start, length
find_settled : (κs : Lfts 4) → (a : _) (r r' : _) (e e' : _) → find.Post κs a r e → find.Post κs a r' e'
    → (r ≡ r')
    × (e.1.1.1.1.0.now ≡ e'.1.1.1.1.0.now)
    × (e.1.1.1.1.1.0.now ≡ e'.1.1.1.1.1.0.now)
    × (e.1.1.1.1.1.1.0.now ≡ e'.1.1.1.1.1.1.0.now)
find_settled κs a r r' e e' p q =
    (p.0 ∙ sym q.0, p.1.0 ∙ sym q.1.0, p.1.1.0 ∙ sym q.1.1.0, p.1.1.1 ∙ sym q.1.1.1)

-- length, output
replace_settled : (κs : Lfts 4) → (a : _) (r r' : _) (e e' : _) → replace.Post κs a r e → replace.Post κs a r' e'
    → (r ≡ r')
    × (e.1.1.1.1.1.1.0.now ≡ e'.1.1.1.1.1.1.0.now)
    × (e.1.1.0.now ≡ e'.1.1.0.now)
replace_settled κs a r r' e e' p q = (p.0 ∙ sym q.0, p.1.0 ∙ sym q.1.0, p.1.1 ∙ sym q.1.1)

-- code number, A, B, P, T
check_settled : (κs : Lfts 6) → (a : _) (r r' : _) (e e' : _) → check.Post κs a r e → check.Post κs a r' e'
    → (r ≡ r')
    × (e.1.0.now ≡ e'.1.0.now)
    × (e.1.1.0.now ≡ e'.1.1.0.now)
    × (e.1.1.1.0.now ≡ e'.1.1.1.0.now)
    × (e.1.1.1.1.0.now ≡ e'.1.1.1.1.0.now)
    × (e.1.1.1.1.1.0.now ≡ e'.1.1.1.1.1.0.now)
check_settled κs a r r' e e' p q = (
  p.0 ∙ sym q.0,
  p.1.0 ∙ sym q.1.0,
  p.1.1.0 ∙ sym q.1.1.0,
  p.1.1.1.0 ∙ sym q.1.1.1.0,
  p.1.1.1.1.0 ∙ sym q.1.1.1.1.0,
  p.1.1.1.1.1 ∙ sym q.1.1.1.1.1,
)

-- ceiling
ceiling_settled : (κs : Lfts 3) → (a : _) (r r' : _) (e e' : _) → ceiling.Post κs a r e → ceiling.Post κs a r' e'
    → (r ≡ r') × (e.1.1.1.1.1.0.now ≡ e'.1.1.1.1.1.0.now)
ceiling_settled κs a r r' e e' p q = (p.0 ∙ sym q.0, p.1 ∙ sym q.1)

-- steps, length, output, scratch
convert_settled : (κs : Lfts 5) → (a : _) (r r' : _) (e e' : _) → convert.Post κs a r e → convert.Post κs a r' e'
    → (r ≡ r')
    × (e.1.1.1.1.1.1.1.1.0.now ≡ e'.1.1.1.1.1.1.1.1.0.now)
    × (e.1.1.1.1.1.1.1.1.1.0.now ≡ e'.1.1.1.1.1.1.1.1.1.0.now)
    × (e.1.1.0.now ≡ e'.1.1.0.now)
    × (e.1.1.1.0.now ≡ e'.1.1.1.0.now)
convert_settled κs a r r' e e' p q = (
  p.0 ∙ sym q.0,
  p.1.0 ∙ sym q.1.0,
  p.1.1.0 ∙ sym q.1.1.0,
  p.1.1.1.0 ∙ sym q.1.1.1.0,
  p.1.1.1.1 ∙ sym q.1.1.1.1,
)

-- sign, size
typed_date_settled : (κs : Lfts 4) → (a : _) (r r' : _) (e e' : _) → typed_date.Post κs a r e → typed_date.Post κs a r' e'
    → (r ≡ r') × (e.1.1.0.now ≡ e'.1.1.0.now) × (e.1.1.1.0.now ≡ e'.1.1.1.0.now)
typed_date_settled κs a r r' e e' p q = (p.0 ∙ sym q.0, p.1.0 ∙ sym q.1.0, p.1.1 ∙ sym q.1.1)

-- length, output
algebra_settled : (κs : Lfts 3) → (a : _) (r r' : _) (e e' : _) → algebra.Post κs a r e → algebra.Post κs a r' e'
    → (r ≡ r') × (e.1.1.0.now ≡ e'.1.1.0.now) × (e.1.0.now ≡ e'.1.0.now)
algebra_settled κs a r r' e e' p q = (p.0 ∙ sym q.0, p.1.0 ∙ sym q.1.0, p.1.1 ∙ sym q.1.1)
