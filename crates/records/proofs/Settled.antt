-- Any two outcomes that a contract of this crate allows are equal: of every public call, its result and what the output holds afterwards.
-- Of a part that is handed back: its bytes, and where in memory they stand.
use mathlib.Core.Path.{◌≡◌, sym, ◌∙◌}
use contract.Lifetimes.{Lfts}
use Rattle.paper.proofs.Telling.{told_same}
use Rattle.records.proofs.lawful_find.Reads as lawful_find
use Rattle.records.proofs.find.Reads as find
use Rattle.records.proofs.extract.Reads as extract
use Rattle.records.proofs.part.Reads as part
use Rattle.records.proofs.replace.Reads as replace

lawful_find_settled : (κs : Lfts 1) → (a : _) (r r' : _) (e e' : _) → lawful_find.Post κs a r e → lawful_find.Post κs a r' e' → r ≡ r'
lawful_find_settled κs a r r' e e' p q = told_same r r' (p ∙ sym q)

find_settled : (κs : Lfts 1) → (a : _) (r r' : _) (e e' : _) → find.Post κs a r e → find.Post κs a r' e' → r ≡ r'
find_settled κs a r r' e e' p q = told_same r r' (p ∙ sym q)

extract_settled : (κs : Lfts 1) → (a : _) (r r' : _) (e e' : _) → extract.Post κs a r e → extract.Post κs a r' e' → (r.now ≡ r'.now) × (r.ref_ptr ≡ r'.ref_ptr)
extract_settled κs a r r' e e' p q = (p.0 ∙ sym q.0, p.1 ∙ sym q.1)

part_settled : (κs : Lfts 1) → (a : _) (r r' : _) (e e' : _) → part.Post κs a r e → part.Post κs a r' e' → (r.now ≡ r'.now) × (r.ref_ptr ≡ r'.ref_ptr)
part_settled κs a r r' e e' p q = (p.0 ∙ sym q.0, p.1 ∙ sym q.1)

replace_settled : (κs : Lfts 3) → (a : _) (r r' : _) (e e' : _) → replace.Post κs a r e → replace.Post κs a r' e' → (r ≡ r') × (e.1.1.1.0.now ≡ e'.1.1.1.0.now)
replace_settled κs a r r' e e' p q = (told_same r r' (p.0 ∙ sym q.0), p.1 ∙ sym q.1)
