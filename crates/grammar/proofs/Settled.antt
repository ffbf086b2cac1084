-- Any two outcomes that a public function's contract allows are equal: said of the contract itself.
use mathlib.Core.Path.{◌≡◌, sym, ◌∙◌}
use contract.Lifetimes.{Lfts}
use Rattle.grammar.proofs.elms.elm.Reads as elm
use Rattle.grammar.proofs.heads.head.Reads as head
use Rattle.grammar.proofs.heads.code_end.Reads as code_end
use Rattle.grammar.proofs.addresses.address.Reads as address

pub elm_settled : (κs : Lfts 1) → (a : _) (r r' : _) (e e' : _) → elm.Post κs a r e → elm.Post κs a r' e' → r ≡ r'
elm_settled κs a r r' e e' p q = p ∙ sym q

pub head_settled : (κs : Lfts 1) → (a : _) (r r' : _) (e e' : _) → head.Post κs a r e → head.Post κs a r' e' → r ≡ r'
head_settled κs a r r' e e' p q = p ∙ sym q

pub code_end_settled : (κs : Lfts 1) → (a : _) (r r' : _) (e e' : _) → code_end.Post κs a r e → code_end.Post κs a r' e' → r ≡ r'
code_end_settled κs a r r' e e' p q = p ∙ sym q

pub address_settled : (κs : Lfts 1) → (a : _) (r r' : _) (e e' : _) → address.Post κs a r e → address.Post κs a r' e' → r ≡ r'
address_settled κs a r r' e e' p q = p ∙ sym q
