-- Any two outcomes that a contract of this crate allows are equal: of a scan its answer, of a front its bytes, of every other call what the lent buffer holds afterwards.
use mathlib.Core.Path.{◌≡◌, sym, ◌∙◌}
use contract.Lifetimes.{Lfts}
use Rattle.lent.proofs.some_within.Reads as some_within
use Rattle.lent.proofs.marked.Reads as marked
use Rattle.lent.proofs.first_within.Reads as first_within
use Rattle.lent.proofs.place_of.Reads as place_of
use Rattle.lent.proofs.far_within.Reads as far_Within
use Rattle.lent.proofs.next_within.Reads as next_within
use Rattle.lent.proofs.front.Reads as front
use Rattle.lent.proofs.fill.Reads as fill
use Rattle.lent.proofs.clear.Reads as clear
use Rattle.lent.proofs.copy_in.Reads as copy_in
use Rattle.lent.proofs.copy_within.Reads as copy_within

some_within_settled : (κs : Lfts 1) → (a : _) (r r' : _) (e e' : _) → some_within.Post κs a r e → some_within.Post κs a r' e' → r ≡ r'
some_within_settled κs a r r' e e' p q = p ∙ sym q

marked_settled : (κs : Lfts 1) → (a : _) (r r' : _) (e e' : _) → marked.Post κs a r e → marked.Post κs a r' e' → r ≡ r'
marked_settled κs a r r' e e' p q = p ∙ sym q

first_within_settled : (κs : Lfts 1) → (a : _) (r r' : _) (e e' : _) → first_within.Post κs a r e → first_within.Post κs a r' e' → r ≡ r'
first_within_settled κs a r r' e e' p q = p ∙ sym q

place_of_settled : (κs : Lfts 1) → (a : _) (r r' : _) (e e' : _) → place_of.Post κs a r e → place_of.Post κs a r' e' → r ≡ r'
place_of_settled κs a r r' e e' p q = p.1 ∙ sym q.1

far_within_settled : (κs : Lfts 1) → (a : _) (r r' : _) (e e' : _) → far_Within.Post κs a r e → far_Within.Post κs a r' e' → r ≡ r'
far_within_settled κs a r r' e e' p q = p ∙ sym q

next_within_settled : (κs : Lfts 1) → (a : _) (r r' : _) (e e' : _) → next_within.Post κs a r e → next_within.Post κs a r' e' → r ≡ r'
next_within_settled κs a r r' e e' p q = p ∙ sym q

front_settled : (κs : Lfts 1) → (a : _) (r r' : _) (e e' : _) → front.Post κs a r e → front.Post κs a r' e' → r.now ≡ r'.now
front_settled κs a r r' e e' p q = p ∙ sym q

fill_settled : (κs : Lfts 1) → (a : _) (r r' : _) (e e' : _) → fill.Post κs a r e → fill.Post κs a r' e' → e.0.now ≡ e'.0.now
fill_settled κs a r r' e e' p q = p ∙ sym q

clear_settled : (κs : Lfts 1) → (a : _) (r r' : _) (e e' : _) → clear.Post κs a r e → clear.Post κs a r' e' → e.0.now ≡ e'.0.now
clear_settled κs a r r' e e' p q = p ∙ sym q

copy_in_settled : (κs : Lfts 2) → (a : _) (r r' : _) (e e' : _) → copy_in.Post κs a r e → copy_in.Post κs a r' e' → e.1.0.now ≡ e'.1.0.now
copy_in_settled κs a r r' e e' p q = p ∙ sym q

copy_within_settled : (κs : Lfts 1) → (a : _) (r r' : _) (e e' : _) → copy_within.Post κs a r e → copy_within.Post κs a r' e' → e.0.now ≡ e'.0.now
copy_within_settled κs a r r' e e' p q = p ∙ sym q
