-- Finding behind its tests, and the part that is handed back.
use Rattle.std.specs.Prelude.{Result, Ok, Err, None}
use Rattle.std.specs.Result.{result_unwrap_or}
use Rattle.std.specs.Prelude.{Option as Maybe}
use mathlib.Core.Path.{◌≡◌, refl, sym}
use mathlib.Core.Option.{Option, none, some}
use Prim.Native.Nat.{ℕ, ◌+◌, ◌≤◌}
use lib.ListN.{length, take, drop}
use Rattle.paper.specs.Bytes.{Bytes}
use Rattle.paper.specs.Refusals.{Res, given, refused, ◌>>◌}
use Rattle.paper.specs.Records.{Part, path, place, reads, text_or_empty, lawful_record, lawful_address, find, extract}
use Rattle.paper.specs.Answers.{told}
use Rattle.paper.specs.declared.Refusal.{Refusal}
use Rattle.paper.proofs.Refusing.{never_given}
use Rattle.records.specs.Found.{lawful_find, found_of, part_of, part_in, Within, part_bytes}
use Rattle.records.specs.declared.Span.{Span}
use Rattle.paper.proofs.Splitting.{found_is_own, found_ends}

pub then_then : {A : Type 0} (x y : Res (Unit {0})) (z : Res A) → (x >> y) >> z ≡ x >> (y >> z)
then_then (given t) y z = refl
then_then (refused n) y z = refl

module _ (item : Bytes) (a v s : ℕ) where
  find_then : find item a v s ≡ lawful_find item a v s >> given (place item a v s)
  unfolding find lawful_find
  find_then = sym (then_then (lawful_record item) (lawful_address a v s) (given (place item a v s)))

  pub find_refused : {n : ℕ} → refused n ≡ lawful_find item a v s → refused n ≡ found_of (find item a v s)
  find_refused e = rw (find_then, sym e)

  pub find_place : given tt ≡ lawful_find item a v s → given (part_of (place item a v s)) ≡ found_of (find item a v s)
  find_place e = rw (find_then, sym e)

-- nothing is cut where it is refused
pub part_found : (r : Result (Maybe Span) Refusal) (x : Res (Option Part)) → told r ≡ found_of x → result_unwrap_or r None ≡ part_in x
part_found (Ok o) (given p) e = cc
part_found (Ok o) (refused n) e = never_given (sym e)
part_found (Err r) (given p) e = never_given e
part_found (Err r) (refused n) e = refl

-- What is found lies in the record, and its bytes are those that stand there.
pub data Inside (item : Bytes) : Res (Option Part) → Type 0 where
  found : (p : Part) → p.start + length p.text ≤ length item → p.text ≡ take (length p.text) (drop p.start item) → Inside item (given (some p))
  missing : Inside item (given none)
  refused_so : (n : ℕ) → Inside item (refused n)

module _ (item : Bytes) (a v s : ℕ) where
  pub inside_place : Inside item (given (place item a v s))
  inside_place = on_place (place item a v s) refl
    where
      on_place : (o : Option Part) → place item a v s ≡ o → Inside item (given o)
      on_place none e = missing
      on_place (some p) e = found p (found_ends item a v s p e) (found_is_own item a v s p e)

  inside_then : (x : Res (Unit {0})) → Inside item (x >> given (place item a v s))
  inside_then (given t) = inside_place
  inside_then (refused n) = refused_so n

  pub inside_find : Inside item (find item a v s)
  inside_find = rw (find_then item a v s) (inside_then (lawful_find item a v s))

  -- what an address reads is what extraction hands back where nothing is tested
  pub reads_place : extract (given (place item a v s)) ≡ reads item (path a v s)
  unfolding extract reads place
  reads_place = on_option (place item a v s)
    where
      on_option : (o : Option Part) → extract (given o) ≡ text_or_empty o
      on_option none = refl
      on_option (some p) = refl

-- so the part lies in the record, and the bytes there are the part's
pub inside_within : {item : Bytes} {x : Res (Option Part)} → Inside item x → Within (length item) (part_in x)
inside_within (found p h t) = h
inside_within missing = tt
inside_within (refused_so n) = tt

pub inside_bytes : {item : Bytes} {x : Res (Option Part)} → Inside item x → part_bytes item (part_in x) ≡ extract x
unfolding extract
inside_bytes (found p h t) = sym t
inside_bytes missing = refl
inside_bytes (refused_so n) = refl
