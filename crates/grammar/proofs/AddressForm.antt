-- A typed address: read by place it is what the paper reads, and the whole text must be read.
use Rattle.std.specs.Prelude.{if◌then◌else◌}
use Prim.Native.Nat.{ℕ}
use mathlib.Core.Path.{◌≡◌, refl}
use mathlib.Core.Option.{Option, none, some}
use lib.ListN.{length}
use lib.Dec.{eqb}
use native.Mathlib.Omega.{arith}
use Rattle.paper.specs.Bytes.{Bytes}
use Rattle.paper.specs.Grammar as paper
use Rattle.paper.specs.Program.{address_form}
use Rattle.paper.specs.Program as program
use Rattle.paper.specs.declared.Address.{Address}
use Rattle.readers.specs.Places.{Placed, follow, this, numeral}
use Rattle.grammar.specs.Addresses.{another, address}
use Rattle.readers.proofs.Agreement.{Agree, neither, both, Agrees, gives_agrees, follow_agrees, numeral_agrees, this_agrees}
use Rattle.readers.proofs.Bytes.{left_none}

-- the code's address is the paper's
abbrev address_of : Address → program.Address
address_of p = record { a = p.a; v = p.v; s = p.s }

module _ {s : Bytes} {low : ℕ} where
  another_agrees : {k : ℕ → Placed Address} {k' : ℕ → paper.Reader program.Address} → ((v : ℕ) → Agrees address_of s low (k v) (k' v))
      → Agrees address_of s low (λ s n. follow (another s n) k s) (λ bs. paper.follow (paper.this 44 bs) (λ _ bs. paper.follow (paper.numeral 4 bs) k'))
  another_agrees {k} {k'} h =
      record { at = λ n l u. rw (nested (this 44 s n)) (on.at n l u) }
    where
      nested : (o : Option (Unit {0} × ℕ)) → follow (follow o (λ _. numeral 4) s) k s ≡ follow o (λ _ s n. follow (numeral 4 s n) k s) s
      nested none = refl
      nested (some r) = refl

      on : Agrees address_of s low (λ s n. follow (this 44 s n) (λ _ s n. follow (numeral 4 s n) k s) s) (λ bs. paper.follow (paper.this 44 bs) (λ _ bs. paper.follow (paper.numeral 4 bs) k'))
      on = follow_agrees _ _ (this_agrees 44 tt) (λ _. follow_agrees k k' (numeral_agrees 4) h)

  address_agrees : Agrees address_of s low address address_form
  unfolding address address_form
  address_agrees = follow_agrees _ _ (numeral_agrees 4) (λ a. another_agrees (λ v. another_agrees (λ n. gives_agrees (record { a = a; v = v; s = n }))))

-- "three numbers": all of the text, or another form
abbrev pub all_of : ℕ → Option (Address × ℕ) → Option program.Address
all_of size none = none
all_of size (some r) = if eqb r.1 size then some (address_of r.0) else none

pub address_is : (s : Bytes) → paper.all_read (address_form s) ≡ all_of (length s) (address s 0)
address_is s = go (address_agrees.at 0 (omega arith) (omega arith))
  where
    go : {x : Option (Address × ℕ)} {y : Option (program.Address × Bytes)} → Agree address_of s 0 x y → paper.all_read y ≡ all_of (length s) x
    go neither = refl
    go (both p n l u) = rw (left_none s n u)
