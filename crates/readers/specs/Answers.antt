-- What a reader answers: the thing read with the place after it, or refusal 6, "a code is not in the grammar".
use Rattle.std.specs.Prelude.{ℕ, Result, Ok, Err}
use Rattle.std.proofs.Math.Option.{Option}
use Rattle.paper.specs.Answers.{read_or}
use Rattle.paper.specs.declared.Refusal.{Refusal}
use Rattle.paper.specs.declared.Read.{Read}
use Rattle.codes.specs.declared.Plain.{Plain}
use Rattle.codes.specs.declared.Conversion.{Conversion}

abbrev pub read : {A : Type 0} → Option (A × ℕ) → Result (Read A) Refusal
read o = read_or Refusal.NotInGrammar o

-- a plain code is a code other than F
abbrev pub conversion_of : Result (Read Plain) Refusal → Result (Read Conversion) Refusal
conversion_of (Ok r) = Ok (record { value = Conversion.Plain r.value; next = r.next })
conversion_of (Err e) = Err e
