-- What one whole code begins with, the elms behind an `F;`, and where a code of a string ends.
use Rattle.std.specs.Prelude.{ℕ, suc, List, [], ◌∷◌, length, drop, eqb, if◌then◌else◌, Result, Ok, Err}
use Rattle.std.proofs.Math.Option.{Option, none, some}
use Rattle.paper.specs.Bytes.{Bytes, ch}
use Rattle.paper.specs.Sizes.{value_mark}
use Rattle.paper.specs.declared.Refusal.{Refusal}
use Rattle.paper.specs.Codes as paper
use Rattle.paper.specs.Grammar.{elms, all_read}
use Rattle.codes.specs.declared.Conversion.{Conversion}
use Rattle.readers.specs.Places.{byte_at}
use Rattle.readers.specs.Reading.{conversion}
use Rattle.grammar.specs.declared.Head.{Head}

-- what one whole code begins with: `F;` and the place of the first elm, or all of it
abbrev pub whole : ℕ → Option (Conversion × ℕ) → Option Head
whole size none = none
whole size (some r) = if eqb r.1 size then some (Head.Single r.0) else none

unfoldable pub head : Bytes → Option Head
head s =
    if eqb (ch "F") (byte_at s 0)
    then (if eqb (ch ";") (byte_at s 1) then some (Head.Function 2) else none)
    else whole (length s) (conversion s 0)

-- what the code begins with, or refusal 6, "a code is not in the grammar"
abbrev pub head_read : Option Head → Result Head Refusal
head_read none = Err Refusal.NotInGrammar
head_read (some h) = Ok h

-- the elms from a place to the end of the code
unfoldable pub elms_from : Bytes → ℕ → Option (List paper.Elm)
elms_from s at = all_read (elms (drop at s))

-- where the code that begins at `at`, with these bytes, ends: at the next byte 253, or with them
unfoldable pub code_end : Bytes → ℕ → ℕ
code_end [] at = at
code_end (b ∷ bs) at = if eqb b value_mark then at else code_end bs (suc at)
