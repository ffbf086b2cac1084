-- Document 02, L4: the refusals of showing an A code as F, in their order, and what its F text answers at an address.
use Rattle.std.specs.Prelude.{ℕ, List, [], ◌∷◌, ◌++◌, length, leb}
use Rattle.std.proofs.Math.Option.{Option, none, some}
use Rattle.paper.specs.Bytes.{Bytes}
use Rattle.paper.specs.Sizes.{code_most}
use Rattle.paper.specs.Checking.{check, checked_codes}
use Rattle.paper.specs.Converting.{Element, fitted}
use Rattle.paper.specs.Refusals.{Res, given, refused, ◌>>=◌, ◌>>◌, refuse◌unless◌, over_long_code, not_in_grammar}
use Rattle.algebra.specs.Expressions.{Expression, value, f_text}
use Rattle.algebra.specs.Grammar.{read}

abbrev pub in_grammar : Option Expression → Res Expression
in_grammar none = refused not_in_grammar
in_grammar (some e) = given e

-- "5 for an A code over 512, 6 if not an expression .."
unfoldable pub understood : Bytes → Res Expression
understood code = do
  refuse over_long_code unless leb (length code) code_most
  in_grammar (read code)

-- the F text that it stands for, however long
unfoldable pub spelt_out : Bytes → Res Bytes
spelt_out code = understood code >>= λ e. given (f_text e)

-- ".. 5 if the F text would pass 512 bytes, 7 as the F text earns it ..": the check tries 5 too, and it stands here as the paper has it
unfoldable pub lawful_text : Bytes → Res Bytes
lawful_text text = do
  refuse over_long_code unless leb (length text) code_most
  checked_codes (check text)
  given text

unfoldable pub shown_text : Bytes → Res Bytes
shown_text code = spelt_out code >>= lawful_text

-- ".. 16, in that order"
unfoldable pub show : Bytes → ℕ → Res Bytes
show code room = fitted room (shown_text code)

-- what an expression answers at an address: its values with the marks between, or the first refusal
unfoldable pub values : ℕ → Bytes → Expression → List Element → Res Bytes
values most item e [] = given []
values most item e (x ∷ xs) = do
  here ← value most item x.v x.s e
  rest ← values most item e xs
  given (x.before ++ here ++ rest)
