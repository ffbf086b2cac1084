-- Document 01, "The record and its addresses" (marks) and "Sizes".
use Rattle.std.specs.Prelude.{ℕ, ◌*◌, Bool, ◌||◌, eqb}
use Rattle.paper.specs.Bytes.{within}

-- "segment 255, attribute 254, value 253, subvalue 252, buffer 251"
abbrev pub segment_mark : ℕ
segment_mark = 255

abbrev pub attribute_mark : ℕ
attribute_mark = 254

abbrev pub value_mark : ℕ
value_mark = 253

abbrev pub subvalue_mark : ℕ
subvalue_mark = 252

abbrev pub buffer_mark : ℕ
buffer_mark = 251

-- "a byte 251 to 255"
unfoldable pub is_mark : ℕ → Bool
is_mark b = within buffer_mark segment_mark b

-- "251 or 255", which no record holds
unfoldable pub is_outer_mark : ℕ → Bool
is_outer_mark b = eqb b buffer_mark || eqb b segment_mark

-- "252 or 253", which no id holds
unfoldable pub is_inner_mark : ℕ → Bool
is_inner_mark b = eqb b subvalue_mark || eqb b value_mark

-- "Record at most 32,768 bytes"
abbrev pub record_most : ℕ
record_most = 32_768

-- "id 0 to 48 (001, 2.2)"
abbrev pub id_most : ℕ
id_most = 48

-- "code string 512"
abbrev pub code_most : ℕ
code_most = 512

-- "any element, stack entry or step result 1,024": shut, so that the laws are proved over it
unfoldable pub entry_most : ℕ
entry_most = 1_024

-- "stack 16 entries"
abbrev pub stack_most : ℕ
stack_most = 16

-- "scratch at least 20,480": 20 entries
unfoldable pub scratch_least : ℕ
scratch_least = 20 * entry_most

-- "a 0 to 999; v and s 0 to 32,768"
abbrev pub attribute_most : ℕ
attribute_most = 999

abbrev pub position_most : ℕ
position_most = 32_768

-- "numbers from -999,999,999,999,999 to 999,999,999,999,999": 15 digits
abbrev pub number_digits : ℕ
number_digits = 15

abbrev pub number_most : ℕ
number_most = 999_999_999_999_999
