-- Document 01, "Numbers that refusals carry", and document 02: the numbers by name, an answer that may be a refusal, and tests in their order.
use Rattle.std.specs.Prelude.{ℕ, Bool, true, false, []}
use Rattle.paper.specs.Bytes.{Bytes}

infixl 5 ◌>>=◌ ◌>>◌
infix 10 refuse◌unless◌ refuse◌when◌
abbrev pub over_long_record : ℕ
over_long_record = 1

abbrev pub bad_byte : ℕ
bad_byte = 2

abbrev pub bad_id : ℕ
bad_id = 3

abbrev pub bad_address : ℕ
bad_address = 4

abbrev pub over_long_code : ℕ
over_long_code = 5

abbrev pub not_in_grammar : ℕ
not_in_grammar = 6

abbrev pub stack_fault : ℕ
stack_fault = 7

abbrev pub short_scratch : ℕ
short_scratch = 8

abbrev pub over_long_entry : ℕ
over_long_entry = 9

abbrev pub out_of_range : ℕ
out_of_range = 10

abbrev pub zero_divisor : ℕ
zero_divisor = 11

abbrev pub not_convertible : ℕ
not_convertible = 12

abbrev pub mark_from_hex : ℕ
mark_from_hex = 13

abbrev pub wider_than_mask : ℕ
wider_than_mask = 14

abbrev pub over_budget : ℕ
over_budget = 15

abbrev pub short_output : ℕ
short_output = 16

abbrev pub mark_in_element : ℕ
mark_in_element = 17

-- document 02, L5: "new 18, left-over entries"
abbrev pub left_over_entries : ℕ
left_over_entries = 18

-- the last number of the table
abbrev pub last_refusal : ℕ
last_refusal = left_over_entries

-- an answer, or one refusal by its number
pub data Res (A : Type 0) : Type 0 where
  given : A → Res A
  refused : ℕ → Res A

abbrev pub ◌>>=◌ : {A B : Type 0} → Res A → (A → Res B) → Res B
given a >>= k = k a
refused n >>= k = refused n

abbrev pub ◌>>◌ : {A B : Type 0} → Res A → Res B → Res B
given a >> r = r
refused n >> r = refused n

-- "Given exactly when"
abbrev pub refuse◌unless◌ : ℕ → Bool → Res (Unit {0})
refuse n unless true = given tt
refuse n unless false = refused n

abbrev pub refuse◌when◌ : ℕ → Bool → Res (Unit {0})
refuse n when true = refused n
refuse n when false = given tt

-- "A number not given here, by any call, is 0"
abbrev pub refusal_of : {A : Type 0} → Res A → ℕ
refusal_of (given a) = 0
refusal_of (refused n) = n

-- the answer's bytes; none on a refusal
abbrev pub answer_of : Res Bytes → Bytes
answer_of (given bs) = bs
answer_of (refused n) = []
