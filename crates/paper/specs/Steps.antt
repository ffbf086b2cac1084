-- Document 01, "What each code gives" (F) and "Steps", and document 02, L1: a step, its cost, and the run of one element.
use Rattle.std.specs.Prelude.{ℕ, zero, suc, ◌+◌, ◌*◌, List, [], ◌∷◌, ◌++◌, length, take, drop, leb, if◌then◌else◌}
use Rattle.paper.specs.Bytes.{Bytes}
use Rattle.paper.specs.Records.{Turn, path, reads}
use Rattle.paper.specs.Numbers.{binary_gives, substring_gives}
use Rattle.paper.specs.Codes.{Conversion, Repeat, Operand, Elm, Code, Kind}
use Rattle.paper.specs.Checking.{conversion_kind, shape, stacked}
use Rattle.paper.specs.Texts.{plain_gives}
use Rattle.paper.specs.Masks.{mask_gives}
use Rattle.paper.specs.Dates.{date_gives}
use Rattle.paper.specs.Patterns.{patterns_give}
use Rattle.paper.specs.Refusals.{
  Res,
  given,
  refused,
  ◌>>=◌,
  ◌>>◌,
  refuse◌unless◌,
  stack_fault,
  over_long_entry,
}

-- A run: it is done with an answer, it stops with a refusal, or it has completed a step of this cost and goes on.
pub data Run (A : Type 0) : Type 0 where
  done : A → Run A
  stop : ℕ → Run A
  step : ℕ → Run A → Run A

-- a run, and what goes on from its answer
unfoldable pub onward : {A B : Type 0} → Run A → (A → Run B) → Run B
onward (done a) k = k a
onward (stop n) k = stop n
onward (step cost r) k = step cost (onward r k)

-- a step's cost and outcome, or its own refusal, and what goes on from there
unfoldable pub stepped : {A B : Type 0} → Res (ℕ × A) → (A → Run B) → Run B
stepped (refused n) k = stop n
stepped (given r) k = step r.0 (k r.1)

-- What a step sees besides the stack: the record, the element's own position, and the element given to this code.
pub record Setting : Type 0 where
  pub item : Bytes
  pub v : ℕ
  pub s : ℕ
  pub previous : Bytes

-- what a code other than F gives on an element
unfoldable pub conversion_gives : Conversion → Bytes → Res Bytes
conversion_gives (Conversion.plain p) e = plain_gives p e
conversion_gives (Conversion.mask k) e = mask_gives k e
conversion_gives (Conversion.date n s) e = date_gives n s e
conversion_gives (Conversion.patterns ps) e = given (patterns_give ps e)

-- "`n` loads (n,v,s), `nR` loads (n,1,s), `nRR` loads (n,1,1); attribute 0 is always the id"
unfoldable pub load_path : ℕ → Repeat → ℕ → ℕ → List Turn
load_path zero r v s = path 0 0 0
load_path (suc n) Repeat.each v s = path (suc n) v s
load_path (suc n) Repeat.first_value v s = path (suc n) 1 s
load_path (suc n) Repeat.first_subvalue v s = path (suc n) 1 1

-- "LPV loads the element given to this code." "A literal is read from the code string and an attribute from the record"
unfoldable pub operand : Setting → Operand → Bytes
operand c (Operand.attribute n r) = reads c.item (load_path n r c.v c.s)
operand c (Operand.literal bs) = bs
operand c Operand.previous = c.previous

-- the top entry, the top two, the top three
abbrev pub on_one : (Bytes → Res (List Bytes)) → List Bytes → Res (List Bytes)
on_one f [] = refused stack_fault
on_one f (x ∷ xs) = f x

abbrev pub on_two : (Bytes → Bytes → Res (List Bytes)) → List Bytes → Res (List Bytes)
on_two f [] = refused stack_fault
on_two f (x ∷ xs) = on_one (f x) xs

abbrev pub on_three : (Bytes → Bytes → Bytes → Res (List Bytes)) → List Bytes → Res (List Bytes)
on_three f [] = refused stack_fault
on_three f (x ∷ xs) = on_two (f x) xs

unfoldable pub bytes_in : List Bytes → ℕ
bytes_in [] = 0
bytes_in (x ∷ xs) = length x + bytes_in xs

-- what a step is charged beside the bytes it puts and 1, on a record of this length, where it takes so many bytes:
-- "1 + record length + element length", "1 + T x (element length + 1) + bytes put" (document 02, L1), "1 + the bytes it takes + the bytes it puts"
unfoldable pub charged : Kind → ℕ → ℕ → ℕ
charged Kind.loading size taken = size
charged (Kind.testing t) size taken = t * (taken + 1)
charged Kind.other size taken = taken

unfoldable pub price : Kind → Bytes → List Bytes → List Bytes → ℕ
price kind item taken put = 1 + charged kind (length item) (bytes_in taken) + bytes_in put

-- "1,025 + R", "T x 1,025 + 1,025" and "4,097": the most that a step can cost, where an entry has at most so many bytes and the record this length
unfoldable pub step_ceiling : ℕ → ℕ → Kind → ℕ
step_ceiling most size Kind.loading = 1 + most + size
step_ceiling most size (Kind.testing t) = t * (1 + most) + (1 + most)
step_ceiling most size Kind.other = 1 + 4 * most

-- "An F code's answer is the top entry."
unfoldable pub top_entry : List Bytes → Run Bytes
top_entry [] = stop stack_fault
top_entry (x ∷ xs) = done x

-- Over the limit on an element, entry or result: `most` is 1,024 in converting.
module _ (most : ℕ) where
  -- refusal 9: "element, entry or result over 1,024"
  unfoldable pub limited : Res Bytes → Res Bytes
  limited r = do
    bs ← r
    refuse over_long_entry unless leb (length bs) most
    given bs

  abbrev pub one_entry : Res Bytes → Res (List Bytes)
  one_entry r = limited r >>= λ x. given (x ∷ [])

  -- the entries that an elm puts, the top one first
  unfoldable pub elm_puts : Setting → Elm → List Bytes → Res (List Bytes)
  elm_puts c (Elm.push o) stack = one_entry (given (operand c o))
  elm_puts c (Elm.binary o) stack = on_two (λ top second. one_entry (binary_gives o second top)) stack
  elm_puts c Elm.substring stack = on_three (λ top second third. one_entry (substring_gives third second top)) stack
  elm_puts c Elm.exchange stack = on_two (λ top second. given (second ∷ top ∷ [])) stack
  elm_puts c Elm.duplicate stack = on_one (λ top. given (top ∷ top ∷ [])) stack
  elm_puts c (Elm.convert k) stack = on_one (λ top. one_entry (conversion_gives k top)) stack

  -- one F elm: its cost and the stack after it
  unfoldable pub elm_step : Setting → Elm → List Bytes → Res (ℕ × List Bytes)
  elm_step c e stack = do
    stacked e (length stack)
    put ← elm_puts c e stack
    given (price (shape e).kind c.item (take (shape e).takes stack) put, put ++ drop (shape e).takes stack)

  -- one code other than F: its cost and what it gives
  unfoldable pub conversion_step : Setting → Conversion → Res (ℕ × Bytes)
  conversion_step c k = do
    put ← limited (conversion_gives k c.previous)
    given (price (conversion_kind k) c.item (c.previous ∷ []) (put ∷ []), put)

  -- elms in turn, from a stack to the stack that they leave
  unfoldable pub elms_run : Setting → List Elm → List Bytes → Run (List Bytes)
  elms_run c [] stack = done stack
  elms_run c (e ∷ es) stack = stepped (elm_step c e stack) (λ after. elms_run c es after)

  -- "F starts with an empty stack."
  unfoldable pub code_run : Setting → Code → Run Bytes
  code_run c (Code.function es) = onward (elms_run c es []) top_entry
  code_run c (Code.single k) = stepped (conversion_step c k) done

  -- "Each element goes through the codes in order."
  unfoldable pub codes_run : Bytes → ℕ → ℕ → List Code → Bytes → Run Bytes
  codes_run item v s [] e = done e
  codes_run item v s (c ∷ cs) e =
      onward (code_run (record { item = item; v = v; s = s; previous = e }) c) (λ r. codes_run item v s cs r)

  -- "The run refuses 9 before the first step of an over-long element, also when there are no codes."
  unfoldable pub element_run : Bytes → ℕ → ℕ → List Code → Bytes → Run Bytes
  element_run item v s cs e = if leb (length e) most then codes_run item v s cs e else stop over_long_entry
