-- Document 02, L2, said of the very contract of `sundewfrill_convert`, of any two outcomes that it allows: "a number and its negative show the same
-- digits before fill whenever both are converted", by any ML or MR code. Assumes nothing.
use Prim.Native.Nat.{ℕ, ◌≤◌}
use mathlib.Core.Path.{◌≡◌, sym, ap, ◌∙◌}
use mathlib.Core.List.{List, [], ◌∷◌}
use native.Mathlib.Omega.{arith}
use lib.ListN.{length, take}
use contract.Lifetimes.{Lfts}
use Rattle.paper.specs.Bytes.{Bytes}
use Rattle.paper.specs.Sizes.{entry_most}
use Rattle.paper.specs.Refusals.{given, refused, refusal_of, answer_of, out_of_range}
use Rattle.paper.specs.Codes.{Mask, Conversion, Code}
use Rattle.paper.specs.Checking.{accepted, check}
use Rattle.paper.specs.Masks.{mask_gives}
use Rattle.paper.specs.Steps.{conversion_gives}
use Rattle.paper.specs.Converting.{Element, Outcome, elements, ready, convert, output_after}
use Rattle.paper.proofs.Alone.{Pieces, converted_pieces, refused_alone, refused_by_code}
use Rattle.paper.proofs.Numbered.{told_refused}
use Rattle.paper.proofs.Symmetry.{Opposite, Answers, out_of_range_alike, pieces_mirrored}
use Rattle.sundewfrill.proofs.Demands.{zero_answered}
use Rattle.sundewfrill.proofs.Rereading.{first_bytes}
use Rattle.sundewfrill.proofs.sundewfrill_convert.Reads as convert_call

-- One call.
module _ (κs : Lfts 5) (args : _) (r : _) (exits : _) (post : convert_call.Post κs args r exits) where
  -- what it was given
  abbrev item : Bytes
  item = args.0.now

  abbrev code : Bytes
  code = args.1.0.now

  abbrev room : ℕ
  room = length args.1.1.0.now

  abbrev scratch : ℕ
  scratch = length args.1.1.1.0.now

  abbrev a : ℕ
  a = args.1.1.1.1.0

  abbrev v : ℕ
  v = args.1.1.1.1.1.0

  abbrev s : ℕ
  s = args.1.1.1.1.1.1.0

  abbrev budget : ℕ
  budget = args.1.1.1.1.1.1.1.0

  -- the elements that it takes
  abbrev pub taken : List Element
  taken = elements item a v s

  -- the answer that it leaves: the first bytes of the output, as many as the length told
  abbrev pub answer : Bytes
  answer = take exits.1.1.1.1.1.1.1.1.1.0.now exits.1.1.0.now

  -- its string is one ML or MR code, with this mask
  abbrev pub Masked : Mask → Type 0
  Masked k = check code ≡ accepted (Code.single (Conversion.mask k) ∷ [])

  -- and nothing refuses it before the run
  abbrev pub Begins : Mask → Type 0
  Begins k = ready item code a v s scratch ≡ given (Code.single (Conversion.mask k) ∷ [])

  abbrev outcome : Outcome
  outcome = convert item code a v s budget room scratch

  answered : r ≡ 0 → outcome.answer ≡ given answer
  unfolding output_after
  answered z =
      let (bs, e) = zero_answered κs args r exits post z in
      let left : answer ≡ answer_of outcome.answer = rw (post.1.1.0, post.1.1.1.0) (first_bytes room outcome.answer) in
      e ∙ ap given (sym (left ∙ ap answer_of e))

  pieces : (k : Mask) → Masked k → r ≡ 0 → Pieces (Conversion.mask k) taken answer
  pieces k coded z = converted_pieces item code a v s budget room scratch (Conversion.mask k) coded (answered z)

  -- of one element within the limit it returns 10 exactly where the code refuses it so
  module _ (k : Mask) (begins : Begins k) (e : Element) (one : taken ≡ e ∷ []) (short : length e.text ≤ entry_most) where
    ten_by_code : r ≡ out_of_range → mask_gives k e.text ≡ refused out_of_range
    unfolding conversion_gives
    ten_by_code h =
        refused_by_code item code a v s budget room scratch (Conversion.mask k) e begins one short out_of_range (omega arith) (omega arith)
        (told_refused outcome.answer 9 (sym post.0 ∙ h))

    ten_returned : mask_gives k e.text ≡ refused out_of_range → r ≡ out_of_range
    unfolding conversion_gives
    ten_returned h = post.0 ∙ ap refusal_of (refused_alone item code a v s budget room scratch (Conversion.mask k) e begins one short out_of_range h)

-- Two calls.
module _ (κs : Lfts 5) (args : _) (r : _) (exits : _) (post : convert_call.Post κs args r exits)
    (κs' : Lfts 5) (args' : _) (r' : _) (exits' : _) (post' : convert_call.Post κs' args' r' exits') (k : Mask) where
  -- by one ML or MR code, of as many elements each, both of which return 0: each answer is what the code gives, element for element, and where a number
  -- stands in the one and its negative in the other, the two show the same digits, point and commas before fill
  pub shown_alike : Masked κs args r exits post k → Masked κs' args' r' exits' post' k
      → length (taken κs args r exits post) ≡ length (taken κs' args' r' exits' post') → r ≡ 0 → r' ≡ 0
      → Answers k (taken κs args r exits post) (taken κs' args' r' exits' post') (answer κs args r exits post) (answer κs' args' r' exits' post')
  shown_alike coded coded' many z z' =
      pieces_mirrored k many (pieces κs args r exits post k coded z) (pieces κs' args' r' exits' post' k coded' z')

  -- and of one element each, within the limit, the one a number and the other its negative, where both calls come to the run: both return 10 or neither
  pub both_out_of_range : Begins κs args r exits post k → Begins κs' args' r' exits' post' k → (e e' : Element)
      → taken κs args r exits post ≡ e ∷ [] → taken κs' args' r' exits' post' ≡ e' ∷ [] → length e.text ≤ entry_most → length e'.text ≤ entry_most
      → Opposite e.text e'.text → (r ≡ out_of_range → r' ≡ out_of_range) × (r' ≡ out_of_range → r ≡ out_of_range)
  both_out_of_range begins begins' e e' one one' short short' o =
      let alike = out_of_range_alike k o in (
        λ h. ten_returned κs' args' r' exits' post' k begins' e' one' short' (alike.0 (ten_by_code κs args r exits post k begins e one short h)),
        λ h. ten_returned κs args r exits post k begins e one short (alike.1 (ten_by_code κs' args' r' exits' post' k begins' e' one' short' h)),
      )
