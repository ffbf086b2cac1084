-- Document 02, L4, said of the very contracts: `sundewfrill_convert` on the F text that `sundewfrill_algebra` wrote answers the value of the expression,
-- or that same refusal; and `sundewfrill_check` accepts that text. Assumes nothing.
use Prim.Native.Nat.{ℕ, ◌≤◌}
use native.Mathlib.Omega.{arith}
use mathlib.Core.Path.{◌≡◌, refl, sym, ap, ◌∙◌}
use mathlib.Core.Option.{Option}
use lib.ListN.{length, take}
use contract.Lifetimes.{Lfts}
use Rattle.paper.specs.Bytes.{Bytes, buffer}
use Rattle.paper.specs.Sizes.{entry_most, scratch_least}
use Rattle.paper.specs.Refusals.{Res, given, refused, ◌>>◌, refusal_of, answer_of}
use Rattle.paper.specs.Records.{Part, place, find}
use Rattle.paper.specs.Checking.{check, report}
use Rattle.paper.specs.Converting.{elements, lawful_place, fitted, convert_freely, output_after}
use Rattle.paper.proofs.Predicates.{All}
use Rattle.records.proofs.Refusing.{Told, fine, told, told_record, told_address}
use Rattle.algebra.specs.Expressions.{Expression, value, f_text as f_text_of}
use Rattle.algebra.specs.Showing.{understood, show, values}
use Rattle.algebra.proofs.Meaning.{Within, Shown, Refusal, shown_code, shown_means, show_refusal, show_answered, value_at}
use Rattle.sundewfrill.specs.Numbers.{answer_length}
use Rattle.sundewfrill.proofs.Demands.{budget_changes_nothing}
use Rattle.sundewfrill.proofs.Rereading.{first_bytes}
use Rattle.sundewfrill.proofs.sundewfrill_find.Reads as find_call
use Rattle.sundewfrill.proofs.sundewfrill_check.Reads as check_call
use Rattle.sundewfrill.proofs.sundewfrill_convert.Reads as convert_call
use Rattle.sundewfrill.proofs.sundewfrill_algebra.Reads as algebra_call

-- a record and an address that finding accepts
find_accepts : (item : Bytes) (a v s : ℕ) → refusal_of (find item a v s) ≡ 0 → lawful_place item a v s ≡ given tt
unfolding find lawful_place
find_accepts item a v s = go (place item a v s) (told_record item) (told_address a v s)
  where
    go : {x y : Res (Unit {0})} (o : Option Part) → Told x → Told y → refusal_of (x >> (y >> given o)) ≡ 0 → (x >> y) ≡ given tt
    go o fine fine z = refl
    go o fine (told n) z = absurd (omega arith)
    go o (told n) t z = absurd (omega arith)

-- Of `sundewfrill_algebra`.
module _ (κs : Lfts 3) (args : _) (r : _) (exits : _) (post : algebra_call.Post κs args r exits) where
  -- what it was given, and the F text that it wrote
  abbrev code : Bytes
  code = args.0.now

  abbrev room : ℕ
  room = length args.1.0.now

  abbrev f_text : Bytes
  f_text = take exits.1.1.0.now exits.1.0.now

  -- a refusal is 5, 6, 7 or 16, and returned as it is
  pub algebra_refusal : (n : ℕ) → show code room ≡ refused n → (r ≡ n) × Refusal n
  algebra_refusal n e = (post.0 ∙ ap refusal_of e, show_refusal code room n e)

  -- where it returned 0, the F text is the answer
  module _ (answered : r ≡ 0) where
    pub algebra_showed : show code room ≡ given f_text
    algebra_showed =
        let (text, e) = show_answered code room (sym post.0 ∙ answered) in
        let same : f_text ≡ answer_of (show code room) = rw (post.1.0, post.1.1) (first_bytes room (show code room)) in
        e ∙ ap given (sym (ap answer_of e) ∙ sym same)

    abbrev showed : Shown code f_text
    showed = shown_code code room f_text algebra_showed

    -- the expression of the A code
    abbrev formula : Expression
    formula = showed.expression

    pub algebra_understood : understood code ≡ given formula
    algebra_understood = showed.is_read

    -- and what was written is its F text
    pub algebra_text : f_text ≡ f_text_of formula
    algebra_text = showed.in_F

    -- beside what `sundewfrill_check` gave on that text: it is accepted
    pub algebra_accepted : (κs' : Lfts 6) (args' : _) (r' : _) (exits' : _) → check_call.Post κs' args' r' exits' → args'.0.now ≡ f_text → r' ≡ 0
    unfolding report
    algebra_accepted κs' args' r' exits' checked same = checked.0 ∙ ap (λ (b : Bytes). (report (check b)).refusal) same ∙ rw showed.checked

    -- beside what `sundewfrill_convert` gave on that text, where `sundewfrill_find` returned 0 on the same record and address
    module _ (κs' : Lfts 5) (args' : _) (r' : _) (exits' : _) (converted : convert_call.Post κs' args' r' exits') (same_text : args'.1.0.now ≡ f_text)
        (κs'' : Lfts 4) (args'' : _) (r'' : _) (exits'' : _) (found : find_call.Post κs'' args'' r'' exits'') (same_item : args''.0.now ≡ args'.0.now)
        (same_a : args''.1.0 ≡ args'.1.1.1.1.0) (same_v : args''.1.1.0 ≡ args'.1.1.1.1.1.0)
        (same_s : args''.1.1.1.0 ≡ args'.1.1.1.1.1.1.0) (accepted : r'' ≡ 0) where
      abbrev item : Bytes
      item = args'.0.now

      abbrev output : ℕ
      output = length args'.1.1.0.now

      abbrev scratch : ℕ
      scratch = length args'.1.1.1.0.now

      abbrev a : ℕ
      a = args'.1.1.1.1.0

      abbrev v : ℕ
      v = args'.1.1.1.1.1.0

      abbrev s : ℕ
      s = args'.1.1.1.1.1.1.0

      lawful : lawful_place item a v s ≡ given tt
      lawful = find_accepts item a v s (rw (← same_item, ← same_a, ← same_v, ← same_s) (sym found.0 ∙ accepted))

      -- no element is over-long, the scratch is enough, and so is the budget
      module _ (short : All (Within entry_most) (elements item a v s)) (enough : scratch_least ≤ scratch)
          (paid : (convert_freely item f_text a v s output scratch).steps ≤ args'.1.1.1.1.1.1.1.0) where
        -- the values with the marks between, or the refusal of the first element that has one; 16 where they do not fit
        abbrev answer : Res Bytes
        answer = fitted output (values entry_most item formula (elements item a v s))

        pub algebra_means : (r' ≡ refusal_of answer) × (exits'.1.1.1.1.1.1.1.1.1.0.now ≡ answer_length answer)
            × (exits'.1.1.0.now ≡ buffer output (answer_of answer))
        unfolding output_after
        algebra_means =
            let free = budget_changes_nothing κs' args' r' exits' converted (rw same_text paid) in
            let means : (convert_freely item args'.1.0.now a v s output scratch).answer ≡ answer =
            rw same_text (shown_means code room f_text algebra_showed item a v s lawful short output scratch enough) in
            (free.0 ∙ ap refusal_of means, free.2 ∙ ap answer_length means, free.3 ∙ ap (λ (x : Res Bytes). buffer output (answer_of x)) means)

        -- at one position that is the value itself
        pub algebra_means_at : 1 ≤ v → 1 ≤ s → answer ≡ fitted output (value entry_most item v s formula)
        algebra_means_at h k = ap (fitted output) (value_at entry_most item formula a v s h k)
