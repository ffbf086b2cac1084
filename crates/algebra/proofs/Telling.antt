-- What showing answers and writes, stage by stage: the tests of the A code, those of its F text, and the output. Assumes nothing.
use Rattle.std.specs.Prelude.{if◌then◌else◌}
use Prim.Native.Nat.{ℕ, ◌-◌, ◌≤◌, ◌<◌}
use native.Mathlib.Omega.{arith}
use native.Mathlib.Nat.{sub-zero}
use mathlib.Core.Path.{◌≡◌, refl, sym, ap, ◌∙◌}
use mathlib.Core.Bool.{Bool, true, false, true≢false, not}
use mathlib.Core.List.{[], ◌∷◌, ◌++◌, append-nil}
use mathlib.Core.Option.{Option, none, some}
use lib.ListN.{length, take, drop, replicate, length-take, length-append, length-replicate, drop_of_length-le}
use lib.Seq.{take_at}
use lib.Dec.{leb, eqb, lit<}
use borrow.Author.Tests.{le-leb, lt-leb, eq-eqb, ne_eqb, eqb-true}
use Rattle.paper.specs.Bytes.{Bytes, ch, any, buffer}
use Rattle.paper.specs.Sizes.{is_mark, code_most}
use Rattle.paper.specs.Grammar as paper
use Rattle.paper.specs.Checking.{Checked, accepted, faulty, check, checked_codes}
use Rattle.paper.specs.Refusals.{Res, given, refused, ◌>>◌, ◌>>=◌, answer_of, over_long_code, not_in_grammar}
use Rattle.std.specs.Prelude.{Result, Ok, Err, Some}
use Rattle.std.specs.Prelude.{Option as Maybe}
use Rattle.std.specs.Option.{option_eq}
use Rattle.paper.specs.Answers.{number_of, told, sized, length_in}
use Rattle.paper.specs.Converting.{fitted}
use Rattle.paper.specs.declared.Refusal.{Refusal}
use Rattle.judging.specs.Verdicts.{lawful, bad, verdict_of}
use Rattle.judging.specs.declared.Counts.{Counts}
use Rattle.lent.specs.Over as lent
use Rattle.lent.specs.Over.{over}
use Rattle.lent.proofs.Laws.{over_behind}
use Rattle.lent.proofs.Laying.{laid_behind, laid_read}
use Rattle.readers.specs.Places.{Peeked}
use Rattle.readers.proofs.Bytes.{left_none}
use Rattle.algebra.specs.Expressions.{Expression, elms_in, f_text}
use Rattle.algebra.specs.Grammar.{expression, algebra, read}
use Rattle.algebra.specs.Showing.{in_grammar, understood, spelt_out, lawful_text, shown_text, show}
use Rattle.algebra.specs.Laying.{Laid, Lays, laid, unread}
use Rattle.algebra.proofs.Ahead.{hit, miss}

-- an answer, and the front of the text it is in
abbrev pub Told : Res Bytes → Bytes → Result ℕ Refusal → Type 0
Told x text r = record { value : told r ≡ sized x; text_after : take (length_in r) text ≡ answer_of x }

-- what is told once the answer is taken apart
pub refused_is : (x : Res Bytes) (text : Bytes) {r : Result ℕ Refusal} {e : Refusal} → Told x text r → r ≡ Err e → x ≡ refused (number_of e)
refused_is x text {r} {e} t f = go x (sym (ap told f) ∙ t.value)
  where
    go : (x : Res Bytes) → refused (number_of e) ≡ sized x → x ≡ refused (number_of e)
    go (given bs) g = let z : ◌≡◌ {A = ℕ} 0 1 = cc in absurd (omega arith)
    go (refused n) g = cc

pub given_is : (x : Res Bytes) (text : Bytes) {r : Result ℕ Refusal} {n : ℕ} → Told x text r → r ≡ Ok n → (x ≡ given (take n text)) × (n ≤ length text)
given_is x text {r} {n} t f = go x (sym (ap told f) ∙ t.value) (sym (ap (λ (q : Result ℕ Refusal). take (length_in q) text) f) ∙ t.text_after)
  where
    go : (x : Res Bytes) → given n ≡ sized x → take n text ≡ answer_of x → (x ≡ given (take n text)) × (n ≤ length text)
    go (given bs) g h = let k : n ≡ length bs = cc in (ap given (sym h), omega (arith, length-take n text, ap length h))
    go (refused m) g h = let z : ◌≡◌ {A = ℕ} 0 1 = cc in absurd (omega arith)

-- as many as are told
size : Res ℕ → ℕ
size (given n) = n
size (refused n) = 0

length_size : (r : Result ℕ Refusal) → length_in r ≡ size (told r)
unfolding size
length_size (Ok n) = refl
length_size (Err e) = refl

algebra_of : (rest : Bytes) → algebra (ch "A" ∷ rest) ≡ expression (length rest) rest
unfolding algebra paper.this
algebra_of rest = refl

-- The tests of an A code.
module _ (code : Bytes) where
  pub spelt_long : code_most < length code → spelt_out code ≡ refused over_long_code
  unfolding spelt_out understood
  spelt_long h = rw (lt-leb (length code) code_most h)

  module _ (h : length code ≤ code_most) where
    spelt_read : (o : Option Expression) → read code ≡ o → spelt_out code ≡ in_grammar o >>= λ e. given (f_text e)
    unfolding spelt_out understood
    spelt_read o e = rw (le-leb (length code) code_most h, e)

    pub spelt_marked : any is_mark code ≡ true → spelt_out code ≡ refused not_in_grammar
    unfolding read
    spelt_marked e = spelt_read none (rw e)

    module _ (e : any is_mark code ≡ false) where
      pub spelt_first : {b n : ℕ} → Peeked code 0 b n → (b ≡ ch "A" → ⊥) → spelt_out code ≡ refused not_in_grammar
      unfolding read algebra paper.this
      spelt_first p f = spelt_read none (rw (e, miss p {c = ch "A"} (λ _. paper.gives (tt {0})) paper.fails f))

      module _ {b n : ℕ} (p : Peeked code 0 b n) (f : b ≡ ch "A") where
        -- what stands behind the `A`
        algebra_is : algebra code ≡ expression (length (drop n code)) (drop n code)
        algebra_is = ap algebra (hit p f (lit< tt)).0 ∙ algebra_of (drop n code)

        pub spelt_unread : expression (length (drop n code)) (drop n code) ≡ none → spelt_out code ≡ refused not_in_grammar
        unfolding read
        spelt_unread g = spelt_read none (rw (e, algebra_is, g))

        module _ {t u : Bytes} {l next end : ℕ} (x : Laid elms_in code n t l (expression (length (drop n code)) (drop n code)) next end u) where
          all_read_is : (t : Bool) → eqb next (length code) ≡ t → read code ≡ (if t then some x.thing else none)
          unfolding read
          all_read_is t g = rw (e, algebra_is, x.reads, left_none code next x.inside, g)

          pub spelt_more : (next ≡ length code → ⊥) → spelt_out code ≡ refused not_in_grammar
          spelt_more g = spelt_read none (all_read_is false (ne_eqb next (length code) g))

          pub spelt_whole : next ≡ length code → spelt_out code ≡ given (f_text x.thing)
          spelt_whole g = spelt_read (some x.thing) (all_read_is true (eq-eqb next (length code) g))

        -- an expression that ends with the code, laid behind an `F`; or none that does
        module _ {u w : Bytes} {l end : ℕ} {r : Maybe ℕ} (x : Lays elms_in code n u l (expression (length (drop n code)) (drop n code)) r w end) where
          pub spelt_otherwise : true ≡ not (option_eq eqb r (Some (length code))) → spelt_out code ≡ refused not_in_grammar
          spelt_otherwise g = go x g
            where
              go : {r : Maybe ℕ} → Lays elms_in code n u l (expression (length (drop n code)) (drop n code)) r w end
                  → true ≡ not (option_eq eqb r (Some (length code))) → spelt_out code ≡ refused not_in_grammar
              go (unread h) g = spelt_unread h
              go (laid {next = k} y) g = spelt_more y (λ same. true≢false (rw (eq-eqb k (length code) same) at g))

          pub spelt_so : {t : Bytes} → lent.Laid (ch "F" ∷ []) t l u 0 → end ≤ length t → false ≡ not (option_eq eqb r (Some (length code)))
              → spelt_out code ≡ given (take end w)
          unfolding f_text
          spelt_so f room g = go x g
            where
              whole : (k : ℕ) (q : Bool) → eqb k (length code) ≡ q → false ≡ not q → k ≡ length code
              whole k true h i = eqb-true k (length code) h
              whole k false h i = absurd (true≢false (sym i))

              go : {r : Maybe ℕ} → Lays elms_in code n u l (expression (length (drop n code)) (drop n code)) r w end
                  → false ≡ not (option_eq eqb r (Some (length code))) → spelt_out code ≡ given (take end w)
              go (unread h) g = absurd (true≢false (sym g))
              go (laid {next = k} y) g =
                  let text : take (end - 0) (drop 0 w) ≡ f_text y.thing = laid_read room (laid_behind f y.written (omega arith)) in
                  spelt_whole y (whole k (eqb k (length code)) refl g) ∙ ap given (sym (rw (sub-zero end) at text))

-- "5 if the F text would pass 512 bytes, 7 as the F text earns it": what the check says of it
module _ (text : Bytes) where
  lawful_short : leb (length text) code_most ≡ true → lawful_text text ≡ (checked_codes (check text) >> given text)
  unfolding lawful_text
  lawful_short f = rw f

  lawful_long : leb (length text) code_most ≡ false → lawful_text text ≡ refused over_long_code
  unfolding lawful_text
  lawful_long f = rw f

  check_long : leb (length text) code_most ≡ false → check text ≡ faulty over_long_code 0
  unfolding check
  check_long f = rw f

  lawful_check : (x : Checked) → check text ≡ x → lawful_text text ≡ (checked_codes x >> given text)
  unfolding checked_codes
  lawful_check x e = go (leb (length text) code_most) refl
    where
      go : (t : Bool) → leb (length text) code_most ≡ t → lawful_text text ≡ (checked_codes x >> given text)
      go true f = lawful_short f ∙ rw e
      go false f = lawful_long f ∙ ap (λ (c : Checked). checked_codes c >> given text) (sym (check_long f) ∙ e)

pub lawful_accepted : (text : Bytes) {counts : Counts} → lawful counts ≡ verdict_of (check text) → lawful_text text ≡ given text
unfolding verdict_of checked_codes
lawful_accepted text {counts} e = go (check text) refl e
  where
    go : (x : Checked) → check text ≡ x → lawful counts ≡ verdict_of x → lawful_text text ≡ given text
    go (accepted cs) g h = lawful_check text (accepted cs) g
    go (faulty n k) g h = let z : ◌≡◌ {A = ℕ} 0 1 = cc in absurd (omega arith)

pub lawful_refused : (text : Bytes) {number k : ℕ} → bad number k ≡ verdict_of (check text) → lawful_text text ≡ refused number
unfolding verdict_of checked_codes
lawful_refused text {number} {k} e = go (check text) refl e
  where
    go : (x : Checked) → check text ≡ x → bad number k ≡ verdict_of x → lawful_text text ≡ refused number
    go (accepted cs) g h = let z : ◌≡◌ {A = ℕ} 0 1 = cc in absurd (omega arith)
    go (faulty n j) g h = let same : n ≡ number = cc in lawful_check text (faulty n j) g ∙ ap refused same

-- the F text is judged where it stands
pub shown_refused : (code : Bytes) {n : ℕ} → refused n ≡ spelt_out code → refused n ≡ shown_text code
unfolding shown_text
shown_refused code e = rw (← e) refl

pub shown_is : (code : Bytes) {bs : Bytes} → given bs ≡ spelt_out code → lawful_text bs ≡ shown_text code
unfolding shown_text
shown_is code e = rw (← e) refl

-- An answer and its output: the answer and then zeros, zeros alone on a refusal.
abbrev pub Handed : ℕ → Res Bytes → Result ℕ Refusal → Bytes → Type 0
Handed room x r out = record { value : told r ≡ sized x; out_after : out ≡ buffer room (answer_of x) }

pub handed_refused : (room : ℕ) {x : Res Bytes} {out : Bytes} (e : Refusal) → x ≡ refused (number_of e) → out ≡ replicate room 0 → Handed room x (Err e) out
unfolding buffer
handed_refused room e f g = rw f (record { value = refl; out_after = g ∙ ap (λ (n : ℕ). replicate n 0) (sym (sub-zero room)) })

pub handed_short : (text : Bytes) {out : Bytes} (room : ℕ) → room < length text → out ≡ replicate room 0
    → Handed room (fitted room (given text)) (Err Refusal.ShortOutput) out
unfolding fitted
handed_short text room h f = handed_refused room {x = fitted room (given text)} Refusal.ShortOutput (rw (lt-leb (length text) room h)) f

pub handed_whole : (text before : Bytes) {out : Bytes} → length text ≤ length before
    → out ≡ over (over before 0 text) (length text) (replicate (length before - length text) 0)
    → Handed (length before) (fitted (length before) (given text)) (Ok (length text)) out
unfolding fitted buffer
handed_whole text before {out} h f =
    let zeros : Bytes = replicate (length before - length text) 0 in
    let none_left : length before ≤ length (text ++ zeros) = omega (arith, length-append text zeros, length-replicate {A = ℕ} (length before - length text) 0)
    in
    rw (le-leb (length text) (length before) h)
    (record {
      value = refl;
      out_after = f ∙ over_behind before text zeros (length text) refl ∙ rw (drop_of_length-le before none_left) (append-nil (text ++ zeros));
    })

pub show_refused : (code : Bytes) (room : ℕ) {out : Bytes} (e : Refusal) → refused (number_of e) ≡ shown_text code → out ≡ replicate room 0
    → Handed room (show code room) (Err e) out
unfolding show fitted
show_refused code room e f g = handed_refused room e (rw (← f) refl) g

pub show_given : (code text : Bytes) (room : ℕ) → given text ≡ shown_text code → show code room ≡ fitted room (given text)
unfolding show
show_given code text room e = rw (← e) refl

-- what was handed over stands in front of the output
pub handed_told : (room : ℕ) (x : Res Bytes) (r : Result ℕ Refusal) {out : Bytes} → Handed room x r out → Told x out r
unfolding buffer size
handed_told room x r h =
    record { value = h.value; text_after = rw (h.out_after, length_size r, h.value) (front x) }
  where
    front : (y : Res Bytes) → take (size (sized y)) (buffer room (answer_of y)) ≡ answer_of y
    front (given bs) = take_at bs (replicate (room - length bs) 0) (length bs) refl
    front (refused n) = refl
