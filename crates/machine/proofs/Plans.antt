-- What a plan says of an accepted string: where it is a single code, every element's run is the one step of that code. Assumes nothing.
use Rattle.std.specs.Prelude.{if◌then◌else◌, Some, None}
use Rattle.std.specs.Prelude.{Option as Maybe}
use Rattle.std.specs.Bool.{then_some}
use mathlib.Core.Path.{◌≡◌, refl, ap, ◌∙◌}
use mathlib.Core.Bool.{Bool, true, false}
use mathlib.Core.List.{[], ◌∷◌}
use mathlib.Core.Option.{Option, none, some}
use Prim.Native.Nat.{ℕ, ◌-◌, ◌≤◌}
use native.Mathlib.Omega.{arith}
use lib.ListN.{length}
use lib.Seq.{take_all}
use lib.Dec.{eqb}
use borrow.Author.Tests.{eqb-true}
use Rattle.paper.specs.Bytes.{Bytes}
use Rattle.paper.specs.Sizes.{code_most, entry_most}
use Rattle.paper.specs.Refusals.{Res, given, refused}
use Rattle.paper.specs.Records.{split}
use Rattle.paper.specs.Checking.{judged, judged_all, Checked, accepted, in_turn}
use Rattle.paper.specs.Steps.{Run, onward, conversion_gives, charged, limited, codes_run}
use Rattle.codes.specs.declared.Conversion.{Conversion}
use Rattle.codes.specs.Meaning.{conversion_of}
use Rattle.codes.specs.Counting.{kind_of}
use Rattle.grammar.specs.declared.Head.{Head}
use Rattle.grammar.specs.Heads.{head, code_end}
use Rattle.grammar.proofs.Cuts.{split_last}
use Rattle.steps.specs.declared.Position.{Position}
use Rattle.giving.specs.Bounds.{ConversionWithin}
use Rattle.steps.specs.Stepping.{setting}
use Rattle.machine.specs.Runs.{converting, JudgedWell, checked_run, Accepted}
use Rattle.machine.specs.Plans.{planned, plan_of}
use Rattle.machine.proofs.CodeRuns.{single_code, single_within}
use Rattle.machine.proofs.Parts.{accepted_parts, first_run}

-- the plan, way by way
module _ (string : Bytes) where
  pub plan_function : {first : ℕ} → head string ≡ some (Head.Function first) → None ≡ plan_of string
  unfolding plan_of planned
  plan_function f = rw f

  pub plan_bad : head string ≡ none → None ≡ plan_of string
  unfolding plan_of planned
  plan_bad f = rw f

  pub plan_single : {c : Conversion} {end : ℕ} {plan : Maybe Conversion} → head string ≡ some (Head.Single c) → end ≡ code_end string 0
      → plan ≡ then_some (eqb end (length string)) c → plan ≡ plan_of string
  unfolding plan_of planned
  plan_single {c} {end} {plan} f g e = rw (f, ← g, e) (go (eqb end (length string)))
    where
      go : (t : Bool) → then_some t c ≡ (if t then Some c else None)
      go true = refl
      go false = refl

-- the answer of a single code is that of the string, with no code after it
last_run : (item : Bytes) (place : Position) (taken : ℕ) (x : Res Bytes)
    → onward (converting taken x) (λ (r : Bytes). checked_run item place (accepted []) r) ≡ converting taken x
unfolding onward converting checked_run codes_run
last_run item place taken (refused n) = refl
last_run item place taken (given bs) = refl

module _ {c : Conversion} (string : Bytes) (ready : Accepted (judged_all 1 (split 253 string))) (short : length string ≤ code_most) (e : Some c ≡ plan_of string) where
  -- no mark parts it
  alone : (head string ≡ some (Head.Single c)) × (code_end string 0 ≡ length string)
  unfolding plan_of planned
  alone = go (head string) refl e
    where
      go : (h : Option Head) → head string ≡ h → Some c ≡ planned string h → (head string ≡ some (Head.Single c)) × (code_end string 0 ≡ length string)
      go (some (Head.Function first)) f g = let z : ◌≡◌ {A = ℕ} 0 1 = cc in absurd (omega arith)
      go (some (Head.Single k)) f g = pick (eqb (code_end string 0) (length string)) refl g
        where
          pick : (t : Bool) → eqb (code_end string 0) (length string) ≡ t → Some c ≡ (if t then Some k else None)
              → (head string ≡ some (Head.Single c)) × (code_end string 0 ≡ length string)
          pick true q g = let same : k ≡ c = cc in (f ∙ ap (λ (x : Conversion). some (Head.Single x)) same, eqb-true _ _ q)
          pick false q g = let z : ◌≡◌ {A = ℕ} 0 1 = cc in absurd (omega arith)
      go none f g = let z : ◌≡◌ {A = ℕ} 0 1 = cc in absurd (omega arith)

  one_code : judged_all 1 (split 253 string) ≡ in_turn 1 (judged string) (accepted [])
  unfolding judged_all
  one_code =
      ap (judged_all 1)
      (split_last string 0 (omega arith) refl alone.1 ∙ ap (λ (p : Bytes). p ∷ []) (take_all (code_end string 0 - 0) string (omega (arith, alone.1))))

  ready_one : Accepted (in_turn 1 (judged string) (accepted []))
  ready_one = rw one_code at ready

  well : JudgedWell (judged string)
  well = (accepted_parts 1 (judged string) (accepted []) ready_one).0

  pub plan_within : ConversionWithin string c
  plan_within = single_within string well short alone.0

  pub plan_run : (item : Bytes) (place : Position) (text : Bytes)
      → checked_run item place (judged_all 1 (split 253 string)) text ≡ converting (charged (kind_of c) 0 (length text)) (limited entry_most (conversion_gives (conversion_of string c) text))
  plan_run item place text =
      ap (λ (x : Checked). checked_run item place x text) one_code
      ∙ first_run item place 1 (judged string) (accepted []) text ready_one
      ∙ ap (λ (r : Run Bytes). onward r (λ (q : Bytes). checked_run item place (accepted []) q)) (single_code string well short alone.0 (setting item place text))
      ∙ last_run item place (charged (kind_of c) 0 (length text)) (limited entry_most (conversion_gives (conversion_of string c) text))
