-- One element of an address against its outcome: over-long, or put into its slot and run; and its answer gathered. Assumes nothing.
use Rattle.std.specs.Prelude.{if◌then◌else◌, Result, Ok, Err}
use Prim.Native.Nat.{ℕ, ◌+◌, ◌^◌, ◌≤◌, ◌<◌}
use mathlib.Core.Path.{◌≡◌, refl, sym, ap, ◌∙◌, subst}
use mathlib.Core.Bool.{Bool}
use mathlib.Core.List.{List}
use native.Mathlib.Omega.{arith}
use lib.ListN.{length, length-take}
use lib.Dec.{lit<}
use borrow.Author.Tests.{le-leb, lt-leb}
use Rattle.paper.specs.Bytes.{Bytes}
use Rattle.paper.specs.Sizes.{entry_most}
use Rattle.paper.specs.Refusals.{refused}
use Rattle.paper.specs.declared.Refusal.{Refusal}
use Rattle.paper.specs.Steps.{stop, codes_run, element_run}
use Rattle.paper.specs.Converting.{Outcome, within_budget}
use Rattle.stack.specs.Slots.{Slotted, element_slot, entry_at, put_in, put_length}
use Rattle.paper.specs.Checking.{Checked, check}
use Rattle.machine.specs.Runs.{metered, answered, Runs, codes_outcome, checked_run}
use Rattle.machine.specs.declared.Stopped.{Stopped}
use Rattle.machine.specs.declared.Meter.{Meter}
use Rattle.steps.specs.declared.Position.{Position}
use Rattle.stack.proofs.Putting.{put_same}
use Rattle.machine.proofs.Endings.{answered_as}
use Rattle.elements.specs.Gather.{gathered_in}
use Rattle.elements.specs.Running.{codes_in, Accepts, element_outcome, Adds}

module _ (item string text : Bytes) (place : Position) (meter : Meter) where
  pub over_long : {scratch : Bytes} {lens : List ℕ} → entry_most < length text
      → Runs (element_outcome item string place meter text) (Err (record { refusal = Refusal.OverLongEntry; steps = meter.steps })) scratch lens
  unfolding element_run within_budget
  over_long {scratch} {lens} h =
      let stops : element_outcome item string place meter text ≡ record { answer = refused 9; steps = meter.steps }
      = ap (λ (t : Bool). metered meter (if t then codes_run entry_most item place.v place.s (codes_in string) text else stop 9)) (lt-leb (length text) entry_most h) in
      subst (λ (o : Outcome). Runs o (Err (record { refusal = Refusal.OverLongEntry; steps = meter.steps })) scratch lens) (sym stops)
      (record { answers = refl; element = tt })

  -- put into its slot, the element goes through the codes
  pub put_and_run : {scratch scratch₁ scratch' : Bytes} {lens lens₁ lens' : List ℕ} {r : Result ℕ Stopped} → Slotted scratch lens → length text ≤ entry_most
      → scratch₁ ≡ put_in scratch element_slot text → lens₁ ≡ put_length lens element_slot text
      → Accepts string
      → Runs (codes_outcome item (check string) place meter scratch₁ lens₁) r scratch' lens'
      → Runs (element_outcome item string place meter text) r scratch' lens'
  unfolding element_run checked_run
  put_and_run {scratch} {scratch₁} {scratch'} {lens} {lens₁} {lens'} {r} slotted fit e f well runs =
      let held : entry_at scratch₁ lens₁ element_slot ≡ text
      = ap (λ (b : Bytes). entry_at b lens₁ element_slot) e ∙ ap (λ (l : List ℕ). entry_at (put_in scratch element_slot text) l element_slot) f
      ∙ put_same slotted element_slot text (lit< tt) fit in
      let same : metered meter (checked_run item place (check string) (entry_at scratch₁ lens₁ element_slot))
      ≡ element_outcome item string place meter text
      = ap (λ (c : Checked). metered meter (checked_run item place c (entry_at scratch₁ lens₁ element_slot))) well
      ∙ ap (λ (b : Bytes). metered meter (codes_run entry_most item place.v place.s (codes_in string) b)) held
      ∙ ap (λ (t : Bool). metered meter (if t then codes_run entry_most item place.v place.s (codes_in string) text else stop 9)) (sym (le-leb (length text) entry_most fit)) in
      subst (λ (o : Outcome). Runs o r scratch' lens') same runs

-- an entry is within the limit
pub entry_short : {scratch : Bytes} {lens : List ℕ} → Slotted scratch lens → (k : ℕ) → length (entry_at scratch lens k) ≤ entry_most
unfolding entry_at
entry_short {scratch} {lens} slotted k = rw length-take (omega (arith, slotted.fits k))

module _ (so_far : ℕ) (out : Bytes) {o : Outcome} {scratch' : Bytes} {lens' : List ℕ} where
  -- its answer, from its slot, is gathered
  pub adds_gathered : {steps n : ℕ} {out' bs : Bytes} → Slotted scratch' lens' → Runs o (Ok steps) scratch' lens' → bs ≡ entry_at scratch' lens' element_slot
      → n ≡ so_far + length bs → out' ≡ gathered_in out so_far bs
      → Adds o so_far (Ok (record { steps = steps; length = n })) out out'
  adds_gathered {steps} {n} {out'} {bs} slotted runs held long laid =
      let whole = answered_as (λ bs. tt) o runs.answers in
      let there : entry_at scratch' lens' element_slot ≡ whole.0 = rw whole.1 at runs.element in
      let same : bs ≡ whole.0 = held ∙ there in
      rw whole.1
      (record {
        answers = ap (λ (k : ℕ). answered k steps) (long ∙ ap (λ (b : Bytes). so_far + length b) same);
        output = laid ∙ ap (gathered_in out so_far) same;
        short = subst (λ (b : Bytes). length b ≤ entry_most) there (entry_short slotted element_slot);
      })

pub gather_fits : {scratch : Bytes} {lens : List ℕ} → Slotted scratch lens → (so_far k : ℕ) (bs : Bytes) → so_far < 2 ^ 62 → bs ≡ entry_at scratch lens k
    → so_far + length bs < 2 ^ 63
unfolding entry_most
gather_fits slotted so_far k bs h e = rw e (omega (arith, entry_short slotted k))
