-- One step of an F code, as the code answers it: what it sees besides the stack, what it gives, and what the slots hold then.
use Rattle.std.specs.Prelude.{ℕ, ◌+◌, List, Result}
use Rattle.paper.specs.Bytes.{Bytes}
use Rattle.paper.specs.Refusals.{Res}
use Rattle.paper.specs.declared.Refusal.{Refusal}
use Rattle.paper.specs.Sizes.{entry_most}
use Rattle.paper.specs.Codes as paper
use Rattle.paper.specs.Numbers.{Binary, binary_gives, substring_gives}
use Rattle.paper.specs.Steps.{Setting, limited, conversion_gives, elm_step}
use Rattle.codes.specs.declared.Elm.{Elm}
use Rattle.codes.specs.Meaning.{elm_of}
use Rattle.stack.specs.declared.Step.{Step}
use Rattle.stack.specs.Slots.{entry_at, stack_of, element_slot}
use Rattle.stack.specs.Charging.{Charges}
use Rattle.steps.specs.declared.Position.{Position}

-- what an elm gives of the entries that it finds in the slots from k on, the top one last
abbrev pub binary_on : Binary → Bytes → List ℕ → ℕ → Res Bytes
binary_on o scratch lens k = limited entry_most (binary_gives o (entry_at scratch lens k) (entry_at scratch lens (k + 1)))

abbrev pub substring_on : Bytes → List ℕ → ℕ → Res Bytes
substring_on scratch lens k =
    limited entry_most
    (substring_gives (entry_at scratch lens k) (entry_at scratch lens (k + 1)) (entry_at scratch lens (k + 2)))

abbrev pub converted_on : paper.Conversion → Bytes → List ℕ → ℕ → Res Bytes
converted_on c scratch lens k = limited entry_most (conversion_gives c (entry_at scratch lens k))

-- what a step sees besides the stack
abbrev pub setting : Bytes → Position → Bytes → Setting
setting item at previous = record { item = item; v = at.v; s = at.s; previous = previous }

-- the element given to the code stands in its slot
abbrev pub setting_of : Bytes → Position → Bytes → List ℕ → Setting
setting_of item at scratch lens = setting item at (entry_at scratch lens element_slot)

-- what the step of an elm leaves, on the first `held` slots as the stack
abbrev pub ElmCharges : ℕ → Bytes → Bytes → Elm → Position → ℕ → Result Step Refusal → Bytes → List ℕ → Bytes → List ℕ → Type 0
ElmCharges left item code elm at held r scratch lens scratch' lens' =
    Charges left (elm_step entry_most (setting_of item at scratch lens) (elm_of code elm) (stack_of scratch lens held)) r scratch lens
    scratch' lens'
