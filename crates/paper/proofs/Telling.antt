-- Two refusals with one number are one, and so are two answers of the code that tell the same. Assumes nothing.
use Prim.Native.Nat.{ℕ}
use mathlib.Core.Path.{◌≡◌, refl, sym, ap, ◌∙◌}
use mathlib.Core.List.{[], ◌∷◌}
use lib.ListN.{get_or}
use Rattle.std.specs.Prelude.{Result, Ok, Err}
use Rattle.paper.specs.Answers.{number_of, told, told_by}
use Rattle.paper.specs.declared.Refusal.{Refusal}

-- the refusal with a number
named : ℕ → Refusal
named n =
    get_or
    (Refusal.OverLongRecord ∷ Refusal.OverLongRecord ∷ Refusal.BadByte ∷ Refusal.BadId ∷ Refusal.BadAddress ∷ Refusal.OverLongCode
    ∷ Refusal.NotInGrammar ∷ Refusal.StackFault ∷ Refusal.ShortScratch ∷ Refusal.OverLongEntry ∷ Refusal.OutOfRange ∷ Refusal.ZeroDivisor
    ∷ Refusal.NotConvertible ∷ Refusal.MarkFromHex ∷ Refusal.WiderThanMask ∷ Refusal.OverBudget ∷ Refusal.ShortOutput ∷ Refusal.MarkInElement
    ∷ Refusal.LeftOverEntries ∷ [])
    n Refusal.LeftOverEntries

named_again : (e : Refusal) → named (number_of e) ≡ e
unfolding named
named_again Refusal.OverLongRecord = refl
named_again Refusal.BadByte = refl
named_again Refusal.BadId = refl
named_again Refusal.BadAddress = refl
named_again Refusal.OverLongCode = refl
named_again Refusal.NotInGrammar = refl
named_again Refusal.StackFault = refl
named_again Refusal.ShortScratch = refl
named_again Refusal.OverLongEntry = refl
named_again Refusal.OutOfRange = refl
named_again Refusal.ZeroDivisor = refl
named_again Refusal.NotConvertible = refl
named_again Refusal.MarkFromHex = refl
named_again Refusal.WiderThanMask = refl
named_again Refusal.OverBudget = refl
named_again Refusal.ShortOutput = refl
named_again Refusal.MarkInElement = refl
named_again Refusal.LeftOverEntries = refl

pub same_refusal : (e f : Refusal) → number_of e ≡ number_of f → e ≡ f
same_refusal e f h = sym (named_again e) ∙ ap named h ∙ named_again f

-- with the paper's values read back by g, and where the code holds what the paper has
pub told_by_same : {A B : Type 0} (f : A → B) (g : B → A) → ((a : A) → g (f a) ≡ a) → (r r' : Result A Refusal)
    → told_by f r ≡ told_by f r' → r ≡ r'
told_by_same f g back (Ok a) (Ok b) h = let e : f a ≡ f b = cc in ap Ok (sym (back a) ∙ ap g e ∙ back b)
told_by_same f g back (Ok a) (Err s) h = cc
told_by_same f g back (Err r) (Ok b) h = cc
told_by_same f g back (Err r) (Err s) h = let e : number_of r ≡ number_of s = cc in ap Err (same_refusal r s e)

pub told_same : {A : Type 0} (r r' : Result A Refusal) → told r ≡ told r' → r ≡ r'
told_same (Ok a) (Ok b) h = let e : a ≡ b = cc in ap Ok e
told_same (Ok a) (Err s) h = cc
told_same (Err r) (Ok b) h = cc
told_same (Err r) (Err s) h = let e : number_of r ≡ number_of s = cc in ap Err (same_refusal r s e)
