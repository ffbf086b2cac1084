-- A check that reports refusal 0 has accepted the string. Assumes nothing.
use mathlib.Core.Path.{◌≡◌, refl}
use Rattle.paper.specs.Bytes.{Bytes}
use Rattle.paper.specs.Checking.{Checked, accepted, faulty, check, codes_of, report}
use Rattle.paper.proofs.Numbered.{faults_are_numbered}
use Rattle.elements.specs.Running.{codes_in, Accepts}

pub accepts : (string : Bytes) → (report (check string)).refusal ≡ 0 → Accepts string
unfolding codes_in report
accepts string e = go (check string) refl e
  where
    go : (c : Checked) → check string ≡ c → (report c).refusal ≡ 0 → c ≡ accepted (codes_of c)
    go (accepted cs) f e = refl
    go (faulty n k) f e = absurd (faults_are_numbered string n k f e)
