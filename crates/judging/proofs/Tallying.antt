-- Elms tallied one by one come to what the paper says of all of them: the entries held, the fault, the steps.
use Rattle.std.specs.Prelude.{if◌then◌else◌}
use Prim.Native.Nat.{ℕ, ◌≤◌, ◌+◌}
use mathlib.Core.Path.{◌≡◌, refl, ap, ◌∙◌}
use mathlib.Core.Bool.{Bool, true, false, ◌&&◌}
use mathlib.Core.List.{List, [], ◌∷◌}
use lib.Dec.{leb, eqb}
use native.Mathlib.Nat.{add-zero, zero-add, add_assoc}
use native.Mathlib.Omega.{arith}
use borrow.Author.Tests.{leb-true}
use Rattle.std.specs.Prelude.{Result, Ok, Err}
use Rattle.paper.specs.Refusals.{Res, given, refused, ◌>>=◌, ◌>>◌, refuse◌unless◌}
use Rattle.paper.specs.Answers.{told, length_in}
use Rattle.paper.specs.declared.Refusal.{Refusal}
use Rattle.paper.specs.Codes as paper
use Rattle.paper.specs.Checking as checking
use Rattle.paper.proofs.Weights.{weight}
use Rattle.judging.specs.Tallies.{counts_in, counts_of, kind_in, step_kind, shape_in, no_steps, added, steps, left, room}
use Rattle.judging.specs.Tallies.{entries_after, onward, tally_after, tally_all, judgement_of}
use Rattle.judging.specs.declared.Counts.{Counts}
use Rattle.judging.specs.declared.Shape.{Shape}
use Rattle.judging.specs.declared.Tally.{Tally}

-- counts: none more, to none, and one after the other
pub added_none : (c : Counts) → added c checking.no_steps ≡ c
unfolding added checking.together
added_none c = simp add-zero

pub none_added : (k : checking.Counts) → added no_steps k ≡ counts_in k
unfolding added checking.together
none_added k = simp zero-add

pub added_more : (c : Counts) (k l : checking.Counts) → added (added c k) l ≡ added c (checking.together k l)
unfolding added checking.together
added_more c k l = simp add_assoc

pub no_step : steps no_steps ≡ 0
unfolding steps
no_step = refl

pub added_steps : (c : Counts) (k : checking.Counts) → steps (added c k) ≡ steps c + steps (counts_in k)
unfolding added checking.together steps
added_steps c k = omega arith

pub together_steps : (x y : Counts) {r : Counts} → r ≡ added x (counts_of y) → steps r ≡ steps x + steps y
together_steps x y e = ap steps e ∙ added_steps x (counts_of y)

pub one_step : (kind : paper.Kind) → steps (counts_in (checking.step_counts kind)) ≡ weight kind
unfolding checking.step_counts steps
one_step paper.loading = refl
one_step (paper.testing t) = omega arith
one_step paper.other = refl

pub kind_back : (kind : paper.Kind) → step_kind (kind_in kind) ≡ kind
kind_back paper.loading = refl
kind_back (paper.testing t) = refl
kind_back paper.other = refl

-- the paper's check of one elm, by whether it has room
pub stacked_room : (e : paper.Elm) (held : ℕ) → let z = shape_in (checking.shape e) in
    checking.stacked e held ≡ (if room z held then given (left z held) else refused 7)
unfolding checking.stacked room
stacked_room e held = let z = shape_in (checking.shape e) in go (leb z.takes held) (leb (left z held) 16) (left z held)
  where
    go : (t u : Bool) (n : ℕ) → ((refuse 7 unless t) >> ((refuse 7 unless u) >> given n)) ≡ (if t && u then given n else refused 7)
    go true true n = refl
    go true false n = refl
    go false u n = refl

entered : (e : paper.Elm) (held : ℕ) → told (entries_after (shape_in (checking.shape e)) held) ≡ checking.stacked e held
unfolding entries_after
entered e held = let z = shape_in (checking.shape e) in rw (stacked_room e held) (go (room z held) (left z held))
  where
    go : (t : Bool) (n : ℕ) → told (if t then Ok n else Err Refusal.StackFault) ≡ (if t then given n else refused 7)
    go true n = refl
    go false n = refl

-- the entries that elms leave, or their fault; and then the steps, where one entry is left
abbrev pub concluded : Res ℕ → Counts → Res Counts
concluded r c = r >>= λ held. (refuse 18 unless eqb held 1) >> given c

pub tallied : (es : List paper.Elm) (t : Tally)
    → judgement_of (tally_all es t) ≡ concluded (told t.held >>= checking.all_stacked es) (added t.counts (checking.elms_counts es))
unfolding tally_all checking.all_stacked checking.elms_counts judgement_of tally_after
tallied [] t = rw (added_none t.counts) (go t.held)
  where
    go : (h : Result ℕ Refusal) → concluded (told h) t.counts ≡ concluded (told h >>= given) t.counts
    go (Ok held) = refl
    go (Err fault) = refl
tallied (e ∷ es) t =
    tallied es (tally_after e t)
    ∙ rw (added_more t.counts (checking.step_counts (checking.shape e).kind) (checking.elms_counts es))
    (ap (λ (r : Res ℕ). concluded r (added t.counts (checking.together (checking.step_counts (checking.shape e).kind) (checking.elms_counts es)))) (go t.held))
  where
    go : (h : Result ℕ Refusal)
        → (told (onward h (entries_after (shape_in (checking.shape e)))) >>= checking.all_stacked es)
        ≡ (told h >>= λ held. checking.stacked e held >>= checking.all_stacked es)
    go (Ok held) = rw (entered e held) refl
    go (Err fault) = refl

-- One elm more: what the code finds of its shape, entries and steps is the tally after it.
pub after_is : (e : paper.Elm) (t : Tally) {z : Shape} {h : Result ℕ Refusal} {o c : Counts}
    → z ≡ shape_in (checking.shape e) → h ≡ onward t.held (entries_after z)
    → o ≡ counts_in (checking.step_counts (step_kind z.kind)) → c ≡ added t.counts (counts_of o)
    → record { held = h; counts = c } ≡ tally_after e t
unfolding tally_after
after_is e t k x g j = rw (j, g, x, k, kind_back (checking.shape e).kind)

module _ (e : paper.Elm) (t : Tally) {u : Tally} (g : u ≡ tally_after e t) where
  pub after_steps : steps u.counts ≡ steps t.counts + weight (checking.shape e).kind
  unfolding tally_after
  after_steps = rw g (omega (arith, added_steps t.counts (checking.step_counts (checking.shape e).kind), one_step (checking.shape e).kind))

  pub after_held : length_in t.held ≤ 16 → length_in u.held ≤ 16
  unfolding tally_after entries_after room
  after_held h = rw g (pick t.held h)
    where
      z : Shape
      z = shape_in (checking.shape e)

      go : (x y : Bool) (n : ℕ) → leb n 16 ≡ y → length_in (if x && y then Ok n else Err Refusal.StackFault) ≤ 16
      go true true n q = leb-true n 16 q
      go true false n q = omega arith
      go false y n q = omega arith

      pick : (o : Result ℕ Refusal) → length_in o ≤ 16 → length_in (onward o (entries_after z)) ≤ 16
      pick (Ok n) k = go (leb z.takes n) (leb (left z n) 16) (left z n) refl
      pick (Err fault) k = k

pub puts_small : (e : paper.Elm) → (checking.shape e).puts ≤ 2
unfolding checking.shape
puts_small (paper.push (paper.attribute n r)) = omega arith
puts_small (paper.push (paper.literal bs)) = omega arith
puts_small (paper.push paper.previous) = omega arith
puts_small (paper.binary o) = omega arith
puts_small paper.substring = omega arith
puts_small paper.exchange = omega arith
puts_small paper.duplicate = omega arith
puts_small (paper.convert c) = omega arith
