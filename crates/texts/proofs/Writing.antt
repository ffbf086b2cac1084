-- A loop that writes an answer in front of a lent buffer, one byte a turn, and what the call then answers: one account for every such loop.
use mathlib.Core.Path.{◌≡◌, refl, sym, ap, ◌∙◌}
use mathlib.Core.List.{[], ◌∷◌, ◌++◌, append-nil}
use Prim.Native.Nat.{ℕ, ◌+◌, ◌-◌, ◌≤◌, ◌<◌, zero-le}
use native.Mathlib.Numerals.{add-one}
use native.Mathlib.Omega.{arith}
use lib.ListN.{length, take, drop, set, length-append, length-set, take-append-drop}
use lib.Seq.{length-take-le, take-suc-set, append_snoc, drop-set-lt, drop-drop, take_at}
use Rattle.paper.specs.Bytes.{Bytes}
use Rattle.paper.specs.Sizes.{entry_most}
use Rattle.paper.specs.Refusals.{Res, given}
use Rattle.paper.specs.Answers.{written}
use Rattle.paper.specs.Steps.{limited}
use Rattle.std.specs.Prelude.{Ok}
use Rattle.paper.proofs.Limits.{limited_within, Answered, gives_bytes}

-- n bytes of `whole` stand in front of what `held` has from there on, and `rest` is still to be written
pub record Progress (held out : Bytes) (n : ℕ) (rest whole : Bytes) : Type 0 where
  pub so_far : take n out ++ rest ≡ whole
  pub behind : drop n out ≡ drop n held
  pub within : n ≤ length held
  pub kept : length out ≡ length held
  pub fits : length whole ≤ length held

pub begun : {held whole : Bytes} → length whole ≤ length held → Progress held held 0 whole whole
begun fits = record { so_far = refl; behind = refl; within = zero-le; kept = refl; fits = fits }

module _ {held out : Bytes} {n b : ℕ} {rest whole : Bytes} (p : Progress held out n (b ∷ rest) whole) where
  -- what is still to be written has its place
  pub room : n < length held
  room =
      let t : length (take n out) ≡ n = length-take-le n out (omega arith) in
      omega (arith, ap length p.so_far, length-append (take n out) (b ∷ rest))

  pub put : Progress held (set out n b) (n + 1) rest whole
  put =
      let r : n < length held = room in
      let l : n < length out = omega arith in
      record {
        so_far = rw (add-one n, take-suc-set out n b l, append_snoc) p.so_far;
        behind =
            rw (drop-set-lt (n + 1) out n b (omega arith), ← drop-drop 1 n out, p.behind) (drop-drop 1 n held);
        within = omega arith;
        kept = length-set out n b ∙ p.kept;
        fits = p.fits;
      }

-- two bytes a turn
pub put_pair : {held out : Bytes} {n a b : ℕ} {rest whole : Bytes} → Progress held out n (a ∷ b ∷ rest) whole
    → Progress held (set (set out n a) (n + 1) b) (n + 2) rest whole
put_pair {n = n} p =
    let two : n + 1 + 1 ≡ n + 2 = omega arith in
    rw two at (put (put p))

-- the same rest by another name
pub onto : {held out : Bytes} {n : ℕ} {rest other whole : Bytes} → Progress held out n rest whole → rest ≡ other → Progress held out n other whole
onto p e = rw e at p

module _ {held out : Bytes} {n : ℕ} {whole : Bytes} (p : Progress held out n [] whole) where
  wrote : take n out ≡ whole
  wrote = sym (append-nil (take n out)) ∙ p.so_far

  pub counted : n ≡ length whole
  counted =
      let t : length (take n out) ≡ n = length-take-le n out (omega (arith, p.kept)) in
      sym t ∙ ap length wrote

  pub stands : out ≡ whole ++ drop (length whole) held
  stands = sym (take-append-drop n out) ∙ rw (wrote, p.behind, counted)

-- n bytes in front of a buffer have their place there, and are what is taken of it
module _ (held whole : Bytes) {out : Bytes} {n : ℕ} (told : n ≡ length whole) (stand : out ≡ written held (given whole)) where
  pub in_front : n ≤ length out
  unfolding written
  in_front = omega (arith, ap length stand, length-append whole (drop (length whole) held))

  pub front : take n out ≡ whole
  unfolding written
  front = rw stand (take_at whole (drop (length whole) held) n (sym told))

-- all written within the limit on a result
pub answered : {held out : Bytes} {n : ℕ} {whole : Bytes} {r : Res Bytes} → Progress held out n [] whole → length whole ≤ entry_most → r ≡ given whole
    → Answered (limited entry_most r) held out (Ok n)
answered {held} {whole = whole} p fits e = gives_bytes held whole (limited_within entry_most e fits) (counted p) (stands p)
