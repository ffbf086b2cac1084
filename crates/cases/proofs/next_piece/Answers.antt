-- `cases::next_piece` meets its contract: what is in braces, or a byte as it stands.
use native.Mathlib.Omega.{arith}
use Rattle.cases.proofs.Spelling.{no_brace, no_closing, in_braces}
use Rattle.cases.proofs.next_piece.Goals as goal

pub returns-then-end-text : goal.returns-then-end-text
returns-then-end-text c =
    let end = c.place_of-end.ensures in let r = c.in_braces.ensures in record { at_lt_next = (omega (arith, end, r), omega (arith, end, r, c.if-end-text.true)); text_value = in_braces c.args.text.now c.args.at c.requires c.place_of-end.ensures.value c.if-byte-eq123.true c.if-end-text.true _ c.in_braces.result.count c.in_braces.result.byte c.in_braces.ensures.0 c.in_braces.ensures.1 }

pub returns-else-end-text : goal.returns-else-end-text
returns-else-end-text c =
    let h = c.requires in record { at_lt_next = (omega arith, omega (arith, h)); text_value = no_closing _ _ h c.place_of-end.ensures.value c.if-end-text.false }

pub returns-else-byte-eq123 : goal.returns-else-byte-eq123
returns-else-byte-eq123 c =
    let h = c.requires in record { at_lt_next = (omega arith, omega (arith, h)); text_value = no_brace _ _ h c.if-byte-eq123.false }
