-- `records::write` meets its contract: front and rest together are the record after replacing, and then zeros.
use Rattle.records.proofs.Writing.{whole_laid}
use Rattle.records.proofs.write.Goals as goal

pub returns : goal.returns
returns c =
    whole_laid c.args.item.now c.args.new.now c.args.out.now c.args.spot _ _ _ c.requires.0 c.requires.1 c.requires.2
    c.write_front-at.auto.out
    c.write_front-at.ensures.value
    c.write_front-at.ensures.out_after
    c.write_rest.ensures
