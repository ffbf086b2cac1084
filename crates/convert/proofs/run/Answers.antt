-- `convert::run` meets its contract: the walk over what the address reads is the paper's run.
use Rattle.convert.proofs.Stages.{lawful_numbers, text_short, from_one_most, work_room, walks_run, readied}
use Rattle.convert.proofs.run.Goals as goal

pub over-slots-requires : goal.over-slots-requires
over-slots-requires c = (readied _ _ _ _ _ _ c.requires).enough

pub walk-requires : goal.walk-requires
walk-requires c =
    let ready = readied _ _ _ _ _ _ c.requires in
    let lawful = lawful_numbers _ _ _ _ ready.lawful in record {
      lent = (
        record { record_fits = lawful.record_fits; work_fits = work_room },
        ready.accepts,
        text_short _ _ _ c.part-text.ensures.bytes lawful.record_fits,
      );
      v_le_position_most = (rw c.from_one.ensures (from_one_most _ lawful.values), rw c.from_one-2.ensures (from_one_most _ lawful.subvalues));
    }

pub returns : goal.returns
returns c =
    let ready = readied _ _ _ _ _ _ c.requires in
    walks_run _ _ _ _ _ _ (lawful_numbers _ _ _ _ ready.lawful) c.part-text.ensures.bytes c.from_one.ensures c.from_one-2.ensures
    c.walk.ensures
