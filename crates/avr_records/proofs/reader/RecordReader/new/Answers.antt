use Rattle.std.proofs.Common.{refl}
use Rattle.avr_records.proofs.Readers.Fed.{begins}
use Rattle.avr_records.proofs.reader.RecordReader.new.Goals as goal

pub returns : goal.returns
returns c =
    let first = begins c.args.kind c.args.size _ _ c.new-2.ensures c.in-Ok.ensures c.new-3.ensures in
    record { of_kind = refl; of_size = first.0; nothing_fed = record { reads = first.1; fed = refl; sound = refl } }
