-- What one call of a desk does to its record.
use Rattle.std.specs.Prelude.{false, [], take, Ok}
use Rattle.avr_desk.specs.declared.journal.Call.{Call}
use Rattle.avr_desk.specs.declared.journal.Call.TheVariants as call
use Rattle.avr_io.specs.declared.record.Open.TheVariants.{ToRead, ToWrite}
use Rattle.avr_io.specs.Record.{Record, with_open, with_absent, with_held, with_denied, with_none_held, with_replaced, with_tried, after_read}
use Rattle.avr_io.specs.Stream.{after_sent}

-- the record after this call
abbrev pub after_call : Call → Record → Record
after_call (call.Opened name) r = with_open (ToRead (record { name = name.now; bytes = []; ended = false })) r
after_call (call.Absent name) r = with_absent name.now r
after_call (call.Created name) r = with_open (ToWrite (record { name = name.now; bytes = [] })) r
after_call (call.Held name) r = with_held name.now r
after_call (call.Denied name) r = with_denied name.now r
after_call call.Released r = with_none_held r
after_call (call.Replaced name bytes) r = with_replaced name.now bytes.now r
after_call (call.Tried name bytes) r = with_tried name.now bytes.now r
after_call (call.Read buf n) r = after_read buf.now (Ok n) r
after_call (call.Sent stream bytes n) r = after_sent stream (take n bytes.now) r
