use Rattle.std.proofs.Common.{rules, ◌+◌, ◌-◌, arith, length-append}
use Rattle.stk_emu.proofs.Memories.Blocks.{eeprom_look}
use Rattle.stk_emu.proofs.eeprom.read.Goals as goal

pub loop-place-preserved : goal.loop-place-preserved
loop-place-preserved c = record {
  on =
      eeprom_look c.args.out.now.items _ c.args.command c.args.address c.loop-place.place
      (c.args.count - c.loop-place.place) (c.args.count - (c.loop-place.place + 1)) c.loop-place.chip
      c.spi-bytes.new.self c.loop-place.out.items c.push.new.self.items (omega arith) c.loop-place.invariant.on
      (record {
        spi_out = c.spi-bytes.result;
        executed = search rules;
        put = c.push.ensures.items;
      });
  len = rw (c.push.ensures.items, length-append) (omega (arith, c.loop-place.invariant.len));
}
