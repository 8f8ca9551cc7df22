use Rattle.std.proofs.Common.{◌≡◌, ◌≤◌, ◌+◌, ◌*◌, ◌-◌}
use Rattle.avr_part.specs.declared.part.Mem.TheVariants.{Eeprom}
use Rattle.stk_host.specs.Bound.{commands_in}
use Rattle.stk_host.specs.Places.{each_from}
use Rattle.stk_host.specs.WriteSteps.{run_steps_at, write_steps}
use Rattle.avr_session.proofs.frames.eeprom_frames.Given as goal

abbrev pub invariant-loop-addr : goal.invariant-loop-addr
invariant-loop-addr l = record {
  counted : l.count + commands_in (each_from (run_steps_at l.part l.image) l.addr (l.part.eeprom_size - l.addr))
      ≡ commands_in (write_steps l.part Eeprom l.image);
  few : l.count ≤ 2 * l.addr;
  ends : l.addr-end ≡ l.part.eeprom_size;
}
