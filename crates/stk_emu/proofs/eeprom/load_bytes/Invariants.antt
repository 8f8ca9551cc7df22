use Rattle.std.proofs.Common.{◌≡◌, drop}
use Rattle.stk_emu.specs.Programmer.{after_instructions, eeprom_loads}
use Rattle.stk_emu.proofs.eeprom.load_bytes.Given as goal

abbrev pub invariant-loop-i : goal.invariant-loop-i
invariant-loop-i l =
    after_instructions (eeprom_loads l.command l.address l.i (drop l.i l.bytes)) l.chip
    ≡ after_instructions (eeprom_loads l.command l.address 0 l.bytes) l.initial.chip
