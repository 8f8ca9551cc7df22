-- Which standard streams the command line asks for, and whether one is asked for twice.
use Rattle.std.specs.Prelude.{◌&&◌, Bool, true, false, List}
use Rattle.std.specs.List.{list_any}
use Rattle.avr_io.specs.Named.{is_dash}
use Rattle.avr_plan.specs.declared.update.Update.{Update}
use Rattle.avr_plan.specs.declared.update.Op.TheVariants.{Read}
use Rattle.avr_plan.specs.declared.update.Format.TheVariants.{Immediate}
use Rattle.avr_plan.specs.declared.settings.Port.{Port}
use Rattle.avr_plan.specs.declared.settings.Port.TheVariants.{Stdio, Emulated, Network, Served}

-- the update's file is standard input or output; values are no file
abbrev pub uses_standard : Update → Bool
uses_standard u = is_dash u.file && elim (u.format) [ Immediate ↦ false | format ↦ true ]

-- the update reads standard input
abbrev pub uses_input : Update → Bool
uses_input u = uses_standard u && elim (u.op) [ Read ↦ false | op ↦ true ]

-- the frames and the updates both use the standard streams, or the chip file is one
abbrev pub is_port_taken : Port → List Update → Bool
is_port_taken Stdio updates = list_any uses_standard updates
is_port_taken (Emulated file) updates = is_dash file
is_port_taken (Network address) updates = false
is_port_taken (Served port chip) updates = is_dash chip
