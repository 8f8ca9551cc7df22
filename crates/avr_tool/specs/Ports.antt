-- What each port of settings names.
use Rattle.std.specs.Prelude.{ℕ, List, []}
use Rattle.avr_plan.specs.declared.settings.Port.{Port}
use Rattle.avr_plan.specs.declared.settings.Port.TheVariants.{Emulated, Network, Served}

-- The port has a chip file.
abbrev pub HasChip : Port → Type 0
HasChip (Emulated file) = Unit {0}
HasChip (Served port chip) = Unit {0}
HasChip port = ⊥

-- The chip file of a port, if it has one.
abbrev pub chip_file_of : Port → List ℕ
chip_file_of (Emulated file) = file
chip_file_of (Served port chip) = chip
chip_file_of port = []

-- HOST:PORT of a connection, or the digits of a service
abbrev pub port_address : Port → List ℕ
port_address (Network address) = address
port_address (Served port chip) = port
port_address port = []
