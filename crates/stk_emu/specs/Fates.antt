-- The numbers of the faults of `Fates`.
use Rattle.std.specs.Prelude.{ℕ}
use Rattle.stk_emu.specs.declared.fates.FatesFault.{FatesFault}
use Rattle.stk_emu.specs.declared.fates.FatesFault.TheVariants.{UnlawfulNoise, Memory}

abbrev pub fates_fault_number : FatesFault → ℕ
fates_fault_number UnlawfulNoise = 1
fates_fault_number Memory = 2
