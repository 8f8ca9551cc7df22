-- Texts of options, and what they ask for: a port, and an update.
use Rattle.std.proofs.Common.{◌≡◌, ap, arith, refl, ℕ, length, codes, Result, Ok, Err}
use Rattle.avr_part.specs.declared.part.Mem.TheVariants.{Flash}
use Rattle.avr_plan.specs.declared.settings.Port.TheVariants.{Network}
use Rattle.avr_plan.specs.declared.update.Format.TheVariants.{Auto, Ihex}
use Rattle.avr_plan.specs.declared.update.Op.TheVariants.{Write}
use Rattle.avr_plan.specs.declared.update.Update.{Update}
use Rattle.avr_plan.specs.declared.update.UpdateFault.{UpdateFault}
use Rattle.avr_laws.proofs.Asked.Ports.{port_is, port_read}
use Rattle.avr_laws.proofs.Asked.Updates.{update_is, update_read}
use Rattle.avr_laws.specs.AskedSettings.{AsksForUpdate, NamesPort}

-- a port of the network
pub port_named : NamesPort (codes "net:lab:7000") (Network (codes "lab:7000"))
port_named = port_is (codes "net:lab:7000") (Network (codes "lab:7000")) refl

-- no port has a number above 65535
pub number_large : NamesPort (codes "net:lab:70000") (Network (codes "lab:70000")) → ⊥
number_large names =
    let named = port_read (codes "net:lab:70000") (Network (codes "lab:70000")) names in absurd (cc named)

-- an update with a format
pub format_asked : AsksForUpdate (codes "flash:w:a:i")
    (record { memory = Flash; op = Write; format = Ihex; file = codes "a" })
format_asked =
    update_is (codes "flash:w:a:i") (record { memory = Flash; op = Write; format = Ihex; file = codes "a" }) refl

abbrev file_length : Result Update UpdateFault → ℕ
file_length (Ok u) = length u.file
file_length (Err fault) = 0

-- the last letter isn't part of the name
pub letter_in_name : AsksForUpdate (codes "flash:w:a:i")
    (record { memory = Flash; op = Write; format = Auto; file = codes "a:i" }) → ⊥
letter_in_name asks =
    let sizes : 1 ≡ 3 =
    ap file_length (update_read (codes "flash:w:a:i")
    (record { memory = Flash; op = Write; format = Auto; file = codes "a:i" }) asks) in
    omega (arith, sizes)
