use Rattle.std.proofs.Common.{sym, rules}
use Rattle.avr_plan.proofs.PortNumbers.{port_number-refused}
use Rattle.avr_plan.proofs.ports.port_number.Goals as goal

pub returns-in_default-2 : goal.returns-in_default-2
returns-in_default-2 c = sym (port_number-refused c.args.text.now c.in_default.field-0 c.in_default.ensures.value.0
    (search rules))
