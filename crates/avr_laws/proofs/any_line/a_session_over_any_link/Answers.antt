use Rattle.std.proofs.Common.{rules}
use Rattle.avr_laws.proofs.AnyLink.{over_any_line, over_bytes, over_any_end}
use Rattle.avr_laws.proofs.any_line.a_session_over_any_link.Goals as goal

pub returns-clause-exchanges : goal.returns-clause-exchanges
returns-clause-exchanges c = search (rules, over_any_line)

pub returns-clause-bytes : goal.returns-clause-bytes
returns-clause-bytes c = search (rules, over_bytes)

pub returns-clause-end : goal.returns-clause-end
returns-clause-end c = search (rules, over_any_end)
