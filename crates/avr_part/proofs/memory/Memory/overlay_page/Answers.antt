use Rattle.std.proofs.Common.{rules}
use Rattle.avr_part.proofs.Changes.{changed_is, overlaid_is}
use Rattle.avr_part.proofs.memory.Memory.overlay_page.Goals as goal

pub returns : goal.returns
returns c = record { bytes = search (rules, changed_is, overlaid_is); len = search rules; small = search rules }
