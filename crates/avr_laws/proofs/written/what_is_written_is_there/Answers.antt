use Rattle.avr_tool.proofs.WriteOperations.Pages.{effects_on}
use Rattle.std.proofs.Common.{rules}
use Rattle.avr_laws.proofs.Memories.WrittenThere.{image_there}
use Rattle.avr_laws.proofs.written.what_is_written_is_there.Goals as goal

pub returns : goal.returns
returns c = search (rules, effects_on, image_there)
