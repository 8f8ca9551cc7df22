use Rattle.std.proofs.Common.{◌≡◌}
use Rattle.toml.specs.View.{members_view}
use Rattle.avr_part.specs.PartFile.{parts_in}
use Rattle.avr_part.proofs.CheckedParts.{onto}
use Rattle.avr_part.proofs.part_file.check_members.Given as goal

abbrev pub invariant-loop-key : goal.invariant-loop-key
invariant-loop-key l =
    parts_in (members_view l.table.entries) ≡ onto l.parts.items (parts_in (members_view l.key-iterator))
