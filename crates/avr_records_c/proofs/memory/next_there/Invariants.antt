use Rattle.std.proofs.Common.{◌≡◌, ◌-◌, length}
use Rattle.avr_image.specs.Image.{first_from}
use Rattle.avr_records_c.specs.Bitmap.{image_of}
use Rattle.avr_records_c.proofs.memory.next_there.Given as goal

abbrev pub invariant-gap : goal.invariant-gap
invariant-gap l = first_from (image_of l.present l.bytes) l.addr ≡ first_from (image_of l.present l.bytes) l.at

abbrev pub decreases-gap : goal.decreases-gap
decreases-gap l = length l.bytes - l.at
