-- Raw files, whose bytes go to the addresses from 0 on, and the state of their reader.
use Rattle.std.specs.Prelude.{◌≡◌, ℕ, ◌≤◌, nat_le, Bool, false, List, length, Option, Result, Ok, Err, if◌then◌else◌}
use Rattle.avr_image.specs.Image.{from_zero}
use Rattle.avr_image.specs.declared.fault.ImageFault.{ImageFault}
use Rattle.avr_image.specs.declared.fault.ImageFault.TheVariants.{OutOfRange}

-- The image of a raw file, or the first address past the memory.
abbrev pub raw : List ℕ → ℕ → Result (List (Option ℕ)) ImageFault
raw bytes size = if nat_le (length bytes) size then Ok (from_zero bytes size) else Err (OutOfRange size)

-- The state of a `RawReader`: the image so far, how many bytes it was fed, and whether it has failed.
pub record RawReaderState : Type 0 where
  pub image : List (Option ℕ)
  pub fed : ℕ
  pub failed : Bool

-- The reader was fed exactly this text and has not failed. Contracts of `RawReader` speak of such texts.
pub record HoldsText (reader : RawReaderState) (text : List ℕ) : Type 0 where
  pub sound : reader.failed ≡ false
  pub counted : reader.fed ≡ length text
  pub within : length text ≤ length reader.image
  pub laid : reader.image ≡ from_zero text (length reader.image)
