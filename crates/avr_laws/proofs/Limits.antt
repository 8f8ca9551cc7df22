-- The limits of files, whose names in src/ are private to their crates (law `the_numbers_are` of avr_tool has them).
use Rattle.std.specs.Prelude.{ℕ}

abbrev pub LARGEST_IMAGE_FILE : ℕ
LARGEST_IMAGE_FILE = 4194304

abbrev pub LARGEST_PART_FILE : ℕ
LARGEST_PART_FILE = 65536

abbrev pub LARGEST_CHIP_FILE : ℕ
LARGEST_CHIP_FILE = 4194304
