-- The lines of messages. Each begins with `avrstk: ` and ends with LF.
use Rattle.std.specs.Prelude.{ℕ, List, [], ◌∷◌, ◌++◌, map, codes, decimal}
use Rattle.std.specs.List.{concat}
use Rattle.std.specs.Char.{to_ascii_uppercase}
use Rattle.byteorder.specs.Endian.{big_bytes}
use Rattle.hex.specs.Hex.{encode_lower}
use Rattle.avr_io.specs.Record.{Bytes}
use Rattle.avr_io.specs.declared.files.FileFault.{FileFault}
use Rattle.avr_io.specs.declared.files.FileFault.TheVariants.{NotOpened, NotRead, Memory}
use Rattle.avr_io.specs.declared.line.Piece.{Piece}
use Rattle.avr_io.specs.declared.line.Piece.TheVariants.{Text, Byte, Signature, Address, Number}

-- bytes as pairs of upper-case hexadecimal digits
unfoldable pub digits : Bytes → Bytes
digits bytes = map to_ascii_uppercase (encode_lower bytes)

-- the same, with blanks between the pairs
abbrev pub spaced_digits : Bytes → Bytes
spaced_digits [] = []
spaced_digits (b ∷ []) = digits (b ∷ [])
spaced_digits (b ∷ bytes) = digits (b ∷ []) ++ 32 ∷ spaced_digits bytes

-- the text that a piece of a line stands for
abbrev pub text_of : Piece → Bytes
text_of (Text text) = text.now
text_of (Byte byte) = digits (byte ∷ [])
text_of (Signature bytes) = spaced_digits bytes
text_of (Address address) = digits (big_bytes 4 address)
text_of (Number number) = decimal number

-- a line: its mark, its pieces and LF
abbrev pub line : Bytes → List Bytes → Bytes
line mark pieces = mark ++ (concat pieces ++ 10 ∷ [])

-- a line of information; below, a warning and an error
abbrev pub information : List Bytes → Bytes
information pieces = line (codes "avrstk: ") pieces

-- a line of warning
abbrev pub warning : List Bytes → Bytes
warning pieces = line (codes "avrstk: warning: ") pieces

-- a line of an error
abbrev pub error : List Bytes → Bytes
error pieces = line (codes "avrstk: error: ") pieces

-- ---- the messages about any file, and about failed allocation

-- allocation failed
abbrev pub memory_pieces : List Bytes
memory_pieces = codes "out of memory" ∷ []

-- the file could not be opened or read, or allocation for it failed
abbrev pub file_pieces : Bytes → FileFault → List Bytes
file_pieces file NotRead = file ∷ codes ": cannot be read" ∷ []
file_pieces file Memory = memory_pieces
file_pieces file fault = file ∷ codes ": cannot be opened" ∷ []

-- the file has more bytes than may be read
abbrev pub too_long_pieces : Bytes → ℕ → List Bytes
too_long_pieces file limit = file ∷ codes ": longer than " ∷ decimal limit ∷ codes " bytes" ∷ []

-- the file could not be created
abbrev pub not_created_pieces : Bytes → List Bytes
not_created_pieces file = file ∷ codes ": cannot be created" ∷ []

-- the file could not be written
abbrev pub not_written_pieces : Bytes → List Bytes
not_written_pieces file = file ∷ codes ": cannot be written" ∷ []

-- the lines of these messages
abbrev pub memory_line : Bytes
memory_line = error memory_pieces

abbrev pub not_opened_line : Bytes → Bytes
not_opened_line file = error (file_pieces file NotOpened)

abbrev pub not_read_line : Bytes → Bytes
not_read_line file = error (file_pieces file NotRead)

abbrev pub file_fault_line : Bytes → FileFault → Bytes
file_fault_line file fault = error (file_pieces file fault)

abbrev pub too_long_line : Bytes → ℕ → Bytes
too_long_line file limit = error (too_long_pieces file limit)

abbrev pub not_written_line : Bytes → Bytes
not_written_line file = error (not_written_pieces file)
