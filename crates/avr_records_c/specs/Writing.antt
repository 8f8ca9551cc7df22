-- What `avr_records_write` and `avr_records_length` do.
use Rattle.std.specs.Prelude.{◌≡◌, ℕ, ◌==◌, ◌&&◌, ◌^◌, nat_lt, min, List, [], ◌∷◌, ◌++◌, length, take, drop, Option, Some, None, MatchOption, if◌then◌else◌}
use Rattle.std.specs.Option.{option_map}
use Rattle.avr_records.specs.Sparse.{image_text}
use Rattle.avr_records.specs.Writing.{text_left}
use Rattle.avr_records.specs.declared.kind.Kind.{Kind}
use Rattle.avr_records_c.specs.declared.cursor.Cursor.{Cursor}
use Rattle.avr_records_c.specs.declared.piece.Piece.{Piece}
use Rattle.avr_records_c.specs.Cursor.{position_of}
use Rattle.avr_records_c.specs.Numbers.{kind_numbered}
use Rattle.avr_records_c.specs.Bitmap.{octets_of, image_of}

-- What a call put, and the caller's cursor and room after it.
pub record Put : Type 0 where
  pub piece : Piece
  pub cursor : Cursor
  pub room : List ℕ

-- The kind of file if the arguments fit. The memory has to be shorter than 2 to the power 32 bytes, and the bitmap has
-- to be the memory's in length.
abbrev pub checked_write_kind : ℕ → ℕ → ℕ → Option Kind
checked_write_kind kind size present =
    if nat_lt size (2 ^ 32) && present == octets_of size then kind_numbered kind else None

-- The room begins with as much of the text as fits, and is unchanged after it. `rest` is left of the text.
pub record PutsPrefix (text rest room : List ℕ) (n : ℕ) (after : List ℕ) : Type 0 where
  pub count : n ≡ min (length room) (length text)
  pub left : rest ≡ drop n text
  pub stands : after ≡ take n text ++ drop n room

-- What is left of a memory's file at a cursor: the lines from its position on, without what was put of the first. It is
-- `None` if no call leaves such a cursor.
abbrev pub file_rest : Kind → List (Option ℕ) → Cursor → Option (List ℕ)
file_rest kind image cursor =
    option_map (λ lines. drop cursor.gone (text_left lines image)) (position_of kind cursor image)

-- The cursor at the beginning of a file.
abbrev pub file_start : Cursor
file_start = record { addr = 0; gone = 0; upper = 0; address_size = 0; ended = 0 }

-- A call puts the next part of the text, and its cursor gives the rest.
pub record PutsNextPiece (kind : Kind) (image : List (Option ℕ)) (text room : List ℕ) (put : Put) : Type 0 where
  pub good : put.piece.fault ≡ 0
  pub rest : List ℕ
  pub puts : PutsPrefix text rest room put.piece.length put.room
  pub left : file_rest kind image put.cursor ≡ Some rest

-- Nothing was put, because the arguments don't fit one another.
abbrev pub put_none : Cursor → List ℕ → Put
put_none cursor room = record { piece = record { length = 0; fault = 11 }; cursor = cursor; room = room }

-- The call puts the next part of the memory's file. If the arguments don't fit one another, it changes nothing.
abbrev pub Writes : ℕ → List ℕ → List ℕ → Cursor → List ℕ → Put → Type 0
Writes kind bytes present cursor room put =
    MatchOption (checked_write_kind kind (length bytes) (length present))
    (put ≡ put_none cursor room)
    (λ k. MatchOption (file_rest k (image_of present bytes) cursor)
    (put ≡ put_none cursor room)
    (λ text. PutsNextPiece k (image_of present bytes) text room put))

-- A call put this piece at `cursor`, and left `next`.
pub record WriteCall (kind : Kind) (image : List (Option ℕ)) (cursor next : Cursor) (piece : List ℕ) : Type 0 where
  pub text : List ℕ
  pub room : List ℕ
  pub after : List ℕ
  pub left : file_rest kind image cursor ≡ Some text
  pub goes : PutsNextPiece kind image text room
      (record { piece = record { length = length piece; fault = 0 }; cursor = next; room = after })
  pub prefix : piece ≡ take (length piece) after

-- Calls put these pieces one after the other, from a cursor to the file's end. Law `pieces_join` uses it.
abbrev pub WroteFile : Kind → List (Option ℕ) → Cursor → List (List ℕ) → Type 0
WroteFile kind image cursor [] = file_rest kind image cursor ≡ Some []
WroteFile kind image cursor (piece ∷ more) =
    (next : Cursor) × WriteCall kind image cursor next piece × WroteFile kind image next more

-- The call returns the length of the memory's file, or 0 if the arguments don't fit one another.
abbrev pub ReturnsLength : ℕ → List ℕ → List ℕ → Piece → Type 0
ReturnsLength kind bytes present piece =
    MatchOption (checked_write_kind kind (length bytes) (length present))
    (piece ≡ record { length = 0; fault = 11 })
    (λ k. piece ≡ record { length = length (image_text k (image_of present bytes)); fault = 0 })
