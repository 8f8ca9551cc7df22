-- The texts of fault numbers: what `avr_records_fault_text` puts into a room.
use Rattle.std.specs.Prelude.{ℕ, ◌==◌, min, List, [], ◌∷◌, ◌++◌, length, take, drop, codes, if◌then◌else◌}

-- the text of a fault's number
abbrev pub fault_text : ℕ → List ℕ
fault_text fault =
    if fault == 0 then codes "no fault"
    else if fault == 1 then codes "no record mark"
    else if fault == 2 then codes "bad digit"
    else if fault == 3 then codes "bad length"
    else if fault == 4 then codes "bad checksum"
    else if fault == 5 then codes "bad record type"
    else if fault == 6 then codes "address out of range"
    else if fault == 7 then codes "line too long"
    else if fault == 8 then codes "bad record count"
    else if fault == 10 then codes "out of memory"
    else if fault == 11 then codes "arguments don't fit one another"
    else if fault == 12 then codes "no record file"
    else codes "no fault of this number"

-- The room with a text and a 0 at its start, as much of the text as leaves space for the 0. The rest is unchanged,
-- and an empty room stays empty.
abbrev pub put_text : List ℕ → List ℕ → List ℕ
put_text text [] = []
put_text text (first ∷ room) = take (length room) text ++ 0 ∷ drop (min (length room) (length text)) room
