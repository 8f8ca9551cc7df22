-- The last use of a file is the open file again: what a call of the inner desk does to the record that is shown.
use Rattle.std.proofs.Common.{◌≡◌, ◌≤◌, ℕ, Bool, true, List, [], ◌∷◌, ◌++◌, append-nil, take, length, Result, Ok, Err, OnOk, ◌&&◌, not, false, None, ap, refl, arith, rules}
use Rattle.std.specs.Prelude.{⊤}
use Rattle.avr_io.specs.Record.{Record, DeskState, Bytes, ChangesRecord, all_uses, use_of, noted, written_on, is_to_read, is_to_write, after_open, after_create, after_read, after_write, with_replaced, with_tried}
use Rattle.avr_io.specs.declared.desk.DeskFault.{DeskFault}
use Rattle.avr_io.specs.declared.desk.DeskFault.TheVariants.{NotFound, Failed}
use Rattle.avr_io.specs.declared.record.FileUse.{FileUse}
use Rattle.avr_io.specs.declared.record.FileUse.TheVariants.{Opened}
use Rattle.avr_io.specs.declared.record.Open.{Open}
use Rattle.avr_io.specs.declared.record.Open.TheVariants.{ToWrite}
use Rattle.avr_io.specs.declared.record.Opening.TheVariants.{Absent}
use Rattle.avr_tool.specs.Noted.{Noted}
use Rattle.avr_io.specs.Stream.{SendsPart, SendsTaken}
use Rattle.avr_io.specs.declared.stream.Stream.TheVariants.{File}
use Rattle.avr_tool.specs.Unlocked.{reopened, open_after, record_shown, uses_shown, with_written, UnlockedState, unlocked}

-- only the last use can have left a file open
reopened_append : (uses : List FileUse) (used : FileUse)
    → reopened (uses ++ used ∷ []) ≡ (uses ++ (reopened (used ∷ [])).0, (reopened (used ∷ [])).1)
reopened_append [] used = refl
reopened_append (first ∷ []) used = refl
reopened_append (first ∷ next ∷ uses) used = ap (λ x. (first ∷ x.0, x.1)) (reopened_append (next ∷ uses) used)

-- nothing is lost
rejoined : (uses : List FileUse) → (reopened uses).0 ++ use_of (reopened uses).1 ≡ uses
rejoined (first ∷ next ∷ uses) = ap (λ x. first ∷ x) (rejoined (next ∷ uses))
rejoined uses = search rules

-- what is shown has all uses, whether a file is open or not
pub all_shown : (is_open : Bool) (n : Noted) (uses : List FileUse) (r : Record)
    → all_uses (record_shown is_open uses n r) ≡ uses
all_shown is_open n uses r = grind (arith, rejoined, append-nil)

-- ---- opening and creating a file

-- Opening changes what is shown as it changes the inner record.
pub opened_shown : (name : Bytes) (opened : Result ⊤ DeskFault) (is_open : Bool) (n : Noted) (old new : Record)
    → new ≡ after_open name opened old → record_shown (open_after is_open opened) (all_uses new) n new
    ≡ after_open name opened (record_shown is_open (all_uses old) n old)
opened_shown name (Ok done) is_open n old new is =
    rw (is, reopened_append (all_uses old) _, append-nil (all_uses old), all_shown is_open n (all_uses old) old) refl
opened_shown name (Err NotFound) is_open n old new is =
    rw (is, append-nil (all_uses old ++ Opened (Absent name) ∷ []), all_shown is_open n (all_uses old) old) refl
opened_shown name (Err Failed) is_open n old new is = rw is refl

-- So does creating a file.
pub created_shown : (name : Bytes) (is_open : Bool) (n : Noted) (old new : Record)
    → new ≡ after_create name (Ok tt) old → record_shown true (all_uses new) n new
    ≡ after_create name (Ok tt) (record_shown is_open (all_uses old) n old)
created_shown name is_open n old new is =
    rw (is, reopened_append (all_uses old) _, append-nil (all_uses old), all_shown is_open n (all_uses old) old) refl

-- ---- reading

-- What is read is noted in the open file.
noted_last : (uses : List FileUse) (o : Open) (bytes : Bytes) (ended : Bool) → is_to_read o ≡ true
    → reopened (uses ++ use_of (noted bytes ended o))
    ≡ ((reopened (uses ++ use_of o)).0, noted bytes ended (reopened (uses ++ use_of o)).1)
noted_last uses o bytes ended reads = grind (arith, reopened_append)

-- ---- writing

-- What is written is noted in the open file.
written_last : (uses : List FileUse) (o : Open) (bytes : Bytes) → is_to_write o ≡ true
    → reopened (uses ++ use_of (written_on bytes o))
    ≡ ((reopened (uses ++ use_of o)).0, written_on bytes (reopened (uses ++ use_of o)).1)
written_last uses o bytes writes = grind (arith, reopened_append)

-- So does writing to it.
pub written_shown : (bytes : Bytes) (n : Noted) (old new : Record) → new ≡ after_write bytes old
    → is_to_write old.current ≡ true
    → record_shown true (all_uses new) n new ≡ after_write bytes (record_shown true (all_uses old) n old)
written_shown bytes n old new is writes = grind (arith, written_last)

-- a failed write may have written a prefix, or no byte if no file is open to write
part_last : (uses : List FileUse) (o : Open) (bytes : Bytes) (k : ℕ) → k ≤ length bytes → (m : ℕ) × (m ≤ length bytes)
    × (reopened (uses ++ use_of (written_on (take k bytes) o))
    ≡ ((reopened (uses ++ use_of o)).0, written_on (take m bytes) (reopened (uses ++ use_of o)).1))
part_last uses (ToWrite x) bytes k within = (k, within, written_last uses (ToWrite x) (take k bytes) refl)
part_last uses o bytes k within = (0, omega arith, search (rules, append-nil))

-- So does writing a part of the bytes.
pub part_shown : (bytes : Bytes) (n : Noted) (k : ℕ) (old new : Record) → k ≤ length bytes
    → new ≡ after_write (take k bytes) old → (m : ℕ) × (m ≤ length bytes) × (record_shown true (all_uses new) n new
    ≡ after_write (take m bytes) (record_shown true (all_uses old) n old))
part_shown bytes n k old new within is =
    let last = part_last old.uses old.current bytes k within in
    (last.0, last.1, rw (is, last.2) refl)

-- ---- replacing a file

-- A file that was created and written whole is shown as replaced.
pub replaced_shown : (name bytes : Bytes) (is_open : Bool) (n m : Noted) (old new : Record)
    → new ≡ with_written name bytes old
    → m ≡ record n { held = None; tried = n.tried ++ record { name = name; bytes = bytes } ∷ [] }
    → record_shown false (all_uses new) m new ≡ with_replaced name bytes (record_shown is_open (all_uses old) n old)
replaced_shown name bytes is_open n m old new is notes = rw (is, notes, all_shown is_open n (all_uses old) old) refl

-- ---- the same for a desk that isn't broken, and has an open file where the call needs one

-- Opening is shown, if the desk isn't broken.
pub opened_kept : (name : Bytes) (opened : Result ⊤ DeskFault) (is_open is_broken : Bool) (n : Noted) (old new : Record)
    → is_broken ≡ false → new ≡ after_open name opened old
    → record_shown (open_after is_open opened) (uses_shown is_broken new) n new
    ≡ after_open name opened (record_shown is_open (uses_shown is_broken old) n old)
opened_kept name opened is_open is_broken n old new sound is = grind (arith, opened_shown)

-- Creating is shown, if the desk isn't broken.
pub created_kept : (name : Bytes) (is_open is_broken : Bool) (n : Noted) (old new : Record)
    → is_broken ≡ false → new ≡ after_create name (Ok tt) old → record_shown true (uses_shown is_broken new) n new
    ≡ after_create name (Ok tt) (record_shown is_open (uses_shown is_broken old) n old)
created_kept name is_open is_broken n old new sound is = rw sound (created_shown name is_open n old new is)

-- Reading is shown, if a file is open.
pub read_kept : (buf : Bytes) (done : Result ℕ DeskFault) (is_open is_broken : Bool) (n : Noted) (old new : Record)
    → (is_open && not is_broken) ≡ true → new ≡ after_read buf done old → OnOk done (is_to_read old.current ≡ true)
    → record_shown is_open (uses_shown is_broken new) n new
    ≡ after_read buf done (record_shown is_open (uses_shown is_broken old) n old)
read_kept buf done is_open is_broken n old new has is reads = grind (arith, noted_last)

-- A read needs a file that is open to read.
pub reads_kept : (done : Result ℕ DeskFault) (is_open is_broken : Bool) (n : Noted) (old : Record)
    → (is_open && not is_broken) ≡ true → OnOk done (is_to_read old.current ≡ true)
    → OnOk done (is_to_read (record_shown is_open (uses_shown is_broken old) n old).current ≡ true)
reads_kept done is_open is_broken n old has reads = grind (arith, reopened_append)

-- A write needs a file that is open to write.
pub writes_kept : (done : Result ℕ DeskFault) (is_open is_broken : Bool) (n : Noted) (old : Record)
    → (is_open && not is_broken) ≡ true → OnOk done (is_to_write old.current ≡ true)
    → OnOk done (is_to_write (record_shown is_open (uses_shown is_broken old) n old).current ≡ true)
writes_kept done is_open is_broken n old has writes = grind (arith, reopened_append)

-- A write that took some bytes, or none, is shown.
sends_shown : (bytes : Bytes) (done : Result ℕ DeskFault) (n : Noted) (old new a b : DeskState)
    → SendsTaken File bytes old new done → OnOk done (is_to_write old.kept.current ≡ true)
    → a.kept ≡ record_shown true (all_uses old.kept) n old.kept
    → b.kept ≡ record_shown true (all_uses new.kept) n new.kept → SendsTaken File bytes a b done
sends_shown bytes (Ok k) n old new a b sends writes at_a at_b =
    rw (at_a, at_b) (written_shown (take k bytes) n old.kept new.kept sends writes)
sends_shown bytes (Err fault) n old new a b sends writes at_a at_b =
    let p = part_shown bytes n sends.0 old.kept new.kept sends.1 sends.2 in (p.0, p.1, rw (at_a, at_b) p.2)

-- The same holds if a file is open and the desk isn't broken.
sends_at : (bytes : Bytes) (done : Result ℕ DeskFault) (is_open is_broken : Bool) (n : Noted)
    (old new a b : DeskState) → (is_open && not is_broken) ≡ true → SendsTaken File bytes old new done
    → OnOk done (is_to_write old.kept.current ≡ true)
    → a.kept ≡ record_shown is_open (uses_shown is_broken old.kept) n old.kept
    → b.kept ≡ record_shown is_open (uses_shown is_broken new.kept) n new.kept → SendsTaken File bytes a b done
sends_at bytes done true false n old new a b has sends writes at_a at_b = search (rules, sends_shown)
sends_at bytes done is_open is_broken n old new a b has sends writes at_a at_b = absurd (cc)

-- The same holds of the whole state.
pub sends_kept : {D : Type 0} (view : D → DeskState) (bytes : Bytes) (done : Result ℕ DeskFault) (u : UnlockedState D)
    (inner : D) → (u.is_open && not u.is_broken) ≡ true → SendsTaken File bytes (view u.inner) (view inner) done
    → OnOk done (is_to_write (view u.inner).kept.current ≡ true)
    → SendsTaken File bytes (unlocked view u) (unlocked view (record u { inner = inner })) done
sends_kept view bytes done u inner has sends writes = sends_at bytes done u.is_open u.is_broken u.noted (view u.inner)
    (view inner) (unlocked view u) (unlocked view (record u { inner = inner })) has sends writes refl refl

-- A replacement that succeeded is shown.
pub replaced_kept : (name key bytes : Bytes) (is_open is_broken : Bool) (n : Noted) (old mid new : DeskState)
    → key ≡ name → is_broken ≡ false → ChangesRecord (after_create name (Ok tt)) old mid
    → ChangesRecord (after_write bytes) mid new → record_shown false (uses_shown is_broken new.kept)
    (record n { held = None; tried = n.tried ++ record { name = key; bytes = bytes } ∷ [] }) new.kept
    ≡ with_replaced name bytes (record_shown is_open (uses_shown is_broken old.kept) n old.kept)
replaced_kept name key bytes is_open is_broken n old mid new same sound created written =
    rw (same, sound) (replaced_shown name bytes is_open n _ old.kept new.kept (rw (written, created) refl) refl)

-- A replacement that failed after it had created the file is shown as tried.
pub tried_kept : (name key bytes : Bytes) (is_open is_broken : Bool) (n : Noted) (old mid new : DeskState)
    → key ≡ name → is_broken ≡ false → ChangesRecord (after_create name (Ok tt)) old mid → SendsPart File mid new bytes
    → record_shown is_open (uses_shown true new.kept)
    (record n { tried = n.tried ++ record { name = key; bytes = bytes } ∷ [] }) new.kept
    ≡ with_tried name bytes (record_shown is_open (uses_shown is_broken old.kept) n old.kept)
tried_kept name key bytes is_open is_broken n old mid new same sound created part = grind (arith, rules)

-- The inner desk wrote all bytes.
pub writes_whole : (name bytes : Bytes) (old mid new : DeskState) → ChangesRecord (after_create name (Ok tt)) old mid
    → ChangesRecord (after_write bytes) mid new → ChangesRecord (with_written name bytes) old new
writes_whole name bytes old mid new created written = rw (written, created) refl

-- The inner desk wrote a prefix of them.
pub writes_part : (name bytes : Bytes) (old mid new : DeskState) → ChangesRecord (after_create name (Ok tt)) old mid
    → SendsPart File mid new bytes
    → (n : ℕ) × (n ≤ length bytes) × ChangesRecord (with_written name (take n bytes)) old new
writes_part name bytes old mid new created part = (part.0, part.1, rw (part.2, created) refl)
