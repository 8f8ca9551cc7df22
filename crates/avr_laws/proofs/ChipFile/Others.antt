-- What names mean after a run over the emulator: the files that memories were read into, and the chip file.
use Rattle.std.proofs.Common.{◌≡◌, ◌⊎◌, refl, true, false, ℕ, List, [], ◌∷◌, ◌++◌, append-nil, Option, rules}
use Rattle.std.proofs.lemmas.Bool.{cases_Bool}
use Rattle.std.proofs.lemmas.List.Sums.{fold-append}
use Rattle.avr_desk.proofs.FileUses.Uses.{files_replaced}
use Rattle.avr_desk.specs.Memory.{Stock, content_of_name}
use Rattle.avr_io.specs.Named.{is_dash, newest, or_older}
use Rattle.avr_io.specs.Record.{Bytes, DeskState, all_files}
use Rattle.avr_io.specs.declared.record.Writing.{Writing}
use Rattle.avr_tool.specs.Emulated.{IsSavedIfSent}
use Rattle.avr_laws.specs.Kept.{named_files}

-- a file of another name changes nothing
another : (name : Bytes) (f : Writing) (older : Option Bytes) → (f.name ≡ name → ⊥) → or_older name older f ≡ older
another name f older differs = search rules

-- and standard output is no file
is_no_file : (name : Bytes) (fs : List Writing) (older : Option Bytes) → is_dash name ≡ true
    → newest name older (named_files fs) ≡ older
is_no_file name [] older dash = refl
is_no_file name (f ∷ fs) older dash =
    search (rules, cases_Bool, is_no_file name fs older dash, is_no_file name fs (or_older name older f) dash, another)

-- what a name means is its newest file, or else what it meant before
stood_newest : (stock : Stock) (made : List Writing) (name : Bytes) → is_dash name ≡ false
    → content_of_name stock made name ≡ newest name (content_of_name stock [] name) made
stood_newest stock made name isnt = search (rules, fold-append, append-nil)

-- so it is for the files that were saved
pub stood_named : (stock : Stock) (fs : List Writing) (name : Bytes)
    → content_of_name stock (named_files fs) name ≡ newest name (content_of_name stock [] name) (named_files fs)
stood_named stock fs name = search (rules, cases_Bool, is_no_file, stood_newest)

-- a file of another name doesn't change what this name means
stood_more : (stock : Stock) (made : List Writing) (f : Writing) (name : Bytes) → (f.name ≡ name → ⊥)
    → content_of_name stock (made ++ f ∷ []) name ≡ content_of_name stock made name
stood_more stock made f name differs = search (rules, cases_Bool, stood_newest, fold-append, another)

-- ---- a save with status 0

-- with status 0 the chip file was replaced, or nothing was
files_saved : (out : List ℕ) (old new : DeskState) (file bytes : Bytes) (ran : ℕ)
    → IsSavedIfSent out old new file bytes ran 0 → (all_files new.kept ≡ all_files old.kept)
    ⊎ (all_files new.kept ≡ all_files old.kept ++ record { name = file; bytes = bytes } ∷ [])
files_saved out old new file bytes ran saved = search (rules, files_replaced)

-- so other names mean what they meant
pub stood_saved : (stock : Stock) (out : List ℕ) (old new : DeskState) (file bytes : Bytes) (ran : ℕ) (name : Bytes)
    → (name ≡ file → ⊥) → IsSavedIfSent out old new file bytes ran 0
    → content_of_name stock (all_files new.kept) name ≡ content_of_name stock (all_files old.kept) name
stood_saved stock out old new file bytes ran name differs saved = search (rules, files_saved, stood_more)
