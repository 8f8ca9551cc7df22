-- A body is read back as its command, and nothing else is.
use Rattle.std.proofs.Common.{◌≡◌, ℕ, suc, ◌<◌, List, [], ◌∷◌, length, slice_index, refl, cond, Option, Some, rules}
use Rattle.std.proofs.lemmas.Bool.{eqb-true, cases_Bool, cond-true, cond-false}
use Rattle.std.specs.Prelude.{◌==◌, MatchOption, ◌↔◌, option_map}
use Rattle.byteorder.specs.Endian.{big_bytes, big_number}
use Rattle.stk_frame.specs.declared.command.Command.{Command}
use Rattle.stk_frame.specs.declared.command.Command.TheVariants.{ProgramFlash, ReadFlash, ProgramEeprom, ReadEeprom, ReadFuse}
use Rattle.stk_frame.specs.Commands.{body, fields as encoded_fields, program_block_fields}
use Rattle.stk_frame.specs.Decoding.{FieldsFit, command_of, program_block_of, read_block_of, instruction, read_byte_of}

pub read_back : (c : Command) → FieldsFit c → command_of (body c) ≡ Some c
read_back c fits = search rules

-- What was read is a command of exactly this body.
pub record Sound (code : ℕ) (fields : List ℕ) (read : Option Command) : Type 0 where
  pub emits : MatchOption read (Unit {0}) (λ c. (body c ≡ code ∷ fields) × FieldsFit c)

-- What was read has exactly these fields.
record Back {F : Type 0} (encoded : F → List ℕ) (Fit : F → Type 0) (fields : List ℕ) (read : Option F) : Type 0 where
  emits : MatchOption read (Unit {0}) (λ f. (encoded f ≡ fields) × Fit f)

made : {F : Type 0} {encoded : F → List ℕ} {Fit : F → Type 0} (code : ℕ) (fields : List ℕ) (make : F → Command)
    (read : Option F) → ((f : F) → Fit f → (body (make f) ≡ code ∷ encoded f) × FieldsFit (make f))
    → Back encoded Fit fields read → Sound code fields (option_map make read)
made code fields make read each back = search rules

abbrev pub Below : List ℕ → Type 0
Below bytes = (i : ℕ) → slice_index bytes i < 256

pair_back : (a b : ℕ) → a < 256 → b < 256 → big_bytes 2 (big_number 2 (a ∷ b ∷ [])) ≡ a ∷ b ∷ []
pair_back a b e f = search rules

four_back : (a b c d : ℕ) → a < 256 → b < 256 → c < 256 → d < 256
    → big_bytes 4 (big_number 4 (a ∷ b ∷ c ∷ d ∷ [])) ≡ a ∷ b ∷ c ∷ d ∷ []
four_back a b c d e f g h = search rules

load_address_sound : (fields : List ℕ) → Below fields → Sound 0x06 fields (command_of (0x06 ∷ fields))
load_address_sound (a ∷ b ∷ c ∷ d ∷ []) below =
    search (rules, four_back a b c d (below 0) (below 1) (below 2) (below 3))
load_address_sound _ below = record { emits = tt }

program_block_back : (fields : List ℕ) → Below fields
    → Back program_block_fields (λ f. f.count < 65536) fields (program_block_of fields)
program_block_back (h ∷ l ∷ m ∷ d ∷ x ∷ y ∷ z ∷ p ∷ q ∷ bytes) below = search (rules, pair_back h l (below 0) (below 1))
program_block_back _ below = record { emits = tt }

read_block_back : (fields : List ℕ) → Below fields
    → Back (λ f. encoded_fields (ReadFlash f)) (λ f. f.count < 65536) fields (read_block_of fields)
read_block_back (h ∷ l ∷ x ∷ []) below = search (rules, pair_back h l (below 0) (below 1))
read_block_back _ below = record { emits = tt }

instruction_back : (fields : List ℕ) → Back (λ bytes. bytes) (λ bytes. length bytes ≡ 4) fields (instruction fields)
instruction_back fields = search rules

read_byte_back : (fields : List ℕ)
    → Back (λ f. encoded_fields (ReadFuse f)) (λ f. length f.instruction ≡ 4) fields (read_byte_of fields)
read_byte_back fields = search rules

spi_multi_sound : (fields : List ℕ) → Sound 0x1D fields (command_of (0x1D ∷ fields))
spi_multi_sound fields = search rules

-- one row of the table
row : (own code : ℕ) (fields : List ℕ) (read others : Option Command) → Sound own fields read → Sound code fields others
    → Sound code fields (cond (code == own) read others)
row own code fields read others is other = search (rules, cases_Bool, cond-true, eqb-true, cond-false)

with_fields_sound : (code : ℕ) (fields : List ℕ) → Below fields → Sound code fields (command_of (code ∷ fields))
with_fields_sound code fields below =
    row 0x01 code fields _ _ (search rules)
    (row 0x02 code fields _ _ (search rules)
    (row 0x03 code fields _ _ (search rules)
    (row 0x06 code fields _ _ (load_address_sound fields below)
    (row 0x10 code fields _ _ (search rules)
    (row 0x11 code fields _ _ (search rules)
    (row 0x12 code fields _ _ (search rules)
    (row 0x13 code fields _ _ (made 0x13 fields ProgramFlash _ (λ f k. (refl, k)) (program_block_back fields below))
    (row 0x14 code fields _ _ (made 0x14 fields ReadFlash _ (λ f k. (refl, k)) (read_block_back fields below))
    (row 0x15 code fields _ _ (made 0x15 fields ProgramEeprom _ (λ f k. (refl, k)) (program_block_back fields below))
    (row 0x16 code fields _ _ (made 0x16 fields ReadEeprom _ (λ f k. (refl, k)) (read_block_back fields below))
    (search (rules, row, made, instruction_back, read_byte_back, spi_multi_sound))))))))))))

pub only_body : (bytes : List ℕ) → Below bytes
    → MatchOption (command_of bytes) (Unit {0}) (λ c. (body c ≡ bytes) × FieldsFit c)
only_body [] below = tt
only_body (code ∷ fields) below = (with_fields_sound code fields (λ i. below (suc i))).emits

-- These bytes are read as exactly the command whose body they are.
pub is_read : (bytes : List ℕ) → Below bytes → (c : Command) → FieldsFit c
    → (command_of bytes ≡ Some c) ↔ (body c ≡ bytes)
is_read bytes below c fits = search (rules, only_body bytes below, read_back c fits)
