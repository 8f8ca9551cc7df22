-- What the definitions of the promise just refuse, and for two limits the last value that they allow.
use Rattle.std.proofs.Common.{rules, ◌≡◌, arith, ℕ, zero, suc, List, [], ◌∷◌, ◌++◌, append-nil, length, refl, inl, inr, Option, Some, true}
use Rattle.std.proofs.lemmas.List.{append_cancel_left}
use Rattle.std.specs.Prelude.{codes, replicate}
use Rattle.avr_plan.specs.declared.update.Format.TheVariants.{Raw}
use Rattle.avr_plan.specs.declared.planned.Task.{Task}
use Rattle.avr_io.specs.Record.{Bytes, Record, all_uses, openings_among}
use Rattle.avr_io.specs.declared.record.Opening.{Opening}
use Rattle.avr_image.specs.Image.{from_zero}
use Rattle.avr_part.specs.BuiltIn.{m328p}
use Rattle.avr_part.specs.Part.{Part}
use Rattle.avr_plan.specs.Plan.{Plan}
use Rattle.stk_emu.specs.Effect.{Memories}
use Rattle.stk_frame.specs.Frame.{frame}
use Rattle.avr_laws.proofs.Held.Chip.{chip_in_file, from_file, with_memories}
use Rattle.avr_laws.proofs.Rows.OtherSignature.{m328}
use Rattle.avr_laws.specs.AskedPlan.{AreTasksOf, HasImage, WasOpened}
use Rattle.avr_laws.specs.Kept.{KeepsOnPart}
use Rattle.avr_laws.specs.KeptByPort.{IsKeptInFile, KeepsPlan}
use Rattle.avr_laws.specs.NoForgedFrame.{IsAmongFirst, IsNotForged}
use Rattle.avr_laws.specs.Worked.{worked_settings}
use Rattle.avr_laws.specs.WorkedLoss.{image_read, loss_updates, old_file}

-- ---- a reply that is 255 frames late isn't forged, and one that is 256 late is

abbrev late : List ℕ
late = frame 1 (0x01 ∷ 0x00 ∷ [])

-- the replies so far, the last one first, if those since this one were lost
abbrev since_late : ℕ → List (List ℕ)
since_late count = replicate count [] ++ late ∷ []

-- the late reply is among so many and one more
still_among : (count : ℕ) → IsAmongFirst (suc count) (since_late count) late
still_among zero = inl refl
still_among (suc count) = inr (still_among count)

-- it isn't among so many
no_longer_among : (count : ℕ) → IsAmongFirst count (since_late count) late → ⊥
no_longer_among zero among = among
no_longer_among (suc count) (inl same) = cc
no_longer_among (suc count) (inr among) = no_longer_among count among

-- so 255 frames late it isn't forged
pub late_by_255 : IsNotForged (since_late 255) late
late_by_255 good = inr (still_among 255)

-- and 256 frames late it is
pub late_by_256 : IsNotForged (since_late 256) late → ⊥
late_by_256 not_forged = elim (not_forged refl) [ inl same ↦ cc | inr among ↦ no_longer_among 256 among ]

-- ---- a file that was read before the run gives no text

-- an update of a file needs an opening
one_needed : (part : Part) (tasks : List Task) (opened : List Opening)
    → AreTasksOf WasOpened part loss_updates tasks opened → opened ≡ [] → ⊥
one_needed part [] opened are none = are
one_needed part (update ∷ tasks) opened are none = search rules

pub read_before : (IsSo : Plan → Type 0)
    → KeepsPlan (record worked_settings { updates = loss_updates }) image_read image_read [] IsSo → ⊥
read_before IsSo keeps = search (rules, one_needed, append-nil)

-- ---- one more file was opened than the plan asks for

pub another_opening : (IsSo : Plan → Type 0) (old new : Record) (more : Opening)
    → openings_among (all_uses new) ≡ openings_among (all_uses old) ++ more ∷ []
    → KeepsPlan worked_settings old new [] IsSo → ⊥
another_opening IsSo old new more is keeps = search (rules, append_cancel_left)

-- ---- a file of 4,194,304 bytes gives an image, and a longer one doesn't

-- the longest file that gives an image
pub longest_file : (text : Bytes) → length text ≡ 4194304
    → HasImage (λ name given opened. given ≡ text) (codes "image") Raw 4194304 (from_zero text 4194304) []
longest_file text is = (text, refl, omega (arith, is), (omega (arith, is), refl))

-- a file of one byte more
pub longer_file : (text : Bytes) (size : ℕ) (image : List (Option ℕ)) → length text ≡ 4194305
    → HasImage (λ name given opened. given ≡ text) (codes "image") Raw size image [] → ⊥
longer_file text size image is has = search rules

-- ---- a chip file of another part

abbrev empty_plan : Plan
empty_plan = record { part = m328p; tasks = []; switches = worked_settings.switches }

-- a file of another part's size
pub another_part : (name : Bytes) (old new : Record) → IsKeptInFile name (Some old_file) empty_plan old new → ⊥
another_part name old new kept =
    let found = chip_in_file m328p (Some old_file) kept.before kept.was in
    let size = (from_file m328p (Some old_file) (with_memories m328p kept.before) found).0 in omega (arith, size)

-- ---- another signature, without -F, also if the run is dry

abbrev dry_plan : Plan
dry_plan = record { part = m328; tasks = []; switches = record worked_settings.switches { dry = true } }

-- so nothing is kept
pub dry_not_forced : (before after : Memories) (old now : Record)
    → KeepsOnPart m328p dry_plan before after old now → ⊥
dry_not_forced before after old now kept = search rules
