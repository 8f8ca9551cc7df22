-- The worked run over a bad link meets all premises of the promise, and ends with status 0.
use Rattle.std.proofs.Common.{◌≡◌, arith, rules, [], ◌∷◌, refl, Some}
use Rattle.hex.specs.Hex.{decode_pairs}
use Rattle.avr_io.specs.Record.{all_openings}
use Rattle.std.proofs.lemmas.List.Elements.{All-cons, All-nil}
use Rattle.avr_part.specs.Part.{IsPart}
use Rattle.avr_part.specs.Sound.{IsSoundChip}
use Rattle.avr_session.specs.Session.{session}
use Rattle.stk_emu.specs.Device.{device}
use Rattle.stk_host.specs.Dialog.{frames_in, played}
use Rattle.stk_host.specs.Operations.{handshake, opening, closing, operation}
use Rattle.stk_host.specs.Steps.{exchange, attempt, attempts_or_fault, play}
use Rattle.stk_host.specs.Tape.{answer}
use Rattle.avr_laws.proofs.Lines.NoneForgedTest.{by_test}
use Rattle.avr_laws.specs.AnyTape.{ReceivedSentFrames, after_sent_frames}
use Rattle.avr_laws.specs.AskedPlan.{AreTasksOf, WasOpened}
use Rattle.avr_laws.specs.ChipFound.{IsChipInFile}
use Rattle.avr_laws.specs.Kept.{NoneForged}
use Rattle.avr_laws.specs.WorkedLoss.{image_read, image_text, loss_executions, loss_frames, loss_plan, loss_programmer, loss_replies, loss_updates, loss_part, old_chip, old_file, received_first, received_later}

-- it ends with status 0
pub ends_with_0 : (played (session loss_plan) 1 loss_replies).outcome ≡ Some (0, 17, [])
unfolding session opening handshake operation closing play attempts_or_fault attempt exchange answer
ends_with_0 = refl

-- it sends these frames
pub sends_frames : frames_in (played (session loss_plan) 1 loss_replies).events ≡ loss_frames
unfolding session opening handshake operation closing play attempts_or_fault attempt exchange answer
sends_frames = refl

-- the programmer received them, some after a restart
pub frames_came : ReceivedSentFrames received_first (received_later ∷ []) loss_frames loss_executions
frames_came = record { good = refl }

-- none of the replies is forged
pub none_is_forged : NoneForged device loss_frames loss_replies loss_programmer loss_executions []
unfolding answer
none_is_forged = by_test device loss_frames loss_replies loss_programmer loss_executions [] refl

pub is_part : IsPart loss_part
is_part = search rules

-- its chip is one of the part
pub chip_is_sound : IsSoundChip old_chip
chip_is_sound = search (rules, is_part, All-cons, All-nil)

-- and the chip of the file
pub chip_is_in_file : IsChipInFile loss_part (Some old_file) old_chip
chip_is_in_file = (refl, refl, refl, refl)

-- what the flash has then
pub flash_is : (after_sent_frames device loss_frames loss_executions loss_programmer).chip.flash
    ≡ 0x12 ∷ 0x34 ∷ 0xFF ∷ 0xFF ∷ 0xFF ∷ 0xFF ∷ 0xFF ∷ 0xFF ∷ []
flash_is = refl

-- the file that was opened asks for the plan's tasks
pub image_is_asked : AreTasksOf WasOpened loss_part loss_updates loss_plan.tasks (all_openings image_read)
unfolding decode_pairs
image_is_asked = (
  all_openings image_read,
  [],
  refl,
  (refl, refl, (image_text, refl, omega arith, ((0, 0x12) ∷ (1, 0x34) ∷ [], refl, refl, refl))),
  refl,
)
