use Rattle.avr_laws.proofs.Rows.Bootloader.{frames_came, ends_with_0, flash_is, none_is_forged, sends_frames, starts_sound, tiny_reads}
use Rattle.avr_laws.proofs.Rows.PageCounter.{counter_refused, start_fits}
use Rattle.avr_laws.specs.WorkedBootloader.{FitsBoot}
use Rattle.avr_laws.specs.WorkedLoss.{loss_part}
use Rattle.avr_laws.proofs.bootloaders.a_run_over_a_bootloader_meets_all_premises.Goals as goal

pub returns : goal.returns
returns c = record {
  reads = tiny_reads;
  unlike = counter_refused (FitsBoot loss_part) (FitsBoot loss_part) start_fits;
  ends = ends_with_0;
  sends = sends_frames;
  starts = starts_sound;
  came = frames_came;
  forged = none_is_forged;
  left = flash_is;
}
