use Rattle.std.proofs.Common.{refl}
use Rattle.avr_laws.proofs.Rows.Loss.{frames_came, chip_is_in_file, chip_is_sound, ends_with_0, flash_is, image_is_asked, none_is_forged, sends_frames}
use Rattle.avr_laws.proofs.runs.a_run_over_a_bad_link_meets_all_premises.Goals as goal

pub returns : goal.returns
returns c = record {
  image = image_is_asked;
  ends = ends_with_0;
  sends = sends_frames;
  chip = (chip_is_in_file, chip_is_sound, refl);
  came = frames_came;
  forged = none_is_forged;
  left = flash_is;
}
