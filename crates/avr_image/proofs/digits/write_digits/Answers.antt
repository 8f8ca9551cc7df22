use Rattle.std.proofs.Common.{rules}
use Rattle.avr_image.proofs.Texts.Digits.{none_written}
use Rattle.avr_image.proofs.digits.write_digits.Goals as goal

pub loop-buffer-init : goal.loop-buffer-init
loop-buffer-init c = search (rules, none_written)
