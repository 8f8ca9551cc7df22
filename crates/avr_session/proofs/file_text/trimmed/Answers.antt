use Rattle.std.proofs.Common.{◌≡◌, arith, rules}
use Rattle.std.proofs.lemmas.Grind.{common_steps}
use Rattle.avr_session.specs.FileText.{used_length}
use Rattle.avr_session.proofs.ActionByAction.Trimmed.{blank_dropped, last_used}
use Rattle.avr_session.proofs.file_text.trimmed.Goals as goal

pub blanks-preserved : goal.blanks-preserved
blanks-preserved c = search (rules, blank_dropped)

pub returns : goal.returns
returns c =
    let is : c.blanks.used ≡ used_length c.args.bytes.now = search (rules, last_used) in
    grind (arith, common_steps)
