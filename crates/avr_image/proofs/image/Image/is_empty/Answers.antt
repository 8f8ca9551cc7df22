use Rattle.avr_image.proofs.Walks.Runs.{empty_held}
use Rattle.avr_image.proofs.image.Image.is_empty.Goals as goal

pub returns : goal.returns
returns c = empty_held c.args.self.now c.first_from.result c.is_none.result c.first_from.ensures c.is_none.ensures
