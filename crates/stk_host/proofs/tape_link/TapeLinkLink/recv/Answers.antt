use Rattle.std.proofs.lemmas.Grind.{common_steps}
use Rattle.std.proofs.Common.{Ok, arith, rules}
use Rattle.stk_host.proofs.Tapes.Prefixes.{piece_alone, room_of, from_place}
use Rattle.stk_host.proofs.Tapes.TapeLinks.{same_of_tape, received_of_tape}
use Rattle.stk_host.proofs.tape_link.TapeLinkLink.recv.Goals as goal

pub returns-clause-piece : goal.returns-clause-piece
returns-clause-piece c = search (rules, piece_alone, room_of, from_place)

pub returns-in_default-clause-comes : goal.returns-in_default-clause-comes
returns-in_default-clause-comes c = search (rules, same_of_tape)

pub returns-clause-comes : goal.returns-clause-comes
returns-clause-comes c =
    received_of_tape (Ok c.give_piece-heard.result) _ _ _ (search rules) (returns-clause-piece c)
    (grind (arith, common_steps)) tt
