use Rattle.std.proofs.Common.{rules}
use Rattle.avr_laws.proofs.Lines.Ends.{plays_prefix}
use Rattle.avr_tool.proofs.Lines.InTurn.{stands_along, whole_emitted, whole_done}
use Rattle.avr_laws.proofs.conversations.over_a_wire_a_conversation_follows_its_exchanges.Goals as goal

pub returns-clause-programmer : goal.returns-clause-programmer
returns-clause-programmer g c = search (rules, stands_along)

pub returns-clause-whole : goal.returns-clause-whole
returns-clause-whole g c = λ d n p fates w events r after asks lawful keeps plays.
    let prefix = plays_prefix d n w.transcript events r after plays in (
      prefix,
      whole_done d n p fates w asks lawful keeps plays.in_turn events r after plays prefix,
      whole_emitted d n p fates w asks lawful keeps plays.in_turn events r after plays prefix,
    )
