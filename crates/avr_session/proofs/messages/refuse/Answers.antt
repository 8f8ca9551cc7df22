use Rattle.avr_session.specs.Refusal.{refusal_line}
use Rattle.avr_session.proofs.messages.refuse.Goals as goal

pub returns-clause-notice : goal.returns-clause-notice
unfolding refusal_line
returns-clause-notice g c = rw (← c.settings_message.ensures) c.refuse.ensures.notice
