use Rattle.avr_session.proofs.messages.fault_message.Goals as goal

pub returns-in-Refused : goal.returns-in-Refused
returns-in-Refused c = rw c.in-Refused.is (c.refused_message.ensures c.args.part.now)

pub returns-in-BadAnswer : goal.returns-in-BadAnswer
returns-in-BadAnswer c = rw c.in-BadAnswer.is (c.bad_reply_message.ensures c.args.part.now)

pub returns-in-Differs : goal.returns-in-Differs
returns-in-Differs c = rw c.in-Differs.is (c.differs_message.ensures c.args.part.now)
