use Rattle.avr_laws.proofs.FewBad.Sessions.{few_session_ends, session_done}
use Rattle.avr_laws.proofs.few_bad_frames.a_run_with_few_bad_frames_is_its_expected_run.Goals as goal

pub returns-clause-status : goal.returns-clause-status
returns-clause-status c = λ plan before count status p fates sound fitted sizes idle few_bad ended.
    (few_session_ends plan sound fitted before p fates sizes idle few_bad count status ended).status_is

pub returns-clause-memories : goal.returns-clause-memories
returns-clause-memories c = λ plan before count status p fates sound fitted sizes idle few_bad ended.
    (few_session_ends plan sound fitted before p fates sizes idle few_bad count status ended).memories

pub returns-clause-emits : goal.returns-clause-emits
returns-clause-emits c = λ plan before count status p fates sound fitted sizes idle few_bad ended.
    (few_session_ends plan sound fitted before p fates sizes idle few_bad count status ended).emitted

pub returns-clause-done : goal.returns-clause-done
returns-clause-done c = λ plan before count p fates sound fitted sizes idle few le.
    session_done plan sound fitted before count p fates sizes idle few le
