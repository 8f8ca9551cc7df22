-- How a session goes on after an action. NoFault: no fault so far, so the next action follows. Faulty: a fault was
-- reported, and at most leaving programming mode is left to do. Over: a fault was reported, and nothing more is sent:
-- the link has ended, or programming mode was left.
pub data Standing : Type 0 where
  NoFault : Standing
  Faulty : Standing
  Over : Standing
