-- The commands of a host's steps have bodies that fit a frame.
use Rattle.std.proofs.Common.{◌≡◌, ℕ, List, [], ◌∷◌, sym, subst, rules}
use Rattle.avr_part.specs.Part.{Part, IsPart}
use Rattle.stk_frame.specs.declared.command.Command.{Command}
use Rattle.stk_frame.specs.declared.command.Fuse.{Fuse}
use Rattle.stk_frame.specs.Commands.{body}
use Rattle.stk_frame.specs.HostCommands.{program_fuse, read_fuse}
use Rattle.avr_tool.proofs.Each.{Each}
use Rattle.stk_host.proofs.ImagePlaces.PagesAndRuns.{page_most}
use Rattle.stk_emu.specs.Lawful.{IsFrameBody}
use Rattle.stk_emu.specs.WriteOperations.{IsStep, AreSteps}

-- each command fits a frame
abbrev pub AreSendable : List Command → Type 0
AreSendable commands = Each (λ command. IsFrameBody (body command)) commands

-- so does each command of these steps
abbrev pub EachSendable : List (List Command) → Type 0
EachSendable steps = Each AreSendable steps

module _ (part : Part) (sound : IsPart part) where
  -- the command that reads a fuse fits
  fuse_read_sendable : (f : Fuse) → AreSendable (read_fuse f ∷ [])
  fuse_read_sendable f = search rules

  -- equal commands fit alike
  by_commands : (written commands : List Command) → commands ≡ written → AreSendable written → AreSendable commands
  by_commands written commands e s = subst AreSendable (sym e) s

  -- the commands of any step of a part fit
  sendable : (commands : List Command) → IsStep part commands → AreSendable commands
  sendable commands is = search (rules, by_commands, page_most, fuse_read_sendable)

  -- and those of all its steps
  pub all_sendable : (steps : List (List Command)) → AreSteps part steps → EachSendable steps
  all_sendable [] are = tt
  all_sendable (commands ∷ steps) are = (sendable commands are.0, all_sendable steps are.1)
