-- A worked run: `-p m328p` over a programmer that replies at once. Also a session over a link that forges a frame.
use Rattle.std.specs.Prelude.{ℕ, List, [], ◌∷◌, ◌++◌, Some, None, false, codes}
use Rattle.avr_plan.specs.declared.settings.Settings.{Settings}
use Rattle.avr_plan.specs.declared.settings.Port.TheVariants.{Stdio}
use Rattle.avr_io.specs.Lines.{spaced_digits}
use Rattle.avr_io.specs.OutputEvents.{OutputEvent}
use Rattle.avr_part.specs.BuiltIn.{m328p}
use Rattle.avr_part.specs.declared.part.Mem.TheVariants.{Lfuse}
use Rattle.avr_plan.specs.Plan.{Plan}
use Rattle.avr_plan.specs.declared.planned.Task.TheVariants.{Verify}
use Rattle.avr_session.specs.Lines.{informs}
use Rattle.stk_frame.specs.Frame.{frame}
use Rattle.stk_host.specs.Tape.{Tape, on_tape}

-- The settings of `-p m328p -P stdio:`.
abbrev pub worked_settings : Settings
worked_settings = record {
  part = codes "m328p";
  port = Stdio;
  parts = None;
  updates = [];
  switches = record {
    erase = false;
    keep_flash = false;
    no_verify = false;
    dry = false;
    force = false;
    all = false;
    quiet = 0;
  };
}

-- The replies: a name, programming mode, the signature 1E 95 0F, and leaving.
abbrev pub worked_replies : Tape
worked_replies = on_tape (
    0x1B ∷ 0x01 ∷ 0x00 ∷ 0x0B ∷ 0x0E ∷ 0x01 ∷ 0x00 ∷ 0x08 ∷ 0x53 ∷ 0x54 ∷ 0x4B ∷ 0x35 ∷ 0x30 ∷ 0x30 ∷ 0x5F ∷ 0x32 ∷ 0x02
    ∷ 0x1B ∷ 0x02 ∷ 0x00 ∷ 0x02 ∷ 0x0E ∷ 0x10 ∷ 0x00 ∷ 0x05
    ∷ 0x1B ∷ 0x03 ∷ 0x00 ∷ 0x04 ∷ 0x0E ∷ 0x1B ∷ 0x00 ∷ 0x1E ∷ 0x00 ∷ 0x17
    ∷ 0x1B ∷ 0x04 ∷ 0x00 ∷ 0x04 ∷ 0x0E ∷ 0x1B ∷ 0x00 ∷ 0x95 ∷ 0x00 ∷ 0x9B
    ∷ 0x1B ∷ 0x05 ∷ 0x00 ∷ 0x04 ∷ 0x0E ∷ 0x1B ∷ 0x00 ∷ 0x0F ∷ 0x00 ∷ 0x00
    ∷ 0x1B ∷ 0x06 ∷ 0x00 ∷ 0x02 ∷ 0x0E ∷ 0x11 ∷ 0x00 ∷ 0x00 ∷ []
    )

-- The frames: SIGN_ON, ENTER, three bytes of the signature, LEAVE.
abbrev pub worked_frames : List ℕ
worked_frames =
    0x1B ∷ 0x01 ∷ 0x00 ∷ 0x01 ∷ 0x0E ∷ 0x01 ∷ 0x14
    ∷ 0x1B ∷ 0x02 ∷ 0x00 ∷ 0x0C ∷ 0x0E ∷ 0x10 ∷ 0xC8 ∷ 0x64 ∷ 0x19 ∷ 0x20 ∷ 0x00 ∷ 0x53 ∷ 0x03 ∷ 0xAC ∷ 0x53 ∷ 0x00
    ∷ 0x00 ∷ 0x31
    ∷ 0x1B ∷ 0x03 ∷ 0x00 ∷ 0x06 ∷ 0x0E ∷ 0x1B ∷ 0x04 ∷ 0x30 ∷ 0x00 ∷ 0x00 ∷ 0x00 ∷ 0x3F
    ∷ 0x1B ∷ 0x04 ∷ 0x00 ∷ 0x06 ∷ 0x0E ∷ 0x1B ∷ 0x04 ∷ 0x30 ∷ 0x00 ∷ 0x01 ∷ 0x00 ∷ 0x39
    ∷ 0x1B ∷ 0x05 ∷ 0x00 ∷ 0x06 ∷ 0x0E ∷ 0x1B ∷ 0x04 ∷ 0x30 ∷ 0x00 ∷ 0x02 ∷ 0x00 ∷ 0x3B
    ∷ 0x1B ∷ 0x06 ∷ 0x00 ∷ 0x03 ∷ 0x0E ∷ 0x11 ∷ 0x01 ∷ 0x01 ∷ 0x01 ∷ []

-- The lines: the signature, and the end.
abbrev pub worked_lines : List OutputEvent
worked_lines =
    informs 0 (codes "device signature = " ∷ spaced_digits (0x1E ∷ 0x95 ∷ 0x0F ∷ []) ∷ [])
    ++ informs 0 (codes "done" ∷ [])

-- A comparison of the low fuse with E2.
abbrev pub fuse_plan : Plan
fuse_plan = record {
  part = m328p;
  tasks = Verify Lfuse (Some 0xE2 ∷ []) ∷ [];
  switches = worked_settings.switches;
}

-- A tape for it with a forged frame: the reply for the fuse is E2, whatever the chip has.
abbrev pub forged_replies : Tape
forged_replies = on_tape (
    frame 1 (0x01 ∷ 0x00 ∷ 0x08 ∷ codes "STK500_2") ++ frame 2 (0x10 ∷ 0x00 ∷ [])
    ++ frame 3 (0x1B ∷ 0x00 ∷ 0x1E ∷ 0x00 ∷ []) ++ frame 4 (0x1B ∷ 0x00 ∷ 0x95 ∷ 0x00 ∷ [])
    ++ frame 5 (0x1B ∷ 0x00 ∷ 0x0F ∷ 0x00 ∷ [])
    ++ frame 6 (0x18 ∷ 0x00 ∷ 0xE2 ∷ 0x00 ∷ []) ++ frame 7 (0x11 ∷ 0x00 ∷ [])
    )
