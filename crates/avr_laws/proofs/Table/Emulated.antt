-- The emulated programmer meets the table.
use Rattle.std.proofs.Common.{◌≡◌, ◌∙◌, ℕ, List, [], ◌∷◌, length, refl, sym, subst, ◌⊎◌, inl, inr, Option, Some, Ok, rules, arith}
use Rattle.avr_part.specs.Part.{Part, IsPart}
use Rattle.stk_frame.specs.declared.command.Command.{Command}
use Rattle.stk_frame.specs.declared.command.Command.TheVariants.{LoadAddress}
use Rattle.stk_frame.specs.Commands.{body, judge}
use Rattle.stk_frame.specs.HostCommands.{enter, leave}
use Rattle.stk_host.specs.Steps.{Data}
use Rattle.stk_emu.specs.Device.{device}
use Rattle.stk_emu.specs.Programmer.{Programmer}
use Rattle.stk_emu.specs.Effect.{Memories, effects, memories_of}
use Rattle.stk_emu.specs.Settled.{FitsPart, HasMemories}
use Rattle.stk_emu.specs.WriteOperations.{IsStep, memories_after_step}
use Rattle.stk_emu.proofs.Repeatable.{AreReplied, FailsAt, IsRepeatable, Settled, Unbroken, after_commands, joined_reply, on_data, reply_to}
use Rattle.stk_emu.proofs.Replies.Commands.{enter_does, executes_command, leave_keeps, ready_idle, ready_settled, restart_is_settled, restart_keeps_memories, settled_idle}
use Rattle.avr_tool.proofs.StepData.EachStep.{data_of_attempt}
use Rattle.avr_tool.proofs.WriteOperations.OutsideMode.{load_reply, step_ends, step_fits}
use Rattle.avr_laws.specs.EmulatedStates.{HasEmptyBuffers, HasPart, chip_memories}
use Rattle.avr_laws.specs.Table.{IsDoneOrNot, IsProgrammer, RefusesRow, IsRow, Row, Stands, addressed, enter_body}
use Rattle.avr_laws.proofs.Table.Steps.{Fits32, IsSent, RowFor, step_for}

-- the two ways to say it
has_memories : (part : Part) (p : Programmer) → HasPart part p → HasMemories part (memories_of p.chip) p
has_memories part p i = record {
  memories = refl;
  part_is = i.part_is;
  flash_buffer = i.flash_buffer;
  eeprom_buffer = i.eeprom_buffer;
}

-- a programmer with empty buffers is settled
settled : (part : Part) (p : Programmer) → HasEmptyBuffers part p → Settled part (memories_of p.chip) p
settled part p s = record {
  memories = refl;
  part_is = s.part_is;
  flash_buffer = s.flash_buffer;
  eeprom_buffer = s.eeprom_buffer;
  extended = s.extended;
}

module _ (part : Part) (sound : IsPart part) where
  -- so it has these memories
  in_from : (x : Memories) (p : Programmer) → HasMemories part x p → Stands chip_memories (HasPart part) x p
  in_from x p s = record {
    memories = s.memories;
    is = record { part_is = s.part_is; flash_buffer = s.flash_buffer; eeprom_buffer = s.eeprom_buffer };
  }

  -- and in programming mode
  ready_from : (x : Memories) (p : Programmer) → Settled part x p → Stands chip_memories (HasEmptyBuffers part) x p
  ready_from x p s = record {
    memories = s.memories;
    is = record {
      part_is = s.part_is;
      flash_buffer = s.flash_buffer;
      eeprom_buffer = s.eeprom_buffer;
      extended = s.extended;
    };
  }

  -- ---- LOAD_ADDRESS

  -- it changes no memory
  load_keeps : (address : Option ℕ) (p : Programmer) → Fits32 address → HasEmptyBuffers part p
      → Stands chip_memories (HasEmptyBuffers part) (chip_memories p) (addressed device address p)
  load_keeps address p few ready = search (rules, executes_command)

  -- ---- the last command of a step

  -- the programmer after all commands
  at_last : (address : Option ℕ) (c : Command) (commands : List Command) (p : Programmer) → IsSent address c commands
      → after_commands device (length commands) commands p ≡ device.after (body c) (addressed device address p)
  at_last address c commands p is = search (rules, after_commands)

  -- a reply that is judged good gives its data
  reply_joined : (address : Option ℕ) (c : Command) (commands : List Command) (bytes : List ℕ) (p : Programmer)
      → Fits32 address → IsSent address c commands
      → judge c (device.reply (body c) (addressed device address p)) ≡ Ok bytes
      → joined_reply device commands [] p ≡ Data bytes
  reply_joined address c commands bytes p few is judged = search (rules, joined_reply, on_data, load_reply)

  -- the commands before the last have their replies
  replies : (address : Option ℕ) (c : Command) (commands : List Command) (p : Programmer) → Fits32 address
      → IsSent address c commands → AreReplied device (length commands) commands p
  replies address c commands p few is = search (rules, load_reply)

  module _ (commands : List Command) (step : IsStep part commands) (r : RowFor part commands) (p : Programmer)
      (sizes : FitsPart part (memories_of p.chip)) (ready : HasEmptyBuffers part p) where
    abbrev x : Memories
    x = memories_of p.chip

    abbrev after : Memories
    after = memories_after_step part commands x

    abbrev here : Programmer
    here = addressed device r.row.address p

    abbrev end : Programmer
    end = device.after r.row.command here

    -- the step may be repeated
    fits : IsRepeatable device commands (Settled part x) (Settled part after)
    fits = step_fits part sound commands x step

    -- after all commands the programmer is at the row's end
    ends_there : after_commands device (length commands) commands p ≡ end
    ends_there = search (rules, at_last)

    -- so the row is done
    done_from : Settled part after end → Stands chip_memories (HasEmptyBuffers part) (effects part r.row.writes x) end
    done_from t = ready_from (effects part r.row.writes x) end (subst (λ y. Settled part y end) (sym (r.writes x)) t)

    -- a good reply gives the row's data
    good_reply : (read : List ℕ) → length read ≡ r.row.count → device.reply r.row.command here ≡ r.row.reply read
        → joined_reply device commands [] p ≡ Data read
    good_reply read long e = grind (arith, reply_joined)

    -- right after a restart it is outside programming mode
    reply_is : (q : Programmer) (read : List ℕ) → length read ≡ r.row.count
        → device.reply r.row.command q ≡ r.row.reply read → reply_to device r.command q ≡ Data read
    reply_is q read long e = search rules

    -- a command that fails refuses the row
    refuses_row : (q : Programmer) → chip_memories q ≡ x
        → FailsAt device (λ z. Settled part x z ⊎ Settled part x z) r.command q
        → RefusesRow device chip_memories (HasEmptyBuffers part) r.row q
    refuses_row q same fails = record {
      kept = subst (λ (bytes : List ℕ). Stands chip_memories (HasEmptyBuffers part) (chip_memories q)
          (device.after bytes q)) r.body_is
          (ready_from (chip_memories q) (device.after (body r.command) q)
          (subst (λ y. Settled part y (device.after (body r.command) q)) (sym same) (elim fails.stands [
            | inl ready ↦ ready
            | inr ready ↦ ready
          ])));
      bad = λ read long e. fails.none read (reply_is q read long e);
    }

    -- a restart changes nothing, or the row is refused
    kept_or_refused : (a : ℕ) → r.row.address ≡ Some a → (device.reset p ≡ p)
        ⊎ RefusesRow device chip_memories (HasEmptyBuffers part) r.row (device.reset p)
    kept_or_refused a is =
        let sent : commands ≡ LoadAddress a ∷ r.command ∷ [] =
        subst (λ (o : Option ℕ). IsSent o r.command commands) is r.is_sent in
        let unbroken : Unbroken device (λ q. Settled part x q ⊎ Settled part x q) (LoadAddress a ∷ r.command ∷ []) =
        subst (Unbroken device (λ q. Settled part x q ⊎ Settled part x q)) sent (step_ends part sound commands x x step)
        in
        search (rules, settled, refuses_row, restart_is_settled)

    -- so the row is done, or not at all
    pub does : IsDoneOrNot device chip_memories (HasEmptyBuffers part) part r.row p
    does = record {
      loaded = load_keeps r.row.address p r.few ready;
      either = λ loaded. elim (fits.prefix p (length commands) (settled part p ready) (replies r.row.address r.command
          commands p r.few r.is_sent)) [
            | inl kept ↦ inl (ready_from x end (subst (Settled part x) ends_there kept))
            | inr changed ↦ inr (done_from (subst (Settled part after) ends_there changed))
          ];
      good = λ loaded read long e.
          let has = good_reply read long e in (
            data_of_attempt part sound commands x read step sizes
                (record { from = p; stood = inl (settled part p ready); is = has })
                ∙ sym (r.reads x),
            done_from (subst (Settled part after) ends_there (fits.whole p read has (settled part p ready))),
          );
      restarted = kept_or_refused;
    }

  -- ---- each row is a step

  -- of an equal row
  by_row : (row other : Row) (p : Programmer) → row ≡ other
      → IsDoneOrNot device chip_memories (HasEmptyBuffers part) part other p
      → IsDoneOrNot device chip_memories (HasEmptyBuffers part) part row p
  by_row row other p e d = subst (λ z. IsDoneOrNot device chip_memories (HasEmptyBuffers part) part z p) (sym e) d

  -- so each row is done, or not at all
  pub row_is_done : (row : Row) (p : Programmer) → IsRow part row → FitsPart part (memories_of p.chip)
      → HasEmptyBuffers part p → IsDoneOrNot device chip_memories (HasEmptyBuffers part) part row p
  row_is_done row p is sizes ready =
      let t = step_for part sound row is in by_row row _ p t.3 (does t.0 t.1 t.2 p sizes ready)

  -- ---- THE EMULATED PROGRAMMER MEETS THE TABLE

  -- after entering programming mode the buffers are empty
  entered_settled : (p : Programmer) → HasPart part p → HasEmptyBuffers part (device.after enter_body p)
  entered_settled p i = search (rules, ready_from, ready_settled, enter_does, has_memories)

  -- with empty buffers it has its part, too
  ready_has_part : (p : Programmer) → HasEmptyBuffers part p → HasPart part p
  ready_has_part p s = (in_from (memories_of p.chip) p (settled_idle part (memories_of p.chip) p (settled part p s))).is

  -- so it keeps the whole table
  pub emulated_meets : (Vouched : (row : Row) → IsRow part row → Memories → Type 0)
      → IsProgrammer part device chip_memories (HasPart part) (HasEmptyBuffers part) Vouched
  emulated_meets Vouched = record {
    signs_on = λ p i. record { memories = refl; is = i };
    enters = λ p i. in_from (memories_of p.chip) (device.after (body enter) p)
        (ready_idle part (memories_of p.chip) (device.after (body enter) p)
        (enter_does part (memories_of p.chip) p (has_memories part p i)));
    leaves = λ p i. in_from (memories_of p.chip) (device.after (body leave) p)
        (leave_keeps part (memories_of p.chip) p (has_memories part p i));
    restarts = λ p i. in_from (memories_of p.chip) (device.reset p)
        (restart_keeps_memories part (memories_of p.chip) p (has_memories part p i));
    entered = λ p i e. entered_settled p i;
    ready_in = ready_has_part;
    entered_again = λ p s. entered_settled p (ready_has_part p s);
    restarted = λ p s. (ready_from (memories_of p.chip) (device.reset p)
        (restart_is_settled part (memories_of p.chip) p (settled part p s))).is;
    rows = λ row p is v f s. row_is_done row p is f s;
  }
