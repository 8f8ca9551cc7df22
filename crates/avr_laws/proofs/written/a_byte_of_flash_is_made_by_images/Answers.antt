use Rattle.avr_tool.specs.Outcome.{write_operations}
use Rattle.avr_tool.specs.Items.{has_erase}
use Rattle.stk_emu.specs.Effect.{Memories}
use Rattle.avr_laws.specs.WrittenBytes.{IsMadeByImages}
use Rattle.std.proofs.Common.{rules, get_or, inl, inr, subst, sym, take, true, ◌≡◌, ◌⊎◌}
use Rattle.avr_laws.proofs.Memories.FlashBytes.{byte_made, all_written_first, erase_in_first}
use Rattle.avr_laws.proofs.written.a_byte_of_flash_is_made_by_images.Goals as goal

pub returns-clause-items : goal.returns-clause-items
returns-clause-items c = λ part items m addr l. byte_made part addr items m l

pub returns-clause-done : goal.returns-clause-done
returns-clause-done c = λ plan before after addr l done. search (rules, byte_made)

pub returns-clause-touched : goal.returns-clause-touched
returns-clause-touched c = λ plan before after addr l touched.
    let m : IsMadeByImages (take touched.count (write_operations plan)) addr (get_or before.flash addr 0)
    (get_or after.flash addr 0) =
    subst (λ (n : Memories). IsMadeByImages (take touched.count (write_operations plan)) addr
    (get_or before.flash addr 0) (get_or n.flash addr 0)) (sym touched.memories)
    (byte_made plan.part addr (take touched.count (write_operations plan)) before l) in
    let first_is : (m.first ≡ get_or before.flash addr 0)
    ⊎ ((m.first ≡ 255) × (has_erase (write_operations plan) ≡ true)) =
    elim m.first_is [
      | inl same ↦ inl same
      | inr blank ↦ inr (blank.0, erase_in_first touched.count (write_operations plan) blank.1)
    ] in search (rules, all_written_first)
