use Rattle.std.proofs.Common.{◌≡◌, ◌≤◌, ◌+◌, ◌*◌, ◌-◌, ◌/◌}
use Rattle.avr_part.specs.declared.part.Mem.TheVariants.{Flash}
use Rattle.stk_host.specs.Bound.{commands_in}
use Rattle.stk_host.specs.Places.{each_from}
use Rattle.stk_host.specs.WriteSteps.{page_steps, write_steps}
use Rattle.avr_session.proofs.frames.flash_frames.Given as goal

abbrev pub invariant-loop-page : goal.invariant-loop-page
invariant-loop-page l = record {
  counted : l.count + commands_in (each_from (page_steps l.part l.image) l.page
      (l.part.flash_size / l.part.flash_page - l.page)) ≡ commands_in (write_steps l.part Flash l.image);
  few : l.count ≤ 2 * l.page;
  ends : l.pages ≡ l.part.flash_size / l.part.flash_page;
}
