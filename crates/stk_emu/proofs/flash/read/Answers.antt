use Rattle.std.proofs.Common.{rules, ◌≡◌, ◌<◌, ◌++◌, ◌+◌, ◌-◌, arith, length-append}
use Rattle.std.proofs.lemmas.Bool.Decides.{nat_tests}
use Rattle.stk_emu.specs.Programmer.{flash_reads}
use Rattle.stk_emu.proofs.Memories.Blocks.{flash_look}
use Rattle.stk_emu.proofs.Memories.BlocksAtOnce.{block_is_looks, block_length}
use Rattle.stk_emu.proofs.flash.read.Goals as goal

pub loop-place-preserved : goal.loop-place-preserved
loop-place-preserved c = record {
  on =
      let b = c.args.block in
      flash_look c.args.out.now.items _ b.command b.address c.loop-place.place b.wide
      (c.args.count - c.loop-place.place) (c.args.count - (c.loop-place.place + 1)) c.loop-place.chip
      c.spi-bytes.new.self c.loop-place.out.items c.push.new.self.items (omega arith) c.loop-place.invariant.on
      (record {
        spi_out = c.spi-bytes.result;
        executed = search rules;
        put = c.push.ensures.items;
      });
  len = rw (c.push.ensures.items, length-append) (omega (arith, c.loop-place.invariant.len));
}

pub returns-in-Some : goal.returns-in-Some
returns-in-Some c =
    let b = c.args.block in
    let is : b.command ≡ 0x20 = grind (arith, nat_tests, c.if-block-eq-READ.true) in
    let some : 0 < c.args.count = grind (arith, nat_tests, c.if-count-ne0.true) in
    let whole : flash_reads b.wide b.command b.address 0 c.args.count c.args.chip.now
    ≡ (c.in-Some.bytes.now, c.extend.new.chip) =
    search (rules, block_is_looks) in
    let put : c.try_extend_from_slice.new.self.items ≡ c.args.out.now.items ++ c.in-Some.bytes.now =
    search (rules, block_length) in
    search (rules, put, whole)
