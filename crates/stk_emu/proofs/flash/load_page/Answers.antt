use Rattle.std.proofs.Common.{rules, ◌≡◌, ◌<◌, length, arith}
use Rattle.std.proofs.lemmas.Bool.Decides.{nat_tests}
use Rattle.stk_emu.proofs.Memories.Blocks.{flash_load}
use Rattle.stk_emu.proofs.Memories.BlocksAtOnce.{block_is_loads}
use Rattle.stk_emu.proofs.flash.load_page.Goals as goal

pub loop-i-preserved : goal.loop-i-preserved
loop-i-preserved c =
    let b = c.args.block in
    flash_load b.wide b.command b.address c.loop-i.i c.args.bytes.now c.spi.result c.loop-i.chip
    c.spi.new.self _ (omega arith) c.loop-i.invariant
    (search rules)

pub returns-then-load_block : goal.returns-then-load_block
returns-then-load_block c =
    let b = c.args.block in
    let is : b.command ≡ 0x40 = grind (arith, nat_tests, c.if-block-eq-LOAD.true) in
    let some : 0 < length c.args.bytes.now = grind (arith, nat_tests, c.is_empty.ensures, c.if-not-is_empty.true) in
    search (rules, block_is_loads)
