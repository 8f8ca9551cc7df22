use Rattle.std.proofs.lemmas.Grind.{common_steps}
use Rattle.std.proofs.Common.{arith, rules, sym, ◌∙◌, ◌*◌}
use Rattle.std.proofs.lemmas.Bool.Decides.{nat_tests}
use Rattle.avr_image.proofs.Lemmas.{next_held}
use Rattle.avr_records_c.proofs.Maps.{put_all, put_gap, none_put, put_one, put_run}
use Rattle.avr_records_c.proofs.bitmap.put_bitmap.Goals as goal

pub run_from-requires : goal.run_from-requires
run_from-requires c =
    let found = sym c.first_from.ensures ∙ c.in-Some.is in
    let next = next_held c.args.image.now (c.loop-next.next * 8) c.in-Some.addr found in
    omega (arith, next.within)

pub loop-next-smaller : goal.loop-next-smaller
loop-next-smaller c = grind (arith, common_steps, next_held)

pub loop-next-smaller-then-first-end : goal.loop-next-smaller-then-first-end
loop-next-smaller-then-first-end c =
    let found = sym c.first_from.ensures ∙ c.in-Some.is in
    let next = next_held c.args.image.now (c.loop-next.next * 8) c.in-Some.addr found in
    search rules

pub returns-in_default : goal.returns-in_default
returns-in_default c = grind (arith, nat_tests, none_put)

pub returns-then-first-present : goal.returns-then-first-present
returns-then-first-present c =
    let kept = put_gap _ _ _ _ (sym c.first_from.ensures ∙ c.in-Some.is) c.loop-next.invariant.so_far in
    grind (arith, nat_tests, put_all)

pub loop-next-preserved : goal.loop-next-preserved
loop-next-preserved c =
    let kept = put_gap _ _ _ _ (sym c.first_from.ensures ∙ c.in-Some.is) c.loop-next.invariant.so_far in
    let moved = put_one _ _ _ _ (omega arith) c.octet.ensures kept in
    record { same_length = search rules; within = search rules; so_far = moved }

pub loop-next-preserved-then-first-end : goal.loop-next-preserved-then-first-end
loop-next-preserved-then-first-end c =
    let found = sym c.first_from.ensures ∙ c.in-Some.is in
    let next = next_held c.args.image.now (c.loop-next.next * 8) c.in-Some.addr found in
    let kept = put_gap _ _ _ _ found c.loop-next.invariant.so_far in
    let moved = put_run _ _ _ c.size.result _ _ kept (omega (arith, next.within)) (omega arith) (omega arith)
    c.fill_octets.ensures (omega arith) in
    record { same_length = search rules; within = search rules; so_far = moved }

pub returns : goal.returns
returns c = grind (arith, nat_tests, put_all)
