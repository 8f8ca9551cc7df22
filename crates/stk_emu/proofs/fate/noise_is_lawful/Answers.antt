use Rattle.std.proofs.Common.{rules, arith, length-drop}
use Rattle.stk_emu.proofs.Wires.NoiseCuts.{noise_next, good_next}
use Rattle.stk_emu.proofs.fate.noise_is_lawful.Goals as goal

pub loop-at-preserved : goal.loop-at-preserved
loop-at-preserved c =
    let next = noise_next c.loop-at.reader c.feed-used.new.self c.args.noise.now c.loop-at.at c.feed-used.result.0 _
    c.feed-used.ensures.fed c.feed-used.ensures.is_reported c.in_default.not-Frame c.loop-at.invariant.stands
    c.loop-at.invariant.none in
    record {
      in_range = omega (arith, c.feed-used.ensures.within, length-drop c.loop-at.at c.args.noise.now);
      stands = next.0;
      none = next.1;
    }

pub returns-in-Frame : goal.returns-in-Frame
returns-in-Frame c = (
  search rules,
  λ lawful. absurd (good_next c.loop-at.reader c.feed-used.new.self c.args.noise.now c.loop-at.at c.feed-used.result.0
      (rw c.in-Frame.is at c.feed-used.ensures.fed) (rw c.in-Frame.is at c.feed-used.ensures.is_reported).1
      c.loop-at.invariant.stands c.loop-at.invariant.none lawful.no_frame),
)
