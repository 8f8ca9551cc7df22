use Rattle.std.proofs.lemmas.Bool.Decides.{nat_tests}
use Rattle.std.proofs.Common.{◌≡◌, ◌∙◌, sym, ap, arith, ℕ, ◌+◌, ◌-◌, ◌≤◌, List, ◌++◌, length, drop}
use Rattle.std.proofs.lemmas.List.{length-drop}
use Rattle.avr_records.specs.Writing.{text_left}
use Rattle.avr_records_c.proofs.Rooms.{IsPut, NextLine, all_put, line_out, more_put, room_length}
use Rattle.avr_records_c.proofs.writing.put_rest.Goals as goal

pub returns-then-gone-count-clause-put : goal.returns-then-gone-count-clause-put
returns-then-gone-count-clause-put c =
    let kept = c.lines.invariant in
    let text : List ℕ = drop c.args.gone.now (text_left c.args.lines.now c.args.memory.now) in
    let whole : List ℕ = text_left c.lines.lines c.args.memory.now in
    let more : List ℕ = text_left c.next_line.new.self c.args.memory.now in
    let line : List ℕ = c.as_slice.result.now in
    let after : List ℕ = c.put_part-count.new.room in
    let count : ℕ = c.put_part-count.result in
    let next : NextLine whole = record {
      line = line;
      more = more;
      joined = c.next_line.ensures.joined ∙ ap (λ (xs : List ℕ). xs ++ more) (sym c.as_slice.ensures.value);
    } in
    let moved : IsPut text (drop (c.lines.gone + count) whole) c.args.room.now (c.lines.put + count) after =
    more_put text whole c.args.room.now c.lines.room after c.lines.put c.lines.gone count next kept.so_far
    c.put_part-count.ensures.count c.put_part-count.ensures.room in
    grind (arith, nat_tests, all_put, length-drop, room_length)

pub lines-preserved : goal.lines-preserved
lines-preserved c =
    let kept = c.lines.invariant in
    let text : List ℕ = drop c.args.gone.now (text_left c.args.lines.now c.args.memory.now) in
    let whole : List ℕ = text_left c.lines.lines c.args.memory.now in
    let more : List ℕ = text_left c.next_line.new.self c.args.memory.now in
    let line : List ℕ = c.as_slice.result.now in
    let after : List ℕ = c.put_part-count.new.room in
    let count : ℕ = c.put_part-count.result in
    let left : ℕ = c.lines.gone - (c.len-in-lines.result - count) in
    let next : NextLine whole = record {
      line = line;
      more = more;
      joined = c.next_line.ensures.joined ∙ ap (λ (xs : List ℕ). xs ++ more) (sym c.as_slice.ensures.value);
    } in
    let moved : IsPut text (drop (c.lines.gone + count) whole) c.args.room.now (c.lines.put + count) after =
    more_put text whole c.args.room.now c.lines.room after c.lines.put c.lines.gone count next kept.so_far
    c.put_part-count.ensures.count c.put_part-count.ensures.room in
    let long = ap length c.as_slice.ensures.value in
    let cut = length-drop c.lines.gone line in
    let out : length line ≤ c.lines.gone + count = omega (arith, c.if-gone-count.false, c.len.ensures.value, long) in
    let left_is : left ≡ c.lines.gone + count - length line =
    omega (arith, c.put_part-count.ensures.count, cut, c.len-in-lines.ensures.value, long, out) in
    record {
      so_far = line_out text whole c.args.room.now after (c.lines.put + count) (c.lines.gone + count) left next
          moved out left_is;
      kind = c.next_line.ensures.kind ∙ kept.kind;
    }
