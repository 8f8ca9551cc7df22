use Rattle.std.proofs.Common.{rules, ◌≡◌, length}
use Rattle.std.proofs.lemmas.Result.{err_from_is_err_and}
use Rattle.avr_records.proofs.Readers.Extents.{left_lines, walks_good_line, walks_past_end, walks_bad_line, walks_last_line, walks_empty_line}
use Rattle.avr_records.proofs.needed.needed_size.Goals as goal

pub returns-in_err-take_line-clause-size : goal.returns-in_err-take_line-clause-size
returns-in_err-take_line-clause-size c short =
    let p = err_from_is_err_and c.from_residual.result c.from_residual.ensures.1 in
    let is = left_lines _ _ _ c.in-Some.ensures.0 c.in-Some.ensures.1 in
    rw (p.1, p.2) (search (rules, walks_bad_line, c.in_err-take_line.ensures.step))

pub returns-then-extent-clause-size : goal.returns-then-extent-clause-size
returns-then-extent-clause-size c short =
    let next = walks_good_line _ _ _ _ _ _ _ (left_lines _ _ _ c.in-Some.ensures.0 c.in-Some.ensures.1)
    c.loop-line.invariant.goes_on c.loop-line.invariant.walked c.in_ok-take_line.ensures.step.0 in
    search (rules, walks_past_end)

pub returns-then-is_empty-clause-size : goal.returns-then-is_empty-clause-size
returns-then-is_empty-clause-size c short =
    let none : length c.loop-line.rest.now ≡ 0 = search rules in search (rules, walks_empty_line)

pub returns-in_err-take_line-2-clause-size : goal.returns-in_err-take_line-2-clause-size
returns-in_err-take_line-2-clause-size c short =
    let p = err_from_is_err_and c.from_residual-in_err-take_line-2.result
    c.from_residual-in_err-take_line-2.ensures.1 in
    rw (p.1, p.2) (search (rules, walks_bad_line, c.in_err-take_line-2.ensures.step, c.in_default.ensures))

pub returns-clause-size : goal.returns-clause-size
returns-clause-size c short =
    search (rules, walks_last_line, walks_good_line, c.in_ok-take_line-2.ensures.step, c.in_default.ensures)
