use Rattle.std.proofs.Common.{◌∙◌, ap, sym, subst, refl, arith, ◌≡◌, ◌<◌, ◌≤◌, ◌+◌, ℕ, List, [], ◌∷◌, ◌++◌, length, append_assoc, append-nil, Result, Ok, Err, IsOk, OnOk, OnErr, IsTrue, Bool, true, false, rules}
use Rattle.std.proofs.lemmas.Result.{err_from_is_err_and}
use Rattle.avr_io.specs.Fault.{HasSameCounts}
use Rattle.avr_io.specs.Record.{ChangesRecord, Record, showing}
use Rattle.avr_io.specs.Stream.{after_sent, SendsPart}
use Rattle.avr_io.specs.declared.desk.DeskFault.{DeskFault}
use Rattle.avr_io.specs.declared.stream.Stream.{Stream}
use Rattle.avr_io.proofs.Lines.SentBytes.{sent_next, sent_next_part, sent_none}
use Rattle.ghosts.specs.Preserves.{Preserves}
use Rattle.avr_session.proofs.file_text.write_pieces.Goals as goal
use Rattle.avr_session.proofs.file_text.write_pieces.Goals.{then-len-remaining_capacity+in_ok-write_all, else-len-remaining_capacity}

none_left : (xs : List ℕ) (more : Bool) → more ≡ false → (0 < length xs → IsTrue more) → xs ≡ []
none_left [] more is ends = refl
none_left (x ∷ xs) more is ends = let e : more ≡ true = ends (omega arith) in cc

put_whole : {A E P : Type 0} (r : Result A E) → IsOk r → OnOk r P → P
put_whole (Ok a) good put = put
put_whole (Err e) good put = cc

-- a piece was put after the waiting bytes, of which a prefix may have been written before
behind : (all done waiting piece rest sent waits next more : List ℕ) → all ≡ done ++ (waiting ++ rest)
    → rest ≡ piece ++ more → waiting ≡ sent ++ waits → next ≡ waits ++ piece → all ≡ (done ++ sent) ++ (next ++ more)
behind all done waiting piece rest sent waits next more first second third fourth =
    rw (first, third, second, fourth) (simp append_assoc)

-- the waiting bytes are written last
all_sent : (s : Stream) (old now new : Record) (done waiting text : List ℕ) (r : Result (Unit {0}) DeskFault)
    → text ≡ done ++ waiting → now ≡ after_sent s done old → OnOk r (new ≡ after_sent s waiting now)
    → OnOk r (new ≡ after_sent s text old)
all_sent s old now new done waiting text (Ok ok) is before sent =
    sent_next s old now new done waiting before sent ∙ ap (λ (xs : List ℕ). after_sent s xs old) (sym is)
all_sent s old now new done waiting text (Err fault) is before sent = tt

part_sent : (s : Stream) (old now new : Record) (done waiting text : List ℕ) (r : Result (Unit {0}) DeskFault)
    → text ≡ done ++ waiting → now ≡ after_sent s done old
    → OnErr r (SendsPart s (showing now 0 0) (showing new 0 0) waiting)
    → OnErr r (SendsPart s (showing old 0 0) (showing new 0 0) text)
part_sent s old now new done waiting text (Ok ok) is before part = tt
part_sent s old now new done waiting text (Err fault) is before part =
    subst (SendsPart s (showing old 0 0) (showing new 0 0))
    (sym (is ∙ ap (λ (xs : List ℕ). done ++ xs) (sym (append-nil waiting))))
    (sent_next_part s old now new done waiting [] before part)

pub pieces-preserved : goal.pieces-preserved
pieces-preserved g c =
    let i = c.pieces.invariant.sent in
    let j = c.if-len-remaining_capacity in
    let view = g.D.Desk.view in
    let w : (sent : List ℕ) × ((c.pieces.waiting.items ≡ sent ++ j.waiting.items)
    × ChangesRecord (after_sent c.args.stream sent) (view c.pieces.desk) (view j.desk)
    × HasSameCounts (view c.pieces.desk) (view j.desk) × Preserves g.D.Desk.started_as c.pieces.desk j.desk
    × (length j.waiting.items + length c.next_piece.new.out.items ≤ 4096)) = elim j.branch [
      | then-len-remaining_capacity+in_ok-write_all w ↦ rw (w.desk-is, w.waiting-is, w.clear.ensures)
          (c.pieces.waiting.items, search (rules, append-nil, w.as_slice.ensures.value, w.in_ok-write_all.ensures))
      | else-len-remaining_capacity w ↦ rw (w.desk-is, w.waiting-is) ([], search (rules, sent_none))
    ] in
    let put = put_whole c.try_extend_from_slice.result
    (c.try_extend_from_slice.ensures.variant.1 (rw c.as_slice-in-pieces.ensures.value w.1.4))
    c.try_extend_from_slice.ensures.ok in
    record {
      sent = (
        i.0 ++ w.0,
        behind _ i.0 c.pieces.waiting.items c.next_piece.new.out.items _ w.0 j.waiting.items _ _ i.1
            c.next_piece.ensures.joined w.1.0 (rw c.as_slice-in-pieces.ensures.value at put),
        sent_next c.args.stream _ _ _ i.0 w.0 i.2 w.1.1,
      );
      counted = (w.1.2.0 ∙ c.pieces.invariant.counted.0, w.1.2.1 ∙ c.pieces.invariant.counted.1);
      stays = λ start of. w.1.3 start (c.pieces.invariant.stays start of);
    }

pub returns-in_err-write_all : goal.returns-in_err-write_all
returns-in_err-write_all g c =
    let p = err_from_is_err_and c.from_residual.result c.from_residual.ensures.1 in
    let i = c.pieces.invariant.sent in
    let part = subst (SendsPart c.args.stream (g.D.Desk.view c.args.desk.now) (g.D.Desk.view c.write_all.new.desk))
    (sym i.1) (sent_next_part c.args.stream _ _ _ i.0 c.pieces.waiting.items (g.P.Pieces.rest c.pieces.text) i.2
    (rw c.as_slice.ensures.value at c.in_err-write_all.ensures.part)) in
    rw (p.1, p.2) (search rules)

pub returns : goal.returns
returns g c =
    let i = c.pieces.invariant.sent in
    let none = none_left (g.P.Pieces.rest c.pieces.text) c.next_piece.result c.pieces-test.false
    c.next_piece.ensures.ends.1 in
    let waits = c.pieces.waiting.items in
    record {
      all = search (rules, none_left, all_sent, append-nil);
      part = part_sent c.args.stream _ _ _ i.0 waits _ c.write_all-2.result
          (i.1 ∙ ap (λ (xs : List ℕ). i.0 ++ xs) (ap (λ (xs : List ℕ). waits ++ xs) none ∙ append-nil waits)) i.2
          (rw (← c.as_slice-rest.ensures.value) c.write_all-2.ensures.part);
      call = search rules;
    }
