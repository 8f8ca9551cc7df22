use Rattle.std.proofs.Common.{◌≡◌, ◌+◌, ◌-◌, ◌≤◌, ◌∙◌, ap, sym, arith, length, ◌∷◌, ◌++◌, [], ℕ, List, Result}
use Rattle.std.specs.Prelude.{is_ok, IsOk, if◌then◌else◌, vec_len, vec_capacity}
use Rattle.std.proofs.Math.Seq.{take-length}
use Rattle.std.proofs.lemmas.List.{append-nil}
use Rattle.stk_host.specs.Transcript as transcript
use Rattle.stk_host.specs.declared.log.Mark.TheVariants as mark
use Rattle.stk_host.proofs.Transcripts.Logs.{log_adds, counts_more}
use Rattle.stk_host.proofs.log.Log.add_sent.Goals as goal

appended : {A E : Type 0} {new : List ℕ} (old bytes : List ℕ) (result : Result A E) → IsOk result
    → new ≡ (if is_ok result then old ++ bytes else old) → new ≡ old ++ bytes
appended old bytes result ok is = is ∙ ap (λ b. if b then old ++ bytes else old) ok

fits : (len most count room : ℕ) → len ≤ most → most - len ≡ room → count ≤ room → len + count ≤ most
fits len most count room within is le = omega arith

out_more : (c : goal.After-push_reserved)
    → c.extend_from_slice-there_is_room.new.self.items ≡ c.self.inside.out.items ++ c.args.bytes.now
out_more c =
    let e = c.extend_from_slice-there_is_room.ensures in
    appended c.self.inside.out.items c.args.bytes.now c.extend_from_slice-there_is_room.result
    (e.succeeds (fits (vec_len c.self.inside.out) (vec_capacity c.self.inside.out) (length c.args.bytes.now)
    c.args.self.now.byte_room c.self.inside.out.ok.1 (ap (λ s. s.byte_room) c.self.view_is) c.requires.bytes))
    e.items

pub invariant_of-self : goal.invariant_of-self
invariant_of-self c =
    counts_more c.self.inside.marks.items _ c.self.inside.out.items _ c.self.inside.back.items _
    c.args.bytes.now [] (mark.Sent (length c.args.bytes.now)) c.self.invariant.0 c.self.invariant.1
    c.push_reserved.ensures.items (out_more c) (sym (append-nil c.self.inside.back.items)) (omega arith)
    (omega arith)

pub returns : goal.returns
returns c =
    log_adds c.self.inside.marks.items _ c.self.inside.out.items _ c.self.inside.back.items _ c.args.bytes.now []
    (mark.Sent (length c.args.bytes.now)) c.self.invariant.0 c.self.invariant.1
    c.push_reserved.ensures.items (out_more c) (sym (append-nil c.self.inside.back.items)) c.args.self.now.transcript
    (ap (λ s. s.transcript) c.self.view_is)
    ∙ ap (λ bs. c.args.self.now.transcript ++ transcript.Sent bs ∷ []) (take-length c.args.bytes.now)
