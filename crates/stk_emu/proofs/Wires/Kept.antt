-- Sending and receiving keep a wire one that follows its fates.
use Rattle.std.proofs.Common.{◌≡◌, ℕ, List, [], ◌∷◌, ◌++◌, length, drop, refl, ap, ◌∙◌, append_assoc, rules}
use Rattle.std.proofs.lemmas.List.{append-nil, take-append-drop}
use Rattle.stk_frame.specs.Cut.{frames}
use Rattle.stk_host.specs.Tape.{Tape}
use Rattle.stk_host.specs.Transcript.{Transcript, Sent, Got, sent, heard}
use Rattle.stk_host.proofs.Transcripts.Laws.{sent_append, got_append}
use Rattle.stk_emu.specs.declared.fate.Fate.{Fate}
use Rattle.stk_emu.specs.Programmer.{Programmer}
use Rattle.stk_emu.specs.Device.{Device}
use Rattle.stk_emu.specs.Wire.{Wire, wire_after_frame, tape_of, wire_after_frames}
use Rattle.stk_emu.specs.Wired.{WiredState, FollowsFates, PassesBytes, IsReceivedNext, after_receiving}
use Rattle.stk_emu.proofs.Replies.Texts.{frames_fed}

pub tape_more : {P : Type 0} (m : Device P) (xs ys : List (List ℕ)) (w : Wire P)
    → tape_of m (xs ++ ys) w ≡ tape_of m xs w ++ tape_of m ys (wire_after_frames m xs w)
tape_more m [] ys w = refl
tape_more m (x ∷ xs) ys w = search (rules, append_assoc, tape_more m xs ys (wire_after_frame m x w))

pub wire_more : {P : Type 0} (m : Device P) (xs ys : List (List ℕ)) (w : Wire P)
    → wire_after_frames m (xs ++ ys) w ≡ wire_after_frames m ys (wire_after_frames m xs w)
wire_more m [] ys w = refl
wire_more m (x ∷ xs) ys w = wire_more m xs ys (wire_after_frame m x w)

pub keeps_sending : (old new : WiredState) (used : List ℕ) (p : Programmer) (fates : List Fate)
    → PassesBytes old new used → FollowsFates p fates old → FollowsFates p fates new
keeps_sending old new used p fates passes keeps =
    let sent_is : sent new.transcript ≡ sent old.transcript ++ used = search (rules, sent_append) in
    let received_is : heard new.transcript ≡ heard old.transcript = search (rules, got_append, append-nil) in
    let frames_are : frames (sent new.transcript) ≡ frames (sent old.transcript) ++ passes.found =
    rw sent_is (frames_fed old.held used new.held _ (sent old.transcript) passes.fed passes.are_frames keeps.held) in
    search (rules, wire_more, tape_more, append_assoc)

pub keeps_receiving : (old : WiredState) (items : Tape) (p : Programmer) (fates : List Fate)
    → IsReceivedNext items old.waits → FollowsFates p fates old → FollowsFates p fates (after_receiving items old)
keeps_receiving old items p fates next keeps = search (rules, sent_append, got_append, append_assoc, take-append-drop)

pub got_state : (w : WiredState) (transcript : Transcript) (waits items : Tape)
    → transcript ≡ w.transcript ++ Got items ∷ [] → waits ≡ drop (length items) w.waits
    → record w { transcript = transcript; waits = waits } ≡ after_receiving items w
got_state w transcript waits items t a = search rules
