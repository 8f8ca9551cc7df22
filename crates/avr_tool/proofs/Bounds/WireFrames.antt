-- What goes out over a wire weighs no more than what a dialog asks.
use Rattle.std.proofs.Common.{◌≡◌, ℕ, ◌-◌, ◌≤◌, List, map, sum_by, ap, ◌∙◌, arith, Option, rules}
use Rattle.std.proofs.lemmas.List.{map-append}
use Rattle.std.proofs.lemmas.List.Sums.{sum_by-append, sum_by-cons}
use Rattle.stk_frame.specs.Cut.{body_of, frames}
use Rattle.stk_frame.specs.Frame.{frame}
use Rattle.stk_frame.proofs.Laws.{body_of_frame}
use Rattle.stk_host.specs.Tape.{Tape, Reading, answer}
use Rattle.stk_host.specs.Dialog.{Dialog, Done, Emit, Ask, Played, played, continue_with_reading, next, bytes_sent, frames_in}
use Rattle.stk_host.specs.Play.{IsBytePrefixOf}
use Rattle.stk_emu.specs.DialogOverExchanges.{SendsValidBodies}
use Rattle.avr_tool.proofs.Lines.InTurn.{sends_whole, frames_prefix}
use Rattle.avr_tool.proofs.Bounds.Weights.{WeighsAtMost}

module _ (w : List ℕ → ℕ) where
  -- What each reading leads to weighs so much, so the run does.
  by_reading : {E R : Type 0} (n : ℕ) (go_on : Reading → Tape → Played E R) (got : Option (Reading × Tape))
      → ((reading : Reading) (left : Tape) → sum_by w (map body_of (frames_in (go_on reading left).events)) ≤ n)
      → sum_by w (map body_of (frames_in (continue_with_reading go_on got).events)) ≤ n
  by_reading n go_on got f = search rules

  -- The bodies of all frames of a run weigh no more than the dialog asks.
  frames_weigh : {E R : Type 0} (n : ℕ) (d : Dialog E R) (seq : ℕ) (tape : Tape) → WeighsAtMost w n d
      → sum_by w (map body_of (frames_in (played d seq tape).events)) ≤ n
  frames_weigh n (Done r) seq tape f = omega arith
  frames_weigh n (Emit e d) seq tape f = frames_weigh n d seq tape f.1
  frames_weigh n (Ask asked resume) seq tape f =
      let rest = by_reading (n - w asked) (λ reading. played (resume reading) (next seq)) (answer seq tape)
      (λ reading left. frames_weigh (n - w asked) (resume reading) (next seq) left (f.1 reading)) in
      let first : w (body_of (frame seq asked)) ≡ w asked = ap w (body_of_frame seq asked) in
      let others = frames_in (continue_with_reading (λ reading. played (resume reading) (next seq))
      (answer seq tape)).events in
      let all = sum_by-cons w (body_of (frame seq asked)) (map body_of others) in
      let within = f.0 in
      omega (arith, rest, first, all, within)

  -- the same of a prefix of the bytes
  pub prefix_weighs : {E R : Type 0} (n : ℕ) (d : Dialog E R) (seq : ℕ) (tape : Tape) (sent : List ℕ)
      → SendsValidBodies d → WeighsAtMost w n d → IsBytePrefixOf sent (bytes_sent (played d seq tape).events)
      → sum_by w (map body_of (frames sent)) ≤ n
  prefix_weighs n d seq tape sent asks f prefix =
      let all = frames_weigh n d seq tape f in
      let behind = frames_prefix (played d seq tape).events sent prefix.0 (sends_whole d seq tape asks) prefix.1 in
      let both = ap (λ fs. sum_by w (map body_of fs)) behind.1
      ∙ (ap (sum_by w) (map-append body_of (frames sent) behind.0) ∙ sum_by-append w (map body_of (frames sent))
      (map body_of behind.0)) in
      omega (arith, all, both)
