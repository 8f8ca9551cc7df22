-- A held file that is replaced and then released.
use Rattle.std.proofs.Common.{rules}
use Rattle.std.specs.Prelude.{MatchResult, Result}
use Rattle.ghosts.specs.Preserves.{Preserves}
use Rattle.avr_desk.specs.Journal.{ChangesCalls, SystemCalls, with_calls, with_one_more_held, made}
use Rattle.avr_io.specs.Record.{Bytes}

-- After a success the system has made the file, and the hold that was taken for it is given back. After an error it has
-- done nothing more.
pub put_and_left : {S A E : Type 0} (Replaced : Type 0) (has_done : SystemCalls → S → Type 0) (name : Bytes)
    {old held put new : S} (result : Result A E) → ChangesCalls has_done with_one_more_held old held
    → MatchResult result (λ done. Replaced × ChangesCalls has_done (with_calls (made name)) held put)
    (λ error. Preserves has_done held put)
    → ((done : SystemCalls) → has_done (with_one_more_held done) put → has_done done new)
    → MatchResult result (λ done. Replaced × ChangesCalls has_done (with_calls (made name)) old new)
    (λ error. Preserves has_done old new)
put_and_left Replaced has_done name result holds put leaves = search rules
