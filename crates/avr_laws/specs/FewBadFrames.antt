-- A link on which few frames go wrong.
use Rattle.std.specs.Prelude.{ℕ, zero, suc, ◌+◌, ◌≤◌, List, [], ◌∷◌}
use Rattle.stk_emu.specs.Exchange.{Exchange, Execution, NotExecuted, Executed, ThenRestarted, OtherReading, Refusal, NoReply, Babble, Ending, AsIntended, Disturbed, ThenRestarts, first_exchange, later_exchanges}

-- For how many bad frames a command that goes wrong counts. A restart of the programmer or the end of the link counts
-- 4, because no attempt can succeed after it.
abbrev pub badness_of_execution : Execution → ℕ
badness_of_execution NotExecuted = 1
badness_of_execution Executed = 1
badness_of_execution (ThenRestarted execution) = 4

-- For how many bad frames counts what the host reads in place of the reply.
abbrev pub badness_of_reading : OtherReading → ℕ
badness_of_reading Refusal = 0
badness_of_reading NoReply = 0
badness_of_reading Babble = 0
badness_of_reading Ending = 3

-- For how many bad frames an exchange counts.
abbrev pub badness : Exchange → ℕ
badness AsIntended = 0
badness (Disturbed execution instead) = badness_of_execution execution + badness_of_reading instead
badness (ThenRestarts one_exchange) = 4

-- How many of the first `n` frames go wrong, so counted.
abbrev pub badness_of_first : ℕ → List Exchange → ℕ
badness_of_first zero exchanges = 0
badness_of_first (suc n) exchanges = badness (first_exchange exchanges) + badness_of_first n (later_exchanges exchanges)

-- At most three of any `n` consecutive frames go wrong.
abbrev pub AtMostThreeBadOf : ℕ → List Exchange → Type 0
AtMostThreeBadOf n [] = Unit {0}
AtMostThreeBadOf n (one_exchange ∷ exchanges) = (badness_of_first n (one_exchange ∷ exchanges) ≤ 3)
    × AtMostThreeBadOf n exchanges

-- FEW BAD FRAMES: at most three of any seven consecutive frames go wrong. Seven, because four failed attempts of at
-- most two commands have four bad frames of seven.
abbrev pub AtMostThreeBadOfSeven : List Exchange → Type 0
AtMostThreeBadOfSeven = AtMostThreeBadOf 7
