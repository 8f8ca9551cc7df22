-- The lemmas for the calls of an image: what its stored fields show.
use Rattle.std.proofs.lemmas.Bool.Decides.{nat_tests}
use Rattle.std.proofs.lemmas.List.{drop_all, length-set}
use Rattle.avr_image.proofs.Fields.Masks.{same_place}
use Rattle.avr_image.proofs.Fields.Shown.{any_is, blank_marked, byte_at_shown, first_is, first_none, kept_whole, run_is, length_shown, none_past, past, same_default, shown_marked, sized, small_set}
use Rattle.avr_image.proofs.Places.Laid.{inside_fits, length_pasted, shown_pasted}
use Rattle.avr_image.proofs.Places.Removed.{blank_removed, removed_past, shown_removed}
use Rattle.avr_image.proofs.Walks.Runs.{runs_end, runs_over}

pub ruleset lengths = (nat_tests, sized, length_shown, length-set, past, none_past, byte_at_shown, same_default)

pub ruleset bytes_changed = (small_set, blank_marked, shown_marked, blank_removed, removed_past, shown_removed)

pub ruleset spans_put = (length_pasted, shown_pasted, inside_fits, runs_end, runs_over)

pub ruleset places_found = (same_place, any_is, kept_whole, first_is, first_none, run_is, drop_all)

pub ruleset stored = (lengths, bytes_changed, spans_put, places_found)
