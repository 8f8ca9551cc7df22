-- The lemmas that proofs of other crates may cite: for clauses of the laws in src/laws.rt. The others are the crate's
-- own.

-- what an address holds
pub use Rattle.avr_image.proofs.Fields.Shown.{held_within, none_past, same_by_address}
pub use Rattle.avr_image.proofs.Fields.Equality.{equal_are_one}
-- bytes put at addresses, and whether they fit
pub use Rattle.avr_image.proofs.Places.Laid.{byte_here, byte_beside, span_inside, span_below, span_above, laid_size, from_zero_is_a_span, fits_inside, inside_fits}
-- images laid over each other
pub use Rattle.avr_image.proofs.Places.ByAddress.{over_at, laid_at}
pub use Rattle.avr_image.proofs.Places.Laid.{laid_is_over, parts_are_over, over_groups}
-- walks, address by address
pub use Rattle.avr_image.proofs.Walks.Places.{next_held, none_held, run_is_longest, filled_is}
pub use Rattle.avr_image.proofs.Walks.Runs.{filled_part}
-- the runs of an image
pub use Rattle.avr_image.proofs.Walks.Runs.{runs_are_longest, runs_inside, runs_are_whole, runs_none, runs_next, runs_first}
-- the bytes before the next gap
pub use Rattle.avr_image.proofs.Walks.Runs.{lead_some, lead_is_run, lead_is_filled, lead_within}
-- lists
pub use Rattle.avr_image.proofs.Texts.ValueLists.{list_reads_back, empty_list_is_bad}

pub ruleset held = (held_within, none_past, same_by_address, equal_are_one, fits_inside, inside_fits, none_held, filled_part)

pub ruleset laid = (byte_here, byte_beside, span_inside, span_below, span_above, laid_size, from_zero_is_a_span)

pub ruleset laid_over = (over_at, laid_at, laid_is_over, parts_are_over, over_groups)

pub ruleset runs = (runs_are_longest, runs_inside, runs_are_whole, runs_none, runs_next, runs_first, run_is_longest)

pub ruleset leads = (lead_some, lead_is_run, lead_is_filled, lead_within)

-- the lemmas for src/laws.rt
pub ruleset laws = (held, laid, laid_over, runs, leads, list_reads_back, empty_list_is_bad)
