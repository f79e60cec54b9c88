use Rattle.mpd_check.proofs.outcomes.tell.Goals as goal

pub returns : goal.returns
returns c = (c.in_ok-listing.listing.outcomes, c.in_ok-listing.ensures.told, tt, c.found_in-found.ensures)
