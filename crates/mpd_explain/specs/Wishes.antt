-- Calls that aren't matched, with what nearly fits them or would have.
use Rattle.std.specs.Option.{option_map}
use Rattle.mpd_model.specs.declared.step.CallId.{CallId}
use Rattle.mpd_model.specs.script.Program.{Program}
use Rattle.mpd_model.specs.steps.World.{World, Board}
use Rattle.mpd_names.specs.Placed.{placed_call_of}
use Rattle.mpd_explain.specs.declared.near_miss.Miss.{Miss}
use Rattle.mpd_explain.specs.declared.near_miss.NearMiss.{NearMiss}
use Rattle.mpd_explain.specs.declared.near_miss.TakenCall.{TakenCall}
use Rattle.mpd_explain.specs.declared.near_miss.Wish.{Wish}
use Rattle.mpd_explain.specs.Missed.{nearest, taken}

abbrev pub near_of : Program → Board → CallId × Miss → NearMiss
near_of s b m = record { call = placed_call_of s b m.0; miss = m.1 }

abbrev pub taken_at : Program → Board → CallId × CallId → TakenCall
taken_at s b t = record { call = placed_call_of s b t.0; by = placed_call_of s b t.1 }

-- a call, the nearest of those that fit it but for one thing, and the last that would have fitted
-- it and is matched with another
abbrev pub wish_of : Program → World → CallId → Wish
wish_of s w c = record {
  call = placed_call_of s w.board c;
  nearest = option_map (near_of s w.board) (nearest w c);
  taken = option_map (taken_at s w.board) (taken w.board c);
}
