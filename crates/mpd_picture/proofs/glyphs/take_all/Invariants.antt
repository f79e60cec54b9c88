use Rattle.std.proofs.Common.{◌≡◌, ◌≤◌, ◌++◌, drop}
use Rattle.mpd_picture.specs.Glyphs.{glyphs_behind}
use Rattle.mpd_picture.proofs.glyphs.take_all.Given as goal

abbrev pub invariant-loop-place : goal.invariant-loop-place
invariant-loop-place l = record {
  steps : l.debugger.trail.steps ≡ l.fn.debugger.trail.steps;
  lines : l.debugger.trail.program.lines ≡ l.fn.debugger.trail.program.lines;
  depth : l.debugger.trail.depth ≡ l.place;
  few : l.row ≤ l.place;
  glyphs : l.glyphs.items ++ glyphs_behind l.fn.debugger.trail.program.lines l.debugger.world l.row (drop l.place l.fn.debugger.trail.steps) ≡ l.fn.glyphs.items ++ glyphs_behind l.fn.debugger.trail.program.lines l.fn.debugger.world 0 l.fn.debugger.trail.steps;
}
