use Rattle.mpd_model.specs.runs.Trail.{done_steps}
use Rattle.mpd_trail.specs.DebuggerViews.{standing_of}
use Rattle.mpd_outcomes.specs.Front.{Search, search_of, picked, open_in, before, come_to}
use Rattle.mpd_outcomes.proofs.AlongLemmas.{told_states, advanced}
use Rattle.mpd_outcomes.proofs.AnswerLemmas.{noted_after, noted_come}
use Rattle.mpd_outcomes.proofs.GoalLemmas.{grown}
use Rattle.mpd_outcomes.proofs.search.go_on_at_end.Goals as goal

pub advance-requires-clause-stands : goal.advance-requires-clause-stands
advance-requires-clause-stands c =
    let r = c.requires.stands in
    let s : Search = search_of c.args.bounds c.args.debugger.now.trail r.0 in
    (r.0, noted_after s c.args.front.now c.note_end.new.front (standing_of c.args.debugger.now) c.args.ending c.depth-depth.result r.1 c.depth-depth.ensures.value c.requires.end.0 c.requires.end.1 c.in_ok-note_end.ensures)

pub returns-clause-went_on : goal.returns-clause-went_on
returns-clause-went_on c = λ root g.
    let s : Search = search_of c.args.bounds c.args.debugger.now.trail root in
    let d = standing_of c.args.debugger.now in
    let e = standing_of c.advance.new.debugger in
    let old = c.args.front.now in
    let mid = c.note_end.new.front in
    let leaf = noted_come s old mid d c.args.ending c.depth-depth.result g c.requires.end.0 c.in_ok-note_end.ensures in
    let one = grown old.ways.items mid.ways.items (before s (open_in old) (done_steps d.trail)) (come_to s (open_in mid) (done_steps d.trail)) (picked (open_in old)) c.args.ending c.in_ok-note_end.ensures.ways_are leaf in
    let after = noted_after s old mid d c.args.ending c.depth-depth.result g c.depth-depth.ensures.value c.requires.end.0 c.requires.end.1 c.in_ok-note_end.ensures in
    advanced c.advance.result s old mid c.advance.new.front d d e (told_states s old mid d c.wide_decisions_can_be_followed.ensures g.at c.in_ok-note_end.ensures.stack) one
    (c.advance.ensures.turned root after) c.advance.ensures.ways (c.advance.ensures.come root after)
