use Rattle.std.proofs.Common.{◌≡◌, ◌<◌, ◌-◌, length, None, slice_get, ap, sym, subst, ◌∙◌, arith}
use Rattle.mpd_model.specs.steps.World.{Board, call_id, listed_calls, calls_of, kind_at, partner, last_call}
use Rattle.mpd_match.specs.Views.{BoardView, board_in, calls_in}
use Rattle.mpd_match.specs.Changes.{unissue_writes}
use Rattle.mpd_match.specs.Slots.{slots_of}
use Rattle.mpd_match.proofs.Boards.{meets_unissue, kind_is, listed_some}
use Rattle.mpd_match.proofs.Counted.{unissue_few, last_held, counted_unissue}
use Rattle.mpd_match.proofs.board.Board.unissue.Goals as goal

pub give_slot_back-requires-clause-some : goal.give_slot_back-requires-clause-some
give_slot_back-requires-clause-some c =
    let s = c.self.inside in
    let b : Board = board_in s.mode s.sides.items s.sets.items in
    let e : b ≡ c.args.self.now.board = ap (λ (v : BoardView). v.board) c.self.view_is in
    let some : 0 < length (calls_of b c.args.rank) = subst (λ (x : Board). 0 < length (calls_of x c.args.rank)) (sym e) c.requires.some in
    let free : partner s.sets.items (last_call b c.args.rank) ≡ None = ap (λ (x : Board). partner x.sets (last_call x c.args.rank)) e ∙ c.requires.free in
    let kind : c.kind-kind.result ≡ kind_at b (last_call b c.args.rank) = c.kind-kind.ensures ∙ ap (kind_at c.args.self.now.board) c.last_call-last.ensures ∙ ap (λ (x : Board). kind_at x (last_call x c.args.rank)) (sym e) in
    last_held s.mode s.sides.items s.sets.items s.slots.items c.args.rank c.kind-kind.result (listed_some (calls_in s.sides.items) c.args.rank some) some free kind c.self.invariant.counted

pub invariant_of-self : goal.invariant_of-self
invariant_of-self c =
    let s = c.self.inside in
    let b : Board = board_in s.mode s.sides.items s.sets.items in
    let e : b ≡ c.args.self.now.board = ap (λ (v : BoardView). v.board) c.self.view_is in
    let some : 0 < length (calls_of b c.args.rank) = subst (λ (x : Board). 0 < length (calls_of x c.args.rank)) (sym e) c.requires.some in
    let free : partner s.sets.items (last_call b c.args.rank) ≡ None = ap (λ (x : Board). partner x.sets (last_call x c.args.rank)) e ∙ c.requires.free in
    let lt = listed_some (calls_in s.sides.items) c.args.rank some in
    let kind : c.kind-kind.result ≡ kind_at b (last_call b c.args.rank) = c.kind-kind.ensures ∙ ap (kind_at c.args.self.now.board) c.last_call-last.ensures ∙ ap (λ (x : Board). kind_at x (last_call x c.args.rank)) (sym e) in
    record {
      meets =
          meets_unissue s.mode s.sides.items c.unissue_at.new.sides.items s.sets.items c.args.rank lt free
          c.unissue_at.ensures.calls c.unissue_at.ensures.lines c.unissue_at.ensures.marks c.self.invariant.meets;
      counted =
          counted_unissue s.mode s.sides.items c.unissue_at.new.sides.items s.sets.items s.slots.items c.give_slot_back.new.slots.items c.args.rank c.kind-kind.result lt some free c.unissue_at.ensures.calls kind
          c.give_slot_back.ensures.ranks c.give_slot_back.ensures.held c.self.invariant.counted;
    }

pub returns-clause-writes : goal.returns-clause-writes
returns-clause-writes c =
    let s = c.self.inside in
    let e : board_in s.mode s.sides.items s.sets.items ≡ c.args.self.now.board = ap (λ (v : BoardView). v.board) c.self.view_is in
    let last = call_id c.args.rank (length (listed_calls (slice_get (calls_in s.sides.items) c.args.rank)) - 1) in
    let kind = ap unissue_writes (kind_is s.mode s.sides.items s.sets.items last ∙ ap (λ (b : Board). kind_at b (last_call b c.args.rank)) e) in
    let slot = ap slots_of (c.kind-kind.ensures ∙ ap (kind_at c.args.self.now.board) c.last_call-last.ensures) in
    omega (arith, c.unissue_at.ensures.writes, c.give_slot_back.ensures.writes, kind, slot, ap (λ (v : BoardView). v.writes) c.self.view_is)

pub returns-clause-few_writes : goal.returns-clause-few_writes
returns-clause-few_writes c =
    let s = c.self.inside in
    let last = call_id c.args.rank (length (listed_calls (slice_get (calls_in s.sides.items) c.args.rank)) - 1) in
    let e : board_in s.mode s.sides.items s.sets.items ≡ c.args.self.now.board = ap (λ (v : BoardView). v.board) c.self.view_is in
    let own = c.kind-kind.ensures ∙ ap (kind_at c.args.self.now.board) c.last_call-last.ensures in
    let kind = ap unissue_writes (kind_is s.mode s.sides.items s.sets.items last ∙ ap (λ (b : Board). kind_at b (last_call b c.args.rank)) e) in
    let same = ap unissue_writes own in
    omega (arith, c.unissue_at.ensures.writes, c.give_slot_back.ensures.writes, kind, same, unissue_few c.kind-kind.result, ap (λ (v : BoardView). v.writes) c.self.view_is)
