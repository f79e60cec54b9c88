use Rattle.std.proofs.Common.{◌≡◌, ◌<◌, ℕ, length, sym, ap, ◌∙◌, rules, arith}
use Rattle.mpd_rank.specs.Views.{RankView, rank_of}
use Rattle.mpd_core.specs.Views.{room_in}
use Rattle.mpd_core.proofs.RangeLemmas.{refused_with}
use Rattle.mpd_core.proofs.RankLemmas.{stays_read, numbers_set, writes_same}
use Rattle.mpd_core.proofs.RoomLemmas.{no_room_old, room_more, room_on, rest_more, length_set}
use Rattle.mpd_core.proofs.ranks.keep_rooms.Goals as goal

pub returns-in_err-keep_room-clause-same : goal.returns-in_err-keep_room-clause-same
returns-in_err-keep_room-clause-same c =
    let counted : c.len-count.result ≡ length c.args.ranks.now.items = search rules in
    let size : c.len-count.result ≡ length c.loop-rank.ranks.items = counted ∙ sym c.loop-rank.invariant.size in
    λ s. stays_read s c.loop-rank.ranks.items c.len-count.result c.loop-rank.rank c.index_mut-state.result.now c.keep_room.new.self size c.loop-rank-test.true c.index_mut-state.ensures.value (ap (rank_of s) c.keep_room.ensures.same) ∙ c.loop-rank.invariant.same s

pub returns-in_err-keep_room-clause-never_less : goal.returns-in_err-keep_room-clause-never_less
returns-in_err-keep_room-clause-never_less c =
    let counted : c.len-count.result ≡ length c.args.ranks.now.items = search rules in
    let size : c.len-count.result ≡ length c.loop-rank.ranks.items = counted ∙ sym c.loop-rank.invariant.size in
    λ k. room_on c.args.ranks.now.items c.loop-rank.ranks.items c.len-count.result c.loop-rank.rank k c.index_mut-state.result.now c.keep_room.new.self size c.loop-rank-test.true c.index_mut-state.ensures.value c.keep_room.ensures.never_less (c.loop-rank.invariant.never_less k)

pub returns-in_err-keep_room-clause-memory : goal.returns-in_err-keep_room-clause-memory
returns-in_err-keep_room-clause-memory c =
    let counted : c.len-count.result ≡ length c.args.ranks.now.items = search rules in
    let size : c.len-count.result ≡ length c.loop-rank.ranks.items = counted ∙ sym c.loop-rank.invariant.size in
    let none : (k : ℕ) → room_in k c.args.ranks.now.items ≡ 0 = λ k. no_room_old c.loop-rank.ranks.items c.args.ranks.now.items c.len-count.result c.loop-rank.rank k c.index_mut-state.result.now c.loop-rank.invariant.rest size c.loop-rank.invariant.size c.loop-rank-test.true c.index_mut-state.ensures.value c.in_err-keep_room.ensures.memory in
    refused_with _ none

pub returns-in_err-keep_room-clause-numbers : goal.returns-in_err-keep_room-clause-numbers
returns-in_err-keep_room-clause-numbers c =
    numbers_set c.loop-rank.ranks.items c.loop-rank.rank c.index_mut-state.result.now c.keep_room.new.self c.index_mut-state.ensures.value (ap (λ (v : RankView). v.rank) c.keep_room.ensures.same) ∙ c.loop-rank.invariant.numbers

pub returns-in_err-keep_room-clause-writes : goal.returns-in_err-keep_room-clause-writes
returns-in_err-keep_room-clause-writes c =
    let counted : c.len-count.result ≡ length c.args.ranks.now.items = search rules in
    let size : c.len-count.result ≡ length c.loop-rank.ranks.items = counted ∙ sym c.loop-rank.invariant.size in
    writes_same c.loop-rank.ranks.items c.len-count.result c.loop-rank.rank c.index_mut-state.result.now c.keep_room.new.self size c.loop-rank-test.true c.index_mut-state.ensures.value (ap (λ (v : RankView). v.writes) c.keep_room.ensures.same) ∙ c.loop-rank.invariant.writes

pub loop-rank-preserved : goal.loop-rank-preserved
loop-rank-preserved c =
    let counted : c.len-count.result ≡ length c.args.ranks.now.items = search rules in
    let size : c.len-count.result ≡ length c.loop-rank.ranks.items = counted ∙ sym c.loop-rank.invariant.size in
    let within : c.loop-rank.rank < length c.loop-rank.ranks.items = omega (arith, size, c.loop-rank-test.true) in
    record {
      same = λ s. stays_read s c.loop-rank.ranks.items c.len-count.result c.loop-rank.rank c.index_mut-state.result.now c.keep_room.new.self size c.loop-rank-test.true c.index_mut-state.ensures.value (ap (rank_of s) c.keep_room.ensures.same) ∙ c.loop-rank.invariant.same s;
      numbers = numbers_set c.loop-rank.ranks.items c.loop-rank.rank c.index_mut-state.result.now c.keep_room.new.self c.index_mut-state.ensures.value (ap (λ (v : RankView). v.rank) c.keep_room.ensures.same) ∙ c.loop-rank.invariant.numbers;
      writes = writes_same c.loop-rank.ranks.items c.len-count.result c.loop-rank.rank c.index_mut-state.result.now c.keep_room.new.self size c.loop-rank-test.true c.index_mut-state.ensures.value (ap (λ (v : RankView). v.writes) c.keep_room.ensures.same) ∙ c.loop-rank.invariant.writes;
      size = length_set c.loop-rank.ranks.items c.loop-rank.rank c.keep_room.new.self ∙ c.loop-rank.invariant.size;
      room = λ k some. room_more c.loop-rank.ranks.items c.loop-rank.rank k c.keep_room.new.self within some c.in_ok-keep_room.ensures.room c.loop-rank.invariant.room;
      never_less = λ k. room_on c.args.ranks.now.items c.loop-rank.ranks.items c.len-count.result c.loop-rank.rank k c.index_mut-state.result.now c.keep_room.new.self size c.loop-rank-test.true c.index_mut-state.ensures.value c.keep_room.ensures.never_less (c.loop-rank.invariant.never_less k);
      rest = rest_more c.loop-rank.ranks.items c.args.ranks.now.items c.loop-rank.rank c.keep_room.new.self within c.loop-rank.invariant.size c.loop-rank.invariant.rest;
    }
