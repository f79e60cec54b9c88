use Rattle.std.proofs.Common.{refl, length, ap, ◌∙◌}
use Rattle.mpd_session.specs.Held.{Held}
use Rattle.mpd_session.specs.History.{Noted}
use Rattle.mpd_session.proofs.BookLemmas.{script_stays}
use Rattle.mpd_session.proofs.SeatLemmas.{on_script}
use Rattle.mpd_session.proofs.seat.Locked.take.Goals as goal

pub returns-clause-ok : goal.returns-clause-ok
returns-clause-ok g c =
    let e = c.in_ok-receipt.ensures in
    let locked = c.args.self.now in (
      length locked.book.history,
      (locked.book.history, locked.book.session, on_script g.L.Opening.program g.L.Opening.mode locked.book.history locked.book.session e.replay locked.program locked.mode, refl, e.reply),
      ap (λ (n : Noted). n.client) c.seat.view_is,
      rw (c.push_reserved.ensures.items, c.in_ok-reserve.ensures.items, e.receipt, ← c.seat.view_is) refl,
    )

pub returns-clause-receipt : goal.returns-clause-receipt
returns-clause-receipt g c =
    let e = c.in_ok-receipt.ensures in rw (c.push_reserved.ensures.items, c.in_ok-reserve.ensures.items, e.receipt, ← c.seat.view_is) refl

pub invariant_of-self-2-clause-program : goal.invariant_of-self-2-clause-program
invariant_of-self-2-clause-program g c =
    ap (λ (s : Held). s.trail.program) c.in_ok-receipt.ensures.session ∙ (script_stays c.args.self.now.book.session c.args.request.now).0 ∙ c.args.self.now.program

pub invariant_of-self-2-clause-mode : goal.invariant_of-self-2-clause-mode
invariant_of-self-2-clause-mode g c =
    ap (λ (s : Held). s.trail.mode) c.in_ok-receipt.ensures.session ∙ (script_stays c.args.self.now.book.session c.args.request.now).1 ∙ c.args.self.now.mode
