use Rattle.std.proofs.Common.{rules, refl}
use Rattle.mpd_frames.proofs.WriteLemmas.{four_parts}
use Rattle.mpd_frames.proofs.write.push_frame.Goals as goal

pub returns-clause-items : goal.returns-clause-items
returns-clause-items c =
    four_parts c.args.out.now.items _ c.as_bytes-digits.result.now _ c.args.body.now c.push_all.new.out.items c.push_all-2.new.out.items c.push_all-3.new.out.items c.push_all-4.new.out.items
    (search rules) c.push_all-2.ensures.items c.push_all-3.ensures.items c.push_all-4.ensures.items refl (search rules) refl
