use Rattle.std.proofs.Common.{rules, ◌≤◌, length}
use Rattle.mpd_frames.proofs.ReaderLemmas.{unkept}
use Rattle.mpd_frames.proofs.reader.Reader.add_to_body.Goals as goal

pub returns-in-Err : goal.returns-in-Err
returns-in-Err c =
    let full : 65536 ≤ length c.args.self.now.body = search rules in
    unkept c.args.self.now c.args.byte c.args.size c.requires.body c.requires.held full
