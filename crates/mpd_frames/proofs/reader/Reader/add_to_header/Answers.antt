use Rattle.std.proofs.Common.{rules}
use Rattle.mpd_frames.proofs.ReaderLemmas.{too_long}
use Rattle.mpd_frames.proofs.reader.Reader.add_to_header.Goals as goal

pub returns-then-len-ge-HEADER_MAX : goal.returns-then-len-ge-HEADER_MAX
returns-then-len-ge-HEADER_MAX c =
    too_long c.args.self.now c.push_reserved.new.self.items c.args.byte c.requires.header c.requires.held (search rules) (search rules) (search rules)
