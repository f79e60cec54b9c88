use Rattle.std.proofs.lemmas.Str.{IsUtf8-from_ascii}
use Rattle.mpd_script.proofs.Ascii.{ok_where}
use Rattle.mpd_script.proofs.cursor.Tokens.add.Goals as goal

pub unwrap-requires : goal.unwrap-requires
unwrap-requires c = ok_where _ _ _ c.from_utf8.result c.from_utf8.ensures.cases (IsUtf8-from_ascii c.args.name.now c.requires.ascii)
