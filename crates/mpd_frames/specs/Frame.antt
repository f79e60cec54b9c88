-- The text of a frame.
use Rattle.std.specs.Prelude.{ℕ, List, ◌++◌, length, codes}
use Rattle.std.specs.Fmt.{decimal}
use Rattle.mpd_frames.specs.Header.{BREAK}

-- the header that is written for a body of so many bytes
abbrev pub header_text : ℕ → List ℕ
header_text n = codes "Content-Length: " ++ decimal n ++ BREAK ++ BREAK

abbrev pub frame_text : List ℕ → List ℕ
frame_text body = header_text (length body) ++ body
