use Rattle.mpd_names.proofs.MarkLemmas.{text_of_place}
use Rattle.mpd_names.proofs.mark.place_before.Goals as goal

-- what stands before the first byte that isn't printable is a text
pub unwrap-requires : goal.unwrap-requires
unwrap-requires c = text_of_place _ _ c.args.text.now _ _ c.from_utf8.result c.place_len-count.ensures.value c.split_at.ensures.front c.from_utf8.ensures.cases
