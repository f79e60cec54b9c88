use Rattle.mpd_laws.proofs.complete.CompleteScript.{reading_of}
use Rattle.mpd_script.proofs.script.read.Goals as goal

pub script-requires-clause-printable : goal.script-requires-clause-printable
script-requires-clause-printable c = λ p h legal.
    c.read_scripts_are_printable.ensures c.args.text.now p
    (reading_of c.args.text.now p c.new.result c.text_len-place.result c.if-text-gt-SCRIPT_MAX.false c.text_len-place.ensures.value c.if-place-text.false c.new.ensures h) legal

pub script-requires-clause-of_version : goal.script-requires-clause-of_version
script-requires-clause-of_version c = λ p h.
    c.scripts_are_of_version.ensures c.args.text.now p
    (reading_of c.args.text.now p c.new.result c.text_len-place.result c.if-text-gt-SCRIPT_MAX.false c.text_len-place.ensures.value c.if-place-text.false c.new.ensures h)
