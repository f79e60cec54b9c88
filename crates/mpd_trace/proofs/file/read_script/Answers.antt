use Rattle.std.proofs.Common.{refl}
use Rattle.mpd_trace.proofs.FileLaws.{script_of, refused_text, unread_text}
use Rattle.mpd_trace.proofs.PlainLaws.{refused_so, told_so}
use Rattle.mpd_trace.proofs.file.read_script.Goals as goal

pub returns-in-Err-clause-err : goal.returns-in-Err-clause-err
returns-in-Err-clause-err g c = unread_text (g.S.Source.seen c.args.source.now) (g.S.Source.seen c.read_up_to.new.source) c.args.text.now.items _ c.in-Err.ensures.err

pub returns-in-Ok-read-clause-ok : goal.returns-in-Ok-read-clause-ok
returns-in-Ok-read-clause-ok g c =
    script_of (g.S.Source.seen c.args.source.now) (g.S.Source.seen c.read_up_to.new.source) c.in-Ok.bytes.items c.deref.result.now c.in-Ok-read.script c.in-Ok-read.script
    c.in-Ok.ensures.ok c.deref.ensures.value c.in-Ok-read.ensures.ok refl

pub returns-in-Err-read-clause-err : goal.returns-in-Err-read-clause-err
returns-in-Err-read-clause-err g c =
    refused_text (g.S.Source.seen c.args.source.now) (g.S.Source.seen c.read_up_to.new.source) c.in-Ok.bytes.items c.in-Ok.bytes.items c.in-Err-read.fault c.refusal.result c.in-Ok.ensures.ok refl
    (refused_so c.deref.result.now c.in-Ok.bytes.items c.in-Err-read.fault c.deref.ensures.value c.in-Err-read.ensures.err) (told_so c.deref-in-Err-read.result.now c.in-Ok.bytes.items c.in-Err-read.fault c.refusal.result c.deref-in-Err-read.ensures.value c.refusal.ensures)
