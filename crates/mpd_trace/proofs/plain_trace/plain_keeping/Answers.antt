use Rattle.std.proofs.Common.{arith, ◌-◌, refl}
use Rattle.mpd_trace.proofs.PlainLaws.{Behind, plain_uncollected, counted_uncollected, plain_refused, counted_refused, refused_so, told_so, kept_refused, plain_ended, counted_ended, behind_so, plain_all, plain_fault, counted_on}
use Rattle.mpd_lines.specs.FaultWords.{reads_failed, writes_failed}
use Rattle.mpd_trace.specs.Plain.{line_at}
use Rattle.mpd_trace.proofs.plain_trace.plain_keeping.Goals as goal

pub returns-in-Err-clause-served : goal.returns-in-Err-clause-served
returns-in-Err-clause-served g c =
    plain_uncollected c.in-Err.fault (g.S.Source.seen c.args.source.now) (g.S.Source.seen c.collect.new.source) (g.W.Sink.seen c.args.sink.now) c.in-Err.ensures.collected

pub returns-in-Err-clause-counted : goal.returns-in-Err-clause-counted
returns-in-Err-clause-counted g c =
    counted_uncollected c.in-Err.fault (g.S.Source.seen c.args.source.now) (g.S.Source.seen c.collect.new.source) (g.W.Sink.seen c.args.sink.now) c.in-Err.ensures.collected c.in-Err.ensures.counted

pub returns-in-Err-read-clause-served : goal.returns-in-Err-read-clause-served
returns-in-Err-read-clause-served g c =
    let h = c.in-Ok.ensures.collected in
    plain_refused c.in-Ok.head.end h.0 c.in-Ok.head.script.items c.in-Ok.head.behind.items c.in-Ok.head.script.items c.in-Ok.head.reads
    (g.S.Source.seen c.args.source.now) (g.S.Source.seen c.collect.new.source) (g.W.Sink.seen c.args.sink.now) c.in-Err-read.fault c.refusal-fault.result refl h.1 h.2 h.3
    (refused_so c.deref.result.now c.in-Ok.head.script.items c.in-Err-read.fault c.deref.ensures.value c.in-Err-read.ensures.err) (told_so c.deref-in-Err-read.result.now c.in-Ok.head.script.items c.in-Err-read.fault c.refusal-fault.result c.deref-in-Err-read.ensures.value c.refusal-fault.ensures)

pub returns-in-Err-read-clause-counted : goal.returns-in-Err-read-clause-counted
returns-in-Err-read-clause-counted g c =
    let h = c.in-Ok.ensures.collected in
    counted_refused (g.S.Source.seen c.args.source.now) (g.S.Source.seen c.collect.new.source) (g.W.Sink.seen c.args.sink.now) c.in-Err-read.fault
    (line_at c.deref-in-Err-read.result.now c.in-Err-read.fault.place) c.in-Ok.head.reads c.refusal-fault.result c.refusal-fault.ensures h.4 h.5 (let e = c.in-Ok.ensures.counted.reads_failed in omega (arith, e))

pub returns-in-Err-read-clause-kept : goal.returns-in-Err-read-clause-kept
returns-in-Err-read-clause-kept g c =
    kept_refused c.in-Ok.head.script.items c.in-Err-read.fault c.refusal-fault.result
    (refused_so c.deref.result.now c.in-Ok.head.script.items c.in-Err-read.fault c.deref.ensures.value c.in-Err-read.ensures.err) (told_so c.deref-in-Err-read.result.now c.in-Ok.head.script.items c.in-Err-read.fault c.refusal-fault.result c.deref-in-Err-read.ensures.value c.refusal-fault.ensures)

pub returns-in-InputEnds-clause-counted : goal.returns-in-InputEnds-clause-counted
returns-in-InputEnds-clause-counted g c =
    let h = c.in-Ok.ensures.collected in
    counted_ended (g.S.Source.seen c.args.source.now) (g.S.Source.seen c.collect.new.source) (g.W.Sink.seen c.args.sink.now) c.in-Ok.head.reads h.4 h.5 c.in-Ok.ensures.counted.reads_failed

pub overflow_sub-turns : goal.overflow_sub-turns
overflow_sub-turns g c = c.in-Ok.ensures.collected.5

pub returns-in-InputEnds-clause-served : goal.returns-in-InputEnds-clause-served
returns-in-InputEnds-clause-served g c =
    let h = c.in-Ok.ensures.collected in
    plain_ended c.in-Ok.head.end h.0 c.in-Ok.head.script.items c.in-Ok.head.behind.items c.deref.result.now c.in-Ok.head.reads
    (g.S.Source.seen c.args.source.now) (g.S.Source.seen c.collect.new.source) (g.W.Sink.seen c.args.sink.now) c.in-Ok-read.script
    c.in-InputEnds.is c.deref.ensures.value h.1 h.3 c.in-Ok-read.ensures.ok

pub returns-in-Ok-trace_script : goal.returns-in-Ok-trace_script
returns-in-Ok-trace_script g c =
    let h = c.in-Ok.ensures.collected in
    let s = g.S.Source.seen c.args.source.now in
    let t = g.S.Source.seen c.collect.new.source in
    let b = behind_so c.in-Ok.head.end h.0 c.in-Ok.head.script.items c.in-Ok.head.behind.items c.deref.result.now c.in-Ok.head.reads s t c.in-Ok-read.script
    c.in_default.not-InputEnds c.deref.ensures.value h.3 c.in-Ok-read.ensures.ok in
    let k : Behind h.0 c.in-Ok.head.reads s t c.in-Ok.head.script.items c.deref-2.result.now = rw c.deref-2.ensures.value b in
    let r = c.in-Ok-trace_script.ensures.served in
    let few = h.5 in
    record {
      served = plain_all h.0 c.in-Ok.head.script.items c.deref-2.result.now c.deref.result.now c.in-Ok.head.reads (1000000 - c.in-Ok.head.reads) s t (g.S.Source.seen c.trace_script.new.source)
          (g.W.Sink.seen c.args.sink.now) (g.W.Sink.seen c.trace_script.new.sink) c.in-Ok-read.script r.0 c.deref.ensures.value h.1 k c.in-Ok-read.ensures.ok r.1;
      counted = counted_on c.in-Ok.head.reads (1000000 - c.in-Ok.head.reads) 0 0 s t (g.S.Source.seen c.trace_script.new.source) (g.W.Sink.seen c.args.sink.now) (g.W.Sink.seen c.trace_script.new.sink)
          h.4 (omega (arith, few)) (let e = c.in-Ok.ensures.counted.reads_failed in omega (arith, e)) c.in-Ok-trace_script.ensures.counted;
      kept = tt;
    }

pub returns : goal.returns
returns g c =
    let h = c.in-Ok.ensures.collected in
    let s = g.S.Source.seen c.args.source.now in
    let t = g.S.Source.seen c.collect.new.source in
    let b = behind_so c.in-Ok.head.end h.0 c.in-Ok.head.script.items c.in-Ok.head.behind.items c.deref.result.now c.in-Ok.head.reads s t c.in-Ok-read.script
    c.in_default.not-InputEnds c.deref.ensures.value h.3 c.in-Ok-read.ensures.ok in
    let k : Behind h.0 c.in-Ok.head.reads s t c.in-Ok.head.script.items c.deref-2.result.now = rw c.deref-2.ensures.value b in
    let few = h.5 in
    let r = c.in-Err-trace_script.ensures.served in
    record {
      served = plain_fault c.in-Err-trace_script.fault h.0 c.in-Ok.head.script.items c.deref-2.result.now c.deref.result.now c.in-Ok.head.reads (1000000 - c.in-Ok.head.reads) s t
          (g.S.Source.seen c.trace_script.new.source) (g.W.Sink.seen c.args.sink.now) (g.W.Sink.seen c.trace_script.new.sink) c.in-Ok-read.script r.0 c.deref.ensures.value h.1 k
          c.in-Ok-read.ensures.ok (omega (arith, few)) h.4 r.1;
      counted = counted_on c.in-Ok.head.reads (1000000 - c.in-Ok.head.reads) (reads_failed c.in-Err-trace_script.fault) (writes_failed c.in-Err-trace_script.fault) s t
          (g.S.Source.seen c.trace_script.new.source) (g.W.Sink.seen c.args.sink.now) (g.W.Sink.seen c.trace_script.new.sink)
          h.4 (omega (arith, few)) (let e = c.in-Ok.ensures.counted.reads_failed in omega (arith, e)) c.in-Err-trace_script.ensures.counted;
      kept = tt;
    }
