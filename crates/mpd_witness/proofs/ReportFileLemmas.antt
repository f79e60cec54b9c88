-- A witness that is read from the file of a report.
use Rattle.std.proofs.Common.{◌≡◌, ℕ, ◌<◌, ◌≤◌, inl, inr, List, length, Option, Result, Ok, Err, refl, ap, sym, ◌∙◌}
use Rattle.mpd_model.specs.devices.Seen.{SourceSeen}
use Rattle.mpd_explore.specs.declared.report.EndWitness.{EndWitness}
use Rattle.mpd_lines.specs.declared.engine.EngineFault.{EngineFault}
use Rattle.mpd_lines.specs.declared.engine.EngineFault.TheVariants as engine
use Rattle.mpd_lines.specs.UpTo.{IsRead, IsUnread}
use Rattle.mpd_witness.specs.declared.report_file.TheConstants.{WITNESS_MAX}
use Rattle.mpd_witness.specs.declared.report_text.ReportFault.{ReportFault}
use Rattle.mpd_witness.specs.declared.report_text.ReportFault.TheVariants.{BadLine, NoWitness, SeveralWitnesses, NoSuchLeaf, NoDeadlock, Engine}
use Rattle.mpd_witness.specs.ReadBack.{witness_of_report, ReadsReport}
use Rattle.mpd_witness.specs.ReportFile.{IsFromReport}

pub report_unread : (leaf : Option ℕ) (s t : SourceSeen) (e : EngineFault) → IsUnread WITNESS_MAX s t e → IsFromReport leaf s t (Err (Engine e))
report_unread leaf s t engine.ReadFailed h = h
report_unread leaf s t engine.TooManyTurns h = h
report_unread leaf s t engine.WriteFailed h = h
report_unread leaf s t engine.Memory h = ap (λ (x : SourceSeen). x.failures) h

pub report_long : (leaf : Option ℕ) (s t : SourceSeen) (text : List ℕ) → IsRead WITNESS_MAX s t text → 33554432 < length text → IsFromReport leaf s t (Err (BadLine 2))
report_long leaf s t text h l = inr ((text, h, l), refl)

abbrev of_text : (leaf : Option ℕ) (text shown : List ℕ) (r : Result EndWitness ReportFault) → shown ≡ text → witness_of_report leaf shown ≡ r → witness_of_report leaf text ≡ r
of_text leaf text shown r same w = ap (witness_of_report leaf) (sym same) ∙ w

pub report_read : (leaf : Option ℕ) (s t : SourceSeen) (text shown : List ℕ) (r : Result EndWitness ReportFault) → IsRead WITNESS_MAX s t text → length text ≤ 33554432 → shown ≡ text → ReadsReport (witness_of_report leaf shown) r → IsFromReport leaf s t r
report_read leaf s t text shown (Ok x) h l same w = (text, h, l, of_text leaf text shown (Ok x) same w)
report_read leaf s t text shown (Err (BadLine n)) h l same w = inl (text, h, l, of_text leaf text shown (Err (BadLine n)) same w)
report_read leaf s t text shown (Err NoWitness) h l same w = (text, h, l, of_text leaf text shown (Err NoWitness) same w)
report_read leaf s t text shown (Err SeveralWitnesses) h l same w = (text, h, l, of_text leaf text shown (Err SeveralWitnesses) same w)
report_read leaf s t text shown (Err NoSuchLeaf) h l same w = (text, h, l, of_text leaf text shown (Err NoSuchLeaf) same w)
report_read leaf s t text shown (Err NoDeadlock) h l same w = (text, h, l, of_text leaf text shown (Err NoDeadlock) same w)
report_read leaf s t text shown (Err (Engine engine.Memory)) h l same w = h.failures
report_read leaf s t text shown (Err (Engine engine.ReadFailed)) h l same w = absurd w
report_read leaf s t text shown (Err (Engine engine.WriteFailed)) h l same w = absurd w
report_read leaf s t text shown (Err (Engine engine.TooManyTurns)) h l same w = absurd w

pub ruleset answering = (report_unread, report_long, report_read)
