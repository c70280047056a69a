-- The text has the lines of the runs that were passed, after what it had before.
use Rattle.std.proofs.Common.{◌≡◌, ◌++◌, flat_map, take}
use Rattle.plan_certificate.specs.{declared.cert.Version.TheVariants.Two, CertificateText.run_text}
use Rattle.plan_certificate.proofs.writer.push_lines.Given as goal

abbrev pub invariant-loop-run : goal.invariant-loop-run
invariant-loop-run l = l.text.items ≡ l.initial.text.items ++ flat_map (run_text Two l.forest.entries) (take l.run-index l.runs)
