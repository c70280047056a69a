-- What a text writes can be judged.
use Rattle.std.proofs.Common.{List, [], ◌∷◌, length}
use Rattle.plan_forest.specs.{declared.entry.Entry.Entry, Forest.Forest}
use Rattle.plan_rule.specs.declared.run.Run.{Run}
use Rattle.plan_certificate.specs.{declared.cert.Body.Body, declared.cert.Version.Version, CertificateText.AreRunsOf, CertificateText.IsCertificateBody}
use Rattle.plan_certificate.specs.declared.cert.Body.TheVariants as body
use Rattle.plan_check.specs.{code.Steps.AllFit, Fit.CanBeJudged, Laws.WrittenIsJudgedLaw}

all_fit : (v : Version) (es : List Entry) (rs : List Run) → AreRunsOf v es rs → AllFit (length es) rs
all_fit v es [] each = tt
all_fit v es (r ∷ rs) each = (record { among = each.0.among; moments = each.0.run.moments }, all_fit v es rs each.1)

pub body_fits : (g : Forest) (v : Version) (b : Body) → IsCertificateBody v g.entries b → CanBeJudged g b
body_fits g v (body.Runs rs) is = (all_fit v g.entries rs is.0, is.1.1)
body_fits g v (body.Unkeepable entry needed) is = is

pub written_fits : WrittenIsJudgedLaw
written_fits g text c writes = body_fits g c.version c.body writes.certificate.1
