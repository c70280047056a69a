-- Stated: the start of a certificate is the one that its text states.
use Rattle.std.proofs.Common.{◌≡◌, ℕ, Result, Ok, ap, ◌∙◌}
use Rattle.plan_certificate.specs.{declared.cert.Cert.Cert, declared.fault.CertFault.CertFault, Laws.StartIsStated, Lines.line_at, Lines.lines}
use Rattle.plan_certificate.specs.Reading.{body_of, certificate_of, header_of, start_of, text_start}
use Rattle.plan_certificate.specs.Answers.{◌>>=◌}
use Rattle.plan_certificate.proofs.Found.{step_ok}

follow : {A B : Type 0} (r : Result A CertFault) (x : A) (f : A → Result B CertFault) (y : Result B CertFault) → r ≡ Ok x → f x ≡ y → (r >>= f) ≡ y
follow r x f y e k = ap (λ q. q >>= f) e ∙ k

pub start_stated : StartIsStated
unfolding certificate_of text_start
start_stated es text c e =
    step_ok (header_of (lines text)) _ c e (λ head a e1.
    step_ok (line_at 2 head.1) _ c e1 (λ second b e2.
    step_ok (start_of second.0) _ c e2 (λ start d e3.
    step_ok (body_of head.0 es second.1) _ c e3 (λ body f e4.
    let same : start ≡ c.start = (let made : record { version = head.0; start = start; body = body } ≡ c = cc in ap (λ (x : Cert). x.start) made) in
    follow _ head _ _ a (follow _ second _ _ b (d ∙ ap (λ (s : ℕ). Ok s) same))))))
