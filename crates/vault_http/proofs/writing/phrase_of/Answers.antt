-- A status that `http` knows is a number of three digits.
use Rattle.std.proofs.Common.{◌≡◌, ℕ, ◌≤◌, ◌<◌, List, [], Option, Some, None, Bor, option_map, refl, sym, ap, ◌∙◌, arith}
use Rattle.std.proofs.lemmas.Bool.Decides.{nat_tests}
use Rattle.std.specs.Option.{unwrap_or}
use Rattle.http.specs.StatusCode.{reason_phrase}
use Rattle.vault_http.specs.Written.{phrase, phrase_in}
use Rattle.vault_http.proofs.writing.phrase_of.Goals as goal

phrase_in-known : (status : ℕ) (o : Option (List ℕ)) → 100 ≤ status → status < 1000 → phrase_in status o ≡ unwrap_or o []
phrase_in-known status o low high = grind (arith, nat_tests)

now_of : (o : Option (Bor (List ℕ))) (d : Bor (List ℕ)) → (unwrap_or o d).now ≡ unwrap_or (option_map (λ s. s.now) o) d.now
now_of None d = refl
now_of (Some s) d = refl

pub returns-in-Ok : goal.returns-in-Ok
unfolding phrase
returns-in-Ok c =
    let known = c.canonical_reason.ensures.value ∙ ap reason_phrase c.in-Ok.ensures.1 in
    ap (λ s. s.now) c.unwrap_or.ensures ∙ now_of c.canonical_reason.result _ ∙ ap (λ o. unwrap_or o []) known
    ∙ sym (phrase_in-known c.args.status (reason_phrase c.args.status) (omega (arith, c.if-status-lt100.false)) c.in-Ok.ensures.0.1)
