-- What the head of a request says of it.
use Rattle.std.proofs.Common.{◌≡◌, ◌++◌, ◌∙◌, ap, Err, refl, sym, subst, take}
use Rattle.vault_http.specs.{declared.request.Request.Request, Heads.FoundRequest, Known.IsHeaded, Messages.IsHttpRequest, Messages.length_fault, Messages.request_with, Starts.IsStart}
use Rattle.vault_http.proofs.{MessageLemmas.unless, RequestLaws.bodiless, RequestLaws.headed, RequestLemmas.headed_request, RequestLemmas.start_of}
use Rattle.vault_http.proofs.request_message.found_request.Goals as goal

pub bodiless-requires : goal.bodiless-requires
bodiless-requires c =
    subst (λ t. IsStart t c.args.start) (sym c.front_of.ensures) (start_of (take c.args.max c.args.bytes.now) c.args.len c.args.start c.args.framing c.requires.found)

pub returns-in-Err : goal.returns-in-Err
returns-in-Err c = λ more.
    let f = subst (FoundRequest (take c.args.max c.args.bytes.now) c.args.len c.args.start) c.in-Err.is c.requires.found in
    unless {A = Request} (Err c.into.result) (IsHttpRequest c.args.max (c.args.bytes.now ++ more) (Err c.into.result))
    (subst (λ x. IsHttpRequest c.args.max (c.args.bytes.now ++ more) (Err x)) (sym c.into.ensures)
    (headed_request c.args.max c.args.bytes.now more c.args.len c.args.start (Err c.in-Err.fault) (Err (length_fault c.in-Err.fault)) f refl))

pub returns-in-Ok-bodiless : goal.returns-in-Ok-bodiless
returns-in-Ok-bodiless c =
    let f = subst (FoundRequest (take c.args.max c.args.bytes.now) c.args.len c.args.start) c.in-Ok.is c.requires.found in
    let same : c.in-Ok-bodiless.request ≡ bodiless c.front_of.result.now c.args.start = cc (c.in-Ok-bodiless.ensures) in
    let is : c.in-Ok-bodiless.request ≡ bodiless (take c.args.max c.args.bytes.now) c.args.start = same ∙ ap (λ t. bodiless t c.args.start) c.front_of.ensures in
    subst (λ r. IsHeaded (IsHttpRequest c.args.max) request_with c.args.max c.args.bytes.now c.args.len r c.in-Ok.framing) (sym is)
    (headed c.args.max c.args.bytes.now c.args.len c.args.start c.in-Ok.framing f)
