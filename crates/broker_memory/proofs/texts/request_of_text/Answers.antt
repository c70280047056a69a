-- The text of a request is read as that request without its port, unless memory is wanting.
use Rattle.std.proofs.Common.{◌≡◌, ◌∙◌, Ok, Err}
use Rattle.vault_http.specs.declared.http_fault.HttpFault.TheVariants as https
use Rattle.broker_memory.proofs.ReadBack.{request_read, memory_of}
use Rattle.broker_memory.proofs.texts.request_of_text.Goals as goal

pub returns-in_err-read_request-clause-memory : goal.returns-in_err-read_request-clause-memory
returns-in_err-read_request-clause-memory c =
    let fault : c.in_err-read_request.field-0.0 ≡ https.OutOfMemory =
    request_read c.in_ok-source.source c.read_request.new.reader c.args.request.now c.request_reads_back.ensures c.requires.writable c.is_port.ensures c.requires.short
    (c.in_ok-source.ensures.bytes ∙ c.requires.text) c.in_ok-source.ensures.pieces (Err c.in_err-read_request.field-0.0) c.in_err-read_request.ensures.count c.in_err-read_request.ensures.answer in
    memory_of c.in_err-read_request.field-0.0 fault c.from_residual-in_err-read_request.result c.from_residual-in_err-read_request.ensures.1

pub returns-clause-read : goal.returns-clause-read
returns-clause-read c =
    request_read c.in_ok-source.source c.read_request.new.reader c.args.request.now c.request_reads_back.ensures c.requires.writable c.is_port.ensures c.requires.short
    (c.in_ok-source.ensures.bytes ∙ c.requires.text) c.in_ok-source.ensures.pieces (Ok c.in_ok-read_request.field-0) c.in_ok-read_request.ensures.count c.in_ok-read_request.ensures.answer
