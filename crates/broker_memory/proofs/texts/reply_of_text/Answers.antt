-- The text of a reply is read as that reply, and nothing but lack of memory can stand in the way.
use Rattle.std.proofs.Common.{◌≡◌, ◌∙◌, Ok, Err}
use Rattle.vault_http.specs.declared.http_fault.HttpFault.TheVariants as https
use Rattle.broker_memory.proofs.ReadBack.{reply_read, memory_of}
use Rattle.broker_memory.proofs.texts.reply_of_text.Goals as goal

pub returns-in_err-read_reply-clause-memory : goal.returns-in_err-read_reply-clause-memory
returns-in_err-read_reply-clause-memory c =
    let fault : c.in_err-read_reply.field-0.0 ≡ https.OutOfMemory =
    reply_read c.in_ok-source.source c.read_reply.new.reader c.args.reply.now c.reply_reads_back.ensures c.requires.status c.requires.short
    (c.in_ok-source.ensures.bytes ∙ c.requires.text) c.in_ok-source.ensures.pieces (Err c.in_err-read_reply.field-0.0) c.in_err-read_reply.ensures.count c.in_err-read_reply.ensures.answer in
    memory_of c.in_err-read_reply.field-0.0 fault c.from_residual-in_err-read_reply.result c.from_residual-in_err-read_reply.ensures.1

pub returns-clause-read : goal.returns-clause-read
returns-clause-read c =
    reply_read c.in_ok-source.source c.read_reply.new.reader c.args.reply.now c.reply_reads_back.ensures c.requires.status c.requires.short
    (c.in_ok-source.ensures.bytes ∙ c.requires.text) c.in_ok-source.ensures.pieces (Ok c.in_ok-read_reply.field-0) c.in_ok-read_reply.ensures.count c.in_ok-read_reply.ensures.answer
