-- What is written to a line and read from it, where its bytes are known.
-- Source: RFC 9112 (the texts); this project's own.
use Rattle.std.specs.Prelude.{◌≡◌, ◌⊎◌, Result, Ok, Err}
use Rattle.base_device.specs.Seen.{Change, Receives, ReceivesFront}
use Rattle.vault_exchange.specs.declared.fault.ExchangeFault.{ExchangeFault}
use Rattle.vault_exchange.specs.declared.fault.ExchangeFault.TheVariants.{WriteFailed, Http, OutOfMemory}
use Rattle.vault_http.specs.{declared.known.TheConstants.MOST_MESSAGE, declared.http_fault.HttpFault.HttpFault, declared.reply.Reply.Reply, declared.request.Request.Request, Reading.SettlesReply, Written.request_text}

-- the request is written whole, once, and this is what is read after it
abbrev pub ReadsReply : Request → Change → Result Reply HttpFault → Type 0
ReadsReply r line read = Receives (request_text r) line × SettlesReply MOST_MESSAGE line.old.input line.new.input read

-- one exchange over a line: the request is written and the reply read; or no more than a front of the request is written, and
-- nothing is read. Memory may be wanting before, between and after
abbrev pub Carries : Request → Change → Result Reply ExchangeFault → Type 0
Carries r line (Ok reply) = ReadsReply r line (Ok reply)
Carries r line (Err (Http fault)) = ReadsReply r line (Err fault)
Carries r line (Err WriteFailed) = ReceivesFront (request_text r) line × (line.new.input ≡ line.old.input)
Carries r line (Err OutOfMemory) =
    ReceivesFront (request_text r) line ⊎ Receives (request_text r) line
Carries r line (Err fault) = ⊥
