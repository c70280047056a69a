-- What reading a text from a source in memory that never fails answers, where the text has one answer: for both texts.
use Rattle.std.proofs.Common.{◌≡◌, ℕ, ◌+◌, ◌/◌, ◌≤◌, inl, inr, arith, List, [], length, ◌++◌, ◌<◌, ◌^◌, IsTrue, refl, ap, sym, subst, length-append, append-nil, ◌∙◌, Option, Some, Result, Ok, Err, IsErrAnd, IsOkUnless, le_refl}
use Rattle.vault_exchange.specs.{declared.fault.ExchangeFault.ExchangeFault, declared.fault.ExchangeFault.TheVariants.OutOfMemory, Exchanges.exchange_fault}
use Rattle.vault_http.specs.{declared.http_fault.HttpFault.HttpFault, declared.reply.Reply.Reply, declared.request.Request.Request, Messages.IsHttpReply, Messages.IsHttpRequest, RoundTrip.ReadsBackReply, RoundTrip.is_sent}
use Rattle.vault_http.specs.{Written.reply_text, Written.request_text}
use Rattle.vault_http.specs.Reading.{CountsMessage, SettlesMessage, SettlesReply, SettlesRequest}
use Rattle.vault_http.specs.RoundTripRequest.{IsSendableRequest, IsWritable, ReadsBackRequest, without_port}
use Rattle.vault_http.specs.declared.http_fault.HttpFault.TheVariants as https
use Rattle.base_device.specs.declared.limits.TheConstants.{MOST_READS}
use Rattle.base_device.specs.Memory.{Supply, input_of, reads_needed, reads_of}

-- the message, or lack of memory
abbrev pub Reads : {A : Type 0} → A → Result A HttpFault → Type 0
Reads message (Ok x) = x ≡ message
Reads message (Err fault) = fault ≡ https.OutOfMemory

no_message : {A : Type 0} (message : A) (fault : HttpFault) → ◌≡◌ {A = Result A HttpFault} (Err fault) (Ok message) → ⊥
no_message message fault e = cc

pub read_back :
    {A : Type 0} (HasNoHead : List ℕ → Type 0) (IsAnswer : List ℕ → Result A HttpFault → Type 0) (bytes : List ℕ) (left : Option (List ℕ)) (before now : ℕ) (message : A) →
    before ≤ MOST_READS → ((answer : Result A HttpFault) → IsAnswer bytes answer → answer ≡ Ok message) →
    (result : Result A HttpFault) → CountsMessage result 0 0 → SettlesMessage HasNoHead IsAnswer bytes left before now result → Reads message result
read_back HasNoHead IsAnswer bytes left before now message few one (Ok x) count said = let same : Ok x ≡ Ok message = one (Ok x) said in cc
read_back HasNoHead IsAnswer bytes left before now message few one (Err https.ReadFailed) count said = let wrong : 0 ≡ 1 = count in let no' : ⊥ = omega (arith, wrong) in absurd no'
read_back HasNoHead IsAnswer bytes left before now message few one (Err https.OutOfMemory) count said = refl
read_back HasNoHead IsAnswer bytes left before now message few one (Err https.BadHead) count said = absurd (no_message message https.BadHead (one (Err https.BadHead) said))
read_back HasNoHead IsAnswer bytes left before now message few one (Err https.BadLength) count said = absurd (no_message message https.BadLength (one (Err https.BadLength) said))
read_back HasNoHead IsAnswer bytes left before now message few one (Err https.BadChunk) count said = absurd (no_message message https.BadChunk (one (Err https.BadChunk) said))
read_back HasNoHead IsAnswer bytes left before now message few one (Err https.Truncated) count said = absurd (no_message message https.Truncated (one (Err https.Truncated) said))
read_back HasNoHead IsAnswer bytes left before now message few one (Err https.TwoLengths) count said = absurd (no_message message https.TwoLengths (one (Err https.TwoLengths) said))
read_back HasNoHead IsAnswer bytes left before now message few one (Err https.TooLong) count (inl said) = absurd (no_message message https.TooLong (one (Err https.TooLong) said))
read_back HasNoHead IsAnswer bytes left before now message few one (Err https.TooLong) count (inr late) = absurd (never_passes few late.passes.0 late.passes.1)
  where
    never_passes : {before now : ℕ} → before ≤ MOST_READS → MOST_READS + now ≤ before → 0 < now → ⊥
    never_passes few over more = omega (arith, few, over, more)

-- a text of at most 1 MiB is handed out in few reads
pub few_reads : (bytes text : List ℕ) (pieces : List ℕ) → bytes ≡ text → pieces ≡ [] → length text ≤ 1048576 → reads_of pieces (length bytes) + 1 ≤ MOST_READS
unfolding reads_of
few_reads bytes text pieces all none short =
    let reads : reads_of pieces (length bytes) ≡ (length text + 65535) / 65536 =
    ap (λ ps. reads_of ps (length bytes)) none ∙ ap (λ (bs : List ℕ). (length bs + 65535) / 65536) all in
    omega (arith, reads, short)

-- ---- a body within a text

behind : (n : ℕ) (xs ys : List ℕ) → n ≤ length ys → n ≤ length (xs ++ ys)
behind n xs ys h = let long = length-append xs ys in omega (arith, long, h)

body_in_request : (r : Request) → length r.body ≤ length (request_text r)
unfolding request_text
body_in_request r = behind (length r.body) _ r.body (le_refl (length r.body))

body_in_reply : (r : Reply) → length r.body ≤ length (reply_text r)
unfolding reply_text
body_in_reply r = behind (length r.body) _ r.body (le_refl (length r.body))

-- ---- a text is read back

pub request_read :
    (source now : Supply) (r : Request) → ReadsBackRequest r → IsWritable r → r.port < 2 ^ 16 → length (request_text r) ≤ 1048576 → source.bytes ≡ request_text r → source.pieces ≡ [] →
    (result : Result Request HttpFault) → CountsMessage result 0 0 → SettlesRequest 1048576 (input_of source) (input_of now) result →
    Reads (without_port r) result
request_read source now r law writable port short is none result count said =
    let within = body_in_request r in
    let sendable : IsSendableRequest r = record { writable = writable; short = omega (arith, within, short); port = port } in
    let one : (answer : Result Request HttpFault) → IsHttpRequest 1048576 source.bytes answer → answer ≡ Ok (without_port r) =
    λ answer h. law sendable [] 1048576 short answer (subst (λ bs. IsHttpRequest 1048576 bs answer) (is ∙ sym (append-nil (request_text r))) h) in
    read_back _ (IsHttpRequest 1048576) source.bytes (Some now.bytes) (reads_needed source) (reads_needed now) (without_port r)
    (few_reads source.bytes (request_text r) source.pieces is none short) one result count said

pub reply_read :
    (source now : Supply) (r : Reply) → ReadsBackReply r → IsTrue (is_sent r.status) → length (reply_text r) ≤ 1048576 → source.bytes ≡ reply_text r → source.pieces ≡ [] →
    (result : Result Reply HttpFault) → CountsMessage result 0 0 → SettlesReply 1048576 (input_of source) (input_of now) result →
    Reads r result
reply_read source now r law sent short is none result count said =
    let within = body_in_reply r in
    let one : (answer : Result Reply HttpFault) → IsHttpReply 1048576 source.bytes answer → answer ≡ Ok r =
    λ answer h. law sent (omega (arith, within, short)) [] 1048576 short answer (subst (λ bs. IsHttpReply 1048576 bs answer) (is ∙ sym (append-nil (reply_text r))) h) in
    read_back _ (IsHttpReply 1048576) source.bytes (Some now.bytes) (reads_needed source) (reads_needed now) r
    (few_reads source.bytes (reply_text r) source.pieces is none short) one result count said

-- lack of memory, as the fault of an exchange
pub memory_of : {X : Type 0} (fault : HttpFault) → fault ≡ https.OutOfMemory → (result : Result X ExchangeFault) → IsErrAnd result (λ e. e ≡ exchange_fault fault) → IsOkUnless result OutOfMemory
memory_of fault is (Ok x) made = tt
memory_of fault is (Err e) made = made ∙ ap exchange_fault is
