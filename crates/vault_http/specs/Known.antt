-- What is known of a message of which not all bytes have come. The words are the code's own: no contract of the crate that is
-- public names them.
use Rattle.std.specs.Prelude.{◌≡◌, ℕ, ◌-◌, ◌*◌, ◌<◌, ◌≤◌, ◌⊎◌, List, ◌++◌, length, take, drop, IsTrue, Result, Ok, Err}
use Rattle.std.specs.List.{list_all}
use Rattle.vault_http.specs.{declared.body.BodyFault.BodyFault, declared.framing.Framing.Framing, declared.http_fault.HttpFault.HttpFault, declared.http_fault.HttpFault.TheVariants.Truncated, declared.known.TheConstants.SMALL_HEAD}
use Rattle.vault_http.specs.{declared.known.Known.Known, declared.message.Head.Head, Body.IsMessageBody, Body.HasBody, Body.BodyIsCutOff, Body.IsPartOf, Body.framing_of, EmptyLine.is_line_end_byte}
use Rattle.vault_http.specs.{Messages.body_fault, Messages.UnlessMemory}
use Rattle.vault_http.specs.declared.known.Known.TheVariants as known
use Rattle.vault_http.specs.declared.message.Head.TheVariants as head

-- the message with that body
abbrev pub message_with_body : {A : Type 0} → (A → List ℕ → A) → A → Result (List ℕ) BodyFault → Result A HttpFault
message_with_body with_body message (Ok body) = Ok (with_body message body)
message_with_body with_body message (Err fault) = Err (body_fault fault)

-- the first bytes are a head, so that the answer is that of the body after it
pub record IsHeaded {A : Type 0} (IsAnswer : List ℕ → Result A HttpFault → Type 0) (with_body : A → List ℕ → A) (max : ℕ) (bytes : List ℕ) (len : ℕ) (message : A) (framed : Framing) : Type 0 where
  pub within : len ≤ max
  pub there : len ≤ length bytes
  pub answers : (more : List ℕ) (body : Result (List ℕ) BodyFault) → IsMessageBody framed (max - len) (drop len bytes ++ more) body
      → IsAnswer (bytes ++ more) (message_with_body with_body message body)
  pub has_body : (more : List ℕ) (m : A) → IsAnswer (bytes ++ more) (Ok m) → HasBody framed (max - len) (drop len bytes ++ more)

-- what stands at the front of the bytes: no head yet, a fault whatever follows, or a head
abbrev pub IsMessageHead : {A : Type 0} → (List ℕ → Type 0) → (List ℕ → Result A HttpFault → Type 0) → (A → List ℕ → A) → ℕ → List ℕ → Head A → Type 0
IsMessageHead HasNoHead IsAnswer with_body max bytes head.Open = (length bytes < max) × IsAnswer bytes (Err Truncated) × HasNoHead bytes
IsMessageHead {A} HasNoHead IsAnswer with_body max bytes (head.Refused fault) = (more : List ℕ) → UnlessMemory {A = A} (Err fault) (IsAnswer (bytes ++ more) (Err fault))
IsMessageHead HasNoHead IsAnswer with_body max bytes (head.Found len message framed) = IsHeaded IsAnswer with_body max bytes len message framed

-- what is known stays true however the bytes go on
abbrev pub StaysKnown : {A : Type 0} → (List ℕ → Type 0) → (List ℕ → Result A HttpFault → Type 0) → (A → List ℕ → A) → ℕ → List ℕ → Known A → Type 0
StaysKnown HasNoHead IsAnswer with_body max bytes (known.Head looked seen blank) =
    (looked ≤ seen) × (seen ≤ length bytes) × (blank ≤ length bytes) × IsAnswer (take looked bytes) (Err Truncated) × HasNoHead (take seen bytes)
    × IsTrue (list_all is_line_end_byte (take blank bytes))
StaysKnown HasNoHead IsAnswer with_body max bytes (known.Body headed) =
    IsHeaded IsAnswer with_body max bytes headed.len headed.message (framing_of headed.partial) × IsPartOf headed.partial (max - headed.len) (drop headed.len bytes)

-- it is known of all the bytes, and they do not yet settle an answer
abbrev pub IsCurrent : {A : Type 0} → ℕ → List ℕ → Known A → Type 0
IsCurrent max bytes (known.Head looked seen blank) = (seen ≡ length bytes) × ((looked ≡ seen) ⊎ ((SMALL_HEAD < length bytes) × (length bytes < 2 * looked)))
IsCurrent max bytes (known.Body headed) = BodyIsCutOff (framing_of headed.partial) (max - headed.len) (drop headed.len bytes)
