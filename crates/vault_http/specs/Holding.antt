-- What bytes hold of a message, and where more of them are waited for.
use Rattle.std.specs.Prelude.{ℕ, ◌*◌, ◌<◌, ◌≤◌, ◌⊎◌, List, ◌++◌, length, take, Option, IfSome, Result, Ok, Err}
use Rattle.std.specs.Io.KnownBytes.{Consumes}
use Rattle.vault_http.specs.{declared.http_fault.HttpFault.HttpFault, declared.http_fault.HttpFault.TheVariants.Truncated, declared.known.TheConstants.SMALL_HEAD}

-- the bytes hold this message: it is the answer whatever follows them (no bytes hold a reply whose length is "determined
-- by the number of octets received prior to the server closing the connection": RFC 9112, section 6.3, point 8)
abbrev pub HoldsMessage : {A : Type 0} → (List ℕ → Result A HttpFault → Type 0) → List ℕ → A → Type 0
HoldsMessage IsAnswer bytes message = (more : List ℕ) → IsAnswer (bytes ++ more) (Ok message)

-- the answer depends on what follows: were the input to end here, the message would be cut off, or would end with the input
abbrev pub IsPending : {A : Type 0} → (List ℕ → Result A HttpFault → Type 0) → List ℕ → Type 0
IsPending {A} IsAnswer bytes =
    IsAnswer bytes (Err Truncated) ⊎ ((message : A) × IsAnswer bytes (Ok message) × (HoldsMessage IsAnswer bytes message → ⊥))

-- no head is whole yet in bytes too many to be looked at after each read, and with more than half of them one could still
-- become whole
pub record IsLongHead {A : Type 0} (HasNoHead : List ℕ → Type 0) (IsAnswer : List ℕ → Result A HttpFault → Type 0) (bytes : List ℕ) : Type 0 where
  pub none : HasNoHead bytes
  pub looked : ℕ
  pub many : SMALL_HEAD < length bytes
  pub half : length bytes < 2 * looked
  pub within : looked ≤ length bytes
  pub cut : IsAnswer (take looked bytes) (Err Truncated)

-- more bytes are rightly waited for: these hold no message, and none is refused by them, but where a long head goes wrong
-- that may be seen once the bytes have doubled
pub record IsWaitedFor {A : Type 0} (HasNoHead : List ℕ → Type 0) (IsAnswer : List ℕ → Result A HttpFault → Type 0) (bytes : List ℕ) : Type 0 where
  pub none : (message : A) → HoldsMessage IsAnswer bytes message → ⊥
  pub pending : IsPending IsAnswer bytes ⊎ IsLongHead HasNoHead IsAnswer bytes

-- where the input is known, more was rightly waited for after what was handed out of it between the two
abbrev pub HandedNone : {A : Type 0} → (List ℕ → Type 0) → (List ℕ → Result A HttpFault → Type 0) → Option (List ℕ) → Option (List ℕ) → Type 0
HandedNone HasNoHead IsAnswer before now =
    IfSome before (λ _. (taken : List ℕ) × Consumes before now taken × IsWaitedFor HasNoHead IsAnswer taken)
