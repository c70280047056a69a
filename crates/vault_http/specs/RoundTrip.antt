-- What was written is read back as the same message, whatever follows it, where as many bytes may be read as it has.
use Rattle.std.specs.Prelude.{◌≡◌, ℕ, ◌^◌, ◌<◌, ◌≤◌, ◌==◌, Bool, List, [], ◌∷◌, ◌++◌, length, IsTrue, Result, Ok}
use Rattle.std.specs.List.{list_any}
use Rattle.vault_http.specs.{declared.http_fault.HttpFault.HttpFault, declared.reply.Reply.Reply, Messages.IsHttpReply, Written.reply_text}

-- the statuses that replies are written with
abbrev pub is_sent : ℕ → Bool
is_sent status = list_any (λ s. status == s) (200 ∷ 400 ∷ 403 ∷ 404 ∷ 405 ∷ 429 ∷ 500 ∷ 503 ∷ [])

-- a reply that was written is the only answer to its bytes, whatever follows them
abbrev pub ReadsBackReply : Reply → Type 0
ReadsBackReply r = IsTrue (is_sent r.status) → length r.body < 10 ^ 15 → (more : List ℕ) (max : ℕ) → length (reply_text r) ≤ max
    → (answer : Result Reply HttpFault) → IsHttpReply max (reply_text r ++ more) answer → answer ≡ Ok r
