-- Judging a message by a part of it: what holds of its first bytes holds of every input that goes on from them.
use Rattle.std.proofs.Common.{◌≡◌, ℕ, ◌+◌, ◌-◌, ◌≤◌, inl, inr, Bool, true, IsTrue, List, [], ◌++◌, length, take, drop, refl, sym, ap, ◌∙◌, arith, append_assoc, subst, length-append, take-append-drop, Option, None, Some, IfSome, Result, Ok, Err}
use Rattle.std.proofs.lemmas.List.{drop_at, length-take}
use Rattle.std.specs.Io.KnownBytes.{Consumes, IsAtEnd}
use Rattle.httparse.specs.{Grammar.print_response, Grammar.ReadsResponse, Grammar.status_code, Spans.ResponseOverflows}
use Rattle.vault_http.specs.{declared.framing.Framing.Framing, declared.framing.LengthFault.LengthFault, declared.http_fault.HttpFault.HttpFault}
use Rattle.vault_http.specs.{declared.http_fault.HttpFault.TheVariants.ReadFailed, declared.http_fault.HttpFault.TheVariants.BadHead, declared.http_fault.HttpFault.TheVariants.TooLong, declared.http_fault.HttpFault.TheVariants.OutOfMemory}
use Rattle.vault_http.specs.{declared.reply.Reply.Reply, Body.HasBody, Heads.FoundReply, Heads.framing_of_response, Messages.IsBehind, Messages.is_informational, Messages.IsHttpReply, Messages.UnlessMemory}
use Rattle.vault_http.specs.{Reading.SettlesMessage, Reading.CountsMessage, declared.found_head.TheConstants.MOST_FIELDS}
use Rattle.vault_http.proofs.Fronts.{take-grows}

-- ---- no head

pub unless : {A : Type 0} (a : Result A HttpFault) (P : Type 0) → P → UnlessMemory a P
unless (Ok x) P p = p
unless (Err OutOfMemory) P p = tt
unless (Err fault) P p = p

overflows_on : (front more : List ℕ) → ResponseOverflows MOST_FIELDS front → ResponseOverflows MOST_FIELDS (front ++ more)
overflows_on front more over after h rest reads = over (more ++ after) h rest (subst (λ b. ReadsResponse b h rest) (append_assoc front more after) reads)

pub refused_reply : (max : ℕ) (bytes more : List ℕ) → ResponseOverflows MOST_FIELDS (take max bytes) → IsHttpReply max (bytes ++ more) (Err BadHead)
refused_reply max bytes more over =
    inl (BadHead, subst (ResponseOverflows MOST_FIELDS) (sym (take-grows max bytes more)) (overflows_on (take max bytes) (take (max - length bytes) more) over), refl)

-- ---- a head

-- a head within the first bytes is a head of the whole
pub head_on : (max : ℕ) (bytes more printed rest : List ℕ) (len : ℕ) → take max bytes ≡ printed ++ rest → len ≡ length printed
    → (bytes ++ more ≡ printed ++ (drop len bytes ++ more)) × (length printed ≤ max) × (length printed ≤ length bytes)
head_on max bytes more printed rest len e count =
    let whole : bytes ≡ printed ++ (rest ++ drop max bytes) = sym (take-append-drop max bytes) ∙ ap (λ t. t ++ drop max bytes) e ∙ append_assoc printed rest (drop max bytes) in
    let left : drop len bytes ≡ rest ++ drop max bytes = ap (drop len) whole ∙ drop_at printed (rest ++ drop max bytes) len (sym count) in
    let long : length (take max bytes) ≡ length printed + length rest = ap length e ∙ length-append printed rest in (
      ap (λ t. t ++ more) whole ∙ append_assoc printed (rest ++ drop max bytes) more ∙ ap (λ t. printed ++ (t ++ more)) (sym left),
      omega (arith, long, length-take max bytes),
      omega (arith, long, length-take max bytes),
    )

pub headed_reply : (max : ℕ) (bytes more : List ℕ) (len status : ℕ) (framed : Result Framing LengthFault) (a : Result Reply HttpFault) → FoundReply (take max bytes) len status framed
    → IsBehind (is_informational status) status framed (max - len) (drop len bytes ++ more) a → IsHttpReply max (bytes ++ more) a
headed_reply max bytes more len status framed a f behind =
    let on = head_on max bytes more (print_response f.head) f.rest len f.reads.1 f.len_is in
    let rest = drop len bytes ++ more in
    let by_status = subst (λ s. IsBehind (is_informational s) s framed (max - len) rest a) f.status_is behind in
    let by_framing = subst (λ g. IsBehind (is_informational (status_code f.head)) (status_code f.head) g (max - len) rest a) f.framing_is by_status in
    let by_len = subst (λ k. IsBehind (is_informational (status_code f.head)) (status_code f.head) (framing_of_response f.head) (max - k) rest a) f.len_is by_framing in
    inr (record { head = f.head; rest = rest; reads = (f.reads.0, on.0); few = f.few; within = on.1; behind = by_len })

-- a body after the head, where the head says how long it is
abbrev pub HasBodyOf : Result Framing LengthFault → ℕ → List ℕ → Type 0
HasBodyOf (Ok framed) room rest = HasBody framed room rest
HasBodyOf (Err fault) room rest = ⊥

-- ---- reading

module _ {A : Type 0} (HasNoHead : List ℕ → Type 0) (IsAnswer : List ℕ → Result A HttpFault → Type 0) where
  settle : (whole : List ℕ) (left : Option (List ℕ)) (a : Result A HttpFault) (before now : ℕ) → UnlessMemory a (IsAnswer whole a) → SettlesMessage HasNoHead IsAnswer whole left before now a
  settle whole left (Ok x) before now h = h
  settle whole left (Err OutOfMemory) before now h = tt
  settle whole left (Err ReadFailed) before now h = tt
  settle whole left (Err TooLong) before now h = inl h
  settle whole left (Err _) before now h = h

  -- an answer that stands for every input that goes on is that of the whole input
  pub settled : (whole left : Option (List ℕ)) (bytes : List ℕ) (ended : Bool) (a : Result A HttpFault) (before now : ℕ)
      → Consumes whole left bytes → (ended ≡ true → IsAtEnd left)
      → ((more : List ℕ) → (IsTrue ended → more ≡ []) → UnlessMemory a (IsAnswer (bytes ++ more) a))
      → IfSome whole (λ w. SettlesMessage HasNoHead IsAnswer w left before now a)
  settled None left bytes ended a before now given end judged = tt
  settled (Some w) None bytes ended a before now given end judged = absurd given
  settled (Some w) (Some l) bytes ended a before now given end judged =
      settle w (Some l) a before now (subst (λ t. UnlessMemory a (IsAnswer t a)) (sym given) (judged l end))

  -- no read failed where it is told otherwise
  pub counted : (a : Result A HttpFault) (bytes : List ℕ) (before now : ℕ) → (IsAnswer bytes (Err ReadFailed) → ⊥) → UnlessMemory a (IsAnswer bytes a) → now ≡ before → CountsMessage a before now
  counted (Ok x) bytes before now not_failed h e = e
  counted (Err ReadFailed) bytes before now not_failed h e = absurd (not_failed h)
  counted (Err _) bytes before now not_failed h e = e

  pub not_failed : (a : Result A HttpFault) (bytes : List ℕ) → (IsAnswer bytes (Err ReadFailed) → ⊥) → UnlessMemory a (IsAnswer bytes a) → a ≡ Err ReadFailed → ⊥
  not_failed a bytes never h e = never (subst (λ x. UnlessMemory x (IsAnswer bytes x)) e h)
