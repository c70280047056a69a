-- Where more of a message is rightly waited for: for the judges and the reading loop.
use Rattle.std.proofs.Common.{◌≡◌, ℕ, ◌+◌, ◌-◌, ◌<◌, ◌≤◌, ◌⊎◌, inl, inr, cond, nat_lt, Bool, true, false, IsTrue, List, [], ◌++◌, length, take, drop, replicate, refl, sym, ap, ◌∙◌, arith, append_assoc, append-nil, subst, length-append, take-append-drop, Option, None, Some, IfSome, Result, Ok, Err}
use Rattle.std.proofs.lemmas.{Bool.lt-ltb, Bool.le-ltb, List.length-replicate, List.take-append-le, List.drop-append-le, List.take_all, List.length-take-le}
use Rattle.std.specs.{List.list_all, Io.KnownBytes.Consumes, Io.KnownBytes.Keeps, Io.KnownBytes.IsAtEnd}
use Rattle.std.proofs.KnownBytes.{Consumes-kept}
use Rattle.base_device.specs.declared.limits.TheConstants.{MOST_READS}
use Rattle.vault_http.specs.{declared.body.BodyFault.BodyFault, declared.body.BodyFault.TheVariants.TooLong, declared.body.BodyFault.TheVariants.Truncated, declared.body.Partial.Partial, declared.framing.Framing.Framing}
use Rattle.vault_http.specs.{declared.framing.Framing.TheVariants.Empty, declared.framing.Framing.TheVariants.Counted, declared.framing.Framing.TheVariants.Chunked, declared.framing.Framing.TheVariants.ToEnd}
use Rattle.vault_http.specs.{declared.http_fault.HttpFault.HttpFault, declared.known.Known.Known, Body.IsMessageBody, Body.HasBody, Body.BodyIsCutOff, Body.IsPartOf, Body.counted_body, Body.framing_of, Body.open_body, Chunks.HasChunks}
use Rattle.vault_http.specs.{EmptyLine.HasLineBehind, EmptyLine.is_line_end_byte, Holding.HoldsMessage, Holding.HandedNone, Holding.IsPending, Holding.IsWaitedFor, Known.IsCurrent, Known.IsHeaded, Known.StaysKnown, Known.message_with_body}
use Rattle.vault_http.specs.{Reading.HeldIsRead, Reading.IsLate, Reading.SettlesMessage}
use Rattle.vault_http.specs.declared.body.Partial.TheVariants as partial
use Rattle.vault_http.specs.declared.http_fault.HttpFault.TheVariants as faults
use Rattle.vault_http.specs.declared.known.Known.TheVariants as known
use Rattle.vault_http.proofs.WholeChunks.{never_both}

-- ---- a body

counted_cut : (b c : Bool) (bytes body : List ℕ) → cond b (Err TooLong) (cond c (Err Truncated) (Ok bytes)) ≡ Err Truncated → Ok body ≡ cond b (Err TooLong) (cond c (Err Truncated) (Ok bytes)) → ⊥
counted_cut b c bytes body cut e = let both = e ∙ cut in cc

-- no body goes to the end of the input whatever follows
open_never : (room : ℕ) (rest body : List ℕ) → room < length rest → Ok body ≡ open_body room rest → ⊥
open_never room rest body long e = given (nat_lt room (length rest)) (lt-ltb room (length rest) long) e
  where
    given : (b : Bool) → b ≡ true → Ok body ≡ cond b (Err TooLong) (Ok rest) → ⊥
    given true t f = cc
    given false t f = cc

-- a body that is waited for is not whole
waits_none : (framed : Framing) (room : ℕ) (rest : List ℕ) → BodyIsCutOff framed room rest → ((after : List ℕ) → HasBody framed room (rest ++ after)) → ⊥
waits_none Empty room rest w h = w
waits_none (Counted n) room rest w h =
    let b = h [] in
    counted_cut (nat_lt room n) (nat_lt (length rest) n) (take n rest) b.0 w (subst (λ t. Ok b.0 ≡ counted_body n room t) (append-nil rest) b.1)
waits_none Chunked room rest w h = let b = h [] in never_both room rest b.0 w (subst (λ t. IsMessageBody Chunked room t (Ok b.0)) (append-nil rest) b.1)
waits_none ToEnd room rest w h =
    let pad = replicate (room + 1) 0 in
    let b = h pad in
    open_never room (rest ++ pad) b.0 (omega (arith, length-append rest pad, length-replicate {A = ℕ} (room + 1) 0)) b.1

open_whole : (room : ℕ) (rest : List ℕ) → length rest ≤ room → Ok rest ≡ open_body room rest
open_whole room rest w = given (nat_lt room (length rest)) (le-ltb room (length rest) w)
  where
    given : (b : Bool) → b ≡ false → Ok rest ≡ cond b (Err TooLong) (Ok rest)
    given true f = absurd (cc f)
    given false f = refl

-- whole chunks at the front stay there
chunks_on : (rest more : List ℕ) (at : ℕ) (body : List ℕ) → at ≤ length rest → HasChunks rest at body → HasChunks (rest ++ more) at body
chunks_on rest more at body within h = record {
  chunks = h.chunks;
  are_chunks = h.are_chunks;
  text_is = take-append-le at rest more within ∙ h.text_is;
  body_is = h.body_is;
}

part_on : (p : Partial) (room : ℕ) (rest more : List ℕ) → IsPartOf p room rest → IsPartOf p room (rest ++ more)
part_on (partial.Chunked at body) room rest more h = (omega (arith, h.0, length-append rest more), h.1, chunks_on rest more at body.items h.0 h.2)
part_on _ room rest more h = tt

-- ---- a message

module _ {A : Type 0} (HasNoHead : List ℕ → Type 0) (IsAnswer : List ℕ → Result A HttpFault → Type 0) (with_body : A → List ℕ → A) where
  -- a head stays one however the bytes go on
  headed_on : (max : ℕ) (bytes more : List ℕ) (len : ℕ) (message : A) (framed : Framing) → IsHeaded IsAnswer with_body max bytes len message framed
      → IsHeaded IsAnswer with_body max (bytes ++ more) len message framed
  headed_on max bytes more len message framed h =
      let behind : (after : List ℕ) → drop len (bytes ++ more) ++ after ≡ drop len bytes ++ (more ++ after) =
      λ after. ap (λ t. t ++ after) (drop-append-le len bytes more h.there) ∙ append_assoc (drop len bytes) more after in record {
        within = h.within;
        there = omega (arith, h.there, length-append bytes more);
        answers = λ after body is. subst (λ t. IsAnswer t (message_with_body with_body message body)) (sym (append_assoc bytes more after))
            (h.answers (more ++ after) body (subst (λ t. IsMessageBody framed (max - len) t body) (behind after) is));
        has_body = λ after m is. subst (λ t. HasBody framed (max - len) t) (sym (behind after))
            (h.has_body (more ++ after) m (subst (λ t. IsAnswer t (Ok m)) (append_assoc bytes more after) is));
      }

  pub known_on : (max : ℕ) (bytes more : List ℕ) (k : Known A) → StaysKnown HasNoHead IsAnswer with_body max bytes k → StaysKnown HasNoHead IsAnswer with_body max (bytes ++ more) k
  known_on max bytes more (known.Head looked seen blank) (less, there, within, cut, none, all) =
      let long = length-append bytes more in (
        less,
        omega (arith, there, long),
        omega (arith, within, long),
        subst (λ t. IsAnswer t (Err faults.Truncated)) (sym (take-append-le looked bytes more (omega (arith, less, there)))) cut,
        subst HasNoHead (sym (take-append-le seen bytes more there)) none,
        ap (list_all is_line_end_byte) (take-append-le blank bytes more within) ∙ all,
      )
  known_on max bytes more (known.Body k) (headed, part) = (
    headed_on max bytes more k.len k.message (framing_of k.partial) headed,
    subst (IsPartOf k.partial (max - k.len)) (sym (drop-append-le k.len bytes more headed.there)) (part_on k.partial (max - k.len) (drop k.len bytes) more part),
  )

  -- no head is whole in more bytes that are all of line ends, or bring no empty line
  pub unlooked : (max : ℕ) (bytes : List ℕ) (looked seen old blank : ℕ) → ((t : List ℕ) → IsTrue (list_all is_line_end_byte t) → HasNoHead t)
      → ((t more : List ℕ) → HasNoHead t → (HasLineBehind (length t) (t ++ more) → ⊥) → HasNoHead (t ++ more))
      → StaysKnown HasNoHead IsAnswer with_body max bytes (known.Head looked seen old) → blank ≤ length bytes → IsTrue (list_all is_line_end_byte (take blank bytes))
      → (blank ≡ length bytes) ⊎ (HasLineBehind seen bytes → ⊥) → StaysKnown HasNoHead IsAnswer with_body max bytes (known.Head looked (length bytes) blank)
  unlooked max bytes looked seen old blank by_blank by_line (less, there, within, cut, none, all) here blanks (inl same) =
      (omega (arith, less, there), omega arith, here, cut, by_blank (take (length bytes) bytes) (subst (λ n. IsTrue (list_all is_line_end_byte (take n bytes))) same blanks), blanks)
  unlooked max bytes looked seen old blank by_blank by_line (less, there, within, cut, none, all) here blanks (inr quiet) =
      let front = take seen bytes in
      let whole : front ++ drop seen bytes ≡ bytes = take-append-drop seen bytes in
      let long : length front ≡ seen = length-take-le seen bytes there in
      let gone = by_line front (drop seen bytes) none (λ line. quiet (subst (λ n. HasLineBehind n bytes) long (subst (λ t. HasLineBehind (length front) t) whole line))) in
      (omega (arith, less, there), omega arith, here, cut, subst HasNoHead (whole ∙ sym (take_all (length bytes) bytes (omega arith))) gone, blanks)

  -- after a head
  body_none : (max : ℕ) (bytes : List ℕ) (len : ℕ) (message : A) (framed : Framing) → IsHeaded IsAnswer with_body max bytes len message framed → BodyIsCutOff framed (max - len) (drop len bytes)
      → (m : A) → HoldsMessage IsAnswer bytes m → ⊥
  body_none max bytes len message framed h cut m holds = waits_none framed (max - len) (drop len bytes) cut (λ after. h.has_body after m (holds after))

  at_end : (max : ℕ) (bytes : List ℕ) (len : ℕ) (message : A) (framed : Framing) (body : Result (List ℕ) BodyFault) → IsHeaded IsAnswer with_body max bytes len message framed
      → IsMessageBody framed (max - len) (drop len bytes) body → IsAnswer bytes (message_with_body with_body message body)
  at_end max bytes len message framed body h is =
      subst (λ t. IsAnswer t (message_with_body with_body message body)) (append-nil bytes)
      (h.answers [] body (subst (λ t. IsMessageBody framed (max - len) t body) (sym (append-nil (drop len bytes))) is))

  cut_answer : (max : ℕ) (bytes : List ℕ) (len : ℕ) (message : A) (framed : Framing) → IsHeaded IsAnswer with_body max bytes len message framed → IsMessageBody framed (max - len) (drop len bytes) (Err Truncated)
      → IsAnswer bytes (Err faults.Truncated)
  cut_answer max bytes len message framed h is = at_end max bytes len message framed (Err Truncated) h is

  body_pending : (max : ℕ) (bytes : List ℕ) (len : ℕ) (message : A) (framed : Framing) → IsHeaded IsAnswer with_body max bytes len message framed → BodyIsCutOff framed (max - len) (drop len bytes)
      → IsPending IsAnswer bytes
  body_pending max bytes len message Empty h cut = absurd cut
  body_pending max bytes len message (Counted n) h cut = inl (cut_answer max bytes len message (Counted n) h (sym cut))
  body_pending max bytes len message Chunked h cut = inl (cut_answer max bytes len message Chunked h cut)
  body_pending max bytes len message ToEnd h cut =
      let rest = drop len bytes in
      inr (with_body message rest, at_end max bytes len message ToEnd (Ok rest) h (open_whole (max - len) rest cut), body_none max bytes len message ToEnd h cut (with_body message rest))

  pub waited : (max : ℕ) (bytes : List ℕ) (k : Known A) → ((m : A) → IsAnswer bytes (Ok m) → HasNoHead bytes → ⊥) → StaysKnown HasNoHead IsAnswer with_body max bytes k → IsCurrent max bytes k
      → IsWaitedFor HasNoHead IsAnswer bytes
  waited max bytes (known.Head looked seen blank) heads (less, there, within, cut, none, all) (now, soon) =
      let gone : HasNoHead bytes = subst HasNoHead (take_all seen bytes (omega (arith, now))) none in record {
        none = λ m holds. heads m (subst (λ t. IsAnswer t (Ok m)) (append-nil bytes) (holds [])) gone;
        pending = elim soon [
          | inl same ↦ inl (inl (subst (λ t. IsAnswer t (Err faults.Truncated)) (take_all looked bytes (omega (arith, now, same))) cut))
          | inr long ↦ inr (record { none = gone; looked = looked; many = long.0; half = long.1; within = omega (arith, less, there); cut = cut })
        ];
      }
  waited max bytes (known.Body k) heads (headed, part) cut = record {
    none = body_none max bytes k.len k.message (framing_of k.partial) headed cut;
    pending = inl (body_pending max bytes k.len k.message (framing_of k.partial) headed cut);
  }

module _ {A : Type 0} (HasNoHead : List ℕ → Type 0) (IsAnswer : List ℕ → Result A HttpFault → Type 0) where
  -- as many reads as are allowed did not do
  pub late : (before now : Option (List ℕ)) (bytes : List ℕ) (counter first left : ℕ) → MOST_READS ≤ counter → Consumes before now bytes → IsWaitedFor HasNoHead IsAnswer bytes
      → IfSome before (λ _. (counter + left ≤ first) × ((counter ≡ 0) ⊎ (0 < left))) → (counter ≡ 0) ⊎ (left ≤ 1 → IsAtEnd now)
      → IfSome before (λ w. SettlesMessage HasNoHead IsAnswer w now first left (Err faults.TooLong))
  late None now bytes counter first left many given l pace last = tt
  late (Some w) now bytes counter first left many given l pace last = inr (record {
    passes = (omega (arith, pace.0, many), elim pace.1 [ inl none ↦ omega (arith, none, many) | inr some ↦ some ]);
    none = (bytes, given, l);
    last = elim last [ inl none ↦ absurd (omega (arith, none, many)) | inr end ↦ end ];
  })

  never_late : (bytes : List ℕ) (left : Option (List ℕ)) (before now : ℕ) (message : A) → HoldsMessage IsAnswer bytes message → before ≤ MOST_READS + 1 → IsLate HasNoHead IsAnswer bytes left before now → ⊥
  never_late bytes None before now message holds few l = l.none.1
  never_late bytes (Some rest) before now message holds few l =
      let end : rest ≡ [] = l.last (omega (arith, few, l.passes.0)) in
      let all : bytes ≡ l.none.0 = l.none.1 ∙ ap (λ t. l.none.0 ++ t) end ∙ append-nil l.none.0 in
      l.none.2.none message (subst (λ t. HoldsMessage IsAnswer t message) all holds)

  -- a message that was handed out is not passed over
  pub held_is_read : HeldIsRead HasNoHead IsAnswer
  held_is_read bytes left before now message holds few (inl answer) = answer
  held_is_read bytes left before now message holds few (inr l) = absurd (never_late bytes left before now message holds few l)

  -- a read that failed took nothing
  pub handed_none : (before now after : Option (List ℕ)) (bytes : List ℕ) → Consumes before now bytes → Keeps now after → IsWaitedFor HasNoHead IsAnswer bytes → HandedNone HasNoHead IsAnswer before after
  handed_none None now after bytes given kept l = tt
  handed_none (Some w) now after bytes given kept l = (bytes, Consumes-kept (Some w) now after bytes given kept, l)
