-- What is heard of a reply, piece by piece: for `Course` and `read_on`.
use Rattle.std.proofs.Common.{◌≡◌, ℕ, ◌++◌, Bool, true, false, List, [], append_assoc, refl, ap, subst, sym, ◌∙◌, Option, None, Some, IfSome, Result, Ok, Err, IfOk, nat_lt, if◌then◌else◌}
use Rattle.std.proofs.lemmas.Bool.{false≢true}
use Rattle.std.specs.Io.KnownBytes.{Consumes, Keeps}
use Rattle.std.proofs.KnownBytes.{Consumes-trans}
use Rattle.vault_lanes.specs.{Failing.AreCut, Losses.Answer, Losses.loss_of, Allowed.deadline, Stages.failed, Stages.waits, declared.allowance.Allowance.Allowance, declared.loss.Loss.Loss, declared.reason.ConnectReason.ConnectReason}
use Rattle.vault_lanes.specs.{declared.stage.RequestStage.RequestStage}
use Rattle.vault_lanes.specs.Lanes.{Came, IsToldBy, NothingFollowsEnd, ReplyIsHeard, TellsAnswer, to_come}
use Rattle.vault_lanes.specs.declared.stage.RequestStage.TheVariants.{Connecting, Sending, Silent, Coming}
use Rattle.vault_lanes.specs.declared.loss.Loss.TheVariants as losses
use Rattle.vault_http.specs.{Dates.IsDatedReply, declared.http_fault.HttpFault.HttpFault, declared.known.TheConstants.MOST_MESSAGE}

-- what stands whatever follows what has come stands of all the bytes
whole : (P : List ℕ → Type 0) (old came : List ℕ) (ended : Bool) (before left : Option (List ℕ)) → Consumes before (to_come ended left) came
    → ((more : List ℕ) → NothingFollowsEnd ended more → P ((old ++ came) ++ more)) → IfSome before (λ bytes. P (old ++ bytes))
whole P old came ended None left first h = tt
whole P old came true (Some bytes) None first h = absurd first
whole P old came true (Some bytes) (Some rest) first h = subst P (append_assoc old came [] ∙ ap (λ t. old ++ t) (sym first)) (h [] (λ e. refl))
whole P old came false (Some bytes) None first h = absurd first
whole P old came false (Some bytes) (Some rest) first h = subst P (append_assoc old came rest ∙ ap (λ t. old ++ t) (sym first)) (h rest (λ e. absurd (false≢true e)))

-- an answer that what has come tells
pub heard_answer : (old held : List ℕ) (ended : Bool) (before left : Option (List ℕ)) (a : Answer) (new : List ℕ) → Came old held before (to_come ended left) → IsToldBy held ended a
    → ReplyIsHeard old (Some a) new before (to_come ended left)
heard_answer old held ended before left a new h told = record {
  came = h.came;
  consumed = h.consumed;
  tells = by_answer a (subst (λ l. IsToldBy l ended a) h.kept told);
}
  where
    by_answer : (a : Answer) → IsToldBy (old ++ h.came) ended a → TellsAnswer old h.came before (Some a) new
    by_answer (Ok dated) t = whole (λ bytes. IsDatedReply MOST_MESSAGE bytes (Ok dated)) old h.came ended before left h.consumed t
    by_answer (Err losses.Reply) (fault, (e, t)) = with_fault before fault e (whole (λ bytes. IsDatedReply MOST_MESSAGE bytes (Err fault)) old h.came ended before left h.consumed t)
      where
        with_fault : (b : Option (List ℕ)) (fault : HttpFault) → loss_of fault ≡ losses.Reply → IfSome b (λ bytes. IsDatedReply MOST_MESSAGE (old ++ bytes) (Err fault))
            → IfSome b (λ bytes. (f : HttpFault) × ((loss_of f ≡ losses.Reply) × IsDatedReply MOST_MESSAGE (old ++ bytes) (Err f)))
        with_fault None fault e h = tt
        with_fault (Some bytes) fault e h = (fault, (e, h))
    by_answer (Err (losses.Connect reason)) t = tt
    by_answer (Err losses.Timeout) t = tt
    by_answer (Err losses.Closed) t = tt
    by_answer (Err (losses.Status status)) t = tt

-- a reply that is cut
pub cut_answer : (old held : List ℕ) (ended : Bool) (before left : Option (List ℕ)) → Came old held before (to_come ended left) → IsToldBy held ended (Err losses.Closed) → AreCut old before
cut_answer old held ended before left h told =
    let here : IsToldBy (old ++ h.came) ended (Err losses.Closed) = subst (λ l. IsToldBy l ended (Err losses.Closed)) h.kept told in
    with_fault before here.0 here.1.0 (whole (λ bytes. IsDatedReply MOST_MESSAGE bytes (Err here.0)) old h.came ended before left h.consumed here.1.1)
  where
    with_fault : (b : Option (List ℕ)) (fault : HttpFault) → loss_of fault ≡ losses.Closed → IfSome b (λ bytes. IsDatedReply MOST_MESSAGE (old ++ bytes) (Err fault)) → AreCut old b
    with_fault None fault e h = tt
    with_fault (Some bytes) fault e h = (fault, (e, h))

-- ---- what came since

pub came_then : (old mid new : List ℕ) (before between now : Option (List ℕ)) → Came old mid before between → Came mid new between now → Came old new before now
came_then old mid new before between now h k = record {
  came = h.came ++ k.came;
  consumed = Consumes-trans before between now h.came k.came h.consumed k.consumed;
  kept = k.kept ∙ ap (λ l. l ++ k.came) h.kept ∙ append_assoc old h.came k.came;
}

pub came_as : (old mid new : List ℕ) (before now : Option (List ℕ)) → new ≡ mid → Came old mid before now → Came old new before now
came_as old mid new before now same h = subst (λ l. Came old l before now) (sym same) h

-- without an answer it is held; and so it is where the time is over, or the connection has failed
pub heard_none : (old new : List ℕ) (before now : Option (List ℕ)) → Came old new before now → ReplyIsHeard old None new before now
heard_none old new before now h = record { came = h.came; consumed = h.consumed; tells = h.kept }

heard_lost : (loss : Loss) (old new : List ℕ) (before now : Option (List ℕ)) → (loss ≡ losses.Reply → ⊥) → Came old new before now → ReplyIsHeard old (Some (Err loss)) new before now
heard_lost loss old new before now never h = record { came = h.came; consumed = h.consumed; tells = by_loss loss never }
  where
    by_loss : (loss : Loss) → (loss ≡ losses.Reply → ⊥) → TellsAnswer old h.came before (Some (Err loss)) new
    by_loss (losses.Connect reason) never = tt
    by_loss losses.Timeout never = tt
    by_loss losses.Closed never = tt
    by_loss losses.Reply never = absurd (never refl)
    by_loss (losses.Status status) never = tt

pub heard_late : (loss : Loss) (a : Allowance) (moment : ℕ) (stage : RequestStage) (old new : List ℕ) (before now : Option (List ℕ)) → Err loss ≡ waits a moment stage → Came old new before now
    → ReplyIsHeard old (Some (Err loss)) new before now
heard_late loss a moment stage old new before now is h = heard_lost loss old new before now (by_test (nat_lt moment (deadline a stage)) is) h
  where
    by_test : (b : Bool) → Err loss ≡ (if b then Ok (tt {0}) else Err losses.Timeout) → loss ≡ losses.Reply → ⊥
    by_test true e same = cc
    by_test false e same = cc

pub heard_failed : (loss : Loss) (why : ConnectReason) (stage : RequestStage) (old new : List ℕ) (before now : Option (List ℕ)) → loss ≡ failed why stage → Came old new before now
    → ReplyIsHeard old (Some (Err loss)) new before now
heard_failed loss why stage old new before now is h = heard_lost loss old new before now (by_stage stage is) h
  where
    by_stage : (stage : RequestStage) → loss ≡ failed why stage → loss ≡ losses.Reply → ⊥
    by_stage Connecting e same = cc
    by_stage Sending e same = cc
    by_stage Silent e same = cc
    by_stage (Coming reads since) e same = cc

-- ---- where it was written on before

pub keep_heard : (a : Option Answer) (old new : List ℕ) (before between now : Option (List ℕ)) → Keeps before between → ReplyIsHeard old a new between now → ReplyIsHeard old a new before now
keep_heard a old new None between now keeps h = record { came = h.came; consumed = tt; tells = unknown a h.tells }
  where
    unknown : (a : Option Answer) → TellsAnswer old h.came between a new → TellsAnswer old h.came None a new
    unknown None t = t
    unknown (Some (Ok dated)) t = tt
    unknown (Some (Err losses.Reply)) t = tt
    unknown (Some (Err (losses.Connect reason))) t = tt
    unknown (Some (Err losses.Timeout)) t = tt
    unknown (Some (Err losses.Closed)) t = tt
    unknown (Some (Err (losses.Status status))) t = tt
keep_heard a old new (Some bytes) None now keeps h = absurd keeps
keep_heard a old new (Some bytes) (Some rest) now keeps h = subst (λ b. ReplyIsHeard old a new (Some b) now) keeps h

pub heard_from : {E : Type 0} (r : Result (Option Answer) E) (old mid new : List ℕ) (before between now : Option (List ℕ)) → mid ≡ old → Keeps before between → IfOk r (λ a. ReplyIsHeard mid a new between now)
    → IfOk r (λ a. ReplyIsHeard old a new before now)
heard_from (Ok a) old mid new before between now same keeps h = keep_heard a old new before between now keeps (subst (λ l. ReplyIsHeard l a new between now) same h)
heard_from (Err e) old mid new before between now same keeps h = tt
