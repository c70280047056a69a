-- Truly: where something is settled, whoever is told `ok` has asked for it, and it is done. For `whoever_is_told_ok_has_it`.
use Rattle.std.proofs.Common.{◌≡◌, ◌∙◌, ◌⊎◌, ℕ, Bool, true, false, ◌&&◌, inl, inr, List, [], ◌++◌, Option, Some, None, Result, ap, arith, codes, refl, slice_get, slice_index, slice_set, subst, sym}
use Rattle.std.specs.List.{position}
use Rattle.agent_standing.specs.Agent.{Agent}
use Rattle.agent_answers.specs.{Controlling.AnswersAsking, declared.asked.ClientOrder.ClientOrder, declared.control.Control.Control}
use Rattle.state_changes.specs.declared.row.Row.{Row}
use Rattle.base_clients.specs.{declared.guest.Guest.Guest, declared.stage.GuestStage.GuestStage}
use Rattle.base_clients.specs.Tables.{AnswersGuest, BecomesAt, GuestTable, guest_answered, waits_as}
use Rattle.base_clients.specs.declared.stage.GuestStage.TheVariants as stages
use Rattle.agent_ledger.specs.Keeping.{KeepCall}
use Rattle.agent_words.specs.Outcomes.{Why}
use Rattle.agent_house.specs.{Admitting.asking_in, Commands.SettlesBy, Commands.is_served, Doing.HearsServedIf, Doing.SettlesChange, declared.given.Given.Given, declared.house.House.House}
use Rattle.agent_house.specs.Houses.{ClientIsAnswered, IsAnsweredAside, bytes_sent}
use Rattle.agent_house.specs.declared.given.Given.TheVariants as givens
use Rattle.agent_laws.specs.Acknowledged.{HasOk, WasThere, answer_in, guests_in}
use Rattle.agent_laws.proofs.Admitted.{set_back, waits_number}
use Rattle.agent_laws.proofs.Owed.{IsOwed, IsTold, Owes}

-- ---- who is told

abbrev the : {X : Type 0} → X → Option X → X
the d None = d
the d (Some x) = x

sent_says : (answer more : List ℕ) (s : GuestStage) → s ≡ stages.Answering answer → answer_in s ≡ Some (codes "ok" ++ more) → answer ≡ codes "ok" ++ more
sent_says answer more s is says = ap (the []) (sym (ap answer_in is) ∙ says)

module _ {T : Type 0} where
  -- it is as it was, or this is so
  abbrev pub WasOr : (xs ys : List (Guest T)) → HasOk ys → (Guest T → Type 0) → Type 0
  WasOr xs ys ok IsSo = WasThere xs ok.place ok.client (λ before. (ok.client ≡ before) ⊎ IsSo before)

  was_same : (xs ys : List (Guest T)) (ok : HasOk ys) (IsSo : Guest T → Type 0) → ys ≡ xs → WasOr xs ys ok IsSo
  was_same xs ys ok IsSo same = record { before = ok.client; was = ap (λ (l : List (Guest T)). slice_get l ok.place) (sym same) ∙ ok.there; same = refl; so = inl refl }

  was_more : (xs ys : List (Guest T)) (ok : HasOk ys) (P Q : Guest T → Type 0) → ((before : Guest T) → P before → Q before) → WasOr xs ys ok P → WasOr xs ys ok Q
  was_more xs ys ok P Q more it = record { before = it.before; was = it.was; same = it.same; so = elim it.so [ inl same ↦ inl same | inr so ↦ inr (more it.before so) ] }

  -- the one that waits under this number is sent this
  abbrev IsSent : List ℕ → List ℕ → ℕ → Guest T → Type 0
  IsSent answer more id before = (answer ≡ codes "ok" ++ more) × (before.id ≡ id)

  module _ {F : Type 0} (id now : ℕ) (answer : List ℕ) (given : Bool) (old new : GuestTable T F) (ok : HasOk new.guests) where
    told_one : (i : ℕ) (g : Guest T) → position (waits_as id) old.guests ≡ Some i → slice_get old.guests i ≡ Some g → new.guests ≡ slice_set old.guests i (guest_answered now answer g) → WasOr old.guests new.guests ok (IsSent answer ok.more id)
    told_one i g at here is =
        let back = set_back old.guests i ok.place g (guest_answered now answer g) ok.client here (ap (λ (l : List (Guest T)). slice_get l ok.place) (sym is) ∙ ok.there) in
        elim back.1.1 [
          | inl it ↦ record {
            before = back.0;
            was = back.1.0;
            same = ap (λ (n : Guest T). n.id) it.0 ∙ sym (ap (λ (n : Guest T). n.id) it.1);
            so = inr (sent_says answer ok.more ok.client.stage (ap (λ (n : Guest T). n.stage) it.1) ok.says, ap (λ (n : Guest T). n.id) it.0 ∙ waits_number id old.guests i g at here);
          }
          | inr same ↦ record { before = back.0; was = back.1.0; same = ap (λ (n : Guest T). n.id) (sym same); so = inl same }
        ]

    told_at : (place : Option ℕ) → position (waits_as id) old.guests ≡ place → BecomesAt place (guest_answered now answer) given old new → WasOr old.guests new.guests ok (IsSent answer ok.more id)
    told_at None at h = was_same old.guests new.guests ok (IsSent answer ok.more id) (ap (λ (t : GuestTable T F). t.guests) h.1)
    told_at (Some i) at h = told_one i h.1.0 at h.1.1.0 (ap (λ (t : GuestTable T F). t.guests) h.1.1.1)

    pub told_guest : AnswersGuest id now answer given old new → WasOr old.guests new.guests ok (IsSent answer ok.more id)
    told_guest h = told_at (position (waits_as id) old.guests) refl h

module _ {T : Type 0} (answer : List ℕ) where
  abbrev pub IsSentTo : Option ℕ → List ℕ → Guest T → Type 0
  IsSentTo who more before = (answer ≡ codes "ok" ++ more) × (who ≡ Some before.id)

  numbered : (id : ℕ) (more : List ℕ) (before : Guest T) → IsSent answer more id before → IsSentTo (Some id) more before
  numbered id more before it = (it.0, ap Some (sym it.1))

-- the client that is answered is the one that asks
module _ {T D : Type 0} (answer : List ℕ) (now : ℕ) where
  told_asking : (asking : Option ℕ) (old new : Control T D) (ok : HasOk new.clients.guests) → AnswersAsking asking answer now old new → WasOr old.clients.guests new.clients.guests ok (IsSentTo answer asking ok.more)
  told_asking None old new ok h = was_same old.clients.guests new.clients.guests ok (IsSentTo answer None ok.more) (ap (λ (c : Control T D). c.clients.guests) h)
  told_asking (Some id) old new ok h = was_more old.clients.guests new.clients.guests ok _ _ (numbered answer id ok.more) (told_guest id now answer h.0 old.clients new.clients ok h.1.0)

  pub told_client : (old new : Option (Control T D)) (ok : HasOk (guests_in new)) → ClientIsAnswered answer now old new → WasOr (guests_in old) (guests_in new) ok (IsSentTo answer (asking_in old) ok.more)
  told_client None new ok h = was_same [] (guests_in new) ok (IsSentTo answer None ok.more) (ap guests_in h)
  told_client (Some old) None ok h = absurd h
  told_client (Some old) (Some new) ok h = told_asking old.asking old new ok h

  -- or the one that was set aside
  pub told_aside : (client : Option ℕ) (old new : Option (Control T D)) (ok : HasOk (guests_in new)) → IsAnsweredAside client answer now old new → WasOr (guests_in old) (guests_in new) ok (IsSentTo answer client ok.more)
  told_aside None old new ok h = was_same (guests_in old) (guests_in new) ok (IsSentTo answer None ok.more) (ap guests_in h)
  told_aside (Some id) None new ok h = was_same [] (guests_in new) ok (IsSentTo answer (Some id) ok.more) (ap guests_in h)
  told_aside (Some id) (Some old) None ok h = absurd h
  told_aside (Some id) (Some old) (Some new) ok h = was_more old.clients.guests new.clients.guests ok _ _ (numbered answer id ok.more) (told_guest id now answer h.0 old.clients new.clients ok h.1.0)

-- ---- something is settled

not_sent : (more : List ℕ) → [] ≡ codes "ok" ++ more → ⊥
not_sent more is = absurd (let first : 0 ≡ 111 = ap (λ (l : List ℕ). slice_index l 0) is in omega (arith, first))

-- what is told, and what is left
record Tells {S T D K E : Type 0} (Told : Option ℕ → Option K → Type 0) (old new : House S T D K E) : Type 0 where
  told : (ok : HasOk (guests_in new.control)) → WasOr (guests_in old.control) (guests_in new.control) ok (λ before. Told (Some before.id) new.state)
  given : new.given ≡ old.given
  awaited : new.awaited ≡ old.awaited

module _ {S T D K E : Type 0} (does : KeepCall → K → K → Type 0) (keeps : K → Bool) (reads : K → List ℕ → Result Row Why → Type 0) (Done : ClientOrder → Option K → Type 0) (has : ℕ → ClientOrder → Type 0) (agent : Agent) where
  -- the clients are as they were
  same_tells : (old new : House S T D K E) → new.control ≡ old.control → new.given ≡ old.given → new.awaited ≡ old.awaited → Tells (IsTold Done has) old new
  same_tells old new control given awaited = record { told = λ ok. was_same (guests_in old.control) (guests_in new.control) ok _ (ap guests_in control); given = given; awaited = awaited }

  -- a client is sent this
  sent_tells : (answer : List ℕ) (now : ℕ) (who : Option ℕ) (old new : House S T D K E)
      → ((ok : HasOk (guests_in new.control)) → WasOr (guests_in old.control) (guests_in new.control) ok (IsSentTo answer who ok.more)) → ((more : List ℕ) → answer ≡ codes "ok" ++ more → IsTold Done has who old.state)
      → new.state ≡ old.state → new.given ≡ old.given → new.awaited ≡ old.awaited → Tells (IsTold Done has) old new
  sent_tells answer now who old new told owed state given awaited = record {
    told = λ ok. was_more (guests_in old.control) (guests_in new.control) ok (IsSentTo answer who ok.more) _
        (λ before it. subst (λ (s : Option K). IsTold Done has (Some before.id) s) (sym state) (subst (λ (w : Option ℕ). IsTold Done has w old.state) it.1 (owed ok.more it.0))) (told ok);
    given = given;
    awaited = awaited;
  }

  -- nothing is sent
  closed_tells : (now : ℕ) (who : Option ℕ) (old new : House S T D K E) → ((ok : HasOk (guests_in new.control)) → WasOr (guests_in old.control) (guests_in new.control) ok (IsSentTo [] who ok.more))
      → new.given ≡ old.given → new.awaited ≡ old.awaited → Tells (IsTold Done has) old new
  closed_tells now who old new told given awaited = record {
    told = λ ok. was_more (guests_in old.control) (guests_in new.control) ok (IsSentTo [] who ok.more) _ (λ before it. absurd (not_sent ok.more it.0)) (told ok);
    given = given;
    awaited = awaited;
  }

  settled_by : (is_made : Bool) (given : Option Given) (old new : House S T D K E) → IsOwed Done has (asking_in old.control) old.state given → SettlesBy does keeps agent is_made given old new → Tells (IsTold Done has) old new
  settled_by is_made None old new owed h = same_tells old new (ap (λ y. y.control) h) (ap (λ y. y.given) h) (ap (λ y. y.awaited) h)
  settled_by true (Some (givens.Need need)) old new owed h =
      let rest = h.sends.rest in
      sent_tells (bytes_sent h.sent) need.at (asking_in old.control) old new (λ ok. told_client (bytes_sent h.sent) need.at old.control new.control ok h.sends.client) (λ more is. owed) (ap (λ y. y.state) rest) (ap (λ y. y.given) rest) (ap (λ y. y.awaited) rest)
  settled_by false (Some (givens.Need need)) old new owed h =
      closed_tells need.at (asking_in old.control) old new (λ ok. told_client [] need.at old.control new.control ok h.0) (ap (λ y. y.given) h.1) (ap (λ y. y.awaited) h.1)
  settled_by true (Some (givens.Answer sent at)) old new owed h =
      sent_tells (bytes_sent sent) at (asking_in old.control) old new (λ ok. told_client (bytes_sent sent) at old.control new.control ok h.client) (λ more is. owed (more, is)) (ap (λ y. y.state) h.rest) (ap (λ y. y.given) h.rest) (ap (λ y. y.awaited) h.rest)
  settled_by false (Some (givens.Answer sent at)) old new owed h =
      closed_tells at (asking_in old.control) old new (λ ok. told_client [] at old.control new.control ok h.0) (ap (λ y. y.given) h.1) (ap (λ y. y.awaited) h.1)
  settled_by true (Some (givens.Aside aside)) old new owed h =
      sent_tells (bytes_sent aside.sent) aside.at aside.client old new (λ ok. told_aside (bytes_sent aside.sent) aside.at aside.client old.control new.control ok h.answered) (λ more is. owed (more, is)) (ap (λ y. y.state) h.rest) (ap (λ y. y.given) h.rest) (ap (λ y. y.awaited) h.rest)
  settled_by false (Some (givens.Aside aside)) old new owed h =
      closed_tells aside.at aside.client old new (λ ok. told_aside [] aside.at aside.client old.control new.control ok h.0) (ap (λ y. y.given) h.1) (ap (λ y. y.awaited) h.1)
  settled_by true (Some (givens.Served marks)) old new owed h = same_tells old new (ap (λ y. y.control) h.1) (ap (λ y. y.given) h.1) (ap (λ y. y.awaited) h.1)
  settled_by true (Some givens.Unchanged) old new owed h = same_tells old new (ap (λ y. y.control) h.1) (ap (λ y. y.given) h.1) (ap (λ y. y.awaited) h.1)
  settled_by false (Some _) old new owed h = same_tells old new (ap (λ y. y.control) h) (ap (λ y. y.given) h) (ap (λ y. y.awaited) h)

  -- before it the ends are to be kept anew at most
  record IsServedNow (old new : House S T D K E) : Type 0 where
    control : new.control ≡ old.control
    state : new.state ≡ old.state
    given : new.given ≡ old.given
    awaited : new.awaited ≡ old.awaited

  served : (is : Bool) (old new : House S T D K E) → HearsServedIf is old new → IsServedNow old new
  served true old new h = record { control = ap (λ y. y.control) h; state = ap (λ y. y.state) h; given = ap (λ y. y.given) h; awaited = ap (λ y. y.awaited) h }
  served false old new h = record { control = ap (λ y. y.control) h; state = ap (λ y. y.state) h; given = ap (λ y. y.given) h; awaited = ap (λ y. y.awaited) h }

  module _ (is_made : Bool) (old new : House S T D K E) (owes : Owes reads Done has old) (h : SettlesChange does keeps agent is_made old new) where
    heard : IsServedNow old h.heard
    heard = served (is_made && is_served old.given) old h.heard h.served

    owed_then : IsOwed Done has (asking_in h.heard.control) h.heard.state h.heard.given
    owed_then =
        let it = owes.given in
        subst (λ (g : Option Given). IsOwed Done has (asking_in h.heard.control) h.heard.state g) (sym heard.given)
        (subst (λ (s : Option K). IsOwed Done has (asking_in h.heard.control) s old.given) (sym heard.state) (subst (λ (c : Option (Control T D)). IsOwed Done has (asking_in c) old.state old.given) (sym heard.control) it))

    all : Tells (IsTold Done has) (record h.heard { given = None }) h.settled
    all = settled_by is_made h.heard.given (record h.heard { given = None }) h.settled owed_then h.settles

    pub none_then : new.given ≡ None
    none_then = ap (λ y. y.given) h.rest ∙ all.given

    pub awaited_then : new.awaited ≡ old.awaited
    awaited_then = ap (λ y. y.awaited) h.rest ∙ all.awaited ∙ heard.awaited

    abbrev Truly : List (Guest T) → House S T D K E → Type 0
    Truly xs n = (ok : HasOk (guests_in n.control)) → WasOr xs (guests_in n.control) ok (λ before. IsTold Done has (Some before.id) n.state)

    told_settled : Truly (guests_in old.control) h.settled
    told_settled = subst (λ (c : Option (Control T D)). Truly (guests_in c) h.settled) heard.control all.told

    told_then : Truly (guests_in old.control) new
    told_then = subst (Truly (guests_in old.control)) (sym h.rest) told_settled

    pub told_truly : (ok : HasOk (guests_in new.control)) → WasOr (guests_in old.control) (guests_in new.control) ok (λ before. (a : ClientOrder) × (has before.id a × Done a new.state))
    told_truly ok = was_more (guests_in old.control) (guests_in new.control) ok _ _ (λ before told. told before.id refl) (told_then ok)
