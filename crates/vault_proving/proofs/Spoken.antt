-- Spoken: what a verdict says by the status of the broker's reply. For the law that a verdict is the broker's.
use Rattle.std.proofs.Common.{◌≡◌, ◌∙◌, ℕ, ◌==◌, Bool, true, false, cond, List, Option, Result, Ok, Err, ap, inl, inr, refl, subst, sym}
use Rattle.std.proofs.lemmas.Bool.{cases_Bool, cond-false, cond-true, eqb-true}
use Rattle.vault_asking.specs.Told.{end_told, is_of_another, loss_in, lookup_reply, lookup_terms, no_terms, terms_told}
use Rattle.vault_exchange.specs.Heard as exchanged
use Rattle.vault_exchange.specs.declared.heard.Heard as exchange
use Rattle.vault_exchange.specs.declared.heard.Heard.TheVariants as replied
use Rattle.vault_exchange.specs.{declared.heard.ToldTerms.ToldTerms, Lookups.lookup_in}
use Rattle.vault_inventory.specs.{Inventories.Inventory, Lookup.lookup_fault}
use Rattle.vault_lanes.specs.{Heard.heard_with, Losses.lost_by, declared.heard.HeardAnswer.HeardAnswer, declared.loss.Loss.Loss}
use Rattle.vault_lanes.specs.declared.heard.HeardAnswer.TheVariants as heard
use Rattle.vault_lanes.specs.declared.loss.Loss.TheVariants as losses
use Rattle.plan_forest.specs.{Forest.entry_at, declared.entry.Kind.Kind}
use Rattle.plan_forest.specs.declared.entry.Kind.TheVariants.{Token, Lease}
use Rattle.vault_http.specs.declared.dated_reply.DatedReply.{DatedReply}
use Rattle.vault_json.specs.{declared.fault.ReplyFault.ReplyFault, declared.lookup.Lookup.Lookup}
use Rattle.vault_json.specs.declared.lookup.Lookup.TheVariants as lookups
use Rattle.watch_machine.specs.declared.event.WatchReply.TheVariants as replies
use Rattle.vault_proving.specs.{Verdicts.verdict_by, declared.verdict.Verdict.Verdict}
use Rattle.vault_proving.specs.Laws.{IsToldVerdict, LostLaw, OtherStatusLaw, ToldVerdictLaw, is_refusal}
use Rattle.vault_proving.specs.declared.verdict.Verdict.TheVariants.{Refused, Missing}

-- by what was heard
abbrev verdict_heard : Inventory → ℕ → HeardAnswer ToldTerms → Verdict
verdict_heard s i h = verdict_by (lookup_reply s i h) (lookup_terms s i h).endless (loss_in h)

refused_is : (s : Inventory) (i status : ℕ) (date : Option ℕ) → verdict_heard s i (heard.Refused status date) ≡ Refused status
unfolding lookup_reply lookup_terms
refused_is s i status date = refl

busy_is : (s : Inventory) (i : ℕ) → verdict_heard s i heard.Busy ≡ Missing (losses.Status 429)
unfolding lookup_reply lookup_terms
busy_is s i = refl

lost_is : (s : Inventory) (i : ℕ) (why : Loss) → verdict_heard s i (heard.Lost why) ≡ Missing why
unfolding lookup_reply lookup_terms
lost_is s i why = refl

-- ---- another status than 200

-- what such a reply comes to
abbrev Other : Inventory → ℕ → ℕ → exchange.Heard ToldTerms → Type 0
Other s i status h = verdict_heard s i (heard_with (lost_by status) h) ≡ cond (is_refusal status) (Refused status) (Missing (losses.Status status))

other : (s : Inventory) (i status : ℕ) (date : Option ℕ) → (status == 200) ≡ false → Other s i status (exchanged.refused_by_status status date)
other s i status date not = elim (cases_Bool (is_refusal status)) [
  | inl refuses ↦
      subst (λ h. Other s i status h) (sym (cond-true (is_refusal status) (replied.Refused status date) (cond (status == 429) replied.Busy replied.Lost) refuses))
      (refused_is s i status date ∙ sym (cond-true (is_refusal status) (Refused status) (Missing (losses.Status status)) refuses))
  | inr silent ↦
      subst (λ h. Other s i status h) (sym (cond-false (is_refusal status) (replied.Refused status date) (cond (status == 429) replied.Busy replied.Lost) silent))
      (subst (λ v. verdict_heard s i (heard_with (lost_by status) (cond (status == 429) replied.Busy replied.Lost)) ≡ v) (sym (cond-false (is_refusal status) (Refused status) (Missing (losses.Status status)) silent))
      (elim (cases_Bool (status == 429)) [
        | inl busy ↦
            subst (λ h. verdict_heard s i (heard_with (lost_by status) h) ≡ Missing (losses.Status status)) (sym (cond-true (status == 429) replied.Busy replied.Lost busy))
            (busy_is s i ∙ ap (λ n. Missing (losses.Status n)) (sym (eqb-true status 429 busy)))
        | inr quiet ↦
            subst (λ h. verdict_heard s i (heard_with (lost_by status) h) ≡ Missing (losses.Status status)) (sym (cond-false (status == 429) replied.Busy replied.Lost quiet))
            (lost_is s i (lost_by status) ∙ ap Missing (cond-false (status == 200) losses.Reply (losses.Status status) not))
      ]))
]

of_other : (kind : Kind) (d : DatedReply) → (d.reply.status == 200) ≡ false → exchanged.looked_up_by_reply kind d ≡ exchanged.refused_by_status d.reply.status d.date
unfolding exchanged.looked_up_by_reply
of_other kind d not = cond-false (d.reply.status == 200) (exchanged.told_with_date d.date (exchanged.looked_in kind d.reply.body)) (exchanged.refused_by_status d.reply.status d.date) not

pub other_status : OtherStatusLaw
other_status c d not =
    let kind = (entry_at c.inventory.forest.entries c.entry).kind in
    subst (λ h. Other c.inventory c.entry d.reply.status h) (sym (of_other kind d not)) (other c.inventory c.entry d.reply.status d.date not)

pub lost : LostLaw
lost c loss = lost_is c.inventory c.entry loss

-- ---- status 200

end_is : (kind : Kind) (look : Lookup) (date : Option ℕ) (endless : Bool) (loss : Loss) → (endless ≡ true → kind ≡ Token) → IsToldVerdict kind (verdict_by (end_told look date) endless loss)
end_is kind (lookups.Token ttl created explicit_max orphan renewable period) date true loss h = h refl
end_is kind (lookups.Token ttl created explicit_max orphan renewable period) date false loss h = tt
end_is kind (lookups.Lease id issued renewable ttl) date true loss h = h refl
end_is kind (lookups.Lease id issued renewable ttl) date false loss h = tt

-- one that is said of another, or of the entry
said_of : (kind : Kind) (s : Inventory) (i : ℕ) (said : ToldTerms) (date : Option ℕ) (other : Bool) → (said.never_ends ≡ true → kind ≡ Token) →
    IsToldVerdict kind (verdict_by (cond other replies.Lost (end_told said.lookup date)) (cond other no_terms (terms_told s i said)).endless losses.Reply)
said_of kind s i said date true h = refl
said_of kind s i said date false h = end_is kind said.lookup date said.never_ends losses.Reply h

told_is : (kind : Kind) (s : Inventory) (i : ℕ) (said : ToldTerms) (date : Option ℕ) → (said.never_ends ≡ true → kind ≡ Token) → IsToldVerdict kind (verdict_heard s i (heard.Told said date))
unfolding lookup_reply lookup_terms
told_is kind s i said date h = said_of kind s i said date (is_of_another (lookup_fault s i said.lookup)) h

-- a lease never tells that it has no end
endless_token : (kind : Kind) (body : List ℕ) → exchanged.has_no_end kind body ≡ true → kind ≡ Token
endless_token Token body h = refl
endless_token Lease body h = absurd cc

-- one that can be read, or not
read_is : (kind : Kind) (s : Inventory) (i : ℕ) (date : Option ℕ) (body : List ℕ) (read : Result Lookup ReplyFault) →
    IsToldVerdict kind (verdict_heard s i (heard_with losses.Reply (exchanged.told_with_date date (exchanged.looked_of (exchanged.has_no_end kind body) read))))
read_is kind s i date body (Ok look) = told_is kind s i (record { lookup = look; never_ends = exchanged.has_no_end kind body }) date (endless_token kind body)
read_is kind s i date body (Err fault) = subst (λ v. IsToldVerdict kind v) (sym (lost_is s i losses.Reply)) refl

of_ok : (kind : Kind) (d : DatedReply) → (d.reply.status == 200) ≡ true → exchanged.looked_up_by_reply kind d ≡ exchanged.told_with_date d.date (exchanged.looked_in kind d.reply.body)
unfolding exchanged.looked_up_by_reply
of_ok kind d ok = cond-true (d.reply.status == 200) (exchanged.told_with_date d.date (exchanged.looked_in kind d.reply.body)) (exchanged.refused_by_status d.reply.status d.date) ok

pub told : ToldVerdictLaw
told c d ok =
    let kind = (entry_at c.inventory.forest.entries c.entry).kind in
    let reply = exchanged.told_with_date d.date (exchanged.looked_in kind d.reply.body) in
    subst (λ h. IsToldVerdict kind (verdict_heard c.inventory c.entry (heard_with (lost_by d.reply.status) h))) (sym (of_ok kind d ok))
    (subst (λ why. IsToldVerdict kind (verdict_heard c.inventory c.entry (heard_with why reply))) (sym (cond-true (d.reply.status == 200) losses.Reply (losses.Status d.reply.status) ok))
    (read_is kind c.inventory c.entry d.date d.reply.body (lookup_in kind d.reply.body)))
