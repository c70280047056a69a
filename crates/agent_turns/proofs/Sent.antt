-- Sent: requests go out one after another. For `send_all`.
use Rattle.std.proofs.Common.{◌≡◌, ◌∙◌, ℕ, ◌<◌, ◌∷◌, [], ◌++◌, List, Option, Some, None, IfSome, OnErr, Result, Ok, Err, append_assoc, arith, inl, length, refl, sym, ap, subst}
use Rattle.vault_asking.specs.Sending.{GoesOut, Lanes}
use Rattle.vault_asking.proofs.InStep.{gone_more}
use Rattle.vault_lanes.specs.Serving.{BehindLanes, BrokerIsLeft}
use Rattle.vault_http.specs.declared.request.Request.{Request}
use Rattle.watch_machine.specs.declared.command.WatchRequest as machine
use Rattle.watch_machine.specs.Clocks.{second_of_wall}
use Rattle.agent_turns.specs.{Stages.HaveGone, Stages.IsKeptBack, code.Firsts.GoesFirst}
use Rattle.agent_turns.specs.Held.{Held, ServingSide, serving_side}

-- and one more
pub gone_on : (port : ℕ) (old mid new : ServingSide) → HaveGone port old mid → GoesFirst port mid new → HaveGone port old new
gone_on port old mid new h one =
    let unsent : mid.held ≡ record old.held { unsent = mid.held.unsent } = h.held in
    let rest = new.held.unsent in
    record {
      sent = h.sent ++ one.request ∷ [];
      parts = h.parts ∙ ap (λ rs. h.sent ++ rs) one.first ∙ sym (append_assoc h.sent (one.request ∷ []) rest);
      out = gone_more port _ _ _ _ h.sent one.request old.lanes mid.lanes new.lanes h.out
          (subst (λ (x : Held). GoesOut port x.agent.inventory x.agent.machine (second_of_wall x.asked.wall) x.asked.elapsed one.request mid.lanes new.lanes) unsent one.out);
      held = one.held ∙ ap (λ (x : Held). record x { unsent = rest }) unsent;
    }

-- where nothing was done, a broker in memory is as it was
pub nothing_left : (t : ℕ) (r : Request) (b : Option BehindLanes) → IfSome b (λ (x : BehindLanes). BrokerIsLeft t r x b)
nothing_left t r None = tt
nothing_left t r (Some x) = (x.table, (inl refl, refl))

pub kept_back : (port : ℕ) (h : Held) (l : Lanes) → 0 < length h.unsent → IsKeptBack port (serving_side h l) (serving_side h l)
kept_back port h l some = by h.unsent refl some where
  by : (unsent : List machine.WatchRequest) → h.unsent ≡ unsent → 0 < length unsent → IsKeptBack port (serving_side h l) (serving_side h l)
  by [] is none = absurd (omega (arith, none))
  by (r ∷ later) is more = record { request = r; later = later; first = is; held = refl; out = refl; seconds = refl; left = nothing_left _ _ l.behind }

pub on_err : {T E : Type 0} (result : Result T E) (P : Type 0) → P → OnErr result P
on_err (Ok x) P p = tt
on_err (Err e) P p = p
