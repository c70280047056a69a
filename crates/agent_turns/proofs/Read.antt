-- Read: the time was handed in. For `read`.
use Rattle.std.proofs.Common.{◌≡◌, ◌∙◌, ℕ, ◌-◌, IfSome, List, [], None, Ok, Option, Some, true, ap, inl, inr, subst, sym}
use Rattle.agent_standing.specs.{Agent.Agent, Shorts.all_said, Shorts.shorts_of, Turns.AgentTurn, declared.shorts.Short.Short}
use Rattle.vault_lanes.specs.declared.lanes.Answered.{Answered}
use Rattle.base_clock.specs.declared.reading.Reading.{Reading}
use Rattle.watch_machine.specs.{declared.command.WatchCommand.WatchCommand, declared.command.WatchCommand.TheVariants.Go, declared.command.WatchOutput.WatchOutput, declared.command.WatchRequest.WatchRequest}
use Rattle.watch_machine.specs.{declared.event.WatchEvent.TheVariants.Clock, declared.outlook.Next.Next}
use Rattle.agent_turns.specs.{Calls.calls_of_readings, Calls.needs_of, Held.Held, Outlook.IsOutlook, Stages.ShortsAreSaid, Stages.TakesReadings}
use Rattle.agent_turns.specs.Neighbours.{Hear, NeighbourCall, Needs, Time, WithCalls}
use Rattle.agent_turns.proofs.Called.{called_twice}

-- what is held once the agent has taken the time
abbrev pub ready : Reading → Held → Agent → List WatchRequest → ℕ → Held
ready r old mid requests until = record { agent = mid; pending = old.pending; unsent = requests; asked = r; until = until - mid.machine.clocks.phase }

pub ready_is :
    (r : Reading) (old : Held) (mid : Agent) (requests : List WatchRequest) (until here : ℕ) (pending : List Answered) (unsent : List WatchRequest) → pending ≡ old.pending → unsent ≡ requests → here ≡ until - mid.machine.clocks.phase →
    record { agent = mid; pending = pending; unsent = unsent; asked = r; until = here } ≡ ready r old mid requests until
ready_is r old mid requests until here pending unsent a b c =
    ap {B = Held} (λ (xs : List Answered). record { agent = mid; pending = xs; unsent = unsent; asked = r; until = here }) a
    ∙ ap {B = Held} (λ (rs : List WatchRequest). record { agent = mid; pending = old.pending; unsent = rs; asked = r; until = here }) b
    ∙ ap {B = Held} (λ (n : ℕ). record { agent = mid; pending = old.pending; unsent = requests; asked = r; until = n }) c

module _ {N : Type 0} (does : NeighbourCall → N → N → Type 0) where
  -- the neighbours hear of the time, and then of what is short
  pub read_whole :
      (r : Reading) (old : Held) (mid : Agent) (requests : List WatchRequest) (until : ℕ) (output : WatchOutput) (next : Option (Option Next)) (between new : Held) (a b c : N) → old.unsent ≡ [] → output.command ≡ Go requests until →
      AgentTurn old.agent (Clock r.wall r.elapsed) (Ok output) mid → IfSome next (IsOutlook mid.machine) → between ≡ ready r old mid requests until → new ≡ record between { agent = new.agent } →
      does (Hear mid (Time output.notes requests next)) a b → ((said : ShortsAreSaid mid new.agent) × does (Hear new.agent (needs_of mid new.agent said)) b c) →
      WithCalls does (TakesReadings r old true new) (calls_of_readings r old true new) a c
  read_whole r old mid requests until output next between new a b c none is turn outlook made rest timed short =
      let all : new ≡ record (ready r old mid requests until) { agent = new.agent } = rest ∙ ap (λ (h : Held). record h { agent = new.agent }) made in
      let unsent : new.unsent ≡ requests = ap (λ (h : Held). h.unsent) all in
      let command : output.command ≡ Go new.unsent until = is ∙ ap (λ (rs : List WatchRequest). Go rs until) (sym unsent) in
      record {
        is = record {
          none = none;
          until = until;
          notes = output.notes;
          mid = mid;
          turn = subst (λ (k : WatchCommand). AgentTurn old.agent (Clock r.wall r.elapsed) (Ok (record { command = k; notes = output.notes })) mid) command turn;
          next = next;
          outlook = outlook;
          said = short.0;
          held = all ∙ ap (λ (rs : List WatchRequest). record { agent = new.agent; pending = old.pending; unsent = rs; asked = r; until = until - mid.machine.clocks.phase }) (sym unsent);
        };
        called = called_twice does (Hear mid (Time output.notes new.unsent next)) (Hear new.agent (needs_of mid new.agent short.0)) a b c
            (subst (λ (rs : List WatchRequest). does (Hear mid (Time output.notes rs next)) a b) (sym unsent) timed) short.1;
      }

  -- what is short was said, or memory was wanting for it
  pub said_so : (old new : Agent) (shorts : List Short) (a b : N) → new ≡ all_said old → shorts ≡ shorts_of old → does (Hear new (Needs (Some shorts))) a b → (said : ShortsAreSaid old new) × does (Hear new (needs_of old new said)) a b
  said_so old new shorts a b said is hears = (inr said, subst (λ xs. does (Hear new (Needs (Some xs))) a b) is hears)

  pub said_not : (old new : Agent) (a b : N) → new ≡ old → does (Hear new (Needs None)) a b → (said : ShortsAreSaid old new) × does (Hear new (needs_of old new said)) a b
  said_not old new a b same hears = (inl same, hears)
