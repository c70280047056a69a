-- LiveListening: a live run that was opened and then listened, and what it tells of its end: for `live` and `run_live`.
use Rattle.std.proofs.Common.{◌≡◌, ℕ, inl, inr, Bool, List, ◌++◌, Option, Result, Ok, Err, ◌+◌, length, min, refl, sym, subst, take, ◌==◌, ◌≤◌, ◌∙◌, ap, arith, length-append, IsTrue}
use Rattle.std.specs.{Result.IsErr, Result.IsErrAnd, List.count_by}
use Rattle.std.proofs.lemmas.{List.length-take, List.Splits.length-slice_split, List.Sums.count_by-le-length}
use Rattle.base_device.specs.Seen.{Change, Seen, change}
use Rattle.tick_keeper.specs.State.{CoreState}
use Rattle.vault_exchange.specs.Exchanges.{Behind}
use Rattle.vault_inventory.specs.{Answers.FailsWithInvFault, declared.fault.InvFault.InvFault, Inventory.read_served, Served.Served}
use Rattle.vault_inventory.specs.declared.fault.InvFault.TheVariants as faults
use Rattle.vault_served.specs.ForGood.{marks}
use Rattle.program_report.specs.{declared.exit.Exit.Exit, declared.stop.Stop.Stop, Exits.exit_of, Exits.stop_of_inventory, FaultLine.line_of_stop, Told.Reports}
use Rattle.program_report.specs.declared.exit.Exit.TheVariants as exits
use Rattle.program_report.specs.declared.stop.Stop.TheVariants as stops
use Rattle.program_lines.specs.Hearing.{EndsBetweenLines, counted_line}
use Rattle.program_lines.proofs.LineByLine.{listens_then}
use Rattle.base_words.specs.Pieces.{pieces}
use Rattle.tick_runs.specs.{declared.live.listening.TheConstants.MOST_EVENTS, StopsAfter.events_stop_after, Stops.both, Closed.World}
use Rattle.tick_runs.specs.Listening.{EventListeningEnds, ListensToEvents, event_limits, hearing_of_events}
use Rattle.tick_runs.specs.LiveRun.{EndsEarly, LiveRun, LivesTo, RunHasListened, RunIsOpened}
use Rattle.tick_runs.proofs.Agents.{as_begun}

-- ---- the number of a line

most_taken : (n : ℕ) (read : List ℕ) → length (take n read) ≤ n
most_taken n read = let l : length (take n read) ≡ min n (length read) = length-take n read in omega (arith, l)

-- there are no more lines than bytes
few_lines : (read : List ℕ) (lines behind : List (List ℕ)) → pieces 10 (take MOST_EVENTS read) ≡ lines ++ behind → counted_line (length lines + 1) ≡ length lines + 1
unfolding pieces
few_lines read lines behind parts =
    let p : ℕ → Bool = λ c. c == 10 in
    let all : length (lines ++ behind) ≡ count_by p (take MOST_EVENTS read) + 1 = ap length (sym parts) ∙ length-slice_split p (take MOST_EVENTS read) in
    let both' : length (lines ++ behind) ≡ length lines + length behind = length-append lines behind in
    let feeds : count_by p (take MOST_EVENTS read) ≤ length (take MOST_EVENTS read) = count_by-le-length p (take MOST_EVENTS read) in
    let most : length (take MOST_EVENTS read) ≤ MOST_EVENTS = most_taken MOST_EVENTS read in
    omega (arith, all, both', feeds, most)

-- ---- nothing was read

module _ (port : ℕ) (bytes : List ℕ) (start : ℕ) (before : Option Behind) where
  -- the bytes are no inventory, or memory was wanting
  pub read_lives :
      (result : Result (Unit {0}) Stop) (fault : InvFault) (j : Bool) (x : Seen) (k : Bool) (a : Seen) → IsErr result × IsErrAnd result (λ (q : Stop). q ≡ stop_of_inventory fault) → FailsWithInvFault fault (read_served bytes) →
      LivesTo port bytes start before result (change j x x) (change k a a) before
  read_lives (Ok u) fault j x k a is fails = absurd (let no = is.0 in cc)
  read_lives (Err stop) fault j x k a is fails = subst (λ (q : Stop). LivesTo port bytes start before (Err q) (change j x x) (change k a a) before) (sym is.1) (by_fault fault fails) where
    by_fault : (e : InvFault) → FailsWithInvFault e (read_served bytes) → LivesTo port bytes start before (Err (stop_of_inventory e)) (change j x x) (change k a a) before
    by_fault faults.OutOfMemory h = inl (refl, refl, refl)
    by_fault faults.NotToml h = (h, refl, refl, refl)
    by_fault (faults.MissingKey i key) h = (h, refl, refl, refl)
    by_fault (faults.UnknownKey i) h = (h, refl, refl, refl)
    by_fault (faults.BadValue i key) h = (h, refl, refl, refl)
    by_fault (faults.Tree i t) h = (h, refl, refl, refl)

  -- memory for what the tables leave open was wanting
  pub unmarked_lives :
      (result : Result (Unit {0}) Stop) (j : Bool) (x : Seen) (k : Bool) (a : Seen) → IsErr result × IsErrAnd result (λ (q : Stop). q ≡ stops.Memory) →
      LivesTo port bytes start before result (change j x x) (change k a a) before
  unmarked_lives (Ok u) j x k a is = absurd (let no = is.0 in cc)
  unmarked_lives (Err stop) j x k a is = subst (λ (q : Stop). LivesTo port bytes start before (Err q) (change j x x) (change k a a) before) (sym is.1) (inl (refl, refl, refl))

  -- it ended before it listened
  pub early_lives :
      (result : Result (Unit {0}) Stop) (stop : Stop) (v : Served) (j : Bool) (x : Seen) (out : Change) (new : Option Behind) → read_served bytes ≡ Ok v → IsErr result × IsErrAnd result (λ (q : Stop). q ≡ stop) →
      EndsEarly port start (marks v.notes) (record { inventory = v.inventory; behind = before }) stop out new → LivesTo port bytes start before result (change j x x) out new
  early_lives (Ok u) stop v j x out new read is early = absurd (let no = is.0 in cc)
  early_lives (Err q) stop v j x out new read is early = subst (λ (u : Stop). LivesTo port bytes start before (Err u) (change j x x) out new) (sym is.1) (by_stop stop early) where
    by_stop : (u : Stop) → EndsEarly port start (marks v.notes) (record { inventory = v.inventory; behind = before }) u out new → LivesTo port bytes start before (Err u) (change j x x) out new
    by_stop stops.Memory h = inr (v, read, inl (h, refl))
    by_stop stops.Write h = (v, read, inl (h, refl))
    by_stop stops.TooLong h = (v, read, inl (h, refl))
    by_stop (stops.Broker name) h = (v, read, inl (h, refl))
    by_stop stops.Read h = absurd h
    by_stop (stops.Inventory fault) h = absurd h
    by_stop (stops.Moments fault) h = absurd h
    by_stop (stops.FaultWord i) h = absurd h
    by_stop (stops.Line i) h = absurd h

  -- it listened
  pub listened_lives :
      (now : ℕ) (v : Served) (cs : List (List ℕ)) (keeper : CoreState) (middle : Option Behind) (a b c : Seen) (k : Bool) (result : Result (Unit {0}) Stop) (final : World) (fed : Change) → read_served bytes ≡ Ok v → now ≡ port →
      RunIsOpened port start (marks v.notes) (record { inventory = v.inventory; behind = before }) cs keeper middle (change k a b) → ListensToEvents now cs (both keeper middle) result final fed (change k b c) → (EndsBetweenLines result → IsTrue c.output.is_flushed) →
      LivesTo port bytes start before result fed (change k a c) final.behind
  listened_lives now v cs keeper middle a b c k result final fed read same o listens flushed = by_result result has where
    has : RunHasListened port start (marks v.notes) (record { inventory = v.inventory; behind = before }) result final fed (change k a c)
    has =
        let h : ListensToEvents port v.inventory.credentials (both keeper middle) result final fed (change k b c) = as_begun same o.same (λ x ds. ListensToEvents x ds (both keeper middle) result final fed (change k b c)) listens in
        record {
          read = h.read;
          consumed = h.consumed;
          reads = h.reads;
          lines = h.lines;
          behind = h.behind;
          cut = h.heard.parts;
          prompt = h.prompt;
          mid = h.mid;
          text = o.text ++ h.text;
          run = record { opening = both keeper middle; before = o.text; opened = o.opened; spoken = h.text; heard = h.heard.heard; text_is = refl };
          ends =
              subst (λ n. EventListeningEnds port v.inventory.credentials h.read n h.mid h.behind (o.text ++ h.text) result final fed (change k a c)) (few_lines h.read h.lines h.behind h.heard.parts)
              (
              listens_then World (hearing_of_events port v.inventory.credentials) (events_stop_after port v.inventory.credentials) (change k a b) (change k b c) refl event_limits h.read (counted_line (length h.lines + 1)) h.mid h.behind o.text h.text result final fed
              (inl o.sent, o.kept) h.ends
              );
          flushed = flushed;
        }

    by_result : (u : Result (Unit {0}) Stop) → RunHasListened port start (marks v.notes) (record { inventory = v.inventory; behind = before }) u final fed (change k a c) → LivesTo port bytes start before u fed (change k a c) final.behind
    by_result (Ok u) h = (v, read, (final, h, refl))
    by_result (Err stops.Memory) h = inr (v, read, inr (final, h, refl))
    by_result (Err (stops.Inventory fault)) h = absurd h.ends.1.1.1
    by_result (Err _) h = (v, read, inr (final, h, refl))

  -- ---- by exit

  pub done_runs : (fed : Change) (out : Change) (new : Option Behind) (e : Seen) (k : Bool) → LivesTo port bytes start before (Ok tt) fed out new → LiveRun port bytes start before exits.Done fed out (change k e e) new
  done_runs fed out new e k lives = (lives, refl)

  pub stopped_runs :
      (stop : Stop) (exit : Exit) (fed : Change) (out errors : Change) (new : Option Behind) → exit ≡ exit_of stop → LivesTo port bytes start before (Err stop) fed out new → Reports (line_of_stop stop) errors →
      LiveRun port bytes start before exit fed out errors new
  stopped_runs stop exit fed out errors new is lives told = subst (λ (e : Exit). LiveRun port bytes start before e fed out errors new) (sym is) (by_stop stop lives told) where
    by_stop : (u : Stop) → LivesTo port bytes start before (Err u) fed out new → Reports (line_of_stop u) errors → LiveRun port bytes start before (exit_of u) fed out errors new
    by_stop stops.Memory h t = (stops.Memory, refl, h, t)
    by_stop stops.Write h t = (stops.Write, refl, h, t)
    by_stop stops.TooLong h t = (stops.TooLong, refl, h, t)
    by_stop stops.Read h t = (stops.Read, refl, h, t)
    by_stop (stops.Line i) h t = (stops.Line i, refl, h, t)
    by_stop (stops.Broker name) h t = (stops.Broker name, refl, h, t)
    by_stop (stops.Moments fault) h t = (stops.Moments fault, refl, h, t)
    by_stop (stops.FaultWord i) h t = (stops.FaultWord i, refl, h, t)
    by_stop (stops.Inventory fault) h t = (stops.Inventory fault, refl, h, t)
