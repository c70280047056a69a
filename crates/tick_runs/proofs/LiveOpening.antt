-- LiveOpening: the opening of a live run, and how it ends early: for `begin`.
use Rattle.std.proofs.Common.{◌≡◌, ℕ, ◌⊎◌, inl, inr, Bool, List, [], ◌++◌, Option, Result, Ok, Err, arith, length, refl, sym, ap, ◌∙◌, subst}
use Rattle.std.proofs.KnownBytes.{Appends-trans}
use Rattle.std.specs.Io.KnownBytes.{Appends}
use Rattle.std.specs.Result.{IfErr, IsErr, IsErrAnd}
use Rattle.std.proofs.lemmas.List.{append-nil}
use Rattle.base_device.specs.{Seen.Seen, Seen.change, Failures.HasFailed, Front.AppendsFront}
use Rattle.tick_keeper.proofs.Shaped.{replanned}
use Rattle.vault_start.specs.Start.{from_start}
use Rattle.vault_start.proofs.Started.{shaped_start}
use Rattle.tick_keeper.specs.{Replan.Replan, Replan.ReplanTooLong, State.CoreState, State.unplanned}
use Rattle.vault_exchange.specs.Exchanges.{Behind}
use Rattle.vault_inventory.specs.Inventories.{Inventory}
use Rattle.program_report.specs.{declared.stop.Stop.Stop, Sent.IsAll, Sent.SendsText}
use Rattle.program_report.specs.declared.stop.Stop.TheVariants as stops
use Rattle.tick_runs.specs.{Closed.shorts_taken, Stops.both, Text.short_need_lines}
use Rattle.tick_runs.specs.LiveRun.{EndsEarly, IsLiveOpening, RunIsOpened}
use Rattle.tick_runs.specs.Looking.{Looked, LooksAll, first_indices, looked_text}
use Rattle.tick_runs.proofs.{LookedUp.left_alone, LookedUp.same_credentials, Texts.same_shorts, Written.whole_front}
use Rattle.program_report.proofs.Pieces.{front_more}
use Rattle.program_lines.proofs.LineByLine.{said_appends}
use Rattle.plan_forest.specs.Forest.{Forest}

-- ---- after all lookups

module _ (port t : ℕ) (always : List Bool) (old : Looked) (inventory : Inventory) (middle : Option Behind) (a b c : Seen) (k : Bool) (all : LooksAll port t old (change k a b) inventory middle) where
  abbrev lines : List ℕ
  lines = looked_text inventory (first_indices (length old.inventory.forest.entries))

  written : Appends a.output.written b.output.written lines
  written = said_appends (looked_text inventory (first_indices (length old.inventory.forest.entries))) (change k a b) all.said

  -- memory was wanting before the lines of the opening were sent
  pub memory_early : EndsEarly port t always old stops.Memory (change k a b) middle
  memory_early = inl (
    length old.inventory.forest.entries,
    record { inventory = inventory; behind = middle },
    record { within = omega arith; looked = all.looked; front = subst (AppendsFront a.output.written b.output.written) (append-nil lines) (whole_front a.output.written b.output.written lines [] written) },
    left_alone port middle t inventory (length old.inventory.forest.entries) middle refl,
  )

  pub long_early : ReplanTooLong (from_start inventory always t).forest t → EndsEarly port t always old stops.TooLong (change k a b) middle
  long_early long = record { looked = record { inventory = inventory; behind = middle }; all = all.looked; long = long; said = all.said; left = refl }

  opening : (keeper : CoreState) (shorts : List ℕ) → Replan (unplanned (from_start inventory always t).forest) t keeper → shorts ≡ short_need_lines keeper.forest keeper.shortened → IsLiveOpening port t always old (both (shorts_taken keeper) middle) (lines ++ shorts)
  opening keeper shorts planned is = record {
    looked = record { inventory = inventory; behind = middle };
    all = all.looked;
    keeper = keeper;
    planned = planned;
    is = refl;
    text_is = ap (λ x. lines ++ x) (is ∙ same_shorts inventory.forest keeper.forest (replanned inventory.forest (unplanned (from_start inventory always t).forest) t keeper (shaped_start inventory always t) planned) keeper.shortened);
  }

  pub unsent_early :
      (keeper : CoreState) (shorts : List ℕ) (stop : Stop) → Replan (unplanned (from_start inventory always t).forest) t keeper → shorts ≡ short_need_lines keeper.forest keeper.shortened → SendsText (Err stop) shorts (change k b c) →
      EndsEarly port t always old stop (change k a c) middle
  unsent_early keeper shorts stops.Write planned is sends =
      (subst (λ x. HasFailed x c.failed_calls) all.kept sends.0, inr (both (shorts_taken keeper) middle, lines ++ shorts, opening keeper shorts planned is, front_more _ _ _ lines shorts written sends.1, refl))
  unsent_early keeper shorts stops.Memory planned is sends =
      inr (both (shorts_taken keeper) middle, lines ++ shorts, opening keeper shorts planned is, front_more _ _ _ lines shorts written sends.1, refl)
  unsent_early keeper shorts _ planned is sends = absurd sends

  pub opened :
      (keeper : CoreState) (shorts : List ℕ) → Replan (unplanned (from_start inventory always t).forest) t keeper → shorts ≡ short_need_lines keeper.forest keeper.shortened → IsAll shorts (change k b c) → c.failed_calls ≡ b.failed_calls →
      RunIsOpened port t always old inventory.credentials (shorts_taken keeper) middle (change k a c)
  opened keeper shorts planned is sends more = record {
    same = same_credentials port t old (first_indices (length old.inventory.forest.entries)) (record { inventory = inventory; behind = middle }) all.looked;
    text = lines ++ shorts;
    opened = opening keeper shorts planned is;
    sent = (Appends-trans _ _ _ lines shorts written sends.0, sends.1);
    kept = more ∙ all.kept;
  }

-- ---- by the names that the code has

module _ (port t : ℕ) (always : List Bool) (old : Looked) (inventory : Inventory) (middle : Option Behind) (a b c : Seen) (k : Bool) (all : LooksAll port t old (change k a b) inventory middle) where
  pub memory_ends : (stop : Stop) → stop ≡ stops.Memory → EndsEarly port t always old stop (change k a b) middle
  memory_ends stop is = subst (λ (u : Stop). EndsEarly port t always old u (change k a b) middle) (sym is) (memory_early port t always old inventory middle a b b k all)

  pub planning_ends : (g : Forest) (stop : Stop) → g ≡ (from_start inventory always t).forest → (stop ≡ stops.Memory) ⊎ ((stop ≡ stops.TooLong) × ReplanTooLong g t) → EndsEarly port t always old stop (change k a b) middle
  planning_ends g stop is (inl memory) = memory_ends stop memory
  planning_ends g stop is (inr long) =
      subst (λ (u : Stop). EndsEarly port t always old u (change k a b) middle) (sym long.0) (long_early port t always old inventory middle a b b k all (subst (λ h. ReplanTooLong h t) is long.1))

  pub sending_ends :
      (g : Forest) (keeper : CoreState) (shorts : List ℕ) (stop : Stop) → g ≡ (from_start inventory always t).forest → Replan (unplanned g) t keeper → shorts ≡ short_need_lines keeper.forest keeper.shortened → SendsText (Err stop) shorts (change k b c) →
      EndsEarly port t always old stop (change k a c) middle
  sending_ends g keeper shorts stop is planned are sends = unsent_early port t always old inventory middle a b c k all keeper shorts stop (subst (λ h. Replan (unplanned h) t keeper) is planned) are sends

  pub opens :
      (g : Forest) (cs : List (List ℕ)) (keeper now : CoreState) (shorts : List ℕ) → g ≡ (from_start inventory always t).forest → cs ≡ inventory.credentials → Replan (unplanned g) t keeper → now ≡ shorts_taken keeper → shorts ≡ short_need_lines keeper.forest keeper.shortened →
      IsAll shorts (change k b c) → c.failed_calls ≡ b.failed_calls → RunIsOpened port t always old cs now middle (change k a c)
  opens g cs keeper now shorts is_g is_cs planned is_now are sends more =
      subst (λ u. RunIsOpened port t always old u now middle (change k a c)) (sym is_cs)
      (subst (λ (v : CoreState). RunIsOpened port t always old inventory.credentials v middle (change k a c)) (sym is_now)
      (opened port t always old inventory middle a b c k all keeper shorts (subst (λ h. Replan (unplanned h) t keeper) is_g planned) are sends more))

-- ---- what a call gives that stops it

pub for_err : {X : Type 0} (result : Result X Stop) (stop : Stop) (P : Stop → Type 0) → IsErr result × IsErrAnd result (λ (q : Stop). q ≡ stop) → P stop → IfErr result P
for_err (Ok x) stop P is h = tt
for_err (Err q) stop P is h = subst P (sym is.1) h
