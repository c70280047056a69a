-- LookedUp: looking the entries of an inventory up, one after another: for `look_all_up`.
use Rattle.std.specs.Prelude.{◌≢◌, is_none}
use Rattle.std.specs.{Result.IsErr, Result.IsErrAnd, List.range_with_len, Io.KnownBytes.Appends}
use Rattle.std.proofs.Common.{◌≡◌, ℕ, zero, suc, ◌+◌, ◌<◌, ◌≤◌, ◌==◌, inl, inr, Bool, true, false, cond, List, [], ◌∷◌, ◌++◌, Option, Some, None, Result, Ok, Err, arith, flat_map, length, refl, sym, ap, ◌∙◌, subst}
use Rattle.std.proofs.KnownBytes.{Appends-trans}
use Rattle.std.proofs.lemmas.{List.append-nil, List.length-set, Grind.flat_map-append}
use Rattle.base_device.specs.{Failures.HasFailed, Front.AppendsFront}
use Rattle.base_device.specs.Seen.{Change, Seen, change}
use Rattle.vault_exchange.specs.{Exchanges.Behind, declared.fault.ExchangeFault.ExchangeFault}
use Rattle.vault_exchange.specs.Lookups.{EntryIsLookedUp, IsLookupLeft, applied, inventory_after_lookup, lookup_in}
use Rattle.vault_inventory.specs.{Lookup.lookup_fault, Lookup.told, Inventories.Inventory}
use Rattle.program_report.specs.{declared.stop.Stop.Stop, Sent.IsUntouched}
use Rattle.program_report.specs.declared.stop.Stop.TheVariants as stops
use Rattle.tick_runs.specs.Looking.{Applies, AreLookedUp, Looked, LookingIsCut, LooksAllUp, LooksOneUp, first_indices, looked_line, looked_text}
use Rattle.program_report.proofs.Pieces.{front_more}
use Rattle.program_lines.proofs.LineByLine.{said_appends, untouched_appends}
use Rattle.tick_runs.proofs.Written.{whole_front}
use Rattle.plan_forest.specs.{declared.entry.Entry.Entry, Forest.entry_at}
use Rattle.plan_forest.proofs.{Entries.entry_at_set_other, Ranges.range_more}
use Rattle.vault_http.specs.declared.reply.Reply.{Reply}
use Rattle.vault_json.specs.{declared.fault.ReplyFault.ReplyFault, declared.lookup.Lookup.Lookup}
use Rattle.program_lines.specs.{Hearing.TextIsSaid, Text.entry_line}

-- ---- one lookup more

looked_more :
    (port t : ℕ) (old mid new : Looked) (is : List ℕ) (i : ℕ) → AreLookedUp port t old is mid → EntryIsLookedUp port mid.behind t mid.inventory i true new.inventory new.behind → AreLookedUp port t old (is ++ i ∷ []) new
looked_more port t old mid new [] i all one = (new, (subst (λ (m : Looked). EntryIsLookedUp port m.behind t m.inventory i true new.inventory new.behind) all one, refl))
looked_more port t old mid new (j ∷ is) i all one = (all.0, (all.1.0, looked_more port t all.0 mid new is i all.1.1 one))

first_more : (n : ℕ) → first_indices (n + 1) ≡ first_indices n ++ n ∷ []
first_more n = range_more 0 n n (omega arith)

-- ---- what a lookup leaves of the other entries

record IsToldOne (s : Inventory) (i : ℕ) (new : Inventory) : Type 0 where
  pub credentials : new.credentials ≡ s.credentials
  pub count : length new.forest.entries ≡ length s.forest.entries
  pub others : (j : ℕ) → j ≢ i → entry_at new.forest.entries j ≡ entry_at s.forest.entries j

told_one : (s : Inventory) (i t : ℕ) (lookup : Lookup) → IsToldOne s i (told s i lookup t)
unfolding told
told_one s i t lookup = record {
  credentials = refl;
  count = length-set s.forest.entries i _;
  others = λ j apart. entry_at_set_other s.forest.entries i j _ apart;
}

-- what holds of every inventory that a lookup makes holds of what is after a reply
of_told : (s : Inventory) (i t : ℕ) (P : Inventory → Type 0) → ((lookup : Lookup) → P (told s i lookup t)) → (answer : Result Lookup ReplyFault) (new : Inventory) → applied s i t answer ≡ Some new → P new
of_told s i t P holds (Err fault) new e = absurd (let bad : None ≡ Some new = e in cc)
of_told s i t P holds (Ok lookup) new e = by_flag (is_none (lookup_fault s i lookup)) e where
  by_flag : (b : Bool) → cond b (Some (told s i lookup t)) None ≡ Some new → P new
  by_flag true h = let is : told s i lookup t ≡ new = (let g : Some (told s i lookup t) ≡ Some new = h in cc) in subst P is (holds lookup)
  by_flag false h = absurd (let bad : None ≡ Some new = h in cc)

pub of_reply : (s : Inventory) (i t : ℕ) (P : Inventory → Type 0) → ((lookup : Lookup) → P (told s i lookup t)) → (answer : Result Reply ExchangeFault) (new : Inventory) → inventory_after_lookup s i t answer ≡ Some new → P new
of_reply s i t P holds (Err fault) new e = absurd (let bad : None ≡ Some new = e in cc)
of_reply s i t P holds (Ok r) new e = by_flag (r.status == 200) e where
  by_flag : (b : Bool) → cond b (applied s i t (lookup_in (entry_at s.forest.entries i).kind r.body)) None ≡ Some new → P new
  by_flag true h = of_told s i t P holds (lookup_in (entry_at s.forest.entries i).kind r.body) new h
  by_flag false h = absurd (let bad : None ≡ Some new = h in cc)

told_by : (port t : ℕ) (old : Looked) (i : ℕ) (inventory : Inventory) (new : Option Behind) → Applies port t old i inventory new → IsToldOne old.inventory i inventory
told_by port t old i inventory new a = of_reply old.inventory i t (IsToldOne old.inventory i) (told_one old.inventory i t) a.came inventory a.applied_is

pub same_credentials : (port t : ℕ) (old : Looked) (is : List ℕ) (new : Looked) → AreLookedUp port t old is new → new.inventory.credentials ≡ old.inventory.credentials
same_credentials port t old [] new all = ap (λ (u : Looked). u.inventory.credentials) all
same_credentials port t old (i ∷ is) new all =
    same_credentials port t all.0 is new all.1.1 ∙ (told_by port t old i all.0.inventory all.0.behind all.1.0).credentials

pub same_count : (port t : ℕ) (old : Looked) (is : List ℕ) (new : Looked) → AreLookedUp port t old is new → length new.inventory.forest.entries ≡ length old.inventory.forest.entries
same_count port t old [] new all = ap (λ (u : Looked). length u.inventory.forest.entries) all
same_count port t old (i ∷ is) new all = same_count port t all.0 is new all.1.1 ∙ (told_by port t old i all.0.inventory all.0.behind all.1.0).count

-- ---- the lines

same_lines : (one two : ℕ → List ℕ) (n a : ℕ) → ((j : ℕ) → j < a + n → two j ≡ one j) → flat_map two (range_with_len a n) ≡ flat_map one (range_with_len a n)
same_lines one two zero a same = refl
same_lines one two (suc n) a same =
    ap (λ l. l ++ flat_map two (range_with_len (a + 1) n)) (same a (omega arith))
    ∙ ap (λ l. one a ++ l) (same_lines one two n (a + 1) (λ j h. same j (omega arith)))

stays_text : (s : Inventory) (n : ℕ) (new : Inventory) → IsToldOne s n new → looked_text new (first_indices n) ≡ looked_text s (first_indices n)
unfolding looked_text
stays_text s n new told = same_lines (looked_line s) (looked_line new) n 0 (λ j h.
    let apart : j ≢ n = λ e. omega arith in
    ap (λ (e : Entry). entry_line e.name e.end) (told.others j apart))

text_more : (s : Inventory) (n : ℕ) → looked_text s (first_indices (n + 1)) ≡ looked_text s (first_indices n) ++ looked_line s n
unfolding looked_text
text_more s n = ap (flat_map (looked_line s)) (first_more n) ∙ flat_map-append (looked_line s) (first_indices n) (n ∷ []) ∙ ap (λ l. flat_map (looked_line s) (first_indices n) ++ l) (append-nil (looked_line s n))

no_text : (s : Inventory) → looked_text s (first_indices 0) ≡ []
unfolding looked_text
no_text s = refl

-- ---- what a device was sent

said_still : (a b c : Seen) (k : Bool) (x : List ℕ) → TextIsSaid x (change k a b) → IsUntouched (change k b c) → TextIsSaid x (change k a c)
said_still a b c k x said none = subst (λ (s : Seen). TextIsSaid x (change k a s)) (sym none) said

-- ---- one entry

pub left_alone : (port : ℕ) (o : Option Behind) (t : ℕ) (s : Inventory) (i : ℕ) (new : Option Behind) → new ≡ o → IsLookupLeft port o t s i new
left_alone port None t s i new same = tt
left_alone port (Some b) t s i new same = inl same

-- ---- the loop

-- the first n entries were looked up, and their lines written and flushed
pub record Looking (port t : ℕ) (old : Looked) (n : ℕ) (now : Inventory) (behind : Option Behind) (out : Change) : Type 0 where
  pub within : n ≤ length old.inventory.forest.entries
  pub count : length now.forest.entries ≡ length old.inventory.forest.entries
  pub looked : AreLookedUp port t old (first_indices n) (record { inventory = now; behind = behind })
  pub said : TextIsSaid (looked_text now (first_indices n)) out
  pub kept : out.new.failed_calls ≡ out.old.failed_calls

pub looking_first : (port t : ℕ) (old : Looked) (a : Seen) (k : Bool) → Looking port t old 0 old.inventory old.behind (change k a a)
looking_first port t old a k = record { within = omega arith; count = refl; looked = refl; said = inr (no_text old.inventory, refl); kept = refl }

module _ (port t : ℕ) (old : Looked) (i : ℕ) (mid : Inventory) (middle : Option Behind) (a b c : Seen) (k : Bool) (g : Looking port t old i mid middle (change k a b))
    (below : i < length mid.forest.entries) where
  abbrev now : Looked
  now = record { inventory = mid; behind = middle }

  looked_on : (new : Inventory) (after : Option Behind) → Applies port t now i new after → AreLookedUp port t old (first_indices (i + 1)) (record { inventory = new; behind = after })
  looked_on new after one =
      let all : Looked = record { inventory = new; behind = after } in
      subst (λ is. AreLookedUp port t old is all) (sym (first_more i)) (looked_more port t old now all (first_indices i) i g.looked one)

  text_on : (new : Inventory) (after : Option Behind) → Applies port t now i new after → looked_text new (first_indices (i + 1)) ≡ looked_text mid (first_indices i) ++ looked_line new i
  text_on new after one = text_more new i ∙ ap (λ x. x ++ looked_line new i) (stays_text mid i new (told_by port t now i new after one))

  pub more :
      (new : Inventory) (after : Option Behind) → LooksOneUp port t now i (Ok tt) (change k b c) new after → Looking port t old (i + 1) new after (change k a c)
  more new after one = record {
    within = (let e = g.count in omega arith);
    count = (told_by port t now i new after one.0).count ∙ g.count;
    looked = looked_on new after one.0;
    said = inl (
      subst (Appends a.output.written c.output.written) (sym (text_on new after one.0)) (Appends-trans _ _ _ (looked_text mid (first_indices i)) (looked_line new i) (said_appends (looked_text mid (first_indices i)) (change k a b) g.said) one.1.0),
      one.1.1,
    );
    kept = one.2 ∙ g.kept;
  }

  all_said : Appends a.output.written b.output.written (looked_text mid (first_indices i))
  all_said = said_appends (looked_text mid (first_indices i)) (change k a b) g.said

  cut_here : Appends b.output.written c.output.written [] → LookingIsCut port t old now i (change k a c)
  cut_here none = record {
    within = g.within;
    looked = g.looked;
    front = subst (AppendsFront a.output.written c.output.written) (append-nil (looked_text mid (first_indices i))) (whole_front a.output.written c.output.written (looked_text mid (first_indices i)) [] (subst (Appends a.output.written c.output.written) (append-nil (looked_text mid (first_indices i))) (Appends-trans _ _ _ (looked_text mid (first_indices i)) [] all_said none)));
  }

  cut_next : (new : Inventory) (after : Option Behind) → Applies port t now i new after → AppendsFront b.output.written c.output.written (looked_line new i) → LookingIsCut port t old (record { inventory = new; behind = after }) (i + 1) (change k a c)
  cut_next new after one front = record {
    within = (let e = g.count in omega arith);
    looked = looked_on new after one;
    front = subst (AppendsFront a.output.written c.output.written) (sym (text_on new after one)) (front_more _ _ _ (looked_text mid (first_indices i)) (looked_line new i) all_said front);
  }

  pub ends :
      (stop : Stop) (new : Inventory) (after : Option Behind) → LooksOneUp port t now i (Err stop) (change k b c) new after → LooksAllUp port t old (Err stop) (change k a c) new after
  ends (stops.Broker name) new after one = record {
    n = i;
    within = (let e = g.count in omega arith);
    now = now;
    looked = g.looked;
    said = said_still a b c k (looked_text mid (first_indices i)) g.said one.2;
    name_is = one.0;
    unapplied = one.1;
  }
  ends stops.Write new after one = (i + 1, record { inventory = new; behind = after }, cut_next new after one.0 one.2, refl, subst (λ x. HasFailed x c.failed_calls) g.kept one.1)
  ends stops.Memory new after (inl one) = (i, now, cut_here (untouched_appends (change k b c) one.0), one.1)
  ends stops.Memory new after (inr one) = (i + 1, record { inventory = new; behind = after }, cut_next new after one.0 one.1, left_alone port after t new (i + 1) after refl)
  ends _ new after one = absurd one

pub looking_stops :
    (port t : ℕ) (old : Looked) (i : ℕ) (mid : Inventory) (middle : Option Behind) (a b c : Seen) (k : Bool) (new : Inventory) (after : Option Behind) (result : Result (Unit {0}) Stop) (stop : Stop) →
    IsErr result × IsErrAnd result (λ (u : Stop). u ≡ stop) → Looking port t old i mid middle (change k a b) → i < length mid.forest.entries →
    LooksOneUp port t (record { inventory = mid; behind = middle }) i (Err stop) (change k b c) new after → LooksAllUp port t old result (change k a c) new after
looking_stops port t old i mid middle a b c k new after (Ok u) stop is g below one = absurd (let no = is.0 in cc)
looking_stops port t old i mid middle a b c k new after (Err u) stop is g below one =
    subst (λ (v : Stop). LooksAllUp port t old (Err v) (change k a c) new after) (sym is.1) (ends port t old i mid middle a b c k g below stop new after one)
