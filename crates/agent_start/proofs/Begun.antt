-- Begun: a start with a ledger is a start, and so is one without. For `start_with`, `make_start` and their parts.
use Rattle.std.proofs.Common.{◌≡◌, ◌∙◌, ℕ, Bool, true, false, List, [], ◌∷◌, ◌++◌, None, Option, Some, Vec, ap, inl, inr, map, refl, subst, sym}
use Rattle.std.proofs.lemmas.List.Elements.{All-cons, All-nil}
use Rattle.std.specs.{List.All, declared.alloc.Global.Global}
use Rattle.std.specs.Prelude.{Err, IfErr, IfOk, IfSome, Ok, Result, is_some}
use Rattle.agent_ledger.specs.declared.ledger.Ledger.{Ledger}
use Rattle.agent_words.specs.{declared.demands.Demands.Demands, declared.said.About.TheVariants.SecretFile, declared.said.SaidLine.SaidLine}
use Rattle.base_files.specs.Files.{Files}
use Rattle.base_log.specs.declared.level.Level.TheVariants.{Alert}
use Rattle.program_report.specs.declared.exit.Exit.{Exit}
use Rattle.state_secrets.specs.Looking.{IsBegun}
use Rattle.state_keeping.specs.Keepers.{waiting_in}
use Rattle.agent_start.specs.{declared.folder.NotBegun.NotBegun, declared.start.Start.Start}
use Rattle.agent_start.specs.Alone.{IsServedAlone, IsServedUnkept, ServesHeld}
use Rattle.agent_start.specs.Starts.{Begins, IsFreshLedger, IsLedgerAtStart, IsReason, IsSaidAlone, IsServedBy, IsStart, IsStartAlone, IsWhyNotBegun, SaysUnheld, SaysUnused, StartsBy, is_unused}
use Rattle.agent_system.specs.{Saying.said_as, Whole.IsServedFile, Whole.folder_of, declared.reading.Inventories.Inventories}
use Rattle.agent_start.specs.declared.folder.NotBegun.TheVariants as nots

is_reason : (has_folder : Bool) (why : NotBegun) → IsWhyNotBegun has_folder why → IsReason why
is_reason false why h = subst IsReason (sym h) tt
is_reason true nots.NoFolder h = tt
is_reason true (nots.Unused s) h = h
is_reason true nots.Held h = tt
is_reason true nots.Refused h = tt
is_reason true nots.Memory h = tt

same_folder : (has_folder : Bool) (why : NotBegun) → IsWhyNotBegun has_folder why → is_unused why ≡ has_folder
same_folder false why h = subst (λ w. is_unused w ≡ false) (sym h) refl
same_folder true nots.NoFolder h = absurd h
same_folder true (nots.Unused s) h = refl
same_folder true nots.Held h = refl
same_folder true nots.Refused h = refl
same_folder true nots.Memory h = refl

alone_is_start : {D I L : Type 0} → (d : Demands) (has_folder : Bool) (why : NotBegun) (s : Start (Ledger D I L)) → IsWhyNotBegun has_folder why → IsStartAlone d (is_unused why) s → IsStart d has_folder s
alone_is_start {D} {I} {L} d has_folder why s not_begun is =
    let alone : IsStartAlone d has_folder s = subst (λ has. IsStartAlone d has s) (same_folder has_folder why not_begun) is in
    record {
      spread = alone.spread;
      ledger = subst (λ (l : Option (Ledger D I L)). IfSome l (λ k. (has_folder ≡ true) × (IsLedgerAtStart d k × IsServedBy k s.inventories.served))) (sym alone.none) tt;
      without = λ _. (alone.said, alone.good);
    }

pub with_ledger :
    {D I L : Type 0} → (d e : Demands) (s : Start (Ledger D I L)) (l : Ledger D I L) → s.ledger ≡ Some l → IsLedgerAtStart e l → e ≡ d → IsServedBy l s.inventories.served → s.part ≡ d.earlier → s.behind ≡ d.behind → (e.earlier ≡ 0 → s.inventories.again ≡ None) → IsStart d true s
with_ledger {D} {I} {L} d e s l is start_is same served part behind alone =
    let at_start = subst (λ x. IsLedgerAtStart x l) same start_is in
    record {
      spread = record { part = part; behind = behind; alone = λ first. alone (ap (λ x. x.earlier) same ∙ first) };
      ledger = subst (λ (k : Option (Ledger D I L)). IfSome k (λ m. (true ≡ true) × (IsLedgerAtStart d m × IsServedBy m s.inventories.served))) (sym is) (refl, (at_start, served));
      without = λ none. absurd (let e : Some l ≡ None = sym is ∙ none in cc);
    }

-- what files hold was taken, and nothing waits to be served
pub at_start :
    {D I L : Type 0} → (l k m : Ledger D I L) → IsFreshLedger l → k ≡ record l { state = k.state; inputs = k.inputs } → m ≡ record k { state = m.state } → waiting_in m.state.keeper ≡ None → IsLedgerAtStart l.demands m
at_start l k m fresh filled mark_served still =
    record {
      demands = ap (λ x. x.demands) mark_served ∙ ap (λ x. x.demands) filled;
      still = still;
      fresh =
          record {
            looking = subst IsBegun (sym (ap (λ x. x.looking) mark_served ∙ ap (λ x. x.looking) filled)) fresh.looking;
            proving = ap (λ x. x.proving) mark_served ∙ (ap (λ x. x.proving) filled ∙ fresh.proving);
            askers = ap (λ x. x.askers.items) mark_served ∙ (ap (λ x. x.askers.items) filled ∙ fresh.askers);
          };
    }

pub reason_if : {D I L : Type 0} → (d : Demands) (has_folder : Bool) (begun : Result (Start (Ledger D I L)) NotBegun) → Begins d has_folder begun → IfErr begun IsReason
reason_if d has_folder (Ok s) h = tt
reason_if d has_folder (Err why) h = is_reason has_folder why h

starts_so : {D I L : Type 0} → (d : Demands) (has_folder : Bool) (begun : Result (Start (Ledger D I L)) NotBegun) (s : Start (Ledger D I L)) → Begins d has_folder begun → StartsBy d begun s → IsStart d has_folder s
starts_so d has_folder (Ok begun) s h is = subst (IsStart d has_folder) (sym is) h.0
starts_so d has_folder (Err why) s h is = alone_is_start d has_folder why s h is

pub starts_if :
    {D I L : Type 0} → (d : Demands) (has_folder : Bool) (begun : Result (Start (Ledger D I L)) NotBegun) (result : Result (Start (Ledger D I L)) Exit) → Begins d has_folder begun → IfOk result (StartsBy d begun) → IfOk result (IsStart d has_folder)
starts_if d has_folder begun (Ok s) h is = starts_so d has_folder begun s h is
starts_if d has_folder begun (Err exit) h is = tt

-- what is served without a ledger is what was read, since a start with a folder has one
alone_so :
    {D I L : Type 0} → (known_file known : Files) (file : List ℕ) (d : Demands) (has_folder : Bool) (begun : Result (Start (Ledger D I L)) NotBegun) (s : Start (Ledger D I L)) → Begins d has_folder begun → StartsBy d begun s → IfErr begun (λ why. IsServedAlone (is_unused why) known_file known file d s) →
    s.ledger ≡ None → IsServedAlone has_folder known_file known file d s
alone_so known_file known file d has_folder (Ok begun) s h is served none = absurd (let both : true ≡ false = sym h.1 ∙ (ap (λ x. is_some x.ledger) (sym is) ∙ ap is_some none) in cc)
alone_so known_file known file d has_folder (Err why) s h is served none = subst (λ has. IsServedAlone has known_file known file d s) (same_folder has_folder why h) served

pub alone_if :
    {D I L : Type 0} → (known_file known : Files) (file : List ℕ) (d : Demands) (has_folder : Bool) (begun : Result (Start (Ledger D I L)) NotBegun) (result : Result (Start (Ledger D I L)) Exit) → Begins d has_folder begun → IfOk result (StartsBy d begun) →
    IfErr begun (λ why. IfOk result (IsServedAlone (is_unused why) known_file known file d)) → IfOk result (λ s. s.ledger ≡ None → IsServedAlone has_folder known_file known file d s)
alone_if known_file known file d has_folder begun (Ok s) h is served = alone_so known_file known file d has_folder begun s h is served
alone_if known_file known file d has_folder begun (Err exit) h is served = tt

-- ---- a start without a ledger

-- after the folder, some entries
all_unheld : (lines : List (List ℕ)) → All SaysUnheld (map (said_as Alert SecretFile) lines)
all_unheld [] = All-nil SaysUnheld
all_unheld (line ∷ lines) = All-cons SaysUnheld (said_as Alert SecretFile line) (map (said_as Alert SecretFile) lines) (refl, refl) (all_unheld lines)

said_after : (known : Files) (folder bytes : List ℕ) (d : Demands) (i : Inventories) (first : SaidLine) (old new : List SaidLine) → SaysUnused first → old ≡ first ∷ [] → ServesHeld known folder bytes d old new i → IsSaidAlone true new
said_after known folder bytes d i first old new unused is (inl whole) = subst (IsSaidAlone true) (sym (whole.1 ∙ is)) (unused, All-nil SaysUnheld)
said_after known folder bytes d i first old new unused is (inr held) =
    let all : new ≡ first ∷ map (said_as Alert SecretFile) held.lines = held.said ∙ ap (λ l. l ++ map (said_as Alert SecretFile) held.lines) is in
    subst (IsSaidAlone true) (sym all) (unused, all_unheld held.lines)

module _ {K : Type 0} (d : Demands) (i : Inventories) (said : Vec SaidLine Global) (s : Start K) (is : s ≡ record { part = d.earlier; behind = d.behind; inventories = i; ledger = None; is_good = true; said = said }) where
  alone_by : (d.earlier ≡ 0 → i.again ≡ None) → (has_folder : Bool) → IsSaidAlone has_folder said.items → IsStartAlone d has_folder s
  alone_by alone has_folder so = subst (IsStartAlone d has_folder) (sym is) (record { spread = record { part = refl; behind = refl; alone = alone }; none = refl; said = so; good = refl })

  -- without a folder nothing is said
  pub alone_silent : (d.earlier ≡ 0 → i.again ≡ None) → said.items ≡ [] → IsStartAlone d false s
  alone_silent alone so = alone_by alone false so

  pub alone_file : (known_file known : Files) (file : List ℕ) → IsServedFile known_file known file d i → IsServedAlone false known_file known file d s
  alone_file known_file known file served = subst (IsServedAlone false known_file known file d) (sym is) (record { serves = served })

  -- with one it is, before anything else
  pub alone_unused :
      (known_file known : Files) (file : List ℕ) (first : SaidLine) (old : List SaidLine) → (d.earlier ≡ 0 → i.again ≡ None) → SaysUnused first → old ≡ first ∷ [] → IsServedUnkept known_file known file d old said.items i → IsStartAlone d true s
  alone_unused known_file known file first old alone unused first_is served = alone_by alone true (said_after known (folder_of file) served.bytes d i first old said.items unused first_is served.held)

  pub alone_unkept : (known_file known : Files) (file : List ℕ) (first : SaidLine) (old : List SaidLine) → old ≡ first ∷ [] → IsServedUnkept known_file known file d old said.items i → IsServedAlone true known_file known file d s
  alone_unkept known_file known file first old first_is served =
      subst (IsServedAlone true known_file known file d) (sym is) (record { serves = (first, subst (λ o. IsServedUnkept known_file known file d o said.items i) first_is served) })
