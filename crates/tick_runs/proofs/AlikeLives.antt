-- Alike lives: two live runs of inventories that differ in credentials alone, over brokers whose tables do, have one text: from the
-- lookups on, and after them line by line, as far as both go.
use Rattle.std.proofs.Common.{◌≡◌, ◌∙◌, ℕ, Bool, List, [], ◌∷◌, ◌++◌, refl, sym, ap, ap₂, subst}
use Rattle.std.proofs.lemmas.List.{append_assoc}
use Rattle.tick_keeper.specs.State.{CoreState, unplanned}
use Rattle.tick_keeper.proofs.Shaped.{replanned}
use Rattle.vault_start.specs.Start.{from_start}
use Rattle.vault_start.proofs.Started.{shaped_start}
use Rattle.broker_alike.specs.Alike.{KeepsSupplied}
use Rattle.tick_runs.specs.{Closed.World, Closed.shorts_taken, Listening.EventLinesAreHeard, LiveRun.IsLiveRun, Looking.Looked}
use Rattle.tick_runs.specs.Secrecy.{AlikeRunsLaw, AlikeSoFarLaw, AlikeWholeLaw, IsBeginningOf}
use Rattle.tick_runs.proofs.{Shaped.kept_shaped, AlikeLines.alike_answers, AlikeLookups.opened_both, AlikeLookups.opened_looked}
use Rattle.vault_json.specs.Laws.{LookedLeaseIsRead}

alike_whole : LookedLeaseIsRead → AlikeWholeLaw
alike_whole read g cs ds ts one two port other start always b c lines final last text more tables dated run again =
    let a = run.opened in
    let d = again.opened in
    let looked = opened_looked g cs ds ts one two read port other start always b c run.opening again.opening run.before again.before tables dated a d in
    let opened = opened_both g cs ds ts one two read port other start always b c run.opening again.opening run.before again.before tables dated a d in
    let looked_forest = a.looked.inventory.forest in
    let h = (from_start a.looked.inventory always start).forest in
    let keeper : run.opening.keeper ≡ shorts_taken a.keeper = ap (λ (w : World). w.keeper) a.is in
    let kept : KeepsSupplied g run.opening.keeper.forest =
    subst (λ (k : CoreState). KeepsSupplied g k.forest) (sym keeper) (kept_shaped g looked_forest a.keeper.forest looked.kept (replanned looked_forest (unplanned h) start a.keeper (shaped_start a.looked.inventory always start) a.planned)) in
    let heard = alike_answers g cs ds ts one two port other run.opening again.opening final last lines run.spoken again.spoken kept opened.1 run.heard again.heard in
    (again.text_is ∙ ap₂ (λ x y. x ++ y) opened.0 heard.0 ∙ sym run.text_is, heard.1)

-- ---- a run up to some line

-- these lines were heard, with this text, which is how that one begins
abbrev HeardFirst : ℕ → List (List ℕ) → World → List (List ℕ) → List ℕ → Type 0
HeardFirst port cs old lines text = (mid : World) × ((front : List ℕ) × (EventLinesAreHeard port cs old lines mid front × IsBeginningOf front text))

heard_first : (port : ℕ) (cs : List (List ℕ)) (old new : World) (lines later : List (List ℕ)) (text : List ℕ) → EventLinesAreHeard port cs old (lines ++ later) new text → HeardFirst port cs old lines text
heard_first port cs old new [] later text a = (old, ([], ((refl, refl), (text, refl))))
heard_first port cs old new (line ∷ lines) later text a =
    let own = a.1.0 in
    let rest = heard_first port cs a.0 new lines later a.1.1.0 a.1.1.1.1.0 in
    let front = rest.1.0 in
    let left = rest.1.1.1.0 in (
      rest.0,
      (
        own ++ front,
        ((a.0, (own, (front, (a.1.1.1.0, (rest.1.1.0, refl))))), (left, a.1.1.1.1.1 ∙ ap (λ l. own ++ l) rest.1.1.1.1 ∙ sym (append_assoc own front left))),
      ),
    )

abbrev RunFirst : ℕ → ℕ → List Bool → Looked → List (List ℕ) → List ℕ → Type 0
RunFirst port start always old lines text = (mid : World) × ((front : List ℕ) × (IsLiveRun port start always old lines mid front × IsBeginningOf front text))

run_first : (port start : ℕ) (always : List Bool) (old : Looked) (lines later : List (List ℕ)) (final : World) (text : List ℕ) → IsLiveRun port start always old (lines ++ later) final text → RunFirst port start always old lines text
run_first port start always old lines later final text run =
    let heard = heard_first port old.inventory.credentials run.opening final lines later run.spoken run.heard in
    let spoken = heard.1.0 in
    let left = heard.1.1.1.0 in (
      heard.0,
      (
        run.before ++ spoken,
        (
          record { opening = run.opening; before = run.before; opened = run.opened; spoken = spoken; heard = heard.1.1.0; text_is = refl },
          (left, run.text_is ∙ ap (λ l. run.before ++ l) heard.1.1.1.1 ∙ sym (append_assoc run.before spoken left)),
        ),
      ),
    )

alike_so_far : LookedLeaseIsRead → AlikeSoFarLaw
alike_so_far read g cs ds ts one two port other start always b c lines later final last text more tables dated = (
  λ run again.
      let first = run_first other start always _ lines later last more again in
      let same = alike_whole read g cs ds ts one two port other start always b c lines final first.0 text first.1.0 tables dated run first.1.1.0 in
      (first.1.1.1.0, first.1.1.1.1 ∙ ap (λ l. l ++ first.1.1.1.0) same.0),
  λ run again.
      let first = run_first port start always _ lines later final text run in
      let same = alike_whole read g cs ds ts one two port other start always b c lines first.0 last first.1.0 more tables dated first.1.1.0 again in
      (first.1.1.1.0, first.1.1.1.1 ∙ ap (λ l. l ++ first.1.1.1.0) (sym same.0)),
)

pub alike_runs : LookedLeaseIsRead → AlikeRunsLaw
alike_runs read = (alike_whole read, alike_so_far read)
