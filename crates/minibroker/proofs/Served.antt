-- Connections are served one after another: one more after those that were, or one that stops the broker.
use Rattle.std.proofs.Common.{◌≡◌, ℕ, ◌+◌, ◌<◌, ◌++◌, ◌∷◌, [], List, Option, Some, None, Err, IsErr, IsErrAnd, Ok, Result, ap, arith, inr, length, map, refl, subst, sym, ◌∙◌}
use Rattle.std.proofs.lemmas.List.{append_assoc, length-append, map-append}
use Rattle.program_report.specs.declared.stop.Stop.{Stop}
use Rattle.broker_table.specs.declared.moment_line.Moments.{Moments}
use Rattle.minibroker.specs.Serving.{AreServed, Broker, Connection, HandsOut, ServesAll, Visit, Visits, visited}

-- so many connections were handed out and served
abbrev pub SoFar : ℕ → Moments → Broker → Broker → Option (List Connection) → Option (List Connection) → Type 0
SoFar n moments first now old new = (visits : List Visit) × ((length visits ≡ n) × (AreServed moments first visits now × HandsOut old new (map visited visits)))

served_more : (moments : Moments) (first mid last : Broker) (visits : List Visit) (v : Visit)
    → AreServed moments first visits mid → Visits moments mid v (Ok tt) last → AreServed moments first (visits ++ v ∷ []) last
served_more moments first mid last [] v same one = (last, (subst (λ (b : Broker). Visits moments b v (Ok tt) last) same one, refl))
served_more moments first mid last (u ∷ later) v (next, (front, behind)) one = (next, (front, served_more moments next mid last later v behind one))

handed_more : (old mid new : Option (List Connection)) (these those : List Connection)
    → HandsOut old mid these → HandsOut mid new those → HandsOut old new (these ++ those)
handed_more None mid new these those h k = tt
handed_more (Some before) mid new these those h k =
    subst (λ (m : Option (List Connection)). HandsOut m new those) h k ∙ ap Some (append_assoc before these those)

handed_behind : (old mid new : Option (List Connection)) (visits : List Visit) (v : Visit)
    → HandsOut old mid (map visited visits) → HandsOut mid new (visited v ∷ []) → HandsOut old new (map visited (visits ++ v ∷ []))
handed_behind old mid new visits v h k =
    subst (λ (these : List Connection). HandsOut old new these) (sym (map-append visited visits (v ∷ []))) (handed_more old mid new (map visited visits) (visited v ∷ []) h k)

pub one_more_served : (n : ℕ) (moments : Moments) (first mid last : Broker) (old now new : Option (List Connection)) (v : Visit)
    → SoFar n moments first mid old now → HandsOut now new (visited v ∷ []) → Visits moments mid v (Ok tt) last → SoFar (n + 1) moments first last old new
one_more_served n moments first mid last old now new v (visits, (many, (served, handed))) more one =
    (visits ++ v ∷ [], (omega (arith, length-append visits (v ∷ [])), (served_more moments first mid last visits v served one, handed_behind old now new visits v handed more)))

pub stopped_at : (n count : ℕ) (moments : Moments) (first mid last : Broker) (old now new : Option (List Connection)) (v : Visit) (stop : Stop)
    → SoFar n moments first mid old now → n < count → HandsOut now new (visited v ∷ []) → Visits moments mid v (Err stop) last → ServesAll count moments first (Err stop) last old new
stopped_at n count moments first mid last old now new v stop (visits, (many, (served, handed))) fewer more one =
    (visits, (omega arith, inr (mid, v, (served, (one, handed_behind old now new visits v handed more)))))

pub handed_on : (answer : Result (Unit {0}) Stop) (stop : Stop) (P : Result (Unit {0}) Stop → Type 0) → IsErr answer × IsErrAnd answer (λ (q : Stop). q ≡ stop) → P (Err stop) → P answer
handed_on (Ok x) stop P is h = absurd (let none = is.0 in cc)
handed_on (Err q) stop P is h = subst (λ (r : Stop). P (Err r)) (sym is.1) h
