-- Extending a stretch: until when one that has joined leads, and how many wake-ups that is.
use Rattle.std.proofs.Common.{◌≡◌, ℕ, zero, suc, ◌+◌, ◌-◌, ◌*◌, ◌/◌, ◌<◌, ◌≤◌, Some, length, sym, ap, ◌∙◌, subst, arith, inl, inr}
use Rattle.std.proofs.Math.Nat.{div-mul-le_self, mul-le-mul_right}
use Rattle.std.proofs.lemmas.Bool.{cases_lt}
use Rattle.base_moment.specs.declared.moment.TheConstants.{LAST}
use Rattle.plan_schedule.specs.{declared.groups.Groups.Groups, declared.groups.Next.Next, code.Groups.IsGrouped, code.Groups.IsHeadOfJoined, code.Groups.Joins, code.Groups.SettlesGroups, code.Groups.StandsWaiting, code.Line.FirstOf}
use Rattle.plan_schedule.specs.{code.Stretches.Stretches, Prospect.Prospect, Prospect.terms_of, Terms.Ahead, Terms.Leads, Terms.Terms, code.Sound.TermsAreSound}
use Rattle.plan_schedule.proofs.{Grouping.join_leads, Grouping.later, Leading.ahead, Moves.first_key, Moves.none_ahead}

pub in_reach : (j u last d : ℕ) → last < u → 0 < d → j < (u - last - 1) / d + 1 → last + j * d < u
in_reach j u last d later gains within =
    let a = div-mul-le_self (u - last - 1) d in
    let b : j * d ≤ ((u - last - 1) / d) * d = mul-le-mul_right {m = j} {n = (u - last - 1) / d} d (omega arith) in
    omega arith

pub in_room : (n u last d : ℕ) → last < u → 0 < d → n ≤ (u - last - 1) / d + 1 → last + n * d < u + d
in_room n u last d later gains within =
    let a = div-mul-le_self (u - last - 1) d in
    let b : n * d ≤ ((u - last - 1) / d + 1) * d = mul-le-mul_right {m = n} {n = (u - last - 1) / d + 1} d within in
    let c : ((u - last - 1) / d + 1) * d ≡ ((u - last - 1) / d) * d + d = omega arith in
    omega arith

-- one that has joined and leads now goes on to lead before its need, as long as the first that waits does not come before it
pub until_front :
    (o : Prospect) (last f h v : ℕ) (g : Groups) → IsGrouped o (Some last) g → IsHeadOfJoined (terms_of o) last (StandsWaiting (terms_of o) g) (Joins (terms_of o) g) f → FirstOf g.waits.spots (Some h) → last ≤ v → v + (terms_of o).step f < (terms_of o).need f →
    Ahead (v + (terms_of o).step f) f ((terms_of o).end h) h → Leads (terms_of o) (Some v) f
until_front o last f h v g grouped head front le short before =
    let first = first_key (terms_of o).end (length o.loads) h g.waits.spots grouped.filed.waits front in
    join_leads (terms_of o) v f (StandsWaiting (terms_of o) g) (Joins (terms_of o) g) (later (terms_of o) last v (StandsWaiting (terms_of o) g) (Joins (terms_of o) g) le grouped.grouped) head.joined short head.joins
    (λ i w. let a = none_ahead (terms_of o).end h g.waits.spots first i w in ahead _ _ _ _ (omega arith) (λ e. omega arith))

-- the last of so many is a moment
pub reach_moment :
    (t : Terms) (f last u c d : ℕ) → TermsAreSound t → t.end f < t.need f → d ≡ t.step f - t.margin → last < u → ((w : ℕ) → last ≤ w → w < u → Leads t (Some w) f) →
    0 < c → c ≤ (u - last - 1) / d + 1 → last + c * d ≤ LAST
reach_moment t f last u c d sound short is later leads some fits =
    let gains = sound.step f short in
    let need = sound.need f in
    let before = in_reach (c - 1) u last d later (omega arith) (omega arith) in
    let there = (leads (last + (c - 1) * d) (omega arith) before).short in
    let sum : c * d ≡ (c - 1) * d + d = product c d some in
    omega arith where
      product : (c d : ℕ) → 0 < c → c * d ≡ (c - 1) * d + d
      product zero d some = absurd (omega arith)
      product (suc c) d some = let e : suc c - 1 ≡ c = omega arith in (let s : suc c * d ≡ c * d + d = omega arith in s ∙ ap (λ k. k * d + d) (sym e))

pub grouped_later : (o : Prospect) (v w : ℕ) (g : Groups) → v ≤ w → IsGrouped o (Some v) g → IsGrouped o (Some w) g
grouped_later o v w g le grouped = record { filed = grouped.filed; grouped = later (terms_of o) v w (StandsWaiting (terms_of o) g) (Joins (terms_of o) g) le grouped.grouped }

-- a stretch of more wake-ups
pub stretched :
    (o : Prospect) (f first most more last u c d v : ℕ) (old mid new : Groups) (next next' : Next) → TermsAreSound (terms_of o) → (terms_of o).end f < (terms_of o).need f → d ≡ (terms_of o).step f - (terms_of o).margin →
    Stretches o f first most old mid more last next → last < u → ((w : ℕ) → last ≤ w → w < u → Leads (terms_of o) (Some w) f) →
    0 < c → c ≤ (u - last - 1) / d + 1 → more + c < most → v ≡ last + c * d → SettlesGroups o v mid new next' →
    Stretches o f first most old new (more + c) v next'
stretched o f first most more last u c d v old mid new next next' sound short step so_far later leads some fits within is settles =
    let gains = sound.step f short in
    let ends : last ≡ first + more * d = so_far.ends ∙ ap (λ (e : ℕ). first + more * e) (sym step) in
    let both : (more + c) * d ≡ more * d + c * d = omega arith in
    let moment = reach_moment (terms_of o) f last u c d sound short step later leads some fits in
    let shrunk = so_far.settles.shrinks in
    let shrinks = settles.shrinks in
    let fewer = shrunk.fewer in
    let fewer' = shrinks.fewer in
    record {
      within = within;
      ends = (let e : v ≡ first + (more + c) * d = omega arith in e ∙ ap (λ (e : ℕ). first + (more + c) * e) step);
      moment = (let e : v ≤ LAST = omega arith in e);
      leads = λ k h. elim (cases_lt k more) [
        | inl old' ↦ so_far.leads k old'
        | inr new' ↦
            let j = k - more in
            let split : first + k * ((terms_of o).step f - (terms_of o).margin) ≡ last + j * d = ap (λ (e : ℕ). first + k * e) (sym step) ∙ shifted first last more d k j ends (omega arith) in
            subst (λ (w : ℕ). Leads (terms_of o) (Some w) f) (sym split) (leads (last + j * d) (omega arith) (in_reach j u last d later (omega arith) (omega arith)))
      ];
      settles = record {
        shrinks = record {
          grouped = shrinks.grouped;
          fewer = omega arith;
          same = λ e.
              let a = shrinks.same (omega arith) in
              let b = shrunk.same (omega arith) in
              (a.0 ∙ b.0, a.1 ∙ b.1);
        };
        settled = settles.settled;
      };
    } where
      shifted : (first last more d k j : ℕ) → last ≡ first + more * d → k ≡ more + j → first + k * d ≡ last + j * d
      shifted first last more d k j is split = let e : k * d ≡ (more + j) * d = ap (λ m. m * d) split in omega arith
