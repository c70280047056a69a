-- Sizes: the certificate of few runs, or of a pair, over a forest is short, so that a file of it is read.
use Rattle.std.proofs.Common.{◌≡◌, ◌↔◌, ℕ, ◌+◌, ◌-◌, ◌*◌, ◌<◌, ◌≤◌, ◌++◌, List, [], ◌∷◌, codes, decimal, flat_map, length, nat_le, arith, inl, inr}
use Rattle.std.specs.List.{join_with_byte, list_all}
use Rattle.std.proofs.lemmas.{Bool.and_parts, Bool.cases_lt, Fmt.length-decimal-le, List.length-append}
use Rattle.std.proofs.Math.Nat.{mul-le-mul_right}
use Rattle.base_moment.specs.declared.moment.TheConstants.{LAST}
use Rattle.plan_forest.specs.{Forest.Forest, Forest.entry_at, declared.forest.TheConstants.NAME_MAX}
use Rattle.plan_forest.specs.Push.{IsForest, is_name, is_name_byte}
use Rattle.plan_rule.specs.{declared.limit.TheConstants.LIMIT, declared.run.Run.Run, Runs.wake_count}
use Rattle.plan_certificate.specs.{declared.cert.Body.Body, declared.cert.Version.TheVariants.Two, Printing.certified, declared.cert.TheConstants.MOST_CERTIFICATE}
use Rattle.plan_certificate.specs.declared.cert.Body.TheVariants.{Runs, Unkeepable}
use Rattle.plan_certificate.specs.CertificateText.{AreRunsOf, IsCertificateBody, IsRunOf, body_text, certificate_text, end_line_text, header_text, line_text, name_of_entry, run_text, start_text, unkeepable_text}
use Rattle.vault_inventory.proofs.Entered.{within_test}

-- the sizes of words, each with the byte after it
abbrev sizes : List (List ℕ) → ℕ
sizes [] = 0
sizes (w ∷ ws) = length w + 1 + sizes ws

joined_size : (ws : List (List ℕ)) → length (join_with_byte 32 ws) ≤ sizes ws
joined_size [] = omega arith
joined_size (w ∷ []) = omega arith
joined_size (w ∷ v ∷ ws) =
    let parts = length-append w (32 ∷ join_with_byte 32 (v ∷ ws)) in
    let rest = joined_size (v ∷ ws) in
    omega arith

line_size : (ws : List (List ℕ)) → length (line_text ws) ≤ sizes ws + 1
unfolding line_text
line_size ws = let parts = length-append (join_with_byte 32 ws) (10 ∷ []) in let words = joined_size ws in omega arith

-- a number is at most twelve digits, and a name at most sixty-four bytes
number_size : (n : ℕ) → n ≤ LAST → length (decimal n) ≤ 12
number_size n within = length-decimal-le 12 n (omega arith) (omega arith) (omega arith)

name_size : (g : Forest) → IsForest g → (i : ℕ) → i < length g.entries → length (name_of_entry g.entries i) ≤ 64
unfolding name_of_entry is_name
name_size g forest i within =
    let name = (entry_at g.entries i).name in
    let bounded = (and_parts _ _ (forest.placed i within).named).1 in
    within_test (length name) NAME_MAX (and_parts (nat_le (length name) NAME_MAX) (list_all is_name_byte name) bounded).0

-- the step of a run is at most its last moment
step_within : (r : Run) → (r.step ≡ 0) ↔ (r.count ≡ 1) → 0 < r.count → r.first + (r.count - 1) * r.step ≤ LAST → r.step ≤ LAST
step_within r lone some within =
    elim (cases_lt 1 r.count) [
      | inl more ↦ let some_more : 1 ≤ r.count - 1 = omega arith in let lower = mul-le-mul_right r.step some_more in omega arith
      | inr one ↦ let none = lone.1 (omega arith) in omega arith
    ]

run_size : (g : Forest) → IsForest g → (r : Run) → IsRunOf Two g.entries r → r.count ≤ LIMIT → length (run_text Two g.entries r) ≤ 174
unfolding run_text
run_size g forest r is few =
    let line = line_size (codes "run" ∷ decimal r.first ∷ decimal r.step ∷ decimal r.count ∷ name_of_entry g.entries r.entry ∷ name_of_entry g.entries r.needed ∷ []) in
    let within = is.run.moments.last in
    let a = number_size r.first (omega arith) in
    let b = number_size r.step (step_within r is.run.lone is.run.moments.some within) in
    let c = number_size r.count (omega arith) in
    let d = name_size g forest r.entry is.among.entry in
    let e = name_size g forest r.needed is.among.needed in
    omega arith

runs_size : (g : Forest) → IsForest g → (rs : List Run) → AreRunsOf Two g.entries rs → wake_count rs ≤ LIMIT → length (flat_map (run_text Two g.entries) rs) ≤ length rs * 174
runs_size g forest [] each few = omega arith
runs_size g forest (r ∷ rs) each few =
    let parts = length-append (run_text Two g.entries r) (flat_map (run_text Two g.entries) rs) in
    let here = run_size g forest r each.0 (omega arith) in
    let rest = runs_size g forest rs each.1 (omega arith) in
    omega arith

start_size : (s : ℕ) → s ≤ LAST → length (start_text s) ≤ 20
unfolding start_text
start_size s within = let line = line_size (codes "start" ∷ decimal s ∷ []) in let number = number_size s within in omega arith

end_size : (count : ℕ) → count ≤ LIMIT → length (end_line_text count) ≤ 18
unfolding end_line_text
end_size count few = let line = line_size (codes "end" ∷ decimal count ∷ []) in let number = number_size count (omega arith) in omega arith

pair_size : (g : Forest) → IsForest g → (entry needed : ℕ) → entry < length g.entries → needed < length g.entries → length (unkeepable_text g.entries entry needed) ≤ 142
unfolding unkeepable_text
pair_size g forest entry needed a b =
    let line = line_size (codes "unkeepable" ∷ name_of_entry g.entries entry ∷ name_of_entry g.entries needed ∷ []) in
    let first = name_size g forest entry a in
    let second = name_size g forest needed b in
    omega arith

-- a body of few runs
abbrev pub HasFewRuns : Forest → Body → Type 0
HasFewRuns g (Runs rs) = length rs ≤ 2 * length g.entries - 1
HasFewRuns g (Unkeepable entry needed) = Unit {0}

body_size : (g : Forest) → IsForest g → (b : Body) → IsCertificateBody Two g.entries b → HasFewRuns g b → length (body_text Two g.entries b) ≤ 8191 * 174 + 18
unfolding body_text
body_size g forest (Runs rs) is few =
    let parts = length-append (flat_map (run_text Two g.entries) rs) (end_line_text (wake_count rs)) in
    let runs = runs_size g forest rs is.0 is.1.1 in
    let last = end_size (wake_count rs) is.1.1 in
    let entries = forest.few in
    omega arith
body_size g forest (Unkeepable entry needed) is few = let line = pair_size g forest entry needed is.0 is.1 in omega arith

pub certificate_size : (g : Forest) → IsForest g → (s : ℕ) → s ≤ LAST → (b : Body) → IsCertificateBody Two g.entries b → HasFewRuns g b → length (certificate_text g.entries (certified s b)) ≤ MOST_CERTIFICATE
unfolding certificate_text header_text
certificate_size g forest s start b is few =
    let head = length-append (header_text Two) (start_text s ++ body_text Two g.entries b) in
    let behind = length-append (start_text s) (body_text Two g.entries b) in
    let second = start_size s start in
    let rest = body_size g forest b is few in
    omega arith
