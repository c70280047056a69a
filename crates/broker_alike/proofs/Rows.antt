-- Rows: a sweep leaves, and a search finds, the same rows but for credentials.
use Rattle.std.specs.Prelude.{◌↔◌}
use Rattle.std.proofs.Common.{◌≡◌, ◌∙◌, ℕ, zero, suc, ◌<◌, ◌&&◌, Bool, true, false, not, cond, List, [], ◌∷◌, Option, Some, None, bytes_eq, filter, length, map, nat_lt, refl, sym, ap, subst, inl, inr}
use Rattle.std.proofs.lemmas.Bool.{cases_Bool}
use Rattle.std.specs.{Cmp.Lexicographic.bytes_decides, List.AllZip, List.find}
use Rattle.plan_forest.specs.{declared.entry.Kind.Kind, declared.forest.TheConstants.MAX_ENTRIES, Forest.Forest, Forest.entry_at, Push.is_lease}
use Rattle.plan_forest.specs.declared.entry.Kind.TheVariants.{Token, Lease}
use Rattle.vault_inventory.specs.Inventories.{credential_at}
use Rattle.broker_rule.specs.{declared.row.BrokerRow.BrokerRow, Renewing.with_row, Rows.row_named}
use Rattle.broker_rule.specs.Subject.{is_lease_with, is_token_with, lease_with, token_with}
use Rattle.broker_rule.specs.Sweep.{lives, lives_of, parent_passes, passes, swept}
use Rattle.broker_alike.specs.Alike.{AreRowsAlike}

-- ---- two lists, row by row

pub by_test : {X Y : Type 0} (P : X → Y → Type 0) (b c : Bool) (x y : X) (u v : Y) → c ≡ b → (b ≡ true → P x u) → (b ≡ false → P y v) → P (cond b x y) (cond c u v)
by_test P true c x y u v same there gone = subst (λ d. P x (cond d u v)) (sym same) (there refl)
by_test P false c x y u v same there gone = subst (λ d. P y (cond d u v)) (sym same) (gone refl)

-- what is found in both: nothing, or two that are alike, and pass
abbrev pub BothFound : {X : Type 0} → (X → X → Type 0) → (X → Bool) → (X → Bool) → Option X → Option X → Type 0
BothFound R p q None None = Unit {0}
BothFound R p q (Some x) (Some y) = R x y × ((p x ≡ true) × (q y ≡ true))
BothFound R p q _ _ = ⊥

module _ {X : Type 0} (R : X → X → Type 0) where
  pub find_both : (p q : X → Bool) → ((x y : X) → R x y → q y ≡ p x) → (xs ys : List X) → AllZip R xs ys → BothFound R p q (find p xs) (find q ys)
  find_both p q same [] [] zip = tt
  find_both p q same (x ∷ xs) (y ∷ ys) zip =
      by_test (BothFound R p q) (p x) (q y) (Some x) (find p xs) (Some y) (find q ys) (same x y zip.0)
      (λ yes'. (zip.0, (yes', same x y zip.0 ∙ yes'))) (λ no'. find_both p q same xs ys zip.1)
  find_both p q same _ _ zip = absurd zip

  pub filter_both : (p q : X → Bool) → ((x y : X) → R x y → q y ≡ p x) → (xs ys : List X) → AllZip R xs ys → AllZip R (filter p xs) (filter q ys)
  filter_both p q same [] [] zip = tt
  filter_both p q same (x ∷ xs) (y ∷ ys) zip =
      let rest = filter_both p q same xs ys zip.1 in
      by_test (AllZip R) (p x) (q y) (x ∷ filter p xs) (filter p xs) (y ∷ filter q ys) (filter q ys) (same x y zip.0) (λ yes'. (zip.0, rest)) (λ no'. rest)
  filter_both p q same _ _ zip = absurd zip

  pub map_both : (f h : X → X) → ((x y : X) → R x y → R (f x) (h y)) → (xs ys : List X) → AllZip R xs ys → AllZip R (map f xs) (map h ys)
  map_both f h keeps [] [] zip = tt
  map_both f h keeps (x ∷ xs) (y ∷ ys) zip = (keeps x y zip.0, map_both f h keeps xs ys zip.1)
  map_both f h keeps _ _ zip = absurd zip

-- ---- tests of rows

-- two texts are the same where two others are
pub eq_both : (a b c d : List ℕ) → (a ≡ b) ↔ (c ≡ d) → bytes_eq c d ≡ bytes_eq a b
eq_both a b c d same = elim (cases_Bool (bytes_eq a b)) [
  | inl yes' ↦ (bytes_decides c d).1 (same.0 ((bytes_decides a b).0 yes')) ∙ sym yes'
  | inr no' ↦ elim (cases_Bool (bytes_eq c d)) [
    | inl there ↦ there ∙ sym ((bytes_decides a b).1 (same.1 ((bytes_decides c d).0 there)))
    | inr not_there ↦ not_there ∙ sym no'
  ]
]

if_token : (k : Kind) (b c : Bool) → (k ≡ Token → c ≡ b) → not (is_lease k) && c ≡ not (is_lease k) && b
if_token Token b c same = same refl
if_token Lease b c same = refl

if_lease : (k : Kind) (b c : Bool) → (k ≡ Lease → c ≡ b) → is_lease k && c ≡ is_lease k && b
if_lease Token b c same = refl
if_lease Lease b c same = same refl

module _ (g : Forest) (cs ds : List (List ℕ)) where
  abbrev pub R : BrokerRow → BrokerRow → Type 0
  R = AreRowsAlike g cs ds

  pub name_both : (r q : BrokerRow) → R r q → q.name ≡ r.name
  name_both r q a = ap (λ (x : BrokerRow). x.name) a.same

  kind_both : (r q : BrokerRow) → R r q → q.kind ≡ r.kind
  kind_both r q a = ap (λ (x : BrokerRow). x.kind) a.same

  pub token_both : (i : ℕ) → i < length g.entries → (entry_at g.entries i).kind ≡ Token → (r q : BrokerRow) → R r q → is_token_with (credential_at ds i) q ≡ is_token_with (credential_at cs i) r
  unfolding is_token_with
  token_both i within token r q a =
      ap (λ k. not (is_lease k) && bytes_eq q.credential (credential_at ds i)) (kind_both r q a)
      ∙ if_token r.kind (bytes_eq r.credential (credential_at cs i)) (bytes_eq q.credential (credential_at ds i))
      (λ is. eq_both r.credential (credential_at cs i) q.credential (credential_at ds i) (a.found i within (token ∙ sym is)))

  pub lease_both : (i : ℕ) → i < length g.entries → (entry_at g.entries i).kind ≡ Lease → (r q : BrokerRow) → R r q → is_lease_with (credential_at ds i) q ≡ is_lease_with (credential_at cs i) r
  unfolding is_lease_with
  lease_both i within lease r q a =
      ap (λ k. is_lease k && bytes_eq q.credential (credential_at ds i)) (kind_both r q a)
      ∙ if_lease r.kind (bytes_eq r.credential (credential_at cs i)) (bytes_eq q.credential (credential_at ds i))
      (λ is. eq_both r.credential (credential_at cs i) q.credential (credential_at ds i) (a.found i within (lease ∙ sym is)))

  -- ---- a sweep

  module _ (xs ys : List BrokerRow) (zip : AllZip R xs ys) where
    named_both : (name : List ℕ) → BothFound R (λ (r : BrokerRow). bytes_eq r.name name) (λ (r : BrokerRow). bytes_eq r.name name) (row_named xs name) (row_named ys name)
    unfolding row_named
    named_both name = find_both R (λ (r : BrokerRow). bytes_eq r.name name) (λ (r : BrokerRow). bytes_eq r.name name) (λ r q a. ap (λ n. bytes_eq n name) (name_both r q a)) xs ys zip

    found_passes : (p q test : BrokerRow → Bool) (other : BrokerRow → Bool) → ((r z : BrokerRow) → R r z → other z ≡ test r) → (x y : Option BrokerRow) → BothFound R p q x y → passes other y ≡ passes test x
    found_passes p q test other same None None both = refl
    found_passes p q test other same (Some x) (Some y) both = same x y both.0
    found_passes p q test other same _ _ both = absurd both

    parents_pass : (test other : BrokerRow → Bool) → ((r z : BrokerRow) → R r z → other z ≡ test r) → (o : Option (List ℕ)) → parent_passes other ys o ≡ parent_passes test xs o
    parents_pass test other same None = refl
    parents_pass test other same (Some name) =
        found_passes (λ (r : BrokerRow). bytes_eq r.name name) (λ (r : BrokerRow). bytes_eq r.name name) test other same (row_named xs name) (row_named ys name) (named_both name)

    lives_both_of : (n t : ℕ) (r q : BrokerRow) → R r q → lives_of n ys t q ≡ lives_of n xs t r
    unfolding lives_of
    lives_both_of zero t r q a = refl
    lives_both_of (suc n) t r q a =
        ap (λ (x : BrokerRow). nat_lt t x.end && parent_passes (lives_of n ys t) ys x.parent) a.same
        ∙ ap (λ b. nat_lt t r.end && b) (parents_pass (lives_of n xs t) (lives_of n ys t) (lives_both_of n t) r.parent)

    lives_both : (t : ℕ) (r q : BrokerRow) → R r q → lives ys t q ≡ lives xs t r
    unfolding lives
    lives_both t r q a = lives_both_of MAX_ENTRIES t r q a

    pub swept_both : (t : ℕ) → AllZip R (swept t xs) (swept t ys)
    unfolding swept
    swept_both t = filter_both R (lives xs t) (lives ys t) (lives_both t) xs ys zip

    -- ---- a renewed row

    pub with_both : (r q : BrokerRow) → R r q → AllZip R (with_row xs r) (with_row ys q)
    unfolding with_row
    with_both r q a =
        map_both R (λ (x : BrokerRow). cond (bytes_eq x.name r.name) r x) (λ (y : BrokerRow). cond (bytes_eq y.name q.name) q y)
        (λ x y b.
        by_test R (bytes_eq x.name r.name) (bytes_eq y.name q.name) r x q y (ap (λ n. bytes_eq n q.name) (name_both x y b) ∙ ap (bytes_eq x.name) (name_both r q a))
        (λ yes'. a) (λ no'. b)) xs ys zip

    -- ---- who is found

    pub token_found_both : (i : ℕ) → i < length g.entries → (entry_at g.entries i).kind ≡ Token →
        BothFound R (is_token_with (credential_at cs i)) (is_token_with (credential_at ds i)) (token_with xs (credential_at cs i)) (token_with ys (credential_at ds i))
    unfolding token_with
    token_found_both i within token = find_both R (is_token_with (credential_at cs i)) (is_token_with (credential_at ds i)) (token_both i within token) xs ys zip

    pub lease_found_both : (i : ℕ) → i < length g.entries → (entry_at g.entries i).kind ≡ Lease →
        BothFound R (is_lease_with (credential_at cs i)) (is_lease_with (credential_at ds i)) (lease_with xs (credential_at cs i)) (lease_with ys (credential_at ds i))
    unfolding lease_with
    lease_found_both i within lease = find_both R (is_lease_with (credential_at cs i)) (is_lease_with (credential_at ds i)) (lease_both i within lease) xs ys zip
