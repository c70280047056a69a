-- Apart: of one kind no credential stands twice in an inventory, whatever tables it was read from.
use Rattle.std.proofs.Common.{◌≡◌, ℕ, zero, suc, ◌+◌, ◌<◌, true, false, ◌||◌, List, ◌∷◌, [], ◌++◌, length, bytes_eq, get_or, refl, sym, ap, ◌∙◌, subst, arith, ⊎_elim}
use Rattle.std.specs.{List.list_any, Cmp.Lexicographic.nat_list_eq_equiv}
use Rattle.std.proofs.lemmas.{Bool.cases_lt, Bool.or_right, List.length_push}
use Rattle.vault_inventory.specs.{Values.text, Inventories.credential_at, Intake.has_text}
use Rattle.vault_inventory.proofs.Inventories.{credential_new, credential_old}

-- ---- texts of which none stands twice

abbrev pub Unlike : List (List ℕ) → Type 0
Unlike texts = (i j : ℕ) → i < length texts → j < length texts → credential_at texts i ≡ credential_at texts j → i ≡ j

pub last_or_before : (n i : ℕ) (P : Type 0) → i < n + 1 → (i ≡ n → P) → (i < n → P) → P
last_or_before n i P h last before = ⊎_elim (λ below. before below) (λ above. last (omega (arith, above, h))) (cases_lt i n)

-- a text that stands there is held
held : (texts : List (List ℕ)) (i : ℕ) → i < length texts → has_text texts (credential_at texts i) ≡ true
unfolding has_text credential_at
held [] i h = absurd (omega (arith, h))
held (t ∷ ts) zero h = ap (λ b. b || list_any (λ u. bytes_eq u t) ts) (nat_list_eq_equiv.refl t)
held (t ∷ ts) (suc i) h = or_right (bytes_eq t (get_or ts i [])) _ (held ts i (omega (arith, h)))

fresh_not : (texts : List (List ℕ)) (text : List ℕ) (i : ℕ) → i < length texts → has_text texts text ≡ false → credential_at texts i ≡ text → ⊥
fresh_not texts text i h fresh same =
    let both : false ≡ true = sym fresh ∙ subst (λ t. has_text texts t ≡ true) same (held texts i h) in cc

pub unlike_more : (texts : List (List ℕ)) (text : List ℕ) → has_text texts text ≡ false → Unlike texts → Unlike (texts ++ text ∷ [])
unlike_more texts text fresh unlike i j a b same =
    let n = length texts in
    let l = length_push texts text in
    last_or_before n i (i ≡ j) (omega (arith, a, l))
    (λ ilast. last_or_before n j (i ≡ j) (omega (arith, b, l))
    (λ jlast. ilast ∙ sym jlast)
    (λ jold. absurd (fresh_not texts text j jold fresh (sym (credential_old texts text j jold) ∙ sym same ∙ ap (credential_at (texts ++ text ∷ [])) ilast ∙ credential_new texts text _ refl))))
    (λ iold. last_or_before n j (i ≡ j) (omega (arith, b, l))
    (λ jlast. absurd (fresh_not texts text i iold fresh (sym (credential_old texts text i iold) ∙ same ∙ ap (credential_at (texts ++ text ∷ [])) jlast ∙ credential_new texts text _ refl)))
    (λ jold. unlike i j iold jold (sym (credential_old texts text i iold) ∙ same ∙ credential_old texts text j jold)))
