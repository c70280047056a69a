-- Gathering: what rows give, one after another. For `gather`.
use Rattle.std.proofs.Common.{◌≡◌, ◌∙◌, ℕ, ◌+◌, List, [], ◌∷◌, ◌++◌, Option, None, Some, Result, Ok, Err, ap, append-nil, append_assoc, drop, refl, subst, sym}
use Rattle.state_changes.specs.{declared.row.Row.Row, declared.secret.Secret.Secret}
use Rattle.base_files.specs.Files.{FileIsRead, Files}
use Rattle.state_secrets.specs.{Credentials.placed, declared.credential.TheConstants.MOST_SECRET}
use Rattle.agent_words.specs.Gathering.{AreGathered, Gives, line_given, secret_in}
use Rattle.agent_words.proofs.Filled.{wants_as}

-- what was gathered so far, and what the rows from the index on give, is what all rows give; and the files still hold what they did
pub record GatheredSoFar (k now : Files) (folder : List ℕ) (rows : List Row) (secrets : List Secret) (said : List (List ℕ)) (i : ℕ) : Type 0 where
  pub all : (later : List Secret) (lines : List (List ℕ)) → AreGathered k folder (drop i rows) later lines → AreGathered k folder rows (secrets ++ later) (said ++ lines)
  pub same : (path : List ℕ) → now path ≡ k path

gives_as : (k now : Files) (folder : List ℕ) (row : Row) (gift : Option (Result Secret (List ℕ))) → ((path : List ℕ) → now path ≡ k path) → Gives now folder row gift → Gives k folder row gift
gives_as k now folder row None same h = h
gives_as k now folder row (Some (Ok secret)) same h = record {
  named = h.named;
  file = h.file;
  held = (h.held.0, (subst (λ o. FileIsRead o MOST_SECRET (Ok h.held.0)) (same (placed folder secret.file)) h.held.1.0, h.held.1.1));
}
gives_as k now folder row (Some (Err line)) same h = record { path = h.path; file = h.file; fault = h.fault; fails = wants_as now k (placed folder h.path) 0 h.fault same h.fails; says = h.says }

pub gathered_none : (k : Files) (folder : List ℕ) (rows : List Row) (secrets : List Secret) (said : List (List ℕ)) → secrets ≡ [] → said ≡ [] → GatheredSoFar k k folder rows secrets said 0
gathered_none k folder rows secrets said none silent =
    subst (λ (s : List Secret). GatheredSoFar k k folder rows s said 0) (sym none)
    (subst (λ (l : List (List ℕ)). GatheredSoFar k k folder rows [] l 0) (sym silent) (record { all = λ later lines are. are; same = λ path. refl }))

pub gathered_more : (k now after : Files) (folder : List ℕ) (rows : List Row) (i : ℕ) (row : Row) (gift : Option (Result Secret (List ℕ))) (secrets more : List Secret) (said lines : List (List ℕ)) →
    GatheredSoFar k now folder rows secrets said i → drop i rows ≡ row ∷ drop (i + 1) rows → Gives now folder row gift → ((path : List ℕ) → after path ≡ now path) →
    more ≡ secrets ++ secret_in gift → lines ≡ said ++ line_given gift → GatheredSoFar k after folder rows more lines (i + 1)
gathered_more k now after folder rows i row gift secrets more said lines so here gives same grown told = record {
  all = λ later rest are.
      let e = so.all (secret_in gift ++ later) (line_given gift ++ rest)
      (subst (λ rs. AreGathered k folder rs (secret_in gift ++ later) (line_given gift ++ rest)) (sym here) (gift, (gives_as k now folder row gift so.same gives, (later, (rest, (are, (refl, refl))))))) in
      let taken : secrets ++ (secret_in gift ++ later) ≡ more ++ later = sym (append_assoc secrets (secret_in gift) later) ∙ ap (λ l. l ++ later) (sym grown) in
      let says : said ++ (line_given gift ++ rest) ≡ lines ++ rest = sym (append_assoc said (line_given gift) rest) ∙ ap (λ l. l ++ rest) (sym told) in
      subst (λ (s : List Secret). AreGathered k folder rows s (lines ++ rest)) taken (subst (λ (l : List (List ℕ)). AreGathered k folder rows (secrets ++ (secret_in gift ++ later)) l) says e);
  same = λ path. same path ∙ so.same path;
}

pub gathered_all : (k now : Files) (folder : List ℕ) (rows : List Row) (secrets : List Secret) (said : List (List ℕ)) (i : ℕ) → GatheredSoFar k now folder rows secrets said i → drop i rows ≡ [] → AreGathered k folder rows secrets said
gathered_all k now folder rows secrets said i so none =
    subst (λ (s : List Secret). AreGathered k folder rows s said) (append-nil secrets)
    (subst (λ (l : List (List ℕ)). AreGathered k folder rows (secrets ++ []) l) (append-nil said) (so.all [] [] (subst (λ rs. AreGathered k folder rs [] []) (sym none) (refl, refl))))
