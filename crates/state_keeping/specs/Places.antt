-- Places: the paths of what an agent keeps, FILE and the files of its state folder.
-- Source: this project's own.
use Rattle.std.specs.Prelude.{◌≡◌, ℕ, List, ◌∷◌, ◌++◌, Bool, true, false, ◌||◌, codes}
use Rattle.std.specs.Str.{bytes_eq}
use Rattle.state_keeping.specs.declared.fault.PathsFault.{PathsFault}
use Rattle.state_keeping.specs.declared.fault.PathsFault.TheVariants.{InFolder, OutOfMemory}

pub record Places : Type 0 where
  pub file : List ℕ
  pub journal : List ℕ
  pub copy : List ℕ
  pub aside : List ℕ
  pub lock : List ℕ

-- the path of a file of that name in a folder
abbrev pub in_folder : List ℕ → List ℕ → List ℕ
in_folder folder name = folder ++ 47 ∷ name

abbrev pub places_of : List ℕ → List ℕ → Places
places_of file folder = record {
  file = file;
  journal = in_folder folder (codes "journal");
  copy = in_folder folder (codes "copy");
  aside = in_folder folder (codes "journal.set-aside");
  lock = in_folder folder (codes "lock");
}

-- FILE is one of those of the folder
abbrev pub is_inside : Places → Bool
is_inside p = bytes_eq p.file p.journal || (bytes_eq p.file p.copy || (bytes_eq p.file p.aside || bytes_eq p.file p.lock))

-- no file that is written is another one
pub record PlacesAreApart (p : Places) : Type 0 where
  pub inside : is_inside p ≡ false
  pub journal_copy : bytes_eq p.journal p.copy ≡ false
  pub journal_aside : bytes_eq p.journal p.aside ≡ false
  pub copy_aside : bytes_eq p.copy p.aside ≡ false

-- why there are no such paths
abbrev pub IsWhyNoPlaces : Places → PathsFault → Type 0
IsWhyNoPlaces p InFolder = is_inside p ≡ true
IsWhyNoPlaces p OutOfMemory = Unit {0}
