-- What a crash cuts short may not have begun.
use Rattle.std.proofs.Common.{refl, ℕ, List, Option, None, Some, arith}
use Rattle.base_disk.specs.{Image.File, Image.Image, Torn.Torn, Torn.Tears, Torn.IsTornFile}

pub torn_not : (at n : ℕ) (xs : List ℕ) → Torn at n xs xs
torn_not at n xs = record { before = refl; after = refl; no_shorter = omega arith; no_longer = omega arith }

pub tears_not : (path : List ℕ) (step : List ℕ → List ℕ → Type 0) → ((xs : List ℕ) → step xs xs) → (c : Image) → Tears path step c c
tears_not path step whole c = record { elsewhere = λ other apart. refl; there = there (c path) }
  where
    there : (file : Option File) → IsTornFile step file file
    there None = tt
    there (Some file) = (refl, whole file.bytes)
