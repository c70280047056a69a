-- Version: what is told of the build.
use Rattle.std.specs.Prelude.{ℕ, List, codes}

-- the labels of the metric that tells of it
unfoldable pub build_labels : List ℕ
build_labels = codes "{version=\"0.2.0\",proved=\"true\"}"
