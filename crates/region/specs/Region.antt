-- Lent bytes as a region.
use Rattle.std.specs.Prelude.{cond, ltb, length, ℕ, List, Option, Some, None}
use Rattle.region.specs.Layout.{size}

-- these bytes, where they are enough for a region
abbrev pub region_of : List ℕ → Option (List ℕ)
region_of t = cond (ltb (length t) size) None (Some t)
