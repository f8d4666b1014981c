-- How stable items are (WIT, Feature Gates).
use Rattle.std.specs.Prelude.{◌≡◌, Option}
use Rattle.semver.specs.declared.Version.{Version}
use Rattle.wit_types.specs.declared.stability.Stability.{Stability}
use Rattle.wit_types.specs.declared.stability.Stability.TheVariants.{Unknown, Stable}

-- it has no gates
abbrev pub IsUnknown : Stability → Type 0
IsUnknown s = s ≡ Unknown

-- it is stable from a version on
abbrev pub IsStable : Stability → Type 0
IsStable s = (since : Version) × (deprecated : Option Version) × (s ≡ Stable since deprecated)
