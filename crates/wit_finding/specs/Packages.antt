-- Packages by their names (WIT, Package Names).
use Rattle.std.specs.Prelude.{◌≡◌, ℕ, Bool, List, Some, None, slice_get}
use Rattle.std.specs.List.{AllZip}
use Rattle.std.specs.Map.{lookup}
use Rattle.wit_words.specs.declared.source_map.Span.{Span}
use Rattle.wit_finding.specs.declared.fault.FindFault.{FindFault}
use Rattle.wit_finding.specs.declared.fault.FindFault.TheVariants.{PackageNotFound, ItemNotFound, OutOfMemory}

module _ {K V : Type 0} (eq : K → K → Bool) (names : List (K × ℕ)) where
  -- the package of each name
  abbrev pub AreNamed : List (K × V) → List ℕ → Type 0
  AreNamed deps ids = AllZip (λ (d : K × V) (i : ℕ). lookup (eq d.0) names ≡ Some i) deps ids

  -- a name is that of no package: a break where it is said to stand
  pub record PackagesBreak (deps : List (K × V)) (spans : List Span) (at : Span) : Type 0 where
    pub place : ℕ
    pub dep : K × V
    pub there : slice_get deps place ≡ Some dep
    pub unknown : lookup (eq dep.0) names ≡ None
    pub stands : slice_get spans place ≡ Some at

  abbrev pub IsPackageCause : List (K × V) → List Span → FindFault → Type 0
  IsPackageCause deps spans (PackageNotFound at) = PackagesBreak deps spans at
  IsPackageCause deps spans (ItemNotFound at) = ⊥
  IsPackageCause deps spans OutOfMemory = Unit {0}
