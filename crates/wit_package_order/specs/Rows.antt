-- Packages by places: on which each depends, in the order in which it asks for them.
use Rattle.std.specs.Prelude.{◌≡◌, ℕ, Bool, List, [], ◌∷◌, map, flat_map, length, Option, Some, None, slice_get}
use Rattle.std.specs.Map.{lookup}
use Rattle.wit_words.specs.declared.source_map.Span.{Span}
use Rattle.wit_types.specs.declared.«package».PackageName.{PackageName}
use Rattle.wit_types.specs.declared.«package».UnresolvedPackage.{UnresolvedPackage}
use Rattle.wit_order.specs.Order.{Has}
use Rattle.wit_order.specs.Places.{Rows}
use Rattle.wit_package_order.specs.Packages.{asked, ComesTwice, ClosesCircle, IsOrder}
use Rattle.wit_package_order.specs.declared.fault.PackageOrderFault.{PackageOrderFault}
use Rattle.wit_package_order.specs.declared.fault.PackageOrderFault.TheVariants.{Cycle, ComesTwice as Twice, OutOfMemory}

abbrev pub some_place : Option ℕ → List ℕ
some_place None = []
some_place (Some p) = p ∷ []

module _ (eq : PackageName → PackageName → Bool) (names : List (PackageName × ℕ)) where
  -- the places of what is asked for; a name that is none of these has none
  abbrev pub places_in : List PackageName → List ℕ
  places_in asks = flat_map (λ n. some_place (lookup (eq n) names)) asks

  abbrev pub AreRows : List UnresolvedPackage → Rows → Type 0
  AreRows ps rows = map (λ r. r.items) rows ≡ map (λ p. places_in (asked p)) ps

  -- it asks for that at the place there
  pub record IsAskedAt (one : UnresolvedPackage) (to : ℕ) (at : Span) : Type 0 where
    pub place : ℕ
    pub name : PackageName
    pub asked_for : slice_get (asked one) place ≡ Some name
    pub found : lookup (eq name) names ≡ Some to
    pub stands : slice_get one.foreign_dep_spans.items place ≡ Some at

-- it is said of all for which they ask where that stands
abbrev pub HaveSpans : List UnresolvedPackage → Type 0
HaveSpans ps = (p : UnresolvedPackage) → Has ps p → length p.foreign_dep_spans.items ≡ length p.foreign_deps.entries

module _ (eq : PackageName → PackageName → Bool) (ps : List UnresolvedPackage) where
  -- there is an order
  pub record IsOrdered (order : List ℕ) : Type 0 where
    pub distinct : (at : Span) → ComesTwice eq ps at → ⊥
    pub no_circle : (at : Span) → ClosesCircle eq ps at → ⊥
    pub is_order : IsOrder eq ps order

  abbrev pub IsOrderCause : PackageOrderFault → Type 0
  IsOrderCause (Cycle at) = ClosesCircle eq ps at
  IsOrderCause (Twice at) = ComesTwice eq ps at
  IsOrderCause OutOfMemory = Unit {0}
