-- Packages that come to a graph together (WIT, Packages).
use Rattle.std.specs.Prelude.{◌≡◌, ℕ, ◌⊎◌, suc, Bool, true, List, [], ◌∷◌, map, take, is_some, length, Option, Some, slice_get}
use Rattle.std.specs.Map.{lookup}
use Rattle.wit_words.specs.declared.source_map.Span.{Span}
use Rattle.wit_types.specs.declared.«package».PackageName.{PackageName}
use Rattle.wit_types.specs.declared.«package».UnresolvedPackage.{UnresolvedPackage}
use Rattle.wit_order.specs.Order.{Leads, IsLeastOrder}

-- the names, each with its place
abbrev pub named_from : ℕ → List UnresolvedPackage → List (PackageName × ℕ)
named_from n [] = []
named_from n (p ∷ ps) = (p.name, n) ∷ named_from (suc n) ps

abbrev pub named : List UnresolvedPackage → List (PackageName × ℕ)
named ps = named_from 0 ps

-- the packages of which a package asks for something, by their names
abbrev pub asked : UnresolvedPackage → List PackageName
asked p = map (λ d. d.0) p.foreign_deps.entries

module _ (eq : PackageName → PackageName → Bool) (ps : List UnresolvedPackage) where
  -- the place of the package of that name
  abbrev pub place_of : PackageName → Option ℕ
  place_of name = lookup (eq name) (named ps)

  -- a package has the name of one before it: where that name stands
  pub record ComesTwice (at : Span) : Type 0 where
    pub place : ℕ
    pub again : UnresolvedPackage
    pub there : slice_get ps place ≡ Some again
    pub before : is_some (lookup (eq again.name) (named (take place ps))) ≡ true
    pub stands : at ≡ again.name_span

  -- the package at place i asks for that at place j, by the name that stands at place k among those it asks for
  pub record Asks (i k j : ℕ) : Type 0 where
    pub one : UnresolvedPackage
    pub there : slice_get ps i ≡ Some one
    pub name : PackageName
    pub asked_for : slice_get (asked one) k ≡ Some name
    pub found : place_of name ≡ Some j

  abbrev pub DependsOn : ℕ → ℕ → Type 0
  DependsOn i j = (k : ℕ) × Asks i k j

  -- packages depend on each other in a circle: there one of them asks for the next
  pub record ClosesCircle (at : Span) : Type 0 where
    pub from : ℕ
    pub place : ℕ
    pub to : ℕ
    pub asks : Asks from place to
    pub back : (to ≡ from) ⊎ ((via : List ℕ) × Leads (length ps) DependsOn to via from)
    pub stands : slice_get asks.one.foreign_dep_spans.items place ≡ Some at

  -- each behind all on which it depends, and of all such orders the least by position
  abbrev pub IsOrder : List ℕ → Type 0
  IsOrder order = IsLeastOrder (length ps) DependsOn order

-- the packages at these places
abbrev pub AreAt : List UnresolvedPackage → List ℕ → List UnresolvedPackage → Type 0
AreAt ps order sorted = map (slice_get ps) order ≡ map (λ p. Some p) sorted
