-- Packages that are pushed together (WIT, Packages).
use Rattle.std.specs.Prelude.{◌≡◌, ℕ, ◌+◌, ◌⊎◌, Bool, List, [], ◌∷◌, length, Some, slice_get}
use Rattle.wit_words.specs.declared.source_map.Span.{Span}
use Rattle.wit_types.specs.declared.«package».PackageName.{PackageName}
use Rattle.wit_types.specs.declared.«package».UnresolvedPackage.{UnresolvedPackage}
use Rattle.wit_features.specs.Features.{FeatureSet}
use Rattle.wit_graph.specs.Passed.wit_graph_parts-declared-fault-PushFault.{PushFault}
use Rattle.wit_graph.specs.Passed.wit_graph_parts-declared-fault-PushFault-TheVariants.{OutOfMemory}
use Rattle.wit_graph.specs.Graph.{Graph, IsGraph}
use Rattle.wit_graph.specs.Push.{IsPushed, IsPushCause}
use Rattle.wit_package_order.specs.Packages.{ClosesCircle, IsOrder, AreAt}
use Rattle.wit_package_order.specs.Packages as order
use Rattle.wit_package_order.specs.declared.fault.PackageOrderFault.{PackageOrderFault}
use Rattle.wit_package_order.specs.declared.fault.PackageOrderFault.TheVariants as ordering
use Rattle.wit_groups.specs.declared.fault.GroupFault.{GroupFault}
use Rattle.wit_groups.specs.declared.fault.GroupFault.TheVariants.{PackageCycle, ComesTwice, Push}

abbrev pub of_order : PackageOrderFault → GroupFault
of_order (ordering.Cycle at) = PackageCycle at
of_order (ordering.ComesTwice at) = ComesTwice at
of_order ordering.OutOfMemory = Push OutOfMemory

module _ (eq : PackageName → PackageName → Bool) (features : FeatureSet) where
  -- each is pushed into the graph with those before it, and what is there then holds together
  abbrev pub ArePushed : Graph → List UnresolvedPackage → Graph → Type 0
  ArePushed old [] new = new ≡ old
  ArePushed old (p ∷ ps) new = (next : Graph) × IsGraph next × IsPushed eq features old p next (length old.tables.packages) × ArePushed next ps new

  -- one of them is refused by the graph with those before it
  abbrev pub OneIsRefused : Graph → List UnresolvedPackage → PushFault → Type 0
  OneIsRefused old [] fault = ⊥
  OneIsRefused old (p ∷ ps) fault = IsPushCause eq features old p fault ⊎ ((next : Graph) × IsPushed eq features old p next (length old.tables.packages) × OneIsRefused next ps fault)

  module _ (old : Graph) (ps : List UnresolvedPackage) where
    -- all are there, each behind all on which it depends; the id is that of the first
    pub record AreTogether (new : Graph) (id : ℕ) : Type 0 where
      pub distinct : (at : Span) → order.ComesTwice eq ps at → ⊥
      pub no_circle : (at : Span) → ClosesCircle eq ps at → ⊥
      pub order : List ℕ
      pub is_order : IsOrder eq ps order
      pub sorted : List UnresolvedPackage
      pub are_sorted : AreAt ps order sorted
      pub pushed : ArePushed old sorted new
      pub place : ℕ
      pub first : slice_get order place ≡ Some 0
      pub id_is : id ≡ length old.tables.packages + place

    -- pushed in their order one of them is refused
    pub record IsRefusedInOrder (fault : PushFault) : Type 0 where
      pub order : List ℕ
      pub is_order : IsOrder eq ps order
      pub sorted : List UnresolvedPackage
      pub are_sorted : AreAt ps order sorted
      pub refused : OneIsRefused old sorted fault

    abbrev pub IsTogetherCause : GroupFault → Type 0
    IsTogetherCause (PackageCycle at) = ClosesCircle eq ps at
    IsTogetherCause (ComesTwice at) = order.ComesTwice eq ps at
    IsTogetherCause (Push fault) = (fault ≡ OutOfMemory) ⊎ IsRefusedInOrder fault
