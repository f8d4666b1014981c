-- A package that a graph takes had no cause to be refused, but for want of memory (WIT, Packages).
use Rattle.std.specs.Prelude.{◌≡◌, ℕ, Bool, List}
use Rattle.wit_order.specs.Order.{Has}
use Rattle.wit_types.specs.declared.«package».PackageName.{PackageName}
use Rattle.wit_types.specs.declared.«package».UnresolvedPackage.{UnresolvedPackage}
use Rattle.wit_features.specs.Features.{FeatureSet}
use Rattle.wit_groups.specs.Passed.wit_graph_parts-declared-fault-PushFault.{PushFault}
use Rattle.wit_groups.specs.Passed.wit_graph_parts-declared-fault-PushFault-TheVariants.{OutOfMemory}
use Rattle.wit_groups.specs.Passed.wit_graph-Graph.{Graph}
use Rattle.wit_groups.specs.Passed.wit_graph-Push.{IsPushed, IsPushCause}
use Rattle.wit_groups.specs.Pushed.{AreTogether, IsTogetherCause}
use Rattle.wit_groups.specs.declared.fault.GroupFault.{GroupFault}
use Rattle.wit_groups.specs.declared.fault.GroupFault.TheVariants.{Push}
use Rattle.wit_push_causes.specs.Asked.{AsksForOne}
use Rattle.wit_push_causes.specs.Graphs.{IsSameGraph}

-- ---- one package

-- where the graph takes it, no fault but want of memory has a cause in it
abbrev pub PushedPackagesHaveNoCause : Type 0
PushedPackagesHaveNoCause =
    (eq : PackageName → PackageName → Bool) (features : FeatureSet) (old : Graph) (p : UnresolvedPackage) (new : Graph) (id : ℕ) (fault : PushFault)
    → AsksForOne p → IsPushed eq features old p new id → IsPushCause eq features old p fault → fault ≡ OutOfMemory

-- nor in a graph that says the same
abbrev pub PushedPackagesHaveNoCauseElsewhere : Type 0
PushedPackagesHaveNoCauseElsewhere =
    (eq : PackageName → PackageName → Bool) (features : FeatureSet) (old other : Graph) (p : UnresolvedPackage) (new : Graph) (id : ℕ) (fault : PushFault)
    → AsksForOne p → IsSameGraph old other → IsPushed eq features old p new id → IsPushCause eq features other p fault → fault ≡ OutOfMemory

-- graphs that say the same still do with the package, which has one id in both
abbrev pub PushedGraphsSayTheSame : Type 0
PushedGraphsSayTheSame =
    (eq : PackageName → PackageName → Bool) (features : FeatureSet) (old other : Graph) (p : UnresolvedPackage) (new also : Graph) (id at : ℕ)
    → AsksForOne p → IsSameGraph old other → IsPushed eq features old p new id → IsPushed eq features other p also at → IsSameGraph new also × (at ≡ id)

-- to say the same is an equivalence
pub record SayingTheSameIsAnEquivalence : Type 0 where
  pub itself : (g : Graph) → IsSameGraph g g
  pub back : (g h : Graph) → IsSameGraph g h → IsSameGraph h g
  pub on : (g h k : Graph) → IsSameGraph g h → IsSameGraph h k → IsSameGraph g k

-- ---- several

abbrev pub AskForOne : List UnresolvedPackage → Type 0
AskForOne ps = (p : UnresolvedPackage) → Has ps p → AsksForOne p

-- where a graph takes several together, no fault but want of memory has a cause in it
abbrev pub GroupsTogetherHaveNoCause : Type 0
GroupsTogetherHaveNoCause =
    (eq : PackageName → PackageName → Bool) (features : FeatureSet) (old : Graph) (ps : List UnresolvedPackage) (new : Graph) (id : ℕ) (fault : GroupFault)
    → AskForOne ps → AreTogether eq features old ps new id → IsTogetherCause eq features old ps fault → fault ≡ Push OutOfMemory

-- and whatever graphs it may be with them say the same
abbrev pub GroupsTogetherSayTheSame : Type 0
GroupsTogetherSayTheSame =
    (eq : PackageName → PackageName → Bool) (features : FeatureSet) (old : Graph) (ps : List UnresolvedPackage) (new also : Graph) (id at : ℕ)
    → AskForOne ps → AreTogether eq features old ps new id → AreTogether eq features old ps also at → IsSameGraph new also × (at ≡ id)
