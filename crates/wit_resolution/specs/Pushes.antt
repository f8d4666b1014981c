-- Packages that are pushed (WIT, Packages).
use Rattle.std.specs.Prelude.{◌≡◌, ℕ, ◌+◌, ◌^◌, ◌≤◌, ◌⊎◌, Bool, false, List, [], ◌++◌, flat_map}
use Rattle.std.specs.List.{AllZip}
use Rattle.wit_words.specs.Sources.{SourceText, total}
use Rattle.wit_order.specs.Order.{Has}
use Rattle.wit_types.specs.declared.«package».PackageName.{PackageName}
use Rattle.wit_types.specs.declared.«package».UnresolvedPackage.{UnresolvedPackage}
use Rattle.wit_features.specs.Features.{FeatureSet}
use Rattle.wit_rules.specs.declared.fault.PackageFault.{PackageFault}
use Rattle.wit_well_formed.specs.Passed.wit_package-declared-group-UnresolvedPackageGroup.{UnresolvedPackageGroup}
use Rattle.wit_well_formed.specs.Passed.wit_package-Group.{IsTextsFault, IsBeginning}
use Rattle.wit_offsets.specs.Offsets.{package_at, Fits, Passes}
use Rattle.wit_resolve_errors.specs.Passed.wit_graph-Graph.{Graph, nothing}
pub use Rattle.wit_resolve_errors.specs.Passed.wit_graph-Push.{HasMorePackages}
use Rattle.wit_resolve_errors.specs.Passed.wit_graph-Push.{IsPushed, IsPushCause}
use Rattle.wit_well_formed.specs.Passed.wit_graph_parts-declared-fault-PushFault.{PushFault}
use Rattle.wit_resolve_errors.specs.Passed.wit_groups-Pushed.{AreTogether, IsTogetherCause}
use Rattle.wit_resolve_errors.specs.Passed.wit_groups-declared-fault-GroupFault.{GroupFault}
use Rattle.wit_resolve_errors.specs.Errors.{of_push, of_group, IsOfTexts}
use Rattle.wit_resolution.specs.Texts.{IsGroupOf, IsUnread, AreTextsLeft}
use Rattle.wit_resolution.specs.Groups.{packages_behind, texts_of, AllFit, SomePass, BeginBehind}
use Rattle.wit_resolve_errors.specs.declared.error.ResolveErrorKind.{ResolveErrorKind}
use Rattle.wit_resolve_errors.specs.declared.error.ResolveErrorKind.TheVariants.{TooLarge, OutOfMemory}

-- the features that are active, the texts so far, and the graph of their packages
pub record Resolved : Type 0 where
  pub features : FeatureSet
  pub texts : List SourceText
  pub graph : Graph

abbrev pub nothing_resolved : Resolved
nothing_resolved = record { features = record { all = false; names = [] }; texts = []; graph = record { tables = nothing; names = [] } }

-- the same, but for what a call that was refused has left of its texts
pub record IsKept (old new : Resolved) : Type 0 where
  pub features : new.features ≡ old.features
  pub graph : new.graph ≡ old.graph

-- it has no place in texts
abbrev pub HasNoPlace : ResolveErrorKind → Type 0
HasNoPlace kind = (kind ≡ OutOfMemory) ⊎ (kind ≡ TooLarge)

-- which texts are there when groups were refused: all, but where a refusal has no place
pub data AreGroupTextsKept (old : Resolved) (gs : List UnresolvedPackageGroup) (kind : ResolveErrorKind) (new : Resolved) : Type 0 where
  no_place : HasNoPlace kind → AreGroupTextsKept old gs kind new
  of_all : (fault : GroupFault) → kind ≡ of_group fault → new.texts ≡ old.texts ++ texts_of gs → AreGroupTextsKept old gs kind new

-- and when texts were: those of a package up to the one that isn't read, all of one that breaks a rule, or all
pub data AreTextsKept (old : Resolved) (files : List (List SourceText)) (kind : ResolveErrorKind) (new : Resolved) : Type 0 where
  no_place : HasNoPlace kind → AreTextsKept old files kind new
  as_read : (texts read : List SourceText) (fault : PackageFault) → Has files texts → IsUnread texts read fault → IsOfTexts (total old.texts) fault kind → new.texts ≡ old.texts ++ read → AreTextsKept old files kind new
  of_all : (fault : GroupFault) → kind ≡ of_group fault → new.texts ≡ old.texts ++ flat_map (λ (texts : List SourceText). texts) files → AreTextsKept old files kind new

module _ (eq : PackageName → PackageName → Bool) (old : Resolved) where
  -- ---- a package, whose texts begin there

  pub record IsPackagePushed (offset : ℕ) (p : UnresolvedPackage) (new : Resolved) (id : ℕ) : Type 0 where
    pub fits : Fits offset p
    pub features : new.features ≡ old.features
    pub texts : new.texts ≡ old.texts
    pub pushed : IsPushed eq old.features old.graph (package_at offset p) new.graph id

  pub data IsPackageError (offset : ℕ) (p : UnresolvedPackage) (kind : ResolveErrorKind) : Type 0 where
    too_large : Passes offset p → kind ≡ TooLarge → IsPackageError offset p kind
    refused : (fault : PushFault) → IsPushCause eq old.features old.graph (package_at offset p) fault → kind ≡ of_push fault → IsPackageError offset p kind

  -- ---- groups of packages, whose texts come behind those that are there; the id is that of the first group's package

  pub record AreGroupsPushed (gs : List UnresolvedPackageGroup) (new : Resolved) (id : ℕ) : Type 0 where
    pub fit : AllFit old.texts gs
    pub features : new.features ≡ old.features
    pub texts : new.texts ≡ old.texts ++ texts_of gs
    pub pushed : AreTogether eq old.features old.graph (packages_behind old.texts gs) new.graph id

  pub data IsGroupsError (gs : List UnresolvedPackageGroup) (kind : ResolveErrorKind) : Type 0 where
    no_memory : kind ≡ OutOfMemory → IsGroupsError gs kind
    too_large : SomePass old.texts gs → kind ≡ TooLarge → IsGroupsError gs kind
    refused : (fault : GroupFault) → IsTogetherCause eq old.features old.graph (packages_behind old.texts gs) fault → kind ≡ of_group fault → IsGroupsError gs kind

  -- nothing is there of them but maybe texts
  pub record AreGroupsRefused (gs : List UnresolvedPackageGroup) (new : Resolved) : Type 0 where
    pub kept : IsKept old new
    pub texts : BeginBehind old.texts gs new.texts

  -- ---- texts: the files of a package, and texts of others

  pub record AreTextsPushed (files : List (List SourceText)) (new : Resolved) (id : ℕ) : Type 0 where
    pub groups : List UnresolvedPackageGroup
    pub are_groups : AllZip IsGroupOf files groups
    pub pushed : AreGroupsPushed groups new id

  pub data AreTextsError (files : List (List SourceText)) (kind : ResolveErrorKind) : Type 0 where
    no_memory : kind ≡ OutOfMemory → AreTextsError files kind
    -- up to one that isn't read, the texts of a package have too many bytes
    too_large : (texts read : List SourceText) → Has files texts → IsBeginning texts read → 2 ^ 32 ≤ total old.texts + total read → kind ≡ TooLarge → AreTextsError files kind
    unread : (texts : List SourceText) (fault : PackageFault) → Has files texts → IsTextsFault texts fault → IsOfTexts (total old.texts) fault kind → AreTextsError files kind
    refused : (groups : List UnresolvedPackageGroup) → AllZip IsGroupOf files groups → IsGroupsError groups kind → AreTextsError files kind

  -- nothing is there of them but maybe texts: the first of a package, or all of the first packages
  pub record AreTextsRefused (files : List (List SourceText)) (new : Resolved) : Type 0 where
    pub kept : IsKept old new
    pub texts : AreTextsLeft old.texts files new.texts
