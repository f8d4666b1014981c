-- Texts of packages (WIT, Packages).
use Rattle.std.specs.Prelude.{◌≡◌, ℕ, List, [], ◌∷◌, ◌++◌, map, flat_map, take}
use Rattle.wit_words.specs.Sources.{SourceText}
use Rattle.wit_order.specs.Order.{Has}
use Rattle.wit_rules.specs.declared.fault.PackageFault.{PackageFault}
use Rattle.wit_well_formed.specs.Passed.wit_package-declared-group-UnresolvedPackageGroup.{UnresolvedPackageGroup}
use Rattle.wit_well_formed.specs.Passed.wit_package-Group.{AreParsed, IsBeginning, AreLeft, IsTextsFault}

-- the files of a package, and other packages, of one text each
abbrev pub files_of : List SourceText → List SourceText → List (List SourceText)
files_of main deps = main ∷ map (λ (t : SourceText). t ∷ []) deps

-- each file of a package is read, and they are resolved
pub record IsGroupOf (files : List SourceText) (g : UnresolvedPackageGroup) : Type 0 where
  pub parsed : AreParsed files g.main g.nested.items
  pub texts : g.source_map ≡ files

-- the files of a package up to one that isn't read, or all, and why they aren't taken
pub record IsUnread (files read : List SourceText) (fault : PackageFault) : Type 0 where
  pub beginning : IsBeginning files read
  pub left : AreLeft files read fault
  pub cause : IsTextsFault files fault

-- the first files of a package have come behind those texts, or all files of the first packages
pub data AreTextsLeft (old : List SourceText) (files : List (List SourceText)) (new : List SourceText) : Type 0 where
  of_one : (texts read : List SourceText) → Has files texts → IsBeginning texts read → new ≡ old ++ read → AreTextsLeft old files new
  of_some : (k : ℕ) → new ≡ old ++ flat_map (λ (texts : List SourceText). texts) (take k files) → AreTextsLeft old files new
