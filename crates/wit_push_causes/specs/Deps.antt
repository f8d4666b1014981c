-- What packages ask of others is asked for under one name, as it is made of what their texts need, wherever these stand (WIT, Packages, Use).
use Rattle.std.specs.Prelude.{ℕ, List}
use Rattle.wit_words.specs.declared.source_map.Span.{Span}
use Rattle.wit_types.specs.declared.«package».UnresolvedPackage.{UnresolvedPackage}
use Rattle.wit_foreign.specs.Needs.{NeedTree}
use Rattle.wit_foreign.specs.Items.{Items, AreItemsOf}
use Rattle.wit_foreign.specs.Deps.{PackageEntry, AreDeps}
use Rattle.wit_offsets.specs.Offsets.{package_at}
use Rattle.wit_push_causes.specs.Asked.{AreForOne, AsksForOne}

-- of each package each item that is needed of it, once
abbrev pub DepsAskForOne : Type 0
DepsAskForOne = (needs : List NeedTree) (items : Items) (deps : List PackageEntry) (spans : List Span) → AreItemsOf needs items → AreDeps items needs deps spans → AreForOne deps

-- a package stays so wherever its texts stand among others
abbrev pub MovedPackagesAskForOne : Type 0
MovedPackagesAskForOne = (p : UnresolvedPackage) (n : ℕ) → AsksForOne p → AsksForOne (package_at n p)
