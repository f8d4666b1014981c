-- Packages that keep their rules are ready to be brought into an arena (WIT, Name Resolution).
use Rattle.std.specs.Prelude.{◌≡◌, ℕ, List, Some}
use Rattle.wit_words.specs.Slice.{Slice}
use Rattle.wit_foreign.specs.Passed.wit_syntax-Ast.{PackageNameTree, FileTree}
use Rattle.wit_foreign.specs.Passed.wit_scopes-Paths.{file_uses}
use Rattle.wit_foreign.specs.Passed.wit_scopes-Scopes.{ItemScope}
use Rattle.wit_foreign.specs.Passed.wit_rules-Breaks.{IsKept}
use Rattle.wit_foreign.specs.Passed.wit_rules-Facts.{IsDeclared}
use Rattle.wit_foreign.specs.Passed.wit_lookups-declared-asks-Asked-TheVariants.{Interface, World}
use Rattle.wit_foreign.specs.Passed.wit_lookups-Lookups.{LookupsBreak}
use Rattle.wit_foreign.specs.Passed.wit_arena-Meaning.{Has}
use Rattle.wit_foreign.specs.Needs.{NeedTree, needs_in}
use Rattle.wit_foreign.specs.Items.{need_owner}
use Rattle.wit_foreign.specs.Unknown.{name_used}
use Rattle.wit_foreign.specs.Deps.{HaveGates}
use Rattle.wit_resolved_scopes.specs.Texts.{interfaces_of, worlds_of, AreItemsSorted}
use Rattle.wit_resolved_scopes.specs.Fit.{Foreign, AreInterfacesReady, AreWorldsReady}

-- all that a package asks of others is there
pub record FindsForeign (scopes : List ItemScope) (others : Foreign) : Type 0 where
  pub interfaces : (n : NeedTree) → Has (needs_in scopes) n → n.asked ≡ Interface → Has others.owners.interfaces (need_owner n)
  pub worlds : (n : NeedTree) → Has (needs_in scopes) n → n.asked ≡ World → Has others.owners.worlds (need_owner n)
  pub types : (n : NeedTree) (y : Slice) → Has (needs_in scopes) n → n.name ≡ Some y → (j : ℕ) × Has others.types (name_used n y, j)

-- its interfaces and worlds in their order are ready
pub record AreReadyInOrder (scopes sorted : List ItemScope) (others : Foreign) : Type 0 where
  pub interfaces : AreInterfacesReady others (interfaces_of sorted)
  pub worlds : AreWorldsReady (interfaces_of sorted) others (worlds_of sorted)

-- a package whose files break no rule by themselves, all of whose names are found
abbrev pub KeptPackagesAreReady : Type 0
KeptPackagesAreReady =
    (files : List FileTree) (me : PackageNameTree) (scopes sorted : List ItemScope) (others : Foreign)
    → IsDeclared files me scopes → IsKept (LookupsBreak me (file_uses files) scopes) → AreItemsSorted scopes sorted → FindsForeign scopes others → AreReadyInOrder scopes sorted others

-- what it asks of others has gates that may stand together
abbrev pub KeptNeedsHaveGates : Type 0
KeptNeedsHaveGates = (files : List FileTree) (me : PackageNameTree) (scopes : List ItemScope) → IsDeclared files me scopes → HaveGates (needs_in scopes)

-- the order has each interface and world of the package, and no other
pub record HasTheSame (scopes sorted : List ItemScope) : Type 0 where
  pub among : (s : ItemScope) → Has sorted s → Has scopes s
  pub all : (s : ItemScope) → Has scopes s → Has sorted s

abbrev pub SortedItemsAreTheSame : Type 0
SortedItemsAreTheSame = (scopes sorted : List ItemScope) → AreItemsSorted scopes sorted → HasTheSame scopes sorted
