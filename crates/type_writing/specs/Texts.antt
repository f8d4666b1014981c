-- What is written for a type is of the type that the texts say (WIT, Types, Use).
use Rattle.std.specs.Prelude.{◌≡◌, List, Some, false}
use Rattle.wit_types.specs.declared.kind.«Type».{«Type» as Ref}
use Rattle.wit_types.specs.declared.interface.TypeDef.{TypeDef}
use Rattle.wit_types.specs.declared.interface.TypeOwner.{TypeOwner}
use Rattle.type_meaning.specs.Passed.wit_arena-Tree as wit
use Rattle.type_meaning.specs.Passed.wit_arena-Tree.{Name, Owner}
use Rattle.type_meaning.specs.Passed.wit_arena-Unfold.{Owners, owner_of, ref_tree, trees}
use Rattle.type_meaning.specs.Tree.{Parts, named, resource, of, none, gap, part}
use Rattle.type_meaning.specs.Words.{Label, Resource, same_label}
use Rattle.type_meaning.specs.Wit as texts
use Rattle.type_meaning.specs.Wit.{IsTree}
use Rattle.type_writing.specs.Unfolding.{OwnName, WitTree, Unfolds}
use Rattle.type_writing.specs.Writing.{written}

-- the names of each owner have the labels that the texts say
abbrev pub AreLabels : (OwnName → Label) → Owners → Type 0
AreLabels label owners = (o : TypeOwner) (x : Name) (w : Owner) → owner_of owners o ≡ Some w → label (record { owner = o; name = x }) ≡ texts.label_of w x

-- no name stands right over itself: names of one owner differ
abbrev pub IsOverOther : (OwnName → Label) → OwnName → WitTree → Type 0
IsOverOther label o (named p t) = same_label (label o) (label p) ≡ false
IsOverOther label o (resource p) = Unit {0}
IsOverOther label o (of form ps) = Unit {0}

abbrev mutual
  pub HasNoRepeat : (OwnName → Label) → WitTree → Type 0
  HasNoRepeat label (named o t) = IsOverOther label o t × HasNoRepeat label t
  HasNoRepeat label (resource o) = Unit {0}
  HasNoRepeat label (of form ps) = HaveNoRepeat label ps

  pub HaveNoRepeat : (OwnName → Label) → Parts OwnName OwnName → Type 0
  HaveNoRepeat label none = Unit {0}
  HaveNoRepeat label (gap ps) = HaveNoRepeat label ps
  HaveNoRepeat label (part t ps) = HasNoRepeat label t × HaveNoRepeat label ps

-- where a type of an arena unfolds to a tree, and names have their labels, that tree in the words of the bytes is the tree that the texts give
-- the type, as the outside sees it
abbrev pub WrittenTypesAreTheTexts : Type 0
WrittenTypesAreTheTexts =
    (leaf : Resource → Label) (label : OwnName → Label) (owners : Owners) (given : Owner → Name → wit.Tree) (types : List TypeDef) (r : Ref) (t : WitTree) (w : wit.Tree)
    → AreLabels label owners → Unfolds types r t → HasNoRepeat label t → ref_tree (trees owners given types) r ≡ Some w → IsTree leaf (written label t) w
