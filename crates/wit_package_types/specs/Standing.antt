-- What the types of a scope stand for is what they mean (WIT, Items, Use).
use Rattle.std.specs.Prelude.{◌≡◌, ℕ, List, Some, length}
use Rattle.wit_types.specs.declared.interface.TypeDef.{TypeDef}
use Rattle.wit_types.specs.declared.interface.TypeOwner.{TypeOwner}
use Rattle.wit_rules.specs.Passed.wit_scopes-Members.{MemberTree}
use Rattle.wit_rules.specs.Passed.wit_scopes-Scopes.{ItemScope}
use Rattle.wit_arena.specs.Tree.{Name, PackageText, Place, in_interface, Owner, Tree}
use Rattle.wit_arena.specs.Table.{Entries}
use Rattle.wit_arena.specs.Meaning.{Has, Declares}
use Rattle.wit_arena.specs.Unfold.{Owners, owner_of, IsWhole}
use Rattle.wit_arena.specs.Standing.{HasTree, Stands, AreStanding, Grows}
use Rattle.wit_package_types.specs.Known.{KnownTypes, with_interface, FindsOwn}
use Rattle.wit_package_types.specs.Fill.{Fills}

-- what `use` finds stands for what it means: types of the package by their interfaces, types of others for what is given
pub record AreKnownStanding (me : PackageText) (scopes : List ItemScope) (given : Owner → Name → Tree) (owners : Owners) (k : KnownTypes) (a : List TypeDef) : Type 0 where
  pub own : (i y : Name) (j : ℕ) → FindsOwn k i y j → Stands me scopes given owners a (in_interface i) y j
  pub foreign : (w : Owner) (y : Name) (j : ℕ) → Has k.foreign ((w, y), j) → HasTree owners given a j (given w y)

-- types of the scope at a place, which are its owner's
pub record AreOfScope (me : PackageText) (scopes : List ItemScope) (owners : Owners) (o : Place) (whose : TypeOwner) (ms : List MemberTree) : Type 0 where
  pub owner : owner_of owners whose ≡ Some (record { package_text = me; place = o })
  pub declared : (m : MemberTree) → Has ms m → Declares scopes o m.name.text m.kind

-- each way to add to an arena and to what is known keeps it so
pub record FilledTypesStand (me : PackageText) (scopes : List ItemScope) (given : Owner → Name → Tree) (owners : Owners) : Type 0 where
  -- the types of a scope stand for what they mean
  pub filled : (o : Place) (owner : TypeOwner) (k : KnownTypes) (a b : List TypeDef) (ms : List MemberTree) (table : Entries)
      → AreOfScope me scopes owners o owner ms → IsWhole owners given a → AreKnownStanding me scopes given owners k a → Fills k owner a ms b table
      → Grows owners given a b × AreStanding me scopes given owners o table b
  -- those of an interface may be known by its name
  pub known : (k : KnownTypes) (a : List TypeDef) (x : Name) (table : Entries) → length k.names ≡ length k.tables
      → AreKnownStanding me scopes given owners k a → AreStanding me scopes given owners (in_interface x) table a → AreKnownStanding me scopes given owners (with_interface k x table) a
  -- what is known stays
  pub kept : (k : KnownTypes) (a b : List TypeDef) → Grows owners given a b → AreKnownStanding me scopes given owners k a → AreKnownStanding me scopes given owners k b

abbrev pub FilledTypesStandForTheirMeaning : Type 0
FilledTypesStandForTheirMeaning = (me : PackageText) (scopes : List ItemScope) (given : Owner → Name → Tree) (owners : Owners) → FilledTypesStand me scopes given owners
