-- What the types of a scope are in an arena that has them: as they are written, by what names stand for there (WIT, Items, Use).
use Rattle.std.specs.Prelude.{ℕ, List}
use Rattle.wit_words.specs.Slice.{Slice}
use Rattle.wit_types.specs.declared.kind.«Type».TheVariants.{Id}
use Rattle.wit_types.specs.declared.kind.TypeDefKind.{TypeDefKind}
use Rattle.wit_types.specs.declared.kind.TypeDefKind.TheVariants as kind
use Rattle.wit_types.specs.declared.interface.TypeDef.{TypeDef}
use Rattle.wit_lookups.specs.Passed.wit_items-ItemTree.{TypeDefKindTree}
use Rattle.wit_lookups.specs.Passed.wit_scopes-Paths.{TargetTree}
use Rattle.wit_lookups.specs.Passed.wit_scopes-Members.{MemberKind, used, defined}
use Rattle.wit_resources.specs.Passed.wit_arena-Table.{Entries}
use Rattle.wit_resources.specs.Passed.wit_arena-LowerKind.{LowersKind}

-- a definition that is brought in by these names is that kind, and adds nothing; a name that is used is another name of a type
pub data IsBroughtAs (names : Entries) (a : List TypeDef) : MemberKind → TypeDefKind → Type 0 where
  brought : (t : TypeDefKindTree) (n : TypeDefKind) → LowersKind names a t a n → IsBroughtAs names a (defined t) n
  taken : (from : TargetTree) (y : Slice) (j : ℕ) → IsBroughtAs names a (used from y) (kind.Alias (Id j))
