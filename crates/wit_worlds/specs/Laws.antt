-- What is listed in a world stands for its text, and no two of its entries have one key (WIT, Item: `world`).
use Rattle.std.specs.Prelude.{◌≡◌, ℕ, List, Some, true, slice_get}
use Rattle.wit_types.specs.declared.function.Function.{Function}
use Rattle.wit_types.specs.declared.interface.TypeDef.{TypeDef}
use Rattle.wit_types.specs.declared.world.WorldInclude.{WorldInclude}
use Rattle.wit_types.specs.declared.interface.TypeOwner.TheVariants as belongs
use Rattle.wit_types.specs.declared.world.World.{World}
use Rattle.wit_types.specs.WorldKey.{key_eq}
use Rattle.wit_scopes.specs.declared.worlds.Side.{Side}
use Rattle.wit_scopes.specs.Scopes.{WorldScope}
use Rattle.wit_arena.specs.Tree.{in_world}
use Rattle.wit_arena.specs.Table.{Entries}
use Rattle.wit_resolved_scopes.specs.Each.{Each, AreApartBy}
use Rattle.wit_resolved_scopes.specs.Scope.{functions_among}
use Rattle.wit_resolved_scopes.specs.InArena.{Context, IsFunctionOf, IsFunctionIn, IsScopeIn, IsIdOf}
use Rattle.wit_resolved_scopes.specs.Texts.{labelled_texts, own_members, side_members, key_text}
use Rattle.wit_worlds.specs.Worlds.{Entry, AreLists, IsWorldIn}
use Rattle.wit_worlds.specs.Paths.{PathsTree, LeadRight, HaveOneOwner}
use Rattle.wit_worlds.specs.Listing.{IsEntryMade, AreListsMade}
use Rattle.wit_worlds.specs.Making.{MakesWorld}

-- where paths lead right, and functions and interfaces are those of the world
abbrev pub ListedWorldsStandForTheirTexts : Type 0
ListedWorldsStandForTheirTexts =
    (c : Context) (ps : PathsTree) (w : WorldScope) (a : List TypeDef) (table : Entries) (fs : List Function) (ids : List ℕ) (imports exports : List Entry) (includes : List WorldInclude)
    → LeadRight c ps → Each (IsFunctionIn c (in_world w.name.text) a table) (functions_among (own_members w.members)) fs → Each (IsIdOf c) (labelled_texts w) ids
    → AreListsMade ps w.name.text w.members fs ids imports exports includes → AreLists c w a table imports exports includes

-- where the texts of the keys of a side differ, and each id is one item's
abbrev pub EntriesHaveKeysOfTheirOwn : Type 0
EntriesHaveKeysOfTheirOwn =
    (ps : PathsTree) (w : WorldScope) (table : Entries) (fs : List Function) (ids : List ℕ) (side : Side) (es : List Entry)
    → HaveOneOwner ps → Each (IsFunctionOf table) (functions_among (own_members w.members)) fs
    → Each (IsEntryMade ps w.name.text (functions_among (own_members w.members)) fs (labelled_texts w) ids) (side_members side w.members) es → AreApartBy key_text (side_members side w.members)
    → (i j : ℕ) (e f : Entry) → slice_get es i ≡ Some e → slice_get es j ≡ Some f → key_eq e.0 f.0 ≡ true → i ≡ j

-- a world that is made of a scope that stands in the arena stands there
abbrev pub MadeWorldsStandForTheirTexts : Type 0
MadeWorldsStandForTheirTexts =
    (c : Context) (ps : PathsTree) (w : WorldScope) (a : List TypeDef) (table : Entries) (fs : List Function) (ids : List ℕ) (id : ℕ) (d : World)
    → LeadRight c ps → IsScopeIn c (in_world w.name.text) (belongs.World id) a (own_members w.members) table fs → Each (IsIdOf c) (labelled_texts w) ids → MakesWorld ps w a table fs ids d
    → IsWorldIn c a w id d
