-- What a world imports under the key of an interface is that interface.
use Rattle.std.proofs.Common.{◌≡◌, ℕ, List, [], ◌∷◌, ◌++◌, sym, subst, ap, ◌∙◌}
use Rattle.wit_types.specs.declared.interface.TypeDef.{TypeDef}
use Rattle.wit_types.specs.declared.world.World.{World}
use Rattle.wit_types.specs.declared.world.WorldItem.{WorldItem}
use Rattle.wit_types.specs.declared.world_key.WorldKey.{WorldKey}
use Rattle.wit_types.specs.declared.world_key.WorldKey.TheVariants as key
use Rattle.wit_types.specs.WorldKey.{spelled, placed, known}
use Rattle.wit_package.specs.Passed.wit_scopes-declared-worlds-Side-TheVariants.{Import}
use Rattle.wit_package.specs.Passed.wit_scopes-Scopes as scope
use Rattle.wit_package.specs.Passed.wit_scopes-Scopes.{ExternKind, ListedTree, WorldMemberTree, WorldScope}
use Rattle.wit_package.specs.Passed.wit_arena-Tree.{Name}
use Rattle.wit_package.specs.Passed.wit_arena-Table.{Entries}
use Rattle.wit_package.specs.Passed.wit_resolved_scopes-Each.{Each}
use Rattle.wit_package.specs.Passed.wit_resolved_scopes-InArena.{Context}
use Rattle.wit_package.specs.Passed.wit_resolved_scopes-Texts.{side_members}
use Rattle.wit_package.specs.Passed.wit_worlds-Worlds.{Entry, IsTypeEntry, IsExternEntry, IsEntryOf, IsWorldIn}
use Rattle.wit_reach.specs.Lists.{item_interface}
use Rattle.wit_elaborated.specs.Worlds.{IsKeyOfItem, AreKeysOfItems}

keys_behind : (es fs : List Entry) → AreKeysOfItems es → AreKeysOfItems fs → AreKeysOfItems (es ++ fs)
keys_behind [] fs g h = h
keys_behind (e ∷ es) fs g h = (g.0, keys_behind es fs g.1 h)

-- under a plain name anything may stand
spelled_key : (k : WorldKey) (i : WorldItem) (x : Name) → known k ≡ spelled x → IsKeyOfItem (k, i)
spelled_key (key.Name n) i x h = tt
spelled_key (key.Interface m) i x h = absurd cc

placed_key : (k : WorldKey) (i : WorldItem) (m : ℕ) → known k ≡ placed m → item_interface i ≡ m ∷ [] → IsKeyOfItem (k, i)
placed_key (key.Name n) i m h is = tt
placed_key (key.Interface j) i m h is = (let e : m ≡ j = cc in is ∙ ap (λ (n : ℕ). n ∷ []) e)

module _ (c : Context) (w : Name) (a : List TypeDef) (table : Entries) where
  extern_key : (l : ListedTree) (k : ExternKind) (e : Entry) → IsExternEntry c w a table l k e → IsKeyOfItem e
  extern_key l (scope.ExternKind.function f) e h = spelled_key e.0 e.1 _ h.key
  extern_key l (scope.ExternKind.interface ms) e h = spelled_key e.0 e.1 _ h.key
  extern_key l (scope.item t) e h = placed_key e.0 e.1 h.id h.key (ap item_interface h.item)

  entry_key : (x : WorldMemberTree) (e : Entry) → IsEntryOf c w a table x e → IsKeyOfItem e
  entry_key (scope.member m) e h = spelled_key e.0 e.1 _ h.key
  entry_key (scope.listed l) e h = extern_key l l.kind e h
  entry_key (scope.included i) e h = absurd h

  pub entries_keys : (xs : List WorldMemberTree) (es : List Entry) → Each (IsEntryOf c w a table) xs es → AreKeysOfItems es
  entries_keys [] [] h = tt
  entries_keys [] (e ∷ es) h = absurd h
  entries_keys (x ∷ xs) [] h = absurd h
  entries_keys (x ∷ xs) (e ∷ es) h = (entry_key x e h.0, entries_keys xs es h.1)

types_keys : (a : List TypeDef) (table : Entries) (es : List Entry) → Each (IsTypeEntry a) table es → AreKeysOfItems es
types_keys a [] [] h = tt
types_keys a [] (e ∷ es) h = absurd h
types_keys a (t ∷ ts) [] h = absurd h
types_keys a (t ∷ ts) (e ∷ es) h = (spelled_key e.0 e.1 t.0 h.0.key, types_keys a ts es h.1)

pub world_keys : (c : Context) (a : List TypeDef) (w : WorldScope) (id : ℕ) (d : World) → IsWorldIn c a w id d → AreKeysOfItems d.imports.entries
world_keys c a w id d h =
    subst AreKeysOfItems (sym h.imports_are)
    (keys_behind h.type_entries h.other_imports (types_keys a h.table h.type_entries h.type_entries_are) (entries_keys c w.name.text a h.table (side_members Import w.members) h.other_imports h.lists_are.imports_are))
