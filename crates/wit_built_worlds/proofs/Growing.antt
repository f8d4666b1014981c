-- Worlds in an arena that grows.
use Rattle.std.proofs.Common.{◌≡◌, ℕ, ◌+◌, ◌<◌, List, [], ◌∷◌, ◌++◌, inl, inr, length, length-append, Some, refl, sym, subst, ap, ◌∙◌, arith}
use Rattle.std.proofs.lemmas.Option.{slice_get_within}
use Rattle.std.specs.Prelude.{slice_get}
use Rattle.wit_types.specs.declared.interface.TypeDef.{TypeDef}
use Rattle.wit_types.specs.declared.interface.TypeOwner.TheVariants as belongs
use Rattle.wit_types.specs.declared.world.World.{World}
use Rattle.wit_types.specs.declared.world.WorldInclude.{WorldInclude}
use Rattle.wit_scopes.specs.declared.worlds.Side.TheVariants.{Import, Export}
use Rattle.wit_scopes.specs.Members.{MemberTree}
use Rattle.wit_scopes.specs.Scopes as scope
use Rattle.wit_scopes.specs.Scopes.{ExternKind, ListedTree, WorldMemberTree, WorldScope}
use Rattle.wit_interfaces.specs.Passed.wit_arena-Tree.{Name, in_world}
use Rattle.wit_interfaces.specs.Passed.wit_arena-Table.{Entries}
use Rattle.wit_interfaces.proofs.Passed.wit_arena-Lists.{get_more}
use Rattle.wit_interfaces.specs.Passed.wit_resolved_scopes-InArena.{Context, IsTypeIn, GrowsFor}
use Rattle.wit_interfaces.specs.Passed.wit_resolved_scopes-Texts.{side_members}
use Rattle.wit_interfaces.proofs.Passed.wit_resolved_scopes-Eaches.{each_to}
use Rattle.wit_interfaces.proofs.Passed.wit_resolved_scopes-Again.{get_extended}
use Rattle.wit_interfaces.proofs.Passed.wit_resolved_scopes-Listing.{extends_for}
use Rattle.wit_interfaces.proofs.Passed.wit_resolved_scopes-Placing.{type_grown, function_in_grown}
use Rattle.wit_worlds.specs.Worlds.{Entry, IsTypeEntry, IsFunctionEntry, IsExternEntry, IsEntryOf, AreLists, IsWorldIn, AreWorldsIn}

module _ (c : Context) (a b : List TypeDef) (grows : GrowsFor c a b) where
  type_entry_grown : (t : Name × ℕ) (e : Entry) → IsTypeEntry a t e → IsTypeEntry b t e
  type_entry_grown t e i = record { key = i.key; def = i.def; there = get_extended a b t.1 i.def (extends_for c a b grows) i.there; item = i.item }

  function_entry_grown : (w : Name) (table : Entries) (m : MemberTree) (e : Entry) → IsFunctionEntry c (in_world w) a table m e → IsFunctionEntry c (in_world w) b table m e
  function_entry_grown w table m e i = record { key = i.key; made = i.made; item = i.item; is = function_in_grown c a b grows (extends_for c a b grows) (in_world w) table m i.made i.is }

  extern_grown : (w : Name) (table : Entries) (l : ListedTree) (k : ExternKind) (e : Entry) → IsExternEntry c w a table l k e → IsExternEntry c w b table l k e
  extern_grown w table l (scope.ExternKind.function f) e i = function_entry_grown w table _ e i
  extern_grown w table l (scope.ExternKind.interface ms) e i = i
  extern_grown w table l (scope.item t) e i = i

  entry_grown : (w : Name) (table : Entries) (x : WorldMemberTree) (e : Entry) → IsEntryOf c w a table x e → IsEntryOf c w b table x e
  entry_grown w table (scope.member m) e i = function_entry_grown w table m e i
  entry_grown w table (scope.listed l) e i = extern_grown w table l l.kind e i
  entry_grown w table (scope.included n) e i = i

  lists_grown : (w : WorldScope) (table : Entries) (imports exports : List Entry) (includes : List WorldInclude) → AreLists c w a table imports exports includes → AreLists c w b table imports exports includes
  lists_grown w table imports exports includes l = record {
    imports_are = each_to (IsEntryOf c w.name.text a table) (IsEntryOf c w.name.text b table) (side_members Import w.members) imports (λ x e h g i. entry_grown w.name.text table x e i) l.imports_are;
    exports_are = each_to (IsEntryOf c w.name.text a table) (IsEntryOf c w.name.text b table) (side_members Export w.members) exports (λ x e h g i. entry_grown w.name.text table x e i) l.exports_are;
    includes_are = l.includes_are;
  }

  pub world_grown : (w : WorldScope) (id : ℕ) (d : World) → IsWorldIn c a w id d → IsWorldIn c b w id d
  world_grown w id d i = record {
    name = i.name;
    table = i.table;
    sorted = i.sorted;
    are_sorted = i.are_sorted;
    types_are = each_to (IsTypeIn c (in_world w.name.text) (belongs.World id) a) (IsTypeIn c (in_world w.name.text) (belongs.World id) b) i.sorted i.table
        (λ m e h g t. type_grown c a b grows (extends_for c a b grows) (in_world w.name.text) (belongs.World id) m e t) i.types_are;
    type_entries = i.type_entries;
    type_entries_are = each_to (IsTypeEntry a) (IsTypeEntry b) i.table i.type_entries (λ t e h g n. type_entry_grown t e n) i.type_entries_are;
    other_imports = i.other_imports;
    imports_are = i.imports_are;
    lists_are = lists_grown w i.table i.other_imports d.exports.entries d.includes.items i.lists_are;
    docs = i.docs;
    stability = i.stability;
    loose = i.loose;
    span = i.span;
  }

  pub worlds_grown : (first : ℕ) (ws : List WorldScope) (ds : List World) → AreWorldsIn c a first ws ds → AreWorldsIn c b first ws ds
  worlds_grown first ws ds are = record { so_many = are.so_many; each = λ n w d at_w at_d. world_grown w (first + n) d (are.each n w d at_w at_d) }

module _ (c : Context) (a : List TypeDef) (first : ℕ) where
  pub no_worlds : AreWorldsIn c a first [] []
  no_worlds = record { so_many = refl; each = λ n w d at_w at_d. absurd cc }

  pub worlds_more : (ws : List WorldScope) (ds : List World) (w : WorldScope) (d : World) → AreWorldsIn c a first ws ds → IsWorldIn c a w (first + length ds) d → AreWorldsIn c a first (ws ++ w ∷ []) (ds ++ d ∷ [])
  worlds_more ws ds w d are one = record {
    so_many = length-append ds (d ∷ []) ∙ ap (λ (n : ℕ). n + 1) are.so_many ∙ sym (length-append ws (w ∷ []));
    each = each;
  }
    where
      each : (n : ℕ) (u : WorldScope) (e : World) → slice_get (ws ++ w ∷ []) n ≡ Some u → slice_get (ds ++ d ∷ []) n ≡ Some e → IsWorldIn c a u (first + n) e
      each n u e at_u at_e =
          elim (get_more ws w u n at_u) as (λ _. IsWorldIn c a u (first + n) e) [
            | inl was_u ↦
                elim (get_more ds d e n at_e) as (λ _. IsWorldIn c a u (first + n) e) [
                  | inl was_e ↦ are.each n u e was_u was_e
                  | inr last_e ↦ absurd (let less : n < length ws = slice_get_within ws n u was_u in let is : n ≡ length ds = last_e.0 in omega (arith, are.so_many))
                ]
            | inr last_u ↦
                elim (get_more ds d e n at_e) as (λ _. IsWorldIn c a u (first + n) e) [
                  | inl was_e ↦ absurd (let less : n < length ds = slice_get_within ds n e was_e in let is : n ≡ length ws = last_u.0 in omega (arith, are.so_many))
                  | inr last_e ↦
                      subst (λ (m : ℕ). IsWorldIn c a u (first + m) e) (sym last_e.0)
                      (subst (λ (z : WorldScope). IsWorldIn c a z (first + length ds) e) (sym last_u.1) (subst (λ (z : World). IsWorldIn c a w (first + length ds) z) (sym last_e.1) one))
                ]
          ]
