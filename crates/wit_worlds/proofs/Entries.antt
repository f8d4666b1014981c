-- What is made for the members of a world stands for them.
use Rattle.std.proofs.Common.{◌≡◌, ℕ, List, Some, sym, subst, ap, ◌∙◌}
use Rattle.std.specs.Prelude.{slice_get}
use Rattle.wit_types.specs.declared.function.Function.{Function}
use Rattle.wit_types.specs.declared.interface.TypeDef.{TypeDef}
use Rattle.wit_types.specs.declared.world.WorldInclude.{WorldInclude}
use Rattle.wit_types.specs.WorldKey.{Known, spelled, placed}
use Rattle.wit_scopes.specs.declared.worlds.Side.TheVariants.{Import, Export}
use Rattle.wit_scopes.specs.Paths.{TargetTree, own, foreign}
use Rattle.wit_scopes.specs.Members.{MemberTree}
use Rattle.wit_scopes.specs.Scopes as scope
use Rattle.wit_scopes.specs.Scopes.{ExternKind, ListedTree, IncludedTree, WorldMemberTree, WorldScope}
use Rattle.wit_arena.specs.Tree.{in_interface, in_world, in_listed, Owner}
use Rattle.wit_arena.specs.Table.{Entries}
use Rattle.wit_arena.specs.Meaning.{package_text}
use Rattle.wit_resolved_scopes.specs.Each.{Each}
use Rattle.wit_resolved_scopes.specs.Scope.{functions_among}
use Rattle.wit_resolved_scopes.specs.InArena.{Context, own_owner, IsFunctionIn}
use Rattle.wit_resolved_scopes.specs.Texts.{InterfaceText, listed_text, labelled_texts, own_members, side_members, includes_of}
use Rattle.wit_resolved_scopes.proofs.Eaches.{each_at, each_to}
use Rattle.wit_worlds.specs.Worlds.{Entry, target_owner, function_member, IsFunctionEntry, IsInterfaceEntry, IsExternEntry, IsEntryOf, IsIncludeOf, AreLists}
use Rattle.wit_worlds.specs.Paths.{PathsTree, IsInterfaceId, IsWorldId, LeadRight}
use Rattle.wit_worlds.specs.Laws.{MadeWorldsStandForTheirTexts}
use Rattle.wit_worlds.specs.Listing.{MakesFunctionEntry, MakesInterfaceEntry, MakesInclude, ArePaired, IsExternMade, IsEntryMade, AreListsMade}

module _ (c : Context) (ps : PathsTree) (leads : LeadRight c ps) where
  interface_leads : (t : TargetTree) (id : ℕ) → IsInterfaceId ps t id → slice_get c.owners.interfaces id ≡ Some (target_owner c.me in_interface t)
  interface_leads (own n) id (p, at, is) = ap (slice_get c.owners.interfaces) is ∙ leads.own_interfaces n.text p at
  interface_leads (foreign p n) id has = leads.foreign_interfaces (record { package_text = package_text p; place = in_interface n.text }) id has

  world_leads : (t : TargetTree) (id : ℕ) → IsWorldId ps t id → slice_get c.owners.worlds id ≡ Some (target_owner c.me in_world t)
  world_leads (own n) id (p, at, is) = ap (slice_get c.owners.worlds) is ∙ leads.own_worlds n.text p at
  world_leads (foreign p n) id has = leads.foreign_worlds (record { package_text = package_text p; place = in_world n.text }) id has

  include_is : (i : IncludedTree) (d : WorldInclude) → MakesInclude ps i d → IsIncludeOf c i d
  include_is i d made = record { owner = world_leads i.world d.id made.world; stability = made.stability; names = made.names; span = made.span }

  interface_is : (o : Owner) (l : ListedTree) (key_of : ℕ → Known) (id : ℕ) (e : Entry) → slice_get c.owners.interfaces id ≡ Some o → MakesInterfaceEntry l (key_of id) id e → IsInterfaceEntry c o l key_of e
  interface_is o l key_of id e at made = record { id = id; stability = made.stability; key = made.key; item = made.item; owner = at; gates = made.gates }

  module _ (w : WorldScope) (a : List TypeDef) (table : Entries) (fs : List Function) (ids : List ℕ) (functions : Each (IsFunctionIn c (in_world w.name.text) a table) (functions_among (own_members w.members)) fs)
      (labels : Each (λ (t : InterfaceText) (id : ℕ). slice_get c.owners.interfaces id ≡ Some (own_owner c t.place)) (labelled_texts w) ids)
    where
      function_is : (m : MemberTree) (f : Function) (e : Entry) → ArePaired (functions_among (own_members w.members)) fs m f → MakesFunctionEntry f e → IsFunctionEntry c (in_world w.name.text) a table m e
      function_is m f e (k, at_m, at_f) made =
          let there = each_at (IsFunctionIn c (in_world w.name.text) a table) (functions_among (own_members w.members)) fs functions k m f at_m at_f in
          record { key = made.key ∙ ap spelled there.is.name; made = f; item = made.item; is = there }

      extern_is : (l : ListedTree) (k : ExternKind) (e : Entry) → IsExternMade ps w.name.text (functions_among (own_members w.members)) fs (labelled_texts w) ids l k e → IsExternEntry c w.name.text a table l k e
      extern_is l (scope.ExternKind.function t) e (f, pair, made) = function_is (function_member l t) f e pair made
      extern_is l (scope.ExternKind.interface ms) e (id, (k, at_t, at_id), made) =
          interface_is (own_owner c (in_listed w.name.text l.side l.name.text)) l (λ (n : ℕ). spelled l.name.text) id e
          (each_at (λ (t : InterfaceText) (n : ℕ). slice_get c.owners.interfaces n ≡ Some (own_owner c t.place)) (labelled_texts w) ids labels k (listed_text w.name.text l ms) id at_t at_id) made
      extern_is l (scope.item t) e (id, is, made) = interface_is (target_owner c.me in_interface t) l placed id e (interface_leads t id is) made

      entry_is : (x : WorldMemberTree) (e : Entry) → IsEntryMade ps w.name.text (functions_among (own_members w.members)) fs (labelled_texts w) ids x e → IsEntryOf c w.name.text a table x e
      entry_is (scope.member m) e (f, pair, made) = function_is m f e pair made
      entry_is (scope.listed l) e made = extern_is l l.kind e made
      entry_is (scope.included i) e made = made

      -- what is listed stands for what the text says
      pub lists_are : (imports exports : List Entry) (includes : List WorldInclude) → AreListsMade ps w.name.text w.members fs ids imports exports includes → AreLists c w a table imports exports includes
      lists_are imports exports includes made = record {
        imports_are = each_to (IsEntryMade ps w.name.text (functions_among (own_members w.members)) fs (labelled_texts w) ids) (IsEntryOf c w.name.text a table) (side_members Import w.members) imports (λ x e h g m. entry_is x e m) made.imports_are;
        exports_are = each_to (IsEntryMade ps w.name.text (functions_among (own_members w.members)) fs (labelled_texts w) ids) (IsEntryOf c w.name.text a table) (side_members Export w.members) exports (λ x e h g m. entry_is x e m) made.exports_are;
        includes_are = each_to (MakesInclude ps) (IsIncludeOf c) (includes_of w.members) includes (λ i d h g m. include_is i d m) made.includes_are;
      }

-- so does the world that is made of it
pub made_worlds_stand : MadeWorldsStandForTheirTexts
made_worlds_stand c ps w a table fs ids id d leads in_arena labels made =
    let lists = lists_are c ps leads w a table fs ids in_arena.functions_are labels made.other_imports made.exports made.includes made.lists_are in
    record {
      name = made.is.name;
      table = table;
      sorted = in_arena.sorted;
      are_sorted = in_arena.are_sorted;
      types_are = in_arena.types_are;
      type_entries = made.type_entries;
      type_entries_are = made.type_entries_are;
      other_imports = made.other_imports;
      imports_are = made.is.imports_are;
      lists_are =
          subst (λ (es : List Entry). AreLists c w a table made.other_imports es d.includes.items) (sym made.is.exports_are)
          (subst (λ (is : List WorldInclude). AreLists c w a table made.other_imports made.exports is) (sym made.is.includes_are) lists);
      docs = made.is.docs;
      stability = made.is.stability;
      loose = made.is.loose;
      span = made.is.span;
    }
