-- What a component imports for a link table, and which of its functions and types are linked (Component Model, Explainer, Import and Export
-- Definitions; WIT, Worlds).
use Rattle.std.specs.Prelude.{◌≡◌, ℕ, List, [], ◌++◌, slice_get, Option, Some, String, string_bytes}
use Rattle.std.specs.declared.alloc.Global.{Global}
use Rattle.std.specs.List.{AllByRecursion as Each}
use Rattle.wit_order.specs.Order.{Has}
use Rattle.wit_types.specs.declared.function.Function.{Function}
use Rattle.wit_types.specs.declared.interface.Interface.{Interface}
use Rattle.wit_types.specs.declared.interface.TypeDef.{TypeDef}
use Rattle.wit_types.specs.declared.interface.TypeOwner.TheVariants as belongs
use Rattle.wit_types.specs.declared.world.WorldItem.TheVariants as item
use Rattle.wit_types.specs.declared.world_key.WorldKey.{WorldKey}
use Rattle.wit_core_names.specs.Texts.{IsNameOf}
use Rattle.wit_reach.specs.Holding.{AreTheirs, AreListed as AreTypesOfInterfacesListed}
use Rattle.wit_reach.specs.Made.{IsMadeOfWithin}
use Rattle.wit_reach.specs.Paths.{AreEnds}
use Rattle.type_writing.specs.Passed.type_meaning-Words.{root_import, Label}
use Rattle.type_writing.specs.Passed.type_meaning-Items.{from_import, Item, a_function, an_instance, Items, item_at, item_named, Entry}
use Rattle.type_writing.specs.Passed.type_meaning-Scope.{Scope}
use Rattle.type_writing.specs.Functions.{FunctionStands}
use Rattle.type_writing.specs.Unfolding.{WitTree}
use Rattle.type_writing.specs.Writing.{written}
use Rattle.type_writing.specs.Placing.{AreLabelsApart}
use Rattle.component_imports.specs.Passed.type_sinks-Root.{InterfaceNames, root_label}
use Rattle.component_imports.specs.Passed.type_sinks-Views.{root_names, interface_names}
use Rattle.component_imports.specs.Passed.type_sinks-declared-root-Root.{Root}
use Rattle.component_imports.specs.Functions.{HaveParametersApart}
use Rattle.component_imports.specs.Interfaces.{ids_of, AreNeededImported}
use Rattle.component_imports.specs.World.{IsWorldUnready}
use Rattle.component_imports.specs.Ready.{IsInterfaceAsked, AreWritable}
use Rattle.core_links.specs.Names.{Names}
use Rattle.core_links.specs.Needed.{IsKeyOf, AreOwnNeeded, AreLinkedNeeded}
use Rattle.right_components.specs.Passed.link_table-Linking.{Linking, types_of, exported_functions}
use Rattle.right_components.specs.Passed.link_table-Pairwise.{Pairwise}
use Rattle.right_components.specs.Passed.link_table-Table.{ImportEntry, Table}
use Rattle.right_components.specs.Passed.link_table-Types.{HasTree}
use Rattle.right_components.specs.Needed.{AreInOrder}
use Rattle.right_components.specs.Outside.{IsTextOf, IsListed, AreTypesHeld}
use Rattle.right_components.specs.Ends.{IsImportOf}

-- ---- what is linked

-- the function with that label is imported: by the root itself, or by an instance
pub data HasImport (s : Scope) (label : Label) (i : Item) : Type 0 where
  its_own : label.site ≡ root_import → Has s.imports (record { name = label.name; item = i }) → HasImport s label i
  of_instance : (x : Entry) (items : Items) → Has s.imports x → x.item ≡ an_instance label.site items → item_named label.name items ≡ i → HasImport s label i

-- the function at an index is that of an entry, which is imported
pub record IsLowered (l : Linking) (names : InterfaceNames) (s : Scope) (e : ImportEntry) (i : ℕ) : Type 0 where
  pub label : Label
  pub is_import : IsImportOf l.names e label
  pub tree : WitTree
  pub unfolds : HasTree (types_of l) e.function tree
  pub is : item_at s.functions i ≡ a_function (from_import label) (written (root_label names) tree)
  pub imported : HasImport s label (a_function (from_import label) (written (root_label names) tree))

-- the type at an index is that of a function
abbrev pub IsTypeAt : Linking → InterfaceNames → Scope → Function → ℕ → Type 0
IsTypeAt l names s f i = FunctionStands (root_label names) (types_of l) s.types f.params.items f.result i

-- ---- what a world lists

-- what core imports need, by the world's own functions and those of interfaces
pub record AreNeeded (l : Linking) (own : List Function) (linked : List (List Function)) : Type 0 where
  pub own_are : AreOwnNeeded l.names l.main.imports own
  pub linked_are : AreLinkedNeeded l.names l.main.imports linked

-- the types that functions of the world itself take and give: those that are needed, and those that it exports
abbrev pub own_types : Linking → List Function → List ℕ
own_types l own = ids_of own ++ ids_of (exported_functions l.names.world)

-- what is needed is as those ask who import it: interfaces of which something is asked are listed by the world, under names of their own,
-- and so are the world's own types
pub record AreListed (l : Linking) (world : ℕ) (own : List Function) (linked : List (List Function)) : Type 0 where
  pub interfaces : (j : ℕ) → IsInterfaceAsked (types_of l) (own_types l own) linked j → (key : WorldKey) × IsKeyOf l.names key j
  pub types : (ids : List ℕ) (id : ℕ) (d : TypeDef) (name : List ℕ) → AreEnds (IsMadeOfWithin (belongs.World world) (types_of l)) (Has (own_types l own)) ids → Has ids id → slice_get (types_of l) id ≡ Some d
      → IsNameOf (types_of l) id name → ((j : ℕ) → d.owner ≡ belongs.Interface j → ⊥) → (key : WorldKey) × (span : _) × Has l.names.world.imports.entries (key, item.TypeItem id span)

-- what interfaces and what they have are known by: each key of an interface that the world imports has a text, all types of interfaces stand
-- in them under their names, and so do functions
pub record AreNamed (n : Names) : Type 0 where
  pub keys : (key : WorldKey) (id : ℕ) → IsKeyOf n key id → (text : List ℕ) × IsTextOf n key text
  pub types : AreTheirs 0 n.known.types n.known.interfaces
  pub all_types : AreTypesOfInterfacesListed 0 n.known.types n.known.interfaces
  pub functions : (j : ℕ) (d : Interface) (e : String Global × Function) → slice_get n.known.interfaces j ≡ Some d → Has d.functions.entries e → string_bytes e.0 ≡ string_bytes e.1.name

-- ---- all

-- what a component imports, of which these functions are lowered for core imports, and these types are those of exported functions
pub record AreImportsWritten (l : Linking) (t : Table) (names : InterfaceNames) (s : Scope) (lowered lifted : List ℕ) : Type 0 where
  pub lowered_are : Pairwise (IsLowered l names s) t.imports lowered
  pub lifted_are : Pairwise (IsTypeAt l names s) (exported_functions l.names.world) lifted
  pub exports : s.exports ≡ []

-- all that it imports is needed and listed by the world, types of interfaces that are needed are imported, and interfaces stand in order
pub record AreImportsListed (l : Linking) (names : InterfaceNames) (s : Scope) : Type 0 where
  pub each : Each (IsListed l names) s.imports
  pub types : AreTypesHeld l names s.imports
  pub order : AreInOrder l names s.imports

-- what is needed stands in the way of nothing, but sizes and memory
pub record IsImportable (l : Linking) (world : ℕ) (names : InterfaceNames) : Type 0 where
  pub interfaces : (own : List Function) (linked : List (List Function)) (r : Root) → AreNeeded l own linked → interface_names r ≡ names → root_names r ≡ [] → AreWritable r (types_of l) (own_types l own) linked
  pub functions : (own : List Function) (linked : List (List Function)) (r s : Root) (instances : List (Option ℕ)) → AreNeeded l own linked → interface_names r ≡ names → root_names r ≡ []
      → AreNeededImported r s (types_of l) instances (own_types l own) linked → IsWorldUnready s (types_of l) world (ids_of (exported_functions l.names.world)) own → ⊥

-- ---- names

-- labels of types differ, and parameters of functions that are needed or exported
pub record ArePartsApart (l : Linking) : Type 0 where
  pub types : AreLabelsApart (types_of l)
  pub needed : (own : List Function) (linked : List (List Function)) → AreNeeded l own linked → HaveParametersApart own × Each HaveParametersApart linked
  pub exported : HaveParametersApart (exported_functions l.names.world)
