-- Trees of items as values.
use Rattle.std.specs.Prelude.{map, option_map}
use Rattle.wit_items.specs.declared.items.Attribute.{Attribute}
use Rattle.wit_items.specs.declared.items.Gate.{Gate}
use Rattle.wit_items.specs.declared.items.Gate.TheVariants as gates
use Rattle.wit_items.specs.declared.items.Gated.{Gated}
use Rattle.wit_items.specs.declared.items.UseName.{UseName}
use Rattle.wit_items.specs.declared.items.Use.{Use}
use Rattle.wit_items.specs.declared.items.ToplevelUse.{ToplevelUse}
use Rattle.wit_items.specs.declared.items.Param.{Param}
use Rattle.wit_items.specs.declared.items.Func.{Func}
use Rattle.wit_items.specs.declared.items.NamedFunc.{NamedFunc}
use Rattle.wit_items.specs.declared.items.Field.{Field}
use Rattle.wit_items.specs.declared.items.Flag.{Flag}
use Rattle.wit_items.specs.declared.items.EnumCase.{EnumCase}
use Rattle.wit_items.specs.declared.items.Case.{Case}
use Rattle.wit_items.specs.declared.items.ResourceFunc.{ResourceFunc}
use Rattle.wit_items.specs.declared.items.ResourceFunc.TheVariants as members
use Rattle.wit_items.specs.declared.items.TypeDefKind.{TypeDefKind}
use Rattle.wit_items.specs.declared.items.TypeDefKind.TheVariants as kinds
use Rattle.wit_items.specs.declared.items.TypeDef.{TypeDef}
use Rattle.wit_items.specs.declared.items.InterfaceItem.{InterfaceItem}
use Rattle.wit_items.specs.declared.items.InterfaceItem.TheVariants as interface_items
use Rattle.wit_items.specs.declared.items.Interface.{Interface}
use Rattle.wit_items.specs.ItemTree as tree
use Rattle.wit_items.specs.ItemTree.{GateTree, AttributeTree, GatedTree, UseNameTree, UseTree, ToplevelUseTree, ParamTree, FuncTree, NamedFuncTree, FieldTree, LabelTree, CaseTree, ResourceFuncTree, TypeDefKindTree, TypeDefTree, InterfaceItemTree, InterfaceTree}
use Rattle.wit_productions.specs.TypeView.{type_tree}
pub use Rattle.wit_productions.specs.NameView.{id, version, docs, package_name, use_path}

abbrev pub gate : Gate → GateTree
gate (gates.Since v) = tree.since (version v)
gate (gates.Unstable n) = tree.unstable (id n)
gate (gates.Deprecated v) = tree.deprecated (version v)

abbrev pub attribute : Attribute → AttributeTree
attribute a = record { gate = gate a.gate; span = a.span }

abbrev pub gated : {T X : Type 0} → (T → X) → Gated T → GatedTree X
gated view g = record { docs = docs g.docs; attributes = map attribute g.attributes.items; item = view g.item; span = g.span }

abbrev pub use_name : UseName → UseNameTree
use_name u = record { name = id u.name; other = option_map id u.as_ }

abbrev pub uses : Use → UseTree
uses u = record { from = use_path u.from; names = map use_name u.names.items }

abbrev pub toplevel_use : ToplevelUse → ToplevelUseTree
toplevel_use u = record { item = use_path u.item; other = option_map id u.as_ }

abbrev pub param : Param → ParamTree
param p = record { name = id p.name; ty = type_tree p.ty }

abbrev pub func : Func → FuncTree
func f = record { is_async = f.async_; params = map param f.params.items; result = option_map type_tree f.result }

abbrev pub named_func : NamedFunc → NamedFuncTree
named_func f = record { name = id f.name; func = func f.func }

abbrev pub field : Field → FieldTree
field f = record { docs = docs f.docs; name = id f.name; ty = type_tree f.ty }

abbrev pub flag : Flag → LabelTree
flag f = record { docs = docs f.docs; name = id f.name }

abbrev pub enum_case : EnumCase → LabelTree
enum_case c = record { docs = docs c.docs; name = id c.name }

abbrev pub case : Case → CaseTree
case c = record { docs = docs c.docs; name = id c.name; ty = option_map type_tree c.ty }

abbrev pub resource_func : ResourceFunc → ResourceFuncTree
resource_func (members.Constructor ps r) = tree.constructor (map param ps.items) (option_map type_tree r)
resource_func (members.Method f) = tree.method (named_func f)
resource_func (members.Static f) = tree.static (named_func f)

abbrev pub type_def_kind : TypeDefKind → TypeDefKindTree
type_def_kind (kinds.Alias t) = tree.alias (type_tree t)
type_def_kind (kinds.Record fs) = tree.fields (map field fs.items)
type_def_kind (kinds.Flags fs) = tree.flags (map flag fs.items)
type_def_kind (kinds.Enum cs) = tree.labels (map enum_case cs.items)
type_def_kind (kinds.Variant cs) = tree.cases (map case cs.items)
type_def_kind (kinds.Resource fs) = tree.resource (map (gated resource_func) fs.items)

abbrev pub type_def : TypeDef → TypeDefTree
type_def d = record { name = id d.name; kind = type_def_kind d.kind }

abbrev pub interface_item : InterfaceItem → InterfaceItemTree
interface_item (interface_items.Use u) = tree.InterfaceItemTree.uses (uses u)
interface_item (interface_items.TypeDef d) = tree.InterfaceItemTree.type_def (type_def d)
interface_item (interface_items.Func f) = tree.InterfaceItemTree.func (named_func f)

abbrev pub interface : Interface → InterfaceTree
interface i = record { name = id i.name; items = map (gated interface_item) i.items.items }
