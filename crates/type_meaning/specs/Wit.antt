-- WIT types in the words of a component's bytes, which tell what they have to look like from outside (WIT, Types; Component Model, Explainer,
-- Import and Export Definitions).
use Rattle.std.specs.Prelude.{◌≡◌, ℕ, List, [], ◌++◌, Option, Some, None, codes}
use Rattle.wit_arena.specs.Tree as wit
use Rattle.wit_arena.specs.Tree.{PackageText, Place, in_interface, in_world, in_listed, Owner, Primitive}
use Rattle.type_meaning.specs.Tree.{Kind, Tree, Parts, named, resource, of, none, gap, part}
use Rattle.type_meaning.specs.Tree as trees
use Rattle.type_meaning.specs.Words.{Site, root_import, imported, Label, Resource, BinaryTree, NamedTree, seen}
use Rattle.type_meaning.specs.Syntax.{plain, labelled}

-- `namespace:name/interface@version`
abbrev pub version_text : Option (List ℕ) → List ℕ
version_text None = []
version_text (Some version) = codes "@" ++ version

abbrev pub interface_text : PackageText → List ℕ → List ℕ
interface_text p interface = p.namespace ++ (codes ":" ++ (p.name ++ (codes "/" ++ (interface ++ version_text p.version))))

-- what a world imports of types is imported by the component: its own at the root, those of an interface by the instance of that name
abbrev pub site_of : PackageText → Place → Site
site_of p (in_interface x) = imported (interface_text p x)
site_of p (in_world w) = root_import
site_of p (in_listed w side label) = imported label

abbrev pub label_of : Owner → List ℕ → Label
label_of o x = record { site = site_of o.package_text o.place; name = x }

abbrev pub primitive_kind : Primitive → Kind
primitive_kind wit.bool = trees.bool
primitive_kind wit.u8 = trees.u8
primitive_kind wit.u16 = trees.u16
primitive_kind wit.u32 = trees.u32
primitive_kind wit.u64 = trees.u64
primitive_kind wit.s8 = trees.s8
primitive_kind wit.s16 = trees.s16
primitive_kind wit.s32 = trees.s32
primitive_kind wit.s64 = trees.s64
primitive_kind wit.f32 = trees.f32
primitive_kind wit.f64 = trees.f64
primitive_kind wit.char = trees.char
primitive_kind wit.string = trees.string
primitive_kind wit.error_context = trees.error_context

-- names keep their order, each at the place where its owner is
abbrev mutual
  pub in_bytes : wit.Tree → NamedTree
  in_bytes (wit.primitive p) = of (plain (primitive_kind p)) none
  in_bytes (wit.list_tree t) = of (plain trees.list_kind) (part (in_bytes t) none)
  in_bytes (wit.fixed_length_list_tree t n) = of (record { kind = trees.fixed_length_list_kind; labels = []; number = n }) (part (in_bytes t) none)
  in_bytes (wit.option_tree t) = of (plain trees.option_kind) (part (in_bytes t) none)
  in_bytes (wit.tuple_tree ts) = of (plain trees.tuple_kind) (parts_in_bytes ts)
  in_bytes (wit.result_tree ok err) = of (plain trees.result_kind) (part_in_bytes ok (part_in_bytes err none))
  in_bytes (wit.future_tree t) = of (plain trees.future_kind) (part_in_bytes t none)
  in_bytes (wit.stream_tree t) = of (plain trees.stream_kind) (part_in_bytes t none)
  in_bytes (wit.own_tree t) = of (plain trees.own_kind) (part (in_bytes t) none)
  in_bytes (wit.borrow_tree t) = of (plain trees.borrow_kind) (part (in_bytes t) none)
  in_bytes (wit.record_tree names ts) = of (labelled trees.record_kind names) (parts_in_bytes ts)
  in_bytes (wit.flags_tree names) = of (labelled trees.flags_kind names) none
  in_bytes (wit.enum_tree names) = of (labelled trees.enum_kind names) none
  in_bytes (wit.variant_tree names ts) = of (labelled trees.variant_kind names) (parts_in_bytes ts)
  in_bytes (wit.resource_leaf o x) = resource (label_of o x)
  in_bytes (wit.named_tree o x t) = named (label_of o x) (in_bytes t)

  -- in front of these
  pub part_in_bytes : wit.TreeOption → Parts Label Label → Parts Label Label
  part_in_bytes wit.no_tree more = gap more
  part_in_bytes (wit.a_tree t) more = part (in_bytes t) more

  pub parts_in_bytes : wit.Trees → Parts Label Label
  parts_in_bytes wit.no_trees = none
  parts_in_bytes (wit.trees_and t ts) = part_in_bytes t (parts_in_bytes ts)

-- a function that takes, under those names, and gives these
abbrev pub function_in_bytes : List (List ℕ) → wit.Trees → wit.TreeOption → NamedTree
function_in_bytes names params result = of (labelled trees.function_kind names) (part_in_bytes result (parts_in_bytes params))

-- the comparison: the tree of the bytes, as the outside sees it, is the tree of the texts
abbrev pub IsTree : (Resource → Label) → BinaryTree → wit.Tree → Type 0
IsTree leaf t w = seen leaf t ≡ in_bytes w

abbrev pub IsFunctionTree : (Resource → Label) → BinaryTree → List (List ℕ) → wit.Trees → wit.TreeOption → Type 0
IsFunctionTree leaf t names params result = seen leaf t ≡ function_in_bytes names params result
