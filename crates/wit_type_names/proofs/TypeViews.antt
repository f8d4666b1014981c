-- Types as values, by their variants.
use Rattle.std.proofs.Common.{◌≡◌, ap, sym, ◌∙◌, Option, Some, None}
use Rattle.std.specs.Prelude.{Box, Vec}
use Rattle.std.specs.declared.alloc.Global.{Global}
use Rattle.wit_scopes.specs.Passed.wit_productions-declared-names-Id.{Id}
use Rattle.wit_scopes.specs.Passed.wit_productions-declared-types-Type.{«Type» as Written}
use Rattle.wit_scopes.specs.Passed.wit_productions-declared-types-TypeKind-TheViews as views
use Rattle.wit_scopes.specs.Passed.wit_productions-declared-types-TypeKind-TheVariants as variants
use Rattle.wit_scopes.specs.Passed.wit_productions-declared-types-TypeKind-TheFolds.{fold-roll-TypeKind, fold-roll-Type}
use Rattle.wit_scopes.specs.Passed.wit_productions-declared-types-TypeKind-TheOpen.{TypeKind-F}
use Rattle.wit_scopes.specs.Passed.wit_productions-NameView.{id}
use Rattle.wit_scopes.specs.Passed.wit_productions-TypeTree as tree
use Rattle.wit_scopes.specs.Passed.wit_productions-TypeTree.{TypeTree, TypeShape, row, standing}
use Rattle.wit_scopes.specs.Passed.wit_productions-TypeView.{type_shape, type_tree, kind_layer, type_layer}
use Rattle.std.proofs.Common.{map}
use Rattle.wit_type_names.specs.TypeView.{part_tree}

pub name_of : (n : Id) → type_shape (variants.Name n) ≡ tree.named (id n)
name_of n = ap type_shape (sym (variants.rolls-Name n)) ∙ fold-roll-TypeKind TypeShape TypeTree kind_layer type_layer (TypeKind-F.Name n)

pub own_of : (n : Id) → type_shape (variants.Own n) ≡ tree.own (id n)
own_of n = ap type_shape (sym (variants.rolls-Own n)) ∙ fold-roll-TypeKind TypeShape TypeTree kind_layer type_layer (TypeKind-F.Own n)

pub borrow_of : (n : Id) → type_shape (variants.Borrow n) ≡ tree.borrow (id n)
borrow_of n = ap type_shape (sym (variants.rolls-Borrow n)) ∙ fold-roll-TypeKind TypeShape TypeTree kind_layer type_layer (TypeKind-F.Borrow n)

pub tuple_of : (v : Vec Written Global) → type_shape (views.Tuple v) ≡ tree.tuple (row (map type_tree v.items))
unfolding views.roll-TypeKind denote.Hole.Carrier.roll
tuple_of v = fold-roll-TypeKind TypeShape TypeTree kind_layer type_layer (TypeKind-F.Tuple v)

pub result_of : (ok err : Option (Box Written Global)) → type_shape (views.Result ok err) ≡ tree.result (part_tree ok) (part_tree err)
unfolding views.roll-TypeKind denote.Hole.Carrier.roll
result_of None None = fold-roll-TypeKind TypeShape TypeTree kind_layer type_layer (TypeKind-F.Result None None)
result_of None (Some e) = fold-roll-TypeKind TypeShape TypeTree kind_layer type_layer (TypeKind-F.Result None (Some e))
result_of (Some b) None = fold-roll-TypeKind TypeShape TypeTree kind_layer type_layer (TypeKind-F.Result (Some b) None)
result_of (Some b) (Some e) = fold-roll-TypeKind TypeShape TypeTree kind_layer type_layer (TypeKind-F.Result (Some b) (Some e))

pub tree_of : (t : Written) → type_tree t ≡ standing t.span (type_shape t.kind)
tree_of t = fold-roll-Type TypeShape TypeTree kind_layer type_layer (record { kind = t.kind; span = t.span })
