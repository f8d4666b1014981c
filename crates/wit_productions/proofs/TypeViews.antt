-- Types in boxes, as values.
use Rattle.std.proofs.Common.{◌≡◌, ℕ, Option, Some, None}
use Rattle.std.specs.Prelude.{Box, option_map}
use Rattle.std.specs.declared.alloc.Global.{Global}
use Rattle.wit_productions.specs.declared.types.«Type».{«Type»}
use Rattle.wit_productions.specs.declared.types.TypeKind.TheViews as views
use Rattle.wit_productions.specs.declared.types.TypeKind.TheFolds.{fold-roll-TypeKind}
use Rattle.wit_productions.specs.declared.types.TypeKind.TheOpen.{TypeKind-F}
use Rattle.wit_productions.specs.TypeTree as tree
use Rattle.wit_productions.specs.TypeTree.{TypeTree, TypeShape, opt, no_type, a_type}
use Rattle.wit_productions.specs.TypeView.{type_shape, boxed_tree, kind_layer, type_layer}

pub list_of : (b : Box «Type» Global) → type_shape (views.List b) ≡ tree.list (boxed_tree b)
unfolding views.roll-TypeKind denote.Hole.Carrier.roll
list_of b = fold-roll-TypeKind TypeShape TypeTree kind_layer type_layer (TypeKind-F.List b)

pub fixed_length_list_of : (b : Box «Type» Global) (n : ℕ) → type_shape (views.FixedLengthList b n) ≡ tree.fixed_length_list (boxed_tree b) n
unfolding views.roll-TypeKind denote.Hole.Carrier.roll
fixed_length_list_of b n = fold-roll-TypeKind TypeShape TypeTree kind_layer type_layer (TypeKind-F.FixedLengthList b n)

pub option_of : (b : Box «Type» Global) → type_shape (views.Option b) ≡ tree.option (boxed_tree b)
unfolding views.roll-TypeKind denote.Hole.Carrier.roll
option_of b = fold-roll-TypeKind TypeShape TypeTree kind_layer type_layer (TypeKind-F.Option b)

pub future_of : (p : Option (Box «Type» Global)) → type_shape (views.Future p) ≡ tree.future (opt (option_map boxed_tree p))
unfolding views.roll-TypeKind denote.Hole.Carrier.roll
future_of (Some b) = fold-roll-TypeKind TypeShape TypeTree kind_layer type_layer (TypeKind-F.Future (Some b))
future_of None = fold-roll-TypeKind TypeShape TypeTree kind_layer type_layer (TypeKind-F.Future None)

pub stream_of : (p : Option (Box «Type» Global)) → type_shape (views.Stream p) ≡ tree.stream (opt (option_map boxed_tree p))
unfolding views.roll-TypeKind denote.Hole.Carrier.roll
stream_of (Some b) = fold-roll-TypeKind TypeShape TypeTree kind_layer type_layer (TypeKind-F.Stream (Some b))
stream_of None = fold-roll-TypeKind TypeShape TypeTree kind_layer type_layer (TypeKind-F.Stream None)

pub result_ok : (b : Box «Type» Global) (e : Option (Box «Type» Global)) → type_shape (views.Result (Some b) e) ≡ tree.result (a_type (boxed_tree b)) (opt (option_map boxed_tree e))
unfolding views.roll-TypeKind denote.Hole.Carrier.roll
result_ok b (Some e) = fold-roll-TypeKind TypeShape TypeTree kind_layer type_layer (TypeKind-F.Result (Some b) (Some e))
result_ok b None = fold-roll-TypeKind TypeShape TypeTree kind_layer type_layer (TypeKind-F.Result (Some b) None)

pub result_err : (b : Box «Type» Global) → type_shape (views.Result None (Some b)) ≡ tree.result no_type (a_type (boxed_tree b))
unfolding views.roll-TypeKind denote.Hole.Carrier.roll
result_err b = fold-roll-TypeKind TypeShape TypeTree kind_layer type_layer (TypeKind-F.Result None (Some b))
