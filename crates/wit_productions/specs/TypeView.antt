-- Types as values.
use Rattle.std.specs.Prelude.{Option, Some, None, Box}
use Rattle.std.specs.declared.alloc.Global.{Global}
use Rattle.wit_productions.specs.declared.types.«Type».{«Type»}
use Rattle.wit_productions.specs.declared.types.TypeKind.{TypeKind}
use Rattle.wit_productions.specs.declared.types.TypeKind.TheFolds.{fold-TypeKind, fold-Type}
use Rattle.wit_productions.specs.declared.types.TypeKind.TheOpen.{TypeKind-F, Type-F}
use Rattle.wit_productions.specs.NameView.{id}
use Rattle.wit_productions.specs.TypeTree as tree
use Rattle.wit_productions.specs.TypeTree.{TypeTree, TypeShape, TypeOption, row, no_type, a_type}

abbrev pub part : Option (Box TypeTree Global) → TypeOption
part None = no_type
part (Some t) = a_type t.value

-- one level, with each part already seen as its tree
abbrev pub kind_layer : TypeKind-F TypeShape TypeTree → TypeShape
kind_layer TypeKind-F.Bool = tree.bool
kind_layer TypeKind-F.U8 = tree.u8
kind_layer TypeKind-F.U16 = tree.u16
kind_layer TypeKind-F.U32 = tree.u32
kind_layer TypeKind-F.U64 = tree.u64
kind_layer TypeKind-F.S8 = tree.s8
kind_layer TypeKind-F.S16 = tree.s16
kind_layer TypeKind-F.S32 = tree.s32
kind_layer TypeKind-F.S64 = tree.s64
kind_layer TypeKind-F.F32 = tree.f32
kind_layer TypeKind-F.F64 = tree.f64
kind_layer TypeKind-F.Char = tree.char
kind_layer TypeKind-F.String = tree.string
kind_layer (TypeKind-F.Name s) = tree.named (id s)
kind_layer (TypeKind-F.List t) = tree.list t.value
kind_layer (TypeKind-F.FixedLengthList t n) = tree.fixed_length_list t.value n
kind_layer (TypeKind-F.Option t) = tree.option t.value
kind_layer (TypeKind-F.Tuple v) = tree.tuple (row v.items)
kind_layer (TypeKind-F.Result ok err) = tree.result (part ok) (part err)
kind_layer (TypeKind-F.Own s) = tree.own (id s)
kind_layer (TypeKind-F.Borrow s) = tree.borrow (id s)
kind_layer (TypeKind-F.Future t) = tree.future (part t)
kind_layer (TypeKind-F.Stream t) = tree.stream (part t)
kind_layer TypeKind-F.ErrorContext = tree.error_context

abbrev pub type_layer : Type-F TypeShape TypeTree → TypeTree
type_layer t = tree.standing t.span t.kind

abbrev pub type_shape : TypeKind → TypeShape
type_shape = fold-TypeKind TypeShape TypeTree kind_layer type_layer

abbrev pub type_tree : «Type» → TypeTree
type_tree = fold-Type TypeShape TypeTree kind_layer type_layer

abbrev pub boxed_tree : Box «Type» Global → TypeTree
boxed_tree b = type_tree b.value
