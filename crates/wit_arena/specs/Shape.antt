-- What types without a name are made of (WIT, Types).
use Rattle.std.specs.Prelude.{ℕ, Bool, List, Option, Some, None}
use Rattle.wit_types.specs.declared.kind.«Type».{«Type» as Ref}
use Rattle.wit_types.specs.declared.kind.Handle.{Handle}
use Rattle.wit_types.specs.declared.kind.TypeDefKind.{TypeDefKind}
use Rattle.wit_types.specs.declared.kind.TypeDefKind.TheVariants as kinds
use Rattle.wit_arena.specs.declared.shape.Shape.{Shape}
use Rattle.wit_arena.specs.declared.shape.Shape.TheVariants as shapes
use Rattle.wit_arena.specs.contracts.shape.ShapePartialEq.TheImpl as shape_test

-- a shape by what it is made of, wherever its parts lie in memory
pub data ShapeTree : Type 0 where
  handle : Handle → ShapeTree
  tuple : List Ref → ShapeTree
  option : Ref → ShapeTree
  result : Option Ref → Option Ref → ShapeTree
  list : Ref → ShapeTree
  fixed_length_list : Ref → ℕ → ShapeTree
  future : Option Ref → ShapeTree
  stream : Option Ref → ShapeTree

abbrev pub shape_of : Shape → ShapeTree
shape_of (shapes.Handle h) = handle h
shape_of (shapes.Tuple ts) = tuple ts.items
shape_of (shapes.Option t) = option t
shape_of (shapes.Result r) = result r.ok r.err
shape_of (shapes.List t) = list t
shape_of (shapes.FixedLengthList t n) = fixed_length_list t n
shape_of (shapes.Future t) = future t
shape_of (shapes.Stream t) = stream t

-- the shape of what a definition is, where a type without a name may be that
abbrev pub kind_shape : TypeDefKind → Option ShapeTree
kind_shape (kinds.Record r) = None
kind_shape kinds.Resource = None
kind_shape (kinds.Handle h) = Some (handle h)
kind_shape (kinds.Flags f) = None
kind_shape (kinds.Tuple t) = Some (tuple t.types.items)
kind_shape (kinds.Variant v) = None
kind_shape (kinds.Enum e) = None
kind_shape (kinds.Option t) = Some (option t)
kind_shape (kinds.Result r) = Some (result r.ok r.err)
kind_shape (kinds.List t) = Some (list t)
kind_shape (kinds.FixedLengthList t n) = Some (fixed_length_list t n)
kind_shape (kinds.Future t) = Some (future t)
kind_shape (kinds.Stream t) = Some (stream t)
kind_shape (kinds.Alias t) = None
kind_shape kinds.Unknown = None

-- what `==` says of two shapes
unfoldable pub shape_eq : Shape → Shape → Bool
shape_eq = (shape_test.ghosts).eq
