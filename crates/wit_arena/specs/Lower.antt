-- One way to bring a type into an arena (WIT, Types).
use Rattle.std.specs.Prelude.{◌≡◌, ℕ, List, [], ◌∷◌, Option, Some, None, map}
use Rattle.wit_types.specs.Passed.wit_words-declared-source_map-Span.{Span}
use Rattle.wit_types.specs.Passed.wit_words-Slice.{Slice}
use Rattle.wit_types.specs.declared.kind.«Type».{«Type» as Ref}
use Rattle.wit_types.specs.declared.kind.«Type».TheVariants as ref
use Rattle.wit_types.specs.declared.kind.Handle.TheVariants as handle
use Rattle.wit_types.specs.declared.interface.TypeDef.{TypeDef}
use Rattle.wit_type_names.specs.Passed.wit_productions-TypeTree as written
use Rattle.wit_type_names.specs.Passed.wit_productions-TypeTree.{TypeTree, TypeShape, TypeRow, TypeOption, standing}
use Rattle.wit_arena.specs.Meaning.{Has, parts}
use Rattle.wit_arena.specs.Table.{Entries}
use Rattle.wit_arena.specs.Shape as shape
use Rattle.wit_arena.specs.Shape.{ShapeTree}
use Rattle.wit_arena.specs.Arena.{Interns}

-- a type by its word alone
abbrev pub primitive_ref : TypeShape → Option Ref
primitive_ref written.bool = Some ref.Bool
primitive_ref written.u8 = Some ref.U8
primitive_ref written.u16 = Some ref.U16
primitive_ref written.u32 = Some ref.U32
primitive_ref written.u64 = Some ref.U64
primitive_ref written.s8 = Some ref.S8
primitive_ref written.s16 = Some ref.S16
primitive_ref written.s32 = Some ref.S32
primitive_ref written.s64 = Some ref.S64
primitive_ref written.f32 = Some ref.F32
primitive_ref written.f64 = Some ref.F64
primitive_ref written.char = Some ref.Char
primitive_ref written.string = Some ref.String
primitive_ref written.error_context = Some ref.ErrorContext
primitive_ref (written.named x) = None
primitive_ref (written.list t) = None
primitive_ref (written.fixed_length_list t n) = None
primitive_ref (written.option t) = None
primitive_ref (written.tuple ts) = None
primitive_ref (written.result ok err) = None
primitive_ref (written.own x) = None
primitive_ref (written.borrow x) = None
primitive_ref (written.future t) = None
primitive_ref (written.stream t) = None

-- a type that is neither a word nor a name alone
abbrev pub IsComposed : TypeShape → Type 0
IsComposed written.bool = ⊥
IsComposed written.u8 = ⊥
IsComposed written.u16 = ⊥
IsComposed written.u32 = ⊥
IsComposed written.u64 = ⊥
IsComposed written.s8 = ⊥
IsComposed written.s16 = ⊥
IsComposed written.s32 = ⊥
IsComposed written.s64 = ⊥
IsComposed written.f32 = ⊥
IsComposed written.f64 = ⊥
IsComposed written.char = ⊥
IsComposed written.string = ⊥
IsComposed written.error_context = ⊥
IsComposed (written.named x) = ⊥
IsComposed (written.list t) = Unit {0}
IsComposed (written.fixed_length_list t n) = Unit {0}
IsComposed (written.option t) = Unit {0}
IsComposed (written.tuple ts) = Unit {0}
IsComposed (written.result ok err) = Unit {0}
IsComposed (written.own x) = Unit {0}
IsComposed (written.borrow x) = Unit {0}
IsComposed (written.future t) = Unit {0}
IsComposed (written.stream t) = Unit {0}

abbrev pub IsResult : TypeShape → Type 0
IsResult (written.result ok err) = Unit {0}
IsResult _ = ⊥

-- the second part of a result
abbrev pub err_part : TypeShape → TypeOption
err_part (written.result ok err) = err
err_part _ = written.no_type

-- each of the names stands in the table
abbrev pub AreThere : Entries → List Slice → Type 0
AreThere table names = (x : Slice) → Has names x → (i : ℕ) × Has table (x.text, i)

-- ---- types

mutual
  -- From an arena a type gives an arena and a type of it, one rule for each form. A word stands for itself, a name for what the table has; what
  -- is composed is interned behind its parts, and is said to stand where it is written.
  pub data Lowers (table : Entries) : List TypeDef → TypeTree → List TypeDef → Ref → Type 0 where
    lowers_primitive : (a : List TypeDef) (s : Span) (sh : TypeShape) (r : Ref) → primitive_ref sh ≡ Some r → Lowers table a (standing s sh) a r
    lowers_name : (a : List TypeDef) (s : Span) (x : Slice) (i : ℕ) → Has table (x.text, i) → Lowers table a (standing s (written.named x)) a (ref.Id i)
    lowers_composed : (a b c : List TypeDef) (s : Span) (sh : TypeShape) (k : ShapeTree) (r : Ref) → LowersShape table a sh b k → Interns b k s c r → Lowers table a (standing s sh) c r

  pub data LowersShape (table : Entries) : List TypeDef → TypeShape → List TypeDef → ShapeTree → Type 0 where
    lowers_list : (a b : List TypeDef) (e : TypeTree) (r : Ref) → Lowers table a e b r → LowersShape table a (written.list e) b (shape.list r)
    lowers_fixed_length_list : (a b : List TypeDef) (e : TypeTree) (n : ℕ) (r : Ref) → Lowers table a e b r → LowersShape table a (written.fixed_length_list e n) b (shape.fixed_length_list r n)
    lowers_option : (a b : List TypeDef) (e : TypeTree) (r : Ref) → Lowers table a e b r → LowersShape table a (written.option e) b (shape.option r)
    lowers_tuple : (a b : List TypeDef) (es : TypeRow) (rs : List Ref) → LowersParts table a (parts es) b (map (λ r. Some r) rs) → LowersShape table a (written.tuple es) b (shape.tuple rs)
    lowers_result : (a b c : List TypeDef) (ok err : TypeOption) (r q : Option Ref) → LowersPart table a ok b r → LowersPart table b err c q → LowersShape table a (written.result ok err) c (shape.result r q)
    lowers_own : (a : List TypeDef) (x : Slice) (i : ℕ) → Has table (x.text, i) → LowersShape table a (written.own x) a (shape.handle (handle.Own i))
    lowers_borrow : (a : List TypeDef) (x : Slice) (i : ℕ) → Has table (x.text, i) → LowersShape table a (written.borrow x) a (shape.handle (handle.Borrow i))
    lowers_future : (a b : List TypeDef) (e : TypeOption) (r : Option Ref) → LowersPart table a e b r → LowersShape table a (written.future e) b (shape.future r)
    lowers_stream : (a b : List TypeDef) (e : TypeOption) (r : Option Ref) → LowersPart table a e b r → LowersShape table a (written.stream e) b (shape.stream r)

  pub data LowersPart (table : Entries) : List TypeDef → TypeOption → List TypeDef → Option Ref → Type 0 where
    lowers_nothing : (a : List TypeDef) → LowersPart table a written.no_type a None
    lowers_a_type : (a b : List TypeDef) (e : TypeTree) (r : Ref) → Lowers table a e b r → LowersPart table a (written.a_type e) b (Some r)

  -- parts from left to right
  pub data LowersParts (table : Entries) : List TypeDef → List TypeOption → List TypeDef → List (Option Ref) → Type 0 where
    lowers_none : (a : List TypeDef) → LowersParts table a [] a []
    lowers_more : (a b c : List TypeDef) (e : TypeOption) (es : List TypeOption) (r : Option Ref) (rs : List (Option Ref)) → LowersPart table a e b r → LowersParts table b es c rs → LowersParts table a (e ∷ es) c (r ∷ rs)
