-- Types as bytes define them: a form, and its parts, of which each is a primitive type or has an index (Component Model Binary, Type
-- Definitions).
use Rattle.std.specs.Prelude.{ℕ, List, [], ◌∷◌, map, Option, Some}
use Rattle.component_entries.specs.Passed.component_value_types-declared-values-PrimitiveValueType.{PrimitiveValueType}
use Rattle.component_entries.specs.Passed.component_value_types-declared-values-PrimitiveValueType-TheVariants as primitives
use Rattle.component_entries.specs.Passed.component_value_types-declared-values-ValueType.{ValueType}
use Rattle.component_entries.specs.Passed.component_value_types-declared-values-ValueType-TheVariants as values
use Rattle.component_entries.specs.Passed.component_value_types-Combinators.{NamedValue}
use Rattle.component_entries.specs.Passed.component_value_types-Types as typed
use Rattle.component_entries.specs.Passed.component_value_types-Types.{DefinedTypeValue, NamedTypeValue, CaseValue}
use Rattle.type_meaning.specs.Tree.{Kind, Form}
use Rattle.type_meaning.specs.Tree as trees

pub record TypeSyntax : Type 0 where
  pub form : Form
  pub parts : List (Option ValueType)

abbrev pub primitive_kind : PrimitiveValueType → Kind
primitive_kind primitives.Bool = trees.bool
primitive_kind primitives.S8 = trees.s8
primitive_kind primitives.U8 = trees.u8
primitive_kind primitives.S16 = trees.s16
primitive_kind primitives.U16 = trees.u16
primitive_kind primitives.S32 = trees.s32
primitive_kind primitives.U32 = trees.u32
primitive_kind primitives.S64 = trees.s64
primitive_kind primitives.U64 = trees.u64
primitive_kind primitives.F32 = trees.f32
primitive_kind primitives.F64 = trees.f64
primitive_kind primitives.Char = trees.char
primitive_kind primitives.String = trees.string

abbrev pub plain : Kind → Form
plain kind = record { kind = kind; labels = []; number = 0 }

abbrev pub labelled : Kind → List (List ℕ) → Form
labelled kind labels = record { kind = kind; labels = labels; number = 0 }

abbrev pub names_of : {X : Type 0} → List (NamedValue X) → List (List ℕ)
names_of xs = map (λ x. x.name) xs

-- all of these
abbrev pub each_there : {X : Type 0} → List X → List (Option X)
each_there xs = map (λ x. Some x) xs

abbrev pub handle : ℕ → List (Option ValueType)
handle i = Some (values.Index i) ∷ []

abbrev pub syntax_of : DefinedTypeValue → TypeSyntax
syntax_of (typed.primitive p) = record { form = plain (primitive_kind p); parts = [] }
syntax_of (typed.record_of fields) = record { form = labelled trees.record_kind (names_of fields); parts = map (λ (f : NamedTypeValue). Some f.item) fields }
syntax_of (typed.variant_of cases) = record { form = labelled trees.variant_kind (names_of cases); parts = map (λ (c : CaseValue). c.item) cases }
syntax_of (typed.list_of t) = record { form = plain trees.list_kind; parts = Some t ∷ [] }
syntax_of (typed.fixed_length_list_of t n) = record { form = record { kind = trees.fixed_length_list_kind; labels = []; number = n }; parts = Some t ∷ [] }
syntax_of (typed.tuple_of ts) = record { form = plain trees.tuple_kind; parts = each_there ts }
syntax_of (typed.flags_of labels) = record { form = labelled trees.flags_kind labels; parts = [] }
syntax_of (typed.enum_of labels) = record { form = labelled trees.enum_kind labels; parts = [] }
syntax_of (typed.option_of t) = record { form = plain trees.option_kind; parts = Some t ∷ [] }
syntax_of (typed.result_of ok err) = record { form = plain trees.result_kind; parts = ok ∷ err ∷ [] }
syntax_of (typed.own i) = record { form = plain trees.own_kind; parts = handle i }
syntax_of (typed.borrow i) = record { form = plain trees.borrow_kind; parts = handle i }
syntax_of (typed.function f) = record { form = labelled trees.function_kind (names_of f.params); parts = f.result ∷ map (λ (p : NamedTypeValue). Some p.item) f.params }
