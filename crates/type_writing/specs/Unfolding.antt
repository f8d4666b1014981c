-- Types of an arena as trees, without resources: each with the names by which it is reached, by their ids (WIT, Types, Items).
use Rattle.std.specs.Prelude.{◌≡◌, ℕ, List, [], ◌∷◌, map, slice_get, Option, Some, None, String, string_bytes}
use Rattle.std.specs.declared.alloc.Global.{Global}
use Rattle.wit_types.specs.declared.kind.«Type».{«Type» as Ref}
use Rattle.wit_types.specs.declared.kind.«Type».TheVariants as ref
use Rattle.wit_types.specs.declared.kind.TypeDefKind.{TypeDefKind}
use Rattle.wit_types.specs.declared.kind.TypeDefKind.TheVariants as kind
use Rattle.wit_types.specs.declared.interface.TypeDef.{TypeDef}
use Rattle.wit_types.specs.declared.interface.TypeOwner.{TypeOwner}
use Rattle.type_meaning.specs.Tree.{Kind, Form, Tree, Parts, named, of, none, gap, part}
use Rattle.type_meaning.specs.Tree as trees
use Rattle.type_meaning.specs.Syntax.{plain, labelled}

-- a name, and whose it is
pub record OwnName : Type 0 where
  pub owner : TypeOwner
  pub name : List ℕ

abbrev pub WitTree : Type 0
WitTree = Tree OwnName OwnName

-- ---- forms

abbrev pub primitive_of : Ref → Option Kind
primitive_of ref.Bool = Some trees.bool
primitive_of ref.U8 = Some trees.u8
primitive_of ref.U16 = Some trees.u16
primitive_of ref.U32 = Some trees.u32
primitive_of ref.U64 = Some trees.u64
primitive_of ref.S8 = Some trees.s8
primitive_of ref.S16 = Some trees.s16
primitive_of ref.S32 = Some trees.s32
primitive_of ref.S64 = Some trees.s64
primitive_of ref.F32 = Some trees.f32
primitive_of ref.F64 = Some trees.f64
primitive_of ref.Char = Some trees.char
primitive_of ref.String = Some trees.string
primitive_of ref.ErrorContext = None
primitive_of (ref.Id i) = None

-- a form, with its parts
pub record FormOf : Type 0 where
  pub form : Form
  pub parts : List (Option Ref)

-- of what is no other name of a type, no resource and no handle, and none of what is asynchronous
abbrev pub form_of : TypeDefKind → Option FormOf
form_of (kind.Record r) = Some (record { form = labelled trees.record_kind (map (λ f. string_bytes f.name) r.fields.items); parts = map (λ f. Some f.ty) r.fields.items })
form_of kind.Resource = None
form_of (kind.Handle h) = None
form_of (kind.Flags f) = Some (record { form = labelled trees.flags_kind (map (λ l. string_bytes l.name) f.flags.items); parts = [] })
form_of (kind.Tuple t) = Some (record { form = plain trees.tuple_kind; parts = map (λ r. Some r) t.types.items })
form_of (kind.Variant v) = Some (record { form = labelled trees.variant_kind (map (λ c. string_bytes c.name) v.cases.items); parts = map (λ c. c.ty) v.cases.items })
form_of (kind.Enum e) = Some (record { form = labelled trees.enum_kind (map (λ c. string_bytes c.name) e.cases.items); parts = [] })
form_of (kind.Option r) = Some (record { form = plain trees.option_kind; parts = Some r ∷ [] })
form_of (kind.Result r) = Some (record { form = plain trees.result_kind; parts = r.ok ∷ r.err ∷ [] })
form_of (kind.List r) = Some (record { form = plain trees.list_kind; parts = Some r ∷ [] })
form_of (kind.FixedLengthList r n) = Some (record { form = record { kind = trees.fixed_length_list_kind; labels = []; number = n }; parts = Some r ∷ [] })
form_of (kind.Future r) = None
form_of (kind.Stream r) = None
form_of (kind.Alias r) = None
form_of kind.Unknown = None

-- ---- trees

-- under its own name, if it has one
abbrev pub under_name : TypeOwner → Option (String Global) → WitTree → WitTree
under_name owner None t = t
under_name owner (Some x) t = named (record { owner = owner; name = string_bytes x }) t

mutual
  -- a type where it is used
  pub data Unfolds (types : List TypeDef) : Ref → WitTree → Type 0 where
    unfolds_primitive : (r : Ref) (k : Kind) → primitive_of r ≡ Some k → Unfolds types r (of (plain k) none)
    unfolds_type : (id : ℕ) (d : TypeDef) (t : WitTree) → slice_get types id ≡ Some d → KindUnfolds types d.kind t → Unfolds types (ref.Id id) (under_name d.owner d.name t)

  -- what a type is, without its own name
  pub data KindUnfolds (types : List TypeDef) : TypeDefKind → WitTree → Type 0 where
    unfolds_form : (k : TypeDefKind) (f : FormOf) (ts : Parts OwnName OwnName) → form_of k ≡ Some f → PartsUnfold types f.parts ts → KindUnfolds types k (of f.form ts)
    unfolds_alias : (r : Ref) (t : WitTree) → Unfolds types r t → KindUnfolds types (kind.Alias r) t

  pub data PartsUnfold (types : List TypeDef) : List (Option Ref) → Parts OwnName OwnName → Type 0 where
    no_parts : PartsUnfold types [] none
    gap_unfolds : (ps : List (Option Ref)) (ts : Parts OwnName OwnName) → PartsUnfold types ps ts → PartsUnfold types (None ∷ ps) (gap ts)
    part_unfolds : (r : Ref) (t : WitTree) (ps : List (Option Ref)) (ts : Parts OwnName OwnName) → Unfolds types r t → PartsUnfold types ps ts → PartsUnfold types (Some r ∷ ps) (part t ts)
