-- The names that stand in types, and in what has types (WIT, Types).
use Rattle.std.specs.Prelude.{List, [], ◌∷◌, ◌++◌, map, flat_map, Option}
use Rattle.wit_scopes.specs.Passed.wit_words-Slice.{Slice}
use Rattle.wit_scopes.specs.Passed.wit_productions-TypeTree as written
use Rattle.wit_scopes.specs.Passed.wit_productions-TypeTree.{TypeTree, TypeShape, TypeRow, TypeOption, standing, opt, a_type}
use Rattle.wit_scopes.specs.Passed.wit_items-ItemTree as item
use Rattle.wit_scopes.specs.Passed.wit_items-ItemTree.{ParamTree, FuncTree, FieldTree, CaseTree, TypeDefKindTree}
use Rattle.wit_scopes.specs.Members.{MemberKind, used, defined, function, method, static, constructor}

abbrev mutual
  pub names_in : TypeTree → List Slice
  names_in (standing s sh) = names_in_shape sh

  pub names_in_shape : TypeShape → List Slice
  names_in_shape written.bool = []
  names_in_shape written.u8 = []
  names_in_shape written.u16 = []
  names_in_shape written.u32 = []
  names_in_shape written.u64 = []
  names_in_shape written.s8 = []
  names_in_shape written.s16 = []
  names_in_shape written.s32 = []
  names_in_shape written.s64 = []
  names_in_shape written.f32 = []
  names_in_shape written.f64 = []
  names_in_shape written.char = []
  names_in_shape written.string = []
  names_in_shape written.error_context = []
  names_in_shape (written.named x) = x ∷ []
  names_in_shape (written.list t) = names_in t
  names_in_shape (written.fixed_length_list t n) = names_in t
  names_in_shape (written.option t) = names_in t
  names_in_shape (written.tuple ts) = names_in_row ts
  names_in_shape (written.result ok err) = names_in_part ok ++ names_in_part err
  names_in_shape (written.own x) = x ∷ []
  names_in_shape (written.borrow x) = x ∷ []
  names_in_shape (written.future t) = names_in_part t
  names_in_shape (written.stream t) = names_in_part t

  pub names_in_part : TypeOption → List Slice
  names_in_part written.no_type = []
  names_in_part (written.a_type t) = names_in t

  pub names_in_row : TypeRow → List Slice
  names_in_row written.no_types = []
  names_in_row (written.types t ts) = names_in t ++ names_in_row ts

-- in parts in order
abbrev pub names_in_parts : List TypeOption → List Slice
names_in_parts ps = flat_map names_in_part ps

-- ---- the names that handles name

abbrev mutual
  pub handles_in : TypeTree → List Slice
  handles_in (standing s sh) = handles_in_shape sh

  pub handles_in_shape : TypeShape → List Slice
  handles_in_shape written.bool = []
  handles_in_shape written.u8 = []
  handles_in_shape written.u16 = []
  handles_in_shape written.u32 = []
  handles_in_shape written.u64 = []
  handles_in_shape written.s8 = []
  handles_in_shape written.s16 = []
  handles_in_shape written.s32 = []
  handles_in_shape written.s64 = []
  handles_in_shape written.f32 = []
  handles_in_shape written.f64 = []
  handles_in_shape written.char = []
  handles_in_shape written.string = []
  handles_in_shape written.error_context = []
  handles_in_shape (written.named x) = []
  handles_in_shape (written.list t) = handles_in t
  handles_in_shape (written.fixed_length_list t n) = handles_in t
  handles_in_shape (written.option t) = handles_in t
  handles_in_shape (written.tuple ts) = handles_in_row ts
  handles_in_shape (written.result ok err) = handles_in_part ok ++ handles_in_part err
  handles_in_shape (written.own x) = x ∷ []
  handles_in_shape (written.borrow x) = x ∷ []
  handles_in_shape (written.future t) = handles_in_part t
  handles_in_shape (written.stream t) = handles_in_part t

  pub handles_in_part : TypeOption → List Slice
  handles_in_part written.no_type = []
  handles_in_part (written.a_type t) = handles_in t

  pub handles_in_row : TypeRow → List Slice
  handles_in_row written.no_types = []
  handles_in_row (written.types t ts) = handles_in t ++ handles_in_row ts

abbrev pub handles_in_parts : List TypeOption → List Slice
handles_in_parts ps = flat_map handles_in_part ps

-- ---- the types that stand in members

abbrev pub param_parts : List ParamTree → List TypeOption
param_parts ps = map (λ p. a_type p.ty) ps

abbrev pub field_parts : List FieldTree → List TypeOption
field_parts fs = map (λ f. a_type f.ty) fs

abbrev pub case_parts : List CaseTree → List TypeOption
case_parts cs = map (λ c. opt c.ty) cs

-- of a definition: a resource has none, its functions are members of their own
abbrev pub definition_parts : TypeDefKindTree → List TypeOption
definition_parts (item.alias t) = a_type t ∷ []
definition_parts (item.fields fs) = field_parts fs
definition_parts (item.flags ls) = []
definition_parts (item.labels ls) = []
definition_parts (item.cases cs) = case_parts cs
definition_parts (item.resource fs) = []

-- of parameters and a result
abbrev pub signature_parts : List ParamTree → Option TypeTree → List TypeOption
signature_parts ps t = param_parts ps ++ opt t ∷ []

abbrev pub member_parts : MemberKind → List TypeOption
member_parts (used t n) = []
member_parts (defined k) = definition_parts k
member_parts (function f) = signature_parts f.params f.result
member_parts (method r f) = signature_parts f.params f.result
member_parts (static r f) = signature_parts f.params f.result
member_parts (constructor r ps t) = signature_parts ps t

-- the names that stand in the parameters and the result of a function
abbrev pub names_in_func : FuncTree → List Slice
names_in_func f = names_in_parts (signature_parts f.params f.result)

-- the names that stand in a member
abbrev pub names_in_member : MemberKind → List Slice
names_in_member k = names_in_parts (member_parts k)

-- those that `own` or `borrow` names
abbrev pub handles_in_member : MemberKind → List Slice
handles_in_member k = handles_in_parts (member_parts k)
