-- What stands for a type goes on standing where the space grows, and forms over parts that stand, stand.
use Rattle.std.proofs.Common.{◌≡◌, ℕ, zero, suc, ◌+◌, ◌<◌, List, [], ◌∷◌, ◌++◌, length, map, take, get_or, Option, Some, None, Bool, true, false, refl, sym, ap, subst, ◌∙◌, append_assoc, inl, inr}
use Rattle.std.specs.Prelude.{Result, Ok, Err, IfOk, OnOk, OnErr, slice_get, option_map, not, if◌then◌else◌, String, string_bytes}
use Rattle.std.specs.List.{AllByRecursion as Each, flat_map}
use Rattle.std.proofs.lemmas.Grind.{flat_map-append}
use Rattle.std.specs.declared.alloc.Global.{Global}
use Rattle.std.proofs.lemmas.List.{append-nil, map-append, take_more}
use Rattle.std.proofs.lemmas.Bool.{cases_Bool}
use Rattle.type_meaning.specs.Passed.component_value_types-declared-values-PrimitiveValueType.{PrimitiveValueType}
use Rattle.type_meaning.specs.Passed.component_value_types-declared-values-PrimitiveValueType-TheVariants as primitives
use Rattle.type_meaning.specs.Passed.component_value_types-declared-values-ValueType.{ValueType}
use Rattle.type_meaning.specs.Passed.component_value_types-declared-values-ValueType-TheVariants as values
use Rattle.type_meaning.specs.Passed.component_value_types-declared-values-ValueType-TheVariants.{Index}
use Rattle.type_meaning.specs.Passed.component_value_types-Types.{DefinedTypeValue}
use Rattle.type_meaning.specs.Passed.component_value_types-Types as typed
use Rattle.wit_types.specs.declared.kind.«Type».{«Type» as Ref}
use Rattle.wit_types.specs.declared.kind.«Type».TheVariants.{Id}
use Rattle.wit_types.specs.declared.kind.TypeDefKind.{TypeDefKind}
use Rattle.wit_types.specs.declared.kind.TypeDefKind.TheVariants as kind
use Rattle.wit_types.specs.declared.interface.TypeDef.{TypeDef}
use Rattle.wit_types.specs.declared.function.Param.{Param}
use Rattle.type_writing.specs.Functions.{function_form, IsFunctionOf, FunctionStands}
use Rattle.type_meaning.specs.Tree.{Kind, Form, Parts, named, of, none, gap, part, record_kind, function_kind, is_resource}
use Rattle.type_meaning.specs.Words.{Label, BinaryTree}
use Rattle.type_meaning.specs.Passed.component_value_types-declared-named-Named.{Named}
use Rattle.type_meaning.specs.Passed.component_value_types-Combinators.{NamedValue}
use Rattle.type_meaning.specs.Passed.component_value_types-Names.{named_value}
use Rattle.type_meaning.specs.Syntax.{plain, primitive_kind, syntax_of, names_of}
use Rattle.type_meaning.specs.Items.{Item, nothing, a_type, a_function, an_instance_type, an_instance, or_nothing, item_at, is_handle_kind, is_value, is_function, type_if, part_test, part_tree, parts_in, with_part, type_item, type_or_nothing, named_item}
use Rattle.type_writing.specs.Unfolding.{OwnName, primitive_of, under_name, Unfolds, unfolds_primitive, unfolds_type, unfolds_form, unfolds_alias, PartsUnfold, no_parts, gap_unfolds, part_unfolds}
use Rattle.type_writing.specs.Writing.{written, written_parts, value_tree, Stands, PartStands, PartsStand, IsDefinedAs, KindStands, Begins, Setting, HasItsName, name_given, name_of, names_of_types}

-- ---- beginnings

pub begins_here : {X : Type 0} (xs : List X) → Begins xs xs
begins_here xs = ([], sym (append-nil xs))

pub begins_on : {X : Type 0} (xs ys zs : List X) → Begins xs ys → Begins ys zs → Begins xs zs
begins_on xs ys zs b c = (b.0 ++ c.0, c.1 ∙ ap (λ l. l ++ c.0) b.1 ∙ append_assoc xs b.0 c.0)

pub begins_same : {X : Type 0} (xs ys : List X) → ys ≡ xs → Begins xs ys
begins_same xs ys e = ([], e ∙ sym (append-nil xs))

-- whatever a call answers
pub in_either : {X E R Q : Type 0} (r : Result X E) (P : X → Type 0) → ((x : X) → P x → R) → (Q → R) → IfOk r P → OnErr r Q → R
in_either (Ok x) P f g h k = f x h
in_either (Err e) P f g h k = g k

pub on_ok_always : {X E P : Type 0} (r : Result X E) → P → OnOk r P
on_ok_always (Ok x) p = p
on_ok_always (Err e) p = tt

pub get_begin : {X : Type 0} (xs more : List X) (i : ℕ) (x : X) → slice_get xs i ≡ Some x → slice_get (xs ++ more) i ≡ Some x
get_begin [] more i x h = absurd cc
get_begin (y ∷ xs) more zero x h = h
get_begin (y ∷ xs) more (suc i) x h = get_begin xs more i x h

-- ---- the value type at an index

value_read : (x : Option Item) (t : BinaryTree) → type_if (part_test record_kind) (or_nothing x) ≡ Some t → (x ≡ Some (a_type t)) × (is_value t ≡ true)
value_read None t h = absurd cc
value_read (Some nothing) t h = absurd cc
value_read (Some (a_function o u)) t h = absurd cc
value_read (Some (an_instance_type is)) t h = absurd cc
value_read (Some (an_instance s is)) t h = absurd cc
value_read (Some (a_type u)) t h = elim (cases_Bool (is_value u)) [
  | inl e ↦ let k : Some u ≡ Some t = rw e at h in let same : u ≡ t = cc in (ap (λ v. Some (a_type v)) same, sym (ap is_value same) ∙ e)
  | inr e ↦ let k : None ≡ Some t = rw e at h in absurd cc
]

pub value_inside : (space : List Item) (i : ℕ) (t : BinaryTree) → value_tree space (Index i) ≡ Some t → (item_at space i ≡ a_type t) × (is_value t ≡ true)
value_inside space i t h =
    let r = value_read (slice_get space i) t h in
    (ap or_nothing r.0, r.1)

pub value_from : (space : List Item) (i : ℕ) (t : BinaryTree) → item_at space i ≡ a_type t → is_value t ≡ true → value_tree space (Index i) ≡ Some t
value_from space i t h e = rw h (rw e refl)

pub value_keeps : (xs ys : List Item) (v : ValueType) (t : BinaryTree) → Begins xs ys → value_tree xs v ≡ Some t → value_tree ys v ≡ Some t
value_keeps xs ys (values.Primitive k) t b h = h
value_keeps xs ys (Index i) t b h =
    let r = value_read (slice_get xs i) t h in
    value_from ys i t (ap or_nothing (ap (λ l. slice_get l i) b.1 ∙ get_begin xs b.0 i (a_type t) r.0)) r.1

pub stands_keeps : (label more : OwnName → Label) (types : List TypeDef) (xs ys : List Item) (r : Ref) (v : ValueType) → more ≡ label → Begins xs ys → Stands label types xs r v → Stands more types ys r v
stands_keeps label more types xs ys r v e b s = (s.0, s.1, value_keeps xs ys v (written more s.0) b (s.2 ∙ ap (λ l. Some (written l s.0)) (sym e)))

-- ---- parts

parts_push : (label : OwnName → Label) (types : List TypeDef) (space : List Item) (rs : List (Option Ref)) (vs : List (Option ValueType)) (r : Option Ref) (v : Option ValueType)
    → PartsStand label types space rs vs → PartStands label types space r v → PartsStand label types space (rs ++ r ∷ []) (vs ++ v ∷ [])
parts_push label types space [] [] r v s p = (p, tt)
parts_push label types space [] (w ∷ vs) r v s p = absurd s
parts_push label types space (q ∷ rs) [] r v s p = absurd s
parts_push label types space (q ∷ rs) (w ∷ vs) r v s p = (s.0, parts_push label types space rs vs r v s.1 p)

-- one more turn of a loop over what parts are made of
pub parts_next : {X Y : Type 0} (label : OwnName → Label) (types : List TypeDef) (space : List Item) (f : X → Option Ref) (g : Y → Option ValueType) (xs : List X) (ys new : List Y) (i : ℕ) (x : X) (y : Y)
    → i < length xs → x ≡ get_or xs i x → new ≡ ys ++ y ∷ [] → PartsStand label types space (map f (take i xs)) (map g ys) → PartStands label types space (f x) (g y)
    → PartsStand label types space (map f (take (i + 1) xs)) (map g new)
parts_next {X} label types space f g xs ys new i x y lt here grown s p =
    let taken : map f (take i xs) ++ f x ∷ [] ≡ map f (take (i + 1) xs) =
    sym (ap (map f) (take_more xs i x lt ∙ ap (λ (z : X). take i xs ++ z ∷ []) (sym here)) ∙ map-append f (take i xs) (x ∷ [])) in
    let put : map g ys ++ g y ∷ [] ≡ map g new = sym (ap (map g) grown ∙ map-append g ys (y ∷ [])) in
    subst (λ rs. PartsStand label types space rs (map g new)) taken (subst (PartsStand label types space (map f (take i xs) ++ f x ∷ [])) put (parts_push label types space (map f (take i xs)) (map g ys) (f x) (g y) s p))

-- the parts as a form reads them
part_reads : (k : Kind) (space : List Item) (v : ValueType) → is_handle_kind k ≡ false → part_tree k space v ≡ value_tree space v
part_reads k space (values.Primitive p) h = refl
part_reads k space (Index i) h = ap (λ (b : Bool). type_if (λ (t : BinaryTree). if b then is_resource t else is_value t) (item_at space i)) h

pub parts_written : (label : OwnName → Label) (types : List TypeDef) (space : List Item) (k : Kind) (rs : List (Option Ref)) (vs : List (Option ValueType)) → is_handle_kind k ≡ false → PartsStand label types space rs vs
    → (ts : Parts OwnName OwnName) × PartsUnfold types rs ts × (parts_in k space vs ≡ Some (written_parts label ts))
parts_written label types space k [] [] h s = (none, no_parts, refl)
parts_written label types space k [] (v ∷ vs) h s = absurd s
parts_written label types space k (r ∷ rs) [] h s = absurd s
parts_written label types space k (None ∷ rs) (None ∷ vs) h s =
    let more = parts_written label types space k rs vs h s.1 in
    (gap more.0, gap_unfolds rs more.0 more.1, ap (option_map gap) more.2)
parts_written label types space k (None ∷ rs) (Some v ∷ vs) h s = absurd s.0
parts_written label types space k (Some r ∷ rs) (None ∷ vs) h s = absurd s.0
parts_written label types space k (Some r ∷ rs) (Some v ∷ vs) h s =
    let more = parts_written label types space k rs vs h s.1 in
    let e = part_reads k space v h ∙ s.0.2 in
    let f = more.2 in
    (part s.0.0 more.0, part_unfolds r s.0.0 rs more.0 s.0.1 more.1, λ i. with_part (e i) (f i))

-- ---- the index that comes next

pub new_item : (xs : List Item) (x : Item) → item_at (xs ++ x ∷ []) (length xs) ≡ x
new_item [] x = refl
new_item (y ∷ xs) x = new_item xs x

pub next_value : (old new : List Item) (i : ℕ) (x : Item) (t : BinaryTree) → i ≡ length old → new ≡ old ++ x ∷ [] → x ≡ a_type t → is_value t ≡ true → value_tree new (Index i) ≡ Some t
next_value old new i x t at e is v = value_from new i t (ap (item_at new) at ∙ ap (λ l. item_at l (length old)) e ∙ new_item old x ∙ is) v

-- a definition over parts that stand
pub defined_stands : (label more : OwnName → Label) (types : List TypeDef) (old new : List Item) (k : TypeDefKind) (d : DefinedTypeValue) (i : ℕ)
    → IsDefinedAs label types old k d → more ≡ label → i ≡ length old → new ≡ old ++ type_item old d ∷ [] → KindStands more types new k i
defined_stands label more types old new k d i h lab at e =
    let f = h.form.form in
    let syntax = syntax_of d in
    let r = parts_written label types old f.kind h.form.parts syntax.parts h.no_handle h.parts in
    let w = r.2 ∙ ap (λ l. Some (written_parts l r.0)) (sym lab) in
    let is : type_item old d ≡ a_type (of f (written_parts more r.0)) =
    ap (λ (g : Form). type_or_nothing (option_map (of g) (parts_in g.kind old syntax.parts))) h.same ∙ ap (λ p. type_or_nothing (option_map (of f) p)) w in
    (of f r.0, unfolds_form k h.form r.0 h.is r.1, next_value old new i (type_item old d) (of f (written_parts more r.0)) at e is (ap not h.values))

-- and the type of a function
pub function_stands : (label more : OwnName → Label) (types : List TypeDef) (old new : List Item) (params : List Param) (result : Option Ref) (d : DefinedTypeValue) (i : ℕ)
    → IsFunctionOf label types old params result d → more ≡ label → i ≡ length old → new ≡ old ++ type_item old d ∷ [] → FunctionStands more types new params result i
function_stands label more types old new params result d i h lab at e =
    let f = function_form params result in
    let syntax = syntax_of d in
    let r = parts_written label types old function_kind f.parts syntax.parts refl h.parts in
    let w = r.2 ∙ ap (λ l. Some (written_parts l r.0)) (sym lab) in
    let is : type_item old d ≡ a_type (of f.form (written_parts more r.0)) =
    ap (λ (g : Form). type_or_nothing (option_map (of g) (parts_in g.kind old syntax.parts))) h.same ∙ ap (λ p. type_or_nothing (option_map (of f.form) p)) w in
    let there : item_at new i ≡ a_type (of f.form (written_parts more r.0)) = ap (item_at new) at ∙ ap (λ l. item_at l (length old)) e ∙ new_item old (type_item old d) ∙ is in
    (of f.form r.0, record { parts = r.0; unfolds = r.1; is = refl }, ap (type_if is_function) there)

-- ---- primitive types

pub primitive_stands : (label : OwnName → Label) (types : List TypeDef) (space : List Item) (r : Ref) (p : PrimitiveValueType) → primitive_of r ≡ Some (primitive_kind p) → Stands label types space r (values.Primitive p)
primitive_stands label types space r p h = (of (plain (primitive_kind p)) none, unfolds_primitive r (primitive_kind p) h, refl)

-- another name of a primitive type
pub primitive_alias : (label more : OwnName → Label) (types : List TypeDef) (old new : List Item) (r : Ref) (v : ValueType) (p : PrimitiveValueType) (i : ℕ)
    → Stands label types old r v → v ≡ values.Primitive p → more ≡ label → i ≡ length old → new ≡ old ++ type_item old (typed.primitive p) ∷ [] → KindStands more types new (kind.Alias r) i
primitive_alias label more types old new r v p i s e lab at grown =
    let tree : Some (of (plain (primitive_kind p)) none) ≡ Some (written label s.0) = ap (value_tree old) (sym e) ∙ s.2 in
    let is : a_type (of (plain (primitive_kind p)) none) ≡ a_type (written more s.0) = ap type_or_nothing tree ∙ ap (λ l. a_type (written l s.0)) (sym lab) in
    let value : is_value (written more s.0) ≡ true = ap is_value_item (sym is) ∙ plain_value p in
    (s.0, unfolds_alias r s.0 s.1, next_value old new i (type_item old (typed.primitive p)) (written more s.0) at grown is value)
  where
    is_value_item : Item → Bool
    is_value_item (a_type t) = is_value t
    is_value_item _ = false

    plain_value : (p : PrimitiveValueType) → is_value (of (plain (primitive_kind p)) none) ≡ true
    plain_value primitives.Bool = refl
    plain_value primitives.S8 = refl
    plain_value primitives.U8 = refl
    plain_value primitives.S16 = refl
    plain_value primitives.U16 = refl
    plain_value primitives.S32 = refl
    plain_value primitives.U32 = refl
    plain_value primitives.S64 = refl
    plain_value primitives.U64 = refl
    plain_value primitives.F32 = refl
    plain_value primitives.F64 = refl
    plain_value primitives.Char = refl
    plain_value primitives.String = refl

pub index_alias : (label : OwnName → Label) (types : List TypeDef) (space : List Item) (r : Ref) (v : ValueType) (i : ℕ) → Stands label types space r v → v ≡ Index i → KindStands label types space (kind.Alias r) i
index_alias label types space r v i s e = (s.0, unfolds_alias r s.0 s.1, ap (value_tree space) (sym e) ∙ s.2)

-- ---- names

pub unnamed_stands : (label : OwnName → Label) (types : List TypeDef) (space : List Item) (id i : ℕ) (d : TypeDef) → slice_get types id ≡ Some d → d.name ≡ None → KindStands label types space d.kind i → Stands label types space (Id id) (Index i)
unnamed_stands label types space id i d h bare s =
    let t : under_name d.owner d.name s.0 ≡ s.0 = ap (λ (n : Option (String Global)). under_name d.owner n s.0) bare in
    (s.0, subst (Unfolds types (Id id)) t (unfolds_type id d s.0 h s.1), s.2)

pub named_stands : (label more : OwnName → Label) (types : List TypeDef) (old new : List Item) (id body i : ℕ) (d : TypeDef) (x : String Global)
    → slice_get types id ≡ Some d → d.name ≡ Some x → more ≡ label → KindStands label types old d.kind body
    → i ≡ length old → new ≡ old ++ named_item (label (record { owner = d.owner; name = string_bytes x })) (item_at old body) ∷ []
    → Stands more types new (Id id) (Index i)
named_stands label more types old new id body i d x h has lab s at e =
    let o : OwnName = record { owner = d.owner; name = string_bytes x } in
    let r = value_inside old body (written label s.0) s.2 in
    let is : named_item (label o) (item_at old body) ≡ a_type (named (label o) (written label s.0)) = ap (named_item (label o)) r.0 in
    let t : under_name d.owner d.name s.0 ≡ named o s.0 = ap (λ (n : Option (String Global)). under_name d.owner n s.0) has in (
      named o s.0,
      subst (Unfolds types (Id id)) t (unfolds_type id d s.0 h s.1),
      next_value old new i (named_item (label o) (item_at old body)) (named (label o) (written label s.0)) at e is r.1 ∙ ap (λ l. Some (named (l o) (written l s.0))) (sym lab),
    )

-- ---- what loops have gathered

-- the names of what has a name
pub names_fused : {T X : Type 0} (value : T → X) (items : List (Named T)) → names_of (map (named_value value) items) ≡ map (λ (n : Named T). n.name.now) items
names_fused value [] = refl
names_fused value (n ∷ items) = ap (λ (ns : List (List ℕ)). n.name.now ∷ ns) (names_fused value items)

-- and what is behind the names
pub items_fused : {T X Y : Type 0} (value : T → X) (f : X → Y) (items : List (Named T)) → map (λ (x : NamedValue X). f x.item) (map (named_value value) items) ≡ map (λ (n : Named T). f (value n.item)) items
items_fused value f [] = refl
items_fused value f (n ∷ items) = ap (λ ys. f (value n.item) ∷ ys) (items_fused value f items)

pub there_fused : {T : Type 0} (items : List T) → map (λ (x : T). Some x) (map (λ (t : T). t) items) ≡ map (λ (t : T). Some t) items
there_fused [] = refl
there_fused (t ∷ items) = ap (λ (ys : List (Option _)). Some t ∷ ys) (there_fused items)

-- one more turn of a loop over what has names
pub labels_next : {T X Y : Type 0} (value : T → Y) (name : X → List ℕ) (xs : List X) (ys new : List (Named T)) (i : ℕ) (x : X) (y : Named T)
    → i < length xs → x ≡ get_or xs i x → new ≡ ys ++ y ∷ [] → names_of (map (named_value value) ys) ≡ map name (take i xs) → y.name.now ≡ name x
    → names_of (map (named_value value) new) ≡ map name (take (i + 1) xs)
labels_next {T} {X} value name xs ys new i x y lt here grown so_far is =
    let taken : map name (take (i + 1) xs) ≡ map name (take i xs) ++ name x ∷ [] =
    ap (map name) (take_more xs i x lt ∙ ap (λ (z : X). take i xs ++ z ∷ []) (sym here)) ∙ map-append name (take i xs) (x ∷ []) in
    names_fused value new ∙ ap (map (λ (n : Named T). n.name.now)) grown ∙ map-append (λ (n : Named T). n.name.now) ys (y ∷ [])
    ∙ ap (λ (ns : List (List ℕ)). ns ++ y.name.now ∷ []) (sym (names_fused value ys) ∙ so_far) ∙ ap (λ (n : List ℕ). map name (take i xs) ++ n ∷ []) is ∙ sym taken

same_option : {X : Type 0} (o : Option X) → option_map (λ (x : X). x) o ≡ o
same_option None = refl
same_option (Some x) = refl

-- what a case carries, as the bytes have it
pub case_stands : (label : OwnName → Label) (types : List TypeDef) (space : List Item) (r : Option Ref) (v : Option ValueType) → PartStands label types space r v → PartStands label types space r (option_map (λ (t : ValueType). t) v)
case_stands label types space r v h = subst (PartStands label types space r) (sym (same_option v)) h

-- ---- names that are given

-- the type has no name of its own here
pub named_elsewhere : (s : Setting) (types : List TypeDef) (given : ℕ → Type 0) (id : ℕ) (def : TypeDef) → slice_get types id ≡ Some def → s.is_own def.owner ≡ false → HasItsName s types given id
named_elsewhere s types given id def h away d x at is own =
    let same : def ≡ d = cc in
    let k : true ≡ false = sym own ∙ ap (λ (y : TypeDef). s.is_own y.owner) (sym same) ∙ away in
    absurd cc

named_push : (s : Setting) (types : List TypeDef) (P Q : ℕ → Type 0) (ids : List ℕ) (id : ℕ) → ((k : ℕ) → P k → Q k) → Each (HasItsName s types P) ids → HasItsName s types Q id → Each (HasItsName s types Q) (ids ++ id ∷ [])
named_push s types P Q [] id keeps h one = (one, tt)
named_push s types P Q (k ∷ ids) id keeps h one = (λ d x at is own. keeps k (h.0 d x at is own), named_push s types P Q ids id keeps h.1 one)

pub taken_next : {X : Type 0} (xs : List X) (i : ℕ) (x : X) → i < length xs → x ≡ get_or xs i x → take i xs ++ x ∷ [] ≡ take (i + 1) xs
taken_next {X} xs i x lt here = sym (take_more xs i x lt ∙ ap (λ (z : X). take i xs ++ z ∷ []) (sym here))

pub named_next : (s mid : Setting) (types : List TypeDef) (P Q : ℕ → Type 0) (ids : List ℕ) (i id : ℕ) → i < length ids → id ≡ get_or ids i id → mid ≡ s → ((k : ℕ) → P k → Q k)
    → Each (HasItsName s types P) (take i ids) → HasItsName mid types Q id → Each (HasItsName s types Q) (take (i + 1) ids)
named_next s mid types P Q ids i id lt here same keeps h one =
    subst (Each (HasItsName s types Q)) (taken_next ids i id lt here) (named_push s types P Q (take i ids) id keeps h (subst (λ l. HasItsName l types Q id) same one))

-- the names of these, and then that of one more
pub names_next : (s : Setting) (types : List TypeDef) (old mid new : List (List ℕ)) (ids : List ℕ) (i id : ℕ) → i < length ids → id ≡ get_or ids i id
    → mid ≡ old ++ names_of_types s types (take i ids) → new ≡ mid ++ name_of s (slice_get types id) → new ≡ old ++ names_of_types s types (take (i + 1) ids)
names_next s types old mid new ids i id lt here before one =
    let f : ℕ → List (List ℕ) = λ k. name_of s (slice_get types k) in
    let all : names_of_types s types (take i ids) ++ f id ≡ names_of_types s types (take (i + 1) ids) =
    sym (flat_map-append f (take i ids) (id ∷ []) ∙ ap (λ l. flat_map f (take i ids) ++ l) (append-nil (f id))) ∙ ap (flat_map f) (taken_next ids i id lt here) in
    one ∙ ap (λ l. l ++ f id) before ∙ append_assoc old (names_of_types s types (take i ids)) (f id) ∙ ap (λ l. old ++ l) all

-- a type without a name, or whose name is given elsewhere
pub no_name : (s : Setting) (types : List TypeDef) (id : ℕ) (d : TypeDef) (names : List (List ℕ)) → slice_get types id ≡ Some d → d.name ≡ None → names ≡ names ++ name_of s (slice_get types id)
no_name s types id d names at bare = sym (ap (λ x. names ++ name_of s x) at ∙ ap (λ l. names ++ l) (ap (name_given (s.is_own d.owner)) bare ∙ nobody (s.is_own d.owner)) ∙ append-nil names)
  where
    nobody : (b : Bool) → name_given b None ≡ []
    nobody true = refl
    nobody false = refl

pub no_own_name : (s : Setting) (types : List TypeDef) (id : ℕ) (d : TypeDef) (names : List (List ℕ)) → slice_get types id ≡ Some d → s.is_own d.owner ≡ false → names ≡ names ++ name_of s (slice_get types id)
no_own_name s types id d names at away = sym (ap (λ x. names ++ name_of s x) at ∙ ap (λ b. names ++ name_given b d.name) away ∙ append-nil names)

pub own_name : (s : Setting) (types : List TypeDef) (id : ℕ) (d : TypeDef) (x : String Global) (n : List ℕ) → slice_get types id ≡ Some d → d.name ≡ Some x → s.is_own d.owner ≡ true → n ≡ string_bytes x → n ∷ [] ≡ name_of s (slice_get types id)
own_name s types id d x n at is own same = ap (λ m. m ∷ []) same ∙ sym (ap (name_of s) at ∙ ap (λ b. name_given b d.name) own ∙ ap (name_given true) is)
