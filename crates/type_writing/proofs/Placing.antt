-- What is written may stand where it does: what stands for something is there, and labels are those of the types.
use Rattle.std.proofs.Common.{◌≡◌, ◌<◌, ℕ, zero, suc, List, [], ◌∷◌, length, Option, Some, None, refl, sym, ap, ◌∙◌, arith}
use Rattle.std.specs.Prelude.{slice_get}
use Rattle.std.specs.List.{AllByRecursion as Each}
use Rattle.distinct_names.specs.Names.{all_new}
use Rattle.type_meaning.specs.Passed.component_value_types-declared-values-PrimitiveValueType.{PrimitiveValueType}
use Rattle.type_meaning.specs.Passed.component_value_types-declared-values-ValueType.{ValueType}
use Rattle.type_meaning.specs.Passed.component_value_types-declared-values-ValueType-TheVariants as values
use Rattle.type_meaning.specs.Passed.component_value_types-Types.{DefinedTypeValue}
use Rattle.type_meaning.specs.Passed.component_value_types-Types as typed
use Rattle.wit_types.specs.declared.function.Param.{Param}
use Rattle.wit_types.specs.declared.kind.«Type».{«Type» as Ref}
use Rattle.wit_types.specs.declared.kind.TypeDefKind.{TypeDefKind}
use Rattle.wit_types.specs.declared.kind.TypeDefKind.TheVariants as kinds
use Rattle.wit_types.specs.declared.interface.TypeDef.{TypeDef}
use Rattle.type_meaning.specs.Tree.{Form}
use Rattle.type_meaning.specs.Words.{Label}
use Rattle.type_meaning.specs.Syntax.{syntax_of}
use Rattle.type_meaning.specs.Items.{Item, nothing, a_type, item_at}
use Rattle.type_writing.specs.Unfolding.{OwnName, FormOf, form_of}
use Rattle.type_writing.specs.Writing.{written, PartStands, PartsStand, IsDefinedAs, KindStands}
use Rattle.type_writing.specs.Functions.{function_form, IsFunctionOf}
use Rattle.type_writing.specs.Placing.{IsBelow, MayBeDefined, labels_of, HasLabelsApart, AreLabelsApart, AreParametersApart}
use Rattle.type_writing.proofs.Standing.{value_inside}

-- ---- what stands for something is there

pub item_below : (items : List Item) (i : ℕ) → (item_at items i ≡ nothing → ⊥) → i < length items
item_below [] i h = absurd (h refl)
item_below (x ∷ items) zero h = omega arith
item_below (x ∷ items) (suc i) h = let rest = item_below items i h in omega (arith, rest)

pub kind_below : (label : OwnName → Label) (types : List TypeDef) (space : List Item) (k : TypeDefKind) (i : ℕ) → KindStands label types space k i → i < length space
kind_below label types space k i s =
    let is = (value_inside space i (written label s.0) s.2).0 in
    item_below space i (λ none. let bad : nothing ≡ a_type (written label s.0) = sym none ∙ is in absurd cc)

part_below : (label : OwnName → Label) (types : List TypeDef) (space : List Item) (r : Option Ref) (v : Option ValueType) → PartStands label types space r v → IsBelow (length space) v
part_below label types space r None s = tt
part_below label types space r (Some (values.Primitive p)) s = tt
part_below label types space None (Some (values.Index i)) s = absurd s
part_below label types space (Some r) (Some (values.Index i)) s =
    let is = (value_inside space i (written label s.0) s.2).0 in
    item_below space i (λ none. let bad : nothing ≡ a_type (written label s.0) = sym none ∙ is in absurd cc)

parts_below : (label : OwnName → Label) (types : List TypeDef) (space : List Item) (rs : List (Option Ref)) (vs : List (Option ValueType)) → PartsStand label types space rs vs → Each (IsBelow (length space)) vs
parts_below label types space [] [] s = tt
parts_below label types space [] (v ∷ vs) s = absurd s
parts_below label types space (r ∷ rs) [] s = absurd s
parts_below label types space (r ∷ rs) (v ∷ vs) s = (part_below label types space r v s.0, parts_below label types space rs vs s.1)

-- ---- labels

abbrev form_labels : Option FormOf → List (List ℕ)
form_labels None = []
form_labels (Some f) = f.form.labels

labels_formed : (k : TypeDefKind) → labels_of k ≡ form_labels (form_of k)
labels_formed (kinds.Record r) = refl
labels_formed kinds.Resource = refl
labels_formed (kinds.Handle h) = refl
labels_formed (kinds.Flags f) = refl
labels_formed (kinds.Tuple t) = refl
labels_formed (kinds.Variant v) = refl
labels_formed (kinds.Enum e) = refl
labels_formed (kinds.Option r) = refl
labels_formed (kinds.Result r) = refl
labels_formed (kinds.List r) = refl
labels_formed (kinds.FixedLengthList r n) = refl
labels_formed (kinds.Future r) = refl
labels_formed (kinds.Stream r) = refl
labels_formed (kinds.Alias r) = refl
labels_formed kinds.Unknown = refl

-- ---- what may be defined

pub primitive_placed : (n : ℕ) (p : PrimitiveValueType) → MayBeDefined n (typed.primitive p)
primitive_placed n p = record { parts = tt; labels = refl }

pub defined_placed : (label : OwnName → Label) (types : List TypeDef) (space : List Item) (k : TypeDefKind) (d : DefinedTypeValue) → IsDefinedAs label types space k d → HasLabelsApart k → MayBeDefined (length space) d
defined_placed label types space k d h apart = record {
  parts = parts_below label types space h.form.parts (syntax_of d).parts h.parts;
  labels = ap (λ (f : Form). all_new [] f.labels) h.same ∙ ap (λ o. all_new [] (form_labels o)) (sym h.is) ∙ ap (all_new []) (sym (labels_formed k)) ∙ apart;
}

pub function_placed : (label : OwnName → Label) (types : List TypeDef) (space : List Item) (params : List Param) (result : Option Ref) (d : DefinedTypeValue) → IsFunctionOf label types space params result d → AreParametersApart params → MayBeDefined (length space) d
function_placed label types space params result d h apart = record {
  parts = parts_below label types space (function_form params result).parts (syntax_of d).parts h.parts;
  labels = ap (λ (f : Form). all_new [] f.labels) h.same ∙ apart;
}

pub labels_at : (types : List TypeDef) (id : ℕ) (d : TypeDef) → AreLabelsApart types → slice_get types id ≡ Some d → HasLabelsApart d.kind
labels_at [] id d h at = absurd cc
labels_at (t ∷ types) zero d h at = let same : t ≡ d = cc in ap (λ (x : TypeDef). all_new [] (labels_of x.kind)) (sym same) ∙ h.0
labels_at (t ∷ types) (suc id) d h at = labels_at types id d h.1 at
