-- Types of functions that are written one after the other.
use Rattle.std.proofs.Common.{◌≡◌, ◌<◌, ◌+◌, ℕ, zero, suc, Bool, true, if◌then◌else◌, List, [], ◌∷◌, ◌++◌, length, take, get_or, Option, Some, None, inl, inr, refl, sym, ap, subst, ◌∙◌, arith}
use Rattle.std.proofs.lemmas.Bool.{cases_Bool}
use Rattle.std.specs.Prelude.{slice_get}
use Rattle.std.specs.Borrow.{Bor}
use Rattle.wit_order.specs.Order.{Has}
use Rattle.wit_types.specs.declared.kind.«Type».{«Type» as Ref}
use Rattle.wit_types.specs.declared.function.Param.{Param}
use Rattle.wit_types.specs.declared.function.Function.{Function}
use Rattle.wit_types.specs.declared.interface.TypeDef.{TypeDef}
use Rattle.type_sinks.specs.Passed.type_meaning-Words.{Label, BinaryTree}
use Rattle.type_sinks.specs.Passed.type_meaning-Items.{Item, or_nothing, nothing, a_type, a_function, an_instance_type, an_instance, type_if, type_at, is_function}
use Rattle.type_sinks.specs.Passed.type_writing-Functions.{FunctionStands}
use Rattle.type_sinks.specs.Passed.type_writing-Unfolding.{OwnName}
use Rattle.type_sinks.specs.Passed.type_writing-Writing.{Begins, Setting, written}
use Rattle.type_sinks.proofs.Passed.type_writing-Standing.{get_begin, begins_on, begins_same}
use Rattle.type_sinks.specs.declared.root.Root.{Root}
use Rattle.type_sinks.specs.Root.{root_label}
use Rattle.type_sinks.specs.Views.{root_scope, root_names, interface_names, root_setting, RootIsGood}
use Rattle.component_imports.specs.Functions.{functions_of}
use Rattle.component_imports.specs.World.{AreTypesOf, AreTypesWritten}
use Rattle.component_imports.proofs.Exported.{functions_next}

-- ---- types of functions stay

type_there : (x : Option Item) (t : BinaryTree) → type_if is_function (or_nothing x) ≡ Some t → (x ≡ Some (a_type t)) × (is_function t ≡ true)
type_there None t h = absurd cc
type_there (Some nothing) t h = absurd cc
type_there (Some (a_function o u)) t h = absurd cc
type_there (Some (an_instance_type is)) t h = absurd cc
type_there (Some (an_instance s is)) t h = absurd cc
type_there (Some (a_type u)) t h = elim (cases_Bool (is_function u)) [
  | inl e ↦ let k : Some u ≡ Some t = rw e at h in let same : u ≡ t = cc in (ap (λ v. Some (a_type v)) same, sym (ap is_function same) ∙ e)
  | inr e ↦ let k : None ≡ Some t = rw e at h in absurd cc
]

type_keeps : (xs ys : List Item) (i : ℕ) (t : BinaryTree) → Begins xs ys → type_at is_function xs i ≡ Some t → type_at is_function ys i ≡ Some t
type_keeps xs ys i t b h =
    let r = type_there (slice_get xs i) t h in
    ap (λ x. type_if is_function (or_nothing x)) (ap (λ l. slice_get l i) b.1 ∙ get_begin xs b.0 i (a_type t) r.0) ∙ ap (λ (c : Bool). if c then Some t else None) r.1

stands_on : (label more : OwnName → Label) (types : List TypeDef) (xs ys : List Item) (params : List Param) (result : Option Ref) (i : ℕ) → more ≡ label → Begins xs ys → FunctionStands label types xs params result i → FunctionStands more types ys params result i
stands_on label more types xs ys params result i e b s = (s.0, s.1, type_keeps xs ys i (written more s.0) b (s.2 ∙ ap (λ l. Some (written l s.0)) (sym e)))

types_stay : (old new : Root) (types : List TypeDef) (fs : List Function) (is : List ℕ) → interface_names new ≡ interface_names old → Begins (root_scope old).types (root_scope new).types → AreTypesOf old types fs is → AreTypesOf new types fs is
types_stay old new types [] [] names b h = tt
types_stay old new types [] (i ∷ is) names b h = absurd h
types_stay old new types (f ∷ fs) [] names b h = absurd h
types_stay old new types (f ∷ fs) (i ∷ is) names b h = (
  stands_on (root_label (interface_names old)) (root_label (interface_names new)) types (root_scope old).types (root_scope new).types f.params.items f.result i (ap root_label names) b h.0,
  types_stay old new types fs is names b h.1,
)

-- ---- one more

types_push : (r : Root) (types : List TypeDef) (fs : List Function) (is : List ℕ) (f : Function) (i : ℕ) → AreTypesOf r types fs is → FunctionStands (root_label (interface_names r)) types (root_scope r).types f.params.items f.result i → AreTypesOf r types (fs ++ f ∷ []) (is ++ i ∷ [])
types_push r types [] [] f i h one = (one, tt)
types_push r types [] (k ∷ is) f i h one = absurd h
types_push r types (g ∷ fs) [] f i h one = absurd h
types_push r types (g ∷ fs) (k ∷ is) f i h one = (h.0, types_push r types fs is f i h.1 one)

pub none_written : (r : Root) (types : List TypeDef) (is : List ℕ) → is ≡ [] → RootIsGood r types → AreTypesWritten r r types [] is
none_written r types is none good = record {
  interfaces = refl;
  homes = refl;
  names = refl;
  types_stay = begins_same (root_scope r).types (root_scope r).types refl;
  functions_stay = refl;
  instances_stay = refl;
  good = good;
  are = subst (AreTypesOf r types []) (sym none) tt;
}

module _ (start old new : Root) (types : List TypeDef) (setting : root_setting new ≡ root_setting old) (begins : Begins (root_scope old).types (root_scope new).types) (named : root_names new ≡ root_names old) (good : RootIsGood new types) where
  pub written_next : (fs : List (Bor Function)) (n : ℕ) (f : Bor Function) (is more : List ℕ) (i : ℕ) → n < length fs → f ≡ get_or fs n f → more ≡ is ++ i ∷ []
      → FunctionStands (root_label (interface_names new)) types (root_scope new).types f.now.params.items f.now.result i
      → AreTypesWritten start old types (functions_of (take n fs)) is → AreTypesWritten start new types (functions_of (take (n + 1) fs)) more
  written_next fs n f is more i lt here grown one h =
      let interfaces : interface_names new ≡ interface_names old = ap (λ (s : Setting). s.around.interfaces) setting in
      record {
        interfaces = interfaces ∙ h.interfaces;
        homes = ap (λ (s : Setting). s.homes) setting ∙ h.homes;
        names = named ∙ h.names;
        types_stay = begins_on (root_scope start).types (root_scope old).types (root_scope new).types h.types_stay begins;
        functions_stay = ap (λ (s : Setting). s.around.functions) setting ∙ h.functions_stay;
        instances_stay = ap (λ (s : Setting). s.around.instances) setting ∙ h.instances_stay;
        good = good;
        are = subst (AreTypesOf new types (functions_of (take (n + 1) fs))) (sym grown)
            (subst (λ l. AreTypesOf new types l (is ++ i ∷ [])) (functions_next fs n f lt here)
            (types_push new types (functions_of (take n fs)) is f.now i (types_stay old new types (functions_of (take n fs)) is interfaces begins h.are) one));
      }

pub function_among : (fs : List (Bor Function)) (n : ℕ) (f : Bor Function) → n < length fs → f ≡ get_or fs n f → Has (functions_of fs) f.now
function_among [] n f lt at = absurd (omega (arith, lt))
function_among (g ∷ fs) zero f lt at = inl (ap (λ (x : Bor Function). x.now) at)
function_among (g ∷ fs) (suc n) f lt at = inr (function_among fs n f (omega (arith, lt)) at)
