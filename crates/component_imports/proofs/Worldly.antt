-- Functions of a world that are imported, one after the other.
use Rattle.std.proofs.Common.{◌≡◌, ◌<◌, ◌+◌, ℕ, suc, List, [], ◌∷◌, ◌++◌, length, take, get_or, Option, Some, None, refl, sym, ap, subst, ◌∙◌, arith}
use Rattle.std.specs.Prelude.{slice_get, string_bytes}
use Rattle.std.specs.Borrow.{Bor}
use Rattle.std.proofs.lemmas.List.{length-take-le}
use Rattle.wit_types.specs.declared.kind.«Type».{«Type» as Ref}
use Rattle.wit_types.specs.declared.function.Param.{Param}
use Rattle.wit_types.specs.declared.function.Function.{Function}
use Rattle.wit_types.specs.declared.interface.TypeDef.{TypeDef}
use Rattle.type_sinks.specs.Passed.type_meaning-Words.{Label, BinaryTree}
use Rattle.type_sinks.specs.Passed.type_meaning-Items.{Item, Origin, or_nothing, from_import, a_function}
use Rattle.type_sinks.specs.Passed.type_meaning-Scope.{import_label}
use Rattle.type_sinks.specs.Passed.type_writing-Writing.{Begins, written}
use Rattle.type_sinks.proofs.Passed.type_writing-Standing.{get_begin}
use Rattle.type_sinks.specs.declared.root.Root.{Root}
use Rattle.type_sinks.specs.Root.{root_label}
use Rattle.type_sinks.specs.Views.{root_scope, interface_names, IsFunctionAt}
use Rattle.component_imports.specs.Functions.{functions_of}
use Rattle.component_imports.specs.World.{AreFunctionsAt}
use Rattle.component_imports.proofs.Exported.{functions_next}

there : (x : Option Item) (o : Origin) (t : BinaryTree) → or_nothing x ≡ a_function o t → x ≡ Some (a_function o t)
there None o t h = absurd cc
there (Some x) o t h = ap (λ (i : Item). Some i) h

function_at_stays : (old new : Root) (i : ℕ) (label : Label) (types : List TypeDef) (params : List Param) (result : Option Ref) → interface_names new ≡ interface_names old → Begins (root_scope old).functions (root_scope new).functions
    → IsFunctionAt old i label types params result → IsFunctionAt new i label types params result
function_at_stays old new i label types params result names b h =
    let o = from_import label in
    let t = written (root_label (interface_names old)) h.tree in
    record {
      tree = h.tree;
      unfolds = h.unfolds;
      is = ap or_nothing (ap (λ l. slice_get l i) b.1 ∙ get_begin (root_scope old).functions b.0 i (a_function o t) (there (slice_get (root_scope old).functions i) o t h.is)) ∙ ap (λ m. a_function o (written (root_label m) h.tree)) (sym names);
    }

pub functions_at_stay : (old new : Root) (i : ℕ) (types : List TypeDef) (fs : List Function) → interface_names new ≡ interface_names old → Begins (root_scope old).functions (root_scope new).functions → AreFunctionsAt old i types fs → AreFunctionsAt new i types fs
functions_at_stay old new i types [] names b h = tt
functions_at_stay old new i types (f ∷ fs) names b h = (function_at_stays old new i (import_label (string_bytes f.name)) types f.params.items f.result names b h.0, functions_at_stay old new (i + 1) types fs names b h.1)

at_push : (r : Root) (start i : ℕ) (types : List TypeDef) (fs : List Function) (f : Function) → i ≡ start + length fs → AreFunctionsAt r start types fs → IsFunctionAt r i (import_label (string_bytes f.name)) types f.params.items f.result → AreFunctionsAt r start types (fs ++ f ∷ [])
at_push r start i types [] f e h one = (let at : i ≡ start = omega (arith, e) in subst (λ k. IsFunctionAt r k (import_label (string_bytes f.name)) types f.params.items f.result) at one, tt)
at_push r start i types (g ∷ fs) f e h one = (h.0, at_push r (start + 1) i types fs f (omega (arith, e)) h.1 one)

functions_count : (fs : List (Bor Function)) → length (functions_of fs) ≡ length fs
functions_count [] = refl
functions_count (f ∷ fs) = ap suc (functions_count fs)

pub at_next : (r : Root) (start i n : ℕ) (types : List TypeDef) (fs : List (Bor Function)) (f : Bor Function) → n < length fs → f ≡ get_or fs n f → i ≡ start + n
    → AreFunctionsAt r start types (functions_of (take n fs)) → IsFunctionAt r i (import_label (string_bytes f.now.name)) types f.now.params.items f.now.result → AreFunctionsAt r start types (functions_of (take (n + 1) fs))
at_next r start i n types fs f lt here at h one =
    let taken = length-take-le n fs (omega (arith, lt)) in
    let count = functions_count (take n fs) in
    subst (AreFunctionsAt r start types) (functions_next fs n f lt here) (at_push r start i types (functions_of (take n fs)) f.now (omega (arith, at, taken, count)) h one)
